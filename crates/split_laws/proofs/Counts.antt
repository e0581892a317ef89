-- There are as many lowers as uppers of one degree more.
use Rattle.std.proofs.Common.{◌≡◌, ℕ, suc, ◌+◌, ◌<◌, ◌≤◌, List, [], ◌∷◌, length, map, replicate, refl, ap, sym, ◌∙◌, subst, arith}
use Rattle.std.specs.List.{AllByRecursion}
use Rattle.std.proofs.lemmas.List.{length-map}
use native.Mathlib.Decide.{dec_lt}
use Prim.{yes, no}
use Rattle.small_field.specs.Field.{Ops, IsField}
use Rattle.linear_laws.specs.Marks.{identity}
use Rattle.linear_laws.specs.Vectors.{boundary, IsVector, IsMatrix, IsDependent, combination, plus_scaled}
use Rattle.linear_laws.proofs.CallerLemmas.{identity_matrix, length-identity, combination-identity, combination-vector, combination-plus, combination-zeros, dot_below, more_are_dependent, no_nonzero, zeros_of_dots}
use Rattle.split_laws.specs.Kinds.{Kind, Critical, Lower, Upper, criticals, lowers, uppers, part, spread, ZeroOnLowers, ZeroOffLowers, ZeroOffUppers, AgreeOnLowers, AgreeOnUppers}
use Rattle.split_laws.specs.Split.{IsSplit}
use Rattle.split_laws.specs.Laws.{CellsAreCounted}
use Rattle.split_laws.proofs.Parts.{part-zeros, none_low-zeros, part-vector, part-combination, none_low_less, spread_long, spread_elements, spread_own}
use Rattle.split_laws.proofs.Flows.{boundary-zeros, boundary-plus}

-- ---- kinds of which one stands for all that are meant, and Lower for the others

abbrev only_lowers : List Kind → List Kind
only_lowers [] = []
only_lowers (Critical ∷ ts) = Lower ∷ only_lowers ts
only_lowers (Lower ∷ ts) = Critical ∷ only_lowers ts
only_lowers (Upper ∷ ts) = Lower ∷ only_lowers ts

abbrev only_uppers : List Kind → List Kind
only_uppers [] = []
only_uppers (Critical ∷ ts) = Lower ∷ only_uppers ts
only_uppers (Lower ∷ ts) = Lower ∷ only_uppers ts
only_uppers (Upper ∷ ts) = Critical ∷ only_uppers ts

lowers_long : (ts : List Kind) → length (only_lowers ts) ≡ length ts
lowers_long [] = refl
lowers_long (Critical ∷ ts) = ap suc (lowers_long ts)
lowers_long (Lower ∷ ts) = ap suc (lowers_long ts)
lowers_long (Upper ∷ ts) = ap suc (lowers_long ts)

uppers_long : (ts : List Kind) → length (only_uppers ts) ≡ length ts
uppers_long [] = refl
uppers_long (Critical ∷ ts) = ap suc (uppers_long ts)
uppers_long (Lower ∷ ts) = ap suc (uppers_long ts)
uppers_long (Upper ∷ ts) = ap suc (uppers_long ts)

lowers_many : (ts : List Kind) → criticals (only_lowers ts) ≡ lowers ts
lowers_many [] = refl
lowers_many (Critical ∷ ts) = lowers_many ts
lowers_many (Lower ∷ ts) = ap suc (lowers_many ts)
lowers_many (Upper ∷ ts) = lowers_many ts

uppers_many : (ts : List Kind) → criticals (only_uppers ts) ≡ uppers ts
uppers_many [] = refl
uppers_many (Critical ∷ ts) = uppers_many ts
uppers_many (Lower ∷ ts) = uppers_many ts
uppers_many (Upper ∷ ts) = ap suc (uppers_many ts)

lowers_off : (ts : List Kind) (xs : List ℕ) → ZeroOffLowers ts xs → ZeroOnLowers (only_lowers ts) xs
lowers_off [] xs h = h
lowers_off (t ∷ ts) [] h = absurd h
lowers_off (Critical ∷ ts) (x ∷ xs) h = (h.0, lowers_off ts xs h.1)
lowers_off (Lower ∷ ts) (x ∷ xs) h = lowers_off ts xs h
lowers_off (Upper ∷ ts) (x ∷ xs) h = (h.0, lowers_off ts xs h.1)

uppers_off : (ts : List Kind) (xs : List ℕ) → ZeroOffUppers ts xs → ZeroOnLowers (only_uppers ts) xs
uppers_off [] xs h = h
uppers_off (t ∷ ts) [] h = absurd h
uppers_off (Critical ∷ ts) (x ∷ xs) h = (h.0, uppers_off ts xs h.1)
uppers_off (Lower ∷ ts) (x ∷ xs) h = (h.0, uppers_off ts xs h.1)
uppers_off (Upper ∷ ts) (x ∷ xs) h = uppers_off ts xs h

lowers_agree : (ts : List Kind) (xs ys : List ℕ) → AgreeOnLowers ts xs ys → part (only_lowers ts) xs ≡ part (only_lowers ts) ys
lowers_agree [] xs ys h = refl
lowers_agree (t ∷ ts) [] ys h = absurd h
lowers_agree (t ∷ ts) (x ∷ xs) [] h = absurd h
lowers_agree (Critical ∷ ts) (x ∷ xs) (y ∷ ys) h = lowers_agree ts xs ys h
lowers_agree (Lower ∷ ts) (x ∷ xs) (y ∷ ys) h = ap (λ (n : ℕ). n ∷ part (only_lowers ts) xs) h.0 ∙ ap (λ (r : List ℕ). y ∷ r) (lowers_agree ts xs ys h.1)
lowers_agree (Upper ∷ ts) (x ∷ xs) (y ∷ ys) h = lowers_agree ts xs ys h

uppers_agree : (ts : List Kind) (xs ys : List ℕ) → AgreeOnUppers ts xs ys → part (only_uppers ts) xs ≡ part (only_uppers ts) ys
uppers_agree [] xs ys h = refl
uppers_agree (t ∷ ts) [] ys h = absurd h
uppers_agree (t ∷ ts) (x ∷ xs) [] h = absurd h
uppers_agree (Critical ∷ ts) (x ∷ xs) (y ∷ ys) h = uppers_agree ts xs ys h
uppers_agree (Lower ∷ ts) (x ∷ xs) (y ∷ ys) h = uppers_agree ts xs ys h
uppers_agree (Upper ∷ ts) (x ∷ xs) (y ∷ ys) h = ap (λ (n : ℕ). n ∷ part (only_uppers ts) xs) h.0 ∙ ap (λ (r : List ℕ). y ∷ r) (uppers_agree ts xs ys h.1)

counted : (ts : List Kind) → criticals ts + lowers ts + uppers ts ≡ length ts
counted [] = refl
counted (Critical ∷ ts) = let e : criticals ts + lowers ts + uppers ts ≡ length ts = counted ts in omega arith
counted (Lower ∷ ts) = let e : criticals ts + lowers ts + uppers ts ≡ length ts = counted ts in omega arith
counted (Upper ∷ ts) = let e : criticals ts + lowers ts + uppers ts ≡ length ts = counted ts in omega arith

-- kinds with no upper
pub data Chosen : List Kind → Type 0 where
  done : Chosen []
  meant : (ts : List Kind) → Chosen ts → Chosen (Critical ∷ ts)
  other : (ts : List Kind) → Chosen ts → Chosen (Lower ∷ ts)

lowers_chosen : (ts : List Kind) → Chosen (only_lowers ts)
lowers_chosen [] = done
lowers_chosen (Critical ∷ ts) = other (only_lowers ts) (lowers_chosen ts)
lowers_chosen (Lower ∷ ts) = meant (only_lowers ts) (lowers_chosen ts)
lowers_chosen (Upper ∷ ts) = other (only_lowers ts) (lowers_chosen ts)

uppers_chosen : (ts : List Kind) → Chosen (only_uppers ts)
uppers_chosen [] = done
uppers_chosen (Critical ∷ ts) = other (only_uppers ts) (uppers_chosen ts)
uppers_chosen (Lower ∷ ts) = other (only_uppers ts) (uppers_chosen ts)
uppers_chosen (Upper ∷ ts) = meant (only_uppers ts) (uppers_chosen ts)

abbrev first_of : List ℕ → ℕ
first_of [] = 0
first_of (x ∷ xs) = x

abbrev rest_of : List ℕ → List ℕ
rest_of [] = []
rest_of (x ∷ xs) = xs

-- what is zero on those that are meant and on the others is zero
all_zero : (ts : List Kind) (xs : List ℕ) → Chosen ts → ZeroOnLowers ts xs → part ts xs ≡ replicate (criticals ts) 0 → xs ≡ replicate (length ts) 0
all_zero [] xs h z e = z
all_zero (t ∷ ts) [] h z e = absurd z
all_zero (Critical ∷ ts) (x ∷ xs) (meant us h) z e = ap (λ (n : ℕ). n ∷ xs) (ap first_of e) ∙ ap (λ (r : List ℕ). 0 ∷ r) (all_zero ts xs h z (ap rest_of e))
all_zero (Upper ∷ ts) (x ∷ xs) h z e = elim h [ ]
all_zero (Lower ∷ ts) (x ∷ xs) (other us h) z e = ap (λ (n : ℕ). n ∷ xs) z.0 ∙ ap (λ (r : List ℕ). 0 ∷ r) (all_zero ts xs h z.1 e)

mapped_twice : (B : List Kind) (g : List ℕ → List ℕ) (xs : List (List ℕ)) → map (part B) (map g xs) ≡ map (λ x. part B (g x)) xs
mapped_twice B g [] = refl
mapped_twice B g (x ∷ xs) = ap (λ (zs : List (List ℕ)). part B (g x) ∷ zs) (mapped_twice B g xs)

module _ (k : Ops) (f : IsField k) where
  -- a linear map from vectors that are zero off what is meant, which takes all values on what is meant
  record Takes (n m : ℕ) (A B : List Kind) (g : List ℕ → List ℕ) : Type 0 where
    vector : (x : List ℕ) → IsVector k n x → IsVector k m (g x)
    zeros : g (replicate n 0) ≡ replicate m 0
    plus : (c : ℕ) (x y : List ℕ) → IsVector k n x → IsVector k n y → g (plus_scaled k c x y) ≡ plus_scaled k c (g x) (g y)
    takes : (t : List ℕ) → IsVector k m t → (y : List ℕ) × IsVector k n y × ZeroOnLowers A y × (part B (g y) ≡ part B t)

  module _ (n m : ℕ) (A B : List Kind) (g : List ℕ → List ℕ) (la : length A ≡ n) (lb : length B ≡ m) (h : Takes n m A B g) where
    record Taken (ws : List (List ℕ)) : Type 0 where
      ys : List (List ℕ)
      matrix : IsMatrix k n ys
      off : AllByRecursion (ZeroOnLowers A) ys
      are : map (λ y. part B (g y)) ys ≡ ws

    taken : (ws : List (List ℕ)) → IsMatrix k (criticals B) ws → Taken ws
    taken [] a = record { ys = []; matrix = tt; off = tt; are = refl }
    taken (w ∷ ws) a =
        let rest : Taken ws = taken ws a.1 in
        let t : List ℕ = spread B w in
        let y = h.takes t (record { long = spread_long B w ∙ lb; elements = spread_elements k f B w a.0.elements }) in
        record {
          ys = y.0 ∷ rest.ys;
          matrix = (y.1, rest.matrix);
          off = (y.2, rest.off);
          are = ap (λ (v : List ℕ). v ∷ map (λ x. part B (g x)) rest.ys) (y.3 ∙ spread_own B w a.0.long) ∙ ap (λ (vs : List (List ℕ)). w ∷ vs) rest.are;
        }

    off_combination : (cs : List ℕ) (ys : List (List ℕ)) → AllByRecursion (ZeroOnLowers A) ys → ZeroOnLowers A (combination k n cs ys)
    off_combination [] ys z = none_low-zeros A n la
    off_combination (c ∷ cs) [] z = none_low-zeros A n la
    off_combination (c ∷ cs) (y ∷ ys) z = none_low_less k f A c (combination k n cs ys) y (off_combination cs ys z.1) z.0

    mapped_combination : (cs : List ℕ) (ys : List (List ℕ)) → IsMatrix k n ys → g (combination k n cs ys) ≡ combination k m cs (map g ys)
    mapped_combination [] ys a = h.zeros
    mapped_combination (c ∷ cs) [] a = h.zeros
    mapped_combination (c ∷ cs) (y ∷ ys) a =
        h.plus c (combination k n cs ys) y (combination-vector k f n cs ys a.1) a.0 ∙ ap (λ (r : List ℕ). plus_scaled k c r (g y)) (mapped_combination cs ys a.1)

    parts_matrix : (ys : List (List ℕ)) → IsMatrix k n ys → IsMatrix k (criticals A) (map (part A) ys)
    parts_matrix [] a = tt
    parts_matrix (y ∷ ys) a = (part-vector k f A n y la a.0, parts_matrix ys a.1)

    images_matrix : (ys : List (List ℕ)) → IsMatrix k n ys → IsMatrix k m (map g ys)
    images_matrix [] a = tt
    images_matrix (y ∷ ys) a = (h.vector y a.0, images_matrix ys a.1)

    no_more_taken : Chosen A → criticals B ≤ criticals A
    no_more_taken chosen =
        elim (dec_lt (criticals A) (criticals B)) [
          | yes lt ↦
              let p : ℕ = criticals A in
              let q : ℕ = criticals B in
              let e : Taken (identity q) = taken (identity q) (identity_matrix k f q) in
              let many : length (map (part A) e.ys) ≡ q = length-map e.ys (part A) ∙ (sym (length-map e.ys (λ y. part B (g y))) ∙ (ap (λ (ws : List (List ℕ)). length ws) e.are ∙ length-identity q)) in
              let a : IsMatrix k p (map (part A) e.ys) = parts_matrix e.ys e.matrix in
              let d : IsDependent k p (map (part A) e.ys) = more_are_dependent k f p (map (part A) e.ys) a (subst (λ (j : ℕ). p < j) (sym many) lt) in
              let cs : List ℕ = d.coefficients in
              let vc : IsVector k q cs = subst (λ (j : ℕ). IsVector k j cs) many d.vector in
              let Y : List ℕ = combination k n cs e.ys in
              let own : part A Y ≡ replicate p 0 = part-combination k f A n cs e.ys la e.matrix ∙ zeros_of_dots k f p cs (map (part A) e.ys) a d.zero in
              let none : Y ≡ replicate n 0 = all_zero A Y chosen (off_combination cs e.ys e.off) own ∙ ap (λ (j : ℕ). replicate {A = ℕ} j 0) la in
              let image : combination k m cs (map g e.ys) ≡ replicate m 0 = sym (mapped_combination cs e.ys e.matrix) ∙ (ap g none ∙ h.zeros) in
              let is : cs ≡ replicate q 0 =
              sym (combination-identity k f q cs vc) ∙ (ap (combination k q cs) (sym (mapped_twice B g e.ys ∙ e.are))
              ∙ (sym (part-combination k f B m cs (map g e.ys) lb (images_matrix e.ys e.matrix)) ∙ (ap (part B) image ∙ part-zeros B m lb))) in
              absurd (no_nonzero k f q cs is d.nonzero)
          | no ge ↦ omega arith
        ]

  boundary_elements : (m : ℕ) (rows : List (List ℕ)) (z : List ℕ) → IsVector k (length rows) (boundary k rows z)
  boundary_elements m [] z = record { long = refl; elements = tt }
  boundary_elements m (r ∷ rows) z = let v = boundary_elements m rows z in record { long = ap suc v.long; elements = (dot_below k f r z, v.elements) }

  paired : (n m : ℕ) (rows : List (List ℕ)) (ts us : List Kind) → IsSplit k n m rows ts us → lowers ts ≡ uppers us
  paired n m rows ts us s =
      let A : List Kind = only_lowers ts in
      let B : List Kind = only_uppers us in
      let la : length A ≡ n = lowers_long ts ∙ s.below in
      let lb : length B ≡ m = uppers_long us ∙ s.above in
      let up : Takes n m A B (λ y. combination k m y rows) = record {
        vector = λ x v. combination-vector k f m x rows s.matrix;
        zeros = combination-zeros k f m n rows s.matrix;
        plus = λ c x y v w. sym (combination-plus k f m c x y rows s.matrix (v.long ∙ sym s.long) (w.long ∙ sym s.long));
        takes = λ t v. let y = s.settles t v in (y.0, y.1, lowers_off ts y.0 y.2, uppers_agree us (combination k m y.0 rows) t y.3);
      } in
      let down : Takes m n B A (boundary k rows) = record {
        vector = λ x v. subst (λ (j : ℕ). IsVector k j (boundary k rows x)) s.long (boundary_elements m rows x);
        zeros = boundary-zeros k f m rows ∙ ap (λ (j : ℕ). replicate {A = ℕ} j 0) s.long;
        plus = λ c x y v w. boundary-plus k f m c rows x y s.matrix v w;
        takes = λ t v. let z = s.carries t v in (z.0, z.1, uppers_off us z.0 z.2, lowers_agree ts (boundary k rows z.0) t z.3);
      } in
      let one : criticals B ≤ criticals A = no_more_taken n m A B (λ y. combination k m y rows) la lb up (lowers_chosen ts) in
      let other : criticals A ≤ criticals B = no_more_taken m n B A (boundary k rows) lb la down (uppers_chosen us) in
      omega (arith, one, other, lowers_many ts, uppers_many us)

  pub cells_are_counted : CellsAreCounted k
  cells_are_counted = record { kinds = counted; pairs = paired }
