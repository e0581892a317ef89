-- A row of zeros becomes the coboundary of a cochain, cell by cell of those that were found, and the rows that are not zero are kept.
use Rattle.std.proofs.Common.{◌≡◌, ◌≢◌, inl, inr, ℕ, zero, suc, ◌+◌, ◌<◌, ◌≤◌, List, [], ◌∷◌, ◌++◌, Bool, true, false, ◌||◌, eqb, length, length-append, length-set, replicate, take, get_or, set, get_or-set_same, get_or-set_other, refl, ap, sym, ◌∙◌, arith, subst}
use Rattle.std.proofs.Math.Bool.{or-false}
use Rattle.std.proofs.Math.Seq.{get_or-append_seam}
use Rattle.std.proofs.lemmas.Bool.{cases_eq, cases_Bool, false≢true, eq-eqb, ne_eqb, or_right}
use Rattle.std.proofs.lemmas.Grind.{same_number_lists}
use Rattle.std.proofs.lemmas.List.{take_all, get_or_append_left, ext_get_or}
use Rattle.std.proofs.lemmas.Simd.{length-replicate, get_or-replicate}
use Rattle.small_field.specs.Field.{Ops, IsField}
use Rattle.linear_laws.specs.Marks.{mark}
use Rattle.linear_laws.specs.Vectors.{dot, column, combination, row_at, IsMatrix, IsVector}
use Rattle.linear_laws.specs.Echelon.{is_nonzero}
use Rattle.linear_laws.specs.ZeroRows.{nonzero_rows, nonzero_places, places_from}
use Rattle.linear_laws.proofs.CallerLemmas.{all_at, combination-vector, mark_vector, nonzero_at, zeros_are_none, nonzero_last, zeros_last, nonzero_few}
use Rattle.face_poset.specs.Words.{holds}
use Rattle.number_lists.proofs.CallerLemmas.{holds_more, In-holds}
use Rattle.split_laws.specs.declared.kind.Kind.{Kind}
use Rattle.split_laws.specs.declared.kind.Kind.TheVariants.{Critical}
use Rattle.split_laws.specs.Kinds.{criticals, part, spread}
use Rattle.split_laws.specs.Pairs.{kind_at, settle}
use Rattle.split_laws.specs.Solutions.{IsReducedBy}
use Rattle.split_laws.proofs.CallerLemmas.{part-vector}
use Rattle.pair_stages.specs.Stages.{Stage, IsPaired, place_of}
use Rattle.pair_stages.specs.Filled.{Filled, IsFilledBy}
use Rattle.pair_stages.specs.Blanks.{IsRowOf, IsFilledTo, IsZeroOff}
use Rattle.pair_stages.specs.Reaches.{HasColumns, IsFound}
use Rattle.pair_stages.proofs.KindLemmas.{is_critical}
use Rattle.pair_stages.proofs.Placed.{place_below}
use Rattle.pair_stages.proofs.Indexed.{place_kind, place_one}
use Rattle.pair_stages.proofs.Filling.{value_is, target_long, rows_final, extension_is}

seen_here : (found : List ℕ) (i n : ℕ) → i < length found → get_or found i 0 ≡ n → holds (take (i + 1) found) n ≡ true
seen_here found i n l e = holds_more found i n l ∙ or_right (holds (take i found) n) (eqb (get_or found i 0) n) (eq-eqb (get_or found i 0) n e)

seen_other : (found : List ℕ) (i n : ℕ) → i < length found → get_or found i 0 ≢ n → holds (take (i + 1) found) n ≡ holds (take i found) n
seen_other found i n l ne = holds_more found i n l ∙ (ap (λ b. holds (take i found) n || b) (ne_eqb (get_or found i 0) n ne) ∙ or-false (holds (take i found) n))

-- ---- a row is changed at the critical cells that were seen

-- after at the critical cells that were seen, before elsewhere
pub record IsMixed (us : List Kind) (before after now seen : List ℕ) : Type 0 where
  pub long : length now ≡ criticals us
  pub put : (c : ℕ) → c < criticals us → holds seen (place_of us c + 1) ≡ true → get_or now c 0 ≡ get_or after c 0
  pub none : (c : ℕ) → c < criticals us → holds seen (place_of us c + 1) ≡ false → get_or now c 0 ≡ get_or before c 0

pub mixed_begun : (us : List Kind) (before after : List ℕ) → length before ≡ criticals us → IsMixed us before after before []
mixed_begun us before after l = record { long = l; put = λ c lc e. absurd (false≢true e); none = λ c lc e. refl }

module _ (us : List Kind) (before after now new xs found : List ℕ) (C : HasColumns us xs) (i p v : ℕ) (l : i < length found) (e : get_or found i 0 ≡ p + 1) (lp : p < length us) where
  -- at a critical cell
  mixed_critical : kind_at us p ≡ Critical → IsMixed us before after now (take i found) → new ≡ set now (get_or xs p 0) v → v ≡ get_or after (get_or xs p 0) 0 → IsMixed us before after new (take (i + 1) found)
  mixed_critical k h g value =
      let col : ℕ = get_or xs p 0 in
      let a = C p lp k in
      let lc : col < length now = subst (λ (n : ℕ). col < n) (sym h.long) a.0 in
      let same : (c : ℕ) → c < criticals us → c ≢ col → holds (take (i + 1) found) (place_of us c + 1) ≡ holds (take i found) (place_of us c + 1) =
      λ c lk ne. seen_other found i (place_of us c + 1) l (λ z. let w : place_of us c ≡ p = omega (arith, z, e) in ne (place_one us c col lk a.0 (w ∙ sym a.1))) in
      let seen : (c : ℕ) → c ≡ col → holds (take (i + 1) found) (place_of us c + 1) ≡ true =
      λ c z. seen_here found i (place_of us c + 1) l (e ∙ ap (λ (k : ℕ). k + 1) (sym a.1 ∙ ap (place_of us) (sym z))) in
      record {
        long = ap (λ (z : List ℕ). length z) g ∙ (length-set now col v ∙ h.long);
        put = λ c lk m. ap (λ (z : List ℕ). get_or z c 0) g ∙ elim (cases_eq c col) [
          | inl b ↦ ap (λ (k : ℕ). get_or (set now col v) k 0) b ∙ (get_or-set_same now col v 0 lc ∙ (value ∙ ap (λ (k : ℕ). get_or after k 0) (sym b)))
          | inr b ↦ get_or-set_other now col c v 0 b ∙ h.put c lk (sym (same c lk b) ∙ m)
        ];
        none = λ c lk m. ap (λ (z : List ℕ). get_or z c 0) g ∙ elim (cases_eq c col) [
          | inl b ↦ absurd (false≢true (sym m ∙ seen c b))
          | inr b ↦ get_or-set_other now col c v 0 b ∙ h.none c lk (sym (same c lk b) ∙ m)
        ];
      }

  -- at another cell
  mixed_other : (kind_at us p ≡ Critical → ⊥) → IsMixed us before after now (take i found) → new ≡ now → IsMixed us before after new (take (i + 1) found)
  mixed_other k h g =
      let same : (c : ℕ) → c < criticals us → holds (take (i + 1) found) (place_of us c + 1) ≡ holds (take i found) (place_of us c + 1) =
      λ c lk. seen_other found i (place_of us c + 1) l (λ z. let w : place_of us c ≡ p = omega (arith, z, e) in k (ap (kind_at us) (sym w) ∙ place_kind us c lk)) in
      subst (λ (z : List ℕ). IsMixed us before after z (take (i + 1) found)) (sym g)
      (record { long = h.long; put = λ c lk m. h.put c lk (sym (same c lk) ∙ m); none = λ c lk m. h.none c lk (sym (same c lk) ∙ m) })

  pub mixed_more : IsMixed us before after now (take i found) → (kind_at us p ≡ Critical → v ≡ get_or after (get_or xs p 0) 0) → (kind_at us p ≡ Critical → new ≡ set now (get_or xs p 0) v) → ((kind_at us p ≡ Critical → ⊥) → new ≡ now)
      → IsMixed us before after new (take (i + 1) found)
  mixed_more h value here other = elim (is_critical (kind_at us p)) [ inl k ↦ mixed_critical k h (here k) (value k) | inr k ↦ mixed_other k h (other k) ]

pub mixed_done : (us : List Kind) (before after now found : List ℕ) (i : ℕ) → length found ≤ i → length after ≡ criticals us → ((c : ℕ) → c < criticals us → holds found (place_of us c + 1) ≡ false → get_or before c 0 ≡ get_or after c 0)
    → IsMixed us before after now (take i found) → now ≡ after
mixed_done us before after now found i l la same h =
    let all : take i found ≡ found = take_all i found l in
    same_number_lists now after (h.long ∙ sym la)
    (λ c lc.
    let lk : c < criticals us = subst (λ (n : ℕ). c < n) h.long lc in
    elim (cases_Bool (holds found (place_of us c + 1))) [
      | inl m ↦ h.put c lk (ap (λ (ys : List ℕ). holds ys (place_of us c + 1)) all ∙ m)
      | inr m ↦ h.none c lk (ap (λ (ys : List ℕ). holds ys (place_of us c + 1)) all ∙ m) ∙ same c lk m
    ])

-- it is zero where nothing was seen and zeros stood
pub mixed_off : (us : List Kind) (before after now found : List ℕ) (i : ℕ) → length found ≤ i → ((c : ℕ) → c < criticals us → get_or before c 0 ≡ 0) → IsMixed us before after now (take i found) → IsZeroOff us found now
mixed_off us before after now found i l z h c lc m = h.none c lc (ap (λ (ys : List ℕ). holds ys (place_of us c + 1)) (take_all i found l) ∙ m) ∙ z c lc

-- ---- the coboundary of a cochain, at the critical cells

module _ (F : Ops) (L : IsField F) (s next : Stage) (P : IsPaired F s next) (x : List ℕ) where
  abbrev pub target : List ℕ
  target = part next.kinds (combination F (length next.kinds) x s.rows)

  target_is : length target ≡ criticals next.kinds
  target_is = target_long F L (length next.kinds) s.rows next.kinds x P.matching.matrix refl

  pub value_at : (p col : ℕ) → col < criticals next.kinds → place_of next.kinds col ≡ p → dot F x (column p s.rows) ≡ get_or target col 0
  value_at p col lc e = ap (λ (k : ℕ). dot F x (column k s.rows)) (sym e) ∙ value_is F L (length next.kinds) s.rows next.kinds x col P.matching.matrix refl lc

  -- it is zero at the critical cells that were not found
  pub target_off : (found : List ℕ) → IsFound F s next x found → IsZeroOff next.kinds found target
  target_off found f c lk m =
      let j : ℕ = place_of next.kinds c in
      sym (value_at j c lk refl) ∙ elim (f j (place_below next.kinds c lk) (place_kind next.kinds c lk)) [ inl k ↦ absurd (false≢true (sym m ∙ In-holds k)) | inr k ↦ k ]

  pub put_done : (values found : List ℕ) (i : ℕ) → length found ≤ i → IsFound F s next x found → IsMixed next.kinds (replicate (criticals next.kinds) 0) target values (take i found) → values ≡ target
  put_done values found i l f h =
      mixed_done next.kinds (replicate (criticals next.kinds) 0) target values found i l target_is
      (λ c lk m. get_or-replicate (criticals next.kinds) c 0 0 lk ∙ sym (target_off found f c lk m)) h

  -- whether a value was not zero
  pub some_value : (p col : ℕ) → col < criticals next.kinds → place_of next.kinds col ≡ p → dot F x (column p s.rows) ≢ 0 → is_nonzero target ≡ true
  some_value p col lc e ne = nonzero_at target col (λ z. ne (value_at p col lc e ∙ z))

zeros_set : (n i : ℕ) → set (replicate {A = ℕ} n 0) i 0 ≡ replicate n 0
zeros_set n i = same_number_lists (set (replicate {A = ℕ} n 0) i 0) (replicate n 0) (length-set (replicate {A = ℕ} n 0) i 0)
    (λ c lc.
    let lk : c < n = omega (arith, lc, length-set (replicate {A = ℕ} n 0) i 0, length-replicate {A = ℕ} n 0) in
    elim (cases_eq c i) [
      | inl b ↦ ap (λ (k : ℕ). get_or (set (replicate n 0) i 0) k 0) b ∙ (get_or-set_same (replicate n 0) i 0 0 (omega (arith, lk, b, length-replicate {A = ℕ} n 0)) ∙ sym (get_or-replicate n c 0 0 lk))
      | inr b ↦ get_or-set_other (replicate n 0) i c 0 0 b
    ])

-- zeros stay where what is put is zero
pub zeros_kept : (us : List Kind) (n p col v : ℕ) (now new : List ℕ) → now ≡ replicate n 0 → (kind_at us p ≡ Critical → new ≡ set now col v) → ((kind_at us p ≡ Critical → ⊥) → new ≡ now) → (kind_at us p ≡ Critical → v ≡ 0) → new ≡ replicate n 0
zeros_kept us n p col v now new z here other none =
    elim (is_critical (kind_at us p)) [
      | inl k ↦ here k ∙ (ap (set now col) (none k) ∙ (ap (λ (w : List ℕ). set w col 0) z ∙ zeros_set n col))
      | inr k ↦ other k ∙ z
    ]

-- whether the values are not zero, by what was seen
pub told : (n : ℕ) (some : Bool) (values wanted : List ℕ) → values ≡ wanted → (some ≡ true → is_nonzero wanted ≡ true) → (some ≡ false → values ≡ replicate n 0) → some ≡ is_nonzero values
told n some values wanted e yes_some no_some =
    elim (cases_Bool some) [
      | inl b ↦ b ∙ (sym (yes_some b) ∙ ap is_nonzero (sym e))
      | inr b ↦ b ∙ (sym (zeros_are_none n) ∙ ap is_nonzero (sym (no_some b)))
    ]

-- where there is no column
pub no_columns : (F : Ops) (L : IsField F) (s next : Stage) → IsPaired F s next → (rows : List (List ℕ)) (cols : ℕ) → cols ≡ criticals next.kinds → cols ≡ 0 → IsMatrix F cols rows → length rows ≡ criticals s.kinds
    → IsReducedBy F (length s.kinds) (length next.kinds) s.rows s.kinds next.kinds rows
no_columns F L s next P rows cols e z a l = record {
  matrix = subst (λ (n : ℕ). IsMatrix F n rows) e a;
  long = l;
  each = λ i x li _.
      let lr : i < length rows = subst (λ (n : ℕ). i < n) (sym l) li in
      let v : IsVector F cols (row_at rows i) = all_at (IsVector F cols) rows i [] lr a in
      same_number_lists (row_at rows i) (part next.kinds (combination F (length next.kinds) x s.rows)) (v.long ∙ (e ∙ sym (target_long F L (length next.kinds) s.rows next.kinds x P.matching.matrix refl)))
      (λ k lk. absurd (not_below k (subst (λ (n : ℕ). k < n) (v.long ∙ z) lk)));
}
  where
    not_below : (k : ℕ) → k < 0 → ⊥
    not_below k lt = omega arith

-- ---- the reduced rows that are not zero, row by row

module _ (F : Ops) (L : IsField F) (s next : Stage) where
  pub none_filled : (f : Filled) → f.places ≡ [] → f.cols ≡ criticals next.kinds → f.rows ≡ [] → IsFilledTo F s next 0 f
  none_filled f p c r = record { all = []; long = refl; each = λ i lt. absurd (omega (arith, lt)); cols = c; rows = r; places = p }

  pub filled_few : (count : ℕ) (f : Filled) → IsFilledTo F s next count f → length f.rows ≤ count
  filled_few count f h = let few : length (nonzero_rows h.all) ≤ length h.all = nonzero_few h.all in omega (arith, few, h.long, ap (λ (rows : List (List ℕ)). length rows) h.rows)

  pub filled_more : (row : ℕ) (old new : Filled) (v : List ℕ) (some : Bool) → IsFilledTo F s next row old → IsRowOf F s next row v → some ≡ is_nonzero v → new.cols ≡ old.cols
      → (some ≡ true → new.rows ≡ old.rows ++ v ∷ []) → (some ≡ true → new.places ≡ old.places ++ row ∷ []) → (some ≡ false → new ≡ old) → IsFilledTo F s next (row + 1) new
  filled_more row old new v some h r told cols rows places kept =
      let all : List (List ℕ) = h.all ++ v ∷ [] in
      let each : (i : ℕ) → i < row + 1 → IsRowOf F s next i (row_at all i) =
      λ i lt.
      elim (cases_eq i row) [
        | inl b ↦ subst (λ (k : ℕ). IsRowOf F s next k (row_at all k)) (sym b) (subst (IsRowOf F s next row) (sym (ap (row_at all) (sym h.long) ∙ get_or-append_seam h.all v [] [])) r)
        | inr b ↦ subst (IsRowOf F s next i) (sym (get_or_append_left h.all (v ∷ []) [] i (omega (arith, h.long)))) (h.each i (omega arith))
      ] in
      let long : length all ≡ row + 1 = length-append h.all (v ∷ []) ∙ ap (λ (n : ℕ). n + 1) h.long in
      elim (cases_Bool some) [
        | inl b ↦
            let last = nonzero_last h.all v (sym told ∙ b) in
            record {
              all = all;
              long = long;
              each = each;
              cols = cols ∙ h.cols;
              rows = rows b ∙ (ap (λ (ws : List (List ℕ)). ws ++ v ∷ []) h.rows ∙ sym last.0);
              places = places b ∙ (ap (λ (ps : List ℕ). ps ++ row ∷ []) h.places ∙ (ap (λ (n : ℕ). nonzero_places h.all ++ n ∷ []) (sym h.long) ∙ sym last.1));
            }
        | inr b ↦
            let last = zeros_last h.all v (sym told ∙ b) in
            record {
              all = all;
              long = long;
              each = each;
              cols = cols ∙ h.cols;
              rows = ap (λ (f : Filled). f.rows) (kept b) ∙ (h.rows ∙ sym last.0);
              places = ap (λ (f : Filled). f.places) (kept b) ∙ (h.places ∙ sym last.1);
            }
      ]

  module _ (P : IsPaired F s next) where
    pub row_is_vector : (i : ℕ) (v : List ℕ) → IsRowOf F s next i v → IsVector F (criticals next.kinds) v
    row_is_vector i v r =
        subst (IsVector F (criticals next.kinds)) (sym r.is)
        (part-vector F L next.kinds (length next.kinds) (combination F (length next.kinds) r.y s.rows) refl (combination-vector F L (length next.kinds) r.y s.rows P.matching.matrix))

    rows_matrix : (all : List (List ℕ)) → ((i : ℕ) → i < length all → IsVector F (criticals next.kinds) (row_at all i)) → IsMatrix F (criticals next.kinds) all
    rows_matrix [] h = tt
    rows_matrix (v ∷ all) h = (h 0 (omega arith), rows_matrix all (λ i lt. h (suc i) (omega (arith, lt))))

    pub all_filled : (f : Filled) → IsFilledTo F s next (criticals s.kinds) f → IsFilledBy F s next f
    all_filled f h = record {
      all = h.all;
      reduced =
          rows_final F L s next P h.all (criticals s.kinds) (rows_matrix h.all (λ i lt. row_is_vector i (row_at h.all i) (h.each i (subst (λ (n : ℕ). i < n) h.long lt)))) h.long (omega arith)
          (λ i lt. let r = h.each i lt in (r.y, r.extension, r.is));
      cols = h.cols;
      rows = h.rows;
      places = h.places;
    }

    -- the reduced rows are these alone
    pub reduced_is_one : (one other : List (List ℕ)) → IsReducedBy F (length s.kinds) (length next.kinds) s.rows s.kinds next.kinds one → IsReducedBy F (length s.kinds) (length next.kinds) s.rows s.kinds next.kinds other → one ≡ other
    reduced_is_one one other a b =
        ext_get_or [] one other (a.long ∙ sym b.long)
        (λ i lt.
        let li : i < criticals s.kinds = subst (λ (n : ℕ). i < n) a.long lt in
        let w : List ℕ = mark (criticals s.kinds) i in
        let vw = mark_vector F L (criticals s.kinds) i in
        let x : List ℕ = settle F s.rows (replicate (length next.kinds) 0) s.pairs (spread s.kinds w) in
        let e = extension_is F L s next P w (spread s.kinds w) (replicate (length next.kinds) 0) x (length next.kinds) vw.long vw.elements refl refl refl refl in
        a.each i x li e ∙ sym (b.each i x li e))

    -- where there is no column
    pub none_but_zeros : (f : Filled) → f.places ≡ [] → f.cols ≡ criticals next.kinds → f.rows ≡ [] → criticals next.kinds ≡ 0 → IsFilledBy F s next f
    none_but_zeros f p c r z =
        let n : ℕ = criticals s.kinds in
        let all : List (List ℕ) = replicate n (replicate 0 0) in
        let none = zeros_none n in
        record {
          all = all;
          reduced = no_columns F L s next P all 0 (sym z) refl (nil_matrix n) (length-replicate n (replicate 0 0));
          cols = c;
          rows = r ∙ sym none.0;
          places = p ∙ sym (none.1 0);
        }
      where
        zeros_none : (n : ℕ) → (nonzero_rows (replicate n (replicate 0 0)) ≡ []) × ((p : ℕ) → places_from p (replicate n (replicate 0 0)) ≡ [])
        zeros_none zero = (refl, λ p. refl)
        zeros_none (suc n) = let r = zeros_none n in (r.0, λ p. r.1 (p + 1))

        nil_matrix : (n : ℕ) → IsMatrix F 0 (replicate n (replicate 0 0))
        nil_matrix zero = tt
        nil_matrix (suc n) = (record { long = refl; elements = tt }, nil_matrix n)
