-- Lemmas on the levels of a value.
use Rattle.std.proofs.Common.{◌≡◌, ◌≢◌, ◌<◌, ◌≤◌, ◌+◌, ◌*◌, ◌++◌, ◌∷◌, [], ℕ, suc, List, length, drop, refl, ap, ◌∙◌, sym, arith, Result, Ok, Err, Some, slice_get, get_or, append_assoc, length-append, Bool, true, false, cond, ◌==◌, nat_le, eq-eqb, inl, inr}
use Rattle.std.specs.List.{list_any}
use Rattle.std.proofs.Math.Seq.{drop-cons}
use Rattle.std.proofs.lemmas.Bool.Decides.{eqb_tells, nat_tests}
use Rattle.gap_text.specs.Value.{Value, number, list, items, values, depth}
use Rattle.array_values.specs.declared.fault.ArrayFault.{ArrayFault}
use Rattle.array_values.specs.declared.fault.ArrayFault.TheVariants.{Ragged, NotBit, BadDimension, Empty}
use Rattle.array_values.specs.Answers.{and_then, gather_from}
use Rattle.array_values.specs.Bits.{sizes_of, items_of, bit_of, bits_of, is_allowed, array_of, volume}
use Rattle.array_values.proofs.Gather.{both_ok}
use Rattle.array_values.proofs.Rows.{items-values}

-- the sizes of a value, after these
abbrev pub sizes_onto : List ℕ → Value → Result (List ℕ) ArrayFault
sizes_onto before v = and_then (sizes_of v) (λ sizes. Ok (before ++ sizes))

pub sizes_onto-none : (v : Value) → sizes_onto [] v ≡ sizes_of v
sizes_onto-none v = elim (sizes_of v) as (λ r. and_then r (λ sizes. Ok ([] ++ sizes)) ≡ r) [ Ok sizes ↦ refl | Err f ↦ refl ]

onto : (before : List ℕ) (n : ℕ) (r : Result (List ℕ) ArrayFault) → and_then (and_then r (λ sizes. Ok (n ∷ sizes))) (λ sizes. Ok (before ++ sizes)) ≡ and_then r (λ sizes. Ok ((before ++ n ∷ []) ++ sizes))
onto before n (Ok sizes) = ap (λ (ns : List ℕ). Ok ns) (sym (append_assoc before (n ∷ []) sizes))
onto before n (Err f) = refl

pub sizes_onto-step : (before : List ℕ) (p : ℕ) (vs : List Value) (v : Value) → slice_get vs 0 ≡ Some v → sizes_onto before (list p (values vs)) ≡ sizes_onto (before ++ length vs ∷ []) v
sizes_onto-step before p [] v h = cc
sizes_onto-step before p (w ∷ ws) v h =
    let same : w ≡ v = cc in
    onto before (length (items (values (w ∷ ws)))) (sizes_of w)
    ∙ (ap (λ (x : Value). sizes_onto (before ++ length (items (values (w ∷ ws))) ∷ []) x) same ∙ ap (λ (us : List Value). sizes_onto (before ++ length us ∷ []) v) (items-values (w ∷ ws)))

pub sizes_onto-empty : (before : List ℕ) (p : ℕ) (vs : List Value) → length vs ≡ 0 → sizes_onto before (list p (values vs)) ≡ Err (Ragged p)
sizes_onto-empty before p [] h = refl
sizes_onto-empty before p (w ∷ ws) h = absurd (omega arith)

pub depth-first : (p : ℕ) (vs : List Value) (v : Value) → slice_get vs 0 ≡ Some v → depth v < depth (list p (values vs))
depth-first p [] v h = cc
depth-first p (w ∷ ws) v h =
    let same : depth w ≡ depth v = ap depth (let e : w ≡ v = cc in e) in omega arith

pub items_of-list : (size p : ℕ) (vs : List Value) → length vs ≡ size → items_of size (list p (values vs)) ≡ Ok vs
items_of-list size p vs h =
    ap (λ (ws : List Value). cond (length ws == size) (Ok ws) (Err (Ragged p))) (items-values vs)
    ∙ ap (λ (b : Bool). cond b (Ok vs) (Err (Ragged p))) (eq-eqb (length vs) size h)

pub items_of-other : (size p : ℕ) (vs : List Value) → length vs ≢ size → items_of size (list p (values vs)) ≡ Err (Ragged p)
items_of-other size p vs h =
    ap (λ (ws : List Value). cond (length ws == size) (Ok ws) (Err (Ragged p))) (items-values vs)
    ∙ ap (λ (b : Bool). cond b (Ok vs) (Err (Ragged p))) (let e : length vs == size ≡ false = search (arith, h) in e)

pub bits_of-level : (sizes : List ℕ) (level : ℕ) (v : Value) (vs : List Value) → level < length sizes → items_of (get_or sizes level 0) v ≡ Ok vs
    → bits_of (drop level sizes) v ≡ gather_from 0 (λ _ w. bits_of (drop (level + 1) sizes) w) vs
bits_of-level sizes level v vs l h =
    ap (λ (ns : List ℕ). bits_of ns v) (drop-cons sizes level 0 l)
    ∙ (ap (λ (n : ℕ). and_then (items_of (get_or sizes level 0) v) (gather_from 0 (λ _ w. bits_of (drop n sizes) w))) (let e : suc level ≡ level + 1 = omega arith in e)
    ∙ ap (λ (r : Result (List Value) ArrayFault). and_then r (gather_from 0 (λ _ w. bits_of (drop (level + 1) sizes) w))) h)

-- ---- how many bits there are

gather-len : (m n : ℕ) (f : ℕ → Value → Result (List Bool) ArrayFault) (vs : List Value) (bs : List Bool) → ((k : ℕ) (w : Value) (cs : List Bool) → f k w ≡ Ok cs → length cs ≡ m) → gather_from n f vs ≡ Ok bs → length bs ≡ length vs * m
gather-len m n f [] bs each h = let e : bs ≡ [] = cc in let z : length bs ≡ 0 = ap (λ (cs : List Bool). length cs) e in omega arith
gather-len m n f (v ∷ vs) bs each h =
    let (cs, a, rest) = both_ok (f n v) (λ us. and_then (gather_from (suc n) f vs) (λ ws. Ok (us ++ ws))) bs h in
    let (ds, b, e) = both_ok (gather_from (suc n) f vs) (λ us. Ok (cs ++ us)) bs rest in
    let is : cs ++ ds ≡ bs = cc in
    let one : length cs ≡ m = each n v cs a in
    let more : length ds ≡ length vs * m = gather-len m (suc n) f vs ds each b in
    sym (ap (λ (us : List Bool). length us) is) ∙ (length-append cs ds ∙ (let all : length cs + length ds ≡ suc (length vs) * m = grind arith in all))

items_of-len : (size : ℕ) (v : Value) (vs : List Value) → items_of size v ≡ Ok vs → length vs ≡ size
items_of-len size (number p n) vs h = cc
items_of-len size (list p us) vs h =
    elim (eqb_tells (length (items us)) size) [
      | inl same ↦ let e : items us ≡ vs = (let q : cond (length (items us) == size) (Ok (items us)) (Err (Ragged p)) ≡ Ok (items us) = ap (λ (b : Bool). cond b (Ok (items us)) (Err (Ragged p))) same.0 in cc) in sym (ap (λ (ws : List Value). length ws) e) ∙ same.1
      | inr off ↦ let q : cond (length (items us) == size) (Ok (items us)) (Err (Ragged p)) ≡ Err (Ragged p) = ap (λ (b : Bool). cond b (Ok (items us)) (Err (Ragged p))) off.0 in cc
    ]

bit_of-len : (v : Value) (bs : List Bool) → bit_of v ≡ Ok bs → length bs ≡ 1
bit_of-len (number p n) bs h =
    elim (nat_le n 1) as (λ b. cond b (Ok ((n == 1) ∷ [])) (Err (NotBit p)) ≡ Ok bs → length bs ≡ 1) [ true ↦ λ e. (let q : (n == 1) ∷ [] ≡ bs = cc in sym (ap (λ (cs : List Bool). length cs) q)) | false ↦ λ e. cc ] h
bit_of-len (list p us) bs h = cc

pub bits_of-len : (sizes : List ℕ) (v : Value) (bs : List Bool) → bits_of sizes v ≡ Ok bs → length bs ≡ volume sizes
bits_of-len [] v bs h = bit_of-len v bs h
bits_of-len (size ∷ sizes) v bs h =
    let (vs, a, rest) = both_ok (items_of size v) (gather_from 0 (λ _ w. bits_of sizes w)) bs h in
    gather-len (volume sizes) 0 (λ _ w. bits_of sizes w) vs bs (λ k w cs e. bits_of-len sizes w cs e) rest ∙ ap (λ (n : ℕ). n * volume sizes) (items_of-len size v vs a)

-- ---- the array

pub array-is : (least most : ℕ) (v : Value) (sizes : List ℕ) (bits : List Bool) → sizes_of v ≡ Ok sizes → least ≤ length sizes → length sizes ≤ most → bits_of sizes v ≡ Ok bits
    → array_of least most v ≡ cond (list_any (λ b. b) bits) (Ok (record { sizes = sizes; bits = bits })) (Err Empty)
array-is least most v sizes bits s low high b =
    ap (λ (r : Result (List ℕ) ArrayFault). and_then r (λ ns. cond (is_allowed least most (length ns)) (and_then (bits_of ns v) (λ bs. cond (list_any (λ b. b) bs) (Ok (record { sizes = ns; bits = bs })) (Err Empty))) (Err BadDimension))) s
    ∙ (ap (λ (t : Bool). cond t (and_then (bits_of sizes v) (λ bs. cond (list_any (λ b. b) bs) (Ok (record { sizes = sizes; bits = bs })) (Err Empty))) (Err BadDimension)) (let e : is_allowed least most (length sizes) ≡ true = grind (arith, nat_tests) in e)
    ∙ ap (λ (r : Result (List Bool) ArrayFault). and_then r (λ bs. cond (list_any (λ b. b) bs) (Ok (record { sizes = sizes; bits = bs })) (Err Empty))) b)
