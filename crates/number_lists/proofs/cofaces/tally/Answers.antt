use Rattle.std.proofs.Common.{◌≡◌, ◌≢◌, ◌<◌, ◌≤◌, ◌+◌, ◌-◌, ◌∷◌, [], ℕ, zero-add, add-zero, Bool, true, List, cond, eqb, length, take, get_or, map, set, replicate, refl, sym, ◌∙◌, ap, arith}
use Rattle.std.proofs.lemmas.List.{take_more, length-take-le}
use Rattle.std.proofs.lemmas.List.FromFn.{length-map-range_with_len, get_or-map-range_with_len}
use Rattle.std.proofs.lemmas.Bool.{eq-eqb, ne_eqb}
use Rattle.std.proofs.lemmas.Simd.{splat_is_map}
use Rattle.std.proofs.lemmas.List.Sums.{count_by-le-length}
use Rattle.number_lists.specs.Words.{upto}
use Rattle.number_lists.proofs.Counting.{times, times-append}
use Rattle.number_lists.proofs.Increasing.{set-map-upto, length-upto}
use Rattle.number_lists.proofs.cofaces.tally.Goals as goal

none_yet : (counts xs : List ℕ) (most : ℕ) → counts ≡ replicate {A = ℕ} most 0 → counts ≡ map (λ n. times n (take 0 xs)) (upto most)
none_yet counts xs most e = e ∙ splat_is_map (upto most) most 0 (length-upto most)

pub loop-number-init : goal.loop-number-init
loop-number-init c = none_yet c.in_ok-counts.counts.items c.args.numbers.now c.args.most (c.in_ok-counts.ensures.items_if_clones_equal (λ y e. e))

-- a count, read at its number
count_at : (xs counts : List ℕ) (most n i at : ℕ) → counts ≡ map (λ n. times n (take i xs)) (upto most) → 1 ≤ n → n ≤ most → at ≡ get_or counts (n - 1) at → at ≡ times n (take i xs)
count_at xs counts most n i at e low high here =
    here ∙ (ap (λ (cs : List ℕ). get_or cs (n - 1) at) e ∙ get_or-map-range_with_len (λ n. times n (take i xs)) 1 most (n - 1) n at (omega arith) (omega arith))

pub index_mut-requires : goal.index_mut-requires
index_mut-requires c =
    let w : (1 ≤ get_or c.args.numbers.now c.loop-number.number-index 0) × (get_or c.args.numbers.now c.loop-number.number-index 0 ≤ c.args.most) = c.requires c.loop-number.number-index 0 c.loop-number-test.true in
    let l : length c.loop-number.counts.items ≡ c.args.most = ap length c.loop-number.invariant ∙ length-map-range_with_len (λ n. times n (take c.loop-number.number-index c.args.numbers.now)) 1 c.args.most in
    let ok : c.loop-number.counts.len ≡ length c.loop-number.counts.items = c.loop-number.counts.ok.0 in
    omega arith

pub overflow_add-index_mut : goal.overflow_add-index_mut
overflow_add-index_mut c =
    let w : (1 ≤ get_or c.args.numbers.now c.loop-number.number-index 0) × (get_or c.args.numbers.now c.loop-number.number-index 0 ≤ c.args.most) = c.requires c.loop-number.number-index 0 c.loop-number-test.true in
    let n : ℕ = get_or c.args.numbers.now c.loop-number.number-index 0 in
    let i : ℕ = c.loop-number.number-index in
    let at : c.index_mut.result.now ≡ times n (take i c.args.numbers.now) = count_at c.args.numbers.now c.loop-number.counts.items c.args.most n i c.index_mut.result.now c.loop-number.invariant w.0 w.1 c.index_mut.ensures.value in
    let short : length (take i c.args.numbers.now) ≡ i = length-take-le i c.args.numbers.now (omega (arith, c.loop-number-test.true)) in
    let few : times n (take i c.args.numbers.now) ≤ length (take i c.args.numbers.now) = count_by-le-length (λ x. eqb x n) (take i c.args.numbers.now) in
    omega arith

-- one number more
more : (xs counts : List ℕ) (most i at : ℕ) → i < length xs → counts ≡ map (λ n. times n (take i xs)) (upto most)
    → 1 ≤ get_or xs i 0 → get_or xs i 0 ≤ most → at ≡ times (get_or xs i 0) (take i xs)
    → set counts (get_or xs i 0 - 1) (at + 1) ≡ map (λ n. times n (take (i + 1) xs)) (upto most)
more xs counts most i at lt e low high here =
    let x : ℕ = get_or xs i 0 in
    let step : (n : ℕ) → times n (take (i + 1) xs) ≡ times n (take i xs) + cond (eqb x n) 1 0 = λ n. ap (times n) (take_more xs i 0 lt) ∙ (times-append n (take i xs) (x ∷ []) ∙ ap (λ (m : ℕ). times n (take i xs) + m) (zero-add (cond (eqb x n) 1 0))) in
    let same : eqb x x ≡ true = eq-eqb x x refl in
    let new : times x (take (i + 1) xs) ≡ at + 1 = step x ∙ (ap (λ (b : Bool). times x (take i xs) + cond b 1 0) same ∙ ap (λ (m : ℕ). m + 1) (sym here)) in
    let kept : (n : ℕ) → n ≢ x → times n (take i xs) ≡ times n (take (i + 1) xs) =
    λ n ne. sym (step n ∙ (ap (λ (b : Bool). times n (take i xs) + cond b 1 0) (ne_eqb x n (λ q. ne (sym q))) ∙ add-zero (times n (take i xs)))) in
    ap (λ (cs : List ℕ). set cs (x - 1) (at + 1)) e
    ∙ set-map-upto (λ n. times n (take i xs)) (λ n. times n (take (i + 1) xs)) most x (at + 1) low high new kept

pub loop-number-preserved : goal.loop-number-preserved
loop-number-preserved c =
    let w : (1 ≤ get_or c.args.numbers.now c.loop-number.number-index 0) × (get_or c.args.numbers.now c.loop-number.number-index 0 ≤ c.args.most) = c.requires c.loop-number.number-index 0 c.loop-number-test.true in
    let at : c.index_mut.result.now ≡ times (get_or c.args.numbers.now c.loop-number.number-index 0) (take c.loop-number.number-index c.args.numbers.now) =
    count_at c.args.numbers.now c.loop-number.counts.items c.args.most (get_or c.args.numbers.now c.loop-number.number-index 0) c.loop-number.number-index c.index_mut.result.now c.loop-number.invariant w.0 w.1 c.index_mut.ensures.value in
    more c.args.numbers.now c.loop-number.counts.items c.args.most c.loop-number.number-index c.index_mut.result.now c.loop-number-test.true c.loop-number.invariant w.0 w.1 at
