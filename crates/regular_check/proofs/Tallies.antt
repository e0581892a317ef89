-- Lemmas on tallies.
use Rattle.std.proofs.Common.{◌≡◌, ℕ, zero, suc, ◌+◌, ◌-◌, ◌*◌, ◌<◌, ◌≤◌, ◌^◌, List, [], ◌∷◌, ◌++◌, Bool, true, false, cond, ◌||◌, ◌&&◌, eqb, filter, length, take, get_or, refl, ap, sym, ◌∙◌, subst, arith}
use Rattle.std.specs.List.{list_any, list_all, sum}
use Rattle.std.proofs.lemmas.Bool.{false≢true}
use Rattle.std.proofs.lemmas.List.{take_more, take_all, length-append, length-take-le, append-nil}
use Rattle.std.proofs.lemmas.List.Elements.{filter-append}
use Rattle.std.proofs.lemmas.List.Folds.{list_any_more}
use Rattle.std.proofs.lemmas.List.Sums.{sum_by-cons, sum_by_push}
use Rattle.number_lists.specs.Words.{holds}
use Rattle.face_poset.specs.Poset.{IsCell, facets_of}
use Rattle.regular_check.specs.declared.tally.Tally.{Tally}
use Rattle.regular_check.specs.Rules.{sharing}
use Rattle.regular_check.specs.Tally.{none, tally_at, tally_of, gained, AllGain, AllClear, IsTally, IsBlank, IsModest, all_double}
use Rattle.number_lists.specs.Members.{In, here, there}
use Rattle.number_lists.proofs.CallerLemmas.{In-at}
use Rattle.regular_check.proofs.Cells.{short}

-- a cell more
pub sharing-more : (space : List (List (List ℕ))) (dim : ℕ) (cells : List ℕ) (i f : ℕ) → i < length cells
    → sharing space dim (take (i + 1) cells) f ≡ sharing space dim (take i cells) f ++ cond (holds (facets_of space dim (get_or cells i 0)) f) (get_or cells i 0 ∷ []) []
sharing-more space dim cells i f l =
    ap (λ (cs : List ℕ). sharing space dim cs f) (take_more cells i 0 l) ∙ filter-append (λ c. holds (facets_of space dim c) f) (take i cells) (get_or cells i 0 ∷ [])

sum-cons : (x : ℕ) (xs : List ℕ) → sum (x ∷ xs) ≡ x + sum xs
sum-cons x xs = sum_by-cons (λ (n : ℕ). n) x xs

tally-push : (xs : List ℕ) (b : Bool) (c : ℕ) → gained (tally_of xs) b c ≡ tally_of (xs ++ cond b (c ∷ []) [])
tally-push xs true c =
    ap (λ (n : ℕ). let t : Tally = record { count = n; sum = sum xs + c } in t) (sym (length-append xs (c ∷ [])))
    ∙ ap (λ (n : ℕ). let t : Tally = record { count = length (xs ++ c ∷ []); sum = n } in t) (sym (sum_by_push (λ (n : ℕ). n) xs c))
tally-push xs false c = ap tally_of (sym (append-nil xs))

pub tally-more : (space : List (List (List ℕ))) (dim : ℕ) (cells : List ℕ) (i : ℕ) (old new : List Tally) → i < length cells → length new ≡ length old
    → IsTally space dim (take i cells) old → AllGain (facets_of space dim (get_or cells i 0)) (get_or cells i 0) old new → IsTally space dim (take (i + 1) cells) new
tally-more space dim cells i old new l long t g k lt =
    let c : ℕ = get_or cells i 0 in
    let has : Bool = holds (facets_of space dim c) (k + 1) in
    g k (omega arith)
    ∙ (ap (λ (y : Tally). gained y has c) (t k (omega arith))
    ∙ (tally-push (sharing space dim (take i cells) (k + 1)) has c
    ∙ ap tally_of (sym (sharing-more space dim cells i (k + 1) l))))

-- how much some of these numbers can be
bounded : (p : ℕ → Bool) (xs : List ℕ) → ((x : ℕ) → In x xs → x ≤ 60000) → (length (filter p xs) ≤ length xs) × (sum (filter p xs) ≤ 60000 * length xs)
bounded p [] h = (omega arith, omega arith)
bounded p (x ∷ xs) h = by_test (p x) (bounded p xs (λ y k. h y (there k)))
  where
    by_test : (b : Bool) → (length (filter p xs) ≤ length xs) × (sum (filter p xs) ≤ 60000 * length xs)
        → (length (cond b (x ∷ filter p xs) (filter p xs)) ≤ length (x ∷ xs)) × (sum (cond b (x ∷ filter p xs) (filter p xs)) ≤ 60000 * length (x ∷ xs))
    by_test true r = (omega (arith, r.0), omega (arith, r.1, h x here, sum-cons x (filter p xs)))
    by_test false r = (omega (arith, r.0), omega (arith, r.1))

take-In : {x : ℕ} (i : ℕ) (xs : List ℕ) → In x (take i xs) → In x xs
take-In zero xs h = elim h [ ]
take-In (suc i) [] h = h
take-In (suc i) (y ∷ ys) here = here
take-In (suc i) (y ∷ ys) (there h) = there (take-In i ys h)

pub tally-modest : (space : List (List (List ℕ))) (dim most : ℕ) (cells : List ℕ) (i : ℕ) (tallies : List Tally) → IsCell most cells → most ≤ 60000 → i < length cells → IsTally space dim (take i cells) tallies → IsModest tallies
tally-modest space dim most cells i tallies h few l t k lt =
    let small : (x : ℕ) → In x cells → x ≤ 60000 = λ x m. (let a = In-at m in omega (arith, (h.within a.0 0 a.1).1, a.2, few)) in
    let b = bounded (λ c. holds (facets_of space dim c) (k + 1)) (take i cells) (λ x m. small x (take-In i cells m)) in
    let e : length (take i cells) ≡ i = length-take-le i cells (omega arith) in
    let s : length cells ≤ most = short cells most h in
    subst (λ (y : Tally). (y.count < 4294967295) × (y.sum < 2 ^ 63)) (sym (t k lt)) (omega (arith, b.0, e, s, few, l), omega (arith, b.1, e, s, few, l))

-- tests that agree on a list
pub all_same : (p q : ℕ → Bool) (xs : List ℕ) → ((x : ℕ) → In x xs → p x ≡ q x) → list_all p xs ≡ list_all q xs
all_same p q [] h = refl
all_same p q (x ∷ xs) h = ap (λ (b : Bool). b && list_all p xs) (h x here) ∙ ap (λ (b : Bool). q x && b) (all_same p q xs (λ y k. h y (there k)))

pub double-is : (space : List (List (List ℕ))) (dim : ℕ) (cells facets : List ℕ) (tallies : List Tally) → IsTally space dim cells tallies → IsCell (length tallies) facets
    → all_double tallies facets ≡ list_all (λ f. eqb (length (sharing space dim cells f)) 2) facets
double-is space dim cells facets tallies t h =
    all_same (λ f. eqb (tally_at tallies (f - 1)).count 2) (λ f. eqb (length (sharing space dim cells f)) 2) facets
    (λ f m.
    let a = In-at m in
    let w = h.within a.0 0 a.1 in
    let low : 1 ≤ f = omega (arith, w.0, a.2) in
    let high : f ≤ length tallies = omega (arith, w.1, a.2) in
    let e : f - 1 + 1 ≡ f = omega arith in
    ap (λ (y : Tally). eqb y.count 2) (t (f - 1) (omega arith) ∙ ap (λ (n : ℕ). tally_of (sharing space dim cells n)) e))

-- the tallies after those of the first cells were taken back
abbrev pub IsClearing : List (List (List ℕ)) → (dim : ℕ) → List ℕ → List Tally → List Tally → Type 0
IsClearing space dim cells old now = (k : ℕ) → k < length old → tally_at now k ≡ cond (list_any (λ c. holds (facets_of space dim c) (k + 1)) cells) none (tally_at old k)

pub clearing-more : (space : List (List (List ℕ))) (dim : ℕ) (cells : List ℕ) (i : ℕ) (old now new : List Tally) → i < length cells → length now ≡ length old
    → IsClearing space dim (take i cells) old now → AllClear (facets_of space dim (get_or cells i 0)) now new → IsClearing space dim (take (i + 1) cells) old new
clearing-more space dim cells i old now new l long t g k lt =
    let p : ℕ → Bool = λ c. holds (facets_of space dim c) (k + 1) in
    g k (omega arith)
    ∙ (ap (λ (y : Tally). cond (p (get_or cells i 0)) none y) (t k lt)
    ∙ (both (list_any p (take i cells)) (p (get_or cells i 0)) ∙ ap (λ (b : Bool). cond b none (tally_at old k)) (sym (list_any_more p cells i 0 l))))
  where
    both : (a b : Bool) → cond b none (cond a none (tally_at old k)) ≡ cond (a || b) none (tally_at old k)
    both true true = refl
    both true false = refl
    both false true = refl
    both false false = refl

none_kept : (p : ℕ → Bool) (xs : List ℕ) → list_any p xs ≡ false → filter p xs ≡ []
none_kept p [] e = refl
none_kept p (x ∷ xs) e = by_test (p x) e (none_kept p xs)
  where
    by_test : (b : Bool) → (b || list_any p xs) ≡ false → (list_any p xs ≡ false → filter p xs ≡ []) → cond b (x ∷ filter p xs) (filter p xs) ≡ []
    by_test true g h = absurd (false≢true (sym g))
    by_test false g h = h g

pub cleared : (space : List (List (List ℕ))) (dim : ℕ) (cells : List ℕ) (i : ℕ) (old now : List Tally) → length cells ≤ i → length now ≡ length old → IsTally space dim cells old
    → IsClearing space dim (take i cells) old now → IsBlank now
cleared space dim cells i old now l long t g k lt =
    let p : ℕ → Bool = λ c. holds (facets_of space dim c) (k + 1) in
    g k (omega arith)
    ∙ (ap (λ (cs : List ℕ). cond (list_any p cs) none (tally_at old k)) (take_all i cells l)
    ∙ (ap (λ (y : Tally). cond (list_any p cells) none y) (t k (omega arith)) ∙ by_test (list_any p cells) refl))
  where
    by_test : (b : Bool) → list_any (λ c. holds (facets_of space dim c) (k + 1)) cells ≡ b → cond b none (tally_of (sharing space dim cells (k + 1))) ≡ none
    by_test true e = refl
    by_test false e = ap tally_of (none_kept (λ c. holds (facets_of space dim c) (k + 1)) cells e)
