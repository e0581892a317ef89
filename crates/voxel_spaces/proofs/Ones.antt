-- The places of the bits that are 1.
use Rattle.std.proofs.Common.{◌≡◌, ℕ, zero, suc, ◌+◌, ◌<◌, ◌≤◌, List, [], ◌∷◌, ◌++◌, Bool, true, false, cond, take, length, get_or, refl, ap, sym, ◌∙◌, subst, arith}
use Rattle.std.specs.List.{list_any, items_where_true, range_with_len}
use Rattle.std.specs.List.Sorted.{IsStrictlyIncreasing}
use Rattle.std.proofs.lemmas.Bool.{false≢true}
use Rattle.std.proofs.lemmas.List.{take_more, length-take-le}
use Rattle.std.proofs.lemmas.List.FromFn.{length-range_with_len}
use Rattle.number_lists.proofs.CallerLemmas.{increasing_head, increasing_tail, at-In, In-at}
use Rattle.number_lists.specs.Members.{In}
use Rattle.tuple_spaces.proofs.CallerLemmas.{range-more, where-In}

where-push : (bs : List Bool) (xs : List ℕ) (b : Bool) (x : ℕ) → length bs ≡ length xs → items_where_true (bs ++ b ∷ []) (xs ++ x ∷ []) ≡ items_where_true bs xs ++ cond b (x ∷ []) []
where-push [] [] true x h = refl
where-push [] [] false x h = refl
where-push [] (y ∷ ys) b x h = absurd (omega arith)
where-push (c ∷ bs) [] b x h = absurd (omega arith)
where-push (true ∷ bs) (y ∷ ys) b x h = ap (λ zs. y ∷ zs) (where-push bs ys b x (let e : length bs ≡ length ys = omega arith in e))
where-push (false ∷ bs) (y ∷ ys) b x h = where-push bs ys b x (let e : length bs ≡ length ys = omega arith in e)

-- one bit more
pub where-more : (bs : List Bool) (i : ℕ) (d : Bool) → i < length bs → items_where_true (take (i + 1) bs) (range_with_len 0 (i + 1)) ≡ items_where_true (take i bs) (range_with_len 0 i) ++ cond (get_or bs i d) (i ∷ []) []
where-more bs i d l =
    ap (λ (cs : List Bool). items_where_true cs (range_with_len 0 (i + 1))) (take_more bs i d l)
    ∙ (ap (λ (xs : List ℕ). items_where_true (take i bs ++ get_or bs i d ∷ []) xs) (range-more i)
    ∙ where-push (take i bs) (range_with_len 0 i) (get_or bs i d) i (length-take-le i bs (omega arith) ∙ sym (length-range_with_len 0 i)))

rises-cons : (x : ℕ) (ys : List ℕ) → ((y : ℕ) → In y ys → x < y) → IsStrictlyIncreasing ys → IsStrictlyIncreasing (x ∷ ys)
rises-cons x ys h r zero l = h (get_or ys 0 0) (at-In ys 0 0 (omega arith))
rises-cons x ys h r (suc k) l =
    let e : suc k + 1 ≡ suc (k + 1) = omega arith in
    subst (λ (n : ℕ). get_or ys k 0 < get_or (x ∷ ys) n 0) (sym e) (r k (omega arith))

pub where-rises : (bs : List Bool) (xs : List ℕ) → IsStrictlyIncreasing xs → IsStrictlyIncreasing (items_where_true bs xs)
where-rises [] xs h = λ k l. absurd (omega arith)
where-rises (b ∷ bs) [] h = λ k l. absurd (omega arith)
where-rises (true ∷ bs) (x ∷ xs) h =
    rises-cons x (items_where_true bs xs) (λ y i. let w = In-at (where-In bs xs i) in let m : x < get_or xs w.0 0 = increasing_head x xs h w.0 0 w.1 in omega (arith, m, w.2)) (where-rises bs xs (increasing_tail x xs h))
where-rises (false ∷ bs) (x ∷ xs) h = where-rises bs xs (increasing_tail x xs h)

pub where-some : (bs : List Bool) (xs : List ℕ) → list_any (λ b. b) bs ≡ true → length bs ≡ length xs → 1 ≤ length (items_where_true bs xs)
where-some [] xs h e = absurd (false≢true h)
where-some (b ∷ bs) [] h e = absurd (omega arith)
where-some (true ∷ bs) (x ∷ xs) h e = omega arith
where-some (false ∷ bs) (x ∷ xs) h e = where-some bs xs h (let q : length bs ≡ length xs = omega arith in q)

pub some-bits : (bs : List Bool) → list_any (λ b. b) bs ≡ true → 1 ≤ length bs
some-bits [] h = absurd (false≢true h)
some-bits (b ∷ bs) h = omega arith
