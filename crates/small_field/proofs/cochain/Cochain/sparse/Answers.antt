use Rattle.std.proofs.Common.{◌≡◌, ◌≤◌, ◌<◌, ◌+◌, ◌++◌, ◌∷◌, ◌==◌, [], ℕ, List, Bool, true, false, cond, length, take, get_or, All, ap, sym, ◌∙◌, subst, arith}
use Rattle.std.proofs.lemmas.List.{take_more, append_assoc, append-nil, length-take-le, get_or_default}
use Rattle.std.proofs.lemmas.List.Elements.{All-append, All-cons, All-nil}
use Rattle.small_field.specs.Values.{entries_from, entry_of}
use Rattle.small_field.proofs.cochain.Cochain.sparse.Goals as goal

-- one value more
entries-snoc : (n : ℕ) (xs : List ℕ) (x : ℕ) → entries_from n (xs ++ x ∷ []) ≡ entries_from n xs ++ entry_of (n + length xs) x
entries-snoc n [] x = append-nil (entry_of n x) ∙ ap (λ k. entry_of k x) (omega arith)
entries-snoc n (y ∷ ys) x =
    ap (λ r. entry_of n y ++ r) (entries-snoc (n + 1) ys x) ∙ sym (append_assoc (entry_of n y) (entries_from (n + 1) ys) (entry_of (n + 1 + length ys) x))
    ∙ ap (λ k. (entry_of n y ++ entries_from (n + 1) ys) ++ entry_of k x) (omega arith)

one-entry : (b : Bool) (n x k : ℕ) → n ≤ k → All (λ (e : ℕ × ℕ). e.0 ≤ k) (cond b [] ((n, x) ∷ []))
one-entry true n x k l = All-nil (λ (e : ℕ × ℕ). e.0 ≤ k)
one-entry false n x k l = All-cons (λ (e : ℕ × ℕ). e.0 ≤ k) (n, x) [] l (All-nil (λ (e : ℕ × ℕ). e.0 ≤ k))

more : (xs : List ℕ) (i x : ℕ) (old now : List (ℕ × ℕ)) → i < length xs → x ≡ get_or xs i 0 → (old ≡ entries_from 1 (take i xs)) × All (λ (e : ℕ × ℕ). e.0 ≤ i) old → now ≡ old ++ entry_of (i + 1) x
    → (now ≡ entries_from 1 (take (i + 1) xs)) × All (λ (e : ℕ × ℕ). e.0 ≤ i + 1) now
more xs i x old now l e h p =
    let k : 1 + length (take i xs) ≡ i + 1 = omega (arith, length-take-le i xs (omega arith)) in (
      p ∙ ap (λ es. es ++ entry_of (i + 1) x) h.0 ∙ ap (λ n. entries_from 1 (take i xs) ++ entry_of n x) (sym k) ∙ sym (entries-snoc 1 (take i xs) x)
          ∙ ap (entries_from 1) (ap (λ y. take i xs ++ y ∷ []) e ∙ sym (take_more xs i 0 l)),
      subst (All (λ (e : ℕ × ℕ). e.0 ≤ i + 1)) (sym p)
          (All-append (λ (e : ℕ × ℕ). e.0 ≤ i + 1) old (entry_of (i + 1) x) (λ j d b. let w : (get_or old j d).0 ≤ i = h.1 j d b in omega arith) (one-entry (x == 0) (i + 1) x (i + 1) (omega arith))),
    )

pub loop-index-preserved : goal.loop-index-preserved
loop-index-preserved g c =
    more c.args.self.now c.loop-index.index c.index.result.now c.loop-index.entries c.push_value.new.entries
    (omega (arith, c.len-index-end.ensures, ap (λ (xs : List ℕ). length xs) c.self.view_is)) (c.index.ensures ∙ get_or_default c.self.inside.numbers.items c.loop-index.index c.index.result.now 0 (omega (arith, c.len-index-end.ensures)) ∙ ap (λ (xs : List ℕ). get_or xs c.loop-index.index 0) c.self.view_is) c.loop-index.invariant c.in_ok-push_value.ensures
