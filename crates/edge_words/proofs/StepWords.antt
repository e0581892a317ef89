-- Words of edges, one put anew; and words of steps.
use Rattle.std.proofs.Common.{◌≡◌, ℕ, zero, suc, ◌-◌, ◌<◌, ◌≤◌, List, [], ◌∷◌, ◌++◌, length, set, get_or, refl, ap, arith, sym, ◌∙◌, subst, Bool, true, false, cond}
use Rattle.std.specs.Prelude.{ℤ}
use Rattle.std.proofs.lemmas.List.{get_or-set_same, get_or-set_other, append_assoc}
use Rattle.number_lists.specs.Members.{In, here, there}
use Rattle.regular_check.specs.declared.cycles.Step.{Step}
use Rattle.pair_laws.specs.Letters.{are_letters, inverted}
use Rattle.pair_laws.proofs.CallerLemmas.{letters, letters_inverted}
use Rattle.sheet_laws.specs.Permutations.{InRange}
use Rattle.sheet_laws.proofs.CallerLemmas.{AreWithin}
use Rattle.edge_words.specs.Words.{word_at, step_word, word_of}

-- ---- words that are put anew

pub word-same : (ws : List (List ℤ)) (e : ℕ) (w : List ℤ) → InRange (length ws) e → word_at (set ws (e - 1) w) e ≡ w
word-same ws e w r = get_or-set_same ws (e - 1) w [] (omega (arith, r.0, r.1))

pub word-other : (ws : List (List ℤ)) (e d : ℕ) (w : List ℤ) → 1 ≤ e → 1 ≤ d → (d ≡ e → ⊥) → word_at (set ws (e - 1) w) d ≡ word_at ws d
word-other ws e d w l k n = get_or-set_other ws (e - 1) (d - 1) w [] (λ x. n (omega (arith, x, l, k)))

-- what holds of the word of each edge holds of each word
pub each-word : (P : List ℤ → Type 0) (n : ℕ) (ws : List (List ℤ)) → length ws ≡ n → ((e : ℕ) → InRange n e → P (word_at ws e)) → (w : List ℤ) → In w ws → P w
each-word P n ws long h w i =
    let k = place i in
    let e : suc k.0 - 1 ≡ k.0 = omega arith in
    subst P (ap (λ (j : ℕ). get_or ws j []) e ∙ k.2) (h (suc k.0) (omega arith, omega (arith, k.1, long)))
  where
    place : {w : List ℤ} {vs : List (List ℤ)} → In w vs → (k : ℕ) × (k < length vs) × (get_or vs k [] ≡ w)
    place here = (zero, omega arith, refl)
    place (there h) = let r = place h in (suc r.0, omega (arith, r.1), r.2)

-- ---- words of steps

pub word_of-append : (ws : List (List ℤ)) (xs ys : List Step) → word_of ws (xs ++ ys) ≡ word_of ws xs ++ word_of ws ys
word_of-append ws [] ys = refl
word_of-append ws (s ∷ xs) ys =
    ap (λ (w : List ℤ). step_word ws s ++ w) (word_of-append ws xs ys) ∙ sym (append_assoc (step_word ws s) (word_of ws xs) (word_of ws ys))

-- words that agree on the edges of steps
pub word_of-agree : (ws vs : List (List ℤ)) (ss : List Step) → ((t : Step) → In t ss → word_at ws t.edge ≡ word_at vs t.edge) → word_of ws ss ≡ word_of vs ss
word_of-agree ws vs [] h = refl
word_of-agree ws vs (s ∷ ss) h =
    ap (λ (w : List ℤ). cond s.forward w (inverted w) ++ word_of ws ss) (h s here)
    ∙ ap (λ (w : List ℤ). step_word vs s ++ w) (word_of-agree ws vs ss (λ t i. h t (there i)))

-- where the words of edges have letters alone, so do the words of steps
pub word_of-are_letters : (n : ℕ) (ws : List (List ℤ)) → ((e : ℕ) → InRange n e → are_letters (word_at ws e) ≡ true) → (ss : List Step) → AreWithin n ss → are_letters (word_of ws ss) ≡ true
word_of-are_letters n ws h [] r = refl
word_of-are_letters n ws h (s ∷ ss) r =
    letters (step_word ws s) (word_of ws ss) (by s.forward) (word_of-are_letters n ws h ss (λ t i. r t (there i)))
  where
    by : (b : Bool) → are_letters (cond b (word_at ws s.edge) (inverted (word_at ws s.edge))) ≡ true
    by true = h s.edge (r s here)
    by false = letters_inverted (word_at ws s.edge) (h s.edge (r s here))
