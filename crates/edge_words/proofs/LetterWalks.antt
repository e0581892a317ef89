-- What letters do to the sheets of a table of permutations, and what words of such letters do.
use Rattle.std.proofs.Common.{◌≡◌, All, ℕ, zero, suc, List, [], ◌∷◌, ◌++◌, refl, ap, arith, sym, ◌∙◌, Bool, true, false, cond, ◌&&◌}
use Rattle.std.specs.Prelude.{ℤ, pos, negsuc, ◌==◌, Option, Some, None}
use Rattle.std.specs.List.{list_all}
use Rattle.std.proofs.lemmas.Bool.{and_from}
use Rattle.number_lists.specs.Members.{In, here, there}
use Rattle.number_lists.specs.Words.{upto}
use Rattle.number_lists.proofs.CallerLemmas.{upto-In}
use Rattle.pair_laws.specs.Letters.{inverse, same_letter, is_letter, are_letters, before, reduced, inverted, follow}
use Rattle.pair_laws.proofs.CallerLemmas.{follow_reduced}
use Rattle.sheet_laws.specs.Permutations.{InRange}
use Rattle.sheet_laws.specs.Tables.{column, is_table}
use Rattle.sheet_laws.proofs.CallerLemmas.{Turn, back-of-at, at-of-back}
use Rattle.live_laws.specs.Walks.{generator, move, trace, never_fails, AreLetters}
use Rattle.live_laws.proofs.CallerLemmas.{from-range, table-column, move-range, full_walks_follow}
use Rattle.edge_words.specs.Labels.{leads_home, satisfies}
use Rattle.edge_words.proofs.Ranges.{in_range, range-true, range-from}
use Rattle.edge_words.proofs.FreeWords.{inverted-twice}

-- ---- letters of some generators

pub generator-inverse : (g : ℤ) → generator (inverse g) ≡ generator g
generator-inverse (pos zero) = refl
generator-inverse (pos (suc g)) = refl
generator-inverse (negsuc g) = refl

pub letter-is : (c : ℕ) (g : ℤ) → InRange c (generator g) → is_letter g ≡ true
letter-is c (pos zero) h = absurd (omega (arith, h.0))
letter-is c (pos (suc n)) h = refl
letter-is c (negsuc n) h = refl

pub letters-are : (c : ℕ) (w : List ℤ) → AreLetters c w → are_letters w ≡ true
letters-are c [] h = refl
letters-are c (g ∷ w) h = and_from (is_letter g) (are_letters w) (letter-is c g h.0) (letters-are c w h.1)

pub letters-append : (c : ℕ) (u v : List ℤ) → AreLetters c u → AreLetters c v → AreLetters c (u ++ v)
letters-append c [] v h k = k
letters-append c (g ∷ u) v h k = (h.0, letters-append c u v h.1 k)

letters-before : (c : ℕ) (g : ℤ) (w : List ℤ) → InRange c (generator g) → AreLetters c w → AreLetters c (before g w)
letters-before c g [] r h = (r, tt)
letters-before c g (x ∷ w) r h = by (same_letter x (inverse g)) refl
  where
    by : (b : Bool) → same_letter x (inverse g) ≡ b → AreLetters c (before g (x ∷ w))
    by true e = rw e h.1
    by false e = rw e (r, h)

pub letters-reduced : (c : ℕ) (w : List ℤ) → AreLetters c w → AreLetters c (reduced w)
letters-reduced c [] h = tt
letters-reduced c (g ∷ w) h = letters-before c g (reduced w) h.0 (letters-reduced c w h.1)

pub letters-inverted : (c : ℕ) (w : List ℤ) → AreLetters c w → AreLetters c (inverted w)
letters-inverted c [] h = tt
letters-inverted c (g ∷ w) h = letters-append c (inverted w) (inverse g ∷ []) (letters-inverted c w h.1) (rw (generator-inverse g) h.0, tt)

-- ---- walks by letters

pub follow-append : (f : ℤ → ℕ → ℕ) (u v : List ℤ) (x : ℕ) → follow f (u ++ v) x ≡ follow f v (follow f u x)
follow-append f [] v x = refl
follow-append f (g ∷ u) v x = follow-append f u v (f g x)

-- letters that take sheets to sheets, where a letter and its inverse undo each other
module _ (m : ℕ) (f : ℤ → ℕ → ℕ) (keeps : (g : ℤ) (x : ℕ) → InRange m x → InRange m (f g x)) (undone : (g : ℤ) (x : ℕ) → InRange m x → f (inverse g) (f g x) ≡ x) where
  follow-into : (w : List ℤ) (x : ℕ) → InRange m x → InRange m (follow f w x)
  follow-into [] x r = r
  follow-into (g ∷ w) x r = follow-into w (f g x) (keeps g x r)

  follow-undone : (w : List ℤ) (x : ℕ) → InRange m x → follow f (inverted w) (follow f w x) ≡ x
  follow-undone [] x r = refl
  follow-undone (g ∷ w) x r =
      follow-append f (inverted w) (inverse g ∷ []) (follow f w (f g x)) ∙ (ap (f (inverse g)) (follow-undone w (f g x) (keeps g x r)) ∙ undone g x r)

  follow-short : (w : List ℤ) (x : ℕ) → InRange m x → follow f (reduced w) x ≡ follow f w x
  follow-short w x r =
      follow_reduced f (in_range m) (λ g y e. range-from m (f g y) (keeps g y (range-true m y e))) (λ g y e. undone g y (range-true m y e)) w x (range-from m x r)

-- ---- the letters of a table

module _ (c m : ℕ) (cells : List ℕ) (table : is_table c m cells ≡ true) where
  move-undone : (g : ℤ) (x : ℕ) → InRange c (generator g) → InRange m x → move c m cells (inverse g) (move c m cells g x) ≡ x
  move-undone (pos zero) x r q = absurd (omega (arith, r.0))
  move-undone (pos (suc g)) x r q = back-of-at m (column c m cells (suc g)) (table-column c m cells table (suc g) r) x q
  move-undone (negsuc g) x r q = at-of-back m (column c m cells (suc g)) (table-column c m cells table (suc g) r) x q

  -- any other letter leaves each sheet where it is
  whole : ℤ → ℕ → ℕ
  whole g x = cond (in_range c (generator g)) (move c m cells g x) x

  whole-keeps : (g : ℤ) (x : ℕ) → InRange m x → InRange m (whole g x)
  unfolding whole
  whole-keeps g x q = by (in_range c (generator g)) refl
    where
      by : (b : Bool) → in_range c (generator g) ≡ b → InRange m (cond b (move c m cells g x) x)
      by true e = move-range c m cells table g x (range-true c (generator g) e) q
      by false e = q

  whole-undone : (g : ℤ) (x : ℕ) → InRange m x → whole (inverse g) (whole g x) ≡ x
  unfolding whole
  whole-undone g x q =
      ap (λ (n : ℕ). cond (in_range c n) (move c m cells (inverse g) (whole g x)) (whole g x)) (generator-inverse g) ∙ by (in_range c (generator g)) refl
    where
      by : (b : Bool) → in_range c (generator g) ≡ b → cond b (move c m cells (inverse g) (cond b (move c m cells g x) x)) (cond b (move c m cells g x) x) ≡ x
      by true e = move-undone g x (range-true c (generator g) e) q
      by false e = refl

  whole-move : (w : List ℤ) (x : ℕ) → AreLetters c w → follow whole w x ≡ follow (move c m cells) w x
  unfolding whole
  whole-move [] x h = refl
  whole-move (g ∷ w) x h =
      ap (λ (b : Bool). follow whole w (cond b (move c m cells g x) x)) (range-from c (generator g) h.0) ∙ whole-move w (move c m cells g x) h.1

  -- a word permutes the sheets, and its inverse undoes it
  pub word-turn : (w : List ℤ) → AreLetters c w → Turn m (follow (move c m cells) w)
  word-turn w h = record {
    inv = follow (move c m cells) (inverted w);
    into = into w h;
    inv_into = into (inverted w) (letters-inverted c w h);
    left = undone w h;
    right = λ x r. ap (λ (v : List ℤ). follow (move c m cells) v (follow (move c m cells) (inverted w) x)) (sym (inverted-twice w)) ∙ undone (inverted w) (letters-inverted c w h) x r;
  }
    where
      into : (w : List ℤ) → AreLetters c w → (x : ℕ) → InRange m x → InRange m (follow (move c m cells) w x)
      into w h x r = rw (whole-move w x h) at (follow-into m whole whole-keeps whole-undone w x r)

      undone : (w : List ℤ) → AreLetters c w → (x : ℕ) → InRange m x → follow (move c m cells) (inverted w) (follow (move c m cells) w x) ≡ x
      undone w h x r =
          sym (whole-move (inverted w) (follow (move c m cells) w x) (letters-inverted c w h))
          ∙ (ap (follow whole (inverted w)) (sym (whole-move w x h)) ∙ follow-undone m whole whole-keeps whole-undone w x r)

  pub word-back : (w : List ℤ) → (h : AreLetters c w) → (x : ℕ) → (word-turn w h).inv x ≡ follow (move c m cells) (inverted w) x
  unfolding word-turn
  word-back w h x = refl

  -- the reduced word leads as the word does
  pub word-short : (w : List ℤ) → AreLetters c w → (x : ℕ) → InRange m x → follow (move c m cells) (reduced w) x ≡ follow (move c m cells) w x
  word-short w h x r = sym (whole-move (reduced w) x (letters-reduced c w h)) ∙ (follow-short m whole whole-keeps whole-undone w x r ∙ whole-move w x h)

-- in a whole table no walk by a word fails exactly where the word leads home
pub home-is : (c m : ℕ) (cells : List ℕ) (w : List ℤ) → is_table c m cells ≡ true → AreLetters c w → never_fails c m cells w ≡ leads_home c m cells w
home-is c m cells w table h =
    ap (λ (xs : List ℕ). list_all (λ s. elim (trace c m cells w s) [ None ↦ true | Some t ↦ t == s ]) xs) (from-range 1 m)
    ∙ same-all (upto m) (λ x i. ap (λ (o : Option ℕ). elim o [ None ↦ true | Some t ↦ t == x ]) (full_walks_follow c m cells w x table h (upto-In m x i)))
  where
    same-all : (xs : List ℕ)
        → ((x : ℕ) → In x xs → (elim (trace c m cells w x) [ None ↦ true | Some t ↦ t == x ]) ≡ (follow (move c m cells) w x == x))
        → list_all (λ s. elim (trace c m cells w s) [ None ↦ true | Some t ↦ t == s ]) xs ≡ list_all (λ x. follow (move c m cells) w x == x) xs
    same-all [] k = refl
    same-all (x ∷ xs) k =
        ap (λ (b : Bool). b && list_all (λ s. elim (trace c m cells w s) [ None ↦ true | Some t ↦ t == s ]) xs) (k x here)
        ∙ ap (λ (b : Bool). (follow (move c m cells) w x == x) && b) (same-all xs (λ y i. k y (there i)))

-- and so it is with words
pub satisfied-is : (c m : ℕ) (cells : List ℕ) (ws : List (List ℤ)) → is_table c m cells ≡ true → All (AreLetters c) ws → list_all (never_fails c m cells) ws ≡ satisfies c m cells ws
satisfied-is c m cells [] table h = refl
satisfied-is c m cells (w ∷ ws) table h =
    ap (λ (b : Bool). b && list_all (never_fails c m cells) ws) (home-is c m cells w table (h 0 [] (omega arith)))
    ∙ ap (λ (b : Bool). leads_home c m cells w && b) (satisfied-is c m cells ws table (λ k d l. h (suc k) d (omega (arith, l))))
