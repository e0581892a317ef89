-- Sums of letters, one part after another.
use Rattle.std.proofs.Common.{◌≡◌, ℕ, ◌+◌, ◌≤◌, List, [], ◌∷◌, ◌++◌, length, refl, ap, sym, ◌∙◌, arith, Bool, true, false, cond, Some, None}
use Rattle.std.specs.Prelude.{ℤ, ◌||◌, nat_lt}
use Rattle.face_poset.specs.declared.cells.Cell.{Cell}
use Rattle.edge_words.specs.declared.fault.WordFault.{WordFault}
use Rattle.edge_words.specs.declared.fault.WordFault.TheVariants.{TooLong, Memory}
use Rattle.edge_words.specs.Limits.{most_letters, most_letters_in_all, first_long, IsFault}
use Rattle.edge_words.specs.Counting.{letters_in, IsCounted}

letters_in-append : (ms ns : List (Cell × List ℤ)) → letters_in (ms ++ ns) ≡ letters_in ms + letters_in ns
letters_in-append [] ns = omega arith
letters_in-append ((cell, word) ∷ ms) ns = ap (λ (k : ℕ). length word + k) (letters_in-append ms ns) ∙ omega arith

-- where no word of the first part is too long, the second part decides
first_long-passed : (old : ℕ) (ms ns : List (Cell × List ℤ)) → first_long old ms ≡ None → first_long old (ms ++ ns) ≡ first_long (old + letters_in ms) ns
first_long-passed old [] ns e = ap (λ (k : ℕ). first_long k ns) (omega arith)
first_long-passed old ((cell, word) ∷ ms) ns e = by (nat_lt most_letters (length word) || nat_lt most_letters_in_all (old + length word)) e (λ k. first_long-passed (old + length word) ms ns k)
  where
    by : (b : Bool) → cond b (Some cell) (first_long (old + length word) ms) ≡ None → (first_long (old + length word) ms ≡ None → first_long (old + length word) (ms ++ ns) ≡ first_long (old + length word + letters_in ms) ns) → cond b (Some cell) (first_long (old + length word) (ms ++ ns)) ≡ first_long (old + (length word + letters_in ms)) ns
    by true k r = absurd (grind (arith, k))
    by false k r = r k ∙ ap (λ (k : ℕ). first_long k ns) (omega arith)

first_long-stopped : (old : ℕ) (ms ns : List (Cell × List ℤ)) (c : Cell) → first_long old ms ≡ Some c → first_long old (ms ++ ns) ≡ Some c
first_long-stopped old [] ns c e = absurd (grind (arith, e))
first_long-stopped old ((cell, word) ∷ ms) ns c e = by (nat_lt most_letters (length word) || nat_lt most_letters_in_all (old + length word)) e (λ k. first_long-stopped (old + length word) ms ns c k)
  where
    by : (b : Bool) → cond b (Some cell) (first_long (old + length word) ms) ≡ Some c → (first_long (old + length word) ms ≡ Some c → first_long (old + length word) (ms ++ ns) ≡ Some c) → cond b (Some cell) (first_long (old + length word) (ms ++ ns)) ≡ Some c
    by true k r = k
    by false k r = r k

pub counted-none : (old : ℕ) → old ≤ 50000000 → IsCounted old [] old
counted-none old l = record { short = refl; sum = omega arith; within = l }

pub counted-append : (old mid new : ℕ) (ms ns : List (Cell × List ℤ)) → IsCounted old ms mid → IsCounted mid ns new → IsCounted old (ms ++ ns) new
counted-append old mid new ms ns h k = record {
  short = first_long-passed old ms ns h.short ∙ (ap (λ (s : ℕ). first_long s ns) (sym h.sum) ∙ k.short);
  sum = omega (arith, h.sum, k.sum, letters_in-append ms ns);
  within = k.within;
}

-- a fault in the part that comes next is the fault of the whole
pub fault-next : (old mid : ℕ) (ms ns more : List (Cell × List ℤ)) (fault : WordFault) → IsCounted old ms mid → IsFault (first_long mid ns) fault → IsFault (first_long old (ms ++ (ns ++ more))) fault
fault-next old mid ms ns more Memory h k = tt
fault-next old mid ms ns more (TooLong cell) h k =
    first_long-passed old ms (ns ++ more) h.short ∙ (ap (λ (s : ℕ). first_long s (ns ++ more)) (sym h.sum) ∙ first_long-stopped mid ns more cell k)

pub fault-first : (old : ℕ) (ms more : List (Cell × List ℤ)) (fault : WordFault) → IsFault (first_long old ms) fault → IsFault (first_long old (ms ++ more)) fault
fault-first old ms more Memory k = tt
fault-first old ms more (TooLong cell) k = first_long-stopped old ms more cell k

pub fault-second : (old mid : ℕ) (ms ns : List (Cell × List ℤ)) (fault : WordFault) → IsCounted old ms mid → IsFault (first_long mid ns) fault → IsFault (first_long old (ms ++ ns)) fault
fault-second old mid ms ns Memory h k = tt
fault-second old mid ms ns (TooLong cell) h k = first_long-passed old ms ns h.short ∙ (ap (λ (s : ℕ). first_long s ns) (sym h.sum) ∙ k)
