-- The cells of words: edges and 2-cells that are there.
use Rattle.std.proofs.Common.{◌≡◌, ℕ, ◌≤◌, ◌+◌, Bool, true, false, List, [], ◌∷◌, Option, Some, None, filter, length, refl, sym, ap, subst, arith, inl, inr}
use Rattle.std.specs.Prelude.{ℤ, ◌||◌, ◌==◌, nat_lt, not, if◌then◌else◌}
use Rattle.std.proofs.lemmas.Option.{same_Some}
use Rattle.std.proofs.lemmas.Bool.{eqb-true}
use Rattle.number_lists.specs.Words.{upto}
use Rattle.number_lists.specs.Members.{In, here, there}
use Rattle.number_lists.proofs.CallerLemmas.{append-In, map-In, filter-In, In-inside, upto-In}
use Rattle.face_poset.specs.declared.cells.Cell.{Cell}
use Rattle.face_poset.specs.declared.cells.Pair.{Pair}
use Rattle.face_poset.specs.Poset.{Layers, count}
use Rattle.face_poset.specs.Below.{cell_at}
use Rattle.vector_field.specs.Pairs.{IsValid, is_used}
use Rattle.vector_field.proofs.CallerLemmas.{lined-from, incident-true}
use Rattle.sheet_laws.specs.Lifts.{critical_edges, columns_of}
use Rattle.edge_words.specs.Words.{words, word_at, cycle_word, critical_disks}
use Rattle.edge_words.specs.Limits.{most_letters, most_letters_in_all, edge_words, disk_words, measured, first_long, too_long}

pub record IsCell (space : Layers) (cell : Cell) : Type 0 where
  pub first : 1 ≤ cell.number
  pub last : cell.number ≤ count space cell.dim
  pub few : count space cell.dim ≤ count space 1 + count space 2

-- a cell of a measured word, here or later
one-In : (b : Bool) (c cell : Cell) (w : List ℤ) (ms : List (Cell × List ℤ)) (rest : Option Cell)
    → (if b then Some c else rest) ≡ Some cell → (rest ≡ Some cell → (word : List ℤ) × In (cell, word) ms) → (word : List ℤ) × In (cell, word) ((c, w) ∷ ms)
one-In true c cell w ms rest e k = (w, subst (λ (d : Cell). In (d, w) ((c, w) ∷ ms)) (same_Some c cell e) here)
one-In false c cell w ms rest e k = let r = k e in (r.0, there r.1)

-- the first long word is one of them
first-In : (sum : ℕ) (ms : List (Cell × List ℤ)) (cell : Cell) → first_long sum ms ≡ Some cell → (word : List ℤ) × In (cell, word) ms
first-In sum [] cell e = absurd (let bad : None ≡ Some cell = e in cc)
first-In sum ((c, w) ∷ ms) cell e =
    one-In (nat_lt most_letters (length w) || nat_lt most_letters_in_all (sum + length w)) c cell w ms (first_long (sum + length w) ms) e (λ f. first-In (sum + length w) ms cell f)

left-few : (a b : ℕ) → a ≤ a + b
left-few a b = omega arith

right-few : (a b : ℕ) → b ≤ a + b
right-few a b = omega arith

-- edges and 2-cells
edge-there : (space : Layers) (pairs : List Pair) (ws : List (List ℤ)) (cell : Cell) (word : List ℤ) → IsValid space pairs → In (cell, word) (edge_words ws pairs) → IsCell space cell
edge-there space pairs ws cell word v m =
    let r = map-In (λ (p : Pair). (cell_at 1 p.lower, word_at ws p.lower)) (filter (λ (p : Pair). p.dim == 1) pairs) m in
    let one : r.0.dim ≡ 1 = eqb-true r.0.dim 1 (filter-In (λ (p : Pair). p.dim == 1) pairs r.1) in
    let i = incident-true space r.0 ((lined-from space pairs v).incident r.0 (In-inside (λ (p : Pair). p.dim == 1) pairs r.1)) in
    subst (IsCell space) (sym (ap (λ (q : Cell × List ℤ). q.0) r.2)) (record { first = i.first; last = subst (λ (d : ℕ). r.0.lower ≤ count space d) one i.last; few = left-few (count space 1) (count space 2) })

disk-there : (space : Layers) (pairs : List Pair) (ws : List (List ℤ)) (cell : Cell) (word : List ℤ) → In (cell, word) (disk_words space ws pairs) → IsCell space cell
disk-there space pairs ws cell word m =
    let r = map-In (λ c. (cell_at 2 c, cycle_word space ws c)) (critical_disks space pairs) m in
    let u = upto-In (count space 2) r.0 (In-inside (λ c. not (is_used pairs 2 c)) (upto (count space 2)) r.1) in
    subst (IsCell space) (sym (ap (λ (q : Cell × List ℤ). q.0) r.2)) (record { first = u.0; last = u.1; few = right-few (count space 1) (count space 2) })

pub long-there : (space : Layers) (pairs : List Pair) (cell : Cell) → IsValid space pairs → too_long space pairs ≡ Some cell → IsCell space cell
long-there space pairs cell v e =
    let r = first-In (columns_of space pairs) (measured space pairs) cell e in
    let ws = words space pairs in
    elim (append-In (edge_words ws pairs) (disk_words space ws pairs) r.1) [
      | inl m ↦ edge-there space pairs ws cell r.0 v m
      | inr m ↦ disk-there space pairs ws cell r.0 m
    ]

-- where there is no edge and no 2-cell, no word is too long
pub none-long : (space : Layers) (pairs : List Pair) → IsValid space pairs → count space 1 ≡ 0 → count space 2 ≡ 0 → too_long space pairs ≡ None
none-long space pairs v e f = no-cell (too_long space pairs) (λ cell h. let i = long-there space pairs cell v h in omega (arith, i.first, i.last, i.few, e, f))
  where
    no-cell : (o : Option Cell) → ((cell : Cell) → o ≡ Some cell → ⊥) → o ≡ None
    no-cell None h = refl
    no-cell (Some cell) h = absurd (h cell refl)

-- generators are edges
pub generator-there : (space : Layers) (pairs : List Pair) (e : ℕ) → In e (critical_edges space pairs) → (1 ≤ e) × (e ≤ count space 1)
generator-there space pairs e m = upto-In (count space 1) e (In-inside (λ c. not (is_used pairs 1 c)) (upto (count space 1)) m)
