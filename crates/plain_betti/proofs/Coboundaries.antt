-- The rows of a coboundary, one after the other.
use Rattle.std.proofs.Common.{◌≡◌, ℕ, ◌+◌, ◌<◌, ◌≤◌, List, [], length, replicate, set, get_or, ap, ◌∙◌, arith}
use Rattle.small_field.specs.Field.{Ops}
use Rattle.order_complex.specs.Order.{IsOrdered}
use Rattle.order_complex.specs.Cochains.{mark, coboundary_on}
use Rattle.order_complex.specs.Ranks.{rows_on}
use Rattle.std.proofs.lemmas.List.{length-replicate}
use Rattle.plain_betti.proofs.Filling.{filled, filled_more, filled_all}
use Rattle.plain_betti.proofs.Markings.{marked, unmarked}

-- the row of a chain
abbrev pub row_on : Ops → (chains next : List (List ℕ)) → List ℕ → List ℕ
row_on F chains next b = coboundary_on F chains next (mark chains b)

module _ (F : Ops) (chains next : List (List ℕ)) where
  abbrev pub zero_rows : List (List ℕ)
  zero_rows = replicate (length chains) (replicate (length next) 0)

  -- the mark of a chain, and its removal
  pub marking : (row : ℕ) (old now : List ℕ) (place one : ℕ) → IsOrdered chains → row < length chains → old ≡ replicate (length chains) 0 → place ≡ row → one ≡ 1 → now ≡ set old place one → now ≡ mark chains (get_or chains row [])
  marking row old now place one o l h p e n =
      n ∙ ap (λ (x : List ℕ). set x place one) h ∙ ap (λ (k : ℕ). set (replicate (length chains) 0) k one) p ∙ ap (set (replicate (length chains) 0) row) e ∙ marked chains row o l

  pub unmarking : (row : ℕ) (old now after : List ℕ) (place one again none : ℕ) → row < length chains → old ≡ replicate (length chains) 0 → place ≡ row → one ≡ 1 → now ≡ set old place one → again ≡ row → none ≡ 0 → after ≡ set now again none → after ≡ replicate (length chains) 0
  unmarking row old now after place one again none l h p e n a z m =
      let first : now ≡ set (replicate (length chains) 0) row 1 = n ∙ ap (λ (x : List ℕ). set x place one) h ∙ ap (λ (k : ℕ). set (replicate (length chains) 0) k one) p ∙ ap (set (replicate (length chains) 0) row) e in
      m ∙ ap (λ (x : List ℕ). set x again none) first ∙ ap (λ (k : ℕ). set (set (replicate (length chains) 0) row 1) k none) a ∙ ap (set (set (replicate (length chains) 0) row 1) row) z ∙ unmarked chains row l

  -- one more row
  pub row_more : (row : ℕ) (now after : List (List ℕ)) (x : List ℕ) → row < length chains → now ≡ filled (row_on F chains next) row chains zero_rows → x ≡ mark chains (get_or chains row []) → after ≡ set now row (coboundary_on F chains next x) → after ≡ filled (row_on F chains next) (row + 1) chains zero_rows
  row_more row now after x l h e n =
      n ∙ ap (λ (rs : List (List ℕ)). set rs row (coboundary_on F chains next x)) h
      ∙ ap (λ (y : List ℕ). set (filled (row_on F chains next) row chains zero_rows) row (coboundary_on F chains next y)) e
      ∙ filled_more (row_on F chains next) row chains zero_rows [] (length-replicate (length chains) (replicate (length next) 0)) l

  -- all rows
  pub rows_all : (row : ℕ) (now : List (List ℕ)) → length chains ≤ row → now ≡ filled (row_on F chains next) row chains zero_rows → now ≡ rows_on F chains next
  rows_all row now l h = h ∙ filled_all (row_on F chains next) row chains zero_rows l (omega (arith, length-replicate (length chains) (replicate {A = ℕ} (length next) 0)))
