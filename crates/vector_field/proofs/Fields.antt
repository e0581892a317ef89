-- A valid field has each upper once.
use Rattle.std.proofs.Common.{◌≡◌, inl, inr, ℕ, ◌+◌, ◌<◌, ◌≤◌, List, not, length, get_or, ap, sym, ◌∙◌, subst, arith}
use Rattle.number_lists.specs.Words.{upto}
use Rattle.face_poset.specs.Poset.{count}
use Rattle.vector_field.specs.Pairs.{Field, IsFieldOf, is_used, unpaired, critical_of}
use Rattle.face_poset.specs.declared.cells.Pair.{Pair}
use Rattle.vector_field.specs.Pairings.{HasCells, IsPairing}
use Rattle.number_lists.specs.Members.{In}
use Rattle.number_lists.proofs.CallerLemmas.{In-inside, at-In, upto-In}
use Rattle.vector_field.proofs.Lined.{lined-two}
use Rattle.vector_field.proofs.Valid.{Goes, IsLined, lined-from}
use Rattle.vector_field.proofs.MaximalTest.{Incident}
use Rattle.vector_field.proofs.InRange.{has_cell}
use Rattle.vector_field.proofs.Places.{count-at}

pub pairing-from : (space : List (List (List ℕ))) (field : Field) → IsFieldOf space field → IsPairing space field
pairing-from space field h =
    let l : IsLined space field.pairs = lined-from space field.pairs h.valid in
    record {
      counts = h.counts;
      incident = λ p m. l.incident p m;
      one_lower = λ p q m n d u. elim (lined-two (Goes space) field.pairs l.lined p q m n) [
        | inl e ↦ e
        | inr k ↦ elim k [ inl g ↦ absurd (g.apart.1 (inr (ap (λ (j : ℕ). j + 1) d, u))) | inr g ↦ absurd (g.apart.1 (inr (ap (λ (j : ℕ). j + 1) (sym d), sym u))) ]
      ];
    }

-- the critical cells of a dimension are those in no pair
pub critical-is : (space : List (List (List ℕ))) (field : Field) (dim : ℕ) → IsFieldOf space field → dim ≤ 3 → critical_of field dim ≡ unpaired field.pairs dim (count space dim)
critical-is space field dim h l = ap (unpaired field.pairs dim) (ap (λ (ns : List ℕ). get_or ns dim 0) h.counts ∙ count-at space dim l)

pub critical_at : (space : List (List (List ℕ))) (field : Field) (dim : ℕ) (lowers : List ℕ) (i : ℕ) → IsFieldOf space field → dim ≤ 3 → lowers ≡ critical_of field dim → i < length lowers → (1 ≤ get_or lowers i 0) × (get_or lowers i 0 ≤ count space dim)
critical_at space field dim lowers i h l e lt =
    upto-In (count space dim) (get_or lowers i 0)
    (In-inside (λ cell. not (is_used field.pairs dim cell)) (upto (count space dim))
    (subst (λ (xs : List ℕ). In (get_or lowers i 0) xs) (e ∙ critical-is space field dim h l) (at-In lowers i 0 lt)))

-- the cells of an incident pair are there
pub field-cells : (space : List (List (List ℕ))) (field : Field) (p : Pair) → IsFieldOf space field → Incident space p → HasCells field.counts p
field-cells space field p h i = record {
  low = i.low;
  lower = has_cell space field.counts p.dim p.lower h.counts (omega (arith, i.low)) i.first i.last;
  upper = has_cell space field.counts (p.dim + 1) p.upper h.counts (omega (arith, i.low)) i.upper_first i.upper_last;
}
