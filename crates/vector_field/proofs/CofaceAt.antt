-- The cofaces that a call hands out.
use Rattle.std.proofs.Common.{◌≡◌, ℕ, ◌+◌, ◌<◌, List, length, get_or, subst, arith}
use Rattle.face_poset.specs.Poset.{cofaces_of}
use Rattle.vector_field.specs.Pairs.{counts_of}
use Rattle.vector_field.specs.Pairings.{HasCell}
use Rattle.number_lists.specs.Members.{In}
use Rattle.number_lists.proofs.CallerLemmas.{at-In}
use Rattle.vector_field.proofs.MaximalTest.{Coface, cofaces-In}
use Rattle.vector_field.proofs.InRange.{has_cell}

module _ (space : List (List (List ℕ))) (dim cell : ℕ) (uppers : List ℕ) (same : uppers ≡ cofaces_of space dim cell) where
  pub coface_in : (i : ℕ) → i < length uppers → In (get_or uppers i 0) (cofaces_of space dim cell)
  coface_in i l = subst (λ (us : List ℕ). In (get_or uppers i 0) us) same (at-In uppers i 0 l)

  pub coface_at : (i : ℕ) → i < length uppers → Coface space dim cell (get_or uppers i 0)
  coface_at i l = cofaces-In space dim cell (get_or uppers i 0) (coface_in i l)

  pub coface_cell : (counts : List ℕ) (i : ℕ) → counts ≡ counts_of space → dim < 3 → i < length uppers → HasCell counts (dim + 1) (get_or uppers i 0)
  coface_cell counts i e d l = let k = coface_at i l in has_cell space counts (dim + 1) (get_or uppers i 0) e (omega arith) k.first k.last
