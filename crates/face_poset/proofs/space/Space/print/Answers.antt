use Rattle.std.proofs.Common.{ℕ, List, subst}
use Rattle.face_poset.specs.Text.{boundary_text}
use Rattle.face_poset.specs.Laws.{ReadsAs}
use Rattle.face_poset.proofs.ReadBack.{reads_back}
use Rattle.face_poset.proofs.space.Space.print.Goals as goal

pub returns-clause-reads : goal.returns-clause-reads
returns-clause-reads g c =
    subst (λ (s : List (List (List ℕ))). ReadsAs (boundary_text s) s) c.self.view_is (reads_back c.self.inside.facets c.self.invariant.0 c.self.invariant.1)
