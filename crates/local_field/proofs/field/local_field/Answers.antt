use Rattle.std.proofs.Common.{◌≡◌, ℕ, List, ap, sym, ◌∙◌, subst}
use Rattle.face_poset.specs.declared.cells.Pair.{Pair}
use Rattle.face_poset.specs.Poset.{IsSpace}
use Rattle.order_complex.specs.Complex.{complex_of}
use Rattle.vector_field.specs.Pairs.{Field, counts_of}
use Rattle.local_field.specs.Numbered.{IsLocalField, local_field_of}
use Rattle.local_field.proofs.field.local_field.Goals as goal

field-same : (f : Field) (pairs : List Pair) (counts : List ℕ) → f.pairs ≡ pairs → f.counts ≡ counts → f ≡ record { pairs = pairs; counts = counts }
field-same f pairs counts e h = ap (λ (ps : List Pair). record { pairs = ps; counts = f.counts }) e ∙ ap (λ (ns : List ℕ). record { pairs = pairs; counts = ns }) h

pub returns-in-Ok : goal.returns-in-Ok
returns-in-Ok c =
    let space : List (List (List ℕ)) = c.args.regular.now in
    let listed = c.in_ok-pairs.ensures in
    let made = local_field_of space listed.collapse in
    let is : c.in-Ok.field ≡ made =
    field-same c.in-Ok.field made.pairs made.counts (c.in-Ok.ensures.pairs ∙ (c.deref.ensures.value ∙ listed.are)) (c.in-Ok.ensures.valid.counts ∙ ap (λ (s : List (List (List ℕ))). counts_of (complex_of s)) c.requires) in
    subst (IsLocalField space) (sym is) (c.local_pairs_are_fields.ensures space listed.collapse (subst IsSpace c.space.ensures.same c.cells-solids.ensures.valid) c.space.ensures.regular listed.collapsing)
