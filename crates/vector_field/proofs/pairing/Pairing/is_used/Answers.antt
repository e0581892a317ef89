use Rattle.std.proofs.Common.{◌≡◌, ℕ, ◌≤◌, List, Bool, true, false, ◌||◌, Option, refl, ap, sym, ◌∙◌}
use Rattle.std.specs.Prelude.{is_some}
use Rattle.std.proofs.lemmas.Bool.{or_left, false≢true}
use Rattle.face_poset.specs.declared.cells.Pair.{Pair}
use Rattle.vector_field.specs.Pairs.{is_used, Field}
use Rattle.vector_field.specs.CellMaps.{at}
use Rattle.vector_field.specs.Pairings.{IsNoted}
use Rattle.vector_field.proofs.Noted.{is_used_by}
use Rattle.vector_field.proofs.pairing.Pairing.is_used.Goals as goal

-- what the two looks tell
told : (field : Field) (ps : List Pair) (uppers lowers : List (List (Option ℕ))) (dim cell : ℕ) (b : Bool) → IsNoted ps uppers lowers → ps ≡ field.pairs → 1 ≤ cell → b ≡ (is_some (at uppers dim cell) || is_some (at lowers dim cell)) → b ≡ is_used field.pairs dim cell
told field ps uppers lowers dim cell b h e low k =
    k ∙ (sym (is_used_by ps uppers lowers h dim cell (at uppers dim cell) (at lowers dim cell) low refl refl) ∙ ap (λ (qs : List Pair). is_used qs dim cell) e)

either : (a b r : Bool) → a ≡ false → r ≡ b → r ≡ (a || b)
either true b r e f = absurd (false≢true (sym e))
either false b r e f = f

pub returns-then-is_some : goal.returns-then-is_some
returns-then-is_some c =
    told c.args.self.now c.self.inside.pairs.items c.self.inside.uppers c.self.inside.lowers c.args.dim c.args.cell c.is_some.result c.self.invariant (ap (λ (f : Field). f.pairs) c.self.view_is) c.requires.0
    (c.if-is_some.true ∙ sym (or_left (is_some (at c.self.inside.uppers c.args.dim c.args.cell)) (is_some (at c.self.inside.lowers c.args.dim c.args.cell)) (ap is_some (sym c.get.ensures) ∙ (sym c.is_some.ensures ∙ c.if-is_some.true))))

pub returns-else-is_some : goal.returns-else-is_some
returns-else-is_some c =
    told c.args.self.now c.self.inside.pairs.items c.self.inside.uppers c.self.inside.lowers c.args.dim c.args.cell c.is_some-else-is_some.result c.self.invariant (ap (λ (f : Field). f.pairs) c.self.view_is) c.requires.0
    (either (is_some (at c.self.inside.uppers c.args.dim c.args.cell)) (is_some (at c.self.inside.lowers c.args.dim c.args.cell)) c.is_some-else-is_some.result (ap is_some (sym c.get.ensures) ∙ (sym c.is_some.ensures ∙ c.if-is_some.false))
    (c.is_some-else-is_some.ensures ∙ ap is_some c.get-else-is_some.ensures))
