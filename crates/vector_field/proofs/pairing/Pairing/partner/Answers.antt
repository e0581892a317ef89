use Rattle.std.proofs.Common.{◌≡◌, ℕ, ◌+◌, get_or, arith, List, false, ap, sym, ◌∙◌, subst}
use Rattle.number_lists.specs.Members.{In}
use Rattle.face_poset.specs.declared.cells.Pair.{Pair}
use Rattle.vector_field.specs.Pairs.{pair, is_used, Field}
use Rattle.std.proofs.lemmas.Bool.{false≢true}
use Rattle.vector_field.proofs.Noted.{lower_above, unused, unused_past, length-row}
use Rattle.vector_field.proofs.pairing.Pairing.partner.Goals as goal

pub returns-in-Some-get : goal.returns-in-Some-get
returns-in-Some-get c =
    subst (λ (ps : List Pair). (below : ℕ) × (c.args.dim ≡ below + 1) × In (pair below c.in-Some-get.lower c.args.cell) ps) (ap (λ (f : Field). f.pairs) c.self.view_is)
    (lower_above c.self.inside.pairs.items c.self.inside.uppers c.self.inside.lowers c.self.invariant c.args.dim c.args.cell c.in-Some-get.lower (c.has.ensures.0 c.if-not-has.false).0 (sym c.in-Some-get.ensures))

pub returns-in-None-get : goal.returns-in-None-get
returns-in-None-get c =
    subst (λ (ps : List Pair). is_used ps c.args.dim c.args.cell ≡ false) (ap (λ (f : Field). f.pairs) c.self.view_is)
    (unused c.self.inside.pairs.items c.self.inside.uppers c.self.inside.lowers c.self.invariant c.args.dim c.args.cell (sym c.in-None.ensures) (sym c.in-None-get.ensures))

pub returns-then-not-has : goal.returns-then-not-has
returns-then-not-has c =
    subst (λ (ps : List Pair). is_used ps c.args.dim c.args.cell ≡ false) (ap (λ (f : Field). f.pairs) c.self.view_is)
    (unused_past c.self.inside.pairs.items c.self.inside.uppers c.self.inside.lowers c.self.invariant c.args.dim c.args.cell (λ w. false≢true (sym c.if-not-has.true ∙ c.has.ensures.1 w)))

pub get-requires-in-None-clause-last : goal.get-requires-in-None-clause-last
get-requires-in-None-clause-last c =
    omega (arith, (c.has.ensures.0 c.if-not-has.false).1, length-row c.self.inside.uppers c.args.dim, length-row c.self.inside.lowers c.args.dim, ap (λ (ns : List ℕ). get_or ns c.args.dim 0) c.self.invariant.same)
