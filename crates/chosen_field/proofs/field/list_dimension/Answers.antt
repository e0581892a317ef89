use Rattle.std.proofs.Common.{◌≡◌, ◌+◌, ℕ, List, map, ◌∙◌, ap, arith}
use Rattle.std.proofs.lemmas.Result.{IfOk-weaker}
use Rattle.face_poset.specs.declared.cells.Pair.{Pair}
use Rattle.number_lists.specs.Words.{upto}
use Rattle.face_poset.specs.Poset.{count}
use Rattle.chosen_field.specs.Chosen.{upper_of, in_turn, listed}
use Rattle.chosen_field.specs.Listings.{positive_at, links_at}
use Rattle.chosen_field.proofs.GivenUppers.{map-more, partner-upper, field-are-uppers, field-listed}
use Rattle.chosen_field.proofs.field.list_dimension.Goals as goal

pub loop-index-preserved : goal.loop-index-preserved
loop-index-preserved g c =
    map-more (upper_of c.args.field.now.pairs c.args.dim) c.loop-index.uppers.items c.push.new.self.items c.loop-index.index c.upper_number.result c.loop-index.invariant c.in_ok-push.ensures.items
    (c.upper_number.ensures ∙ partner-upper (g.G.Graded.space c.args.graded.now) c.args.dim c.args.field.now.pairs c.requires.field.valid (c.loop-index.index + 1) c.partner.result c.partner.ensures)

-- all uppers, as they are handed on
all_uppers : (ps : List Pair) (dim n index : ℕ) (items uppers : List ℕ) → items ≡ map (upper_of ps dim) (upto index) → index ≡ n → uppers ≡ items → uppers ≡ map (upper_of ps dim) (upto n)
all_uppers ps dim n index items uppers e f h = h ∙ (e ∙ ap (λ (k : ℕ). map (upper_of ps dim) (upto k)) f)

pub list_pairs-requires-clause-uppers : goal.list_pairs-requires-clause-uppers
list_pairs-requires-clause-uppers g c =
    let space : List (List (List ℕ)) = g.G.Graded.space c.args.graded.now in
    field-are-uppers space c.args.dim c.args.field.now.pairs c.requires.field.valid c.deref.result.now
    (all_uppers c.args.field.now.pairs c.args.dim (count space c.args.dim) c.loop-index.index c.loop-index.uppers.items c.deref.result.now c.loop-index.invariant (omega (arith, c.loop-index-test.false, c.loop-index.auto.index-end, c.cells-index-end.ensures.cells)) c.deref.ensures.value)

pub returns : goal.returns
returns g c =
    let space : List (List (List ℕ)) = g.G.Graded.space c.args.graded.now in
    IfOk-weaker c.list_pairs.result (λ pairs. pairs.items ≡ in_turn space c.args.dim (links_at c.deref.result.now (positive_at c.deref.result.now))) (λ pairs. pairs.items ≡ listed space c.args.field.now.pairs c.args.dim)
    (λ pairs e. e
    ∙ field-listed space c.args.dim c.args.field.now.pairs c.requires.field.valid c.deref.result.now
    (all_uppers c.args.field.now.pairs c.args.dim (count space c.args.dim) c.loop-index.index c.loop-index.uppers.items c.deref.result.now c.loop-index.invariant (omega (arith, c.loop-index-test.false, c.loop-index.auto.index-end, c.cells-index-end.ensures.cells)) c.deref.ensures.value))
    c.list_pairs.ensures
