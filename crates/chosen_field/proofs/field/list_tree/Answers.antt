use Rattle.std.proofs.Common.{◌≡◌, ℕ, List, length, ◌∙◌, ap, arith}
use Rattle.std.proofs.lemmas.Result.{IfOk-weaker}
use Rattle.chosen_field.specs.Chosen.{tree, in_turn, listed}
use Rattle.chosen_field.specs.Rests.{left_of}
use Rattle.chosen_field.specs.Listings.{positive_at, links_at}
use Rattle.chosen_field.proofs.GivenUppers.{loose-within, loose-flags, distances-long, handed-uppers, tree-are-uppers, tree-listed}
use Rattle.chosen_field.proofs.field.list_tree.Goals as goal

pub flags_of-requires-clause-within : goal.flags_of-requires-clause-within
flags_of-requires-clause-within g c k d l =
    let r = loose-within (g.G.Graded.space c.args.graded.now) c.args.field.now c.requires.pairs c.requires.field c.critical.result.now c.critical.ensures.cells k d l in (r.0, omega (arith, r.1, c.cells.ensures.cells))

pub tree_edges-requires-clause-numbers : goal.tree_edges-requires-clause-numbers
tree_edges-requires-clause-numbers g c =
    ap (λ (ns : List ℕ). length ns) c.deref-3.ensures.value ∙ distances-long (g.G.Graded.space c.args.graded.now) (left_of c.deref.result.now) c.in_ok-numbers.numbers.items c.in_ok-numbers.ensures

pub list_pairs-requires-clause-uppers : goal.list_pairs-requires-clause-uppers
list_pairs-requires-clause-uppers g c =
    let space : List (List (List ℕ)) = g.G.Graded.space c.args.graded.now in
    tree-are-uppers space c.cells.ensures.valid c.requires.regular c.deref-4.result.now
    (handed-uppers space c.cells.ensures.valid c.requires.regular c.deref.result.now c.deref-2.result.now c.in_ok-loose.loose.items c.deref-3.result.now c.in_ok-numbers.numbers.items c.in_ok-edges.edges.items c.deref-4.result.now
    c.deref.ensures.value c.deref-2.ensures.value c.deref-3.ensures.value c.deref-4.ensures.value
    (loose-flags space c.args.field.now c.requires.pairs c.requires.field c.critical.result.now c.critical.ensures.cells c.in_ok-loose.loose.items c.critical.ensures.rise (c.in_ok-loose.ensures.len ∙ c.cells.ensures.cells) c.in_ok-loose.ensures.flags)
    c.in_ok-numbers.ensures c.in_ok-edges.ensures)

pub returns : goal.returns
returns g c =
    let space : List (List (List ℕ)) = g.G.Graded.space c.args.graded.now in
    IfOk-weaker c.list_pairs.result (λ pairs. pairs.items ≡ in_turn space 0 (links_at c.deref-4.result.now (positive_at c.deref-4.result.now))) (λ pairs. pairs.items ≡ listed space (tree space) 0)
    (λ pairs e. e
    ∙ tree-listed space c.cells.ensures.valid c.requires.regular c.deref-4.result.now
    (handed-uppers space c.cells.ensures.valid c.requires.regular c.deref.result.now c.deref-2.result.now c.in_ok-loose.loose.items c.deref-3.result.now c.in_ok-numbers.numbers.items c.in_ok-edges.edges.items c.deref-4.result.now
    c.deref.ensures.value c.deref-2.ensures.value c.deref-3.ensures.value c.deref-4.ensures.value
    (loose-flags space c.args.field.now c.requires.pairs c.requires.field c.critical.result.now c.critical.ensures.cells c.in_ok-loose.loose.items c.critical.ensures.rise (c.in_ok-loose.ensures.len ∙ c.cells.ensures.cells) c.in_ok-loose.ensures.flags)
    c.in_ok-numbers.ensures c.in_ok-edges.ensures))
    c.list_pairs.ensures
