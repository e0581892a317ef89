use Rattle.std.proofs.Common.{◌≡◌, ◌-◌, ◌<◌, ◌≤◌, ℕ, List, [], true, length, get_or, ap, sym, ◌∙◌, subst, arith, All}
use Rattle.std.proofs.lemmas.List.FromFn.{length-map-range_with_len, get_or-map-range_with_len}
use Rattle.number_lists.specs.Words.{holds}
use Rattle.number_lists.specs.Cofaces.{cells_with, coface_lists}
use Rattle.number_lists.specs.Found.{inserted}
use Rattle.number_lists.proofs.CallerLemmas.{In-holds, at-In}
use Rattle.sphere_collapses.specs.Trees.{IsLink, HasEnds}
use Rattle.sphere_collapses.proofs.Trees.{passed-begun, passed-more, passed-all}
use Rattle.sphere_collapses.proofs.tree.grow.Goals as goal

pub cofaces_in-requires-clause-cells : goal.cofaces_in-requires-clause-cells
cofaces_in-requires-clause-cells c = λ k d l. (c.requires.links k d l).rising

pub loop-head-init : goal.loop-head-init
loop-head-init c = (
  c.insert.ensures.most ∙ c.in_ok-found.ensures.most,
  passed-begun c.args.links.now c.args.nodes c.requires.links c.args.root c.insert.new.self.found c.new-tree.result.items (c.in_ok-insert.ensures.found ∙ ap (λ (ns : List ℕ). inserted ns c.args.root) c.in_ok-found.ensures.found) c.new-tree.ensures.items,
)

-- the links at a node that is read
room : (nodes node : ℕ) (links at : List (List ℕ)) (most : ℕ) → at ≡ coface_lists nodes links → most ≡ nodes → 1 ≤ node → node ≤ most → node - 1 < length at
room nodes node links at most e m low high = omega (arith, low, high, m, ap length e, length-map-range_with_len (cells_with links) 1 nodes)

links_at : (nodes node : ℕ) (links at : List (List ℕ)) (most : ℕ) (list : List ℕ) → at ≡ coface_lists nodes links → most ≡ nodes → 1 ≤ node → node ≤ most → list ≡ get_or at (node - 1) [] → list ≡ cells_with links node
links_at nodes node links at most list e m low high is =
    is ∙ (ap (λ (ls : List (List ℕ)). get_or ls (node - 1) []) e ∙ get_or-map-range_with_len (cells_with links) 1 nodes (node - 1) node [] (omega (arith, low, high, m)) (omega (arith, low)))

pub get-requires : goal.get-requires
get-requires c = room c.args.nodes c.get-node.result c.args.links.now c.in_ok-at.at c.loop-head.found.most c.in_ok-at.ensures c.loop-head.invariant.0 c.get-node.ensures.first c.get-node.ensures.last

pub take_across-requires-clause-links : goal.take_across-requires-clause-links
take_across-requires-clause-links c = subst (λ (n : ℕ). All (IsLink n) c.args.links.now) (sym c.loop-head.invariant.0) c.requires.links

pub take_across-requires-clause-at : goal.take_across-requires-clause-at
take_across-requires-clause-at c =
    links_at c.args.nodes c.get-node.result c.args.links.now c.in_ok-at.at c.loop-head.found.most c.get.result.now c.in_ok-at.ensures c.loop-head.invariant.0 c.get-node.ensures.first c.get-node.ensures.last c.get.ensures

-- what is read is there
read_held : (found : List ℕ) (head node : ℕ) → head < length found → node ≡ get_or found head 0 → holds found node ≡ true
read_held found head node l e = ap (holds found) e ∙ In-holds (at-In found head 0 l)

pub take_across-requires-clause-node : goal.take_across-requires-clause-node
take_across-requires-clause-node c = read_held c.loop-head.found.found c.loop-head.head c.get-node.result (omega (arith, c.loop-head-test.true, c.len.ensures.len)) c.get-node.ensures.number

pub loop-head-smaller : goal.loop-head-smaller
loop-head-smaller c = omega (arith, c.take_across.ensures.most, c.loop-head-test.true, c.len.ensures.few)

pub loop-head-preserved : goal.loop-head-preserved
loop-head-preserved c =
    let lt : c.loop-head.head < length c.loop-head.found.found = omega (arith, c.loop-head-test.true, c.len.ensures.len) in
    let at : c.get.result.now ≡ cells_with c.args.links.now (get_or c.loop-head.found.found c.loop-head.head 0) =
    links_at c.args.nodes c.get-node.result c.args.links.now c.in_ok-at.at c.loop-head.found.most c.get.result.now c.in_ok-at.ensures c.loop-head.invariant.0 c.get-node.ensures.first c.get-node.ensures.last c.get.ensures
    ∙ ap (cells_with c.args.links.now) c.get-node.ensures.number in (
      c.take_across.ensures.most ∙ c.loop-head.invariant.0,
      passed-more c.args.links.now c.args.nodes c.requires.links c.args.root c.loop-head.head c.loop-head.found.found c.take_across.new.found.found c.loop-head.tree.items c.take_across.new.tree.items lt c.loop-head.invariant.1
          c.in_ok-take_across.ensures.longer (c.in_ok-take_across.ensures.grows c.args.root c.loop-head.invariant.1.growing) (subst (All (HasEnds c.args.links.now c.take_across.new.found.found)) at c.in_ok-take_across.ensures.taken),
    )

pub returns : goal.returns
returns c =
    passed-all c.args.links.now c.args.nodes c.requires.links c.args.root c.loop-head.head c.loop-head.found.found c.loop-head.tree.items c.requires.first c.requires.last (omega (arith, c.loop-head-test.false, c.len.ensures.len))
    (omega (arith, c.len.ensures.len, c.len.ensures.few, c.loop-head.invariant.0)) c.loop-head.invariant.1
