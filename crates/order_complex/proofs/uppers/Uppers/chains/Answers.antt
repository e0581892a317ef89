use Rattle.std.proofs.Common.{◌≡◌, List, ℕ, ◌∷◌, [], length, refl, ap, ◌∙◌, arith}
use Rattle.order_complex.specs.Chains.{chains_of}
use Rattle.order_complex.specs.Complex.{chain_layers}
use Rattle.order_complex.proofs.Extended.{length-uppers_of}
use Rattle.order_complex.proofs.ChainBounds.{walks, points-are, next-are}
use Rattle.order_complex.proofs.uppers.Uppers.chains.Goals as goal

pub list_points-requires : goal.list_points-requires
list_points-requires c =
    omega (arith, c.len.ensures, ap (λ (xs : List (List ℕ)). length xs) c.self.invariant.0, length-uppers_of c.self.inside.space.now, c.self.invariant.1)

pub list_edges-requires : goal.list_edges-requires
list_edges-requires c =
    let points = points-are c.self.inside.space.now c.self.inside.lists c.in_ok-points.points.items c.len.result c.self.invariant.0 c.len.ensures c.in_ok-points.ensures in
    let w = walks c.self.inside.space.now c.self.inside.lists c.deref.result.now 0 c.self.invariant.0 (c.deref.ensures.value ∙ points) in
    record { some = w.some; first = w.first; last = w.last }

pub list_triangles-requires : goal.list_triangles-requires
list_triangles-requires c =
    let points = points-are c.self.inside.space.now c.self.inside.lists c.in_ok-points.points.items c.len.result c.self.invariant.0 c.len.ensures c.in_ok-points.ensures in
    let edges = next-are c.self.inside.space.now c.self.inside.lists c.deref.result.now c.in_ok-edges.edges.items 0 c.self.invariant.0 (c.deref.ensures.value ∙ points) c.in_ok-edges.ensures in
    let w = walks c.self.inside.space.now c.self.inside.lists c.deref-2.result.now 1 c.self.invariant.0 (c.deref-2.ensures.value ∙ edges) in
    record { some = w.some; first = w.first; last = w.last }

pub list_tetrahedra-requires : goal.list_tetrahedra-requires
list_tetrahedra-requires c =
    let points = points-are c.self.inside.space.now c.self.inside.lists c.in_ok-points.points.items c.len.result c.self.invariant.0 c.len.ensures c.in_ok-points.ensures in
    let edges = next-are c.self.inside.space.now c.self.inside.lists c.deref.result.now c.in_ok-edges.edges.items 0 c.self.invariant.0 (c.deref.ensures.value ∙ points) c.in_ok-edges.ensures in
    let triangles = next-are c.self.inside.space.now c.self.inside.lists c.deref-2.result.now c.in_ok-triangles.triangles.items 1 c.self.invariant.0 (c.deref-2.ensures.value ∙ edges) c.in_ok-triangles.ensures in
    let w = walks c.self.inside.space.now c.self.inside.lists c.deref-3.result.now 2 c.self.invariant.0 (c.deref-3.ensures.value ∙ triangles) in
    record { some = w.some; first = w.first; last = w.last }

-- the four lists together
four : (a b d e : List (List ℕ)) (space other : List (List (List ℕ))) → a ≡ chains_of space 0 → b ≡ chains_of space 1 → d ≡ chains_of space 2 → e ≡ chains_of space 3 → space ≡ other
    → ◌≡◌ {A = List (List (List ℕ))} (a ∷ b ∷ d ∷ e ∷ []) (chain_layers other)
four a b d e space other ha hb hd he s = rw (ha, hb, hd, he, s) refl

pub returns : goal.returns
returns c =
    let points = points-are c.self.inside.space.now c.self.inside.lists c.in_ok-points.points.items c.len.result c.self.invariant.0 c.len.ensures c.in_ok-points.ensures in
    let edges = next-are c.self.inside.space.now c.self.inside.lists c.deref.result.now c.in_ok-edges.edges.items 0 c.self.invariant.0 (c.deref.ensures.value ∙ points) c.in_ok-edges.ensures in
    let triangles = next-are c.self.inside.space.now c.self.inside.lists c.deref-2.result.now c.in_ok-triangles.triangles.items 1 c.self.invariant.0 (c.deref-2.ensures.value ∙ edges) c.in_ok-triangles.ensures in
    let tetrahedra = next-are c.self.inside.space.now c.self.inside.lists c.deref-3.result.now c.in_ok-tetrahedra.tetrahedra.items 2 c.self.invariant.0 (c.deref-3.ensures.value ∙ triangles) c.in_ok-tetrahedra.ensures in
    c.new.ensures ∙ four c.in_ok-points.points.items c.in_ok-edges.edges.items c.in_ok-triangles.triangles.items c.in_ok-tetrahedra.tetrahedra.items c.self.inside.space.now c.args.self.now
    points edges triangles tetrahedra c.self.view_is
