use Rattle.std.proofs.Common.{arith}
use Rattle.order_complex.specs.Chains.{chains_of}
use Rattle.order_complex.specs.Complex.{facet_numbers}
use Rattle.order_complex.specs.Listing.{uppers_of}
use Rattle.order_complex.proofs.Growing.{chain-more, chain-all}
use Rattle.order_complex.proofs.facets.list_tetrahedron_facets.Goals as goal

pub loop-index-preserved : goal.loop-index-preserved
loop-index-preserved c =
    chain-more (facet_numbers (chains_of c.args.uppers.now 2)) (uppers_of c.args.uppers.now) c.args.triangles.now c.loop-index.index c.loop-index.facets.items c.push_tetrahedron_facets.new.facets.items (omega arith) c.loop-index.invariant c.in_ok-push_tetrahedron_facets.ensures

pub returns : goal.returns
returns c =
    chain-all c.args.uppers.now (facet_numbers (chains_of c.args.uppers.now 2)) 2 c.loop-index.index c.args.triangles.now c.loop-index.facets.items c.requires.triangles (omega arith) c.loop-index.invariant
