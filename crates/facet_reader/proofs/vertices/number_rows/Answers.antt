use Rattle.std.proofs.Common.{◌<◌, length, arith}
use Rattle.facet_reader.proofs.Numbering.{vertices-rise, vertices-have}
use Rattle.facet_reader.proofs.vertices.number_rows.Goals as goal

pub number_row-requires-clause-rises : goal.number_row-requires-clause-rises
number_row-requires-clause-rises c = vertices-rise c.args.rows.now c.args.vertices.now c.requires.vertices

pub number_row-requires-clause-there : goal.number_row-requires-clause-there
number_row-requires-clause-there c =
    let lt : c.loop-index.index < length c.args.rows.now = omega (arith, c.len-index-end.ensures, c.loop-index-test.true) in
    vertices-have c.args.rows.now c.args.vertices.now c.get.result.now c.loop-index.index c.requires.vertices lt c.get.ensures
