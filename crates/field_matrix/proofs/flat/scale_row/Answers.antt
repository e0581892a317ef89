use Rattle.std.proofs.Common.{◌≡◌, ℕ, List, length, map, set, sym, ap, ◌∙◌}
use Rattle.linear_laws.proofs.CallerLemmas.{scaled-vector}
use Rattle.field_matrix.specs.Rows.{cut}
use Rattle.field_matrix.proofs.Splits.{IsSplit, split_twice, mid_vector, row_is, row_below, put}
use Rattle.field_matrix.proofs.flat.scale_row.Goals as goal

pub scale_row-requires : goal.scale_row-requires
scale_row-requires g c =
    let k = g.F.Field.ops in
    let f = g.met.F.Field.laws in
    let n : ℕ = c.args.shape.rows in
    let cols : ℕ = c.args.shape.cols in
    let i : ℕ = c.args.row in
    let xs : List ℕ = c.args.entries.now in
    let one = c.split_at_mut-rest in
    let two = c.split_at_mut-target in
    let front : List ℕ = one.result.0.now in
    let mid : List ℕ = two.result.0.now in
    let back : List ℕ = two.result.1.now in
    let split : IsSplit n cols i xs front mid back =
    split_twice n cols i c.begin_of-begin.result xs front one.result.1.now mid back one.ensures.value two.ensures.value one.ensures.front_len c.begin_of-begin.ensures.begin two.ensures.front_len c.requires.row in
    row_below k f g.F.Field.SIZE n cols i xs mid g.met.F.Field.size_is c.requires.matrix c.requires.row (sym (row_is n cols i xs front mid back split))

pub returns : goal.returns
returns g c =
    let k = g.F.Field.ops in
    let f = g.met.F.Field.laws in
    let n : ℕ = c.args.shape.rows in
    let cols : ℕ = c.args.shape.cols in
    let i : ℕ = c.args.row in
    let xs : List ℕ = c.args.entries.now in
    let one = c.split_at_mut-rest in
    let two = c.split_at_mut-target in
    let front : List ℕ = one.result.0.now in
    let mid : List ℕ = two.result.0.now in
    let back : List ℕ = two.result.1.now in
    let split : IsSplit n cols i xs front mid back =
    split_twice n cols i c.begin_of-begin.result xs front one.result.1.now mid back one.ensures.value two.ensures.value one.ensures.front_len c.begin_of-begin.ensures.begin two.ensures.front_len c.requires.row in
    let s : ℕ = g.F.Field.number_of c.args.factor in
    let new : List ℕ = c.scale_row.new.target in
    let long : length new ≡ cols = ap length c.scale_row.ensures ∙ (scaled-vector k f cols s mid (mid_vector k f n cols i xs front mid back split c.requires.matrix)).long in
    put n cols i xs front mid back split new long ∙ ap (set (cut n cols xs) i) (c.scale_row.ensures ∙ ap (map (k.mul s)) (sym (row_is n cols i xs front mid back split)))
