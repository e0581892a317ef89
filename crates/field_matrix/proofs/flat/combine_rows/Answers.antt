use Rattle.std.proofs.Common.{◌≡◌, ℕ, List, ◌-◌, sym, ◌∙◌, arith}
use Rattle.linear_laws.specs.Vectors.{row_at}
use Rattle.field_matrix.specs.Rows.{cut}
use Rattle.field_matrix.proofs.Splits.{IsSplit, split_twice, row_is, row_before, row_after, back_long, row_below, row_long, combined}
use Rattle.field_matrix.proofs.flat.combine_rows.Goals as goal

pub add_scaled_row-requires-clause-lengths : goal.add_scaled_row-requires-clause-lengths
add_scaled_row-requires-clause-lengths g c =
    let k = g.F.Field.ops in
    let f = g.met.F.Field.laws in
    let n : ℕ = c.args.shape.rows in
    let cols : ℕ = c.args.shape.cols in
    let to : ℕ = c.args.to in
    let from : ℕ = c.args.from in
    let xs : List ℕ = c.args.entries.now in
    let one = c.split_at_mut-before in
    let two = c.split_at_mut-target in
    let front : List ℕ = one.result.0.now in
    let mid : List ℕ = two.result.0.now in
    let back : List ℕ = two.result.1.now in
    let split : IsSplit n cols to xs front mid back =
    split_twice n cols to c.begin_of-begin.result xs front one.result.1.now mid back one.ensures.value two.ensures.value one.ensures.front_len c.begin_of-begin.ensures.begin two.ensures.front_len c.requires.to in
    let source : List ℕ = c.row_of-source.result.now in
    let is : source ≡ row_at (cut n cols xs) from = c.row_of-source.ensures.row ∙ sym (row_before n cols to xs front mid back split from c.if-from-to.true) in
    row_long k f n cols from xs source c.requires.matrix c.requires.from is ∙ sym split.long

pub add_scaled_row-requires-clause-target : goal.add_scaled_row-requires-clause-target
add_scaled_row-requires-clause-target g c =
    let k = g.F.Field.ops in
    let f = g.met.F.Field.laws in
    let n : ℕ = c.args.shape.rows in
    let cols : ℕ = c.args.shape.cols in
    let to : ℕ = c.args.to in
    let from : ℕ = c.args.from in
    let xs : List ℕ = c.args.entries.now in
    let one = c.split_at_mut-before in
    let two = c.split_at_mut-target in
    let front : List ℕ = one.result.0.now in
    let mid : List ℕ = two.result.0.now in
    let back : List ℕ = two.result.1.now in
    let split : IsSplit n cols to xs front mid back =
    split_twice n cols to c.begin_of-begin.result xs front one.result.1.now mid back one.ensures.value two.ensures.value one.ensures.front_len c.begin_of-begin.ensures.begin two.ensures.front_len c.requires.to in
    row_below k f g.F.Field.SIZE n cols to xs mid g.met.F.Field.size_is c.requires.matrix c.requires.to (sym (row_is n cols to xs front mid back split))

pub add_scaled_row-requires-clause-source : goal.add_scaled_row-requires-clause-source
add_scaled_row-requires-clause-source g c =
    let k = g.F.Field.ops in
    let f = g.met.F.Field.laws in
    let n : ℕ = c.args.shape.rows in
    let cols : ℕ = c.args.shape.cols in
    let to : ℕ = c.args.to in
    let from : ℕ = c.args.from in
    let xs : List ℕ = c.args.entries.now in
    let one = c.split_at_mut-before in
    let two = c.split_at_mut-target in
    let front : List ℕ = one.result.0.now in
    let mid : List ℕ = two.result.0.now in
    let back : List ℕ = two.result.1.now in
    let split : IsSplit n cols to xs front mid back =
    split_twice n cols to c.begin_of-begin.result xs front one.result.1.now mid back one.ensures.value two.ensures.value one.ensures.front_len c.begin_of-begin.ensures.begin two.ensures.front_len c.requires.to in
    let source : List ℕ = c.row_of-source.result.now in
    let is : source ≡ row_at (cut n cols xs) from = c.row_of-source.ensures.row ∙ sym (row_before n cols to xs front mid back split from c.if-from-to.true) in
    row_below k f g.F.Field.SIZE n cols from xs source g.met.F.Field.size_is c.requires.matrix c.requires.from is

pub row_of-source-requires-else-from-to-clause-shape : goal.row_of-source-requires-else-from-to-clause-shape
row_of-source-requires-else-from-to-clause-shape g c =
    let k = g.F.Field.ops in
    let f = g.met.F.Field.laws in
    let n : ℕ = c.args.shape.rows in
    let cols : ℕ = c.args.shape.cols in
    let to : ℕ = c.args.to in
    let from : ℕ = c.args.from in
    let xs : List ℕ = c.args.entries.now in
    let one = c.split_at_mut-before in
    let two = c.split_at_mut-target in
    let front : List ℕ = one.result.0.now in
    let mid : List ℕ = two.result.0.now in
    let back : List ℕ = two.result.1.now in
    let split : IsSplit n cols to xs front mid back =
    split_twice n cols to c.begin_of-begin.result xs front one.result.1.now mid back one.ensures.value two.ensures.value one.ensures.front_len c.begin_of-begin.ensures.begin two.ensures.front_len c.requires.to in
    back_long n cols to xs front mid back split (n - to - 1) c.requires.shape (omega arith)

pub add_scaled_row-requires-else-from-to-clause-lengths : goal.add_scaled_row-requires-else-from-to-clause-lengths
add_scaled_row-requires-else-from-to-clause-lengths g c =
    let k = g.F.Field.ops in
    let f = g.met.F.Field.laws in
    let n : ℕ = c.args.shape.rows in
    let cols : ℕ = c.args.shape.cols in
    let to : ℕ = c.args.to in
    let from : ℕ = c.args.from in
    let xs : List ℕ = c.args.entries.now in
    let one = c.split_at_mut-before in
    let two = c.split_at_mut-target in
    let front : List ℕ = one.result.0.now in
    let mid : List ℕ = two.result.0.now in
    let back : List ℕ = two.result.1.now in
    let split : IsSplit n cols to xs front mid back =
    split_twice n cols to c.begin_of-begin.result xs front one.result.1.now mid back one.ensures.value two.ensures.value one.ensures.front_len c.begin_of-begin.ensures.begin two.ensures.front_len c.requires.to in
    let source : List ℕ = c.row_of-source-else-from-to.result.now in
    let is : source ≡ row_at (cut n cols xs) from =
    c.row_of-source-else-from-to.ensures.row ∙ sym (row_after n cols to xs front mid back split (n - to - 1) (from - to - 1) from (omega arith) (omega arith)) in
    row_long k f n cols from xs source c.requires.matrix c.requires.from is ∙ sym split.long

pub add_scaled_row-requires-else-from-to-clause-target : goal.add_scaled_row-requires-else-from-to-clause-target
add_scaled_row-requires-else-from-to-clause-target g c =
    let k = g.F.Field.ops in
    let f = g.met.F.Field.laws in
    let n : ℕ = c.args.shape.rows in
    let cols : ℕ = c.args.shape.cols in
    let to : ℕ = c.args.to in
    let from : ℕ = c.args.from in
    let xs : List ℕ = c.args.entries.now in
    let one = c.split_at_mut-before in
    let two = c.split_at_mut-target in
    let front : List ℕ = one.result.0.now in
    let mid : List ℕ = two.result.0.now in
    let back : List ℕ = two.result.1.now in
    let split : IsSplit n cols to xs front mid back =
    split_twice n cols to c.begin_of-begin.result xs front one.result.1.now mid back one.ensures.value two.ensures.value one.ensures.front_len c.begin_of-begin.ensures.begin two.ensures.front_len c.requires.to in
    row_below k f g.F.Field.SIZE n cols to xs mid g.met.F.Field.size_is c.requires.matrix c.requires.to (sym (row_is n cols to xs front mid back split))

pub add_scaled_row-requires-else-from-to-clause-source : goal.add_scaled_row-requires-else-from-to-clause-source
add_scaled_row-requires-else-from-to-clause-source g c =
    let k = g.F.Field.ops in
    let f = g.met.F.Field.laws in
    let n : ℕ = c.args.shape.rows in
    let cols : ℕ = c.args.shape.cols in
    let to : ℕ = c.args.to in
    let from : ℕ = c.args.from in
    let xs : List ℕ = c.args.entries.now in
    let one = c.split_at_mut-before in
    let two = c.split_at_mut-target in
    let front : List ℕ = one.result.0.now in
    let mid : List ℕ = two.result.0.now in
    let back : List ℕ = two.result.1.now in
    let split : IsSplit n cols to xs front mid back =
    split_twice n cols to c.begin_of-begin.result xs front one.result.1.now mid back one.ensures.value two.ensures.value one.ensures.front_len c.begin_of-begin.ensures.begin two.ensures.front_len c.requires.to in
    let source : List ℕ = c.row_of-source-else-from-to.result.now in
    let is : source ≡ row_at (cut n cols xs) from =
    c.row_of-source-else-from-to.ensures.row ∙ sym (row_after n cols to xs front mid back split (n - to - 1) (from - to - 1) from (omega arith) (omega arith)) in
    row_below k f g.F.Field.SIZE n cols from xs source g.met.F.Field.size_is c.requires.matrix c.requires.from is

pub returns-then-from-to : goal.returns-then-from-to
returns-then-from-to g c =
    let k = g.F.Field.ops in
    let f = g.met.F.Field.laws in
    let n : ℕ = c.args.shape.rows in
    let cols : ℕ = c.args.shape.cols in
    let to : ℕ = c.args.to in
    let from : ℕ = c.args.from in
    let xs : List ℕ = c.args.entries.now in
    let one = c.split_at_mut-before in
    let two = c.split_at_mut-target in
    let front : List ℕ = one.result.0.now in
    let mid : List ℕ = two.result.0.now in
    let back : List ℕ = two.result.1.now in
    let split : IsSplit n cols to xs front mid back =
    split_twice n cols to c.begin_of-begin.result xs front one.result.1.now mid back one.ensures.value two.ensures.value one.ensures.front_len c.begin_of-begin.ensures.begin two.ensures.front_len c.requires.to in
    let source : List ℕ = c.row_of-source.result.now in
    let is : source ≡ row_at (cut n cols xs) from = c.row_of-source.ensures.row ∙ sym (row_before n cols to xs front mid back split from c.if-from-to.true) in
    combined k f n cols to from (g.F.Field.number_of c.args.factor) xs front mid back source c.add_scaled_row.new.target split c.requires.matrix c.requires.from is c.add_scaled_row.ensures

pub returns-else-from-to : goal.returns-else-from-to
returns-else-from-to g c =
    let k = g.F.Field.ops in
    let f = g.met.F.Field.laws in
    let n : ℕ = c.args.shape.rows in
    let cols : ℕ = c.args.shape.cols in
    let to : ℕ = c.args.to in
    let from : ℕ = c.args.from in
    let xs : List ℕ = c.args.entries.now in
    let one = c.split_at_mut-before in
    let two = c.split_at_mut-target in
    let front : List ℕ = one.result.0.now in
    let mid : List ℕ = two.result.0.now in
    let back : List ℕ = two.result.1.now in
    let split : IsSplit n cols to xs front mid back =
    split_twice n cols to c.begin_of-begin.result xs front one.result.1.now mid back one.ensures.value two.ensures.value one.ensures.front_len c.begin_of-begin.ensures.begin two.ensures.front_len c.requires.to in
    let source : List ℕ = c.row_of-source-else-from-to.result.now in
    let is : source ≡ row_at (cut n cols xs) from =
    c.row_of-source-else-from-to.ensures.row ∙ sym (row_after n cols to xs front mid back split (n - to - 1) (from - to - 1) from (omega arith) (omega arith)) in
    combined k f n cols to from (g.F.Field.number_of c.args.factor) xs front mid back source c.add_scaled_row-else-from-to.new.target split c.requires.matrix c.requires.from is c.add_scaled_row-else-from-to.ensures
