use Rattle.std.proofs.Common.{◌≡◌, ℕ, List, length, set, ap, ◌∙◌}
use Rattle.field_matrix.specs.Rows.{cut}
use Rattle.field_matrix.proofs.Splits.{IsSplit, split_twice, put}
use Rattle.field_matrix.proofs.flat.set_row.Goals as goal

pub returns : goal.returns
returns c =
    let n : ℕ = c.args.shape.rows in
    let cols : ℕ = c.args.shape.cols in
    let i : ℕ = c.args.row in
    let xs : List ℕ = c.args.entries.now in
    let one = c.split_at_mut-rest in
    let two = c.split_at_mut-target in
    let front : List ℕ = one.result.0.now in
    let mid : List ℕ = two.result.0.now in
    let back : List ℕ = two.result.1.now in
    let split : IsSplit n cols i xs front mid back =
    split_twice n cols i c.begin_of-begin.result xs front one.result.1.now mid back one.ensures.value two.ensures.value one.ensures.front_len c.begin_of-begin.ensures.begin two.ensures.front_len c.requires.row in
    let new : List ℕ = c.copy_from_slice.new.self in
    let after : new ≡ c.args.source.now = c.copy_from_slice.ensures.after in
    put n cols i xs front mid back split new (ap length after ∙ c.requires.source) ∙ ap (set (cut n cols xs) i) after
