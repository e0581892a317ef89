use Rattle.std.proofs.Common.{◌≡◌, ◌<◌, rules, pos, get_or, length, arith}
use Rattle.std.specs.Prelude.{All}
use Rattle.cover_search.specs.Columns.{bytes}
use Rattle.cover_search.proofs.Walking.{walked-at}
use Rattle.cover_search.proofs.walker.Walker.round.Goals as goal

pub loop-letter-preserved : goal.loop-letter-preserved
loop-letter-preserved c =
    let e : c.column-column.result.now ≡ bytes c.args.self.now.columns c.args.self.now.sheets c.args.self.now.cells (get_or c.args.word.now c.loop-letter.letter-index (pos 0)) = search rules in
    let a : All (λ s. s < 8) c.column-column.result.now = search rules in
    let l : c.loop-letter.letter-index < length c.args.word.now = omega arith in
    rw c.compose8-bytes.ensures (walked-at c.args.self.now c.args.word.now c.loop-letter.letter-index (pos 0) c.loop-letter.bytes c.column-column.result.now c.column-column.ensures.valid c.loop-letter.invariant l e a)
