use Rattle.std.proofs.Common.{◌≡◌, suc, false, rules, arith, sym, ap, ◌∙◌}
use Rattle.live_laws.specs.Walks.{trace}
use Rattle.cover_search.specs.Columns.{no_other}
use Rattle.cover_search.proofs.Walking.{kept_by_all, lost_by_one}
use Rattle.cover_search.proofs.walker.Walker.closes_by_letters.Goals as goal

pub returns-then-not-keeps : goal.returns-then-not-keeps
returns-then-not-keeps c =
    let e : no_other (trace c.args.self.now.columns c.args.self.now.sheets c.args.self.now.cells c.args.word.now (suc c.loop-sheet.sheet)) (suc c.loop-sheet.sheet) ≡ false =
    ap (λ o. no_other o (suc c.loop-sheet.sheet)) (sym c.walk.ensures) ∙ (sym c.keeps.ensures ∙ search rules) in
    lost_by_one c.args.self.now c.args.word.now c.loop-sheet.sheet (omega arith) e

pub returns : goal.returns
returns c = kept_by_all c.args.self.now c.args.word.now (λ s k. c.loop-sheet.invariant s (omega arith))
