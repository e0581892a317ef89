use Rattle.std.proofs.Common.{◌∙◌, sym, rules}
use Rattle.std.specs.Prelude.{FitsSigned}
use mir.Syntax.{w32}
use Rattle.edge_words.proofs.Bits.{undone-bits}
use Rattle.edge_words.proofs.Letters.{last_undone-last}
use Rattle.edge_words.proofs.reducing.ends_undone.Goals as goal

pub returns-in-Some : goal.returns-in-Some
returns-in-Some c =
    let f : FitsSigned w32 c.in-Some.last.now = search rules in
    undone-bits c.in-Some.last.now c.args.letter f c.requires ∙ sym (last_undone-last c.args.word.now c.in-Some.last.now c.args.letter c.in-Some.ensures.value)
