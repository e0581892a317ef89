use Rattle.std.proofs.Common.{◌≡◌, ◌∙◌, ap, codes}
use Rattle.std.proofs.lemmas.Result.{IfOk-weaker}
use Rattle.clap.specs.Words.{App, Text, with_rule}
use Rattle.hap_words.specs.Line.{hap_app, option_rule}
use Rattle.hap_words.proofs.line.hap.Goals as goal

-- one more option on an app that is known
more : (a b c : App) (name : Text) → a ≡ with_rule b (option_rule name) → b ≡ c → a ≡ with_rule c (option_rule name)
more a b c name e f = e ∙ ap (λ x. with_rule x (option_rule name)) f

pub returns : goal.returns
unfolding hap_app
returns c =
    let kind = more _ _ _ (codes "kind") c.in_ok-kind.ensures c.in_ok-bare.ensures in
    let input = more _ _ _ (codes "in") c.in_ok-input.ensures kind in
    let modulus = more _ _ _ (codes "mod") c.in_ok-modulus.ensures input in
    let sheets = more _ _ _ (codes "sheets") c.in_ok-sheets.ensures modulus in
    let budget = more _ _ _ (codes "budget") c.in_ok-budget.ensures sheets in
    let from = more _ _ _ (codes "from") c.in_ok-from.ensures budget in
    let index = more _ _ _ (codes "index") c.in_ok-index.ensures from in
    let size = more _ _ _ (codes "size") c.in_ok-size.ensures index in
    IfOk-weaker c.with_option-9.result _ _ (λ r h. more _ _ _ (codes "component") h size) c.with_option-9.ensures
