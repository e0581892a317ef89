use Rattle.std.proofs.Common.{◌≡◌, ◌∙◌, ap, refl, true, subst, map, string_bytes}
use Rattle.clap.specs.Words.{App, FailsBy, is_simple, is_simple_and_free, fault_of, matches_of}
use Rattle.clap.proofs.OnLiterals.{clap_on_literals}
use Rattle.std.proofs.lemmas.Result.{IfOk-weaker}
use Rattle.hap_words.specs.Line.{hap_app}
use Rattle.hap_words.proofs.line.match_words.Goals as goal

is_free : is_simple_and_free hap_app ≡ true
unfolding clap_on_literals hap_app
is_free = refl

pub returns-clause-kinds : goal.returns-clause-kinds
returns-clause-kinds c =
    let same = c.in_ok-hap.ensures in
    subst (λ (a : App). FailsBy (fault_of a (map string_bytes c.args.words.now)) c.try_get_matches_from.result) same
    (c.try_get_matches_from.ensures.kinds (ap is_simple_and_free same ∙ is_free))

is_plain : is_simple hap_app ≡ true
unfolding clap_on_literals hap_app
is_plain = refl

pub returns-clause-rows : goal.returns-clause-rows
returns-clause-rows c =
    let same = c.in_ok-hap.ensures in
    IfOk-weaker c.try_get_matches_from.result _ _ (λ m h. (h (ap is_simple same ∙ is_plain)).0 ∙ ap (λ (a : App). matches_of a (map string_bytes c.args.words.now)) same) c.try_get_matches_from.ensures.matches
