-- The command line as one simple command of the crate `clap`.
--   option_rule name     an option `--name` with one value
--   command_rule         the required word
--   bare_app             the required word alone; no option for help
--   hap_app              the word with the nine options
use Rattle.std.specs.Prelude.{true, codes}
use Rattle.std.specs.declared.option.Option.TheVariants.{Some}
use Rattle.clap.specs.Words.{App, Rule, Text, new_app, new_rule, with_rule}
use Rattle.clap.specs.declared.builder.action.ArgAction.TheVariants.{Set}

abbrev pub option_rule : Text → Rule
option_rule name = record (new_rule name) { long = Some name; action = Some Set }

abbrev pub command_rule : Rule
command_rule = record (new_rule (codes "command")) { required = true; action = Some Set }

abbrev pub bare_app : App
bare_app =
    let app = new_app (codes "hap") in
    with_rule (record app { top = record app.top { no_binary_name = true; disable_help_flag = true } }) command_rule

unfoldable pub hap_app : App
hap_app =
    let two = with_rule (with_rule bare_app (option_rule (codes "kind"))) (option_rule (codes "in")) in
    let four = with_rule (with_rule two (option_rule (codes "mod"))) (option_rule (codes "sheets")) in
    let six = with_rule (with_rule four (option_rule (codes "budget"))) (option_rule (codes "from")) in
    let eight = with_rule (with_rule six (option_rule (codes "index"))) (option_rule (codes "size")) in
    with_rule eight (option_rule (codes "component"))
