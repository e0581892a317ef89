use Rattle.std.proofs.Common.{map, string_bytes}
use Rattle.hap_words.specs.Asked.{asked_of}
use Rattle.hap_words.proofs.Ranges.{asked_is}
use Rattle.hap_words.proofs.reader.read.Goals as goal

pub returns-then-is_built-clause-ranges : goal.returns-then-is_built-clause-ranges
returns-then-is_built-clause-ranges c = asked_is (map string_bytes c.args.words.now) (asked_of c.in_ok-command.command) c.in_ok-command.ensures
