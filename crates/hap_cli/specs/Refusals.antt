-- Why a command refuses its input.
--   refusal asked bytes      the first condition that holds: the input is too long, or the cause in it; or None
--   cause asked bytes        the first condition that holds of bytes that are not too many, in the order of the stages
--   made size modulus        the 3-torus of a size; with a modulus refused where it has too many chains
use Rattle.std.specs.Prelude.{ℕ, List, length, nat_lt, if◌then◌else◌}
use Rattle.std.specs.declared.result.Result.{Result}
use Rattle.std.specs.declared.result.Result.TheVariants.{Ok}
use Rattle.std.specs.declared.option.Option.{Option}
use Rattle.std.specs.declared.option.Option.TheVariants.{Some, None}
use Rattle.face_poset.specs.Poset.{Layers}
use Rattle.tuple_spaces.specs.Torus.{torus_of}
use Rattle.hap_words.specs.Asked.{Asked, cells, check, betti, group, covers, cover, make}
use Rattle.hap_ends.specs.declared.refusal.Refusal.{Refusal}
use Rattle.hap_ends.specs.declared.refusal.Refusal.TheVariants.{TooLong}
use Rattle.hap_inputs.specs.Input.{limit_of}
use Rattle.hap_inputs.specs.Spaces.{fault_in, space_in, regular_in, few_in, only_few, worded_in, begun_in, total_in}

abbrev pub made : (size : ℕ) → (modulus : Option ℕ) → Result Layers Refusal
made size None = Ok (torus_of size)
made size (Some p) = only_few (Ok (torus_of size))

abbrev pub cause : Asked → List ℕ → Option Refusal
cause (cells o) bytes = fault_in (space_in o.source.kind bytes)
cause (check o) bytes = fault_in (regular_in o.source.kind bytes)
cause (betti o) bytes = fault_in (few_in o.source.kind bytes)
cause (group o) bytes = fault_in (worded_in o.source.kind bytes)
cause (covers o) bytes = fault_in (begun_in o.source.kind bytes o.sheets o.from)
cause (cover o) bytes = fault_in (total_in o.source.kind bytes o)
cause (make o) bytes = fault_in (made o.size o.modulus)
cause other bytes = None

abbrev pub refusal : Asked → List ℕ → Option Refusal
refusal asked bytes = if nat_lt (limit_of asked) (length bytes) then Some (TooLong (limit_of asked)) else cause asked bytes
