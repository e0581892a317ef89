-- How many steps a run counts: row additions in the coboundaries of a space.
--   entries_of stage             rows times columns of the coboundaries of the space, 0 where it is refused
--   make_entries, cover_entries   so with a modulus, and 0 without one, of a 3-torus and of the total space of a cover
--   Counts asked bytes old new   what the count of a command does on these bytes: for most commands it stays
--   CountsBy asked store old new the count stays, or the input was read, and the count does so on its bytes
--   CountsIf words store old new the same of what the words ask for; it stays where they are refused
use Rattle.std.specs.Prelude.{◌≡◌, ◌≤◌, ◌+◌, ◌⊎◌, ℕ, List}
use Rattle.std.specs.declared.result.Result.{Result}
use Rattle.std.specs.declared.result.Result.TheVariants.{Ok, Err}
use Rattle.std.specs.declared.option.Option.{Option}
use Rattle.std.specs.declared.option.Option.TheVariants.{Some, None}
use Rattle.face_poset.specs.Poset.{Layers}
use Rattle.order_complex.specs.Numbers.{coboundary_entries}
use Rattle.hap_outside.specs.Stores.{Store}
use Rattle.hap_words.specs.Asked.{Asked, betti, cover, make}
use Rattle.hap_ends.specs.declared.refusal.Refusal.{Refusal}
use Rattle.hap_inputs.specs.Input.{OnInput}
use Rattle.hap_inputs.specs.Spaces.{few_in, total_in}
use Rattle.hap_cli.specs.Refusals.{made}

abbrev pub entries_of : Result Layers Refusal → ℕ
entries_of (Ok space) = coboundary_entries space
entries_of (Err refusal) = 0

abbrev pub make_entries : (size : ℕ) → (modulus : Option ℕ) → ℕ
make_entries size None = 0
make_entries size (Some p) = entries_of (made size (Some p))

abbrev pub cover_entries : (modulus : Option ℕ) → Result Layers Refusal → ℕ
cover_entries None total = 0
cover_entries (Some p) total = entries_of total

abbrev pub Counts : Asked → List ℕ → (old new : ℕ) → Type 0
Counts (betti o) bytes old new = new ≤ old + entries_of (few_in o.source.kind bytes)
Counts (cover o) bytes old new = new ≤ old + cover_entries o.modulus (total_in o.source.kind bytes o)
Counts (make o) bytes old new = new ≤ old + make_entries o.size o.modulus
Counts other bytes old new = new ≡ old

abbrev pub CountsBy : Asked → Option Store → (old new : ℕ) → Type 0
CountsBy asked store old new = (new ≡ old) ⊎ OnInput asked store (λ bytes. Counts asked bytes old new)

abbrev pub CountsIf : Option Asked → Option Store → (old new : ℕ) → Type 0
CountsIf None store old new = new ≡ old
CountsIf (Some asked) store old new = CountsBy asked store old new
