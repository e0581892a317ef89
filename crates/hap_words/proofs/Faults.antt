-- Words that `clap` refuses.
use Rattle.std.proofs.Common.{◌≡◌, ◌≢◌, ◌⊎◌, refl, inl, inr, [], ◌∷◌, None}
use Rattle.std.specs.declared.option.Option.{Option}
use Rattle.clap.specs.Words.{IsAmong, Kinds}
use Rattle.clap.specs.declared.error.kind.ErrorKind.{ErrorKind}
use Rattle.clap.specs.declared.error.kind.ErrorKind.TheVariants.{OutOfMemory}
use Rattle.hap_words.specs.Asked.{Asked}
use Rattle.hap_words.specs.Table.{unless_faulty}

-- an error that is no want of memory has one of the faults, so there is one
pub refused : (k : ErrorKind) (faults : Kinds) (asked : Option Asked) → (k ≡ OutOfMemory) ⊎ IsAmong k faults → k ≢ OutOfMemory → unless_faulty faults asked ≡ None
refused k faults asked (inl e) other = absurd (other e)
refused k [] asked (inr h) other = absurd h
refused k (x ∷ xs) asked (inr h) other = refl
