-- What counting the Betti numbers of a space gives. F is the arithmetic of a field.
--   GivesBetti F space before after answer   the numbers, unless memory is wanting; before and after are the steps, whose
--                                            count rises by at most the entries of the coboundaries
use Rattle.std.specs.Prelude.{ℕ, ◌+◌, ◌≤◌, Result, IfOk}
use Rattle.small_field.specs.Field.{Ops}
use Rattle.face_poset.specs.Poset.{Layers}
use Rattle.order_complex.specs.Numbers.{AreBetti, coboundary_entries}
use Rattle.order_complex.specs.declared.betti.Betti.{Betti}

abbrev pub GivesBetti : {E : Type 0} → Ops → Layers → (before after : ℕ) → Result Betti E → Type 0
GivesBetti F space before after answer = IfOk answer (AreBetti F space) × (after ≤ before + coboundary_entries space)
