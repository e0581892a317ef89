-- The Betti numbers of a space in the degrees from 0 to 3, and the size of its coboundaries. F is the arithmetic of a field.
--   AreBetti F space numbers    each number is the length of a basis of the cocycles of its degree modulo coboundaries
--   coboundary_entries space    rows times columns of the three coboundaries, summed
use Rattle.std.specs.Prelude.{ℕ, ◌+◌, ◌*◌, List, length}
use Rattle.small_field.specs.Field.{Ops}
use Rattle.face_poset.specs.Poset.{Layers}
use Rattle.order_complex.specs.Chains.{chains_of}
use Rattle.order_complex.specs.Homology.{IsBetti}
use Rattle.order_complex.specs.declared.betti.Betti.{Betti}

-- each is the length of a basis of the cocycles of its degree modulo coboundaries, on all chains of the order complex
pub record AreBetti (F : Ops) (space : Layers) (numbers : Betti) : Type 0 where
  pub zero : IsBetti F space 0 numbers.zero
  pub one : IsBetti F space 1 numbers.one
  pub two : IsBetti F space 2 numbers.two
  pub three : IsBetti F space 3 numbers.three

-- rows times columns of the three coboundaries, summed: a row for each chain of a degree, a column for each of the next
abbrev pub coboundary_entries : Layers → ℕ
coboundary_entries space =
    length (chains_of space 0) * length (chains_of space 1) + length (chains_of space 1) * length (chains_of space 2) + length (chains_of space 2) * length (chains_of space 3)
