-- Why there is no cover with a number, from the faults of what it is made by.
--   word_fault fault, total_fault fault   the fault that comes from one of these
--   bare fault                            the fault without the room that its spot has, which is no part of what a spot is
--   HasFault stage fault                  a stage that gives a value or a bare fault refuses for this one, or memory was wanting
use Rattle.std.specs.Prelude.{◌≡◌, ⊤}
use Rattle.std.specs.declared.result.Result.{Result}
use Rattle.std.specs.declared.result.Result.TheVariants.{Err}
use Rattle.edge_words.specs.declared.fault.WordFault.{WordFault}
use Rattle.edge_words.specs.declared.fault.WordFault.TheVariants as in_words
use Rattle.cover_space.specs.declared.fault.TotalFault.{TotalFault}
use Rattle.cover_space.specs.declared.fault.TotalFault.TheVariants as in_total
use Rattle.part_covers.specs.declared.fault.CoverFault.{CoverFault}
use Rattle.part_covers.specs.declared.fault.CoverFault.TheVariants.{Word, Spent, TotalCells, Memory}

abbrev pub word_fault : WordFault → CoverFault
word_fault in_words.Memory = Memory
word_fault (in_words.TooLong cell) = Word cell

abbrev pub total_fault : TotalFault → CoverFault
total_fault in_total.Memory = Memory
total_fault in_total.TooManyCells = TotalCells

abbrev pub bare : CoverFault → CoverFault
bare (Spent spot) = Spent (record spot { room = 0 })
bare other = other

abbrev pub HasFault : {A : Type 0} → Result A CoverFault → CoverFault → Type 0
HasFault stage Memory = ⊤
HasFault stage fault = stage ≡ Err (bare fault)
