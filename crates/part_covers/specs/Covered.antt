-- One cover of a part of a space by its number. space is the lists of a space, w says which cover is wanted: the component, the most sheets,
-- the number of the cover in the listing, and the budget of the search; part is the lists of a part, which is taken with its chosen field;
-- P are the relations of its presentation, t is a table: its sheets and its cells row by row.
--   IsWanted w                the numbers are in their ranges
--   lift_on part m cells      the lift of a table
--   total_at part t           the total space of the lift
--   Covering                  a cover: its table of sheets, by columns, sheets and cells, and its total space
--   covering_at part t        that of a table
--   found_for P w             the tables that the search finds with its budget
--   stop_for P w              the live partial table that takes the last unit
--   mark_for P w              the spot of it
-- Stages, each of which gives a value or a fault:
--   table_stage P w           the table with the number: among those that are found; else the budget is spent, or there are fewer
--   total_stage part t        the total space, where it has at most 60,000 cells
--   covering_on part w        both, one after the other
--   covering_there space w    the same of the part of the component, where no word is too long in it
--   covering_in space w       the same, where there is such a component
--   is_large part m           the total space of m sheets would have more than 60,000 cells
--   table_of, with_total, with_table, unless_long: steps
-- What is given:
--   IsGiven stage result      a cover is that of the stage, a fault its fault, or memory was wanting
--   IsFound P w result        so of a table, which has a column for each generator
--   IsTotal part l result     so of a total space of labels
-- Laws:
--   IsNumbered space w c      the table of the cover is the one with the number among the covers of the part; its total space, that of the
--                             lift of the table, is regular and has one component
--   NumberedAreCovers         so it is with each that is given of a regular space
use Rattle.std.specs.Prelude.{◌≡◌, ℕ, ◌-◌, ◌*◌, ◌≤◌, List, [], length, take, Bool, true, false, ⊤, slice_index_or, nat_lt, if◌then◌else◌}
use Rattle.std.specs.declared.result.Result.{Result}
use Rattle.std.specs.declared.result.Result.TheVariants.{Ok, Err}
use Rattle.std.specs.declared.option.Option.{Option}
use Rattle.std.specs.declared.option.Option.TheVariants.{Some, None}
use Rattle.face_poset.specs.declared.cells.Cell.{Cell}
use Rattle.face_poset.specs.Poset.{Layers, IsSpace, cell_count}
use Rattle.regular_check.specs.Rules.{IsRegular}
use Rattle.regular_check.specs.Components.{component_count}
use Rattle.space_parts.specs.Parts.{part_of}
use Rattle.sheet_tables.specs.Spots.{Mark}
use Rattle.sheet_tables.specs.Tables.{Rows}
use Rattle.sheet_laws.specs.Lifts.{columns_of, lift}
use Rattle.live_laws.specs.Live.{Relations, Position, live}
use Rattle.chosen_field.specs.Chosen.{chosen}
use Rattle.edge_words.specs.Labels.{Labelled}
use Rattle.part_groups.specs.Groups.{long_in}
use Rattle.cover_search.specs.Searches.{last_of}
use Rattle.cover_laws.specs.Covers.{relations_at}
use Rattle.cover_listing.specs.PartCovers.{covers_in}
use Rattle.cover_listing.specs.Nths.{found, nth_of}
use Rattle.cover_listing.specs.declared.nth.Nth.{Nth}
use Rattle.cover_listing.specs.declared.nth.Nth.TheVariants as nth
use Rattle.cover_space.specs.Total.{total_of}
use Rattle.cover_space.specs.declared.fault.TotalFault.{TotalFault}
use Rattle.cover_space.specs.declared.fault.TotalFault.TheVariants as in_total
use Rattle.part_covers.specs.declared.wanted.Wanted.{Wanted}
use Rattle.part_covers.specs.declared.fault.CoverFault.{CoverFault}
use Rattle.part_covers.specs.declared.fault.CoverFault.TheVariants.{Components, Word, Spent, Index, TotalCells}
use Rattle.part_covers.specs.Faults.{HasFault}

pub record IsWanted (w : Wanted) : Type 0 where
  pub first_component : 1 ≤ w.component
  pub last_component : w.component ≤ 60000
  pub least_sheets : 1 ≤ w.sheets
  pub most_sheets : w.sheets ≤ 8
  pub first_index : 1 ≤ w.index
  pub some_budget : 1 ≤ w.budget

-- ---- the cover of a table

abbrev pub lift_on : Layers → (m : ℕ) → List ℕ → List (List ℕ)
lift_on part m cells = lift part (chosen part) m cells

abbrev pub total_at : Layers → Position → Layers
total_at part t = total_of part t.0 (lift_on part t.0 t.1)

pub record Covering : Type 0 where
  pub columns : ℕ
  pub sheets : ℕ
  pub cells : List ℕ
  pub total : Layers

abbrev pub covering_of : Layers → Position → (total : Layers) → Covering
covering_of part t total = record { columns = columns_of part (chosen part); sheets = t.0; cells = t.1; total = total }

-- ---- the table with the number

abbrev pub found_for : Relations → Wanted → List Position
found_for P w = found P w.sheets (0, []) w.budget

abbrev pub stop_for : Relations → Wanted → Position
stop_for P w = last_of (0, []) (take w.budget (live P w.sheets (0, [])))

abbrev pub mark_for : Relations → Wanted → Mark
mark_for P w = record { component = w.component; sheets = (stop_for P w).0; cells = (stop_for P w).1; room = 0 }

abbrev pub table_of : Relations → Wanted → Nth → Result Position CoverFault
table_of P w nth.Found = Ok (slice_index_or (found_for P w) (w.index - 1) (0, []))
table_of P w (nth.Only count) = Err (Index count)
table_of P w nth.Spent = Err (Spent (mark_for P w))

abbrev pub table_stage : Relations → Wanted → Result Position CoverFault
table_stage P w = table_of P w (nth_of P w.sheets (0, []) w.budget w.index)

-- ---- the cover with the number

abbrev pub is_large : Layers → (m : ℕ) → Bool
is_large part m = nat_lt 60000 (m * cell_count part)

abbrev pub total_stage : Layers → Position → Result Layers CoverFault
total_stage part t = if is_large part t.0 then Err TotalCells else Ok (total_at part t)

abbrev pub with_total : Layers → Position → Result Layers CoverFault → Result Covering CoverFault
with_total part t (Ok total) = Ok (covering_of part t total)
with_total part t (Err fault) = Err fault

abbrev pub with_table : Layers → Result Position CoverFault → Result Covering CoverFault
with_table part (Ok t) = with_total part t (total_stage part t)
with_table part (Err fault) = Err fault

abbrev pub covering_on : Layers → Wanted → Result Covering CoverFault
covering_on part w = with_table part (table_stage (relations_at part (chosen part)) w)

abbrev pub unless_long : Option Cell → Result Covering CoverFault → Result Covering CoverFault
unless_long None stage = stage
unless_long (Some cell) stage = Err (Word cell)

abbrev pub covering_there : Layers → Wanted → Result Covering CoverFault
covering_there space w = unless_long (long_in space w.component) (covering_on (part_of space w.component) w)

abbrev pub covering_in : Layers → Wanted → Result Covering CoverFault
covering_in space w =
    if nat_lt (component_count space) w.component then Err (Components (component_count space)) else covering_there space w

-- ---- what is given

abbrev pub IsGiven : Result Covering CoverFault → Result Covering CoverFault → Type 0
IsGiven stage (Ok cover) = stage ≡ Ok cover
IsGiven stage (Err fault) = HasFault stage fault

abbrev pub IsFound : Relations → Wanted → Result Rows CoverFault → Type 0
IsFound P w (Ok table) = (table_stage P w ≡ Ok (table.sheets, table.cells)) × (table.columns ≡ P.generators)
IsFound P w (Err fault) = HasFault (table_stage P w) fault

abbrev pub IsTotal : Layers → Labelled → Result Layers TotalFault → Type 0
IsTotal part l (Ok total) = (is_large part l.sheets ≡ false) × (total ≡ total_of part l.sheets l.labels)
IsTotal part l (Err in_total.TooManyCells) = is_large part l.sheets ≡ true
IsTotal part l (Err in_total.Memory) = ⊤

-- ---- laws

pub record IsNumbered (space : Layers) (w : Wanted) (c : Covering) : Type 0 where
  pub listed : w.index ≤ length (covers_in space w.sheets w.component)
  pub table : ◌≡◌ {A = Position} (c.sheets, c.cells) (slice_index_or (covers_in space w.sheets w.component) (w.index - 1) (0, []))
  pub cover : c ≡ covering_of (part_of space w.component) (c.sheets, c.cells) (total_at (part_of space w.component) (c.sheets, c.cells))
  pub regular : IsRegular c.total
  pub one : component_count c.total ≡ 1

abbrev pub NumberedAreCovers : Type 0
NumberedAreCovers =
    (space : Layers) (w : Wanted) (c : Covering)
    → IsSpace space
    → IsRegular space
    → IsWanted w
    → covering_in space w ≡ Ok c
    → IsNumbered space w c
