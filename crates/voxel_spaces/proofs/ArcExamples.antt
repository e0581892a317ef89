-- Worked examples of which voxels stay. Two rows, each with the columns 1 and 2.
use Rattle.std.proofs.Common.{◌≡◌, refl, ◌∷◌, [], List, ℕ, true, false, filter, length}
use Rattle.tuple_spaces.specs.Tuples.{boxed}
use Rattle.voxel_spaces.specs.ArcComplements.{box_of, is_taken, stays}

abbrev rows : List (ℕ × ℕ)
rows = (2, 1) ∷ (1, 2) ∷ []

-- the arc of row 1, from x = 1 to x = 3, and its connectors
arc_begins : is_taken rows 1 1 1 ≡ true
arc_begins = refl

arc_goes_on : is_taken rows 2 1 1 ≡ true
arc_goes_on = refl

before_the_arc : is_taken rows 0 1 1 ≡ false
before_the_arc = refl

after_the_arc : is_taken rows 4 1 1 ≡ false
after_the_arc = refl

connector : is_taken rows 3 1 2 ≡ true
connector = refl

between_connectors : is_taken rows 2 1 2 ≡ false
between_connectors = refl

-- the arc of column 2, from y = 1 to y = 3
column : is_taken rows 3 2 3 ≡ true
column = refl

between_columns : is_taken rows 2 2 3 ≡ false
between_columns = refl

above_the_column : is_taken rows 3 4 3 ≡ false
above_the_column = refl

-- the arc of column 1 passes row 2, which has it not
other_row : is_taken ((1, 3) ∷ (2, 3) ∷ (1, 2) ∷ []) 1 3 3 ≡ true
other_row = refl

-- of the 125 voxels 109 stay
how_many : length (filter (stays rows) (boxed (box_of 2))) ≡ 109
how_many = refl
