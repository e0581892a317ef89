-- Vertices that are found level by level. space is the lists of a space, edges a list of edges, old and new are the vertices found before
-- and after.
--   Grows old new                          what was found stays at its place, and no vertex is found twice where none was
--   IsVisited space edges x old new        besides, all that some of the edges join to the vertex x are found, and nothing else is
--   AreVisited space edges xs old new      so for each of the vertices xs
use Rattle.std.specs.Prelude.{◌≡◌, ◌⊎◌, ℕ, ◌≤◌, ◌<◌, List, length, slice_index, eqb, true}
use Rattle.std.specs.List.{IsDistinct}
use Rattle.number_lists.specs.Members.{In}
use Rattle.face_poset.specs.Poset.{Layers}
use Rattle.chosen_field.specs.Chosen.{joined_by}

pub record Grows (old new : List ℕ) : Type 0 where
  pub kept : (y : ℕ) → In y old → In y new
  pub place : (k : ℕ) → k < length old → slice_index new k ≡ slice_index old k
  pub long : length old ≤ length new
  pub distinct : IsDistinct eqb old → IsDistinct eqb new

pub record IsVisited (space : Layers) (edges : List ℕ) (x : ℕ) (old new : List ℕ) : Type 0 where
  pub grows : Grows old new
  pub added : (y : ℕ) → joined_by space edges x y ≡ true → In y new
  pub only : (y : ℕ) → In y new → In y old ⊎ (joined_by space edges x y ≡ true)

pub record AreVisited (space : Layers) (edges xs old new : List ℕ) : Type 0 where
  pub grows : Grows old new
  pub added : (x y : ℕ) → In x xs → joined_by space edges x y ≡ true → In y new
  pub only : (y : ℕ) → In y new → In y old ⊎ ((x : ℕ) × In x xs × (joined_by space edges x y ≡ true))
