-- The order complex as a graded set with signs: the facets of a chain are the chains with one entry left out.
-- Chains of a degree are numbered from 1 in lexicographic order.
--   number_in chains ids                   the number of a sequence in a list of sequences, if it is there
--   number_or_zero chains ids              the same, or 0 where it is not there
--   facet_numbers chains chain             the numbers of the facets of a chain, the last entry left out first
--   facet_lists space degree               the facets of each chain of a degree
--   complex_of space                       the facets of the chains of degrees 0 to 3
--   chain_layers space                     the chains of degrees 0 to 3
--   stored_facets, stored_cofaces space    what the code keeps of facets and cofaces
--   stands_odd ns n                        the place of n in ns, counted from 0, is odd
--   negative_in space degree chain facet   the sign of a facet of a chain is -1
--   IsRefused count limit fault            a limit is passed, or there was no memory
--   position_of space ids                  the number of a chain of one to four cells
--   last_of chain                          the last entry
--   HasId space cell id                    the cell is one of the space, with this id
--   IsNumbered space degree number ids     the sequence is the chain of a degree with a number
use Rattle.std.specs.Prelude.{◌≡◌, ⊤, ℕ, zero, suc, ◌-◌, ◌≤◌, ◌<◌, ◌==◌, ◌&&◌, nat_le, List, [], ◌∷◌, Bool, false, not, cond, if◌then◌else◌, map, reverse, length, slice_index, slice_index_or, option_map, unwrap_or}
use Rattle.std.specs.declared.option.Option.{Option}
use Rattle.std.specs.declared.option.Option.TheVariants.{Some, None}
use Rattle.std.specs.Str.{bytes_eq}
use Rattle.face_poset.specs.declared.cells.Cell.{Cell}
use Rattle.number_lists.specs.Cofaces.{coface_lists}
use Rattle.face_poset.specs.Poset.{Layers, count}
use Rattle.order_complex.specs.declared.fault.ChainFault.{ChainFault}
use Rattle.order_complex.specs.declared.fault.ChainFault.TheVariants.{TooManyChains, Memory}
use Rattle.order_complex.specs.Chains.{chains_of, id_of}
use Rattle.order_complex.specs.Cochains.{leave_out}

-- the number of a sequence in a list of sequences, counted from 1, if it is there
abbrev pub number_in : List (List ℕ) → List ℕ → Option ℕ
number_in [] ids = None
number_in (chain ∷ chains) ids = cond (bytes_eq chain ids) (Some 1) (option_map suc (number_in chains ids))

abbrev pub number_or_zero : List (List ℕ) → List ℕ → ℕ
number_or_zero chains ids = unwrap_or (number_in chains ids) 0

-- the numbers of the chains that come of one entry left out, the last entry first: a later entry left out gives an earlier chain
abbrev pub facet_numbers : List (List ℕ) → List ℕ → List ℕ
facet_numbers chains chain = reverse (map (number_or_zero chains) (leave_out chain))

-- the facets of each chain of a degree, by their numbers
abbrev pub facet_lists : Layers → (degree : ℕ) → List (List ℕ)
facet_lists space zero = map (λ chain. []) (chains_of space 0)
facet_lists space (suc degree) = map (facet_numbers (chains_of space degree)) (chains_of space (suc degree))

abbrev pub complex_of : Layers → Layers
complex_of space = facet_lists space 0 ∷ facet_lists space 1 ∷ facet_lists space 2 ∷ facet_lists space 3 ∷ []

abbrev pub chain_layers : Layers → Layers
chain_layers space = chains_of space 0 ∷ chains_of space 1 ∷ chains_of space 2 ∷ chains_of space 3 ∷ []

-- the lists of facets of the chains of three and of four cells (those of the chains of two cells are the chains)
abbrev pub stored_facets : Layers → Layers
stored_facets space = facet_lists space 2 ∷ facet_lists space 3 ∷ []

-- the lists of cofaces of the chains of one, two and three cells (those of four cells have none)
abbrev pub stored_cofaces : Layers → Layers
stored_cofaces space =
    coface_lists (length (chains_of space 0)) (facet_lists space 1)
    ∷ coface_lists (length (chains_of space 1)) (facet_lists space 2)
    ∷ coface_lists (length (chains_of space 2)) (facet_lists space 3)
    ∷ []

-- the place of a number in a list, counted from 0, is odd
abbrev pub stands_odd : List ℕ → ℕ → Bool
stands_odd [] number = false
stands_odd (n ∷ ns) number = cond (n == number) false (not (stands_odd ns number))

-- the facet with an entry left out has the sign -1 where the place of the entry, counted from 0, is odd
abbrev pub negative_in : Layers → (degree chain facet : ℕ) → Bool
negative_in space zero chain facet = false
negative_in space (suc degree) chain facet =
    stands_odd (map (number_or_zero (chains_of space degree)) (leave_out (slice_index_or (chains_of space (suc degree)) (chain - 1) []))) facet

-- a limit is passed: the number of chains is above it, and is the number that the refusal carries
abbrev pub IsRefused : (count limit : ℕ) → ChainFault → Type 0
IsRefused count limit (TooManyChains n) = (n ≡ count) × (limit < count)
IsRefused count limit Memory = ⊤

-- the number of a chain of one to four cells, counted from 1 in its degree
abbrev pub position_of : Layers → List ℕ → Option ℕ
position_of space ids = if nat_le 1 (length ids) && nat_le (length ids) 4 then number_in (chains_of space (length ids - 1)) ids else None

-- the last entry
abbrev pub last_of : List ℕ → ℕ
last_of chain = slice_index chain (length chain - 1)

-- the cell with an id
pub record HasId (space : Layers) (cell : Cell) (id : ℕ) : Type 0 where
  pub small : cell.dim ≤ 3
  pub low : 1 ≤ cell.number
  pub high : cell.number ≤ count space cell.dim
  pub is : id_of space cell ≡ id

-- the sequence is the chain of a degree with a number, counted from 1
pub record IsNumbered (space : Layers) (degree number : ℕ) (ids : List ℕ) : Type 0 where
  pub low : 1 ≤ number
  pub high : number ≤ length (chains_of space degree)
  pub is : slice_index_or (chains_of space degree) (number - 1) [] ≡ ids
