-- Fields of pairs on a graded set: lists of a cell with a coface of it, no cell in two of them, in an order in which a value at the lower
-- of a pair can be found from values at the lowers of earlier ones. (Discrete vector fields: R. Forman, Morse theory for cell complexes.)
-- space is the lists of a graded set, pairs a list of pairs, p a pair; cells are numbered from 1 in each dimension.
--   pair dim lower upper             a cell, of dimension dim, and a coface by their numbers
--   has_lower dim cell p             whether the cell is the lower of the pair
--   uses dim cell p                  whether it is the lower or the upper
--   is_used pairs dim cell           whether it is in some pair of the list
--   is_incident space p              whether the two cells are there, and the lower is a facet of the upper
--   others space p                   the other facets of the upper
--   comes_before space p later       whether no other facet of the upper is the lower of one of the later pairs, in the same dimension
--   fits space earlier p later       whether the pair may stand after the earlier pairs and before the later ones
--   bad_from space earlier i pairs   the first index of a pair that does not fit, where i is that of the first and `earlier` stands before
--   first_bad space pairs            the first index, counted from 0, of a pair that does not fit
--   IsValid space pairs              each pair fits
--   IsFault first fault              the fault is want of memory, or the first index of a pair that does not fit
--   Field                            the pairs in their order, and how many cells of dimensions 0 to 3 there are
--   counts_of space                  how many cells of dimensions 0 to 3 a graded set has
--   IsFieldOf space field            the field is one on this graded set
--   unpaired pairs dim most          the cells from 1 to `most` that are in no pair
--   critical_of field dim            the critical cells of a dimension: those in no pair
--   IsPartner pairs dim cell how     what the pairs say of a cell
use Rattle.std.specs.Prelude.{◌≡◌, ⊤, ℕ, suc, ◌+◌, ◌&&◌, ◌||◌, ◌==◌, List, [], ◌∷◌, ◌++◌, Bool, false, cond, not, nat_lt, nat_le, filter, map, slice_index, Option, Some, None}
use Rattle.std.specs.List.{list_all, list_any}
use Rattle.number_lists.specs.Members.{In}
use Rattle.face_poset.specs.declared.cells.Pair.{Pair}
use Rattle.number_lists.specs.Words.{upto, holds}
use Rattle.face_poset.specs.Poset.{Layers, count, facets_of}
use Rattle.vector_field.specs.declared.fault.PairFault.{PairFault}
use Rattle.vector_field.specs.declared.fault.PairFault.TheVariants.{Bad, Memory}
use Rattle.vector_field.specs.declared.partner.Partner.{Partner}
use Rattle.vector_field.specs.declared.partner.Partner.TheVariants.{Critical, Upper, Lower}

abbrev pub pair : (dim lower upper : ℕ) → Pair
pair dim lower upper = record { dim = dim; lower = lower; upper = upper }

abbrev pub has_lower : (dim cell : ℕ) → Pair → Bool
has_lower dim cell p = (p.dim == dim) && (p.lower == cell)

abbrev pub uses : (dim cell : ℕ) → Pair → Bool
uses dim cell p = has_lower dim cell p || ((p.dim + 1 == dim) && (p.upper == cell))

abbrev pub is_used : List Pair → (dim cell : ℕ) → Bool
is_used pairs dim cell = list_any (uses dim cell) pairs

abbrev pub is_incident : Layers → Pair → Bool
is_incident space p =
    nat_lt p.dim 3
    && (nat_le 1 p.lower
    && (nat_le p.lower (count space p.dim)
    && (nat_le 1 p.upper
    && (nat_le p.upper (count space (p.dim + 1))
    && holds (facets_of space (p.dim + 1) p.upper) p.lower))))

abbrev pub others : Layers → Pair → List ℕ
others space p = filter (λ f. not (f == p.lower)) (facets_of space (p.dim + 1) p.upper)

abbrev pub comes_before : Layers → Pair → List Pair → Bool
comes_before space p later = list_all (λ f. not (list_any (has_lower p.dim f) later)) (others space p)

abbrev pub fits : Layers → (earlier : List Pair) → Pair → (later : List Pair) → Bool
fits space earlier p later =
    is_incident space p
    && (not (is_used earlier p.dim p.lower)
    && (not (is_used earlier (p.dim + 1) p.upper)
    && comes_before space p later))

abbrev pub bad_from : Layers → (earlier : List Pair) → (index : ℕ) → List Pair → Option ℕ
bad_from space earlier index [] = None
bad_from space earlier index (p ∷ ps) = cond (fits space earlier p ps) (bad_from space (earlier ++ p ∷ []) (suc index) ps) (Some index)

abbrev pub first_bad : Layers → List Pair → Option ℕ
first_bad space pairs = bad_from space [] 0 pairs

abbrev pub IsValid : Layers → List Pair → Type 0
IsValid space pairs = first_bad space pairs ≡ None

abbrev pub IsFault : Option ℕ → PairFault → Type 0
IsFault first Memory = ⊤
IsFault first (Bad index) = first ≡ Some index

pub record Field : Type 0 where
  pub pairs : List Pair
  pub counts : List ℕ

abbrev pub counts_of : Layers → List ℕ
counts_of space = map (count space) (0 ∷ 1 ∷ 2 ∷ 3 ∷ [])

pub record IsFieldOf (space : Layers) (field : Field) : Type 0 where
  pub counts : field.counts ≡ counts_of space
  pub valid : IsValid space field.pairs

abbrev pub unpaired : List Pair → (dim most : ℕ) → List ℕ
unpaired pairs dim most = filter (λ cell. not (is_used pairs dim cell)) (upto most)

abbrev pub critical_of : Field → (dim : ℕ) → List ℕ
critical_of field dim = unpaired field.pairs dim (slice_index field.counts dim)

abbrev pub IsPartner : List Pair → (dim cell : ℕ) → Partner → Type 0
IsPartner pairs dim cell Critical = is_used pairs dim cell ≡ false
IsPartner pairs dim cell (Upper upper) = In (pair dim cell upper) pairs
IsPartner pairs dim cell (Lower lower) = (below : ℕ) × (dim ≡ below + 1) × In (pair below lower cell) pairs
