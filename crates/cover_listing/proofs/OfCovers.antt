-- What is listed over the components of a space are the covers of the parts.
use Rattle.std.proofs.Common.{◌≡◌, inl, ℕ, zero, suc, ◌+◌, ◌-◌, ◌*◌, ◌<◌, ◌≤◌, List, [], ◌++◌, map, filter, refl, ap, arith, sym, subst, ◌∙◌}
use Rattle.std.specs.List.{flat_map}
use Rattle.number_lists.specs.Words.{upto}
use Rattle.number_lists.specs.Members.{In}
use Rattle.number_lists.proofs.CallerLemmas.{flat_map-In, map-In, upto-In}
use Rattle.face_poset.specs.Poset.{Layers}
use Rattle.face_poset.specs.declared.cells.Pair.{Pair}
use Rattle.regular_check.specs.Components.{component_count}
use Rattle.space_parts.specs.Parts.{part_of}
use Rattle.space_parts.specs.Laws.{PartsAreRegular}
use Rattle.chosen_field.specs.Chosen.{chosen}
use Rattle.chosen_field.specs.Laws.{ChosenIsGood}
use Rattle.sheet_laws.specs.Permutations.{lists}
use Rattle.sheet_laws.specs.Lifts.{columns_of, is_cover}
use Rattle.live_laws.specs.Trees.{from}
use Rattle.live_laws.specs.Live.{Relations, Position, listed, comes_after}
use Rattle.cover_laws.specs.Covers.{covers_of, covers}
use Rattle.cover_laws.specs.Laws.{HasGoodField, ListedAreCovers}
use Rattle.cover_listing.specs.Listings.{Member, each_in}
use Rattle.cover_listing.specs.PartCovers.{relations_in, covers_in, ListingsAreOfCovers}
use Rattle.cover_listing.proofs.Cuts.{filter-all}
use Rattle.cover_listing.proofs.Passing.{first}

cover-sheet : (space : Layers) (pairs : List Pair) (n : ℕ) (x : Position) → In x (covers space pairs n) → 1 ≤ x.0
cover-sheet space pairs n x h =
    let f = flat_map-In (covers_of space pairs) (upto n) h in
    let g = map-In (λ (q : List ℕ). (f.0, q)) (filter (λ q. is_cover space pairs (f.0, q)) (lists f.0 (f.0 * columns_of space pairs))) f.2 in
    subst (λ (q : Position). 1 ≤ q.0) (sym g.2) (upto-In n f.0 f.1).0

all-covers : (space : Layers) (pairs : List Pair) (n : ℕ) → filter (comes_after (0, [])) (covers space pairs n) ≡ covers space pairs n
all-covers space pairs n = filter-all (comes_after (0, [])) (covers space pairs n) (λ x h. first x (cover-sheet space pairs n x h))

each-from : (ts : Relations → List Position) (P : ℕ → Relations) (us : ℕ → List Position) (i k : ℕ) → ((j : ℕ) → i ≤ j → j < i + k → ts (P j) ≡ us j)
    → each_in ts i (map P (from i k)) ≡ flat_map (λ j. map (λ t. (j, t)) (us j)) (from i k)
each-from ts P us i zero h = refl
each-from ts P us i (suc k) h =
    ap (λ (xs : List Position). map (λ t. (i, t)) xs ++ each_in ts (suc i) (map P (from (suc i) k))) (h i (omega arith) (omega arith))
    ∙ ap (λ (qs : List Member). map (λ t. (i, t)) (us i) ++ qs) (each-from ts P us (suc i) k (λ j l m. h j (omega (arith, l)) (omega (arith, m))))

pub listings_are_of_covers : ListedAreCovers → PartsAreRegular → ChosenIsGood → ListingsAreOfCovers
listings_are_of_covers laws parts good space n i valid regular least low =
    each-from (λ P. listed P n (0, [])) (relations_in space) (covers_in space n) i (suc (component_count space) - i) (λ j l m. one j (omega (arith, l, low)) (omega (arith, l, m)))
  where
    one : (j : ℕ) → 1 ≤ j → j ≤ component_count space → listed (relations_in space j) n (0, []) ≡ covers_in space n j
    one j l m =
        let w = parts space j valid regular l m in
        let field : HasGoodField (part_of space j) (chosen (part_of space j)) = record { is = w.valid; regular = w.regular; one = w.one; good = good (part_of space j) (record { valid = w.valid; regular = w.regular; one = w.one }) } in
        laws (part_of space j) (chosen (part_of space j)) n (0, []) field least (inl refl) ∙ all-covers (part_of space j) (chosen (part_of space j)) n
