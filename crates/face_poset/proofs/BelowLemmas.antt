-- Lemmas on a cell with all its faces.
use Rattle.std.proofs.Common.{◌≡◌, ◌≢◌, ◌≤◌, ◌+◌, ◌-◌, ◌++◌, ◌∷◌, [], ℕ, zero, suc, Bool, ◌||◌, List, length, get_or, map, refl, ◌∙◌, ap, arith, subst, All, Contains, eqb, ◌*◌, mul-le-mul_right}
use Rattle.std.specs.List.{flat_map, list_any}
use Rattle.std.specs.List.Sorted.{IsStrictlyIncreasing}
use Rattle.std.proofs.lemmas.List.{length-append, length-map, get_or_past}
use Rattle.std.proofs.lemmas.List.Folds.{list_any-append}
use Rattle.std.proofs.lemmas.List.Elements.{All-filter}
use Rattle.face_poset.specs.declared.cells.Cell.{Cell}
use Rattle.number_lists.specs.Words.{upto, holds}
use Rattle.face_poset.specs.Poset.{layer, count, cell_count, facets_of, IsCell, IsSpace}
use Rattle.face_poset.specs.Below.{cell_at, facets_of_all, closure}
use Rattle.number_lists.proofs.CallerLemmas.{members_sorted, holds-Contains, same_holds, length-filter-le, All-upto, length-upto, any-some, In-Contains}

pub closure-step : (space : List (List (List ℕ))) (dim : ℕ) (cells : List ℕ) → dim ≢ 0 → closure space dim cells ≡ closure space (dim - 1) (facets_of_all space (dim - 1) cells) ++ map (cell_at dim) cells
closure-step space zero cells ne = absurd (ne refl)
closure-step space (suc dim) cells ne =
    let e : dim ≡ suc dim - 1 = omega arith in
    ap (λ (d : ℕ). closure space d (facets_of_all space d cells) ++ map (cell_at (suc dim)) cells) e

-- the facets of these cells are those of some cell
pub holds-flat_map : (F : ℕ → List ℕ) (cells : List ℕ) (n : ℕ) → holds (flat_map F cells) n ≡ list_any (λ c. holds (F c) n) cells
holds-flat_map F [] n = refl
holds-flat_map F (c ∷ cells) n = list_any-append (λ y. eqb y n) (F c) (flat_map F cells) ∙ ap (λ (b : Bool). holds (F c) n || b) (holds-flat_map F cells n)

-- facets are cells of one dimension less
pub facet_within : (space : List (List (List ℕ))) (dim c f : ℕ) → IsSpace space → 1 ≤ dim → 1 ≤ c → c ≤ count space dim → Contains (facets_of space dim c) f → (1 ≤ f) × (f ≤ count space (dim - 1))
facet_within space dim c f h low first last has =
    let cell : IsCell (count space (dim - 1)) (facets_of space dim c) = h.cells dim low (c - 1) [] (omega arith) in
    let at : (1 ≤ get_or (facets_of space dim c) has.0 f) × (get_or (facets_of space dim c) has.0 f ≤ count space (dim - 1)) = cell.within has.0 f has.1 in
    subst (λ (n : ℕ). (1 ≤ n) × (n ≤ count space (dim - 1))) has.2 at

-- a sorted list of the facets of these cells
pub sorted_facets : (space : List (List (List ℕ))) (dim : ℕ) (cells all xs : List ℕ) → IsSpace space → All (λ c. (1 ≤ c) × (c ≤ count space (dim + 1))) cells
    → all ≡ flat_map (λ c. facets_of space (dim + 1) c) cells → IsStrictlyIncreasing xs → ((n : ℕ) → Contains all n → Contains xs n) → ((n : ℕ) → Contains xs n → Contains all n)
    → xs ≡ facets_of_all space dim cells
sorted_facets space dim cells all xs h valid e rises keeps adds =
    let p : ℕ → Bool = λ f. list_any (λ c. holds (facets_of space (dim + 1) c) f) cells in
    members_sorted xs p (count space dim) rises
    (λ n. same_holds xs all n (adds n) (keeps n) ∙ (ap (λ (ys : List ℕ). holds ys n) e ∙ holds-flat_map (λ c. facets_of space (dim + 1) c) cells n))
    (λ n yes.
    let a = any-some (λ c. holds (facets_of space (dim + 1) c) n) cells yes in
    let at : Contains cells a.0 = In-Contains a.1 in
    let w : (1 ≤ get_or cells at.0 a.0) × (get_or cells at.0 a.0 ≤ count space (dim + 1)) = valid at.0 a.0 at.1 in
    let v : (1 ≤ a.0) × (a.0 ≤ count space (dim + 1)) = subst (λ (m : ℕ). (1 ≤ m) × (m ≤ count space (dim + 1))) at.2 w in
    let r : (1 ≤ n) × (n ≤ count space (dim + 1 - 1)) = facet_within space (dim + 1) a.0 n h (omega arith) v.0 v.1 (holds-Contains (facets_of space (dim + 1) a.0) n a.2) in
    subst (λ (m : ℕ). (1 ≤ n) × (n ≤ count space m)) (let q : dim + 1 - 1 ≡ dim = omega arith in q) r)

pub facets_within : (space : List (List (List ℕ))) (dim : ℕ) (cells : List ℕ) → All (λ f. (1 ≤ f) × (f ≤ count space dim)) (facets_of_all space dim cells)
facets_within space dim cells = All-filter (λ f. list_any (λ c. holds (facets_of space (dim + 1) c) f) cells) (λ f. (1 ≤ f) × (f ≤ count space dim)) (upto (count space dim)) (All-upto (count space dim))

pub facets_few : (space : List (List (List ℕ))) (dim : ℕ) (cells : List ℕ) → length (facets_of_all space dim cells) ≤ count space dim
facets_few space dim cells = omega (arith, length-filter-le (λ f. list_any (λ c. holds (facets_of space (dim + 1) c) f) cells) (upto (count space dim)), length-upto (count space dim))

pub count-few : (space : List (List (List ℕ))) → length space ≡ 4 → cell_count space ≤ 60000 → (d : ℕ) → count space d ≤ 60000
count-few space four few zero = omega arith
count-few space four few (suc zero) = omega arith
count-few space four few (suc (suc zero)) = omega arith
count-few space four few (suc (suc (suc zero))) = omega arith
count-few space four few (suc (suc (suc (suc d)))) =
    let none : layer space (suc (suc (suc (suc d)))) ≡ [] = get_or_past space (suc (suc (suc (suc d)))) [] (omega arith) in
    omega (arith, ap length none)

-- how many cells a closure has
closure-few : (space : List (List (List ℕ))) (dim : ℕ) (cells : List ℕ) (most : ℕ) → ((d : ℕ) → count space d ≤ most) → length (closure space dim cells) ≤ length cells + dim * most
closure-few space zero cells most h = omega (arith, length-map cells (cell_at zero))
closure-few space (suc dim) cells most h =
    let rest : length (closure space dim (facets_of_all space dim cells)) ≤ length (facets_of_all space dim cells) + dim * most = closure-few space dim (facets_of_all space dim cells) most h in
    let few : length (facets_of_all space dim cells) ≤ most = omega (arith, facets_few space dim cells, h dim) in
    omega (arith, length-append (closure space dim (facets_of_all space dim cells)) (map (cell_at (suc dim)) cells), length-map cells (cell_at (suc dim)))

-- the closure of one cell has few
pub closure-one : (space : List (List (List ℕ))) (dim cell : ℕ) → IsSpace space → cell_count space ≤ 60000 → dim ≤ 3 → length (closure space dim (cell ∷ [])) ≤ 4294967295
closure-one space dim cell h few le =
    let most : (d : ℕ) → count space d ≤ 60000 = count-few space h.layers few in
    let r : length (closure space dim (cell ∷ [])) ≤ 1 + dim * 60000 = closure-few space dim (cell ∷ []) 60000 most in
    let p : dim * 60000 ≤ 3 * 60000 = mul-le-mul_right 60000 le in
    omega arith

pub add_closure : (space : List (List (List ℕ))) (dim : ℕ) (cells : List ℕ) (old : List Cell) → dim ≢ 0 → length old + length (closure space dim cells) ≤ 4294967295
    → length old + length (closure space (dim - 1) (facets_of_all space (dim - 1) cells)) + length cells ≤ 4294967295
add_closure space dim cells old ne room =
    omega (arith, ap length (closure-step space dim cells ne), length-append (closure space (dim - 1) (facets_of_all space (dim - 1) cells)) (map (cell_at dim) cells), length-map cells (cell_at dim))
