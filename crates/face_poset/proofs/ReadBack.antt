-- What was printed reads as the space again.
use Rattle.std.proofs.Common.{◌≡◌, ◌≢◌, ◌<◌, ◌≤◌, ◌+◌, ◌-◌, ◌++◌, ◌∷◌, [], ℕ, zero, suc, Bool, true, false, cond, ◌||◌, leb, ltb, List, length, get_or, map, filter, sum_by, refl, sym, ◌∙◌, ap, arith, subst, decimal, Result, Ok, All, codes}
use Rattle.std.proofs.lemmas.Slice.Zip.{AllZip-long}
use Rattle.std.specs.List.{AllZip, AllByRecursion, range_with_len}
use Rattle.std.proofs.lemmas.Bool.{leb-true, leb-false, le-ltb, ne_eqb}
use Rattle.std.proofs.lemmas.List.{get_or_past, nil_from_length, length-map}
use Rattle.std.proofs.lemmas.List.Folds.{list_any_none}
use Rattle.std.proofs.lemmas.List.Elements.{All-tail}
use Rattle.std.proofs.lemmas.List.FromFn.{length-range_with_len}
use Rattle.std.proofs.lemmas.Fmt.{decimal_digit}
use Rattle.gap_text.specs.Value.{Value}
use Rattle.gap_text.specs.Grammar.{IsValueOf, Lexes, nothing, blank, plain}
use Rattle.gap_text.proofs.CallerLemmas.{value_of-spelled}
use Rattle.face_poset.specs.declared.fault.SpaceFault.{SpaceFault}
use Rattle.number_lists.specs.Words.{upto, holds}
use Rattle.face_poset.specs.Poset.{layer, count, dimension_of, IsDimension, IsCell, IsSpace, IsLimited}
use Rattle.face_poset.specs.Text.{brackets, cell_text, layer_text, layer_texts, boundary_text}
use Rattle.face_poset.specs.Reader.{and_then, each_from, as_list, as_number, as_cell, facets_from, cell_from, layer_from, layers_from, trimmed, sized, space_of}
use Rattle.face_poset.specs.Tops.{inner, IsSized}
use Rattle.face_poset.specs.Laws.{ReadsAs}
use Rattle.number_lists.proofs.CallerLemmas.{members_sorted, holds-Contains, length-upto, distinct_rising, length-filter-le}
use Rattle.face_poset.proofs.Facets.{is_outside, facets_checked, none_twice}
use Rattle.face_poset.proofs.BelowLemmas.{count-few}
use Rattle.face_poset.proofs.Values.{items-values, as_cell-is, as_list-is}
use Rattle.face_poset.proofs.LayerLemmas.{trimmed-full, sized-ok, four-ok, space-steps, total_four}
use Rattle.face_poset.proofs.Spelling.{SpelledAt, Spelled, ListOf, number-spelled, list-spelled}

-- the numbers that stand in the text of a cell
abbrev numbers_of : ℕ → List ℕ → List ℕ
numbers_of zero facets = 1 ∷ 0 ∷ []
numbers_of (suc dim) facets = length facets ∷ facets

abbrev IsNumber : ℕ → Value → Type 0
IsNumber n v = as_number v ≡ Ok n

abbrev IsCellValue : ℕ → List ℕ → Value → Type 0
IsCellValue dim facets v = as_cell v ≡ Ok (numbers_of dim facets)

abbrev IsLayerValue : List (List (List ℕ)) → ℕ → Value → Type 0
IsLayerValue space dim v = ListOf (IsCellValue dim) (layer space dim) v

-- ---- the text spells such values

zip_numbers : (m : ℕ) (ns : List ℕ) (vs : List Value) → AllZip IsNumber ns vs → each_from m (λ _ w. as_number w) vs ≡ Ok ns
zip_numbers m [] [] h = refl
zip_numbers m [] (v ∷ vs) h = absurd h
zip_numbers m (n ∷ ns) [] h = absurd h
zip_numbers m (n ∷ ns) (v ∷ vs) h =
    ap (λ (r : Result ℕ SpaceFault). and_then r (λ y. and_then (each_from (suc m) (λ _ w. as_number w) vs) (λ ys. Ok (y ∷ ys)))) h.0
    ∙ ap (λ (r : Result (List ℕ) SpaceFault). and_then r (λ ys. Ok (n ∷ ys))) (zip_numbers (suc m) ns vs h.1)

-- a list of these numbers is a cell with them
cell_of : (ns : List ℕ) (v : Value) → 0 < length ns → ListOf IsNumber ns v → as_cell v ≡ Ok ns
cell_of ns v some l =
    ap as_cell l.is ∙ (as_cell-is l.place l.items (omega (arith, AllZip-long IsNumber ns l.items l.each)) ∙ zip_numbers 0 ns l.items l.each)

weaker : (k : ℕ) (text : List ℕ) (P Q : Value → Type 0) → ((v : Value) → P v → Q v) → Spelled k text P → Spelled k text Q
weaker k text P Q f s p bs rest ends lex =
    let r : SpelledAt k p (text ++ bs) rest P = s p bs rest ends lex in
    record { tokens = r.tokens; lexes = r.lexes; value = r.value; has = f r.value r.has; reads = r.reads; shallow = r.shallow }

all_numbers : (ns : List ℕ) → All (λ n. n < 4294967296) ns → AllByRecursion (λ n. Spelled 0 (decimal n) (IsNumber n)) ns
all_numbers [] h = tt
all_numbers (n ∷ ns) h = (number-spelled n (h 0 0 (omega arith)), all_numbers ns (All-tail (λ m. m < 4294967296) n ns h))

numbers-spelled : (ns : List ℕ) → 0 < length ns → All (λ n. n < 4294967296) ns → Spelled 1 (brackets (map decimal ns)) (λ v. as_cell v ≡ Ok ns)
numbers-spelled ns some h = weaker 1 (brackets (map decimal ns)) (ListOf IsNumber ns) (λ v. as_cell v ≡ Ok ns) (λ v l. cell_of ns v some l) (list-spelled decimal IsNumber 0 ns (all_numbers ns h))

-- a list of facets is no longer than there are cells below
facets_few : (below : ℕ) (facets : List ℕ) → IsCell below facets → facets ≡ filter (holds facets) (upto below)
facets_few below facets h =
    members_sorted facets (holds facets) below h.rises (λ n. refl)
    (λ n has. let at = holds-Contains facets n has in
    subst (λ (m : ℕ). (1 ≤ m) × (m ≤ below)) at.2 (h.within at.0 n at.1))

facets_long : (below : ℕ) (facets : List ℕ) → IsCell below facets → length facets ≤ below
facets_long below facets h = omega (arith, ap length (facets_few below facets h), length-filter-le (holds facets) (upto below), length-upto below)

-- a cell that can stand in a dimension, over so many cells
abbrev IsCellIn : ℕ → ℕ → List ℕ → Type 0
IsCellIn zero below facets = facets ≡ []
IsCellIn (suc dim) below facets = IsCell below facets

cell-spelled : (dim below : ℕ) (facets : List ℕ) → below ≤ 60000 → IsCellIn dim below facets → Spelled 1 (cell_text dim facets) (IsCellValue dim facets)
cell-spelled zero below facets few h =
    let one : decimal 1 ≡ 49 ∷ [] = decimal_digit 1 (omega arith) in
    let nought : decimal 0 ≡ 48 ∷ [] = decimal_digit 0 (omega arith) in
    let text : brackets (map decimal (1 ∷ 0 ∷ [])) ≡ codes "[1,0]" = ap (λ (xs : List ℕ). 91 ∷ ((xs ++ 44 ∷ decimal 0) ++ 93 ∷ [])) one ∙ ap (λ (xs : List ℕ). 91 ∷ 49 ∷ 44 ∷ (xs ++ 93 ∷ [])) nought in
    subst (λ (t : List ℕ). Spelled 1 t (λ v. as_cell v ≡ Ok (1 ∷ 0 ∷ []))) text (numbers-spelled (1 ∷ 0 ∷ []) (omega arith) small)
  where
    small : All (λ n. n < 4294967296) (1 ∷ 0 ∷ [])
    small zero d l = omega arith
    small (suc zero) d l = omega arith
    small (suc (suc k)) d l = absurd (omega arith)
cell-spelled (suc dim) below facets few h =
    let long : length facets ≤ below = facets_long below facets h in
    numbers-spelled (length facets ∷ facets) (omega arith) (small (length facets) facets (omega arith) (λ k d l. let w : (1 ≤ get_or facets k d) × (get_or facets k d ≤ below) = h.within k d l in omega arith))
  where
    small : (n : ℕ) (ns : List ℕ) → n < 4294967296 → All (λ m. m < 4294967296) ns → All (λ m. m < 4294967296) (n ∷ ns)
    small n ns l all zero d lt = l
    small n ns l all (suc k) d lt = all k d (omega arith)

all_cells : (dim below : ℕ) (cells : List (List ℕ)) → below ≤ 60000 → All (IsCellIn dim below) cells → AllByRecursion (λ facets. Spelled 1 (cell_text dim facets) (IsCellValue dim facets)) cells
all_cells dim below [] few h = tt
all_cells dim below (c ∷ cells) few h = (cell-spelled dim below c few (h 0 [] (omega arith)), all_cells dim below cells few (All-tail (IsCellIn dim below) c cells h))

layer-spelled : (dim below : ℕ) (cells : List (List ℕ)) → below ≤ 60000 → All (IsCellIn dim below) cells → Spelled 2 (layer_text dim cells) (ListOf (IsCellValue dim) cells)
layer-spelled dim below cells few h = list-spelled (cell_text dim) (IsCellValue dim) 1 cells (all_cells dim below cells few h)

-- the cells of a dimension of a space, over those of the dimension before
abbrev below_in : List (List (List ℕ)) → ℕ → ℕ
below_in space zero = 0
below_in space (suc dim) = count space dim

cells_valid : (space : List (List (List ℕ))) → IsSpace space → (dim : ℕ) → All (IsCellIn dim (below_in space dim)) (layer space dim)
cells_valid space h zero = h.vertices
cells_valid space h (suc dim) =
    let e : suc dim - 1 ≡ dim = omega arith in
    subst (λ (d : ℕ). All (IsCell (count space d)) (layer space (suc dim))) e (h.cells (suc dim) (omega arith))

below-few : (space : List (List (List ℕ))) → IsSpace space → IsLimited space → (dim : ℕ) → below_in space dim ≤ 60000
below-few space h few zero = omega arith
below-few space h few (suc dim) = count-few space h.layers few.most dim

all_layers : (space : List (List (List ℕ))) → IsSpace space → IsLimited space → (a n : ℕ) → AllByRecursion (λ dim. Spelled 2 (layer_text dim (layer space dim)) (IsLayerValue space dim)) (range_with_len a n)
all_layers space h few a zero = tt
all_layers space h few a (suc n) = (layer-spelled a (below_in space a) (layer space a) (below-few space h few a) (cells_valid space h a), all_layers space h few (a + 1) n)

-- ---- these values read as the space

zip_cells : (dim below m : ℕ) (cells : List (List ℕ)) (vs : List Value) → ((n : ℕ) → All (λ facets. facets_from dim below n (numbers_of dim facets) ≡ Ok facets) cells) → AllZip (IsCellValue dim) cells vs → each_from m (cell_from dim below) vs ≡ Ok cells
zip_cells dim below m [] [] ok h = refl
zip_cells dim below m [] (v ∷ vs) ok h = absurd h
zip_cells dim below m (c ∷ cells) [] ok h = absurd h
zip_cells dim below m (c ∷ cells) (v ∷ vs) ok h =
    let first : cell_from dim below m v ≡ Ok c = ap (λ (r : Result (List ℕ) SpaceFault). and_then r (facets_from dim below m)) h.0 ∙ ok m 0 [] (omega arith) in
    let rest : each_from (suc m) (cell_from dim below) vs ≡ Ok cells = zip_cells dim below (suc m) cells vs (λ n. All-tail (λ facets. facets_from dim below n (numbers_of dim facets) ≡ Ok facets) c cells (ok n)) h.1 in
    ap (λ (r : Result (List ℕ) SpaceFault). and_then r (λ y. and_then (each_from (suc m) (cell_from dim below) vs) (λ ys. Ok (y ∷ ys)))) first
    ∙ ap (λ (r : Result (List (List ℕ)) SpaceFault). and_then r (λ ys. Ok (c ∷ ys))) rest

-- the checks find no fault in a cell
cell_reads : (dim below n : ℕ) (facets : List ℕ) → IsCellIn dim below facets → facets_from dim below n (numbers_of dim facets) ≡ Ok facets
cell_reads zero below n facets h = ap (λ (fs : List ℕ). Ok fs) (sym h)
cell_reads (suc dim) below n facets h =
    let some : length facets ≢ 0 = λ e. omega (arith, h.some, e) in
    facets_checked (suc dim) below n (length facets) facets false false (omega arith) some refl
    (list_any_none (is_outside below) facets (λ k d l. inside (get_or facets k d) below (h.within k d l)))
    (none_twice facets (distinct_rising facets h.rises))
    ∙ ap (λ (fs : List ℕ). Ok fs) (sym (facets_few below facets h))
  where
    inside : (f below : ℕ) → (1 ≤ f) × (f ≤ below) → is_outside below f ≡ false
    inside f below w = ap (λ (b : Bool). b || ltb below f) (ne_eqb f 0 (λ e. omega (arith, w.0, e))) ∙ le-ltb below f w.1

layer_reads : (space : List (List (List ℕ))) → IsSpace space → (dim : ℕ) (vs : List Value) → AllZip (IsCellValue dim) (layer space dim) vs → layer_from dim (below_in space dim) vs ≡ Ok (layer space dim)
layer_reads space h dim vs zip =
    zip_cells dim (below_in space dim) 1 (layer space dim) vs
    (λ n k d l. cell_reads dim (below_in space dim) n (get_or (layer space dim) k d) (cells_valid space h dim k d l)) zip

-- ---- all layers

zip_lists : (space : List (List (List ℕ))) (m : ℕ) (dims : List ℕ) (ls : List Value) → AllZip (IsLayerValue space) dims ls → each_from m (λ _ w. as_list w) ls ≡ Ok (map inner ls)
zip_lists space m [] [] h = refl
zip_lists space m [] (l ∷ ls) h = absurd h
zip_lists space m (d ∷ dims) [] h = absurd h
zip_lists space m (d ∷ dims) (l ∷ ls) h =
    let f : ListOf (IsCellValue d) (layer space d) l = h.0 in
    let first : as_list l ≡ Ok (inner l) = ap as_list f.is ∙ (as_list-is f.place f.items ∙ ap (λ (ws : List Value). Ok ws) (sym (ap inner f.is ∙ items-values f.items))) in
    ap (λ (r : Result (List Value) SpaceFault). and_then r (λ y. and_then (each_from (suc m) (λ _ w. as_list w) ls) (λ ys. Ok (y ∷ ys)))) first
    ∙ ap (λ (r : Result (List (List Value)) SpaceFault). and_then r (λ ys. Ok (inner l ∷ ys))) (zip_lists space (suc m) dims ls h.1)

-- the layer of each dimension that is written
zip_at : (space : List (List (List ℕ))) (a n : ℕ) (ls : List Value) → AllZip (IsLayerValue space) (range_with_len a n) ls → (d : ℕ) → d < n → AllZip (IsCellValue (a + d)) (layer space (a + d)) (get_or (map inner ls) d [])
zip_at space a zero ls h d l = absurd (omega arith)
zip_at space a (suc n) [] h d l = absurd h
zip_at space a (suc n) (w ∷ ls) h zero l =
    let f : ListOf (IsCellValue a) (layer space a) w = h.0 in
    let e : a ≡ a + 0 = omega arith in
    subst (λ (m : ℕ). AllZip (IsCellValue m) (layer space m) (inner w)) e (subst (AllZip (IsCellValue a) (layer space a)) (sym (ap inner f.is ∙ items-values f.items)) f.each)
zip_at space a (suc n) (w ∷ ls) h (suc d) l =
    let e : a + 1 + d ≡ a + suc d = omega arith in
    subst (λ (m : ℕ). AllZip (IsCellValue m) (layer space m) (get_or (map inner ls) d [])) e (zip_at space (a + 1) n ls h.1 d (omega arith))

past_three : (space : List (List (List ℕ))) → length space ≡ 4 → (d : ℕ) → 3 < d → count space d ≡ 0
past_three space four d l = ap length (get_or_past space d [] (omega arith))

pub dimension-is : (space : List (List (List ℕ))) → length space ≡ 4 → 1 ≤ count space 0 → IsDimension space (dimension_of space)
dimension-is space four vertex = by_three (leb 1 (count space 3)) refl
  where
    by_one : (b : Bool) → leb 1 (count space 1) ≡ b → count space 3 ≡ 0 → count space 2 ≡ 0 → IsDimension space (cond b 1 0)
    by_one true e z3 z2 = record { some = leb-true 1 (count space 1) e; last = λ d l. above d l; low = omega arith }
      where
        above : (d : ℕ) → 1 < d → count space d ≡ 0
        above zero l = absurd (omega arith)
        above (suc zero) l = absurd (omega arith)
        above (suc (suc zero)) l = z2
        above (suc (suc (suc zero))) l = z3
        above (suc (suc (suc (suc d)))) l = past_three space four (suc (suc (suc (suc d)))) (omega arith)
    by_one false e z3 z2 = record { some = vertex; last = λ d l. above d l; low = omega arith }
      where
        above : (d : ℕ) → 0 < d → count space d ≡ 0
        above zero l = absurd (omega arith)
        above (suc zero) l = omega (arith, leb-false 1 (count space 1) e)
        above (suc (suc zero)) l = z2
        above (suc (suc (suc zero))) l = z3
        above (suc (suc (suc (suc d)))) l = past_three space four (suc (suc (suc (suc d)))) (omega arith)

    by_two : (b : Bool) → leb 1 (count space 2) ≡ b → count space 3 ≡ 0 → IsDimension space (cond b 2 (cond (leb 1 (count space 1)) 1 0))
    by_two true e z3 = record { some = leb-true 1 (count space 2) e; last = λ d l. above d l; low = omega arith }
      where
        above : (d : ℕ) → 2 < d → count space d ≡ 0
        above zero l = absurd (omega arith)
        above (suc zero) l = absurd (omega arith)
        above (suc (suc zero)) l = absurd (omega arith)
        above (suc (suc (suc zero))) l = z3
        above (suc (suc (suc (suc d)))) l = past_three space four (suc (suc (suc (suc d)))) (omega arith)
    by_two false e z3 = by_one (leb 1 (count space 1)) refl z3 (let m : count space 2 < 1 = leb-false 1 (count space 2) e in let z : count space 2 ≡ 0 = omega arith in z)

    by_three : (b : Bool) → leb 1 (count space 3) ≡ b → IsDimension space (cond b 3 (cond (leb 1 (count space 2)) 2 (cond (leb 1 (count space 1)) 1 0)))
    by_three true e = record { some = leb-true 1 (count space 3) e; last = λ d l. past_three space four d l; low = omega arith }
    by_three false e = by_two (leb 1 (count space 2)) refl (let m : count space 3 < 1 = leb-false 1 (count space 3) e in let z : count space 3 ≡ 0 = omega arith in z)

-- ---- the whole

-- the layers that were read, at each dimension
record LayersOf (space : List (List (List ℕ))) (layers : List (List Value)) : Type 0 where
  at : (d : ℕ) → AllZip (IsCellValue d) (layer space d) (get_or layers d [])

layers-of : (space : List (List (List ℕ))) (n : ℕ) (ls : List Value) → IsDimension space n → AllZip (IsLayerValue space) (range_with_len 0 (n + 1)) ls → LayersOf space (map inner ls)
layers-of space n ls h zip = record { at = λ d. by_test d (leb d n) refl }
  where
    long : length (map inner ls) ≡ n + 1
    long = length-map ls inner ∙ (AllZip-long (IsLayerValue space) (range_with_len 0 (n + 1)) ls zip ∙ length-range_with_len 0 (n + 1))

    by_test : (d : ℕ) (b : Bool) → leb d n ≡ b → AllZip (IsCellValue d) (layer space d) (get_or (map inner ls) d [])
    by_test d true e =
        let le : d ≤ n = leb-true d n e in
        let z : 0 + d ≡ d = omega arith in
        subst (λ (m : ℕ). AllZip (IsCellValue m) (layer space m) (get_or (map inner ls) d [])) z (zip_at space 0 (n + 1) ls zip d (omega arith))
    by_test d false e =
        let lt : n < d = leb-false d n e in
        let none : layer space d ≡ [] = nil_from_length (layer space d) (h.last d lt) in
        let past : get_or (map inner ls) d [] ≡ [] = get_or_past (map inner ls) d [] (omega (arith, long)) in
        subst (λ (cs : List (List ℕ)). AllZip (IsCellValue d) cs (get_or (map inner ls) d [])) (sym none) (subst (AllZip (IsCellValue d) []) (sym past) tt)

four_parts : (space : List (List (List ℕ))) → length space ≡ 4 → layer space 0 ∷ layer space 1 ∷ layer space 2 ∷ layer space 3 ∷ [] ≡ space
four_parts (a ∷ b ∷ c ∷ d ∷ []) h = refl
four_parts [] h = absurd (omega arith)
four_parts (a ∷ []) h = absurd (omega arith)
four_parts (a ∷ b ∷ []) h = absurd (omega arith)
four_parts (a ∷ b ∷ c ∷ []) h = absurd (omega arith)
four_parts (a ∷ b ∷ c ∷ d ∷ e ∷ s) h = absurd (omega arith)

-- values with these layers read as the space
read_layers : (space : List (List (List ℕ))) (layers : List (List Value)) → IsSpace space → LayersOf space layers → layers_from layers ≡ Ok space
read_layers space layers h l =
    four-ok layers (layer space 0) (layer space 1) (layer space 2) (layer space 3)
    (layer_reads space h 0 (get_or layers 0 []) (l.at 0)) (layer_reads space h 1 (get_or layers 1 []) (l.at 1))
    (layer_reads space h 2 (get_or layers 2 []) (l.at 2)) (layer_reads space h 3 (get_or layers 3 []) (l.at 3))
    ∙ ap (λ (s : List (List (List ℕ))). Ok s) (four_parts space h.layers)

value_read : (space : List (List (List ℕ))) (n : ℕ) (v : Value) → IsSpace space → IsLimited space → IsDimension space n → ListOf (IsLayerValue space) (range_with_len 0 (n + 1)) v → space_of v ≡ Ok space
value_read space n v h few dim l =
    let layers : List (List Value) = map inner l.items in
    let at : LayersOf space layers = layers-of space n l.items dim l.each in
    let long : length layers ≡ n + 1 = length-map l.items inner ∙ (AllZip-long (IsLayerValue space) (range_with_len 0 (n + 1)) l.items l.each ∙ length-range_with_len 0 (n + 1)) in
    let count-is : (d : ℕ) → length (get_or layers d []) ≡ count space d = λ d. AllZip-long (IsCellValue d) (layer space d) (get_or layers d []) (at.at d) in
    let low : n ≤ 3 = dim.low in
    let end : length layers - 1 ≡ n = omega arith in
    let last : 1 ≤ length (get_or layers (length layers - 1) []) = subst (λ (m : ℕ). 1 ≤ length (get_or layers m [])) (sym end) (omega (arith, count-is n, dim.some)) in
    let whole : trimmed layers ≡ layers = trimmed-full layers last in
    let total : sum_by (λ cells. length cells) layers ≤ 60000 =
    omega (arith, total_four layers (omega arith), count-is 0, count-is 1, count-is 2, count-is 3, few.most) in
    let size : IsSized layers = record { some = omega arith; low = omega arith; few = total } in
    space-steps v l.items (ap as_list l.is ∙ as_list-is l.place l.items) (zip_lists space 0 (range_with_len 0 (n + 1)) l.items l.each)
    ∙ (ap sized whole ∙ (sized-ok layers size ∙ read_layers space layers h at))

pub reads_back : (space : List (List (List ℕ))) → IsSpace space → IsLimited space → ReadsAs (boundary_text space) space
reads_back space h few =
    let n : ℕ = dimension_of space in
    let dim : IsDimension space n = dimension-is space h.layers few.vertex in
    let text : List ℕ = brackets (layer_texts space (n + 1)) in
    let end : Lexes (0 + length text) (10 ∷ []) [] = blank refl nothing in
    let s : SpelledAt 3 0 (text ++ 10 ∷ []) [] (ListOf (IsLayerValue space) (range_with_len 0 (n + 1))) =
    list-spelled (λ d. layer_text d (layer space d)) (IsLayerValue space) 2 (range_with_len 0 (n + 1)) (all_layers space h few 0 (n + 1)) 0 (10 ∷ []) [] refl end in
    let spelled : IsValueOf (boundary_text space) s.value = record {
      tokens = s.tokens;
      lexes = s.lexes;
      spells = record { made = 0; reads = plain s.reads; few = omega arith; shallow = omega (arith, s.shallow) };
    } in
    (s.value, value_of-spelled (boundary_text space) s.value spelled, value_read space n s.value h few dim s.has)
