-- Lemmas on the boundary text.
use Rattle.std.proofs.Common.{◌≡◌, ◌≢◌, ◌<◌, ◌≤◌, ◌+◌, ◌++◌, ◌∷◌, [], ℕ, zero, suc, Bool, cond, List, length, take, drop, get_or, map, refl, sym, ◌∙◌, ap, arith, decimal, append_assoc}
use Rattle.std.proofs.Math.Dec.{eqb-suc-zero}
use Rattle.std.specs.List.{flat_map}
use Rattle.std.proofs.lemmas.List.{append-nil, take-append-drop, drop_more, take_more, length-take-le, length-map, take-map, get_or-map}
use Rattle.std.proofs.lemmas.List.Concat.{flat_map-append}
use Rattle.std.proofs.lemmas.List.FromFn.{length-map-range_with_len, take-map-range_with_len, get_or-map-range_with_len}
use Rattle.face_poset.specs.Poset.{layer}
use Rattle.face_poset.specs.Text.{commas, cell_text, layer_text, layer_texts, layers_text, lead, facet_texts}

-- the facets before one, that one, and those after it
pub facets-split : (facets : List ℕ) (i : ℕ) → i < length facets → facet_texts (take i facets) ++ (44 ∷ decimal (get_or facets i 0)) ++ facet_texts (drop (i + 1) facets) ≡ facet_texts facets
facets-split facets i l =
    let F : ℕ → List ℕ = λ f. 44 ∷ decimal f in
    append_assoc (flat_map F (take i facets)) (F (get_or facets i 0)) (flat_map F (drop (i + 1) facets))
    ∙ (sym (flat_map-append F (take i facets) (get_or facets i 0 ∷ drop (i + 1) facets))
    ∙ ap (flat_map F) (ap (λ (xs : List ℕ). take i facets ++ xs) (sym (drop_more facets i 0 l)) ∙ take-append-drop i facets))

-- the facets up to an index, and one more
pub facets-more : (facets : List ℕ) (i d : ℕ) → i < length facets → facet_texts (take i facets) ++ (44 ∷ decimal (get_or facets i d)) ≡ facet_texts (take (i + 1) facets)
facets-more facets i d l =
    let F : ℕ → List ℕ = λ f. 44 ∷ decimal f in
    sym (ap (flat_map F) (take_more facets i d l) ∙ (flat_map-append F (take i facets) (get_or facets i d ∷ []) ∙ ap (λ (xs : List ℕ). flat_map F (take i facets) ++ xs) (append-nil (F (get_or facets i d)))))

-- texts, each with a comma before it
abbrev pub tails : List (List ℕ) → List ℕ
tails texts = flat_map (λ text. 44 ∷ text) texts

pub commas-cons : (text : List ℕ) (texts : List (List ℕ)) → commas (text ∷ texts) ≡ text ++ tails texts
commas-cons text [] = sym (append-nil text)
commas-cons text (t ∷ texts) = ap (λ (xs : List ℕ). text ++ (44 ∷ xs)) (commas-cons t texts)

pub commas-push : (texts : List (List ℕ)) (text : List ℕ) → commas (texts ++ text ∷ []) ≡ commas texts ++ (lead (length texts) ++ text)
commas-push [] text = refl
commas-push (t ∷ texts) text =
    commas-cons t (texts ++ text ∷ [])
    ∙ (ap (λ (xs : List ℕ). t ++ xs) (flat_map-append (λ u. 44 ∷ u) texts (text ∷ []) ∙ ap (λ (xs : List ℕ). tails texts ++ (44 ∷ xs)) (append-nil text))
    ∙ (sym (append_assoc t (tails texts) (44 ∷ text))
    ∙ (ap (λ (xs : List ℕ). xs ++ (44 ∷ text)) (sym (commas-cons t texts))
    ∙ ap (λ (b : Bool). commas (t ∷ texts) ++ (cond b [] (44 ∷ []) ++ text)) (sym (eqb-suc-zero (length texts))))))

commas-append : (texts more : List (List ℕ)) → 0 < length texts → commas (texts ++ more) ≡ commas texts ++ tails more
commas-append [] more l = absurd (omega arith)
commas-append (t ∷ texts) more l =
    commas-cons t (texts ++ more)
    ∙ (ap (λ (xs : List ℕ). t ++ xs) (flat_map-append (λ u. 44 ∷ u) texts more)
    ∙ (sym (append_assoc t (tails texts) (tails more)) ∙ ap (λ (xs : List ℕ). xs ++ tails more) (sym (commas-cons t texts))))

-- one text more
pub commas-more : (texts : List (List ℕ)) (i : ℕ) → i < length texts → commas (take (i + 1) texts) ≡ commas (take i texts) ++ (lead i ++ get_or texts i [])
commas-more texts i l =
    let short : length (take i texts) ≡ i = length-take-le i texts (omega arith) in
    ap commas (take_more texts i [] l) ∙ (commas-push (take i texts) (get_or texts i []) ∙ ap (λ (n : ℕ). commas (take i texts) ++ (lead n ++ get_or texts i [])) short)

-- the texts before one, that one, and those after it
pub commas-split : (texts : List (List ℕ)) (i : ℕ) → i < length texts → commas (take i texts) ++ (lead i ++ get_or texts i []) ++ tails (drop (i + 1) texts) ≡ commas texts
commas-split texts i l =
    ap (λ (xs : List ℕ). xs ++ tails (drop (i + 1) texts)) (sym (commas-more texts i l))
    ∙ (sym (commas-append (take (i + 1) texts) (drop (i + 1) texts) (omega (arith, length-take-le (i + 1) texts (omega arith)))) ∙ ap commas (take-append-drop (i + 1) texts))

-- the text of a cell with facets
pub cell_text-is : (dim : ℕ) (facets : List ℕ) → dim ≢ 0 → cell_text dim facets ≡ 91 ∷ (decimal (length facets) ++ facet_texts facets ++ 93 ∷ [])
cell_text-is zero facets ne = absurd (ne refl)
cell_text-is (suc dim) facets ne =
    ap (λ (xs : List ℕ). 91 ∷ (xs ++ 93 ∷ [])) (commas-cons (decimal (length facets)) (map decimal facets) ∙ ap (λ (xs : List ℕ). decimal (length facets) ++ xs) (same facets))
  where
    same : (fs : List ℕ) → tails (map decimal fs) ≡ facet_texts fs
    same [] = refl
    same (f ∷ fs) = ap (λ (xs : List ℕ). (44 ∷ decimal f) ++ xs) (same fs)

-- a list after a lead, in its three parts
pub parts : (first D F : List ℕ) → (first ++ 91 ∷ D) ++ F ++ 93 ∷ [] ≡ first ++ 91 ∷ (D ++ F ++ 93 ∷ [])
parts first D F = ap (λ (xs : List ℕ). xs ++ 93 ∷ []) (append_assoc first (91 ∷ D) F) ∙ append_assoc first (91 ∷ (D ++ F)) (93 ∷ [])

pub cell-parts : (first : List ℕ) (dim : ℕ) (facets : List ℕ) → dim ≢ 0 → (first ++ 91 ∷ decimal (length facets)) ++ facet_texts facets ++ 93 ∷ [] ≡ first ++ cell_text dim facets
cell-parts first dim facets ne = parts first (decimal (length facets)) (facet_texts facets) ∙ ap (λ (xs : List ℕ). first ++ xs) (sym (cell_text-is dim facets ne))

pub layer-parts : (first : List ℕ) (dim : ℕ) (cells : List (List ℕ)) → (first ++ 91 ∷ []) ++ commas (map (cell_text dim) cells) ++ 93 ∷ [] ≡ first ++ layer_text dim cells
layer-parts first dim cells = parts first [] (commas (map (cell_text dim) cells))

-- the texts of a layer by cells

pub cells-more : (dim i : ℕ) (cells : List (List ℕ)) → i < length cells → commas (map (cell_text dim) (take i cells)) ++ (lead i ++ cell_text dim (get_or cells i [])) ≡ commas (map (cell_text dim) (take (i + 1) cells))
cells-more dim i cells l =
    let texts : List (List ℕ) = map (cell_text dim) cells in
    let lt : i < length texts = omega (arith, length-map cells (cell_text dim)) in
    ap (λ (xs : List ℕ). commas (map (cell_text dim) (take i cells)) ++ (lead i ++ xs)) (sym (get_or-map (cell_text dim) cells i [] [] l))
    ∙ (ap (λ (ts : List (List ℕ)). commas ts ++ (lead i ++ get_or texts i [])) (sym (take-map (cell_text dim) i cells))
    ∙ (sym (commas-more texts i lt) ∙ ap commas (take-map (cell_text dim) (i + 1) cells)))

pub cells-split : (dim i : ℕ) (cells : List (List ℕ)) → i < length cells
    → commas (map (cell_text dim) (take i cells)) ++ (lead i ++ cell_text dim (get_or cells i [])) ++ tails (drop (i + 1) (map (cell_text dim) cells)) ≡ commas (map (cell_text dim) cells)
cells-split dim i cells l =
    let texts : List (List ℕ) = map (cell_text dim) cells in
    let lt : i < length texts = omega (arith, length-map cells (cell_text dim)) in
    ap (λ (xs : List ℕ). commas (map (cell_text dim) (take i cells)) ++ (lead i ++ xs) ++ tails (drop (i + 1) texts)) (sym (get_or-map (cell_text dim) cells i [] [] l))
    ∙ (ap (λ (ts : List (List ℕ)). commas ts ++ (lead i ++ get_or texts i []) ++ tails (drop (i + 1) texts)) (sym (take-map (cell_text dim) i cells))
    ∙ commas-split texts i lt)

-- the text of a space, in its three parts
pub layers-parts : (space : List (List (List ℕ))) (dimension : ℕ) → (91 ∷ []) ++ commas (layer_texts space (dimension + 1)) ++ 93 ∷ 10 ∷ [] ≡ layers_text space dimension
layers-parts space dimension =
    let C : List ℕ = commas (layer_texts space (dimension + 1)) in
    ap (λ (xs : List ℕ). 91 ∷ xs) (sym (append_assoc C (93 ∷ []) (10 ∷ [])))

-- the texts of the layers one by one

layer-at : (space : List (List (List ℕ))) (n i : ℕ) → i < n → get_or (layer_texts space n) i [] ≡ layer_text i (layer space i)
layer-at space n i l = get_or-map-range_with_len (λ dim. layer_text dim (layer space dim)) 0 n i i [] l (omega arith)

layers-take : (space : List (List (List ℕ))) (n i : ℕ) → i ≤ n → take i (layer_texts space n) ≡ layer_texts space i
layers-take space n i l = take-map-range_with_len (λ dim. layer_text dim (layer space dim)) 0 n i l

layers-long : (space : List (List (List ℕ))) (n : ℕ) → length (layer_texts space n) ≡ n
layers-long space n = length-map-range_with_len (λ dim. layer_text dim (layer space dim)) 0 n

pub layers-more : (space : List (List (List ℕ))) (n i : ℕ) → i < n → commas (layer_texts space i) ++ (lead i ++ layer_text i (layer space i)) ≡ commas (layer_texts space (i + 1))
layers-more space n i l =
    let lt : i < length (layer_texts space n) = omega (arith, layers-long space n) in
    ap (λ (xs : List ℕ). commas (layer_texts space i) ++ (lead i ++ xs)) (sym (layer-at space n i l))
    ∙ (ap (λ (ts : List (List ℕ)). commas ts ++ (lead i ++ get_or (layer_texts space n) i [])) (sym (layers-take space n i (omega arith)))
    ∙ (sym (commas-more (layer_texts space n) i lt) ∙ ap commas (layers-take space n (i + 1) (omega arith))))

pub layers-split : (space : List (List (List ℕ))) (n i : ℕ) → i < n → commas (layer_texts space i) ++ (lead i ++ layer_text i (layer space i)) ++ tails (drop (i + 1) (layer_texts space n)) ≡ commas (layer_texts space n)
layers-split space n i l =
    let lt : i < length (layer_texts space n) = omega (arith, layers-long space n) in
    ap (λ (xs : List ℕ). commas (layer_texts space i) ++ (lead i ++ xs) ++ tails (drop (i + 1) (layer_texts space n))) (sym (layer-at space n i l))
    ∙ (ap (λ (ts : List (List ℕ)). commas ts ++ (lead i ++ get_or (layer_texts space n) i []) ++ tails (drop (i + 1) (layer_texts space n))) (sym (layers-take space n i (omega arith)))
    ∙ commas-split (layer_texts space n) i lt)
