-- Lemmas on the layers of a boundary list.
use Rattle.std.proofs.Common.{◌≡◌, ◌<◌, ◌≤◌, ◌+◌, ◌-◌, ◌++◌, ◌∷◌, [], ℕ, zero, suc, Bool, true, false, not, cond, ◌||◌, ◌&&◌, eqb, ltb, List, length, get_or, take, map, filter, sum_by, refl, sym, ◌∙◌, ap, arith, subst, All, Contains, Result, Ok, Err, Some, slice_get}
use Rattle.std.specs.List.{list_any}
use Rattle.std.proofs.lemmas.Bool.{eq-eqb, lt-ltb, le-ltb, false≢true, ne_eqb, or_parts}
use Rattle.std.proofs.lemmas.List.{map-append, length-map, get_or_past, length_push}
use Rattle.std.proofs.lemmas.List.Kept.{IsStrictlyIncreasing-filter}
use Rattle.std.proofs.lemmas.List.Elements.{All-nil, All-cons, All-filter}
use Rattle.gap_text.specs.Value.{Value}
use Rattle.face_poset.specs.declared.fault.SpaceFault.{SpaceFault}
use Rattle.face_poset.specs.declared.fault.SpaceFault.TheVariants.{Empty, TooHigh, TooManyCells, BadCount, FaceOutOfRange, RepeatedFace}
use Rattle.number_lists.specs.Words.{upto, holds}
use Rattle.face_poset.specs.Poset.{layer, count, IsCell, IsSpace, IsLimited}
use Rattle.face_poset.specs.Reader.{and_then, each_from, as_list, as_cell, is_vertex, facets_from, cell_from, layer_from, layers_from, cells_in, keep_before, trimmed, sized, space_of, repeats}
use Rattle.face_poset.specs.Tops.{inner, kept, IsSized}
use Rattle.face_poset.specs.Below.{cell_at}
use Rattle.face_poset.proofs.Facets.{is_outside, inside}
use Rattle.face_poset.proofs.Each.{both_ok}
use Rattle.number_lists.proofs.CallerLemmas.{increasing-upto, All-upto, holds-upto, holds-filter, holds-Contains}

-- the empty layers at the end

keep-some : (l : List Value) (ls : List (List Value)) → 0 < length ls → keep_before l ls ≡ l ∷ ls
keep-some l [] h = absurd (omega arith)
keep-some [] (m ∷ ls) h = refl
keep-some (v ∷ vs) (m ∷ ls) h = refl

trimmed-empty : (ls : List (List Value)) → trimmed (ls ++ [] ∷ []) ≡ trimmed ls
trimmed-empty [] = refl
trimmed-empty (l ∷ ls) = ap (keep_before l) (trimmed-empty ls)

trimmed-some : (ls : List (List Value)) (l : List Value) → 0 < length l → trimmed (ls ++ l ∷ []) ≡ ls ++ l ∷ []
trimmed-some [] [] h = absurd (omega arith)
trimmed-some [] (v ∷ vs) h = refl
trimmed-some (m ∷ ls) l h = ap (keep_before m) (trimmed-some ls l h) ∙ keep-some m (ls ++ l ∷ []) (omega (arith, length_push ls l))

pub kept-empty : (tops : List Value) (v : Value) → length (inner v) ≡ 0 → length (kept (tops ++ v ∷ [])) ≡ length (kept tops)
kept-empty tops v h =
    ap (λ (ls : List (List Value)). length (trimmed ls)) (map-append inner tops (v ∷ []))
    ∙ (ap (λ (l : List Value). length (trimmed (map inner tops ++ l ∷ []))) (nil (inner v) h) ∙ ap length (trimmed-empty (map inner tops)))
  where
    nil : (l : List Value) → length l ≡ 0 → l ≡ []
    nil [] h = refl
    nil (v ∷ vs) h = absurd (omega arith)

pub kept-some : (tops : List Value) (v : Value) → 0 < length (inner v) → length (kept (tops ++ v ∷ [])) ≡ length tops + 1
kept-some tops v h =
    ap (λ (ls : List (List Value)). length (trimmed ls)) (map-append inner tops (v ∷ []))
    ∙ (ap length (trimmed-some (map inner tops) (inner v) h) ∙ (length_push (map inner tops) (inner v) ∙ ap (λ (n : ℕ). n + 1) (length-map tops inner)))

-- what is kept is the front of the layers
keep-cases : (l : List Value) (ls more : List (List Value)) → ls ≡ take (length ls) more → keep_before l ls ≡ take (length (keep_before l ls)) (l ∷ more)
keep-cases [] [] more h = refl
keep-cases [] (m ∷ ls) more h = ap (λ (ks : List (List Value)). [] ∷ ks) h
keep-cases (v ∷ vs) ls more h = ap (λ (ks : List (List Value)). (v ∷ vs) ∷ ks) h

pub trimmed-take : (ls : List (List Value)) → trimmed ls ≡ take (length (trimmed ls)) ls
trimmed-take [] = refl
trimmed-take (l ∷ ls) = keep-cases l (trimmed ls) ls (trimmed-take ls)

keep-le : (l : List Value) (ls : List (List Value)) (n : ℕ) → length ls ≤ n → length (keep_before l ls) ≤ suc n
keep-le [] [] n h = omega arith
keep-le [] (m ∷ ls) n h = omega arith
keep-le (v ∷ vs) ls n h = omega arith

pub trimmed-le : (ls : List (List Value)) → length (trimmed ls) ≤ length ls
trimmed-le [] = omega arith
trimmed-le (l ∷ ls) = keep-le l (trimmed ls) (length ls) (trimmed-le ls)

keep-at : (l : List Value) (ls more : List (List Value)) (d : ℕ) → ((e : ℕ) → get_or ls e [] ≡ get_or more e []) → get_or (keep_before l ls) d [] ≡ get_or (l ∷ more) d []
keep-at [] [] more zero h = refl
keep-at [] [] more (suc d) h = h d
keep-at [] (m ∷ ls) more zero h = refl
keep-at [] (m ∷ ls) more (suc d) h = h d
keep-at (v ∷ vs) ls more zero h = refl
keep-at (v ∷ vs) ls more (suc d) h = h d

pub trimmed-at : (ls : List (List Value)) (d : ℕ) → get_or (trimmed ls) d [] ≡ get_or ls d []
trimmed-at [] d = refl
trimmed-at (l ∷ ls) d = keep-at l (trimmed ls) ls d (trimmed-at ls)

-- the last layer that is kept has a cell
keep-last : (l : List Value) (ls : List (List Value)) → (1 ≤ length ls → 1 ≤ length (get_or ls (length ls - 1) [])) → 1 ≤ length (keep_before l ls) → 1 ≤ length (get_or (keep_before l ls) (length (keep_before l ls) - 1) [])
keep-last [] [] h some = absurd (omega arith)
keep-last [] (m ∷ ls) h some =
    let e : suc (suc (length ls)) - 1 ≡ suc (length ls) = omega arith in
    let f : suc (length ls) - 1 ≡ length ls = omega arith in
    let r : 1 ≤ length (get_or (m ∷ ls) (length ls) []) = subst (λ (n : ℕ). 1 ≤ length (get_or (m ∷ ls) n [])) f (h (omega arith)) in
    subst (λ (n : ℕ). 1 ≤ length (get_or ([] ∷ m ∷ ls) n [])) (sym e) r
keep-last (v ∷ vs) [] h some = omega arith
keep-last (v ∷ vs) (m ∷ ls) h some =
    let e : suc (suc (length ls)) - 1 ≡ suc (length ls) = omega arith in
    let f : suc (length ls) - 1 ≡ length ls = omega arith in
    let r : 1 ≤ length (get_or (m ∷ ls) (length ls) []) = subst (λ (n : ℕ). 1 ≤ length (get_or (m ∷ ls) n [])) f (h (omega arith)) in
    subst (λ (n : ℕ). 1 ≤ length (get_or ((v ∷ vs) ∷ m ∷ ls) n [])) (sym e) r

pub trimmed-last : (ls : List (List Value)) → 1 ≤ length (trimmed ls) → 1 ≤ length (get_or (trimmed ls) (length (trimmed ls) - 1) [])
trimmed-last [] h = absurd (omega arith)
trimmed-last (l ∷ ls) h = keep-last l (trimmed ls) (trimmed-last ls) h

-- the sizes

pub sized-ok : (ls : List (List Value)) → IsSized ls → sized ls ≡ layers_from ls
sized-ok ls h =
    let total : ℕ = sum_by (λ cells. length cells) ls in
    ap (λ (b : Bool). cond b (Err Empty) (cond (ltb 4 (length ls)) (Err TooHigh) (cond (ltb 60000 total) (Err TooManyCells) (layers_from ls)))) (ne_eqb (length ls) 0 (λ e. omega (arith, h.some, e)))
    ∙ (ap (λ (b : Bool). cond b (Err TooHigh) (cond (ltb 60000 total) (Err TooManyCells) (layers_from ls))) (le-ltb 4 (length ls) h.low)
    ∙ ap (λ (b : Bool). cond b (Err TooManyCells) (layers_from ls)) (le-ltb 60000 total h.few))

-- what the layers hold once they are read

each-length : {A B : Type 0} (n : ℕ) (f : ℕ → A → Result B SpaceFault) (xs : List A) (ys : List B) → each_from n f xs ≡ Ok ys → length ys ≡ length xs
each-length n f [] ys h = let e : ys ≡ [] = cc in ap length e
each-length n f (x ∷ xs) ys h =
    let (w, a, rest) = both_ok (f n x) (λ z. and_then (each_from (suc n) f xs) (λ zs. Ok (z ∷ zs))) ys h in
    let (ws, b, e) = both_ok (each_from (suc n) f xs) (λ zs. Ok (w ∷ zs)) ys rest in
    let is : ys ≡ w ∷ ws = cc in
    ap length is ∙ ap suc (each-length (suc n) f xs ws b)

each-all : {A B : Type 0} (P : B → Type 0) (n : ℕ) (f : ℕ → A → Result B SpaceFault) → ((m : ℕ) (x : A) (y : B) → f m x ≡ Ok y → P y) → (xs : List A) (ys : List B) → each_from n f xs ≡ Ok ys → All P ys
each-all P n f p [] ys h = let e : [] ≡ ys = cc in subst (All P) e (All-nil P)
each-all P n f p (x ∷ xs) ys h =
    let (w, a, rest) = both_ok (f n x) (λ z. and_then (each_from (suc n) f xs) (λ zs. Ok (z ∷ zs))) ys h in
    let (ws, b, e) = both_ok (each_from (suc n) f xs) (λ zs. Ok (w ∷ zs)) ys rest in
    let is : w ∷ ws ≡ ys = cc in
    subst (All P) is (All-cons P w ws (p n x w a) (each-all P (suc n) f p xs ws b))

unless_ok : (t : Bool) (f : SpaceFault) (r : Result (List ℕ) SpaceFault) (answer : List ℕ) → cond t (Err f) r ≡ Ok answer → (t ≡ false) × (r ≡ Ok answer)
unless_ok true f r answer h = cc
unless_ok false f r answer h = (refl, h)

no_facet : (below n : ℕ) (numbers answer : List ℕ) → facets_from zero below n numbers ≡ Ok answer → answer ≡ []
no_facet below n numbers answer h =
    let p : (not (is_vertex numbers) ≡ false) × (Ok [] ≡ Ok answer) = unless_ok (not (is_vertex numbers)) (BadCount (cell_at zero n)) (Ok []) answer h in
    let q : Ok [] ≡ Ok answer = p.1 in
    cc

-- the filter keeps the first facet, where all are in range
some_facet : (t below : ℕ) (fs : List ℕ) → (eqb t 0 || not (eqb t (length fs))) ≡ false → list_any (is_outside below) fs ≡ false → 1 ≤ length (filter (holds fs) (upto below))
some_facet t below [] count none =
    let p : (eqb t 0 ≡ false) × (not (eqb t 0) ≡ false) = or_parts (eqb t 0) (not (eqb t 0)) count in
    absurd (false≢true (sym p.1 ∙ ap not p.0))
some_facet t below (f ∷ fs) count none =
    let has : holds (f ∷ fs) f ≡ true = ap (λ (c : Bool). c || holds fs f) (eq-eqb f f refl) in
    let w : (1 ≤ f) × (f ≤ below) = inside below (f ∷ fs) f none has in
    let kept : holds (filter (holds (f ∷ fs)) (upto below)) f ≡ true =
    holds-filter (holds (f ∷ fs)) (upto below) f ∙ (ap (λ (c : Bool). c && holds (upto below) f) has ∙ holds-upto below f w.0 w.1) in
    let at : Contains (filter (holds (f ∷ fs)) (upto below)) f = holds-Contains (filter (holds (f ∷ fs)) (upto below)) f kept in
    omega (arith, at.1)

facets-ok : (dim below n : ℕ) (numbers answer : List ℕ) → facets_from (suc dim) below n numbers ≡ Ok answer → IsCell below answer
facets-ok dim below n [] answer h = cc
facets-ok dim below n (t ∷ fs) answer h =
    let sorted : List ℕ = filter (holds fs) (upto below) in
    let a : ((eqb t 0 || not (eqb t (length fs))) ≡ false) × (cond (list_any (is_outside below) fs) (Err (FaceOutOfRange (cell_at (suc dim) n))) (cond (repeats fs) (Err (RepeatedFace (cell_at (suc dim) n))) (Ok sorted)) ≡ Ok answer) =
    unless_ok (eqb t 0 || not (eqb t (length fs))) (BadCount (cell_at (suc dim) n)) (cond (list_any (is_outside below) fs) (Err (FaceOutOfRange (cell_at (suc dim) n))) (cond (repeats fs) (Err (RepeatedFace (cell_at (suc dim) n))) (Ok sorted))) answer h in
    let b : (list_any (is_outside below) fs ≡ false) × (cond (repeats fs) (Err (RepeatedFace (cell_at (suc dim) n))) (Ok sorted) ≡ Ok answer) =
    unless_ok (list_any (is_outside below) fs) (FaceOutOfRange (cell_at (suc dim) n)) (cond (repeats fs) (Err (RepeatedFace (cell_at (suc dim) n))) (Ok sorted)) answer a.1 in
    let d : (repeats fs ≡ false) × (Ok sorted ≡ Ok answer) = unless_ok (repeats fs) (RepeatedFace (cell_at (suc dim) n)) (Ok sorted) answer b.1 in
    let e : Ok sorted ≡ Ok answer = d.1 in
    let is : sorted ≡ answer = cc in
    subst (IsCell below) is (record {
      rises = IsStrictlyIncreasing-filter (holds fs) (upto below) (increasing-upto below);
      within = All-filter (holds fs) (λ f. (1 ≤ f) × (f ≤ below)) (upto below) (All-upto below);
      some = some_facet t below fs a.0 b.0;
    })

-- a layer of cells that are no vertices
pub layer-cells : (dim below : ℕ) (values : List Value) (cells : List (List ℕ)) → layer_from (suc dim) below values ≡ Ok cells → All (IsCell below) cells
layer-cells dim below values cells h =
    each-all (IsCell below) 1 (cell_from (suc dim) below)
    (λ m v y e. let r : (a : List ℕ) × (as_cell v ≡ Ok a) × (facets_from (suc dim) below m a ≡ Ok y) = both_ok (as_cell v) (facets_from (suc dim) below m) y e in facets-ok dim below m r.0 y r.2) values cells h

pub layer-vertices : (below : ℕ) (values : List Value) (cells : List (List ℕ)) → layer_from 0 below values ≡ Ok cells → All (λ facets. facets ≡ []) cells
layer-vertices below values cells h =
    each-all (λ facets. facets ≡ []) 1 (cell_from 0 below)
    (λ m v y e. let r : (a : List ℕ) × (as_cell v ≡ Ok a) × (facets_from zero below m a ≡ Ok y) = both_ok (as_cell v) (facets_from zero below m) y e in no_facet below m r.0 y r.2) values cells h

pub layer-long : (dim below : ℕ) (values : List Value) (cells : List (List ℕ)) → layer_from dim below values ≡ Ok cells → length cells ≡ length values
layer-long dim below values cells h = each-length 1 (cell_from dim below) values cells h

-- the four layers

pub record FourLayers (layers : List (List Value)) (space : List (List (List ℕ))) : Type 0 where
  pub a : List (List ℕ)
  pub b : List (List ℕ)
  pub c : List (List ℕ)
  pub d : List (List ℕ)
  pub a-is : layer_from 0 0 (cells_in layers 0) ≡ Ok a
  pub b-is : layer_from 1 (length a) (cells_in layers 1) ≡ Ok b
  pub c-is : layer_from 2 (length b) (cells_in layers 2) ≡ Ok c
  pub d-is : layer_from 3 (length c) (cells_in layers 3) ≡ Ok d
  pub is : space ≡ a ∷ b ∷ c ∷ d ∷ []

pub four : (layers : List (List Value)) (space : List (List (List ℕ))) → layers_from layers ≡ Ok space → FourLayers layers space
four layers space h =
    let (a, p, h1) = both_ok (layer_from 0 0 (cells_in layers 0)) (λ vertices. and_then (layer_from 1 (length vertices) (cells_in layers 1)) (λ edges. and_then (layer_from 2 (length edges) (cells_in layers 2)) (λ faces. and_then (layer_from 3 (length faces) (cells_in layers 3)) (λ solids. Ok (vertices ∷ edges ∷ faces ∷ solids ∷ []))))) space h in
    let (b, q, h2) = both_ok (layer_from 1 (length a) (cells_in layers 1)) (λ edges. and_then (layer_from 2 (length edges) (cells_in layers 2)) (λ faces. and_then (layer_from 3 (length faces) (cells_in layers 3)) (λ solids. Ok (a ∷ edges ∷ faces ∷ solids ∷ [])))) space h1 in
    let (c, r, h3) = both_ok (layer_from 2 (length b) (cells_in layers 2)) (λ faces. and_then (layer_from 3 (length faces) (cells_in layers 3)) (λ solids. Ok (a ∷ b ∷ faces ∷ solids ∷ []))) space h2 in
    let (d, t, h4) = both_ok (layer_from 3 (length c) (cells_in layers 3)) (λ solids. Ok (a ∷ b ∷ c ∷ solids ∷ [])) space h3 in
    record { a = a; b = b; c = c; d = d; a-is = p; b-is = q; c-is = r; d-is = t; is = cc }

pub four-ok : (layers : List (List Value)) (a b c d : List (List ℕ)) → layer_from 0 0 (cells_in layers 0) ≡ Ok a → layer_from 1 (length a) (cells_in layers 1) ≡ Ok b → layer_from 2 (length b) (cells_in layers 2) ≡ Ok c
    → layer_from 3 (length c) (cells_in layers 3) ≡ Ok d → layers_from layers ≡ Ok (a ∷ b ∷ c ∷ d ∷ [])
four-ok layers a b c d p q r t =
    ap (λ (x : Result (List (List ℕ)) SpaceFault). and_then x (λ vertices. and_then (layer_from 1 (length vertices) (cells_in layers 1)) (λ edges. and_then (layer_from 2 (length edges) (cells_in layers 2)) (λ faces. and_then (layer_from 3 (length faces) (cells_in layers 3)) (λ solids. Ok (vertices ∷ edges ∷ faces ∷ solids ∷ [])))))) p
    ∙ (ap (λ (x : Result (List (List ℕ)) SpaceFault). and_then x (λ edges. and_then (layer_from 2 (length edges) (cells_in layers 2)) (λ faces. and_then (layer_from 3 (length faces) (cells_in layers 3)) (λ solids. Ok (a ∷ edges ∷ faces ∷ solids ∷ []))))) q
    ∙ (ap (λ (x : Result (List (List ℕ)) SpaceFault). and_then x (λ faces. and_then (layer_from 3 (length faces) (cells_in layers 3)) (λ solids. Ok (a ∷ b ∷ faces ∷ solids ∷ [])))) r
    ∙ ap (λ (x : Result (List (List ℕ)) SpaceFault). and_then x (λ solids. Ok (a ∷ b ∷ c ∷ solids ∷ []))) t))

-- without cells below there is no cell with facets
none_above : (below : ℕ) (cells : List (List ℕ)) → All (IsCell below) cells → below ≡ 0 → length cells ≡ 0
none_above below [] h none = refl
none_above below (fs ∷ cells) h none =
    let first : IsCell below fs = h 0 [] (omega arith) in
    let some : 1 ≤ length fs = first.some in
    let w : (1 ≤ get_or fs 0 0) × (get_or fs 0 0 ≤ below) = first.within 0 0 (omega arith) in
    absurd (omega arith)

pub total_four : (ls : List (List Value)) → length ls ≤ 4 → length (cells_in ls 0) + length (cells_in ls 1) + length (cells_in ls 2) + length (cells_in ls 3) ≡ sum_by (λ cells. length cells) ls
total_four [] h = omega arith
total_four (a ∷ []) h = omega arith
total_four (a ∷ b ∷ []) h = omega arith
total_four (a ∷ b ∷ c ∷ []) h = omega arith
total_four (a ∷ b ∷ c ∷ d ∷ []) h = omega arith
total_four (a ∷ b ∷ c ∷ d ∷ e ∷ ls) h = absurd (omega arith)

pub space_valid : (tops : List Value) (space : List (List (List ℕ))) → IsSized (kept tops) → layers_from (kept tops) ≡ Ok space → IsSpace space × IsLimited space
space_valid tops space size h =
    let ls : List (List Value) = kept tops in
    let f : FourLayers ls space = four ls space h in
    let la : length f.a ≡ length (cells_in ls 0) = layer-long 0 0 (cells_in ls 0) f.a f.a-is in
    let lb : length f.b ≡ length (cells_in ls 1) = layer-long 1 (length f.a) (cells_in ls 1) f.b f.b-is in
    let lc : length f.c ≡ length (cells_in ls 2) = layer-long 2 (length f.b) (cells_in ls 2) f.c f.c-is in
    let ld : length f.d ≡ length (cells_in ls 3) = layer-long 3 (length f.c) (cells_in ls 3) f.d f.d-is in
    let ab : All (IsCell (length f.a)) f.b = layer-cells 0 (length f.a) (cells_in ls 1) f.b f.b-is in
    let bc : All (IsCell (length f.b)) f.c = layer-cells 1 (length f.b) (cells_in ls 2) f.c f.c-is in
    let cd : All (IsCell (length f.c)) f.d = layer-cells 2 (length f.c) (cells_in ls 3) f.d f.d-is in
    let few : length f.a + length f.b + length f.c + length f.d ≤ 60000 = omega (arith, total_four ls size.low, size.few) in
    let here : List (List (List ℕ)) = f.a ∷ f.b ∷ f.c ∷ f.d ∷ [] in
    subst (λ (s : List (List (List ℕ))). IsSpace s × IsLimited s) (sym f.is) (
      record {
        layers = refl;
        vertices = layer-vertices 0 (cells_in ls 0) f.a f.a-is;
        cells = λ dim low. cells_at f.a f.b f.c f.d ab bc cd dim low;
        few = omega arith;
      },
      record { vertex = some_vertex ls f.a f.b f.c f.d la lb lc ld ab bc cd size (trimmed-last (map inner tops) size.some); most = few },
    )
  where
    cells_at : (a b c d : List (List ℕ)) → All (IsCell (length a)) b → All (IsCell (length b)) c → All (IsCell (length c)) d
        → (dim : ℕ) → 1 ≤ dim → All (IsCell (count (a ∷ b ∷ c ∷ d ∷ []) (dim - 1))) (layer (a ∷ b ∷ c ∷ d ∷ []) dim)
    cells_at a b c d p q r zero low = absurd (omega arith)
    cells_at a b c d p q r (suc zero) low = p
    cells_at a b c d p q r (suc (suc zero)) low = q
    cells_at a b c d p q r (suc (suc (suc zero))) low = r
    cells_at a b c d p q r (suc (suc (suc (suc dim)))) low = All-nil (IsCell (count (a ∷ b ∷ c ∷ d ∷ []) (suc (suc (suc (suc dim))) - 1)))

    at_most : (ls : List (List Value)) (k : ℕ) → k ≤ 3 → length (cells_in ls k) ≤ length (cells_in ls 0) + length (cells_in ls 1) + length (cells_in ls 2) + length (cells_in ls 3)
    at_most ls zero h = omega arith
    at_most ls (suc zero) h = omega arith
    at_most ls (suc (suc zero)) h = omega arith
    at_most ls (suc (suc (suc zero))) h = omega arith
    at_most ls (suc (suc (suc (suc k)))) h = absurd (omega arith)

    some_vertex : (ls : List (List Value)) (a b c d : List (List ℕ)) → length a ≡ length (cells_in ls 0) → length b ≡ length (cells_in ls 1) → length c ≡ length (cells_in ls 2) → length d ≡ length (cells_in ls 3)
        → All (IsCell (length a)) b → All (IsCell (length b)) c → All (IsCell (length c)) d → IsSized ls → 1 ≤ length (get_or ls (length ls - 1) []) → 1 ≤ length a
    some_vertex ls [] b c d la lb lc ld p q r size last =
        let eb : length b ≡ 0 = none_above 0 b p refl in
        let ec : length c ≡ 0 = none_above (length b) c q eb in
        let ed : length d ≡ 0 = none_above (length c) d r ec in
        let most : length (cells_in ls (length ls - 1)) ≤ length (cells_in ls 0) + length (cells_in ls 1) + length (cells_in ls 2) + length (cells_in ls 3) = at_most ls (length ls - 1) (omega (arith, size.low)) in
        absurd (omega arith)
    some_vertex ls (v ∷ a) b c d la lb lc ld p q r size last = omega arith

-- the space of a value, step by step
pub space-steps : (v : Value) (tops : List Value) → as_list v ≡ Ok tops → each_from 0 (λ _ w. as_list w) tops ≡ Ok (map inner tops) → space_of v ≡ sized (kept tops)
space-steps v tops h k =
    ap (λ (r : Result (List Value) SpaceFault). and_then r (λ ts. and_then (each_from 0 (λ _ w. as_list w) ts) (λ layers. sized (trimmed layers)))) h
    ∙ ap (λ (r : Result (List (List Value)) SpaceFault). and_then r (λ layers. sized (trimmed layers))) k

-- the cells of a dimension by the layer that has them
pub cells-of : (tops : List Value) (dim : ℕ) (v : Value) → slice_get tops dim ≡ Some v → cells_in (kept tops) dim ≡ inner v
cells-of tops dim v h = trimmed-at (map inner tops) dim ∙ here tops dim v h
  where
    here : (tops : List Value) (dim : ℕ) (v : Value) → slice_get tops dim ≡ Some v → get_or (map inner tops) dim [] ≡ inner v
    here [] dim v h = cc
    here (w ∷ tops) zero v h = let e : w ≡ v = cc in ap inner e
    here (w ∷ tops) (suc dim) v h = here tops dim v h

pub no-cells : (tops : List Value) (dim : ℕ) → length tops ≤ dim → cells_in (kept tops) dim ≡ []
no-cells tops dim h = trimmed-at (map inner tops) dim ∙ get_or_past (map inner tops) dim [] (omega (arith, length-map tops inner))

pub sized-many : (tops : List Value) → 1 ≤ length (kept tops) → length (kept tops) ≤ 4 → 60000 < sum_by (λ cells. length cells) (kept tops) → sized (kept tops) ≡ Err TooManyCells
sized-many tops some low many =
    let ls : List (List Value) = kept tops in
    let total : ℕ = sum_by (λ cells. length cells) ls in
    ap (λ (b : Bool). cond b (Err Empty) (cond (ltb 4 (length ls)) (Err TooHigh) (cond (ltb 60000 total) (Err TooManyCells) (layers_from ls)))) (ne_eqb (length ls) 0 (λ e. omega (arith, some, e)))
    ∙ (ap (λ (b : Bool). cond b (Err TooHigh) (cond (ltb 60000 total) (Err TooManyCells) (layers_from ls))) (le-ltb 4 (length ls) low)
    ∙ ap (λ (b : Bool). cond b (Err TooManyCells) (layers_from ls)) (lt-ltb 60000 total many))

-- layers of which the last has a cell are kept
pub trimmed-full : (ls : List (List Value)) → 1 ≤ length (get_or ls (length ls - 1) []) → trimmed ls ≡ ls
trimmed-full [] h = absurd (omega arith)
trimmed-full ([] ∷ []) h = absurd (omega arith)
trimmed-full ((v ∷ vs) ∷ []) h = refl
trimmed-full (l ∷ m ∷ ls) h =
    let e : suc (suc (length ls)) - 1 ≡ suc (length ls) = omega arith in
    let f : length ls ≡ suc (length ls) - 1 = omega arith in
    let at : 1 ≤ length (get_or (l ∷ m ∷ ls) (suc (length ls)) []) = subst (λ (n : ℕ). 1 ≤ length (get_or (l ∷ m ∷ ls) n [])) e h in
    let last : 1 ≤ length (get_or (m ∷ ls) (suc (length ls) - 1) []) = subst (λ (n : ℕ). 1 ≤ length (get_or (m ∷ ls) n [])) f at in
    ap (keep_before l) (trimmed-full (m ∷ ls) last) ∙ keep-some l (m ∷ ls) (omega arith)
