use Rattle.std.proofs.Common.{◌≡◌, ◌<◌, ◌≤◌, ◌+◌, ◌++◌, ◌∷◌, [], ◌-◌, ℕ, true, Result, Ok, Err, OnOk, List, length, get_or, set, arith, sym, ap, subst, ◌∙◌}
use Rattle.std.specs.Result.{is_ok}
use Rattle.std.proofs.lemmas.List.{get_or_default}
use Rattle.face_poset.specs.Poset.{layer, count, cell_count, IsCell, IsSpace}
use Rattle.face_poset.proofs.SpaceLemmas.{IsSpace-add, counts_add}
use Rattle.face_poset.proofs.builder.Builder.add.Goals as goal

-- the layers with one cell more
keeps : (space facets : List (List (List ℕ))) (dim : ℕ) (cell : List ℕ) (before new : List (List ℕ)) → facets ≡ space → IsSpace facets → dim ≤ 3 → cell_count facets < 60000
    → ((above : ℕ) → dim < above → count space above ≡ 0) → (dim ≡ 0 → cell ≡ []) → (1 ≤ dim → IsCell (count space (dim - 1)) cell)
    → before ≡ get_or facets dim before → new ≡ get_or facets dim before ++ cell ∷ [] → IsSpace (set facets dim new) × cell_count (set facets dim new) ≤ 60000
keeps space facets dim cell before new e h le few last vertex fits read push =
    let four : length facets ≡ 4 = h.layers in
    let is : new ≡ layer facets dim ++ cell ∷ [] = push ∙ ap (λ (cs : List (List ℕ)). cs ++ cell ∷ []) (get_or_default facets dim before [] (omega arith)) in
    let last' : (above : ℕ) → dim < above → count facets above ≡ 0 = subst (λ (s : List (List (List ℕ))). (above : ℕ) → dim < above → count s above ≡ 0) (sym e) last in
    let fits' : 1 ≤ dim → IsCell (count facets (dim - 1)) cell = subst (λ (s : List (List (List ℕ))). 1 ≤ dim → IsCell (count s (dim - 1)) cell) (sym e) fits in
    let valid : IsSpace (set facets dim (layer facets dim ++ cell ∷ [])) = IsSpace-add facets dim cell h le (omega arith) last' vertex fits' in
    let more : cell_count (set facets dim (layer facets dim ++ cell ∷ [])) ≡ cell_count facets + 1 = counts_add facets dim cell four le in
    subst (λ (n : List (List ℕ)). IsSpace (set facets dim n) × cell_count (set facets dim n) ≤ 60000) (sym is) (valid, omega arith)

on_ok : {T E : Type 0} (r : Result T E) (P : Type 0) → true ≡ is_ok r → OnOk r P → P
on_ok (Ok v) P e h = h
on_ok (Err f) P e h = cc

-- the number of a layer that was read
count_read : (facets : List (List (List ℕ))) (dim n : ℕ) (r : List (List ℕ)) → length facets ≡ 4 → dim < 4 → n ≡ length (get_or facets dim r) → n ≡ count facets dim
count_read facets dim n r four lt e = e ∙ ap length (get_or_default facets dim r [] (omega arith))

pub invariant_of-self-2 : goal.invariant_of-self-2
invariant_of-self-2 c =
    let facets : List (List (List ℕ)) = c.self.inside.facets in
    let four : length facets ≡ 4 = c.self.invariant.0.layers in
    let a : c.len.result ≡ count facets 0 = count_read facets 0 c.len.result c.index-self-0.result four (omega arith) c.len.ensures in
    let b : c.len-2.result ≡ count facets 1 = count_read facets 1 c.len-2.result c.index-self-1.result four (omega arith) c.len-2.ensures in
    let d : c.len-3.result ≡ count facets 2 = count_read facets 2 c.len-3.result c.index-self-2.result four (omega arith) c.len-3.ensures in
    let e : c.len-4.result ≡ count facets 3 = count_read facets 3 c.len-4.result c.index-self-3.result four (omega arith) c.len-4.ensures in
    let few : cell_count facets < 60000 = omega (arith, c.if-standing-ge-MOST_CELLS.false) in
    keeps c.args.self.now facets c.args.dim c.args.facets.now c.index-self-dim.result c.push.new.self c.self.view_is c.self.invariant.0 c.requires.dim few c.requires.last c.requires.vertex c.requires.cell
    c.index-self-dim.is (on_ok c.push.result _ c.in_ok-map_err.ensures.variant c.push.ensures.ok)
