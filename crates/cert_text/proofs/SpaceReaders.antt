-- The lines of the space are read exactly.
use Rattle.std.proofs.Common.{◌≡◌, ◌≤◌, ◌++◌, ◌∷◌, [], ℕ, true, eqb, leb, Some, None, Ok, List, map, length, replicate, refl, sym, ◌∙◌, ap, arith, subst, bytes_eq}
use Rattle.std.specs.Prelude.{slice_index_or}
use Rattle.std.specs.List.{AllByRecursion}
use Rattle.std.proofs.lemmas.Bool.{eq-eqb, eqb-true}
use Rattle.std.proofs.lemmas.Option.{same_Some}
use Rattle.std.proofs.lemmas.List.{length-replicate}
use Rattle.std.proofs.lemmas.Slice.Eq.{bytes_eq-Decides}
use Rattle.face_poset.specs.Poset.{Layers, layer, count}
use Rattle.order_complex.specs.Chains.{chain_count}
use Rattle.order_complex.specs.Counting.{chain_counts}
use Rattle.certificates.specs.Plain as p
use Rattle.certificates.specs.Forms.{Form, plain, IsForm}
use Rattle.certificates.specs.Texts.{four, face_lines}
use Rattle.cert_lines.specs.Listed.{rise_from}
use Rattle.cert_lines.specs.Readers.{Left, Answer, and_then, take_line, many}
use Rattle.cert_text.specs.Picks.{pick_cells, pick_face, pick_chains}
use Rattle.cert_text.specs.Reading.{face_fits, read_face, cells_fit, read_faces, read_space, chains_fit, read_chains}
use Rattle.cert_text.proofs.Passing.{and-parts, and-both}
use Rattle.cert_text.proofs.Equivalents.{IsReader, one-line, taken-line, recast, bind, mapped, HasMany, many-lines}
use Rattle.cert_text.proofs.Picked.{cells-picked, face-picked, chains-picked}

-- a line of four numbers has four
cells-four : (f : Form) (x : List ℕ) → pick_cells f ≡ Some x → length x ≡ 4
cells-four (plain (p.Cells a b c d)) x h = ap length (sym (same_Some (a ∷ b ∷ c ∷ d ∷ []) x h))
cells-four f x h = cc

chains-four : (f : Form) (x : List ℕ) → pick_chains f ≡ Some x → length x ≡ 4
chains-four (plain (p.Chains a b c d)) x h = ap length (sym (same_Some (a ∷ b ∷ c ∷ d ∷ []) x h))
chains-four f x h = cc

pub four-is : (x : List ℕ) → length x ≡ 4 → slice_index_or x 0 0 ∷ slice_index_or x 1 0 ∷ slice_index_or x 2 0 ∷ slice_index_or x 3 0 ∷ [] ≡ x
four-is [] e = absurd (omega (arith, e))
four-is (a ∷ []) e = absurd (omega (arith, e))
four-is (a ∷ b ∷ []) e = absurd (omega (arith, e))
four-is (a ∷ b ∷ c ∷ []) e = absurd (omega (arith, e))
four-is (a ∷ b ∷ c ∷ d ∷ []) e = refl
four-is (a ∷ b ∷ c ∷ d ∷ z ∷ zs) e = absurd (omega (arith, e))

-- ---- faces

-- a face of cells below: facets that rise, at least one
abbrev pub FaceFits : (below : ℕ) → List ℕ → Type 0
FaceFits below facets = (rise_from 0 below facets ≡ true) × (1 ≤ length facets)

pub some_facet : (v : ℕ) (f : Form) (x : ℕ × List ℕ) → pick_face f ≡ Some x → IsForm v f → 1 ≤ length x.1
some_facet v (plain (p.Face k facets)) x h form = subst (λ (y : ℕ × List ℕ). 1 ≤ length y.1) (same_Some (k, facets) x h) form.form.facet
some_facet v f x h form = cc

face_picked : (dim : ℕ) (f : Form) (x : ℕ × List ℕ) → pick_face f ≡ Some x → x.0 ≡ dim → plain (p.Face dim x.1) ≡ f
face_picked dim f x h e = ap (λ (k : ℕ). plain (p.Face k x.1)) (sym e) ∙ face-picked f x h

face-read : (v dim below : ℕ) → IsReader v (read_face v dim below) (λ facets. (None, plain (p.Face dim facets)) ∷ []) (FaceFits below)
face-read v dim below = one-line v pick_face (face_fits dim below) (λ n x. x.1) (λ facets. (None, plain (p.Face dim facets))) (FaceFits below) (record {
  says = λ f x n e fits. face_picked dim f x e (eqb-true x.0 dim (and-parts (eqb x.0 dim) (rise_from 0 below x.1) fits).0);
  number = λ x n. refl;
  has = λ f x n e there fits. ((and-parts (eqb x.0 dim) (rise_from 0 below x.1) fits).1, some_facet v f x e there);
  back = λ y n has t. ((dim, y), refl, and-both (eqb dim dim) (rise_from 0 below y) (eq-eqb dim dim refl) has.0, refl);
})

abbrev some : (v dim below : ℕ) → ℕ → Left → Answer (List (List ℕ))
some v dim below n = many n (read_face v dim below)

some-read : (v dim below n : ℕ) → IsReader v (some v dim below n) (λ cells. map (λ facets. (None, plain (p.Face dim facets))) cells) (HasMany n (FaceFits below))
some-read v dim below n = many-lines v n (read_face v dim below) (λ facets. (None, plain (p.Face dim facets))) (FaceFits below) (face-read v dim below)

-- ---- the space; c has the numbers of its cells

abbrev cell_number : List ℕ → ℕ → ℕ
cell_number c dim = slice_index_or c dim 0

abbrev vertices : ℕ → List (List ℕ)
vertices n = replicate n []

abbrev FacesFit : List ℕ → Layers → Type 0
FacesFit c y =
    HasMany (cell_number c 1) (FaceFits (cell_number c 0)) (layer y 1)
    × (HasMany (cell_number c 2) (FaceFits (cell_number c 1)) (layer y 2)
    × (HasMany (cell_number c 3) (FaceFits (cell_number c 2)) (layer y 3) × (y ≡ vertices (cell_number c 0) ∷ layer y 1 ∷ layer y 2 ∷ layer y 3 ∷ [])))

faces-read : (v : ℕ) (c : List ℕ) → IsReader v (read_faces v c) (λ y. face_lines y 1 ++ (face_lines y 2 ++ face_lines y 3)) (FacesFit c)
faces-read v c =
    bind v (some v 1 (cell_number c 0) (cell_number c 1)) (λ cells. map (λ facets. (None, plain (p.Face 1 facets))) cells) (HasMany (cell_number c 1) (FaceFits (cell_number c 0)))
    (λ e l. and_then (some v 2 (cell_number c 1) (cell_number c 2) l) (λ f. and_then (some v 3 (cell_number c 2) (cell_number c 3) f.1) (λ s. Ok (vertices (cell_number c 0) ∷ e ∷ f.0 ∷ s.0 ∷ [], s.1))))
    (λ e y. face_lines y 2 ++ face_lines y 3)
    (λ e y. HasMany (cell_number c 2) (FaceFits (cell_number c 1)) (layer y 2) × (HasMany (cell_number c 3) (FaceFits (cell_number c 2)) (layer y 3) × (y ≡ vertices (cell_number c 0) ∷ e ∷ layer y 2 ∷ layer y 3 ∷ [])))
    (λ y. layer y 1)
    (some-read v 1 (cell_number c 0) (cell_number c 1))
    (λ e. bind v (some v 2 (cell_number c 1) (cell_number c 2)) (λ cells. map (λ facets. (None, plain (p.Face 2 facets))) cells) (HasMany (cell_number c 2) (FaceFits (cell_number c 1)))
    (λ f l. and_then (some v 3 (cell_number c 2) (cell_number c 3) l) (λ s. Ok (vertices (cell_number c 0) ∷ e ∷ f ∷ s.0 ∷ [], s.1)))
    (λ f y. face_lines y 3)
    (λ f y. HasMany (cell_number c 3) (FaceFits (cell_number c 2)) (layer y 3) × (y ≡ vertices (cell_number c 0) ∷ e ∷ f ∷ layer y 3 ∷ []))
    (λ y. layer y 2)
    (some-read v 2 (cell_number c 1) (cell_number c 2))
    (λ f. mapped v (some v 3 (cell_number c 2) (cell_number c 3)) (λ cells. map (λ facets. (None, plain (p.Face 3 facets))) cells) (HasMany (cell_number c 3) (FaceFits (cell_number c 2)))
    (λ s. vertices (cell_number c 0) ∷ e ∷ f ∷ s ∷ []) (λ y. layer y 3) (λ s. refl) (some-read v 3 (cell_number c 2) (cell_number c 3)))
    (λ f y h q. ap (λ z. layer z 2) q.1))
    (λ e y h q. ap (λ z. layer z 1) q.1.1)

abbrev pub counts : Layers → List ℕ
counts y = count y 0 ∷ count y 1 ∷ count y 2 ∷ count y 3 ∷ []

abbrev pub SpaceFits : Layers → Type 0
SpaceFits y =
    (cells_fit (counts y) ≡ true) × AllByRecursion (FaceFits (count y 0)) (layer y 1) × AllByRecursion (FaceFits (count y 1)) (layer y 2)
    × AllByRecursion (FaceFits (count y 2)) (layer y 3) × (y ≡ vertices (count y 0) ∷ layer y 1 ∷ layer y 2 ∷ layer y 3 ∷ [])

counts-are : (c : List ℕ) (y : Layers) → length c ≡ 4 → FacesFit c y → counts y ≡ c
counts-are c y four h =
    let first : count y 0 ≡ cell_number c 0 = ap (λ z. count z 0) h.1.1.1 ∙ length-replicate (cell_number c 0) [] in
    (λ i. first i ∷ h.0.0 i ∷ h.1.0.0 i ∷ h.1.1.0.0 i ∷ []) ∙ four-is c four

space-there : (y : Layers) → ((length (counts y) ≡ 4) × (cells_fit (counts y) ≡ true)) × FacesFit (counts y) y → SpaceFits y
space-there y h = (h.0.1, h.1.0.1, h.1.1.0.1, h.1.1.1.0.1, h.1.1.1.1)

pub space-read : (v : ℕ) → IsReader v (read_space v) (λ y. (None, plain (p.Cells (count y 0) (count y 1) (count y 2) (count y 3))) ∷ (face_lines y 1 ++ (face_lines y 2 ++ face_lines y 3))) SpaceFits
space-read v =
    recast v (read_space v) _ (λ y. (None, plain (p.Cells (count y 0) (count y 1) (count y 2) (count y 3))) ∷ (face_lines y 1 ++ (face_lines y 2 ++ face_lines y 3))) _ SpaceFits
    (bind v (take_line v pick_cells cells_fit) (λ c. (None, four p.Cells c) ∷ []) (λ c. (length c ≡ 4) × (cells_fit c ≡ true)) (λ c. read_faces v c) (λ c y. face_lines y 1 ++ (face_lines y 2 ++ face_lines y 3)) FacesFit counts
    (taken-line v pick_cells cells_fit (λ c. (None, four p.Cells c)) (λ c. (length c ≡ 4) × (cells_fit c ≡ true)) (record {
      says = λ f x n e fits. cells-picked f x e;
      number = λ x n. refl;
      has = λ f x n e there fits. (cells-four f x e, fits);
      back = λ y n has t. (y, ap Some (four-is y has.0), has.1, refl);
    }))
    (λ c. faces-read v c)
    (λ c y h q. counts-are c y h.0 q))
    (λ y h. (space-there y h, refl))
    (λ y h. (((refl, h.0), ((refl, h.1), ((refl, h.2), ((refl, h.3), h.4)))), refl))

-- ---- the numbers of chains

abbrev pub ChainsFit : Layers → List ℕ → Type 0
ChainsFit space ns = (ns ≡ chain_counts space) × (leb (chain_count space) 700000 ≡ true)

pub chains-read : (v : ℕ) (space : Layers) → IsReader v (read_chains v space) (λ ns. (None, four p.Chains ns) ∷ []) (ChainsFit space)
chains-read v space = taken-line v pick_chains (chains_fit space) (λ ns. (None, four p.Chains ns)) (ChainsFit space) (record {
  says = λ f x n e fits. chains-picked f x e;
  number = λ x n. refl;
  has = λ f x n e there fits. let q = and-parts (bytes_eq x (chain_counts space)) (leb (chain_count space) 700000) fits in ((bytes_eq-Decides x (chain_counts space)).0 q.0, q.1);
  back = λ y n has t. (y, ap Some (four-is y (ap length has.0)), and-both (bytes_eq y (chain_counts space)) (leb (chain_count space) 700000) ((bytes_eq-Decides y (chain_counts space)).1 has.0) has.1, refl);
})
