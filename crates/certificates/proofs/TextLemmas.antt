-- The text of the lines of a front, part by part.
use Rattle.std.proofs.Common.{◌≡◌, ◌≢◌, ◌<◌, ◌+◌, ◌++◌, ◌∷◌, [], ℕ, Bool, true, false, cond, eqb, List, length, take, drop, get_or, map, refl, sym, ◌∙◌, ap, arith, append_assoc, None, Some, Option}
use Rattle.std.specs.List.{flat_map}
use Rattle.std.proofs.lemmas.Bool.{ne_eqb}
use Rattle.std.proofs.lemmas.List.{append-nil, take-append-drop, take_more, length-take-le}
use Rattle.std.proofs.lemmas.List.Concat.{flat_map-append}
use Rattle.std.proofs.lemmas.List.Folds.{flat_map-map}
use Rattle.face_poset.specs.Poset.{Layers, layer, count}
use Rattle.certificates.specs.declared.kind.Kind.TheVariants as kind
use Rattle.certificates.specs.declared.lines.Line.{Line}
use Rattle.certificates.specs.declared.lines.ProductLine.{ProductLine}
use Rattle.certificates.specs.Plain as p
use Rattle.certificates.specs.Placed.{Sheets}
use Rattle.certificates.specs.Forms.{Form, plain, placed}
use Rattle.certificates.specs.Degrees.{at}
use Rattle.certificates.specs.Cert.{Cert, CertCover}
use Rattle.certificates.specs.Texts.{Stated, four, sheets_number, line_bytes, lines_text, face_lines, rank_lines, class_lines, rank_line, class_line, product_line, opening_lines, space_lines, homology_lines, pair_line, column_lines, component_lines, cover_front, cover_fronts, front_text}
use Rattle.certificates.specs.Written.{numbered_line, four_line, faces_text, block_text, products_text, opening_text, space_text, homology_text, pair_text, columns_text, components_text, cover_front_text, cover_fronts_text}

lines-append : (xs ys : List Stated) → lines_text (xs ++ ys) ≡ lines_text xs ++ lines_text ys
lines-append xs ys = flat_map-append (λ l. line_bytes l.1) xs ys

lines-map : {A : Type 0} (f : A → Stated) (xs : List A) → lines_text (map f xs) ≡ flat_map (λ x. line_bytes (f x).1) xs
lines-map f xs = flat_map-map (λ l. line_bytes l.1) f xs

one : (o : Option ℕ) (f : Form) → lines_text ((o, f) ∷ []) ≡ line_bytes f
one o f = append-nil (line_bytes f)

-- ---- columns

columns-append : (n : ℕ) (xs ys : List ℕ) → column_lines n (xs ++ ys) ≡ column_lines n xs ++ column_lines (n + length xs) ys
columns-append n [] ys = ap (λ (m : ℕ). column_lines m ys) (let e : n ≡ n + 0 = omega arith in e)
columns-append n (x ∷ xs) ys =
    λ i. (column_lines n (x ∷ [])) ++ (columns-append (n + 1) xs ys ∙ ap (λ (m : ℕ). column_lines (n + 1) xs ++ column_lines m ys) (let e : n + 1 + length xs ≡ n + length (x ∷ xs) = omega arith in e)) i

pub columns-more : (xs : List ℕ) (i : ℕ) → i < length xs → columns_text 1 (take i xs) ++ numbered_line kind.Columns ((i + 1) ∷ get_or xs i 0 ∷ []) ≡ columns_text 1 (take (i + 1) xs)
columns-more xs i l =
    let long : 1 + length (take i xs) ≡ i + 1 = omega (arith, length-take-le i xs (omega arith)) in
    sym (ap (columns_text 1) (take_more xs i 0 l)
    ∙ (ap lines_text (columns-append 1 (take i xs) (get_or xs i 0 ∷ []))
    ∙ (lines-append (column_lines 1 (take i xs)) (column_lines (1 + length (take i xs)) (get_or xs i 0 ∷ []))
    ∙ ap (λ (ys : List ℕ). columns_text 1 (take i xs) ++ ys)
    (ap (λ (m : ℕ). lines_text (column_lines m (get_or xs i 0 ∷ []))) long ∙ append-nil (numbered_line kind.Columns ((i + 1) ∷ get_or xs i 0 ∷ []))))))

pub columns-split : (xs : List ℕ) (i : ℕ) → i < length xs → columns_text 1 (take i xs) ++ numbered_line kind.Columns ((i + 1) ∷ get_or xs i 0 ∷ []) ++ columns_text (i + 2) (drop (i + 1) xs) ≡ columns_text 1 xs
columns-split xs i l =
    let long : i + 2 ≡ 1 + length (take (i + 1) xs) = omega (arith, length-take-le (i + 1) xs (omega arith)) in
    ap (λ (ys : List ℕ). ys ++ columns_text (i + 2) (drop (i + 1) xs)) (columns-more xs i l)
    ∙ (ap (λ (m : ℕ). columns_text 1 (take (i + 1) xs) ++ columns_text m (drop (i + 1) xs)) long
    ∙ (sym (lines-append (column_lines 1 (take (i + 1) xs)) (column_lines (1 + length (take (i + 1) xs)) (drop (i + 1) xs)))
    ∙ (ap lines_text (sym (columns-append 1 (take (i + 1) xs) (drop (i + 1) xs))) ∙ ap (columns_text 1) (take-append-drop (i + 1) xs))))

-- ---- the parts

opening-is : (c : Cert) → opening_text c.version c.modulus c.space ≡ lines_text (opening_lines c)
opening-is c =
    let cells : List ℕ = count c.space 0 ∷ count c.space 1 ∷ count c.space 2 ∷ count c.space 3 ∷ [] in
    ap (λ (ys : List ℕ). numbered_line kind.Version (c.version ∷ []) ++ (numbered_line kind.Modulus (c.modulus ∷ []) ++ ys)) (sym (append-nil (numbered_line kind.Cells cells)))

faces-is : (space : Layers) (dim : ℕ) → faces_text space dim ≡ lines_text (face_lines space dim)
faces-is space dim = sym (lines-map (λ facets. (None, plain (p.Face dim facets))) (layer space dim))

joins : (xs ys : List Stated) (a b : List ℕ) → a ≡ lines_text xs → b ≡ lines_text ys → a ++ b ≡ lines_text (xs ++ ys)
joins xs ys a b e f = (λ i. e i ++ f i) ∙ sym (lines-append xs ys)

space-is : (c : Cert) → space_text c.space c.chains ≡ lines_text (space_lines c)
space-is c =
    joins (face_lines c.space 1) _ _ _ (faces-is c.space 1)
    (joins (face_lines c.space 2) _ _ _ (faces-is c.space 2)
    (joins (face_lines c.space 3) ((None, four p.Chains c.chains) ∷ []) _ _ (faces-is c.space 3) (sym (one None (four p.Chains c.chains)))))

block-rank : (lists : List (List Line)) (k : ℕ) → block_text kind.Rank kind.RankLine lists k ≡ lines_text (rank_lines lists k)
block-rank lists k = ap (λ (ys : List ℕ). numbered_line kind.Rank (k ∷ length (at lists k) ∷ []) ++ ys) (sym (lines-map rank_line (at lists k)))

block-class : (lists : List (List Line)) (k : ℕ) → block_text kind.Classes kind.ClassLine lists k ≡ lines_text (class_lines lists k)
block-class lists k = ap (λ (ys : List ℕ). numbered_line kind.Classes (k ∷ length (at lists k) ∷ []) ++ ys) (sym (lines-map class_line (at lists k)))

-- the texts of lists of lines
flat-lines : (f : ℕ → List ℕ) (g : ℕ → List Stated) → ((k : ℕ) → f k ≡ lines_text (g k)) → (ks : List ℕ) → flat_map f ks ≡ lines_text (flat_map g ks)
flat-lines f g h [] = refl
flat-lines f g h (k ∷ ks) = joins (g k) (flat_map g ks) (f k) (flat_map f ks) (h k) (flat-lines f g h ks)

products-is : (ls : List ProductLine) → products_text ls ≡ lines_text ((None, plain (p.Products (length ls))) ∷ map product_line ls)
products-is ls = ap (λ (ys : List ℕ). numbered_line kind.Products (length ls ∷ []) ++ ys) (sym (lines-map product_line ls))

homology-is : (c : Cert) → homology_text c.ranks c.classes c.products ≡ lines_text (homology_lines c)
homology-is c =
    let ranks : List Stated = flat_map (rank_lines c.ranks) (0 ∷ 1 ∷ 2 ∷ []) in
    let classes : List Stated = flat_map (class_lines c.classes) (0 ∷ 1 ∷ 2 ∷ 3 ∷ []) in
    let products : List Stated = (None, plain (p.Products (length c.products))) ∷ map product_line c.products in
    joins ranks (classes ++ products) _ _ (flat-lines (block_text kind.Rank kind.RankLine c.ranks) (rank_lines c.ranks) (block-rank c.ranks) (0 ∷ 1 ∷ 2 ∷ []))
    (joins classes products _ _ (flat-lines (block_text kind.Classes kind.ClassLine c.classes) (class_lines c.classes) (block-class c.classes) (0 ∷ 1 ∷ 2 ∷ 3 ∷ []))
    (products-is c.products))

components-is : (version : ℕ) (columns : List ℕ) → components_text version columns ≡ lines_text (component_lines version columns)
components-is version columns = at (eqb version 1)
  where
    at : (t : Bool) → cond t [] (numbered_line kind.Components (length columns ∷ []) ++ columns_text 1 columns) ≡ lines_text (cond t [] ((None, plain (p.Components (length columns))) ∷ column_lines 1 columns))
    at true = refl
    at false = refl

pub components-some : (version : ℕ) (columns : List ℕ) → version ≢ 1 → numbered_line kind.Components (length columns ∷ []) ++ columns_text 1 columns ≡ components_text version columns
components-some version columns ne = sym (ap (λ (t : Bool). cond t [] (numbered_line kind.Components (length columns ∷ []) ++ columns_text 1 columns)) (ne_eqb version 1 ne))

cover-is : (version : ℕ) (c : CertCover) → cover_front_text version c ≡ lines_text (cover_front version c)
cover-is version c =
    let sheets : Form = placed (Sheets c.sheets c.from) in
    let later : List Stated = component_lines version c.columns ++ (sheets_number version c.sections, sheets) ∷ [] in
    append_assoc (numbered_line kind.Pairs (length c.pairs ∷ [])) (flat_map pair_text c.pairs) (four_line kind.Critical c.critical ++ (components_text version c.columns ++ line_bytes sheets))
    ∙ ap (λ (ys : List ℕ). numbered_line kind.Pairs (length c.pairs ∷ []) ++ ys)
    (joins (map pair_line c.pairs) ((Some c.critical_line, four p.Critical c.critical) ∷ later) _ _ (sym (lines-map pair_line c.pairs))
    (ap (λ (ys : List ℕ). four_line kind.Critical c.critical ++ ys) (joins (component_lines version c.columns) ((sheets_number version c.sections, sheets) ∷ []) _ _ (components-is version c.columns) (sym (one (sheets_number version c.sections) sheets)))))

pub covers-is : (version : ℕ) (c : Option CertCover) → cover_fronts_text version c ≡ lines_text (cover_fronts version c)
covers-is version None = refl
covers-is version (Some c) = cover-is version c

pub front-is : (c : Cert) → opening_text c.version c.modulus c.space ++ (space_text c.space c.chains ++ (homology_text c.ranks c.classes c.products ++ cover_fronts_text c.version c.cover)) ≡ front_text c
front-is c =
    let covers : List Stated = cover_fronts c.version c.cover in
    joins (opening_lines c) (space_lines c ++ (homology_lines c ++ covers)) _ _ (opening-is c)
    (joins (space_lines c) (homology_lines c ++ covers) _ _ (space-is c) (joins (homology_lines c) covers _ _ (homology-is c) (covers-is c.version c.cover)))
