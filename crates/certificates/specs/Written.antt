-- The text of a certificate as the code writes it: line by line, and word by word behind the first.
--   numbered_line kind numbers             the line of a kind with these numbers, with its line feed
--   listed_line kind numbers left right    the same with two sparse lists
--   numbers_text, words_text               numbers and words, each with a space before it
--   head_text kind numbers                 the first word and the numbers
--   sides_text left right                  two sparse lists
--   faces_text space dim                   the faces of a dimension
--   block_text, blocks_text                the lines of rank, or the classes, of a degree, and of the degrees below n
--   product_text, pair_text                a product, a pair
--   cells_line, opening_text, space_text, homology_text, components_text, cover_front_text   the parts of a front
--   behind_text separator cells            numbers with the separator before each
--   component_text component               a component and a slash, nothing for component 1
use Rattle.std.specs.Prelude.{ℕ, ◌==◌, List, [], ◌∷◌, ◌++◌, length, if◌then◌else◌, Option, Some, None, slice_index_or, decimal}
use Rattle.std.specs.List.{flat_map, range_with_len}
use Rattle.face_poset.specs.Poset.{Layers, layer, count}
use Rattle.certificates.specs.declared.kind.Kind.{Kind}
use Rattle.certificates.specs.declared.kind.Kind.TheVariants as kind
use Rattle.certificates.specs.declared.token.Token.{Token}
use Rattle.certificates.specs.declared.lines.Line.{Line}
use Rattle.certificates.specs.declared.lines.ProductLine.{ProductLine}
use Rattle.certificates.specs.declared.lines.PairLine.{PairLine}
use Rattle.certificates.specs.Tokens.{token_text}
use Rattle.certificates.specs.Parts.{Sparse, numbered, listed, kind_text, sparse_tokens, parts_text}
use Rattle.certificates.specs.Placed.{Sheets}
use Rattle.certificates.specs.Forms.{placed}
use Rattle.certificates.specs.Degrees.{at}
use Rattle.certificates.specs.Cert.{CertCover}
use Rattle.certificates.specs.Texts.{line_bytes, lines_text, column_lines}

-- ---- one line

abbrev pub numbered_line : Kind → List ℕ → List ℕ
numbered_line k ns = parts_text (numbered k ns) ++ 10 ∷ []

abbrev pub listed_line : Kind → List ℕ → (left right : Sparse) → List ℕ
listed_line k ns left right = parts_text (listed k ns left right) ++ 10 ∷ []

abbrev pub words_text : List Token → List ℕ
words_text ts = flat_map (λ t. 32 ∷ token_text t) ts

abbrev pub numbers_text : List ℕ → List ℕ
numbers_text ns = flat_map (λ n. 32 ∷ decimal n) ns

abbrev pub head_text : Kind → List ℕ → List ℕ
head_text k ns = kind_text k ++ numbers_text ns

abbrev pub sides_text : (left right : Sparse) → List ℕ
sides_text left right = words_text (sparse_tokens left) ++ ((32 ∷ 124 ∷ []) ++ words_text (sparse_tokens right))

-- ---- the front

abbrev pub face_text : (dim : ℕ) → List ℕ → List ℕ
face_text dim facets = numbered_line kind.Face (dim ∷ facets)

abbrev pub faces_text : Layers → (dim : ℕ) → List ℕ
faces_text space dim = flat_map (face_text dim) (layer space dim)

abbrev pub side_line : Kind → Line → List ℕ
side_line k l = listed_line k [] l.left l.right

abbrev pub block_text : (head each : Kind) → List (List Line) → (degree : ℕ) → List ℕ
block_text head each lists k = numbered_line head (k ∷ length (at lists k) ∷ []) ++ flat_map (side_line each) (at lists k)

abbrev pub blocks_text : (head each : Kind) → List (List Line) → (n : ℕ) → List ℕ
blocks_text head each lists n = flat_map (block_text head each lists) (range_with_len 0 n)

abbrev pub product_text : ProductLine → List ℕ
product_text l = listed_line kind.ProductLine (l.i ∷ l.a ∷ l.j ∷ l.b ∷ []) l.coefficients l.bound

abbrev pub products_text : List ProductLine → List ℕ
products_text ls = numbered_line kind.Products (length ls ∷ []) ++ flat_map product_text ls

abbrev pub four_line : Kind → List ℕ → List ℕ
four_line k ns = numbered_line k (slice_index_or ns 0 0 ∷ slice_index_or ns 1 0 ∷ slice_index_or ns 2 0 ∷ slice_index_or ns 3 0 ∷ [])

abbrev pub cells_line : Layers → List ℕ
cells_line space = numbered_line kind.Cells (count space 0 ∷ count space 1 ∷ count space 2 ∷ count space 3 ∷ [])

abbrev pub opening_text : (version modulus : ℕ) → Layers → List ℕ
opening_text version modulus space =
    numbered_line kind.Version (version ∷ []) ++ (numbered_line kind.Modulus (modulus ∷ [])
    ++ cells_line space)

abbrev pub space_text : Layers → List ℕ → List ℕ
space_text space chains = faces_text space 1 ++ (faces_text space 2 ++ (faces_text space 3 ++ four_line kind.Chains chains))

abbrev pub homology_text : (ranks classes : List (List Line)) → List ProductLine → List ℕ
homology_text ranks classes products =
    blocks_text kind.Rank kind.RankLine ranks 3 ++ (blocks_text kind.Classes kind.ClassLine classes 4 ++ products_text products)

-- ---- the cover part

abbrev pub pair_text : PairLine → List ℕ
pair_text l = numbered_line kind.PairLine (l.pair.dim ∷ l.pair.lower ∷ l.pair.upper ∷ [])

abbrev pub pairs_text : List PairLine → List ℕ
pairs_text ls = numbered_line kind.Pairs (length ls ∷ []) ++ flat_map pair_text ls

abbrev pub columns_text : (n : ℕ) → List ℕ → List ℕ
columns_text n columns = lines_text (column_lines n columns)

abbrev pub components_text : (version : ℕ) → List ℕ → List ℕ
components_text version columns =
    if version == 1 then [] else numbered_line kind.Components (length columns ∷ []) ++ columns_text 1 columns

abbrev pub cover_front_text : (version : ℕ) → CertCover → List ℕ
cover_front_text version c =
    pairs_text c.pairs ++ (four_line kind.Critical c.critical
    ++ (components_text version c.columns ++ line_bytes (placed (Sheets c.sheets c.from))))

abbrev pub cover_fronts_text : (version : ℕ) → Option CertCover → List ℕ
cover_fronts_text version None = []
cover_fronts_text version (Some c) = cover_front_text version c

-- ---- spots and tables

abbrev pub behind_text : (separator : List ℕ) → List ℕ → List ℕ
behind_text separator cells = flat_map (λ cell. separator ++ decimal cell) cells

abbrev pub component_text : (component : ℕ) → List ℕ
component_text component = if component == 1 then [] else decimal component ++ 47 ∷ []
