-- The text of a certificate of the one-point space, in both versions, with its numbers and ranges.
use Rattle.std.proofs.Common.{◌≡◌, ◌∷◌, ◌++◌, [], ℕ, List, true, None, Some, refl, codes}
use Rattle.std.specs.List.{list_all}
use Rattle.std.specs.Fmt.{digits}
use Rattle.order_complex.specs.Counting.{chain_counts}
use Rattle.certificates.specs.Plain as p
use Rattle.certificates.specs.Placed as q
use Rattle.certificates.specs.Forms.{plain, placed, form_of}
use Rattle.certificates.specs.Cert.{Cert, CertCover, CoverTable}
use Rattle.certificates.specs.Texts.{cert_text, lines_of}
use Rattle.certificates.specs.WellFormed.{rank_fits, class_fits, are_numbered, product_order}

abbrev table : (number : ℕ) → CoverTable
table number = record { number = number; sheets = 1; columns = 0; cells = [] }

abbrev covers : (critical section cover : ℕ) → CertCover
covers critical section cover = record {
  pairs = [];
  critical_line = critical;
  critical = 1 ∷ 0 ∷ 0 ∷ 0 ∷ [];
  columns = 0 ∷ [];
  sheets = 2;
  from = None;
  sections = record { number = section; component = 1; tables = table cover ∷ [] } ∷ [];
  spent = None;
}

abbrev point : (version : ℕ) → CertCover → Cert
point version cover = record {
  version = version;
  modulus = 2;
  space = ([] ∷ []) ∷ [] ∷ [] ∷ [] ∷ [];
  chains = 1 ∷ 0 ∷ 0 ∷ 0 ∷ [];
  ranks = [] ∷ [] ∷ [] ∷ [] ∷ [];
  classes = (record { number = 9; left = (1, 1) ∷ []; right = (1, 1) ∷ [] } ∷ []) ∷ [] ∷ [] ∷ [] ∷ [];
  products = [];
  cover = Some cover;
}

abbrev first : Cert
first = point 1 (covers 15 16 17)

abbrev second : Cert
second = point 2 (covers 15 19 20)

abbrev middle : List ℕ
middle = codes "modulus 2\ncells 1 0 0 0\nchains 1 0 0 0\nrank 0 0\nrank 1 0\nrank 2 0\nclasses 0 1\nz 1:1 | 1:1\nclasses 1 0\nclasses 2 0\nclasses 3 0\nproducts 0\npairs 0\ncritical 1 0 0 0\n"

first-text : cert_text first ≡ codes "hap-certificate 1\n" ++ (middle ++ codes "sheets 2 from -\ncover 1 -\ndone\nend\n")
unfolding digits
first-text = refl

second-text : cert_text second ≡ codes "hap-certificate 2\n" ++ (middle ++ codes "components 1\ncolumns 1 0\nsheets 2 from -\ncovers 1\ncover 1 -\ndone\nend\n")
unfolding digits
second-text = refl

first-numbers : are_numbered 1 (lines_of first) ≡ true
first-numbers = refl

second-numbers : are_numbered 1 (lines_of second) ≡ true
second-numbers = refl

point-chains : second.chains ≡ chain_counts second.space
point-chains = refl

point-ranks : list_all (rank_fits second) (0 ∷ 1 ∷ 2 ∷ []) ≡ true
point-ranks = refl

point-classes : list_all (class_fits second) (0 ∷ 1 ∷ 2 ∷ 3 ∷ []) ≡ true
point-classes = refl

-- the order of product lines, with two classes of degree 1 and one of degree 2
products-order : product_order 2 1 ≡ (1, 1, 1, 1) ∷ (1, 1, 1, 2) ∷ (1, 2, 1, 1) ∷ (1, 2, 1, 2) ∷ (1, 1, 2, 1) ∷ (1, 2, 2, 1) ∷ (2, 1, 1, 1) ∷ (2, 1, 1, 2) ∷ []
products-order = refl

-- lines of both versions, and others
spot-line : form_of 2 (codes "spent 2/3:2,3") ≡ Some (placed (q.Spent (Some (2, 3, 2 ∷ 3 ∷ []))))
spot-line = refl

no-spot-line : form_of 1 (codes "spent 2/3:2,3") ≡ None
no-spot-line = refl

cover-line : form_of 1 (codes "cover 3 1,2/2,3/3,1") ≡ Some (placed (q.Cover 3 ((1 ∷ 2 ∷ []) ∷ (2 ∷ 3 ∷ []) ∷ (3 ∷ 1 ∷ []) ∷ [])))
cover-line = refl

uneven-line : form_of 2 (codes "cover 2 1,2/2") ≡ None
uneven-line = refl

columns-line : form_of 2 (codes "columns 1 10") ≡ Some (plain (p.Columns 1 10))
columns-line = refl

no-columns-line : form_of 1 (codes "columns 1 10") ≡ None
no-columns-line = refl
