-- Lines of products, and how many there are.
use Rattle.std.proofs.Common.{◌≡◌, ◌+◌, ◌-◌, ◌*◌, ◌++◌, ◌∷◌, [], ℕ, zero, suc, Bool, true, false, ◌&&◌, eqb, Some, None, List, map, length, refl, sym, ◌∙◌, ap, arith, Ok, Err}
use Rattle.std.specs.List.{flat_map, range_with_len}
use Rattle.std.specs.Prelude.{slice_index_or}
use Rattle.std.proofs.Math.Nat.{mul_comm}
use Rattle.std.proofs.lemmas.Bool.{false≢true}
use Rattle.std.proofs.lemmas.List.{length-append}
use Rattle.std.proofs.lemmas.List.FromFn.{length-map-range_with_len}
use Rattle.certificates.specs.declared.kind.Kind.{Kind}
use Rattle.certificates.specs.declared.kind.Kind.TheVariants as kind
use Rattle.certificates.specs.declared.lines.Line.{Line}
use Rattle.certificates.specs.declared.lines.ProductLine.{ProductLine}
use Rattle.certificates.specs.Degrees.{at}
use Rattle.certificates.specs.Parts.{Sparse}
use Rattle.certificates.specs.Plain as p
use Rattle.certificates.specs.Plain.{Plain, parts}
use Rattle.certificates.specs.Forms.{Form, plain}
use Rattle.certificates.specs.WellFormed.{are_entries, places, product_order}
use Rattle.cert_lines.specs.declared.kind.LineKind.TheVariants as line_kind
use Rattle.cert_lines.specs.Listed.{numbers_in, list_in, list_behind, if_entries}
use Rattle.cert_lines.proofs.CallerLemmas.{numbers-told, lists-told}
use Rattle.cert_lines.specs.declared.fault.CertFault.{CertFault}
use Rattle.cert_lines.specs.declared.fault.CertFault.TheVariants.{OutOfRange}
use Rattle.cert_lines.specs.Readers.{Left, Answer, and_then, in_range, each, take_line}
use Rattle.cert_text.specs.Picks.{pick_products, pick_product_line}
use Rattle.cert_text.specs.Reading.{same_place, product_at, read_product, read_products}
use Rattle.cert_lines.specs.Taken.{IsTaken, IsRefused, numbers_if, any}
use Rattle.cert_text.specs.Taking.{quadruple, onto}
use Rattle.cert_text.proofs.EachLemmas.{each-after, each-stops}
use Rattle.cert_text.proofs.Loops.{onto-nil}
use Rattle.cert_text.proofs.SideLemmas.{entries-none, entries-some}
use Rattle.cert_lines.proofs.CallerLemmas.{plain-of, taken-is, refused-is, if_kind, no-kind}
use Rattle.cert_text.proofs.TakingLemmas.{IsPick, fits-line, unfit-line, fails-line}

-- ---- how many

abbrev row : (i j a n : ℕ) → List (ℕ × ℕ × ℕ × ℕ)
row i j a n = map (λ b. (i, a, j, b)) (range_with_len 1 n)

length-rows : (i j n a m : ℕ) → length (flat_map (λ a. row i j a n) (range_with_len a m)) ≡ m * n
length-rows i j n a zero = let e : 0 ≡ 0 * n = omega arith in e
length-rows i j n a (suc m) =
    length-append (row i j a n) (flat_map (λ a. row i j a n) (range_with_len (a + 1) m))
    ∙ sum_of n m (length (row i j a n)) (length (flat_map (λ a. row i j a n) (range_with_len (a + 1) m))) (length-map-range_with_len (λ b. (i, a, j, b)) 1 n) (length-rows i j n (a + 1) m)
  where
    sum_of : (n m x y : ℕ) → x ≡ n → y ≡ m * n → x + y ≡ suc m * n
    sum_of n m x y e f = omega (arith, e, f)

length-places : (i m j n : ℕ) → length (places i m j n) ≡ m * n
length-places i m j n = length-rows i j n 1 m

pub length-order : (b1 b2 : ℕ) → length (product_order b1 b2) ≡ b1 * (b1 + 2 * b2)
length-order b1 b2 =
    length-append (places 1 b1 1 b1) (places 1 b1 2 b2 ++ places 2 b2 1 b1)
    ∙ whole b1 b2 (length (places 1 b1 1 b1)) (length (places 1 b1 2 b2)) (length (places 2 b2 1 b1)) (length (places 1 b1 2 b2 ++ places 2 b2 1 b1))
    (length-places 1 b1 1 b1) (length-places 1 b1 2 b2) (length-places 2 b2 1 b1) (length-append (places 1 b1 2 b2) (places 2 b2 1 b1))
  where
    whole : (b c x y z s : ℕ) → x ≡ b * b → y ≡ b * c → z ≡ c * b → s ≡ y + z → x + s ≡ b * (b + 2 * c)
    whole b c x y z s e f g h = omega (arith, e, f, g, h, mul_comm c b)

-- ---- the line `products`

pub products-pick : IsPick kind.Products pick_products (λ ns. slice_index_or ns 0 0)
products-pick (plain (p.Products q)) = refl
products-pick f = refl

-- ---- a line

abbrev is_product : Kind → Bool
is_product kind.ProductLine = true
is_product k = false

abbrev Said : Type 0
Said = (ℕ × ℕ × ℕ × ℕ) × Sparse × Sparse

-- what a line of a product says
record IsSaid (f : Plain) : Type 0 where
  said : Said
  picked : pick_product_line (plain f) ≡ Some said
  numbers : (parts f).rest.numbers ≡ said.0.0 ∷ said.0.1 ∷ said.0.2 ∷ said.0.3 ∷ []
  lists : (parts f).rest.lists ≡ Some (said.1, said.2)

said-of : (f : Plain) → (parts f).kind ≡ kind.ProductLine → IsSaid f
said-of (p.ProductLine i a j b c d) e = record { said = ((i, a, j, b), c, d); picked = refl; numbers = refl; lists = refl }
said-of f e = absurd (false≢true (ap is_product e))

abbrev pub said_in : (line : List ℕ) → (ℕ × ℕ × ℕ × ℕ) × Sparse × Sparse
said_in line = (quadruple (numbers_in line), list_in line 4, list_behind line)

product-taken : (v : ℕ) (l m : Left) (line : List ℕ) (t : IsTaken v l (line_kind.Plain kind.ProductLine) m line) → pick_product_line t.form ≡ Some (said_in line)
product-taken v l m line t =
    let q = plain-of kind.ProductLine t.form t.kind in
    let s = said-of q.0 q.2 in
    let of = t.of ∙ ap (λ (f : Form). Some f) q.1 in
    let numbers : numbers_in line ≡ s.said.0.0 ∷ s.said.0.1 ∷ s.said.0.2 ∷ s.said.0.3 ∷ [] = numbers-told v line q.0 of ∙ s.numbers in
    let told = lists-told v line q.0 (s.said.1, s.said.2) of s.lists in
    let first : list_in line 4 ≡ s.said.1 = ap (λ (ns : List ℕ). list_in line (length ns)) (sym s.numbers) ∙ told.0 in
    ap pick_product_line q.1 ∙ (s.picked
    ∙ ap (λ (x : Said). Some x) (λ i. (ap quadruple (sym numbers) i, sym first i, sym told.1 i)))

abbrev test : (m low high : ℕ) → (ℕ × ℕ × ℕ × ℕ) → Said → Bool
test m low high place s = same_place s.0 place && are_entries m low s.1 && are_entries m high s.2

abbrev made : (n : ℕ) → Answer Said → Answer ProductLine
made n r = and_then r (λ a. Ok (product_at n a.0.0 a.0.1 a.0.2, a.1))

-- the counts that the lists of a line are within
abbrev pub low_of : List (List Line) → (degree : ℕ) → ℕ
low_of classes degree = length (at classes degree)

abbrev pub high_of : List ℕ → (degree : ℕ) → ℕ
high_of chains degree = slice_index_or chains (degree - 1) 0

product-at : (v m : ℕ) (chains : List ℕ) (classes : List (List Line)) (place : ℕ × ℕ × ℕ × ℕ) (l o : Left) (line : List ℕ) → IsTaken v l (line_kind.Plain kind.ProductLine) o line
    → read_product v m chains classes place l ≡ made l.number (in_range l.number (said_in line) o (test m (low_of classes (place.0 + place.2)) (high_of chains (place.0 + place.2)) place (said_in line)))
product-at v m chains classes place l o line t =
    ap (made l.number) (taken-is v l o (line_kind.Plain kind.ProductLine) line pick_product_line (test m (low_of classes (place.0 + place.2)) (high_of chains (place.0 + place.2)) place) (said_in line) t (product-taken v l o line t))

is-none : (f : Form) → if_kind (λ g. pick_product_line (plain g)) kind.ProductLine f ≡ pick_product_line f
is-none (plain (p.ProductLine i a j b c d)) = refl
is-none f = refl

pub product-refused : (v m : ℕ) (chains : List ℕ) (classes : List (List Line)) (place : ℕ × ℕ × ℕ × ℕ) (l : Left) (f : CertFault) → IsRefused v l (line_kind.Plain kind.ProductLine) f → read_product v m chains classes place l ≡ Err f
product-refused v m chains classes place l f r =
    ap (made l.number) (refused-is v l (line_kind.Plain kind.ProductLine) f pick_product_line (test m (low_of classes (place.0 + place.2)) (high_of chains (place.0 + place.2)) place)
    (λ g h. sym (is-none g) ∙ no-kind (λ g. pick_product_line (plain g)) kind.ProductLine g h) r)

nothing_and : (t : Bool) → (t && false) ≡ false
nothing_and true = refl
nothing_and false = refl

pub place-out : (v m : ℕ) (chains : List ℕ) (classes : List (List Line)) (place : ℕ × ℕ × ℕ × ℕ) (l o : Left) (line : List ℕ) → IsTaken v l (line_kind.Plain kind.ProductLine) o line → same_place (quadruple (numbers_in line)) place ≡ false
    → read_product v m chains classes place l ≡ Err (OutOfRange l.number)
place-out v m chains classes place l o line t e =
    product-at v m chains classes place l o line t
    ∙ ap (λ (b : Bool). made l.number (in_range l.number (said_in line) o (b && are_entries m (low_of classes (place.0 + place.2)) (list_in line 4) && are_entries m (high_of chains (place.0 + place.2)) (list_behind line)))) e

pub low-out : (v m : ℕ) (chains : List ℕ) (classes : List (List Line)) (place : ℕ × ℕ × ℕ × ℕ) (l o : Left) (line : List ℕ) → IsTaken v l (line_kind.Plain kind.ProductLine) o line → None ≡ if_entries m (low_of classes (place.0 + place.2)) (list_in line 4)
    → read_product v m chains classes place l ≡ Err (OutOfRange l.number)
low-out v m chains classes place l o line t e =
    product-at v m chains classes place l o line t
    ∙ (ap (λ (b : Bool). made l.number (in_range l.number (said_in line) o (same_place (quadruple (numbers_in line)) place && b && are_entries m (high_of chains (place.0 + place.2)) (list_behind line)))) (entries-none m (low_of classes (place.0 + place.2)) (list_in line 4) e)
    ∙ ap (λ (b : Bool). made l.number (in_range l.number (said_in line) o (b && are_entries m (high_of chains (place.0 + place.2)) (list_behind line)))) (nothing_and (same_place (quadruple (numbers_in line)) place)))

pub high-out : (v m : ℕ) (chains : List ℕ) (classes : List (List Line)) (place : ℕ × ℕ × ℕ × ℕ) (l o : Left) (line : List ℕ) → IsTaken v l (line_kind.Plain kind.ProductLine) o line → None ≡ if_entries m (high_of chains (place.0 + place.2)) (list_behind line)
    → read_product v m chains classes place l ≡ Err (OutOfRange l.number)
high-out v m chains classes place l o line t e =
    product-at v m chains classes place l o line t
    ∙ (ap (λ (b : Bool). made l.number (in_range l.number (said_in line) o (same_place (quadruple (numbers_in line)) place && are_entries m (low_of classes (place.0 + place.2)) (list_in line 4) && b))) (entries-none m (high_of chains (place.0 + place.2)) (list_behind line) e)
    ∙ ap (λ (b : Bool). made l.number (in_range l.number (said_in line) o b)) (nothing_and (same_place (quadruple (numbers_in line)) place && are_entries m (low_of classes (place.0 + place.2)) (list_in line 4))))

pub product-in : (v m : ℕ) (chains : List ℕ) (classes : List (List Line)) (place : ℕ × ℕ × ℕ × ℕ) (l o : Left) (line : List ℕ) (low high : Sparse) (n : ℕ) → IsTaken v l (line_kind.Plain kind.ProductLine) o line
    → same_place (quadruple (numbers_in line)) place ≡ true → quadruple (numbers_in line) ≡ place
    → Some low ≡ if_entries m (low_of classes (place.0 + place.2)) (list_in line 4) → Some high ≡ if_entries m (high_of chains (place.0 + place.2)) (list_behind line) → l.number ≡ n
    → read_product v m chains classes place l ≡ Ok (product_at n place low high, o)
product-in v m chains classes place l o line low high n t here same e g s =
    let a = entries-some m (low_of classes (place.0 + place.2)) (list_in line 4) low e in
    let b = entries-some m (high_of chains (place.0 + place.2)) (list_behind line) high g in
    product-at v m chains classes place l o line t
    ∙ (ap (λ (t : Bool). made l.number (in_range l.number (said_in line) o (t && are_entries m (low_of classes (place.0 + place.2)) (list_in line 4) && are_entries m (high_of chains (place.0 + place.2)) (list_behind line)))) here
    ∙ (ap (λ (t : Bool). made l.number (in_range l.number (said_in line) o (t && are_entries m (high_of chains (place.0 + place.2)) (list_behind line)))) a.0
    ∙ (ap (λ (t : Bool). made l.number (in_range l.number (said_in line) o t)) b.0
    ∙ (λ i. Ok (product_at (s i) (same i) (a.1 i) (b.1 i), o)))))

-- ---- all products

abbrev counted : (b1 b2 : ℕ) → ℕ → Bool
counted b1 b2 q = eqb q (length (product_order b1 b2))

abbrev behind : (v m : ℕ) → List ℕ → List (List Line) → (b1 b2 : ℕ) → Answer ℕ → Answer (List ProductLine)
behind v m chains classes b1 b2 r = and_then r (λ a. each (read_product v m chains classes) (product_order b1 b2) a.1)

products-by : (v m : ℕ) (chains : List ℕ) (classes : List (List Line)) (l : Left) (b1 b2 : ℕ) → b1 ≡ length (at classes 1) → b2 ≡ length (at classes 2)
    → read_products v m chains classes l ≡ behind v m chains classes b1 b2 (take_line v pick_products (counted b1 b2) l)
products-by v m chains classes l b1 b2 e f = λ i. behind v m chains classes (sym e i) (sym f i) (take_line v pick_products (counted (sym e i) (sym f i)) l)

pub products-fail : (v m : ℕ) (chains : List ℕ) (classes : List (List Line)) (l : Left) (f : CertFault) → take_line v (numbers_if kind.Products) any l ≡ Err f → read_products v m chains classes l ≡ Err f
products-fail v m chains classes l f h =
    let b1 : ℕ = length (at classes 1) in
    let b2 : ℕ = length (at classes 2) in
    ap (behind v m chains classes b1 b2) (fails-line v l kind.Products f pick_products (λ ns. slice_index_or ns 0 0) (counted b1 b2) products-pick h)

pub products-out : (v m : ℕ) (chains : List ℕ) (classes : List (List Line)) (l o : Left) (ns : List ℕ) (b1 b2 : ℕ) → b1 ≡ length (at classes 1) → b2 ≡ length (at classes 2) → take_line v (numbers_if kind.Products) any l ≡ Ok (ns, o)
    → eqb (slice_index_or ns 0 0) (length (product_order b1 b2)) ≡ false → read_products v m chains classes l ≡ Err (OutOfRange l.number)
products-out v m chains classes l o ns b1 b2 e f h t =
    products-by v m chains classes l b1 b2 e f
    ∙ ap (behind v m chains classes b1 b2) (unfit-line v l o kind.Products ns pick_products (λ ns. slice_index_or ns 0 0) (counted b1 b2) products-pick t h)

pub products-go : (v m : ℕ) (chains : List ℕ) (classes : List (List Line)) (l o : Left) (ns : List ℕ) (b1 b2 : ℕ) → b1 ≡ length (at classes 1) → b2 ≡ length (at classes 2) → take_line v (numbers_if kind.Products) any l ≡ Ok (ns, o)
    → eqb (slice_index_or ns 0 0) (length (product_order b1 b2)) ≡ true → read_products v m chains classes l ≡ each (read_product v m chains classes) (product_order b1 b2) o
products-go v m chains classes l o ns b1 b2 e f h t =
    products-by v m chains classes l b1 b2 e f
    ∙ ap (behind v m chains classes b1 b2) (fits-line v l o kind.Products ns pick_products (λ ns. slice_index_or ns 0 0) (counted b1 b2) products-pick t h)

-- ---- degrees one after another

-- the places behind the first two degrees
abbrev third : (b1 b2 : ℕ) → List (ℕ × ℕ × ℕ × ℕ)
third b1 b2 = places 2 b2 1 b1

abbrev second : (b1 b2 : ℕ) → List (ℕ × ℕ × ℕ × ℕ)
second b1 b2 = places 1 b1 2 b2

abbrev Read : Type 0
Read = ℕ × ℕ × ℕ × ℕ → Left → Answer ProductLine

from_none : (read : Read) (b1 b2 : ℕ) (xs : List ProductLine) (l : Left) → xs ≡ [] → each read (product_order b1 b2) l ≡ onto xs (each read (product_order b1 b2) l)
from_none read b1 b2 xs l e = onto-nil (each read (product_order b1 b2) l) ∙ ap (λ (ys : List ProductLine). onto ys (each read (product_order b1 b2) l)) (sym e)

pub first-stops : (read : ℕ × ℕ × ℕ × ℕ → Left → Answer ProductLine) (b1 b2 : ℕ) (xs : List ProductLine) (l : Left) (f : CertFault) → xs ≡ [] → onto xs (each read (places 1 b1 1 b1) l) ≡ Err f → each read (product_order b1 b2) l ≡ Err f
first-stops read b1 b2 xs l f e h = from_none read b1 b2 xs l e ∙ each-stops read (places 1 b1 1 b1) (second b1 b2 ++ third b1 b2) xs l f h

pub first-read : (read : ℕ × ℕ × ℕ × ℕ → Left → Answer ProductLine) (b1 b2 : ℕ) (xs ys : List ProductLine) (l m : Left) → xs ≡ [] → onto xs (each read (places 1 b1 1 b1) l) ≡ Ok (ys, m)
    → each read (product_order b1 b2) l ≡ onto ys (each read (places 1 b1 2 b2 ++ places 2 b2 1 b1) m)
first-read read b1 b2 xs ys l m e h = from_none read b1 b2 xs l e ∙ each-after read (places 1 b1 1 b1) (second b1 b2 ++ third b1 b2) xs l m ys h

pub second-stops : (read : ℕ × ℕ × ℕ × ℕ → Left → Answer ProductLine) (b1 b2 : ℕ) (xs : List ProductLine) (l : Left) (f : CertFault) → onto xs (each read (places 1 b1 2 b2) l) ≡ Err f
    → onto xs (each read (places 1 b1 2 b2 ++ places 2 b2 1 b1) l) ≡ Err f
second-stops read b1 b2 xs l f h = each-stops read (second b1 b2) (third b1 b2) xs l f h

pub second-read : (read : ℕ × ℕ × ℕ × ℕ → Left → Answer ProductLine) (b1 b2 : ℕ) (xs ys : List ProductLine) (l m : Left) → onto xs (each read (places 1 b1 2 b2) l) ≡ Ok (ys, m)
    → onto xs (each read (places 1 b1 2 b2 ++ places 2 b2 1 b1) l) ≡ onto ys (each read (places 2 b2 1 b1) m)
second-read read b1 b2 xs ys l m h = each-after read (second b1 b2) (third b1 b2) xs l m ys h
