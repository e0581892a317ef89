-- The lines of the homology are read exactly.
use Rattle.std.proofs.Common.{◌≡◌, ◌+◌, ◌-◌, ◌++◌, ◌∷◌, [], ℕ, Bool, true, ◌&&◌, eqb, leb, Option, Some, None, List, map, length, refl, sym, ◌∙◌, ap, Ok}
use Rattle.std.specs.List.{flat_map}
use Rattle.std.proofs.lemmas.Bool.{eq-eqb, eqb-true}
use Rattle.std.proofs.lemmas.List.{append-nil, length-map}
use Rattle.small_field.specs.Modulus.{is_modulus}
use Rattle.certificates.specs.declared.lines.Line.{Line}
use Rattle.certificates.specs.declared.lines.ProductLine.{ProductLine}
use Rattle.certificates.specs.Parts.{Sparse}
use Rattle.certificates.specs.Plain as p
use Rattle.certificates.specs.Forms.{Form, plain}
use Rattle.certificates.specs.Degrees.{at}
use Rattle.certificates.specs.Texts.{Stated, rank_line, rank_lines, class_line, class_lines, product_line}
use Rattle.certificates.specs.WellFormed.{are_entries, sides_fit, product_order, product_place}
use Rattle.cert_lines.specs.Readers.{and_then, take_line, many, each}
use Rattle.cert_text.specs.Picks.{pick_modulus, pick_rank, pick_rank_line, pick_classes, pick_class_line, pick_products, pick_product_line}
use Rattle.cert_text.specs.Reading.{read_modulus, read_sides, read_block, chains_at, read_rank, read_ranks, read_class, read_classes, same_place, product_at, read_product, read_products}
use Rattle.cert_text.proofs.Passing.{and-parts, and-both}
use Rattle.cert_text.proofs.Equivalents.{IsReader, one-line, taken-line, recast, bind, mapped, HasMany, many-lines, HasEach, each-lines}
use Rattle.cert_text.proofs.Picked.{modulus-picked, rank-picked, rank_line-picked, classes-picked, class_line-picked, products-picked, product_line-picked}
use Rattle.cert_text.proofs.Tests.{all-test, test-all, own-number, same-number}

pub modulus-read : (v : ℕ) → IsReader v (read_modulus v) (λ m. (None, plain (p.Modulus m)) ∷ []) (λ m. is_modulus m ≡ true)
modulus-read v = taken-line v pick_modulus is_modulus (λ m. (None, plain (p.Modulus m))) (λ m. is_modulus m ≡ true) (record {
  says = λ f x n e fits. modulus-picked f x e;
  number = λ x n. refl;
  has = λ f x n e form fits. fits;
  back = λ y n has t. (y, refl, has, refl);
})

-- ---- the lines of a degree

abbrev side_test : (m low high : ℕ) → Line → Bool
side_test m low high l = are_entries m low l.left && are_entries m high l.right

abbrev say_sides : (Sparse → Sparse → Form) → Line → Stated
say_sides form l = (Some l.number, form l.left l.right)

sides-read : (v : ℕ) (pick : Form → Option (Sparse × Sparse)) (form : Sparse → Sparse → Form) → ((f : Form) (x : Sparse × Sparse) → pick f ≡ Some x → form x.0 x.1 ≡ f) → ((a b : Sparse) → pick (form a b) ≡ Some (a, b))
    → (m low high : ℕ) → IsReader v (read_sides v pick m low high) (λ l. say_sides form l ∷ []) (λ l. side_test m low high l ≡ true)
sides-read v pick form picked back m low high =
    one-line v pick (λ s. are_entries m low s.0 && are_entries m high s.1) (λ n s. record { number = n; left = s.0; right = s.1 }) (say_sides form) (λ l. side_test m low high l ≡ true) (record {
      says = λ f x n e fits. picked f x e;
      number = λ x n. own-number n;
      has = λ f x n e there fits. fits;
      back = λ y n has t. ((y.left, y.right), back y.left y.right, has, ap (λ (k : ℕ). record { number = k; left = y.left; right = y.right }) (sym (same-number y.number n t)));
    })

-- so many lines at most, whose entries fit
abbrev pub BlockFits : (m low high : ℕ) → List Line → Type 0
BlockFits m low high ls = (leb (length ls) low && sides_fit m low high ls) ≡ true

abbrev head_test : (degree low : ℕ) → ℕ × ℕ → Bool
head_test degree low h = eqb h.0 degree && leb h.1 low

abbrev HeadFits : (degree low : ℕ) → ℕ × ℕ → Type 0
HeadFits degree low h = (h.0 ≡ degree) × (leb h.1 low ≡ true)

head-read : (v : ℕ) (pick : Form → Option (ℕ × ℕ)) (form : ℕ → ℕ → Form) → ((f : Form) (x : ℕ × ℕ) → pick f ≡ Some x → form x.0 x.1 ≡ f) → ((a b : ℕ) → pick (form a b) ≡ Some (a, b))
    → (degree low : ℕ) → IsReader v (take_line v pick (head_test degree low)) (λ h. (None, form h.0 h.1) ∷ []) (HeadFits degree low)
head-read v pick form picked back degree low = taken-line v pick (head_test degree low) (λ h. (None, form h.0 h.1)) (HeadFits degree low) (record {
  says = λ f x n e fits. picked f x e;
  number = λ x n. refl;
  has = λ f x n e there fits. let q = and-parts (eqb x.0 degree) (leb x.1 low) fits in (eqb-true x.0 degree q.0, q.1);
  back = λ y n has t. (y, back y.0 y.1, and-both (eqb y.0 degree) (leb y.1 low) (eq-eqb y.0 degree has.0) has.1, refl);
})

-- one kind of lines behind their number
record IsKind (head : Form → Option (ℕ × ℕ)) (heads : ℕ → ℕ → Form) (pick : Form → Option (Sparse × Sparse)) (form : Sparse → Sparse → Form) : Type 0 where
  head-picked : (f : Form) (x : ℕ × ℕ) → head f ≡ Some x → heads x.0 x.1 ≡ f
  head-back : (a b : ℕ) → head (heads a b) ≡ Some (a, b)
  picked : (f : Form) (x : Sparse × Sparse) → pick f ≡ Some x → form x.0 x.1 ≡ f
  back : (a b : Sparse) → pick (form a b) ≡ Some (a, b)

block-read : (v : ℕ) (head : Form → Option (ℕ × ℕ)) (heads : ℕ → ℕ → Form) (pick : Form → Option (Sparse × Sparse)) (form : Sparse → Sparse → Form) → IsKind head heads pick form → (m degree low high : ℕ)
    → IsReader v (read_block v head pick m degree low high) (λ ls. (None, heads degree (length ls)) ∷ map (say_sides form) ls) (BlockFits m low high)
block-read v head heads pick form k m degree low high =
    recast v (read_block v head pick m degree low high) _ (λ ls. (None, heads degree (length ls)) ∷ map (say_sides form) ls) _ (BlockFits m low high)
    (bind v (take_line v head (head_test degree low)) (λ h. (None, heads h.0 h.1) ∷ []) (HeadFits degree low) (λ h. many h.1 (read_sides v pick m low high)) (λ h. map (say_sides form)) (λ h. HasMany h.1 (λ l. side_test m low high l ≡ true)) (λ ls. (degree, length ls))
    (head-read v head heads k.head-picked k.head-back degree low)
    (λ h. many-lines v h.1 (read_sides v pick m low high) (say_sides form) (λ l. side_test m low high l ≡ true) (sides-read v pick form k.picked k.back m low high))
    (λ h ls a b. λ i. (sym a.0 i, b.0 i)))
    (λ ls h. (and-both (leb (length ls) low) (sides_fit m low high ls) h.0.1 (all-test (side_test m low high) ls h.1.1), refl))
    (λ ls h. let q = and-parts (leb (length ls) low) (sides_fit m low high ls) h in (((refl, q.0), (refl, test-all (side_test m low high) ls q.1)), refl))

rank-kind : IsKind pick_rank (λ a b. plain (p.Rank a b)) pick_rank_line (λ a b. plain (p.RankLine a b))
rank-kind = record { head-picked = rank-picked; head-back = λ a b. refl; picked = rank_line-picked; back = λ a b. refl }

class-kind : IsKind pick_classes (λ a b. plain (p.Classes a b)) pick_class_line (λ a b. plain (p.ClassLine a b))
class-kind = record { head-picked = classes-picked; head-back = λ a b. refl; picked = class_line-picked; back = λ a b. refl }

-- ---- all degrees

abbrev pub RankFits : (m : ℕ) → (chains : List ℕ) → (degree : ℕ) → List Line → Type 0
RankFits m chains k ls = BlockFits m (chains_at chains k) (chains_at chains (k + 1)) ls

abbrev pub ClassFits : (m : ℕ) → (chains : List ℕ) → (degree : ℕ) → List Line → Type 0
ClassFits m chains k ls = BlockFits m (chains_at chains k) (chains_at chains k) ls

abbrev rank_block : (degree : ℕ) → List Line → List Stated
rank_block k ls = (None, plain (p.Rank k (length ls))) ∷ map rank_line ls

abbrev class_block : (degree : ℕ) → List Line → List Stated
class_block k ls = (None, plain (p.Classes k (length ls))) ∷ map class_line ls

rank-read : (v m : ℕ) (chains : List ℕ) (k : ℕ) → IsReader v (read_rank v m chains k) (rank_block k) (RankFits m chains k)
rank-read v m chains k = block-read v pick_rank (λ a b. plain (p.Rank a b)) pick_rank_line (λ a b. plain (p.RankLine a b)) rank-kind m k (chains_at chains k) (chains_at chains (k + 1))

class-read : (v m : ℕ) (chains : List ℕ) (k : ℕ) → IsReader v (read_class v m chains k) (class_block k) (ClassFits m chains k)
class-read v m chains k = block-read v pick_classes (λ a b. plain (p.Classes a b)) pick_class_line (λ a b. plain (p.ClassLine a b)) class-kind m k (chains_at chains k) (chains_at chains k)

abbrev pub RanksFit : (m : ℕ) → (chains : List ℕ) → List (List Line) → Type 0
RanksFit m chains y = RankFits m chains 0 (at y 0) × RankFits m chains 1 (at y 1) × RankFits m chains 2 (at y 2) × (y ≡ at y 0 ∷ at y 1 ∷ at y 2 ∷ [] ∷ [])

pub ranks-read : (v m : ℕ) (chains : List ℕ) → IsReader v (read_ranks v m chains) (λ y. flat_map (rank_lines y) (0 ∷ 1 ∷ 2 ∷ [])) (RanksFit m chains)
ranks-read v m chains =
    recast v (read_ranks v m chains) _ (λ y. flat_map (rank_lines y) (0 ∷ 1 ∷ 2 ∷ [])) _ (RanksFit m chains)
    (bind v (read_rank v m chains 0) (rank_block 0) (RankFits m chains 0)
    (λ a l. and_then (read_rank v m chains 1 l) (λ b. and_then (read_rank v m chains 2 b.1) (λ c. Ok (a ∷ b.0 ∷ c.0 ∷ [] ∷ [], c.1))))
    (λ a y. rank_block 1 (at y 1) ++ rank_block 2 (at y 2))
    (λ a y. RankFits m chains 1 (at y 1) × (RankFits m chains 2 (at y 2) × (y ≡ a ∷ at y 1 ∷ at y 2 ∷ [] ∷ [])))
    (λ y. at y 0)
    (rank-read v m chains 0)
    (λ a. bind v (read_rank v m chains 1) (rank_block 1) (RankFits m chains 1)
    (λ b l. and_then (read_rank v m chains 2 l) (λ c. Ok (a ∷ b ∷ c.0 ∷ [] ∷ [], c.1)))
    (λ b y. rank_block 2 (at y 2))
    (λ b y. RankFits m chains 2 (at y 2) × (y ≡ a ∷ b ∷ at y 2 ∷ [] ∷ []))
    (λ y. at y 1)
    (rank-read v m chains 1)
    (λ b. mapped v (read_rank v m chains 2) (rank_block 2) (RankFits m chains 2) (λ c. a ∷ b ∷ c ∷ [] ∷ []) (λ y. at y 2) (λ c. refl) (rank-read v m chains 2))
    (λ b y h q. ap (λ z. at z 1) q.1))
    (λ a y h q. ap (λ z. at z 0) q.1.1))
    (λ y h. ((h.0, h.1.0, h.1.1.0, h.1.1.1), ap (λ ls. rank_block 0 (at y 0) ++ (rank_block 1 (at y 1) ++ ls)) (sym (append-nil (rank_block 2 (at y 2))))))
    (λ y h. ((h.0, (h.1, (h.2, h.3))), ap (λ ls. rank_block 0 (at y 0) ++ (rank_block 1 (at y 1) ++ ls)) (append-nil (rank_block 2 (at y 2)))))

abbrev pub ClassesFit : (m : ℕ) → (chains : List ℕ) → List (List Line) → Type 0
ClassesFit m chains y =
    ClassFits m chains 0 (at y 0) × ClassFits m chains 1 (at y 1) × ClassFits m chains 2 (at y 2) × ClassFits m chains 3 (at y 3) × (y ≡ at y 0 ∷ at y 1 ∷ at y 2 ∷ at y 3 ∷ [])

pub classes-read : (v m : ℕ) (chains : List ℕ) → IsReader v (read_classes v m chains) (λ y. flat_map (class_lines y) (0 ∷ 1 ∷ 2 ∷ 3 ∷ [])) (ClassesFit m chains)
classes-read v m chains =
    recast v (read_classes v m chains) _ (λ y. flat_map (class_lines y) (0 ∷ 1 ∷ 2 ∷ 3 ∷ [])) _ (ClassesFit m chains)
    (bind v (read_class v m chains 0) (class_block 0) (ClassFits m chains 0)
    (λ a l. and_then (read_class v m chains 1 l) (λ b. and_then (read_class v m chains 2 b.1) (λ c. and_then (read_class v m chains 3 c.1) (λ d. Ok (a ∷ b.0 ∷ c.0 ∷ d.0 ∷ [], d.1)))))
    (λ a y. class_block 1 (at y 1) ++ (class_block 2 (at y 2) ++ class_block 3 (at y 3)))
    (λ a y. ClassFits m chains 1 (at y 1) × (ClassFits m chains 2 (at y 2) × (ClassFits m chains 3 (at y 3) × (y ≡ a ∷ at y 1 ∷ at y 2 ∷ at y 3 ∷ []))))
    (λ y. at y 0)
    (class-read v m chains 0)
    (λ a. bind v (read_class v m chains 1) (class_block 1) (ClassFits m chains 1)
    (λ b l. and_then (read_class v m chains 2 l) (λ c. and_then (read_class v m chains 3 c.1) (λ d. Ok (a ∷ b ∷ c.0 ∷ d.0 ∷ [], d.1))))
    (λ b y. class_block 2 (at y 2) ++ class_block 3 (at y 3))
    (λ b y. ClassFits m chains 2 (at y 2) × (ClassFits m chains 3 (at y 3) × (y ≡ a ∷ b ∷ at y 2 ∷ at y 3 ∷ [])))
    (λ y. at y 1)
    (class-read v m chains 1)
    (λ b. bind v (read_class v m chains 2) (class_block 2) (ClassFits m chains 2)
    (λ c l. and_then (read_class v m chains 3 l) (λ d. Ok (a ∷ b ∷ c ∷ d.0 ∷ [], d.1)))
    (λ c y. class_block 3 (at y 3))
    (λ c y. ClassFits m chains 3 (at y 3) × (y ≡ a ∷ b ∷ c ∷ at y 3 ∷ []))
    (λ y. at y 2)
    (class-read v m chains 2)
    (λ c. mapped v (read_class v m chains 3) (class_block 3) (ClassFits m chains 3) (λ d. a ∷ b ∷ c ∷ d ∷ []) (λ y. at y 3) (λ d. refl) (class-read v m chains 3))
    (λ c y h q. ap (λ z. at z 2) q.1))
    (λ b y h q. ap (λ z. at z 1) q.1.1))
    (λ a y h q. ap (λ z. at z 0) q.1.1.1))
    (λ y h. ((h.0, h.1.0, h.1.1.0, h.1.1.1.0, h.1.1.1.1), ap (λ ls. class_block 0 (at y 0) ++ (class_block 1 (at y 1) ++ (class_block 2 (at y 2) ++ ls))) (sym (append-nil (class_block 3 (at y 3))))))
    (λ y h. ((h.0, (h.1, (h.2, (h.3, h.4)))), ap (λ ls. class_block 0 (at y 0) ++ (class_block 1 (at y 1) ++ (class_block 2 (at y 2) ++ ls))) (append-nil (class_block 3 (at y 3)))))

-- ---- products

abbrev Place : Type 0
Place = ℕ × ℕ × ℕ × ℕ

pub same_place-is : (a b : Place) → same_place a b ≡ true → a ≡ b
same_place-is a b h =
    let q = and-parts (eqb a.0 b.0 && eqb a.1 b.1 && eqb a.2 b.2) (eqb a.3 b.3) h in
    let r = and-parts (eqb a.0 b.0 && eqb a.1 b.1) (eqb a.2 b.2) q.0 in
    let s = and-parts (eqb a.0 b.0) (eqb a.1 b.1) r.0 in
    λ i. (eqb-true a.0 b.0 s.0 i, eqb-true a.1 b.1 s.1 i, eqb-true a.2 b.2 r.1 i, eqb-true a.3 b.3 q.1 i)

same_place-own : (a : Place) → same_place a a ≡ true
same_place-own a =
    and-both (eqb a.0 a.0 && eqb a.1 a.1 && eqb a.2 a.2) (eqb a.3 a.3)
    (and-both (eqb a.0 a.0 && eqb a.1 a.1) (eqb a.2 a.2) (and-both (eqb a.0 a.0) (eqb a.1 a.1) (eq-eqb a.0 a.0 refl) (eq-eqb a.1 a.1 refl)) (eq-eqb a.2 a.2 refl)) (eq-eqb a.3 a.3 refl)

abbrev product_test : (m : ℕ) → (chains : List ℕ) → (classes : List (List Line)) → Place → (coefficients bound : Sparse) → Bool
product_test m chains classes place c b = are_entries m (length (at classes (place.0 + place.2))) c && are_entries m (chains_at chains (place.0 + place.2 - 1)) b

abbrev pub ProductFits : (m : ℕ) → (chains : List ℕ) → (classes : List (List Line)) → ProductLine → Type 0
ProductFits m chains classes l = product_test m chains classes (product_place l) l.coefficients l.bound ≡ true

abbrev place_test : (m : ℕ) → (chains : List ℕ) → (classes : List (List Line)) → Place → Place × Sparse × Sparse → Bool
place_test m chains classes place s =
    same_place s.0 place && are_entries m (length (at classes (place.0 + place.2))) s.1 && are_entries m (chains_at chains (place.0 + place.2 - 1)) s.2

product-read : (v m : ℕ) (chains : List ℕ) (classes : List (List Line)) (place : Place) → IsReader v (read_product v m chains classes place) (λ y. product_line y ∷ []) (λ y. (product_place y ≡ place) × ProductFits m chains classes y)
product-read v m chains classes place =
    one-line v pick_product_line (place_test m chains classes place) (λ n s. product_at n s.0 s.1 s.2) product_line (λ y. (product_place y ≡ place) × ProductFits m chains classes y) (record {
      says = λ f x n e fits. product_line-picked f x e;
      number = λ x n. own-number n;
      has = λ f x n e there fits.
          let q = and-parts (same_place x.0 place && are_entries m (length (at classes (place.0 + place.2))) x.1) (are_entries m (chains_at chains (place.0 + place.2 - 1)) x.2) fits in
          let r = and-parts (same_place x.0 place) (are_entries m (length (at classes (place.0 + place.2))) x.1) q.0 in
          let is : x.0 ≡ place = same_place-is x.0 place r.0 in
          (is, ap (λ (z : Place). product_test m chains classes z x.1 x.2) is ∙ and-both (are_entries m (length (at classes (place.0 + place.2))) x.1) (are_entries m (chains_at chains (place.0 + place.2 - 1)) x.2) r.1 q.1);
      back = λ y n has t.
          let here : Place = product_place y in
          let q = and-parts (are_entries m (length (at classes (here.0 + here.2))) y.coefficients) (are_entries m (chains_at chains (here.0 + here.2 - 1)) y.bound) has.1 in (
            (here, y.coefficients, y.bound),
            refl,
            ap (λ (z : Place). place_test m chains classes z (here, y.coefficients, y.bound)) (sym has.0)
                ∙ and-both (same_place here here && are_entries m (length (at classes (here.0 + here.2))) y.coefficients) (are_entries m (chains_at chains (here.0 + here.2 - 1)) y.bound)
                (and-both (same_place here here) (are_entries m (length (at classes (here.0 + here.2))) y.coefficients) (same_place-own here) q.0) q.1,
            ap (λ (k : ℕ). product_at k here y.coefficients y.bound) (sym (same-number y.number n t)),
          );
    })

abbrev pub ProductsFit : (m : ℕ) → (chains : List ℕ) → (classes : List (List Line)) → List ProductLine → Type 0
ProductsFit m chains classes ys = HasEach product_place (ProductFits m chains classes) (product_order (length (at classes 1)) (length (at classes 2))) ys

same_length : {A B : Type 0} (f : A → B) (ys : List A) (xs : List B) → map f ys ≡ xs → length ys ≡ length xs
same_length f ys xs e = sym (length-map ys f) ∙ ap length e

pub products-read : (v m : ℕ) (chains : List ℕ) (classes : List (List Line)) → IsReader v (read_products v m chains classes) (λ ys. (None, plain (p.Products (length ys))) ∷ map product_line ys) (ProductsFit m chains classes)
products-read v m chains classes =
    let order : List Place = product_order (length (at classes 1)) (length (at classes 2)) in
    recast v (read_products v m chains classes) _ (λ ys. (None, plain (p.Products (length ys))) ∷ map product_line ys) _ (ProductsFit m chains classes)
    (bind v (take_line v pick_products (λ q. eqb q (length order))) (λ q. (None, plain (p.Products q)) ∷ []) (λ q. q ≡ length order) (λ q. each (read_product v m chains classes) order) (λ q. map product_line) (λ q. ProductsFit m chains classes) (λ ys. length ys)
    (taken-line v pick_products (λ q. eqb q (length order)) (λ q. (None, plain (p.Products q))) (λ q. q ≡ length order) (record {
      says = λ f x n e fits. products-picked f x e;
      number = λ x n. refl;
      has = λ f x n e there fits. eqb-true x (length order) fits;
      back = λ y n has t. (y, refl, eq-eqb y (length order) has, refl);
    }))
    (λ q. each-lines v (read_product v m chains classes) product_line product_place (ProductFits m chains classes) (product-read v m chains classes) order)
    (λ q ys a b. same_length product_place ys order b.0 ∙ sym a))
    (λ ys h. (h.1, refl))
    (λ ys h. ((same_length product_place ys order h.0, h), refl))
