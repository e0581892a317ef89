-- Each reader of a certificate looks at no line behind the one that it refuses.
use Rattle.std.proofs.Common.{◌≡◌, ◌≤◌, ◌+◌, ◌-◌, ◌∷◌, [], inl, inr, ℕ, zero, suc, Bool, true, false, cond, eqb, ◌||◌, Option, Some, None, List, length, refl, sym, ◌∙◌, ap, arith, Result, Ok, Err}
use Rattle.std.specs.Prelude.{slice_index_or}
use Rattle.std.proofs.lemmas.Bool.{ne_eqb}
use Rattle.face_poset.specs.Poset.{Layers}
use Rattle.certificates.specs.declared.lines.Line.{Line}
use Rattle.certificates.specs.declared.lines.PairLine.{PairLine}
use Rattle.certificates.specs.Parts.{Sparse}
use Rattle.certificates.specs.Plain as p
use Rattle.certificates.specs.Placed.{SearchSpot}
use Rattle.certificates.specs.Forms.{Form, plain, form_of}
use Rattle.cert_lines.specs.declared.fault.CertFault.{CertFault}
use Rattle.cert_lines.specs.declared.fault.CertFault.TheVariants.{BadLine, WrongOrder, OutOfRange, Ends, BadVersion}
use Rattle.cert_lines.specs.Readers.{Left, Answer, and_then, formed, next_form, in_range, chosen, take_line, many}
use Rattle.cert_text.specs.Picks as k
use Rattle.cert_text.specs.Picks.{Listing, pick_listing}
use Rattle.cert_text.specs.Reading as r
use Rattle.cert_text.specs.Reading.{versioned, Frame, Listed, listing_fits, component_after, is_ending, ended, put_listing, in_listing, formed_listing, listing_from}
use Rattle.cert_text.specs.Laws.{line_of}
use Rattle.cert_text.proofs.Locals.{IsLocal, local-return, local-then, IsChoice, local-line, local-take, local-many, local-each}

pub local-map : {A B : Type 0} (read : Left → Answer A) (f : ℕ → A → B) → IsLocal read → IsLocal (λ l. and_then (read l) (λ a. Ok (f l.number a.0, a.1)))
local-map read f i = local-then read (λ n a m. Ok (f n a, m)) i (λ n a. local-return (f n a))

-- ---- the version, as it is read in line 1

abbrev pub version_at : (n : ℕ) → Form → Left → Answer ℕ
version_at n f left = cond (eqb n 1) (versioned 1 f left) (Err (WrongOrder n))

first_choice : (f : Form) → IsChoice 1 (versioned 1 f)
first_choice (plain (p.Version v)) = at ((eqb v 1) || (eqb v 2))
  where
    at : (t : Bool) → IsChoice {A = ℕ} 1 (λ m. cond t (Ok (v, m)) (Err BadVersion))
    at true = inl (v, λ m. refl)
    at false = inr (BadVersion, refl, λ m. refl)
first_choice f = inr (WrongOrder 1, refl, λ m. refl)

version_choice : (n : ℕ) (f : Form) → IsChoice n (version_at n f)
version_choice zero f = inr (WrongOrder 0, refl, λ m. refl)
version_choice (suc zero) f = first_choice f
version_choice (suc (suc n)) f =
    inr (WrongOrder (suc (suc n)), refl, λ m. ap (λ (t : Bool). cond t (versioned 1 f m) (Err (WrongOrder (suc (suc n))))) (ne_eqb (suc (suc n)) 1 (λ e. omega (arith, e))))

abbrev pub version_read : Left → Answer ℕ
version_read l = and_then (next_form 2 l) (λ a. version_at l.number a.0 a.1)

pub local-version : IsLocal version_read
local-version = local-line 2 version_at version_choice

-- ---- the space

local-face : (v dim below : ℕ) → IsLocal (r.read_face v dim below)
local-face v dim below = local-map (take_line v k.pick_face (r.face_fits dim below)) (λ n a. a.1) (local-take v k.pick_face (r.face_fits dim below))

local-faces : (v : ℕ) (cells : List ℕ) → IsLocal (r.read_faces v cells)
local-faces v cells =
    local-then (many (slice_index_or cells 1 0) (r.read_face v 1 (slice_index_or cells 0 0))) _ (local-many _ _ (local-face v 1 (slice_index_or cells 0 0))) (λ n edges.
    local-then (many (slice_index_or cells 2 0) (r.read_face v 2 (slice_index_or cells 1 0))) _ (local-many _ _ (local-face v 2 (slice_index_or cells 1 0))) (λ n faces.
    local-map (many (slice_index_or cells 3 0) (r.read_face v 3 (slice_index_or cells 2 0))) _ (local-many _ _ (local-face v 3 (slice_index_or cells 2 0)))))

local-space : (v : ℕ) → IsLocal (r.read_space v)
local-space v = local-then (take_line v k.pick_cells r.cells_fit) (λ n cells. r.read_faces v cells) (local-take v k.pick_cells r.cells_fit) (λ n cells. local-faces v cells)

-- ---- the homology

local-sides : (v : ℕ) (pick : Form → Option (Sparse × Sparse)) (m low high : ℕ) → IsLocal (r.read_sides v pick m low high)
local-sides v pick m low high = local-map (take_line v pick _) _ (local-take v pick _)

local-block : (v : ℕ) (head : Form → Option (ℕ × ℕ)) (pick : Form → Option (Sparse × Sparse)) (m degree low high : ℕ) → IsLocal (r.read_block v head pick m degree low high)
local-block v head pick m degree low high =
    local-then (take_line v head _) (λ n h. many h.1 (r.read_sides v pick m low high)) (local-take v head _) (λ n h. local-many h.1 _ (local-sides v pick m low high))

local-rank : (v m : ℕ) (chains : List ℕ) (degree : ℕ) → IsLocal (r.read_rank v m chains degree)
local-rank v m chains degree = local-block v k.pick_rank k.pick_rank_line m degree (r.chains_at chains degree) (r.chains_at chains (degree + 1))

local-ranks : (v m : ℕ) (chains : List ℕ) → IsLocal (r.read_ranks v m chains)
local-ranks v m chains =
    local-then (r.read_rank v m chains 0) _ (local-rank v m chains 0) (λ n a.
    local-then (r.read_rank v m chains 1) _ (local-rank v m chains 1) (λ n b.
    local-map (r.read_rank v m chains 2) _ (local-rank v m chains 2)))

local-class : (v m : ℕ) (chains : List ℕ) (degree : ℕ) → IsLocal (r.read_class v m chains degree)
local-class v m chains degree = local-block v k.pick_classes k.pick_class_line m degree (r.chains_at chains degree) (r.chains_at chains degree)

local-classes : (v m : ℕ) (chains : List ℕ) → IsLocal (r.read_classes v m chains)
local-classes v m chains =
    local-then (r.read_class v m chains 0) _ (local-class v m chains 0) (λ n a.
    local-then (r.read_class v m chains 1) _ (local-class v m chains 1) (λ n b.
    local-then (r.read_class v m chains 2) _ (local-class v m chains 2) (λ n c.
    local-map (r.read_class v m chains 3) _ (local-class v m chains 3))))

local-product : (v m : ℕ) (chains : List ℕ) (classes : List (List Line)) (place : ℕ × ℕ × ℕ × ℕ) → IsLocal (r.read_product v m chains classes place)
local-product v m chains classes place = local-map (take_line v k.pick_product_line _) _ (local-take v k.pick_product_line _)

local-products : (v m : ℕ) (chains : List ℕ) (classes : List (List Line)) → IsLocal (r.read_products v m chains classes)
local-products v m chains classes =
    local-then (take_line v k.pick_products _) _ (local-take v k.pick_products _) (λ n a. local-each (r.read_product v m chains classes) _ (local-product v m chains classes))

-- ---- the cover part

local-pair : (v : ℕ) (space : Layers) → IsLocal (r.read_pair v space)
local-pair v space = local-map (take_line v k.pick_pair_line (r.pair_stands space)) _ (local-take v k.pick_pair_line (r.pair_stands space))

local-critical : (v : ℕ) (space : Layers) (pairs : List PairLine) → IsLocal (r.read_critical v space pairs)
local-critical v space pairs = local-map (take_line v k.pick_critical (r.all_critical space pairs)) _ (local-take v k.pick_critical (r.all_critical space pairs))

local-columns_from : (v i n columns : ℕ) → IsLocal (r.columns_from v i n columns)
local-columns_from v i zero columns = local-return []
local-columns_from v i (suc n) columns =
    local-then (take_line v k.pick_columns _) _ (local-take v k.pick_columns _) (λ j a.
    local-map (r.columns_from v (i + 1) n (columns - a.1)) _ (local-columns_from v (i + 1) n (columns - a.1)))

local-if : {A : Type 0} (t : Bool) (one other : Left → Answer A) → IsLocal one → IsLocal other → IsLocal (λ l. cond t (one l) (other l))
local-if true one other i j = i
local-if false one other i j = j

local-columns : (v : ℕ) (critical : List ℕ) → IsLocal (r.read_columns v critical)
local-columns v critical =
    local-if (eqb v 1) _ _ (local-return (slice_index_or critical 1 0 ∷ []))
    (local-then (take_line v k.pick_components _) (λ n c. r.columns_from v 1 c (slice_index_or critical 1 0)) (local-take v k.pick_components _) (λ n c. local-columns_from v 1 c (slice_index_or critical 1 0)))

local-sheets : (v : ℕ) (columns : List ℕ) → IsLocal (r.read_sheets v columns)
local-sheets v columns = local-map (take_line v k.pick_sheets (r.sheets_fit columns)) _ (local-take v k.pick_sheets (r.sheets_fit columns))

-- ---- the listing, with a bound on its lines

abbrev bounded : Frame → (bound component : ℕ) → Left → Answer Listed
bounded fr zero c l = Err Ends
bounded fr (suc b) c l =
    and_then (take_line fr.version pick_listing (listing_fits fr c) l) (λ a.
    cond (is_ending a.0) (Ok (ended a.0, a.1)) (and_then (bounded fr b (component_after c a.0) a.1) (λ x. Ok (put_listing fr c l.number a.0 x.0, x.1))))

local-ends : {A : Type 0} → IsLocal {A = A} (λ l. Err Ends)
local-ends {A} = record {
  fails = λ n l m f a e line. e;
  passes = λ n l m o x a e within. cc;
  late = λ n l f e line. let s : Ends ≡ f = cc in let h : ◌≡◌ {A = Option ℕ} None (Some n) = ap line_of s ∙ line in cc;
  later = λ l o x e. cc;
}

local-bounded : (fr : Frame) (b c : ℕ) → IsLocal (bounded fr b c)
local-bounded fr zero c = local-ends
local-bounded fr (suc b) c =
    local-then (take_line fr.version pick_listing (listing_fits fr c)) (λ n a m. cond (is_ending a) (Ok (ended a, m)) (and_then (bounded fr b (component_after c a) m) (λ x. Ok (put_listing fr c n a x.0, x.1))))
    (local-take fr.version pick_listing (listing_fits fr c))
    (λ n a. local-if (is_ending a) _ _ (local-return (ended a)) (local-map (bounded fr b (component_after c a)) (λ j x. put_listing fr c n a x) (local-bounded fr b (component_after c a))))

abbrev from_listing : Frame → (b c n : ℕ) → List (List ℕ) → Answer Listing → Answer Listed
from_listing fr b c n rest r =
    and_then r (λ a. cond (is_ending a.0) (Ok (ended a.0, a.1)) (and_then (bounded fr b (component_after c a.0) a.1) (λ x. Ok (put_listing fr c n a.0 x.0, x.1))))

pub bounded-same : (fr : Frame) (b c n : ℕ) (pieces : List (List ℕ)) → length pieces ≤ b → listing_from fr c n pieces ≡ bounded fr b c (record { number = n; pieces = pieces })
bounded-same fr zero c n [] h = refl
bounded-same fr zero c n (w ∷ ws) h = absurd (omega (arith, h))
bounded-same fr (suc b) c n [] h = refl
bounded-same fr (suc b) c n (w ∷ []) h = at (eqb (length w) 0)
  where
    at : (t : Bool) → cond {A = Answer Listed} t (Err Ends) (Err (BadLine n)) ≡ from_listing fr b c n [] (and_then (cond {A = Answer Form} t (Err Ends) (Err (BadLine n))) (λ a. chosen (listing_fits fr c) n (pick_listing a.0) a.1))
    at true = refl
    at false = refl
bounded-same fr (suc b) c n (w ∷ x ∷ ws) h = at (form_of fr.version w) (λ d. bounded-same fr b d (n + 1) (x ∷ ws) (omega (arith, h)))
  where
    go : Listing → Answer Listed
    go l = cond (is_ending l) (Ok (ended l, record { number = n + 1; pieces = x ∷ ws })) (and_then (listing_from fr (component_after c l) (n + 1) (x ∷ ws)) (λ b. Ok (put_listing fr c n l b.0, b.1)))

    next : (l : Listing) → ((d : ℕ) → listing_from fr d (n + 1) (x ∷ ws) ≡ bounded fr b d (record { number = n + 1; pieces = x ∷ ws })) → go l ≡ from_listing fr b c n [] (Ok (l, record { number = n + 1; pieces = x ∷ ws }))
    next l same = ap (λ r. cond (is_ending l) (Ok (ended l, record { number = n + 1; pieces = x ∷ ws })) (and_then r (λ b. Ok (put_listing fr c n l b.0, b.1)))) (same (component_after c l))

    fit : (t : Bool) (l : Listing) → ((d : ℕ) → listing_from fr d (n + 1) (x ∷ ws) ≡ bounded fr b d (record { number = n + 1; pieces = x ∷ ws }))
        → and_then (cond {A = Result Listing CertFault} t (Ok l) (Err (OutOfRange n))) go ≡ from_listing fr b c n [] (in_range n l (record { number = n + 1; pieces = x ∷ ws }) t)
    fit true l same = next l same
    fit false l same = refl

    pick : (o : Option Listing) → ((d : ℕ) → listing_from fr d (n + 1) (x ∷ ws) ≡ bounded fr b d (record { number = n + 1; pieces = x ∷ ws }))
        → and_then (in_listing fr c n o) go ≡ from_listing fr b c n [] (chosen (listing_fits fr c) n o (record { number = n + 1; pieces = x ∷ ws }))
    pick None same = refl
    pick (Some l) same = fit (listing_fits fr c l) l same

    at : (o : Option Form) → ((d : ℕ) → listing_from fr d (n + 1) (x ∷ ws) ≡ bounded fr b d (record { number = n + 1; pieces = x ∷ ws }))
        → and_then (formed_listing fr c n o) go ≡ from_listing fr b c n [] (and_then (formed n (x ∷ ws) o) (λ a. chosen (listing_fits fr c) n (pick_listing a.0) a.1))
    at None same = refl
    at (Some f) same = pick (pick_listing f) same

listed-bound : (fr : Frame) (c b : ℕ) (l : Left) → length l.pieces ≤ b → r.read_listed fr c l ≡ bounded fr b c l
listed-bound fr c b l h = bounded-same fr b c l.number l.pieces h

local-listed : (fr : Frame) (c : ℕ) → IsLocal (r.read_listed fr c)
local-listed fr c = record {
  fails = λ n l m f a e line.
      let b : ℕ = length l.pieces + length m.pieces in
      listed-bound fr c b m (omega arith) ∙ (local-bounded fr b c).fails n l m f a (sym (listed-bound fr c b l (omega arith)) ∙ e) line;
  passes = λ n l m o x a e within.
      let b : ℕ = length l.pieces + length m.pieces in
      let p = (local-bounded fr b c).passes n l m o x a (sym (listed-bound fr c b l (omega arith)) ∙ e) within in
      (p.0, listed-bound fr c b m (omega arith) ∙ p.1, p.2);
  late = λ n l f e line. (local-bounded fr (length l.pieces) c).late n l f (sym (listed-bound fr c (length l.pieces) l (omega arith)) ∙ e) line;
  later = λ l o x e. (local-bounded fr (length l.pieces) c).later l o x (sym (listed-bound fr c (length l.pieces) l (omega arith)) ∙ e);
}

local-section : (v : ℕ) (from : SearchSpot) (sheets : Option ℕ) → IsLocal (r.read_section v from sheets)
local-section v from (Some n) = local-return (n, 1)
local-section v from None = local-map (take_line v k.pick_covers _) _ (local-take v k.pick_covers _)

local-listing : (fr : Frame) (from : SearchSpot) (sheets : Option ℕ) → IsLocal (r.read_listing fr from sheets)
local-listing fr from sheets =
    local-then (r.read_section fr.version from sheets) _ (local-section fr.version from sheets) (λ n s. local-map (r.read_listed fr s.1) _ (local-listed fr s.1))

local-cover : (v : ℕ) (space : Layers) (pairs : ℕ) → IsLocal (r.read_cover v space pairs)
local-cover v space n =
    local-then (many n (r.read_pair v space)) _ (local-many n (r.read_pair v space) (local-pair v space)) (λ i pairs.
    local-then (r.read_critical v space pairs) _ (local-critical v space pairs) (λ i critical.
    local-then (r.read_columns v critical.1) _ (local-columns v critical.1) (λ i columns.
    local-then (r.read_sheets v columns) _ (local-sheets v columns) (λ i sheets.
    local-then (r.read_listing (r.frame v columns sheets.1) sheets.2 sheets.0) _ (local-listing (r.frame v columns sheets.1) sheets.2 sheets.0) (λ i listing.
    local-map (take_line v k.pick_end (λ _. true)) (λ j x. r.cover_at pairs critical columns sheets listing) (local-take v k.pick_end (λ _. true)))))))

local-covered : (v : ℕ) (space : Layers) (pairs : Option ℕ) → IsLocal (r.covered v space pairs)
local-covered v space None = local-return None
local-covered v space (Some n) = local-map (r.read_cover v space n) _ (local-cover v space n)

local-covers : (v : ℕ) (space : Layers) → IsLocal (r.read_covers v space)
local-covers v space = local-then (take_line v k.pick_pairs_or_end (λ _. true)) (λ n pairs. r.covered v space pairs) (local-take v k.pick_pairs_or_end (λ _. true)) (λ n pairs. local-covered v space pairs)

-- ---- all of it

pub local-body : (v : ℕ) → IsLocal (r.read_body v)
local-body v =
    local-then (r.read_modulus v) _ (local-take v k.pick_modulus _) (λ i modulus.
    local-then (r.read_space v) _ (local-space v) (λ i space.
    local-then (r.read_chains v space) _ (local-take v k.pick_chains _) (λ i chains.
    local-then (r.read_ranks v modulus chains) _ (local-ranks v modulus chains) (λ i ranks.
    local-then (r.read_classes v modulus chains) _ (local-classes v modulus chains) (λ i classes.
    local-then (r.read_products v modulus chains classes) _ (local-products v modulus chains classes) (λ i products.
    local-map (r.read_covers v space) _ (local-covers v space)))))))
