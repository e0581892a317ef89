-- The cover part and the whole certificate are read exactly.
use Rattle.std.proofs.Common.{◌≡◌, ◌++◌, ◌∷◌, [], ℕ, Bool, true, false, cond, eqb, Option, Some, None, is_some, option_map, Ok, List, map, length, refl, sym, ◌∙◌, ap, arith, subst}
use Rattle.std.specs.Prelude.{⊤}
use Rattle.std.specs.List.{flat_map}
use Rattle.std.proofs.lemmas.Bool.{eq-eqb, eqb-true}
use Rattle.small_field.specs.Modulus.{is_modulus}
use Rattle.face_poset.specs.Poset.{Layers, count}
use Rattle.certificates.specs.declared.lines.Line.{Line}
use Rattle.certificates.specs.declared.lines.ProductLine.{ProductLine}
use Rattle.certificates.specs.Plain as line
use Rattle.certificates.specs.Placed as place
use Rattle.certificates.specs.Placed.{SearchSpot}
use Rattle.certificates.specs.Forms.{plain, placed}
use Rattle.certificates.specs.Cert.{CoverSection, CertCover, Cert}
use Rattle.certificates.specs.Texts.{Stated, four, pair_line, component_lines, sheets_number, first_number, face_lines, rank_lines, class_lines, product_line}
use Rattle.certificates.specs.WellFormed.{pair_fits, component_of}
use Rattle.cert_lines.specs.Readers.{Left, and_then, take_line, many}
use Rattle.cert_text.specs.Picks.{pick_covers, pick_end, pick_pairs_or_end}
use Rattle.cert_text.specs.Reading.{read_pair, read_critical, read_columns, read_sheets, Frame, frame, Listed, first_section, read_section, read_listed, read_listing, cover_at, read_cover, covered, read_covers, read_modulus, read_space, read_chains, read_ranks, read_classes, read_products, read_body}
use Rattle.cert_text.proofs.Passing.{Passed, nothing-passed}
use Rattle.cert_text.proofs.Equivalents.{IsReader, same_Ok, one-line, taken-line, recast, bind, mapped, HasMany, many-lines}
use Rattle.cert_text.proofs.Picked.{covers-picked, end-picked, pairs_or_end, pairs_or_end-picked}
use Rattle.cert_text.proofs.Tests.{own-number, same-number}
use Rattle.cert_text.proofs.HomologyReaders.{modulus-read, RanksFit, ranks-read, ClassesFit, classes-read, ProductsFit, products-read}
use Rattle.cert_text.proofs.SpaceReaders.{SpaceFits, space-read, ChainsFit, chains-read}
use Rattle.cert_text.proofs.CoverReaders.{pair-read, CriticalFits, critical-read, ColumnsFitAt, columns-read, SheetsFit, sheets-read}
use Rattle.cert_text.proofs.ListingReaders.{listed_lines, ListedFits, listed-read}

-- ---- the first section

abbrev pub head_lines : Option ℕ → ℕ × ℕ → List Stated
head_lines (Some n) x = []
head_lines None x = (Some x.0, plain (line.Covers x.1)) ∷ []

abbrev pub HeadIs : SearchSpot → Option ℕ → ℕ × ℕ → Type 0
HeadIs from (Some n) x = x ≡ (n, 1)
HeadIs from None x = x.1 ≡ component_of from

head-read : (v : ℕ) (from : SearchSpot) (sheets : Option ℕ) → IsReader v (read_section v from sheets) (head_lines sheets) (HeadIs from sheets)
head-read v from (Some n) = record {
  sound = λ l m x more h. subst (λ (z : (ℕ × ℕ) × Left). (z.0 ≡ (n, 1)) × Passed v l [] z.1) (same_Ok ((n, 1), l) (x, m) h) (refl, nothing-passed v l more);
  complete = λ l m x has p.
      let number : m.number ≡ l.number = omega (arith, p.number) in
      λ j. Ok (sym has j, record { number = sym number j; pieces = p.pieces j });
}
head-read v from None = one-line v pick_covers (λ i. eqb i (component_of from)) (λ n i. (n, i)) (λ x. (Some x.0, plain (line.Covers x.1))) (λ x. x.1 ≡ component_of from) (record {
  says = λ f x n e fits. covers-picked f x e;
  number = λ x n. own-number n;
  has = λ f x n e there fits. eqb-true x (component_of from) fits;
  back = λ y n has t. (y.1, refl, eq-eqb y.1 (component_of from) has, λ i. (sym (same-number y.0 n t) i, y.1));
})

-- ---- the listing, in sections

abbrev first_component : List CoverSection → ℕ
first_component [] = 0
first_component (s ∷ sections) = s.component

-- what is listed behind the beginning of the first section
abbrev pub listed_in : List CoverSection × Option SearchSpot → Listed
listed_in ([], spent) = record { tables = []; sections = []; spent = spent }
listed_in (s ∷ sections, spent) = record { tables = s.tables; sections = sections; spent = spent }

abbrev pub first_head : List CoverSection × Option SearchSpot → ℕ × ℕ
first_head y = (first_number y.0, first_component y.0)

abbrev pub ListingFits : Frame → SearchSpot → Option ℕ → List CoverSection × Option SearchSpot → Type 0
ListingFits fr from sheets y =
    HeadIs from sheets (first_head y) × (ListedFits fr (first_component y.0) (listed_in y) × (y ≡ (first_section (first_number y.0) (first_component y.0) (listed_in y), (listed_in y).spent)))

listing-read : (v : ℕ) (columns : List ℕ) (most : ℕ) (from : SearchSpot) (sheets : Option ℕ)
    → IsReader v (read_listing (frame v columns most) from sheets) (λ y. head_lines sheets (first_head y) ++ listed_lines v (listed_in y)) (ListingFits (frame v columns most) from sheets)
listing-read v columns most from sheets =
    let fr : Frame = frame v columns most in
    bind v (read_section v from sheets) (head_lines sheets) (HeadIs from sheets)
    (λ s l. and_then (read_listed fr s.1 l) (λ b. Ok ((first_section s.0 s.1 b.0, b.0.spent), b.1)))
    (λ s y. listed_lines v (listed_in y))
    (λ s y. ListedFits fr s.1 (listed_in y) × (y ≡ (first_section s.0 s.1 (listed_in y), (listed_in y).spent)))
    first_head
    (head-read v from sheets)
    (λ s. mapped v (read_listed fr s.1) (listed_lines v) (ListedFits fr s.1) (λ b. (first_section s.0 s.1 b, b.spent)) listed_in (λ b. refl) (listed-read fr s.1))
    (λ s y h q. ap first_head q.1)

-- ---- the cover part

end-read : (v : ℕ) → IsReader v (take_line v pick_end (λ _. true)) (λ x. (None, plain line.End) ∷ []) (λ x. ⊤)
end-read v = taken-line v pick_end (λ _. true) (λ x. (None, plain line.End)) (λ x. ⊤) (record {
  says = λ f x n e fits. end-picked f x e;
  number = λ x n. refl;
  has = λ f x n e there fits. tt;
  back = λ y n has t. (y, refl, refl, refl);
})

abbrev pub sheets_in : ℕ → CertCover → Option ℕ × ℕ × SearchSpot
sheets_in v y = (sheets_number v y.sections, y.sheets, y.from)

abbrev pub CoverFits : (v : ℕ) → Layers → (pairs : ℕ) → CertCover → Type 0
CoverFits v space n y =
    HasMany n (λ l. pair_fits space l ≡ true) y.pairs
    × (CriticalFits space y.pairs (y.critical_line, y.critical)
    × (ColumnsFitAt (eqb v 1) y.critical y.columns
    × (SheetsFit v y.columns (sheets_in v y)
    × ListingFits (frame v y.columns y.sheets) y.from (sheets_number v y.sections) (y.sections, y.spent))))

abbrev pub listing_lines : (v : ℕ) → Option ℕ → List CoverSection × Option SearchSpot → List Stated
listing_lines v sheets y = head_lines sheets (first_head y) ++ listed_lines v (listed_in y)

abbrev pub part_lines : (v : ℕ) → CertCover → List Stated
part_lines v y =
    map pair_line y.pairs ++ ((Some y.critical_line, four line.Critical y.critical) ∷ (component_lines v y.columns
    ++ ((sheets_number v y.sections, placed (place.Sheets y.sheets y.from)) ∷ (listing_lines v (sheets_number v y.sections) (y.sections, y.spent) ++ (None, plain line.End) ∷ []))))

-- the number of the line of the sheets is that of the first section in version 1
sheets-same : (v : ℕ) (from : SearchSpot) (o : Option ℕ) (sections : List CoverSection) (spent : Option SearchSpot) → is_some o ≡ eqb v 1 → HeadIs from o (first_head (sections, spent)) → sheets_number v sections ≡ o
sheets-same v from o sections spent e h = at (eqb v 1) o e h
  where
    at : (t : Bool) (o : Option ℕ) → is_some o ≡ t → HeadIs from o (first_head (sections, spent)) → cond t (Some (first_number sections)) None ≡ o
    at true (Some n) e h = ap (λ (x : ℕ × ℕ). Some x.0) h
    at true None e h = cc
    at false (Some n) e h = cc
    at false None e h = refl

cover-read : (v : ℕ) (space : Layers) (n : ℕ) → IsReader v (read_cover v space n) (part_lines v) (CoverFits v space n)
cover-read v space n =
    recast v (read_cover v space n) _ (part_lines v) _ (CoverFits v space n)
    (bind v (many n (read_pair v space)) (map pair_line) (HasMany n (λ l. pair_fits space l ≡ true))
    (λ pairs l. and_then (read_critical v space pairs l) (λ critical. and_then (read_columns v critical.0.1 critical.1) (λ columns. and_then (read_sheets v columns.0 columns.1) (λ sheets.
    and_then (read_listing (frame v columns.0 sheets.0.1) sheets.0.2 sheets.0.0 sheets.1) (λ listing. and_then (take_line v pick_end (λ _. true) listing.1) (λ over. Ok (cover_at pairs critical.0 columns.0 sheets.0 listing.0, over.1)))))))
    (λ pairs y. (Some y.critical_line, four line.Critical y.critical) ∷ (component_lines v y.columns ++ ((sheets_number v y.sections, placed (place.Sheets y.sheets y.from)) ∷ (listing_lines v (sheets_number v y.sections) (y.sections, y.spent) ++ (None, plain line.End) ∷ []))))
    (λ pairs y. CriticalFits space pairs (y.critical_line, y.critical) × (ColumnsFitAt (eqb v 1) y.critical y.columns × (SheetsFit v y.columns (sheets_in v y)
    × (ListingFits (frame v y.columns y.sheets) y.from (sheets_number v y.sections) (y.sections, y.spent) × (⊤ × (y ≡ cover_at pairs (y.critical_line, y.critical) y.columns (sheets_in v y) (y.sections, y.spent)))))))
    (λ y. y.pairs)
    (many-lines v n (read_pair v space) pair_line (λ l. pair_fits space l ≡ true) (pair-read v space))
    (λ pairs. bind v (read_critical v space pairs) (λ x. (Some x.0, four line.Critical x.1) ∷ []) (CriticalFits space pairs)
    (λ critical l. and_then (read_columns v critical.1 l) (λ columns. and_then (read_sheets v columns.0 columns.1) (λ sheets.
    and_then (read_listing (frame v columns.0 sheets.0.1) sheets.0.2 sheets.0.0 sheets.1) (λ listing. and_then (take_line v pick_end (λ _. true) listing.1) (λ over. Ok (cover_at pairs critical columns.0 sheets.0 listing.0, over.1))))))
    (λ critical y. component_lines v y.columns ++ ((sheets_number v y.sections, placed (place.Sheets y.sheets y.from)) ∷ (listing_lines v (sheets_number v y.sections) (y.sections, y.spent) ++ (None, plain line.End) ∷ [])))
    (λ critical y. ColumnsFitAt (eqb v 1) critical.1 y.columns × (SheetsFit v y.columns (sheets_in v y)
    × (ListingFits (frame v y.columns y.sheets) y.from (sheets_number v y.sections) (y.sections, y.spent) × (⊤ × (y ≡ cover_at pairs critical y.columns (sheets_in v y) (y.sections, y.spent))))))
    (λ y. (y.critical_line, y.critical))
    (critical-read v space pairs)
    (λ critical. bind v (read_columns v critical.1) (component_lines v) (ColumnsFitAt (eqb v 1) critical.1)
    (λ columns l. and_then (read_sheets v columns l) (λ sheets. and_then (read_listing (frame v columns sheets.0.1) sheets.0.2 sheets.0.0 sheets.1) (λ listing.
    and_then (take_line v pick_end (λ _. true) listing.1) (λ over. Ok (cover_at pairs critical columns sheets.0 listing.0, over.1)))))
    (λ columns y. (sheets_number v y.sections, placed (place.Sheets y.sheets y.from)) ∷ (listing_lines v (sheets_number v y.sections) (y.sections, y.spent) ++ (None, plain line.End) ∷ []))
    (λ columns y. SheetsFit v columns (sheets_in v y) × (ListingFits (frame v columns y.sheets) y.from (sheets_number v y.sections) (y.sections, y.spent) × (⊤ × (y ≡ cover_at pairs critical columns (sheets_in v y) (y.sections, y.spent)))))
    (λ y. y.columns)
    (columns-read v critical.1)
    (λ columns. bind v (read_sheets v columns) (λ x. (x.0, placed (place.Sheets x.1 x.2)) ∷ []) (SheetsFit v columns)
    (λ sheets l. and_then (read_listing (frame v columns sheets.1) sheets.2 sheets.0 l) (λ listing. and_then (take_line v pick_end (λ _. true) listing.1) (λ over. Ok (cover_at pairs critical columns sheets listing.0, over.1))))
    (λ sheets y. listing_lines v sheets.0 (y.sections, y.spent) ++ (None, plain line.End) ∷ [])
    (λ sheets y. ListingFits (frame v columns sheets.1) sheets.2 sheets.0 (y.sections, y.spent) × (⊤ × (y ≡ cover_at pairs critical columns sheets (y.sections, y.spent))))
    (sheets_in v)
    (sheets-read v columns)
    (λ sheets. bind v (read_listing (frame v columns sheets.1) sheets.2 sheets.0) (listing_lines v sheets.0) (ListingFits (frame v columns sheets.1) sheets.2 sheets.0)
    (λ listing l. and_then (take_line v pick_end (λ _. true) l) (λ over. Ok (cover_at pairs critical columns sheets listing, over.1)))
    (λ listing y. (None, plain line.End) ∷ [])
    (λ listing y. ⊤ × (y ≡ cover_at pairs critical columns sheets listing))
    (λ y. (y.sections, y.spent))
    (listing-read v columns sheets.1 sheets.2 sheets.0)
    (λ listing. mapped v (take_line v pick_end (λ _. true)) (λ x. (None, plain line.End) ∷ []) (λ x. ⊤) (λ x. cover_at pairs critical columns sheets listing) (λ y. tt) (λ x. refl) (end-read v))
    (λ listing y h q. ap (λ (z : CertCover). (z.sections, z.spent)) q.1))
    (λ sheets y h q. λ i. (sheets-same v sheets.2 sheets.0 y.sections y.spent h.1 q.0.0 i, (q.1.1 i).sheets, (q.1.1 i).from)))
    (λ columns y h q. ap (λ (z : CertCover). z.columns) q.1.1.1))
    (λ critical y h q. ap (λ (z : CertCover). (z.critical_line, z.critical)) q.1.1.1.1))
    (λ pairs y h q. ap (λ (z : CertCover). z.pairs) q.1.1.1.1.1))
    (λ y h. ((h.0, (h.1.0, (h.1.1.0, (h.1.1.1.0, h.1.1.1.1.0)))), refl))
    (λ y h. ((h.0, (h.1.0, (h.1.1.0, (h.1.1.1.0, (h.1.1.1.1, (tt, refl)))))), refl))

-- ---- the cover part, if there is one

-- a cover part in place of none
abbrev no_part : CertCover
no_part = record { pairs = []; critical_line = 0; critical = []; columns = []; sheets = 0; from = None; sections = []; spent = None }

abbrev part_in : Option CertCover → CertCover
part_in None = no_part
part_in (Some y) = y

abbrev pair_count : Option CertCover → Option ℕ
pair_count co = option_map (λ (y : CertCover). length y.pairs) co

abbrev covered_lines : (v : ℕ) → Option ℕ → Option CertCover → List Stated
covered_lines v None co = []
covered_lines v (Some n) co = part_lines v (part_in co)

abbrev CoveredFits : (v : ℕ) → Layers → Option ℕ → Option CertCover → Type 0
CoveredFits v space None co = co ≡ None
CoveredFits v space (Some n) co = CoverFits v space n (part_in co) × (co ≡ Some (part_in co))

covered-read : (v : ℕ) (space : Layers) (x : Option ℕ) → IsReader v (covered v space x) (covered_lines v x) (CoveredFits v space x)
covered-read v space None = record {
  sound = λ l m co more h. subst (λ (z : Option CertCover × Left). (z.0 ≡ None) × Passed v l [] z.1) (same_Ok (None, l) (co, m) h) (refl, nothing-passed v l more);
  complete = λ l m co has p.
      let number : m.number ≡ l.number = omega (arith, p.number) in
      λ j. Ok (sym has j, record { number = sym number j; pieces = p.pieces j });
}
covered-read v space (Some n) = mapped v (read_cover v space n) (part_lines v) (CoverFits v space n) (λ y. Some y) part_in (λ y. refl) (cover-read v space n)

abbrev pub covers_lines : (v : ℕ) → Option CertCover → List Stated
covers_lines v None = (None, plain line.End) ∷ []
covers_lines v (Some y) = (None, plain (line.Pairs (length y.pairs))) ∷ part_lines v y

abbrev pub CoversFit : (v : ℕ) → Layers → Option CertCover → Type 0
CoversFit v space None = ⊤
CoversFit v space (Some y) = CoverFits v space (length y.pairs) y

count-same : (v : ℕ) (space : Layers) (x : Option ℕ) (co : Option CertCover) → CoveredFits v space x co → pair_count co ≡ x
count-same v space None co h = ap pair_count h
count-same v space (Some n) co h = ap pair_count h.1 ∙ ap (λ (k : ℕ). Some k) h.0.0.0

covers-there : (v : ℕ) (space : Layers) (co : Option CertCover) → ⊤ × CoveredFits v space (pair_count co) co
    → CoversFit v space co × ((None, pairs_or_end (pair_count co)) ∷ covered_lines v (pair_count co) co ≡ covers_lines v co)
covers-there v space None h = (tt, refl)
covers-there v space (Some y) h = (h.1.0, refl)

covers-back : (v : ℕ) (space : Layers) (co : Option CertCover) → CoversFit v space co
    → (⊤ × CoveredFits v space (pair_count co) co) × (covers_lines v co ≡ (None, pairs_or_end (pair_count co)) ∷ covered_lines v (pair_count co) co)
covers-back v space None h = ((tt, refl), refl)
covers-back v space (Some y) h = ((tt, (h, refl)), refl)

pick_back : (x : Option ℕ) → pick_pairs_or_end (pairs_or_end x) ≡ Some x
pick_back None = refl
pick_back (Some n) = refl

pub covers-read : (v : ℕ) (space : Layers) → IsReader v (read_covers v space) (covers_lines v) (CoversFit v space)
covers-read v space =
    recast v (read_covers v space) _ (covers_lines v) _ (CoversFit v space)
    (bind v (take_line v pick_pairs_or_end (λ _. true)) (λ x. (None, pairs_or_end x) ∷ []) (λ x. ⊤) (covered v space) (covered_lines v) (CoveredFits v space) pair_count
    (taken-line v pick_pairs_or_end (λ _. true) (λ x. (None, pairs_or_end x)) (λ x. ⊤) (record {
      says = λ f x n e fits. pairs_or_end-picked f x e;
      number = λ x n. refl;
      has = λ f x n e there fits. tt;
      back = λ y n has t. (y, pick_back y, refl, refl);
    }))
    (covered-read v space)
    (λ x co a b. count-same v space x co b))
    (covers-there v space)
    (covers-back v space)

-- ---- the whole behind the first line

abbrev cert_at : (v modulus : ℕ) → Layers → List ℕ → (ranks classes : List (List Line)) → List ProductLine → Option CertCover → Cert
cert_at v modulus space chains ranks classes products cover = record {
  version = v;
  modulus = modulus;
  space = space;
  chains = chains;
  ranks = ranks;
  classes = classes;
  products = products;
  cover = cover;
}

abbrev cells_lines : Layers → List Stated
cells_lines y = (None, plain (line.Cells (count y 0) (count y 1) (count y 2) (count y 3))) ∷ (face_lines y 1 ++ (face_lines y 2 ++ face_lines y 3))

abbrev pub body_lines : (v : ℕ) → Cert → List Stated
body_lines v c =
    (None, plain (line.Modulus c.modulus)) ∷ (cells_lines c.space ++ ((None, four line.Chains c.chains) ∷ (flat_map (rank_lines c.ranks) (0 ∷ 1 ∷ 2 ∷ [])
    ++ (flat_map (class_lines c.classes) (0 ∷ 1 ∷ 2 ∷ 3 ∷ []) ++ (((None, plain (line.Products (length c.products))) ∷ map product_line c.products) ++ covers_lines v c.cover)))))

abbrev pub BodyFits : (v : ℕ) → Cert → Type 0
BodyFits v c =
    (is_modulus c.modulus ≡ true) × (SpaceFits c.space × (ChainsFit c.space c.chains × (RanksFit c.modulus c.chains c.ranks
    × (ClassesFit c.modulus c.chains c.classes × (ProductsFit c.modulus c.chains c.classes c.products × (CoversFit v c.space c.cover × (c.version ≡ v)))))))

pub body-read : (v : ℕ) → IsReader v (read_body v) (body_lines v) (BodyFits v)
body-read v =
    recast v (read_body v) _ (body_lines v) _ (BodyFits v)
    (bind v (read_modulus v) (λ m. (None, plain (line.Modulus m)) ∷ []) (λ m. is_modulus m ≡ true)
    (λ m l. and_then (read_space v l) (λ space. and_then (read_chains v space.0 space.1) (λ chains. and_then (read_ranks v m chains.0 chains.1) (λ ranks. and_then (read_classes v m chains.0 ranks.1) (λ classes.
    and_then (read_products v m chains.0 classes.0 classes.1) (λ products. and_then (read_covers v space.0 products.1) (λ cover. Ok (cert_at v m space.0 chains.0 ranks.0 classes.0 products.0 cover.0, cover.1))))))))
    (λ m c. cells_lines c.space ++ ((None, four line.Chains c.chains) ∷ (flat_map (rank_lines c.ranks) (0 ∷ 1 ∷ 2 ∷ []) ++ (flat_map (class_lines c.classes) (0 ∷ 1 ∷ 2 ∷ 3 ∷ []) ++ (((None, plain (line.Products (length c.products))) ∷ map product_line c.products) ++ covers_lines v c.cover)))))
    (λ m c. SpaceFits c.space × (ChainsFit c.space c.chains × (RanksFit m c.chains c.ranks × (ClassesFit m c.chains c.classes × (ProductsFit m c.chains c.classes c.products
    × (CoversFit v c.space c.cover × (c ≡ cert_at v m c.space c.chains c.ranks c.classes c.products c.cover)))))))
    (λ c. c.modulus)
    (modulus-read v)
    (λ m. bind v (read_space v) cells_lines SpaceFits
    (λ space l. and_then (read_chains v space l) (λ chains. and_then (read_ranks v m chains.0 chains.1) (λ ranks. and_then (read_classes v m chains.0 ranks.1) (λ classes.
    and_then (read_products v m chains.0 classes.0 classes.1) (λ products. and_then (read_covers v space products.1) (λ cover. Ok (cert_at v m space chains.0 ranks.0 classes.0 products.0 cover.0, cover.1)))))))
    (λ space c. (None, four line.Chains c.chains) ∷ (flat_map (rank_lines c.ranks) (0 ∷ 1 ∷ 2 ∷ []) ++ (flat_map (class_lines c.classes) (0 ∷ 1 ∷ 2 ∷ 3 ∷ []) ++ (((None, plain (line.Products (length c.products))) ∷ map product_line c.products) ++ covers_lines v c.cover))))
    (λ space c. ChainsFit space c.chains × (RanksFit m c.chains c.ranks × (ClassesFit m c.chains c.classes × (ProductsFit m c.chains c.classes c.products
    × (CoversFit v space c.cover × (c ≡ cert_at v m space c.chains c.ranks c.classes c.products c.cover))))))
    (λ c. c.space)
    (space-read v)
    (λ space. bind v (read_chains v space) (λ ns. (None, four line.Chains ns) ∷ []) (ChainsFit space)
    (λ chains l. and_then (read_ranks v m chains l) (λ ranks. and_then (read_classes v m chains ranks.1) (λ classes. and_then (read_products v m chains classes.0 classes.1) (λ products.
    and_then (read_covers v space products.1) (λ cover. Ok (cert_at v m space chains ranks.0 classes.0 products.0 cover.0, cover.1))))))
    (λ chains c. flat_map (rank_lines c.ranks) (0 ∷ 1 ∷ 2 ∷ []) ++ (flat_map (class_lines c.classes) (0 ∷ 1 ∷ 2 ∷ 3 ∷ []) ++ (((None, plain (line.Products (length c.products))) ∷ map product_line c.products) ++ covers_lines v c.cover)))
    (λ chains c. RanksFit m chains c.ranks × (ClassesFit m chains c.classes × (ProductsFit m chains c.classes c.products × (CoversFit v space c.cover × (c ≡ cert_at v m space chains c.ranks c.classes c.products c.cover)))))
    (λ c. c.chains)
    (chains-read v space)
    (λ chains. bind v (read_ranks v m chains) (λ y. flat_map (rank_lines y) (0 ∷ 1 ∷ 2 ∷ [])) (RanksFit m chains)
    (λ ranks l. and_then (read_classes v m chains l) (λ classes. and_then (read_products v m chains classes.0 classes.1) (λ products. and_then (read_covers v space products.1) (λ cover. Ok (cert_at v m space chains ranks classes.0 products.0 cover.0, cover.1)))))
    (λ ranks c. flat_map (class_lines c.classes) (0 ∷ 1 ∷ 2 ∷ 3 ∷ []) ++ (((None, plain (line.Products (length c.products))) ∷ map product_line c.products) ++ covers_lines v c.cover))
    (λ ranks c. ClassesFit m chains c.classes × (ProductsFit m chains c.classes c.products × (CoversFit v space c.cover × (c ≡ cert_at v m space chains ranks c.classes c.products c.cover))))
    (λ c. c.ranks)
    (ranks-read v m chains)
    (λ ranks. bind v (read_classes v m chains) (λ y. flat_map (class_lines y) (0 ∷ 1 ∷ 2 ∷ 3 ∷ [])) (ClassesFit m chains)
    (λ classes l. and_then (read_products v m chains classes l) (λ products. and_then (read_covers v space products.1) (λ cover. Ok (cert_at v m space chains ranks classes products.0 cover.0, cover.1))))
    (λ classes c. ((None, plain (line.Products (length c.products))) ∷ map product_line c.products) ++ covers_lines v c.cover)
    (λ classes c. ProductsFit m chains classes c.products × (CoversFit v space c.cover × (c ≡ cert_at v m space chains ranks classes c.products c.cover)))
    (λ c. c.classes)
    (classes-read v m chains)
    (λ classes. bind v (read_products v m chains classes) (λ ys. (None, plain (line.Products (length ys))) ∷ map product_line ys) (ProductsFit m chains classes)
    (λ products l. and_then (read_covers v space l) (λ cover. Ok (cert_at v m space chains ranks classes products cover.0, cover.1)))
    (λ products c. covers_lines v c.cover)
    (λ products c. CoversFit v space c.cover × (c ≡ cert_at v m space chains ranks classes products c.cover))
    (λ c. c.products)
    (products-read v m chains classes)
    (λ products. mapped v (read_covers v space) (covers_lines v) (CoversFit v space) (cert_at v m space chains ranks classes products) (λ c. c.cover) (λ co. refl) (covers-read v space))
    (λ products c h q. ap (λ (z : Cert). z.products) q.1))
    (λ classes c h q. ap (λ (z : Cert). z.classes) q.1.1))
    (λ ranks c h q. ap (λ (z : Cert). z.ranks) q.1.1.1))
    (λ chains c h q. ap (λ (z : Cert). z.chains) q.1.1.1.1))
    (λ space c h q. ap (λ (z : Cert). z.space) q.1.1.1.1.1))
    (λ m c h q. ap (λ (z : Cert). z.modulus) q.1.1.1.1.1.1))
    (λ c h. ((h.0, (h.1.0, (h.1.1.0, (h.1.1.1.0, (h.1.1.1.1.0, (h.1.1.1.1.1.0, (h.1.1.1.1.1.1.0, ap (λ (z : Cert). z.version) h.1.1.1.1.1.1.1))))))), refl))
    (λ c h. ((h.0, (h.1.0, (h.1.1.0, (h.1.1.1.0, (h.1.1.1.1.0, (h.1.1.1.1.1.0, (h.1.1.1.1.1.1.0, ap (λ (k : ℕ). cert_at k c.modulus c.space c.chains c.ranks c.classes c.products c.cover) h.1.1.1.1.1.1.1))))))), refl))
