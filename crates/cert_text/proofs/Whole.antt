-- What reads as a certificate is its text, and the text of a well-formed certificate reads as it.
use Rattle.std.proofs.Common.{◌≡◌, ◌≤◌, ◌+◌, ◌++◌, ◌∷◌, [], inl, inr, ℕ, Bool, true, false, cond, ◌||◌, eqb, Option, Some, None, Ok, Err, List, map, length, refl, sym, ◌∙◌, ap, arith, subst, append_assoc, All}
use Rattle.std.specs.List.{flat_map, join_with_byte}
use Rattle.std.proofs.lemmas.Bool.{eqb-true, leb-true, le-leb}
use Rattle.std.proofs.lemmas.List.{append-nil}
use Rattle.std.proofs.lemmas.List.Concat.{flat_map-append}
use Rattle.std.proofs.lemmas.List.Elements.{All-nil, All-cons}
use Rattle.std.proofs.lemmas.List.Splits.{join_with_byte-slice_split}
use Rattle.face_poset.specs.Poset.{count}
use Rattle.order_complex.specs.Chains.{chain_count}
use Rattle.certificates.specs.declared.lines.Line.{Line}
use Rattle.certificates.specs.Plain as line
use Rattle.certificates.specs.Placed as place
use Rattle.certificates.specs.Placed.{SearchSpot}
use Rattle.certificates.specs.Forms.{Form, plain, placed, form_of, IsForm}
use Rattle.certificates.specs.Degrees.{at}
use Rattle.certificates.specs.Cert.{CoverSection, CertCover, Cert}
use Rattle.certificates.specs.Texts.{Stated, four, line_bytes, lines_text, pair_line, cover_line, component_lines, sheets_number, section_lines, ending_line, cover_fronts, sections_in, endings, back_lines, front_lines, sections_lines, lines_of, cert_text, face_lines, rank_lines, class_lines, product_line}
use Rattle.certificates.specs.WellFormed.{are_numbered, rank_fits, class_fits, product_fits, SectionsFollow, IsCoverPart, IsWellFormed}
use Rattle.certificates.proofs.CallerLemmas.{Without, split-joined, feedless}
use Rattle.cert_lines.specs.declared.fault.CertFault.TheVariants.{BadLine, Ends, BadVersion}
use Rattle.cert_lines.specs.Readers.{Left, Answer, and_then, pieces_of, form_at, formed, next_form}
use Rattle.cert_lines.specs.Readers.{start}
use Rattle.cert_text.specs.Reading.{versioned, read_version, over, nothing_left, read_body, certificate_of}
use Rattle.cert_text.proofs.Passing.{Passed, AreForms, stated_text, passed-append, between, passed-first, passed-second}
use Rattle.cert_text.proofs.Equivalents.{both_ok, then_ok, same_Ok, next-is, next-back}
use Rattle.cert_text.proofs.Tests.{all-test, test-all}
use Rattle.cert_text.proofs.HomologyReaders.{RanksFit, ClassesFit, ProductsFit}
use Rattle.cert_text.proofs.CertReaders.{head_lines, listing_lines, covers_lines, CoversFit, body_lines, BodyFits, body-read}
use Rattle.cert_text.proofs.WellSpaces.{space-well, space-fits}
use Rattle.cert_text.proofs.WellCovers.{IsVersion, cover-well, cover-fits}

-- ---- the lines of a certificate, as they are read

tail-parts : (a b : List Stated) (k s : Stated) (z : List Stated) → (a ++ k ∷ (b ++ s ∷ [])) ++ z ≡ a ++ k ∷ (b ++ s ∷ z)
tail-parts a b k s z =
    append_assoc a (k ∷ (b ++ s ∷ [])) z ∙ ap (λ (ls : List Stated). a ++ k ∷ ls) (append_assoc b (s ∷ []) z)

list-parts : (tables more : List Stated) (ending last : Stated) → (tables ++ more) ++ ending ∷ last ∷ [] ≡ (tables ++ (more ++ ending ∷ [])) ++ last ∷ []
list-parts tables more ending last =
    append_assoc tables more (ending ∷ last ∷ []) ∙ (ap (λ (ls : List Stated). tables ++ ls) (sym (append_assoc more (ending ∷ []) (last ∷ []))) ∙ sym (append_assoc tables (more ++ ending ∷ []) (last ∷ [])))

section-parts : (t : Bool) (head : Stated) (tables more : List Stated) (ending last : Stated)
    → ((cond t [] (head ∷ []) ++ tables) ++ more) ++ ending ∷ last ∷ [] ≡ (cond t [] (head ∷ []) ++ (tables ++ (more ++ ending ∷ []))) ++ last ∷ []
section-parts true head tables more ending last = list-parts tables more ending last
section-parts false head tables more ending last = ap (λ (ls : List Stated). head ∷ ls) (list-parts tables more ending last)

heads : (t : Bool) (n component : ℕ) → cond t [] ((Some n, plain (line.Covers component)) ∷ []) ≡ head_lines (cond t (Some n) None) (n, component)
heads true n component = refl
heads false n component = refl

listing-lines : (v : ℕ) (sections : List CoverSection) (spent : Option SearchSpot) → 1 ≤ length sections
    → flat_map (section_lines v) sections ++ ending_line spent ∷ (None, plain line.End) ∷ [] ≡ listing_lines v (sheets_number v sections) (sections, spent) ++ (None, plain line.End) ∷ []
listing-lines v [] spent some = absurd (omega arith)
listing-lines v (s ∷ sections) spent some =
    let more : List Stated = flat_map (section_lines v) sections in
    section-parts (eqb v 1) (Some s.number, plain (line.Covers s.component)) (map cover_line s.tables) more (ending_line spent) (None, plain line.End)
    ∙ ap (λ (hs : List Stated). (hs ++ (map cover_line s.tables ++ (more ++ ending_line spent ∷ []))) ++ (None, plain line.End) ∷ []) (heads (eqb v 1) s.number s.component)

-- each cover part has a section
abbrev HasSection : Option CertCover → Type 0
HasSection None = Unit {0}
HasSection (Some y) = 1 ≤ length y.sections

covers-lines : (v : ℕ) (co : Option CertCover) → HasSection co → cover_fronts v co ++ (sections_in v co ++ back_lines (endings co)) ≡ covers_lines v co
covers-lines v None h = refl
covers-lines v (Some y) h =
    let head : Stated = (None, plain (line.Pairs (length y.pairs))) in
    let critical : Stated = (Some y.critical_line, four line.Critical y.critical) in
    let sheets : Stated = (sheets_number v y.sections, placed (place.Sheets y.sheets y.from)) in
    ap (λ (ls : List Stated). head ∷ ls)
    (tail-parts (map pair_line y.pairs) (component_lines v y.columns) critical sheets (flat_map (section_lines v) y.sections ++ (ending_line y.spent ∷ (None, plain line.End) ∷ []))
    ∙ ap (λ (ls : List Stated). map pair_line y.pairs ++ critical ∷ (component_lines v y.columns ++ sheets ∷ ls)) (listing-lines v y.sections y.spent h))

rearranged : (f1 f2 f3 r k ps x y : List Stated) (ch : Stated) → ((f1 ++ (f2 ++ (f3 ++ ch ∷ []))) ++ ((r ++ (k ++ ps)) ++ x)) ++ y ≡ (f1 ++ (f2 ++ f3)) ++ (ch ∷ (r ++ (k ++ (ps ++ (x ++ y)))))
rearranged f1 f2 f3 r k ps x y ch =
    let s : List Stated = f1 ++ (f2 ++ (f3 ++ ch ∷ [])) in
    let h : List Stated = r ++ (k ++ ps) in
    let z : List Stated = x ++ y in
    let w : List Stated = r ++ (k ++ (ps ++ z)) in
    append_assoc s (h ++ x) y
    ∙ (ap (λ (ls : List Stated). s ++ ls) (append_assoc h x y ∙ (append_assoc r (k ++ ps) z ∙ ap (λ (ls : List Stated). r ++ ls) (append_assoc k ps z)))
    ∙ (append_assoc f1 (f2 ++ (f3 ++ ch ∷ [])) w
    ∙ (ap (λ (ls : List Stated). f1 ++ ls) (append_assoc f2 (f3 ++ ch ∷ []) w ∙ (ap (λ (ls : List Stated). f2 ++ ls) (append_assoc f3 (ch ∷ []) w) ∙ sym (append_assoc f2 f3 (ch ∷ w))))
    ∙ sym (append_assoc f1 (f2 ++ f3) (ch ∷ w)))))

abbrev version_line : Cert → Stated
version_line c = (None, plain (line.Version c.version))

whole-lines : (c : Cert) → HasSection c.cover → lines_of c ≡ version_line c ∷ body_lines c.version c
whole-lines c h =
    let v : ℕ = c.version in
    let first : List Stated = version_line c ∷ (None, plain (line.Modulus c.modulus)) ∷ (None, plain (line.Cells (count c.space 0) (count c.space 1) (count c.space 2) (count c.space 3))) ∷ [] in
    let faces : List Stated = face_lines c.space 1 ++ (face_lines c.space 2 ++ face_lines c.space 3) in
    let ranks : List Stated = flat_map (rank_lines c.ranks) (0 ∷ 1 ∷ 2 ∷ []) in
    let classes : List Stated = flat_map (class_lines c.classes) (0 ∷ 1 ∷ 2 ∷ 3 ∷ []) in
    let products : List Stated = (None, plain (line.Products (length c.products))) ∷ map product_line c.products in
    let chains : Stated = (None, four line.Chains c.chains) in
    ap (λ (ls : List Stated). first ++ ls)
    (rearranged (face_lines c.space 1) (face_lines c.space 2) (face_lines c.space 3) ranks classes products (cover_fronts v c.cover) (sections_in v c.cover ++ back_lines (endings c.cover)) chains
    ∙ ap (λ (ls : List Stated). faces ++ (chains ∷ (ranks ++ (classes ++ (products ++ ls))))) (covers-lines v c.cover h))

-- ---- texts

lines-append : (xs ys : List Stated) → lines_text (xs ++ ys) ≡ lines_text xs ++ lines_text ys
lines-append xs ys = flat_map-append (λ l. line_bytes l.1) xs ys

text-lines : (c : Cert) → cert_text c ≡ lines_text (lines_of c)
text-lines c =
    sym (lines-append (front_lines c) (sections_lines c ++ back_lines (endings c.cover)) ∙ ap (λ (t : List ℕ). lines_text (front_lines c) ++ t) (lines-append (sections_lines c) (back_lines (endings c.cover))))

-- lines with their line feeds, joined from the pieces
join-lines : (ls : List Stated) → join_with_byte 10 (map stated_text ls ++ [] ∷ []) ≡ lines_text ls
join-lines [] = refl
join-lines (s ∷ []) = sym (append-nil (line_bytes s.1))
join-lines (s ∷ z ∷ ls) =
    ap (λ (t : List ℕ). stated_text s ++ 10 ∷ t) (join-lines (z ∷ ls)) ∙ sym (append_assoc (stated_text s) (10 ∷ []) (lines_text (z ∷ ls)))

-- the pieces of such a text
pieces-without : (v : ℕ) (ls : List Stated) → AreForms v ls → All (Without 10) (map stated_text ls ++ [] ∷ [])
pieces-without v [] h = All-cons (Without 10) [] [] (All-nil (λ b. eqb b 10 ≡ false)) (All-nil (Without 10))
pieces-without v (s ∷ ls) h = All-cons (Without 10) (stated_text s) (map stated_text ls ++ [] ∷ []) (feedless v s.1 h.0) (pieces-without v ls h.1)

pieces-lines : (v : ℕ) (s : Stated) (ls : List Stated) → AreForms v (s ∷ ls) → pieces_of (lines_text (s ∷ ls)) ≡ map stated_text (s ∷ ls) ++ [] ∷ []
pieces-lines v s ls h =
    ap pieces_of (sym (join-lines (s ∷ ls))) ∙ split-joined 10 (stated_text s) (map stated_text ls ++ [] ∷ []) (pieces-without v (s ∷ ls) h)

-- ---- from what fits to well formed, and back

lists-four : (y : List (List Line)) → length y ≡ 4 → y ≡ at y 0 ∷ at y 1 ∷ at y 2 ∷ at y 3 ∷ []
lists-four [] e = absurd (omega (arith, e))
lists-four (a ∷ []) e = absurd (omega (arith, e))
lists-four (a ∷ b ∷ []) e = absurd (omega (arith, e))
lists-four (a ∷ b ∷ c ∷ []) e = absurd (omega (arith, e))
lists-four (a ∷ b ∷ c ∷ d ∷ []) e = refl
lists-four (a ∷ b ∷ c ∷ d ∷ z ∷ zs) e = absurd (omega (arith, e))

well-covers : (v : ℕ) (c : Cert) → CoversFit v c.space c.cover → (part : CertCover) → c.cover ≡ Some part → IsCoverPart v c.space part
well-covers v c h part e = cover-well v c.space part (subst (CoversFit v c.space) e h)

fit-covers : (v : ℕ) (c : Cert) (co : Option CertCover) → c.cover ≡ co → IsVersion v → ((part : CertCover) → c.cover ≡ Some part → IsCoverPart v c.space part) → CoversFit v c.space co
fit-covers v c None e w h = tt
fit-covers v c (Some y) e w h = cover-fits v c.space y w (h y e)

pub well-formed : (v : ℕ) (c : Cert) → IsVersion v → BodyFits v c → are_numbered 1 (lines_of c) ≡ true → AreForms v (lines_of c) → IsWellFormed c
well-formed v c w h numbers forms =
    let same : c.version ≡ v = h.1.1.1.1.1.1.1 in
    let space = space-well c.space h.1.0 in
    let ranks : RanksFit c.modulus c.chains c.ranks = h.1.1.1.0 in
    let classes : ClassesFit c.modulus c.chains c.classes = h.1.1.1.1.0 in
    let products : ProductsFit c.modulus c.chains c.classes c.products = h.1.1.1.1.1.0 in
    record {
      version = subst IsVersion (sym same) w;
      modulus = h.0;
      space = space.0;
      limited = space.1;
      chains = h.1.1.0.0;
      few = leb-true (chain_count c.space) 700000 h.1.1.0.1;
      four_ranks = ap length ranks.3;
      ranks = all-test (rank_fits c) (0 ∷ 1 ∷ 2 ∷ []) (ranks.0, (ranks.1, (ranks.2, tt)));
      last_rank = ap (λ (y : List (List Line)). at y 3) ranks.3;
      four_classes = ap length classes.4;
      classes = all-test (class_fits c) (0 ∷ 1 ∷ 2 ∷ 3 ∷ []) (classes.0, (classes.1, (classes.2, (classes.3, tt))));
      order = products.0;
      products = all-test (product_fits c) c.products products.1;
      cover = subst (λ (n : ℕ). (part : CertCover) → c.cover ≡ Some part → IsCoverPart n c.space part) (sym same) (well-covers v c h.1.1.1.1.1.1.0);
      numbers = numbers;
      forms = subst (λ (n : ℕ). AreForms n (lines_of c)) (sym same) forms;
    }

pub body-fits : (c : Cert) → IsWellFormed c → BodyFits c.version c
body-fits c h =
    let ranks = test-all (rank_fits c) (0 ∷ 1 ∷ 2 ∷ []) h.ranks in
    let classes = test-all (class_fits c) (0 ∷ 1 ∷ 2 ∷ 3 ∷ []) h.classes in (
      h.modulus,
      (
        space-fits c.space h.space h.limited,
        (
          (h.chains, le-leb (chain_count c.space) 700000 h.few),
          (
            (ranks.0, ranks.1.0, ranks.1.1.0, lists-four c.ranks h.four_ranks ∙ ap (λ (l : List Line). at c.ranks 0 ∷ at c.ranks 1 ∷ at c.ranks 2 ∷ l ∷ []) h.last_rank),
            (
              (classes.0, classes.1.0, classes.1.1.0, classes.1.1.1.0, lists-four c.classes h.four_classes),
              ((h.order, test-all (product_fits c) c.products h.products), (fit-covers c.version c c.cover refl h.version h.cover, refl)),
            ),
          ),
        ),
      ),
    )

has-section : (v : ℕ) (c : Cert) (co : Option CertCover) → CoversFit v c.space co → HasSection co
has-section v c None h = tt
has-section v c (Some y) h = some (y.sections) (cover-well v c.space y h).sections
  where
    some : (sections : List CoverSection) → SectionsFollow y sections → 1 ≤ length sections
    some [] f = absurd f
    some (s ∷ ss) f = omega arith

-- ---- the first line

versioned-is : (n v : ℕ) (f : Form) (l m : Left) → versioned n f l ≡ Ok (v, m) → (f ≡ plain (line.Version v)) × IsVersion v × (l ≡ m)
versioned-is n v (plain (line.Version w)) l m h = at (eqb w 1) refl (eqb w 2) refl h
  where
    done : IsVersion w → ◌≡◌ {A = Answer ℕ} (Ok (w, l)) (Ok (v, m)) → (plain (line.Version w) ≡ plain (line.Version v)) × IsVersion v × (l ≡ m)
    done k h =
        let pair : (w, l) ≡ (v, m) = same_Ok (w, l) (v, m) h in
        let same : w ≡ v = ap (λ (q : ℕ × Left). q.0) pair in
        (ap (λ (x : ℕ). plain (line.Version x)) same, subst IsVersion same k, ap (λ (q : ℕ × Left). q.1) pair)

    at : (a : Bool) → eqb w 1 ≡ a → (b : Bool) → eqb w 2 ≡ b → cond {A = Answer ℕ} (a || b) (Ok (w, l)) (Err BadVersion) ≡ Ok (v, m) → (plain (line.Version w) ≡ plain (line.Version v)) × IsVersion v × (l ≡ m)
    at true e b f h = done (inl (eqb-true w 1 e)) h
    at false e true f h = done (inr (eqb-true w 2 f)) h
    at false e false f h = cc
versioned-is n v f l m h = cc

version-test : (v : ℕ) → IsVersion v → (eqb v 1 || eqb v 2) ≡ true
version-test v (inl e) = ap (λ (w : ℕ). eqb w 1 || eqb w 2) e
version-test v (inr e) = ap (λ (w : ℕ). eqb w 1 || eqb w 2) e

-- the form of the first line is one of each version
any-version : (v w n : ℕ) → IsForm v (plain (line.Version n)) → IsForm w (plain (line.Version n))
any-version v w n h = record { form = h.form; there = refl }

-- ---- the end

ends-is : (v n : ℕ) (pieces : List (List ℕ)) → 1 ≤ length pieces → form_at v n pieces ≡ Err Ends → pieces ≡ [] ∷ []
ends-is v n [] some h = absurd (omega arith)
ends-is v n (last ∷ []) some h = at (eqb (length last) 0) refl h
  where
    none : (l : List ℕ) → length l ≡ 0 → l ≡ []
    none [] e = refl
    none (b ∷ bs) e = absurd (omega (arith, e))

    at : (t : Bool) → eqb (length last) 0 ≡ t → cond {A = Answer Form} t (Err Ends) (Err (BadLine n)) ≡ Err Ends → last ∷ [] ≡ [] ∷ []
    at true e h = ap (λ (l : List ℕ). l ∷ []) (none last (eqb-true (length last) 0 e))
    at false e h = cc
ends-is v n (text ∷ more ∷ rest) some h = at (form_of v text) h
  where
    at : (o : Option Form) → formed n (more ∷ rest) o ≡ Err Ends → text ∷ more ∷ rest ≡ [] ∷ []
    at None h = cc
    at (Some f) h = cc

over-is : (n : ℕ) (c d : Cert) (r : Answer Form) → over n c r ≡ Ok d → (r ≡ Err Ends) × (c ≡ d)
over-is n c d (Err Ends) h = (refl, same_Ok c d h)
over-is n c d (Err f) h = cc
over-is n c d (Ok a) h = cc

-- ---- the whole

pub only-texts : (bytes : List ℕ) (c : Cert) → certificate_of bytes ≡ Ok c → IsWellFormed c × (bytes ≡ cert_text c)
only-texts bytes c h =
    let l : Left = start bytes in
    let p = both_ok (read_version l) (λ v. and_then (read_body v.0 v.1) (λ d. nothing_left v.0 d.0 d.1)) c h in
    let v : ℕ = p.0.0 in
    let q = both_ok (next_form 2 l) (λ a. versioned 1 a.0 a.1) (v, p.0.1) p.1 in
    let f = versioned-is 1 v q.0.0 q.0.1 p.0.1 q.2 in
    let b = both_ok (read_body v p.0.1) (λ d. nothing_left v d.0 d.1) c p.2 in
    let e = over-is b.0.1.number b.0.0 c (next_form v b.0.1) b.2 in
    let first = next-is 2 l q.0.1 q.0.0 q.1 in
    let head : Passed 2 l ((None, plain (line.Version v)) ∷ []) p.0.1 = subst (λ (z : Form × Left). Passed 2 l ((None, z.0) ∷ []) z.1) (λ i. (f.0 i, f.2 i)) first in
    let mine : Passed v l ((None, plain (line.Version v)) ∷ []) p.0.1 = record { pieces = head.pieces; number = head.number; numbered = head.numbered; forms = (any-version 2 v v head.forms.0, tt); more = head.more } in
    let body = (body-read v).sound p.0.1 b.0.1 b.0.0 head.more b.1 in
    let fits : BodyFits v c = subst (BodyFits v) e.1 body.0 in
    let passed : Passed v p.0.1 (body_lines v c) b.0.1 = subst (λ (d : Cert). Passed v p.0.1 (body_lines v d) b.0.1) e.1 body.1 in
    let same : c.version ≡ v = fits.1.1.1.1.1.1.1 in
    let all : Passed v l ((None, plain (line.Version v)) ∷ body_lines v c) b.0.1 = passed-append v l p.0.1 b.0.1 ((None, plain (line.Version v)) ∷ []) (body_lines v c) mine passed in
    let lines : lines_of c ≡ (None, plain (line.Version v)) ∷ body_lines v c = whole-lines c (has-section v c c.cover fits.1.1.1.1.1.1.0) ∙ ap (λ (n : ℕ). (None, plain (line.Version n)) ∷ body_lines n c) same in
    let whole : Passed v l (lines_of c) b.0.1 = subst (λ (ls : List Stated). Passed v l ls b.0.1) (sym lines) all in
    let last : b.0.1.pieces ≡ [] ∷ [] = ends-is v b.0.1.number b.0.1.pieces body.1.more e.0 in (
      well-formed v c f.1 fits whole.numbered whole.forms,
      sym (join_with_byte-slice_split 10 bytes) ∙ (ap (join_with_byte 10) (whole.pieces ∙ ap (λ (ps : List (List ℕ)). map stated_text (lines_of c) ++ ps) last) ∙ (join-lines (lines_of c) ∙ sym (text-lines c))),
    )

pub texts-read : (c : Cert) → IsWellFormed c → certificate_of (cert_text c) ≡ Ok c
texts-read c h =
    let v : ℕ = c.version in
    let fits : BodyFits v c = body-fits c h in
    let lines : lines_of c ≡ version_line c ∷ body_lines v c = whole-lines c (has-section v c c.cover fits.1.1.1.1.1.1.0) in
    let forms : AreForms v (version_line c ∷ body_lines v c) = subst (AreForms v) lines h.forms in
    let l : Left = start (cert_text c) in
    let m : Left = record { number = 1 + length (version_line c ∷ body_lines v c); pieces = [] ∷ [] } in
    let all : Passed v l (version_line c ∷ body_lines v c) m = record {
      pieces = ap pieces_of (text-lines c ∙ ap lines_text lines) ∙ pieces-lines v (version_line c) (body_lines v c) forms;
      number = refl;
      numbered = ap (are_numbered 1) (sym lines) ∙ h.numbers;
      forms = forms;
      more = omega arith;
    } in
    let d = between l (version_line c ∷ []) (body_lines v c) m in
    let head = passed-first v l m (version_line c ∷ []) (body_lines v c) all in
    let mine : Passed 2 l (version_line c ∷ []) d = record { pieces = head.pieces; number = head.number; numbered = head.numbered; forms = (any-version v 2 v head.forms.0, tt); more = head.more } in
    let first : read_version l ≡ Ok (v, d) =
    then_ok (next_form 2 l) (λ a. versioned 1 a.0 a.1) (plain (line.Version v), d) (next-back 2 l d None (plain (line.Version v)) mine)
    ∙ ap (λ (t : Bool). cond {A = Answer ℕ} t (Ok (v, d)) (Err BadVersion)) (version-test v h.version) in
    then_ok (read_version l) (λ a. and_then (read_body a.0 a.1) (λ k. nothing_left a.0 k.0 k.1)) (v, d) first
    ∙ then_ok (read_body v d) (λ k. nothing_left v k.0 k.1) (c, m) ((body-read v).complete d m c fits (passed-second v l m (version_line c ∷ []) (body_lines v c) all))

pub texts-one : (c d : Cert) → IsWellFormed c → IsWellFormed d → cert_text c ≡ cert_text d → c ≡ d
texts-one c d h k e = same_Ok c d (sym (texts-read c h) ∙ (ap certificate_of e ∙ texts-read d k))
