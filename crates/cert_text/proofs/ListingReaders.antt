-- The lines of the listing are read exactly: tables, sections, and how the search ended.
use Rattle.std.proofs.Common.{◌≡◌, ◌≤◌, ◌+◌, ◌*◌, ◌++◌, ◌∷◌, [], ℕ, Bool, true, false, cond, not, ◌&&◌, eqb, leb, Option, Some, None, Result, Ok, Err, List, map, length, refl, sym, ◌∙◌, ap, arith, subst, append_assoc}
use Rattle.std.specs.List.{list_all, flat_map, concat}
use Rattle.std.proofs.lemmas.Bool.{eq-eqb, eqb-true, leb-true}
use Rattle.certificates.specs.Plain as line
use Rattle.certificates.specs.Placed as place
use Rattle.certificates.specs.Placed.{SearchSpot, SheetRows}
use Rattle.certificates.specs.Forms.{Form, plain, placed, line_text, IsForm, form_of}
use Rattle.certificates.specs.Cert.{CoverTable, CoverSection, rows_of}
use Rattle.certificates.specs.Texts.{Stated, cover_line, section_lines, ending_line}
use Rattle.certificates.specs.WellFormed.{is_between, columns_of, table_fits, are_numbered}
use Rattle.certificates.proofs.CallerLemmas.{form-is, form-back}
use Rattle.cert_lines.specs.Tables.{rows_fit}
use Rattle.cert_lines.proofs.CallerLemmas.{rows-there, rows-back}
use Rattle.cert_lines.specs.declared.fault.CertFault.{CertFault}
use Rattle.cert_lines.specs.declared.fault.CertFault.TheVariants.{BadLine, OutOfRange, Ends}
use Rattle.cert_lines.specs.Readers.{Left, Answer, and_then}
use Rattle.cert_text.specs.Picks.{Listing, a_table, a_section, an_ending, pick_listing}
use Rattle.cert_text.specs.Reading.{Frame, Listed, listing_fits, component_after, is_ending, ended, table_at, put_listing, in_listing, formed_listing, listing_from, read_listed}
use Rattle.cert_text.proofs.Passing.{Passed, and-parts, and-both, passed-append, between, passed-first, passed-second}
use Rattle.cert_text.proofs.Equivalents.{IsReader, both_ok, then_ok, same_Ok, renumbered}
use Rattle.cert_text.proofs.Picked.{listing_form, listing-picked, listing-back}
use Rattle.cert_text.proofs.Tests.{own-number, same-number}

abbrev pub listed_lines : (v : ℕ) → Listed → List Stated
listed_lines v y = map cover_line y.tables ++ (flat_map (section_lines v) y.sections ++ ending_line y.spent ∷ [])

abbrev pub TablesFit : Frame → (component : ℕ) → List CoverTable → Type 0
TablesFit fr component tables = list_all (table_fits (columns_of fr.columns component) fr.sheets) tables ≡ true

-- the sections behind an open one, and the ending; only version 2 has any
abbrev pub SectionsFrom : Frame → (component : ℕ) → List CoverSection → Option SearchSpot → Type 0
SectionsFrom fr component [] spent = listing_fits fr component (an_ending spent) ≡ true
SectionsFrom fr component (s ∷ sections) spent =
    ((eqb fr.version 1 ≡ false) × (listing_fits fr component (a_section s.component) ≡ true)) × (TablesFit fr s.component s.tables × SectionsFrom fr s.component sections spent)

abbrev pub ListedFits : Frame → (component : ℕ) → Listed → Type 0
ListedFits fr component y = TablesFit fr component y.tables × SectionsFrom fr component y.sections y.spent

-- ---- one table

abbrev fits_columns : ℕ → ℕ → CoverTable → Bool
fits_columns columns most t = is_between 1 most t.sheets && eqb t.columns columns

table-there : (columns most n m : ℕ) (rows : SheetRows) → (is_between 1 most m && rows_fit columns m rows) ≡ true
    → (table_fits columns most (table_at n columns m rows) ≡ true) × (cover_line (table_at n columns m rows) ≡ (Some n, placed (place.Cover m rows)))
table-there columns most n m rows h =
    let p = and-parts (is_between 1 most m) (rows_fit columns m rows) h in
    let r = rows-there columns m rows p.1 in (
      and-both ((is_between 1 most m && eqb columns columns) && eqb (length (concat rows)) (m * columns)) (list_all (is_between 1 m) (concat rows))
          (and-both (is_between 1 most m && eqb columns columns) (eqb (length (concat rows)) (m * columns)) (and-both (is_between 1 most m) (eqb columns columns) p.0 (eq-eqb columns columns refl)) (eq-eqb (length (concat rows)) (m * columns) r.1)) r.2,
      ap (λ (rs : SheetRows). (Some n, placed (place.Cover m rs))) r.0,
    )

table-back : (columns most n : ℕ) (t : CoverTable) → table_fits columns most t ≡ true → t.number ≡ n
    → ((is_between 1 most t.sheets && rows_fit columns t.sheets (rows_of t.sheets t.columns t.cells)) ≡ true) × (table_at n columns t.sheets (rows_of t.sheets t.columns t.cells) ≡ t)
table-back columns most n t h number =
    let p = and-parts ((is_between 1 most t.sheets && eqb t.columns columns) && eqb (length t.cells) (t.sheets * columns)) (list_all (is_between 1 t.sheets) t.cells) h in
    let q = and-parts (is_between 1 most t.sheets && eqb t.columns columns) (eqb (length t.cells) (t.sheets * columns)) p.0 in
    let r = and-parts (is_between 1 most t.sheets) (eqb t.columns columns) q.0 in
    let same : t.columns ≡ columns = eqb-true t.columns columns r.1 in
    let long : length t.cells ≡ t.sheets * columns = eqb-true (length t.cells) (t.sheets * columns) q.1 in
    let some : 1 ≤ t.sheets = leb-true 1 t.sheets (and-parts (leb 1 t.sheets) (leb t.sheets most) r.0).0 in
    let b = rows-back columns t.sheets t.cells some long p.1 in (
      and-both (is_between 1 most t.sheets) (rows_fit columns t.sheets (rows_of t.sheets t.columns t.cells)) r.0 (ap (λ (c : ℕ). rows_fit columns t.sheets (rows_of t.sheets c t.cells)) same ∙ b.0),
      λ i. record { number = sym number i; sheets = t.sheets; columns = sym same i; cells = (ap (λ (c : ℕ). concat (rows_of t.sheets c t.cells)) same ∙ b.1) i },
    )

-- ---- sections

-- the lines of a section in version 2, in front of others
section-first : (v : ℕ) (s : CoverSection) (more ending : List Stated) → eqb v 1 ≡ false
    → (section_lines v s ++ more) ++ ending ≡ (Some s.number, plain (line.Covers s.component)) ∷ (map cover_line s.tables ++ (more ++ ending))
section-first v s more ending e =
    let head : Stated = (Some s.number, plain (line.Covers s.component)) in
    ap (λ (t : Bool). ((cond t [] (head ∷ []) ++ map cover_line s.tables) ++ more) ++ ending) e
    ∙ ap (λ (ls : List Stated). head ∷ ls) (append_assoc (map cover_line s.tables) more ending)

ending-form : (spent : Option SearchSpot) → (ending_line spent).1 ≡ listing_form (an_ending spent)
ending-form None = refl
ending-form (Some s) = refl

ending-numbered : (n : ℕ) (spent : Option SearchSpot) → are_numbered n (ending_line spent ∷ []) ≡ true
ending-numbered n None = refl
ending-numbered n (Some s) = refl

-- ---- what a line of the listing says

formed-is : (fr : Frame) (component n : ℕ) (text : List ℕ) (l : Listing) → formed_listing fr component n (form_of fr.version text) ≡ Ok l
    → (f : Form) × IsForm fr.version f × (text ≡ line_text f) × (listing_form l ≡ f) × (listing_fits fr component l ≡ true)
formed-is fr component n text l h = at (form_of fr.version text) refl h
  where
    fits : (f : Form) (x : Listing) (t : Bool) → IsForm fr.version f → text ≡ line_text f → pick_listing f ≡ Some x → listing_fits fr component x ≡ t → cond {A = Result Listing CertFault} t (Ok x) (Err (OutOfRange n)) ≡ Ok l
        → (f : Form) × IsForm fr.version f × (text ≡ line_text f) × (listing_form l ≡ f) × (listing_fits fr component l ≡ true)
    fits f x true form is pick e h =
        let same : x ≡ l = same_Ok x l h in
        (f, form, is, ap listing_form (sym same) ∙ listing-picked f x pick, ap (listing_fits fr component) (sym same) ∙ e)
    fits f x false form is pick e h = cc

    picked : (f : Form) (o : Option Listing) → IsForm fr.version f → text ≡ line_text f → pick_listing f ≡ o → in_listing fr component n o ≡ Ok l
        → (f : Form) × IsForm fr.version f × (text ≡ line_text f) × (listing_form l ≡ f) × (listing_fits fr component l ≡ true)
    picked f None form is e h = cc
    picked f (Some x) form is e h = fits f x (listing_fits fr component x) form is e refl h

    at : (o : Option Form) → form_of fr.version text ≡ o → formed_listing fr component n o ≡ Ok l
        → (f : Form) × IsForm fr.version f × (text ≡ line_text f) × (listing_form l ≡ f) × (listing_fits fr component l ≡ true)
    at None e h = cc
    at (Some f) e h = let p = form-is fr.version text f e in picked f (pick_listing f) p.0 p.1 refl h

-- ---- sound

abbrev Sound : Frame → (component : ℕ) → Left → Listed → Left → Type 0
Sound fr component l y m = ListedFits fr component y × Passed fr.version l (listed_lines fr.version y) m

-- a line in front of what was read behind it
put-sound : (fr : Frame) (component : ℕ) (l c m : Left) (x : Listing) (y : Listed) → is_ending x ≡ false → listing_fits fr component x ≡ true → Passed fr.version l ((None, listing_form x) ∷ []) c → Sound fr (component_after component x) c y m
    → Sound fr component l (put_listing fr component l.number x y) m
put-sound fr component l c m (a_table k rows) y go fits p s =
    let columns : ℕ = columns_of fr.columns component in
    let t : CoverTable = table_at l.number columns k rows in
    let is = table-there columns fr.sheets l.number k rows fits in
    let first : Passed fr.version l (cover_line t ∷ []) c = renumbered fr.version l c (cover_line t) (placed (place.Cover k rows)) (ap (λ (z : Stated). z.1) is.1) (own-number l.number) p in
    ((and-both (table_fits columns fr.sheets t) (list_all (table_fits columns fr.sheets) y.tables) is.0 s.0.0, s.0.1), passed-append fr.version l c m (cover_line t ∷ []) (listed_lines fr.version y) first s.1)
put-sound fr component l c m (a_section i) y go fits p s =
    let second : eqb fr.version 1 ≡ false = other (eqb fr.version 1) p.forms.0.there in
    let section : CoverSection = record { number = l.number; component = i; tables = y.tables } in
    let head : Stated = (Some l.number, plain (line.Covers i)) in
    let first : Passed fr.version l (head ∷ []) c = renumbered fr.version l c head (plain (line.Covers i)) refl (own-number l.number) p in
    let whole : Passed fr.version l (head ∷ listed_lines fr.version y) m = passed-append fr.version l c m (head ∷ []) (listed_lines fr.version y) first s.1 in (
      (refl, ((second, fits), (s.0.0, s.0.1))),
      subst (λ ls. Passed fr.version l ls m) (sym (section-first fr.version section (flat_map (section_lines fr.version) y.sections) (ending_line y.spent ∷ []) second)) whole,
    )
  where
    other : (t : Bool) → not t ≡ true → t ≡ false
    other true h = cc
    other false h = refl
put-sound fr component l c m (an_ending spent) y go fits p s = cc

end-sound : (fr : Frame) (component : ℕ) (l m : Left) (x : Listing) → is_ending x ≡ true → listing_fits fr component x ≡ true → Passed fr.version l ((None, listing_form x) ∷ []) m → Sound fr component l (ended x) m
end-sound fr component l m (a_table k rows) go fits p = cc
end-sound fr component l m (a_section i) go fits p = cc
end-sound fr component l m (an_ending spent) go fits p =
    ((refl, fits), renumbered fr.version l m (ending_line spent) (listing_form (an_ending spent)) (ending-form spent) (ending-numbered l.number spent) p)

listing-sound : (fr : Frame) (component n : ℕ) (pieces : List (List ℕ)) (y : Listed) (m : Left) → listing_from fr component n pieces ≡ Ok (y, m) → Sound fr component (record { number = n; pieces = pieces }) y m
listing-sound fr component n [] y m h = cc
listing-sound fr component n (last ∷ []) y m h = at (eqb (length last) 0) h
  where
    at : (t : Bool) → cond {A = Answer Listed} t (Err Ends) (Err (BadLine n)) ≡ Ok (y, m) → Sound fr component (record { number = n; pieces = last ∷ [] }) y m
    at true h = cc
    at false h = cc
listing-sound fr component n (text ∷ more ∷ rest) y m h = go h (λ c z k e. listing-sound fr c (n + 1) (more ∷ rest) z k e)
  where
    here : Left
    here = record { number = n; pieces = text ∷ more ∷ rest }

    next : Left
    next = record { number = n + 1; pieces = more ∷ rest }

    behind : Listing → Answer Listed
    behind l =
        cond (is_ending l) (Ok (ended l, next)) (and_then (listing_from fr (component_after component l) (n + 1) (more ∷ rest)) (λ b. Ok (put_listing fr component n l b.0, b.1)))

    after : ((c : ℕ) (z : Listed) (k : Left) → listing_from fr c (n + 1) (more ∷ rest) ≡ Ok (z, k) → Sound fr c next z k) → (l : Listing) (t : Bool) → is_ending l ≡ t → listing_fits fr component l ≡ true → Passed fr.version here ((None, listing_form l) ∷ []) next
        → cond {A = Answer Listed} t (Ok (ended l, next)) (and_then (listing_from fr (component_after component l) (n + 1) (more ∷ rest)) (λ b. Ok (put_listing fr component n l b.0, b.1))) ≡ Ok (y, m) → Sound fr component here y m
    after ih l true e fits p h =
        subst (λ (z : Listed × Left). Sound fr component here z.0 z.1) (same_Ok (ended l, next) (y, m) h) (end-sound fr component here next l e fits p)
    after ih l false e fits p h =
        let b = both_ok (listing_from fr (component_after component l) (n + 1) (more ∷ rest)) (λ b. Ok (put_listing fr component n l b.0, b.1)) (y, m) h in
        subst (λ (z : Listed × Left). Sound fr component here z.0 z.1) (same_Ok (put_listing fr component n l b.0.0, b.0.1) (y, m) b.2)
        (put-sound fr component here next b.0.1 l b.0.0 e fits p (ih (component_after component l) b.0.0 b.0.1 b.1))

    go : listing_from fr component n (text ∷ more ∷ rest) ≡ Ok (y, m) → ((c : ℕ) (z : Listed) (k : Left) → listing_from fr c (n + 1) (more ∷ rest) ≡ Ok (z, k) → Sound fr c next z k) → Sound fr component here y m
    go h ih =
        let p = both_ok (formed_listing fr component n (form_of fr.version text)) behind (y, m) h in
        let w = formed-is fr component n text p.0 p.1 in
        let first : Passed fr.version here ((None, listing_form p.0) ∷ []) next = record {
          pieces = ap (λ (xs : List ℕ). xs ∷ more ∷ rest) (w.2 ∙ ap line_text (sym w.3));
          number = refl;
          numbered = refl;
          forms = (subst (IsForm fr.version) (sym w.3) w.1, tt);
          more = omega arith;
        } in
        after ih p.0 (is_ending p.0) refl w.4 first p.2

-- ---- complete

abbrev onward : (fr : Frame) (component n : ℕ) (x : Listing) (c : Left) → Answer Listed
onward fr component n x c =
    cond (is_ending x) (Ok (ended x, c)) (and_then (listing_from fr (component_after component x) c.number c.pieces) (λ b. Ok (put_listing fr component n x b.0, b.1)))

listing-step : (fr : Frame) (component n : ℕ) (f : Form) (x : Listing) (pieces : List (List ℕ)) → IsForm fr.version f → pick_listing f ≡ Some x → listing_fits fr component x ≡ true → 1 ≤ length pieces
    → listing_from fr component n (line_text f ∷ pieces) ≡ onward fr component n x (record { number = n + 1; pieces = pieces })
listing-step fr component n f x [] form pick fits more = absurd (omega arith)
listing-step fr component n f x (piece ∷ rest) form pick fits more =
    then_ok (formed_listing fr component n (form_of fr.version (line_text f))) (λ l. onward fr component n l (record { number = n + 1; pieces = piece ∷ rest })) x
    (ap (formed_listing fr component n) (form-back fr.version (line_text f) f form refl)
    ∙ (ap (in_listing fr component n) pick ∙ ap (λ (t : Bool). cond {A = Result Listing CertFault} t (Ok x) (Err (OutOfRange n))) fits))

listing-at : (fr : Frame) (component : ℕ) (l c : Left) (s : Stated) (x : Listing) → Passed fr.version l (s ∷ []) c → pick_listing s.1 ≡ Some x → listing_fits fr component x ≡ true → read_listed fr component l ≡ onward fr component l.number x c
listing-at fr component l c s x p pick fits =
    ap (listing_from fr component l.number) p.pieces
    ∙ (listing-step fr component l.number s.1 x c.pieces p.forms.0 pick fits p.more ∙ ap (λ (n : ℕ). onward fr component l.number x (record { number = n; pieces = c.pieces })) (sym p.number))

abbrev Complete : Frame → (component : ℕ) → Listed → List Stated → Type 0
Complete fr component y ls = (l m : Left) → Passed fr.version l ls m → read_listed fr component l ≡ Ok (y, m)

abbrev listed : List CoverTable → List CoverSection → Option SearchSpot → Listed
listed tables sections spent = record { tables = tables; sections = sections; spent = spent }

tables-complete : (fr : Frame) (component : ℕ) (sections : List CoverSection) (spent : Option SearchSpot) (ls : List Stated) → Complete fr component (listed [] sections spent) ls → (tables : List CoverTable) → TablesFit fr component tables
    → Complete fr component (listed tables sections spent) (map cover_line tables ++ ls)
tables-complete fr component sections spent ls rest [] fits l m p = rest l m p
tables-complete fr component sections spent ls rest (t ∷ tables) fits l m p =
    let columns : ℕ = columns_of fr.columns component in
    let later : List Stated = map cover_line tables ++ ls in
    let c = between l (cover_line t ∷ []) later m in
    let first = passed-first fr.version l m (cover_line t ∷ []) later p in
    let f = and-parts (table_fits columns fr.sheets t) (list_all (table_fits columns fr.sheets) tables) fits in
    let is = table-back columns fr.sheets l.number t f.0 (same-number t.number l.number first.numbered) in
    let x : Listing = a_table t.sheets (rows_of t.sheets t.columns t.cells) in
    listing-at fr component l c (cover_line t) x first refl is.0
    ∙ (then_ok (read_listed fr component c) (λ b. Ok (put_listing fr component l.number x b.0, b.1)) (listed tables sections spent, m)
    (tables-complete fr component sections spent ls rest tables f.1 c m (passed-second fr.version l m (cover_line t ∷ []) later p))
    ∙ ap (λ (z : CoverTable). Ok (listed (z ∷ tables) sections spent, m)) is.1)

sections-complete : (fr : Frame) (sections : List CoverSection) (component : ℕ) (spent : Option SearchSpot) → SectionsFrom fr component sections spent
    → Complete fr component (listed [] sections spent) (flat_map (section_lines fr.version) sections ++ ending_line spent ∷ [])
sections-complete fr [] component spent fits l m p =
    listing-at fr component l m (ending_line spent) (an_ending spent) p (ap pick_listing (ending-form spent) ∙ listing-back (an_ending spent)) fits
sections-complete fr (s ∷ sections) component spent fits l m p =
    let more : List Stated = flat_map (section_lines fr.version) sections in
    let head : Stated = (Some s.number, plain (line.Covers s.component)) in
    let later : List Stated = map cover_line s.tables ++ (more ++ ending_line spent ∷ []) in
    let whole : Passed fr.version l (head ∷ later) m = subst (λ ls. Passed fr.version l ls m) (section-first fr.version s more (ending_line spent ∷ []) fits.0.0) p in
    let c = between l (head ∷ []) later m in
    let first = passed-first fr.version l m (head ∷ []) later whole in
    let x : Listing = a_section s.component in
    listing-at fr component l c head x first refl fits.0.1
    ∙ (then_ok (read_listed fr s.component c) (λ b. Ok (put_listing fr component l.number x b.0, b.1)) (listed s.tables sections spent, m)
    (tables-complete fr s.component sections spent (more ++ ending_line spent ∷ []) (sections-complete fr sections s.component spent fits.1.1) s.tables fits.1.0 c m (passed-second fr.version l m (head ∷ []) later whole))
    ∙ ap (λ (n : ℕ). Ok (listed [] (record { number = n; component = s.component; tables = s.tables } ∷ sections) spent, m)) (sym (same-number s.number l.number first.numbered)))

pub listed-read : (fr : Frame) (component : ℕ) → IsReader fr.version (read_listed fr component) (listed_lines fr.version) (ListedFits fr component)
listed-read fr component = record {
  sound = λ l m y more h. listing-sound fr component l.number l.pieces y m h;
  complete = λ l m y has p.
      tables-complete fr component y.sections y.spent (flat_map (section_lines fr.version) y.sections ++ ending_line y.spent ∷ []) (sections-complete fr y.sections component y.spent has.1) y.tables has.0 l m p;
}
