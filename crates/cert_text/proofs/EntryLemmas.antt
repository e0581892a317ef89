-- The lines of a listing one by one: what each adds, and the sections that grow by it.
use Rattle.std.proofs.Common.{◌≡◌, ◌<◌, ◌+◌, ◌++◌, ◌∷◌, [], ℕ, Bool, true, false, cond, ◌&&◌, eqb, Option, Some, None, Result, Ok, Err, List, map, length, refl, sym, ◌∙◌, ap, arith, subst, append_assoc}
use Rattle.std.specs.Prelude.{slice_index_or}
use Rattle.std.specs.List.{concat}
use Rattle.std.specs.Option.{option_map}
use Rattle.std.proofs.lemmas.Bool.{false≢true}
use Rattle.std.proofs.lemmas.Option.{same_Some}
use Rattle.sheet_tables.specs.Tables.{Rows}
use Rattle.std.proofs.lemmas.List.{append-nil, map-append}
use Rattle.certificates.specs.declared.kind.Kind.{Kind}
use Rattle.certificates.specs.declared.kind.Kind.TheVariants as kind
use Rattle.certificates.specs.Plain as line
use Rattle.certificates.specs.Plain.{Plain, parts}
use Rattle.certificates.specs.Placed as place
use Rattle.certificates.specs.Placed.{SearchSpot, SheetRows}
use Rattle.certificates.specs.Forms.{Form, plain, placed, form_of}
use Rattle.certificates.specs.declared.lines.CoverLine.{CoverLine}
use Rattle.certificates.specs.declared.certificate.Section.{Section}
use Rattle.certificates.specs.Cert.{CoverTable, CoverSection, table_of, section_of}
use Rattle.cert_text.specs.declared.listing.Entry.{Entry}
use Rattle.cert_lines.specs.declared.kind.LineKind.{LineKind}
use Rattle.cert_lines.specs.declared.kind.LineKind.TheVariants as line_kind
use Rattle.cert_lines.specs.Kinds.{kind_of}
use Rattle.cert_lines.specs.Listed.{numbers_in}
use Rattle.cert_lines.specs.Tables.{spot_in, table_in, rows_fit, if_rows, content, content_of}
use Rattle.certificates.specs.WellFormed.{is_between, columns_of}
use Rattle.cert_lines.proofs.CallerLemmas.{numbers-told, cover-said, spent-said}
use Rattle.cert_lines.specs.declared.fault.CertFault.{CertFault}
use Rattle.cert_lines.specs.declared.fault.CertFault.TheVariants.{BadLine, OutOfRange, Ends}
use Rattle.cert_lines.specs.Readers.{Left, Answer, and_then, formed, next_form}
use Rattle.cert_text.specs.Picks as k
use Rattle.cert_text.specs.Picks.{a_table, a_section, an_ending, pick_listing}
use Rattle.cert_text.specs.Reading.{Frame, Listed, listing_fits, component_after, is_ending, ended, put_listing, in_listing, formed_listing, listing_from, read_listed}
use Rattle.cert_text.specs.Steps.{Step, one_table, one_section, one_ending, added, said, said_table, said_spent, picked, listing_step, grown, step_of}
use Rattle.cert_lines.specs.Taken.{Reads, Says, IsTaken}
use Rattle.cert_text.proofs.Equivalents.{both_ok, then_ok, same_Ok, next-is}
use Rattle.cert_lines.proofs.CallerLemmas.{plain-of}

-- ---- the listing by what a line adds

abbrev empty : Option SearchSpot → Listed
empty spent = record { tables = []; sections = []; spent = spent }

abbrev put : Step → Listed → Listed
put (one_table t) b = record b { tables = t ∷ b.tables }
put (one_section n i) b = record { tables = []; sections = record { number = n; component = i; tables = b.tables } ∷ b.sections; spent = b.spent }
put (one_ending spent) b = b

abbrev behind : Frame → (component : ℕ) → Step → Left → Answer Listed
behind fr component (one_table t) m = and_then (read_listed fr component m) (λ b. Ok (put (one_table t) b.0, b.1))
behind fr component (one_section n i) m = and_then (read_listed fr i m) (λ b. Ok (put (one_section n i) b.0, b.1))
behind fr component (one_ending spent) m = Ok (empty spent, m)

abbrev stepped : Frame → (component : ℕ) → Answer Step → Answer Listed
stepped fr component r = and_then r (λ s. behind fr component s.0 s.1)

abbrev onward : Frame → (component n : ℕ) → Left → k.Listing → Answer Listed
onward fr component n m l =
    cond (is_ending l) (Ok (ended l, m)) (and_then (listing_from fr (component_after component l) m.number m.pieces) (λ b. Ok (put_listing fr component n l b.0, b.1)))

by_kind : (fr : Frame) (component n : ℕ) (m : Left) (l : k.Listing) → onward fr component n m l ≡ behind fr component (added fr component n l) m
by_kind fr component n m (a_table s rows) = refl
by_kind fr component n m (a_section i) = refl
by_kind fr component n m (an_ending spent) = refl

abbrev Taken : Type 0
Taken = Form × Left

abbrev step_at : Frame → (component n : ℕ) → Taken → Answer Step
step_at fr component n a = and_then (picked fr component n (pick_listing a.0)) (λ s. Ok (s, a.1))

by_fit : (fr : Frame) (component n : ℕ) (m : Left) (l : k.Listing) (t : Bool)
    → and_then (cond {A = Result k.Listing CertFault} t (Ok l) (Err (OutOfRange n))) (onward fr component n m)
    ≡ stepped fr component (and_then (cond {A = Result Step CertFault} t (Ok (added fr component n l)) (Err (OutOfRange n))) (λ s. Ok (s, m)))
by_fit fr component n m l true = by_kind fr component n m l
by_fit fr component n m l false = refl

by_pick : (fr : Frame) (component n : ℕ) (m : Left) (o : Option k.Listing)
    → and_then (in_listing fr component n o) (onward fr component n m) ≡ stepped fr component (and_then (picked fr component n o) (λ s. Ok (s, m)))
by_pick fr component n m None = refl
by_pick fr component n m (Some l) = by_fit fr component n m l (listing_fits fr component l)

by_form : (fr : Frame) (component n : ℕ) (rest : List (List ℕ)) (o : Option Form)
    → and_then (formed_listing fr component n o) (onward fr component n (record { number = n + 1; pieces = rest })) ≡ stepped fr component (and_then (formed n rest o) (step_at fr component n))
by_form fr component n rest None = refl
by_form fr component n rest (Some f) = by_pick fr component n (record { number = n + 1; pieces = rest }) (pick_listing f)

by_pieces : (fr : Frame) (component n : ℕ) (pieces : List (List ℕ)) → listing_from fr component n pieces ≡ stepped fr component (listing_step fr component (record { number = n; pieces = pieces }))
by_pieces fr component n [] = refl
by_pieces fr component n (last ∷ []) = at (eqb (length last) 0)
  where
    at : (t : Bool) → cond {A = Answer Listed} t (Err Ends) (Err (BadLine n)) ≡ stepped fr component (and_then (cond {A = Answer Form} t (Err Ends) (Err (BadLine n))) (step_at fr component n))
    at true = refl
    at false = refl
by_pieces fr component n (text ∷ more ∷ rest) = by_form fr component n (more ∷ rest) (form_of fr.version text)

by-steps : (fr : Frame) (component : ℕ) (l : Left) → read_listed fr component l ≡ stepped fr component (listing_step fr component l)
by-steps fr component l = by_pieces fr component l.number l.pieces

-- ---- sections that grow

stepped-as : (fr : Frame) (done : List CoverSection) (section : CoverSection) (l : Left) (r : Answer Step) → listing_step fr section.component l ≡ r → grown done section (read_listed fr section.component l) ≡ grown done section (stepped fr section.component r)
stepped-as fr done section l r e = ap (grown done section) (by-steps fr section.component l ∙ ap (stepped fr section.component) e)

pub grown-broken : (fr : Frame) (done : List CoverSection) (section : CoverSection) (l : Left) (f : CertFault) → listing_step fr section.component l ≡ Err f → grown done section (read_listed fr section.component l) ≡ Err f
grown-broken fr done section l f e = stepped-as fr done section l (Err f) e

pub grown-table : (fr : Frame) (done : List CoverSection) (section : CoverSection) (t : CoverTable) (l m : Left) → listing_step fr section.component l ≡ Ok (one_table t, m)
    → grown done section (read_listed fr section.component l) ≡ grown done (record section { tables = section.tables ++ t ∷ [] }) (read_listed fr section.component m)
grown-table fr done section t l m e = stepped-as fr done section l (Ok (one_table t, m)) e ∙ at (read_listed fr section.component m)
  where
    at : (r : Answer Listed) → grown done section (and_then r (λ b. Ok (put (one_table t) b.0, b.1))) ≡ grown done (record section { tables = section.tables ++ t ∷ [] }) r
    at (Err f) = refl
    at (Ok b) = ap (λ (ts : List CoverTable). Ok ((done ++ record section { tables = ts } ∷ b.0.sections, b.0.spent), b.1)) (sym (append_assoc section.tables (t ∷ []) b.0.tables))

closed : (section : CoverSection) → record section { tables = section.tables ++ [] } ≡ section
closed section = ap (λ (ts : List CoverTable). record section { tables = ts }) (append-nil section.tables)

pub grown-section : (fr : Frame) (done : List CoverSection) (section : CoverSection) (n i : ℕ) (l m : Left) → listing_step fr section.component l ≡ Ok (one_section n i, m)
    → grown done section (read_listed fr section.component l) ≡ grown (done ++ section ∷ []) (record { number = n; component = i; tables = [] }) (read_listed fr i m)
grown-section fr done section n i l m e = stepped-as fr done section l (Ok (one_section n i, m)) e ∙ at (read_listed fr i m)
  where
    at : (r : Answer Listed) → grown done section (and_then r (λ b. Ok (put (one_section n i) b.0, b.1))) ≡ grown (done ++ section ∷ []) (record { number = n; component = i; tables = [] }) r
    at (Err f) = refl
    at (Ok b) =
        let next : CoverSection = record { number = n; component = i; tables = b.0.tables } in
        ap (λ (s : CoverSection). Ok ((done ++ s ∷ next ∷ b.0.sections, b.0.spent), b.1)) (closed section)
        ∙ ap (λ (ss : List CoverSection). Ok ((ss, b.0.spent), b.1)) (sym (append_assoc done (section ∷ []) (next ∷ b.0.sections)))

pub grown-ending : (fr : Frame) (done : List CoverSection) (section : CoverSection) (spent : Option SearchSpot) (l m : Left) → listing_step fr section.component l ≡ Ok (one_ending spent, m)
    → grown done section (read_listed fr section.component l) ≡ Ok ((done ++ section ∷ [], spent), m)
grown-ending fr done section spent l m e =
    stepped-as fr done section l (Ok (one_ending spent, m)) e ∙ ap (λ (s : CoverSection). Ok ((done ++ s ∷ [], spent), m)) (closed section)

-- ---- a line is passed

shorter_form : (v : ℕ) (l m : Left) (f : Form) → next_form v l ≡ Ok (f, m) → length m.pieces < length l.pieces
shorter_form v l m f h = let p = next-is v l m f h in omega (arith, ap length p.pieces)

pub step-shorter : (fr : Frame) (component : ℕ) (l m : Left) (s : Step) → listing_step fr component l ≡ Ok (s, m) → length m.pieces < length l.pieces
step-shorter fr component l m s h =
    let p = both_ok (next_form fr.version l) (step_at fr component l.number) (s, m) h in
    let q = both_ok (picked fr component l.number (pick_listing p.0.0)) (λ s. Ok (s, p.0.1)) (s, m) p.2 in
    let same : p.0.1 ≡ m = ap (λ (z : Step × Left). z.1) (same_Ok (q.0, p.0.1) (s, m) q.2) in
    subst (λ (n : Left). length n.pieces < length l.pieces) same (shorter_form fr.version l p.0.1 p.0.0 p.1)

-- ---- the next line

pub step-of : {B : Type 0} (see : B → Step) (fr : Frame) (component : ℕ) (l m : Left) (w : LineKind) (text : List ℕ) (wanted : Result Step CertFault) (r : Result B CertFault) (t : IsTaken fr.version l w m text)
    → picked fr component l.number (pick_listing t.form) ≡ wanted → Says see wanted r → Reads see (listing_step fr component l) m r
step-of {B = B} see fr component l m w text wanted r t e h = at r h
  where
    step : listing_step fr component l ≡ and_then wanted (λ s. Ok (s, m))
    step = then_ok (next_form fr.version l) (step_at fr component l.number) (t.form, m) t.next ∙ ap (λ z. and_then z (λ s. Ok (s, m))) e

    at : (r : Result B CertFault) → Says see wanted r → Reads see (listing_step fr component l) m r
    at (Ok b) h = step ∙ ap (λ z. and_then z (λ s. Ok (s, m))) h
    at (Err f) h = λ n. step ∙ ap (λ z. and_then z (λ s. Ok (s, m))) (h n)

-- what lines of these kinds say
cover-form : (f : Form) → kind_of f ≡ line_kind.Cover → (m : ℕ) × (rows : SheetRows) × (f ≡ placed (place.Cover m rows))
cover-form (plain g) e = cc
cover-form (placed (place.Sheets n s)) e = cc
cover-form (placed (place.Cover m rows)) e = (m, rows, refl)
cover-form (placed (place.Spent s)) e = cc

spent-form : (f : Form) → kind_of f ≡ line_kind.Spent → (s : SearchSpot) × (f ≡ placed (place.Spent s))
spent-form (plain g) e = cc
spent-form (placed (place.Sheets n s)) e = cc
spent-form (placed (place.Cover m rows)) e = cc
spent-form (placed (place.Spent s)) e = (s, refl)

abbrev is_covers : Kind → Bool
is_covers kind.Covers = true
is_covers k = false

abbrev is_done : Kind → Bool
is_done kind.Done = true
is_done k = false

covers-plain : (g : Plain) → (parts g).kind ≡ kind.Covers → (i : ℕ) × (g ≡ line.Covers i)
covers-plain (line.Covers i) e = (i, refl)
covers-plain g e = absurd (false≢true (ap is_covers e))

done-plain : (g : Plain) → (parts g).kind ≡ kind.Done → g ≡ line.Done
done-plain line.Done e = refl
done-plain g e = absurd (false≢true (ap is_done e))

pub cover-step : (fr : Frame) (component : ℕ) (l m : Left) (text : List ℕ) (t : IsTaken fr.version l line_kind.Cover m text)
    → picked fr component l.number (pick_listing t.form) ≡ said_table fr component l.number (slice_index_or (numbers_in text) 0 0) (table_in text 1)
cover-step fr component l m text t =
    let f = cover-form t.form t.kind in
    let s = cover-said fr.version text f.0 f.1 (t.of ∙ ap (λ (g : Form). Some g) f.2) in
    ap (λ (g : Form). picked fr component l.number (pick_listing g)) f.2
    ∙ (λ i. said_table fr component l.number (sym s.0 i) (sym s.1 i))

pub spent-step : (fr : Frame) (component : ℕ) (l m : Left) (text : List ℕ) (t : IsTaken fr.version l line_kind.Spent m text)
    → picked fr component l.number (pick_listing t.form) ≡ said_spent fr component l.number (spot_in text 0)
spent-step fr component l m text t =
    let f = spent-form t.form t.kind in
    ap (λ (g : Form). picked fr component l.number (pick_listing g)) f.1
    ∙ ap (said_spent fr component l.number) (sym (spent-said fr.version text f.0 (t.of ∙ ap (λ (g : Form). Some g) f.1)))

pub section-step : (fr : Frame) (component : ℕ) (l m : Left) (text : List ℕ) (t : IsTaken fr.version l (line_kind.Plain kind.Covers) m text)
    → picked fr component l.number (pick_listing t.form) ≡ said fr component l.number (a_section (slice_index_or (numbers_in text) 0 0))
section-step fr component l m text t =
    let q = plain-of kind.Covers t.form t.kind in
    let i = covers-plain q.0 q.2 in
    let numbers : numbers_in text ≡ i.0 ∷ [] = numbers-told fr.version text q.0 (t.of ∙ ap (λ (g : Form). Some g) q.1) ∙ ap (λ (g : Plain). (parts g).rest.numbers) i.1 in
    ap (λ (g : Form). picked fr component l.number (pick_listing g)) (q.1 ∙ ap plain i.1)
    ∙ ap (λ (ns : List ℕ). said fr component l.number (a_section (slice_index_or ns 0 0))) (sym numbers)

pub done-step : (fr : Frame) (component : ℕ) (l m : Left) (text : List ℕ) (t : IsTaken fr.version l (line_kind.Plain kind.Done) m text)
    → picked fr component l.number (pick_listing t.form) ≡ said fr component l.number (an_ending None)
done-step fr component l m text t =
    let q = plain-of kind.Done t.form t.kind in
    ap (λ (g : Form). picked fr component l.number (pick_listing g)) (q.1 ∙ ap plain (done-plain q.0 q.2))

-- ---- a table that was read from the line

pub table-most : (fr : Frame) (component n m : ℕ) (o : Option SheetRows) → is_between 1 fr.sheets m ≡ false → said_table fr component n m o ≡ Err (OutOfRange n)
table-most fr component n m None e = refl
table-most fr component n m (Some rows) e =
    ap (λ (t : Bool). cond {A = Result Step CertFault} (t && rows_fit (columns_of fr.columns component) m rows) (Ok (added fr component n (a_table m rows))) (Err (OutOfRange n))) e

nothing_and : (t : Bool) → (t && false) ≡ false
nothing_and true = refl
nothing_and false = refl

pub table-none : (fr : Frame) (component n m c : ℕ) (o : Option SheetRows) → c ≡ columns_of fr.columns component → None ≡ option_map (content_of m c) (if_rows c m o) → said_table fr component n m o ≡ Err (OutOfRange n)
table-none fr component n m c None e h = refl
table-none fr component n m c (Some rows) e h = at (rows_fit c m rows) refl h
  where
    at : (t : Bool) → rows_fit c m rows ≡ t → None ≡ option_map (content_of m c) (cond t (Some (concat rows)) None) → said_table fr component n m (Some rows) ≡ Err (OutOfRange n)
    at true g h = cc
    at false g h =
        ap (λ (t : Bool). cond {A = Result Step CertFault} (is_between 1 fr.sheets m && t) (Ok (added fr component n (a_table m rows))) (Err (OutOfRange n))) (ap (λ (k : ℕ). rows_fit k m rows) (sym e) ∙ g)
        ∙ ap (λ (t : Bool). cond {A = Result Step CertFault} t (Ok (added fr component n (a_table m rows))) (Err (OutOfRange n))) (nothing_and (is_between 1 fr.sheets m))

pub table-some : (fr : Frame) (component n m c : ℕ) (o : Option SheetRows) (table : Rows) → c ≡ columns_of fr.columns component → is_between 1 fr.sheets m ≡ true → Some (content table) ≡ option_map (content_of m c) (if_rows c m o)
    → said_table fr component n m o ≡ Ok (one_table (record { number = n; sheets = table.sheets; columns = table.columns; cells = table.cells }))
table-some fr component n m c None table e b h = cc
table-some fr component n m c (Some rows) table e b h = at (rows_fit c m rows) refl h
  where
    at : (t : Bool) → rows_fit c m rows ≡ t → Some (content table) ≡ option_map (content_of m c) (cond t (Some (concat rows)) None)
        → said_table fr component n m (Some rows) ≡ Ok (one_table (record { number = n; sheets = table.sheets; columns = table.columns; cells = table.cells }))
    at true g h =
        let same : content table ≡ (m, c, concat rows) = same_Some (content table) (m, c, concat rows) h in
        ap (λ (t : Bool). cond {A = Result Step CertFault} (t && rows_fit (columns_of fr.columns component) m rows) (Ok (added fr component n (a_table m rows))) (Err (OutOfRange n))) b
        ∙ (ap (λ (t : Bool). cond {A = Result Step CertFault} t (Ok (added fr component n (a_table m rows))) (Err (OutOfRange n))) (ap (λ (k : ℕ). rows_fit k m rows) (sym e) ∙ g)
        ∙ (λ i. Ok (one_table (record { number = n; sheets = (sym same i).0; columns = (sym e ∙ ap (λ (x : ℕ × ℕ × List ℕ). x.1) (sym same)) i; cells = (sym same i).2 }))))
    at false g h = cc

-- ---- what the code holds

pub entry-step : (fr : Frame) (component : ℕ) (l m : Left) (x y : Entry) → listing_step fr component l ≡ Ok (step_of x, m) → x ≡ y → listing_step fr component l ≡ Ok (step_of y, m)
entry-step fr component l m x y h e = h ∙ ap (λ (z : Entry). Ok (step_of z, m)) e

pub tables-more : (covers new : List CoverLine) (line : CoverLine) → new ≡ covers ++ line ∷ [] → map table_of covers ++ table_of line ∷ [] ≡ map table_of new
tables-more covers new line e = sym (ap (map table_of) e ∙ map-append table_of covers (line ∷ []))

pub sections-more : (sections new : List Section) (section : Section) → new ≡ sections ++ section ∷ [] → map section_of sections ++ section_of section ∷ [] ≡ map section_of new
sections-more sections new section e = sym (ap (map section_of) e ∙ map-append section_of sections (section ∷ []))
