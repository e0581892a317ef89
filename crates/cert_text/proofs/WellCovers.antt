-- A cover part whose lines fit is one in its ranges, and the other way round.
use Rattle.std.proofs.Common.{◌≡◌, ◌≢◌, ◌≤◌, ◌+◌, ◌∷◌, [], ◌⊎◌, inl, inr, ℕ, suc, Bool, true, false, cond, eqb, leb, Option, Some, None, is_some, List, length, refl, sym, ◌∙◌, ap, arith}
use Rattle.std.specs.Prelude.{slice_index_or}
use Rattle.std.specs.List.{list_all}
use Rattle.std.proofs.lemmas.Bool.{eq-eqb, eqb-true, leb-true, le-leb, false≢true}
use Rattle.face_poset.specs.Poset.{Layers}
use Rattle.certificates.specs.Placed.{SearchSpot}
use Rattle.certificates.specs.Cert.{CoverSection, CertCover}
use Rattle.certificates.specs.Texts.{sheets_number, first_number}
use Rattle.certificates.specs.WellFormed.{pair_fits, is_between, spot_fits, spent_fits, position_fits, columns_of, section_fits, component_of, last_component, NextSections, SectionsFollow, ColumnsFit, IsCoverPart}
use Rattle.cert_text.specs.Picks.{an_ending}
use Rattle.cert_text.specs.Reading.{Frame, frame, Listed, listing_fits, first_section}
use Rattle.cert_text.proofs.Passing.{and-parts, and-both}
use Rattle.cert_text.proofs.Tests.{all-test, test-all}
use Rattle.cert_text.proofs.CoverReaders.{ColumnsFitAt}
use Rattle.cert_text.proofs.ListingReaders.{SectionsFrom, ListedFits}
use Rattle.cert_text.proofs.CertReaders.{HeadIs, listed_in, first_head, ListingFits, CoverFits}

abbrev pub IsVersion : ℕ → Type 0
IsVersion v = (v ≡ 1) ⊎ (v ≡ 2)

not_first : (v : ℕ) → eqb v 1 ≡ false → v ≢ 1
not_first v e h = false≢true (sym e ∙ eq-eqb v 1 h)

second : (v : ℕ) → IsVersion v → eqb v 1 ≡ false → v ≡ 2
second v (inl h) e = absurd (not_first v e h)
second v (inr h) e = h

-- ---- columns

columns-there : (v : ℕ) (c : CertCover) (t : Bool) → eqb v 1 ≡ t → ColumnsFitAt t c.critical c.columns → ColumnsFit v c
columns-there v c true e h = record {
  one = λ k. h;
  components = λ k. absurd (omega (arith, k, eqb-true v 1 e));
  whole = λ k. absurd (omega (arith, k, eqb-true v 1 e));
}
columns-there v c false e h = record {
  one = λ k. absurd (not_first v e k);
  components = λ k. (h.0.0, leb-true 1 (length c.columns) h.0.1);
  whole = λ k. h.1.1 (leb-true 1 (length c.columns) h.0.1);
}

columns-back : (v : ℕ) (c : CertCover) (t : Bool) → IsVersion v → eqb v 1 ≡ t → ColumnsFit v c → ColumnsFitAt t c.critical c.columns
columns-back v c true w e h = h.one (eqb-true v 1 e)
columns-back v c false w e h =
    let two : v ≡ 2 = second v w e in
    (((h.components two).0, le-leb 1 (length c.columns) (h.components two).1), (refl, λ k. h.whole two))

-- ---- sections

next-there : (v : ℕ) (c : CertCover) (component : ℕ) (sections : List CoverSection) → SectionsFrom (frame v c.columns c.sheets) component sections c.spent
    → NextSections c component sections × (list_all (section_fits c) sections ≡ true) × (spent_fits c.columns c.sheets c.spent ≡ true)
next-there v c component [] h = at c.spent h
  where
    at : (spent : Option SearchSpot) → listing_fits (frame v c.columns c.sheets) component (an_ending spent) ≡ true → (component ≡ last_component c spent) × (true ≡ true) × (spent_fits c.columns c.sheets spent ≡ true)
    at None h = (eqb-true component (length c.columns) h, refl, refl)
    at (Some s) h = let p = and-parts (spot_fits c.columns c.sheets s) (eqb component (component_of s)) h in (eqb-true component (component_of s) p.1, refl, p.0)
next-there v c component (s ∷ sections) h =
    let p = and-parts (eqb s.component (component + 1)) (leb s.component (length c.columns)) h.0.1 in
    let rest = next-there v c s.component sections h.1.1 in (
      (eqb-true s.component (component + 1) p.0, leb-true s.component (length c.columns) p.1, rest.0),
      and-both (section_fits c s) (list_all (section_fits c) sections) h.1.0 rest.1,
      rest.2,
    )

next-back : (v : ℕ) (c : CertCover) (component : ℕ) (sections : List CoverSection) → (1 ≤ length sections → eqb v 1 ≡ false) → NextSections c component sections → list_all (section_fits c) sections ≡ true
    → spent_fits c.columns c.sheets c.spent ≡ true → SectionsFrom (frame v c.columns c.sheets) component sections c.spent
next-back v c component [] apart h tables spent = at c.spent h spent
  where
    at : (spent : Option SearchSpot) → component ≡ last_component c spent → spent_fits c.columns c.sheets spent ≡ true → listing_fits (frame v c.columns c.sheets) component (an_ending spent) ≡ true
    at None e h = eq-eqb component (length c.columns) e
    at (Some s) e h = and-both (spot_fits c.columns c.sheets s) (eqb component (component_of s)) h (eq-eqb component (component_of s) e)
next-back v c component (s ∷ sections) apart h tables spent =
    let p = and-parts (section_fits c s) (list_all (section_fits c) sections) tables in
    let two : eqb v 1 ≡ false = apart (omega arith) in (
      (two, and-both (eqb s.component (component + 1)) (leb s.component (length c.columns)) (eq-eqb s.component (component + 1) h.0) (le-leb s.component (length c.columns) h.1)),
      (p.0, next-back v c s.component sections (λ k. two) h.2 p.1 spent),
    )

-- with one component a spot is in the first
one-component : (columns : List ℕ) (n most : ℕ) (spot : SearchSpot) → columns ≡ n ∷ [] → spot_fits columns most spot ≡ true → component_of spot ≡ 1
one-component columns n most None e h = refl
one-component columns n most (Some s) e h =
    let p = and-parts (is_between 1 (length columns) s.0) (position_fits (columns_of columns s.0) most s.1 s.2) h in
    let q = and-parts (leb 1 s.0) (leb s.0 (length columns)) p.0 in
    omega (arith, leb-true 1 s.0 q.0, leb-true s.0 (length columns) q.1, ap length e)

-- the component of the first section
head-there : (v : ℕ) (c : CertCover) (s : CoverSection) (sections : List CoverSection) (t : Bool) → eqb v 1 ≡ t → ColumnsFit v c → spot_fits c.columns c.sheets c.from ≡ true
    → HeadIs c.from (cond t (Some s.number) None) (s.number, s.component) → s.component ≡ component_of c.from
head-there v c s sections true e columns from h =
    ap (λ (x : ℕ × ℕ). x.1) h ∙ sym (one-component c.columns (slice_index_or c.critical 1 0) c.sheets c.from (columns.one (eqb-true v 1 e)) from)
head-there v c s sections false e columns from h = h

head-back : (v : ℕ) (c : CertCover) (s : CoverSection) (t : Bool) → eqb v 1 ≡ t → ColumnsFit v c → spot_fits c.columns c.sheets c.from ≡ true → s.component ≡ component_of c.from
    → HeadIs c.from (cond t (Some s.number) None) (s.number, s.component)
head-back v c s true e columns from h =
    λ i. (s.number, (h ∙ one-component c.columns (slice_index_or c.critical 1 0) c.sheets c.from (columns.one (eqb-true v 1 e)) from) i)
head-back v c s false e columns from h = h

one-section : (v : ℕ) (fr : Frame) (component : ℕ) (sections : List CoverSection) (spent : Option SearchSpot) → fr.version ≡ v → v ≡ 1 → SectionsFrom fr component sections spent → length sections ≡ 0
one-section v fr component [] spent same e h = refl
one-section v fr component (s ∷ sections) spent same e h = absurd (not_first fr.version h.0.0 (same ∙ e))

sections-there : (v : ℕ) (c : CertCover) (sections : List CoverSection) → ColumnsFit v c → spot_fits c.columns c.sheets c.from ≡ true
    → HeadIs c.from (sheets_number v sections) (first_head (sections, c.spent)) → ListedFits (frame v c.columns c.sheets) (first_head (sections, c.spent)).1 (listed_in (sections, c.spent)) → 1 ≤ length sections
    → SectionsFollow c sections × (v ≡ 1 → length sections ≡ 1) × (list_all (section_fits c) sections ≡ true) × (spent_fits c.columns c.sheets c.spent ≡ true)
sections-there v c [] columns from head listed some = absurd (omega arith)
sections-there v c (s ∷ sections) columns from head listed some =
    let next = next-there v c s.component sections listed.1 in (
      (head-there v c s sections (eqb v 1) refl columns from head, next.0),
      (λ e. ap suc (one-section v (frame v c.columns c.sheets) s.component sections c.spent refl e listed.1)),
      and-both (section_fits c s) (list_all (section_fits c) sections) listed.0 next.1,
      next.2,
    )

some-section : (sections : List CoverSection) (spent : Option SearchSpot) (n component : ℕ) (l : Listed) → ◌≡◌ {A = List CoverSection × Option SearchSpot} (sections, spent) (first_section n component l, l.spent) → 1 ≤ length sections
some-section [] spent n component l e = absurd (omega (arith, ap (λ (z : List CoverSection × Option SearchSpot). length z.0) e))
some-section (s ∷ sections) spent n component l e = omega arith

sections-back : (v : ℕ) (c : CertCover) (sections : List CoverSection) → IsVersion v → ColumnsFit v c → spot_fits c.columns c.sheets c.from ≡ true → SectionsFollow c sections → (v ≡ 1 → length sections ≡ 1)
    → list_all (section_fits c) sections ≡ true → spent_fits c.columns c.sheets c.spent ≡ true → ListingFits (frame v c.columns c.sheets) c.from (sheets_number v sections) (sections, c.spent)
sections-back v c [] w columns from follow one tables spent = absurd follow
sections-back v c (s ∷ sections) w columns from follow one tables spent =
    let p = and-parts (section_fits c s) (list_all (section_fits c) sections) tables in
    (head-back v c s (eqb v 1) refl columns from follow.0, ((p.0, next-back v c s.component sections (λ k. apart (eqb v 1) refl k) follow.1 p.1 spent), refl))
  where
    apart : (t : Bool) → eqb v 1 ≡ t → 1 ≤ length sections → eqb v 1 ≡ false
    apart true e k = absurd (omega (arith, k, one (eqb-true v 1 e)))
    apart false e k = e

-- ---- the cover part

pub cover-well : (v : ℕ) (space : Layers) (c : CertCover) → CoverFits v space (length c.pairs) c → IsCoverPart v space c
cover-well v space c h =
    let columns = columns-there v c (eqb v 1) refl h.1.1.0 in
    let s = and-parts (is_between 1 8 c.sheets) (spot_fits c.columns c.sheets c.from) h.1.1.1.0.0 in
    let listing = h.1.1.1.1 in
    let k = sections-there v c c.sections columns s.1 listing.0 listing.1.0 (some-section c.sections c.spent _ _ (listed_in (c.sections, c.spent)) listing.1.1) in
    record {
      pairs = all-test (pair_fits space) c.pairs h.0.1;
      four = h.1.0.0;
      critical = h.1.0.1;
      columns = columns;
      sheets = s.0;
      from = s.1;
      sections = k.0;
      one_section = k.1;
      tables = k.2;
      spent = k.3;
    }

numbered : (t : Bool) (n : ℕ) → is_some (cond t (Some n) None) ≡ t
numbered true n = refl
numbered false n = refl

pub cover-fits : (v : ℕ) (space : Layers) (c : CertCover) → IsVersion v → IsCoverPart v space c → CoverFits v space (length c.pairs) c
cover-fits v space c w h = (
  (refl, test-all (pair_fits space) c.pairs h.pairs),
  (
    (h.four, h.critical),
    (
      columns-back v c (eqb v 1) w refl h.columns,
      (
        (and-both (is_between 1 8 c.sheets) (spot_fits c.columns c.sheets c.from) h.sheets h.from, numbered (eqb v 1) (first_number c.sections)),
        sections-back v c c.sections w h.columns h.from h.sections h.one_section h.tables h.spent,
      ),
    ),
  ),
)
