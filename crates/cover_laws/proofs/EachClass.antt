-- Each connected labelling is isomorphic to the lift of exactly one cover; and the listed tables are the covers.
use Rattle.std.proofs.Common.{◌≡◌, ◌⊎◌, inl, inr, ℕ, suc, ◌*◌, ◌/◌, ◌%◌, ◌<◌, ◌≤◌, List, length, get_or, ap, arith, sym, ◌∙◌, subst, true}
use Rattle.std.proofs.lemmas.Bool.{cases_lt}
use Rattle.number_lists.specs.Members.{In}
use Rattle.number_lists.specs.Words.{upto}
use Rattle.number_lists.proofs.CallerLemmas.{In-at, In-map, map-In, In-filter, filter-In, In-upto, In-flat_map, flat_map-In}
use Rattle.face_poset.specs.declared.cells.Pair.{Pair}
use Rattle.face_poset.specs.Poset.{count}
use Rattle.regular_check.specs.Components.{ComponentsAreNumbered}
use Rattle.regular_check.specs.Cycle.{CyclesGoRound}
use Rattle.vector_field.specs.Pairs.{unpaired}
use Rattle.sheet_laws.specs.Permutations.{InRange, lists}
use Rattle.sheet_laws.specs.Tables.{is_table, is_least}
use Rattle.sheet_laws.specs.Labellings.{AreLabels, Isomorphic, IsConnected, is_labelling}
use Rattle.sheet_laws.specs.Lifts.{columns_of, lift, is_cover}
use Rattle.sheet_laws.proofs.CallerLemmas.{In-lists}
use Rattle.live_laws.specs.Live.{listed}
use Rattle.live_laws.specs.Classes.{IsOnlyLeast}
use Rattle.live_laws.proofs.CallerLemmas.{table-long, cell-range, placed, renumbered-table, class_has_one_least}
use Rattle.edge_words.specs.Laws.{LiftsAreLabellings}
use Rattle.edge_words.proofs.CallerLemmas.{labelling-parts}
use Rattle.cover_laws.specs.Covers.{relations_at, covers_of, covers, covers_after}
use Rattle.cover_laws.specs.Laws.{HasGoodField, IsGauged, IsRenumbered, IsOneCover, EachClassOnce, ListedAreCovers}
use Rattle.cover_laws.proofs.Carrying.{labelling-carried, connected-carried}
use Rattle.cover_laws.proofs.Isomorphisms.{isomorphic-back, isomorphic-then}
use Rattle.cover_laws.proofs.Gauge.{gauge}
use Rattle.cover_laws.proofs.Roots.{lone}
use Rattle.cover_laws.proofs.Renumbered.{isomorphic_lifts}
use Rattle.cover_laws.proofs.CoverParts.{lifted, cover-parts, cover-from}
use Rattle.cover_laws.proofs.Listings.{listed-covers}
use Rattle.cover_laws.proofs.NoColumns.{listed-one}

-- the cells of a table are sheets
table-range : (c m : ℕ) (q : List ℕ) → is_table c m q ≡ true → (x : ℕ) → In x q → InRange m x
table-range c m q t x i =
    let r = In-at i in
    let p = placed c m r.0 (rw (table-long c m q t) at r.1) in
    subst (λ (y : ℕ). InRange m y) (ap (λ (k : ℕ). get_or q k 0) p.is ∙ r.2) (cell-range c m q t (suc (r.0 / c)) (suc (r.0 % c)) p.row p.column)

module _ (law : CyclesGoRound) (numbered : ComponentsAreNumbered) (space : List (List (List ℕ))) (pairs : List Pair) (h : HasGoodField space pairs) where
  one : length (unpaired pairs 0 (count space 0)) ≡ 1
  one = lone numbered space pairs h

  -- what the covers of at most n sheets are
  covers-In : (n m : ℕ) (q : List ℕ) → In (m, q) (covers space pairs n) → is_cover space pairs (m, q) ≡ true
  covers-In n m q i =
      let r = flat_map-In (covers_of space pairs) (upto n) i in
      let s = map-In (λ (p : List ℕ). (r.0, p)) _ r.2 in
      let e : is_cover space pairs (r.0, s.0) ≡ true = filter-In (λ p. is_cover space pairs (r.0, p)) (lists r.0 (r.0 * columns_of space pairs)) s.1 in
      ap (is_cover space pairs) s.2 ∙ e

  In-covers : (n m : ℕ) (q : List ℕ) → InRange n m → is_cover space pairs (m, q) ≡ true → In (m, q) (covers space pairs n)
  In-covers n m q r e =
      let t = (cover-parts law space pairs h.is h.regular h.good.valid one m q e).table in
      In-flat_map (covers_of space pairs) (In-upto n m r.0 r.1)
      (In-map (λ (p : List ℕ). (m, p))
      (In-filter (λ p. is_cover space pairs (m, p))
      (In-lists m (m * columns_of space pairs) q (table-long (columns_of space pairs) m q t) (table-range (columns_of space pairs) m q t)) e))

  module _ (n m : ℕ) (u : List (List ℕ)) (r : InRange n m) (labelling : is_labelling space m u ≡ true) (connected : IsConnected space m u) where
    g : IsGauged space pairs m u
    g = gauge space pairs h.is h.regular h.good.valid law m u labelling

    c : ℕ
    c = columns_of space pairs

    class : (t : List ℕ) × IsOnlyLeast (columns_of space pairs) m g.table t
    class = class_has_one_least (columns_of space pairs) m g.table g.is

    lu : AreLabels space m u
    lu = (labelling-parts space m u labelling).labels

    lifts : (q : List ℕ) → is_table (columns_of space pairs) m q ≡ true → AreLabels space m (lift space pairs m q)
    lifts q t = (lifted law space pairs h.is h.regular h.good.valid one m q t).labels

    table : is_table (columns_of space pairs) m class.0 ≡ true
    table =
        subst (λ (q : List ℕ). is_table (columns_of space pairs) m q ≡ true) (sym class.1.is)
        (renumbered-table (columns_of space pairs) m g.table class.1.by g.is class.1.permutes)

    like : Isomorphic space m (lift space pairs m g.table) (lift space pairs m class.0)
    like = (isomorphic_lifts law numbered space pairs m g.table class.0 h g.is table).1 (record { by = class.1.by; permutes = class.1.permutes; is = class.1.is })

    cover : is_cover space pairs (m, class.0) ≡ true
    cover =
        cover-from law space pairs h.is h.regular h.good.valid one m class.0 (record {
          table = table;
          least = class.1.least;
          labelling =
              labelling-carried space m h.is h.regular (lift space pairs m g.table) (lift space pairs m class.0) like.0
              (lifts g.table g.is) (lifts class.0 table) like.1 law g.labelling;
          connected =
              connected-carried space m h.is h.regular (lift space pairs m g.table) (lift space pairs m class.0) like.0
              (lifts g.table g.is) (lifts class.0 table) like.1 (g.connected connected);
        })

    only : (q : List ℕ) → In (m, q) (covers space pairs n) → Isomorphic space m u (lift space pairs m q) → q ≡ class.0
    only q i k =
        let p = cover-parts law space pairs h.is h.regular h.good.valid one m q (covers-In n m q i) in
        let w = lift space pairs m g.table in
        let back = isomorphic-back space m h.is h.regular u (lift space pairs m g.table) lu (lifts g.table g.is) g.like in
        let both = isomorphic-then space m h.is h.regular (lift space pairs m g.table) u (lift space pairs m q) (lifts g.table g.is) back k in
        let s : IsRenumbered (columns_of space pairs) m g.table q = (isomorphic_lifts law numbered space pairs m g.table q h g.is p.table).0 both in
        s.is ∙ class.1.only s.by s.permutes (subst (λ (z : List ℕ). is_least (columns_of space pairs) m z ≡ true) s.is p.least)

    pub one-cover : IsOneCover space pairs n m u
    one-cover = record {
      table = class.0;
      listed = In-covers n m class.0 r cover;
      like = isomorphic-then space m h.is h.regular u (lift space pairs m g.table) (lift space pairs m class.0) lu g.like like;
      only = only;
    }

pub each_class_once : CyclesGoRound → ComponentsAreNumbered → EachClassOnce
each_class_once law numbered space pairs n m u h r l k = one-cover law numbered space pairs h n m u r l k

pub listed_are_covers : CyclesGoRound → ComponentsAreNumbered → LiftsAreLabellings → ListedAreCovers
listed_are_covers law numbered labellings space pairs n t h l s = by (cases_lt 0 (columns_of space pairs))
  where
    by : (0 < columns_of space pairs) ⊎ (columns_of space pairs ≤ 0) → listed (relations_at space pairs) n t ≡ covers_after space pairs n t
    by (inl k) = listed-covers law labellings space pairs h.is h.regular h.good.valid (lone numbered space pairs h) (omega (arith, k)) n t
    by (inr k) = listed-one law space pairs h.is h.regular h.good.valid (lone numbered space pairs h) (omega (arith, k)) n t l s
