-- Each labelling is isomorphic to the lift of a table.
use Rattle.std.proofs.Common.{◌≡◌, ℕ, suc, ◌+◌, ◌-◌, ◌*◌, ◌/◌, ◌%◌, ◌≤◌, List, map, length, ap, arith, sym, ◌∙◌, subst, true}
use Rattle.std.specs.Prelude.{◌==◌}
use Rattle.std.specs.List.{list_all, range_with_len}
use Rattle.std.proofs.lemmas.Bool.{and_from, eq-eqb}
use Rattle.std.proofs.lemmas.List.FromFn.{get_or-map-range_with_len, length-map-range_with_len}
use Rattle.number_lists.specs.Members.{In}
use Rattle.number_lists.specs.Words.{upto}
use Rattle.number_lists.proofs.CallerLemmas.{In-all, upto-In}
use Rattle.face_poset.specs.declared.cells.Pair.{Pair}
use Rattle.face_poset.specs.Poset.{count, IsSpace}
use Rattle.regular_check.specs.Rules.{IsRegular}
use Rattle.regular_check.specs.Cycle.{cycle, CyclesGoRound}
use Rattle.vector_field.specs.Pairs.{IsValid}
use Rattle.vector_field.proofs.CallerLemmas.{lined-from, incident-true}
use Rattle.sheet_laws.specs.Permutations.{InRange, is_permutation, at}
use Rattle.sheet_laws.specs.Tables.{cell, column, is_table}
use Rattle.sheet_laws.specs.Labellings.{label, closes, AreLabels, Carries, Isomorphic, IsConnected, is_labelling}
use Rattle.sheet_laws.specs.Lifts.{critical_edges, columns_of, lift}
use Rattle.sheet_laws.proofs.CallerLemmas.{parts-of, same_turns, at-range, critical-range, label-permutes, same_vertex, same_sheet, lift_is_one}
use Rattle.live_laws.proofs.CallerLemmas.{at-column, place-below, IsPlaced, placed}
use Rattle.edge_words.proofs.CallerLemmas.{labelling-parts}
use Rattle.cover_laws.specs.Laws.{IsGauged}
use Rattle.cover_laws.proofs.Carrying.{labelling-carried, connected-carried}
use Rattle.cover_laws.proofs.TreeTurns.{turns, gauged, gauged-labels, gauged-carries, gauged-tree}

-- the row and the column of the place of a cell
one_up : (a b x g : ℕ) → 1 ≤ x → 1 ≤ g → a + (x - 1) ≡ b + (g - 1) → a + x ≡ b + g
one_up a b x g l k e = omega (arith, l, k, e)

module _ (c m s g : ℕ) (r : InRange m s) (q : InRange c g) where
  abbrev pub place : ℕ
  place = c * (s - 1) + (g - 1)

  there : IsPlaced c m place
  there = placed c m place (place-below c m s g r q)

  same : c * (suc (place / c) - 1) + suc (place % c) ≡ c * (s - 1) + g
  same = one_up (c * (suc (place / c) - 1)) (c * (s - 1)) (suc (place % c)) g (omega arith) q.0 there.is

  pub place-row : suc (place / c) ≡ s
  place-row = same_vertex c (suc (place / c)) s (suc (place % c)) g (omega arith) r.0 there.column q same

  pub place-column : suc (place % c) ≡ g
  place-column = same_sheet c (suc (place / c)) s (suc (place % c)) g there.column q same

pub upper-range : (space : List (List (List ℕ))) (pairs : List Pair) → IsValid space pairs → (p : Pair) → In p pairs → p.dim ≡ 1 → InRange (count space 2) p.upper
upper-range space pairs valid p i d =
    let h = incident-true space p ((lined-from space pairs valid).incident p i) in
    (h.upper_first, subst (λ (k : ℕ). p.upper ≤ count space (k + 1)) d h.upper_last)

module _ (space : List (List (List ℕ))) (pairs : List Pair) (is : IsSpace space) (regular : IsRegular space) (valid : IsValid space pairs) where
  -- the edge of a column
  pub edge-range : (g : ℕ) → InRange (columns_of space pairs) g → InRange (count space 1) (at (critical_edges space pairs) g)
  edge-range g q = critical-range space pairs valid (at (critical_edges space pairs) g) (at-range (critical_edges space pairs) g q)

  -- ---- the table of some labels

  module _ (m : ℕ) (w : List (List ℕ)) (lw : AreLabels space m w) where
    abbrev entry : ℕ → ℕ
    entry i = at (label w (at (critical_edges space pairs) (suc (i % columns_of space pairs)))) (suc (i / columns_of space pairs))

    pub table_of : List ℕ
    table_of = map entry (range_with_len 0 (m * columns_of space pairs))

    table-cell : (s g : ℕ) → InRange m s → InRange (columns_of space pairs) g
        → cell (columns_of space pairs) table_of s g ≡ at (label w (at (critical_edges space pairs) g)) s
    unfolding table_of
    table-cell s g r q =
        let c = columns_of space pairs in
        let i = c * (s - 1) + (g - 1) in
        get_or-map-range_with_len entry 0 (m * columns_of space pairs) i i 0 (place-below c m s g r q) (none i)
        ∙ (ap (λ (k : ℕ). at (label w (at (critical_edges space pairs) k)) (suc (i / columns_of space pairs))) (place-column c m s g r q)
        ∙ ap (at (label w (at (critical_edges space pairs) g))) (place-row c m s g r q))
      where
        none : (k : ℕ) → 0 + k ≡ k
        none k = omega arith

    edge-permutes : (g : ℕ) → InRange (columns_of space pairs) g → is_permutation m (label w (at (critical_edges space pairs) g)) ≡ true
    edge-permutes g q = label-permutes m (count space 1) w lw.one_for_each lw.permutations (at (critical_edges space pairs) g) (edge-range g q)

    table-edge : (g : ℕ) → InRange (columns_of space pairs) g → column (columns_of space pairs) m table_of g ≡ label w (at (critical_edges space pairs) g)
    table-edge g q =
        same_turns m (column (columns_of space pairs) m table_of g) (label w (at (critical_edges space pairs) g))
        (length-map-range_with_len (λ s. cell (columns_of space pairs) table_of s g) 1 m)
        (parts-of m (label w (at (critical_edges space pairs) g)) (edge-permutes g q)).long
        (λ s r. at-column (columns_of space pairs) m table_of g s r ∙ table-cell s g r q)

    pub table-is : is_table (columns_of space pairs) m table_of ≡ true
    unfolding table_of
    table-is =
        and_from (length table_of == m * columns_of space pairs)
        (list_all (λ g. is_permutation m (column (columns_of space pairs) m table_of g)) (upto (columns_of space pairs)))
        (eq-eqb (length table_of) (m * columns_of space pairs) (length-map-range_with_len entry 0 (m * columns_of space pairs)))
        (In-all (λ g. is_permutation m (column (columns_of space pairs) m table_of g)) (upto (columns_of space pairs)) (λ g i.
        let q = upto-In (columns_of space pairs) g i in
        ap (is_permutation m) (table-edge g q) ∙ edge-permutes g q))

    -- labels that are the identity on the tree, and close, are the lift of their table
    pub table-lift : CyclesGoRound → ((p : Pair) → In p pairs → p.dim ≡ 0 → label w p.upper ≡ upto m)
        → ((p : Pair) → In p pairs → p.dim ≡ 1 → closes m w (cycle space p.upper) ≡ true) → w ≡ lift space pairs m table_of
    table-lift law tree forced =
        (lift_is_one law space pairs m table_of is regular valid table-is).only w
        (record { labels = lw; tree = tree; columns = λ g q. sym (table-edge g q); forced = forced })

  pub gauge : CyclesGoRound → (m : ℕ) (u : List (List ℕ)) → is_labelling space m u ≡ true → IsGauged space pairs m u
  gauge law m u e = record {
    table = table_of m w lw;
    is = table-is m w lw;
    like = subst (λ (v : List (List ℕ)). Isomorphic space m u v) same (turns space pairs is regular valid m u lu, carried);
    labelling = subst (λ (v : List (List ℕ)). is_labelling space m v ≡ true) same whole;
    connected = λ c. subst (λ (v : List (List ℕ)). IsConnected space m v) same (connected-carried space m is regular u w f lu lw carried c);
  }
    where
      lu : AreLabels space m u
      lu = (labelling-parts space m u e).labels

      f : List (List ℕ)
      f = turns space pairs is regular valid m u lu

      w : List (List ℕ)
      w = gauged space pairs is regular valid m u lu

      lw : AreLabels space m w
      lw = gauged-labels space pairs is regular valid m u lu

      carried : Carries space m u (gauged space pairs is regular valid m u lu) (turns space pairs is regular valid m u lu)
      carried = gauged-carries space pairs is regular valid m u lu

      whole : is_labelling space m w ≡ true
      whole = labelling-carried space m is regular u w f lu lw carried law e

      same : w ≡ lift space pairs m (table_of m w lw)
      same =
          table-lift m w lw law (gauged-tree space pairs is regular valid m u lu)
          (λ p i d. (labelling-parts space m w whole).closed p.upper (upper-range space pairs valid p i d))
