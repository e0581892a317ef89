-- Where the lift of a table is a labelling: the walk round each 2-cell closes where the relators do.
use Rattle.std.proofs.Common.{◌≡◌, ℕ, ◌≤◌, List, length, sym, ◌∙◌, subst, true, ◌&&◌}
use Rattle.std.specs.Prelude.{ℤ, nat_le, ◌==◌, not}
use Rattle.std.specs.List.{list_all}
use Rattle.std.proofs.lemmas.Bool.{eqb-true, eq-eqb, and_parts, and_from, leb-true, le-leb}
use Rattle.number_lists.specs.Members.{In}
use Rattle.number_lists.specs.Words.{upto}
use Rattle.number_lists.proofs.CallerLemmas.{In-all, all-In, In-upto, upto-In, In-map, map-In, In-inside}
use Rattle.face_poset.specs.declared.cells.Pair.{Pair}
use Rattle.face_poset.specs.Poset.{count, IsSpace}
use Rattle.regular_check.specs.Rules.{IsRegular}
use Rattle.regular_check.specs.Cycle.{cycle, CyclesGoRound}
use Rattle.vector_field.specs.Pairs.{is_used, IsValid}
use Rattle.pair_laws.specs.Letters.{follow}
use Rattle.sphere_collapses.specs.Laws.{LastFaceCloses}
use Rattle.sheet_laws.specs.Permutations.{InRange, is_permutation}
use Rattle.sheet_laws.specs.Tables.{is_table}
use Rattle.sheet_laws.specs.Labellings.{walk, closes, AreLabels, is_labelling}
use Rattle.sheet_laws.specs.Lifts.{columns_of, IsLift, lift}
use Rattle.sheet_laws.proofs.CallerLemmas.{closes-at, closes-from, is_lift}
use Rattle.live_laws.specs.Walks.{move}
use Rattle.edge_words.specs.Words.{words, critical_disks, relators, cycle_word}
use Rattle.edge_words.specs.Labels.{leads_home, satisfies}
use Rattle.edge_words.proofs.FieldCells.{cycle-within, upper-range, lower-facet, In-others, over-disks}
use Rattle.edge_words.proofs.LastFaces.{last-closes}
use Rattle.edge_words.proofs.WordLabels.{lift-walk_short}

-- what a labelling is
pub record LabellingParts (space : List (List (List ℕ))) (m : ℕ) (u : List (List ℕ)) : Type 0 where
  pub some : 1 ≤ m
  pub labels : AreLabels space m u
  pub closed : (c : ℕ) → InRange (count space 2) c → closes m u (cycle space c) ≡ true

pub labelling-parts : (space : List (List (List ℕ))) (m : ℕ) (u : List (List ℕ)) → is_labelling space m u ≡ true → LabellingParts space m u
labelling-parts space m u e =
    let a = and_parts (nat_le 1 m) ((length u == count space 1) && (list_all (is_permutation m) u && list_all (λ c. closes m u (cycle space c)) (upto (count space 2)))) e in
    let b = and_parts (length u == count space 1) (list_all (is_permutation m) u && list_all (λ c. closes m u (cycle space c)) (upto (count space 2))) a.1 in
    let d = and_parts (list_all (is_permutation m) u) (list_all (λ c. closes m u (cycle space c)) (upto (count space 2))) b.1 in
    record {
      some = leb-true 1 m a.0;
      labels = record { one_for_each = eqb-true (length u) (count space 1) b.0; permutations = d.0 };
      closed = λ c r. all-In (λ c. closes m u (cycle space c)) d.1 (In-upto (count space 2) c r.0 r.1);
    }

pub labelling-from : (space : List (List (List ℕ))) (m : ℕ) (u : List (List ℕ)) → LabellingParts space m u → is_labelling space m u ≡ true
labelling-from space m u h =
    and_from (nat_le 1 m) ((length u == count space 1) && (list_all (is_permutation m) u && list_all (λ c. closes m u (cycle space c)) (upto (count space 2)))) (le-leb 1 m h.some)
    (and_from (length u == count space 1) (list_all (is_permutation m) u && list_all (λ c. closes m u (cycle space c)) (upto (count space 2))) (eq-eqb (length u) (count space 1) h.labels.one_for_each)
    (and_from (list_all (is_permutation m) u) (list_all (λ c. closes m u (cycle space c)) (upto (count space 2))) h.labels.permutations
    (In-all (λ c. closes m u (cycle space c)) (upto (count space 2)) (λ c i. h.closed c (upto-In (count space 2) c i)))))

module _ (law : CyclesGoRound) (space : List (List (List ℕ))) (pairs : List Pair) (is : IsSpace space) (regular : IsRegular space) (valid : IsValid space pairs) where
  -- labels that close round the critical 2-cells and round those that are paired with an edge close round all
  pub all-close : LastFaceCloses → (m : ℕ) (u : List (List ℕ)) → AreLabels space m u
      → ((p : Pair) → In p pairs → p.dim ≡ 1 → closes m u (cycle space p.upper) ≡ true)
      → ((c : ℕ) → In c (critical_disks space pairs) → closes m u (cycle space c) ≡ true)
      → (c : ℕ) → InRange (count space 2) c → closes m u (cycle space c) ≡ true
  all-close last m u h forced critical =
      over-disks space pairs is valid (λ c. closes m u (cycle space c) ≡ true) (λ c r i. critical c i) forced
      (λ p i d k.
      last-closes law space is regular last m u h p.upper p.lower (upper-range space pairs valid p 2 i d) (lower-facet space pairs valid p 2 i d)
      (λ c j n. k c (In-others space pairs valid p 2 c d j n)))

  critical-range : (c : ℕ) → In c (critical_disks space pairs) → InRange (count space 2) c
  critical-range c i = upto-In (count space 2) c (In-inside (λ c. not (is_used pairs 2 c)) (upto (count space 2)) i)

  module _ (m : ℕ) (cells : List ℕ) (table : is_table (columns_of space pairs) m cells ≡ true) where
    abbrev pub lead : List ℤ → ℕ → ℕ
    lead w x = follow (move (columns_of space pairs) m cells) w x

    lifted : IsLift space pairs m cells (lift space pairs m cells)
    lifted = is_lift law space pairs is regular valid m cells table

    -- the walk round a critical 2-cell leads where its relator does
    relator-walk : (c : ℕ) → In c (critical_disks space pairs) → (x : ℕ) → InRange m x
        → walk (lift space pairs m cells) (cycle space c) x ≡ lead (cycle_word space (words space pairs) c) x
    relator-walk c i x q = lift-walk_short law space pairs is regular valid m cells table (cycle space c) (cycle-within law space is regular c (critical-range c i)) x q

    pub to-relators : is_labelling space m (lift space pairs m cells) ≡ true → satisfies (columns_of space pairs) m cells (relators space pairs) ≡ true
    to-relators e =
        In-all (leads_home (columns_of space pairs) m cells) (relators space pairs) (λ w i.
        let r = map-In (cycle_word space (words space pairs)) (critical_disks space pairs) i in
        subst (λ (v : List ℤ). leads_home (columns_of space pairs) m cells v ≡ true) (sym r.2) (home r.0 r.1))
      where
        closed : (c : ℕ) → InRange (count space 2) c → closes m (lift space pairs m cells) (cycle space c) ≡ true
        closed = (labelling-parts space m (lift space pairs m cells) e).closed

        home : (c : ℕ) → In c (critical_disks space pairs) → leads_home (columns_of space pairs) m cells (cycle_word space (words space pairs) c) ≡ true
        home c i =
            In-all (λ x. lead (cycle_word space (words space pairs) c) x == x) (upto m) (λ x j.
            let q = upto-In m x j in
            eq-eqb (lead (cycle_word space (words space pairs) c) x) x
            (sym (relator-walk c i x q) ∙ closes-at m (lift space pairs m cells) (cycle space c) (closed c (critical-range c i)) x q))

    pub from-relators : LastFaceCloses → 1 ≤ m → satisfies (columns_of space pairs) m cells (relators space pairs) ≡ true → is_labelling space m (lift space pairs m cells) ≡ true
    from-relators last l e =
        labelling-from space m (lift space pairs m cells) (record {
          some = l;
          labels = lifted.labels;
          closed = all-close last m (lift space pairs m cells) lifted.labels lifted.forced critical;
        })
      where
        critical : (c : ℕ) → In c (critical_disks space pairs) → closes m (lift space pairs m cells) (cycle space c) ≡ true
        critical c i =
            closes-from m (lift space pairs m cells) (cycle space c) (λ x q.
            relator-walk c i x q
            ∙ eqb-true (lead (cycle_word space (words space pairs) c) x) x
            (all-In (λ x. lead (cycle_word space (words space pairs) c) x == x)
            (all-In (leads_home (columns_of space pairs) m cells) e (In-map (cycle_word space (words space pairs)) i)) (In-upto m x q.0 q.1)))
