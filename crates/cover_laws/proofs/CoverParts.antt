-- What a cover is, and that the sound and least cells of full length are the covers.
use Rattle.std.proofs.Common.{◌≡◌, ℕ, zero, suc, ◌*◌, ◌≤◌, List, [], ◌∷◌, map, length, refl, ap, sym, ◌∙◌, true, ◌&&◌}
use Rattle.std.specs.List.{list_all}
use Rattle.std.proofs.lemmas.Bool.{and_parts, and_from}
use Rattle.number_lists.specs.Members.{In, here, there}
use Rattle.number_lists.specs.Words.{upto}
use Rattle.number_lists.proofs.CallerLemmas.{same_bool, flat_map-In, map-In}
use Rattle.face_poset.specs.declared.cells.Pair.{Pair}
use Rattle.face_poset.specs.Poset.{count, IsSpace}
use Rattle.regular_check.specs.Rules.{IsRegular}
use Rattle.regular_check.specs.Cycle.{CyclesGoRound}
use Rattle.vector_field.specs.Pairs.{unpaired, IsValid}
use Rattle.sheet_laws.specs.Permutations.{lists}
use Rattle.sheet_laws.specs.Tables.{is_table, is_least, IsTransitive}
use Rattle.sheet_laws.specs.Labellings.{is_labelling, is_connected, IsConnected}
use Rattle.sheet_laws.specs.Lifts.{columns_of, IsLift, lift, is_cover}
use Rattle.sheet_laws.proofs.CallerLemmas.{lift_is_one, connected_is_exact, lifts_are_connected}
use Rattle.live_laws.specs.Walks.{never_fails}
use Rattle.live_laws.specs.Live.{Relations, follows, sound}
use Rattle.live_laws.proofs.CallerLemmas.{least_appears, appearing_is_transitive}
use Rattle.edge_words.specs.Words.{relators}
use Rattle.edge_words.specs.Labels.{satisfies}
use Rattle.edge_words.specs.Laws.{LiftsAreLabellings}
use Rattle.edge_words.proofs.CallerLemmas.{satisfied-is, relators-letters}
use Rattle.cover_laws.specs.Covers.{relations_at}
use Rattle.cover_laws.proofs.WholeTables.{table-from}

-- a member of all lists of n numbers has n numbers
pub lists-long : (m n : ℕ) (q : List ℕ) → In q (lists m n) → length q ≡ n
lists-long m zero q i = one q i
  where
    one : (q : List ℕ) → In q ([] ∷ []) → length q ≡ 0
    one q here = refl
    one q (there j) = elim j [ ]
lists-long m (suc n) q i =
    let r = flat_map-In (λ x. map (λ r. x ∷ r) (lists m n)) (upto m) i in
    let s = map-In (λ p. r.0 ∷ p) (lists m n) r.2 in
    ap (λ (p : List ℕ). length p) s.2 ∙ ap suc (lists-long m n s.0 s.1)

module _ (law : CyclesGoRound) (space : List (List (List ℕ))) (pairs : List Pair) (is : IsSpace space) (regular : IsRegular space) (valid : IsValid space pairs)
    (lone : length (unpaired pairs 0 (count space 0)) ≡ 1) where
  pub record CoverParts (m : ℕ) (q : List ℕ) : Type 0 where
    pub table : is_table (columns_of space pairs) m q ≡ true
    pub least : is_least (columns_of space pairs) m q ≡ true
    pub labelling : is_labelling space m (lift space pairs m q) ≡ true
    pub connected : IsConnected space m (lift space pairs m q)

  pub lifted : (m : ℕ) (q : List ℕ) → is_table (columns_of space pairs) m q ≡ true → IsLift space pairs m q (lift space pairs m q)
  lifted m q t = (lift_is_one law space pairs m q is regular valid t).is

  pub cover-parts : (m : ℕ) (q : List ℕ) → is_cover space pairs (m, q) ≡ true → CoverParts m q
  cover-parts m q e =
      let u = lift space pairs m q in
      let a = and_parts (is_table (columns_of space pairs) m q) (is_least (columns_of space pairs) m q && (is_labelling space m u && is_connected space m u)) e in
      let b = and_parts (is_least (columns_of space pairs) m q) (is_labelling space m u && is_connected space m u) a.1 in
      let d = and_parts (is_labelling space m u) (is_connected space m u) b.1 in
      record { table = a.0; least = b.0; labelling = d.0; connected = (connected_is_exact space m u is regular (lifted m q a.0).labels).0 d.1 }

  pub cover-from : (m : ℕ) (q : List ℕ) → CoverParts m q → is_cover space pairs (m, q) ≡ true
  cover-from m q h =
      let u = lift space pairs m q in
      and_from (is_table (columns_of space pairs) m q) (is_least (columns_of space pairs) m q && (is_labelling space m u && is_connected space m u)) h.table
      (and_from (is_least (columns_of space pairs) m q) (is_labelling space m u && is_connected space m u) h.least
      (and_from (is_labelling space m u) (is_connected space m u) h.labelling ((connected_is_exact space m u is regular (lifted m q h.table).labels).1 h.connected)))

  pub cover-transitive : (m : ℕ) (q : List ℕ) → 1 ≤ m → CoverParts m q → IsTransitive (columns_of space pairs) m q
  cover-transitive m q l h = (lifts_are_connected law space pairs m q (lift space pairs m q) is regular valid lone l (lifted m q h.table)).0 h.connected

  pub transitive-connected : (m : ℕ) (q : List ℕ) → 1 ≤ m → is_table (columns_of space pairs) m q ≡ true
      → IsTransitive (columns_of space pairs) m q → IsConnected space m (lift space pairs m q)
  transitive-connected m q l t h = (lifts_are_connected law space pairs m q (lift space pairs m q) is regular valid lone l (lifted m q t)).1 h

  -- ---- the sound and least lists of full length

  abbrev P : Relations
  P = relations_at space pairs

  fails-is : (m : ℕ) (q : List ℕ) → is_table (columns_of space pairs) m q ≡ true
      → list_all (never_fails (columns_of space pairs) m q) (relators space pairs) ≡ satisfies (columns_of space pairs) m q (relators space pairs)
  fails-is m q t = satisfied-is (columns_of space pairs) m q (relators space pairs) t (relators-letters space pairs)

  from-sound : LiftsAreLabellings → 1 ≤ columns_of space pairs → (m : ℕ) (q : List ℕ) → 1 ≤ m → length q ≡ m * columns_of space pairs
      → (sound P m q && is_least (columns_of space pairs) m q) ≡ true → is_cover space pairs (m, q) ≡ true
  from-sound labellings some m q l long e =
      let a = and_parts (sound P m q) (is_least (columns_of space pairs) m q) e in
      let b = and_parts (follows (columns_of space pairs) m [] q) (list_all (never_fails (columns_of space pairs) m q) (relators space pairs)) a.0 in
      let t = table-from (columns_of space pairs) m q long b.0 in
      cover-from m q (record {
        table = t;
        least = a.1;
        labelling = (labellings space pairs m q is regular valid l t).1 (sym (fails-is m q t) ∙ b.1);
        connected = transitive-connected m q l t (appearing_is_transitive (columns_of space pairs) m q some long b.0);
      })

  to-sound : LiftsAreLabellings → 1 ≤ columns_of space pairs → (m : ℕ) (q : List ℕ) → 1 ≤ m
      → is_cover space pairs (m, q) ≡ true → (sound P m q && is_least (columns_of space pairs) m q) ≡ true
  to-sound labellings some m q l e =
      let h = cover-parts m q e in
      and_from (sound P m q) (is_least (columns_of space pairs) m q)
      (and_from (follows (columns_of space pairs) m [] q) (list_all (never_fails (columns_of space pairs) m q) (relators space pairs))
      (least_appears (columns_of space pairs) m q some h.table h.least (cover-transitive m q l h))
      (fails-is m q h.table ∙ (labellings space pairs m q is regular valid l h.table).0 h.labelling))
      h.least

  pub sound-covers : LiftsAreLabellings → 1 ≤ columns_of space pairs → (m : ℕ) (q : List ℕ) → 1 ≤ m → length q ≡ m * columns_of space pairs
      → (sound P m q && is_least (columns_of space pairs) m q) ≡ is_cover space pairs (m, q)
  sound-covers labellings some m q l long =
      same_bool (sound P m q && is_least (columns_of space pairs) m q) (is_cover space pairs (m, q))
      (from-sound labellings some m q l long) (to-sound labellings some m q l)
