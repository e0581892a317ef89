-- The lines of pairs: they hold one after another exactly where they are a valid field; and the fields that pass are good.
use Rattle.std.proofs.Common.{◌≡◌, inl, inr, ℕ, ◌+◌, List, [], ◌∷◌, ◌++◌, true, ◌&&◌, ◌||◌, not, eqb, map, length, refl, sym, ◌∙◌, subst}
use Rattle.std.specs.Prelude.{◌↔◌}
use Rattle.std.specs.List.{list_any}
use Rattle.std.proofs.lemmas.Bool.{eqb-true, and_parts, and_from, or_cases, or_left, or_right, not-true, not_from_false, cases_Bool}
use Rattle.std.proofs.lemmas.List.{append_assoc}
use Rattle.number_lists.specs.Members.{In, here, there}
use Rattle.number_lists.proofs.CallerLemmas.{In-cases, any-In, any-some, none-In, all-In, In-all, push-In, append-In, In-left, In-last, In-upto}
use Rattle.face_poset.specs.declared.cells.Pair.{Pair}
use Rattle.regular_check.specs.Components.{component_count}
use Rattle.vector_field.specs.Pairs.{has_lower, is_used, is_incident, others, IsValid}
use Rattle.vector_field.specs.Maximal.{MaximalIsExact, IsGood, vertices_in}
use Rattle.vector_field.proofs.CallerLemmas.{Apart, IsLined, lined-from, valid-from, unused-In, unused-from, has_lower-true, has_lower-from, not-itself}
use Rattle.certificates.specs.declared.lines.PairLine.{PairLine}
use Rattle.certificates.specs.Cert.{CertCover}
use Rattle.cert_laws.specs.Tests.{line_fits, pair_holds, pairs_hold, pairs_of, pair_tests, field_tests}
use Rattle.cert_laws.proofs.Passing.{AllHold, hold-left, hold-right}

module _ (space : List (List (List ℕ))) (all : List Pair) where
  -- ---- from the lines to a field

  record Holds (earlier : List Pair) (p : Pair) : Type 0 where
    pub incident : is_incident space p ≡ true
    pub apart : (e : Pair) → In e earlier → Apart e p
    pub free : (q : Pair) → In q all → q.dim ≡ p.dim → In q.lower (others space p) → list_any (has_lower p.dim q.lower) earlier ≡ true

  holds-true : (earlier : List Pair) (p : Pair) → pair_holds space all earlier p ≡ true → Holds earlier p
  holds-true earlier p e =
      let a = and_parts (is_incident space p) (not (is_used earlier p.dim p.lower) && (not (is_used earlier (p.dim + 1) p.upper) && line_fits space all earlier p)) e in
      let b = and_parts (not (is_used earlier p.dim p.lower)) (not (is_used earlier (p.dim + 1) p.upper) && line_fits space all earlier p) a.1 in
      let d = and_parts (not (is_used earlier (p.dim + 1) p.upper)) (line_fits space all earlier p) b.1 in
      record {
        incident = a.0;
        apart = λ e m. (unused-In p.dim p.lower (not-true (is_used earlier p.dim p.lower) b.0) m, unused-In (p.dim + 1) p.upper (not-true (is_used earlier (p.dim + 1) p.upper) d.0) m);
        free = λ q n same m.
            elim (or_cases (not (list_any (has_lower p.dim q.lower) all)) (list_any (has_lower p.dim q.lower) earlier) (all-In (λ f. not (list_any (has_lower p.dim f) all) || list_any (has_lower p.dim f) earlier) d.1 m)) [
              | inl k ↦ absurd (none-In (has_lower p.dim q.lower) (not-true (list_any (has_lower p.dim q.lower) all) k) n (has_lower-from q p.dim q.lower same refl))
              | inr k ↦ k
            ];
      }

  record AllFit (earlier ps : List Pair) : Type 0 where
    pub lined : IsLined space ps
    pub apart : (e p : Pair) → In e earlier → In p ps → Apart e p

  all-fit : (earlier ps : List Pair) → ((q : Pair) → In q ps → In q all) → pairs_hold space all earlier ps ≡ true → AllFit earlier ps
  all-fit earlier [] inside e = record { lined = record { incident = λ p m. elim m [ ]; lined = tt }; apart = λ e p m k. elim k [ ] }
  all-fit earlier (p ∷ ps) inside e =
      let b = and_parts (pair_holds space all earlier p) (pairs_hold space all (earlier ++ p ∷ []) ps) e in
      let f : Holds earlier p = holds-true earlier p b.0 in
      let r : AllFit (earlier ++ p ∷ []) ps = all-fit (earlier ++ p ∷ []) ps (λ q i. inside q (there i)) b.1 in
      record {
        lined = record {
          incident = λ q m. elim (In-cases m) [ inl x ↦ subst (λ (z : Pair). is_incident space z ≡ true) (sym x) f.incident | inr k ↦ r.lined.incident q k ];
          lined = (
            λ q m. record {
              apart = r.apart p q (In-last earlier p) m;
              free = λ same i.
                  let s = any-some (has_lower p.dim q.lower) earlier (f.free q (inside q (there m)) same i) in
                  let l = has_lower-true s.0 p.dim q.lower s.2 in
                  (r.apart s.0 q (In-left (p ∷ []) s.1) m).0 (inl (l.0 ∙ sym same, l.1));
            },
            r.lined.lined,
          );
        };
        apart = λ d q m k. elim (In-cases k) [ inl x ↦ subst (λ (z : Pair). Apart d z) (sym x) (f.apart d m) | inr j ↦ r.apart d q (In-left (p ∷ []) m) j ];
      }

  -- ---- from a field to the lines

  holds-from : (earlier : List Pair) (p : Pair) → is_incident space p ≡ true → ((e : Pair) → In e earlier → Apart e p) → ((q : Pair) → In q all → q.dim ≡ p.dim → In q.lower (others space p) → In q earlier) → pair_holds space all earlier p ≡ true
  holds-from earlier p i a g =
      and_from (is_incident space p) (not (is_used earlier p.dim p.lower) && (not (is_used earlier (p.dim + 1) p.upper) && line_fits space all earlier p)) i
      (and_from (not (is_used earlier p.dim p.lower)) (not (is_used earlier (p.dim + 1) p.upper) && line_fits space all earlier p) (not_from_false (is_used earlier p.dim p.lower) (unused-from earlier p.dim p.lower (λ e m. (a e m).0)))
      (and_from (not (is_used earlier (p.dim + 1) p.upper)) (line_fits space all earlier p) (not_from_false (is_used earlier (p.dim + 1) p.upper) (unused-from earlier (p.dim + 1) p.upper (λ e m. (a e m).1)))
      (In-all (λ f. not (list_any (has_lower p.dim f) all) || list_any (has_lower p.dim f) earlier) (others space p) each)))
    where
      each : (f : ℕ) → In f (others space p) → (not (list_any (has_lower p.dim f) all) || list_any (has_lower p.dim f) earlier) ≡ true
      each f m =
          elim (cases_Bool (list_any (has_lower p.dim f) all)) [
            | inl e ↦
                let s = any-some (has_lower p.dim f) all e in
                let l = has_lower-true s.0 p.dim f s.2 in
                or_right (not (list_any (has_lower p.dim f) all)) (list_any (has_lower p.dim f) earlier)
                (any-In (has_lower p.dim f) (g s.0 s.1 l.0 (subst (λ (n : ℕ). In n (others space p)) (sym l.1) m)) s.2)
            | inr e ↦ or_left (not (list_any (has_lower p.dim f) all)) (list_any (has_lower p.dim f) earlier) (not_from_false (list_any (has_lower p.dim f) all) e)
          ]

  all-hold : (earlier ps : List Pair) → ((q : Pair) → In q all → In q (earlier ++ ps)) → IsLined space ps → ((e p : Pair) → In e earlier → In p ps → Apart e p) → pairs_hold space all earlier ps ≡ true
  all-hold earlier [] inside h a = refl
  all-hold earlier (p ∷ ps) inside h a =
      and_from (pair_holds space all earlier p) (pairs_hold space all (earlier ++ p ∷ []) ps) (holds-from earlier p (h.incident p here) (λ e m. a e p m here) before)
      (all-hold (earlier ++ p ∷ []) ps (λ q i. subst (In q) (sym (append_assoc earlier (p ∷ []) ps)) (inside q i)) (record { incident = λ q m. h.incident q (there m); lined = h.lined.1 })
      (λ e q m k. elim (push-In earlier p m) [ inl i ↦ a e q i (there k) | inr x ↦ subst (λ (z : Pair). Apart z q) (sym x) (h.lined.0 q k).apart ]))
    where
      before : (q : Pair) → In q all → q.dim ≡ p.dim → In q.lower (others space p) → In q earlier
      before q i same m =
          elim (append-In earlier (p ∷ ps) (inside q i)) [
            | inl j ↦ j
            | inr j ↦ elim (In-cases j) [
              | inl x ↦ absurd (not-itself space p (subst (λ (z : Pair). In z.lower (others space p)) x m))
              | inr k ↦ absurd ((h.lined.0 q k).free same m)
            ]
          ]

pub lines_fit : (space : List (List (List ℕ))) (pairs : List Pair) → (pairs_hold space pairs [] pairs ≡ true) ↔ IsValid space pairs
lines_fit space pairs = (
  λ e. valid-from space pairs (all-fit space pairs [] pairs (λ q i. i) e).lined,
  λ v. all-hold space pairs [] pairs (λ q i. i) (lined-from space pairs v) (λ e p m. elim m [ ]),
)

-- ---- the tests

tests-hold : (space : List (List (List ℕ))) (all earlier : List Pair) (lines : List PairLine) → AllHold (pair_tests space all earlier lines) → pairs_hold space all earlier (map (λ l. l.pair) lines) ≡ true
tests-hold space all earlier [] h = refl
tests-hold space all earlier (l ∷ ls) h = and_from (pair_holds space all earlier l.pair) (pairs_hold space all (earlier ++ l.pair ∷ []) (map (λ l. l.pair) ls)) h.0 (tests-hold space all (earlier ++ l.pair ∷ []) ls h.1)

pub good_from : (space : List (List (List ℕ))) (part : CertCover) → MaximalIsExact → AllHold (field_tests space part) → IsGood space (pairs_of part)
good_from space part exact h =
    let pairs : List Pair = pairs_of part in
    let last = hold-right (pair_tests space pairs [] part.pairs) _ h in
    record {
      valid = (lines_fit space pairs).0 (tests-hold space pairs [] part.pairs (hold-left (pair_tests space pairs [] part.pairs) _ h));
      maximal = (exact space pairs).0 last.1.0;
      vertex = λ number low high. eqb-true (length (vertices_in space pairs number)) 1 (all-In (λ n. eqb (length (vertices_in space pairs n)) 1) last.0 (In-upto (component_count space) number low high));
    }
