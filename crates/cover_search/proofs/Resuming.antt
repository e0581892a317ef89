-- One search goes on where another stopped.
use Rattle.std.proofs.Common.{◌≡◌, inl, inr, ℕ, zero, suc, ◌+◌, ◌*◌, ◌<◌, ◌≤◌, List, [], ◌∷◌, ◌++◌, length, take, drop, filter, get_or, refl, ap, arith, sym, subst, ◌∙◌, true}
use Rattle.std.specs.List.{flat_map}
use Rattle.std.proofs.lemmas.List.{take-append-drop, length-take-le}
use Rattle.std.proofs.Math.Seq.{drop-cons}
use Rattle.number_lists.specs.Members.{In}
use Rattle.number_lists.proofs.CallerLemmas.{In-inside, filter-In, flat_map-In, map-In, upto-In, at-In}
use Rattle.sheet_laws.specs.Permutations.{InRange}
use Rattle.sheet_tables.specs.Positions.{IsPosition}
use Rattle.live_laws.specs.Trees.{from, beyond}
use Rattle.live_laws.specs.Live.{Relations, Position, is_live, comes_after, live_of, live, is_listed}
use Rattle.live_laws.specs.Orders.{LiveResumes, RunsJoin}
use Rattle.live_laws.proofs.CallerLemmas.{from-range}
use Rattle.cover_search.specs.Searches.{CanStart, last_of, Resumes, SearchesResume}
use Rattle.cover_search.proofs.Units.{IsMore, one-more, last_of-append}

-- ---- the start

pub pair-of : (a : ℕ) (xs : List ℕ) (b : ℕ) → a ≡ b → xs ≡ [] → ◌≡◌ {A = Position} (a, xs) (b, [])
pair-of a xs b e f = ap (λ (n : ℕ). (n, xs)) e ∙ ap (λ (ys : List ℕ). (b, ys)) f

pub start-of : (s : ℕ) (p : List ℕ) → IsPosition s p → s ≡ 0 → ◌≡◌ {A = Position} (s, p) (0, [])
start-of s p (inl h) e = pair-of s p 0 h.0 h.1
start-of s p (inr h) e = absurd (omega (arith, h.some_sheet, e))

-- ---- a live partial table is one where a search may begin

live-starts : (P : Relations) (n : ℕ) (t q : Position) → In q (live P n t) → InRange n q.0 × (is_live P q.0 q.1 ≡ true)
live-starts P n t q i =
    let f = flat_map-In (live_of P) (from 1 n) (In-inside (comes_after t) (flat_map (live_of P) (from 1 n)) i) in
    let g = map-In (λ p. (f.0, p)) (filter (is_live P f.0) (beyond f.0 (f.0 * P.generators) [])) f.2 in
    let r : InRange n f.0 = upto-In n f.0 (subst (λ (xs : List ℕ). In f.0 xs) (from-range 1 n) f.1) in
    subst (λ (q : Position). InRange n q.0 × (is_live P q.0 q.1 ≡ true)) (sym g.2) (r, filter-In (is_live P f.0) (beyond f.0 (f.0 * P.generators) []) g.1)

-- ---- the law

module _ (joins : RunsJoin) (behind : LiveResumes) (P : Relations) (n : ℕ) (t : Position) (b : ℕ) where
  module _ (j : ℕ) (l : j < length (live P n t)) where
    more : IsMore (live P n t) j (get_or (live P n t) j (0, [])) (drop (suc j) (live P n t))
    more = one-more (live P n t) j (get_or (live P n t) j (0, [])) (drop (suc j) (live P n t)) (drop-cons (live P n t) j (0, []) l)

    whole : live P n t ≡ take j (live P n t) ++ get_or (live P n t) j (0, []) ∷ drop (suc j) (live P n t)
    whole = sym (take-append-drop j (live P n t)) ∙ ap (λ qs. take j (live P n t) ++ qs) (drop-cons (live P n t) j (0, []) l)

    last : last_of t (take (suc j) (live P n t)) ≡ get_or (live P n t) j (0, [])
    last = ap (last_of t) more.taken ∙ last_of-append t (take j (live P n t)) (get_or (live P n t) j (0, []))

    stands : live P n (last_of t (take (suc j) (live P n t))) ≡ drop (suc j) (live P n t)
    stands = ap (live P n) last ∙ behind P n t (get_or (live P n t) j (0, [])) (take j (live P n t)) (drop (suc j) (live P n t)) whole

    joined : filter (is_listed P) (take (suc j) (live P n t)) ++ filter (is_listed P) (take b (live P n (last_of t (take (suc j) (live P n t))))) ≡ filter (is_listed P) (take (suc j + b) (live P n t))
    joined =
        ap (λ qs. filter (is_listed P) qs ++ filter (is_listed P) (take b (live P n (last_of t (take (suc j) (live P n t)))))) more.taken
        ∙ (ap (λ q. filter (is_listed P) (take j (live P n t) ++ get_or (live P n t) j (0, []) ∷ []) ++ filter (is_listed P) (take b (live P n q))) last
        ∙ (joins P n t (get_or (live P n t) j (0, [])) (take j (live P n t)) (drop (suc j) (live P n t)) b whole
        ∙ ap (λ i. filter (is_listed P) (take i (live P n t))) (count (length (take j (live P n t))) (length-take-le j (live P n t) (omega (arith, l))))))
      where
        count : (i : ℕ) → i ≡ j → i + 1 + b ≡ suc j + b
        count i e = omega (arith, e)

    pub one-on : Resumes P n t (suc j) b
    one-on = record {
      starts = λ _. subst (CanStart P n) (sym last) (inr (live-starts P n t (get_or (live P n t) j (0, [])) (at-In (live P n t) j (0, []) l)));
      left = stands;
      found = joined;
    }

  pub on : (k : ℕ) → k ≤ length (live P n t) → Resumes P n t k b
  on zero l = record { starts = λ h. h; left = refl; found = ap (λ i. filter (is_listed P) (take i (live P n t))) (none b) }
    where
      none : (b : ℕ) → b ≡ 0 + b
      none b = omega arith
  on (suc j) l = one-on j (omega (arith, l))

pub searches_resume : RunsJoin → LiveResumes → SearchesResume
searches_resume joins behind P n t k b l = on joins behind P n t b k l
