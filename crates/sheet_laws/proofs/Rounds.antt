-- The cycle of a 2-cell, cut at one of its edges.
use Rattle.std.proofs.Common.{◌≡◌, ◌≢◌, inl, inr, ℕ, zero, suc, List, [], ◌∷◌, ◌++◌, map, refl, ap, arith, sym, ◌∙◌, subst, Bool, true, false, AllPairs}
use Rattle.std.specs.Prelude.{◌==◌}
use Rattle.std.proofs.lemmas.Bool.{eqb-true, eq-eqb, false≢true}
use Rattle.std.proofs.lemmas.List.{append-nil, append_assoc}
use Rattle.number_lists.specs.Members.{In}
use Rattle.number_lists.proofs.CallerLemmas.{In-cases, In-at, In-map, holds-In, In-holds, append-In, In-left, In-right}
use Rattle.pair_laws.specs.Tree.{distinct}
use Rattle.face_poset.specs.Poset.{count, facets_of, IsSpace}
use Rattle.regular_check.specs.declared.cycles.Step.{Step}
use Rattle.regular_check.specs.Rules.{IsRegular}
use Rattle.regular_check.specs.Cycle.{cycle, GoesRound, CyclesGoRound}
use Rattle.sheet_laws.specs.Permutations.{InRange}
use Rattle.sheet_laws.specs.Lifts.{round_from}
use Rattle.sheet_laws.proofs.Permutations.{distinct-head, distinct-tail, distinct-cons}

-- no two are equal
distinct-pairs : (xs : List ℕ) → AllPairs (λ a b. a ≢ b) xs → distinct xs ≡ true
distinct-pairs [] h = refl
distinct-pairs (x ∷ xs) h =
    distinct-cons x xs (λ i. (let r = In-at i in h zero (suc r.0) 0 (omega arith) (omega (arith, r.1)) (sym r.2)))
    (distinct-pairs xs (λ i j d l k. h (suc i) (suc j) d (omega (arith, l)) (omega (arith, k))))

-- steps, cut at the only one along the edge e
pub record IsCutAt (e : ℕ) (ss : List Step) : Type 0 where
  pub first : List Step
  pub itself : Step
  pub last : List Step
  pub whole : ss ≡ first ++ itself ∷ last
  pub edge : itself.edge ≡ e
  pub others : (t : Step) → In t (last ++ first) → t.edge ≡ e → ⊥
  pub round : (before : List Step) → round_from e before ss ≡ (itself.forward, last ++ (before ++ first))

pub cut_at : (e : ℕ) (ss : List Step) → distinct (map (λ (t : Step). t.edge) ss) ≡ true → In e (map (λ (t : Step). t.edge) ss) → IsCutAt e ss
cut_at e [] d i = elim i [ ]
cut_at e (s ∷ ss) d i = by (s.edge == e) refl (λ j. cut_at e ss (distinct-tail s.edge (map (λ (t : Step). t.edge) ss) d) j) (later i)
  where
    later : In e (map (λ (t : Step). t.edge) (s ∷ ss)) → (s.edge == e) ≡ false → In e (map (λ (t : Step). t.edge) ss)
    later i k = elim (In-cases i) [ inl j ↦ absurd (false≢true (sym k ∙ eq-eqb s.edge e (sym j))) | inr j ↦ j ]

    by : (b : Bool) → (s.edge == e) ≡ b → (In e (map (λ (t : Step). t.edge) ss) → IsCutAt e ss) → ((s.edge == e) ≡ false → In e (map (λ (t : Step). t.edge) ss)) → IsCutAt e (s ∷ ss)
    by true k h l = record {
      first = [];
      itself = s;
      last = ss;
      whole = refl;
      edge = eqb-true s.edge e k;
      others = λ t j x. distinct-head s.edge (map (λ (t : Step). t.edge) ss) d
          (elim (append-In ss [] j) [ inl m ↦ subst (λ (y : ℕ). In y (map (λ (t : Step). t.edge) ss)) (x ∙ sym (eqb-true s.edge e k)) (In-map (λ (t : Step). t.edge) m) | inr m ↦ elim m [ ] ]);
      round = λ before. rw k (ap (λ (l : List Step). (s.forward, ss ++ l)) (sym (append-nil before)));
    }
    by false k h l =
        let r = h (l k) in
        record {
          first = s ∷ r.first;
          itself = r.itself;
          last = r.last;
          whole = ap (λ (l : List Step). s ∷ l) r.whole;
          edge = r.edge;
          others = λ t j x. elim (append-In r.last (s ∷ r.first) j) [
            | inl m ↦ r.others t (In-left r.first m) x
            | inr m ↦ elim (In-cases m) [ inl y ↦ false≢true (sym k ∙ eq-eqb s.edge e (sym (ap (λ (z : Step). z.edge) y) ∙ x)) | inr n ↦ r.others t (In-right r.last n) x ]
          ];
          round = λ before. rw k (r.round (before ++ s ∷ []) ∙ ap (λ (l : List Step). (r.itself.forward, r.last ++ l)) (append_assoc before (s ∷ []) r.first));
        }

-- what the cycle of a 2-cell is: its edges, each once
pub record IsRound (space : List (List (List ℕ))) (cell : ℕ) (ss : List Step) : Type 0 where
  pub once : distinct (map (λ (t : Step). t.edge) ss) ≡ true
  pub inside : (t : Step) → In t ss → In t.edge (facets_of space 2 cell)
  pub all : (e : ℕ) → In e (facets_of space 2 cell) → In e (map (λ (t : Step). t.edge) ss)

pub round-of : CyclesGoRound → (space : List (List (List ℕ))) (cell : ℕ) → IsSpace space → IsRegular space → InRange (count space 2) cell → IsRound space cell (cycle space cell)
round-of law space cell valid regular r =
    let g : GoesRound space (facets_of space 2 cell) (cycle space cell) = law space cell valid regular r.0 r.1 in
    record {
      once = distinct-pairs (map (λ (t : Step). t.edge) (cycle space cell)) g.edges_once;
      inside = λ t i. holds-In (facets_of space 2 cell) (sym (g.edges_are t.edge) ∙ In-holds (In-map (λ (t : Step). t.edge) i));
      all = λ e i. holds-In (map (λ (t : Step). t.edge) (cycle space cell)) (g.edges_are e ∙ In-holds i);
    }
