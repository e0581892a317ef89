-- The steps round a 2-cell before and behind an edge, by places.
use Rattle.std.proofs.Common.{◌≡◌, ◌≢◌, ℕ, zero, suc, ◌<◌, ◌≤◌, List, [], ◌∷◌, ◌++◌, All, cond, map, take, drop, length, get_or, refl, ap, sym, ◌∙◌, subst, arith}
use Rattle.std.proofs.lemmas.Bool.{eq-eqb, ne_eqb}
use Rattle.std.proofs.lemmas.List.{map-append}
use Rattle.number_lists.specs.Members.{In}
use Rattle.number_lists.proofs.CallerLemmas.{In-map, In-holds, holds-In, at-In}
use Rattle.face_poset.specs.Poset.{IsSpace, count, facets_of}
use Rattle.regular_check.specs.declared.cycles.Step.{Step}
use Rattle.regular_check.specs.Rules.{IsRegular}
use Rattle.regular_check.specs.Cycle.{cycle, start_of, CyclesGoRound}
use Rattle.sphere_collapses.proofs.CallerLemmas.{two_ends_kept}
use Rattle.local_field.specs.Towers.{Building}
use Rattle.local_field.specs.Buildings.{number_at, steps_after, steps_before, disk_building}
use Rattle.local_field.specs.Listed.{step_pair, IsOnEdge}
use Rattle.local_field.proofs.FlagLaw.{facet-range}

-- the first step along an edge
pub cut-here : (edge : ℕ) (steps : List Step) (none : Step) (i : ℕ) → ((k : ℕ) → k < i → (get_or steps k none).edge ≢ edge) → i < length steps → (get_or steps i none).edge ≡ edge
    → (steps_before edge steps ≡ take i steps) × (steps_after edge steps ≡ drop (suc i) steps)
cut-here edge [] none i h l e = absurd (omega (arith, l))
cut-here edge (s ∷ steps) none zero h l e =
    let same = eq-eqb s.edge edge e in
    (ap (λ b. cond b [] (s ∷ steps_before edge steps)) same, ap (λ b. cond b steps (steps_after edge steps)) same)
cut-here edge (s ∷ steps) none (suc i) h l e =
    let unlike = ne_eqb s.edge edge (h 0 (omega arith)) in
    let r = cut-here edge steps none i (λ k m. h (suc k) (omega (arith, m))) (omega (arith, l)) e in
    (ap (λ b. cond b [] (s ∷ steps_before edge steps)) unlike ∙ ap (λ (xs : List Step). s ∷ xs) r.0, ap (λ b. cond b steps (steps_after edge steps)) unlike ∙ r.1)

-- no step along it
pub cut-none : (edge : ℕ) (steps : List Step) (none : Step) → ((k : ℕ) → k < length steps → (get_or steps k none).edge ≢ edge) → (steps_before edge steps ≡ steps) × (steps_after edge steps ≡ [])
cut-none edge [] none h = (refl, refl)
cut-none edge (s ∷ steps) none h =
    let unlike = ne_eqb s.edge edge (h 0 (omega arith)) in
    let r = cut-none edge steps none (λ k m. h (suc k) (omega (arith, m))) in
    (ap (λ b. cond b [] (s ∷ steps_before edge steps)) unlike ∙ ap (λ (xs : List Step). s ∷ xs) r.0, ap (λ b. cond b steps (steps_after edge steps)) unlike ∙ r.1)

-- all steps of a cycle go along edges with two ends
pub on-edges : (rounds : CyclesGoRound) (space : List (List (List ℕ))) (disk : ℕ) → IsSpace space → IsRegular space → 1 ≤ disk → disk ≤ count space 2 → All (IsOnEdge space) (cycle space disk)
on-edges rounds space disk valid regular low high i d l =
    let s : Step = get_or (cycle space disk) i d in
    let round = rounds space disk valid regular low high in
    let there : In s.edge (facets_of space 2 disk) = holds-In (facets_of space 2 disk) (sym (round.edges_are s.edge) ∙ In-holds (In-map (λ (t : Step). t.edge) (at-In (cycle space disk) i d l))) in
    let w = facet-range space valid 1 disk s.edge low high there in
    record { low = w.0; high = w.1; two = two_ends_kept space valid regular s.edge w.0 w.1 }

-- the same over a space that is the same
pub on-edges-at : (rounds : CyclesGoRound) (now space : List (List (List ℕ))) (disk : ℕ) (steps : List Step) → now ≡ space → steps ≡ cycle space disk → IsSpace now → IsRegular space → 1 ≤ disk → disk ≤ count space 2 → All (IsOnEdge now) steps
on-edges-at rounds now space disk steps same e valid regular low high =
    subst (λ (s : List (List (List ℕ))). All (IsOnEdge s) steps) (sym same) (subst (λ (ss : List Step). All (IsOnEdge space) ss) (sym e) (on-edges rounds space disk (subst IsSpace same valid) regular low high))

-- the building by both parts
pub parts-built : (space : List (List (List ℕ))) (disk edge f root : ℕ) (after before : List Step) (pairs : List (ℕ × ℕ)) → number_at space f ≡ edge → steps_after edge (cycle space disk) ≡ after → steps_before edge (cycle space disk) ≡ before
    → root ≡ get_or (map (start_of space) (after ++ before)) 0 0 → pairs ≡ map (step_pair space) after ++ map (step_pair space) before
    → (b : Building) → b.root ≡ root → b.pairs ≡ pairs → b ≡ disk_building space disk f
parts-built space disk edge f root after before pairs n a p r q b s t =
    let steps : List Step = cycle space disk in
    let all : steps_after (number_at space f) steps ++ steps_before (number_at space f) steps ≡ after ++ before =
    ap (λ (e : ℕ). steps_after e steps ++ steps_before e steps) n ∙ (ap (λ (xs : List Step). xs ++ steps_before edge steps) a ∙ ap (λ (xs : List Step). after ++ xs) p) in
    let made : List Step → Building = λ xs. record { root = get_or (map (start_of space) xs) 0 0; pairs = map (step_pair space) xs } in
    ap (λ (k : ℕ). record { root = k; pairs = b.pairs }) (s ∙ r)
    ∙ (ap (λ (ps : List (ℕ × ℕ)). record { root = get_or (map (start_of space) (after ++ before)) 0 0; pairs = ps }) (t ∙ (q ∙ sym (map-append (step_pair space) after before))) ∙ ap made (sym all))
