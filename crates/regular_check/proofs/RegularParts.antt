-- The rules of a regular space, one by one.
use Rattle.std.proofs.Common.{◌≡◌, ℕ, ◌≤◌, List, [], ◌∷◌, ◌++◌, length, true, None, sym, ◌∙◌, arith}
use Rattle.std.specs.List.{flat_map}
use Rattle.std.proofs.lemmas.Bool.{eqb-true}
use Rattle.number_lists.specs.Words.{upto}
use Rattle.face_poset.specs.Poset.{count, facets_of}
use Rattle.regular_check.specs.declared.fault.RegularFault.TheVariants.{EdgeEnds, NotCycle, EdgeNotTwice, Apart, NotSphere}
use Rattle.regular_check.specs.Rules.{Rule, rule, two_ends, one_cycle, each_twice, connected, is_spherical, boundary_euler, edge_rules, disk_rules, solid_rules, fault_in, IsRegular}
use Rattle.regular_check.specs.Cycle.{HasEnds}
use Rattle.number_lists.proofs.CallerLemmas.{and-left, and-right}
use Rattle.regular_check.proofs.Faults.{head_kept, kept_holds, none_before, none_each, none_parts, layer_none}

-- where no edge has a fault, each has two ends
pub edges_kept : (space : List (List (List ℕ))) → fault_in (flat_map (edge_rules space) (upto (count space 1))) ≡ None → HasEnds space (count space 1)
edges_kept space h e low high = eqb-true (length (facets_of space 1 e)) 2 (kept_holds (rule (two_ends space e) (EdgeEnds e)) [] (none_each (edge_rules space) (count space 1) e h low high))

-- where no 2-cell has a fault, the edges of each are closed and connected
pub disks_kept : (space : List (List (List ℕ))) → fault_in (flat_map (disk_rules space) (upto (count space 2))) ≡ None → (c : ℕ) → 1 ≤ c → c ≤ count space 2
    → (each_twice space 1 (facets_of space 2 c) ≡ true) × (connected space 1 (facets_of space 2 c) ≡ true)
disks_kept space h c low high =
    let k : one_cycle space c ≡ true = kept_holds (rule (one_cycle space c) (NotCycle c)) [] (none_each (disk_rules space) (count space 2) c h low high) in
    (and-left (each_twice space 1 (facets_of space 2 c)) (connected space 1 (facets_of space 2 c)) k, and-right (each_twice space 1 (facets_of space 2 c)) (connected space 1 (facets_of space 2 c)) k)

-- where no 3-cell has a fault, the boundary of each is closed, connected and spherical
pub solids_kept : (space : List (List (List ℕ))) → fault_in (flat_map (solid_rules space) (upto (count space 3))) ≡ None → (c : ℕ) → 1 ≤ c → c ≤ count space 3
    → (each_twice space 2 (facets_of space 3 c) ≡ true) × (connected space 2 (facets_of space 3 c) ≡ true) × (is_spherical space c ≡ true)
solids_kept space h c low high =
    let last : Rule = rule (is_spherical space c) (NotSphere c (boundary_euler space c)) in
    let second : Rule = rule (connected space 2 (facets_of space 3 c)) (Apart c) in
    let first : Rule = rule (each_twice space 2 (facets_of space 3 c)) (EdgeNotTwice c) in
    let e : fault_in (solid_rules space c) ≡ None = none_each (solid_rules space) (count space 3) c h low high in
    let a : each_twice space 2 (facets_of space 3 c) ≡ true = kept_holds first (second ∷ last ∷ []) e in
    let f : fault_in (second ∷ last ∷ []) ≡ None = sym (head_kept first (second ∷ last ∷ []) a) ∙ e in
    let b : connected space 2 (facets_of space 3 c) ≡ true = kept_holds second (last ∷ []) f in
    let g : fault_in (last ∷ []) ≡ None = sym (head_kept second (last ∷ []) b) ∙ f in
    (a, b, kept_holds last [] g)

pub regular_parts : (space : List (List (List ℕ))) → IsRegular space → (fault_in (flat_map (edge_rules space) (upto (count space 1))) ≡ None) × (fault_in (flat_map (disk_rules space) (upto (count space 2))) ≡ None) × (fault_in (flat_map (solid_rules space) (upto (count space 3))) ≡ None)
regular_parts space h =
    let a = none_parts (flat_map (edge_rules space) (upto (count space 1))) (flat_map (disk_rules space) (upto (count space 2)) ++ flat_map (solid_rules space) (upto (count space 3))) h in
    let b = none_parts (flat_map (disk_rules space) (upto (count space 2))) (flat_map (solid_rules space) (upto (count space 3))) a.1 in
    (a.0, b.0, b.1)

-- and a space is regular where all rules are kept
pub regular_from : (space : List (List (List ℕ))) → ((e : ℕ) → 1 ≤ e → e ≤ count space 1 → two_ends space e ≡ true) → ((c : ℕ) → 1 ≤ c → c ≤ count space 2 → one_cycle space c ≡ true)
    → ((c : ℕ) → 1 ≤ c → c ≤ count space 3 → (each_twice space 2 (facets_of space 3 c) ≡ true) × (connected space 2 (facets_of space 3 c) ≡ true) × (is_spherical space c ≡ true)) → IsRegular space
regular_from space edges disks solids =
    none_before (flat_map (edge_rules space) (upto (count space 1))) (flat_map (disk_rules space) (upto (count space 2)) ++ flat_map (solid_rules space) (upto (count space 3)))
    (layer_none (edge_rules space) (count space 1) (count space 1) (omega arith) (λ k low high. head_kept (rule (two_ends space k) (EdgeEnds k)) [] (edges k low high)))
    ∙ (none_before (flat_map (disk_rules space) (upto (count space 2))) (flat_map (solid_rules space) (upto (count space 3)))
    (layer_none (disk_rules space) (count space 2) (count space 2) (omega arith) (λ k low high. head_kept (rule (one_cycle space k) (NotCycle k)) [] (disks k low high)))
    ∙ layer_none (solid_rules space) (count space 3) (count space 3) (omega arith)
    (λ c low high.
    let last : Rule = rule (is_spherical space c) (NotSphere c (boundary_euler space c)) in
    let second : Rule = rule (connected space 2 (facets_of space 3 c)) (Apart c) in
    let first : Rule = rule (each_twice space 2 (facets_of space 3 c)) (EdgeNotTwice c) in
    let k = solids c low high in
    head_kept first (second ∷ last ∷ []) k.0 ∙ (head_kept second (last ∷ []) k.1 ∙ head_kept last [] k.2)))
