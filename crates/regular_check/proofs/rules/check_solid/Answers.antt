use Rattle.std.proofs.Common.{◌≡◌, ◌≢◌, ◌+◌, ◌≤◌, ℕ, List, [], ◌∷◌, length, Bool, true, false, not, refl, ap, sym, ◌∙◌, arith, subst, pos, ◌+ℤ◌, ◌-ℤ◌, None, Some, Result, Ok, Err, OnOk, IfErr, MatchResult}
use Rattle.std.proofs.lemmas.Bool.{eq-eqb, false≢true, ne_eqb}
use Rattle.face_poset.specs.Poset.{IsCell, IsSpace, count, facets_of}
use Rattle.face_poset.specs.Below.{facets_of_all}
use Rattle.regular_check.specs.declared.fault.RegularFault.{RegularFault}
use Rattle.regular_check.specs.declared.fault.RegularFault.TheVariants.{EdgeNotTwice, Apart, NotSphere}
use Rattle.regular_check.specs.Rules.{Rule, rule, fault_in, each_twice, connected, is_spherical, boundary_euler, faces_count, solid_rules, IsFault}
use Rattle.regular_check.proofs.Cells.{facets-cell, short}
use Rattle.regular_check.proofs.Faults.{head_broken, head_kept}
use Rattle.regular_check.proofs.FaceCounts.{HasFaces, has_faces}
use Rattle.regular_check.proofs.rules.check_solid.Goals as goal

not_false : (b : Bool) → not b ≡ false → b ≡ true
not_false true e = refl
not_false false e = absurd (false≢true (sym e))

-- where the first two rules are kept, the third decides
third : (space : List (List (List ℕ))) (cell : ℕ) → each_twice space 2 (facets_of space 3 cell) ≡ true → connected space 2 (facets_of space 3 cell) ≡ true
    → fault_in (solid_rules space cell) ≡ fault_in (rule (is_spherical space cell) (NotSphere cell (boundary_euler space cell)) ∷ [])
third space cell a b =
    let last : List Rule = rule (is_spherical space cell) (NotSphere cell (boundary_euler space cell)) ∷ [] in
    let second : Rule = rule (connected space 2 (facets_of space 3 cell)) (Apart cell) in
    head_kept (rule (each_twice space 2 (facets_of space 3 cell)) (EdgeNotTwice cell)) (second ∷ last) a ∙ head_kept second last b

-- the answer of the third rule, by the numbers of vertices, edges and 2-cells
ended : (space : List (List (List ℕ))) (cell v e d : ℕ) (r : Result (Unit {0}) RegularFault) → each_twice space 2 (facets_of space 3 cell) ≡ true → connected space 2 (facets_of space 3 cell) ≡ true
    → v ≡ faces_count space cell 0 → e ≡ faces_count space cell 1 → d ≡ faces_count space cell 2
    → OnOk r (v + d ≡ e + 2) → IfErr r (λ fault. (fault ≡ NotSphere cell ((pos v -ℤ pos e) +ℤ pos d)) × (v + d ≢ e + 2))
    → MatchResult r (λ _. fault_in (solid_rules space cell) ≡ None) (IsFault (fault_in (solid_rules space cell)))
ended space cell v e d (Ok u) closed joined vs es ds kept broken =
    let sum : faces_count space cell 0 + faces_count space cell 2 ≡ faces_count space cell 1 + 2 = omega (arith, vs, es, ds, kept) in
    third space cell closed joined
    ∙ head_kept (rule (is_spherical space cell) (NotSphere cell (boundary_euler space cell))) [] (eq-eqb (faces_count space cell 0 + faces_count space cell 2) (faces_count space cell 1 + 2) sum)
ended space cell v e d (Err f) closed joined vs es ds kept broken =
    let moved : NotSphere cell (boundary_euler space cell) ≡ f =
    sym (broken.0 ∙ (ap (λ (n : ℕ). NotSphere cell ((pos n -ℤ pos e) +ℤ pos d)) vs
    ∙ (ap (λ (n : ℕ). NotSphere cell ((pos (faces_count space cell 0) -ℤ pos n) +ℤ pos d)) es
    ∙ ap (λ (n : ℕ). NotSphere cell ((pos (faces_count space cell 0) -ℤ pos (faces_count space cell 1)) +ℤ pos n)) ds))) in
    let fails : is_spherical space cell ≡ false = ne_eqb (faces_count space cell 0 + faces_count space cell 2) (faces_count space cell 1 + 2) (λ q. broken.1 (omega (arith, vs, es, ds, q))) in
    let all : fault_in (solid_rules space cell) ≡ Some (NotSphere cell (boundary_euler space cell)) =
    third space cell closed joined ∙ head_broken (rule (is_spherical space cell) (NotSphere cell (boundary_euler space cell))) [] fails in
    subst (IsFault (fault_in (solid_rules space cell))) moved all

-- the numbers counted are those of the closed cell
counts : (space : List (List (List ℕ))) (cell v e : ℕ) (disks : List ℕ) → IsSpace space → 1 ≤ cell → cell ≤ count space 3 → disks ≡ facets_of space 3 cell
    → v ≡ length (facets_of_all space 0 (facets_of_all space 1 disks)) → e ≡ length (facets_of_all space 1 disks)
    → (v ≡ faces_count space cell 0) × (e ≡ faces_count space cell 1) × (length disks ≡ faces_count space cell 2)
counts space cell v e disks h low high same vs es =
    let f : HasFaces space cell (facets_of space 3 cell) = has_faces space cell h low high in (
      vs ∙ (ap (λ (ds : List ℕ). length (facets_of_all space 0 (facets_of_all space 1 ds))) same ∙ sym f.vertices),
      es ∙ (ap (λ (ds : List ℕ). length (facets_of_all space 1 ds)) same ∙ sym f.edges),
      ap length same ∙ sym f.disks_too,
    )

pub overflow_cast-disks : goal.overflow_cast-disks
overflow_cast-disks c =
    let is : IsCell (count c.args.space.now 2) c.facets-disks.result.now =
    subst (IsCell (count c.args.space.now 2)) (sym c.facets-disks.ensures.facets) (facets-cell c.args.space.now 3 c.args.cell (count c.args.space.now 2) c.facets-disks.ensures.valid (omega arith) c.requires.first c.requires.last (omega arith)) in
    omega (arith, short c.facets-disks.result.now (count c.args.space.now 2) is, c.requires.few)

pub returns-clause-fault : goal.returns-clause-fault
returns-clause-fault c =
    let space : List (List (List ℕ)) = c.args.space.now in
    let closed : each_twice space 2 c.facets-disks.result.now ≡ true = sym c.in_ok-shape.ensures.closed ∙ not_false c.in_ok-shape.shape.is_closed c.if-not-shape.false in
    let joined : connected space 2 c.facets-disks.result.now ≡ true = sym (c.in_ok-shape.ensures.connected closed) ∙ not_false c.in_ok-shape.shape.is_connected c.if-not-shape-2.false in
    let n = counts space c.args.cell c.in_ok-vertices.vertices c.in_ok-edges.edges c.facets-disks.result.now c.facets-disks.ensures.valid c.requires.first c.requires.last c.facets-disks.ensures.facets c.in_ok-vertices.ensures.number c.in_ok-edges.ensures.number in
    ended space c.args.cell c.in_ok-vertices.vertices c.in_ok-edges.edges (length c.facets-disks.result.now) c.check_sphere.result
    (ap (each_twice space 2) (sym c.facets-disks.ensures.facets) ∙ closed) (ap (connected space 2) (sym c.facets-disks.ensures.facets) ∙ joined) n.0 n.1 n.2 c.check_sphere.ensures.kept c.check_sphere.ensures.broken
