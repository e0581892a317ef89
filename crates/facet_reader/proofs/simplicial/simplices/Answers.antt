use Rattle.std.proofs.Common.{◌≡◌, ℕ, List, length, map, refl, ap, sym, ◌∙◌, subst, arith, Bool, Result, Err}
use Rattle.std.proofs.lemmas.Result.{err_from_is_err_and}
use Rattle.face_poset.specs.Poset.{Layers}
use Rattle.gap_text.specs.Nest.{view}
use Rattle.facet_reader.specs.declared.fault.FacetFault.{FacetFault}
use Rattle.facet_reader.specs.declared.fault.FacetFault.TheVariants.{TooManyCells}
use Rattle.facet_reader.specs.SetSpaces.{sets_of, set_space}
use Rattle.facet_reader.specs.Simplices.{numbered_row, is_face, simplices_of}
use Rattle.facet_reader.specs.Places.{AreSets, IsComplex}
use Rattle.facet_reader.proofs.Whole.{digits-are, rows-are, some-is, many-vertices, many-sets, many-cells, complex-is, sets-are, all-cells, regular-cells}
use Rattle.facet_reader.proofs.simplicial.simplices.Goals as goal

-- the only fault
one_fault : (r : Result Layers FacetFault) (f : FacetFault) → r ≡ Err TooManyCells → f ≡ TooManyCells → r ≡ Err f
one_fault r f h e = subst (λ (g : FacetFault). r ≡ Err g) (sym e) h

-- the rows by the vertices that were handed over
rows_is : (labels : List (List ℕ)) (vs handed : List ℕ) (rows : List (List ℕ)) → handed ≡ vs → rows ≡ map (numbered_row handed) labels → rows ≡ map (numbered_row vs) labels
rows_is labels vs handed rows e h = h ∙ ap (λ (w : List ℕ). map (numbered_row w) labels) e

pub returns-then-len-gt-MOST_CELLS-clause-fault : goal.returns-then-len-gt-MOST_CELLS-clause-fault
returns-then-len-gt-MOST_CELLS-clause-fault c =
    λ _. many-vertices (view c.args.nest.now) c.in_ok-labels.labels c.in_ok-vertices.vertices.items (map (numbered_row c.in_ok-vertices.vertices.items) c.in_ok-labels.labels) c.in_ok-labels.ensures.rows c.in_ok-vertices.ensures refl
    (omega (arith, c.len.ensures, c.if-len-gt-MOST_CELLS.true))

pub list_sets-requires-clause-digits : goal.list_sets-requires-clause-digits
list_sets-requires-clause-digits c = digits-are (view c.args.nest.now) c.in_ok-labels.labels c.in_ok-vertices.vertices.items c.in_ok-rows.rows c.in_ok-labels.ensures.rows c.in_ok-vertices.ensures (rows_is c.in_ok-labels.labels c.in_ok-vertices.vertices.items c.deref.result.now c.in_ok-rows.rows c.deref.ensures.value c.in_ok-rows.ensures) (omega (arith, c.len.ensures, c.if-len-gt-MOST_CELLS.false))

pub list_sets-requires-2-clause-digits : goal.list_sets-requires-2-clause-digits
list_sets-requires-2-clause-digits c = digits-are (view c.args.nest.now) c.in_ok-labels.labels c.in_ok-vertices.vertices.items c.in_ok-rows.rows c.in_ok-labels.ensures.rows c.in_ok-vertices.ensures (rows_is c.in_ok-labels.labels c.in_ok-vertices.vertices.items c.deref.result.now c.in_ok-rows.rows c.deref.ensures.value c.in_ok-rows.ensures) (omega (arith, c.len.ensures, c.if-len-gt-MOST_CELLS.false))

pub list_sets-requires-3-clause-digits : goal.list_sets-requires-3-clause-digits
list_sets-requires-3-clause-digits c = digits-are (view c.args.nest.now) c.in_ok-labels.labels c.in_ok-vertices.vertices.items c.in_ok-rows.rows c.in_ok-labels.ensures.rows c.in_ok-vertices.ensures (rows_is c.in_ok-labels.labels c.in_ok-vertices.vertices.items c.deref.result.now c.in_ok-rows.rows c.deref.ensures.value c.in_ok-rows.ensures) (omega (arith, c.len.ensures, c.if-len-gt-MOST_CELLS.false))

pub returns-in_err-edges-clause-fault : goal.returns-in_err-edges-clause-fault
returns-in_err-edges-clause-fault c =
    let p = err_from_is_err_and c.from_residual-in_err-edges.result c.from_residual-in_err-edges.ensures.1 in
    rw (p.1, p.2) (λ ne. one_fault (simplices_of (view c.args.nest.now)) c.in_err-edges.field-0.0 (many-sets (view c.args.nest.now) c.in_ok-labels.labels c.in_ok-vertices.vertices.items c.in_ok-rows.rows c.in_ok-labels.ensures.rows c.in_ok-vertices.ensures (rows_is c.in_ok-labels.labels c.in_ok-vertices.vertices.items c.deref.result.now c.in_ok-rows.rows c.deref.ensures.value c.in_ok-rows.ensures) 1 (omega arith) (c.in_err-edges.ensures.many ne (length c.in_ok-vertices.vertices.items) (rows-are (view c.args.nest.now) c.in_ok-labels.labels c.in_ok-vertices.vertices.items c.in_ok-rows.rows c.in_ok-labels.ensures.rows c.in_ok-vertices.ensures (rows_is c.in_ok-labels.labels c.in_ok-vertices.vertices.items c.deref.result.now c.in_ok-rows.rows c.deref.ensures.value c.in_ok-rows.ensures)))) (c.in_err-edges.ensures.cause ne))

pub returns-in_err-triangles-clause-fault : goal.returns-in_err-triangles-clause-fault
returns-in_err-triangles-clause-fault c =
    let p = err_from_is_err_and c.from_residual-in_err-triangles.result c.from_residual-in_err-triangles.ensures.1 in
    rw (p.1, p.2) (λ ne. one_fault (simplices_of (view c.args.nest.now)) c.in_err-triangles.field-0.0 (many-sets (view c.args.nest.now) c.in_ok-labels.labels c.in_ok-vertices.vertices.items c.in_ok-rows.rows c.in_ok-labels.ensures.rows c.in_ok-vertices.ensures (rows_is c.in_ok-labels.labels c.in_ok-vertices.vertices.items c.deref.result.now c.in_ok-rows.rows c.deref.ensures.value c.in_ok-rows.ensures) 2 (omega arith) (c.in_err-triangles.ensures.many ne (length c.in_ok-vertices.vertices.items) (rows-are (view c.args.nest.now) c.in_ok-labels.labels c.in_ok-vertices.vertices.items c.in_ok-rows.rows c.in_ok-labels.ensures.rows c.in_ok-vertices.ensures (rows_is c.in_ok-labels.labels c.in_ok-vertices.vertices.items c.deref.result.now c.in_ok-rows.rows c.deref.ensures.value c.in_ok-rows.ensures)))) (c.in_err-triangles.ensures.cause ne))

pub returns-in_err-solids-clause-fault : goal.returns-in_err-solids-clause-fault
returns-in_err-solids-clause-fault c =
    let p = err_from_is_err_and c.from_residual-in_err-solids.result c.from_residual-in_err-solids.ensures.1 in
    rw (p.1, p.2) (λ ne. one_fault (simplices_of (view c.args.nest.now)) c.in_err-solids.field-0.0 (many-sets (view c.args.nest.now) c.in_ok-labels.labels c.in_ok-vertices.vertices.items c.in_ok-rows.rows c.in_ok-labels.ensures.rows c.in_ok-vertices.ensures (rows_is c.in_ok-labels.labels c.in_ok-vertices.vertices.items c.deref.result.now c.in_ok-rows.rows c.deref.ensures.value c.in_ok-rows.ensures) 3 (omega arith) (c.in_err-solids.ensures.many ne (length c.in_ok-vertices.vertices.items) (rows-are (view c.args.nest.now) c.in_ok-labels.labels c.in_ok-vertices.vertices.items c.in_ok-rows.rows c.in_ok-labels.ensures.rows c.in_ok-vertices.ensures (rows_is c.in_ok-labels.labels c.in_ok-vertices.vertices.items c.deref.result.now c.in_ok-rows.rows c.deref.ensures.value c.in_ok-rows.ensures)))) (c.in_err-solids.ensures.cause ne))

pub returns-then-len-gt-MOST_CELLS-2-clause-fault : goal.returns-then-len-gt-MOST_CELLS-2-clause-fault
returns-then-len-gt-MOST_CELLS-2-clause-fault c =
    λ _. many-cells (view c.args.nest.now) c.in_ok-labels.labels c.in_ok-vertices.vertices.items c.in_ok-rows.rows c.in_ok-labels.ensures.rows c.in_ok-vertices.ensures (rows_is c.in_ok-labels.labels c.in_ok-vertices.vertices.items c.deref.result.now c.in_ok-rows.rows c.deref.ensures.value c.in_ok-rows.ensures) c.in_ok-edges.edges.items c.in_ok-triangles.triangles.items c.in_ok-solids.solids.items (c.in_ok-edges.ensures.sets (length c.in_ok-vertices.vertices.items) (rows-are (view c.args.nest.now) c.in_ok-labels.labels c.in_ok-vertices.vertices.items c.in_ok-rows.rows c.in_ok-labels.ensures.rows c.in_ok-vertices.ensures (rows_is c.in_ok-labels.labels c.in_ok-vertices.vertices.items c.deref.result.now c.in_ok-rows.rows c.deref.ensures.value c.in_ok-rows.ensures)) (omega (arith, c.len.ensures, c.if-len-gt-MOST_CELLS.false))) (c.in_ok-triangles.ensures.sets (length c.in_ok-vertices.vertices.items) (rows-are (view c.args.nest.now) c.in_ok-labels.labels c.in_ok-vertices.vertices.items c.in_ok-rows.rows c.in_ok-labels.ensures.rows c.in_ok-vertices.ensures (rows_is c.in_ok-labels.labels c.in_ok-vertices.vertices.items c.deref.result.now c.in_ok-rows.rows c.deref.ensures.value c.in_ok-rows.ensures)) (omega (arith, c.len.ensures, c.if-len-gt-MOST_CELLS.false))) (c.in_ok-solids.ensures.sets (length c.in_ok-vertices.vertices.items) (rows-are (view c.args.nest.now) c.in_ok-labels.labels c.in_ok-vertices.vertices.items c.in_ok-rows.rows c.in_ok-labels.ensures.rows c.in_ok-vertices.ensures (rows_is c.in_ok-labels.labels c.in_ok-vertices.vertices.items c.deref.result.now c.in_ok-rows.rows c.deref.ensures.value c.in_ok-rows.ensures)) (omega (arith, c.len.ensures, c.if-len-gt-MOST_CELLS.false)))
    (omega (arith, c.len-2.ensures, c.len-3.ensures, c.len-4.ensures, c.len-5.ensures, c.if-len-gt-MOST_CELLS-2.true))

pub build-requires-clause-some : goal.build-requires-clause-some
build-requires-clause-some c = omega (arith, c.len-6.ensures, some-is (view c.args.nest.now) c.in_ok-labels.labels c.in_ok-vertices.vertices.items c.in_ok-rows.rows c.in_ok-labels.ensures.rows c.in_ok-vertices.ensures (rows_is c.in_ok-labels.labels c.in_ok-vertices.vertices.items c.deref.result.now c.in_ok-rows.rows c.deref.ensures.value c.in_ok-rows.ensures))

-- what was handed over is what was made
handed_complex : (n m : ℕ) (a b c x y z : List ℕ) → m ≡ n → x ≡ a → y ≡ b → z ≡ c → IsComplex n a b c → IsComplex m x y z
handed_complex n m a b c x y z e p q r h =
    subst (λ (k : ℕ). IsComplex k x y z) (sym e) (subst (λ (w : List ℕ). IsComplex n w y z) (sym p) (subst (λ (w : List ℕ). IsComplex n a w z) (sym q) (subst (λ (w : List ℕ). IsComplex n a b w) (sym r) h)))

handed_sets : (test : List ℕ → Bool) (n m : ℕ) (a b c x y z : List ℕ) → m ≡ n → x ≡ a → y ≡ b → z ≡ c → AreSets n test a b c → AreSets m test x y z
handed_sets test n m a b c x y z e p q r h =
    subst (λ (k : ℕ). AreSets k test x y z) (sym e) (subst (λ (w : List ℕ). AreSets n test w y z) (sym p) (subst (λ (w : List ℕ). AreSets n test a w z) (sym q) (subst (λ (w : List ℕ). AreSets n test a b w) (sym r) h)))

pub build-requires-clause-complex : goal.build-requires-clause-complex
build-requires-clause-complex c =
    handed_complex (length c.in_ok-vertices.vertices.items) c.len-6.result c.in_ok-edges.edges.items c.in_ok-triangles.triangles.items c.in_ok-solids.solids.items c.deref-2.result.now c.deref-3.result.now c.deref-4.result.now (omega (arith, c.len-6.ensures)) c.deref-2.ensures.value c.deref-3.ensures.value c.deref-4.ensures.value
    (complex-is (view c.args.nest.now) c.in_ok-labels.labels c.in_ok-vertices.vertices.items c.in_ok-rows.rows c.in_ok-labels.ensures.rows c.in_ok-vertices.ensures (rows_is c.in_ok-labels.labels c.in_ok-vertices.vertices.items c.deref.result.now c.in_ok-rows.rows c.deref.ensures.value c.in_ok-rows.ensures) c.in_ok-edges.edges.items c.in_ok-triangles.triangles.items c.in_ok-solids.solids.items (c.in_ok-edges.ensures.sets (length c.in_ok-vertices.vertices.items) (rows-are (view c.args.nest.now) c.in_ok-labels.labels c.in_ok-vertices.vertices.items c.in_ok-rows.rows c.in_ok-labels.ensures.rows c.in_ok-vertices.ensures (rows_is c.in_ok-labels.labels c.in_ok-vertices.vertices.items c.deref.result.now c.in_ok-rows.rows c.deref.ensures.value c.in_ok-rows.ensures)) (omega (arith, c.len.ensures, c.if-len-gt-MOST_CELLS.false))) (c.in_ok-triangles.ensures.sets (length c.in_ok-vertices.vertices.items) (rows-are (view c.args.nest.now) c.in_ok-labels.labels c.in_ok-vertices.vertices.items c.in_ok-rows.rows c.in_ok-labels.ensures.rows c.in_ok-vertices.ensures (rows_is c.in_ok-labels.labels c.in_ok-vertices.vertices.items c.deref.result.now c.in_ok-rows.rows c.deref.ensures.value c.in_ok-rows.ensures)) (omega (arith, c.len.ensures, c.if-len-gt-MOST_CELLS.false))) (c.in_ok-solids.ensures.sets (length c.in_ok-vertices.vertices.items) (rows-are (view c.args.nest.now) c.in_ok-labels.labels c.in_ok-vertices.vertices.items c.in_ok-rows.rows c.in_ok-labels.ensures.rows c.in_ok-vertices.ensures (rows_is c.in_ok-labels.labels c.in_ok-vertices.vertices.items c.deref.result.now c.in_ok-rows.rows c.deref.ensures.value c.in_ok-rows.ensures)) (omega (arith, c.len.ensures, c.if-len-gt-MOST_CELLS.false))))

pub returns-clause-space : goal.returns-clause-space
returns-clause-space c =
    all-cells (view c.args.nest.now) c.in_ok-labels.labels c.in_ok-vertices.vertices.items c.in_ok-rows.rows c.in_ok-labels.ensures.rows c.in_ok-vertices.ensures (rows_is c.in_ok-labels.labels c.in_ok-vertices.vertices.items c.deref.result.now c.in_ok-rows.rows c.deref.ensures.value c.in_ok-rows.ensures) c.in_ok-edges.edges.items c.in_ok-triangles.triangles.items c.in_ok-solids.solids.items (c.in_ok-edges.ensures.sets (length c.in_ok-vertices.vertices.items) (rows-are (view c.args.nest.now) c.in_ok-labels.labels c.in_ok-vertices.vertices.items c.in_ok-rows.rows c.in_ok-labels.ensures.rows c.in_ok-vertices.ensures (rows_is c.in_ok-labels.labels c.in_ok-vertices.vertices.items c.deref.result.now c.in_ok-rows.rows c.deref.ensures.value c.in_ok-rows.ensures)) (omega (arith, c.len.ensures, c.if-len-gt-MOST_CELLS.false))) (c.in_ok-triangles.ensures.sets (length c.in_ok-vertices.vertices.items) (rows-are (view c.args.nest.now) c.in_ok-labels.labels c.in_ok-vertices.vertices.items c.in_ok-rows.rows c.in_ok-labels.ensures.rows c.in_ok-vertices.ensures (rows_is c.in_ok-labels.labels c.in_ok-vertices.vertices.items c.deref.result.now c.in_ok-rows.rows c.deref.ensures.value c.in_ok-rows.ensures)) (omega (arith, c.len.ensures, c.if-len-gt-MOST_CELLS.false))) (c.in_ok-solids.ensures.sets (length c.in_ok-vertices.vertices.items) (rows-are (view c.args.nest.now) c.in_ok-labels.labels c.in_ok-vertices.vertices.items c.in_ok-rows.rows c.in_ok-labels.ensures.rows c.in_ok-vertices.ensures (rows_is c.in_ok-labels.labels c.in_ok-vertices.vertices.items c.deref.result.now c.in_ok-rows.rows c.deref.ensures.value c.in_ok-rows.ensures)) (omega (arith, c.len.ensures, c.if-len-gt-MOST_CELLS.false))) c.in_ok-space.space
    (omega (arith, c.len-2.ensures, c.len-3.ensures, c.len-4.ensures, c.len-5.ensures, c.if-len-gt-MOST_CELLS-2.false))
    (c.in_ok-space.ensures (is_face c.in_ok-rows.rows)
    (handed_sets (is_face c.in_ok-rows.rows) (length c.in_ok-vertices.vertices.items) c.len-6.result c.in_ok-edges.edges.items c.in_ok-triangles.triangles.items c.in_ok-solids.solids.items c.deref-2.result.now c.deref-3.result.now c.deref-4.result.now (omega (arith, c.len-6.ensures)) c.deref-2.ensures.value c.deref-3.ensures.value c.deref-4.ensures.value (sets-are (view c.args.nest.now) c.in_ok-labels.labels c.in_ok-vertices.vertices.items c.in_ok-rows.rows c.in_ok-labels.ensures.rows c.in_ok-vertices.ensures (rows_is c.in_ok-labels.labels c.in_ok-vertices.vertices.items c.deref.result.now c.in_ok-rows.rows c.deref.ensures.value c.in_ok-rows.ensures) c.in_ok-edges.edges.items c.in_ok-triangles.triangles.items c.in_ok-solids.solids.items (c.in_ok-edges.ensures.sets (length c.in_ok-vertices.vertices.items) (rows-are (view c.args.nest.now) c.in_ok-labels.labels c.in_ok-vertices.vertices.items c.in_ok-rows.rows c.in_ok-labels.ensures.rows c.in_ok-vertices.ensures (rows_is c.in_ok-labels.labels c.in_ok-vertices.vertices.items c.deref.result.now c.in_ok-rows.rows c.deref.ensures.value c.in_ok-rows.ensures)) (omega (arith, c.len.ensures, c.if-len-gt-MOST_CELLS.false))) (c.in_ok-triangles.ensures.sets (length c.in_ok-vertices.vertices.items) (rows-are (view c.args.nest.now) c.in_ok-labels.labels c.in_ok-vertices.vertices.items c.in_ok-rows.rows c.in_ok-labels.ensures.rows c.in_ok-vertices.ensures (rows_is c.in_ok-labels.labels c.in_ok-vertices.vertices.items c.deref.result.now c.in_ok-rows.rows c.deref.ensures.value c.in_ok-rows.ensures)) (omega (arith, c.len.ensures, c.if-len-gt-MOST_CELLS.false))) (c.in_ok-solids.ensures.sets (length c.in_ok-vertices.vertices.items) (rows-are (view c.args.nest.now) c.in_ok-labels.labels c.in_ok-vertices.vertices.items c.in_ok-rows.rows c.in_ok-labels.ensures.rows c.in_ok-vertices.ensures (rows_is c.in_ok-labels.labels c.in_ok-vertices.vertices.items c.deref.result.now c.in_ok-rows.rows c.deref.ensures.value c.in_ok-rows.ensures)) (omega (arith, c.len.ensures, c.if-len-gt-MOST_CELLS.false)))))
    ∙ ap (λ (k : ℕ). set_space (sets_of k (is_face c.in_ok-rows.rows))) (let e : c.len-6.result ≡ length c.in_ok-vertices.vertices.items = omega (arith, c.len-6.ensures) in e))

pub returns-clause-regular : goal.returns-clause-regular
returns-clause-regular c =
    regular-cells (view c.args.nest.now) c.in_ok-labels.labels c.in_ok-vertices.vertices.items c.in_ok-rows.rows c.in_ok-labels.ensures.rows c.in_ok-vertices.ensures (rows_is c.in_ok-labels.labels c.in_ok-vertices.vertices.items c.deref.result.now c.in_ok-rows.rows c.deref.ensures.value c.in_ok-rows.ensures) c.in_ok-edges.edges.items c.in_ok-triangles.triangles.items c.in_ok-solids.solids.items (c.in_ok-edges.ensures.sets (length c.in_ok-vertices.vertices.items) (rows-are (view c.args.nest.now) c.in_ok-labels.labels c.in_ok-vertices.vertices.items c.in_ok-rows.rows c.in_ok-labels.ensures.rows c.in_ok-vertices.ensures (rows_is c.in_ok-labels.labels c.in_ok-vertices.vertices.items c.deref.result.now c.in_ok-rows.rows c.deref.ensures.value c.in_ok-rows.ensures)) (omega (arith, c.len.ensures, c.if-len-gt-MOST_CELLS.false))) (c.in_ok-triangles.ensures.sets (length c.in_ok-vertices.vertices.items) (rows-are (view c.args.nest.now) c.in_ok-labels.labels c.in_ok-vertices.vertices.items c.in_ok-rows.rows c.in_ok-labels.ensures.rows c.in_ok-vertices.ensures (rows_is c.in_ok-labels.labels c.in_ok-vertices.vertices.items c.deref.result.now c.in_ok-rows.rows c.deref.ensures.value c.in_ok-rows.ensures)) (omega (arith, c.len.ensures, c.if-len-gt-MOST_CELLS.false))) (c.in_ok-solids.ensures.sets (length c.in_ok-vertices.vertices.items) (rows-are (view c.args.nest.now) c.in_ok-labels.labels c.in_ok-vertices.vertices.items c.in_ok-rows.rows c.in_ok-labels.ensures.rows c.in_ok-vertices.ensures (rows_is c.in_ok-labels.labels c.in_ok-vertices.vertices.items c.deref.result.now c.in_ok-rows.rows c.deref.ensures.value c.in_ok-rows.ensures)) (omega (arith, c.len.ensures, c.if-len-gt-MOST_CELLS.false))) c.set_spaces_are_regular.ensures c.in_ok-space.space
    (omega (arith, c.len-2.ensures, c.len-3.ensures, c.len-4.ensures, c.len-5.ensures, c.if-len-gt-MOST_CELLS-2.false))
    (c.in_ok-space.ensures (is_face c.in_ok-rows.rows)
    (handed_sets (is_face c.in_ok-rows.rows) (length c.in_ok-vertices.vertices.items) c.len-6.result c.in_ok-edges.edges.items c.in_ok-triangles.triangles.items c.in_ok-solids.solids.items c.deref-2.result.now c.deref-3.result.now c.deref-4.result.now (omega (arith, c.len-6.ensures)) c.deref-2.ensures.value c.deref-3.ensures.value c.deref-4.ensures.value (sets-are (view c.args.nest.now) c.in_ok-labels.labels c.in_ok-vertices.vertices.items c.in_ok-rows.rows c.in_ok-labels.ensures.rows c.in_ok-vertices.ensures (rows_is c.in_ok-labels.labels c.in_ok-vertices.vertices.items c.deref.result.now c.in_ok-rows.rows c.deref.ensures.value c.in_ok-rows.ensures) c.in_ok-edges.edges.items c.in_ok-triangles.triangles.items c.in_ok-solids.solids.items (c.in_ok-edges.ensures.sets (length c.in_ok-vertices.vertices.items) (rows-are (view c.args.nest.now) c.in_ok-labels.labels c.in_ok-vertices.vertices.items c.in_ok-rows.rows c.in_ok-labels.ensures.rows c.in_ok-vertices.ensures (rows_is c.in_ok-labels.labels c.in_ok-vertices.vertices.items c.deref.result.now c.in_ok-rows.rows c.deref.ensures.value c.in_ok-rows.ensures)) (omega (arith, c.len.ensures, c.if-len-gt-MOST_CELLS.false))) (c.in_ok-triangles.ensures.sets (length c.in_ok-vertices.vertices.items) (rows-are (view c.args.nest.now) c.in_ok-labels.labels c.in_ok-vertices.vertices.items c.in_ok-rows.rows c.in_ok-labels.ensures.rows c.in_ok-vertices.ensures (rows_is c.in_ok-labels.labels c.in_ok-vertices.vertices.items c.deref.result.now c.in_ok-rows.rows c.deref.ensures.value c.in_ok-rows.ensures)) (omega (arith, c.len.ensures, c.if-len-gt-MOST_CELLS.false))) (c.in_ok-solids.ensures.sets (length c.in_ok-vertices.vertices.items) (rows-are (view c.args.nest.now) c.in_ok-labels.labels c.in_ok-vertices.vertices.items c.in_ok-rows.rows c.in_ok-labels.ensures.rows c.in_ok-vertices.ensures (rows_is c.in_ok-labels.labels c.in_ok-vertices.vertices.items c.deref.result.now c.in_ok-rows.rows c.deref.ensures.value c.in_ok-rows.ensures)) (omega (arith, c.len.ensures, c.if-len-gt-MOST_CELLS.false)))))
    ∙ ap (λ (k : ℕ). set_space (sets_of k (is_face c.in_ok-rows.rows))) (let e : c.len-6.result ≡ length c.in_ok-vertices.vertices.items = omega (arith, c.len-6.ensures) in e))
