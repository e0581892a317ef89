use Rattle.std.proofs.Common.{◌≡◌, ◌≤◌, ◌+◌, ◌-◌, ◌++◌, ℕ, List, All, length, map, ap, sym, ◌∙◌, subst, arith, append_assoc}
use Rattle.std.proofs.lemmas.List.{length-append}
use Rattle.std.proofs.lemmas.Result.{on_ok_weaker}
use Rattle.face_poset.specs.declared.cells.Cell.{Cell}
use Rattle.face_poset.specs.Poset.{count}
use Rattle.face_poset.specs.Below.{cell_at, facets_of_all, closure}
use Rattle.face_poset.proofs.BelowLemmas.{closure-step, facets_within, add_closure}
use Rattle.face_poset.proofs.below.+push_closure.Goals as goal

pub push_closure-requires : goal.push_closure-requires
push_closure-requires t c =
    let space : List (List (List ℕ)) = c.args.layers.now in
    let d : ℕ = c.args.dim - 1 in
    let is : c.deref.result.now ≡ facets_of_all space d c.args.cells.now = c.deref.ensures.value ∙ c.in_ok-facets.ensures in
    let room : length c.args.list.now + length (closure space d (facets_of_all space d c.args.cells.now)) + length c.args.cells.now ≤ 4294967295 =
    add_closure space c.args.dim c.args.cells.now c.args.list.now c.if-dim-eq0.false c.requires.room in (
      omega arith,
      (
        c.requires.valid,
        (
          omega (arith, c.requires.dim),
          (
            subst (λ (xs : List ℕ). All (λ n. (1 ≤ n) × (n ≤ count space d)) xs) (sym is) (facets_within space d c.args.cells.now),
            subst (λ (xs : List ℕ). length c.args.list.now + length (closure space d xs) ≤ 4294967295) (sym is) (omega arith),
          ),
        ),
      ),
    )

pub push_cells-requires-2 : goal.push_cells-requires-2
push_cells-requires-2 t c =
    let space : List (List (List ℕ)) = c.args.layers.now in
    let d : ℕ = c.args.dim - 1 in
    let lower : List ℕ = facets_of_all space d c.args.cells.now in
    let is : c.deref.result.now ≡ lower = c.deref.ensures.value ∙ c.in_ok-facets.ensures in
    let now : c.push_closure.new.list ≡ c.args.list.now ++ closure space d lower = c.in_ok-push_closure.ensures ∙ ap (λ (xs : List ℕ). c.args.list.now ++ closure space d xs) is in
    let room : length c.args.list.now + length (closure space d lower) + length c.args.cells.now ≤ 4294967295 = add_closure space c.args.dim c.args.cells.now c.args.list.now c.if-dim-eq0.false c.requires.room in
    omega (arith, ap length now, length-append c.args.list.now (closure space d lower))

pub returns : goal.returns
returns t c =
    let space : List (List (List ℕ)) = c.args.layers.now in
    let d : ℕ = c.args.dim - 1 in
    let lower : List ℕ = facets_of_all space d c.args.cells.now in
    let old : List Cell = c.args.list.now in
    let last : List Cell = map (cell_at c.args.dim) c.args.cells.now in
    let is : c.deref.result.now ≡ lower = c.deref.ensures.value ∙ c.in_ok-facets.ensures in
    let now : c.push_closure.new.list ≡ old ++ closure space d lower = c.in_ok-push_closure.ensures ∙ ap (λ (xs : List ℕ). old ++ closure space d xs) is in
    let step : old ++ closure space c.args.dim c.args.cells.now ≡ old ++ (closure space d lower ++ last) = ap (λ (cs : List Cell). old ++ cs) (closure-step space c.args.dim c.args.cells.now c.if-dim-eq0.false) in
    on_ok_weaker c.push_cells-2.result (λ e. e ∙ (ap (λ (cs : List Cell). cs ++ last) now ∙ (append_assoc old (closure space d lower) last ∙ sym step))) c.push_cells-2.ensures
