use Rattle.std.proofs.Common.{◌≡◌, ℕ, ◌<◌, ◌++◌, List, length, map, take, drop, not, replicate, sym, ap, ◌∙◌, arith, subst}
use Rattle.std.proofs.lemmas.Grind.{common_steps}
use Rattle.std.proofs.lemmas.Bool.{not-true, not-false}
use Rattle.small_field.specs.Values.{AreElements}
use Rattle.linear_laws.specs.Vectors.{IsVector, combination, InSpan}
use Rattle.linear_laws.specs.Echelon.{is_nonzero}
use Rattle.field_matrix.specs.Solutions.{IsElimination}
use Rattle.field_matrix.specs.Steps.{IsSwept, IsClearAt}
use Rattle.field_matrix.proofs.Solved.{negatives-vector, told_vector, solved, unsolvable}
use Rattle.field_matrix.proofs.history.Elimination.solve.Goals as goal

pub sweep-requires-clause-left : goal.sweep-requires-clause-left
sweep-requires-clause-left g c =
    let k = g.F.Field.ops in
    subst (IsVector k c.args.self.now.reduced.cols) (sym (c.deref_mut.ensures.value ∙ (c.in_ok-left.ensures ∙ ap (map k.neg) c.numbers.ensures.numbers)))
    (negatives-vector k g.met.F.Field.laws c.args.self.now.reduced.cols c.args.right.now (record { long = c.requires.right; elements = c.numbers.ensures.elements }))

pub is_zero-requires : goal.is_zero-requires
is_zero-requires g c =
    let k = g.F.Field.ops in
    let f = g.met.F.Field.laws in
    let n : ℕ = c.args.self.now.reduced.cols in
    let reduced : List (List ℕ) = c.args.self.now.reduced.rows in
    let history : List (List ℕ) = c.args.self.now.history.rows in
    let right : List ℕ = c.args.right.now in
    let vr : IsVector k n right = record { long = c.requires.right; elements = c.numbers.ensures.elements } in
    let left : List ℕ = c.sweep.new.left in
    let told : List ℕ = c.sweep.new.told in
    let begun : c.deref_mut.result.now ≡ map k.neg right = c.deref_mut.ensures.value ∙ (c.in_ok-left.ensures ∙ ap (map k.neg) c.numbers.ensures.numbers) in
    let same_left : take c.in_ok-left.left.len (left ++ drop (length left) c.in_ok-left.left.items) ≡ left = grind (arith, common_steps) in
    let same_told : take c.in_ok-told.told.len (told ++ drop (length told) c.in_ok-told.told.items) ≡ told = grind (arith, common_steps) in
    let long : length left ≡ n = c.sweep.ensures.left.long in
    subst (λ (w : List ℕ). length w < 4294967296) (sym (c.deref.ensures.value ∙ same_left)) (omega (arith, long, c.requires.right, c.numbers.ensures.few))

pub from_numbers-requires-clause-elements : goal.from_numbers-requires-clause-elements
from_numbers-requires-clause-elements g c =
    let k = g.F.Field.ops in
    let f = g.met.F.Field.laws in
    let n : ℕ = c.args.self.now.reduced.cols in
    let reduced : List (List ℕ) = c.args.self.now.reduced.rows in
    let history : List (List ℕ) = c.args.self.now.history.rows in
    let right : List ℕ = c.args.right.now in
    let vr : IsVector k n right = record { long = c.requires.right; elements = c.numbers.ensures.elements } in
    let left : List ℕ = c.sweep.new.left in
    let told : List ℕ = c.sweep.new.told in
    let begun : c.deref_mut.result.now ≡ map k.neg right = c.deref_mut.ensures.value ∙ (c.in_ok-left.ensures ∙ ap (map k.neg) c.numbers.ensures.numbers) in
    let same_left : take c.in_ok-left.left.len (left ++ drop (length left) c.in_ok-left.left.items) ≡ left = grind (arith, common_steps) in
    let same_told : take c.in_ok-told.told.len (told ++ drop (length told) c.in_ok-told.told.items) ≡ told = grind (arith, common_steps) in
    subst (AreElements k) (sym same_told) c.sweep.ensures.told.elements

pub returns-then-is_zero : goal.returns-then-is_zero
returns-then-is_zero g c =
    let k = g.F.Field.ops in
    let f = g.met.F.Field.laws in
    let n : ℕ = c.args.self.now.reduced.cols in
    let reduced : List (List ℕ) = c.args.self.now.reduced.rows in
    let history : List (List ℕ) = c.args.self.now.history.rows in
    let right : List ℕ = c.args.right.now in
    let vr : IsVector k n right = record { long = c.requires.right; elements = c.numbers.ensures.elements } in
    let left : List ℕ = c.sweep.new.left in
    let told : List ℕ = c.sweep.new.told in
    let begun : c.deref_mut.result.now ≡ map k.neg right = c.deref_mut.ensures.value ∙ (c.in_ok-left.ensures ∙ ap (map k.neg) c.numbers.ensures.numbers) in
    let same_left : take c.in_ok-left.left.len (left ++ drop (length left) c.in_ok-left.left.items) ≡ left = grind (arith, common_steps) in
    let same_told : take c.in_ok-told.told.len (told ++ drop (length told) c.in_ok-told.told.items) ≡ told = grind (arith, common_steps) in
    let seen : c.is_zero.result ≡ not (is_nonzero left) = c.is_zero.ensures ∙ ap (λ (w : List ℕ). not (is_nonzero w)) (c.deref.ensures.value ∙ same_left) in
    λ rows e.
    let same : c.args.self.now.history.cols ≡ length rows = c.requires.cols ∙ e.is_reduced.long in
    let s : IsSwept k n (length rows) reduced history (map k.neg right) left told =
    subst (λ (w : List ℕ). IsSwept k n (length rows) reduced history w left told) begun
    (subst (λ (j : ℕ). IsSwept k n j reduced history c.deref_mut.result.now left told) same c.sweep.ensures.swept) in
    let is : c.from_numbers.result ≡ told = c.from_numbers.ensures ∙ same_told in (
      subst (IsVector k (length rows)) (sym is) (told_vector k f n rows reduced history e right left told vr s),
      ap (λ (cs : List ℕ). combination k n cs rows) is ∙ solved k f n rows reduced history e right left told vr s c.sweep.ensures.left (not-true (is_nonzero left) (sym seen ∙ c.if-is_zero.true)),
    )

pub returns : goal.returns
returns g c =
    let k = g.F.Field.ops in
    let f = g.met.F.Field.laws in
    let n : ℕ = c.args.self.now.reduced.cols in
    let reduced : List (List ℕ) = c.args.self.now.reduced.rows in
    let history : List (List ℕ) = c.args.self.now.history.rows in
    let right : List ℕ = c.args.right.now in
    let vr : IsVector k n right = record { long = c.requires.right; elements = c.numbers.ensures.elements } in
    let left : List ℕ = c.sweep.new.left in
    let told : List ℕ = c.sweep.new.told in
    let begun : c.deref_mut.result.now ≡ map k.neg right = c.deref_mut.ensures.value ∙ (c.in_ok-left.ensures ∙ ap (map k.neg) c.numbers.ensures.numbers) in
    let same_left : take c.in_ok-left.left.len (left ++ drop (length left) c.in_ok-left.left.items) ≡ left = grind (arith, common_steps) in
    let same_told : take c.in_ok-told.told.len (told ++ drop (length told) c.in_ok-told.told.items) ≡ told = grind (arith, common_steps) in
    let seen : c.is_zero.result ≡ not (is_nonzero left) = c.is_zero.ensures ∙ ap (λ (w : List ℕ). not (is_nonzero w)) (c.deref.ensures.value ∙ same_left) in
    λ rows e.
    let same : c.args.self.now.history.cols ≡ length rows = c.requires.cols ∙ e.is_reduced.long in
    let s : IsSwept k n (length rows) reduced history (map k.neg right) left told =
    subst (λ (w : List ℕ). IsSwept k n (length rows) reduced history w left told) begun
    (subst (λ (j : ℕ). IsSwept k n j reduced history c.deref_mut.result.now left told) same c.sweep.ensures.swept) in
    unsolvable k f n rows reduced history e right left told vr s c.sweep.ensures.clear (not-false (is_nonzero left) (sym seen ∙ c.if-is_zero.false))
