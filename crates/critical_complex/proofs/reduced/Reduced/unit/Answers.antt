use Rattle.std.proofs.Common.{◌≡◌, ◌+◌, ◌<◌, ℕ, List, [], ◌∷◌, length, map, ap, sym, subst, ◌∙◌, refl}
use Rattle.std.proofs.lemmas.List.{length-map}
use Rattle.std.proofs.lemmas.Result.{IfOk-weaker}
use Rattle.split_laws.specs.declared.matching.Match.{Match}
use Rattle.pair_stages.specs.declared.unit.Unit.{Unit}
use Rattle.pair_stages.specs.Splits.{stage_at}
use Rattle.pair_stages.specs.Units.{pair_at, unit_of, IsUnitOf}
use Rattle.critical_complex.specs.Levels.{Level, units_at}
use Rattle.critical_complex.specs.Complex.{unit_at}
use Rattle.critical_complex.proofs.LevelLemmas.{seen}
use Rattle.critical_complex.proofs.UnitsOf.{unit_is}
use Rattle.critical_complex.proofs.reduced.Reduced.unit.Goals as goal

many : (ps : List Match) (units : List Unit) (index : ℕ) → map unit_of ps ≡ units → index < length units → index < length ps
many ps units index e lt = subst (λ (n : ℕ). index < n) (ap (λ (us : List Unit). length us) (sym e) ∙ length-map ps unit_of) lt

abbrev made : (left right : List (ℕ × ℕ)) → Unit
made left right = record { left = left; right = right }

is_unit : (p : Match) (u : Unit) → IsUnitOf p u → u ≡ unit_of p
is_unit p u h = ap (λ (xs : List (ℕ × ℕ)). made xs u.right) h.left ∙ ap (made (unit_of p).left) h.right

pub unit-requires : goal.unit-requires
unit-requires g c = record {
  degree = c.requires.degree;
  index = many (stage_at c.self.inside.stages c.args.dim).pairs (units_at c.args.self.now c.args.dim) c.args.index (ap (λ (l : Level). l.units) (seen c.self.inside.stages c.args.self.now c.self.view_is c.args.dim)) c.requires.index;
}

pub returns-clause-unit : goal.returns-clause-unit
returns-clause-unit g c =
    let ps : List Match = (stage_at c.self.inside.stages c.args.dim).pairs in
    let same : map unit_of ps ≡ units_at c.args.self.now c.args.dim = ap (λ (l : Level). l.units) (seen c.self.inside.stages c.args.self.now c.self.view_is c.args.dim) in
    let lt : c.args.index < length ps = many ps (units_at c.args.self.now c.args.dim) c.args.index same c.requires.index in
    IfOk-weaker c.unit.result (IsUnitOf (pair_at ps c.args.index)) (λ u. u ≡ unit_at (units_at c.args.self.now c.args.dim) c.args.index)
    (λ u h. is_unit (pair_at ps c.args.index) u h ∙ (sym (unit_is ps c.args.index lt) ∙ ap (λ (us : List Unit). unit_at us c.args.index) same))
    c.unit.ensures.unit
