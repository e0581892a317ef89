use Rattle.std.proofs.Common.{◌≡◌, ◌∙◌, ◌-◌, take, ap, sym, refl, true, false, arith}
use Rattle.live_laws.specs.Live.{is_listed}
use Rattle.cover_search.specs.Courses.{here}
use Rattle.cover_search.proofs.Units.{placed-by, listed-by, short-by, over-by, rest-is, skipped, here-is, unit-more}
use Rattle.cover_search.proofs.course.Course.place.Goals as goal

pub returns-then-is_listed-clause-placed : goal.returns-then-is_listed-clause-placed
returns-then-is_listed-clause-placed c =
    let more = unit-more c.args.budget.now c.units.budget c.units.invariant.units c.units.invariant.within in
    let valid = c.sheets-sheets.ensures.valid in
    let at = here-is c.units.self c.sheets-sheets.result c.len-length.result c.units.self.written valid c.sheets-sheets.ensures.sheets c.len-length.ensures refl in
    placed-by c.args.self.now c.units.self c.units.self (c.args.budget.now - c.units.budget) (c.args.budget.now - (c.units.budget - 1)) (c.sheets-sheets.result, take c.len-length.result c.units.self.written) c.units.invariant.left more at

pub returns-then-is_listed-clause-stop : goal.returns-then-is_listed-clause-stop
returns-then-is_listed-clause-stop c =
    let more = unit-more c.args.budget.now c.units.budget c.units.invariant.units c.units.invariant.within in
    let valid = c.sheets-sheets.ensures.valid in
    let at = here-is c.units.self c.sheets-sheets.result c.len-length.result c.units.self.written valid c.sheets-sheets.ensures.sheets c.len-length.ensures refl in
    let told : is_listed c.args.self.now.relations (here c.units.self) ≡ true = ap (λ R. is_listed R (here c.units.self)) (sym c.units.invariant.relations) ∙ (sym c.is_listed.ensures ∙ c.if-is_listed.true) in
    listed-by c.args.self.now c.units.self c.units.self (c.args.budget.now - c.units.budget) (c.args.budget.now - (c.units.budget - 1)) (c.sheets-sheets.result, take c.len-length.result c.units.self.written) c.units.invariant.left more at c.units.invariant.none told refl

pub returns-then-budget-eq0-clause-placed : goal.returns-then-budget-eq0-clause-placed
returns-then-budget-eq0-clause-placed c =
    let more = unit-more c.args.budget.now c.units.budget c.units.invariant.units c.units.invariant.within in
    let valid = c.sheets-sheets.ensures.valid in
    let at = here-is c.units.self c.sheets-sheets.result c.len-length.result c.units.self.written valid c.sheets-sheets.ensures.sheets c.len-length.ensures refl in
    placed-by c.args.self.now c.units.self c.units.self (c.args.budget.now - c.units.budget) (c.args.budget.now - (c.units.budget - 1)) (c.sheets-sheets.result, take c.len-length.result c.units.self.written) c.units.invariant.left more at

pub returns-then-budget-eq0-clause-stop : goal.returns-then-budget-eq0-clause-stop
returns-then-budget-eq0-clause-stop c =
    let more = unit-more c.args.budget.now c.units.budget c.units.invariant.units c.units.invariant.within in
    let valid = c.sheets-sheets.ensures.valid in
    let at = here-is c.units.self c.sheets-sheets.result c.len-length.result c.units.self.written valid c.sheets-sheets.ensures.sheets c.len-length.ensures refl in
    let told : is_listed c.args.self.now.relations (here c.units.self) ≡ false = ap (λ R. is_listed R (here c.units.self)) (sym c.units.invariant.relations) ∙ (sym c.is_listed.ensures ∙ c.if-is_listed.false) in
    short-by c.args.self.now c.units.self c.units.self (c.args.budget.now - c.units.budget) (c.args.budget.now - (c.units.budget - 1)) (c.sheets-sheets.result, take c.len-length.result c.units.self.written) c.units.invariant.left more at c.units.invariant.none (c.units.budget - 1) told refl c.if-budget-eq0.true

pub returns-then-not-advance-clause-placed : goal.returns-then-not-advance-clause-placed
returns-then-not-advance-clause-placed c =
    let more = unit-more c.args.budget.now c.units.budget c.units.invariant.units c.units.invariant.within in
    let valid = c.sheets-sheets.ensures.valid in
    let at = here-is c.units.self c.sheets-sheets.result c.len-length.result c.advance.new.self.written valid c.sheets-sheets.ensures.sheets c.len-length.ensures (c.advance.ensures.end c.if-not-advance.true).written in
    placed-by c.args.self.now c.units.self c.advance.new.self (c.args.budget.now - c.units.budget) (c.args.budget.now - (c.units.budget - 1)) (c.sheets-sheets.result, take c.len-length.result c.advance.new.self.written) c.units.invariant.left more at

pub returns-then-not-advance-clause-stop : goal.returns-then-not-advance-clause-stop
returns-then-not-advance-clause-stop c =
    let more = unit-more c.args.budget.now c.units.budget c.units.invariant.units c.units.invariant.within in
    let valid = c.sheets-sheets.ensures.valid in
    let at = here-is c.units.self c.sheets-sheets.result c.len-length.result c.advance.new.self.written valid c.sheets-sheets.ensures.sheets c.len-length.ensures (c.advance.ensures.end c.if-not-advance.true).written in
    let told : is_listed c.args.self.now.relations (here c.units.self) ≡ false = ap (λ R. is_listed R (here c.units.self)) (sym c.units.invariant.relations) ∙ (sym c.is_listed.ensures ∙ c.if-is_listed.false) in
    over-by c.args.self.now c.units.self c.advance.new.self (c.args.budget.now - c.units.budget) (c.args.budget.now - (c.units.budget - 1)) (c.sheets-sheets.result, take c.len-length.result c.advance.new.self.written) c.units.invariant.left more at c.units.invariant.none told c.units.invariant.relations c.units.invariant.most_same (c.advance.ensures.end c.if-not-advance.true).none

pub units-preserved : goal.units-preserved
units-preserved c =
    let more = unit-more c.args.budget.now c.units.budget c.units.invariant.units c.units.invariant.within in
    let valid = c.sheets-sheets.ensures.valid in
    let at = here-is c.units.self c.sheets-sheets.result c.len-length.result c.units.self.written valid c.sheets-sheets.ensures.sheets c.len-length.ensures refl in
    let told : is_listed c.args.self.now.relations (here c.units.self) ≡ false = ap (λ R. is_listed R (here c.units.self)) (sym c.units.invariant.relations) ∙ (sym c.is_listed.ensures ∙ c.if-is_listed.false) in
    let next = c.advance.ensures.next c.if-not-advance.false in
    record {
      relations = c.advance.ensures.same.relations ∙ c.units.invariant.relations;
      most_same = c.advance.ensures.same.most ∙ c.units.invariant.most_same;
      some = next.some;
      units = omega (arith, c.if-budget-eq0.false);
      within = omega (arith, c.units.invariant.within);
      left = rest-is c.args.self.now c.units.self c.units.self (c.args.budget.now - c.units.budget) (c.args.budget.now - (c.units.budget - 1)) (c.sheets-sheets.result, take c.len-length.result c.units.self.written) c.units.invariant.left more at ∙ next.is;
      none = skipped c.args.self.now c.units.self c.units.self (c.args.budget.now - c.units.budget) (c.args.budget.now - (c.units.budget - 1)) (c.sheets-sheets.result, take c.len-length.result c.units.self.written) c.units.invariant.left more at c.units.invariant.none told;
    }
