use Rattle.std.proofs.Common.{◌≡◌, ◌∙◌, ◌++◌, ◌∷◌, [], take, get_or, ap, sym, arith}
use Rattle.live_laws.specs.Live.{sound}
use Rattle.cover_search.proofs.Passages.{sound-empty, refused-all}
use Rattle.cover_search.proofs.course.Course.place_all.Goals as goal

pub loop-cell-init : goal.loop-cell-init
loop-cell-init c = record {
  relations = ap (λ v. v.relations) c.raise.ensures;
  most_same = ap (λ v. v.most) c.raise.ensures;
  sheets = ap (λ v. v.sheets) c.raise.ensures;
  cells = ap (λ v. v.cells) c.raise.ensures;
  sound = sound-empty c.args.self.now.relations c.args.sheets;
}

pub returns-then-not-try_place-clause-sound : goal.returns-then-not-try_place-clause-sound
returns-then-not-try_place-clause-sound c =
    let i = c.loop-cell.invariant in
    let told : c.try_place.result ≡ sound c.loop-cell.self.relations c.loop-cell.self.sheets (c.loop-cell.self.cells ++ get_or c.args.cells.now c.loop-cell.cell-index 0 ∷ []) = c.try_place.ensures.told in
    let e : sound c.args.self.now.relations c.args.sheets (take c.loop-cell.cell-index c.args.cells.now ++ get_or c.args.cells.now c.loop-cell.cell-index 0 ∷ []) ≡ c.try_place.result =
    sym
    (told
    ∙ (ap (λ R. sound R c.loop-cell.self.sheets (c.loop-cell.self.cells ++ get_or c.args.cells.now c.loop-cell.cell-index 0 ∷ [])) i.relations
    ∙ (ap (λ m. sound c.args.self.now.relations m (c.loop-cell.self.cells ++ get_or c.args.cells.now c.loop-cell.cell-index 0 ∷ [])) i.sheets
    ∙ ap (λ q. sound c.args.self.now.relations c.args.sheets (q ++ get_or c.args.cells.now c.loop-cell.cell-index 0 ∷ [])) i.cells))) in
    refused-all c.args.self.now.relations c.args.sheets c.args.self.now.most c.loop-cell.cell-index c.args.cells.now (omega arith) (e ∙ c.if-not-try_place.true)
