use Rattle.std.proofs.Common.{◌≡◌, ◌∙◌, [], length, ap, sym, subst, ◌≤◌, ◌&&◌, true}
use Rattle.std.specs.Prelude.{nat_le}
use Rattle.live_laws.specs.Live.{live, sound}
use Rattle.cover_search.proofs.Passages.{sound-fits}
use Rattle.cover_search.proofs.Advancing.{start-is-one}
use Rattle.cover_search.proofs.Resuming.{start-of, pair-of}
use Rattle.cover_search.proofs.search.set_out.Goals as goal

pub returns-then-sheets-eq0-clause-begins : goal.returns-then-sheets-eq0-clause-begins
returns-then-sheets-eq0-clause-begins c =
    let b = c.requires.begun in
    let from : (c.args.from.now.sheets, c.args.from.now.cells) ≡ (0, []) = start-of c.args.from.now.sheets c.args.from.now.cells c.sheets-sheets.ensures.valid (sym c.sheets-sheets.ensures.sheets ∙ c.if-sheets-eq0.true) in
    λ _. record {
      position = pair-of c.args.position.now.sheets c.args.position.now.cells 0 b.start b.none ∙ sym from;
      left =
          ap (live c.args.course.now.relations c.args.course.now.most) from
          ∙ (start-is-one c.args.course.now.relations c.args.course.now.most b.least
          ∙ sym (ap (live c.args.course.now.relations c.args.course.now.most) (pair-of c.args.course.now.sheets c.args.course.now.cells 1 b.sheets b.cells)));
    }

pub refill-requires-clause-room : goal.refill-requires-clause-room
refill-requires-clause-room c =
    let e : (nat_le c.args.from.now.sheets c.args.course.now.most && sound c.args.course.now.relations c.args.from.now.sheets c.args.from.now.cells) ≡ true =
    ap (λ m. nat_le m c.args.course.now.most && sound c.args.course.now.relations m c.args.from.now.cells) (sym c.sheets-sheets.ensures.sheets)
    ∙ (ap (λ q. nat_le c.sheets-sheets.result c.args.course.now.most && sound c.args.course.now.relations c.sheets-sheets.result q) (sym c.cells-cells.ensures.cells)
    ∙ (sym c.place_all.ensures.sound ∙ c.if-not-place_all.false)) in
    subst (λ xs. length xs ≤ c.args.position.now.room) (sym c.cells-cells.ensures.cells)
    (sound-fits c.args.course.now.relations c.args.from.now.sheets c.args.course.now.most c.args.position.now.room c.args.from.now.cells e c.requires.begun.room)
