use Rattle.std.proofs.Common.{◌≡◌, ℕ, ◌+◌, ◌-◌, ◌*◌, ◌∙◌, ◌++◌, ◌∷◌, [], length, take, ap, sym, refl, arith}
use Rattle.std.proofs.lemmas.List.{length-append}
use Rattle.cover_search.specs.Courses.{Passage, Pending}
use Rattle.cover_search.proofs.Advancing.{begins, finds, goes-on, goes-up, goes-out, ends, no-room, room-parts}
use Rattle.cover_search.proofs.course.Course.advance.Goals as goal

pub moves-init : goal.moves-init
moves-init c = record { relations = refl; most_same = refl; written = refl; low = omega arith; high = omega arith; pending = begins c.args.self.now c.most-most.ensures.valid }

pub returns-then-try_place-clause-next : goal.returns-then-try_place-clause-next
returns-then-try_place-clause-next c =
    let r = room-parts c.moves.sheet c.moves.self.sheets (length c.moves.self.cells) (c.moves.self.sheets * c.moves.self.relations.generators) (sym c.has_room_for.ensures.room ∙ c.if-has_room_for.true) in
    let e : c.try_place.new.self.cells ≡ c.moves.self.cells ++ c.moves.sheet ∷ [] = ap (λ v. v.cells) (c.try_place.ensures.placed c.if-try_place.true) in
    let longer : length c.try_place.new.self.cells ≡ length c.moves.self.cells + 1 = ap (λ xs. length xs) e ∙ length-append c.moves.self.cells (c.moves.sheet ∷ []) in
    λ _. record {
      some = omega (arith, longer);
      is =
          sym c.moves.invariant.pending
          ∙ finds c.moves.self c.has_room_for.ensures.valid c.moves.sheet c.try_place.new.self r.0 r.1 (sym c.try_place.ensures.told ∙ c.if-try_place.true)
          (ap (λ v. v.relations) (c.try_place.ensures.placed c.if-try_place.true)) (ap (λ v. v.most) (c.try_place.ensures.placed c.if-try_place.true)) (ap (λ v. v.sheets) (c.try_place.ensures.placed c.if-try_place.true)) e;
    }

pub moves-preserved-then-has_room_for : goal.moves-preserved-then-has_room_for
moves-preserved-then-has_room_for c =
    let r = room-parts c.moves.sheet c.moves.self.sheets (length c.moves.self.cells) (c.moves.self.sheets * c.moves.self.relations.generators) (sym c.has_room_for.ensures.room ∙ c.if-has_room_for.true) in
    let e : c.try_place.new.self ≡ c.moves.self = c.try_place.ensures.same c.if-try_place.false in
    let s : c.try_place.new.self.sheets ≡ c.moves.self.sheets = ap (λ v. v.sheets) e in
    record {
      relations = ap (λ v. v.relations) e ∙ c.moves.invariant.relations;
      most_same = ap (λ v. v.most) e ∙ c.moves.invariant.most_same;
      written = ap (λ v. v.written) e ∙ c.moves.invariant.written;
      low = omega arith;
      high = omega (arith, s, r.0);
      pending =
          ap (λ v. Pending v (c.moves.sheet + 1)) e
          ∙ (goes-on c.moves.self c.has_room_for.ensures.valid c.moves.sheet r.0 r.1 (sym c.try_place.ensures.told ∙ c.if-try_place.false) ∙ c.moves.invariant.pending);
    }

pub moves-preserved-then-len-gt0 : goal.moves-preserved-then-len-gt0
moves-preserved-then-len-gt0 c =
    let n = no-room c.moves.sheet c.moves.self.sheets (length c.moves.self.cells) (c.moves.self.sheets * c.moves.self.relations.generators) c.has_room_for.ensures.valid.within (sym c.has_room_for.ensures.room ∙ c.if-has_room_for.false) in
    let e : c.unplace-sheet.new.self ≡ record c.moves.self { cells = take (length c.moves.self.cells - 1) c.moves.self.cells } = c.unplace-sheet.ensures.cells in
    let s : c.unplace-sheet.new.self.sheets ≡ c.moves.self.sheets = ap (λ v. v.sheets) e in
    record {
      relations = ap (λ v. v.relations) e ∙ c.moves.invariant.relations;
      most_same = ap (λ v. v.most) e ∙ c.moves.invariant.most_same;
      written = ap (λ v. v.written) e ∙ c.moves.invariant.written;
      low = omega arith;
      high = omega (arith, s, c.unplace-sheet.ensures.within);
      pending =
          goes-up c.moves.self c.has_room_for.ensures.valid c.moves.sheet c.unplace-sheet.new.self c.unplace-sheet.result (omega (arith, c.len.ensures, c.if-len-gt0.true)) n e c.unplace-sheet.ensures.last
          ∙ c.moves.invariant.pending;
    }

pub moves-preserved : goal.moves-preserved
moves-preserved c =
    let n = no-room c.moves.sheet c.moves.self.sheets (length c.moves.self.cells) (c.moves.self.sheets * c.moves.self.relations.generators) c.has_room_for.ensures.valid.within (sym c.has_room_for.ensures.room ∙ c.if-has_room_for.false) in
    let up : (k : ℕ) → Passage = λ k. record c.moves.self { sheets = k + 1; cells = [] } in
    let e : c.raise.new.self ≡ record c.moves.self { sheets = c.moves.self.sheets + 1; cells = [] } = c.raise.ensures ∙ ap up c.sheets-then-sheets-most.ensures.sheets in
    record {
      relations = ap (λ v. v.relations) e ∙ c.moves.invariant.relations;
      most_same = ap (λ v. v.most) e ∙ c.moves.invariant.most_same;
      written = ap (λ v. v.written) e ∙ c.moves.invariant.written;
      low = omega arith;
      high = omega arith;
      pending =
          goes-out c.moves.self c.has_room_for.ensures.valid c.moves.sheet c.raise.new.self (omega (arith, c.len.ensures, c.if-len-gt0.false)) n
          (omega (arith, c.if-sheets-most.true, c.sheets.ensures.sheets, c.most-most.ensures.most, c.moves.invariant.most_same)) e
          ∙ c.moves.invariant.pending;
    }

pub returns-else-sheets-most-clause-end : goal.returns-else-sheets-most-clause-end
returns-else-sheets-most-clause-end c =
    let n = no-room c.moves.sheet c.moves.self.sheets (length c.moves.self.cells) (c.moves.self.sheets * c.moves.self.relations.generators) c.has_room_for.ensures.valid.within (sym c.has_room_for.ensures.room ∙ c.if-has_room_for.false) in
    λ _. record {
      none =
          sym c.moves.invariant.pending
          ∙ ends c.moves.self c.has_room_for.ensures.valid c.moves.sheet (omega (arith, c.len.ensures, c.if-len-gt0.false)) n
          (omega (arith, c.if-sheets-most.false, c.sheets.ensures.sheets, c.most-most.ensures.most, c.moves.invariant.most_same));
      written = c.moves.invariant.written;
    }
