use Rattle.std.proofs.Common.{arith, ◌≡◌, ◌<◌, ◌+◌, ◌∷◌, ◌++◌, [], ℕ, List, length, take, get_or, ap, sym, ◌∙◌, subst}
use Rattle.std.proofs.lemmas.List.{take_more, take_all}
use Rattle.number_lists.specs.Rooms.{filled, widths, IsFilled}
use Rattle.number_lists.proofs.Rooms.{ends_of, begins_of, end_of, ends_of-push, begins_of-push, end_of-push, widths-ends_of, filled-begins_of, IsFilled-begins_of}
use Rattle.number_lists.proofs.slots.Slots.with_rooms.Goals as goal

-- a step of the loop
more : (rooms : List ℕ) (i total : ℕ) → i < length rooms → (F : List ℕ → List ℕ) (xs ys : List ℕ) (n : ℕ) → xs ≡ F (take i rooms) → ys ≡ xs ++ n ∷ []
    → F (take i rooms ++ get_or rooms i 0 ∷ []) ≡ F (take i rooms) ++ n ∷ [] → ys ≡ F (take (i + 1) rooms)
more rooms i total l F xs ys n before after step =
    after ∙ (ap (λ (zs : List ℕ). zs ++ n ∷ []) before ∙ (sym step ∙ sym (ap F (take_more rooms i 0 l))))

pub loop-room-preserved : goal.loop-room-preserved
loop-room-preserved c =
    let rooms : List ℕ = c.args.rooms.now in
    let i : ℕ = c.loop-room.room-index in
    let room : ℕ = get_or rooms i 0 in
    let lt : i < length rooms = c.loop-room-test.true in
    let t : c.loop-room.total ≡ end_of 0 (take i rooms) = c.loop-room.invariant.total in
    let sum : c.in_ok-total.total ≡ c.loop-room.total + room = c.in_ok-total.ensures in
    let total : c.in_ok-total.total ≡ end_of 0 (take i rooms) + room = sum ∙ ap (λ (n : ℕ). n + room) t in
    record {
      ends = more rooms i 0 lt (ends_of 0) c.loop-room.ends.items c.push-in-loop-room.new.self.items c.in_ok-total.total c.loop-room.invariant.ends c.in_ok-push-2.ensures.items
          (ends_of-push 0 (take i rooms) room ∙ ap (λ (n : ℕ). ends_of 0 (take i rooms) ++ n ∷ []) (sym total));
      nexts = more rooms i 0 lt (begins_of 0) c.loop-room.nexts.items c.push.new.self.items c.loop-room.total c.loop-room.invariant.nexts c.in_ok-push.ensures.items
          (begins_of-push 0 (take i rooms) room ∙ ap (λ (n : ℕ). begins_of 0 (take i rooms) ++ n ∷ []) (sym t));
      total = total ∙ (sym (end_of-push 0 (take i rooms) room) ∙ sym (ap (end_of 0) (take_more rooms i 0 lt)));
    }

pub invariant_of-result : goal.invariant_of-result
invariant_of-result c =
    let all : take c.loop-room.room-index c.args.rooms.now ≡ c.args.rooms.now = take_all c.loop-room.room-index c.args.rooms.now c.loop-room-test.false in
    let long : length c.in_ok-entries.entries.items ≡ end_of 0 c.args.rooms.now =
    sym c.in_ok-entries.entries.ok.0 ∙ (c.in_ok-entries.ensures.len ∙ (c.loop-room.invariant.total ∙ ap (end_of 0) all)) in (
      subst (λ (es : List ℕ). IsFilled 0 es c.loop-room.nexts.items (length c.in_ok-entries.entries.items)) (sym (c.loop-room.invariant.ends ∙ ap (ends_of 0) all))
          (subst (λ (ns : List ℕ). IsFilled 0 (ends_of 0 c.args.rooms.now) ns (length c.in_ok-entries.entries.items)) (sym (c.loop-room.invariant.nexts ∙ ap (begins_of 0) all))
          (subst (λ (n : ℕ). IsFilled 0 (ends_of 0 c.args.rooms.now) (begins_of 0 c.args.rooms.now) n) (sym long) (IsFilled-begins_of 0 c.args.rooms.now))),
      omega (arith, c.in_ok-entries.entries.ok.0, c.in_ok-entries.ensures.len, c.loop-room.auto.total-fits),
    )

pub returns-clause-rooms : goal.returns-clause-rooms
returns-clause-rooms c =
    let all : take c.loop-room.room-index c.args.rooms.now ≡ c.args.rooms.now = take_all c.loop-room.room-index c.args.rooms.now c.loop-room-test.false in
    ap (widths 0) c.loop-room.invariant.ends ∙ (ap (λ (rs : List ℕ). widths 0 (ends_of 0 rs)) all ∙ widths-ends_of 0 c.args.rooms.now)

pub returns-clause-parts : goal.returns-clause-parts
returns-clause-parts c =
    let all : take c.loop-room.room-index c.args.rooms.now ≡ c.args.rooms.now = take_all c.loop-room.room-index c.args.rooms.now c.loop-room-test.false in
    let xs : List ℕ = c.in_ok-entries.entries.items in
    ap (λ (es : List ℕ). filled 0 es c.loop-room.nexts.items xs) (c.loop-room.invariant.ends ∙ ap (ends_of 0) all)
    ∙ (ap (λ (ns : List ℕ). filled 0 (ends_of 0 c.args.rooms.now) ns xs) (c.loop-room.invariant.nexts ∙ ap (begins_of 0) all)
    ∙ filled-begins_of 0 c.args.rooms.now xs)
