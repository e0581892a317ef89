use Rattle.std.proofs.Common.{◌≡◌, ◌∷◌, ◌++◌, ◌<◌, ◌≤◌, ◌+◌, [], length, get_or, set, List, ℕ, arith, ap, sym, ◌∙◌, subst}
use Rattle.std.proofs.lemmas.List.{get_or_default, length-set}
use Rattle.number_lists.specs.Rooms.{Filling, filled, widths, IsFilled}
use Rattle.number_lists.proofs.Rooms.{next_within, filled-put, IsFilled-put, length-nexts}
use Rattle.number_lists.proofs.slots.Slots.put.Goals as goal

-- the room at the index, by the fields
room_left : (f : Filling) (ends nexts xs : List ℕ) (i : ℕ) → (let g : Filling = record { rooms = widths 0 ends; parts = filled 0 ends nexts xs } in g ≡ f)
    → length (get_or f.parts i []) < get_or f.rooms i 0 → length (get_or (filled 0 ends nexts xs) i []) < get_or (widths 0 ends) i 0
room_left f ends nexts xs i e h = subst (λ (g : Filling). length (get_or g.parts i []) < get_or g.rooms i 0) (sym e) h

-- the next place is within the entries
within : (f : Filling) (ends nexts xs : List ℕ) (i : ℕ) → (let g : Filling = record { rooms = widths 0 ends; parts = filled 0 ends nexts xs } in g ≡ f)
    → IsFilled 0 ends nexts (length xs) → length (get_or f.parts i []) < get_or f.rooms i 0 → (i < length nexts) × (get_or nexts i 0 < length xs)
within f ends nexts xs i e h room =
    let w : (i < length ends) × (0 ≤ get_or nexts i 0) × (get_or nexts i 0 < get_or ends i 0) × (get_or ends i 0 ≤ length xs) = next_within 0 ends nexts xs i h (room_left f ends nexts xs i e room) in
    (omega (arith, length-nexts 0 ends nexts (length xs) h), omega arith)

put_parts : (f : Filling) (ends nexts xs : List ℕ) (i at value : ℕ) → (let g : Filling = record { rooms = widths 0 ends; parts = filled 0 ends nexts xs } in g ≡ f)
    → IsFilled 0 ends nexts (length xs) → length (get_or f.parts i []) < get_or f.rooms i 0 → at ≡ get_or nexts i 0
    → filled 0 ends (set nexts i (at + 1)) (set xs at value) ≡ set f.parts i (get_or f.parts i [] ++ value ∷ [])
put_parts f ends nexts xs i at value e h room here =
    ap (λ (m : ℕ). filled 0 ends (set nexts i (m + 1)) (set xs m value)) here
    ∙ (filled-put 0 ends nexts xs i value h (room_left f ends nexts xs i e room)
    ∙ ap (λ (g : Filling). set g.parts i (get_or g.parts i [] ++ value ∷ [])) e)

put_keeps : (f : Filling) (ends nexts xs ys : List ℕ) (i at : ℕ) → (let g : Filling = record { rooms = widths 0 ends; parts = filled 0 ends nexts xs } in g ≡ f)
    → IsFilled 0 ends nexts (length xs) → length (get_or f.parts i []) < get_or f.rooms i 0 → at ≡ get_or nexts i 0 → length ys ≡ length xs
    → IsFilled 0 ends (set nexts i (at + 1)) (length ys)
put_keeps f ends nexts xs ys i at e h room here long =
    subst (λ (m : ℕ). IsFilled 0 ends (set nexts i (at + 1)) m) (sym long)
    (subst (λ (m : ℕ). IsFilled 0 ends (set nexts i (m + 1)) (length xs)) (sym here) (IsFilled-put 0 ends nexts xs i h (room_left f ends nexts xs i e room)))

-- the read of the next place, at the default of a list of numbers
read_at : (nexts : List ℕ) (i at : ℕ) → i < length nexts → at ≡ get_or nexts i at → at ≡ get_or nexts i 0
read_at nexts i at l e = e ∙ get_or_default nexts i at 0 l

pub index-at-requires : goal.index-at-requires
index-at-requires c =
    let w : (c.args.index < length c.self.inside.nexts.items) × (get_or c.self.inside.nexts.items c.args.index 0 < length c.self.inside.entries.items) = within c.args.self.now c.self.inside.ends.items c.self.inside.nexts.items c.self.inside.entries.items c.args.index c.self.view_is c.self.invariant.0 c.requires.room in
    omega arith

pub index_mut-requires : goal.index_mut-requires
index_mut-requires c =
    let w : (c.args.index < length c.self.inside.nexts.items) × (get_or c.self.inside.nexts.items c.args.index 0 < length c.self.inside.entries.items) = within c.args.self.now c.self.inside.ends.items c.self.inside.nexts.items c.self.inside.entries.items c.args.index c.self.view_is c.self.invariant.0 c.requires.room in
    let here : c.index-at.result.now ≡ get_or c.self.inside.nexts.items c.args.index 0 = read_at c.self.inside.nexts.items c.args.index c.index-at.result.now w.0 c.index-at.ensures in
    omega arith

pub index_mut-requires-2 : goal.index_mut-requires-2
index_mut-requires-2 c =
    let w : (c.args.index < length c.self.inside.nexts.items) × (get_or c.self.inside.nexts.items c.args.index 0 < length c.self.inside.entries.items) = within c.args.self.now c.self.inside.ends.items c.self.inside.nexts.items c.self.inside.entries.items c.args.index c.self.view_is c.self.invariant.0 c.requires.room in
    omega arith

pub overflow_add-at : goal.overflow_add-at
overflow_add-at c =
    let w : (c.args.index < length c.self.inside.nexts.items) × (get_or c.self.inside.nexts.items c.args.index 0 < length c.self.inside.entries.items) = within c.args.self.now c.self.inside.ends.items c.self.inside.nexts.items c.self.inside.entries.items c.args.index c.self.view_is c.self.invariant.0 c.requires.room in
    let here : c.index-at.result.now ≡ get_or c.self.inside.nexts.items c.args.index 0 = read_at c.self.inside.nexts.items c.args.index c.index-at.result.now w.0 c.index-at.ensures in
    omega (arith, c.self.invariant.1)

pub invariant_of-self : goal.invariant_of-self
invariant_of-self c =
    let w : (c.args.index < length c.self.inside.nexts.items) × (get_or c.self.inside.nexts.items c.args.index 0 < length c.self.inside.entries.items) = within c.args.self.now c.self.inside.ends.items c.self.inside.nexts.items c.self.inside.entries.items c.args.index c.self.view_is c.self.invariant.0 c.requires.room in
    let here : c.index-at.result.now ≡ get_or c.self.inside.nexts.items c.args.index 0 = read_at c.self.inside.nexts.items c.args.index c.index-at.result.now w.0 c.index-at.ensures in (
      put_keeps c.args.self.now c.self.inside.ends.items c.self.inside.nexts.items c.self.inside.entries.items (set c.self.inside.entries.items c.index-at.result.now c.args.value) c.args.index c.index-at.result.now c.self.view_is c.self.invariant.0 c.requires.room here (length-set c.self.inside.entries.items c.index-at.result.now c.args.value),
      omega (arith, c.self.invariant.1, length-set c.self.inside.entries.items c.index-at.result.now c.args.value),
    )

pub returns-clause-parts : goal.returns-clause-parts
returns-clause-parts c =
    let w : (c.args.index < length c.self.inside.nexts.items) × (get_or c.self.inside.nexts.items c.args.index 0 < length c.self.inside.entries.items) = within c.args.self.now c.self.inside.ends.items c.self.inside.nexts.items c.self.inside.entries.items c.args.index c.self.view_is c.self.invariant.0 c.requires.room in
    put_parts c.args.self.now c.self.inside.ends.items c.self.inside.nexts.items c.self.inside.entries.items c.args.index c.index-at.result.now c.args.value c.self.view_is c.self.invariant.0 c.requires.room
    (read_at c.self.inside.nexts.items c.args.index c.index-at.result.now w.0 c.index-at.ensures)
