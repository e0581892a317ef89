use Rattle.std.proofs.Common.{◌≡◌, ◌≢◌, ◌<◌, ◌≤◌, ◌+◌, ◌-◌, ◌++◌, ◌∷◌, [], ℕ, zero, suc, Bool, true, false, List, cond, ◌||◌, eqb, inl, inr, length, take, get_or, set, refl, sym, ◌∙◌, ap, arith, subst}
use Rattle.std.specs.List.Sorted.{IsStrictlyIncreasing}
use Rattle.std.proofs.lemmas.Bool.Decides.{eqb_tells}
use Rattle.std.proofs.lemmas.List.{append-nil, length-set, get_or-set_same, get_or-set_other}
use Rattle.number_lists.specs.Words.{holds}
use Rattle.number_lists.specs.Rooms.{AllGain}
use Rattle.number_lists.proofs.Increasing.{holds-before, holds_more}
use Rattle.number_lists.proofs.cofaces.put_all.Goals as goal

-- a list that has not been reached is as it was
as_before : (numbers : List ℕ) (value i : ℕ) (old now : List (List ℕ)) → AllGain (take i numbers) value old now → IsStrictlyIncreasing numbers → i < length numbers
    → 1 ≤ get_or numbers i 0 → get_or numbers i 0 - 1 < length old → get_or now (get_or numbers i 0 - 1) [] ≡ get_or old (get_or numbers i 0 - 1) []
as_before numbers value i old now h rises l low within =
    let n : ℕ = get_or numbers i 0 in
    let e : n - 1 + 1 ≡ n = omega arith in
    let none : holds (take i numbers) (n - 1 + 1) ≡ false = ap (holds (take i numbers)) e ∙ holds-before numbers i rises l in
    h (n - 1) within ∙ (ap (λ (b : Bool). get_or old (n - 1) [] ++ cond b (value ∷ []) []) none ∙ append-nil (get_or old (n - 1) []))

-- one list more
more : (numbers : List ℕ) (value i : ℕ) (old now new : List (List ℕ)) → AllGain (take i numbers) value old now → IsStrictlyIncreasing numbers → i < length numbers
    → 1 ≤ get_or numbers i 0 → get_or numbers i 0 - 1 < length old → length now ≡ length old
    → new ≡ set now (get_or numbers i 0 - 1) (get_or now (get_or numbers i 0 - 1) [] ++ value ∷ [])
    → AllGain (take (i + 1) numbers) value old new
more numbers value i old now new h rises l low within long e k lt =
    let n : ℕ = get_or numbers i 0 in
    let read : get_or new k [] ≡ get_or (set now (n - 1) (get_or now (n - 1) [] ++ value ∷ [])) k [] = ap (λ (ps : List (List ℕ)). get_or ps k []) e in
    let has : holds (take (i + 1) numbers) (k + 1) ≡ (holds (take i numbers) (k + 1) || eqb n (k + 1)) = holds_more numbers i (k + 1) l in
    elim (eqb_tells n (k + 1)) [
      | inl p ↦
          let at : k ≡ n - 1 = let q : n ≡ k + 1 = p.1 in omega arith in
          let yes : holds (take (i + 1) numbers) (k + 1) ≡ true = has ∙ (ap (λ (b : Bool). holds (take i numbers) (k + 1) || b) p.0 ∙ or_true (holds (take i numbers) (k + 1))) in
          read
          ∙ (ap (λ (j : ℕ). get_or (set now (n - 1) (get_or now (n - 1) [] ++ value ∷ [])) j []) at
          ∙ (get_or-set_same now (n - 1) (get_or now (n - 1) [] ++ value ∷ []) [] (omega arith)
          ∙ (ap (λ (ps : List ℕ). ps ++ value ∷ []) (as_before numbers value i old now h rises l low within)
          ∙ (ap (λ (j : ℕ). get_or old j [] ++ value ∷ []) (sym at) ∙ sym (ap (λ (b : Bool). get_or old k [] ++ cond b (value ∷ []) []) yes)))))
      | inr p ↦
          let ne : k ≢ n - 1 = λ q. p.1 (omega arith) in
          let no : holds (take (i + 1) numbers) (k + 1) ≡ holds (take i numbers) (k + 1) = has ∙ (ap (λ (b : Bool). holds (take i numbers) (k + 1) || b) p.0 ∙ or_false (holds (take i numbers) (k + 1))) in
          read
          ∙ (get_or-set_other now (n - 1) k (get_or now (n - 1) [] ++ value ∷ []) [] ne
          ∙ (h k lt ∙ sym (ap (λ (b : Bool). get_or old k [] ++ cond b (value ∷ []) []) no)))
    ]
  where
    or_true : (b : Bool) → (b || true) ≡ true
    or_true true = refl
    or_true false = refl

    or_false : (b : Bool) → (b || false) ≡ b
    or_false true = refl
    or_false false = refl

-- a list with room is there
there : (rooms : List ℕ) (j n : ℕ) → n < get_or rooms j 0 → j < length rooms
there [] j n l = absurd (omega arith)
there (r ∷ rooms) zero n l = omega arith
there (r ∷ rooms) (suc j) n l = omega (arith, there rooms j n l)

pub put-requires : goal.put-requires
put-requires c =
    let numbers : List ℕ = c.args.numbers.now in
    let i : ℕ = c.loop-number.number-index in
    let n : ℕ = get_or numbers i 0 in
    let old : List (List ℕ) = c.args.slots.now.parts in
    let left : length (get_or old (n - 1) []) < get_or c.args.slots.now.rooms (n - 1) 0 = c.requires.room i 0 c.loop-number-test.true in
    let within : n - 1 < length old = omega (arith, there c.args.slots.now.rooms (n - 1) (length (get_or old (n - 1) [])) left, c.requires.within) in
    let same : get_or c.loop-number.slots.parts (n - 1) [] ≡ get_or old (n - 1) [] = as_before numbers c.args.value i old c.loop-number.slots.parts c.loop-number.invariant.parts c.requires.rises c.loop-number-test.true (c.requires.first i 0 c.loop-number-test.true) within in
    let rooms : get_or c.loop-number.slots.rooms (n - 1) 0 ≡ get_or c.args.slots.now.rooms (n - 1) 0 = ap (λ (rs : List ℕ). get_or rs (n - 1) 0) c.loop-number.invariant.rooms in
    record { room = subst (λ (m : ℕ). length (get_or c.loop-number.slots.parts (n - 1) []) < m) (sym rooms) (subst (λ (xs : List ℕ). length xs < get_or c.args.slots.now.rooms (n - 1) 0) (sym same) left) }

pub loop-number-preserved : goal.loop-number-preserved
loop-number-preserved c =
    let numbers : List ℕ = c.args.numbers.now in
    let i : ℕ = c.loop-number.number-index in
    let n : ℕ = get_or numbers i 0 in
    let old : List (List ℕ) = c.args.slots.now.parts in
    let left : length (get_or old (n - 1) []) < get_or c.args.slots.now.rooms (n - 1) 0 = c.requires.room i 0 c.loop-number-test.true in
    let within : n - 1 < length old = omega (arith, there c.args.slots.now.rooms (n - 1) (length (get_or old (n - 1) [])) left, c.requires.within) in
    record {
      rooms = c.put.ensures.rooms ∙ c.loop-number.invariant.rooms;
      len = ap length c.put.ensures.parts ∙ (length-set c.loop-number.slots.parts (n - 1) (get_or c.loop-number.slots.parts (n - 1) [] ++ c.args.value ∷ []) ∙ c.loop-number.invariant.len);
      parts = more numbers c.args.value i old c.loop-number.slots.parts c.put.new.self.parts c.loop-number.invariant.parts c.requires.rises c.loop-number-test.true (c.requires.first i 0 c.loop-number-test.true) within c.loop-number.invariant.len c.put.ensures.parts;
    }
