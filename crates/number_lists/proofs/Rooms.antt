-- Lemmas on lists that lie one after another, each in a room of its own.
use Rattle.std.proofs.Common.{◌≡◌, ℕ, zero, suc, ◌+◌, ◌-◌, ◌<◌, ◌≤◌, List, [], ◌∷◌, ◌++◌, length, take, drop, get_or, set, map, refl, ap, sym, ◌∙◌, arith}
use Rattle.std.proofs.lemmas.List.{take-set-le, drop-set-lt, drop-set-add, length-drop, take_more_set, length-take-le}
use Rattle.number_lists.specs.Cuts.{cut, IsCut}
use Rattle.number_lists.specs.Rooms.{filled, widths, IsFilled}

-- the ends of rooms that begin at a start
abbrev pub ends_of : ℕ → List ℕ → List ℕ
ends_of start [] = []
ends_of start (room ∷ rooms) = (start + room) ∷ ends_of (start + room) rooms

-- where they begin
abbrev pub begins_of : ℕ → List ℕ → List ℕ
begins_of start [] = []
begins_of start (room ∷ rooms) = start ∷ begins_of (start + room) rooms

-- where the last one ends
abbrev pub end_of : ℕ → List ℕ → ℕ
end_of start [] = start
end_of start (room ∷ rooms) = end_of (start + room) rooms

pub ends_of-push : (start : ℕ) (rooms : List ℕ) (room : ℕ) → ends_of start (rooms ++ room ∷ []) ≡ ends_of start rooms ++ (end_of start rooms + room) ∷ []
ends_of-push start [] room = refl
ends_of-push start (r ∷ rooms) room = ap (λ (es : List ℕ). (start + r) ∷ es) (ends_of-push (start + r) rooms room)

pub begins_of-push : (start : ℕ) (rooms : List ℕ) (room : ℕ) → begins_of start (rooms ++ room ∷ []) ≡ begins_of start rooms ++ end_of start rooms ∷ []
begins_of-push start [] room = refl
begins_of-push start (r ∷ rooms) room = ap (λ (es : List ℕ). start ∷ es) (begins_of-push (start + r) rooms room)

pub end_of-push : (start : ℕ) (rooms : List ℕ) (room : ℕ) → end_of start (rooms ++ room ∷ []) ≡ end_of start rooms + room
end_of-push start [] room = refl
end_of-push start (r ∷ rooms) room = end_of-push (start + r) rooms room

pub end_of-le : (start : ℕ) (rooms : List ℕ) → start ≤ end_of start rooms
end_of-le start [] = omega arith
end_of-le start (r ∷ rooms) = omega (arith, end_of-le (start + r) rooms)

-- rooms made from their sizes are empty
pub widths-ends_of : (start : ℕ) (rooms : List ℕ) → widths start (ends_of start rooms) ≡ rooms
widths-ends_of start [] = refl
widths-ends_of start (r ∷ rooms) =
    let e : start + r - start ≡ r = omega arith in
    ap (λ (n : ℕ). n ∷ widths (start + r) (ends_of (start + r) rooms)) e ∙ ap (λ (ns : List ℕ). r ∷ ns) (widths-ends_of (start + r) rooms)

pub filled-begins_of : (start : ℕ) (rooms xs : List ℕ) → filled start (ends_of start rooms) (begins_of start rooms) xs ≡ map (λ _. []) rooms
filled-begins_of start [] xs = refl
filled-begins_of start (r ∷ rooms) xs =
    let e : start - start ≡ 0 = omega arith in
    ap (λ (n : ℕ). take n (drop start xs) ∷ filled (start + r) (ends_of (start + r) rooms) (begins_of (start + r) rooms) xs) e
    ∙ ap (λ (ls : List (List ℕ)). [] ∷ ls) (filled-begins_of (start + r) rooms xs)

pub IsFilled-begins_of : (start : ℕ) (rooms : List ℕ) → IsFilled start (ends_of start rooms) (begins_of start rooms) (end_of start rooms)
IsFilled-begins_of start [] = refl
IsFilled-begins_of start (r ∷ rooms) = (omega arith, omega arith, IsFilled-begins_of (start + r) rooms)

-- an entry at the next place of a room that is not full

pub start_below : (start : ℕ) (ends nexts : List ℕ) (total : ℕ) → IsFilled start ends nexts total → start ≤ total
start_below start [] [] total h = omega arith
start_below start [] (n ∷ nexts) total h = absurd h
start_below start (e ∷ ends) [] total h = absurd h
start_below start (e ∷ ends) (n ∷ nexts) total h =
    let a : start ≤ n = h.0 in let b : n ≤ e = h.1 in let r : e ≤ total = start_below e ends nexts total h.2 in omega arith

pub length-nexts : (start : ℕ) (ends nexts : List ℕ) (total : ℕ) → IsFilled start ends nexts total → length nexts ≡ length ends
length-nexts start [] [] total h = refl
length-nexts start [] (n ∷ nexts) total h = absurd h
length-nexts start (e ∷ ends) [] total h = absurd h
length-nexts start (e ∷ ends) (n ∷ nexts) total h = ap suc (length-nexts e ends nexts total h.2)

pub length-filled : (start : ℕ) (ends nexts xs : List ℕ) → IsFilled start ends nexts (length xs) → length (filled start ends nexts xs) ≡ length ends
length-filled start [] [] xs h = refl
length-filled start [] (n ∷ nexts) xs h = absurd h
length-filled start (e ∷ ends) [] xs h = absurd h
length-filled start (e ∷ ends) (n ∷ nexts) xs h = ap suc (length-filled e ends nexts xs h.2)

pub length-widths : (start : ℕ) (ends : List ℕ) → length (widths start ends) ≡ length ends
length-widths start [] = refl
length-widths start (e ∷ ends) = ap suc (length-widths e ends)

-- what a room with space left tells: the next place is before its end, which is not after the end of all
pub next_within : (start : ℕ) (ends nexts xs : List ℕ) (i : ℕ) → IsFilled start ends nexts (length xs)
    → length (get_or (filled start ends nexts xs) i []) < get_or (widths start ends) i 0
    → (i < length ends) × (start ≤ get_or nexts i 0) × (get_or nexts i 0 < get_or ends i 0) × (get_or ends i 0 ≤ length xs)
next_within start [] [] xs i h room = absurd (omega arith)
next_within start [] (n ∷ nexts) xs i h room = absurd h
next_within start (e ∷ ends) [] xs i h room = absurd h
next_within start (e ∷ ends) (n ∷ nexts) xs zero h room =
    let a : start ≤ n = h.0 in
    let b : n ≤ e = h.1 in
    let r : e ≤ length xs = start_below e ends nexts (length xs) h.2 in
    let l : length (take (n - start) (drop start xs)) ≡ n - start = length-take-le (n - start) (drop start xs) (omega (arith, length-drop start xs)) in
    (omega arith, omega arith, omega arith, omega arith)
next_within start (e ∷ ends) (n ∷ nexts) xs (suc i) h room =
    let a : start ≤ n = h.0 in
    let b : n ≤ e = h.1 in
    let r : (i < length ends) × (e ≤ get_or nexts i 0) × (get_or nexts i 0 < get_or ends i 0) × (get_or ends i 0 ≤ length xs) = next_within e ends nexts xs i h.2 room in
    (omega arith, omega arith, r.2, r.3)

-- a write before all rooms changes none
filled-before : (start : ℕ) (ends nexts xs : List ℕ) (at value : ℕ) (total : ℕ) → at < start → IsFilled start ends nexts total → filled start ends nexts (set xs at value) ≡ filled start ends nexts xs
filled-before start [] [] xs at value total l h = refl
filled-before start [] (n ∷ nexts) xs at value total l h = absurd h
filled-before start (e ∷ ends) [] xs at value total l h = absurd h
filled-before start (e ∷ ends) (n ∷ nexts) xs at value total l h =
    let a : start ≤ n = h.0 in
    let b : n ≤ e = h.1 in
    ap (λ (ys : List ℕ). take (n - start) ys ∷ filled e ends nexts (set xs at value)) (drop-set-lt start xs at value l)
    ∙ ap (λ (ls : List (List ℕ)). take (n - start) (drop start xs) ∷ ls) (filled-before e ends nexts xs at value total (omega arith) h.2)

pub filled-put : (start : ℕ) (ends nexts xs : List ℕ) (i value : ℕ) → IsFilled start ends nexts (length xs)
    → length (get_or (filled start ends nexts xs) i []) < get_or (widths start ends) i 0
    → filled start ends (set nexts i (get_or nexts i 0 + 1)) (set xs (get_or nexts i 0) value)
    ≡ set (filled start ends nexts xs) i (get_or (filled start ends nexts xs) i [] ++ value ∷ [])
filled-put start [] [] xs i value h room = refl
filled-put start [] (n ∷ nexts) xs i value h room = absurd h
filled-put start (e ∷ ends) [] xs i value h room = absurd h
filled-put start (e ∷ ends) (n ∷ nexts) xs zero value h room =
    let w : (0 < length (e ∷ ends)) × (start ≤ n) × (n < e) × (e ≤ length xs) = next_within start (e ∷ ends) (n ∷ nexts) xs zero h room in
    let head : take (n + 1 - start) (drop start (set xs n value)) ≡ take (n - start) (drop start xs) ++ value ∷ [] = head_put start n xs value w.1 (omega (arith, w.2, w.3)) in
    ap (λ (ys : List ℕ). ys ∷ filled e ends nexts (set xs n value)) head
    ∙ ap (λ (ls : List (List ℕ)). (take (n - start) (drop start xs) ++ value ∷ []) ∷ ls) (filled-before e ends nexts xs n value (length xs) w.2 h.2)
  where
    head_put : (start n : ℕ) (xs : List ℕ) (value : ℕ) → start ≤ n → n < length xs → take (n + 1 - start) (drop start (set xs n value)) ≡ take (n - start) (drop start xs) ++ value ∷ []
    head_put start n xs value a b =
        let e : start + (n - start) ≡ n = omega arith in
        let k : n + 1 - start ≡ n - start + 1 = omega arith in
        let d : drop start (set xs n value) ≡ set (drop start xs) (n - start) value = ap (λ (m : ℕ). drop start (set xs m value)) (sym e) ∙ drop-set-add start xs (n - start) value in
        ap (λ (m : ℕ). take m (drop start (set xs n value))) k
        ∙ ap (take (n - start + 1)) d
        ∙ take_more_set (drop start xs) (n - start) value (omega (arith, length-drop start xs))
filled-put start (e ∷ ends) (n ∷ nexts) xs (suc i) value h room =
    let a : start ≤ n = h.0 in
    let b : n ≤ e = h.1 in
    let w : (i < length ends) × (e ≤ get_or nexts i 0) × (get_or nexts i 0 < get_or ends i 0) × (get_or ends i 0 ≤ length xs) = next_within e ends nexts xs i h.2 room in
    let at : ℕ = get_or nexts i 0 in
    let d : take (n - start) (drop start (set xs (get_or nexts i 0) value)) ≡ take (n - start) (drop start xs) = head_stays start n xs (get_or nexts i 0) value a (omega arith) in
    ap (λ (ys : List ℕ). ys ∷ filled e ends (set nexts i (get_or nexts i 0 + 1)) (set xs (get_or nexts i 0) value)) d
    ∙ ap (λ (ls : List (List ℕ)). take (n - start) (drop start xs) ∷ ls) (filled-put e ends nexts xs i value h.2 room)
  where
    head_stays : (start n : ℕ) (xs : List ℕ) (at value : ℕ) → start ≤ n → n ≤ at → take (n - start) (drop start (set xs at value)) ≡ take (n - start) (drop start xs)
    head_stays start n xs at value a b =
        let e : start + (at - start) ≡ at = omega arith in
        ap (λ (m : ℕ). take (n - start) (drop start (set xs m value))) (sym e)
        ∙ ap (take (n - start)) (drop-set-add start xs (at - start) value)
        ∙ take-set-le (n - start) (drop start xs) (at - start) value (omega arith)

pub IsFilled-put : (start : ℕ) (ends nexts xs : List ℕ) (i : ℕ) → IsFilled start ends nexts (length xs)
    → length (get_or (filled start ends nexts xs) i []) < get_or (widths start ends) i 0
    → IsFilled start ends (set nexts i (get_or nexts i 0 + 1)) (length xs)
IsFilled-put start [] [] xs i h room = h
IsFilled-put start [] (n ∷ nexts) xs i h room = absurd h
IsFilled-put start (e ∷ ends) [] xs i h room = absurd h
IsFilled-put start (e ∷ ends) (n ∷ nexts) xs zero h room =
    let w : (0 < length (e ∷ ends)) × (start ≤ n) × (n < e) × (e ≤ length xs) = next_within start (e ∷ ends) (n ∷ nexts) xs zero h room in
    (omega (arith, w.1), omega (arith, w.2), h.2)
IsFilled-put start (e ∷ ends) (n ∷ nexts) xs (suc i) h room = (h.0, h.1, IsFilled-put e ends nexts xs i h.2 room)

-- full rooms

pub IsCut-filled : (start : ℕ) (ends nexts : List ℕ) (total : ℕ) → IsFilled start ends nexts total → IsCut start ends total
IsCut-filled start [] [] total h = h
IsCut-filled start [] (n ∷ nexts) total h = absurd h
IsCut-filled start (e ∷ ends) [] total h = absurd h
IsCut-filled start (e ∷ ends) (n ∷ nexts) total h = let a : start ≤ n = h.0 in let b : n ≤ e = h.1 in (omega arith, IsCut-filled e ends nexts total h.2)

pub filled-full : (start : ℕ) (ends nexts xs : List ℕ) → IsFilled start ends nexts (length xs)
    → map (λ part. length part) (filled start ends nexts xs) ≡ widths start ends
    → cut start ends xs ≡ filled start ends nexts xs
filled-full start [] [] xs h full = refl
filled-full start [] (n ∷ nexts) xs h full = absurd h
filled-full start (e ∷ ends) [] xs h full = absurd h
filled-full start (e ∷ ends) (n ∷ nexts) xs h full =
    let a : start ≤ n = h.0 in
    let b : n ≤ e = h.1 in
    let r : e ≤ length xs = start_below e ends nexts (length xs) h.2 in
    let l : length (take (n - start) (drop start xs)) ≡ n - start = length-take-le (n - start) (drop start xs) (omega (arith, length-drop start xs)) in
    let first : length (take (n - start) (drop start xs)) ≡ e - start = cc in
    let rest : map (λ part. length part) (filled e ends nexts xs) ≡ widths e ends = cc in
    let same : e - start ≡ n - start = omega arith in
    ap (λ (m : ℕ). take m (drop start xs) ∷ cut e ends xs) same
    ∙ ap (λ (ls : List (List ℕ)). take (n - start) (drop start xs) ∷ ls) (filled-full e ends nexts xs h.2 rest)
