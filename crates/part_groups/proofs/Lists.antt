-- The first of some cells, and lists by number.
use Rattle.std.proofs.Common.{◌≡◌, ℕ, ◌+◌, ◌<◌, List, [], ◌∷◌, ◌++◌, Option, Some, None, map, take, drop, get_or, refl, sym, ap, ◌∙◌, arith}
use Rattle.std.proofs.lemmas.List.{take-append-drop, drop_more}
use Rattle.std.proofs.lemmas.List.FromFn.{map-range_with_len_more, take-map-range_with_len, get_or-map-range_with_len, length-map-range_with_len}
use Rattle.std.specs.List.{range_with_len}
use Rattle.number_lists.specs.Words.{upto}
use Rattle.face_poset.specs.declared.cells.Cell.{Cell}
use Rattle.edge_words.specs.declared.fault.WordFault.{WordFault}
use Rattle.edge_words.specs.declared.fault.WordFault.TheVariants.{TooLong, Memory}
use Rattle.edge_words.specs.Limits.{IsFault}
use Rattle.part_groups.specs.Groups.{first_of}

-- behind some that are no cells the next one is the first
pub first-behind : (xs ys : List (Option Cell)) (o : Option Cell) → first_of xs ≡ None → first_of (xs ++ o ∷ ys) ≡ first_of (o ∷ ys)
first-behind [] ys o e = refl
first-behind (None ∷ xs) ys o e = first-behind xs ys o e
first-behind (Some c ∷ xs) ys o e = absurd (let bad : Some c ≡ None = e in cc)

-- one number more, at which there is none; numbers from a on
pub first-more-from : (f : ℕ → Option Cell) (a i v : ℕ) → v ≡ a + i → first_of (map f (range_with_len a i)) ≡ None → f v ≡ None → first_of (map f (range_with_len a (i + 1))) ≡ None
first-more-from f a i v s e h =
    ap first_of (map-range_with_len_more f a i v (omega (arith, s)))
    ∙ (first-behind (map f (range_with_len a i)) [] (f v) e ∙ ap (λ (o : Option Cell). first_of (o ∷ [])) h)

pub first-more : (f : ℕ → Option Cell) (i : ℕ) → first_of (map f (upto i)) ≡ None → f (i + 1) ≡ None → first_of (map f (upto (i + 1))) ≡ None
first-more f i e h = first-more-from f 1 i (i + 1) (omega arith) e h

-- the first one, at the next number
first-found : (f : ℕ → Option Cell) (a i n v : ℕ) (cell : Cell) → v ≡ a + i → i < n → first_of (map f (range_with_len a i)) ≡ None → f v ≡ Some cell → first_of (map f (range_with_len a n)) ≡ Some cell
first-found f a i n v cell s l e h =
    let xs : List (Option Cell) = map f (range_with_len a n) in
    let split : take i xs ++ (get_or xs i None ∷ drop (i + 1) xs) ≡ xs =
    ap (λ (ys : List (Option Cell)). take i xs ++ ys) (sym (drop_more xs i None (omega (arith, length-map-range_with_len f a n)))) ∙ take-append-drop i xs in
    let front : first_of (take i xs) ≡ None = ap first_of (take-map-range_with_len f a n i (omega arith)) ∙ e in
    let here : get_or xs i None ≡ Some cell = get_or-map-range_with_len f a n i v None l (omega (arith, s)) ∙ h in
    ap first_of (sym split)
    ∙ (first-behind (take i xs) (drop (i + 1) xs) (get_or xs i None) front ∙ ap (λ (o : Option Cell). first_of (o ∷ drop (i + 1) xs)) here)

pub fault-found-from : (f : ℕ → Option Cell) (a i n v : ℕ) (fault : WordFault) → v ≡ a + i → i < n → first_of (map f (range_with_len a i)) ≡ None → IsFault (f v) fault → IsFault (first_of (map f (range_with_len a n))) fault
fault-found-from f a i n v Memory s l e h = tt
fault-found-from f a i n v (TooLong cell) s l e h = first-found f a i n v cell s l e h

pub fault-found : (f : ℕ → Option Cell) (i n : ℕ) (fault : WordFault) → i < n → first_of (map f (upto i)) ≡ None → IsFault (f (i + 1)) fault → IsFault (first_of (map f (upto n))) fault
fault-found f i n fault l e h = fault-found-from f 1 i n (i + 1) fault (omega arith) l e h
