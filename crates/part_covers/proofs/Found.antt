-- What a search for one table finds is the beginning of the list of covers, and what a cover is.
use Rattle.std.proofs.Common.{◌≡◌, inl, ℕ, ◌+◌, ◌*◌, ◌/◌, ◌<◌, ◌≤◌, List, [], ◌∷◌, ◌++◌, length, take, drop, filter, get_or, refl, ap, sym, ◌∙◌, subst, arith, Bool, true, false, ◌&&◌, ◌||◌, length-append}
use Rattle.std.specs.Prelude.{◌==◌, nat_lt}
use Rattle.std.proofs.lemmas.Bool.{and_parts, false≢true, eqb-true}
use Rattle.std.proofs.Math.Nat.{mul-div_cancel_left}
use Rattle.std.proofs.lemmas.List.{take-append-drop, get_or_append_left}
use Rattle.std.proofs.lemmas.List.Elements.{filter-append}
use Rattle.number_lists.specs.Members.{In, here, there}
use Rattle.number_lists.specs.Words.{upto}
use Rattle.number_lists.proofs.CallerLemmas.{and-left, flat_map-In, map-In, filter-In, upto-In, at-In}
use Rattle.face_poset.specs.declared.cells.Pair.{Pair}
use Rattle.face_poset.specs.Poset.{Layers}
use Rattle.sheet_laws.specs.Permutations.{lists}
use Rattle.sheet_laws.specs.Tables.{is_table, is_least, precedes}
use Rattle.sheet_laws.specs.Labellings.{is_labelling, is_connected}
use Rattle.sheet_laws.specs.Lifts.{columns_of, lift, is_cover}
use Rattle.live_laws.specs.Live.{Relations, Position, comes_after, is_listed, live, listed}
use Rattle.space_parts.specs.Laws.{IsWhole}
use Rattle.chosen_field.specs.Chosen.{chosen}
use Rattle.chosen_field.specs.Laws.{ChosenIsGood}
use Rattle.cover_laws.specs.Covers.{covers_of, covers, relations_at}
use Rattle.cover_laws.specs.Laws.{HasGoodField, ListedAreCovers}
use Rattle.cover_listing.specs.Nths.{found}

-- ---- lists

filter-all : {A : Type 0} (p : A → Bool) (xs : List A) → ((x : A) → In x xs → p x ≡ true) → filter p xs ≡ xs
filter-all p [] h = refl
filter-all p (x ∷ xs) h = rw (h x here) (ap (λ ys. x ∷ ys) (filter-all p xs (λ y i. h y (there i))))

-- what stands at a place of a list stands there in another one
abbrev IsThere : List Position → List Position → (i : ℕ) → Type 0
IsThere xs ys i = (i < length ys) × (get_or xs i (0, []) ≡ get_or ys i (0, []))

-- so it is with a list that begins the other
begins : (front rest whole : List Position) (i : ℕ) → whole ≡ front ++ rest → i < length front → IsThere front whole i
begins front rest whole i e l =
    subst (λ (ys : List Position). IsThere front ys i) (sym e)
    (let long : length (front ++ rest) ≡ length front + length rest = length-append front rest in omega (arith, long, l), sym (get_or_append_left front rest (0, []) i l))

taken-there : (p : Position → Bool) (B : ℕ) (xs : List Position) (i : ℕ) → i < length (filter p (take B xs)) → IsThere (filter p (take B xs)) (filter p xs) i
taken-there p B xs i l =
    begins (filter p (take B xs)) (filter p (drop B xs)) (filter p xs) i (sym (ap (filter p) (take-append-drop B xs)) ∙ filter-append p (take B xs) (drop B xs)) l

one-of : (b : Bool) (xs ys : List Position) (i : ℕ) → (i < length xs → IsThere xs ys i)
    → i < length {A = Position} (elim b [ true ↦ (1, []) ∷ [] | false ↦ xs ]) → IsThere (elim b [ true ↦ (1, []) ∷ [] | false ↦ xs ]) (elim b [ true ↦ (1, []) ∷ [] | false ↦ ys ]) i
one-of true xs ys i h l = (l, refl)
one-of false xs ys i h l = h l

-- what is found is listed
found-listed : (P : Relations) (n B i : ℕ) → i < length (found P n (0, []) B) → IsThere (found P n (0, []) B) (listed P n (0, [])) i
found-listed P n B i l = one-of (P.generators == 0) (filter (is_listed P) (take B (live P n (0, [])))) (filter (is_listed P) (live P n (0, []))) i (taken-there (is_listed P) B (live P n (0, [])) i) l

-- ---- covers

-- all of them come after the start
comes-after-start : (x : Position) → 1 ≤ x.0 → comes_after (0, []) x ≡ true
comes-after-start x l = one (nat_lt 0 x.0) (grind (arith, l))
  where
    one : (a : Bool) → a ≡ true → (a || ((0 == x.0) && precedes [] x.1)) ≡ true
    one true e = refl
    one false e = absurd (false≢true e)

pub record HasCover (space : Layers) (pairs : List Pair) (t : Position) : Type 0 where
  pub some : 1 ≤ t.0
  pub is : is_cover space pairs t ≡ true

covers-are : (space : Layers) (pairs : List Pair) (n : ℕ) (t : Position) → In t (covers space pairs n) → HasCover space pairs t
covers-are space pairs n t h =
    let f = flat_map-In (covers_of space pairs) (upto n) h in
    let g = map-In (λ (q : List ℕ). (f.0, q)) (filter (λ q. is_cover space pairs (f.0, q)) (lists f.0 (f.0 * columns_of space pairs))) f.2 in
    let is : is_cover space pairs (f.0, g.0) ≡ true = filter-In (λ q. is_cover space pairs (f.0, q)) (lists f.0 (f.0 * columns_of space pairs)) g.1 in
    subst (HasCover space pairs) (sym g.2) (record { some = (upto-In n f.0 f.1).0; is = is })

all-covers : (space : Layers) (pairs : List Pair) (n : ℕ) → filter (comes_after (0, [])) (covers space pairs n) ≡ covers space pairs n
all-covers space pairs n = filter-all (comes_after (0, [])) (covers space pairs n) (λ x h. comes-after-start x (covers-are space pairs n x h).some)

-- what is listed of a part with its chosen field are its covers
listed-are : ListedAreCovers → ChosenIsGood → (part : Layers) (n : ℕ) → IsWhole part → 1 ≤ n → listed (relations_at part (chosen part)) n (0, []) ≡ covers part (chosen part) n
listed-are laws good part n w least =
    let field : HasGoodField part (chosen part) = record { is = w.valid; regular = w.regular; one = w.one; good = good part (record { valid = w.valid; regular = w.regular; one = w.one }) } in
    laws part (chosen part) n (0, []) field least (inl refl) ∙ all-covers part (chosen part) n

-- so what is found stands among the covers, at the same place
pub found-there : ListedAreCovers → ChosenIsGood → (part : Layers) (n B i : ℕ) → IsWhole part → 1 ≤ n → i < length (found (relations_at part (chosen part)) n (0, []) B)
    → (i < length (covers part (chosen part) n)) × (get_or (found (relations_at part (chosen part)) n (0, []) B) i (0, []) ≡ get_or (covers part (chosen part) n) i (0, []))
found-there laws good part n B i w least l =
    subst (λ (ys : List Position). IsThere (found (relations_at part (chosen part)) n (0, []) B) ys i) (listed-are laws good part n w least)
    (found-listed (relations_at part (chosen part)) n B i l)

-- and is a cover
pub found-cover : ListedAreCovers → ChosenIsGood → (part : Layers) (n B i : ℕ) → IsWhole part → 1 ≤ n → i < length (found (relations_at part (chosen part)) n (0, []) B)
    → HasCover part (chosen part) (get_or (found (relations_at part (chosen part)) n (0, []) B) i (0, []))
found-cover laws good part n B i w least l =
    let h = found-there laws good part n B i w least l in
    subst (HasCover part (chosen part)) (sym h.1) (covers-are part (chosen part) n (get_or (covers part (chosen part) n) i (0, [])) (at-In (covers part (chosen part) n) i (0, []) h.0))

-- ---- their cells

-- as many as sheets and columns say
full-one : (b : Bool) (g : ℕ) (xs : List Position) → (b ≡ true → g ≡ 0) → ((x : Position) → In x xs → length x.1 ≡ x.0 * g)
    → (x : Position) → In x (elim b [ true ↦ (1, []) ∷ [] | false ↦ xs ]) → length x.1 ≡ x.0 * g
full-one true g xs z h x i = one x i
  where
    one : (x : Position) → In x ((1, []) ∷ []) → length x.1 ≡ x.0 * g
    one x here = let none : g ≡ 0 = z refl in omega (arith, none)
    one x (there j) = elim j [ ]
full-one false g xs z h x i = h x i

pub found-full : (P : Relations) (n B i : ℕ) → i < length (found P n (0, []) B)
    → length (get_or (found P n (0, []) B) i (0, [])).1 ≡ (get_or (found P n (0, []) B) i (0, [])).0 * P.generators
found-full P n B i l =
    full-one (P.generators == 0) P.generators (filter (is_listed P) (take B (live P n (0, [])))) (eqb-true P.generators 0)
    (λ x j. eqb-true (length x.1) (x.0 * P.generators) (and-left (length x.1 == x.0 * P.generators) (is_least P.generators x.0 x.1) (filter-In (is_listed P) (take B (live P n (0, []))) j)))
    (get_or (found P n (0, []) B) i (0, [])) (at-In (found P n (0, []) B) i (0, []) l)

-- so the number of columns is known from the number of cells
pub same-columns : (m a b k : ℕ) → 1 ≤ m → k ≡ m * a → k ≡ m * b → a ≡ b
same-columns m a b k some e f =
    sym (mul-div_cancel_left a {n = m} (omega (arith, some))) ∙ (ap (λ (x : ℕ). x / m) (sym e ∙ f) ∙ mul-div_cancel_left b {n = m} (omega (arith, some)))

-- the parts of a cover
pub record CoverParts (space : Layers) (pairs : List Pair) (m : ℕ) (cells : List ℕ) : Type 0 where
  pub table : is_table (columns_of space pairs) m cells ≡ true
  pub labelling : is_labelling space m (lift space pairs m cells) ≡ true
  pub connected : is_connected space m (lift space pairs m cells) ≡ true

pub cover-parts : (space : Layers) (pairs : List Pair) (m : ℕ) (cells : List ℕ) → is_cover space pairs (m, cells) ≡ true → CoverParts space pairs m cells
cover-parts space pairs m cells e =
    let u = lift space pairs m cells in
    let a = and_parts (is_table (columns_of space pairs) m cells) (is_least (columns_of space pairs) m cells && (is_labelling space m u && is_connected space m u)) e in
    let b = and_parts (is_least (columns_of space pairs) m cells) (is_labelling space m u && is_connected space m u) a.1 in
    let d = and_parts (is_labelling space m u) (is_connected space m u) b.1 in
    record { table = a.0; labelling = d.0; connected = d.1 }
