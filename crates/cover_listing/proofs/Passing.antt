-- A pass over the components is the listing.
use Rattle.std.proofs.Common.{◌≡◌, ◌⊎◌, inl, inr, ℕ, zero, suc, ◌+◌, ◌-◌, ◌*◌, ◌<◌, ◌≤◌, List, [], ◌∷◌, ◌++◌, map, length, take, drop, filter, refl, ap, arith, sym, subst, ◌∙◌, Bool, true, false, not, ◌&&◌, ◌||◌, length-append, get_or, Option, Some, None, take-append-drop}
use Rattle.std.specs.Prelude.{◌==◌, nat_lt, nat_le, if◌then◌else◌, slice_index_or}
use Rattle.std.specs.List.{flat_map}
use Rattle.std.proofs.lemmas.Bool.{eqb-true, ne_eqb, false≢true}
use Rattle.std.proofs.lemmas.List.Elements.{filter-append}
use Rattle.std.proofs.lemmas.List.{append-nil, length-map, take_all}
use Rattle.std.proofs.Math.Seq.{drop-cons}
use Rattle.number_lists.specs.Members.{In, here}
use Rattle.number_lists.proofs.CallerLemmas.{filter-map, append-In, map-In, flat_map-In, filter-In, In-inside, In-cases, In-right, at-In}
use Rattle.live_laws.specs.Trees.{from, beyond}
use Rattle.live_laws.specs.Live.{Relations, Position, is_live, is_listed, comes_after, live_of, live, listed}
use Rattle.live_laws.specs.Orders.{LiveResumes}
use Rattle.sheet_laws.specs.Tables.{precedes}
use Rattle.cover_search.specs.Searches.{CanStart, last_of}
use Rattle.cover_listing.specs.Listings.{Member, Listed, comes_later, each_in, members, tables, after, spent_in, not_later, listing, spent_of, CanBegin}
use Rattle.cover_listing.specs.Events.{Event, section, sections, of_component, is_reached, events}
use Rattle.cover_listing.specs.Nths.{found}
use Rattle.cover_listing.specs.Passes.{moves, stops, pass, pass_spent}
use Rattle.cover_listing.specs.Passes.{IsPass}
use Rattle.cover_listing.proofs.Cuts.{filter-all, filter-none, filter-swap, filter-agree, before-passing, lt-self, same-self, get-mapped, get-behind}

-- ---- later members

own : (i : ℕ) (t x : Position) → comes_later (i, t) (i, x) ≡ comes_after t x
own i t x = one (nat_lt i i) (i == i) (lt-self i) (same-self i)
  where
    one : (a b : Bool) → a ≡ false → b ≡ true → (a || (b && comes_after t x)) ≡ comes_after t x
    one false true e f = refl
    one true b e f = absurd (false≢true (sym e))
    one false false e f = absurd (false≢true f)

higher : (i j : ℕ) (t x : Position) → i < j → comes_later (i, t) (j, x) ≡ true
higher i j t x l = one (nat_lt i j) (grind (arith, l))
  where
    one : (a : Bool) → a ≡ true → (a || ((i == j) && comes_after t x)) ≡ true
    one true e = refl
    one false e = absurd (false≢true e)

lower : (i j : ℕ) (t x : Position) → j < i → comes_later (i, t) (j, x) ≡ false
lower i j t x l = one (nat_lt i j) (i == j) (grind (arith, l)) (ne_eqb i j (λ e. omega (arith, l, e)))
  where
    one : (a b : Bool) → a ≡ false → b ≡ false → (a || (b && comes_after t x)) ≡ false
    one false false e f = refl
    one true b e f = absurd (false≢true (sym e))
    one false true e f = absurd (false≢true (sym f))

pub first : (x : Position) → 1 ≤ x.0 → comes_after (0, []) x ≡ true
first x l = one (nat_lt 0 x.0) (grind (arith, l))
  where
    one : (a : Bool) → a ≡ true → (a || ((0 == x.0) && precedes [] x.1)) ≡ true
    one true e = refl
    one false e = absurd (false≢true e)

-- ---- what each component has

module _ (ts : Relations → List Position) where
  each-high : (i : ℕ) (Ps : List Relations) (q : Member) → In q (each_in ts i Ps) → i ≤ q.0
  each-high i [] q h = elim h [ ]
  each-high i (P ∷ Ps) q h = elim (append-In (map (λ (t : Position). (i, t)) (ts P)) (each_in ts (suc i) Ps) h) [
    | inl a ↦ (let r = map-In (λ (t : Position). (i, t)) (ts P) a in subst (λ (q : Member). i ≤ q.0) (sym r.2) (omega arith))
    | inr b ↦ omega (arith, each-high (suc i) Ps q b)
  ]

  each-sheet : (i : ℕ) (Ps : List Relations) → ((P : Relations) (x : Position) → In x (ts P) → 1 ≤ x.0) → (q : Member) → In q (each_in ts i Ps) → 1 ≤ q.1.0
  each-sheet i [] s q h = elim h [ ]
  each-sheet i (P ∷ Ps) s q h = elim (append-In (map (λ (t : Position). (i, t)) (ts P)) (each_in ts (suc i) Ps) h) [
    | inl a ↦ (let r = map-In (λ (t : Position). (i, t)) (ts P) a in subst (λ (q : Member). 1 ≤ q.1.0) (sym r.2) (s P r.0 r.1))
    | inr b ↦ each-sheet (suc i) Ps s q b
  ]

  after-behind : (i : ℕ) (t : Position) (Ps : List Relations) → after (i, t) (each_in ts (suc i) Ps) ≡ each_in ts (suc i) Ps
  after-behind i t Ps = filter-all (comes_later (i, t)) (each_in ts (suc i) Ps) (λ q h. higher i q.0 t q.1 (each-high (suc i) Ps q h))

  after-each : (i : ℕ) (t : Position) (P : Relations) (Ps : List Relations) (xs : List Position) → filter (comes_after t) (ts P) ≡ xs → after (i, t) (each_in ts i (P ∷ Ps)) ≡ map (λ x. (i, x)) xs ++ each_in ts (suc i) Ps
  after-each i t P Ps xs e =
      filter-append (comes_later (i, t)) (map (λ (x : Position). (i, x)) (ts P)) (each_in ts (suc i) Ps)
      ∙ (ap (λ (ys : List Member). ys ++ filter (comes_later (i, t)) (each_in ts (suc i) Ps))
      (filter-map (comes_later (i, t)) (λ (x : Position). (i, x)) (ts P)
      ∙ ap (map (λ (x : Position). (i, x))) (filter-agree (λ x. comes_later (i, t) (i, x)) (comes_after t) (own i t) (ts P) ∙ e))
      ∙ ap (λ (ys : List Member). map (λ x. (i, x)) xs ++ ys) (after-behind i t Ps))

  after-start : (i : ℕ) (Ps : List Relations) → ((P : Relations) (x : Position) → In x (ts P) → 1 ≤ x.0) → after (i, (0, [])) (each_in ts i Ps) ≡ each_in ts i Ps
  after-start i Ps s = filter-all (comes_later (i, (0, []))) (each_in ts i Ps) (λ q h. one q (each-high i Ps q h) (each-sheet i Ps s q h))
    where
      two : (q : Member) (a b : Bool) → nat_lt i q.0 ≡ a → (i == q.0) ≡ b → i ≤ q.0 → 1 ≤ q.1.0 → (a || (b && comes_after (0, []) q.1)) ≡ true
      two q true b e f h k = refl
      two q false true e f h k = first q.1 k
      two q false false e f h k = absurd (grind (arith, e, f, h))

      one : (q : Member) → i ≤ q.0 → 1 ≤ q.1.0 → comes_later (i, (0, [])) q ≡ true
      one q h k = two q (nat_lt i q.0) (i == q.0) refl refl h k

-- ---- the tables of a component among those of all

own-part : (i : ℕ) (xs : List Position) (qs : List Member) → ((q : Member) → In q qs → suc i ≤ q.0) → of_component i (map (λ x. (i, x)) xs ++ qs) ≡ xs
own-part i xs qs h =
    ap (map (λ (q : Member). q.1)) (filter-append (λ (q : Member). q.0 == i) (map (λ (x : Position). (i, x)) xs) qs
    ∙ (ap (λ (ys : List Member). filter (λ (q : Member). q.0 == i) (map (λ (x : Position). (i, x)) xs) ++ ys) (filter-none (λ (q : Member). q.0 == i) qs (λ q j. ne_eqb q.0 i (λ e. omega (arith, e, h q j))))
    ∙ append-nil (filter (λ (q : Member). q.0 == i) (map (λ (x : Position). (i, x)) xs))))
    ∙ all-own xs
  where
    all-own : (xs : List Position) → map (λ (q : Member). q.1) (filter (λ (q : Member). q.0 == i) (map (λ (x : Position). (i, x)) xs)) ≡ xs
    all-own xs = ap (map (λ (q : Member). q.1)) (filter-map (λ (q : Member). q.0 == i) (λ (x : Position). (i, x)) xs ∙ ap (map (λ (x : Position). (i, x))) (filter-all (λ (x : Position). i == i) xs (λ x j. same-self i))) ∙ back xs
      where
        back : (xs : List Position) → map (λ (q : Member). q.1) (map (λ (x : Position). (i, x)) xs) ≡ xs
        back [] = refl
        back (x ∷ xs) = ap (λ ys. x ∷ ys) (back xs)

other-part : (i j : ℕ) (xs : List Position) (qs : List Member) → i < j → of_component j (map (λ x. (i, x)) xs ++ qs) ≡ of_component j qs
other-part i j xs qs l =
    ap (map (λ (q : Member). q.1)) (filter-append (λ (q : Member). q.0 == j) (map (λ (x : Position). (i, x)) xs) qs
    ∙ ap (λ (ys : List Member). ys ++ filter (λ (q : Member). q.0 == j) qs) (filter-map (λ (q : Member). q.0 == j) (λ (x : Position). (i, x)) xs
    ∙ ap (map (λ (x : Position). (i, x))) (filter-none (λ (x : Position). i == j) xs (λ x k. ne_eqb i j (λ e. omega (arith, e, l))))))

-- what is handed on of components depends on their own tables alone
same-sections : (n j : ℕ) (l k : Listed) (Ps : List Relations) → ((g : ℕ) → j ≤ g → of_component g l.tables ≡ of_component g k.tables) → l.spent ≡ k.spent → sections n j l Ps ≡ sections n j k Ps
same-sections n j l k [] h e = refl
same-sections n j l k (P ∷ Ps) h e =
    ap (λ (ts : List Position). (if is_reached l.spent j then section n j P.generators ts else []) ++ sections n (suc j) l Ps) (h j (omega arith))
    ∙ (ap (λ (s : Option Member). (if is_reached s j then section n j P.generators (of_component j k.tables) else []) ++ sections n (suc j) l Ps) e
    ∙ ap (λ (es : List Event). (if is_reached k.spent j then section n j P.generators (of_component j k.tables) else []) ++ es) (same-sections n (suc j) l k Ps (λ g m. h g (omega (arith, m))) e))

-- nothing is handed on of components behind the spot
no-sections : (n j i : ℕ) (q : Position) (l : Listed) (Ps : List Relations) → l.spent ≡ Some (i, q) → i < j → sections n j l Ps ≡ []
no-sections n j i q l [] e m = refl
no-sections n j i q l (P ∷ Ps) e m =
    ap (λ (s : Option Member). (if is_reached s j then section n j P.generators (of_component j l.tables) else []) ++ sections n (suc j) l Ps) e
    ∙ one (nat_le j i) (grind (arith, m)) (no-sections n (suc j) i q l Ps e (omega (arith, m)))
  where
    one : (b : Bool) → b ≡ false → sections n (suc j) l Ps ≡ [] → (if b then section n j P.generators (of_component j l.tables) else []) ++ sections n (suc j) l Ps ≡ []
    one false h r = r
    one true h r = absurd (false≢true (sym h))

-- the first component is handed on, where the spot is not before it
first-section : (n i : ℕ) (l : Listed) (P : Relations) (Ps : List Relations) → is_reached l.spent i ≡ true → sections n i l (P ∷ Ps) ≡ section n i P.generators (of_component i l.tables) ++ sections n (suc i) l Ps
first-section n i l P Ps e = rw e refl

-- ---- live partial tables and listed ones, from the start and from a position

live-sheet : (P : Relations) (n : ℕ) (x : Position) → In x (flat_map (live_of P) (from 1 n)) → 1 ≤ x.0
live-sheet P n x h =
    let f = flat_map-In (live_of P) (from 1 n) h in
    let g = map-In (λ p. (f.0, p)) (filter (is_live P f.0) (beyond f.0 (f.0 * P.generators) [])) f.2 in
    subst (λ (q : Position). 1 ≤ q.0) (sym g.2) (from-least 1 n f.0 f.1)
  where
    from-least : (a n k : ℕ) → In k (from a n) → a ≤ k
    from-least a zero k h = elim h [ ]
    from-least a (suc n) k h = elim (In-cases h) [ inl e ↦ omega (arith, e) | inr j ↦ omega (arith, from-least (suc a) n k j) ]

all-live : (P : Relations) (n : ℕ) → live P n (0, []) ≡ flat_map (live_of P) (from 1 n)
all-live P n = filter-all (comes_after (0, [])) (flat_map (live_of P) (from 1 n)) (λ x h. first x (live-sheet P n x h))

live-from : (P : Relations) (n : ℕ) (t : Position) → filter (comes_after t) (live P n (0, [])) ≡ live P n t
live-from P n t = ap (filter (comes_after t)) (all-live P n)

live-least : (P : Relations) (n : ℕ) (x : Position) → In x (live P n (0, [])) → 1 ≤ x.0
live-least P n x h = live-sheet P n x (In-inside (comes_after (0, [])) (flat_map (live_of P) (from 1 n)) h)

listed-least : (P : Relations) (n : ℕ) (x : Position) → In x (listed P n (0, [])) → 1 ≤ x.0
listed-least P n x h = one (P.generators == 0) h
  where
    one : (b : Bool) → In x (elim b [ true ↦ (1, []) ∷ [] | false ↦ filter (is_listed P) (live P n (0, [])) ]) → 1 ≤ x.0
    one true h = elim (In-cases h) [ inl e ↦ subst (λ (q : Position). 1 ≤ q.0) (sym e) (omega arith) | inr j ↦ elim j [ ] ]
    one false h = live-least P n x (In-inside (is_listed P) (live P n (0, [])) h)

module _ (alone : (P : Relations) (m : ℕ) (p : List ℕ) → is_live P m p ≡ true → P.generators ≡ 0 → ⊥) where
  pub none-live : (P : Relations) (n : ℕ) (t : Position) → P.generators ≡ 0 → live P n t ≡ []
  none-live P n t e = one (live P n t) refl
    where
      one : (xs : List Position) → live P n t ≡ xs → xs ≡ []
      one [] f = refl
      one (x ∷ xs) f =
          let h : In x (live P n t) = subst (λ (ys : List Position). In x ys) (sym f) here in
          let a = flat_map-In (live_of P) (from 1 n) (In-inside (comes_after t) (flat_map (live_of P) (from 1 n)) h) in
          let b = map-In (λ p. (a.0, p)) (filter (is_live P a.0) (beyond a.0 (a.0 * P.generators) [])) a.2 in
          absurd (alone P a.0 b.0 (filter-In (is_live P a.0) (beyond a.0 (a.0 * P.generators) []) b.1) e)

  start-alone : (P : Relations) (n : ℕ) (t : Position) → P.generators ≡ 0 → CanStart P n t → t ≡ (0, [])
  start-alone P n t e (inl h) = h
  start-alone P n t e (inr h) = absurd (alone P t.0 t.1 h.1 e)

  listed-from : (P : Relations) (n : ℕ) (t : Position) → CanStart P n t → filter (comes_after t) (listed P n (0, [])) ≡ listed P n t
  listed-from P n t can = one (P.generators == 0) refl
    where
      one : (b : Bool) → (P.generators == 0) ≡ b → filter (comes_after t) (elim b [ true ↦ (1, []) ∷ [] | false ↦ filter (is_listed P) (live P n (0, [])) ]) ≡ elim b [ true ↦ (1, []) ∷ [] | false ↦ filter (is_listed P) (live P n t) ]
      one true e = ap (λ (s : Position). filter (comes_after s) ((1, []) ∷ [])) (start-alone P n t (eqb-true _ _ e) can)
      one false e = filter-swap (comes_after t) (is_listed P) (live P n (0, [])) ∙ ap (filter (is_listed P)) (live-from P n t)

-- ---- where the budget is spent

pub last-taken : (t : Position) (xs : List Position) (b : ℕ) → b < length xs → last_of t (take (suc b) xs) ≡ get_or xs b (0, [])
last-taken t [] b l = absurd (omega (arith, l))
last-taken t (x ∷ xs) zero l = refl
last-taken t (x ∷ xs) (suc b) l = last-taken x xs b (omega (arith, l))

mapped : (i : ℕ) (xs : List Position) → length (map {B = Member} (λ (x : Position). (i, x)) xs) ≡ length xs
mapped i xs = length-map {B = Member} xs (λ (x : Position). (i, x))

long : (i : ℕ) (xs : List Position) (qs : List Member) → length (map (λ (x : Position). (i, x)) xs ++ qs) ≡ length xs + length qs
long i xs qs = length-append (map (λ (x : Position). (i, x)) xs) qs ∙ ap (λ (k : ℕ). k + length qs) (mapped i xs)

spent-here : (i : ℕ) (t : Position) (B : ℕ) (xs : List Position) (qs : List Member) → 1 ≤ B → B ≤ length xs → B < length xs + length qs → spent_in (i, t) B (map (λ x. (i, x)) xs ++ qs) ≡ Some (i, last_of t (take B xs))
spent-here i t B xs qs k l m =
    let e : nat_lt B (length (map (λ (x : Position). (i, x)) xs ++ qs)) ≡ true = grind (arith, m, long i xs qs) in
    let j : suc (B - 1) ≡ B = omega (arith, k) in
    rw e
    (ap Some (get-mapped (λ (x : Position). (i, x)) xs qs (B - 1) (i, t) (0, []) (omega (arith, k, l))
    ∙ ap (λ (x : Position). (i, x)) (sym (last-taken t xs (B - 1) (omega (arith, k, l))) ∙ ap (λ (j : ℕ). last_of t (take j xs)) j)))

spent-behind : (i : ℕ) (t : Position) (T : Member) (B : ℕ) (xs : List Position) (qs : List Member) → length xs ≤ B → (length xs < B) ⊎ (qs ≡ [])
    → spent_in (i, t) B (map (λ x. (i, x)) xs ++ qs) ≡ spent_in T (B - length xs) qs
spent-behind i t T B xs qs l (inr e) =
    let f : nat_lt B (length (map (λ (x : Position). (i, x)) xs ++ qs)) ≡ false = grind (arith, l, long i xs qs, ap length e) in
    let g : nat_lt (B - length xs) (length qs) ≡ false = grind (arith, ap length e) in
    rw (f, g) refl
spent-behind i t T B xs qs l (inl m) = one (nat_lt (B - length xs) (length qs)) refl
  where
    one : (b : Bool) → nat_lt (B - length xs) (length qs) ≡ b → spent_in (i, t) B (map (λ x. (i, x)) xs ++ qs) ≡ spent_in T (B - length xs) qs
    one true e =
        let f : nat_lt B (length (map (λ (x : Position). (i, x)) xs ++ qs)) ≡ true = grind (arith, m, e, long i xs qs) in
        rw (f, e)
        (ap Some (get-behind (map (λ (x : Position). (i, x)) xs) qs (B - 1) (B - length xs - 1) (i, t) T (omega (arith, m, mapped i xs)) (grind (arith, m, e))))
    one false e =
        let f : nat_lt B (length (map (λ (x : Position). (i, x)) xs ++ qs)) ≡ false = grind (arith, m, e, long i xs qs) in
        rw (f, e) refl

spent-inside : (T : Member) (B : ℕ) (qs : List Member) (s : Member) → spent_in T B qs ≡ Some s → In s qs
spent-inside T B qs s e = one (nat_lt B (length qs)) refl e
  where
    one : (b : Bool) → nat_lt B (length qs) ≡ b → (if b then Some (slice_index_or qs (B - 1) T) else None) ≡ Some s → In s qs
    one true f e = (let g : slice_index_or qs (B - 1) T ≡ s = cc in subst (λ (q : Member). In q qs) g) (at-In qs (B - 1) T (grind (arith, f)))
    one false f e = absurd (grind (arith, e))

cut-here : (ts : Relations → List Position) (i : ℕ) (q : Position) (xs : List Position) (Ps : List Relations)
    → not_later (Some (i, q)) (map (λ x. (i, x)) xs ++ each_in ts (suc i) Ps) ≡ map (λ x. (i, x)) (filter (λ x. not (comes_after q x)) xs)
cut-here ts i q xs Ps =
    filter-append (λ (s : Member). not (comes_later (i, q) s)) (map (λ (x : Position). (i, x)) xs) (each_in ts (suc i) Ps)
    ∙ (ap (λ (ys : List Member). filter (λ (s : Member). not (comes_later (i, q) s)) (map (λ (x : Position). (i, x)) xs) ++ ys)
    (filter-none (λ (s : Member). not (comes_later (i, q) s)) (each_in ts (suc i) Ps) (λ s h. ap not (higher i s.0 q s.1 (each-high ts (suc i) Ps s h))))
    ∙ (append-nil (filter (λ (s : Member). not (comes_later (i, q) s)) (map (λ (x : Position). (i, x)) xs))
    ∙ (filter-map (λ (s : Member). not (comes_later (i, q) s)) (λ (x : Position). (i, x)) xs
    ∙ ap (map (λ (x : Position). (i, x))) (filter-agree (λ (x : Position). not (comes_later (i, q) (i, x))) (λ (x : Position). not (comes_after q x)) (λ x. ap not (own i q x)) xs))))

cut-behind : (i : ℕ) (spent : Option Member) (xs : List Position) (qs : List Member) → ((s : Member) → spent ≡ Some s → i < s.0)
    → not_later spent (map (λ x. (i, x)) xs ++ qs) ≡ map (λ x. (i, x)) xs ++ not_later spent qs
cut-behind i None xs qs h = refl
cut-behind i (Some s) xs qs h =
    filter-append (λ (q : Member). not (comes_later s q)) (map (λ (x : Position). (i, x)) xs) qs
    ∙ ap (λ (ys : List Member). ys ++ filter (λ (q : Member). not (comes_later s q)) qs)
    (filter-all (λ (q : Member). not (comes_later s q)) (map (λ (x : Position). (i, x)) xs)
    (λ q j. let r = map-In (λ (x : Position). (i, x)) xs j in subst (λ (q : Member). not (comes_later s q) ≡ true) (sym r.2) (ap not (lower s.0 i s.1 r.0 (h s refl)))))

-- ---- those that come no later than one of them

module _ (resumes : LiveResumes) (P : Relations) (n : ℕ) (t : Position) (b : ℕ) (l : b < length (live P n t)) where
  all : List Position
  all = flat_map (live_of P) (from 1 n)

  q : Position
  q = get_or (live P n t) b (0, [])

  inside : (x : Position) → In x (drop (suc b) (live P n t)) → In x (live P n t)
  inside x h = subst (λ (xs : List Position). In x xs) (take-append-drop (suc b) (live P n t)) (In-right (take (suc b) (live P n t)) h)

  left-is : live P n (get_or (live P n t) b (0, [])) ≡ drop (suc b) (live P n t)
  left-is = resumes P n t (get_or (live P n t) b (0, [])) (take b (live P n t)) (drop (suc b) (live P n t)) (sym (take-append-drop b (live P n t)) ∙ ap (λ qs. take b (live P n t) ++ qs) (drop-cons (live P n t) b (0, []) l))

  later-ones : filter (comes_after (get_or (live P n t) b (0, []))) (live P n t) ≡ drop (suc b) (live P n t)
  later-ones =
      filter-swap (comes_after (get_or (live P n t) b (0, []))) (comes_after t) (flat_map (live_of P) (from 1 n))
      ∙ (ap (filter (comes_after t)) left-is
      ∙ filter-all (comes_after t) (drop (suc b) (live P n t)) (λ x h. filter-In (comes_after t) (flat_map (live_of P) (from 1 n)) (inside x h)))

  pub no-later : filter (λ x. not (comes_after (get_or (live P n t) b (0, [])) x)) (live P n t) ≡ take (suc b) (live P n t)
  no-later =
      ap (filter (λ x. not (comes_after (get_or (live P n t) b (0, [])) x))) (sym (take-append-drop (suc b) (live P n t)))
      ∙ before-passing (comes_after (get_or (live P n t) b (0, []))) (take (suc b) (live P n t)) (drop (suc b) (live P n t))
      (ap (filter (comes_after (get_or (live P n t) b (0, [])))) (take-append-drop (suc b) (live P n t)) ∙ later-ones)
      (filter-all (comes_after (get_or (live P n t) b (0, []))) (drop (suc b) (live P n t))
      (λ x h. filter-In (comes_after (get_or (live P n t) b (0, []))) (flat_map (live_of P) (from 1 n)) (subst (λ (xs : List Position). In x xs) (sym left-is) h)))

up-to : LiveResumes → (P : Relations) (n : ℕ) (t : Position) (B : ℕ) → 1 ≤ B → B ≤ length (live P n t)
    → filter (λ x. not (comes_after (last_of t (take B (live P n t))) x)) (live P n t) ≡ take B (live P n t)
up-to resumes P n t B k l =
    let e : suc (B - 1) ≡ B = omega (arith, k) in
    subst
    (λ (j : ℕ). filter (λ x. not (comes_after (last_of t (take j (live P n t))) x)) (live P n t) ≡ take j (live P n t))
    e
    (ap (λ (q : Position). filter (λ x. not (comes_after q x)) (live P n t)) (last-taken t (live P n t) (B - 1) (omega (arith, k, l))) ∙ no-later resumes P n t (B - 1) (omega (arith, k, l)))

-- ---- component by component

module _ (alone : (P : Relations) (m : ℕ) (p : List ℕ) → is_live P m p ≡ true → P.generators ≡ 0 → ⊥)
    (some : (P : Relations) (n : ℕ) → 1 ≤ n → 1 ≤ P.generators → 1 ≤ length (live P n (0, [])))
    (resumes : LiveResumes) (n : ℕ) (least : 1 ≤ n) where
  many : (i : ℕ) (Ps : List Relations) → moves Ps ≡ true → 1 ≤ length (members n i Ps)
  many i [] e = absurd (false≢true e)
  many i (P ∷ Ps) e = one (nat_lt 0 P.generators) refl e (many (suc i) Ps)
    where
      one : (a : Bool) → nat_lt 0 P.generators ≡ a → (a || moves Ps) ≡ true → (moves Ps ≡ true → 1 ≤ length (members n (suc i) Ps)) → 1 ≤ length (members n i (P ∷ Ps))
      one true f e h = omega (arith, long i (live P n (0, [])) (members n (suc i) Ps), some P n least (grind (arith, f)))
      one false f e h = omega (arith, long i (live P n (0, [])) (members n (suc i) Ps), h e)

  few : (i : ℕ) (Ps : List Relations) → moves Ps ≡ false → members n i Ps ≡ []
  few i [] e = refl
  few i (P ∷ Ps) e = one (nat_lt 0 P.generators) refl e (few (suc i) Ps)
    where
      one : (a : Bool) → nat_lt 0 P.generators ≡ a → (a || moves Ps) ≡ false → (moves Ps ≡ false → members n (suc i) Ps ≡ []) → members n i (P ∷ Ps) ≡ []
      one true f e h = absurd (false≢true (sym e))
      one false f e h = ap (λ (xs : List Position). map (λ (x : Position). (i, x)) xs ++ members n (suc i) Ps) (none-live alone P n (0, []) (grind (arith, f))) ∙ h e

  module _ (i B : ℕ) (t : Position) (P : Relations) (Ps : List Relations) (can : CanStart P n t) where
    spent-is : after (i, t) (members n i (P ∷ Ps)) ≡ map (λ x. (i, x)) (live P n t) ++ members n (suc i) Ps
    spent-is = after-each (λ P. live P n (0, [])) i t P Ps (live P n t) (live-from P n t)

    tables-is : after (i, t) (tables n i (P ∷ Ps)) ≡ map (λ x. (i, x)) (listed P n t) ++ tables n (suc i) Ps
    tables-is = after-each (λ P. listed P n (0, [])) i t P Ps (listed P n t) (listed-from alone P n t can)

    -- the budget is spent in the first component
    module _ (k : 1 ≤ B) (l : B ≤ length (live P n t)) (m : B < length (live P n t) + length (members n (suc i) Ps)) where
      stop-spent : spent_of (P ∷ Ps) n (i, t) B ≡ Some (i, last_of t (take B (live P n t)))
      stop-spent = ap (spent_in (i, t) B) spent-is ∙ spent-here i t B (live P n t) (members n (suc i) Ps) k l m

      kept : filter (λ x. not (comes_after (last_of t (take B (live P n t))) x)) (listed P n t) ≡ found P n t B
      kept = one (P.generators == 0) refl
        where
          one : (b : Bool) → (P.generators == 0) ≡ b
              → filter (λ x. not (comes_after (last_of t (take B (live P n t))) x)) (elim b [ true ↦ (1, []) ∷ [] | false ↦ filter (is_listed P) (live P n t) ])
              ≡ elim b [ true ↦ (1, []) ∷ [] | false ↦ filter (is_listed P) (take B (live P n t)) ]
          one true e = absurd (omega (arith, k, l, ap length (none-live alone P n t (eqb-true _ _ e))))
          one false e = filter-swap (λ x. not (comes_after (last_of t (take B (live P n t))) x)) (is_listed P) (live P n t) ∙ ap (filter (is_listed P)) (up-to resumes P n t B k l)

      stop-tables : (listing (P ∷ Ps) n (i, t) B).tables ≡ map (λ x. (i, x)) (found P n t B) ++ []
      stop-tables =
          ap (λ (s : Option Member). not_later s (after (i, t) (tables n i (P ∷ Ps)))) stop-spent
          ∙ (ap (not_later (Some (i, last_of t (take B (live P n t))))) tables-is
          ∙ (cut-here (λ P. listed P n (0, [])) i (last_of t (take B (live P n t))) (listed P n t) Ps
          ∙ (ap (map (λ (x : Position). (i, x))) kept ∙ sym (append-nil (map (λ (x : Position). (i, x)) (found P n t B))))))

      stop-events : events (P ∷ Ps) n (i, t) B ≡ section n i P.generators (found P n t B) ++ []
      stop-events =
          first-section n i (listing (P ∷ Ps) n (i, t) B) P Ps (ap (λ (s : Option Member). is_reached s i) stop-spent ∙ grind arith)
          ∙ (ap (λ (es : List Event). section n i P.generators (of_component i (listing (P ∷ Ps) n (i, t) B).tables) ++ es) (no-sections n (suc i) i (last_of t (take B (live P n t))) (listing (P ∷ Ps) n (i, t) B) Ps stop-spent (omega arith))
          ∙ ap (λ (ts : List Position). section n i P.generators ts ++ []) (ap (of_component i) stop-tables ∙ own-part i (found P n t B) [] (λ q h. elim h [ ])))

      stop-pass : stops P (moves Ps) n t B ≡ true → IsPass n B t i (P ∷ Ps)
      stop-pass e = record {
        spent = stop-spent ∙ sym (ap (λ (b : Bool). if b then Some (i, last_of t (take B (live P n t))) else pass_spent n (B - length (live P n t)) (0, []) (suc i) Ps) e);
        events = stop-events ∙ sym (ap (λ (b : Bool). section n i P.generators (found P n t B) ++ (if b then [] else pass n (B - length (live P n t)) (0, []) (suc i) Ps)) e);
      }

    -- the budget is enough for it
    module _ (l : length (live P n t) ≤ B) (m : (length (live P n t) < B) ⊎ (moves Ps ≡ false)) (rest : IsPass n (B - length (live P n t)) (0, []) (suc i) Ps) where
      none-left : (length (live P n t) < B) ⊎ (moves Ps ≡ false) → (length (live P n t) < B) ⊎ (members n (suc i) Ps ≡ [])
      none-left (inl h) = inl h
      none-left (inr h) = inr (few (suc i) Ps h)

      go-spent : spent_of (P ∷ Ps) n (i, t) B ≡ spent_of Ps n (suc i, (0, [])) (B - length (live P n t))
      go-spent =
          ap (spent_in (i, t) B) spent-is
          ∙ (spent-behind i t (suc i, (0, [])) B (live P n t) (members n (suc i) Ps) l (none-left m)
          ∙ ap (spent_in (suc i, (0, [])) (B - length (live P n t))) (sym (after-start (λ P. live P n (0, [])) (suc i) Ps (λ P x h. live-least P n x h))))

      spot-behind : (s : Member) → spent_of (P ∷ Ps) n (i, t) B ≡ Some s → i < s.0
      spot-behind s e =
          omega (
            arith,
            each-high (λ P. live P n (0, [])) (suc i) Ps s (In-inside (comes_later (suc i, (0, []))) (members n (suc i) Ps)
                (spent-inside (suc i, (0, [])) (B - length (live P n t)) (after (suc i, (0, [])) (members n (suc i) Ps)) s (sym go-spent ∙ e))),
          )

      reached : (o : Option Member) → ((s : Member) → o ≡ Some s → i < s.0) → is_reached o i ≡ true
      reached None h = refl
      reached (Some s) h = grind (arith, h s refl)

      go-tables : (listing (P ∷ Ps) n (i, t) B).tables ≡ map (λ x. (i, x)) (listed P n t) ++ (listing Ps n (suc i, (0, [])) (B - length (live P n t))).tables
      go-tables =
          ap (not_later (spent_of (P ∷ Ps) n (i, t) B)) tables-is
          ∙ (cut-behind i (spent_of (P ∷ Ps) n (i, t) B) (listed P n t) (tables n (suc i) Ps) spot-behind
          ∙ (ap (λ (s : Option Member). map (λ x. (i, x)) (listed P n t) ++ not_later s (tables n (suc i) Ps)) go-spent
          ∙ ap (λ (qs : List Member). map (λ x. (i, x)) (listed P n t) ++ not_later (spent_of Ps n (suc i, (0, [])) (B - length (live P n t))) qs)
          (sym (after-start (λ P. listed P n (0, [])) (suc i) Ps (λ P x h. listed-least P n x h)))))

      rest-high : (q : Member) → In q (listing Ps n (suc i, (0, [])) (B - length (live P n t))).tables → suc i ≤ q.0
      rest-high q h = each-high (λ P. listed P n (0, [])) (suc i) Ps q (In-inside (comes_later (suc i, (0, []))) (tables n (suc i) Ps) (inside-cut (spent_of Ps n (suc i, (0, [])) (B - length (live P n t))) (after (suc i, (0, [])) (tables n (suc i) Ps)) h))
        where
          inside-cut : (o : Option Member) (qs : List Member) → In q (not_later o qs) → In q qs
          inside-cut None qs h = h
          inside-cut (Some s) qs h = In-inside (λ q. not (comes_later s q)) qs h

      all-found : listed P n t ≡ found P n t B
      all-found = ap (λ (xs : List Position). elim (P.generators == 0) [ true ↦ (1, []) ∷ [] | false ↦ filter (is_listed P) xs ]) (sym (take_all B (live P n t) l))

      go-events : events (P ∷ Ps) n (i, t) B ≡ section n i P.generators (found P n t B) ++ events Ps n (suc i, (0, [])) (B - length (live P n t))
      go-events =
          first-section n i (listing (P ∷ Ps) n (i, t) B) P Ps (reached (spent_of (P ∷ Ps) n (i, t) B) spot-behind)
          ∙ (ap (λ (ts : List Position). section n i P.generators ts ++ sections n (suc i) (listing (P ∷ Ps) n (i, t) B) Ps)
          (ap (of_component i) go-tables ∙ (own-part i (listed P n t) (listing Ps n (suc i, (0, [])) (B - length (live P n t))).tables rest-high ∙ all-found))
          ∙ ap (λ (es : List Event). section n i P.generators (found P n t B) ++ es)
          (same-sections n (suc i) (listing (P ∷ Ps) n (i, t) B) (listing Ps n (suc i, (0, [])) (B - length (live P n t))) Ps
          (λ g h. ap (of_component g) go-tables ∙ other-part i g (listed P n t) (listing Ps n (suc i, (0, [])) (B - length (live P n t))).tables (omega (arith, h))) go-spent))

      go-pass : stops P (moves Ps) n t B ≡ false → IsPass n B t i (P ∷ Ps)
      go-pass e = record {
        spent = go-spent ∙ (rest.spent ∙ sym (ap (λ (b : Bool). if b then Some (i, last_of t (take B (live P n t))) else pass_spent n (B - length (live P n t)) (0, []) (suc i) Ps) e));
        events = go-events ∙ (ap (λ (es : List Event). section n i P.generators (found P n t B) ++ es) rest.events
            ∙ sym (ap (λ (b : Bool). section n i P.generators (found P n t B) ++ (if b then [] else pass n (B - length (live P n t)) (0, []) (suc i) Ps)) e));
      }

  begins : (Ps : List Relations) → CanBegin Ps n (0, [])
  begins [] = refl
  begins (P ∷ Ps) = inl refl

  -- a component with a live partial table has a generator
  enough : (B : ℕ) (t : Position) (P : Relations) (Ps : List Relations) → (1 ≤ B) ⊎ (moves (P ∷ Ps) ≡ false) → stops P (moves Ps) n t B ≡ true → 1 ≤ B
  enough B t P Ps (inl k) e = k
  enough B t P Ps (inr h) e = one (nat_lt 0 P.generators) (moves Ps) refl h e
    where
      two : (a : Bool) → nat_lt B (length (live P n t)) ≡ a → P.generators ≡ 0 → (a || (nat_le B (length (live P n t)) && false)) ≡ true → 1 ≤ B
      two true f g e = absurd (grind (arith, f, ap length (none-live alone P n t g)))
      two false f g e = absurd (three (nat_le B (length (live P n t))) e)
        where
          three : (b : Bool) → (b && false) ≡ true → ⊥
          three true e = false≢true e
          three false e = false≢true e

      one : (a c : Bool) → nat_lt 0 P.generators ≡ a → (a || c) ≡ false → (nat_lt B (length (live P n t)) || (nat_le B (length (live P n t)) && c)) ≡ true → 1 ≤ B
      one true c f h e = absurd (false≢true (sym h))
      one false true f h e = absurd (false≢true (sym h))
      one false false f h e = two (nat_lt B (length (live P n t))) refl (grind (arith, f)) e

  part-is : (B : ℕ) (t : Position) (i : ℕ) (P : Relations) (Ps : List Relations) → (1 ≤ B) ⊎ (moves (P ∷ Ps) ≡ false) → CanStart P n t
      → ((1 ≤ B - length (live P n t)) ⊎ (moves Ps ≡ false) → IsPass n (B - length (live P n t)) (0, []) (suc i) Ps) → IsPass n B t i (P ∷ Ps)
  part-is B t i P Ps some-left can rest = one (nat_lt B (length (live P n t))) (nat_le B (length (live P n t))) (moves Ps) refl refl refl
    where
      one : (a b c : Bool) → nat_lt B (length (live P n t)) ≡ a → nat_le B (length (live P n t)) ≡ b → moves Ps ≡ c → IsPass n B t i (P ∷ Ps)
      one true b c e f g =
          let s : stops P (moves Ps) n t B ≡ true = ap (λ (a : Bool). a || (nat_le B (length (live P n t)) && moves Ps)) e in
          stop-pass i B t P Ps can (enough B t P Ps some-left s) (grind (arith, e)) (grind (arith, e)) s
      one false true true e f g =
          let s : stops P (moves Ps) n t B ≡ true = ap (λ (a : Bool). a || (nat_le B (length (live P n t)) && moves Ps)) e ∙ (ap (λ (b : Bool). b && moves Ps) f ∙ g) in
          stop-pass i B t P Ps can (enough B t P Ps some-left s) (grind (arith, f)) (grind (arith, f, many (suc i) Ps g)) s
      one false true false e f g =
          go-pass i B t P Ps can (grind (arith, e)) (inr g) (rest (inr g)) (ap (λ (a : Bool). a || (nat_le B (length (live P n t)) && moves Ps)) e ∙ (ap (λ (b : Bool). b && moves Ps) f ∙ g))
      one false false c e f g =
          go-pass i B t P Ps can (grind (arith, e)) (inl (grind (arith, f))) (rest (inl (grind (arith, f)))) (ap (λ (a : Bool). a || (nat_le B (length (live P n t)) && moves Ps)) e ∙ ap (λ (b : Bool). b && moves Ps) f)

  pub pass_is : (B : ℕ) (t : Position) (i : ℕ) (Ps : List Relations) → (1 ≤ B) ⊎ (moves Ps ≡ false) → CanBegin Ps n t → IsPass n B t i Ps
  pass_is B t i [] h can = record { spent = let e : nat_lt B 0 ≡ false = grind arith in rw e refl; events = refl }
  pass_is B t i (P ∷ Ps) h can = part-is B t i P Ps h can (λ k. pass_is (B - length (live P n t)) (0, []) (suc i) Ps k (begins Ps))
