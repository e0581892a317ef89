-- Signs beside numbers.
use Rattle.std.proofs.Common.{◌≡◌, ◌≢◌, ◌⊎◌, inl, inr, ℕ, zero, suc, ◌+◌, ◌<◌, ◌≤◌, List, [], ◌∷◌, ◌++◌, Bool, true, false, cond, not, ◌||◌, ◌&&◌, eqb, filter, map, set, take, replicate, length, get_or, refl, ap, sym, ◌∙◌, subst, arith}
use Rattle.std.specs.List.Sorted.{IsStrictlyIncreasing}
use Rattle.std.proofs.lemmas.Bool.{eqb-true, eq-eqb, false≢true, ne_eqb}
use Rattle.std.proofs.lemmas.List.{take_more}
use Rattle.std.proofs.lemmas.List.Kept.{AllPairs-from_increasing}
use Rattle.regular_check.specs.declared.cycles.Step.{Step}
use Rattle.std.specs.List.{list_any}
use Rattle.number_lists.specs.Words.{holds}
use Rattle.face_poset.specs.Poset.{facets_of}
use Rattle.cell_signs.specs.Along.{across, goes_back}
use Rattle.cell_signs.proofs.Sums.{Once}
use Rattle.number_lists.specs.Members.{In, here, there}

pub map-same : {A : Type 0} (F G : ℕ → A) (xs : List ℕ) → ((x : ℕ) → In x xs → F x ≡ G x) → map F xs ≡ map G xs
map-same F G [] h = refl
map-same F G (x ∷ xs) h = ap (λ y. y ∷ map F xs) (h x here) ∙ ap (λ ys. G x ∷ ys) (map-same F G xs (λ z i. h z (there i)))

pub in_place : (xs : List ℕ) (k : ℕ) → k < length xs → In (get_or xs k 0) xs
in_place [] k l = absurd (omega (arith, l))
in_place (x ∷ xs) zero l = here
in_place (x ∷ xs) (suc k) l = there (in_place xs k (omega (arith, l)))

-- one value changed
pub put_at : (F : ℕ → Bool) (xs : List ℕ) (place n : ℕ) (y : Bool) → Once xs → place < length xs → get_or xs place 0 ≡ n → set (map F xs) place y ≡ map (λ m. cond (eqb m n) y (F m)) xs
put_at F [] place n y o l e = absurd (omega (arith, l))
put_at F (x ∷ xs) zero n y o l e =
    ap (λ (b : Bool). b ∷ map F xs) (sym (ap (λ (b : Bool). cond b y (F x)) (eq-eqb x n e)))
    ∙ ap (λ (bs : List Bool). cond (eqb x n) y (F x) ∷ bs) (map-same F (λ m. cond (eqb m n) y (F m)) xs (λ z i. sym (ap (λ (b : Bool). cond b y (F z)) (ne_eqb z n (λ q. o.0 (subst (λ (w : ℕ). In w xs) (q ∙ sym e) i))))))
put_at F (x ∷ xs) (suc k) n y o l e =
    ap (λ (b : Bool). b ∷ set (map F xs) k y) (sym (ap (λ (b : Bool). cond b y (F x)) (ne_eqb x n (λ q. o.0 (subst (λ (w : ℕ). In w xs) (e ∙ sym q) (in_place xs k (omega (arith, l))))))))
    ∙ ap (λ (bs : List Bool). cond (eqb x n) y (F x) ∷ bs) (put_at F xs k n y o.1 (omega (arith, l)) e)

-- a number that is not there
pub put_nowhere : (F : ℕ → Bool) (xs : List ℕ) (n : ℕ) (y : Bool) → ((k : ℕ) → k < length xs → get_or xs k 0 ≢ n) → map F xs ≡ map (λ m. cond (eqb m n) y (F m)) xs
put_nowhere F [] n y h = refl
put_nowhere F (x ∷ xs) n y h =
    ap (λ (b : Bool). b ∷ map F xs) (sym (ap (λ (b : Bool). cond b y (F x)) (ne_eqb x n (h zero (omega arith)))))
    ∙ ap (λ (bs : List Bool). cond (eqb x n) y (F x) ∷ bs) (put_nowhere F xs n y (λ k l. h (suc k) (omega (arith, l))))

-- one step more
back-append : (steps : List Step) (s : Step) (e : ℕ) → goes_back (steps ++ s ∷ []) e ≡ (goes_back steps e || (eqb s.edge e && not s.forward))
back-append [] s e = or_false (eqb s.edge e && not s.forward)
  where
    or_false : (b : Bool) → (b || false) ≡ b
    or_false true = refl
    or_false false = refl
back-append (t ∷ ts) s e = ap (λ (b : Bool). (eqb t.edge e && not t.forward) || b) (back-append ts s e) ∙ assoc (eqb t.edge e && not t.forward) (goes_back ts e) (eqb s.edge e && not s.forward)
  where
    assoc : (a b c : Bool) → (a || (b || c)) ≡ ((a || b) || c)
    assoc true b c = refl
    assoc false b c = refl

back_more_at : (steps : List Step) (i : ℕ) (d s : Step) → i < length steps → get_or steps i d ≡ s → s.forward ≡ false → (xs : List ℕ) → map (λ n. cond (eqb n s.edge) true (goes_back (take i steps) n)) xs ≡ map (goes_back (take (i + 1) steps)) xs
back_more_at steps i d s l at f xs =
    map-same (λ n. cond (eqb n s.edge) true (goes_back (take i steps) n)) (goes_back (take (i + 1) steps)) xs
    (λ n j. by n (eqb n s.edge) refl ∙ sym (ap (λ (ts : List Step). goes_back ts n) (take_more steps i d l ∙ ap (λ (t : Step). take i steps ++ t ∷ []) at) ∙ back-append (take i steps) s n))
  where
    or_true : (b : Bool) → (b || true) ≡ true
    or_true true = refl
    or_true false = refl

    or_false : (b : Bool) → (b || false) ≡ b
    or_false true = refl
    or_false false = refl

    by : (n : ℕ) (b : Bool) → eqb n s.edge ≡ b → cond (eqb n s.edge) true (goes_back (take i steps) n) ≡ (goes_back (take i steps) n || (eqb s.edge n && not s.forward))
    by n true e = ap (λ (b : Bool). cond b true (goes_back (take i steps) n)) e ∙ sym (ap (λ (b : Bool). goes_back (take i steps) n || (b && not s.forward)) (eq-eqb s.edge n (sym (eqb-true n s.edge e))) ∙ (ap (λ (b : Bool). goes_back (take i steps) n || not b) f ∙ or_true (goes_back (take i steps) n)))
    by n false e = ap (λ (b : Bool). cond b true (goes_back (take i steps) n)) e ∙ sym (ap (λ (b : Bool). goes_back (take i steps) n || (b && not s.forward)) (ne_eqb s.edge n (λ q. false≢true (sym e ∙ eq-eqb n s.edge (sym q)))) ∙ or_false (goes_back (take i steps) n))

back_same_at : (steps : List Step) (i : ℕ) (d s : Step) → i < length steps → get_or steps i d ≡ s → s.forward ≡ true → (xs : List ℕ) → map (goes_back (take i steps)) xs ≡ map (goes_back (take (i + 1) steps)) xs
back_same_at steps i d s l at f xs =
    map-same (goes_back (take i steps)) (goes_back (take (i + 1) steps)) xs
    (λ n j. sym (ap (λ (ts : List Step). goes_back ts n) (take_more steps i d l ∙ ap (λ (t : Step). take i steps ++ t ∷ []) at) ∙ (back-append (take i steps) s n
    ∙ (ap (λ (b : Bool). goes_back (take i steps) n || (eqb s.edge n && not b)) f ∙ (ap (λ (b : Bool). goes_back (take i steps) n || b) (and_false (eqb s.edge n)) ∙ or_false (goes_back (take i steps) n))))))
  where
    and_false : (b : Bool) → (b && false) ≡ false
    and_false true = refl
    and_false false = refl

    or_false : (b : Bool) → (b || false) ≡ b
    or_false true = refl
    or_false false = refl

pub rising_up : (xs : List ℕ) → IsStrictlyIncreasing xs → (i j : ℕ) → i ≤ j → j < length xs → get_or xs i 0 ≤ get_or xs j 0
rising_up xs h i j le lt = elim (order i j) [ inl l ↦ omega (arith, AllPairs-from_increasing xs h i j 0 l lt) | inr l ↦ (let e : i ≡ j = omega (arith, le, l) in omega (arith, ap (λ (k : ℕ). get_or xs k 0) e)) ]
  where
    order : (a b : ℕ) → (a < b) ⊎ (b ≤ a)
    order zero zero = inr (omega arith)
    order zero (suc b) = inl (omega arith)
    order (suc a) zero = inr (omega arith)
    order (suc a) (suc b) = elim (order a b) [ inl l ↦ inl (omega (arith, l)) | inr l ↦ inr (omega (arith, l)) ]

pub beside : (xs : List ℕ) (n place : ℕ) → ((k : ℕ) → k < place → get_or xs k 0 < n) → ((k : ℕ) → place ≤ k → k < length xs → n < get_or xs k 0) → (k : ℕ) → k < length xs → get_or xs k 0 ≢ n
beside xs n place below above k l e = elim (order k place) [ inl m ↦ absurd (omega (arith, below k m, e)) | inr m ↦ absurd (omega (arith, above k m l, e)) ]
  where
    order : (a b : ℕ) → (a < b) ⊎ (b ≤ a)
    order zero zero = inr (omega arith)
    order zero (suc b) = inl (omega arith)
    order (suc a) zero = inr (omega arith)
    order (suc a) (suc b) = elim (order a b) [ inl l ↦ inl (omega (arith, l)) | inr l ↦ inr (omega (arith, l)) ]

pub none_back : (n : ℕ) (xs : List ℕ) → n ≡ length xs → replicate n false ≡ map (goes_back []) xs
none_back zero [] e = refl
none_back (suc n) [] e = absurd (omega (arith, e))
none_back zero (x ∷ xs) e = absurd (omega (arith, e))
none_back (suc n) (x ∷ xs) e = ap (λ bs. false ∷ bs) (none_back n xs (omega (arith, e)))

pub back_more : (items steps : List Step) → items ≡ steps → (i : ℕ) (d : Step) → i < length items → (get_or items i d).forward ≡ false → (xs : List ℕ) → map (λ n. cond (eqb n (get_or items i d).edge) true (goes_back (take i steps) n)) xs ≡ map (goes_back (take (i + 1) steps)) xs
back_more items steps q i d l f xs = subst (λ (z : List Step). map (λ n. cond (eqb n (get_or items i d).edge) true (goes_back (take i z) n)) xs ≡ map (goes_back (take (i + 1) z)) xs) q (back_more_at items i d (get_or items i d) l refl f xs)

pub back_same : (items steps : List Step) → items ≡ steps → (i : ℕ) (d : Step) → i < length items → (get_or items i d).forward ≡ true → (xs : List ℕ) → map (goes_back (take i steps)) xs ≡ map (goes_back (take (i + 1) steps)) xs
back_same items steps q i d l f xs = subst (λ (z : List Step). map (goes_back (take i z)) xs ≡ map (goes_back (take (i + 1) z)) xs) q (back_same_at items i d (get_or items i d) l refl f xs)

-- ---- the first element that passes two tests

filter_twice : (p q : ℕ → Bool) (xs : List ℕ) → filter p (filter q xs) ≡ filter (λ x. p x && q x) xs
filter_twice p q [] = refl
filter_twice p q (x ∷ xs) = by (q x) refl (p x) refl (filter_twice p q xs)
  where
    by : (b : Bool) → q x ≡ b → (a : Bool) → p x ≡ a → filter p (filter q xs) ≡ filter (λ x. p x && q x) xs → filter p (cond (q x) (x ∷ filter q xs) (filter q xs)) ≡ cond (p x && q x) (x ∷ filter (λ x. p x && q x) xs) (filter (λ x. p x && q x) xs)
    by true e true g h =
        ap (λ (c : Bool). filter p (cond c (x ∷ filter q xs) (filter q xs))) e ∙ (ap (λ (c : Bool). cond c (x ∷ filter p (filter q xs)) (filter p (filter q xs))) g ∙ (ap (λ (ys : List ℕ). x ∷ ys) h
        ∙ sym (ap (λ (c : Bool). cond (c && q x) (x ∷ filter (λ x. p x && q x) xs) (filter (λ x. p x && q x) xs)) g ∙ ap (λ (c : Bool). cond c (x ∷ filter (λ x. p x && q x) xs) (filter (λ x. p x && q x) xs)) e)))
    by true e false g h =
        ap (λ (c : Bool). filter p (cond c (x ∷ filter q xs) (filter q xs))) e ∙ (ap (λ (c : Bool). cond c (x ∷ filter p (filter q xs)) (filter p (filter q xs))) g ∙ (h
        ∙ sym (ap (λ (c : Bool). cond (c && q x) (x ∷ filter (λ x. p x && q x) xs) (filter (λ x. p x && q x) xs)) g)))
    by false e a g h =
        ap (λ (c : Bool). filter p (cond c (x ∷ filter q xs) (filter q xs))) e ∙ (h
        ∙ sym (ap (λ (c : Bool). cond (p x && c) (x ∷ filter (λ x. p x && q x) xs) (filter (λ x. p x && q x) xs)) e ∙ ap (λ (c : Bool). cond c (x ∷ filter (λ x. p x && q x) xs) (filter (λ x. p x && q x) xs)) (and_no (p x))))
      where
        and_no : (b : Bool) → (b && false) ≡ false
        and_no true = refl
        and_no false = refl

no_left : (a b : Bool) → (a || b) ≡ false → a ≡ false
no_left true b e = e
no_left false b e = refl

no_right : (a b : Bool) → (a || b) ≡ false → b ≡ false
no_right true b e = absurd (false≢true (sym e))
no_right false b e = e

filter_from : (t : ℕ → Bool) (xs : List ℕ) (i : ℕ) → i < length xs → t (get_or xs i 0) ≡ true → list_any t (take i xs) ≡ false → get_or (filter t xs) 0 0 ≡ get_or xs i 0
filter_from t [] i l e h = absurd (omega (arith, l))
filter_from t (x ∷ xs) zero l e h = ap (λ (b : Bool). get_or (cond b (x ∷ filter t xs) (filter t xs)) 0 0) e
filter_from t (x ∷ xs) (suc i) l e h = ap (λ (b : Bool). get_or (cond b (x ∷ filter t xs) (filter t xs)) 0 0) (no_left (t x) (list_any t (take i xs)) h) ∙ filter_from t xs i (omega (arith, l)) e (no_right (t x) (list_any t (take i xs)) h)

filter_none : (t : ℕ → Bool) (xs : List ℕ) → list_any t xs ≡ false → filter t xs ≡ []
filter_none t [] h = refl
filter_none t (x ∷ xs) h = ap (λ (b : Bool). cond b (x ∷ filter t xs) (filter t xs)) (no_left (t x) (list_any t xs) h) ∙ filter_none t xs (no_right (t x) (list_any t xs) h)

-- another 2-cell at the edge
abbrev pub other_at : List (List (List ℕ)) → (edge cell c : ℕ) → Bool
other_at space edge cell c = not (eqb c cell) && holds (facets_of space 2 c) edge

pub found_across : (space : List (List (List ℕ))) (cells : List ℕ) (edge cell i : ℕ) → i < length cells → other_at space edge cell (get_or cells i 0) ≡ true → list_any (other_at space edge cell) (take i cells) ≡ false → across space cells edge cell ≡ get_or cells i 0
found_across space cells edge cell i l e h = ap (λ (xs : List ℕ). get_or xs 0 0) (filter_twice (λ c. not (eqb c cell)) (λ c. holds (facets_of space 2 c) edge) cells) ∙ filter_from (other_at space edge cell) cells i l e h

pub none_across : (space : List (List (List ℕ))) (cells : List ℕ) (edge cell : ℕ) → list_any (other_at space edge cell) cells ≡ false → across space cells edge cell ≡ 0
none_across space cells edge cell h = ap (λ (xs : List ℕ). get_or xs 0 0) (filter_twice (λ c. not (eqb c cell)) (λ c. holds (facets_of space 2 c) edge) cells ∙ filter_none (other_at space edge cell) cells h)
