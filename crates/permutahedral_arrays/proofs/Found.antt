-- The points of the bits that are 1.
use Rattle.std.proofs.Common.{◌≡◌, inl, inr, ℕ, zero, suc, ◌+◌, ◌-◌, ◌*◌, ◌<◌, ◌≤◌, List, [], ◌∷◌, ◌++◌, Bool, true, false, cond, ◌&&◌, ◌||◌, eqb, nat_lt, nat_le, ltb-true, lt-ltb, le-leb, eqb-true, eq-eqb, ne_eqb, map, drop, get_or, length, refl, ap, sym, ◌∙◌, arith, add-mul, mul_assoc}
use Rattle.std.specs.List.{range_with_len, flat_map, list_any, items_where_true}
use Rattle.std.proofs.lemmas.Bool.{cases_lt, false≢true, and_from}
use Rattle.std.proofs.lemmas.List.{length-append, length-map, get_or-drop, drop-drop}
use Rattle.std.proofs.lemmas.List.Folds.{list_any-append}
use Rattle.std.specs.Cmp.{both_ways}
use Rattle.tuple_spaces.specs.Tuples.{same, boxed}
use Rattle.permutahedral_arrays.specs.Places.{is_inside, mark_at}
use Rattle.permutahedral_arrays.specs.Permutahedra.{present_of, is_among}
use Rattle.permutahedral_arrays.proofs.Marked.{inside, past_planes, past_rows, past_columns}
use Rattle.tuple_spaces.proofs.CallerLemmas.{where-map}

-- ---- lists

where-none : {A : Type 0} (bits : List Bool) → items_where_true {X = A} bits [] ≡ []
where-none [] = refl
where-none (b ∷ bits) = refl

where-append : {A : Type 0} (bits : List Bool) (xs ys : List A) → items_where_true bits (xs ++ ys) ≡ items_where_true bits xs ++ items_where_true (drop (length xs) bits) ys
where-append bits [] ys = ap (λ zs. zs ++ items_where_true bits ys) (sym (where-none bits))
where-append [] (x ∷ xs) ys = refl
where-append (true ∷ bits) (x ∷ xs) ys = ap (λ zs. x ∷ zs) (where-append bits xs ys)
where-append (false ∷ bits) (x ∷ xs) ys = where-append bits xs ys

-- ---- one block after another

-- among tuples that begin with the same coordinate
any-cons : (c d : ℕ) (cs : List ℕ) (ts : List (List ℕ)) → list_any (same (c ∷ cs)) (map (λ t. d ∷ t) ts) ≡ (eqb c d && list_any (same cs) ts)
any-cons c d cs [] = none (eqb c d)
  where
    none : (b : Bool) → false ≡ (b && false)
    none true = refl
    none false = refl
any-cons c d cs (t ∷ ts) = ap (λ (b : Bool). (eqb c d && same cs t) || b) (any-cons c d cs ts) ∙ both (eqb c d) (same cs t) (list_any (same cs) ts)
  where
    both : (a b e : Bool) → ((a && b) || (a && e)) ≡ (a && (b || e))
    both true b e = refl
    both false b e = refl

module _ (block : List (List ℕ)) where
  abbrev row : ℕ → List (List ℕ)
  row d = map (λ t. d ∷ t) block

  -- the first block, and the others
  first_block : (c : ℕ) (cs : List ℕ) (bits : List Bool) (s n : ℕ) → list_any (same (c ∷ cs)) (items_where_true bits (flat_map (λ d. map (λ t. d ∷ t) block) (range_with_len s (suc n))))
      ≡ ((eqb c s && list_any (same cs) (items_where_true bits block)) || list_any (same (c ∷ cs)) (items_where_true (drop (length block) bits) (flat_map (λ d. map (λ t. d ∷ t) block) (range_with_len (s + 1) n))))
  first_block c cs bits s n =
      let rest : List (List ℕ) = flat_map row (range_with_len (s + 1) n) in
      ap (list_any (same (c ∷ cs))) (where-append bits (row s) rest)
      ∙ (list_any-append (same (c ∷ cs)) (items_where_true bits (row s)) (items_where_true (drop (length (row s)) bits) rest)
      ∙ (ap (λ (ts : List (List ℕ)). list_any (same (c ∷ cs)) ts || list_any (same (c ∷ cs)) (items_where_true (drop (length (row s)) bits) rest)) (where-map (λ t. s ∷ t) bits block)
      ∙ (ap (λ (b : Bool). b || list_any (same (c ∷ cs)) (items_where_true (drop (length (row s)) bits) rest)) (any-cons c s cs (items_where_true bits block))
      ∙ ap (λ (m : ℕ). (eqb c s && list_any (same cs) (items_where_true bits block)) || list_any (same (c ∷ cs)) (items_where_true (drop m bits) rest)) (length-map block (λ t. s ∷ t)))))

  -- no block has the coordinate
  no_block : (c : ℕ) (cs : List ℕ) (bits : List Bool) (s n : ℕ) → ((c < s → ⊥) → c < s + n → ⊥) → list_any (same (c ∷ cs)) (items_where_true bits (flat_map (λ d. map (λ t. d ∷ t) block) (range_with_len s n))) ≡ false
  no_block c cs bits s zero h = ap (list_any (same (c ∷ cs))) (where-none bits)
  no_block c cs bits s (suc n) h =
      first_block c cs bits s n
      ∙ (ap (λ (b : Bool). (b && list_any (same cs) (items_where_true bits block)) || list_any (same (c ∷ cs)) (items_where_true (drop (length block) bits) (flat_map row (range_with_len (s + 1) n))))
      (ne_eqb c s (λ e. h (λ l. omega (arith, e, l)) (omega (arith, e))))
      ∙ no_block c cs (drop (length block) bits) (s + 1) n (λ l m. h (λ k. l (omega (arith, k))) (omega (arith, m))))

  -- the block of the coordinate
  its_block : (cs : List ℕ) (bits : List Bool) (s n k : ℕ) → k < n
      → list_any (same ((s + k) ∷ cs)) (items_where_true bits (flat_map (λ d. map (λ t. d ∷ t) block) (range_with_len s n))) ≡ list_any (same cs) (items_where_true (drop (k * length block) bits) block)
  its_block cs bits s zero k l = absurd (omega (arith, l))
  its_block cs bits s (suc n) zero l =
      let e : s + zero ≡ s = omega arith in
      let z : 0 ≡ zero * length block = omega arith in
      let mine : Bool = list_any (same cs) (items_where_true bits block) in
      ap (λ (c : ℕ). list_any (same (c ∷ cs)) (items_where_true bits (flat_map row (range_with_len s (suc n))))) e
      ∙ (first_block s cs bits s n
      ∙ (ap (λ (b : Bool). (b && mine) || list_any (same (s ∷ cs)) (items_where_true (drop (length block) bits) (flat_map row (range_with_len (s + 1) n)))) (eq-eqb s s refl)
      ∙ (ap (λ (b : Bool). mine || b) (no_block s cs (drop (length block) bits) (s + 1) n (λ l m. l (omega arith)))
      ∙ (or_false mine ∙ ap (λ (m : ℕ). list_any (same cs) (items_where_true (drop m bits) block)) z))))
    where
      or_false : (b : Bool) → (b || false) ≡ b
      or_false true = refl
      or_false false = refl
  its_block cs bits s (suc n) (suc k) l =
      let e : s + suc k ≡ s + 1 + k = omega arith in
      let z : length block + k * length block ≡ suc k * length block = omega arith in
      let mine : Bool = list_any (same cs) (items_where_true bits block) in
      ap (λ (c : ℕ). list_any (same (c ∷ cs)) (items_where_true bits (flat_map row (range_with_len s (suc n))))) e
      ∙ (first_block (s + 1 + k) cs bits s n
      ∙ (ap (λ (b : Bool). (b && mine) || list_any (same ((s + 1 + k) ∷ cs)) (items_where_true (drop (length block) bits) (flat_map row (range_with_len (s + 1) n)))) (ne_eqb (s + 1 + k) s (λ q. omega (arith, q)))
      ∙ (its_block cs (drop (length block) bits) (s + 1) n k (omega (arith, l))
      ∙ (ap (λ (bs : List Bool). list_any (same cs) (items_where_true bs block)) (drop-drop (k * length block) (length block) bits) ∙ ap (λ (m : ℕ). list_any (same cs) (items_where_true (drop m bits) block)) z))))

  length-rows : (s n : ℕ) → length (flat_map (λ d. map (λ t. d ∷ t) block) (range_with_len s n)) ≡ n * length block
  length-rows s zero = omega arith
  length-rows s (suc n) = omega (arith, length-append (row s) (flat_map row (range_with_len (s + 1) n)), length-map block (λ t. s ∷ t), length-rows (s + 1) n)

pub length-boxed : (limit : ℕ) (limits : List ℕ) → length (boxed (limit ∷ limits)) ≡ limit * length (boxed limits)
length-boxed limit limits = length-rows (boxed limits) 0 limit

pub outside : (limit c : ℕ) (limits cs : List ℕ) (bits : List Bool) → limit ≤ c → list_any (same (c ∷ cs)) (items_where_true bits (boxed (limit ∷ limits))) ≡ false
outside limit c limits cs bits l = no_block (boxed limits) c cs bits 0 limit (λ _ m. omega (arith, l, m))

pub within : (limit c : ℕ) (limits cs : List ℕ) (bits : List Bool) → c < limit
    → list_any (same (c ∷ cs)) (items_where_true bits (boxed (limit ∷ limits))) ≡ list_any (same cs) (items_where_true (drop (c * length (boxed limits)) bits) (boxed limits))
within limit c limits cs bits l =
    let e : c ≡ 0 + c = omega arith in
    ap (λ (d : ℕ). list_any (same (d ∷ cs)) (items_where_true bits (boxed (limit ∷ limits)))) e ∙ its_block (boxed limits) cs bits 0 limit c l

-- no coordinate is left
last_bit : (bits : List Bool) → list_any (same []) (items_where_true bits (boxed [])) ≡ get_or bits 0 false
last_bit [] = refl
last_bit (true ∷ bits) = refl
last_bit (false ∷ bits) = ap (list_any (same [])) (where-none bits)

one_left : (k z : ℕ) (bits : List Bool) → z < k → list_any (same (z ∷ [])) (items_where_true bits (boxed (k ∷ []))) ≡ get_or bits z false
one_left k z bits l =
    let e : z * length (boxed []) + 0 ≡ z = omega arith in
    within k z [] [] bits l ∙ (last_bit (drop (z * length (boxed [])) bits) ∙ (get_or-drop (z * length (boxed [])) bits 0 false ∙ ap (λ (i : ℕ). get_or bits i false) e))

two_left : (r k y z : ℕ) (bits : List Bool) → y < r → z < k → list_any (same (y ∷ z ∷ [])) (items_where_true bits (boxed (r ∷ k ∷ []))) ≡ get_or bits (y * k + z) false
two_left r k y z bits l m =
    let e : length (boxed (k ∷ [])) ≡ k = omega (arith, length-boxed k []) in
    within r y (k ∷ []) (z ∷ []) bits l
    ∙ (one_left k z (drop (y * length (boxed (k ∷ []))) bits) m
    ∙ (get_or-drop (y * length (boxed (k ∷ []))) bits z false ∙ ap (λ (i : ℕ). get_or bits (y * i + z) false) e))

three_left : (p r k x y z : ℕ) (bits : List Bool) → x < p → y < r → z < k → list_any (same (x ∷ y ∷ z ∷ [])) (items_where_true bits (boxed (p ∷ r ∷ k ∷ []))) ≡ get_or bits ((x * r + y) * k + z) false
three_left p r k x y z bits l m n =
    let e : length (boxed (k ∷ [])) ≡ k = omega (arith, length-boxed k []) in
    let f : length (boxed (r ∷ k ∷ [])) ≡ r * k = length-boxed r (k ∷ []) ∙ ap (λ (i : ℕ). r * i) e in
    let g : x * (r * k) + (y * k + z) ≡ (x * r + y) * k + z = omega (arith, mul_assoc x r k, add-mul (x * r) y k) in
    within p x (r ∷ k ∷ []) (y ∷ z ∷ []) bits l
    ∙ (two_left r k y z (drop (x * length (boxed (r ∷ k ∷ []))) bits) m n
    ∙ (get_or-drop (x * length (boxed (r ∷ k ∷ []))) bits (y * k + z) false
    ∙ (ap (λ (i : ℕ). get_or bits (x * i + (y * k + z)) false) f ∙ ap (λ (i : ℕ). get_or bits i false) g)))

-- ---- coordinates written higher by one

eqb-suc : (a b : ℕ) → eqb (suc a) (suc b) ≡ eqb a b
eqb-suc a b =
    both_ways (eqb (suc a) (suc b)) (eqb a b) (λ e. let s : suc a ≡ suc b = eqb-true (suc a) (suc b) e in eq-eqb a b (omega (arith, s))) (λ e. let s : a ≡ b = eqb-true a b e in eq-eqb (suc a) (suc b) (omega (arith, s)))

same-suc : (cs ds : List ℕ) → same (map suc cs) (map suc ds) ≡ same cs ds
same-suc [] [] = refl
same-suc [] (d ∷ ds) = refl
same-suc (c ∷ cs) [] = refl
same-suc (c ∷ cs) (d ∷ ds) = ap (λ (b : Bool). b && same (map suc cs) (map suc ds)) (eqb-suc c d) ∙ ap (λ (b : Bool). eqb c d && b) (same-suc cs ds)

any-suc : (cs : List ℕ) (ts : List (List ℕ)) → list_any (same (map suc cs)) (map (map suc) ts) ≡ list_any (same cs) ts
any-suc cs [] = refl
any-suc cs (t ∷ ts) = ap (λ (b : Bool). b || list_any (same (map suc cs)) (map (map suc) ts)) (same-suc cs t) ∙ ap (λ (b : Bool). same cs t || b) (any-suc cs ts)

abbrev has_zero : List ℕ → Bool
has_zero [] = false
has_zero (zero ∷ cs) = true
has_zero (suc c ∷ cs) = has_zero cs

and_no : (a : Bool) → (a && false) ≡ false
and_no true = refl
and_no false = refl

same-zero : (cs ds : List ℕ) → has_zero cs ≡ true → same cs (map suc ds) ≡ false
same-zero [] ds h = absurd (false≢true h)
same-zero (zero ∷ cs) [] h = refl
same-zero (zero ∷ cs) (d ∷ ds) h = ap (λ (b : Bool). b && same cs (map suc ds)) (ne_eqb zero (suc d) (λ e. omega (arith, e)))
same-zero (suc c ∷ cs) [] h = refl
same-zero (suc c ∷ cs) (d ∷ ds) h = ap (λ (b : Bool). eqb (suc c) (suc d) && b) (same-zero cs ds h) ∙ and_no (eqb (suc c) (suc d))

any-zero : (cs : List ℕ) (ts : List (List ℕ)) → has_zero cs ≡ true → list_any (same cs) (map (map suc) ts) ≡ false
any-zero cs [] h = refl
any-zero cs (t ∷ ts) h = ap (λ (b : Bool). b || list_any (same cs) (map (map suc) ts)) (same-zero cs t h) ∙ any-zero cs ts h

-- ---- the present points

below_le : (size c : ℕ) → is_inside size (suc c) ≡ nat_lt c size
below_le size c =
    both_ways (is_inside size (suc c)) (nat_lt c size) (λ e. let w = inside size (suc c) e in lt-ltb c size (omega (arith, w.1)))
    (λ e. let l : c < size = ltb-true c size e in and_from (nat_lt 0 (suc c)) (nat_le (suc c) size) (lt-ltb 0 (suc c) (omega arith)) (le-leb (suc c) size (omega (arith, l))))

inside-true : (size c : ℕ) → c < size → is_inside size (suc c) ≡ true
inside-true size c l = below_le size c ∙ lt-ltb c size l

mark-inside : (p r k x y z : ℕ) (bits : List Bool) → x < p → y < r → z < k → mark_at p r k bits (suc x) (suc y) (suc z) ≡ get_or bits ((x * r + y) * k + z) false
mark-inside p r k x y z bits l m n =
    let a : suc x - 1 ≡ x = omega arith in
    let b : suc y - 1 ≡ y = omega arith in
    let c : suc z - 1 ≡ z = omega arith in
    let v : Bool = get_or bits (((suc x - 1) * r + (suc y - 1)) * k + (suc z - 1)) false in
    ap (λ (t : Bool). cond (t && (is_inside r (suc y) && is_inside k (suc z))) v false) (inside-true p x l)
    ∙ (ap (λ (t : Bool). cond (t && is_inside k (suc z)) v false) (inside-true r y m)
    ∙ (ap (λ (t : Bool). cond t v false) (inside-true k z n)
    ∙ (ap (λ (i : ℕ). get_or bits ((i * r + (suc y - 1)) * k + (suc z - 1)) false) a
    ∙ (ap (λ (i : ℕ). get_or bits ((x * r + i) * k + (suc z - 1)) false) b ∙ ap (λ (i : ℕ). get_or bits ((x * r + y) * k + i) false) c))))

found_three : (p r k : ℕ) (bits : List Bool) (x y z : ℕ) → list_any (same (x ∷ y ∷ z ∷ [])) (items_where_true bits (boxed (p ∷ r ∷ k ∷ []))) ≡ mark_at p r k bits (suc x) (suc y) (suc z)
found_three p r k bits x y z =
    elim (cases_lt x p) [
      | inr l ↦ outside p x (r ∷ k ∷ []) (y ∷ z ∷ []) bits l ∙ sym (past_planes p r k bits (suc x) (suc y) (suc z) (λ a b. omega (arith, l, b)))
      | inl l ↦
          elim (cases_lt y r) [
            | inr m ↦
                within p x (r ∷ k ∷ []) (y ∷ z ∷ []) bits l
                ∙ (outside r y (k ∷ []) (z ∷ []) (drop (x * length (boxed (r ∷ k ∷ []))) bits) m ∙ sym (past_rows p r k bits (suc x) (suc y) (suc z) (λ a b. omega (arith, m, b))))
            | inl m ↦
                elim (cases_lt z k) [
                  | inr n ↦
                      within p x (r ∷ k ∷ []) (y ∷ z ∷ []) bits l
                      ∙ (within r y (k ∷ []) (z ∷ []) (drop (x * length (boxed (r ∷ k ∷ []))) bits) m
                      ∙ (outside k z [] [] (drop (y * length (boxed (k ∷ []))) (drop (x * length (boxed (r ∷ k ∷ []))) bits)) n ∙ sym (past_columns p r k bits (suc x) (suc y) (suc z) (λ a b. omega (arith, n, b)))))
                  | inl n ↦ three_left p r k x y z bits l m n ∙ sym (mark-inside p r k x y z bits l m n)
                ]
          ]
    ]

pub present_three : (p r k : ℕ) (bits : List Bool) (x y z : ℕ) → mark_at p r k bits x y z ≡ is_among (present_of (p ∷ r ∷ k ∷ []) bits) (x ∷ y ∷ z ∷ [])
present_three p r k bits zero y z = past_planes p r k bits zero y z (λ l m. omega (arith, l)) ∙ sym (any-zero (zero ∷ y ∷ z ∷ []) (items_where_true bits (boxed (p ∷ r ∷ k ∷ []))) refl)
present_three p r k bits (suc x) zero z = past_rows p r k bits (suc x) zero z (λ l m. omega (arith, l)) ∙ sym (any-zero (suc x ∷ zero ∷ z ∷ []) (items_where_true bits (boxed (p ∷ r ∷ k ∷ []))) refl)
present_three p r k bits (suc x) (suc y) zero = past_columns p r k bits (suc x) (suc y) zero (λ l m. omega (arith, l)) ∙ sym (any-zero (suc x ∷ suc y ∷ zero ∷ []) (items_where_true bits (boxed (p ∷ r ∷ k ∷ []))) refl)
present_three p r k bits (suc x) (suc y) (suc z) = sym (any-suc (x ∷ y ∷ z ∷ []) (items_where_true bits (boxed (p ∷ r ∷ k ∷ []))) ∙ found_three p r k bits x y z)

found_two : (r k : ℕ) (bits : List Bool) (y z : ℕ) → list_any (same (y ∷ z ∷ [])) (items_where_true bits (boxed (r ∷ k ∷ []))) ≡ mark_at 1 r k bits 1 (suc y) (suc z)
found_two r k bits y z =
    elim (cases_lt y r) [
      | inr m ↦ outside r y (k ∷ []) (z ∷ []) bits m ∙ sym (past_rows 1 r k bits 1 (suc y) (suc z) (λ a b. omega (arith, m, b)))
      | inl m ↦
          elim (cases_lt z k) [
            | inr n ↦
                within r y (k ∷ []) (z ∷ []) bits m ∙ (outside k z [] [] (drop (y * length (boxed (k ∷ []))) bits) n ∙ sym (past_columns 1 r k bits 1 (suc y) (suc z) (λ a b. omega (arith, n, b))))
            | inl n ↦
                let f : y ≡ 0 * r + y = omega arith in
                let one : 0 < 1 = omega arith in
                two_left r k y z bits m n ∙ (ap (λ (i : ℕ). get_or bits (i * k + z) false) f ∙ sym (mark-inside 1 r k 0 y z bits one m n))
          ]
    ]

-- two levels are one plane
pub present_two : (r k : ℕ) (bits : List Bool) (y z : ℕ) → mark_at 1 r k bits 1 y z ≡ is_among (present_of (r ∷ k ∷ []) bits) (y ∷ z ∷ [])
present_two r k bits zero z = past_rows 1 r k bits 1 zero z (λ l m. omega (arith, l)) ∙ sym (any-zero (zero ∷ z ∷ []) (items_where_true bits (boxed (r ∷ k ∷ []))) refl)
present_two r k bits (suc y) zero = past_columns 1 r k bits 1 (suc y) zero (λ l m. omega (arith, l)) ∙ sym (any-zero (suc y ∷ zero ∷ []) (items_where_true bits (boxed (r ∷ k ∷ []))) refl)
present_two r k bits (suc y) (suc z) = sym (any-suc (y ∷ z ∷ []) (items_where_true bits (boxed (r ∷ k ∷ []))) ∙ found_two r k bits y z)
