-- The extension from one critical cell, settled along what it meets.
use Rattle.std.proofs.Common.{◌≡◌, ◌≢◌, ◌⊎◌, inl, inr, ℕ, suc, ◌<◌, List, [], ◌∷◌, length, length-set, map, replicate, get_or, set, get_or-set_same, get_or-set_other, refl, ap, sym, ◌∙◌, arith, subst, All}
use Rattle.std.proofs.lemmas.Bool.{cases_eq}
use Rattle.std.proofs.lemmas.Grind.{same_number_lists}
use Rattle.std.proofs.lemmas.Simd.{length-replicate, get_or-replicate}
use Rattle.std.specs.List.{AllByRecursion}
use Rattle.std.specs.List.Sorted.{IsStrictlyIncreasing}
use Rattle.small_field.specs.Field.{Ops, IsField}
use Rattle.small_field.proofs.CallerLemmas.{zero_below, mul_zero, zero_mul}
use Rattle.linear_laws.specs.Marks.{mark}
use Rattle.linear_laws.specs.Vectors.{dot, column, combination, entry}
use Rattle.small_field.specs.Values.{AreElements}
use Rattle.linear_laws.proofs.CallerLemmas.{all_at, all_set, column_entry, entry_combination, combination-vector, zeros-elements}
use Rattle.number_lists.specs.Members.{In}
use Rattle.number_lists.proofs.CallerLemmas.{increasing_head, increasing_tail, In-Contains}
use Rattle.split_laws.specs.declared.kind.Kind.{Kind}
use Rattle.split_laws.specs.declared.kind.Kind.TheVariants.{Critical, Lower, Upper}
use Rattle.split_laws.specs.declared.matching.Match.{Match}
use Rattle.split_laws.specs.Kinds.{criticals, part, ZeroOnUppers}
use Rattle.split_laws.specs.Pairs.{Triangular, HasLower, HasUpper, kind_at, correction, settle}
use Rattle.split_laws.specs.Solutions.{IsExtension}
use Rattle.split_laws.proofs.CallerLemmas.{part-zeros, none-zeros, settle_long, settle_meets, settle_outside}
use Rattle.pair_stages.specs.Stages.{Stage, IsPaired, place_of}
use Rattle.pair_stages.specs.Reaches.{cleared, IsFound, IsReach, IsSettled, Misses}
use Rattle.pair_stages.specs.Units.{pair_at}
use Rattle.pair_stages.specs.Units.{no_match}
use Rattle.pair_stages.proofs.KindLemmas.{critical_no_lower, upper_no_lower}
use Rattle.pair_stages.proofs.Pairwise.{triangular_at, later_zero}
use Rattle.pair_stages.proofs.Placed.{place_below, part_set, none_set}
use Rattle.pair_stages.proofs.Searched.{map_all}

-- ---- some of the pairs, in their order

within_in : (n : ℕ) (order : List ℕ) (k : ℕ) → All (λ i. i < n) order → In k order → k < n
within_in n order k h m = let c = In-Contains m in subst (λ (x : ℕ). x < n) c.2 (h c.0 k c.1)

above_in : (a : ℕ) (order : List ℕ) (k : ℕ) → All (λ i. a < i) order → In k order → a < k
above_in a order k h m = let c = In-Contains m in subst (λ (x : ℕ). a < x) c.2 (h c.0 k c.1)

pub chosen_triangular : (rows : List (List ℕ)) (ps : List Match) (order : List ℕ) → Triangular rows ps → IsStrictlyIncreasing order → All (λ k. k < length ps) order → Triangular rows (map (pair_at ps) order)
chosen_triangular rows ps [] t r w = tt
chosen_triangular rows ps (k ∷ order) t r w =
    let lk : k < length ps = w 0 0 (omega arith) in
    let rest : All (λ i. i < length ps) order = λ i d lt. w (suc i) d (omega arith) in
    let at = triangular_at rows ps k no_match t lk in (
      at.0,
      at.1,
      map_all (λ q. entry rows q.lower ((pair_at ps k).upper) ≡ 0) ps order (λ i m. later_zero rows ps k i t (above_in k order i (increasing_head k order r) m) (within_in (length ps) order i rest m)),
      chosen_triangular rows ps order t (increasing_tail k order r) rest,
    )

-- all of the pairs have it, so some of them
pub chosen_all : (P : Match → Type 0) (ps : List Match) (order : List ℕ) → AllByRecursion P ps → All (λ k. k < length ps) order → AllByRecursion P (map (pair_at ps) order)
chosen_all P ps order h w = map_all P ps order (λ k m. all_at P ps k no_match (within_in (length ps) order k w m) h)

pub triangular_lowers : (rows : List (List ℕ)) (ps : List Match) → Triangular rows ps → AllByRecursion (λ p. p.lower < length rows) ps
triangular_lowers rows [] t = tt
triangular_lowers rows (p ∷ ps) t = (t.0, triangular_lowers rows ps t.3)

-- a place is that of a lower or not
is_lower : (qs : List Match) (i : ℕ) → AllByRecursion (λ (q : Match). i ≢ q.lower) qs ⊎ HasLower qs i
is_lower [] i = inl tt
is_lower (q ∷ qs) i = elim (cases_eq q.lower i) [
  | inl e ↦ inr (inl e)
  | inr e ↦ elim (is_lower qs i) [ inl h ↦ inl ((λ z. e (sym z)), h) | inr h ↦ inr (inr h) ]
]

at_lower : (P : ℕ → Type 0) (qs : List Match) (i : ℕ) → AllByRecursion (λ q. P q.lower) qs → HasLower qs i → P i
at_lower P [] i h g = absurd g
at_lower P (q ∷ qs) i h (inl e) = subst P e h.0
at_lower P (q ∷ qs) i h (inr g) = at_lower P qs i h.1 g

at_upper : (P : ℕ → Type 0) (qs : List Match) (j : ℕ) → AllByRecursion (λ q. P q.upper) qs → HasUpper qs j → P j
at_upper P [] j h g = absurd g
at_upper P (q ∷ qs) j h (inl e) = subst P e h.0
at_upper P (q ∷ qs) j h (inr g) = at_upper P qs j h.1 g

-- ---- zeros by places

zero_or : {k : Kind} (x y : ℕ) → (k ≡ Lower → ⊥) → (x ≡ y) ⊎ (k ≡ Lower) → x ≡ y
zero_or x y other (inl e) = e
zero_or x y other (inr e) = absurd (other e)

part_agrees : (ts : List Kind) (x y : List ℕ) → length x ≡ length ts → length y ≡ length ts → ((i : ℕ) → i < length ts → (get_or x i 0 ≡ get_or y i 0) ⊎ (kind_at ts i ≡ Lower)) → part ts x ≡ part ts y
part_agrees [] x y l r h = refl
part_agrees (t ∷ ts) [] y l r h = absurd (omega (arith, l))
part_agrees (t ∷ ts) (x ∷ xs) [] l r h = absurd (omega (arith, r))
part_agrees (Critical ∷ ts) (x ∷ xs) (y ∷ ys) l r h =
    ap (λ (n : ℕ). n ∷ part ts xs) (zero_or x y critical_no_lower (h 0 (omega arith))) ∙ ap (λ (zs : List ℕ). y ∷ zs) (part_agrees ts xs ys (omega (arith, l)) (omega (arith, r)) (λ i lt. h (suc i) (omega arith)))
part_agrees (Lower ∷ ts) (x ∷ xs) (y ∷ ys) l r h = part_agrees ts xs ys (omega (arith, l)) (omega (arith, r)) (λ i lt. h (suc i) (omega arith))
part_agrees (Upper ∷ ts) (x ∷ xs) (y ∷ ys) l r h = part_agrees ts xs ys (omega (arith, l)) (omega (arith, r)) (λ i lt. h (suc i) (omega arith))

none_agrees : (ts : List Kind) (x y : List ℕ) → length x ≡ length ts → ZeroOnUppers ts y → ((i : ℕ) → i < length ts → (get_or x i 0 ≡ get_or y i 0) ⊎ (kind_at ts i ≡ Lower)) → ZeroOnUppers ts x
none_agrees [] [] y l z h = refl
none_agrees [] (x ∷ xs) y l z h = absurd (omega (arith, l))
none_agrees (t ∷ ts) [] y l z h = absurd (omega (arith, l))
none_agrees (t ∷ ts) (x ∷ xs) [] l z h = absurd z
none_agrees (Critical ∷ ts) (x ∷ xs) (y ∷ ys) l z h = none_agrees ts xs ys (omega (arith, l)) z (λ i lt. h (suc i) (omega arith))
none_agrees (Lower ∷ ts) (x ∷ xs) (y ∷ ys) l z h = none_agrees ts xs ys (omega (arith, l)) z (λ i lt. h (suc i) (omega arith))
none_agrees (Upper ∷ ts) (x ∷ xs) (y ∷ ys) l z h = (zero_or x y upper_no_lower (h 0 (omega arith)) ∙ z.0, none_agrees ts xs ys (omega (arith, l)) z.1 (λ i lt. h (suc i) (omega arith)))

zero_on_uppers : (us : List Kind) (x : List ℕ) → length x ≡ length us → ((j : ℕ) → j < length us → kind_at us j ≡ Upper → get_or x j 0 ≡ 0) → ZeroOnUppers us x
zero_on_uppers [] [] l h = refl
zero_on_uppers [] (x ∷ xs) l h = absurd (omega (arith, l))
zero_on_uppers (u ∷ us) [] l h = absurd (omega (arith, l))
zero_on_uppers (Critical ∷ us) (x ∷ xs) l h = zero_on_uppers us xs (omega (arith, l)) (λ j lt. h (suc j) (omega arith))
zero_on_uppers (Lower ∷ us) (x ∷ xs) l h = zero_on_uppers us xs (omega (arith, l)) (λ j lt. h (suc j) (omega arith))
zero_on_uppers (Upper ∷ us) (x ∷ xs) l h = (h 0 (omega arith) refl, zero_on_uppers us xs (omega (arith, l)) (λ j lt. h (suc j) (omega arith)))

-- ---- zero put at lowers again

pub cleared_long : (qs : List Match) (x : List ℕ) → length (cleared qs x) ≡ length x
cleared_long [] x = refl
cleared_long (q ∷ qs) x = cleared_long qs (set x q.lower 0) ∙ length-set x q.lower 0

cleared_zero : (qs : List Match) (x : List ℕ) (i : ℕ) → i < length x → get_or x i 0 ≡ 0 → get_or (cleared qs x) i 0 ≡ 0
cleared_zero [] x i lt e = e
cleared_zero (q ∷ qs) x i lt e =
    cleared_zero qs (set x q.lower 0) i (subst (λ (n : ℕ). i < n) (sym (length-set x q.lower 0)) lt)
    (elim (cases_eq i q.lower) [ inl b ↦ ap (λ (k : ℕ). get_or (set x q.lower 0) k 0) b ∙ get_or-set_same x q.lower 0 0 (subst (λ (k : ℕ). k < length x) b lt) | inr b ↦ get_or-set_other x q.lower i 0 0 b ∙ e ])

cleared_lower : (qs : List Match) (x : List ℕ) (i : ℕ) → i < length x → HasLower qs i → get_or (cleared qs x) i 0 ≡ 0
cleared_lower [] x i lt h = absurd h
cleared_lower (q ∷ qs) x i lt (inl e) =
    cleared_zero qs (set x q.lower 0) i (subst (λ (n : ℕ). i < n) (sym (length-set x q.lower 0)) lt)
    (ap (λ (k : ℕ). get_or (set x q.lower 0) k 0) (sym e) ∙ get_or-set_same x q.lower 0 0 (subst (λ (k : ℕ). k < length x) (sym e) lt))
cleared_lower (q ∷ qs) x i lt (inr h) = cleared_lower qs (set x q.lower 0) i (subst (λ (n : ℕ). i < n) (sym (length-set x q.lower 0)) lt) h

module _ (F : Ops) (L : IsField F) where
  settle_below : (rows : List (List ℕ)) (t : List ℕ) (qs : List Match) (y : List ℕ) → AreElements F y → AreElements F (settle F rows t qs y)
  settle_below rows t [] y h = h
  settle_below rows t (q ∷ qs) y h =
      let v : ℕ = F.add (get_or y q.lower 0) (correction F rows t q y) in
      settle_below rows t qs (set y q.lower v) (all_set (λ x. x < F.size) y q.lower v (L.add_below (get_or y q.lower 0) (correction F rows t q y)) h)

  -- where at each place one of the two is zero
  dot_apart : (x y : List ℕ) → ((i : ℕ) → i < length x → (get_or x i 0 ≡ 0) ⊎ (get_or y i 0 ≡ 0)) → dot F x y ≡ 0
  dot_apart [] y h = refl
  dot_apart (a ∷ x) [] h = refl
  dot_apart (a ∷ x) (b ∷ y) h =
      ap (λ (n : ℕ). F.add n (dot F x y)) (elim (h 0 (omega arith)) [ inl e ↦ ap (λ (n : ℕ). F.mul n b) e ∙ zero_mul F L b | inr e ↦ ap (F.mul a) e ∙ mul_zero F L a ])
      ∙ (ap (F.add 0) (dot_apart x y (λ i lt. h (suc i) (omega arith))) ∙ L.zero_add 0 (zero_below F L))

  module _ (s next : Stage) (P : IsPaired F s next) (row : ℕ) (lr : row < criticals s.kinds) (found : List ℕ) (qs : List Match) (R : IsReach s next (place_of s.kinds row) found qs) where
    pub reach_triangular : Triangular s.rows qs
    reach_triangular = subst (Triangular s.rows) (sym R.is) (chosen_triangular s.rows s.pairs R.order P.matching.triangular R.rises R.within)

    pub reach_uppers : AllByRecursion (λ (p : Match). p.upper < length next.kinds) qs
    reach_uppers = subst (AllByRecursion (λ (p : Match). p.upper < length next.kinds)) (sym R.is) (chosen_all (λ (p : Match). p.upper < length next.kinds) s.pairs R.order P.matching.uppers R.within)

    reach_lowers : AllByRecursion (λ (p : Match). p.lower < length s.kinds) qs
    reach_lowers = subst (λ (k : ℕ). AllByRecursion (λ (p : Match). p.lower < k) qs) P.matching.long (triangular_lowers s.rows qs reach_triangular)

    module _ (x0 x1 x2 zeros : List ℕ) (place one : ℕ) (ep : place ≡ place_of s.kinds row) (e0 : x0 ≡ replicate (length s.kinds) 0) (eo : one ≡ 1) (e1 : x1 ≡ set x0 place one) (ez : zeros ≡ replicate (length next.kinds) 0) (e2 : x2 ≡ settle F s.rows zeros qs x1) where
      start_is : x1 ≡ set (replicate (length s.kinds) 0) (place_of s.kinds row) 1
      start_is = e1 ∙ (ap (λ (y : List ℕ). set y place one) e0 ∙ (ap (λ (k : ℕ). set (replicate (length s.kinds) 0) k one) ep ∙ ap (set (replicate (length s.kinds) 0) (place_of s.kinds row)) eo))

      end_is : x2 ≡ settle F s.rows (replicate (length next.kinds) 0) qs (set {A = ℕ} (replicate (length s.kinds) 0) (place_of s.kinds row) 1)
      end_is = e2 ∙ (ap (λ (t : List ℕ). settle F s.rows t qs x1) ez ∙ ap (settle F s.rows (replicate (length next.kinds) 0) qs) start_is)

      start_long : length (set {A = ℕ} (replicate (length s.kinds) 0) (place_of s.kinds row) 1) ≡ length s.kinds
      start_long = length-set {A = ℕ} (replicate (length s.kinds) 0) (place_of s.kinds row) 1 ∙ length-replicate {A = ℕ} (length s.kinds) 0

      start_other : (i : ℕ) → i < length s.kinds → i ≢ place_of s.kinds row → get_or (set {A = ℕ} (replicate (length s.kinds) 0) (place_of s.kinds row) 1) i 0 ≡ 0
      start_other i li ne = get_or-set_other {A = ℕ} (replicate (length s.kinds) 0) (place_of s.kinds row) i 1 0 ne ∙ get_or-replicate {A = ℕ} (length s.kinds) i 0 0 li

      end_long : length x2 ≡ length s.kinds
      end_long = ap (λ (y : List ℕ). length y) end_is ∙ (settle_long F L (length next.kinds) s.rows P.matching.matrix (replicate (length next.kinds) 0) qs (set {A = ℕ} (replicate (length s.kinds) 0) (place_of s.kinds row) 1) ∙ start_long)

      end_at : (i : ℕ) → get_or x2 i 0 ≡ get_or (settle F s.rows (replicate (length next.kinds) 0) qs (set {A = ℕ} (replicate (length s.kinds) 0) (place_of s.kinds row) 1)) i 0
      end_at i = ap (λ (y : List ℕ). get_or y i 0) end_is

      outside : (i : ℕ) → AllByRecursion (λ (q : Match). i ≢ q.lower) qs → get_or x2 i 0 ≡ get_or (set {A = ℕ} (replicate (length s.kinds) 0) (place_of s.kinds row) 1) i 0
      outside i h = end_at i ∙ settle_outside F L (length next.kinds) s.rows P.matching.matrix (replicate (length next.kinds) 0) qs (set {A = ℕ} (replicate (length s.kinds) 0) (place_of s.kinds row) 1) i h

      -- zero but at the cell and the lowers
      support : (i : ℕ) → i < length s.kinds → (get_or x2 i 0 ≡ 0) ⊎ ((i ≡ place_of s.kinds row) ⊎ HasLower qs i)
      support i li = elim (cases_eq i (place_of s.kinds row)) [
        | inl b ↦ inr (inl b)
        | inr b ↦ elim (is_lower qs i) [ inl h ↦ inl (outside i h ∙ start_other i li b) | inr h ↦ inr (inr h) ]
      ]

      missed : (j : ℕ) → Misses s.rows (place_of s.kinds row) qs j → dot F x2 (column j s.rows) ≡ 0
      missed j m =
          dot_apart x2 (column j s.rows)
          (λ i li.
          let lk : i < length s.kinds = subst (λ (k : ℕ). i < k) end_long li in
          let ls : i < length s.rows = subst (λ (k : ℕ). i < k) (sym P.matching.long) lk in
          elim (support i lk) [
            | inl z ↦ inl z
            | inr z ↦ inr (column_entry s.rows j i ls ∙ elim z [ inl b ↦ ap (λ (k : ℕ). entry s.rows k j) b ∙ m.0 | inr b ↦ at_lower (λ k. entry s.rows k j ≡ 0) qs i m.1 b ])
          ])

      reach_found : IsFound F s next x2 found
      reach_found j lj e = elim (R.critical j lj e) [ inl h ↦ inl h | inr h ↦ inr (missed j h) ]

      met : (j : ℕ) → j < length next.kinds → HasUpper qs j → dot F x2 (column j s.rows) ≡ 0
      met j lj h =
          ap (λ (y : List ℕ). dot F y (column j s.rows)) end_is
          ∙ (at_upper (λ u. dot F (settle F s.rows (replicate (length next.kinds) 0) qs (set {A = ℕ} (replicate (length s.kinds) 0) (place_of s.kinds row) 1)) (column u s.rows) ≡ get_or (replicate (length next.kinds) 0) u 0) qs j
          (settle_meets F L (length next.kinds) s.rows P.matching.matrix (replicate (length next.kinds) 0) qs (set {A = ℕ} (replicate (length s.kinds) 0) (place_of s.kinds row) 1) (start_long ∙ sym P.matching.long) (zeros-elements F L (length next.kinds)) reach_triangular) h
          ∙ get_or-replicate (length next.kinds) j 0 0 lj)

      agrees : (i : ℕ) → i < length s.kinds → (get_or x2 i 0 ≡ get_or (set {A = ℕ} (replicate (length s.kinds) 0) (place_of s.kinds row) 1) i 0) ⊎ (kind_at s.kinds i ≡ Lower)
      agrees i li = elim (P.matching.kinds.lower_or i li) [
        | inl h ↦ inl (outside i (subst (AllByRecursion (λ (q : Match). i ≢ q.lower)) (sym R.is) (chosen_all (λ (q : Match). i ≢ q.lower) s.pairs R.order h R.within)))
        | inr h ↦ inr h
      ]

      end_elements : AreElements F x2
      end_elements =
          subst (AreElements F) (sym end_is)
          (settle_below s.rows (replicate (length next.kinds) 0) qs (set {A = ℕ} (replicate (length s.kinds) 0) (place_of s.kinds row) 1) (all_set (λ x. x < F.size) (replicate (length s.kinds) 0) (place_of s.kinds row) 1 L.one_below (zeros-elements F L (length s.kinds))))

      reach_extension : IsExtension F (length s.kinds) (length next.kinds) s.rows s.kinds next.kinds (mark (criticals s.kinds) row) x2
      reach_extension = record {
        vector = record { long = end_long; elements = end_elements };
        own = part_agrees s.kinds x2 (set {A = ℕ} (replicate (length s.kinds) 0) (place_of s.kinds row) 1) end_long start_long agrees
            ∙ (part_set s.kinds (replicate (length s.kinds) 0) row 1 (length-replicate (length s.kinds) 0) lr ∙ ap (λ (w : List ℕ). set w row 1) (part-zeros s.kinds (length s.kinds) refl));
        none = none_agrees s.kinds x2 (set {A = ℕ} (replicate (length s.kinds) 0) (place_of s.kinds row) 1) end_long (none_set s.kinds (replicate (length s.kinds) 0) row 1 lr (none-zeros s.kinds (length s.kinds) refl)) agrees;
        closed = zero_on_uppers next.kinds (combination F (length next.kinds) x2 s.rows) (combination-vector F L (length next.kinds) x2 s.rows P.matching.matrix).long
            (λ j lj u. entry_combination F L (length next.kinds) j x2 s.rows P.matching.matrix lj ∙ elim (R.upper j lj u) [ inl h ↦ met j lj h | inr h ↦ missed j h ]);
      }

      -- and all is zero again
      blank_again : set (cleared qs x2) (place_of s.kinds row) 0 ≡ replicate (length s.kinds) 0
      blank_again =
          let p : ℕ = place_of s.kinds row in
          let l3 : length (cleared qs x2) ≡ length s.kinds = cleared_long qs x2 ∙ end_long in
          same_number_lists (set (cleared qs x2) p 0) (replicate (length s.kinds) 0) (length-set (cleared qs x2) p 0 ∙ (l3 ∙ sym (length-replicate (length s.kinds) 0)))
          (λ i li.
          let lk : i < length s.kinds = subst (λ (k : ℕ). i < k) (length-set (cleared qs x2) p 0 ∙ l3) li in
          let l2 : i < length x2 = subst (λ (k : ℕ). i < k) (sym end_long) lk in
          elim (cases_eq i p) [
            | inl b ↦ ap (λ (k : ℕ). get_or (set (cleared qs x2) p 0) k 0) b ∙ get_or-set_same (cleared qs x2) p 0 0 (subst (λ (k : ℕ). p < k) (sym l3) (place_below s.kinds row lr))
            | inr b ↦ get_or-set_other (cleared qs x2) p i 0 0 b ∙ elim (support i lk) [
              | inl z ↦ cleared_zero qs x2 i l2 z
              | inr z ↦ elim z [ inl c ↦ absurd (b c) | inr c ↦ cleared_lower qs x2 i l2 c ]
            ]
          ]
          ∙ sym (get_or-replicate (length s.kinds) i 0 0 lk))

      pub reach_settled : IsSettled F s next row found qs x2
      reach_settled = record { long = end_long; extension = reach_extension; meets = reach_found; lowers = reach_lowers; blank = blank_again }
