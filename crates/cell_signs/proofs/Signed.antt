-- Signs that are given along the pairs of a collapse cancel at the edges of these pairs.
use Rattle.std.proofs.Common.{◌≡◌, ℕ, suc, List, [], ◌∷◌, Bool, true, false, cond, not, ◌&&◌, eqb, filter, length, get_or, refl, ap, sym, ◌∙◌, subst, arith}
use Rattle.std.specs.Prelude.{ℤ, pos, ◌+ℤ◌, ◌*ℤ◌}
use Rattle.std.specs.List.{list_all}
use Rattle.std.specs.List.Sorted.{IsStrictlyIncreasing}
use Rattle.std.proofs.lemmas.Bool.{eqb-true, eq-eqb, false≢true, false_from_ne_true, and_from, ne_eqb}
use Rattle.std.proofs.lemmas.List.Kept.{IsStrictlyIncreasing-filter}
use Rattle.face_poset.specs.declared.cells.Cell.{Cell}
use Rattle.face_poset.specs.declared.cells.Pair.{Pair}
use Rattle.number_lists.specs.Words.{holds}
use Rattle.face_poset.specs.Poset.{facets_of}
use Rattle.face_poset.specs.Signs.{sign_of}
use Rattle.regular_check.specs.Rules.{sharing, each_twice}
use Rattle.number_lists.specs.Members.{In, here, there}
use Rattle.number_lists.proofs.CallerLemmas.{and-left, and-right, all-In, In-holds, holds-In, holds-filter}
use Rattle.cell_signs.specs.Oriented.{sum_over}
use Rattle.sphere_collapses.specs.Collapses.{is_free, without, collapses}
use Rattle.cell_signs.specs.Along.{across, unlike, cancelling, signed_by, signed_along, low_negative}
use Rattle.cell_signs.proofs.Sums.{Once, once_rising, sum-two}
use Rattle.cell_signs.proofs.Rest.{has, Free, free_parts, gone_on, there_before, upper_gone}

-- the other of two
record Others (xs : List ℕ) (c d : ℕ) : Type 0 where
  into : In d xs
  apart : c ≡ d → ⊥
  only : (y : ℕ) → In y xs → (c ≡ y → ⊥) → (d ≡ y → ⊥) → ⊥

two_others : (xs : List ℕ) (c : ℕ) → length xs ≡ 2 → Once xs → In c xs → Others xs c (get_or (filter (λ x. not (eqb x c)) xs) 0 0)
two_others [] c l o i = elim i [ ]
two_others (a ∷ []) c l o i = absurd (omega (arith, l))
two_others (a ∷ b ∷ []) c l o here =
    let e : get_or (filter (λ x. not (eqb x a)) (a ∷ b ∷ [])) 0 0 ≡ b =
    ap (λ (k : Bool). get_or (cond (not k) (a ∷ filter (λ x. not (eqb x a)) (b ∷ [])) (filter (λ x. not (eqb x a)) (b ∷ []))) 0 0) (eq-eqb a a refl)
    ∙ ap (λ (k : Bool). get_or (cond (not k) (b ∷ []) []) 0 0) (ne_eqb b a (λ q. o.0 (subst (λ (z : ℕ). In z (b ∷ [])) q here))) in
    subst (Others (a ∷ b ∷ []) a) (sym e) (record { into = there here; apart = λ q. o.0 (subst (λ (z : ℕ). In z (b ∷ [])) (sym q) here); only = λ y i f g. neither y i f g })
  where
    neither : (y : ℕ) → In y (a ∷ b ∷ []) → (a ≡ y → ⊥) → (b ≡ y → ⊥) → ⊥
    neither y here f g = f refl
    neither y (there here) f g = g refl
    neither y (there (there i)) f g = elim i [ ]
two_others (a ∷ b ∷ []) c l o (there here) =
    let e : get_or (filter (λ x. not (eqb x b)) (a ∷ b ∷ [])) 0 0 ≡ a =
    ap (λ (k : Bool). get_or (cond (not k) (a ∷ filter (λ x. not (eqb x b)) (b ∷ [])) (filter (λ x. not (eqb x b)) (b ∷ []))) 0 0) (ne_eqb a b (λ q. o.0 (subst (λ (z : ℕ). In z (b ∷ [])) (sym q) here))) in
    subst (Others (a ∷ b ∷ []) b) (sym e) (record { into = here; apart = λ q. o.0 (subst (λ (z : ℕ). In z (b ∷ [])) q here); only = λ y i f g. neither y i f g })
  where
    neither : (y : ℕ) → In y (a ∷ b ∷ []) → (b ≡ y → ⊥) → (a ≡ y → ⊥) → ⊥
    neither y here f g = g refl
    neither y (there here) f g = f refl
    neither y (there (there i)) f g = elim i [ ]
two_others (a ∷ b ∷ []) c l o (there (there i)) = elim i [ ]
two_others (a ∷ b ∷ d ∷ xs) c l o i = absurd (omega (arith, l))

-- the sign that cancels
turns : (x y w : Bool) → (sign_of (not (unlike (unlike x y) w)) *ℤ sign_of w) +ℤ (sign_of x *ℤ sign_of y) ≡ pos 0
turns true true true = refl
turns true true false = refl
turns true false true = refl
turns true false false = refl
turns false true true = refl
turns false true false = refl
turns false false true = refl
turns false false false = refl

module _ (space : List (List (List ℕ))) (cs : List ℕ) where
  -- what a 2-cell with this sign has at an edge
  abbrev pub term : (signs : ℕ → Bool) (edge cell : ℕ) → ℤ
  term signs e c = cond (holds (facets_of space 2 c) e) (sign_of (signs c) *ℤ sign_of (low_negative space 2 c e)) (pos 0)

  -- a 2-cell that is gone keeps its sign
  kept : (pairs : List Pair) (rest : List Cell) (signs : ℕ → Bool) (c : ℕ) → collapses space rest pairs ≡ true → has rest 2 c ≡ false → signed_along space cs pairs signs c ≡ signs c
  kept [] rest signs c e h = refl
  kept (p ∷ ps) rest signs c e h =
      kept ps (without rest p) (signed_by space cs signs p) c (and-right (is_free space rest p) (collapses space (without rest p) ps) e) (gone_on rest p 2 c h)
      ∙ ap (λ (b : Bool). cond b (cancelling space cs signs p.lower c) (signs c)) (false_from_ne_true (eqb p.dim 1 && eqb c p.upper) same)
    where
      same : (eqb p.dim 1 && eqb c p.upper) ≡ true → ⊥
      same t =
          let d : p.dim ≡ 1 = eqb-true p.dim 1 (and-left (eqb p.dim 1) (eqb c p.upper) t) in
          let d2 : suc p.dim ≡ 2 = omega (arith, d) in
          let n : c ≡ p.upper = eqb-true c p.upper (and-right (eqb p.dim 1) (eqb c p.upper) t) in
          let f = free_parts space rest p (and-left (is_free space rest p) (collapses space (without rest p) ps) e) in
          false≢true (sym h ∙ (ap (has rest 2) n ∙ (sym (ap (λ (k : ℕ). has rest k p.upper) d2) ∙ f.upper)))

  abbrev pub Inside : List Cell → Type 0
  Inside rest = (c : ℕ) → has rest 2 c ≡ true → In c cs

  -- at the edge of the first pair
  first_zero : IsStrictlyIncreasing cs → each_twice space 2 cs ≡ true → (p : Pair) (ps : List Pair) (rest : List Cell) (signs : ℕ → Bool) → is_free space rest p ≡ true → collapses space (without rest p) ps ≡ true → Inside rest → p.dim ≡ 1
      → sum_over (term (signed_along space cs ps (signed_by space cs signs p)) p.lower) cs ≡ pos 0
  first_zero rises twice p ps rest signs free more inside one =
      sum-two (term final e) cs c d (once_rising cs rises) in_c (holds-In cs (and-right (holds (facets_of space 2 d) e) (holds cs d) (sym (holds-filter (λ c. holds (facets_of space 2 c) e) cs d) ∙ In-holds other.into))) other.apart
      (λ y i f g. by y i f g (holds (facets_of space 2 y) e) refl)
      ∙ (ap (λ n. n +ℤ term final e d) (ap (λ (b : Bool). cond b (sign_of (final c) *ℤ sign_of (low_negative space 2 c e)) (pos 0)) has_c ∙ ap (λ (b : Bool). sign_of b *ℤ sign_of (low_negative space 2 c e)) final_c)
      ∙ (ap (λ n. (sign_of (cancelling space cs signs e c) *ℤ sign_of (low_negative space 2 c e)) +ℤ n) (ap (λ (b : Bool). cond b (sign_of (final d) *ℤ sign_of (low_negative space 2 d e)) (pos 0)) has_d ∙ ap (λ (b : Bool). sign_of b *ℤ sign_of (low_negative space 2 d e)) final_d)
      ∙ turns (signs d) (low_negative space 2 d e) (low_negative space 2 c e)))
    where
      e : ℕ
      e = p.lower

      c : ℕ
      c = p.upper

      d : ℕ
      d = across space cs p.lower p.upper

      final : ℕ → Bool
      final = signed_along space cs ps (signed_by space cs signs p)

      f : Free space rest p
      f = free_parts space rest p free

      d2 : suc p.dim ≡ 2
      d2 = omega (arith, one)

      has_c : holds (facets_of space 2 p.upper) p.lower ≡ true
      has_c = sym (ap (λ (k : ℕ). holds (facets_of space k p.upper) p.lower) d2) ∙ f.facet

      in_c : In p.upper cs
      in_c = inside p.upper (sym (ap (λ (k : ℕ). has rest k p.upper) d2) ∙ f.upper)

      two : length (sharing space 2 cs p.lower) ≡ 2
      two = eqb-true (length (sharing space 2 cs p.lower)) 2
          (all-In (λ f. eqb (length (sharing space 2 cs f)) 2) (all-In (λ c. list_all (λ f. eqb (length (sharing space 2 cs f)) 2) (facets_of space 2 c)) twice (holds-In cs (In-holds in_c))) (holds-In (facets_of space 2 p.upper) has_c))

      shares : (y : ℕ) → In y cs → holds (facets_of space 2 y) p.lower ≡ true → In y (sharing space 2 cs p.lower)
      shares y i h = holds-In (sharing space 2 cs p.lower) (holds-filter (λ c. holds (facets_of space 2 c) p.lower) cs y ∙ and_from (holds (facets_of space 2 y) p.lower) (holds cs y) h (In-holds i))

      other : Others (sharing space 2 cs p.lower) p.upper (across space cs p.lower p.upper)
      other = two_others (sharing space 2 cs p.lower) p.upper two (once_rising (sharing space 2 cs p.lower) (IsStrictlyIncreasing-filter (λ c. holds (facets_of space 2 c) p.lower) cs rises)) (shares p.upper in_c has_c)

      has_d : holds (facets_of space 2 (across space cs p.lower p.upper)) p.lower ≡ true
      has_d = and-left (holds (facets_of space 2 (across space cs p.lower p.upper)) p.lower) (holds cs (across space cs p.lower p.upper)) (sym (holds-filter (λ c. holds (facets_of space 2 c) p.lower) cs (across space cs p.lower p.upper)) ∙ In-holds other.into)

      gone_d : has rest 2 (across space cs p.lower p.upper) ≡ false
      gone_d = false_from_ne_true (has rest 2 (across space cs p.lower p.upper)) (λ t. other.apart (sym (f.alone (across space cs p.lower p.upper) (ap (λ (k : ℕ). has rest k (across space cs p.lower p.upper)) d2 ∙ t) (ap (λ (k : ℕ). holds (facets_of space k (across space cs p.lower p.upper)) p.lower) d2 ∙ has_d))))

      final_d : signed_along space cs ps (signed_by space cs signs p) (across space cs p.lower p.upper) ≡ signs (across space cs p.lower p.upper)
      final_d =
          kept ps (without rest p) (signed_by space cs signs p) (across space cs p.lower p.upper) more (gone_on rest p 2 (across space cs p.lower p.upper) gone_d)
          ∙ ap (λ (b : Bool). cond b (cancelling space cs signs p.lower (across space cs p.lower p.upper)) (signs (across space cs p.lower p.upper)))
          (false_from_ne_true (eqb p.dim 1 && eqb (across space cs p.lower p.upper) p.upper) (λ t. other.apart (sym (eqb-true (across space cs p.lower p.upper) p.upper (and-right (eqb p.dim 1) (eqb (across space cs p.lower p.upper) p.upper) t)))))

      final_c : signed_along space cs ps (signed_by space cs signs p) p.upper ≡ cancelling space cs signs p.lower p.upper
      final_c =
          kept ps (without rest p) (signed_by space cs signs p) p.upper more (sym (ap (λ (k : ℕ). has (without rest p) k p.upper) d2) ∙ upper_gone rest p)
          ∙ ap (λ (b : Bool). cond b (cancelling space cs signs p.lower p.upper) (signs p.upper)) (and_from (eqb p.dim 1) (eqb p.upper p.upper) (eq-eqb p.dim 1 one) (eq-eqb p.upper p.upper refl))

      by : (y : ℕ) → In y cs → (p.upper ≡ y → ⊥) → (across space cs p.lower p.upper ≡ y → ⊥) → (b : Bool) → holds (facets_of space 2 y) p.lower ≡ b → term (signed_along space cs ps (signed_by space cs signs p)) p.lower y ≡ pos 0
      by y i m n true h = absurd (other.only y (shares y i h) m n)
      by y i m n false h = ap (λ (b : Bool). cond b (sign_of (signed_along space cs ps (signed_by space cs signs p) y) *ℤ sign_of (low_negative space 2 y p.lower)) (pos 0)) h

  -- at the edge of each pair
  pub paired_zero : IsStrictlyIncreasing cs → each_twice space 2 cs ≡ true → (pairs : List Pair) (rest : List Cell) (signs : ℕ → Bool) → collapses space rest pairs ≡ true → Inside rest → (q : Pair) → In q pairs → q.dim ≡ 1
      → sum_over (term (signed_along space cs pairs signs) q.lower) cs ≡ pos 0
  paired_zero rises twice [] rest signs c inside q i one = elim i [ ]
  paired_zero rises twice (p ∷ ps) rest signs c inside q here one =
      first_zero rises twice p ps rest signs (and-left (is_free space rest p) (collapses space (without rest p) ps) c) (and-right (is_free space rest p) (collapses space (without rest p) ps) c) inside one
  paired_zero rises twice (p ∷ ps) rest signs c inside q (there i) one =
      paired_zero rises twice ps (without rest p) (signed_by space cs signs p) (and-right (is_free space rest p) (collapses space (without rest p) ps) c) (λ x h. inside x (there_before rest p 2 x h)) q i one

  -- there is another 2-cell at each edge of one of them
  pub across_in : IsStrictlyIncreasing cs → each_twice space 2 cs ≡ true → (c e : ℕ) → holds cs c ≡ true → holds (facets_of space 2 c) e ≡ true → holds cs (across space cs e c) ≡ true
  across_in rises twice c e i h =
      let two : length (sharing space 2 cs e) ≡ 2 = eqb-true (length (sharing space 2 cs e)) 2
      (all-In (λ f. eqb (length (sharing space 2 cs f)) 2) (all-In (λ c. list_all (λ f. eqb (length (sharing space 2 cs f)) 2) (facets_of space 2 c)) twice (holds-In cs i)) (holds-In (facets_of space 2 c) h)) in
      let shares : In c (sharing space 2 cs e) = holds-In (sharing space 2 cs e) (holds-filter (λ c. holds (facets_of space 2 c) e) cs c ∙ and_from (holds (facets_of space 2 c) e) (holds cs c) h i) in
      let other = two_others (sharing space 2 cs e) c two (once_rising (sharing space 2 cs e) (IsStrictlyIncreasing-filter (λ c. holds (facets_of space 2 c) e) cs rises)) shares in
      and-right (holds (facets_of space 2 (across space cs e c)) e) (holds cs (across space cs e c)) (sym (holds-filter (λ c. holds (facets_of space 2 c) e) cs (across space cs e c)) ∙ In-holds other.into)
