-- Notes of partners.
use Rattle.std.proofs.Common.{◌≡◌, ◌⊎◌, inl, inr, ℕ, zero, suc, ◌+◌, ◌-◌, ◌≤◌, List, [], ◌∷◌, Bool, true, false, cond, ◌||◌, ◌&&◌, eqb, length, get_or, Option, Some, None, refl, ap, sym, ◌∙◌, subst, arith, MatchOption}
use Rattle.std.specs.Prelude.{is_some}
use Rattle.std.specs.List.{list_any}
use Rattle.std.proofs.lemmas.Bool.{eqb-true, eq-eqb, and_parts, and_from, cases_Bool, cases_eq, cases_lt}
use Rattle.std.proofs.lemmas.Option.{none-some, same_Some}
use Rattle.std.proofs.lemmas.List.{get_or_past}
use Rattle.face_poset.specs.declared.cells.Pair.{Pair}
use Rattle.vector_field.specs.CellMaps.{at, row, IsPut}
use Rattle.vector_field.specs.Pairs.{pair, is_used}
use Rattle.vector_field.specs.Pairings.{has_upper, lengths, IsNoted}
use Rattle.number_lists.specs.Members.{In}
use Rattle.number_lists.proofs.CallerLemmas.{any-none}
use Rattle.vector_field.proofs.Valid.{Uses, used-In, unused-from}

-- how many cells a row is for
pub length-row : (cells : List (List (Option ℕ))) (dim : ℕ) → get_or (lengths cells) dim 0 ≡ length (row cells dim)
length-row [] dim = refl
length-row (r ∷ rs) zero = refl
length-row (r ∷ rs) (suc dim) = length-row rs dim

pub has_upper-true : (p : Pair) (dim cell : ℕ) → has_upper dim cell p ≡ true → (p.dim ≡ dim) × (p.upper ≡ cell)
has_upper-true p dim cell e = let b = and_parts (eqb p.dim dim) (eqb p.upper cell) e in (eqb-true p.dim dim b.0, eqb-true p.upper cell b.1)

pub has_upper-from : (p : Pair) (dim cell : ℕ) → p.dim ≡ dim → p.upper ≡ cell → has_upper dim cell p ≡ true
has_upper-from p dim cell d u = and_from (eqb p.dim dim) (eqb p.upper cell) (eq-eqb p.dim dim d) (eq-eqb p.upper cell u)

-- what was put, and what was there before
pub record Put (old : List (List (Option ℕ))) (dim cell number : ℕ) (new : List (List (Option ℕ))) (d n : ℕ) : Type 0 where
  pub same : dim ≡ d → cell ≡ n → at new d n ≡ Some number
  pub kept : ((dim ≡ d) × (cell ≡ n) → ⊥) → at new d n ≡ at old d n

pub put-at : (old : List (List (Option ℕ))) (dim cell number : ℕ) (new : List (List (Option ℕ))) (d n : ℕ) → 1 ≤ n → IsPut old dim cell number new → Put old dim cell number new d n
put-at old dim cell number new d n l h = record {
  same = λ e f. h d n l ∙ ap (λ (b : Bool). cond b (Some number) (at old d n)) (and_from (eqb dim d) (eqb cell n) (eq-eqb dim d e) (eq-eqb cell n f));
  kept = λ k. h d n l ∙ ap (λ (b : Bool). cond b (Some number) (at old d n)) (apart k);
}
  where
    apart : ((dim ≡ d) × (cell ≡ n) → ⊥) → (eqb dim d && eqb cell n) ≡ false
    apart k = elim (cases_Bool (eqb dim d && eqb cell n)) [
      | inl e ↦ let b = and_parts (eqb dim d) (eqb cell n) e in absurd (k (eqb-true dim d b.0, eqb-true cell n b.1))
      | inr e ↦ e
    ]

-- a place where a number was put, or one that stays
pub put-cases : (dim cell d n : ℕ) → ((dim ≡ d) × (cell ≡ n)) ⊎ ((dim ≡ d) × (cell ≡ n) → ⊥)
put-cases dim cell d n = elim (cases_eq dim d) [ inl e ↦ elim (cases_eq cell n) [ inl f ↦ inl (e, f) | inr g ↦ inr (λ w. g w.1) ] | inr g ↦ inr (λ w. g w.0) ]

module _ (ps : List Pair) (uppers lowers : List (List (Option ℕ))) (h : IsNoted ps uppers lowers) where
  -- one pair more
  pub noted-more : (p : Pair) (qs : List Pair) (ups los : List (List (Option ℕ))) → 1 ≤ p.lower → 1 ≤ p.upper → length qs ≤ 4294967295
      → ((q : Pair) → In q ps → In q qs) → ((q : Pair) → In q qs → In q ps ⊎ (q ≡ p)) → In p qs
      → lengths ups ≡ lengths uppers → lengths los ≡ lengths lowers
      → IsPut uppers p.dim p.lower p.upper ups → IsPut lowers (p.dim + 1) p.upper p.lower los
      → IsNoted qs ups los
  noted-more p qs ups los pl pu few kept only new eu el iu il = record {
    few = few;
    same = el ∙ (h.same ∙ sym eu);
    first = λ q m. elim (only q m) [ inl i ↦ h.first q i | inr x ↦ subst (λ (r : Pair). (1 ≤ r.lower) × (1 ≤ r.upper)) (sym x) (pl, pu) ];
    upper_in = λ d n u low e. elim (put-cases p.dim p.lower d n) [
      | inl w ↦ (let same : u ≡ p.upper = same_Some u p.upper (sym e ∙ (put-at uppers p.dim p.lower p.upper ups d n low iu).same w.0 w.1) in
          subst (λ (q : Pair). In q qs) (same_pair p d n u w.0 w.1 (sym same)) new)
      | inr k ↦ kept (pair d n u) (h.upper_in d n u low (sym ((put-at uppers p.dim p.lower p.upper ups d n low iu).kept k) ∙ e))
    ];
    upper_all = λ q m e. elim (only q m) [
      | inl i ↦ elim (put-cases p.dim p.lower q.dim q.lower) [
        | inl w ↦ none-some p.upper (sym e ∙ (put-at uppers p.dim p.lower p.upper ups q.dim q.lower (low-of w.1 pl) iu).same w.0 w.1)
        | inr k ↦ h.upper_all q i (sym ((put-at uppers p.dim p.lower p.upper ups q.dim q.lower ((h.first q i).0) iu).kept k) ∙ e)
      ]
      | inr x ↦ none-some p.upper (sym (subst (λ (r : Pair). at ups r.dim r.lower ≡ None) x e) ∙ (put-at uppers p.dim p.lower p.upper ups p.dim p.lower pl iu).same refl refl)
    ];
    lower_in = λ d n l low e. elim (put-cases (p.dim + 1) p.upper (d + 1) n) [
      | inl w ↦ (let same : l ≡ p.lower = same_Some l p.lower (sym e ∙ (put-at lowers (p.dim + 1) p.upper p.lower los (d + 1) n low il).same w.0 w.1) in
          subst (λ (q : Pair). In q qs) (same_pair p d l n (omega (arith, w.0)) (sym same) w.1) new)
      | inr k ↦ kept (pair d l n) (h.lower_in d n l low (sym ((put-at lowers (p.dim + 1) p.upper p.lower los (d + 1) n low il).kept k) ∙ e))
    ];
    lower_all = λ q m e. elim (only q m) [
      | inl i ↦ elim (put-cases (p.dim + 1) p.upper (q.dim + 1) q.upper) [
        | inl w ↦ none-some p.lower (sym e ∙ (put-at lowers (p.dim + 1) p.upper p.lower los (q.dim + 1) q.upper (low-of w.1 pu) il).same w.0 w.1)
        | inr k ↦ h.lower_all q i (sym ((put-at lowers (p.dim + 1) p.upper p.lower los (q.dim + 1) q.upper ((h.first q i).1) il).kept k) ∙ e)
      ]
      | inr x ↦ none-some p.lower (sym (subst (λ (r : Pair). at los (r.dim + 1) r.upper ≡ None) x e) ∙ (put-at lowers (p.dim + 1) p.upper p.lower los (p.dim + 1) p.upper pu il).same refl refl)
    ];
    bottom = λ n low. (put-at lowers (p.dim + 1) p.upper p.lower los 0 n low il).kept (λ w. omega (arith, w.0)) ∙ h.bottom n low;
  }
    where
      same_pair : (p : Pair) (d l u : ℕ) → p.dim ≡ d → p.lower ≡ l → p.upper ≡ u → p ≡ pair d l u
      same_pair p d l u x y z = ap (λ (k : ℕ). pair k p.lower p.upper) x ∙ (ap (λ (k : ℕ). pair d k p.upper) y ∙ ap (λ (k : ℕ). pair d l k) z)

      low-of : {a b : ℕ} → a ≡ b → 1 ≤ a → 1 ≤ b
      low-of e l = omega (arith, e, l)

  -- the same pairs in an other order
  pub noted-same : (qs : List Pair) → length qs ≤ 4294967295 → ((q : Pair) → In q ps → In q qs) → ((q : Pair) → In q qs → In q ps) → IsNoted qs uppers lowers
  noted-same qs few kept only = record {
    few = few;
    same = h.same;
    first = λ q m. h.first q (only q m);
    upper_in = λ d n u low e. kept (pair d n u) (h.upper_in d n u low e);
    upper_all = λ q m. h.upper_all q (only q m);
    lower_in = λ d n l low e. kept (pair d l n) (h.lower_in d n l low e);
    lower_all = λ q m. h.lower_all q (only q m);
    bottom = h.bottom;
  }

module _ (ps : List Pair) (uppers lowers : List (List (Option ℕ))) (h : IsNoted ps uppers lowers) where
  -- what the notes tell of the pairs
  pub no_lower : (dim cell : ℕ) → at lowers (dim + 1) cell ≡ None → list_any (has_upper dim cell) ps ≡ false
  no_lower dim cell e = any-none (has_upper dim cell) ps (λ p m k. let l = has_upper-true p dim cell k in h.lower_all p m (ap (λ (d : ℕ). at lowers (d + 1) p.upper) l.0 ∙ (ap (λ (n : ℕ). at lowers (dim + 1) n) l.1 ∙ e)))

  pub lower_tells : (dim cell : ℕ) (o : Option ℕ) → 1 ≤ cell → o ≡ at lowers (dim + 1) cell → MatchOption o (list_any (has_upper dim cell) ps ≡ false) (λ lower. In (pair dim lower cell) ps)
  lower_tells dim cell None low e = no_lower dim cell (sym e)
  lower_tells dim cell (Some l) low e = h.lower_in dim cell l low (sym e)

  -- a note of a lower stands above the bottom
  pub lower_above : (dim cell lower : ℕ) → 1 ≤ cell → at lowers dim cell ≡ Some lower → (below : ℕ) × (dim ≡ below + 1) × In (pair below lower cell) ps
  lower_above zero cell lower low e = absurd (none-some lower (sym (h.bottom cell low) ∙ e))
  lower_above (suc dim) cell lower low e = let s : suc dim ≡ dim + 1 = omega arith in (dim, s, h.lower_in dim cell lower low (ap (λ (d : ℕ). at lowers d cell) (sym s) ∙ e))

  pub unused : (dim cell : ℕ) → at uppers dim cell ≡ None → at lowers dim cell ≡ None → is_used ps dim cell ≡ false
  unused dim cell a b = unused-from ps dim cell by
    where
      by : (p : Pair) → In p ps → Uses p dim cell → ⊥
      by p m (inl u) = h.upper_all p m (ap (λ (d : ℕ). at uppers d p.lower) u.0 ∙ (ap (λ (n : ℕ). at uppers dim n) u.1 ∙ a))
      by p m (inr u) = h.lower_all p m (ap (λ (d : ℕ). at lowers d p.upper) u.0 ∙ (ap (λ (n : ℕ). at lowers dim n) u.1 ∙ b))

  pub is_used_by : (dim cell : ℕ) (o q : Option ℕ) → 1 ≤ cell → at uppers dim cell ≡ o → at lowers dim cell ≡ q → is_used ps dim cell ≡ (is_some o || is_some q)
  is_used_by dim cell (Some u) q low a b = used-In dim cell (h.upper_in dim cell u low a) (inl (refl, refl))
  is_used_by dim cell None (Some l) low a b = let w = lower_above dim cell l low b in used-In dim cell w.2 (inr (sym w.1, refl))
  is_used_by dim cell None None low a b = unused dim cell a b

  -- a cell that is not there is in no pair
  pub unused_past : (dim cell : ℕ) → ((1 ≤ cell) × (cell ≤ length (row uppers dim)) → ⊥) → is_used ps dim cell ≡ false
  unused_past dim cell past = unused-from ps dim cell by
    where
      nothing : (cells : List (List (Option ℕ))) → length (row cells dim) ≡ length (row uppers dim) → 1 ≤ cell → at cells dim cell ≡ None
      nothing cells e l = elim (cases_lt (cell - 1) (length (row cells dim))) [ inl a ↦ absurd (past (l, omega arith)) | inr a ↦ get_or_past (row cells dim) (cell - 1) None a ]

      same : length (row lowers dim) ≡ length (row uppers dim)
      same = sym (length-row lowers dim) ∙ (ap (λ (ns : List ℕ). get_or ns dim 0) h.same ∙ length-row uppers dim)

      by : (p : Pair) → In p ps → Uses p dim cell → ⊥
      by p m (inl u) =
          let l : 1 ≤ cell = omega (arith, (h.first p m).0, u.1) in
          h.upper_all p m (ap (λ (d : ℕ). at uppers d p.lower) u.0 ∙ (ap (λ (n : ℕ). at uppers dim n) u.1 ∙ nothing uppers refl l))
      by p m (inr u) =
          let l : 1 ≤ cell = omega (arith, (h.first p m).1, u.1) in
          h.lower_all p m (ap (λ (d : ℕ). at lowers d p.upper) u.0 ∙ (ap (λ (n : ℕ). at lowers dim n) u.1 ∙ nothing lowers same l))
