-- The reduced rows that are kept of a degree.
use Rattle.std.proofs.Common.{◌≡◌, ℕ, suc, ◌+◌, ◌≤◌, ◌<◌, List, [], ◌∷◌, ◌++◌, length, get_or, inl, inr, refl, ap, sym, ◌∙◌, arith, subst}
use Rattle.std.specs.List.{AllByRecursion}
use Rattle.std.proofs.lemmas.Bool.{cases_eq}
use Rattle.std.proofs.lemmas.List.{length-append, get_or_append_left, get_or_default}
use Rattle.std.proofs.Math.Seq.{get_or-append_seam}
use Rattle.small_field.specs.Field.{Ops, IsField}
use Rattle.linear_laws.specs.ZeroRows.{nonzero_places, among_zeros}
use Rattle.linear_laws.proofs.CallerLemmas.{again, nonzero_many, nonzero_within}
use Rattle.split_laws.specs.Kinds.{criticals}
use Rattle.split_laws.specs.Solutions.{IsReducedBy}
use Rattle.pair_stages.specs.Stages.{Stage, IsPaired}
use Rattle.pair_stages.specs.Filled.{Filled, no_filled, IsFilledBy}
use Rattle.pair_stages.specs.Splits.{stage_at, IsSplitting}
use Rattle.pair_stages.proofs.CallerLemmas.{paired_at, reduced_is_one}
use Rattle.critical_complex.specs.Levels.{Level, kinds_at, IsReducedAt, IsFilledAt, AreFilledAt}
use Rattle.critical_complex.specs.Stages.{levels_of, AreFilled}
use Rattle.critical_complex.proofs.LevelLemmas.{moved, moved_from, seen}

-- one degree more
pub filled_more : (F : Ops) (stages : List Stage) (i : ℕ) (filled now : List Filled) (f : Filled) → AreFilled F stages i filled → IsFilledBy F (stage_at stages i) (stage_at stages (i + 1)) f → now ≡ filled ++ f ∷ [] → AreFilled F stages (i + 1) now
filled_more F stages i filled now f h last e = record {
  long = ap (λ (xs : List Filled). length xs) e ∙ (length-append filled (f ∷ []) ∙ ap (λ (n : ℕ). n + 1) h.long);
  each = λ j lj.
      subst (λ (xs : List Filled). IsFilledBy F (stage_at stages j) (stage_at stages (j + 1)) (get_or xs j no_filled)) (sym e)
      (elim (cases_eq j i) [
        | inl b ↦
            subst (λ (n : ℕ). IsFilledBy F (stage_at stages n) (stage_at stages (n + 1)) (get_or (filled ++ f ∷ []) n no_filled)) (sym b)
            (subst (IsFilledBy F (stage_at stages i) (stage_at stages (i + 1))) (sym (ap (λ (n : ℕ). get_or (filled ++ f ∷ []) n no_filled) (sym h.long) ∙ get_or-append_seam filled f [] no_filled)) last)
        | inr b ↦ subst (IsFilledBy F (stage_at stages j) (stage_at stages (j + 1))) (sym (get_or_append_left filled (f ∷ []) no_filled j (let l : length filled ≡ i = h.long in omega arith))) (h.each j (omega arith))
      ]);
}

module _ (F : Ops) (L : IsField F) (stages : List Stage) (levels : List Level) (v : levels_of stages ≡ levels) (S : IsSplitting F stages) (filled : List Filled) (A : AreFilled F stages 4 filled) (degree : ℕ) (few : degree ≤ 3) (f : Filled) (e : f ≡ get_or filled degree f) where
  abbrev IsRows : List (List ℕ) → Level → Level → Type 0
  IsRows rows l next = IsReducedBy F (length l.kinds) (length next.kinds) l.rows l.kinds next.kinds rows

  paired : IsPaired F (stage_at stages degree) (stage_at stages (degree + 1))
  paired = paired_at F stages stages refl S degree few

  kept : IsFilledBy F (stage_at stages degree) (stage_at stages (degree + 1)) f
  kept =
      let at : f ≡ get_or filled degree no_filled = e ∙ get_or_default filled degree f no_filled (let l : length filled ≡ 4 = A.long in omega (arith, l, few)) in
      subst (IsFilledBy F (stage_at stages degree) (stage_at stages (degree + 1))) (sym at) (A.each degree (omega (arith, few)))

  pub cols_are : f.cols ≡ criticals (kinds_at levels (degree + 1))
  cols_are = kept.cols ∙ ap (λ (l : Level). criticals l.kinds) (seen stages levels v (degree + 1))

  pub places_are : IsFilledAt F levels degree f.places
  places_are all r =
      kept.places ∙ ap nonzero_places (reduced_is_one F L (stage_at stages degree) (stage_at stages (degree + 1)) paired kept.all all kept.reduced (moved_from stages levels v (IsRows all) degree (degree + 1) r))

  pub rows_are : AreFilledAt F levels degree f.rows
  rows_are = record { all = kept.all; reduced = moved stages levels v (IsRows kept.all) degree (degree + 1) kept.reduced; are = kept.rows }

  pub many : length f.places ≡ length f.rows
  many = ap (λ (ps : List ℕ). length ps) kept.places ∙ (nonzero_many kept.all ∙ ap (λ (ws : List (List ℕ)). length ws) (sym kept.rows))

  pub within : (count : ℕ) → count ≡ criticals (stage_at stages degree).kinds → AllByRecursion (λ p. p < count) f.places
  within count c =
      subst (AllByRecursion (λ p. p < count)) (sym kept.places)
      (subst (λ (n : ℕ). AllByRecursion (λ p. p < n) (nonzero_places kept.all)) (kept.reduced.long ∙ sym c) (nonzero_within kept.all))

  pub whole_is : (count : ℕ) → count ≡ criticals (stage_at stages degree).kinds → (rows : List (List ℕ)) → rows ≡ among_zeros f.cols count f.places f.rows → IsReducedAt F levels degree rows
  whole_is count c rows is =
      let n : ℕ = criticals (stage_at stages (degree + 1)).kinds in
      let all : among_zeros f.cols count f.places f.rows ≡ kept.all =
      ap (λ (m : ℕ). among_zeros m count f.places f.rows) kept.cols
      ∙ (ap (λ (m : ℕ). among_zeros n m f.places f.rows) (c ∙ sym kept.reduced.long)
      ∙ (ap (λ (ps : List ℕ). among_zeros n (length kept.all) ps f.rows) kept.places
      ∙ (ap (among_zeros n (length kept.all) (nonzero_places kept.all)) kept.rows ∙ again F L n kept.all kept.reduced.matrix))) in
      subst (IsReducedAt F levels degree) (sym (is ∙ all)) (moved stages levels v (IsRows kept.all) degree (degree + 1) kept.reduced)
