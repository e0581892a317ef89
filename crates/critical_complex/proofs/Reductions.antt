-- The levels of stages are a reduction to critical cells.
use Rattle.std.proofs.Common.{◌≡◌, ℕ, zero, suc, ◌+◌, ◌≤◌, ◌<◌, List, [], ◌∷◌, Bool, length, map, replicate, refl, ap, sym, ◌∙◌, arith, subst}
use Rattle.std.specs.List.{AllByRecursion}
use Rattle.std.proofs.lemmas.List.{length-map}
use Rattle.small_field.specs.Field.{Ops, IsField}
use Rattle.linear_laws.specs.Vectors.{combination}
use Rattle.face_poset.specs.declared.cells.Pair.{Pair}
use Rattle.face_poset.specs.Poset.{Layers}
use Rattle.split_laws.specs.declared.kind.Kind.{Kind}
use Rattle.split_laws.specs.Split.{IsSplit}
use Rattle.split_laws.specs.Complex.{before, IsSplitComplex}
use Rattle.pair_stages.specs.Stages.{Stage}
use Rattle.pair_stages.specs.Splits.{stage_at, IsSplitting, IsStagesComplex}
use Rattle.pair_stages.specs.Splits as stages_of
use Rattle.pair_stages.specs.Units.{unit_of}
use Rattle.pair_stages.proofs.CallerLemmas.{paired_at}
use Rattle.critical_complex.specs.Levels.{Level, level_at, kinds_at, cells_at, rows_at}
use Rattle.critical_complex.specs.Complex.{IsUnits, IsReducedComplex, IsLevelOf, IsReductionOf}
use Rattle.critical_complex.specs.Stages.{level_of, levels_of}
use Rattle.critical_complex.proofs.LevelLemmas.{moved, seen}
use Rattle.critical_complex.proofs.UnitsOf.{units_are}

module _ (F : Ops) (stages : List Stage) where
  abbrev levels : List Level
  levels = levels_of stages

  long_are : length stages ≡ 5 → length levels ≡ 5
  long_are l = length-map stages level_of ∙ l

  abbrev IsStep : Level → Level → Level → Type 0
  IsStep a b c = AllByRecursion (λ r. combination F (length c.kinds) r b.rows ≡ replicate (length c.kinds) 0) a.rows

  module _ (L : IsField F) (S : IsSplitting F stages) (C : IsStagesComplex F stages) where
    splits : (k : ℕ) → IsSplit F (before 0 (cells_at levels) k) (before 0 (cells_at levels) (suc k)) (before [] (rows_at levels) k) (before [] (kinds_at levels) k) (before [] (kinds_at levels) (suc k))
    splits zero = subst (λ (l : Level). IsSplit F 0 (length l.kinds) [] [] l.kinds) (seen stages levels refl 0) (C.complex.splits 0)
    splits (suc k) = moved stages levels refl (λ l next. IsSplit F (length l.kinds) (length next.kinds) l.rows l.kinds next.kinds) k (suc k) (C.complex.splits (suc k))

    closed : (k : ℕ) → AllByRecursion (λ r. combination F (before 0 (cells_at levels) (suc (suc k))) r (before [] (rows_at levels) (suc k)) ≡ replicate (before 0 (cells_at levels) (suc (suc k))) 0) (before [] (rows_at levels) k)
    closed zero = tt
    closed (suc k) =
        subst (λ (l : Level). IsStep l (level_at levels (suc k)) (level_at levels (suc (suc k)))) (seen stages levels refl k)
        (moved stages levels refl (IsStep (level_of (stage_at stages k))) (suc k) (suc (suc k)) (C.complex.closed (suc k)))

    pub is_reduced : IsReducedComplex F levels
    is_reduced = record {
      long = long_are S.long;
      complex = record { closed = closed; splits = splits; bottom = tt };
      none = λ degree l. ap (λ (l : Level). l.kinds) (sym (seen stages levels refl degree)) ∙ C.none degree l;
      units = λ degree lt.
          moved stages levels refl (IsUnits F) degree (degree + 1)
          (units_are F L (stage_at stages degree) (stage_at stages (degree + 1)) (paired_at F stages stages refl S degree (omega (arith, lt))));
    }

  -- the levels of a signed set with a field of pairs
  pub reduction_is : (space : Layers) (negative : ℕ → ℕ → ℕ → Bool) (pairs : List Pair) → stages_of.IsReductionOf F space negative pairs stages → IsReductionOf F space negative pairs levels
  reduction_is space negative pairs h = record {
    long = long_are h.long;
    each = λ degree lt.
        let s = h.each degree lt in
        subst (IsLevelOf F space negative pairs degree) (seen stages levels refl degree)
        (record { rows = s.rows; kinds = s.kinds; units = ap (map unit_of) s.pairs_are });
  }
