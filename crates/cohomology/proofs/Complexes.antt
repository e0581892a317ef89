-- Complexes with a degree without cells before them, whose rows are those of the chains of a space.
use Rattle.std.proofs.Common.{◌≡◌, ℕ, zero, suc, ◌<◌, ◌≤◌, List, [], length, replicate, refl, ap, sym, ◌∙◌, subst, arith}
use Rattle.std.proofs.lemmas.List.{length-replicate, get_or-replicate}
use Rattle.face_poset.specs.Poset.{Layers}
use Rattle.small_field.specs.Field.{Ops, IsField}
use Rattle.linear_laws.specs.Vectors.{entry, IsMatrix}
use Rattle.linear_laws.specs.Echelon.{IsReducedTo}
use Rattle.linear_laws.specs.Betti.{IsCohomologyBasis}
use Rattle.order_complex.specs.Chains.{chains_of}
use Rattle.order_complex.specs.Homology.{IsBasis}
use Rattle.order_complex.specs.Ranks.{rows_of, rows_into}
use Rattle.order_complex.proofs.CallerLemmas.{chains_of-four, basis_of, length-rows_of}
use Rattle.split_laws.specs.declared.kind.Kind.{Kind}
use Rattle.split_laws.specs.Kinds.{criticals}
use Rattle.split_laws.specs.Solutions.{IsReducedBy}
use Rattle.split_laws.specs.Complex.{before}
use Rattle.critical_complex.specs.Levels.{Level, kinds_at, cells_at, rows_at}
use Rattle.critical_complex.specs.Complex.{IsReducedComplex}
use Rattle.cohomology.specs.Echelons.{AreRowsOf}

module _ (F : Ops) (L : IsField F) where
  -- rows that are zero have rank 0
  pub no_pivots : (n : ℕ) (rows : List (List ℕ)) → IsMatrix F n rows → ((i j : ℕ) → i < length rows → j < n → entry rows i j ≡ 0) → IsReducedTo F n 0 n rows rows
  no_pivots n rows m z = record {
    matrix = m;
    long = refl;
    span = record { there = λ v h. h; back = λ v h. h };
    pivots = [];
    rank_is = refl;
    reduced = record {
      few = omega arith;
      within = λ i h. absurd (omega arith);
      rising = λ i j h k. absurd (omega arith);
      one = λ i h. absurd (omega arith);
      alone = λ i j h k ne. absurd (omega arith);
      first = λ i j h k. absurd (omega arith);
      zero = λ i j h k l. z i j k l;
    };
  }

  pub nil_rows : (n : ℕ) → IsMatrix F 0 (replicate n [])
  nil_rows zero = tt
  nil_rows (suc n) = (record { long = refl; elements = tt }, nil_rows n)

  -- reduced rows without columns, and no reduced rows
  pub last_reduced : (n m : ℕ) (rows : List (List ℕ)) (ts us : List Kind) → us ≡ [] → IsReducedBy F n m rows ts us (replicate (criticals ts) [])
  last_reduced n m rows ts us e =
      subst (λ (vs : List Kind). IsReducedBy F n m rows ts vs (replicate (criticals ts) [])) (sym e)
      (record { matrix = nil_rows (criticals ts); long = length-replicate (criticals ts) []; each = λ i x l h. get_or-replicate (criticals ts) i [] [] l })

  pub none_reduced : (n m : ℕ) (rows : List (List ℕ)) (ts us : List Kind) → ts ≡ [] → IsReducedBy F n m rows ts us []
  none_reduced n m rows ts us e =
      subst (λ (vs : List Kind). IsReducedBy F n m rows vs us []) (sym e)
      (record { matrix = tt; long = refl; each = λ i x l h. absurd (omega (arith, l)) })

-- ---- a degree without cells before the others

module _ (levels : List Level) where
  abbrev pub cells : ℕ → ℕ
  cells = before 0 (cells_at levels)

  abbrev pub rows : ℕ → List (List ℕ)
  rows = before [] (rows_at levels)

  abbrev pub kinds : ℕ → List Kind
  kinds = before [] (kinds_at levels)

-- ---- the rows of the chains of a space

module _ (F : Ops) (L : IsField F) (space : Layers) (levels : List Level) (R : IsReducedComplex F levels) (rows_are : AreRowsOf F levels space) where
  rows_long : (degree : ℕ) → degree ≤ 3 → cells_at levels degree ≡ length (chains_of space degree)
  rows_long degree l = sym (R.complex.splits (suc degree)).long ∙ ap (λ (rs : List (List ℕ)). length rs) (rows_are degree l) ∙ length-rows_of F L space degree

  none_long : cells_at levels 4 ≡ length (chains_of space 4)
  none_long = ap (λ (ks : List Kind). length ks) (R.none 4 (omega arith)) ∙ ap (λ (cs : List (List ℕ)). length cs) (sym (chains_of-four space))

  pub cells_are : (degree : ℕ) → degree ≤ 4 → cells_at levels degree ≡ length (chains_of space degree)
  cells_are zero l = rows_long 0 (omega arith)
  cells_are (suc zero) l = rows_long 1 (omega arith)
  cells_are (suc (suc zero)) l = rows_long 2 (omega arith)
  cells_are (suc (suc (suc zero))) l = rows_long 3 (omega arith)
  cells_are (suc (suc (suc (suc zero)))) l = none_long
  cells_are (suc (suc (suc (suc (suc degree))))) l = absurd (omega (arith, l))

  pub into_rows : (degree : ℕ) → degree ≤ 3 → rows levels degree ≡ rows_into F space degree
  into_rows zero l = refl
  into_rows (suc degree) l = rows_are degree (omega arith)

  -- a basis by the rows of the complex is one on all chains
  pub basis_on_chains : (degree : ℕ) → degree ≤ 3 → (zs : List (List ℕ)) → IsCohomologyBasis F (cells_at levels (suc degree)) (rows levels degree) (rows_at levels degree) zs → IsBasis F space degree zs
  basis_on_chains degree small zs is =
      basis_of F L space degree zs
      (subst (λ (n : ℕ). IsCohomologyBasis F n (rows_into F space degree) (rows_of F space degree) zs) (cells_are (suc degree) (omega arith))
      (subst (λ (ns : List (List ℕ)). IsCohomologyBasis F (cells_at levels (suc degree)) (rows_into F space degree) ns zs) (rows_are degree small)
      (subst (λ (ls : List (List ℕ)). IsCohomologyBasis F (cells_at levels (suc degree)) ls (rows_at levels degree) zs) (into_rows degree small) is)))
