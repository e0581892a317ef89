-- The pairs of dimensions 2 and 1 are a field, maximal in these dimensions.
use Rattle.std.proofs.Common.{◌≡◌, inl, inr, ℕ, ◌+◌, ◌<◌, ◌≤◌, List, [], ◌++◌, Result, Ok, Err, IfOk, refl, ap, subst, arith}
use Rattle.face_poset.specs.declared.cells.Pair.{Pair}
use Rattle.number_lists.specs.Members.{In}
use Rattle.number_lists.proofs.CallerLemmas.{append-In, In-left, In-Contains}
use Rattle.face_poset.specs.Poset.{count}
use Rattle.vector_field.specs.Pairs.{Field, IsFieldOf, IsValid}
use Rattle.vector_field.specs.Stages.{IsAbove, Keeps, AreSettled, filled}
use Rattle.vector_field.proofs.CallerLemmas.{IsFilled, filled-is, are-settled-more}
use Rattle.chosen_field.specs.Chosen.{free_pairs, stage, high}
use Rattle.chosen_field.proofs.Valid.{collapsed-valid, collapsed-dims}

-- pairs of a dimension and above it, with all cells of the dimension settled
pub record IsStaged (space : List (List (List ℕ))) (dim : ℕ) (old new : List Pair) : Type 0 where
  pub valid : IsValid space new
  pub above : (p : Pair) → In p new → dim ≤ p.dim
  pub keeps : Keeps old new
  pub settled : AreSettled space new dim (count space dim)

module _ (space : List (List (List ℕ))) (dim : ℕ) (ps : List Pair) (low : dim < 3) (valid : IsValid space ps) (above : (p : Pair) → In p ps → dim + 1 ≤ p.dim) where
  -- with the pairs of free faces
  pub middle-above : (p : Pair) → In p (ps ++ free_pairs space dim ps) → dim ≤ p.dim
  middle-above p m = elim (append-In ps (free_pairs space dim ps) m) [
    | inl i ↦ omega (arith, above p i)
    | inr i ↦ let c = In-Contains i in omega (arith, collapsed-dims space dim ps low above c.0 p c.1, ap (λ (q : Pair). q.dim) c.2)
  ]

  pub staged : IsStaged space dim ps (stage space dim ps)
  staged =
      let f : IsFilled space dim low (ps ++ free_pairs space dim ps) (filled space dim (ps ++ free_pairs space dim ps)) (count space dim) = filled-is space dim low (ps ++ free_pairs space dim ps) (collapsed-valid space dim ps low above valid) in
      record {
        valid = f.more.valid;
        above = λ p m. elim (f.more.only p m) [ inl i ↦ middle-above p i | inr d ↦ omega (arith, d) ];
        keeps = λ p m. f.more.keeps p (In-left (free_pairs space dim ps) m);
        settled = f.settled;
      }

module _ (space : List (List (List ℕ))) where
  pub disks-are : IsStaged space 2 [] (stage space 2 [])
  disks-are = staged space 2 [] (omega arith) refl (λ p m. elim m [ ])

  edges-are : IsStaged space 1 (stage space 2 []) (high space)
  edges-are = staged space 1 (stage space 2 []) (omega arith) disks-are.valid (λ p m. disks-are.above p m)

  pub record IsHigh : Type 0 where
    pub valid : IsValid space (high space)
    pub above : (p : Pair) → In p (high space) → 1 ≤ p.dim
    pub edges : AreSettled space (high space) 1 (count space 1)
    pub disks : AreSettled space (high space) 2 (count space 2)

  pub high-is : IsHigh
  high-is = record {
    valid = edges-are.valid;
    above = edges-are.above;
    edges = edges-are.settled;
    disks = are-settled-more space (stage space 2 []) (high space) edges-are.keeps 2 (count space 2) disks-are.settled;
  }

-- ---- as fields

pub staged-field : (space : List (List (List ℕ))) (dim : ℕ) (ps : List Pair) → dim < 3 → IsValid space ps → ((p : Pair) → In p ps → dim + 1 ≤ p.dim) → (f : Field) → IsFieldOf space f → f.pairs ≡ stage space dim ps → IsAbove space dim f
staged-field space dim ps low valid above f h e = record {
  counts = h.counts;
  valid = h.valid;
  above = λ p m. (staged space dim ps low valid above).above p (subst (λ (qs : List Pair). In p qs) e m);
}

-- two facts of an answer
pub both-ok : {X Y : Type 0} (r : Result X Y) (P Q R : X → Type 0) → ((x : X) → P x → Q x → R x) → IfOk r P → IfOk r Q → IfOk r R
both-ok (Ok x) P Q R f p q = f x p q
both-ok (Err e) P Q R f p q = tt
