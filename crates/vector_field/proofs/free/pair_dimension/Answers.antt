use Rattle.std.proofs.Common.{◌≡◌, inl, inr, ℕ, ◌+◌, ◌<◌, ◌≤◌, List, ◌++◌, ap, sym, ◌∙◌, subst, arith, All}
use Rattle.std.proofs.lemmas.Result.{on_ok_weaker}
use Rattle.number_lists.specs.Members.{In}
use Rattle.face_poset.specs.declared.cells.Pair.{Pair}
use Rattle.face_poset.specs.Poset.{count}
use Rattle.vector_field.specs.Pairs.{Field, IsValid}
use Rattle.vector_field.specs.Pairings.{HasCells}
use Rattle.vector_field.specs.Stages.{IsAbove, Keeps, AreSettled, filled}
use Rattle.number_lists.proofs.CallerLemmas.{append-In, In-left, In-right, In-Contains}
use Rattle.vector_field.proofs.Valid.{lined-from}
use Rattle.vector_field.proofs.MaximalTest.{incident-true}
use Rattle.vector_field.proofs.Fields.{field-cells}
use Rattle.vector_field.proofs.Settled.{field-of}
use Rattle.vector_field.proofs.Filled.{filled-is, filled-above}
use Rattle.vector_field.proofs.free.pair_dimension.Goals as goal

module _ (space : List (List (List ℕ))) (dim : ℕ) (field : Field) (made : List Pair) (above : IsAbove space (dim + 1) field) (valid : IsValid space (field.pairs ++ made)) where
  made_cells : (p : Pair) → In p made → HasCells field.counts p
  made_cells p m = field-cells space field p (field-of space (dim + 1) field above) (incident-true space p ((lined-from space (field.pairs ++ made) valid).incident p (In-right field.pairs m)))

  made_above : All (λ (p : Pair). p.dim ≡ dim) made → (new : Field) → new.counts ≡ field.counts → new.pairs ≡ field.pairs ++ made → IsAbove space dim new
  made_above dims new e f = record {
    counts = e ∙ above.counts;
    valid = subst (IsValid space) (sym f) valid;
    above = λ p m. elim (append-In field.pairs made (subst (λ (ps : List Pair). In p ps) f m)) [
      | inl k ↦ let l : dim + 1 ≤ p.dim = above.above p k in omega (arith, l)
      | inr k ↦ let n = In-Contains k in omega (arith, dims n.0 p n.1, ap (λ (q : Pair). q.dim) n.2)
    ];
  }

-- what is kept and settled when the pairs made are filled up
module _ (space : List (List (List ℕ))) (dim : ℕ) (low : dim < 3) (middle new : List Pair) (valid : IsValid space middle) (e : new ≡ filled space dim middle) where
  all_kept : (old made : List Pair) → middle ≡ old ++ made → Keeps old new
  all_kept old made f p m = subst (λ (ps : List Pair). In p ps) (sym e) ((filled-is space dim low middle valid).more.keeps p (subst (λ (ps : List Pair). In p ps) (sym f) (In-left made m)))

  all_settled : AreSettled space new dim (count space dim)
  all_settled = subst (λ (ps : List Pair). AreSettled space ps dim (count space dim)) (sym e) (filled-is space dim low middle valid).settled

pub extend-requires : goal.extend-requires
extend-requires g c p m =
    made_cells (g.G.Graded.space c.args.graded.now) c.args.dim c.args.pairing.now c.in_ok-made.made.items c.requires.field c.in_ok-made.ensures.valid p (subst (λ (ps : List Pair). In p ps) c.deref.ensures.value m)

pub fill-requires-clause-field : goal.fill-requires-clause-field
fill-requires-clause-field g c =
    field-of (g.G.Graded.space c.args.graded.now) c.args.dim c.extend.new.self
    (made_above (g.G.Graded.space c.args.graded.now) c.args.dim c.args.pairing.now c.in_ok-made.made.items c.requires.field c.in_ok-made.ensures.valid c.in_ok-made.ensures.dims c.extend.new.self c.extend.ensures.counts
    (c.in_ok-extend.ensures.pairs ∙ ap (λ (ps : List Pair). c.args.pairing.now.pairs ++ ps) c.deref.ensures.value))

pub returns-clause-field : goal.returns-clause-field
returns-clause-field g c =
    on_ok_weaker c.fill.result
    (λ e. filled-above (g.G.Graded.space c.args.graded.now) c.args.dim c.requires.dim c.extend.new.self c.fill.new.pairing
    (made_above (g.G.Graded.space c.args.graded.now) c.args.dim c.args.pairing.now c.in_ok-made.made.items c.requires.field c.in_ok-made.ensures.valid c.in_ok-made.ensures.dims c.extend.new.self c.extend.ensures.counts
    (c.in_ok-extend.ensures.pairs ∙ ap (λ (ps : List Pair). c.args.pairing.now.pairs ++ ps) c.deref.ensures.value)) c.fill.ensures.counts e)
    c.fill.ensures.pairs

-- the pairs before filling are a field
middle_valid : (space : List (List (List ℕ))) (old made given middle : List Pair) → IsValid space (old ++ made) → given ≡ made → middle ≡ old ++ given → IsValid space middle
middle_valid space old made given middle v e f = subst (IsValid space) (sym (f ∙ ap (λ (ps : List Pair). old ++ ps) e)) v

pub returns-clause-keeps : goal.returns-clause-keeps
returns-clause-keeps g c =
    let space : List (List (List ℕ)) = g.G.Graded.space c.args.graded.now in
    let old : List Pair = c.args.pairing.now.pairs in
    on_ok_weaker c.fill.result
    (λ e. all_kept space c.args.dim c.requires.dim c.extend.new.self.pairs c.fill.new.pairing.pairs
    (middle_valid space old c.in_ok-made.made.items c.deref.result.now c.extend.new.self.pairs c.in_ok-made.ensures.valid c.deref.ensures.value c.in_ok-extend.ensures.pairs) e old c.deref.result.now c.in_ok-extend.ensures.pairs)
    c.fill.ensures.pairs

pub returns-clause-settled : goal.returns-clause-settled
returns-clause-settled g c =
    let space : List (List (List ℕ)) = g.G.Graded.space c.args.graded.now in
    on_ok_weaker c.fill.result
    (λ e. all_settled space c.args.dim c.requires.dim c.extend.new.self.pairs c.fill.new.pairing.pairs
    (middle_valid space c.args.pairing.now.pairs c.in_ok-made.made.items c.deref.result.now c.extend.new.self.pairs c.in_ok-made.ensures.valid c.deref.ensures.value c.in_ok-extend.ensures.pairs) e)
    c.fill.ensures.pairs
