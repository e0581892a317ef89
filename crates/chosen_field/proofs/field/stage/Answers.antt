use Rattle.std.proofs.Common.{◌≡◌, ℕ, List, ◌++◌, sym, ◌∙◌, ap, subst}
use Rattle.std.proofs.lemmas.Result.{IfOk-weaker}
use Rattle.face_poset.specs.declared.cells.Pair.{Pair}
use Rattle.vector_field.specs.Pairs.{Field, IsFieldOf, IsValid}
use Rattle.vector_field.specs.Stages.{IsAbove, filled}
use Rattle.chosen_field.specs.Chosen.{free_pairs, stage}
use Rattle.chosen_field.proofs.Valid.{collapsed-valid}
use Rattle.chosen_field.proofs.HighField.{staged-field, both-ok}
use Rattle.chosen_field.proofs.field.stage.Goals as goal

-- the pairs that are handed on
joined : (old made given items : List Pair) (all end : List Pair) (free : List Pair) → items ≡ old → given ≡ made → made ≡ free → all ≡ items ++ given → end ≡ all → end ≡ old ++ free
joined old made given items all end free a b d e f = f ∙ (e ∙ (ap (λ (ps : List Pair). ps ++ given) a ∙ ap (λ (ps : List Pair). old ++ ps) (b ∙ d)))

pub field_of-requires : goal.field_of-requires
field_of-requires g c =
    let space : List (List (List ℕ)) = g.G.Graded.space c.args.graded.now in
    let ps : List Pair = c.args.field.pairs in
    subst (IsValid space)
    (sym (joined ps c.in_ok-made.made.items c.deref.result.now c.in_ok-pairs.pairs.items c.extend_from_slice.new.self.items c.deref-2.result.now (free_pairs space c.args.dim ps) c.in_ok-pairs.ensures c.deref.ensures.value c.in_ok-made.ensures
    c.in_ok-extend_from_slice.ensures.items c.deref-2.ensures.value))
    (collapsed-valid space c.args.dim ps c.requires.dim (λ p m. c.requires.field.above p m) c.requires.field.valid)

pub returns-clause-pairs : goal.returns-clause-pairs
returns-clause-pairs g c =
    let space : List (List (List ℕ)) = g.G.Graded.space c.args.graded.now in
    let ps : List Pair = c.args.field.pairs in
    IfOk-weaker c.filled.result (λ (f : Field). f.pairs ≡ filled space c.args.dim c.in_ok-more.more.pairs) (λ (f : Field). f.pairs ≡ stage space c.args.dim ps)
    (λ f e. e
    ∙ ap (filled space c.args.dim)
    (c.in_ok-more.ensures.pairs
    ∙ joined ps c.in_ok-made.made.items c.deref.result.now c.in_ok-pairs.pairs.items c.extend_from_slice.new.self.items c.deref-2.result.now (free_pairs space c.args.dim ps) c.in_ok-pairs.ensures c.deref.ensures.value c.in_ok-made.ensures
    c.in_ok-extend_from_slice.ensures.items c.deref-2.ensures.value))
    c.filled.ensures.pairs

pub returns-clause-field : goal.returns-clause-field
returns-clause-field g c =
    let space : List (List (List ℕ)) = g.G.Graded.space c.args.graded.now in
    let ps : List Pair = c.args.field.pairs in
    both-ok c.filled.result (λ (f : Field). f.pairs ≡ filled space c.args.dim c.in_ok-more.more.pairs) (IsFieldOf space) (IsAbove space c.args.dim)
    (λ f e h. staged-field space c.args.dim ps c.requires.dim c.requires.field.valid (λ p m. c.requires.field.above p m) f h
    (e
    ∙ ap (filled space c.args.dim)
    (c.in_ok-more.ensures.pairs
    ∙ joined ps c.in_ok-made.made.items c.deref.result.now c.in_ok-pairs.pairs.items c.extend_from_slice.new.self.items c.deref-2.result.now (free_pairs space c.args.dim ps) c.in_ok-pairs.ensures c.deref.ensures.value c.in_ok-made.ensures
    c.in_ok-extend_from_slice.ensures.items c.deref-2.ensures.value)))
    c.filled.ensures.pairs c.filled.ensures.valid
