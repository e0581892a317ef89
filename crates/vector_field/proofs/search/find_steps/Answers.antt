use Rattle.std.proofs.Common.{◌≡◌, ◌≢◌, ℕ, ◌+◌, ◌<◌, List, [], ◌∷◌, ◌++◌, take, length, get_or, ap, sym, ◌∙◌, subst, arith, refl}
use Rattle.std.proofs.lemmas.List.{take_more, take_all}
use Rattle.number_lists.specs.Members.{In}
use Rattle.face_poset.specs.declared.cells.Pair.{Pair}
use Rattle.vector_field.specs.Pairs.{pair}
use Rattle.vector_field.specs.Pairings.{has_upper}
use Rattle.number_lists.specs.Found.{Numbers, inserted}
use Rattle.number_lists.proofs.CallerLemmas.{none-In, IsMore, is_more}
use Rattle.vector_field.proofs.Noted.{has_upper-from}
use Rattle.vector_field.proofs.CofaceAt.{coface_cell}
use Rattle.vector_field.proofs.Led.{IsAdding, adding-none, adding-found, adding-skip, adding-all}
use Rattle.vector_field.proofs.search.find_steps.Goals as goal
use Rattle.vector_field.proofs.search.find_steps.Goals.{in-Some+then-lower-facet+in_ok-insert-in-Some, in-Some+else-lower-facet, in-None}

pub lower_of-requires-clause-cell : goal.lower_of-requires-clause-cell
lower_of-requires-clause-cell g c =
    coface_cell (g.G.Graded.space c.args.graded.now) c.args.dim c.args.facet c.cofaces-uppers.result.now c.cofaces-uppers.ensures.cofaces c.args.pairing.now.counts c.loop-upper.upper-index c.requires.field.counts c.requires.dim c.loop-upper-test.true

module _ (space : List (List (List ℕ))) (pairs : List Pair) (dim facet : ℕ) (uppers old : List ℕ) (i : ℕ) (l : i < length uppers) where
  -- one upper more is looked at
  adding_taken : (new new' : List ℕ) (lower : ℕ) → In (pair dim lower (get_or uppers i 0)) pairs → lower ≢ facet → ((p q : Pair) → In p pairs → In q pairs → p.dim ≡ q.dim → p.upper ≡ q.upper → p ≡ q)
      → new' ≡ inserted new lower → IsAdding pairs dim facet (take i uppers) old new → IsAdding pairs dim facet (take (i + 1) uppers) old new'
  adding_taken new new' lower m n one e h =
      subst (λ (us : List ℕ). IsAdding pairs dim facet us old new') (sym (take_more uppers i 0 l))
      (adding-found pairs dim facet (take i uppers) old new new' (get_or uppers i 0) lower m n one (subst (IsMore new lower) (sym e) (is_more new lower)) h)

  adding_passed : (new new' : List ℕ) → ((lower : ℕ) → In (pair dim lower (get_or uppers i 0)) pairs → lower ≡ facet) → new' ≡ new → IsAdding pairs dim facet (take i uppers) old new → IsAdding pairs dim facet (take (i + 1) uppers) old new'
  adding_passed new new' none e h =
      subst (λ (us : List ℕ). IsAdding pairs dim facet us old new') (sym (take_more uppers i 0 l))
      (subst (IsAdding pairs dim facet (take i uppers ++ get_or uppers i 0 ∷ []) old) (sym e) (adding-skip pairs dim facet (take i uppers) old new (get_or uppers i 0) none h))

pub loop-upper-preserved : goal.loop-upper-preserved
loop-upper-preserved g c =
    let space : List (List (List ℕ)) = g.G.Graded.space c.args.graded.now in
    let pairs : List Pair = c.args.pairing.now.pairs in
    let uppers : List ℕ = c.cofaces-uppers.result.now in
    elim c.match-lower_of.branch [
      | in-Some+then-lower-facet+in_ok-insert-in-Some w ↦ (
        ap (λ (n : Numbers). n.most) w.found-is ∙ (w.insert.ensures.most ∙ c.loop-upper.invariant.0),
        adding_taken space pairs c.args.dim c.args.facet uppers c.args.found.now.found c.loop-upper.upper-index c.loop-upper-test.true c.loop-upper.found.found c.match-lower_of.found.found w.in-Some.lower w.in-Some.ensures w.if-lower-facet.true c.requires.field.one_lower
            (ap (λ (n : Numbers). n.found) w.found-is ∙ w.in_ok-insert-in-Some.ensures.found) c.loop-upper.invariant.1,
      )
      | in-Some+else-lower-facet w ↦ (
        ap (λ (n : Numbers). n.most) w.found-is ∙ c.loop-upper.invariant.0,
        adding_passed space pairs c.args.dim c.args.facet uppers c.args.found.now.found c.loop-upper.upper-index c.loop-upper-test.true c.loop-upper.found.found c.match-lower_of.found.found
            (λ lower m. ap (λ (p : Pair). p.lower) (c.requires.field.one_lower (pair c.args.dim lower (get_or uppers c.loop-upper.upper-index 0)) (pair c.args.dim w.in-Some.lower (get_or uppers c.loop-upper.upper-index 0)) m w.in-Some.ensures refl refl) ∙ w.if-lower-facet.false)
            (ap (λ (n : Numbers). n.found) w.found-is) c.loop-upper.invariant.1,
      )
      | in-None w ↦ (
        ap (λ (n : Numbers). n.most) w.found-is ∙ c.loop-upper.invariant.0,
        adding_passed space pairs c.args.dim c.args.facet uppers c.args.found.now.found c.loop-upper.upper-index c.loop-upper-test.true c.loop-upper.found.found c.match-lower_of.found.found
            (λ lower m. absurd (none-In (has_upper c.args.dim (get_or uppers c.loop-upper.upper-index 0)) w.in-None.ensures m (has_upper-from (pair c.args.dim lower (get_or uppers c.loop-upper.upper-index 0)) c.args.dim (get_or uppers c.loop-upper.upper-index 0) refl refl)))
            (ap (λ (n : Numbers). n.found) w.found-is) c.loop-upper.invariant.1,
      )
    ]

pub loop-upper-init : goal.loop-upper-init
loop-upper-init g c = (refl, adding-none c.args.pairing.now.pairs c.args.dim c.args.facet c.args.found.now.found)

pub returns-clause-steps : goal.returns-clause-steps
returns-clause-steps g c =
    let uppers : List ℕ = c.cofaces-uppers.result.now in
    adding-all (g.G.Graded.space c.args.graded.now) c.args.pairing.now.pairs c.args.dim c.args.facet uppers c.args.found.now.found c.loop-upper.found.found c.cofaces-uppers.ensures.cofaces
    (subst (λ (us : List ℕ). IsAdding c.args.pairing.now.pairs c.args.dim c.args.facet us c.args.found.now.found c.loop-upper.found.found) (take_all c.loop-upper.upper-index uppers (omega (arith, c.loop-upper-test.false))) c.loop-upper.invariant.1)
