use Rattle.std.proofs.Common.{◌≡◌, ℕ, ◌+◌, ◌-◌, ◌<◌, ◌≤◌, List, [], ◌∷◌, ◌++◌, Bool, true, false, length, set, ap, sym, ◌∙◌, subst, arith, All}
use Rattle.std.proofs.lemmas.List.{length-set}
use Rattle.face_poset.specs.declared.cells.Pair.{Pair}
use Rattle.number_lists.specs.Words.{holds}
use Rattle.face_poset.specs.Poset.{count, facets_of, cofaces_of, IsSpace}
use Rattle.vector_field.specs.Pairs.{pair, IsValid}
use Rattle.vector_field.specs.Stages.{Left, IsOnly}
use Rattle.number_lists.specs.Members.{In}
use Rattle.number_lists.proofs.CallerLemmas.{holds-In}
use Rattle.vector_field.proofs.MaximalTest.{Coface, cofaces-In}
use Rattle.vector_field.proofs.InRange.{facet-range}
use Rattle.vector_field.proofs.Making.{IsMaking, making_begun, making_less, making_more, making_done, dims-reverse}
use Rattle.vector_field.proofs.faces.free_pairs.Goals as goal
use Rattle.vector_field.proofs.faces.free_pairs.Goals.{in-Some+in-Some-only+in_ok-push-in-Some+in_ok-remove-in-Some, in-Some+in_default, in-None+in-Some-next_left+in_ok-remove-in-Some-next_left}
use Rattle.vector_field.proofs.faces.free_pairs.Goals.{else-loop-turn-test, then-loop-turn-test+in-None+in-None-next_left}

pub loop-turn-init : goal.loop-turn-init
loop-turn-init g c =
    let space : List (List (List ℕ)) = g.G.Graded.space c.args.graded.now in (
      c.in_ok-rest.ensures.most,
      c.in_ok-rest.ensures.len,
      subst (λ (made : List Pair). IsMaking space c.args.dim c.args.pairing.now.pairs made c.in_ok-rest.rest.cells) (sym c.new-made.ensures.items)
          (making_begun space c.args.dim c.args.pairing.now.pairs (λ q m. c.requires.field.above q m) c.in_ok-rest.rest.cells c.in_ok-rest.ensures.len c.in_ok-rest.ensures.left),
    )

-- the cofaces of a facet, and the facets of a cell, are there
coface_range : (space : List (List (List ℕ))) (dim facet most : ℕ) (uppers : List ℕ) → uppers ≡ cofaces_of space dim facet → most ≡ count space (dim + 1) → (cell : ℕ) → holds uppers cell ≡ true → (1 ≤ cell) × (cell ≤ most)
coface_range space dim facet most uppers e long cell h =
    let k = cofaces-In space dim facet cell (holds-In (cofaces_of space dim facet) (subst (λ (us : List ℕ). holds us cell ≡ true) e h)) in
    (k.first, omega (arith, k.last, long))

facets_range : (space : List (List (List ℕ))) (dim cell most : ℕ) (facets : List ℕ) → IsSpace space → 1 ≤ cell → cell ≤ count space (dim + 1) → facets ≡ facets_of space (dim + 1) cell → most ≡ count space dim → (f : ℕ) → holds facets f ≡ true → (1 ≤ f) × (f ≤ most)
facets_range space dim cell most facets valid a b e long f h =
    let r = facet-range space dim cell f valid a b (holds-In (facets_of space (dim + 1) cell) (subst (λ (fs : List ℕ). holds fs f ≡ true) e h)) in
    (r.0, omega (arith, r.1, long))

-- the one coface that is left
only_coface : (space : List (List (List ℕ))) (dim facet cell : ℕ) (cells : List Bool) (uppers : List ℕ) → uppers ≡ cofaces_of space dim facet → IsOnly cells uppers cell → Coface space dim facet cell
only_coface space dim facet cell cells uppers e o = cofaces-In space dim facet cell (holds-In (cofaces_of space dim facet) (subst (λ (us : List ℕ). holds us cell ≡ true) e o.member))

pub only-requires : goal.only-requires
only-requires g c =
    coface_range (g.G.Graded.space c.args.graded.now) c.args.dim c.in-Some.lower (length c.next_free.new.self.cells) c.cofaces.result.now c.cofaces.ensures.cofaces
    (ap (λ (cs : List Bool). length cs) c.next_free.ensures.cells ∙ c.loop-turn.invariant.1)

pub facets-requires-clause-first : goal.facets-requires-clause-first
facets-requires-clause-first g c = (only_coface (g.G.Graded.space c.args.graded.now) c.args.dim c.in-Some.lower c.in-Some-only.upper c.next_free.new.self.cells c.cofaces.result.now c.cofaces.ensures.cofaces c.in-Some-only.ensures).first

pub facets-requires-clause-last : goal.facets-requires-clause-last
facets-requires-clause-last g c = (only_coface (g.G.Graded.space c.args.graded.now) c.args.dim c.in-Some.lower c.in-Some-only.upper c.next_free.new.self.cells c.cofaces.result.now c.cofaces.ensures.cofaces c.in-Some-only.ensures).last

pub remove-requires-clause-first : goal.remove-requires-clause-first
remove-requires-clause-first g c = (only_coface (g.G.Graded.space c.args.graded.now) c.args.dim c.in-Some.lower c.in-Some-only.upper c.next_free.new.self.cells c.cofaces.result.now c.cofaces.ensures.cofaces c.in-Some-only.ensures).first

pub remove-requires-clause-last : goal.remove-requires-clause-last
remove-requires-clause-last g c =
    omega (
      arith,
      (only_coface (g.G.Graded.space c.args.graded.now) c.args.dim c.in-Some.lower c.in-Some-only.upper c.next_free.new.self.cells c.cofaces.result.now c.cofaces.ensures.cofaces c.in-Some-only.ensures).last,
      ap (λ (cs : List Bool). length cs) c.next_free.ensures.cells,
      c.loop-turn.invariant.1,
    )

pub remove-requires-clause-facets : goal.remove-requires-clause-facets
remove-requires-clause-facets g c =
    let space : List (List (List ℕ)) = g.G.Graded.space c.args.graded.now in
    let k : Coface space c.args.dim c.in-Some.lower c.in-Some-only.upper = only_coface space c.args.dim c.in-Some.lower c.in-Some-only.upper c.next_free.new.self.cells c.cofaces.result.now c.cofaces.ensures.cofaces c.in-Some-only.ensures in
    facets_range space c.args.dim c.in-Some-only.upper c.next_free.new.self.most c.facets.result.now c.facets.ensures.valid k.first k.last c.facets.ensures.facets (c.next_free.ensures.most ∙ c.loop-turn.invariant.0)

pub remove-requires-in-Some-next_left-clause-facets : goal.remove-requires-in-Some-next_left-clause-facets
remove-requires-in-Some-next_left-clause-facets g c =
    let space : List (List (List ℕ)) = g.G.Graded.space c.args.graded.now in
    let last : c.in-Some-next_left.cell ≤ count space (c.args.dim + 1) = omega (arith, c.in-Some-next_left.ensures.cell.1, ap (λ (cs : List Bool). length cs) c.next_free.ensures.cells, c.loop-turn.invariant.1) in
    facets_range space c.args.dim c.in-Some-next_left.cell c.next_left.new.self.most c.facets-in-Some-next_left.result.now c.facets-in-Some-next_left.ensures.valid c.in-Some-next_left.ensures.cell.0 last c.facets-in-Some-next_left.ensures.facets
    (c.next_left.ensures.most ∙ (c.next_free.ensures.most ∙ c.loop-turn.invariant.0))

pub loop-turn-preserved : goal.loop-turn-preserved
loop-turn-preserved g c =
    let space : List (List (List ℕ)) = g.G.Graded.space c.args.graded.now in
    let dim : ℕ = c.args.dim in
    let ps : List Pair = c.args.pairing.now.pairs in
    let made : List Pair = c.loop-turn.made.items in
    let cells : List Bool = c.loop-turn.rest.cells in
    let same : c.next_free.new.self.cells ≡ cells = c.next_free.ensures.cells in
    elim c.match-next_free.branch [
      | in-Some+in-Some-only+in_ok-push-in-Some+in_ok-remove-in-Some w ↦
          let gone : c.match-next_free.rest.cells ≡ set cells (w.in-Some-only.upper - 1) false = ap (λ (l : Left). l.cells) w.rest-is ∙ (w.remove.ensures.cells ∙ ap (λ (cs : List Bool). set cs (w.in-Some-only.upper - 1) false) same) in (
            ap (λ (l : Left). l.most) w.rest-is ∙ (w.remove.ensures.most ∙ (c.next_free.ensures.most ∙ c.loop-turn.invariant.0)),
            ap (λ (cs : List Bool). length cs) gone ∙ (length-set cells (w.in-Some-only.upper - 1) false ∙ c.loop-turn.invariant.1),
            more space dim ps (λ q m. c.requires.field.above q m) made c.match-next_free.made.items cells c.match-next_free.rest.cells w.in-Some.lower w.in-Some-only.upper c.requires.dim
                w.in-Some.ensures.facet.0 (omega (arith, w.in-Some.ensures.facet.1, c.loop-turn.invariant.0)) c.loop-turn.invariant.1
                (subst (λ (us : List ℕ). IsOnly cells us w.in-Some-only.upper) w.cofaces.ensures.cofaces (subst (λ (cs : List Bool). IsOnly cs w.cofaces.result.now w.in-Some-only.upper) same w.in-Some-only.ensures))
                (ap (λ v. v.items) w.made-is ∙ w.in_ok-push-in-Some.ensures.items) gone c.loop-turn.invariant.2,
          )
      | in-Some+in_default w ↦ (
        ap (λ (l : Left). l.most) w.rest-is ∙ (c.next_free.ensures.most ∙ c.loop-turn.invariant.0),
        ap (λ (l : Left). length l.cells) w.rest-is ∙ (ap (λ (cs : List Bool). length cs) same ∙ c.loop-turn.invariant.1),
        stays space dim ps made c.match-next_free.made.items cells c.match-next_free.rest.cells (ap (λ v. v.items) w.made-is) (ap (λ (l : Left). l.cells) w.rest-is ∙ same) c.loop-turn.invariant.2,
      )
      | in-None+in-Some-next_left+in_ok-remove-in-Some-next_left w ↦
          let cell : ℕ = w.in-Some-next_left.cell in
          let gone : c.match-next_free.rest.cells ≡ set cells (cell - 1) false = ap (λ (l : Left). l.cells) w.rest-is ∙ (w.remove-in-Some-next_left.ensures.cells ∙ ap (λ (cs : List Bool). set cs (cell - 1) false) (w.next_left.ensures.cells ∙ same)) in
          let last : cell ≤ length cells = omega (arith, w.in-Some-next_left.ensures.cell.1, ap (λ (cs : List Bool). length cs) same) in (
            ap (λ (l : Left). l.most) w.rest-is ∙ (w.remove-in-Some-next_left.ensures.most ∙ (w.next_left.ensures.most ∙ (c.next_free.ensures.most ∙ c.loop-turn.invariant.0))),
            ap (λ (cs : List Bool). length cs) gone ∙ (length-set cells (cell - 1) false ∙ c.loop-turn.invariant.1),
            stays space dim ps made c.match-next_free.made.items (set cells (cell - 1) false) c.match-next_free.rest.cells (ap (λ v. v.items) w.made-is) gone
                (making_less space dim ps (λ q m. c.requires.field.above q m) made cells cell w.in-Some-next_left.ensures.cell.0 last c.loop-turn.invariant.2),
          )
    ]
  where
    stays : (space : List (List (List ℕ))) (dim : ℕ) (ps made made' : List Pair) (cells cells' : List Bool) → made' ≡ made → cells' ≡ cells → IsMaking space dim ps made cells → IsMaking space dim ps made' cells'
    stays space dim ps made made' cells cells' e f h = subst (λ (ms : List Pair). IsMaking space dim ps ms cells') (sym e) (subst (IsMaking space dim ps made) (sym f) h)

    more : (space : List (List (List ℕ))) (dim : ℕ) (ps : List Pair) (above : (q : Pair) → In q ps → dim + 1 ≤ q.dim) (made made' : List Pair) (cells cells' : List Bool) (f b : ℕ) → dim < 3 → 1 ≤ f → f ≤ count space dim → length cells ≡ count space (dim + 1)
        → IsOnly cells (cofaces_of space dim f) b → made' ≡ made ++ pair dim f b ∷ [] → cells' ≡ set cells (b - 1) false → IsMaking space dim ps made cells → IsMaking space dim ps made' cells'
    more space dim ps above made made' cells cells' f b low f1 f2 long only e g h = stays space dim ps (made ++ pair dim f b ∷ []) made' (set cells (b - 1) false) cells' e g (making_more space dim ps above made cells f b low f1 f2 long only h)

pub returns-clause-valid : goal.returns-clause-valid
returns-clause-valid g c =
    let space : List (List (List ℕ)) = g.G.Graded.space c.args.graded.now in
    subst (λ (ms : List Pair). IsValid space (c.args.pairing.now.pairs ++ ms)) (sym c.reverse.ensures.items)
    (making_done space c.args.dim c.args.pairing.now.pairs (λ q m. c.requires.field.above q m) c.loop-turn.made.items c.loop-turn.rest.cells c.requires.field.valid c.loop-turn.invariant.2)

pub returns-clause-dims : goal.returns-clause-dims
returns-clause-dims g c =
    subst (λ (ms : List Pair). All (λ (p : Pair). p.dim ≡ c.args.dim) ms) (sym c.reverse.ensures.items)
    (dims-reverse c.args.dim c.loop-turn.made.items (c.loop-turn.invariant.2).dims)
