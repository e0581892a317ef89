use Rattle.std.proofs.Common.{◌≡◌, ◌≤◌, ◌<◌, ◌-◌, ◌+◌, ℕ, List, ◌++◌, ◌∷◌, [], length, set, cond, eqb, get_or, refl, sym, ◌∙◌, ap, subst, arith}
use Rattle.std.proofs.lemmas.List.{length-set}
use Rattle.number_lists.specs.Words.{holds}
use Rattle.face_poset.specs.Poset.{count}
use Rattle.chosen_field.specs.Rests.{left_of}
use Rattle.chosen_field.specs.Listings.{at}
use Rattle.chosen_field.specs.Levels.{IsVisited, AreVisited}
use Rattle.chosen_field.proofs.FirstWaits.{at-set}
use Rattle.chosen_field.proofs.Visits.{segment, segment-none, segment-more, segment-all, visited-none, visited-more, numbered-more}
use Rattle.chosen_field.proofs.distances.visit_level.Goals as goal

pub loop-index-init : goal.loop-index-init
loop-index-init g c =
    let space : List (List (List ℕ)) = g.G.Graded.space c.args.graded.now in
    let old : List ℕ = c.args.found.now.found in
    let none : segment c.args.head c.args.head old ≡ [] = segment-none c.args.head old c.requires.head in (
      refl,
      refl,
      omega arith,
      subst (λ (xs : List ℕ). AreVisited space (left_of c.args.flags.now) xs old old) (sym none) (visited-none space (left_of c.args.flags.now) old),
      λ v a. sym (ap (λ (xs : List ℕ). cond (holds xs v) c.args.round (at c.args.numbers.now v)) none),
    )

pub loop-index-preserved : goal.loop-index-preserved
loop-index-preserved g c =
    let space : List (List (List ℕ)) = g.G.Graded.space c.args.graded.now in
    let es : List ℕ = left_of c.args.flags.now in
    let old : List ℕ = c.args.found.now.found in
    let i : ℕ = c.loop-index.index in
    let l : i < length old = omega (arith, c.loop-index-test.true, c.len-index-end.ensures.len) in
    let more : segment c.args.head (i + 1) old ≡ segment c.args.head i old ++ get_or old i 0 ∷ [] = segment-more c.args.head i old c.loop-index.invariant.2 l in
    let vertex : c.get-vertex.result ≡ get_or old i 0 = c.get-vertex.ensures.number ∙ c.loop-index.invariant.3.grows.place i l in
    let wide : length c.loop-index.numbers ≡ count space 0 = c.loop-index.invariant.1 ∙ c.requires.numbers in
    let last : c.get-vertex.result ≤ length c.loop-index.numbers = omega (arith, c.get-vertex.ensures.last, c.loop-index.invariant.0, c.requires.most, wide) in (
      c.visit.ensures.most ∙ c.loop-index.invariant.0,
      length-set c.loop-index.numbers (c.get-vertex.result - 1) c.args.round ∙ c.loop-index.invariant.1,
      omega (arith, c.loop-index.invariant.2),
      subst (λ (xs : List ℕ). AreVisited space es xs old c.visit.new.found.found) (sym more)
          (visited-more space es (segment c.args.head i old) old c.loop-index.found.found c.visit.new.found.found (get_or old i 0) c.loop-index.invariant.3
          (subst (λ (x : ℕ). IsVisited space es x c.loop-index.found.found c.visit.new.found.found) vertex c.in_ok-visit.ensures.found)),
      λ v a.
          numbered-more (segment c.args.head i old) c.args.numbers.now c.loop-index.numbers (set c.loop-index.numbers (c.get-vertex.result - 1) c.args.round) (get_or old i 0) c.args.round c.loop-index.invariant.4
          (λ w b. at-set c.loop-index.numbers c.get-vertex.result c.args.round w c.get-vertex.ensures.first last b ∙ ap (λ (x : ℕ). cond (eqb w x) c.args.round (at c.loop-index.numbers w)) vertex) v a
          ∙ ap (λ (xs : List ℕ). cond (holds xs v) c.args.round (at c.args.numbers.now v)) (sym more),
    )

pub returns-clause-found : goal.returns-clause-found
returns-clause-found g c =
    subst (λ (xs : List ℕ). AreVisited (g.G.Graded.space c.args.graded.now) (left_of c.args.flags.now) xs c.args.found.now.found c.loop-index.found.found)
    (segment-all c.args.head c.loop-index.index c.args.found.now.found (omega (arith, c.loop-index-test.false, c.len-index-end.ensures.len))) c.loop-index.invariant.3

pub returns-clause-numbers : goal.returns-clause-numbers
returns-clause-numbers g c v a =
    c.loop-index.invariant.4 v a
    ∙ ap (λ (xs : List ℕ). cond (holds xs v) c.args.round (at c.args.numbers.now v)) (segment-all c.args.head c.loop-index.index c.args.found.now.found (omega (arith, c.loop-index-test.false, c.len-index-end.ensures.len)))
