use Rattle.std.proofs.Common.{◌≡◌, ◌≤◌, ◌+◌, ◌-◌, ◌/◌, ◌%◌, ◌++◌, ◌∷◌, [], ℕ, List, map, drop, get_or, subst, ap, sym, ◌∙◌, arith, append_assoc, ◌*◌}
use Rattle.std.proofs.lemmas.Nat.{div-add-mod'}
use Rattle.number_lists.specs.Members.{In, here, there}
use Rattle.voxel_spaces.specs.Places.{facets_from, facet_places, number_among}
use Rattle.voxel_spaces.proofs.BoxLevels.{facets_from-odd, facets_from-even}
use Rattle.number_lists.proofs.CallerLemmas.{In-Contains}
use Rattle.voxel_spaces.proofs.cells.list_facets.Goals as goal
use Rattle.voxel_spaces.proofs.cells.list_facets.Goals.{then-coordinate-eq1+in_ok-push+in_ok-push-2, else-coordinate-eq1}

pub number_at-requires-clause-there : goal.number_at-requires-clause-there
number_at-requires-clause-there c =
    let i : ℕ = c.loop-stride.stride-index in
    let e = facets_from-odd c.args.strides.now i c.args.place c.loop-stride.rest c.loop-stride-test.true c.if-coordinate-eq1.true in
    let k : ℕ = c.args.place - get_or c.args.strides.now i 0 in
    c.requires.there k (In-Contains (c.loop-stride.invariant.inside k (subst (In k) (sym e) here)))

pub number_at-requires-then-coordinate-eq1-clause-there : goal.number_at-requires-then-coordinate-eq1-clause-there
number_at-requires-then-coordinate-eq1-clause-there c =
    let i : ℕ = c.loop-stride.stride-index in
    let e = facets_from-odd c.args.strides.now i c.args.place c.loop-stride.rest c.loop-stride-test.true c.if-coordinate-eq1.true in
    let k : ℕ = c.args.place + get_or c.args.strides.now i 0 in
    c.requires.there k (In-Contains (c.loop-stride.invariant.inside k (subst (In k) (sym e) (there here))))

-- two facets more are listed
two_more : (f : ℕ → ℕ) (all : List ℕ) (old new_first new rest part : List ℕ) (j k a b : ℕ) → rest ≡ j ∷ k ∷ part → a ≡ f j → b ≡ f k → new_first ≡ old ++ a ∷ [] → new ≡ new_first ++ b ∷ [] → old ++ map f rest ≡ all → new ++ map f part ≡ all
two_more f all old new_first new rest part j k a b e p q g h is =
    ap (λ (xs : List ℕ). xs ++ map f part) (h ∙ ap (λ (xs : List ℕ). xs ++ b ∷ []) g)
    ∙ (append_assoc (old ++ a ∷ []) (b ∷ []) (map f part)
    ∙ (append_assoc old (a ∷ []) (b ∷ map f part)
    ∙ (ap (λ (n : ℕ). old ++ n ∷ b ∷ map f part) p ∙ (ap (λ (n : ℕ). old ++ f j ∷ n ∷ map f part) q ∙ (ap (λ (xs : List ℕ). old ++ map f xs) (sym e) ∙ is)))))

mod-le : (r s : ℕ) → r % s ≤ r
mod-le r s = let e : r / s * s + r % s ≡ r = div-add-mod' r s in omega (arith, e)

pub loop-stride-preserved : goal.loop-stride-preserved
loop-stride-preserved c =
    let i : ℕ = c.loop-stride.stride-index in
    let ss : List ℕ = c.args.strides.now in
    let p : ℕ = c.args.place in
    let rest : ℕ = c.loop-stride.rest in
    let d : ℕ = get_or ss i 0 in
    let f : ℕ → ℕ = number_among ss c.args.places.now in
    let part : List ℕ = facets_from (drop (i + 1) ss) p (rest % d) in
    let less : rest % d ≤ p = omega (arith, mod-le rest d, c.loop-stride.invariant.less) in
    elim c.if-coordinate-eq1.branch [
      | then-coordinate-eq1+in_ok-push+in_ok-push-2 w ↦
          let e = facets_from-odd ss i p rest c.loop-stride-test.true w.if-coordinate-eq1.true in
          record {
            listed = ap (λ (xs : List ℕ). xs ++ map f part) (ap (λ v. v.items) w.facets-is)
                ∙ two_more f (map f (facet_places ss p)) c.loop-stride.facets.items w.push.new.self.items w.push-then-coordinate-eq1.new.self.items (facets_from (drop i ss) p rest) part (p - d) (p + d) w.number_at.result w.number_at-then-coordinate-eq1.result
                e w.number_at.ensures w.number_at-then-coordinate-eq1.ensures w.in_ok-push.ensures.items w.in_ok-push-2.ensures.items c.loop-stride.invariant.listed;
            inside = λ k j. c.loop-stride.invariant.inside k (subst (In k) (sym e) (there (there j)));
            less = less;
          }
      | else-coordinate-eq1 w ↦
          let e = facets_from-even ss i p rest c.loop-stride-test.true w.if-coordinate-eq1.false in
          record {
            listed = ap (λ (xs : List ℕ). xs ++ map f part) (ap (λ v. v.items) w.facets-is) ∙ (ap (λ (xs : List ℕ). c.loop-stride.facets.items ++ map f xs) (sym e) ∙ c.loop-stride.invariant.listed);
            inside = λ k j. c.loop-stride.invariant.inside k (subst (In k) (sym e) j);
            less = less;
          }
    ]
