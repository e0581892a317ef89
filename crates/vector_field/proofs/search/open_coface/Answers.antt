use Rattle.std.proofs.Common.{◌≡◌, ℕ, ◌+◌, ◌<◌, List, [], ◌∷◌, Bool, true, false, ◌&&◌, ◌||◌, not, eqb, length, get_or, take, Some, None, refl, ap, sym, ◌∙◌, subst, arith}
use Rattle.std.specs.List.{find, list_all, list_any}
use Rattle.std.proofs.lemmas.Bool.{and_from, or_from, or_left, or_right}
use Rattle.std.proofs.lemmas.List.{take_all}
use Rattle.std.proofs.lemmas.List.Folds.{list_all_more}
use Rattle.face_poset.specs.declared.cells.Pair.{Pair}
use Rattle.number_lists.specs.Words.{holds}
use Rattle.face_poset.specs.Poset.{facets_of, cofaces_of}
use Rattle.vector_field.specs.Pairs.{is_used}
use Rattle.vector_field.specs.Paths.{leads_to, has_path}
use Rattle.vector_field.specs.Maximal.{is_settled}
use Rattle.vector_field.specs.Searches.{IsLed, reaches_found}
use Rattle.vector_field.specs.Stages.{first_open}
use Rattle.number_lists.proofs.CallerLemmas.{holds-In, In-all, all-In}
use Rattle.vector_field.proofs.MaximalTest.{cofaces-In}
use Rattle.vector_field.proofs.InRange.{facet-range, has_cell}
use Rattle.vector_field.proofs.CofaceAt.{coface_at, coface_cell}
use Rattle.vector_field.proofs.FirstOpen.{none_fails, first_fails}
use Rattle.vector_field.proofs.search.open_coface.Goals as goal
use Rattle.vector_field.proofs.search.open_coface.Goals.{else-not-is_used-via-then-not-is_used+else-not-has_found, else-not-is_used-via-else-not-is_used}

pub are_used-requires : goal.are_used-requires
are_used-requires g c cell e =
    let space : List (List (List ℕ)) = g.G.Graded.space c.args.graded.now in
    let k = cofaces-In space c.args.dim c.args.lower cell (holds-In (cofaces_of space c.args.dim c.args.lower) (subst (λ (us : List ℕ). holds us cell ≡ true) c.cofaces-uppers.ensures.cofaces e)) in
    has_cell space c.args.pairing.now.counts (c.args.dim + 1) cell c.requires.field.counts (omega (arith, c.requires.dim)) k.first k.last

module _ (space : List (List (List ℕ))) (pairs : List Pair) (dim lower : ℕ) (uppers : List ℕ) (same : uppers ≡ cofaces_of space dim lower) where
  none_open : list_all (is_settled space pairs dim lower) uppers ≡ true → None ≡ first_open space pairs dim lower
  none_open e = sym (ap (find (λ u. not (is_settled space pairs dim lower u))) (sym same) ∙ none_fails (is_settled space pairs dim lower) uppers e)

  -- where all cofaces are in pairs, each is settled
  all_used : list_all (is_used pairs (dim + 1)) uppers ≡ true → None ≡ first_open space pairs dim lower
  all_used e = none_open (In-all (is_settled space pairs dim lower) uppers (λ u m. or_left (is_used pairs (dim + 1) u) (has_path space pairs dim u lower) (all-In (is_used pairs (dim + 1)) e m)))

  -- the first that is neither in a pair nor has a path
  first_is : (i : ℕ) → i < length uppers → list_all (is_settled space pairs dim lower) (take i uppers) ≡ true → is_used pairs (dim + 1) (get_or uppers i 0) ≡ false → has_path space pairs dim (get_or uppers i 0) lower ≡ false
      → Some (get_or uppers i 0) ≡ first_open space pairs dim lower
  first_is i l h a b =
      sym (ap (find (λ u. not (is_settled space pairs dim lower u))) (sym same)
      ∙ first_fails (is_settled space pairs dim lower) uppers i l h (or_from (is_used pairs (dim + 1) (get_or uppers i 0)) (has_path space pairs dim (get_or uppers i 0) lower) a b))

pub returns-then-are_used-clause-coface : goal.returns-then-are_used-clause-coface
returns-then-are_used-clause-coface g c =
    all_used (g.G.Graded.space c.args.graded.now) c.args.pairing.now.pairs c.args.dim c.args.lower c.cofaces-uppers.result.now c.cofaces-uppers.ensures.cofaces (sym c.are_used.ensures ∙ c.if-are_used.true)

pub is_used-requires : goal.is_used-requires
is_used-requires g c =
    coface_cell (g.G.Graded.space c.args.graded.now) c.args.dim c.args.lower c.cofaces-uppers.result.now c.cofaces-uppers.ensures.cofaces c.args.pairing.now.counts c.loop-upper.upper-index c.requires.field.counts c.requires.dim c.loop-upper-test.true

pub facets-requires-clause-first : goal.facets-requires-clause-first
facets-requires-clause-first g c = (coface_at (g.G.Graded.space c.args.graded.now) c.args.dim c.args.lower c.cofaces-uppers.result.now c.cofaces-uppers.ensures.cofaces c.loop-upper.upper-index c.loop-upper-test.true).first

pub facets-requires-clause-last : goal.facets-requires-clause-last
facets-requires-clause-last g c = (coface_at (g.G.Graded.space c.args.graded.now) c.args.dim c.args.lower c.cofaces-uppers.result.now c.cofaces-uppers.ensures.cofaces c.loop-upper.upper-index c.loop-upper-test.true).last

pub has_found-requires : goal.has_found-requires
has_found-requires g c f e =
    let space : List (List (List ℕ)) = g.G.Graded.space c.args.graded.now in
    let upper : ℕ = get_or c.cofaces-uppers.result.now c.loop-upper.upper-index 0 in
    let k = coface_at space c.args.dim c.args.lower c.cofaces-uppers.result.now c.cofaces-uppers.ensures.cofaces c.loop-upper.upper-index c.loop-upper-test.true in
    let r = facet-range space c.args.dim upper f c.cofaces-uppers.ensures.valid k.first k.last (holds-In (facets_of space (c.args.dim + 1) upper) (subst (λ (fs : List ℕ). holds fs f ≡ true) c.facets.ensures.facets e)) in
    (r.0, omega (arith, r.1, c.find_led.ensures.most, c.requires.most))

-- what was found tells whether there is a path
same_path : (space : List (List (List ℕ))) (pairs : List Pair) (dim lower upper : ℕ) (found facets : List ℕ) → IsLed space pairs dim lower found → facets ≡ facets_of space (dim + 1) upper → reaches_found found lower facets ≡ has_path space pairs dim upper lower
same_path space pairs dim lower upper found facets led e = agree facets ∙ ap (list_any (λ f. not (eqb f lower) && leads_to space pairs dim lower f)) e
  where
    agree : (fs : List ℕ) → reaches_found found lower fs ≡ list_any (λ f. not (eqb f lower) && leads_to space pairs dim lower f) fs
    agree [] = refl
    agree (f ∷ fs) = ap (λ (b : Bool). (not (eqb f lower) && b) || reaches_found found lower fs) (led f) ∙ ap (λ (b : Bool). (not (eqb f lower) && leads_to space pairs dim lower f) || b) (agree fs)

pub returns-then-not-has_found-clause-coface : goal.returns-then-not-has_found-clause-coface
returns-then-not-has_found-clause-coface g c =
    let space : List (List (List ℕ)) = g.G.Graded.space c.args.graded.now in
    let upper : ℕ = get_or c.cofaces-uppers.result.now c.loop-upper.upper-index 0 in
    first_is space c.args.pairing.now.pairs c.args.dim c.args.lower c.cofaces-uppers.result.now c.cofaces-uppers.ensures.cofaces c.loop-upper.upper-index c.loop-upper-test.true c.loop-upper.invariant
    (sym c.is_used.ensures ∙ c.if-not-is_used.true)
    (sym (c.has_found.ensures ∙ same_path space c.args.pairing.now.pairs c.args.dim c.args.lower upper c.find_led.new.found.found c.facets.result.now c.in_ok-find_led.ensures.led c.facets.ensures.facets) ∙ c.if-not-has_found.true)

-- one coface more is settled
one_more : (p : ℕ → Bool) (uppers : List ℕ) (i : ℕ) → i < length uppers → list_all p (take i uppers) ≡ true → p (get_or uppers i 0) ≡ true → list_all p (take (i + 1) uppers) ≡ true
one_more p uppers i l h e = list_all_more p uppers i 0 l ∙ and_from (list_all p (take i uppers)) (p (get_or uppers i 0)) h e

pub loop-upper-preserved : goal.loop-upper-preserved
loop-upper-preserved g c =
    let space : List (List (List ℕ)) = g.G.Graded.space c.args.graded.now in
    let pairs : List Pair = c.args.pairing.now.pairs in
    let upper : ℕ = get_or c.cofaces-uppers.result.now c.loop-upper.upper-index 0 in
    let used : Bool = is_used pairs (c.args.dim + 1) upper in
    let path : Bool = has_path space pairs c.args.dim upper c.args.lower in
    one_more (is_settled space pairs c.args.dim c.args.lower) c.cofaces-uppers.result.now c.loop-upper.upper-index c.loop-upper-test.true c.loop-upper.invariant
    (elim c.else-not-is_used.branch [
      | else-not-is_used-via-then-not-is_used+else-not-has_found w ↦
          or_right used path (sym (w.has_found.ensures ∙ same_path space pairs c.args.dim c.args.lower upper c.find_led.new.found.found w.facets.result.now c.in_ok-find_led.ensures.led w.facets.ensures.facets) ∙ w.if-not-has_found.false)
      | else-not-is_used-via-else-not-is_used w ↦ or_left used path (sym c.is_used.ensures ∙ w.if-not-is_used.false)
    ])

pub returns-clause-coface : goal.returns-clause-coface
returns-clause-coface g c =
    let space : List (List (List ℕ)) = g.G.Graded.space c.args.graded.now in
    let uppers : List ℕ = c.cofaces-uppers.result.now in
    let all : List ℕ → Bool = list_all (is_settled space c.args.pairing.now.pairs c.args.dim c.args.lower) in
    none_open space c.args.pairing.now.pairs c.args.dim c.args.lower uppers c.cofaces-uppers.ensures.cofaces
    (subst (λ (us : List ℕ). all us ≡ true) (take_all c.loop-upper.upper-index uppers (omega (arith, c.loop-upper-test.false))) c.loop-upper.invariant)
