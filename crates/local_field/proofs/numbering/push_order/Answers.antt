use Rattle.std.proofs.Common.{ℕ, ◌≤◌, List, [], ◌∷◌, ◌++◌, All, Contains, length, map, ap, sym, ◌∙◌, subst, arith}
use Rattle.face_poset.specs.Poset.{count}
use Rattle.order_complex.specs.Chains.{chains_of}
use Rattle.sphere_collapses.specs.Places.{ArePlaces}
use Rattle.local_field.specs.Numbered.{flag_numbers}
use Rattle.local_field.specs.Flags.{top_number, IsOrderOf}
use Rattle.local_field.proofs.Orders.{in-range, there, is-order, few, ordered}
use Rattle.local_field.proofs.numbering.push_order.Goals as goal

pub list_tops-requires-clause-numbers : goal.list_tops-requires-clause-numbers
list_tops-requires-clause-numbers g c =
    subst (λ (s : List (List (List ℕ))). All (λ n. (1 ≤ n) × (n ≤ length (chains_of s c.args.dim))) c.deref-2.result.now) (sym c.requires.same)
    (subst (λ (xs : List ℕ). All (λ n. (1 ≤ n) × (n ≤ length (chains_of (g.G.Graded.space c.args.graded.now) c.args.dim))) xs) (sym c.deref-2.ensures.value)
    (in-range (g.G.Graded.space c.args.graded.now) c.cells-cells.ensures.valid c.faces_are_below.ensures c.chains_are_sequences.ensures c.args.dim c.requires.dim c.sort_once.new.numbers.items c.sort_once.ensures.rises (λ n i. c.sort_once.ensures.keeps n (subst (λ (xs : List ℕ). Contains xs n) (sym (c.in_ok-sorted.ensures.items ∙ (c.deref.ensures.value ∙ c.in_ok-numbers.ensures))) i)) (λ n i. subst (λ (xs : List ℕ). Contains xs n) (c.in_ok-sorted.ensures.items ∙ (c.deref.ensures.value ∙ c.in_ok-numbers.ensures)) (c.sort_once.ensures.adds_none n i))))

pub find_places-requires-clause-few : goal.find_places-requires-clause-few
find_places-requires-clause-few g c =
    let f = few (g.G.Graded.space c.args.graded.now) c.cells-cells.ensures.valid c.faces_are_below.ensures c.chains_are_sequences.ensures c.args.dim c.requires.dim c.sort_once.new.numbers.items c.sort_once.ensures.rises (λ n i. c.sort_once.ensures.keeps n (subst (λ (xs : List ℕ). Contains xs n) (sym (c.in_ok-sorted.ensures.items ∙ (c.deref.ensures.value ∙ c.in_ok-numbers.ensures))) i)) (λ n i. subst (λ (xs : List ℕ). Contains xs n) (c.in_ok-sorted.ensures.items ∙ (c.deref.ensures.value ∙ c.in_ok-numbers.ensures)) (c.sort_once.ensures.adds_none n i)) in
    omega (arith, f, ap (λ (xs : List ℕ). length xs) c.deref-5.ensures.value, c.cells-cells.ensures.valid.few)

pub find_places-requires-clause-there : goal.find_places-requires-clause-there
find_places-requires-clause-there g c =
    subst (λ (xs : List ℕ). All (Contains xs) c.deref-4.result.now) (sym c.deref-5.ensures.value)
    (subst (λ (xs : List ℕ). All (Contains c.sort_once.new.numbers.items) xs) (sym (c.deref-4.ensures.value ∙ c.in_ok-numbers.ensures))
    (there (g.G.Graded.space c.args.graded.now) c.cells-cells.ensures.valid c.faces_are_below.ensures c.chains_are_sequences.ensures c.args.dim c.requires.dim c.sort_once.new.numbers.items c.sort_once.ensures.rises (λ n i. c.sort_once.ensures.keeps n (subst (λ (xs : List ℕ). Contains xs n) (sym (c.in_ok-sorted.ensures.items ∙ (c.deref.ensures.value ∙ c.in_ok-numbers.ensures))) i)) (λ n i. subst (λ (xs : List ℕ). Contains xs n) (c.in_ok-sorted.ensures.items ∙ (c.deref.ensures.value ∙ c.in_ok-numbers.ensures)) (c.sort_once.ensures.adds_none n i))))

pub returns-clause-cells : goal.returns-clause-cells
returns-clause-cells g c =
    c.in_ok-push.ensures.ok
    ∙ ap (λ (xs : List ℕ). c.args.cells.now ++ xs ∷ [])
    (c.deref-3.ensures.value
    ∙ (c.in_ok-tops.ensures
    ∙ (ap (λ (s : List (List (List ℕ))). map (top_number s c.args.dim) c.deref-2.result.now) c.requires.same
    ∙ ap (λ (xs : List ℕ). map (top_number (g.G.Graded.space c.args.graded.now) c.args.dim) xs) (c.deref-2.ensures.value ∙ is-order (g.G.Graded.space c.args.graded.now) c.cells-cells.ensures.valid c.faces_are_below.ensures c.chains_are_sequences.ensures c.args.dim c.requires.dim c.sort_once.new.numbers.items c.sort_once.ensures.rises (λ n i. c.sort_once.ensures.keeps n (subst (λ (xs : List ℕ). Contains xs n) (sym (c.in_ok-sorted.ensures.items ∙ (c.deref.ensures.value ∙ c.in_ok-numbers.ensures))) i)) (λ n i. subst (λ (xs : List ℕ). Contains xs n) (c.in_ok-sorted.ensures.items ∙ (c.deref.ensures.value ∙ c.in_ok-numbers.ensures)) (c.sort_once.ensures.adds_none n i))))))

pub returns-clause-places : goal.returns-clause-places
returns-clause-places g c =
    let are : ArePlaces c.sort_once.new.numbers.items (flag_numbers (g.G.Graded.space c.args.graded.now) c.args.dim) c.in_ok-found.found.items =
    subst (λ (xs : List ℕ). ArePlaces xs (flag_numbers (g.G.Graded.space c.args.graded.now) c.args.dim) c.in_ok-found.found.items) c.deref-5.ensures.value
    (subst (λ (xs : List ℕ). ArePlaces c.deref-5.result.now xs c.in_ok-found.found.items) (c.deref-4.ensures.value ∙ c.in_ok-numbers.ensures) c.in_ok-found.ensures) in
    record {
      places = c.in_ok-found.found.items;
      put = c.in_ok-push-2.ensures.ok ∙ ap (λ (xs : List ℕ). c.args.places.now ++ xs ∷ []) c.deref-6.ensures.value;
      order = subst (λ (xs : List ℕ). IsOrderOf (count (g.G.Graded.space c.args.graded.now) c.args.dim) (map (top_number (g.G.Graded.space c.args.graded.now) c.args.dim) xs) c.in_ok-found.found.items) (is-order (g.G.Graded.space c.args.graded.now) c.cells-cells.ensures.valid c.faces_are_below.ensures c.chains_are_sequences.ensures c.args.dim c.requires.dim c.sort_once.new.numbers.items c.sort_once.ensures.rises (λ n i. c.sort_once.ensures.keeps n (subst (λ (xs : List ℕ). Contains xs n) (sym (c.in_ok-sorted.ensures.items ∙ (c.deref.ensures.value ∙ c.in_ok-numbers.ensures))) i)) (λ n i. subst (λ (xs : List ℕ). Contains xs n) (c.in_ok-sorted.ensures.items ∙ (c.deref.ensures.value ∙ c.in_ok-numbers.ensures)) (c.sort_once.ensures.adds_none n i)))
          (ordered (g.G.Graded.space c.args.graded.now) c.cells-cells.ensures.valid c.faces_are_below.ensures c.chains_are_sequences.ensures c.args.dim c.requires.dim c.sort_once.new.numbers.items c.sort_once.ensures.rises (λ n i. c.sort_once.ensures.keeps n (subst (λ (xs : List ℕ). Contains xs n) (sym (c.in_ok-sorted.ensures.items ∙ (c.deref.ensures.value ∙ c.in_ok-numbers.ensures))) i)) (λ n i. subst (λ (xs : List ℕ). Contains xs n) (c.in_ok-sorted.ensures.items ∙ (c.deref.ensures.value ∙ c.in_ok-numbers.ensures)) (c.sort_once.ensures.adds_none n i)) c.in_ok-found.found.items are);
    }
