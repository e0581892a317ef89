use Rattle.std.proofs.Common.{◌≡◌, ◌≤◌, ◌+◌, ℕ, suc, List, Bool, ◌++◌, length, take, drop, cond, replicate, sym, ◌∙◌, ap, subst, arith}
use Rattle.std.proofs.lemmas.List.{take_all, drop_all, append-nil}
use Rattle.number_lists.specs.Words.{holds}
use Rattle.number_lists.specs.Members.{In}
use Rattle.number_lists.specs.Found.{inserted}
use Rattle.face_poset.specs.Poset.{count}
use Rattle.chosen_field.specs.Rests.{left_of}
use Rattle.chosen_field.specs.Listings.{at}
use Rattle.chosen_field.proofs.Steps.{left-In}
use Rattle.chosen_field.proofs.LevelRounds.{IsLevel, level-begun, level-next, level-done}
use Rattle.chosen_field.proofs.distances.distances.Goals as goal

-- the edges are there
edges_there : (flags : List Bool) (n : ℕ) → length flags ≡ n → (e : ℕ) → In e (left_of flags) → (1 ≤ e) × (e ≤ n)
edges_there flags n long e m = let r = left-In flags e m in (r.0, omega (arith, r.1, long))

-- numbers that were lent
lent_back : (n : ℕ) (new old : List ℕ) → length new ≡ length old → n ≡ length old → take n (new ++ drop (length new) old) ≡ new
lent_back n new old e f =
    ap (λ (xs : List ℕ). take n (new ++ xs)) (drop_all (length new) old (omega (arith, e)))
    ∙ (ap (λ (xs : List ℕ). take n xs) (append-nil new) ∙ take_all n new (omega (arith, e, f)))

pub insert-requires-clause-last : goal.insert-requires-clause-last
insert-requires-clause-last g c = omega (arith, c.requires.some, c.in_ok-found.ensures.most, c.cells-vertices.ensures.cells)

pub loop-round-init : goal.loop-round-init
loop-round-init g c =
    let space : List (List (List ℕ)) = g.G.Graded.space c.args.graded.now in
    let es : List ℕ = left_of c.args.flags.now in
    let n : c.cells-vertices.result ≡ count space 0 = c.cells-vertices.ensures.cells in (
      c.insert.ensures.most ∙ (c.in_ok-found.ensures.most ∙ n),
      subst (λ (xs : List ℕ). IsLevel space es 0 0 xs c.in_ok-numbers.numbers.items) (sym (c.in_ok-insert.ensures.found ∙ ap (λ (ns : List ℕ). inserted ns 1) c.in_ok-found.ensures.found))
          (level-begun space c.cells-vertices.ensures.valid es (edges_there c.args.flags.now (count space 1) c.requires.flags) c.in_ok-numbers.numbers.items c.requires.some
          (c.in_ok-numbers.ensures.items_if_clones_equal (λ y e. e) ∙ ap (λ (k : ℕ). replicate k k) n)),
    )

pub loop-round-preserved : goal.loop-round-preserved
loop-round-preserved g c =
    let space : List (List (List ℕ)) = g.G.Graded.space c.args.graded.now in
    let es : List ℕ = left_of c.args.flags.now in
    let round : ℕ = c.loop-round.round in
    let found : List ℕ = c.loop-round.found.found in
    let numbers : List ℕ = c.loop-round.numbers.items in
    let same : length c.visit_level.new.numbers ≡ length numbers = c.visit_level.ensures.len ∙ ap (λ (xs : List ℕ). length xs) c.deref_mut.ensures.value in
    let back : take c.loop-round.numbers.len (c.visit_level.new.numbers ++ drop (length c.visit_level.new.numbers) numbers) ≡ c.visit_level.new.numbers =
    lent_back c.loop-round.numbers.len c.visit_level.new.numbers numbers same (omega (arith, c.loop-round.numbers.ok.0)) in
    let next : IsLevel space es (suc round) (length found) c.visit_level.new.found.found c.visit_level.new.numbers =
    level-next space c.cells-vertices.ensures.valid es (edges_there c.args.flags.now (count space 1) c.requires.flags) round c.loop-round.head found numbers c.visit_level.new.found.found c.visit_level.new.numbers
    c.loop-round.invariant.1 (omega (arith, c.loop-round-test.true, c.cells-vertices.ensures.cells)) c.in_ok-visit_level.ensures.found same
    (λ v a. c.in_ok-visit_level.ensures.numbers v a ∙ ap (λ (xs : List ℕ). cond (holds (drop c.loop-round.head found) v) round (at xs v)) c.deref_mut.ensures.value) in (
      c.visit_level.ensures.most ∙ c.loop-round.invariant.0,
      subst (λ (xs : List ℕ). IsLevel space es (round + 1) c.len-end.result c.visit_level.new.found.found xs) (sym back)
          (subst (λ (k : ℕ). IsLevel space es (round + 1) k c.visit_level.new.found.found c.visit_level.new.numbers) (sym c.len-end.ensures.len)
          (subst (λ (k : ℕ). IsLevel space es k (length found) c.visit_level.new.found.found c.visit_level.new.numbers) (let s : suc round ≡ round + 1 = omega arith in s) next)),
    )

pub returns : goal.returns
returns g c =
    let space : List (List (List ℕ)) = g.G.Graded.space c.args.graded.now in
    let es : List ℕ = left_of c.args.flags.now in
    let all : c.loop-round.round ≡ count space 0 = omega (arith, c.loop-round-test.false, c.loop-round.auto.round-end, c.cells-vertices.ensures.cells) in
    level-done space c.cells-vertices.ensures.valid es (edges_there c.args.flags.now (count space 1) c.requires.flags) c.loop-round.head c.loop-round.found.found c.loop-round.numbers.items
    (subst (λ (k : ℕ). IsLevel space es k c.loop-round.head c.loop-round.found.found c.loop-round.numbers.items) all c.loop-round.invariant.1)
