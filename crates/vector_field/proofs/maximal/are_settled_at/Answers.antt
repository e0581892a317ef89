use Rattle.std.proofs.Common.{◌≡◌, ℕ, ◌+◌, ◌<◌, ◌≤◌, List, Bool, true, false, length, get_or, take, Option, Some, None, ap, sym, ◌∙◌, subst, arith}
use Rattle.std.specs.List.{list_all}
use Rattle.std.proofs.lemmas.Bool.{false_from_ne_true, and_from}
use Rattle.std.proofs.lemmas.Option.{none-some}
use Rattle.std.proofs.lemmas.List.{take_all}
use Rattle.std.proofs.lemmas.List.Folds.{list_all_more}
use Rattle.face_poset.specs.declared.cells.Pair.{Pair}
use Rattle.face_poset.specs.Poset.{count, cofaces_of}
use Rattle.vector_field.specs.Pairs.{Field, IsFieldOf, unpaired, critical_of}
use Rattle.vector_field.specs.Pairings.{IsPairing}
use Rattle.vector_field.specs.Maximal.{is_settled, is_maximal_at}
use Rattle.vector_field.specs.Stages.{first_open}
use Rattle.number_lists.specs.Members.{In}
use Rattle.number_lists.proofs.CallerLemmas.{at-In, all-In}
use Rattle.vector_field.proofs.Fields.{pairing-from, critical-is, critical_at}
use Rattle.vector_field.proofs.FirstOpen.{none_fails, all_pass}
use Rattle.vector_field.proofs.maximal.are_settled_at.Goals as goal

pub open_coface-requires-clause-first : goal.open_coface-requires-clause-first
open_coface-requires-clause-first g c = (critical_at (g.G.Graded.space c.args.graded.now) c.args.field.now c.args.dim c.critical-lowers.result.now c.loop-lower.lower-index c.requires.field (omega (arith, c.requires.dim)) c.critical-lowers.ensures.cells c.loop-lower-test.true).0

pub open_coface-requires-clause-last : goal.open_coface-requires-clause-last
open_coface-requires-clause-last g c = (critical_at (g.G.Graded.space c.args.graded.now) c.args.field.now c.args.dim c.critical-lowers.result.now c.loop-lower.lower-index c.requires.field (omega (arith, c.requires.dim)) c.critical-lowers.ensures.cells c.loop-lower-test.true).1

pub open_coface-requires-clause-field : goal.open_coface-requires-clause-field
open_coface-requires-clause-field g c = subst (IsPairing (g.G.Graded.space c.args.graded.now)) (sym c.pairing.ensures) (pairing-from (g.G.Graded.space c.args.graded.now) c.args.field.now c.requires.field)

abbrev row : List (List (List ℕ)) → List Pair → (dim lower : ℕ) → Bool
row space pairs dim lower = list_all (is_settled space pairs dim lower) (cofaces_of space dim lower)

-- an open coface
open_at : (space : List (List (List ℕ))) (field : Field) (dim : ℕ) (lowers : List ℕ) (i upper : ℕ) → IsFieldOf space field → dim ≤ 3 → lowers ≡ critical_of field dim → i < length lowers → first_open space field.pairs dim (get_or lowers i 0) ≡ Some upper
    → false ≡ is_maximal_at space field.pairs dim
open_at space field dim lowers i upper h l e lt o =
    sym (false_from_ne_true (is_maximal_at space field.pairs dim)
    (λ k.
    let m : In (get_or lowers i 0) (unpaired field.pairs dim (count space dim)) = subst (λ (xs : List ℕ). In (get_or lowers i 0) xs) (e ∙ critical-is space field dim h l) (at-In lowers i 0 lt) in
    let all : row space field.pairs dim (get_or lowers i 0) ≡ true = all-In (row space field.pairs dim) k m in
    none-some upper (sym (none_fails (is_settled space field.pairs dim (get_or lowers i 0)) (cofaces_of space dim (get_or lowers i 0)) all) ∙ o)))

-- what the call answers, of the pairs of the field
module _ (space : List (List (List ℕ))) (field pairing : Field) (same : pairing ≡ field) (dim lower : ℕ) (o : Option ℕ) (h : o ≡ first_open space pairing.pairs dim lower) where
  answer : first_open space field.pairs dim lower ≡ o
  answer = sym (h ∙ ap (λ (f : Field). first_open space f.pairs dim lower) same)

  when_none : o ≡ None → row space field.pairs dim lower ≡ true
  when_none e = all_pass (is_settled space field.pairs dim lower) (cofaces_of space dim lower) (answer ∙ e)

pub returns-in-Some : goal.returns-in-Some
returns-in-Some g c =
    let space : List (List (List ℕ)) = g.G.Graded.space c.args.graded.now in
    let lowers : List ℕ = c.critical-lowers.result.now in
    open_at space c.args.field.now c.args.dim lowers c.loop-lower.lower-index c.in-Some.field-0 c.requires.field (omega (arith, c.requires.dim)) c.critical-lowers.ensures.cells c.loop-lower-test.true
    (answer space c.args.field.now c.pairing.result.now c.pairing.ensures c.args.dim (get_or lowers c.loop-lower.lower-index 0) c.in_ok-open_coface.field-0 c.in_ok-open_coface.ensures.coface ∙ c.in-Some.is)

-- one cell more is settled
one_more : (p : ℕ → Bool) (xs : List ℕ) (i : ℕ) → i < length xs → list_all p (take i xs) ≡ true → p (get_or xs i 0) ≡ true → list_all p (take (i + 1) xs) ≡ true
one_more p xs i l h e = list_all_more p xs i 0 l ∙ and_from (list_all p (take i xs)) (p (get_or xs i 0)) h e

pub loop-lower-preserved : goal.loop-lower-preserved
loop-lower-preserved g c =
    let space : List (List (List ℕ)) = g.G.Graded.space c.args.graded.now in
    let lowers : List ℕ = c.critical-lowers.result.now in (
      c.open_coface.ensures.most ∙ c.loop-lower.invariant.0,
      one_more (row space c.args.field.now.pairs c.args.dim) lowers c.loop-lower.lower-index c.loop-lower-test.true c.loop-lower.invariant.1
          (when_none space c.args.field.now c.pairing.result.now c.pairing.ensures c.args.dim (get_or lowers c.loop-lower.lower-index 0) c.in_ok-open_coface.field-0 c.in_ok-open_coface.ensures.coface c.in-None.is),
    )

all_settled : (space : List (List (List ℕ))) (field : Field) (dim i : ℕ) (lowers : List ℕ) → IsFieldOf space field → dim ≤ 3 → lowers ≡ critical_of field dim → length lowers ≤ i → list_all (row space field.pairs dim) (take i lowers) ≡ true → true ≡ is_maximal_at space field.pairs dim
all_settled space field dim i lowers h l e le k =
    sym (subst (λ (xs : List ℕ). list_all (row space field.pairs dim) xs ≡ true) (take_all i lowers le ∙ (e ∙ critical-is space field dim h l)) k)

pub returns : goal.returns
returns g c =
    all_settled (g.G.Graded.space c.args.graded.now) c.args.field.now c.args.dim c.loop-lower.lower-index c.critical-lowers.result.now c.requires.field (omega (arith, c.requires.dim)) c.critical-lowers.ensures.cells (omega (arith, c.loop-lower-test.false)) c.loop-lower.invariant.1
