use Rattle.std.proofs.Common.{◌≡◌, ℕ, ◌<◌, ◌≤◌, List, true, Option, Some, IfSome, ap, sym, ◌∙◌, subst, arith}
use Rattle.std.proofs.lemmas.Result.{on_ok_weaker}
use Rattle.number_lists.specs.Members.{In}
use Rattle.face_poset.specs.declared.cells.Pair.{Pair}
use Rattle.number_lists.specs.Words.{holds}
use Rattle.face_poset.specs.Poset.{count, cofaces_of}
use Rattle.vector_field.specs.Pairs.{pair, Field, IsFieldOf}
use Rattle.vector_field.specs.Pairings.{HasCells, inserted}
use Rattle.vector_field.specs.Paths.{arrived}
use Rattle.vector_field.specs.Maximal.{is_settled}
use Rattle.vector_field.specs.Searches.{IsLed}
use Rattle.vector_field.specs.Stages.{first_open, put_open}
use Rattle.vector_field.proofs.Paths.{leads-complete}
use Rattle.vector_field.proofs.Valid.{lined-from}
use Rattle.vector_field.proofs.MaximalTest.{Incident, incident-true, incident-coface}
use Rattle.vector_field.proofs.Fields.{pairing-from, field-cells}
use Rattle.vector_field.proofs.FirstOpen.{failing}
use Rattle.vector_field.proofs.Filled.{found-put}
use Rattle.vector_field.proofs.filling.add_pair.Goals as goal

pub open_coface-requires-clause-field : goal.open_coface-requires-clause-field
open_coface-requires-clause-field g c = pairing-from (g.G.Graded.space c.args.graded.now) c.args.pairing.now c.requires.field

module _ (space : List (List (List ℕ))) (dim lower upper : ℕ) (field : Field) (found : List ℕ) (low : dim < 3) (first : 1 ≤ lower) (last : lower ≤ count space dim) (h : IsFieldOf space field) (o : Option ℕ)
    (is : o ≡ Some upper) (first_is : o ≡ first_open space field.pairs dim lower) (led : IfSome o (λ _. IsLed space field.pairs dim lower found)) where
  new_incident : Incident space (pair dim lower upper)
  new_incident = incident-coface space dim lower upper low first last (failing (is_settled space field.pairs dim lower) (cofaces_of space dim lower) upper (sym first_is ∙ is)).0

  new_cells : HasCells field.counts (pair dim lower upper)
  new_cells = field-cells space field (pair dim lower upper) h new_incident

  led_there : IsLed space field.pairs dim lower found
  led_there = subst (λ (p : Option ℕ). IfSome p (λ _. IsLed space field.pairs dim lower found)) is led

  lower_found : holds found lower ≡ true
  lower_found = led_there lower ∙ leads-complete space field.pairs dim lower lower arrived

  lowers_there : (most : ℕ) → most ≡ count space dim → (p : Pair) → In p field.pairs → p.dim ≡ dim → (1 ≤ p.lower) × (p.lower ≤ most)
  lowers_there most e p m d =
      let i : Incident space p = incident-true space p ((lined-from space field.pairs h.valid).incident p m) in
      (i.first, omega (arith, e, subst (λ (n : ℕ). p.lower ≤ count space n) d i.last))

  pairs_are : (new : List Pair) → new ≡ inserted field.pairs (pair dim lower upper) found → new ≡ put_open space dim field.pairs lower (first_open space field.pairs dim lower)
  pairs_are new e = e ∙ (found-put space field.pairs dim lower upper found led_there ∙ ap (put_open space dim field.pairs lower) (sym is ∙ first_is))

pub insert-requires-clause-cells : goal.insert-requires-clause-cells
insert-requires-clause-cells g c =
    new_cells (g.G.Graded.space c.args.graded.now) c.args.dim c.args.lower c.in-Some.upper c.args.pairing.now c.open_coface.new.found.found c.requires.dim c.requires.first c.requires.last c.requires.field c.in_ok-upper.field-0 c.in-Some.is
    c.in_ok-upper.ensures.coface c.in_ok-upper.ensures.led

pub insert-requires-clause-lowers : goal.insert-requires-clause-lowers
insert-requires-clause-lowers g c =
    lowers_there (g.G.Graded.space c.args.graded.now) c.args.dim c.args.lower c.in-Some.upper c.args.pairing.now c.open_coface.new.found.found c.requires.dim c.requires.first c.requires.last c.requires.field c.in_ok-upper.field-0 c.in-Some.is
    c.in_ok-upper.ensures.coface c.in_ok-upper.ensures.led c.open_coface.new.found.most (c.open_coface.ensures.most ∙ c.requires.most)

pub insert-requires-clause-found : goal.insert-requires-clause-found
insert-requires-clause-found g c =
    lower_found (g.G.Graded.space c.args.graded.now) c.args.dim c.args.lower c.in-Some.upper c.args.pairing.now c.open_coface.new.found.found c.requires.dim c.requires.first c.requires.last c.requires.field c.in_ok-upper.field-0 c.in-Some.is
    c.in_ok-upper.ensures.coface c.in_ok-upper.ensures.led

pub returns-in-Some-clause-pairs : goal.returns-in-Some-clause-pairs
returns-in-Some-clause-pairs g c =
    on_ok_weaker c.insert.result
    (λ e. pairs_are (g.G.Graded.space c.args.graded.now) c.args.dim c.args.lower c.in-Some.upper c.args.pairing.now c.open_coface.new.found.found c.requires.dim c.requires.first c.requires.last c.requires.field c.in_ok-upper.field-0 c.in-Some.is
    c.in_ok-upper.ensures.coface c.in_ok-upper.ensures.led c.insert.new.self.pairs e)
    c.insert.ensures.pairs

pub returns-in-None-clause-pairs : goal.returns-in-None-clause-pairs
returns-in-None-clause-pairs g c =
    let space : List (List (List ℕ)) = g.G.Graded.space c.args.graded.now in
    ap (put_open space c.args.dim c.args.pairing.now.pairs c.args.lower) (sym c.in-None.is ∙ c.in_ok-upper.ensures.coface)
