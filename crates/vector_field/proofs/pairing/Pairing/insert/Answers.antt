use Rattle.std.proofs.Common.{◌≤◌, ℕ, List, length, ap, sym, ◌∙◌, subst, arith}
use Rattle.std.proofs.lemmas.Result.{on_ok_weaker}
use Rattle.number_lists.specs.Members.{In}
use Rattle.face_poset.specs.declared.cells.Pair.{Pair}
use Rattle.vector_field.specs.Pairs.{Field}
use Rattle.vector_field.specs.Pairings.{IsNoted, inserted}
use Rattle.vector_field.proofs.Noted.{noted-more}
use Rattle.vector_field.proofs.Inserted.{inserted-kept, inserted-new, inserted-only, length-inserted, inserted_alone}
use Rattle.vector_field.proofs.pairing.Pairing.insert.Goals as goal

pub inserted-requires : goal.inserted-requires
inserted-requires c p m d =
    c.requires.lowers p (subst (λ (ps : List Pair). In p ps) (c.deref.ensures.value ∙ ap (λ (f : Field). f.pairs) c.self.view_is) m) d

pub invariant_of-self : goal.invariant_of-self
invariant_of-self c =
    let ps : List Pair = c.self.inside.pairs.items in
    let p : Pair = c.args.pair in
    let found : List ℕ = c.args.found.now.found in
    let few : length (inserted ps p found) ≤ 4294967295 = omega (arith, length-inserted ps p found, c.if-len-ge4294967295.false, c.len-2.ensures) in
    subst (λ (qs : List Pair). IsNoted qs c.set.new.self c.set-2.new.self) (sym (c.in_ok-pairs.ensures ∙ ap (λ (qs : List Pair). inserted qs p found) c.deref.ensures.value))
    (noted-more ps c.self.inside.uppers c.self.inside.lowers c.self.invariant p (inserted ps p found) c.set.new.self c.set-2.new.self c.requires.cells.lower.0 c.requires.cells.upper.0 few
    (λ q m. inserted-kept ps p found m) (λ q m. inserted-only ps p found m) (inserted-new ps p found) c.set.ensures.counts c.set-2.ensures.counts c.set.ensures.put c.set-2.ensures.put)

pub returns-then-len-eq1-clause-pairs : goal.returns-then-len-eq1-clause-pairs
returns-then-len-eq1-clause-pairs c =
    on_ok_weaker c.push.result
    (λ e. e ∙ sym (inserted_alone c.args.self.now.pairs c.args.pair c.args.found.now.found (sym c.len.ensures.len ∙ c.if-len-eq1.true) c.requires.found c.requires.unused))
    c.push.ensures.pairs
