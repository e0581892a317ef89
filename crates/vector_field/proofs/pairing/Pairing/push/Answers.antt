use Rattle.std.proofs.Common.{◌≤◌, ◌∷◌, ◌++◌, [], List, length, sym, subst, arith}
use Rattle.std.proofs.lemmas.List.{length_push}
use Rattle.face_poset.specs.declared.cells.Pair.{Pair}
use Rattle.vector_field.specs.Pairings.{IsNoted}
use Rattle.number_lists.proofs.CallerLemmas.{In-left, In-last, push-In}
use Rattle.vector_field.proofs.Noted.{noted-more}
use Rattle.vector_field.proofs.pairing.Pairing.push.Goals as goal

pub invariant_of-self-2 : goal.invariant_of-self-2
invariant_of-self-2 c =
    let ps : List Pair = c.self.inside.pairs.items in
    let p : Pair = c.args.pair in
    let few : length (ps ++ p ∷ []) ≤ 4294967295 = omega (arith, length_push ps p, c.if-len-ge4294967295.false, c.len.ensures) in
    subst (λ (qs : List Pair). IsNoted qs c.set.new.self c.set-2.new.self) (sym c.in_ok-push.ensures.items)
    (noted-more ps c.self.inside.uppers c.self.inside.lowers c.self.invariant p (ps ++ p ∷ []) c.set.new.self c.set-2.new.self c.requires.lower.0 c.requires.upper.0 few
    (λ q m. In-left (p ∷ []) m) (λ q m. push-In ps p m) (In-last ps p) c.set.ensures.counts c.set-2.ensures.counts c.set.ensures.put c.set-2.ensures.put)
