use Rattle.std.proofs.Common.{◌≡◌, ◌≢◌, ◌<◌, ◌≤◌, ◌+◌, ◌-◌, ◌/◌, ℕ, List, [], length, get_or, sym, ◌∙◌, subst, arith, rules}
use Rattle.std.specs.declared.cmp.Ordering.TheVariants.{Less, Equal, Greater}
use native.Mathlib.Decide.{dec_lt}
use Prim.{yes, no}
use Rattle.order_complex.specs.Order.{Before, IsOrdered}
use Rattle.order_complex.proofs.Ordered.{ordered-at, before-self}
use Rattle.order_complex.proofs.Compare.{before-trans, compared}
use Rattle.order_complex.proofs.searching.find_chain.Invariants.{Narrowed}
use Rattle.order_complex.proofs.searching.find_chain.Goals as goal

go_right : (chains : List (List ℕ)) (ids : List ℕ) (low high middle : ℕ) → IsOrdered chains → Narrowed chains ids low high → middle < high → Before (get_or chains middle []) ids → Narrowed chains ids (middle + 1) high
go_right chains ids low high middle o n lt b = record {
  within = n.within;
  left = λ i l. elim (dec_lt i middle) [
    | yes a ↦ before-trans (get_or chains i []) (get_or chains middle []) ids (ordered-at chains i middle o a (omega (arith, n.within))) b
    | no a ↦ let same : middle ≡ i = omega arith in subst (λ j. Before (get_or chains j []) ids) same b
  ];
  right = n.right;
}

go_left : (chains : List (List ℕ)) (ids : List ℕ) (low high middle : ℕ) → IsOrdered chains → Narrowed chains ids low high → middle < high → Before ids (get_or chains middle []) → Narrowed chains ids low middle
go_left chains ids low high middle o n lt b = record {
  within = omega (arith, n.within);
  left = n.left;
  right = λ i l m. elim (dec_lt middle i) [
    | yes a ↦ before-trans ids (get_or chains middle []) (get_or chains i []) b (ordered-at chains middle i o a m)
    | no a ↦ let same : middle ≡ i = omega arith in subst (λ j. Before ids (get_or chains j [])) same b
  ];
}

nowhere : (chains : List (List ℕ)) (ids : List ℕ) (low high : ℕ) → Narrowed chains ids low high → high ≤ low → (i : ℕ) → i < length chains → get_or chains i [] ≢ ids
nowhere chains ids low high n le i l e =
    elim (dec_lt i low) [
      | yes a ↦ before-self ids (subst (λ x. Before x ids) e (n.left i a))
      | no a ↦ before-self ids (subst (λ x. Before ids x) e (n.right i (omega arith) l))
    ]

pub halves-preserved-in-Less : goal.halves-preserved-in-Less
halves-preserved-in-Less c =
    go_right (get_or c.args.chains.now c.args.degree []) c.args.ids.now c.halves.low c.halves.high (c.halves.low + (c.halves.high - c.halves.low) / 2) c.requires.ordered c.halves.invariant (search rules)
    (subst (λ x. Before x c.args.ids.now) c.get.ensures (compared c.get.result.now c.args.ids.now Less c.in-Less.ensures))

pub halves-preserved : goal.halves-preserved
halves-preserved c =
    go_left (get_or c.args.chains.now c.args.degree []) c.args.ids.now c.halves.low c.halves.high (c.halves.low + (c.halves.high - c.halves.low) / 2) c.requires.ordered c.halves.invariant (search rules)
    (subst (λ x. Before c.args.ids.now x) c.get.ensures (compared c.get.result.now c.args.ids.now Greater c.in-Greater.ensures))

pub returns-in-Equal-clause-found : goal.returns-in-Equal-clause-found
returns-in-Equal-clause-found c = sym c.get.ensures ∙ compared c.get.result.now c.args.ids.now Equal c.in-Equal.ensures

pub returns-clause-none : goal.returns-clause-none
returns-clause-none c = λ e. nowhere (get_or c.args.chains.now c.args.degree []) c.args.ids.now c.halves.low c.halves.high c.halves.invariant (search rules)
