use Rattle.std.proofs.Common.{ℕ, List, ap, sym, subst, Result, IfOk, IfErr}
use Rattle.gap_text.specs.Nest.{view}
use Rattle.facet_reader.specs.declared.fault.FacetFault.{FacetFault}
use Rattle.facet_reader.specs.Labels.{HasFault}
use Rattle.facet_reader.specs.Chains.{IsOrder}
use Rattle.facet_reader.proofs.OrderLemmas.{with-list}
use Rattle.facet_reader.proofs.orders.read_second.Goals as goal

pub returns-in-List-clause-order : goal.returns-in-List-clause-order
returns-in-List-clause-order c =
    subst (λ (r : Result (ℕ × List (ℕ × ℕ)) FacetFault). IfOk c.read_relations.result (λ order. IsOrder r order.points order.pairs))
    (sym (with-list c.args.points (view c.args.nest.now) c.in-List.place c.in-List.items (ap view c.in-List.is))) c.read_relations.ensures.order

pub returns-in-List-clause-fault : goal.returns-in-List-clause-fault
returns-in-List-clause-fault c =
    subst (λ (r : Result (ℕ × List (ℕ × ℕ)) FacetFault). IfErr c.read_relations.result (HasFault r))
    (sym (with-list c.args.points (view c.args.nest.now) c.in-List.place c.in-List.items (ap view c.in-List.is))) c.read_relations.ensures.fault
