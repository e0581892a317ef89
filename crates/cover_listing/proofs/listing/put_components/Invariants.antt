use Rattle.std.proofs.Common.{◌≡◌, ◌≤◌, ◌++◌, List, ℕ, Ok}
use Rattle.std.specs.List.{flat_map}
use Rattle.std.specs.Vec.Iter.{into_iter_items}
use Rattle.hap_outside.specs.declared.source.Failed.{Failed}
use Rattle.hap_outside.specs.Gathers.{Gathers}
use Rattle.cover_listing.specs.Passes.{pass, pass_spent, relations_in_all, first_position}
use Rattle.cover_listing.proofs.Going.{IsLeft}
use Rattle.cover_listing.proofs.listing.put_components.Given as goal

abbrev pub invariant-components : goal.invariant-components
invariant-components g l = record {
  next : (goal.iterator-components g).can_next l.search-iterator;
  finite : (goal.iterator-components g).is_finite l.search-iterator;
  rest : IsLeft l.sheets l.budget l.until l.index l.component (into_iter_items l.search-iterator);
  spent : pass_spent l.sheets l.budget (first_position (into_iter_items l.search-iterator)) l.component (relations_in_all (into_iter_items l.search-iterator))
      ≡ pass_spent l.sheets l.initial.budget (first_position (into_iter_items l.initial.search-iterator)) l.initial.component (relations_in_all (into_iter_items l.initial.search-iterator));
  bytes : (done : List ℕ)
      × Gathers {T = Unit {0}} {E = Failed} (g.K.Sink.written l.initial.sink) (g.K.Sink.written l.sink) l.initial.held l.held done (Ok tt)
      × (done ++ flat_map (g.T.Taker.text l.taker) (pass l.sheets l.budget (first_position (into_iter_items l.search-iterator)) l.component (relations_in_all (into_iter_items l.search-iterator)))
      ≡ flat_map (g.T.Taker.text l.taker) (pass l.sheets l.initial.budget (first_position (into_iter_items l.initial.search-iterator)) l.initial.component (relations_in_all (into_iter_items l.initial.search-iterator))));
  still : g.K.Sink.faults l.sink ≡ g.K.Sink.faults l.initial.sink;
  units : l.budget ≤ l.initial.budget;
}
