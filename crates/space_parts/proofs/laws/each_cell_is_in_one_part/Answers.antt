use Rattle.std.proofs.Common.{ℕ, Bool, eqb, sym}
use Rattle.std.proofs.lemmas.Bool.{eqb-true, eq-eqb}
use Rattle.number_lists.specs.Words.{upto}
use Rattle.number_lists.proofs.CallerLemmas.{Contains-In, In-Contains, In-filter, filter-In, In-upto}
use Rattle.face_poset.specs.Poset.{count}
use Rattle.space_parts.specs.Parts.{component_at}
use Rattle.space_parts.proofs.Within.{component_in}
use Rattle.space_parts.proofs.laws.each_cell_is_in_one_part.Goals as goal

pub returns : goal.returns
returns c space dim cell hs low high =
    let w = component_in space hs c.components_are_numbered.ensures dim cell low high in
    let has : ℕ → ℕ → Bool = λ number x. eqb (component_at space dim x) number in
    record {
      first = w.0;
      last = w.1;
      only = λ number. (
        λ k. sym (eqb-true (component_at space dim cell) number (filter-In (has number) (upto (count space dim)) (Contains-In k))),
        λ e. In-Contains (In-filter (has number) (In-upto (count space dim) cell low high) (eq-eqb (component_at space dim cell) number (sym e))),
      );
    }
