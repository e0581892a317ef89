-- Cofaces are the cells above.
use Rattle.std.proofs.Common.{◌≡◌, ◌≤◌, ◌+◌, ℕ, Bool, true, ◌&&◌, List, filter, sym, ◌∙◌, ap, subst, Contains}
use Rattle.std.proofs.lemmas.Bool.{and_parts}
use Rattle.std.proofs.lemmas.List.Kept.{IsStrictlyIncreasing-filter}
use Rattle.number_lists.specs.Words.{upto, holds}
use Rattle.face_poset.specs.Poset.{count, facets_of}
use Rattle.face_poset.specs.Laws.{CofacesAre}
use Rattle.number_lists.proofs.CallerLemmas.{increasing-upto, All-upto, holds-upto, holds-filter, Contains-holds, holds-Contains}

pub cofaces_are : (space : List (List (List ℕ))) (dim cell : ℕ) → CofacesAre space dim cell
cofaces_are space dim cell =
    let most : ℕ = count space (dim + 1) in
    let p : ℕ → Bool = λ n. holds (facets_of space (dim + 1) n) cell in
    record {
      rise = IsStrictlyIncreasing-filter p (upto most) (increasing-upto most);
      all = λ n. (
        (λ has.
            let both : (p n ≡ true) × (holds (upto most) n ≡ true) = and_parts (p n) (holds (upto most) n) (sym (holds-filter p (upto most) n) ∙ Contains-holds (filter p (upto most)) n has) in
            let at : Contains (upto most) n = holds-Contains (upto most) n both.1 in
            let w : (1 ≤ n) × (n ≤ most) = subst (λ (m : ℕ). (1 ≤ m) × (m ≤ most)) at.2 (All-upto most at.0 n at.1) in
            (w.0, w.1, holds-Contains (facets_of space (dim + 1) n) cell both.0)),
        (λ h. holds-Contains (filter p (upto most)) n
            (holds-filter p (upto most) n ∙ (ap (λ (b : Bool). b && holds (upto most) n) (Contains-holds (facets_of space (dim + 1) n) cell h.2) ∙ holds-upto most n h.0 h.1))),
      );
    }
