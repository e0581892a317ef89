use Rattle.std.proofs.Common.{ℕ, List}
use Rattle.number_lists.proofs.CallerLemmas.{Contains-In, In-Contains}
use Rattle.face_poset.specs.declared.cells.Cell.{Cell}
use Rattle.sphere_collapses.specs.Laws.{IsClosedList}
use Rattle.sphere_collapses.proofs.Sections.{IsThere, DoClose, sections, closed-walk}
use Rattle.sphere_collapses.proofs.laws.collapsed_walks_close.Goals as goal

is_there : (space : List (List (List ℕ))) (rest : List Cell) → IsClosedList space rest → IsThere space rest
is_there space rest h = record { there = λ d n i. h.there d n (In-Contains i); facets = λ d n k i j. Contains-In (h.facets d n k (In-Contains i) (In-Contains j)) }

pub returns : goal.returns
returns c space rest pairs f g is hs regular closed e inv rounds =
    let law = c.cycles_go_round.ensures in
    let there : IsThere space rest = is_there space rest closed in
    let closes : DoClose space hs regular law f g is inv rest = record { walks = λ n x i s. rounds n x (In-Contains i) s } in
    record {
      sections = λ v x i s. (let t = sections space hs regular law f g is inv pairs rest there closes e v x (Contains-In i) s in record { over = t.0; here = t.1.here_is; sheet = t.1.sheet; flat = λ n j. t.1.flat n (Contains-In j) });
      closes = λ v x steps i s chain inside. (let t = sections space hs regular law f g is inv pairs rest there closes e v x (Contains-In i) s in closed-walk space hs regular law f g is inv rest v x t.0 steps t.1 chain (λ u j. Contains-In (inside u (In-Contains j))));
    }
