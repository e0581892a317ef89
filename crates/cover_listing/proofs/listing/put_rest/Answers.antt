use Rattle.std.proofs.Common.{◌++◌, ◌∙◌, [], ap, take, map, refl, append-nil}
use Rattle.std.specs.List.{flat_map}
use Rattle.hap_outside.proofs.CallerLemmas.{gathers_next, gathers_fail, gathers_break}
use Rattle.cover_search.specs.Searches.{Searching}
use Rattle.cover_listing.specs.Events.{Finds, Ends, rest_of_section, counts_of}
use Rattle.cover_listing.specs.Nths.{found}
use Rattle.cover_listing.proofs.Counting.{counts-front}
use Rattle.cover_listing.proofs.Telling.{told-end, gathers_same}
use Rattle.cover_listing.proofs.listing.put_rest.Goals as goal

pub returns-in_err-is_done-clause-bytes : goal.returns-in_err-is_done-clause-bytes
returns-in_err-is_done-clause-bytes g c =
    let s = c.args.search.now in
    let same = ap (λ n. found s.relations n s.position c.args.budget.now) (ap (λ (s : Searching). s.most) c.requires.fresh) in
    let text = g.T.Taker.text c.args.taker.now in
    gathers_fail _ _ _ _ (flat_map text (map (Finds s.relations.generators) (found s.relations s.most s.position c.args.budget.now)))
    (text (Ends (counts_of c.args.sheets (found s.relations c.args.sheets s.position c.args.budget.now))))
    (flat_map text (rest_of_section c.args.sheets s.relations.generators (found s.relations c.args.sheets s.position c.args.budget.now))) _ c.from_residual.result c.from_residual.ensures.0 c.in_err-is_done.ensures.bytes
    (told-end text c.args.sheets s.relations.generators _ _ (counts_of c.args.sheets (found s.relations c.args.sheets s.position c.args.budget.now)) same refl)

pub returns-in_err-end-clause-bytes : goal.returns-in_err-end-clause-bytes
returns-in_err-end-clause-bytes g c =
    let s = c.args.search.now in
    let same = ap (λ n. found s.relations n s.position c.args.budget.now) (ap (λ (s : Searching). s.most) c.requires.fresh) in
    let text = g.T.Taker.text c.args.taker.now in
    let numbers = ap (take c.args.sheets) c.in_ok-is_done.ensures.counts ∙ (counts-front c.args.sheets (found s.relations s.most s.position c.args.budget.now) c.requires.most ∙ ap (counts_of c.args.sheets) same) in
    gathers_break _ _ _ _ _ _ (flat_map text (map (Finds s.relations.generators) (found s.relations s.most s.position c.args.budget.now)))
    (text (Ends (take c.args.sheets c.put_tables.new.numbers))) []
    (flat_map text (rest_of_section c.args.sheets s.relations.generators (found s.relations c.args.sheets s.position c.args.budget.now))) _ _ c.from_residual-in_err-end.result c.in_ok-is_done.ensures.bytes c.from_residual-in_err-end.ensures.0 c.in_err-end.ensures.bytes
    (append-nil (flat_map text (map (Finds s.relations.generators) (found s.relations s.most s.position c.args.budget.now)) ++ text (Ends (take c.args.sheets c.put_tables.new.numbers)))
    ∙ told-end text c.args.sheets s.relations.generators _ _ (take c.args.sheets c.put_tables.new.numbers) same numbers)

pub returns-clause-bytes : goal.returns-clause-bytes
returns-clause-bytes g c =
    let s = c.args.search.now in
    let same = ap (λ n. found s.relations n s.position c.args.budget.now) (ap (λ (s : Searching). s.most) c.requires.fresh) in
    let text = g.T.Taker.text c.args.taker.now in
    let numbers = ap (take c.args.sheets) c.in_ok-is_done.ensures.counts ∙ (counts-front c.args.sheets (found s.relations s.most s.position c.args.budget.now) c.requires.most ∙ ap (counts_of c.args.sheets) same) in
    gathers_same _ _ _ _ _ _ _ _ refl
    (gathers_next _ _ _ _ _ _ (flat_map text (map (Finds s.relations.generators) (found s.relations s.most s.position c.args.budget.now)))
    (text (Ends (take c.args.sheets c.put_tables.new.numbers)))
    (flat_map text (rest_of_section c.args.sheets s.relations.generators (found s.relations c.args.sheets s.position c.args.budget.now))) _ _
    (told-end text c.args.sheets s.relations.generators _ _ (take c.args.sheets c.put_tables.new.numbers) same numbers) c.in_ok-is_done.ensures.bytes c.in_ok-end.ensures.bytes)
