use Rattle.std.proofs.Common.{◌≡◌, ℕ, List, Bool, false, not, get_or, Ok, Err, ap, sym, ◌∙◌}
use Rattle.std.proofs.lemmas.List.{get_or-map}
use Rattle.std.proofs.lemmas.List.Sorted.{searched}
use Rattle.face_poset.specs.Poset.{count}
use Rattle.cell_signs.proofs.Kept.{cell-In}
use Rattle.number_lists.proofs.CallerLemmas.{holds-In, In-at}
use Rattle.regular_check.specs.Cycle.{cycle}
use Rattle.cell_signs.specs.Along.{across, unlike, goes_back}
use Rattle.cell_signs.proofs.Placed.{rising_up, beside}
use Rattle.cell_signs.proofs.Signed.{across_in}
use Rattle.cell_signs.proofs.solids.cancelling_sign.Goals as goal

pub is_back-requires-in-Ok-clause-first : goal.is_back-requires-in-Ok-clause-first
is_back-requires-in-Ok-clause-first c = (cell-In (count c.args.regular.now 2) c.args.disks.now c.requires.disks c.args.disk (holds-In c.args.disks.now c.requires.disk)).0

pub returns-in-Ok : goal.returns-in-Ok
returns-in-Ok c = λ values e.
    let other : ℕ = across c.args.regular.now c.args.disks.now c.args.edge c.args.disk in
    let is : c.find_across-other.result ≡ other = c.find_across-other.ensures ∙ ap (λ (space : List (List (List ℕ))). across space c.args.disks.now c.args.edge c.args.disk) c.space.ensures.same in
    let s = searched c.args.disks.now c.find_across-other.result (Ok c.in-Ok.place) c.in-Ok.ensures.position (rising_up c.args.disks.now c.requires.disks.rises) in
    let value : get_or c.args.signs.now c.in-Ok.place false ≡ values other =
    ap (λ (bs : List Bool). get_or bs c.in-Ok.place false) e ∙ (get_or-map values c.args.disks.now c.in-Ok.place 0 false s.0 ∙ ap values (s.1 ∙ is)) in
    ap not
    (c.is_one.ensures
    ∙ (ap (λ (b : Bool). unlike b c.is_back-in-Ok.result)
    (c.is_one-both.ensures ∙ (ap (λ (b : Bool). unlike b c.is_back.result) value ∙ ap (unlike (values other)) (c.is_back.ensures ∙ ap (λ (d : ℕ). goes_back (cycle c.args.regular.now d) c.args.edge) is)))
    ∙ ap (unlike (unlike (values other) (goes_back (cycle c.args.regular.now other) c.args.edge))) c.is_back-in-Ok.ensures))

pub returns-in_default : goal.returns-in_default
returns-in_default c = λ values e.
    let is = c.find_across-other.ensures ∙ ap (λ (space : List (List (List ℕ))). across space c.args.disks.now c.args.edge c.args.disk) c.space.ensures.same in
    let s = searched c.args.disks.now c.find_across-other.result (Err c.in_default.field-0) c.in_default.ensures.position (rising_up c.args.disks.now c.requires.disks.rises) in
    let there = across_in c.args.regular.now c.args.disks.now c.requires.disks.rises c.requires.twice c.args.disk c.args.edge c.requires.disk c.requires.edge in
    let at = In-at (holds-In c.args.disks.now there) in
    absurd (beside c.args.disks.now c.find_across-other.result c.in_default.field-0 s.1 s.2 at.0 at.1 (at.2 ∙ sym is))
