use Rattle.std.proofs.Common.{◌≡◌, ◌<◌, ◌^◌, ◌+◌, ℕ, List, All, length, map, arith, subst, sym}
use Rattle.std.proofs.lemmas.List.{map-append, length-map}
use Rattle.small_field.specs.declared.sparse.Entry.{Entry}
use Rattle.small_field.proofs.Pushed.{sparse_pushed}
use Rattle.small_field.proofs.sparse.Sparse.push.Goals as goal

pub invariant_of-self-2 : goal.invariant_of-self-2
invariant_of-self-2 c =
    let pair : Entry → ℕ × ℕ = λ e. (e.position, e.value) in
    let old : List Entry = c.self.inside.entries.items in
    let long : length (map pair old) ≡ length old = length-map old pair in
    let room : length (map pair old) + 1 < 2 ^ 32 = omega arith in
    let above : All (λ e. e.0 < c.args.entry.position) (map pair old) = subst (All (λ e. e.0 < c.args.entry.position)) (sym c.self.view_is) c.requires.above in
    rw (c.in_ok-push.ensures.items, map-append)
    (sparse_pushed (map pair old) c.args.entry.position c.args.entry.value c.self.invariant above c.requires.nonzero room)
