use Rattle.std.proofs.Common.{◌≡◌, ◌+◌, ◌*◌, ◌/◌, ◌%◌, ◌++◌, ◌∷◌, [], ℕ, List, Bool, ap, sym, ◌∙◌, arith}
use Rattle.std.proofs.lemmas.List.FromFn.{map-range_with_len_more}
use Rattle.permutahedral_arrays.specs.Places.{mark_at, mark_of}
use Rattle.permutahedral_arrays.proofs.marks.list_marks.Goals as goal

-- the mark of the next place
next_mark : (planes rows columns slab row : ℕ) (bits : List Bool) (place : ℕ) (mark : Bool) → slab ≡ (rows + 2) * (columns + 2) → row ≡ columns + 2
    → mark ≡ mark_at planes rows columns bits (place / slab) (place % slab / row) (place % row) → mark ≡ mark_of planes rows columns bits place
next_mark planes rows columns slab row bits place mark s r e =
    e ∙ (ap (λ (n : ℕ). mark_at planes rows columns bits (place / n) (place % n / row) (place % row)) s
    ∙ ap (λ (n : ℕ). mark_at planes rows columns bits (place / ((rows + 2) * (columns + 2))) (place % ((rows + 2) * (columns + 2)) / n) (place % n)) r)

pub loop-place-preserved : goal.loop-place-preserved
loop-place-preserved c =
    let g = c.args.grid.now in
    let f : ℕ → Bool = mark_of g.planes g.rows g.columns c.args.bits.now in
    let place : ℕ = c.loop-place.place in
    c.in_ok-push.ensures.items
    ∙ (ap (λ (b : Bool). c.loop-place.marks.items ++ b ∷ []) (next_mark g.planes g.rows g.columns c.args.slab c.args.row c.args.bits.now place c.mark_at.result c.requires.slab c.requires.row c.mark_at.ensures)
    ∙ (ap (λ (bs : List Bool). bs ++ f place ∷ []) c.loop-place.invariant
    ∙ sym (map-range_with_len_more f 0 place place (omega arith))))
