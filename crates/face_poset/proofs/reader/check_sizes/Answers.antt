use Rattle.std.proofs.Common.{◌≡◌, ℕ, List, length, take, map, sum_by, sym, ◌∙◌, ap, arith}
use Rattle.std.proofs.lemmas.List.{length-map}
use Rattle.gap_text.specs.Value.{Value}
use Rattle.face_poset.specs.Tops.{inner, kept}
use Rattle.face_poset.proofs.LayerLemmas.{trimmed-le, trimmed-take, sized-many}
use Rattle.face_poset.proofs.reader.check_sizes.Goals as goal

-- the first layers are those that are kept
total : (tops : List Value) (n cells : ℕ) → n ≡ length (kept tops) → cells ≡ sum_by (λ cells. length cells) (take n (map inner tops)) → cells ≡ sum_by (λ cells. length cells) (kept tops)
total tops n cells e h = h ∙ (ap (λ (m : ℕ). sum_by (λ cells. length cells) (take m (map inner tops))) e ∙ ap (sum_by (λ cells. length cells)) (sym (trimmed-take (map inner tops))))

pub count_cells-requires : goal.count_cells-requires
count_cells-requires c = omega (arith, c.count_layers-layers.ensures, trimmed-le (map inner c.args.tops.now), length-map c.args.tops.now inner)

pub returns-then-count_cells-gt-MOST_CELLS-clause-fault : goal.returns-then-count_cells-gt-MOST_CELLS-clause-fault
returns-then-count_cells-gt-MOST_CELLS-clause-fault c =
    let n : c.count_layers-layers.result ≡ length (kept c.args.tops.now) = c.count_layers-layers.ensures in
    let sum : c.count_cells.result ≡ sum_by (λ cells. length cells) (kept c.args.tops.now) = total c.args.tops.now c.count_layers-layers.result c.count_cells.result n c.count_cells.ensures in
    sized-many c.args.tops.now (omega (arith, c.if-layers-eq0.false)) (omega (arith, c.if-layers-gt-MOST_LAYERS.false)) (omega (arith, c.if-count_cells-gt-MOST_CELLS.true))

pub returns-clause-sized : goal.returns-clause-sized
returns-clause-sized c =
    let n : c.count_layers-layers.result ≡ length (kept c.args.tops.now) = c.count_layers-layers.ensures in
    let sum : c.count_cells.result ≡ sum_by (λ cells. length cells) (kept c.args.tops.now) = total c.args.tops.now c.count_layers-layers.result c.count_cells.result n c.count_cells.ensures in
    record { some = omega (arith, c.if-layers-eq0.false); low = omega (arith, c.if-layers-gt-MOST_LAYERS.false); few = omega (arith, c.if-count_cells-gt-MOST_CELLS.false) }
