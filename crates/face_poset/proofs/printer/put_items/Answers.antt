use Rattle.std.proofs.Common.{◌≡◌, ◌<◌, ◌++◌, [], ℕ, List, drop, get_or, ◌+◌, ap, ◌∙◌, arith, length}
use Rattle.std.proofs.lemmas.List.{get_or_default}
use Rattle.face_poset.specs.Poset.{layer}
use Rattle.face_poset.specs.Text.{layer_text, layer_texts, commas, lead}
use Rattle.hap_outside.proofs.CallerLemmas.{gathers_next, gathers_break}
use Rattle.face_poset.proofs.TextLemmas.{tails, layers-more, layers-split}
use Rattle.face_poset.proofs.printer.put_items.Goals as goal

-- the text of one layer with its lead
piece : (space : List (List (List ℕ))) (i : ℕ) (before : List ℕ) (cells : List (List ℕ)) → length space ≡ 4 → i < 4 → before ≡ lead i → before ++ layer_text i (get_or space i cells) ≡ lead i ++ layer_text i (layer space i)
piece space i before cells four l e =
    ap (λ (xs : List ℕ). xs ++ layer_text i (get_or space i cells)) e ∙ ap (λ (cs : List (List ℕ)). lead i ++ layer_text i cs) (get_or_default space i cells [] (omega arith))

pub returns-in_err-put_layer-clause-bytes : goal.returns-in_err-put_layer-clause-bytes
returns-in_err-put_layer-clause-bytes g c =
    let i : ℕ = c.loop-dim.dim in
    let n : ℕ = c.args.dimension + 1 in
    let space : List (List (List ℕ)) = c.args.layers.now in
    let rest : List ℕ = tails (drop (i + 1) (layer_texts space n)) in
    let lt : i < n = c.loop-dim-test.true in
    gathers_break _ _ _ _ _ _ (commas (layer_texts space i)) (c.lead_at.result.now ++ layer_text i (get_or space i c.index-layers-dim.result)) rest (commas (layer_texts space n)) _ _ c.from_residual.result
    c.loop-dim.invariant.bytes c.from_residual.ensures.0 c.in_err-put_layer.ensures.bytes
    (ap (λ (xs : List ℕ). commas (layer_texts space i) ++ xs ++ rest) (piece space i c.lead_at.result.now c.index-layers-dim.result c.type_inv.layers (omega (arith, c.requires)) c.lead_at.ensures)
    ∙ layers-split space n i lt)

pub loop-dim-preserved : goal.loop-dim-preserved
loop-dim-preserved g c =
    let i : ℕ = c.loop-dim.dim in
    let n : ℕ = c.args.dimension + 1 in
    let space : List (List (List ℕ)) = c.args.layers.now in
    let lt : i < n = c.loop-dim-test.true in
    let more : commas (layer_texts space i) ++ (c.lead_at.result.now ++ layer_text i (get_or space i c.index-layers-dim.result)) ≡ commas (layer_texts space (i + 1)) =
    ap (λ (xs : List ℕ). commas (layer_texts space i) ++ xs) (piece space i c.lead_at.result.now c.index-layers-dim.result c.type_inv.layers (omega (arith, c.requires)) c.lead_at.ensures)
    ∙ layers-more space n i lt in
    record {
      bytes = gathers_next _ _ _ _ _ _ _ _ _ _ _ more c.loop-dim.invariant.bytes c.in_ok-put_layer.ensures.bytes;
      still = c.in_ok-put_layer.ensures.cause.kept ∙ c.loop-dim.invariant.still;
    }
