use Rattle.std.proofs.Common.{◌≡◌, ◌+◌, ◌++◌, ◌∷◌, [], ℕ, List, set, replicate, true, Result, Ok, Err, OnOk, is_ok, ap, sym, ◌∙◌}
use Rattle.std.proofs.lemmas.Bool.{false≢true}
use Rattle.std.proofs.lemmas.List.{replicate_more}
use Rattle.face_poset.specs.Poset.{Layers, layer}
use Rattle.face_poset.specs.declared.builder.BuildFault.{BuildFault}
use Rattle.number_lists.proofs.CallerLemmas.{upto_more}
use Rattle.facet_reader.proofs.cells.add_vertices.Goals as goal

kept : {P : Type 0} (r : Result ℕ BuildFault) → OnOk r P → is_ok r ≡ true → P
kept (Ok n) h e = h
kept (Err f) h e = absurd (false≢true e)

one_more : (i : ℕ) (old new : Layers) → old ≡ replicate i [] ∷ [] ∷ [] ∷ [] ∷ [] → new ≡ set old 0 (layer old 0 ++ [] ∷ []) → new ≡ replicate (i + 1) [] ∷ [] ∷ [] ∷ [] ∷ []
one_more i old new e h =
    h ∙ (ap (λ (b : Layers). set b 0 (layer b 0 ++ [] ∷ [])) e ∙ ap (λ (l : List (List ℕ)). l ∷ [] ∷ [] ∷ [] ∷ []) (replicate_more i []))

pub loop-index-preserved : goal.loop-index-preserved
loop-index-preserved c =
    record {
      builder = one_more c.loop-index.index c.loop-index.builder c.add.new.self c.loop-index.invariant.builder (kept c.add.result c.add.ensures.added (sym c.map_err.ensures.variant ∙ ap is_ok c.in_ok-map_err.was));
      points = c.in_ok-push.ensures.items ∙ (ap (λ (xs : List ℕ). xs ++ (c.loop-index.index + 1) ∷ []) c.loop-index.invariant.points ∙ sym (upto_more c.loop-index.index));
    }
