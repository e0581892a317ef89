use Rattle.std.proofs.Common.{◌≡◌, ℕ, List, ◌++◌, sym, ◌∙◌, ap, subst}
use Rattle.std.proofs.lemmas.List.{append_assoc}
use Rattle.std.proofs.lemmas.Result.{IfOk-weaker}
use Rattle.face_poset.specs.declared.cells.Pair.{Pair}
use Rattle.face_poset.specs.Poset.{IsSpace}
use Rattle.regular_check.specs.Rules.{IsRegular}
use Rattle.regular_check.specs.Components.{component_count}
use Rattle.vector_field.specs.Pairs.{Field, IsFieldOf, IsValid}
use Rattle.vector_field.specs.Maximal.{IsGood}
use Rattle.chosen_field.specs.Chosen.{high, tree, listed, chosen}
use Rattle.chosen_field.specs.Laws.{IsConnected}
use Rattle.chosen_field.proofs.field.tree_field.Goals as goal

-- the three parts, as they are handed on
whole : (space : List (List (List ℕ))) (pairs vertices edges disks given_edges given_disks two three end : List Pair) → pairs ≡ high space → vertices ≡ listed space (tree space) 0 → edges ≡ listed space pairs 1 → disks ≡ listed space pairs 2
    → given_edges ≡ edges → given_disks ≡ disks → two ≡ vertices ++ given_edges → three ≡ two ++ given_disks → end ≡ three → end ≡ chosen space
whole space pairs vertices edges disks given_edges given_disks two three end h v e d ge gd t2 t3 l =
    let edge_is : given_edges ≡ listed space (high space) 1 = ge ∙ (e ∙ ap (λ (ps : List Pair). listed space ps 1) h) in
    let disk_is : given_disks ≡ listed space (high space) 2 = gd ∙ (d ∙ ap (λ (ps : List Pair). listed space ps 2) h) in
    l
    ∙ (t3
    ∙ (ap (λ (ps : List Pair). ps ++ given_disks) (t2 ∙ (ap (λ (ps : List Pair). ps ++ given_edges) v ∙ ap (λ (ps : List Pair). listed space (tree space) 0 ++ ps) edge_is))
    ∙ (ap (λ (ps : List Pair). (listed space (tree space) 0 ++ listed space (high space) 1) ++ ps) disk_is ∙ append_assoc (listed space (tree space) 0) (listed space (high space) 1) (listed space (high space) 2))))

-- the space that is handed on is the same
connected : (space given : List (List (List ℕ))) → given ≡ space → IsSpace given → IsRegular space → component_count space ≡ 1 → IsConnected given
connected space given e v r one = record { valid = v; regular = subst IsRegular (sym e) r; one = subst (λ (s : List (List (List ℕ))). component_count s ≡ 1) (sym e) one }

pub field_of-requires : goal.field_of-requires
field_of-requires c =
    let space : List (List (List ℕ)) = c.space-space.result.now in
    subst (IsValid space)
    (sym (whole space c.in_ok-high.high.pairs c.in_ok-pairs.pairs.items c.in_ok-edges.edges.items c.in_ok-disks.disks.items c.deref.result.now c.deref-2.result.now c.extend_from_slice.new.self.items c.extend_from_slice-2.new.self.items
    c.deref-3.result.now c.in_ok-high.ensures.pairs c.in_ok-pairs.ensures c.in_ok-edges.ensures c.in_ok-disks.ensures c.deref.ensures.value c.deref-2.ensures.value c.in_ok-extend_from_slice.ensures.items
    c.in_ok-extend_from_slice-2.ensures.items c.deref-3.ensures.value))
    (c.chosen_is_good.ensures space (connected c.args.regular.now space c.space-space.ensures.same c.cells-vertices.ensures.valid c.space-space.ensures.regular c.requires)).valid

pub returns-clause-pairs : goal.returns-clause-pairs
returns-clause-pairs c =
    let space : List (List (List ℕ)) = c.space-space.result.now in
    IfOk-weaker c.field_of.result (λ (f : Field). f.pairs ≡ c.deref-3.result.now) (λ (f : Field). f.pairs ≡ chosen c.args.regular.now)
    (λ f e. e
    ∙ (whole space c.in_ok-high.high.pairs c.in_ok-pairs.pairs.items c.in_ok-edges.edges.items c.in_ok-disks.disks.items c.deref.result.now c.deref-2.result.now c.extend_from_slice.new.self.items c.extend_from_slice-2.new.self.items
    c.deref-3.result.now c.in_ok-high.ensures.pairs c.in_ok-pairs.ensures c.in_ok-edges.ensures c.in_ok-disks.ensures c.deref.ensures.value c.deref-2.ensures.value c.in_ok-extend_from_slice.ensures.items
    c.in_ok-extend_from_slice-2.ensures.items c.deref-3.ensures.value
    ∙ ap (λ (s : List (List (List ℕ))). chosen s) c.space-space.ensures.same))
    c.field_of.ensures.pairs

pub returns-clause-field : goal.returns-clause-field
returns-clause-field c =
    IfOk-weaker c.field_of.result (IsFieldOf c.space-space.result.now) (IsFieldOf c.args.regular.now) (λ f h. subst (λ (s : List (List (List ℕ))). IsFieldOf s f) c.space-space.ensures.same h) c.field_of.ensures.field

pub returns-clause-good : goal.returns-clause-good
returns-clause-good c =
    let space : List (List (List ℕ)) = c.space-space.result.now in
    IfOk-weaker c.field_of.result (λ (f : Field). f.pairs ≡ c.deref-3.result.now) (λ (f : Field). IsGood c.args.regular.now f.pairs)
    (λ f e. subst (λ (s : List (List (List ℕ))). IsGood s f.pairs) c.space-space.ensures.same
    (subst (IsGood space)
    (sym (e
    ∙ whole space c.in_ok-high.high.pairs c.in_ok-pairs.pairs.items c.in_ok-edges.edges.items c.in_ok-disks.disks.items c.deref.result.now c.deref-2.result.now c.extend_from_slice.new.self.items c.extend_from_slice-2.new.self.items
    c.deref-3.result.now c.in_ok-high.ensures.pairs c.in_ok-pairs.ensures c.in_ok-edges.ensures c.in_ok-disks.ensures c.deref.ensures.value c.deref-2.ensures.value c.in_ok-extend_from_slice.ensures.items
    c.in_ok-extend_from_slice-2.ensures.items c.deref-3.ensures.value))
    (c.chosen_is_good.ensures space (connected c.args.regular.now space c.space-space.ensures.same c.cells-vertices.ensures.valid c.space-space.ensures.regular c.requires))))
    c.field_of.ensures.pairs
