-- One step along the tree of a closed cell, as the code reads it.
use Rattle.std.proofs.Common.{◌≡◌, ◌⊎◌, inl, inr, ℕ, ◌+◌, ◌-◌, ◌<◌, ◌≤◌, List, [], Bool, true, false, cond, eqb, length, get_or, set, ap, sym, ◌∙◌, subst, arith}
use Rattle.std.proofs.lemmas.Bool.{cases_Bool, eqb-true, eq-eqb, false≢true}
use Rattle.std.proofs.lemmas.List.{get_or_default}
use Rattle.face_poset.specs.Poset.{count}
use Rattle.sphere_collapses.specs.declared.tree.Taken.{Taken}
use Rattle.sphere_collapses.specs.Places.{number_at}
use Rattle.sphere_collapses.specs.Trees.{across_of, from_end, to_end}
use Rattle.sheet_laws.specs.Permutations.{InRange, is_permutation, at, back}
use Rattle.sheet_laws.specs.Labellings.{label}
use Rattle.sheet_laws.proofs.CallerLemmas.{label-permutes}
use Rattle.edge_words.specs.Labels.{Labelled}
use Rattle.cover_space.specs.Total.{below, sheet}
use Rattle.cover_space.specs.Laws.{SheetsAreAlong}
use Rattle.cover_space.specs.Making.{HasLabelling, IsInside, IsAgreeing, led_by}
use Rattle.cover_space.proofs.Labelled.{IsLabelled, is_labelled}
use Rattle.cover_space.proofs.Walked.{some-vertex, AreWalked, IsLinked, IsBack, IsForth, inside-at, linked, link-range, node-placed, is-back, is-forth, walked-begun, walked-all}

-- what is read of the link of the node that is taken next
pub record IsRead (X : List (List (List ℕ))) (of : Labelled) (d c s : ℕ) (tree : List Taken) (i : ℕ) (over : List ℕ) (edge : ℕ) (es : List ℕ) (t : Taken) : Type 0 where
  pub node_low : 1 ≤ t.node
  pub node_high : t.node ≤ length over
  pub edge_low : 1 ≤ edge
  pub edge_high : edge ≤ length of.labels
  pub permutes : is_permutation of.sheets (label of.labels edge) ≡ true
  pub two : length es ≡ 2
  pub place : InRange (length over) (across_of es t.node)
  pub sheet_range : InRange of.sheets (get_or over (across_of es t.node - 1) 0)
  pub more : (y : ℕ) → y ≡ led_by of edge es t.node (get_or over (across_of es t.node - 1) 0) → AreWalked X of d c s tree (i + 1) (set over (t.node - 1) y)

module _ (X : List (List (List ℕ))) (of : Labelled) (hl : HasLabelling X of) (d c : ℕ) (r : InRange (count X d) c) (s : ℕ) (q : InRange of.sheets s) (law : SheetsAreAlong) where
  labels : IsLabelled X of.sheets of.labels
  labels = is_labelled X of.sheets of.labels hl.labelling

  module _ (ends : List (List ℕ)) (tree : List Taken) (I : IsInside X d c (below X d c 0) (below X d c 1) ends tree) (i : ℕ) (z : Taken) (over : List ℕ) (l : i < length tree) (h : AreWalked X of d c s tree i over) where
    abbrev t : Taken
    t = get_or tree i z

    abbrev f : ℕ
    f = (get_or tree i z).link

    abbrev n : ℕ
    n = (get_or tree i z).node

    abbrev es : List ℕ
    es = get_or ends (f - 1) []

    abbrev e : ℕ
    e = number_at (below X d c 1) f

    k : IsLinked X of hl d c r s q law ends tree I f
    k = linked X of hl d c r s q law ends tree I f (link-range X of hl d c r s q law ends tree I i z l)

    read-at : IsRead X of d c s tree i over e es t
    read-at = by (cases_Bool (eqb (from_end ends f) n))
      where
        permutation : is_permutation of.sheets (label of.labels e) ≡ true
        permutation = label-permutes of.sheets (count X 1) of.labels labels.long labels.permutations e k.edge_range

        side : (b : Bool) → eqb (from_end ends f) n ≡ b → across_of es n ≡ cond b (to_end ends f) (from_end ends f)
        side b w = ap (λ (b : Bool). cond b (to_end ends f) (from_end ends f)) w

        led : (b : Bool) (x : ℕ) → eqb (from_end ends f) n ≡ b → led_by of e es n x ≡ cond b (back (label of.labels e) x) (at (label of.labels e) x)
        led b x w = ap (λ (b : Bool). cond b (back (label of.labels e) x) (at (label of.labels e) x)) w

        by : (eqb (from_end ends f) n ≡ true) ⊎ (eqb (from_end ends f) n ≡ false) → IsRead X of d c s tree i over e es t
        by (inl w) =
            let p = node-placed X of hl d c r s q law ends tree I i z l in
            let b : IsBack X of hl d c r s q law ends tree I i z over = is-back X of hl d c r s q law ends tree I i z over l h (eqb-true (from_end ends f) n w) in
            let a : across_of es n ≡ to_end ends f = side true w in
            record {
              node_low = p.node_low;
              node_high = omega (arith, p.node_high, h.long);
              edge_low = k.edge_range.0;
              edge_high = omega (arith, k.edge_range.1, labels.long);
              permutes = permutation;
              two = k.two;
              place = subst (InRange (length over)) (sym a) (k.to_range.0, omega (arith, k.to_range.1, h.long));
              sheet_range = subst (λ (x : ℕ). InRange of.sheets (get_or over (x - 1) 0)) (sym a) b.sheet_range;
              more = λ y v. b.more y (v ∙ (led true (get_or over (across_of es n - 1) 0) w ∙ ap (λ (x : ℕ). back (label of.labels e) (get_or over (x - 1) 0)) a));
            }
        by (inr w) =
            let p = node-placed X of hl d c r s q law ends tree I i z l in
            let b : IsForth X of hl d c r s q law ends tree I i z over =
            is-forth X of hl d c r s q law ends tree I i z over l h (λ o. false≢true (sym w ∙ eq-eqb (from_end ends f) n o)) in
            let a : across_of es n ≡ from_end ends f = side false w in
            record {
              node_low = p.node_low;
              node_high = omega (arith, p.node_high, h.long);
              edge_low = k.edge_range.0;
              edge_high = omega (arith, k.edge_range.1, labels.long);
              permutes = permutation;
              two = k.two;
              place = subst (InRange (length over)) (sym a) (k.from_range.0, omega (arith, k.from_range.1, h.long));
              sheet_range = subst (λ (x : ℕ). InRange of.sheets (get_or over (x - 1) 0)) (sym a) b.sheet_range;
              more = λ y v. b.more y (v ∙ (led false (get_or over (across_of es n - 1) 0) w ∙ ap (λ (x : ℕ). at (label of.labels e) (get_or over (x - 1) 0)) a));
            }

  -- the same, of what stands in the struct
  module _ (vertices edges : List ℕ) (ends : List (List ℕ)) (tree : List Taken) (I : IsInside X d c vertices edges ends tree) where
    J : IsInside X d c (below X d c 0) (below X d c 1) ends tree
    J = inside-at X d c vertices edges ends tree I

    pub read : (items : List Taken) (i : ℕ) (z : Taken) (over : List ℕ) (edge : ℕ) (es : List ℕ) → items ≡ tree → i < length items → AreWalked X of d c s tree i over
        → edge ≡ get_or edges ((get_or items i z).link - 1) edge → es ≡ get_or ends ((get_or items i z).link - 1) [] → IsRead X of d c s tree i over edge es (get_or items i z)
    read items i z over edge es e l h a b =
        subst (λ (ts : List Taken). i < length ts → edge ≡ get_or edges ((get_or ts i z).link - 1) edge → es ≡ get_or ends ((get_or ts i z).link - 1) [] → IsRead X of d c s tree i over edge es (get_or ts i z)) (sym e)
        (λ l a b.
        let w = link-range X of hl d c r s q law ends tree J i z l in
        let lt : (get_or tree i z).link - 1 < length edges = omega (arith, w.0, w.1, J.ends_are.as_many, ap length I.edges_are) in
        let o : edge ≡ number_at (below X d c 1) (get_or tree i z).link = a ∙ (get_or_default edges ((get_or tree i z).link - 1) edge 0 lt ∙ ap (λ (xs : List ℕ). get_or xs ((get_or tree i z).link - 1) 0) I.edges_are) in
        subst (λ (x : ℕ). IsRead X of d c s tree i over x es (get_or tree i z)) (sym o)
        (subst (λ (xs : List ℕ). IsRead X of d c s tree i over (number_at (below X d c 1) (get_or tree i z).link) xs (get_or tree i z)) (sym b) (read-at ends tree J i z over l h))) l a b

    pub some-room : (over : List ℕ) → length over ≡ length vertices → 1 ≤ length vertices
    some-room over e = omega (arith, ap length I.vertices_are, some-vertex X hl.valid hl.limited hl.regular d c r)

    pub begun : (over : List ℕ) → length over ≡ length vertices → AreWalked X of d c s tree 0 (set over 0 s)
    begun over e = walked-begun X of hl d c r s q law ends tree J over (e ∙ ap length I.vertices_are)

    pub all-walked : (items : List Taken) (i : ℕ) (over : List ℕ) → items ≡ tree → length items ≤ i → AreWalked X of d c s tree i over → IsAgreeing (below X d c 0) (sheet X of.sheets of.labels d c s) over
    all-walked items i over e l h = walked-all X of hl d c r s q law ends tree J i over (omega (arith, l, ap length e)) h
