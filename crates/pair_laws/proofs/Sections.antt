-- Flat edges along pairs in order, and sections over trees.
use Rattle.std.proofs.Common.{◌≡◌, ℕ, List, [], ◌∷◌, refl, ap, arith, sym, ◌∙◌, Bool, true, false, cond, inl, inr}
use Rattle.std.specs.Prelude.{◌==◌, not}
use Rattle.std.proofs.lemmas.Bool.{eqb-true, eq-eqb, not-true}
use Rattle.number_lists.specs.Members.{In, here, there}
use Rattle.number_lists.specs.Words.{holds}
use Rattle.number_lists.proofs.CallerLemmas.{In-cases, In-inside, any-In, all-In}
use Rattle.pair_laws.specs.Joins.{AreInverse, Flat}
use Rattle.pair_laws.specs.Tree.{Link, Grown, seed, at_end, at_start}
use Rattle.pair_laws.specs.Ranks.{others, is_lower, ordered}
use Rattle.pair_laws.specs.Sections.{sheets, IsSection, GrownFlat, OrderedFlat, SimpleCloses, SimpleWalks}
use Rattle.pair_laws.proofs.Lists.{clash}
use Rattle.pair_laws.proofs.Ranks.{other-is, ordered_head}
use Rattle.pair_laws.proofs.Joins.{flat_walk, flat_forced}
use Rattle.pair_laws.proofs.Tree.{ends_taken, root_taken}

-- what passes from the other facets of each upper to its lower, and holds of all others that are no lowers, holds of each lower
module _ (F : ℕ → List ℕ) (flat : ℕ → Type 0) where
  differs : (q : Link) (g : ℕ) (b : Bool) → (q.lower == g) ≡ b → (g == q.lower) ≡ false → (q.lower == g) ≡ false
  differs q g true z e = absurd (grind (arith, e, eq-eqb g q.lower (sym (eqb-true q.lower g z))))
  differs q g false z e = z

  pub all-flat : (ps : List Link) → ((p : Link) → In p ps → ((g : ℕ) → In g (others F p) → flat g) → flat p.lower) → ordered F ps ≡ true
      → ((p : Link) (g : ℕ) → In p ps → In g (others F p) → is_lower ps g ≡ false → flat g) → (p : Link) → In p ps → flat p.lower
  all-flat [] k o h p i = elim i [ ]
  all-flat (q ∷ ps) k o h p i =
      let before = ordered_head F q ps o in
      let first = k q here (λ g j. h q g here j (rw (differs q g (q.lower == g) refl (other-is F q g j), not-true (is_lower ps g) (all-In (λ g. not (is_lower ps g)) before j)) refl)) in
      elim (In-cases i) [ inl e ↦ rw e first | inr j ↦ all-flat ps (λ p i. k p (there i)) (rw before at o) (λ p g i j e. split q ps h first p g i j e (q.lower == g) refl) p j ]
    where
      split : (q : Link) (ps : List Link) → ((p : Link) (g : ℕ) → In p (q ∷ ps) → In g (others F p) → is_lower (q ∷ ps) g ≡ false → flat g) → flat q.lower
          → (p : Link) (g : ℕ) → In p ps → In g (others F p) → is_lower ps g ≡ false → (b : Bool) → (q.lower == g) ≡ b → flat g
      split q ps h first p g i j e true z = rw (sym (eqb-true q.lower g z)) first
      split q ps h first p g i j e false z = h p g (there i) j (rw (z, e) refl)

pub ordered_flat : OrderedFlat
ordered_flat F A B f σ ps k o h p i = all-flat F (Flat A B f σ) ps k o h p i

-- ---- sections over a tree

module _ (A B : ℕ → ℕ) (f g : ℕ → ℕ → ℕ) (is : ℕ → Bool) (root s : ℕ) (inv : AreInverse f g is) (s_is : is s ≡ true) where
  σ : List Link → ℕ → ℕ
  σ ps v = sheets A B f g ps s v

  taken_differs : (ns : List ℕ) (n v : ℕ) → holds ns n ≡ false → holds ns v ≡ true → (v == n) ≡ false
  taken_differs ns n v e k = by (v == n) refl
    where
      by : (b : Bool) → (v == n) ≡ b → (v == n) ≡ false
      by true z = absurd (clash ns n e (rw (eqb-true v n z) at k))
      by false z = z

  same_on : (p : Link) (ps : List Link) (v : ℕ) → (v == p.lower) ≡ false → sheets A B f g (p ∷ ps) s v ≡ sheets A B f g ps s v
  same_on p ps v e = rw e refl

  new_end : (p : Link) (ps : List Link) → A p.upper ≡ p.lower → sheets A B f g (p ∷ ps) s p.lower ≡ g p.upper (sheets A B f g ps s (B p.upper))
  new_end p ps e = rw (eq-eqb p.lower p.lower refl, eq-eqb (A p.upper) p.lower e) refl

  new_start : (p : Link) (ps : List Link) → (A p.upper == p.lower) ≡ false → sheets A B f g (p ∷ ps) s p.lower ≡ f p.upper (sheets A B f g ps s (A p.upper))
  new_start p ps e = rw (eq-eqb p.lower p.lower refl, e) refl

  sheet-is : (ps : List Link) (v : ℕ) → is (sheets A B f g ps s v) ≡ true
  sheet-is [] v = s_is
  sheet-is (p ∷ ps) v = by (v == p.lower) (A p.upper == p.lower) (sheet-is ps v) (inv.g_is p.upper _ (sheet-is ps (B p.upper))) (inv.f_is p.upper _ (sheet-is ps (A p.upper)))
    where
      by : (b c : Bool) → is (sheets A B f g ps s v) ≡ true → is (g p.upper (sheets A B f g ps s (B p.upper))) ≡ true → is (f p.upper (sheets A B f g ps s (A p.upper))) ≡ true
          → is (cond b (cond c (g p.upper (sheets A B f g ps s (B p.upper))) (f p.upper (sheets A B f g ps s (A p.upper)))) (sheets A B f g ps s v)) ≡ true
      by true true i j k = j
      by true false i j k = k
      by false c i j k = i

  section : (ps : List Link) (ns : List ℕ) → Grown A B root ps ns → IsSection A B f is root s ps (sheets A B f g ps s)
  section [] ns seed = record { at_root = refl; sheet = λ v. s_is; flat = λ p i. elim i [ ] }
  section (p ∷ ps) [] h = elim h [ ]
  section (p ∷ ps) (n ∷ ns) (at_end q h e k t) =
      let r = section ps ns h in
      record {
        at_root = same_on p ps root (taken_differs ns n root k (root_taken ps ns h)) ∙ r.at_root;
        sheet = sheet-is (p ∷ ps);
        flat = λ x i. elim (In-cases i) [
          | inl y ↦ rw y (ap (f p.upper) (ap (sheets A B f g (p ∷ ps) s) e ∙ new_end p ps e) ∙ (inv.fg p.upper _ (sheet-is ps (B p.upper)) ∙ sym (same_on p ps (B p.upper) (taken_differs ns n (B p.upper) k t))))
          | inr j ↦ (let q = ends_taken ns h x j in ap (f x.upper) (same_on p ps (A x.upper) (taken_differs ns n (A x.upper) k q.0)) ∙ (r.flat x j ∙ sym (same_on p ps (B x.upper) (taken_differs ns n (B x.upper) k q.1))))
        ];
      }
  section (p ∷ ps) (n ∷ ns) (at_start q h e k t) =
      let r = section ps ns h in
      let d = taken_differs ns n (A p.upper) k t in
      record {
        at_root = same_on p ps root (taken_differs ns n root k (root_taken ps ns h)) ∙ r.at_root;
        sheet = sheet-is (p ∷ ps);
        flat = λ x i. elim (In-cases i) [
          | inl y ↦ rw y (ap (f p.upper) (same_on p ps (A p.upper) d) ∙ (sym (new_start p ps d) ∙ ap (sheets A B f g (p ∷ ps) s) (sym e)))
          | inr j ↦ (let q = ends_taken ns h x j in ap (f x.upper) (same_on p ps (A x.upper) (taken_differs ns n (A x.upper) k q.0)) ∙ (r.flat x j ∙ sym (same_on p ps (B x.upper) (taken_differs ns n (B x.upper) k q.1))))
        ];
      }

pub grown_flat : GrownFlat
grown_flat A B f g is root s ps ns inv s_is h = section A B f g is root s inv s_is ps ns h

-- ---- all edges are flat

pub simple_walks : SimpleWalks
simple_walks F A B f g is root es inv S s w s_is ss c inside = rw (sec.at_root) at (flat_walk A B f g is σ inv sec.sheet root w ss c (λ t i. flat t.edge (inside t i)))
  where
    σ : ℕ → ℕ
    σ = sheets A B f g S.links s

    sec : IsSection A B f is root s S.links σ
    sec = grown_flat A B f g is root s S.links S.nodes inv s_is S.tree

    pair_flat : (p : Link) → In p S.pairs → Flat A B f σ p.lower
    pair_flat = ordered_flat F A B f σ S.pairs (λ p i h. rw (S.itself_is p i) at (flat_forced A B f g is σ inv sec.sheet (S.first p) (S.itself p) (S.before p) (S.after p) (S.round p i) (λ x e. S.closes p x i e) (λ t j. h t.edge (S.others_are p t i j)))) S.in_order
        (λ p e i j n. elim (S.either e (S.inside p e i (In-inside (λ x. not (x == p.lower)) (F p.upper) j))) [ inl r ↦ rw (← r.2) (sec.flat r.0 r.1) | inr r ↦ absurd (grind (arith, n, any-In (λ q. q.lower == e) r.1 (eq-eqb r.0.lower e r.2))) ])

    flat : (e : ℕ) → In e es → Flat A B f σ e
    flat e i = elim (S.either e i) [ inl r ↦ rw (← r.2) (sec.flat r.0 r.1) | inr r ↦ rw (← r.2) (pair_flat r.0 r.1) ]

pub simple_closes : SimpleCloses
simple_closes F A B f g is root es inv S s s_is ss c inside = simple_walks F A B f g is root es inv S s root s_is ss c inside ∙ (grown_flat A B f g is root s S.links S.nodes inv s_is S.tree).at_root
