-- Sheets over the vertices that the edges carry to each other, found along a tree or along pairs in order. The edge e runs from A e to B e;
-- f e and g e move a sheet forward and backward along it; `is` tells what a sheet is; F gives the edges of each cell above.
--   sheets A B f g ps s v                 the sheet over v that the tree with the links ps carries there from the sheet s over the root
--   IsSection A B f is root s ps σ        σ gives each vertex a sheet, the root s, and all links are flat
--   IsSimple F A B f g is root es         each of the edges es is a link of a tree or the lower of one of some pairs in order, where the walk
--                                         round the upper of each pair closes and goes along other edges of es but for the lower
-- Laws:
--   GrownFlat                             the sheets that a tree carries from the root are a section
--   OrderedFlat                           along pairs in order each lower is flat, where each edge that is no lower is flat and a lower is
--                                         flat as soon as the other edges of its upper are
--   SimpleWalks                           a walk along edges of es from the root ends on a sheet that its end alone decides
--   SimpleCloses                          a closed one ends on the sheet where it begins
use Rattle.std.specs.Prelude.{◌≡◌, ℕ, List, [], ◌∷◌, ◌++◌, Bool, true, false, if◌then◌else◌, ◌==◌, ◌⊎◌}
use Rattle.number_lists.specs.Members.{In}
use Rattle.regular_check.specs.declared.cycles.Step.{Step}
use Rattle.pair_laws.specs.Joins.{Chain, AreInverse, Flat, walk}
use Rattle.pair_laws.specs.Tree.{Link, Grown}
use Rattle.pair_laws.specs.Ranks.{others, is_lower, ordered}

abbrev pub sheets : (A B : ℕ → ℕ) (f g : ℕ → ℕ → ℕ) → List Link → (s v : ℕ) → ℕ
sheets A B f g [] s v = s
sheets A B f g (p ∷ ps) s v =
    if v == p.lower
    then if A p.upper == p.lower
    then g p.upper (sheets A B f g ps s (B p.upper))
    else f p.upper (sheets A B f g ps s (A p.upper))
    else sheets A B f g ps s v

pub record IsSection (A B : ℕ → ℕ) (f : ℕ → ℕ → ℕ) (is : ℕ → Bool) (root s : ℕ) (ps : List Link) (σ : ℕ → ℕ) : Type 0 where
  pub at_root : σ root ≡ s
  pub sheet : (v : ℕ) → is (σ v) ≡ true
  pub flat : (p : Link) → In p ps → Flat A B f σ p.upper

abbrev pub GrownFlat : Type 0
GrownFlat =
    (A B : ℕ → ℕ) (f g : ℕ → ℕ → ℕ) (is : ℕ → Bool) (root s : ℕ) (ps : List Link) (ns : List ℕ)
    → AreInverse f g is
    → is s ≡ true
    → Grown A B root ps ns
    → IsSection A B f is root s ps (sheets A B f g ps s)

abbrev pub OrderedFlat : Type 0
OrderedFlat =
    (F : ℕ → List ℕ) (A B : ℕ → ℕ) (f : ℕ → ℕ → ℕ) (σ : ℕ → ℕ) (ps : List Link)
    → ((p : Link) → In p ps → ((g : ℕ) → In g (others F p) → Flat A B f σ g) → Flat A B f σ p.lower)
    → ordered F ps ≡ true
    → ((p : Link) (g : ℕ) → In p ps → In g (others F p) → is_lower ps g ≡ false → Flat A B f σ g)
    → (p : Link)
    → In p ps
    → Flat A B f σ p.lower

pub record IsSimple (F : ℕ → List ℕ) (A B : ℕ → ℕ) (f g : ℕ → ℕ → ℕ) (is : ℕ → Bool) (root : ℕ) (es : List ℕ) : Type 0 where
  pub links : List Link
  pub nodes : List ℕ
  pub tree : Grown A B root links nodes
  pub pairs : List Link
  pub in_order : ordered F pairs ≡ true
  pub either :
      (e : ℕ)
      → In e es
      → ((p : Link) × In p links × (p.upper ≡ e)) ⊎ ((p : Link) × In p pairs × (p.lower ≡ e))
  pub inside : (p : Link) (e : ℕ) → In p pairs → In e (F p.upper) → In e es
  pub first : Link → ℕ
  pub before : Link → List Step
  pub itself : Link → Step
  pub after : Link → List Step
  pub itself_is : (p : Link) → In p pairs → (itself p).edge ≡ p.lower
  pub others_are : (p : Link) (t : Step) → In p pairs → In t (after p ++ before p) → In t.edge (others F p)
  pub round : (p : Link) → In p pairs → Chain A B (first p) (before p ++ itself p ∷ after p) (first p)
  pub closes : (p : Link) (x : ℕ) → In p pairs → is x ≡ true → walk f g (before p ++ itself p ∷ after p) x ≡ x

abbrev pub SimpleWalks : Type 0
SimpleWalks =
    (F : ℕ → List ℕ) (A B : ℕ → ℕ) (f g : ℕ → ℕ → ℕ) (is : ℕ → Bool) (root : ℕ) (es : List ℕ)
    → AreInverse f g is
    → (S : IsSimple F A B f g is root es) (s w : ℕ)
    → is s ≡ true
    → (ss : List Step)
    → Chain A B root ss w
    → ((t : Step) → In t ss → In t.edge es)
    → walk f g ss s ≡ sheets A B f g S.links s w

abbrev pub SimpleCloses : Type 0
SimpleCloses =
    (F : ℕ → List ℕ) (A B : ℕ → ℕ) (f g : ℕ → ℕ → ℕ) (is : ℕ → Bool) (root : ℕ) (es : List ℕ)
    → AreInverse f g is
    → IsSimple F A B f g is root es
    → (s : ℕ)
    → is s ≡ true
    → (ss : List Step)
    → Chain A B root ss root
    → ((t : Step) → In t ss → In t.edge es)
    → walk f g ss s ≡ s
