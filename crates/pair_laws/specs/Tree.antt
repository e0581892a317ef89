-- Growing trees: nodes taken one after another, each along a link to a node that was taken before. Nodes and links are numbers; the link e
-- runs between the nodes A e and B e. ps are pairs of a node with the link along which it was taken, the latest first, ns the nodes taken.
--   Link                       such a pair: the node, its lower, and the link, its upper
--   Grown A B root ps ns       the nodes ns were taken from the root on, each along its link
--   distinct xs                whether no number of the list comes twice
--   HasTree A B root ns es     a tree on all nodes of the list, by links of the list es, with one link fewer than nodes
-- Laws:
--   GrownDistinct              no link comes twice
--   AllOf                      distinct numbers of a list, as many as it has, are all of it
--   TreeExists                 where the links join all nodes of a list to the root, there is a tree on them
use Rattle.std.specs.Prelude.{◌≡◌, ℕ, suc, ◌≤◌, List, [], ◌∷◌, length, map, Bool, true, false, not, ◌&&◌}
use Rattle.std.specs.List.{list_all}
use Rattle.number_lists.specs.Members.{In}
use Rattle.number_lists.specs.Words.{holds}
use Rattle.pair_laws.specs.Joins.{Joins}

pub record Link : Type 0 where
  pub lower : ℕ
  pub upper : ℕ

pub data Grown (A B : ℕ → ℕ) (root : ℕ) : List Link → List ℕ → Type 0 where
  seed : Grown A B root [] (root ∷ [])
  at_end :
      {ps : List Link} {ns : List ℕ} (p : Link)
      → Grown A B root ps ns
      → A p.upper ≡ p.lower
      → holds ns p.lower ≡ false
      → holds ns (B p.upper) ≡ true
      → Grown A B root (p ∷ ps) (p.lower ∷ ns)
  at_start :
      {ps : List Link} {ns : List ℕ} (p : Link)
      → Grown A B root ps ns
      → B p.upper ≡ p.lower
      → holds ns p.lower ≡ false
      → holds ns (A p.upper) ≡ true
      → Grown A B root (p ∷ ps) (p.lower ∷ ns)

abbrev pub distinct : List ℕ → Bool
distinct [] = true
distinct (x ∷ xs) = not (holds xs x) && distinct xs

abbrev pub GrownDistinct : Type 0
GrownDistinct =
    (A B : ℕ → ℕ) (root : ℕ) (ps : List Link) (ns : List ℕ)
    → Grown A B root ps ns
    → distinct (map (λ p. p.upper) ps) ≡ true

abbrev pub AllOf : Type 0
AllOf =
    (xs ys : List ℕ)
    → distinct xs ≡ true
    → list_all (λ x. holds ys x) xs ≡ true
    → length ys ≤ length xs
    → (y : ℕ)
    → In y ys
    → holds xs y ≡ true

pub record HasTree (A B : ℕ → ℕ) (root : ℕ) (nodes links : List ℕ) : Type 0 where
  pub pairs : List Link
  pub taken : List ℕ
  pub grown : Grown A B root pairs taken
  pub all : (n : ℕ) → In n nodes → holds taken n ≡ true
  pub within : (p : Link) → In p pairs → In p.upper links
  pub number : suc (length pairs) ≡ length nodes

abbrev pub TreeExists : Type 0
TreeExists =
    (A B : ℕ → ℕ) (root : ℕ) (nodes links : List ℕ)
    → distinct nodes ≡ true
    → In root nodes
    → ((e : ℕ) → In e links → In (A e) nodes × In (B e) nodes)
    → ((n : ℕ) → In n nodes → Joins A B (holds links) root n)
    → HasTree A B root nodes links
