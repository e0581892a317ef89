-- The edges along a path that meets no vertex twice are a tree. The edge e runs from A e to B e; xs are the steps of the path, from v to w.
--   HasPathTree A B v xs     a tree from v with the edges of the steps as its links, all of them and no others
--   CycleTree                the law: there is one; the path may be that along a cycle but for its last edge
use Rattle.std.specs.Prelude.{◌≡◌, ℕ, List, ◌∷◌, map, true}
use Rattle.number_lists.specs.Members.{In}
use Rattle.regular_check.specs.declared.cycles.Step.{Step}
use Rattle.pair_laws.specs.Joins.{finish, Chain}
use Rattle.pair_laws.specs.Tree.{Link, Grown, distinct}

pub record HasPathTree (A B : ℕ → ℕ) (root : ℕ) (xs : List Step) : Type 0 where
  pub links : List Link
  pub nodes : List ℕ
  pub grown : Grown A B root links nodes
  pub used : (t : Step) → In t xs → (p : Link) × In p links × (p.upper ≡ t.edge)
  pub only : (p : Link) → In p links → (t : Step) × In t xs × (p.upper ≡ t.edge)

abbrev pub CycleTree : Type 0
CycleTree =
    (A B : ℕ → ℕ) (v w : ℕ) (xs : List Step)
    → Chain A B v xs w
    → distinct (v ∷ map (λ t. finish A B t) xs) ≡ true
    → HasPathTree A B v xs
