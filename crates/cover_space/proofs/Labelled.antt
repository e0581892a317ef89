-- Labellings as functions of all numbers, whose walks are those of the labels along edges that are there.
use Rattle.std.proofs.Common.{◌≡◌, ℕ, ◌≤◌, List, [], ◌∷◌, length, refl, ap, ◌∙◌, Bool, true, false, cond, ◌&&◌, eqb}
use Rattle.std.specs.Prelude.{nat_le}
use Rattle.std.specs.List.{list_all}
use Rattle.std.proofs.lemmas.Bool.{eqb-true, and_parts, and_from, leb-true, le-leb}
use Rattle.number_lists.specs.Members.{here, there}
use Rattle.number_lists.specs.Words.{upto}
use Rattle.number_lists.proofs.CallerLemmas.{and-left, and-right, all-In, In-upto}
use Rattle.face_poset.specs.Poset.{count}
use Rattle.regular_check.specs.declared.cycles.Step.{Step}
use Rattle.regular_check.specs.Cycle.{cycle}
use Rattle.pair_laws.specs.Joins.{AreInverse}
use Rattle.pair_laws.specs.Joins as joins
use Rattle.sheet_laws.specs.Permutations.{InRange, is_permutation, at, back}
use Rattle.sheet_laws.specs.Labellings.{label, step, walk, closes, is_labelling}
use Rattle.sheet_laws.proofs.CallerLemmas.{turn_of, back_turn, back-of-at, at-of-back, AreWithin, label-permutes}

pub record IsLabelled (X : List (List (List ℕ))) (m : ℕ) (u : List (List ℕ)) : Type 0 where
  pub some : 1 ≤ m
  pub long : length u ≡ count X 1
  pub permutations : list_all (is_permutation m) u ≡ true
  pub closes_round : (c : ℕ) → InRange (count X 2) c → closes m u (cycle X c) ≡ true

pub is_labelled : (X : List (List (List ℕ))) (m : ℕ) (u : List (List ℕ)) → is_labelling X m u ≡ true → IsLabelled X m u
is_labelled X m u e =
    let perms : Bool = list_all (is_permutation m) u in
    let rounds : Bool = list_all (λ c. closes m u (cycle X c)) (upto (count X 2)) in
    let l : Bool = eqb (length u) (count X 1) in
    let a = and-right (nat_le 1 m) (l && (perms && rounds)) e in
    let b = and-right l (perms && rounds) a in
    record {
      some = leb-true 1 m (and-left (nat_le 1 m) (l && (perms && rounds)) e);
      long = eqb-true (length u) (count X 1) (and-left l (perms && rounds) a);
      permutations = and-left perms rounds b;
      closes_round = λ c r. all-In (λ c. closes m u (cycle X c)) (and-right perms rounds b) (In-upto (count X 2) c r.0 r.1);
    }

abbrev pub in_range : (n x : ℕ) → Bool
in_range n x = nat_le 1 x && nat_le x n

pub range-true : (n x : ℕ) → in_range n x ≡ true → InRange n x
range-true n x e = let b = and_parts (nat_le 1 x) (nat_le x n) e in (leb-true 1 x b.0, leb-true x n b.1)

pub range-from : (n x : ℕ) → InRange n x → in_range n x ≡ true
range-from n x r = and_from (nat_le 1 x) (nat_le x n) (le-leb 1 x r.0) (le-leb x n r.1)

module _ (m n : ℕ) (u : List (List ℕ)) (long : length u ≡ n) (permute : list_all (is_permutation m) u ≡ true) where
  pub forth : ℕ → ℕ → ℕ
  forth e x = cond (in_range n e) (at (label u e) x) x

  pub against : ℕ → ℕ → ℕ
  against e x = cond (in_range n e) (back (label u e) x) x

  permutes : (e : ℕ) → in_range n e ≡ true → is_permutation m (label u e) ≡ true
  permutes e k = label-permutes m n u long permute e (range-true n e k)

  pub are_inverse : AreInverse forth against (in_range m)
  unfolding forth against
  are_inverse = record {
    f_is = λ e x s. range-from m (forth e x) (forth_in e x (range-true m x s) (in_range n e) refl);
    g_is = λ e x s. range-from m (against e x) (against_in e x (range-true m x s) (in_range n e) refl);
    gf = λ e x s. gf e x (range-true m x s) (in_range n e) refl;
    fg = λ e x s. fg e x (range-true m x s) (in_range n e) refl;
  }
    where
      forth_in : (e x : ℕ) → InRange m x → (b : Bool) → in_range n e ≡ b → InRange m (cond b (at (label u e) x) x)
      forth_in e x q true k = (turn_of m (label u e) (permutes e k)).into x q
      forth_in e x q false k = q

      against_in : (e x : ℕ) → InRange m x → (b : Bool) → in_range n e ≡ b → InRange m (cond b (back (label u e) x) x)
      against_in e x q true k = (back_turn m (label u e) (permutes e k)).into x q
      against_in e x q false k = q

      gf : (e x : ℕ) → InRange m x → (b : Bool) → in_range n e ≡ b → cond b (back (label u e) (cond b (at (label u e) x) x)) (cond b (at (label u e) x) x) ≡ x
      gf e x q true k = back-of-at m (label u e) (permutes e k) x q
      gf e x q false k = refl

      fg : (e x : ℕ) → InRange m x → (b : Bool) → in_range n e ≡ b → cond b (at (label u e) (cond b (back (label u e) x) x)) (cond b (back (label u e) x) x) ≡ x
      fg e x q true k = at-of-back m (label u e) (permutes e k) x q
      fg e x q false k = refl

  -- along edges that are there a walk is the walk by the labels
  pub walk-is : (ss : List Step) → AreWithin n ss → (x : ℕ) → joins.walk forth against ss x ≡ walk u ss x
  unfolding forth against
  walk-is [] h x = refl
  walk-is (s ∷ ss) h x = ap (joins.walk forth against ss) (by s.forward) ∙ walk-is ss (λ t i. h t (there i)) (step u s x)
    where
      by : (b : Bool) → cond b (forth s.edge x) (against s.edge x) ≡ cond b (at (label u s.edge) x) (back (label u s.edge) x)
      by true = ap (λ (b : Bool). cond b (at (label u s.edge) x) x) (range-from n s.edge (h s here))
      by false = ap (λ (b : Bool). cond b (back (label u s.edge) x) x) (range-from n s.edge (h s here))

  -- a flat edge that is there
  pub forth-is : (e x : ℕ) → InRange n e → forth e x ≡ at (label u e) x
  unfolding forth
  forth-is e x r = ap (λ (b : Bool). cond b (at (label u e) x) x) (range-from n e r)
