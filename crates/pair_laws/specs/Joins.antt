-- Paths along edges, walks of a sheet along them, and flat edges. The edge e runs from A e to B e; f e and g e move a sheet forward and
-- backward along it; `is` tells what a sheet is; s is a step, ss, xs and ys are steps. All of them are numbers.
--   Joins A B ok v w          a path along edges that pass the test leads from v to w, each edge taken either way
--   start A B s               the vertex where a step begins
--   finish A B s              the vertex where it ends
--   Chain A B v ss w          the steps lead from v to w, each on from where the one before ends
--   step f g s x              where a step takes the sheet x
--   walk f g ss x             where the steps take it, one after another
--   AreInverse f g is         f e and g e take sheets to sheets and undo each other
--   Flat A B f σ e            the edge takes the sheet that σ gives its start to the one that σ gives its end
-- Laws:
--   Opened                    a closed chain less one step leads from the end of that step to its start
--   FlatWalk                  along a chain of flat edges a walk goes from the sheet that σ gives to the sheet that σ gives
--   FlatForced                where the walk round a cycle closes on all sheets and all its edges but one are flat, that one is flat
use Rattle.std.specs.Prelude.{◌≡◌, ℕ, List, [], ◌∷◌, ◌++◌, Bool, true, if◌then◌else◌}
use Rattle.number_lists.specs.Members.{In}
use Rattle.regular_check.specs.declared.cycles.Step.{Step}

pub data Joins (A B : ℕ → ℕ) (ok : ℕ → Bool) : ℕ → ℕ → Type 0 where
  stay : {v : ℕ} → Joins A B ok v v
  forth : {v : ℕ} (e : ℕ) → ok e ≡ true → Joins A B ok (B e) v → Joins A B ok (A e) v
  back : {v : ℕ} (e : ℕ) → ok e ≡ true → Joins A B ok (A e) v → Joins A B ok (B e) v

abbrev pub start : (A B : ℕ → ℕ) → Step → ℕ
start A B s = if s.forward then A s.edge else B s.edge

abbrev pub finish : (A B : ℕ → ℕ) → Step → ℕ
finish A B s = if s.forward then B s.edge else A s.edge

pub data Chain (A B : ℕ → ℕ) : ℕ → List Step → ℕ → Type 0 where
  none : {v : ℕ} → Chain A B v [] v
  next : {v : ℕ} {s : Step} {ss : List Step} → Chain A B (finish A B s) ss v → Chain A B (start A B s) (s ∷ ss) v

abbrev pub Opened : Type 0
Opened =
    (A B : ℕ → ℕ) (v : ℕ) (s : Step) (xs ys : List Step)
    → Chain A B v (xs ++ s ∷ ys) v
    → Chain A B (finish A B s) (ys ++ xs) (start A B s)

abbrev pub step : (f g : ℕ → ℕ → ℕ) → Step → (x : ℕ) → ℕ
step f g s x = if s.forward then f s.edge x else g s.edge x

abbrev pub walk : (f g : ℕ → ℕ → ℕ) → List Step → (x : ℕ) → ℕ
walk f g [] x = x
walk f g (s ∷ ss) x = walk f g ss (step f g s x)

pub record AreInverse (f g : ℕ → ℕ → ℕ) (is : ℕ → Bool) : Type 0 where
  pub f_is : (e x : ℕ) → is x ≡ true → is (f e x) ≡ true
  pub g_is : (e x : ℕ) → is x ≡ true → is (g e x) ≡ true
  pub gf : (e x : ℕ) → is x ≡ true → g e (f e x) ≡ x
  pub fg : (e x : ℕ) → is x ≡ true → f e (g e x) ≡ x

abbrev pub Flat : (A B : ℕ → ℕ) (f : ℕ → ℕ → ℕ) (σ : ℕ → ℕ) → ℕ → Type 0
Flat A B f σ e = f e (σ (A e)) ≡ σ (B e)

abbrev pub FlatWalk : Type 0
FlatWalk =
    (A B : ℕ → ℕ) (f g : ℕ → ℕ → ℕ) (is : ℕ → Bool) (σ : ℕ → ℕ)
    → AreInverse f g is
    → ((v : ℕ) → is (σ v) ≡ true)
    → (v w : ℕ) (ss : List Step)
    → Chain A B v ss w
    → ((s : Step) → In s ss → Flat A B f σ s.edge)
    → walk f g ss (σ v) ≡ σ w

abbrev pub FlatForced : Type 0
FlatForced =
    (A B : ℕ → ℕ) (f g : ℕ → ℕ → ℕ) (is : ℕ → Bool) (σ : ℕ → ℕ)
    → AreInverse f g is
    → ((v : ℕ) → is (σ v) ≡ true)
    → (v : ℕ) (s : Step) (xs ys : List Step)
    → Chain A B v (xs ++ s ∷ ys) v
    → ((x : ℕ) → is x ≡ true → walk f g (xs ++ s ∷ ys) x ≡ x)
    → ((t : Step) → In t (ys ++ xs) → Flat A B f σ t.edge)
    → Flat A B f σ s.edge
