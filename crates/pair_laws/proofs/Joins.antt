-- Paths along edges, chains of steps, and walks along flat edges.
use Rattle.std.proofs.Common.{◌≡◌, ℕ, List, [], ◌∷◌, ◌++◌, refl, ap, sym, ◌∙◌, Bool, true, false}
use Rattle.number_lists.specs.Members.{In, here, there}
use Rattle.number_lists.proofs.CallerLemmas.{In-left, In-right}
use Rattle.regular_check.specs.declared.cycles.Step.{Step}
use Rattle.pair_laws.specs.Joins.{Joins, stay, forth, back, start, finish, Chain, none, next, Opened, step, walk, AreInverse, Flat, FlatWalk, FlatForced}

module _ (A B : ℕ → ℕ) where
  pub joins-trans : {ok : ℕ → Bool} {u v w : ℕ} → Joins A B ok u v → Joins A B ok v w → Joins A B ok u w
  joins-trans stay k = k
  joins-trans (forth e o h) k = forth e o (joins-trans h k)
  joins-trans (back e o h) k = back e o (joins-trans h k)

  pub joins-sym : {ok : ℕ → Bool} {u v : ℕ} → Joins A B ok u v → Joins A B ok v u
  joins-sym stay = stay
  joins-sym (forth e o h) = joins-trans (joins-sym h) (back e o stay)
  joins-sym (back e o h) = joins-trans (joins-sym h) (forth e o stay)

  -- a path of edges each of which is itself replaced by a path
  pub joins-through : {ok good : ℕ → Bool} {u v : ℕ} → ((e : ℕ) → ok e ≡ true → Joins A B good (A e) (B e)) → Joins A B ok u v → Joins A B good u v
  joins-through k stay = stay
  joins-through k (forth e o h) = joins-trans (k e o) (joins-through k h)
  joins-through k (back e o h) = joins-trans (joins-sym (k e o)) (joins-through k h)

-- ---- chains

pub chain-append : {A B : ℕ → ℕ} {u v w : ℕ} {xs ys : List Step} → Chain A B u xs v → Chain A B v ys w → Chain A B u (xs ++ ys) w
chain-append none k = k
chain-append (next h) k = next (chain-append h k)

pub chain-split : {A B : ℕ → ℕ} {u w : ℕ} (xs ys : List Step) → Chain A B u (xs ++ ys) w → (v : ℕ) × Chain A B u xs v × Chain A B v ys w
chain-split {u = u} [] ys h = (u, none, h)
chain-split (x ∷ xs) ys (next h) = let r = chain-split xs ys h in (r.0, next r.1, r.2)

pub chain-head : {A B : ℕ → ℕ} {u w : ℕ} {s : Step} {ys : List Step} → Chain A B u (s ∷ ys) w → (u ≡ start A B s) × Chain A B (finish A B s) ys w
chain-head (next h) = (refl, h)

pub opened : Opened
opened A B v s xs ys h =
    let r = chain-split xs (s ∷ ys) h in
    let q = chain-head r.2 in
    chain-append q.1 (rw q.0 at r.1)

-- ---- walks

pub walk-append : (f g : ℕ → ℕ → ℕ) (xs ys : List Step) (x : ℕ) → walk f g (xs ++ ys) x ≡ walk f g ys (walk f g xs x)
walk-append f g [] ys x = refl
walk-append f g (s ∷ xs) ys x = walk-append f g xs ys (step f g s x)

module _ (A B : ℕ → ℕ) (f g : ℕ → ℕ → ℕ) (is : ℕ → Bool) (σ : ℕ → ℕ) (inv : AreInverse f g is) (σ_is : (v : ℕ) → is (σ v) ≡ true) where
  pub flat-step : (s : Step) → Flat A B f σ s.edge → step f g s (σ (start A B s)) ≡ σ (finish A B s)
  flat-step s k = by s.forward refl
    where
      by : (b : Bool) → s.forward ≡ b → step f g s (σ (start A B s)) ≡ σ (finish A B s)
      by true e = rw e k
      by false e = rw e (rw k at (inv.gf s.edge (σ (A s.edge)) (σ_is (A s.edge))))

  flat-walk : (v w : ℕ) (ss : List Step) → Chain A B v ss w → ((s : Step) → In s ss → Flat A B f σ s.edge) → walk f g ss (σ v) ≡ σ w
  flat-walk v w [] none k = refl
  flat-walk v w (s ∷ ss) (next h) k = ap (walk f g ss) (flat-step s (k s here)) ∙ flat-walk (finish A B s) w ss h (λ t i. k t (there i))

pub flat_walk : FlatWalk
flat_walk A B f g is σ inv σ_is v w ss h k = flat-walk A B f g is σ inv σ_is v w ss h k

module _ (f g : ℕ → ℕ → ℕ) (is : ℕ → Bool) (inv : AreInverse f g is) where
  pub step-is : (s : Step) (x : ℕ) → is x ≡ true → is (step f g s x) ≡ true
  step-is s x e = by s.forward refl
    where
      by : (b : Bool) → s.forward ≡ b → is (step f g s x) ≡ true
      by true k = rw k (inv.f_is s.edge x e)
      by false k = rw k (inv.g_is s.edge x e)

  pub step-same : (s : Step) (x y : ℕ) → is x ≡ true → is y ≡ true → step f g s x ≡ step f g s y → x ≡ y
  step-same s x y i j e = by s.forward refl e
    where
      by : (b : Bool) → s.forward ≡ b → step f g s x ≡ step f g s y → x ≡ y
      by true k e = sym (inv.gf s.edge x i) ∙ (ap (g s.edge) (rw k at e) ∙ inv.gf s.edge y j)
      by false k e = sym (inv.fg s.edge x i) ∙ (ap (f s.edge) (rw k at e) ∙ inv.fg s.edge y j)

  pub walk-same : (ss : List Step) (x y : ℕ) → is x ≡ true → is y ≡ true → walk f g ss x ≡ walk f g ss y → x ≡ y
  walk-same [] x y i j e = e
  walk-same (s ∷ ss) x y i j e = step-same s x y i j (walk-same ss (step f g s x) (step f g s y) (step-is s x i) (step-is s y j) e)

pub flat_forced : FlatForced
flat_forced A B f g is σ inv σ_is v s xs ys h closes k = turned s.forward refl (walk-same f g is inv ys (step f g s (σ (start A B s))) (σ (finish A B s)) (step-is f g is inv s (σ (start A B s)) (σ_is (start A B s))) (σ_is (finish A B s)) both)
  where
    first : walk f g xs (σ v) ≡ σ (start A B s)
    first = let r = chain-split xs (s ∷ ys) h in let q = chain-head r.2 in
        rw q.0 at (flat-walk A B f g is σ inv σ_is v r.0 xs r.1 (λ t i. k t (In-right ys i)))

    last : walk f g ys (σ (finish A B s)) ≡ σ v
    last = let r = chain-split xs (s ∷ ys) h in let q = chain-head r.2 in
        flat-walk A B f g is σ inv σ_is (finish A B s) v ys q.1 (λ t i. k t (In-left xs i))

    both : walk f g ys (step f g s (σ (start A B s))) ≡ walk f g ys (σ (finish A B s))
    both = ap (λ x. walk f g ys (step f g s x)) (sym first) ∙ (sym (walk-append f g xs (s ∷ ys) (σ v)) ∙ (closes (σ v) (σ_is v) ∙ sym last))

    turned : (b : Bool) → s.forward ≡ b → step f g s (σ (start A B s)) ≡ σ (finish A B s) → Flat A B f σ s.edge
    turned true e q = rw e at q
    turned false e q = ap (f s.edge) (sym (rw e at q)) ∙ inv.fg s.edge (σ (B s.edge)) (σ_is (B s.edge))
