-- Steps round a 2-cell: paths of steps, and a round cut at one of its edges.
use Rattle.std.proofs.Common.{◌≡◌, ◌≢◌, inl, inr, ℕ, List, [], ◌∷◌, ◌++◌, Bool, true, false, cond, eqb, map, take, drop, get_or, refl, ap, sym, ◌∙◌, subst}
use Rattle.std.proofs.lemmas.Bool.{eqb-true, eq-eqb, false≢true}
use Rattle.std.proofs.lemmas.List.{map-append}
use Rattle.number_lists.specs.Members.{In, here, there}
use Rattle.number_lists.proofs.CallerLemmas.{In-cases, In-left, In-right, append-In, AreDistinct, more}
use Rattle.regular_check.specs.declared.cycles.Step.{Step}
use Rattle.local_field.specs.Buildings.{steps_after, steps_before}

-- ---- cut at an edge

pub record IsCut (edge : ℕ) (steps : List Step) : Type 0 where
  pub at : Step
  pub along : at.edge ≡ edge
  pub is : steps ≡ steps_before edge steps ++ at ∷ steps_after edge steps

pub cut-at : (edge : ℕ) (steps : List Step) → In edge (map (λ (s : Step). s.edge) steps) → IsCut edge steps
cut-at edge [] i = elim i [ ]
cut-at edge (s ∷ steps) i = by (eqb s.edge edge) refl (λ (j : In edge (map (λ (s : Step). s.edge) steps)). cut-at edge steps j)
  where
    later : s.edge ≢ edge → In edge (map (λ (s : Step). s.edge) steps)
    later q = elim (In-cases i) [ inl e ↦ absurd (q (sym e)) | inr j ↦ j ]

    pack : (b : Bool) → eqb s.edge edge ≡ b → (at : Step) × (at.edge ≡ edge) × (s ∷ steps ≡ cond b [] (s ∷ steps_before edge steps) ++ at ∷ cond b steps (steps_after edge steps)) → IsCut edge (s ∷ steps)
    pack b e r =
        let q = subst (λ (b : Bool). (at : Step) × (at.edge ≡ edge) × (s ∷ steps ≡ cond b [] (s ∷ steps_before edge steps) ++ at ∷ cond b steps (steps_after edge steps))) (sym e) r in
        record { at = q.0; along = q.1; is = q.2 }

    by : (b : Bool) → eqb s.edge edge ≡ b → (In edge (map (λ (s : Step). s.edge) steps) → IsCut edge steps) → IsCut edge (s ∷ steps)
    by true e again = pack true e (s, eqb-true s.edge edge e, refl)
    by false e again =
        let r = again (later (λ q. false≢true (sym e ∙ eq-eqb s.edge edge q))) in
        pack false e (r.at, r.along, ap (λ (xs : List Step). s ∷ xs) r.is)

-- ---- paths

module _ (st en : Step → ℕ) where
  -- each step begins where the one before ends
  abbrev pub Path : ℕ → List Step → ℕ → Type 0
  Path a [] b = a ≡ b
  Path a (s ∷ steps) b = (st s ≡ a) × Path (en s) steps b

  pub path-along : (s : Step) (steps : List Step) (b : ℕ) → map en (s ∷ steps) ≡ map st steps ++ b ∷ [] → Path (st s) (s ∷ steps) b
  path-along s [] b e = (refl, ap (λ (xs : List ℕ). get_or xs 0 0) e)
  path-along s (t ∷ steps) b e =
      let f : en s ≡ st t = ap (λ (xs : List ℕ). get_or xs 0 0) e in
      (refl, subst (λ (a : ℕ). Path a (t ∷ steps) b) (sym f) (path-along t steps b (ap (λ (xs : List ℕ). drop 1 xs) e)))

  path-split : (a b : ℕ) (xs ys : List Step) → Path a (xs ++ ys) b → (m : ℕ) × Path a xs m × Path m ys b
  path-split a b [] ys h = (a, refl, h)
  path-split a b (x ∷ xs) ys h = let r = path-split (en x) b xs ys h.1 in (r.0, (h.0, r.1), r.2)

  path-append : (a m b : ℕ) (xs ys : List Step) → Path a xs m → Path m ys b → Path a (xs ++ ys) b
  path-append a m b [] ys h k = subst (λ (c : ℕ). Path c ys b) (sym h) k
  path-append a m b (x ∷ xs) ys h k = (h.0, path-append (en x) m b xs ys h.1 k)

  -- a closed path from the end of one of its steps on to the start of this step
  pub path-opened : (a : ℕ) (xs : List Step) (s : Step) (ys : List Step) → Path a (xs ++ s ∷ ys) a → Path (en s) (ys ++ xs) (st s)
  path-opened a xs s ys h =
      let r = path-split a a xs (s ∷ ys) h in
      path-append (en s) a (st s) ys xs r.2.1 (subst (Path a xs) (sym r.2.0) r.1)

  -- where it begins, and then the ends of its steps, are their starts, and then where it ends
  pub path-ends : (a b : ℕ) (steps : List Step) → Path a steps b → a ∷ map en steps ≡ map st steps ++ b ∷ []
  path-ends a b [] h = ap (λ (c : ℕ). c ∷ []) h
  path-ends a b (s ∷ steps) h = ap (λ (c : ℕ). c ∷ en s ∷ map en steps) (sym h.0) ∙ ap (λ (xs : List ℕ). st s ∷ xs) (path-ends (en s) b steps h.1)

  pub path-round : (steps : List Step) → map en steps ≡ drop 1 (map st steps) ++ take 1 (map st steps) → (a : ℕ) × Path a steps a
  path-round [] e = (0, refl)
  path-round (s ∷ steps) e = (st s, path-along s steps (st s) e)

-- ---- different numbers

moved : (xs ys : List ℕ) → AreDistinct (xs ++ ys) → AreDistinct (ys ++ xs)
moved [] ys d = subst AreDistinct (sym (nil ys)) d
  where
    nil : (ys : List ℕ) → ys ++ [] ≡ ys
    nil [] = refl
    nil (y ∷ ys) = ap (λ (xs : List ℕ). y ∷ xs) (nil ys)
moved (x ∷ xs) ys (more n d) = put x xs ys n (moved xs ys d)
  where
    put : (x : ℕ) (xs ys : List ℕ) → (In x (xs ++ ys) → ⊥) → AreDistinct (ys ++ xs) → AreDistinct (ys ++ x ∷ xs)
    put x xs [] n d = more (λ i. n (In-left [] i)) d
    put x xs (y ∷ ys) n (more m d) =
        more (λ i. elim (append-In ys (x ∷ xs) i) [
          | inl j ↦ m (In-left xs j)
          | inr j ↦ elim (In-cases j) [ inl e ↦ n (subst (λ (k : ℕ). In k (xs ++ y ∷ ys)) e (In-right xs here)) | inr k ↦ m (In-right ys k) ]
        ]) (put x xs ys (λ i. n (elim (append-In xs ys i) [ inl j ↦ In-left (y ∷ ys) j | inr j ↦ In-right xs (there j) ])) d)

-- a list turned, the item where it is cut last
pub turned : (f : Step → ℕ) (xs : List Step) (s : Step) (ys : List Step) → AreDistinct (map f (xs ++ s ∷ ys)) → AreDistinct (map f (ys ++ xs) ++ f s ∷ [])
turned f xs s ys d =
    let a : AreDistinct (map f xs ++ f s ∷ map f ys) = subst AreDistinct (map-append f xs (s ∷ ys)) d in
    let b : AreDistinct ((f s ∷ map f ys) ++ map f xs) = moved (map f xs) (f s ∷ map f ys) a in
    let c : AreDistinct ((map f ys ++ map f xs) ++ f s ∷ []) = moved (f s ∷ []) (map f ys ++ map f xs) b in
    subst (λ (zs : List ℕ). AreDistinct (zs ++ f s ∷ [])) (sym (map-append f ys xs)) c
