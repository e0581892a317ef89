-- A valid list of pairs: each pair is incident, and each may stand before each later one.
use Rattle.std.proofs.Common.{◌≡◌, ◌⊎◌, inl, inr, ℕ, suc, ◌+◌, List, [], ◌∷◌, ◌++◌, Bool, true, false, cond, ◌&&◌, not, eqb, Option, Some, None, refl, ap, sym, ◌∙◌, subst}
use Rattle.std.specs.List.{list_any}
use Rattle.std.proofs.lemmas.Bool.{eqb-true, eq-eqb, and_parts, and_from, or_cases, or_left, or_right, not-true, not_from_false}
use Rattle.std.proofs.lemmas.Option.{none-some}
use Rattle.face_poset.specs.declared.cells.Pair.{Pair}
use Rattle.vector_field.specs.Pairs.{has_lower, uses, is_used, is_incident, others, comes_before, fits, bad_from, IsValid}
use Rattle.number_lists.specs.Members.{In, here, there}
use Rattle.number_lists.proofs.CallerLemmas.{In-cases, any-In, any-some, any-none, none-In, all-In, In-all, push-In, In-left, In-last}
use Rattle.vector_field.proofs.Lined.{Lined}

-- the cell is one of the two of the pair
abbrev pub Uses : Pair → (dim cell : ℕ) → Type 0
Uses p dim cell = ((p.dim ≡ dim) × (p.lower ≡ cell)) ⊎ ((p.dim + 1 ≡ dim) × (p.upper ≡ cell))

-- the pairs have no cell in common
abbrev pub Apart : Pair → Pair → Type 0
Apart p q = (Uses p q.dim q.lower → ⊥) × (Uses p (q.dim + 1) q.upper → ⊥)

-- p may stand before q
pub record Goes (space : List (List (List ℕ))) (p q : Pair) : Type 0 where
  pub apart : Apart p q
  pub free : q.dim ≡ p.dim → In q.lower (others space p) → ⊥

pub apart-sym : (p q : Pair) → Apart p q → Apart q p
apart-sym p q h = (lower, upper)
  where
    lower : Uses q p.dim p.lower → ⊥
    lower (inl u) = h.0 (inl (sym u.0, sym u.1))
    lower (inr u) = h.1 (inl (sym u.0, sym u.1))

    upper : Uses q (p.dim + 1) p.upper → ⊥
    upper (inl u) = h.0 (inr (sym u.0, sym u.1))
    upper (inr u) = h.1 (inr (sym u.0, sym u.1))

pub has_lower-true : (p : Pair) (dim cell : ℕ) → has_lower dim cell p ≡ true → (p.dim ≡ dim) × (p.lower ≡ cell)
has_lower-true p dim cell e = let b = and_parts (eqb p.dim dim) (eqb p.lower cell) e in (eqb-true p.dim dim b.0, eqb-true p.lower cell b.1)

pub has_lower-from : (p : Pair) (dim cell : ℕ) → p.dim ≡ dim → p.lower ≡ cell → has_lower dim cell p ≡ true
has_lower-from p dim cell d l = and_from (eqb p.dim dim) (eqb p.lower cell) (eq-eqb p.dim dim d) (eq-eqb p.lower cell l)

pub uses-true : (p : Pair) (dim cell : ℕ) → uses dim cell p ≡ true → Uses p dim cell
uses-true p dim cell e =
    elim (or_cases (has_lower dim cell p) (eqb (p.dim + 1) dim && eqb p.upper cell) e) [
      | inl k ↦ inl (has_lower-true p dim cell k)
      | inr k ↦ let b = and_parts (eqb (p.dim + 1) dim) (eqb p.upper cell) k in inr (eqb-true (p.dim + 1) dim b.0, eqb-true p.upper cell b.1)
    ]

pub uses-from : (p : Pair) (dim cell : ℕ) → Uses p dim cell → uses dim cell p ≡ true
uses-from p dim cell (inl k) = or_left (has_lower dim cell p) (eqb (p.dim + 1) dim && eqb p.upper cell) (has_lower-from p dim cell k.0 k.1)
uses-from p dim cell (inr k) = or_right (has_lower dim cell p) (eqb (p.dim + 1) dim && eqb p.upper cell) (and_from (eqb (p.dim + 1) dim) (eqb p.upper cell) (eq-eqb (p.dim + 1) dim k.0) (eq-eqb p.upper cell k.1))

-- an unused cell is in no pair
pub unused-In : {ps : List Pair} {p : Pair} (dim cell : ℕ) → is_used ps dim cell ≡ false → In p ps → Uses p dim cell → ⊥
unused-In {p = p} dim cell e m u = none-In (uses dim cell) e m (uses-from p dim cell u)

pub unused-from : (ps : List Pair) (dim cell : ℕ) → ((p : Pair) → In p ps → Uses p dim cell → ⊥) → is_used ps dim cell ≡ false
unused-from ps dim cell k = any-none (uses dim cell) ps (λ p m e. k p m (uses-true p dim cell e))

pub used-some : (ps : List Pair) (dim cell : ℕ) → is_used ps dim cell ≡ true → (p : Pair) × In p ps × Uses p dim cell
used-some ps dim cell e = let s = any-some (uses dim cell) ps e in (s.0, s.1, uses-true s.0 dim cell s.2)

pub used-In : {ps : List Pair} {p : Pair} (dim cell : ℕ) → In p ps → Uses p dim cell → is_used ps dim cell ≡ true
used-In {p = p} dim cell m u = any-In (uses dim cell) m (uses-from p dim cell u)

-- more pairs use no fewer cells
pub used-more : (ps qs : List Pair) (dim cell : ℕ) → ((p : Pair) → In p ps → In p qs) → is_used ps dim cell ≡ true → is_used qs dim cell ≡ true
used-more ps qs dim cell k e = let s = used-some ps dim cell e in used-In dim cell (k s.0 s.1) s.2

module _ (space : List (List (List ℕ))) where
  pub record IsLined (pairs : List Pair) : Type 0 where
    pub incident : (p : Pair) → In p pairs → is_incident space p ≡ true
    pub lined : Lined (Goes space) pairs

  fits-from : (earlier : List Pair) (p : Pair) (later : List Pair) → is_incident space p ≡ true → ((e : Pair) → In e earlier → Apart e p) → ((q : Pair) → In q later → Goes space p q) → fits space earlier p later ≡ true
  fits-from earlier p later i a g =
      and_from (is_incident space p) (not (is_used earlier p.dim p.lower) && (not (is_used earlier (p.dim + 1) p.upper) && comes_before space p later)) i
      (and_from (not (is_used earlier p.dim p.lower)) (not (is_used earlier (p.dim + 1) p.upper) && comes_before space p later) (not_from_false (is_used earlier p.dim p.lower) (unused-from earlier p.dim p.lower (λ e m. (a e m).0)))
      (and_from (not (is_used earlier (p.dim + 1) p.upper)) (comes_before space p later) (not_from_false (is_used earlier (p.dim + 1) p.upper) (unused-from earlier (p.dim + 1) p.upper (λ e m. (a e m).1)))
      (In-all (λ f. not (list_any (has_lower p.dim f) later)) (others space p)
      (λ f m. not_from_false (list_any (has_lower p.dim f) later)
      (any-none (has_lower p.dim f) later
      (λ q n e. let l = has_lower-true q p.dim f e in (g q n).free l.0 (subst (λ (z : ℕ). In z (others space p)) (sym l.1) m)))))))

  pub record Fits (earlier : List Pair) (p : Pair) (later : List Pair) : Type 0 where
    pub incident : is_incident space p ≡ true
    pub apart : (e : Pair) → In e earlier → Apart e p
    pub free : (q : Pair) → In q later → q.dim ≡ p.dim → In q.lower (others space p) → ⊥

  fits-true : (earlier : List Pair) (p : Pair) (later : List Pair) → fits space earlier p later ≡ true → Fits earlier p later
  fits-true earlier p later e =
      let a = and_parts (is_incident space p) (not (is_used earlier p.dim p.lower) && (not (is_used earlier (p.dim + 1) p.upper) && comes_before space p later)) e in
      let b = and_parts (not (is_used earlier p.dim p.lower)) (not (is_used earlier (p.dim + 1) p.upper) && comes_before space p later) a.1 in
      let d = and_parts (not (is_used earlier (p.dim + 1) p.upper)) (comes_before space p later) b.1 in
      record {
        incident = a.0;
        apart = λ e m. (unused-In p.dim p.lower (not-true (is_used earlier p.dim p.lower) b.0) m, unused-In (p.dim + 1) p.upper (not-true (is_used earlier (p.dim + 1) p.upper) d.0) m);
        free = λ q n same m. none-In (has_lower p.dim q.lower) (not-true (list_any (has_lower p.dim q.lower) later) (all-In (λ f. not (list_any (has_lower p.dim f) later)) d.1 m)) n (has_lower-from q p.dim q.lower same refl);
      }

  -- none is bad, where these pairs stand before
  none-bad : (earlier ps : List Pair) (n : ℕ) → IsLined ps → ((e p : Pair) → In e earlier → In p ps → Apart e p) → bad_from space earlier n ps ≡ None
  none-bad earlier [] n h a = refl
  none-bad earlier (p ∷ ps) n h a =
      ap (λ (b : Bool). cond b (bad_from space (earlier ++ p ∷ []) (suc n) ps) (Some n)) (fits-from earlier p ps (h.incident p here) (λ e m. a e p m here) h.lined.0)
      ∙ none-bad (earlier ++ p ∷ []) ps (suc n) (record { incident = λ q m. h.incident q (there m); lined = h.lined.1 })
      (λ e q m k. elim (push-In earlier p m) [ inl i ↦ a e q i (there k) | inr x ↦ subst (λ (z : Pair). Apart z q) (sym x) (h.lined.0 q k).apart ])

  pub valid-from : (ps : List Pair) → IsLined ps → IsValid space ps
  valid-from ps h = none-bad [] ps 0 h (λ e p m. elim m [ ])

  not-some : (b : Bool) (o : Option ℕ) (n : ℕ) → cond b o (Some n) ≡ None → (b ≡ true) × (o ≡ None)
  not-some true o n e = (refl, e)
  not-some false o n e = absurd (none-some n (sym e))

  pub record AllFit (earlier ps : List Pair) : Type 0 where
    pub lined : IsLined ps
    pub apart : (e p : Pair) → In e earlier → In p ps → Apart e p

  all-fit : (earlier ps : List Pair) (n : ℕ) → bad_from space earlier n ps ≡ None → AllFit earlier ps
  all-fit earlier [] n e = record { lined = record { incident = λ p m. elim m [ ]; lined = tt }; apart = λ e p m k. elim k [ ] }
  all-fit earlier (p ∷ ps) n e =
      let b = not-some (fits space earlier p ps) (bad_from space (earlier ++ p ∷ []) (suc n) ps) n e in
      let f : Fits earlier p ps = fits-true earlier p ps b.0 in
      let r : AllFit (earlier ++ p ∷ []) ps = all-fit (earlier ++ p ∷ []) ps (suc n) b.1 in
      record {
        lined = record {
          incident = λ q m. elim (In-cases m) [ inl x ↦ subst (λ (z : Pair). is_incident space z ≡ true) (sym x) f.incident | inr k ↦ r.lined.incident q k ];
          lined = (λ q m. record { apart = r.apart p q (In-last earlier p) m; free = f.free q m }, r.lined.lined);
        };
        apart = λ d q m k. elim (In-cases k) [ inl x ↦ subst (λ (z : Pair). Apart d z) (sym x) (f.apart d m) | inr j ↦ r.apart d q (In-left (p ∷ []) m) j ];
      }

  pub lined-from : (ps : List Pair) → IsValid space ps → IsLined ps
  lined-from ps e = (all-fit [] ps 0 e).lined
