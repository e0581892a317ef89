-- One unit after another: what was placed, and what is left of it.
use Rattle.std.proofs.Common.{◌≡◌, ℕ, zero, suc, ◌-◌, ◌*◌, ◌<◌, ◌≤◌, List, [], ◌∷◌, ◌++◌, length, take, drop, filter, refl, ap, arith, sym, subst, ◌∙◌, Bool, true, false, All}
use Rattle.std.proofs.lemmas.List.Elements.{filter-append}
use Rattle.std.specs.Prelude.{◌==◌}
use Rattle.std.proofs.lemmas.Bool.{eqb-true, and_parts}
use Rattle.number_lists.specs.Members.{In}
use Rattle.number_lists.proofs.CallerLemmas.{filter-In, at-In}
use Rattle.sheet_laws.specs.Permutations.{InRange}
use Rattle.sheet_laws.specs.Tables.{is_least}
use Rattle.sheet_tables.specs.Tables.{IsTable}
use Rattle.sheet_tables.specs.Positions.{IsProper}
use Rattle.live_laws.specs.Live.{Relations, Position, live, is_listed}
use Rattle.cover_search.specs.Searches.{last_of}
use Rattle.cover_search.specs.Courses.{Passage, here, left_of, ahead, IsPassage, IsPlaced, IsLast, StopsListed, StopsShort, StopsOver}
use Rattle.cover_search.proofs.Passages.{from-recursion}

pub record IsMore {A : Type 0} (xs : List A) (k : ℕ) (x : A) (ys : List A) : Type 0 where
  pub below : k < length xs
  pub taken : take (suc k) xs ≡ take k xs ++ x ∷ []
  pub left : drop (suc k) xs ≡ ys

pub one-more : {A : Type 0} (xs : List A) (k : ℕ) (x : A) (ys : List A) → drop k xs ≡ x ∷ ys → IsMore xs k x ys
one-more [] zero x ys e = absurd (grind (arith, e))
one-more [] (suc k) x ys e = absurd (grind (arith, e))
one-more (z ∷ xs) zero x ys e =
    let a : z ≡ x = cc in
    let b : xs ≡ ys = cc in
    record { below = omega arith; taken = ap (λ y. y ∷ []) a; left = b }
one-more (z ∷ xs) (suc k) x ys e = let r = one-more xs k x ys e in record { below = omega (arith, r.below); taken = ap (λ qs. z ∷ qs) r.taken; left = r.left }

pub last_of-append : (s : Position) (qs : List Position) (q : Position) → last_of s (qs ++ q ∷ []) ≡ q
last_of-append s [] q = refl
last_of-append s (p ∷ qs) q = last_of-append p qs q

one-kept : {A : Type 0} (f : A → Bool) (x : A) → f x ≡ true → filter f (x ∷ []) ≡ x ∷ []
one-kept f x e = rw e refl

one-dropped : {A : Type 0} (f : A → Bool) (x : A) → f x ≡ false → filter f (x ∷ []) ≡ []
one-dropped f x e = rw e refl

pub filter-more : {A : Type 0} (f : A → Bool) (xs : List A) (k : ℕ) (x : A) (ys : List A) → drop k xs ≡ x ∷ ys → filter f (take k xs) ≡ [] → filter f (take (suc k) xs) ≡ filter f (x ∷ [])
filter-more f xs k x ys e n = ap (filter f) (one-more xs k x ys e).taken ∙ (filter-append f (take k xs) (x ∷ []) ∙ ap (λ qs. qs ++ filter f (x ∷ [])) n)

module _ (old p new : Passage) (k K : ℕ) (t : Position) (e : drop k (ahead old) ≡ ahead p) (more : K ≡ suc k) (at : here p ≡ t) where
  pub placed-by : IsPlaced old K t
  placed-by =
      let r = one-more (ahead old) k (here p) (left_of p) e in
      record {
        some = omega (arith, more);
        within = omega (arith, more, r.below);
        last = λ s. ap (λ (n : ℕ). last_of s (take n (ahead old))) more ∙ (ap (last_of s) r.taken ∙ (last_of-append s (take k (ahead old)) (here p) ∙ at));
      }

  pub rest-is : drop K (ahead old) ≡ left_of p
  rest-is = ap (λ (n : ℕ). drop n (ahead old)) more ∙ (one-more (ahead old) k (here p) (left_of p) e).left

  module _ (none : filter (is_listed old.relations) (take k (ahead old)) ≡ []) where
    found-is : filter (is_listed old.relations) (take K (ahead old)) ≡ filter (is_listed old.relations) (here p ∷ [])
    found-is = ap (λ (n : ℕ). filter (is_listed old.relations) (take n (ahead old))) more ∙ filter-more (is_listed old.relations) (ahead old) k (here p) (left_of p) e none

    pub skipped : is_listed old.relations (here p) ≡ false → filter (is_listed old.relations) (take K (ahead old)) ≡ []
    skipped l = found-is ∙ one-dropped (is_listed old.relations) (here p) l

    pub listed-by : is_listed old.relations (here p) ≡ true → new ≡ p → StopsListed old new K t
    listed-by l s = record {
      found = found-is ∙ (one-kept (is_listed old.relations) (here p) l ∙ ap (λ (q : Position). q ∷ []) at);
      at = ap here s ∙ at;
      left = ap left_of s ∙ sym rest-is;
    }

    pub short-by : (budget : ℕ) → is_listed old.relations (here p) ≡ false → new ≡ p → budget ≡ 0 → StopsShort old new K budget t
    short-by budget l s z = record {
      found = found-is ∙ one-dropped (is_listed old.relations) (here p) l;
      at = ap here s ∙ at;
      left = ap left_of s ∙ sym rest-is;
      none = z;
    }

    pub over-by : is_listed old.relations (here p) ≡ false → p.relations ≡ old.relations → p.most ≡ old.most → left_of p ≡ [] → StopsOver old K t
    over-by l a b z = record {
      found = found-is ∙ one-dropped (is_listed old.relations) (here p) l;
      none = rest-is ∙ z;
      left =
          ap (live old.relations old.most) (sym at)
          ∙ (ap (λ (R : Relations). live R old.most (here p)) (sym a) ∙ (ap (λ (n : ℕ). live p.relations n (here p)) (sym b) ∙ z));
    }

-- the position, by what is written
pub here-is : (p : Passage) (s l : ℕ) (xs : List ℕ) → IsPassage p → s ≡ p.sheets → l ≡ length p.cells → xs ≡ p.written → here p ≡ (s, take l xs)
here-is p s l xs h a b d =
    ap (λ (q : List ℕ). (p.sheets, q)) h.cells
    ∙ (ap (λ (ys : List ℕ). (p.sheets, take (length p.cells) ys)) (sym d) ∙ (ap (λ (n : ℕ). (p.sheets, take n xs)) (sym b) ∙ ap (λ (n : ℕ). (n, take l xs)) (sym a)))

-- one unit less of the budget is one more that was taken
pub unit-more : (budget now : ℕ) → 1 ≤ now → now ≤ budget → budget - (now - 1) ≡ suc (budget - now)
unit-more budget now l h = omega (arith, l, h)

-- ---- what may be kept as a position

ranged-eight : (m : ℕ) (p : List ℕ) → m ≤ 8 → All (InRange m) p → All (λ c. (1 ≤ c) × (c ≤ 8)) p
ranged-eight m p l h i d k = let r = h i d k in (r.0, omega (arith, r.1, l))

pub proper-passage : (p : Passage) → IsPassage p → 0 < length p.cells → IsProper p.sheets p.cells
proper-passage p h l = record {
  some_sheet = h.sheets.0;
  most_sheets = omega (arith, h.sheets.1, h.most);
  some_cell = omega (arith, l);
  within = ranged-eight p.sheets p.cells (omega (arith, h.sheets.1, h.most)) (from-recursion (InRange p.sheets) p.cells h.ranged);
}

pub last-passage : (p new : Passage) → IsPassage p → new.relations ≡ p.relations → new.most ≡ p.most → new.written ≡ p.written → IsLast new p.sheets (length p.cells)
last-passage p new h a b d = record {
  range = (h.sheets.0, omega (arith, h.sheets.1, b));
  within = subst (λ (R : Relations). length p.cells ≤ p.sheets * R.generators) (sym a) h.within;
  written = subst (λ (xs : List ℕ). length p.cells ≤ length xs) (sym d) h.room;
  ranged = subst (λ (xs : List ℕ). All (InRange p.sheets) (take (length p.cells) xs)) (sym d) (subst (λ (xs : List ℕ). All (InRange p.sheets) xs) h.cells (from-recursion (InRange p.sheets) p.cells h.ranged));
}

-- what is found alone is a listed table
pub found-listed : (f : Position → Bool) (qs : List Position) (t : Position) → filter f qs ≡ t ∷ [] → f t ≡ true
found-listed f qs t e = filter-In f qs (subst (λ (xs : List Position). In t xs) (sym e) (at-In (t ∷ []) 0 t (omega arith)))

-- a listed one is a table
pub table-listed : (R : Relations) (m n c : ℕ) (p qs : List ℕ) → is_listed R (m, p) ≡ true → InRange n m → m ≤ 8 → All (InRange m) p → c ≡ R.generators → qs ≡ p → IsTable m c qs
table-listed R m n c p qs e r l h a b = record {
  some_sheet = r.0;
  most_sheets = l;
  full = ap (λ (xs : List ℕ). length xs) b ∙ (eqb-true (length p) (m * R.generators) (and_parts (length p == m * R.generators) (is_least R.generators m p) e).0 ∙ ap (λ (g : ℕ). m * g) (sym a));
  within = subst (λ (xs : List ℕ). All (λ x. (1 ≤ x) × (x ≤ m)) xs) (sym b) h;
}
