-- A search that runs, turn by turn: what it has placed so far.
use Rattle.std.proofs.Common.{◌≡◌, ◌≢◌, ℕ, zero, suc, ◌+◌, ◌-◌, ◌<◌, ◌≤◌, List, [], ◌∷◌, ◌++◌, length, take, drop, filter, refl, nat_le, ap, arith, sym, ◌∙◌, Bool, true, false}
use Rattle.std.proofs.lemmas.Bool.{ne_eqb}
use Rattle.std.proofs.lemmas.List.{length-drop, take_all}
use Rattle.std.proofs.Math.Seq.{take-add}
use Rattle.std.proofs.lemmas.List.Elements.{filter-append}
use Rattle.live_laws.specs.Live.{Position, Relations, is_listed, live}
use Rattle.cover_search.specs.Searches.{last_of, Searching, left, Goes, HasDone, HasSpent}
use Rattle.cover_search.specs.Searches.{found as found_in}
use Rattle.cover_listing.specs.Nths.{found}
use Rattle.cover_listing.proofs.Firsts.{alone}
use Rattle.cover_listing.proofs.Passing.{none-live}
use Rattle.cover_listing.specs.Passes.{HasRun}

pub record IsRunning (old s : Searching) (B b : ℕ) : Type 0 where
  pub relations : s.relations ≡ old.relations
  pub most : s.most ≡ old.most
  pub within : b ≤ B
  pub few : B - b ≤ length (left old)
  pub rest : left s ≡ drop (B - b) (left old)
  pub position : s.position ≡ last_of old.position (take (B - b) (left old))

-- what is found so far
abbrev pub so_far : Searching → (B b : ℕ) → List Position
so_far old B b = filter (is_listed old.relations) (take (B - b) (left old))

drop-two : {A : Type 0} (k j : ℕ) (xs : List A) → drop (k + j) xs ≡ drop j (drop k xs)
drop-two zero j xs = ap (λ (i : ℕ). drop i xs) (none j)
  where
    none : (j : ℕ) → 0 + j ≡ j
    none j = omega arith
drop-two {A} (suc k) j [] = empty (suc k + j) j
  where
    empty : (i j : ℕ) → drop {A = A} i [] ≡ drop j []
    empty zero zero = refl
    empty zero (suc j) = refl
    empty (suc i) zero = refl
    empty (suc i) (suc j) = refl
drop-two (suc k) j (x ∷ xs) = ap (λ (i : ℕ). drop i (x ∷ xs)) (more k j) ∙ drop-two k j xs
  where
    more : (k j : ℕ) → suc k + j ≡ suc (k + j)
    more k j = omega arith

last-two : (t : Position) (xs ys : List Position) → last_of t (xs ++ ys) ≡ last_of (last_of t xs) ys
last-two t [] ys = refl
last-two t (x ∷ xs) ys = last-two x xs ys

pub runs : (s : Searching) (B : ℕ) → IsRunning s s B B
runs s B =
    let e : B - B ≡ 0 = omega arith in
    record {
      relations = refl;
      most = refl;
      within = omega arith;
      few = omega arith;
      rest = sym (ap (λ (i : ℕ). drop i (left s)) e);
      position = sym (ap (λ (i : ℕ). last_of s.position (take i (left s))) e);
    }

pub none-so-far : (s : Searching) (B : ℕ) → so_far s B B ≡ []
none-so-far s B = let e : B - B ≡ 0 = omega arith in ap (λ (i : ℕ). filter (is_listed s.relations) (take i (left s))) e

module _ (old s new : Searching) (B b c : ℕ) (r : IsRunning old s B b) (l : c ≤ b) (g : Goes s new (b - c)) where
  both : (B - b) + (b - c) ≡ B - c
  both = omega (arith, l, r.within)

  pub turned : IsRunning old new B c
  turned = record {
    relations = g.relations ∙ r.relations;
    most = g.most ∙ r.most;
    within = omega (arith, l, r.within);
    few = omega (arith, l, r.within, r.few, g.within, ap length r.rest, length-drop (B - b) (left old));
    rest = g.left ∙ (ap (drop (b - c)) r.rest ∙ (sym (drop-two (B - b) (b - c) (left old)) ∙ ap (λ (i : ℕ). drop i (left old)) both));
    position = g.position ∙ (ap (λ (q : Position). last_of q (take (b - c) (left s))) r.position
        ∙ (ap (λ (qs : List Position). last_of (last_of old.position (take (B - b) (left old))) (take (b - c) qs)) r.rest
        ∙ (sym (last-two old.position (take (B - b) (left old)) (take (b - c) (drop (B - b) (left old))))
        ∙ (ap (last_of old.position) (sym (take-add (B - b) (b - c) (left old))) ∙ ap (λ (i : ℕ). last_of old.position (take i (left old))) both))));
  }

  pub found-more : so_far old B c ≡ so_far old B b ++ found_in s (b - c)
  found-more =
      ap (λ (i : ℕ). filter (is_listed old.relations) (take i (left old))) (sym both)
      ∙ (ap (filter (is_listed old.relations)) (take-add (B - b) (b - c) (left old))
      ∙ (filter-append (is_listed old.relations) (take (B - b) (left old)) (take (b - c) (drop (B - b) (left old)))
      ∙ (ap (λ (qs : List Position). so_far old B b ++ filter (is_listed old.relations) (take (b - c) qs)) (sym r.rest)
      ∙ ap (λ (P : Relations). so_far old B b ++ filter (is_listed P) (take (b - c) (left s))) (sym r.relations))))

  -- nothing more is left
  module _ (d : HasDone s (b - c)) where
    no-more : drop (B - c) (left old) ≡ []
    no-more = ap (λ (i : ℕ). drop i (left old)) (sym both) ∙ (drop-two (B - b) (b - c) (left old) ∙ (ap (drop (b - c)) (sym r.rest) ∙ d.1))

    pub done-long : length (left old) ≡ B - c
    done-long = let h = turned.few in omega (arith, h, ap length no-more, length-drop (B - c) (left old))

    pub done-all : take B (left old) ≡ take (B - c) (left old)
    done-all = let h = turned.within in take_all B (left old) (omega (arith, done-long, h)) ∙ sym (take_all (B - c) (left old) (omega (arith, done-long)))

    pub done-found : filter (is_listed old.relations) (take B (left old)) ≡ so_far old B b
    done-found = ap (filter (is_listed old.relations)) done-all ∙ (found-more ∙ (ap (λ (qs : List Position). so_far old B b ++ qs) d.0 ∙ all-there (so_far old B b)))
      where
        all-there : (xs : List Position) → xs ++ [] ≡ xs
        all-there [] = refl
        all-there (x ∷ xs) = ap (λ ys. x ∷ ys) (all-there xs)

    pub done-ran : HasRun old new B c
    done-ran = record { position = turned.position ∙ ap (last_of old.position) (sym done-all); budget = let h = turned.within in omega (arith, done-long, h) }

  -- no unit is left
  module _ (d : HasSpent s (b - c) c) where
    all-taken : B - c ≡ B
    all-taken = omega (arith, d.1)

    pub spent-long : B < length (left old)
    spent-long = one (drop (b - c) (left s)) refl d.2
      where
        one : (qs : List Position) → drop (b - c) (left s) ≡ qs → drop (b - c) (left s) ≢ [] → B < length (left old)
        one [] e h = absurd (h e)
        one (q ∷ qs) e h = omega (arith, d.1, l, r.within, ap length e, length-drop (b - c) (left s), ap length r.rest, length-drop (B - b) (left old))

    pub spent-found : filter (is_listed old.relations) (take B (left old)) ≡ so_far old B b
    spent-found = ap (λ (i : ℕ). filter (is_listed old.relations) (take i (left old))) (sym all-taken) ∙ (found-more ∙ (ap (λ (qs : List Position). so_far old B b ++ qs) d.0 ∙ all-there (so_far old B b)))
      where
        all-there : (xs : List Position) → xs ++ [] ≡ xs
        all-there [] = refl
        all-there (x ∷ xs) = ap (λ ys. x ∷ ys) (all-there xs)

    pub spent-ran : HasRun old new B c
    spent-ran = record { position = turned.position ∙ ap (λ (i : ℕ). last_of old.position (take i (left old))) all-taken; budget = omega (arith, d.1, spent-long) }

pub found-is : (P : Relations) (n : ℕ) (t : Position) (B : ℕ) → 1 ≤ P.generators → found P n t B ≡ filter (is_listed P) (take B (live P n t))
found-is P n t B l = ap (λ (b : Bool). elim b [ true ↦ (1, []) ∷ [] | false ↦ filter (is_listed P) (take B (live P n t)) ]) (ne_eqb P.generators 0 (λ e. omega (arith, e, l)))

pub found-bare : (P : Relations) (n : ℕ) (t : Position) (B : ℕ) → P.generators ≡ 0 → found P n t B ≡ (1, []) ∷ []
found-bare P n t B e = rw e refl

-- ---- without generators

none-left : (s : Searching) → s.relations.generators ≡ 0 → left s ≡ []
none-left s e = none-live alone s.relations s.most s.position e

pub bare-ran : (s : Searching) (B : ℕ) → s.relations.generators ≡ 0 → HasRun s s B B
bare-ran s B e = record {
  position = sym (ap (last_of s.position) (take_all B (left s) (omega (arith, ap length (none-left s e))) ∙ none-left s e));
  budget = omega (arith, ap length (none-left s e));
}

pub bare-done : (s : Searching) (B : ℕ) → s.relations.generators ≡ 0 → true ≡ nat_le (length (left s)) B
bare-done s B e = sym (let h : length (left s) ≡ 0 = ap length (none-left s e) in grind (arith, h))

pub nonzero : (n : ℕ) → n ≢ 0 → 1 ≤ n
nonzero zero h = absurd (h refl)
nonzero (suc n) h = omega arith
