-- Pairs that are added by number: a field stays one, its pairs stay, and each cell that was visited is settled.
use Rattle.std.proofs.Common.{◌≡◌, ◌⊎◌, inl, inr, ℕ, zero, suc, ◌+◌, ◌<◌, ◌≤◌, List, ◌∷◌, ◌++◌, Bool, true, false, ◌&&◌, ◌||◌, not, eqb, filter, get_or, Option, Some, None, refl, ap, sym, ◌∙◌, subst, arith, if◌then◌else◌}
use Rattle.std.specs.List.{list_all}
use Rattle.std.proofs.lemmas.Bool.{eq-eqb, or_left, or_right, or_parts}
use Rattle.face_poset.specs.declared.cells.Pair.{Pair}
use Rattle.number_lists.specs.Words.{holds}
use Rattle.number_lists.specs.Members.{In, here, there}
use Rattle.face_poset.specs.Poset.{count, cofaces_of}
use Rattle.number_lists.proofs.CallerLemmas.{In-filter, filter-In, In-map, In-holds, holds-In, same_bool, filter_same}
use Rattle.vector_field.specs.Pairs.{pair, is_used, Field, IsValid, IsFieldOf}
use Rattle.vector_field.specs.Pairings.{is_late, inserted}
use Rattle.vector_field.specs.Paths.{Leads, arrived, along, lowers_of, leads_to, has_path}
use Rattle.vector_field.specs.Maximal.{is_settled}
use Rattle.vector_field.specs.Searches.{IsLed}
use Rattle.vector_field.specs.Stages.{IsAbove, Keeps, AreSettled, led, first_open, put_open, filled_at, filled_upto, filled}
use Rattle.vector_field.proofs.Valid.{used-In}
use Rattle.vector_field.proofs.Paths.{leads-sound}
use Rattle.vector_field.proofs.MaximalTest.{incident-from, incident-coface}
use Rattle.vector_field.proofs.Inserted.{inserted-kept, inserted-new, inserted-only, inserted-valid}
use Rattle.vector_field.proofs.Settled.{are-settled-more, settled-next}
use Rattle.vector_field.proofs.FirstOpen.{all_pass, failing}

-- ---- what leads to a cell

module _ (space : List (List (List ℕ))) (pairs : List Pair) (dim last : ℕ) where
  -- what leads there is the cell or a lower
  node : {f : ℕ} → Leads space pairs dim last f → In f (last ∷ lowers_of pairs dim)
  node arrived = here
  node (along p m d o h) = there (In-map (λ (q : Pair). q.lower) (In-filter (λ (q : Pair). eqb q.dim dim) m (eq-eqb p.dim dim d)))

  led-is : IsLed space pairs dim last (led space pairs dim last)
  led-is f =
      same_bool (holds (led space pairs dim last) f) (leads_to space pairs dim last f)
      (λ e. filter-In (leads_to space pairs dim last) (last ∷ lowers_of pairs dim) (holds-In (led space pairs dim last) e))
      (λ e. In-holds (In-filter (leads_to space pairs dim last) (node (leads-sound space pairs dim last f e)) e))

-- lists with the same members put a pair at the same place
inserted_same : (pairs : List Pair) (p : Pair) (xs ys : List ℕ) → ((f : ℕ) → holds xs f ≡ holds ys f) → inserted pairs p xs ≡ inserted pairs p ys
inserted_same pairs p xs ys h =
    let late : (q : Pair) → is_late p.dim xs q ≡ is_late p.dim ys q = λ q. ap (λ (b : Bool). eqb q.dim p.dim && b) (h q.lower) in
    ap (λ (ps : List Pair). ps ++ p ∷ filter (is_late p.dim xs) pairs) (filter_same (λ q. not (is_late p.dim xs q)) (λ q. not (is_late p.dim ys q)) pairs (λ k d l. ap not (late (get_or pairs k d))))
    ∙ ap (λ (ps : List Pair). filter (λ q. not (is_late p.dim ys q)) pairs ++ p ∷ ps) (filter_same (is_late p.dim xs) (is_late p.dim ys) pairs (λ k d l. late (get_or pairs k d)))

-- what was found by a search puts it there too
pub found-put : (space : List (List (List ℕ))) (pairs : List Pair) (dim lower upper : ℕ) (found : List ℕ) → IsLed space pairs dim lower found → inserted pairs (pair dim lower upper) found ≡ put_open space dim pairs lower (Some upper)
found-put space pairs dim lower upper found h =
    inserted_same pairs (pair dim lower upper) found (led space pairs dim lower) (λ f. h f ∙ sym (led-is space pairs dim lower f))

module _ (space : List (List (List ℕ))) (dim : ℕ) (low : dim < 3) where
  abbrev row : List Pair → (lower : ℕ) → Bool
  row ps lower = is_used ps dim lower || list_all (is_settled space ps dim lower) (cofaces_of space dim lower)

  -- more pairs of the dimension
  pub record IsMorePairs (old new : List Pair) : Type 0 where
    pub valid : IsValid space new
    pub keeps : Keeps old new
    pub only : (p : Pair) → In p new → In p old ⊎ (p.dim ≡ dim)

  same_pairs : (ps : List Pair) → IsValid space ps → IsMorePairs ps ps
  same_pairs ps v = record { valid = v; keeps = λ p m. m; only = λ p m. inl m }

  record IsStep (old new : List Pair) (lower : ℕ) : Type 0 where
    more : IsMorePairs old new
    settled : row new lower ≡ true

  step_open : (ps : List Pair) (lower : ℕ) → 1 ≤ lower → lower ≤ count space dim → IsValid space ps → is_used ps dim lower ≡ false → (o : Option ℕ) → first_open space ps dim lower ≡ o → IsStep ps (put_open space dim ps lower o) lower
  step_open ps lower a b v u None e = record {
    more = same_pairs ps v;
    settled = or_right (is_used ps dim lower) (list_all (is_settled space ps dim lower) (cofaces_of space dim lower)) (all_pass (is_settled space ps dim lower) (cofaces_of space dim lower) e);
  }
  step_open ps lower a b v u (Some upper) e =
      let f = failing (is_settled space ps dim lower) (cofaces_of space dim lower) upper e in
      let w = or_parts (is_used ps (dim + 1) upper) (has_path space ps dim upper lower) f.1 in
      let p : Pair = pair dim lower upper in
      let new : List Pair = inserted ps (pair dim lower upper) (led space ps dim lower) in
      record {
        more = record {
          valid = inserted-valid space ps dim lower upper (led space ps dim lower) v (incident-from space (pair dim lower upper) (incident-coface space dim lower upper low a b f.0)) u w.0 w.1 (led-is space ps dim lower);
          keeps = λ q m. inserted-kept ps (pair dim lower upper) (led space ps dim lower) m;
          only = λ q m. elim (inserted-only ps (pair dim lower upper) (led space ps dim lower) m) [ inl k ↦ inl k | inr k ↦ inr (ap (λ (r : Pair). r.dim) k) ];
        };
        settled = or_left (is_used new dim lower) (list_all (is_settled space new dim lower) (cofaces_of space dim lower)) (used-In dim lower (inserted-new ps (pair dim lower upper) (led space ps dim lower)) (inl (refl, refl)));
      }

  abbrev chosen_at : List Pair → (lower : ℕ) → Bool → List Pair
  chosen_at ps lower b = if b then ps else put_open space dim ps lower (first_open space ps dim lower)

  -- a cell that is in a pair, and one that is in none
  pub filled-used : (ps : List Pair) (lower : ℕ) → is_used ps dim lower ≡ true → filled_at space dim ps lower ≡ ps
  filled-used ps lower e = ap (λ (b : Bool). chosen_at ps lower b) e

  pub filled-unused : (ps : List Pair) (lower : ℕ) → is_used ps dim lower ≡ false → filled_at space dim ps lower ≡ put_open space dim ps lower (first_open space ps dim lower)
  filled-unused ps lower e = ap (λ (b : Bool). chosen_at ps lower b) e

  step_at : (ps : List Pair) (lower : ℕ) → 1 ≤ lower → lower ≤ count space dim → IsValid space ps → IsStep ps (filled_at space dim ps lower) lower
  step_at ps lower a b v = by (is_used ps dim lower) refl
    where
      by : (u : Bool) → is_used ps dim lower ≡ u → IsStep ps (filled_at space dim ps lower) lower
      by true e =
          subst (λ (qs : List Pair). IsStep ps qs lower) (sym (filled-used ps lower e))
          (record { more = same_pairs ps v; settled = or_left (is_used ps dim lower) (list_all (is_settled space ps dim lower) (cofaces_of space dim lower)) e })
      by false e = subst (λ (qs : List Pair). IsStep ps qs lower) (sym (filled-unused ps lower e)) (step_open ps lower a b v e (first_open space ps dim lower) refl)

  -- the first cells, so many, are visited
  pub record IsFilled (old new : List Pair) (first : ℕ) : Type 0 where
    pub more : IsMorePairs old new
    pub settled : AreSettled space new dim first

  pub upto-is : (ps : List Pair) (first : ℕ) → first ≤ count space dim → IsValid space ps → IsFilled ps (filled_upto space dim ps first) first
  upto-is ps zero l v = record { more = same_pairs ps v; settled = λ lower a b. absurd (omega (arith, a, b)) }
  upto-is ps (suc first) l v = next (upto-is ps first (omega (arith, l)) v)
    where
      next : IsFilled ps (filled_upto space dim ps first) first → IsFilled ps (filled_at space dim (filled_upto space dim ps first) (suc first)) (suc first)
      next h =
          let old : List Pair = filled_upto space dim ps first in
          let s : IsStep old (filled_at space dim old (suc first)) (suc first) = step_at old (suc first) (omega arith) l h.more.valid in
          let e : first + 1 ≡ suc first = omega arith in
          record {
            more = record {
              valid = s.more.valid;
              keeps = λ p m. s.more.keeps p (h.more.keeps p m);
              only = λ p m. elim (s.more.only p m) [ inl k ↦ h.more.only p k | inr k ↦ inr k ];
            };
            settled = subst (AreSettled space (filled_at space dim old (suc first)) dim) e
                (settled-next space (filled_at space dim old (suc first)) dim first (are-settled-more space old (filled_at space dim old (suc first)) s.more.keeps dim first h.settled)
                (subst (λ (n : ℕ). row (filled_at space dim old (suc first)) n ≡ true) (sym e) s.settled));
          }

  -- all cells are visited
  pub filled-is : (ps : List Pair) → IsValid space ps → IsFilled ps (filled space dim ps) (count space dim)
  filled-is ps v = upto-is ps (count space dim) (omega arith) v

  -- one cell more
  pub upto-next : (ps : List Pair) (first : ℕ) → filled_upto space dim ps (first + 1) ≡ filled_at space dim (filled_upto space dim ps first) (first + 1)
  upto-next ps first =
      let e : first + 1 ≡ suc first = omega arith in
      subst (λ (n : ℕ). filled_upto space dim ps n ≡ filled_at space dim (filled_upto space dim ps first) n) (sym e) refl

  -- a field on the way
  pub upto-field : (old new : Field) (first : ℕ) → first ≤ count space dim → IsFieldOf space old → new.counts ≡ old.counts → new.pairs ≡ filled_upto space dim old.pairs first → IsFieldOf space new
  upto-field old new first l h e f = record { counts = e ∙ h.counts; valid = subst (IsValid space) (sym f) (upto-is old.pairs first l h.valid).more.valid }

  -- with pairs of the dimension and above it alone
  pub filled-above : (old new : Field) → IsAbove space dim old → new.counts ≡ old.counts → new.pairs ≡ filled space dim old.pairs → IsAbove space dim new
  filled-above old new h e f =
      let k : IsFilled old.pairs (filled space dim old.pairs) (count space dim) = filled-is old.pairs h.valid in
      record {
        counts = e ∙ h.counts;
        valid = subst (IsValid space) (sym f) k.more.valid;
        above = λ p m. elim (k.more.only p (subst (λ (ps : List Pair). In p ps) f m)) [ inl i ↦ h.above p i | inr d ↦ omega (arith, d) ];
      }
