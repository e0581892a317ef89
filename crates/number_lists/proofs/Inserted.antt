-- Lemmas on numbers put into a list of different numbers.
use Rattle.std.proofs.Common.{◌≡◌, ◌⊎◌, inl, inr, ℕ, ◌<◌, ◌≤◌, List, [], ◌∷◌, ◌++◌, Bool, true, false, cond, eqb, length, get_or, refl, sym, ◌∙◌, subst, arith}
use Rattle.std.specs.List.{IsDistinct}
use Rattle.std.proofs.lemmas.Cmp.{nat_eq_equiv}
use Rattle.std.proofs.lemmas.Map.Keys.{IsDistinct-push}
use Rattle.std.proofs.lemmas.List.{length_push, get_or_append_left}
use Rattle.number_lists.specs.Words.{holds}
use Rattle.number_lists.specs.Found.{inserted, inserted_all}
use Rattle.number_lists.specs.Members.{In, here, there}
use Rattle.number_lists.proofs.Members.{In-left, In-last, push-In, holds-In}
use Rattle.number_lists.proofs.Marked.{any-holds}

-- two lists, one after the other
pub inserted_all-append : (found xs ys : List ℕ) → inserted_all found (xs ++ ys) ≡ inserted_all (inserted_all found xs) ys
inserted_all-append found [] ys = refl
inserted_all-append found (x ∷ xs) ys = inserted_all-append (inserted found x) xs ys

-- all but the last, then the last
pub inserted_all-push : (found ns : List ℕ) (n : ℕ) → inserted_all found (ns ++ n ∷ []) ≡ inserted (inserted_all found ns) n
inserted_all-push found [] n = refl
inserted_all-push found (m ∷ ms) n = inserted_all-push (inserted found m) ms n

-- what the numbers are after one more
pub record IsMore (found : List ℕ) (n : ℕ) (new : List ℕ) : Type 0 where
  pub kept : (x : ℕ) → In x found → In x new
  pub there : In n new
  pub only : (x : ℕ) → In x new → In x found ⊎ (x ≡ n)
  pub place : (k : ℕ) → k < length found → get_or new k 0 ≡ get_or found k 0
  pub long : length found ≤ length new
  pub distinct : IsDistinct eqb found → IsDistinct eqb new

more-yes : (found : List ℕ) (n : ℕ) → holds found n ≡ true → IsMore found n found
more-yes found n e = record { kept = λ x h. h; there = holds-In found e; only = λ x h. inl h; place = λ k l. refl; long = omega arith; distinct = λ h. h }

more-no : (found : List ℕ) (n : ℕ) → holds found n ≡ false → IsMore found n (found ++ n ∷ [])
more-no found n e = record {
  kept = λ x h. In-left (n ∷ []) h;
  there = In-last found n;
  only = λ x h. push-In found n h;
  place = λ k l. get_or_append_left found (n ∷ []) 0 k l;
  long = omega (arith, length_push found n);
  distinct = λ h. IsDistinct-push nat_eq_equiv found n h (any-holds found n ∙ e);
}

pub is_more : (found : List ℕ) (n : ℕ) → IsMore found n (inserted found n)
is_more found n = by_test (holds found n) refl
  where
    by_test : (b : Bool) → holds found n ≡ b → IsMore found n (cond b found (found ++ n ∷ []))
    by_test true e = more-yes found n e
    by_test false e = more-no found n e

pub record AreMore (found ns new : List ℕ) : Type 0 where
  pub kept : (x : ℕ) → In x found → In x new
  pub added : (x : ℕ) → In x ns → In x new
  pub only : (x : ℕ) → In x new → In x found ⊎ In x ns
  pub place : (k : ℕ) → k < length found → get_or new k 0 ≡ get_or found k 0
  pub long : length found ≤ length new
  pub distinct : IsDistinct eqb found → IsDistinct eqb new

pub are_more : (found ns : List ℕ) → AreMore found ns (inserted_all found ns)
are_more found [] = record { kept = λ x h. h; added = λ x h. elim h [ ]; only = λ x h. inl h; place = λ k l. refl; long = omega arith; distinct = λ h. h }
are_more found (n ∷ ns) =
    let a : IsMore found n (inserted found n) = is_more found n in
    let b : AreMore (inserted found n) ns (inserted_all (inserted found n) ns) = are_more (inserted found n) ns in
    record {
      kept = λ x h. b.kept x (a.kept x h);
      added = λ x h. into x h a.there b;
      only = λ x h. elim (b.only x h) [ inl p ↦ elim (a.only x p) [ inl q ↦ inl q | inr q ↦ inr (subst (λ (z : ℕ). In z (n ∷ ns)) (sym q) here) ] | inr p ↦ inr (there p) ];
      place = λ k l. b.place k (omega (arith, a.long, l)) ∙ a.place k l;
      long = omega (arith, a.long, b.long);
      distinct = λ h. b.distinct (a.distinct h);
    }
  where
    into : (x : ℕ) → In x (n ∷ ns) → In n (inserted found n) → AreMore (inserted found n) ns (inserted_all (inserted found n) ns) → In x (inserted_all (inserted found n) ns)
    into x here m b = b.kept n m
    into x (there h) m b = b.added x h
