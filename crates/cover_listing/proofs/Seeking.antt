-- One table of a search by its number.
use Rattle.std.proofs.Common.{◌≡◌, ◌≢◌, ℕ, zero, suc, ◌+◌, ◌-◌, ◌<◌, ◌≤◌, List, [], ◌∷◌, ◌++◌, length, take, drop, filter, refl, ap, arith, sym, ◌∙◌, Bool, true, false, get_or, length-append}
use Rattle.std.specs.Prelude.{nat_lt, nat_le, if◌then◌else◌}
use Rattle.std.proofs.Math.Seq.{take-add}
use Rattle.std.proofs.lemmas.List.{append_assoc}
use Rattle.std.proofs.lemmas.List.Elements.{filter-append}
use Rattle.live_laws.specs.Live.{Position, is_listed, live}
use Rattle.cover_search.specs.Searches.{Searching, left, Goes, HasFound, HasDone, HasSpent}
use Rattle.cover_search.specs.Searches.{found as found_in}
use Rattle.cover_listing.specs.declared.nth.Nth.{Nth}
use Rattle.cover_listing.specs.declared.nth.Nth.TheVariants.{Found, Only, Spent}
use Rattle.cover_listing.specs.Nths.{found, IsNth}
use Rattle.cover_listing.proofs.Firsts.{alone}
use Rattle.cover_listing.proofs.Passing.{none-live}
use Rattle.cover_listing.proofs.Cuts.{get-behind}
use Rattle.cover_listing.proofs.Running.{IsRunning, so_far, found-more, found-is, done-long, done-found, spent-long, spent-found, spent-ran, found-bare}

-- a unit went into what was found
pub takes-units : (s new : Searching) (k : ℕ) → HasFound s new k → 1 ≤ k
takes-units s new k h = one k h
  where
    one : (k : ℕ) → found_in s k ≡ new.position ∷ [] → 1 ≤ k
    one zero h = absurd (grind (arith, h))
    one (suc k) h = omega arith

choose-found : (B index : ℕ) (a b : Bool) (x : Nth) → a ≡ true → (if a then Found else if b then Spent else x) ≡ Found
choose-found B index a b x e = rw e refl

choose-spent : (a b : Bool) (x : Nth) → a ≡ false → b ≡ true → (if a then Found else if b then Spent else x) ≡ Spent
choose-spent a b x e f = rw (e, f) refl

choose-only : (a b : Bool) (x : Nth) → a ≡ false → b ≡ false → (if a then Found else if b then Spent else x) ≡ x
choose-only a b x e f = rw (e, f) refl

module _ (old s new : Searching) (B b c : ℕ) (r : IsRunning old s B b) (l : c ≤ b) (g : Goes s new (b - c)) (some : 1 ≤ old.relations.generators) where
  pub found-one : HasFound s new (b - c) → so_far old B c ≡ so_far old B b ++ new.position ∷ []
  found-one h = found-more old s new B b c r l g ∙ ap (λ (qs : List Position). so_far old B b ++ qs) h

  whole : found old.relations old.most old.position B ≡ so_far old B c ++ filter (is_listed old.relations) (take c (drop (B - c) (left old)))
  whole =
      found-is old.relations old.most old.position B some
      ∙ (ap (λ (i : ℕ). filter (is_listed old.relations) (take i (left old))) sum
      ∙ (ap (filter (is_listed old.relations)) (take-add (B - c) c (left old)) ∙ filter-append (is_listed old.relations) (take (B - c) (left old)) (take c (drop (B - c) (left old)))))
    where
      sum : B ≡ (B - c) + c
      sum = omega (arith, l, r.within)

  more : List Position
  more = filter (is_listed old.relations) (take c (drop (B - c) (left old)))

  pub by-place : HasFound s new (b - c) → found old.relations old.most old.position B ≡ so_far old B b ++ (new.position ∷ filter (is_listed old.relations) (take c (drop (B - c) (left old))))
  by-place h =
      whole ∙ (ap (λ (qs : List Position). qs ++ filter (is_listed old.relations) (take c (drop (B - c) (left old)))) (found-one h)
      ∙ append_assoc (so_far old B b) (new.position ∷ []) (filter (is_listed old.relations) (take c (drop (B - c) (left old)))))

  pub is-found : (index : ℕ) → HasFound s new (b - c) → new.table ≡ new.position → index ≡ length (so_far old B b) + 1 → IsNth old new B index Found
  is-found index h t e =
      let long : length (found old.relations old.most old.position B) ≡ length (so_far old B b) + suc (length (filter (is_listed old.relations) (take c (drop (B - c) (left old)))))
      = ap length (by-place h) ∙ length-append (so_far old B b) (new.position ∷ filter (is_listed old.relations) (take c (drop (B - c) (left old)))) in
      let fits : nat_le index (length (found old.relations old.most old.position B)) ≡ true = grind (arith, long, e) in
      record {
        is = sym (choose-found B index (nat_le index (length (found old.relations old.most old.position B))) (nat_lt B (length (live old.relations old.most old.position))) (Only (length (found old.relations old.most old.position B))) fits);
        table = λ _. t ∙ sym (ap (λ (qs : List Position). get_or qs (index - 1) (0, [])) (by-place h)
            ∙ get-behind (so_far old B b) (new.position ∷ filter (is_listed old.relations) (take c (drop (B - c) (left old)))) (index - 1) 0 (0, []) (0, []) (omega (arith, e)) (omega arith));
        position = λ e. absurd (grind (arith, e));
      }

  pub is-only : (index count : ℕ) → HasDone s (b - c) → count ≡ length (so_far old B b) → count < index → IsNth old new B index (Only count)
  is-only index count d e below =
      let long : length (found old.relations old.most old.position B) ≡ count = ap length (found-is old.relations old.most old.position B some ∙ done-found old s new B b c r l g d) ∙ sym e in
      let many = done-long old s new B b c r l g d in
      let over : nat_le index (length (found old.relations old.most old.position B)) ≡ false = grind (arith, long, below) in
      let enough : nat_lt B (length (live old.relations old.most old.position)) ≡ false = grind (arith, many) in
      record {
        is = ap Only (sym long) ∙ sym (choose-only (nat_le index (length (found old.relations old.most old.position B))) (nat_lt B (length (live old.relations old.most old.position))) (Only (length (found old.relations old.most old.position B))) over enough);
        table = λ e. absurd (grind (arith, e));
        position = λ e. absurd (grind (arith, e));
      }

  pub is-spent : (index count : ℕ) → HasSpent s (b - c) c → count ≡ length (so_far old B b) → count < index → IsNth old new B index Spent
  is-spent index count d e below =
      let long : length (found old.relations old.most old.position B) ≡ count = ap length (found-is old.relations old.most old.position B some ∙ spent-found old s new B b c r l g d) ∙ sym e in
      let many = spent-long old s new B b c r l g d in
      let over : nat_le index (length (found old.relations old.most old.position B)) ≡ false = grind (arith, long, below) in
      let short : nat_lt B (length (live old.relations old.most old.position)) ≡ true = grind (arith, many) in
      record {
        is = sym (choose-spent (nat_le index (length (found old.relations old.most old.position B))) (nat_lt B (length (live old.relations old.most old.position))) (Only (length (found old.relations old.most old.position B))) over short);
        table = λ e. absurd (grind (arith, e));
        position = λ _. (spent-ran old s new B b c r l g d).position;
      }

-- without generators there is one
pub bare-only : (s : Searching) (B index : ℕ) → s.relations.generators ≡ 0 → 1 ≤ index → index ≢ 1 → IsNth s s B index (Only 1)
bare-only s B index e low other =
    let long : length (found s.relations s.most s.position B) ≡ 1 = ap length (found-bare s.relations s.most s.position B e) in
    let none : length (live s.relations s.most s.position) ≡ 0 = ap length (none-live alone s.relations s.most s.position e) in
    let over : nat_le index (length (found s.relations s.most s.position B)) ≡ false = grind (arith, long, low, other) in
    let enough : nat_lt B (length (live s.relations s.most s.position)) ≡ false = grind (arith, none) in
    record {
      is = ap Only (sym long) ∙ sym (choose-only (nat_le index (length (found s.relations s.most s.position B))) (nat_lt B (length (live s.relations s.most s.position))) (Only (length (found s.relations s.most s.position B))) over enough);
      table = λ e. absurd (grind (arith, e));
      position = λ e. absurd (grind (arith, e));
    }
