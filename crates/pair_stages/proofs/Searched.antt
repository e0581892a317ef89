-- The search for what an extension meets.
use Rattle.std.proofs.Common.{◌≡◌, ◌≢◌, ◌⊎◌, inl, inr, ℕ, ◌+◌, ◌-◌, ◌<◌, ◌≤◌, List, [], ◌∷◌, ◌++◌, Bool, true, false, cond, length, take, map, get_or, refl, ap, sym, ◌∙◌, arith, subst, Contains, All, OnOk, Result, Ok, Err}
use Rattle.std.proofs.lemmas.Bool.{cases_eq, cases_Bool, false≢true}
use Rattle.std.proofs.lemmas.List.{take_more, append-nil, get_or_default}
use Rattle.std.proofs.lemmas.List.FromFn.{get_or-map-range_with_len}
use Rattle.std.specs.List.{AllByRecursion}
use Rattle.std.specs.List.Sorted.{IsStrictlyIncreasing}
use Rattle.small_field.specs.Field.{Ops}
use Rattle.linear_laws.specs.Vectors.{entry}
use Rattle.face_poset.specs.Words.{upto, holds}
use Rattle.face_poset.specs.Poset.{Layers, count, facets_of, cofaces_of}
use Rattle.number_lists.specs.Found.{inserted_all}
use Rattle.number_lists.specs.Members.{In, here, there}
use Rattle.number_lists.proofs.CallerLemmas.{holds-In, In-holds, In-left, In-last, push-In, In-cases, In-Contains, Contains-In, at-In, AreMore, are_more}
use Rattle.vector_field.proofs.CallerLemmas.{coface_at, In-cofaces}
use Rattle.split_laws.specs.declared.kind.Kind.{Kind}
use Rattle.split_laws.specs.declared.kind.Kind.TheVariants.{Critical, Lower, Upper}
use Rattle.split_laws.specs.declared.matching.Match.{Match}
use Rattle.split_laws.specs.Pairs.{HasUpper, kind_at}
use Rattle.pair_stages.specs.Stages.{Stage, IsPaired}
use Rattle.pair_stages.specs.Signed.{sign_element, signed_entry, signed_rows}
use Rattle.pair_stages.specs.Reaches.{upper_index, AreIndexes, HasCofaces, HasMore, IsClosed, IsOrder, IsReach, Misses}
use Rattle.pair_stages.specs.Signed.{AreDegrees}
use Rattle.pair_stages.proofs.KindLemmas.{critical_no_upper, lower_no_upper}
use Rattle.pair_stages.proofs.Pairwise.{triangular_at}
use Rattle.pair_stages.specs.Units.{no_match, pair_at}

-- what holds at Ok
pub on_ok : {T E : Type 0} (r : Result T E) (P Q : Type 0) → (P → Q) → OnOk r P → OnOk r Q
on_ok (Ok x) P Q f h = f h
on_ok (Err e) P Q f h = h

-- ---- what is found more

-- cofaces are cells of the next degree
pub cofaces_within : (space : Layers) (dim cell most : ℕ) (numbers : List ℕ) → numbers ≡ cofaces_of space dim cell → most ≡ count space (dim + 1) → All (λ n. (1 ≤ n) × (n ≤ most)) numbers
cofaces_within space dim cell most numbers e m k d lt =
    let a = coface_at space dim cell numbers e k lt in
    subst (λ (n : ℕ). (1 ≤ n) × (n ≤ most)) (get_or_default numbers k 0 d lt) (a.first, subst (λ (x : ℕ). get_or numbers k 0 ≤ x) (sym m) a.last)

pub more_all : (found numbers now : List ℕ) → now ≡ inserted_all found numbers → HasMore found now
more_all found numbers now e =
    subst (HasMore found) (sym e)
    (let w : AreMore found numbers (inserted_all found numbers) = are_more found numbers in
    record { long = w.long; begins = w.place; kept = w.kept })

pub all_found : (found numbers now : List ℕ) → now ≡ inserted_all found numbers → (n : ℕ) → In n numbers → In n now
all_found found numbers now e n m = subst (In n) (sym e) ((are_more found numbers).added n m)

-- ---- the search

module _ (space : Layers) (dim : ℕ) (s next : Stage) (xs : List ℕ) (place : ℕ) where
  -- the cofaces of the cell were found, and what the first `head` cells lead to
  pub record IsSearch (head : ℕ) (found : List ℕ) : Type 0 where
    pub begun : HasCofaces space dim place found
    pub onward : (k : ℕ) → k < head → k < length found → kind_at next.kinds (get_or found k 0 - 1) ≡ Upper → HasCofaces space dim ((pair_at s.pairs (get_or xs (get_or found k 0 - 1) 0)).lower) found

  pub search_begun : (found : List ℕ) → HasCofaces space dim place found → IsSearch 0 found
  search_begun found h = record { begun = h; onward = λ k lt. absurd (omega arith) }

  pub search_more : (head : ℕ) (found new : List ℕ) (p : ℕ) → head < length found → p ≡ get_or found head 0 - 1 → IsSearch head found → HasMore found new
      → (kind_at next.kinds p ≡ Upper → HasCofaces space dim ((pair_at s.pairs (get_or xs p 0)).lower) new) → IsSearch (head + 1) new
  search_more head found new p l e h m step =
      record {
        begun = λ n c. m.kept n (h.begun n c);
        onward = λ k lt lk u.
            let same : k < length found → get_or new k 0 - 1 ≡ get_or found k 0 - 1 = λ z. ap (λ (x : ℕ). x - 1) (m.begins k z) in
            elim (cases_eq k head) [
              | inl b ↦
                  let q : get_or new k 0 - 1 ≡ p = same (subst (λ (x : ℕ). x < length found) (sym b) l) ∙ (ap (λ (x : ℕ). get_or found x 0 - 1) b ∙ sym e) in
                  subst (λ (x : ℕ). HasCofaces space dim ((pair_at s.pairs (get_or xs x 0)).lower) new) (sym q) (step (ap (kind_at next.kinds) (sym q) ∙ u))
              | inr b ↦
                  let lf : k < length found = omega arith in
                  let q : get_or new k 0 - 1 ≡ get_or found k 0 - 1 = same lf in
                  let old : HasCofaces space dim ((pair_at s.pairs (get_or xs (get_or found k 0 - 1) 0)).lower) found = h.onward k (omega arith) lf (ap (kind_at next.kinds) (sym q) ∙ u) in
                  subst (λ (x : ℕ). HasCofaces space dim ((pair_at s.pairs (get_or xs x 0)).lower) new) (sym q) (λ n c. m.kept n (old n c))
            ];
      }

  pub search_end : (head : ℕ) (found : List ℕ) → length found ≤ head → IsSearch head found → IsClosed space dim s next xs place found
  search_end head found l h = record {
    begun = h.begun;
    onward = λ j lj m u.
        let c = In-Contains m in
        let at : get_or found c.0 0 ≡ j + 1 = get_or_default found c.0 0 (j + 1) c.1 ∙ c.2 in
        let q : get_or found c.0 0 - 1 ≡ j = omega arith in
        subst (λ (x : ℕ). HasCofaces space dim ((pair_at s.pairs (get_or xs x 0)).lower) found) q (h.onward c.0 (omega (arith, c.1)) c.1 (ap (kind_at next.kinds) q ∙ u));
  }

-- ---- the pairs of the uppers that were found

module _ (us : List Kind) (xs : List ℕ) where
  pub record IsListed (seen order : List ℕ) : Type 0 where
    pub all : (j : ℕ) → j < length us → In (j + 1) seen → kind_at us j ≡ Upper → In (get_or xs j 0) order
    pub only : (k : ℕ) → In k order → (j : ℕ) × (j < length us) × In (j + 1) seen × (kind_at us j ≡ Upper) × (get_or xs j 0 ≡ k)

  pub listed_none : IsListed [] []
  listed_none = record { all = λ j lj m. elim m [ ]; only = λ k m. elim m [ ] }

  listed_one : (seen order now : List ℕ) (n index : ℕ) (t : Kind) → 1 ≤ n → n ≤ length us → t ≡ kind_at us (n - 1) → index ≡ get_or xs (n - 1) 0 → now ≡ order ++ upper_index t index → IsListed seen order → IsListed (seen ++ n ∷ []) now
  listed_one seen order now n index t low high et ei en h = by t et en
    where
      skipped : (kind_at us (n - 1) ≡ Upper → ⊥) → now ≡ order → IsListed (seen ++ n ∷ []) now
      skipped other e =
          subst (IsListed (seen ++ n ∷ [])) (sym e)
          (record {
            all = λ j lj m u. elim (push-In seen n m) [
              | inl k ↦ h.all j lj k u
              | inr k ↦ let q : n - 1 ≡ j = omega arith in absurd (other (ap (kind_at us) q ∙ u))
            ];
            only = λ k m. let r = h.only k m in (r.0, r.1, In-left (n ∷ []) r.2, r.3, r.4);
          })

      by : (t : Kind) → t ≡ kind_at us (n - 1) → now ≡ order ++ upper_index t index → IsListed (seen ++ n ∷ []) now
      by Critical g e = skipped (λ u. critical_no_upper (g ∙ u)) (e ∙ append-nil order)
      by Lower g e = skipped (λ u. lower_no_upper (g ∙ u)) (e ∙ append-nil order)
      by Upper g e =
          subst (IsListed (seen ++ n ∷ [])) (sym e)
          (record {
            all = λ j lj m u. elim (push-In seen n m) [
              | inl k ↦ In-left (index ∷ []) (h.all j lj k u)
              | inr k ↦
                  let q : n - 1 ≡ j = omega arith in
                  subst (λ (x : ℕ). In x (order ++ index ∷ [])) (ei ∙ ap (λ (i : ℕ). get_or xs i 0) q) (In-last order index)
            ];
            only = λ k m. elim (push-In order index m) [
              | inl i ↦ let r = h.only k i in (r.0, r.1, In-left (n ∷ []) r.2, r.3, r.4)
              | inr i ↦
                  let q : n - 1 + 1 ≡ n = omega arith in
                  (n - 1, omega arith, subst (λ (x : ℕ). In x (seen ++ n ∷ [])) (sym q) (In-last seen n), sym g, sym ei ∙ sym i)
            ];
          })

  pub listed_more : (found order now : List ℕ) (i n index : ℕ) (t : Kind) → i < length found → n ≡ get_or found i 0 → 1 ≤ n → n ≤ length us → t ≡ kind_at us (n - 1) → index ≡ get_or xs (n - 1) 0 → now ≡ order ++ upper_index t index
      → IsListed (take i found) order → IsListed (take (i + 1) found) now
  listed_more found order now i n index t l e low high et ei en h =
      subst (λ (ys : List ℕ). IsListed ys now) (sym (take_more found i 0 l ∙ ap (λ (x : ℕ). take i found ++ x ∷ []) (sym e)))
      (listed_one (take i found) order now n index t low high et ei en h)

  pub listed_sorted : (found order now : List ℕ) → IsListed found order → IsStrictlyIncreasing now → ((n : ℕ) → Contains order n → Contains now n) → ((n : ℕ) → Contains now n → Contains order n) → IsOrder us xs found now
  listed_sorted found order now h r keeps none = record {
    rises = r;
    all = λ j lj m u. Contains-In (keeps (get_or xs j 0) (In-Contains (h.all j lj m u)));
    only = λ k m. h.only k (Contains-In (none k (In-Contains m)));
  }

-- ---- what was found is all

is_found : (found : List ℕ) (n : ℕ) → In n found ⊎ (In n found → ⊥)
is_found found n = elim (cases_Bool (holds found n)) [ inl m ↦ inl (holds-In found m) | inr m ↦ inr (λ h. false≢true (sym m ∙ In-holds h)) ]

-- a cell above with an entry at a cell is a coface of it
pub coface_of : (F : Ops) (space : Layers) (negative : ℕ → ℕ → ℕ → Bool) (dim i j : ℕ) → i < count space dim → j < count space (dim + 1) → entry (signed_rows F space negative dim) i j ≢ 0
    → In (j + 1) (cofaces_of space dim (i + 1))
coface_of F space negative dim i j li lj ne =
    let at : entry (signed_rows F space negative dim) i j ≡ signed_entry F space negative dim (i + 1) (j + 1) =
    ap (λ (r : List ℕ). get_or r j 0) (get_or-map-range_with_len (λ lower. map (signed_entry F space negative dim lower) (upto (count space (dim + 1)))) 1 (count space dim) i (i + 1) [] li (omega arith))
    ∙ get_or-map-range_with_len (signed_entry F space negative dim (i + 1)) 1 (count space (dim + 1)) j (j + 1) 0 lj (omega arith) in
    by (holds (facets_of space (dim + 1) (j + 1)) (i + 1)) refl at
  where
    by : (b : Bool) → holds (facets_of space (dim + 1) (j + 1)) (i + 1) ≡ b → entry (signed_rows F space negative dim) i j ≡ signed_entry F space negative dim (i + 1) (j + 1) → In (j + 1) (cofaces_of space dim (i + 1))
    by true e at = In-cofaces space dim (i + 1) (j + 1) (omega arith) (omega arith) (holds-In (facets_of space (dim + 1) (j + 1)) e)
    by false e at = absurd (ne (at ∙ ap (λ (b : Bool). cond b (sign_element F (negative (dim + 1) (j + 1) (i + 1))) 0) e))

has_upper_in : (ps : List Match) (order : List ℕ) (k j : ℕ) → In k order → (pair_at ps k).upper ≡ j → HasUpper (map (pair_at ps) order) j
has_upper_in ps [] k j m e = elim m [ ]
has_upper_in ps (o ∷ order) k j m e = elim (In-cases m) [ inl q ↦ inl (ap (λ (n : ℕ). (pair_at ps n).upper) (sym q) ∙ e) | inr q ↦ inr (has_upper_in ps order k j q e) ]

pub map_all : (P : Match → Type 0) (ps : List Match) (order : List ℕ) → ((k : ℕ) → In k order → P (pair_at ps k)) → AllByRecursion P (map (pair_at ps) order)
map_all P ps [] h = tt
map_all P ps (k ∷ order) h = (h k here, map_all P ps order (λ i m. h i (there m)))

module _ (F : Ops) (space : Layers) (negative : ℕ → ℕ → ℕ → Bool) (dim : ℕ) (s next : Stage) (P : IsPaired F s next) (D : AreDegrees F space negative dim s next) (xs : List ℕ) (A : AreIndexes s.pairs next.kinds xs) where
  -- what was not found has no entry at a cell whose cofaces were found
  unmet : (found : List ℕ) (i j : ℕ) → i < length s.kinds → j < length next.kinds → HasCofaces space dim i found → (In (j + 1) found → ⊥) → entry s.rows i j ≡ 0
  unmet found i j li lj h none =
      elim (cases_eq (entry s.rows i j) 0) [
        | inl z ↦ z
        | inr z ↦
            let e : entry s.rows i j ≡ entry (signed_rows F space negative dim) i j = ap (λ (r : List (List ℕ)). entry r i j) D.rows in
            absurd (none (h (j + 1) (coface_of F space negative dim i j (subst (λ (n : ℕ). i < n) D.cells li) (subst (λ (n : ℕ). j < n) D.above lj) (λ w. z (e ∙ w)))))
      ]

  lower_in : (k : ℕ) → k < length s.pairs → (pair_at s.pairs k).lower < length s.kinds
  lower_in k lt = subst (λ (n : ℕ). (pair_at s.pairs k).lower < n) P.matching.long ((triangular_at s.rows s.pairs k no_match P.matching.triangular lt).0)

  pub order_within : (found order : List ℕ) → IsOrder next.kinds xs found order → All (λ k. k < length s.pairs) order
  order_within found order o k d lt =
      let r = o.only (get_or order k d) (at-In order k d lt) in
      subst (λ (n : ℕ). n < length s.pairs) r.4 ((A.upper r.0 r.1 r.3).within)

  misses : (place : ℕ) (found order : List ℕ) → place < length s.kinds → IsClosed space dim s next xs place found → IsOrder next.kinds xs found order → (j : ℕ) → j < length next.kinds → (In (j + 1) found → ⊥) → Misses s.rows place (map (pair_at s.pairs) order) j
  misses place found order lp c o j lj none = (
    unmet found place j lp lj c.begun none,
    map_all (λ q. entry s.rows q.lower j ≡ 0) s.pairs order
        (λ k m.
        let r = o.only k m in
        let lk : k < length s.pairs = subst (λ (n : ℕ). n < length s.pairs) r.4 ((A.upper r.0 r.1 r.3).within) in
        let h : HasCofaces space dim ((pair_at s.pairs k).lower) found = subst (λ (n : ℕ). HasCofaces space dim ((pair_at s.pairs n).lower) found) r.4 (c.onward r.0 r.1 r.2 r.3) in
        unmet found ((pair_at s.pairs k).lower) j (lower_in k lk) lj h none),
  )

  pub reach_is : (place : ℕ) (found order : List ℕ) (qs : List Match) → place < length s.kinds → IsClosed space dim s next xs place found → IsOrder next.kinds xs found order → qs ≡ map (pair_at s.pairs) order → IsReach s next place found qs
  reach_is place found order qs lp c o e = record {
    order = order;
    rises = o.rises;
    within = order_within found order o;
    is = e;
    upper = λ j lj u. elim (is_found found (j + 1)) [
      | inl m ↦ inl (subst (λ (ps : List Match). HasUpper ps j) (sym e) (has_upper_in s.pairs order (get_or xs j 0) j (o.all j lj m u) ((A.upper j lj u).upper)))
      | inr m ↦ inr (subst (λ (ps : List Match). Misses s.rows place ps j) (sym e) (misses place found order lp c o j lj m))
    ];
    critical = λ j lj u. elim (is_found found (j + 1)) [ inl m ↦ inl m | inr m ↦ inr (subst (λ (ps : List Match). Misses s.rows place ps j) (sym e) (misses place found order lp c o j lj m)) ];
  }
