-- The listing by counts: one turn.
use Rattle.std.proofs.Common.{◌≡◌, ◌≢◌, inl, inr, ℕ, zero, suc, ◌+◌, ◌-◌, ◌<◌, ◌≤◌, List, [], ◌∷◌, ◌++◌, length, map, filter, get_or, Bool, true, false, cond, not, ◌&&◌, nat_le, eqb, option_map, Option, Some, None, refl, ap, sym, ◌∙◌, subst, arith}
use Rattle.std.specs.List.{find, list_all}
use Rattle.std.specs.List.Sorted.{IsStrictlyIncreasing}
use Rattle.std.proofs.lemmas.Bool.{both_ways, and_parts, cases_lt, eqb-true, eq-eqb, ne_eqb, le-leb, leb-true, false_from_ne_true, false≢true, not-true, not_from_false}
use Rattle.std.proofs.lemmas.List.{length-map, append_assoc, append-nil}
use Rattle.std.proofs.lemmas.List.Sums.{length-filter}
use Rattle.std.proofs.lemmas.List.Kept.{IsStrictlyIncreasing-filter}
use Rattle.face_poset.specs.declared.cells.Pair.{Pair}
use Rattle.number_lists.specs.Words.{upto, holds}
use Rattle.number_lists.specs.Members.{In, here}
use Rattle.number_lists.proofs.CallerLemmas.{In-filter, filter-In, In-inside, In-holds, holds-In, all-In, In-all, at-In, In-upto, upto-In, same_bool, filter_same, All-upto, increasing-upto, holds-filter, holds-upto, same_increasing, count-increasing, list_any-map, filter-map}
use Rattle.face_poset.specs.Poset.{count, facets_of, cofaces_of}
use Rattle.pair_laws.specs.Tree.{Link}
use Rattle.pair_laws.specs.Ranks.{is_lower, arranged}
use Rattle.pair_laws.specs.Ranks.{comes_before as goes_before, without as without_link}
use Rattle.vector_field.specs.Pairs.{pair}
use Rattle.chosen_field.specs.Chosen.{link, without, in_turn}
use Rattle.chosen_field.specs.Rests.{is_single}
use Rattle.chosen_field.specs.Listings.{at, positive_at, links_at, leaving, AreUppers, AreLowers, AreWaits}
use Rattle.chosen_field.proofs.Lists.{filter-swap, find_same, find-passes, filter-both, without-fewer}
use Rattle.chosen_field.proofs.Uppers.{at-past}
use Rattle.chosen_field.proofs.InOrder.{all-agree}

-- ---- lists

module _ {X : Type 0} where
  -- the first that passes both tests is the first that passes one among those that pass the other
  pub find-both : (p q : X → Bool) (xs : List X) → find (λ x. p x && q x) xs ≡ find q (filter p xs)
  find-both p q [] = refl
  find-both p q (x ∷ xs) = by (find-both p q xs) (p x) refl
    where
      by : find (λ x. p x && q x) xs ≡ find q (filter p xs) → (a : Bool) → p x ≡ a → find (λ x. p x && q x) (x ∷ xs) ≡ find q (filter p (x ∷ xs))
      by h true e = rw e (ap (λ (o : Option X). cond (q x) (Some x) o) h)
      by h false e = rw e h

find-map : {X Y : Type 0} (p : Y → Bool) (f : X → Y) (xs : List X) → find p (map f xs) ≡ option_map f (find (λ x. p (f x)) xs)
find-map p f [] = refl
find-map p f (x ∷ xs) = by (find-map p f xs) (p (f x)) refl
  where
    by : find p (map f xs) ≡ option_map f (find (λ y. p (f y)) xs) → (b : Bool) → p (f x) ≡ b → find p (map f (x ∷ xs)) ≡ option_map f (find (λ y. p (f y)) (x ∷ xs))
    by h true e = rw e refl
    by h false e = rw e h

-- none waits exactly where the number of those that it waits for is 0
none_waits : (ys left : List ℕ) → list_all (λ x. not (holds left x)) ys ≡ eqb (length (filter (holds ys) left)) 0
none_waits ys left = same_bool (list_all (λ x. not (holds left x)) ys) (eqb (length (filter (holds ys) left)) 0) to from
  where
    no_member : (zs : List ℕ) → ((z : ℕ) → In z zs → ⊥) → eqb (length zs) 0 ≡ true
    no_member [] k = refl
    no_member (z ∷ zs) k = absurd (k z here)

    to : list_all (λ x. not (holds left x)) ys ≡ true → eqb (length (filter (holds ys) left)) 0 ≡ true
    to e = no_member (filter (holds ys) left) (λ z m. false≢true (sym (not-true (holds left z) (all-In (λ x. not (holds left x)) e (holds-In ys (filter-In (holds ys) left m)))) ∙ In-holds (In-inside (holds ys) left m)))

    empty : (zs : List ℕ) → eqb (length zs) 0 ≡ true → (z : ℕ) → In z zs → ⊥
    empty [] e z m = elim m [ ]
    empty (y ∷ zs) e z m = omega (arith, eqb-true (length (y ∷ zs)) 0 e)

    from : eqb (length (filter (holds ys) left)) 0 ≡ true → list_all (λ x. not (holds left x)) ys ≡ true
    from e = In-all (λ x. not (holds left x)) ys (λ x m. by (holds left x) refl m)
      where
        by : {x : ℕ} (b : Bool) → holds left x ≡ b → In x ys → not (holds left x) ≡ true
        by {x} true h m = absurd (empty (filter (holds ys) left) e x (In-filter (holds ys) (holds-In left h) (In-holds m)))
        by {x} false h m = ap not h

pub some-length : {A : Type 0} {x : A} (xs : List A) → In x xs → 1 ≤ length xs
some-length [] m = elim m [ ]
some-length (x ∷ xs) m = omega arith

-- ---- the cells that are left

module _ (numbers : List ℕ) where
  pub positive-rise : IsStrictlyIncreasing (positive_at numbers)
  positive-rise = IsStrictlyIncreasing-filter (λ c. nat_le 1 (at numbers c)) (upto (length numbers)) (increasing-upto (length numbers))

  pub In-positive : (c : ℕ) → 1 ≤ c → 1 ≤ at numbers c → In c (positive_at numbers)
  In-positive c a l = In-filter (λ d. nat_le 1 (at numbers d)) (In-upto (length numbers) c a (omega (arith, a, at-past numbers c l))) (le-leb 1 (at numbers c) l)

  pub positive-In : (c : ℕ) → In c (positive_at numbers) → (1 ≤ c) × (c ≤ length numbers) × (1 ≤ at numbers c)
  positive-In c m =
      let r = upto-In (length numbers) c (In-inside (λ d. nat_le 1 (at numbers d)) (upto (length numbers)) m) in
      (r.0, r.1, leb-true 1 (at numbers c) (filter-In (λ d. nat_le 1 (at numbers d)) (upto (length numbers)) m))

-- ---- which may come next

module _ (F : ℕ → List ℕ) (uppers : List ℕ) where
  abbrev ready : List ℕ → ℕ → Bool
  ready left y = goes_before F (link y (at uppers y)) (links_at uppers left)

  ready-is : (left : List ℕ) (y : ℕ) → ready left y ≡ list_all (λ g. not (holds left g)) (filter (λ g. not (eqb g y)) (F (at uppers y)))
  ready-is left y =
      all-agree (λ g. not (is_lower (links_at uppers left) g)) (λ g. not (holds left g)) (filter (λ g. not (eqb g y)) (F (at uppers y))) (λ g. ap not (list_any-map (λ (l : Link). eqb l.lower g) (λ c. link c (at uppers c)) left))

  -- a cell that is left may come where it is the only facet of its upper that is left
  alone : (left : List ℕ) (y : ℕ) → IsStrictlyIncreasing left → holds left y ≡ true → holds (F (at uppers y)) y ≡ true → eqb (length (filter (holds (F (at uppers y))) left)) 1 ≡ ready left y
  alone left y rise m i =
      let ys : List ℕ = F (at uppers y) in
      let rest : List ℕ = filter (λ g. not (eqb g y)) (F (at uppers y)) in
      let less : length (filter (holds ys) (without left y)) + cond (holds ys y) 1 0 ≡ length (filter (holds ys) left) = without-fewer (holds (F (at uppers y))) left y rise m in
      let one : ◌≡◌ {A = ℕ} (cond (holds ys y) 1 0) 1 = ap (λ (b : Bool). cond {A = ℕ} b 1 0) i in
      let same : filter (holds ys) (without left y) ≡ filter (holds rest) left =
      filter-swap (holds (F (at uppers y))) (λ c. not (eqb c y)) left
      ∙ sym (filter-both (λ c. not (eqb c y)) (holds (F (at uppers y))) (holds (filter (λ g. not (eqb g y)) (F (at uppers y)))) left (λ k d l. holds-filter (λ g. not (eqb g y)) (F (at uppers y)) (get_or left k d))) in
      let more : length (filter (holds ys) left) ≡ length (filter (holds rest) left) + 1 = omega (arith, less, one, ap (λ (xs : List ℕ). length xs) same) in
      ap (λ (n : ℕ). eqb n 1) more ∙ (one_more (length (filter (holds rest) left)) ∙ sym (ready-is left y ∙ none_waits rest left))
    where
      one_more : (n : ℕ) → eqb (n + 1) 1 ≡ eqb n 0
      one_more n = same_bool (eqb (n + 1) 1) (eqb n 0) (λ e. eq-eqb n 0 (omega (arith, eqb-true (n + 1) 1 e))) (λ e. eq-eqb (n + 1) 1 (omega (arith, eqb-true n 0 e)))

  module _ (waits : List ℕ) (w : AreWaits F uppers waits) (within : (c : ℕ) → 1 ≤ c → 1 ≤ at uppers c → In c (F (at uppers c))) where
    pub next-ready : find (is_single waits) (upto (length waits)) ≡ find (ready (positive_at waits)) (positive_at waits)
    next-ready =
        find_same (is_single waits) (λ y. nat_le 1 (at waits y) && ready (positive_at waits) y) (upto (length waits))
        (λ k d l. let r = All-upto (length waits) k d l in here_is (get_or (upto (length waits)) k d) r.0)
        ∙ find-both (λ y. nat_le 1 (at waits y)) (ready (positive_at waits)) (upto (length waits))
      where
        here_is : (y : ℕ) → 1 ≤ y → is_single waits y ≡ (nat_le 1 (at waits y) && ready (positive_at waits) y)
        here_is y a = elim (cases_lt 0 (at waits y)) [
          | inl l ↦
              let m : In y (positive_at waits) = In-positive waits y a (omega (arith, l)) in
              let i : In y (F (at uppers y)) = within y a (w.inside y a (omega (arith, l))) in
              ap (λ (b : Bool). b && eqb (at waits y) 1) (le-leb 1 y a)
              ∙ (ap (λ (n : ℕ). eqb n 1) (w.counts y a (omega (arith, l)))
              ∙ (alone (positive_at waits) y (positive-rise waits) (In-holds m) (In-holds i)
              ∙ ap (λ (b : Bool). b && ready (positive_at waits) y) (sym (le-leb 1 (at waits y) (omega (arith, l))))))
          | inr l ↦
              ap (λ (b : Bool). b && eqb (at waits y) 1) (le-leb 1 y a)
              ∙ (ne_eqb (at waits y) 1 (λ e. omega (arith, e, l)) ∙ ap (λ (b : Bool). b && ready (positive_at waits) y) (sym (false_from_ne_true (nat_le 1 (at waits y)) (λ e. omega (arith, leb-true 1 (at waits y) e, l)))))
        ]

-- ---- one turn of the definition

-- a number that is there goes
without-shorter : (xs : List ℕ) (b : ℕ) → IsStrictlyIncreasing xs → holds xs b ≡ true → length xs ≡ suc (length (without xs b))
without-shorter xs b r h =
    let f : length (filter (λ _. true) (without xs b)) + 1 ≡ length (filter (λ _. true) xs) = without-fewer (λ _. true) xs b r h in
    omega (arith, f, ap (λ (ys : List ℕ). length ys) (all_pass xs), ap (λ (ys : List ℕ). length ys) (all_pass (without xs b)))
  where
    all_pass : (ys : List ℕ) → filter (λ _. true) ys ≡ ys
    all_pass [] = refl
    all_pass (y ∷ ys) = ap (λ (zs : List ℕ). y ∷ zs) (all_pass ys)

module _ (space : List (List (List ℕ))) (dim : ℕ) (uppers : List ℕ) where
  abbrev next_turn : (n : ℕ) → List Link → Option Link → List Link
  next_turn n ls o = elim o [ None ↦ [] | Some p ↦ p ∷ arranged (facets_of space (dim + 1)) n (without_link p.lower ls) ]

  pub turn-next : (left : List ℕ) (y : ℕ) → IsStrictlyIncreasing left → holds left y ≡ true → find (ready (facets_of space (dim + 1)) uppers left) left ≡ Some y
      → in_turn space dim (links_at uppers left) ≡ pair dim y (at uppers y) ∷ in_turn space dim (links_at uppers (without left y))
  turn-next left y rise m e =
      let ls : List Link = links_at uppers left in
      let found : find (λ p. goes_before (facets_of space (dim + 1)) p (links_at uppers left)) (links_at uppers left) ≡ Some (link y (at uppers y)) =
      find-map (λ p. goes_before (facets_of space (dim + 1)) p (links_at uppers left)) (λ c. link c (at uppers c)) left ∙ ap (λ (o : Option ℕ). option_map (λ c. link c (at uppers c)) o) e in
      let rest : without_link y (links_at uppers left) ≡ links_at uppers (without left y) = filter-map (λ (q : Link). not (eqb q.lower y)) (λ c. link c (at uppers c)) left in
      let long : length (links_at uppers left) ≡ suc (length (links_at uppers (without left y))) =
      length-map left (λ c. link c (at uppers c)) ∙ (without-shorter left y rise m ∙ ap (λ (n : ℕ). suc n) (sym (length-map (without left y) (λ c. link c (at uppers c))))) in
      ap (λ (n : ℕ). map (λ (l : Link). pair dim l.lower l.upper) (arranged (facets_of space (dim + 1)) n (links_at uppers left))) long
      ∙ (ap (λ (o : Option Link). map (λ (l : Link). pair dim l.lower l.upper) (next_turn (length (links_at uppers (without left y))) (links_at uppers left) o)) found
      ∙ ap (λ (ks : List Link). pair dim y (at uppers y) ∷ map (λ (l : Link). pair dim l.lower l.upper) (arranged (facets_of space (dim + 1)) (length (links_at uppers (without left y))) ks)) rest)

  pub turn-none : (left : List ℕ) → find (ready (facets_of space (dim + 1)) uppers left) left ≡ None → in_turn space dim (links_at uppers left) ≡ []
  turn-none left e = by (length (links_at uppers left))
    where
      found : find (λ p. goes_before (facets_of space (dim + 1)) p (links_at uppers left)) (links_at uppers left) ≡ None
      found = find-map (λ p. goes_before (facets_of space (dim + 1)) p (links_at uppers left)) (λ c. link c (at uppers c)) left ∙ ap (λ (o : Option ℕ). option_map (λ c. link c (at uppers c)) o) e

      by : (n : ℕ) → map (λ (l : Link). pair dim l.lower l.upper) (arranged (facets_of space (dim + 1)) n (links_at uppers left)) ≡ []
      by zero = refl
      by (suc n) = ap (λ (o : Option Link). map (λ (l : Link). pair dim l.lower l.upper) (next_turn n (links_at uppers left) o)) found

  -- ---- what a cell that is listed leaves

  module _ (are : AreUppers space dim uppers) (lowers : List ℕ) (back : AreLowers uppers (length uppers) lowers) (l : ℕ) (low : 1 ≤ l) where
    leaving-is : (c : ℕ) → 1 ≤ c → 1 ≤ at uppers c → leaving lowers (cofaces_of space dim l) c ≡ cond (holds (facets_of space (dim + 1) (at uppers c)) l) 1 0
    leaving-is c a u =
        ap (λ (xs : List ℕ). length xs)
        (filter_same (λ x. eqb (at lowers x) c) (λ x. eqb x (at uppers c)) (cofaces_of space dim l)
        (λ k d m. let x : ℕ = get_or (cofaces_of space dim l) k d in let r = upto-In (count space (dim + 1)) x (In-inside (λ n. holds (facets_of space (dim + 1) n) l) (upto (count space (dim + 1))) (at-In (cofaces_of space dim l) k d m)) in same_test x r.0))
        ∙ (length-filter (λ x. eqb x (at uppers c)) (cofaces_of space dim l)
        ∙ (count-increasing (cofaces_of space dim l) (at uppers c) (IsStrictlyIncreasing-filter (λ n. holds (facets_of space (dim + 1) n) l) (upto (count space (dim + 1))) (increasing-upto (count space (dim + 1))))
        ∙ ap (λ (b : Bool). cond b 1 0)
        (holds-filter (λ n. holds (facets_of space (dim + 1) n) l) (upto (count space (dim + 1))) (at uppers c)
        ∙ (ap (λ (b : Bool). holds (facets_of space (dim + 1) (at uppers c)) l && b) (holds-upto (count space (dim + 1)) (at uppers c) u (are.last c a)) ∙ and_true (holds (facets_of space (dim + 1) (at uppers c)) l)))))
      where
        and_true : (b : Bool) → (b && true) ≡ b
        and_true true = refl
        and_true false = refl

        same_test : (x : ℕ) → 1 ≤ x → eqb (at lowers x) c ≡ eqb x (at uppers c)
        same_test x b =
            same_bool (eqb (at lowers x) c) (eqb x (at uppers c))
            (λ e. let s : at lowers x ≡ c = eqb-true (at lowers x) c e in eq-eqb x (at uppers c) (sym (subst (λ (n : ℕ). at uppers n ≡ x) s (back.only x b (omega (arith, s, a))).1)))
            (λ e. let s : x ≡ at uppers c = eqb-true x (at uppers c) e in eq-eqb (at lowers x) c (ap (at lowers) s ∙ back.all c a (omega (arith, a, at-past uppers c u)) u))

    module _ (waits new : List ℕ) (w : AreWaits (facets_of space (dim + 1)) uppers waits) (single : at waits l ≡ 1) (long : length new ≡ length waits)
        (less : (c : ℕ) → 1 ≤ c → at new c ≡ at waits c - leaving lowers (cofaces_of space dim l) c) where
      abbrev left : List ℕ
      left = positive_at waits

      among : In l (left)
      among = In-positive waits l low (omega (arith, single))

      -- a cell that stays has one less where the cell that goes is a facet of its upper
      falls : (c : ℕ) → 1 ≤ c → 1 ≤ at waits c → at new c ≡ length (filter (holds (facets_of space (dim + 1) (at uppers c))) (without (left) l))
      falls c a b =
          let p : ℕ → Bool = holds (facets_of space (dim + 1) (at uppers c)) in
          let f : length (filter (holds (facets_of space (dim + 1) (at uppers c))) (without (left) l)) + cond (holds (facets_of space (dim + 1) (at uppers c)) l) 1 0 ≡ length (filter (holds (facets_of space (dim + 1) (at uppers c))) (left)) =
          without-fewer (holds (facets_of space (dim + 1) (at uppers c))) (left) l (positive-rise waits) (In-holds among) in
          omega (arith, less c a, leaving-is c a (w.inside c a b), w.counts c a b, f)

      gone : at new l ≡ 0
      gone =
          let u : 1 ≤ at uppers l = w.inside l low (omega (arith, single)) in
          omega (arith, less l low, leaving-is l low u, single, ap (λ (b : Bool). cond {A = ℕ} b 1 0) (In-holds (are.facet l low u)))

      kept : (c : ℕ) → 1 ≤ c → c ≢ l → 1 ≤ at waits c → 1 ≤ at new c
      kept c a ne b =
          let m : In c (without (left) l) = In-filter (λ d. not (eqb d l)) (In-positive waits c a b) (not_from_false (eqb c l) (ne_eqb c l ne)) in
          let f : In c (filter (holds (facets_of space (dim + 1) (at uppers c))) (without (left) l)) = In-filter (holds (facets_of space (dim + 1) (at uppers c))) m (In-holds (are.facet c a (w.inside c a b))) in
          omega (arith, falls c a b, some-length (filter (holds (facets_of space (dim + 1) (at uppers c))) (without (left) l)) f)

      before : (c : ℕ) → 1 ≤ c → 1 ≤ at new c → 1 ≤ at waits c
      before c a b = omega (arith, less c a, b)

      pub left-is : positive_at new ≡ without (positive_at waits) l
      left-is =
          same_increasing (positive_at new) (without (positive_at waits) l) (positive-rise new) (IsStrictlyIncreasing-filter (λ d. not (eqb d l)) (positive_at waits) (positive-rise waits))
          (λ c. same_bool (holds (positive_at new) c) (holds (without (positive_at waits) l) c)
          (λ e.
          let r = positive-In new c (holds-In (positive_at new) e) in
          In-holds (In-filter (λ d. not (eqb d l)) (In-positive waits c r.0 (before c r.0 r.2)) (not_from_false (eqb c l) (ne_eqb c l (λ same. omega (arith, r.2, ap (at new) same, gone))))))
          (λ e.
          let m : In c (without (positive_at waits) l) = holds-In (without (positive_at waits) l) e in
          let r = positive-In waits c (In-inside (λ d. not (eqb d l)) (positive_at waits) m) in
          In-holds (In-positive new c r.0 (kept c r.0 (λ same. both_ways (eqb c l) (not-true (eqb c l) (filter-In (λ d. not (eqb d l)) (positive_at waits) m)) (eq-eqb c l same)) r.2))))

      pub waits-less : AreWaits (facets_of space (dim + 1)) uppers new
      waits-less = record {
        long = long ∙ w.long;
        inside = λ c a b. w.inside c a (before c a b);
        counts = λ c a b. falls c a (before c a b) ∙ ap (λ (xs : List ℕ). length (filter (holds (facets_of space (dim + 1) (at uppers c))) xs)) (sym left-is);
      }

-- ---- one turn of the loop

pub record IsListedTurn (space : List (List (List ℕ))) (dim : ℕ) (uppers waits new : List ℕ) (made made' : List Pair) : Type 0 where
  pub waits_are : AreWaits (facets_of space (dim + 1)) uppers new
  pub kept : made' ++ in_turn space dim (links_at uppers (positive_at new)) ≡ made ++ in_turn space dim (links_at uppers (positive_at waits))
  pub fewer : length (positive_at new) < length (positive_at waits)

pub listed-turn : (space : List (List (List ℕ))) (dim : ℕ) (uppers lowers waits new : List ℕ) (made made' : List Pair) (l : ℕ) → AreUppers space dim uppers → AreLowers uppers (length uppers) lowers → AreWaits (facets_of space (dim + 1)) uppers waits
    → Some l ≡ find (is_single waits) (upto (length waits)) → length new ≡ length waits → ((c : ℕ) → 1 ≤ c → at new c ≡ at waits c - leaving lowers (cofaces_of space dim l) c) → made' ≡ made ++ pair dim l (at uppers l) ∷ []
    → IsListedTurn space dim uppers waits new made made'
listed-turn space dim uppers lowers waits new made made' l are back w found long less e =
    let parts = and_parts (nat_le 1 l) (eqb (at waits l) 1) (find-passes (is_single waits) (upto (length waits)) l (sym found)) in
    let low : 1 ≤ l = leb-true 1 l parts.0 in
    let single : at waits l ≡ 1 = eqb-true (at waits l) 1 parts.1 in
    let left : positive_at new ≡ without (positive_at waits) l = left-is space dim uppers are lowers back l low waits new w single long less in
    let among : holds (positive_at waits) l ≡ true = In-holds (In-positive waits l low (omega (arith, single))) in
    let next : find (ready (facets_of space (dim + 1)) uppers (positive_at waits)) (positive_at waits) ≡ Some l = sym (next-ready (facets_of space (dim + 1)) uppers waits w are.facet) ∙ sym found in
    let turn : in_turn space dim (links_at uppers (positive_at waits)) ≡ pair dim l (at uppers l) ∷ in_turn space dim (links_at uppers (without (positive_at waits) l)) = turn-next space dim uppers (positive_at waits) l (positive-rise waits) among next in
    record {
      waits_are = waits-less space dim uppers are lowers back l low waits new w single long less;
      kept = ap (λ (ps : List Pair). ps ++ in_turn space dim (links_at uppers (positive_at new))) e
          ∙ (append_assoc made (pair dim l (at uppers l) ∷ []) (in_turn space dim (links_at uppers (positive_at new)))
          ∙ ap (λ (ps : List Pair). made ++ ps) (ap (λ (cs : List ℕ). pair dim l (at uppers l) ∷ in_turn space dim (links_at uppers cs)) left ∙ sym turn));
      fewer = omega (arith, ap (λ (cs : List ℕ). length cs) left, without-shorter (positive_at waits) l (positive-rise waits) among);
    }

-- no cell may come any more
pub listed-done : (space : List (List (List ℕ))) (dim : ℕ) (uppers waits : List ℕ) (made whole : List Pair) → AreUppers space dim uppers → AreWaits (facets_of space (dim + 1)) uppers waits
    → None ≡ find (is_single waits) (upto (length waits)) → made ++ in_turn space dim (links_at uppers (positive_at waits)) ≡ whole → made ≡ whole
listed-done space dim uppers waits made whole are w found e =
    let next : find (ready (facets_of space (dim + 1)) uppers (positive_at waits)) (positive_at waits) ≡ None = sym (next-ready (facets_of space (dim + 1)) uppers waits w are.facet) ∙ sym found in
    sym (append-nil made) ∙ (ap (λ (ps : List Pair). made ++ ps) (sym (turn-none space dim uppers (positive_at waits) next)) ∙ e)
