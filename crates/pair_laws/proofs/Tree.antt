-- Growing trees: what they take, that there is one, and lists of distinct numbers.
use Rattle.std.proofs.Common.{◌≡◌, ℕ, zero, suc, ◌+◌, ◌<◌, ◌≤◌, List, [], ◌∷◌, length, map, refl, ap, arith, sym, ◌∙◌, Bool, true, false, ◌⊎◌, inl, inr}
use Rattle.std.specs.Prelude.{filter, find, Option, Some, None, ◌==◌, not}
use Rattle.std.proofs.lemmas.Bool.{eqb-true, eq-eqb, not-true, or_right, cases_lt}
use Rattle.number_lists.specs.Members.{In, here, there}
use Rattle.number_lists.specs.Words.{holds}
use Rattle.number_lists.proofs.CallerLemmas.{and-left, and-right, In-cases, In-filter, all-In, In-all, map-In, holds-In, In-holds}
use Rattle.pair_laws.specs.Joins.{Joins, stay, forth, back}
use Rattle.pair_laws.specs.Tree.{Link, Grown, seed, at_end, at_start, distinct, GrownDistinct, AllOf, HasTree, TreeExists}
use Rattle.pair_laws.proofs.Lists.{find-some, find-none, filter-less, not_yet, clash, first_held}

-- both ends of each link that was used are taken
pub ends_taken : {A B : ℕ → ℕ} {root : ℕ} {ps : List Link} (ns : List ℕ) → Grown A B root ps ns → (q : Link) → In q ps → (holds ns (A q.upper) ≡ true) × (holds ns (B q.upper) ≡ true)
ends_taken ns seed q h = elim h [ ]
ends_taken (n ∷ ns) (at_end p g e f t) q here = (first_held _ n ns e, or_right _ _ t)
ends_taken (n ∷ ns) (at_end p g e f t) q (there h) = let r = ends_taken ns g q h in (or_right _ _ r.0, or_right _ _ r.1)
ends_taken (n ∷ ns) (at_start p g e f t) q here = (or_right _ _ t, first_held _ n ns e)
ends_taken (n ∷ ns) (at_start p g e f t) q (there h) = let r = ends_taken ns g q h in (or_right _ _ r.0, or_right _ _ r.1)

pub grown_distinct : GrownDistinct
grown_distinct A B root [] ns seed = refl
grown_distinct A B root (q ∷ ps) [] h = elim h [ ]
grown_distinct A B root (q ∷ ps) (n ∷ ns) (at_end p g e f t) =
    rw (not_yet (holds (map (λ q. q.upper) ps) p.upper) (λ h. let r = map-In (λ q. q.upper) ps (holds-In (map (λ q. q.upper) ps) h) in clash _ p.lower f (rw (← r.2, e) at ((ends_taken _ g r.0 r.1).0)))) (grown_distinct A B root ps _ g)
grown_distinct A B root (q ∷ ps) (n ∷ ns) (at_start p g e f t) =
    rw (not_yet (holds (map (λ q. q.upper) ps) p.upper) (λ h. let r = map-In (λ q. q.upper) ps (holds-In (map (λ q. q.upper) ps) h) in clash _ p.lower f (rw (← r.2, e) at ((ends_taken _ g r.0 r.1).1)))) (grown_distinct A B root ps _ g)

abbrev drop : ℕ → List ℕ → List ℕ
drop x ys = filter (λ y. not (y == x)) ys

pub all_of : AllOf
all_of [] [] d i l y h = elim h [ ]
all_of [] (z ∷ ys) d i l y h = absurd (omega (arith, l))
all_of (x ∷ xs) ys d i l y h = by (y == x) refl (λ k. all_of xs (drop x ys) (and-right _ _ d) (In-all (λ z. holds (drop x ys) z) xs inside) (omega (arith, l, filter-less (λ z. not (z == x)) ys (holds-In ys (and-left _ _ i)) (rw (eq-eqb x x refl) refl))) y k)
  where
    differs : (z : ℕ) → In z xs → (b : Bool) → (z == x) ≡ b → not (z == x) ≡ true
    differs z k true e = absurd (grind (arith, In-holds k, eqb-true z x e, and-left (not (holds xs x)) _ d, rw (eqb-true z x e) at (In-holds k)))
    differs z k false e = rw e refl

    inside : (z : ℕ) → In z xs → holds (drop x ys) z ≡ true
    inside z k = In-holds (In-filter (λ z. not (z == x)) (holds-In ys (all-In (λ z. holds ys z) (and-right (holds ys x) _ i) k)) (differs z k (z == x) refl))

    by : (b : Bool) → (y == x) ≡ b → (In y (drop x ys) → holds xs y ≡ true) → holds (x ∷ xs) y ≡ true
    by true e k = first_held y x xs (eqb-true y x e)
    by false e k = or_right _ _ (k (In-filter (λ z. not (z == x)) h (rw e refl)))

pub root_taken : {A B : ℕ → ℕ} {root : ℕ} (ps : List Link) (ns : List ℕ) → Grown A B root ps ns → holds ns root ≡ true
root_taken {root = root} [] ns seed = In-holds {x = root} {xs = root ∷ []} here
root_taken (p ∷ ps) [] h = elim h [ ]
root_taken (p ∷ ps) (n ∷ ns) (at_end q g e f t) = or_right _ _ (root_taken ps ns g)
root_taken (p ∷ ps) (n ∷ ns) (at_start q g e f t) = or_right _ _ (root_taken ps ns g)

pub grown_length : {A B : ℕ → ℕ} {root : ℕ} (ps : List Link) (ns : List ℕ) → Grown A B root ps ns → length ns ≡ suc (length ps)
grown_length [] ns seed = refl
grown_length (p ∷ ps) [] h = elim h [ ]
grown_length (p ∷ ps) (n ∷ ns) (at_end q g e f t) = ap suc (grown_length ps ns g)
grown_length (p ∷ ps) (n ∷ ns) (at_start q g e f t) = ap suc (grown_length ps ns g)

pub nodes_distinct : {A B : ℕ → ℕ} {root : ℕ} (ps : List Link) (ns : List ℕ) → Grown A B root ps ns → distinct ns ≡ true
nodes_distinct [] ns seed = refl
nodes_distinct (p ∷ ps) [] h = elim h [ ]
nodes_distinct (p ∷ ps) (n ∷ ns) (at_end q g e f t) = rw f (nodes_distinct ps ns g)
nodes_distinct (p ∷ ps) (n ∷ ns) (at_start q g e f t) = rw f (nodes_distinct ps ns g)

-- distinct numbers within a list are no more than the list
pub no_more : (xs ys : List ℕ) → distinct xs ≡ true → ((x : ℕ) → In x xs → In x ys) → length xs ≤ length ys
no_more xs ys d i = by (cases_lt (length ys) (length xs))
  where
    by : (length ys < length xs) ⊎ (length xs ≤ length ys) → length xs ≤ length ys
    by (inr k) = k
    by (inl k) = absurd (too_many xs ys d i k)
      where
        too_many : (xs ys : List ℕ) → distinct xs ≡ true → ((x : ℕ) → In x xs → In x ys) → length ys < length xs → ⊥
        too_many [] ys d i k = omega (arith, k)
        too_many (x ∷ xs) ys d i k = clash xs x (not-true (holds xs x) (and-left (not (holds xs x)) _ d)) (all_of xs ys (and-right _ _ d) (In-all (λ z. holds ys z) xs (λ z j. In-holds (i z (there j)))) (omega (arith, k)) x (i x here))

abbrev differ : Bool → Bool → Bool
differ true b = not b
differ false b = b

module _ (A B : ℕ → ℕ) (root : ℕ) (nodes links : List ℕ) (once : distinct nodes ≡ true) (root_in : In root nodes) (ends : (e : ℕ) → In e links → In (A e) nodes × In (B e) nodes) (joined : (n : ℕ) → In n nodes → Joins A B (holds links) root n) where
  abbrev one_end : List ℕ → ℕ → Bool
  one_end ns e = differ (holds ns (A e)) (holds ns (B e))

  -- where no link has one end alone among the nodes taken, what is joined to a node that was taken was taken
  all_taken : (ns : List ℕ) → ((e : ℕ) → In e links → one_end ns e ≡ false) → (u w : ℕ) → Joins A B (holds links) u w → holds ns u ≡ true → holds ns w ≡ true
  all_taken ns k u w stay h = h
  all_taken ns k u w (forth e o j) h = all_taken ns k (B e) w j (other (holds ns (B e)) (rw h at (k e (holds-In links o))))
    where
      other : (b : Bool) → not b ≡ false → b ≡ true
      other true x = refl
      other false x = absurd (grind (arith, x))
  all_taken ns k u w (back e o j) h = all_taken ns k (A e) w j (other (holds ns (A e)) (rw h at (k e (holds-In links o))))
    where
      other : (b : Bool) → differ b true ≡ false → b ≡ true
      other true x = refl
      other false x = absurd (grind (arith, x))

  Done : Type 0
  Done = HasTree A B root nodes links

  finish : (ps : List Link) (ns : List ℕ) → Grown A B root ps ns → ((n : ℕ) → In n ns → In n nodes) → ((p : Link) → In p ps → In p.upper links) → ((n : ℕ) → In n nodes → holds ns n ≡ true) → HasTree A B root nodes links
  finish ps ns g i l a = record {
    pairs = ps;
    taken = ns;
    grown = g;
    all = a;
    within = l;
    number = sym (grown_length ps ns g) ∙ same (no_more ns nodes (nodes_distinct ps ns g) i) (no_more nodes ns once (λ n k. holds-In ns (a n k)));
  }
    where
      same : {a b : ℕ} → a ≤ b → b ≤ a → a ≡ b
      same h k = omega (arith, h, k)

  grow : (fuel : ℕ) (ps : List Link) (ns : List ℕ) → Grown A B root ps ns → ((n : ℕ) → In n ns → In n nodes) → ((p : Link) → In p ps → In p.upper links) → length nodes ≤ length ns + fuel → HasTree A B root nodes links
  grow zero ps ns g i l h = finish ps ns g i l (λ n k. all_of ns nodes (nodes_distinct ps ns g) (In-all (λ z. holds nodes z) ns (λ z j. In-holds (i z j))) (omega (arith, h)) n k)
  grow (suc fuel) ps ns g i l h = by (find (one_end ns) links) refl (λ p k j m. grow fuel (p ∷ ps) (p.lower ∷ ns) k (λ n x. elim (In-cases x) [ inl e ↦ rw e j | inr y ↦ i n y ]) (λ q x. elim (In-cases x) [ inl e ↦ rw e m | inr y ↦ l q y ]) (omega (arith, h)))
    where
      by : (o : Option ℕ) → find (one_end ns) links ≡ o → ((p : Link) → Grown A B root (p ∷ ps) (p.lower ∷ ns) → In p.lower nodes → In p.upper links → HasTree A B root nodes links) → HasTree A B root nodes links
      by None e k = finish ps ns g i l (λ n j. all_taken ns (λ e' x. find-none (one_end ns) links e x) root n (joined n j) (root_taken ps ns g))
      by (Some e) f k = let s = find-some (one_end ns) links e f in side (holds ns (A e)) (holds ns (B e)) refl refl s.1 s.0
        where
          side : (a b : Bool) → holds ns (A e) ≡ a → holds ns (B e) ≡ b → differ (holds ns (A e)) (holds ns (B e)) ≡ true → In e links → HasTree A B root nodes links
          side true true x y z m = absurd (grind (arith, rw (x, y) at z))
          side true false x y z m = k (record { lower = B e; upper = e }) (at_start (record { lower = B e; upper = e }) g refl y x) ((ends e m).1) m
          side false true x y z m = k (record { lower = A e; upper = e }) (at_end (record { lower = A e; upper = e }) g refl x y) ((ends e m).0) m
          side false false x y z m = absurd (grind (arith, rw (x, y) at z))

pub tree_exists : TreeExists
tree_exists A B root nodes links once r ends joined = grow A B root nodes links once r ends joined (length nodes) [] (root ∷ []) seed (λ n x. elim (In-cases x) [ inl e ↦ rw e r | inr y ↦ elim y [ ] ]) (λ p x. elim x [ ]) (omega arith)
