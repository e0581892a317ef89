-- The loops over faces, places and pairs.
use Rattle.std.proofs.Common.{◌≡◌, inl, inr, ℕ, suc, ◌+◌, ◌-◌, ◌<◌, ◌≤◌, List, [], ◌∷◌, ◌++◌, Bool, true, false, ◌||◌, not, cond, eqb, filter, map, reverse, take, length, get_or, refl, ap, sym, ◌∙◌, subst, arith, All, Contains, append_assoc}
use Rattle.std.specs.List.{flat_map, list_any}
use Rattle.std.specs.List.Sorted.{IsStrictlyIncreasing}
use Rattle.std.proofs.lemmas.Bool.{cases_lt, cases_eq, eq-eqb, eqb-true, or_left, or_right, or_cases}
use Rattle.std.proofs.lemmas.List.{map-append, append-nil, length-append, length-map, length-reverse, get_or-reverse, map_more, take_more, take_all, length-take-le, get_or-take, get_or_append_left, get_or_at}
use Rattle.std.proofs.lemmas.List.Elements.{All-push, filter-append}
use Rattle.std.proofs.lemmas.List.Concat.{flat_map-append}
use Rattle.std.proofs.lemmas.List.Kept.{AllPairs-from_increasing}
use Rattle.number_lists.specs.Words.{upto, holds}
use Rattle.number_lists.specs.Found.{inserted}
use Rattle.number_lists.specs.Members.{In}
use Rattle.number_lists.proofs.CallerLemmas.{same_bool, any-In, any-some, In-left, In-last, push-In, In-flat_map, flat_map-In, holds-In, In-holds, In-Contains, Contains-In, In-at, is_more, members_sorted, upto_more}
use Rattle.face_poset.specs.declared.cells.Pair.{Pair}
use Rattle.face_poset.specs.Poset.{IsSpace, count, facets_of}
use Rattle.face_poset.specs.Below.{facets_of_all}
use Rattle.sphere_collapses.specs.declared.tree.Taken.{Taken}
use Rattle.sphere_collapses.specs.Places.{number_at, ArePlaces, AreFacetPlaces}
use Rattle.sphere_collapses.specs.Trees.{IsPlaced, edges_left, disk_pair_at, vertex_pair_at}
use Rattle.sphere_collapses.proofs.Kept.{facet_in}

-- ---- the facets of cells

pub gathered-more : (f : ℕ → List ℕ) (xs : List ℕ) (i : ℕ) (old new facets : List ℕ) → i < length xs → old ≡ flat_map f (take i xs) → facets ≡ f (get_or xs i 0) → new ≡ old ++ facets → new ≡ flat_map f (take (i + 1) xs)
gathered-more f xs i old new facets l e h g =
    g
    ∙ (ap (λ (ys : List ℕ). ys ++ facets) e
    ∙ (ap (λ (ys : List ℕ). flat_map f (take i xs) ++ ys) h
    ∙ sym (ap (flat_map f) (take_more xs i 0 l) ∙ (flat_map-append f (take i xs) (get_or xs i 0 ∷ []) ∙ ap (λ (ys : List ℕ). flat_map f (take i xs) ++ ys) (append-nil (f (get_or xs i 0)))))))

pub gathered_all : (space : List (List (List ℕ))) (dim : ℕ) (cells : List ℕ) (i : ℕ) (old new : List ℕ) → IsSpace space → 1 ≤ dim → All (λ c. (1 ≤ c) × (c ≤ count space dim)) cells → length cells ≤ i
    → old ≡ flat_map (facets_of space dim) (take i cells) → IsStrictlyIncreasing new → ((n : ℕ) → Contains old n → Contains new n) → ((n : ℕ) → Contains new n → Contains old n) → new ≡ facets_of_all space (dim - 1) cells
gathered_all space dim cells i old new hs low range l e rises keeps adds =
    members_sorted new (λ f. list_any (λ c. holds (facets_of space (dim - 1 + 1) c) f) cells) (count space (dim - 1)) rises
    (λ n. same_bool (holds new n) (list_any (λ c. holds (facets_of space (dim - 1 + 1) c) n) cells) (to n) (back n)) within
  where
    d : dim - 1 + 1 ≡ dim
    d = omega (arith, low)

    s : suc (dim - 1) ≡ dim
    s = omega (arith, low)

    all : old ≡ flat_map (facets_of space dim) cells
    all = e ∙ ap (flat_map (facets_of space dim)) (take_all i cells l)

    source : (n : ℕ) → holds new n ≡ true → (c : ℕ) × In c cells × In n (facets_of space dim c)
    source n h = flat_map-In (facets_of space dim) cells (subst (In n) all (Contains-In (adds n (In-Contains (holds-In new h)))))

    to : (n : ℕ) → holds new n ≡ true → list_any (λ c. holds (facets_of space (dim - 1 + 1) c) n) cells ≡ true
    to n h =
        let r = source n h in
        any-In (λ c. holds (facets_of space (dim - 1 + 1) c) n) r.1 (In-holds (subst (λ (k : ℕ). In n (facets_of space k r.0)) (sym d) r.2))

    back : (n : ℕ) → list_any (λ c. holds (facets_of space (dim - 1 + 1) c) n) cells ≡ true → holds new n ≡ true
    back n h =
        let r = any-some (λ c. holds (facets_of space (dim - 1 + 1) c) n) cells h in
        let i : In n (facets_of space dim r.0) = subst (λ (k : ℕ). In n (facets_of space k r.0)) d (holds-In (facets_of space (dim - 1 + 1) r.0) r.2) in
        In-holds (Contains-In (keeps n (In-Contains (subst (In n) (sym all) (In-flat_map (facets_of space dim) r.1 i)))))

    within : (n : ℕ) → list_any (λ c. holds (facets_of space (dim - 1 + 1) c) n) cells ≡ true → (1 ≤ n) × (n ≤ count space (dim - 1))
    within n h =
        let r = source n (back n h) in
        let k = In-at r.1 in
        let w = range k.0 0 k.1 in
        facet_in space hs (dim - 1) r.0 n (omega (arith, w.0, k.2)) (omega (arith, w.1, k.2, ap (count space) s)) (subst (λ (j : ℕ). In n (facets_of space j r.0)) (sym s) r.2)

-- ---- places

pub places-begun : (sorted numbers places : List ℕ) → places ≡ [] → ArePlaces sorted (take 0 numbers) places
places-begun sorted numbers places e = subst (ArePlaces sorted []) (sym e) (record { numbers_are = refl; within = λ k d l. absurd (omega (arith, l)) })

pub places-more : (sorted numbers places : List ℕ) (i p : ℕ) → i < length numbers → ArePlaces sorted (take i numbers) places → number_at sorted p ≡ get_or numbers i 0 → 1 ≤ p → p ≤ length sorted → ArePlaces sorted (take (i + 1) numbers) (places ++ p ∷ [])
places-more sorted numbers places i p l h e low high =
    record {
      numbers_are =
          map-append (number_at sorted) places (p ∷ [])
          ∙ (ap (λ (ns : List ℕ). ns ++ number_at sorted p ∷ []) h.numbers_are ∙ (ap (λ (n : ℕ). take i numbers ++ n ∷ []) e ∙ sym (take_more numbers i 0 l)));
      within = All-push (λ p. (1 ≤ p) × (p ≤ length sorted)) places p h.within (low, high);
    }

pub places_all : (sorted numbers places : List ℕ) (i : ℕ) → length numbers ≤ i → ArePlaces sorted (take i numbers) places → ArePlaces sorted numbers places
places_all sorted numbers places i l h = subst (λ (ns : List ℕ). ArePlaces sorted ns places) (take_all i numbers l) h

pub facet-places-begun : (space : List (List (List ℕ))) (dim : ℕ) (sorted cells : List ℕ) (lists : List (List ℕ)) → lists ≡ [] → AreFacetPlaces space dim sorted (take 0 cells) lists
facet-places-begun space dim sorted cells lists e = subst (AreFacetPlaces space dim sorted []) (sym e) (record { as_many = refl; each = λ k l. absurd (omega (arith, l)) })

pub facet-places-more : (space : List (List (List ℕ))) (dim : ℕ) (sorted cells : List ℕ) (lists : List (List ℕ)) (i : ℕ) (places facets : List ℕ) → i < length cells → AreFacetPlaces space dim sorted (take i cells) lists
    → facets ≡ facets_of space dim (get_or cells i 0) → ArePlaces sorted facets places → AreFacetPlaces space dim sorted (take (i + 1) cells) (lists ++ places ∷ [])
facet-places-more space dim sorted cells lists i places facets l h e p =
    let long : length lists ≡ i = h.as_many ∙ length-take-le i cells (omega (arith, l)) in
    record {
      as_many = omega (arith, length-append lists (places ∷ []), long, length-take-le (i + 1) cells (omega (arith, l)));
      each = λ k m.
          let lt : k < i + 1 = omega (arith, m, length-take-le (i + 1) cells (omega (arith, l))) in
          let at : get_or (take (i + 1) cells) k 0 ≡ get_or cells k 0 = get_or-take (i + 1) cells k 0 lt in
          elim (cases_eq k i) [
            | inl q ↦
                subst (λ (j : ℕ). ArePlaces sorted (facets_of space dim (get_or (take (i + 1) cells) j 0)) (get_or (lists ++ places ∷ []) j [])) (sym q)
                (subst (λ (qs : List ℕ). ArePlaces sorted (facets_of space dim (get_or (take (i + 1) cells) i 0)) qs) (sym (get_or_at lists places [] [] i long))
                (subst (λ (fs : List ℕ). ArePlaces sorted fs places) (e ∙ ap (facets_of space dim) (sym (get_or-take (i + 1) cells i 0 (omega arith)))) p))
            | inr n ↦
                let b : k < i = omega (arith, lt, n) in
                subst (λ (qs : List ℕ). ArePlaces sorted (facets_of space dim (get_or (take (i + 1) cells) k 0)) qs) (sym (get_or_append_left lists (places ∷ []) [] k (omega (arith, b, long))))
                (subst (λ (c : ℕ). ArePlaces sorted (facets_of space dim c) (get_or lists k [])) (get_or-take i cells k 0 b ∙ sym at) (h.each k (omega (arith, b, length-take-le i cells (omega (arith, l))))))
          ];
    }

pub facet_places_all : (space : List (List (List ℕ))) (dim : ℕ) (sorted cells : List ℕ) (lists : List (List ℕ)) (i : ℕ) → length cells ≤ i → AreFacetPlaces space dim sorted (take i cells) lists → AreFacetPlaces space dim sorted cells lists
facet_places_all space dim sorted cells lists i l h = subst (λ (cs : List ℕ). AreFacetPlaces space dim sorted cs lists) (take_all i cells l) h

-- an increasing list does not fall
pub never_falls : (xs : List ℕ) → IsStrictlyIncreasing xs → (i j : ℕ) → i ≤ j → j < length xs → get_or xs i 0 ≤ get_or xs j 0
never_falls xs rises i j le lt = elim (cases_lt i j) [
  | inl l ↦ let r : get_or xs i 0 < get_or xs j 0 = AllPairs-from_increasing xs rises i j 0 l lt in omega (arith, r)
  | inr l ↦ let e : i ≡ j = omega (arith, le, l) in omega (arith, ap (λ (k : ℕ). get_or xs k 0) e)
]

-- a member is not missed
pub not_missed : (xs : List ℕ) (x i : ℕ) → Contains xs x → ((k : ℕ) → k < i → get_or xs k 0 < x) → ((k : ℕ) → i ≤ k → k < length xs → x < get_or xs k 0) → ⊥
not_missed xs x i c low high =
    let k = In-at (Contains-In c) in
    elim (cases_lt k.0 i) [ inl l ↦ omega (arith, low k.0 l, k.2) | inr l ↦ omega (arith, high k.0 l k.1, k.2) ]

-- ---- the links of a tree

holds-inserted : (found : List ℕ) (n p : ℕ) → holds (inserted found n) p ≡ (holds found p || eqb n p)
holds-inserted found n p = same_bool (holds (inserted found n) p) (holds found p || eqb n p) to back
  where
    to : holds (inserted found n) p ≡ true → (holds found p || eqb n p) ≡ true
    to e = elim ((is_more found n).only p (holds-In (inserted found n) e)) [
      | inl i ↦ or_left (holds found p) (eqb n p) (In-holds i)
      | inr q ↦ or_right (holds found p) (eqb n p) (eq-eqb n p (sym q))
    ]

    back : (holds found p || eqb n p) ≡ true → holds (inserted found n) p ≡ true
    back e = elim (or_cases (holds found p) (eqb n p) e) [
      | inl q ↦ In-holds ((is_more found n).kept p (holds-In found q))
      | inr q ↦ In-holds (subst (λ (x : ℕ). In x (inserted found n)) (eqb-true n p q) (is_more found n).there)
    ]

holds-push : (xs : List ℕ) (n p : ℕ) → holds (xs ++ n ∷ []) p ≡ (holds xs p || eqb n p)
holds-push xs n p = same_bool (holds (xs ++ n ∷ []) p) (holds xs p || eqb n p)
    (λ e. elim (push-In xs n (holds-In (xs ++ n ∷ []) e)) [ inl i ↦ or_left (holds xs p) (eqb n p) (In-holds i) | inr q ↦ or_right (holds xs p) (eqb n p) (eq-eqb n p (sym q)) ])
    (λ e. elim (or_cases (holds xs p) (eqb n p) e) [ inl q ↦ In-holds (In-left (n ∷ []) (holds-In xs q)) | inr q ↦ In-holds (subst (λ (x : ℕ). In x (xs ++ n ∷ [])) (eqb-true n p q) (In-last xs n)) ])

abbrev link : Taken → ℕ
link t = t.link

pub links-begun : (tree : List Taken) (found : List ℕ) → found ≡ [] → (p : ℕ) → holds found p ≡ holds (map (λ (t : Taken). t.link) (take 0 tree)) p
links-begun tree found e p = ap (λ (ns : List ℕ). holds ns p) e

pub links-more : (tree : List Taken) (i : ℕ) (found new : List ℕ) → i < length tree → ((p : ℕ) → holds found p ≡ holds (map (λ (t : Taken). t.link) (take i tree)) p) → new ≡ inserted found (get_or tree i (record { node = 0; link = 0 })).link
    → (p : ℕ) → holds new p ≡ holds (map (λ (t : Taken). t.link) (take (i + 1) tree)) p
links-more tree i found new l h is p =
    let none : Taken = record { node = 0; link = 0 } in
    let t : Taken = get_or tree i none in
    ap (λ (ns : List ℕ). holds ns p) is
    ∙ (holds-inserted found t.link p
    ∙ (ap (λ (b : Bool). b || eqb t.link p) (h p)
    ∙ (sym (holds-push (map link (take i tree)) t.link p)
    ∙ ap (λ (ns : List ℕ). holds ns p) (sym (ap (map link) (take_more tree i none l) ∙ map-append link (take i tree) (t ∷ []))))))

pub links_all : (tree : List Taken) (i : ℕ) (found : List ℕ) → length tree ≤ i → ((p : ℕ) → holds found p ≡ holds (map (λ (t : Taken). t.link) (take i tree)) p) → (p : ℕ) → holds found p ≡ holds (map (λ (t : Taken). t.link) tree) p
links_all tree i found l h p = h p ∙ ap (λ (ts : List Taken). holds (map link ts) p) (take_all i tree l)

pub left-more : (edges found left new : List ℕ) (i : ℕ) (b : Bool) → holds found (i + 1) ≡ b → left ≡ map (number_at edges) (filter (λ p. not (holds found p)) (upto i)) → new ≡ cond b left (left ++ get_or edges i 0 ∷ [])
    → new ≡ map (number_at edges) (filter (λ p. not (holds found p)) (upto (i + 1)))
left-more edges found left new i b e h g =
    g
    ∙ (ap (λ (xs : List ℕ). cond b xs (xs ++ get_or edges i 0 ∷ [])) h
    ∙ sym (ap (λ (xs : List ℕ). map (number_at edges) (filter (λ p. not (holds found p)) xs)) (upto_more i)
    ∙ (ap (map (number_at edges)) (filter-append (λ p. not (holds found p)) (upto i) ((i + 1) ∷ []))
    ∙ (map-append (number_at edges) (filter (λ p. not (holds found p)) (upto i)) (filter (λ p. not (holds found p)) ((i + 1) ∷ [])) ∙ by_test b e))))
  where
    by_test : (b : Bool) → holds found (i + 1) ≡ b
        → map (number_at edges) (filter (λ p. not (holds found p)) (upto i)) ++ map (number_at edges) (cond (not (holds found (i + 1))) ((i + 1) ∷ []) [])
        ≡ cond b (map (number_at edges) (filter (λ p. not (holds found p)) (upto i))) (map (number_at edges) (filter (λ p. not (holds found p)) (upto i)) ++ get_or edges i 0 ∷ [])
    by_test true e = ap (λ (t : Bool). map (number_at edges) (filter (λ p. not (holds found p)) (upto i)) ++ map (number_at edges) (cond (not t) ((i + 1) ∷ []) [])) e ∙ append-nil (map (number_at edges) (filter (λ p. not (holds found p)) (upto i)))
    by_test false e =
        let q : i + 1 - 1 ≡ i = omega arith in
        ap (λ (t : Bool). map (number_at edges) (filter (λ p. not (holds found p)) (upto i)) ++ map (number_at edges) (cond (not t) ((i + 1) ∷ []) [])) e
        ∙ ap (λ (n : ℕ). map (number_at edges) (filter (λ p. not (holds found p)) (upto i)) ++ get_or edges n 0 ∷ []) q

pub left_all : (edges left : List ℕ) (tree : List Taken) (n : ℕ) → n ≡ length edges → left ≡ map (number_at edges) (filter (λ p. not (holds (map (λ (t : Taken). t.link) tree) p)) (upto n)) → left ≡ edges_left edges tree
left_all edges left tree n e is = is ∙ ap (λ (k : ℕ). map (number_at edges) (filter (λ p. not (holds (map (λ (t : Taken). t.link) tree) p)) (upto k))) e

-- ---- the pairs

abbrev none : Taken
none = record { node = 0; link = 0 }

pub placed_at : (nodes links : List ℕ) (tree : List Taken) (i : ℕ) → All (IsPlaced (length nodes) (length links)) tree → i < length tree → IsPlaced (length nodes) (length links) (get_or tree i (record { node = 0; link = 0 }))
placed_at nodes links tree i h l = h i none l

pub placed_back : (nodes links : List ℕ) (tree : List Taken) (i : ℕ) → All (IsPlaced (length nodes) (length links)) tree → i < length tree → IsPlaced (length nodes) (length links) (get_or tree (length tree - 1 - i) (record { node = 0; link = 0 }))
placed_back nodes links tree i h l = h (length tree - 1 - i) none (omega (arith, l))

pub disks-more : (disks edges : List ℕ) (dual : List Taken) (i : ℕ) (pairs new : List Pair) → i < length dual → pairs ≡ map (disk_pair_at disks edges) (take i dual)
    → new ≡ pairs ++ disk_pair_at disks edges (get_or dual i (record { node = 0; link = 0 })) ∷ [] → new ≡ map (disk_pair_at disks edges) (take (i + 1) dual)
disks-more disks edges dual i pairs new l e h = h ∙ (ap (λ (ps : List Pair). ps ++ disk_pair_at disks edges (get_or dual i none) ∷ []) e ∙ sym (map_more (disk_pair_at disks edges) dual i none l))

pub vertices-begun : (disks edges : List ℕ) (dual : List Taken) (i : ℕ) (pairs : List Pair) → length dual ≤ i → pairs ≡ map (disk_pair_at disks edges) (take i dual) → pairs ≡ map (disk_pair_at disks edges) dual ++ []
vertices-begun disks edges dual i pairs l e = e ∙ (ap (map (disk_pair_at disks edges)) (take_all i dual l) ∙ sym (append-nil (map (disk_pair_at disks edges) dual)))

pub vertices-more : (disks edges vertices left : List ℕ) (dual primal : List Taken) (i : ℕ) (pairs new : List Pair) → i < length primal → pairs ≡ map (disk_pair_at disks edges) dual ++ map (vertex_pair_at vertices left) (take i (reverse primal))
    → new ≡ pairs ++ vertex_pair_at vertices left (get_or primal (length primal - 1 - i) (record { node = 0; link = 0 })) ∷ [] → new ≡ map (disk_pair_at disks edges) dual ++ map (vertex_pair_at vertices left) (take (i + 1) (reverse primal))
vertices-more disks edges vertices left dual primal i pairs new l e h =
    let f : Taken → Pair = vertex_pair_at vertices left in
    let first : List Pair = map (disk_pair_at disks edges) dual in
    h
    ∙ (ap (λ (ps : List Pair). ps ++ f (get_or primal (length primal - 1 - i) none) ∷ []) e
    ∙ (append_assoc first (map f (take i (reverse primal))) (f (get_or primal (length primal - 1 - i) none) ∷ [])
    ∙ ap (λ (ps : List Pair). first ++ ps)
    (ap (λ (t : Taken). map f (take i (reverse primal)) ++ f t ∷ []) (sym (get_or-reverse primal i none l)) ∙ sym (map_more f (reverse primal) i none (omega (arith, l, length-reverse primal))))))

pub pairs_all : (disks edges vertices left : List ℕ) (dual primal : List Taken) (i : ℕ) (pairs : List Pair) → length primal ≤ i → pairs ≡ map (disk_pair_at disks edges) dual ++ map (vertex_pair_at vertices left) (take i (reverse primal))
    → pairs ≡ map (disk_pair_at disks edges) dual ++ map (vertex_pair_at vertices left) (reverse primal)
pairs_all disks edges vertices left dual primal i pairs l e =
    e ∙ ap (λ (ts : List Taken). map (disk_pair_at disks edges) dual ++ map (vertex_pair_at vertices left) ts) (take_all i (reverse primal) (omega (arith, l, length-reverse primal)))

pub pairs_few : (disks edges vertices left : List ℕ) (dual primal : List Taken) (i : ℕ) (pairs : List Pair) → length dual ≤ 60000 → length primal ≤ 60000 → length primal ≤ i
    → pairs ≡ map (disk_pair_at disks edges) dual ++ map (vertex_pair_at vertices left) (take i (reverse primal)) → length pairs ≤ 4294967295
pairs_few disks edges vertices left dual primal i pairs a b l e =
    omega (arith, a, b, ap length (pairs_all disks edges vertices left dual primal i pairs l e), length-append (map (disk_pair_at disks edges) dual) (map (vertex_pair_at vertices left) (reverse primal)), length-map dual (disk_pair_at disks edges), length-map (reverse primal) (vertex_pair_at vertices left), length-reverse primal)
