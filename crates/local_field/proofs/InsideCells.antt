-- The pairs inside a cell: in the cell, in order, disjoint, and all but one of its towers.
use Rattle.std.proofs.Common.{◌≡◌, ◌≢◌, ℕ, zero, suc, ◌<◌, ◌≤◌, Bool, true, List, [], ◌∷◌, ◌++◌, length, map, refl, ap, sym, ◌∙◌, arith, subst, ◌⊎◌, inl, inr}
use Rattle.std.specs.Prelude.{⊤}
use Rattle.std.specs.List.{AllByRecursion}
use Rattle.local_field.specs.Towers.{TowerPair, facets, inner, Building, under, pair_of, build, first_pair, local, Pairwise, top_of, rest_of}
use Rattle.local_field.specs.Inside.{cells_of, IsFlagged, LeavesOver, LocalLeavesOver, NotUp, InnerApart, Differ, HasTower}
use Rattle.local_field.specs.Inside as words

-- ---- lists

pub all_append : {A : Type 0} (P : A → Type 0) (xs ys : List A) → AllByRecursion P xs → AllByRecursion P ys → AllByRecursion P (xs ++ ys)
all_append P [] ys h i = i
all_append P (x ∷ xs) ys h i = (h.0, all_append P xs ys h.1 i)

pub all_to : {A : Type 0} (P Q : A → Type 0) → ((x : A) → P x → Q x) → (xs : List A) → AllByRecursion P xs → AllByRecursion Q xs
all_to P Q w [] h = tt
all_to P Q w (x ∷ xs) h = (w x h.0, all_to P Q w xs h.1)

pub all_of : {A : Type 0} (P : A → Type 0) → ((x : A) → P x) → (xs : List A) → AllByRecursion P xs
all_of P w [] = tt
all_of P w (x ∷ xs) = (w x, all_of P w xs)

pub all_map : {A B : Type 0} (f : A → B) (P : A → Type 0) (Q : B → Type 0) → ((x : A) → P x → Q (f x)) → (xs : List A) → AllByRecursion P xs → AllByRecursion Q (map f xs)
all_map f P Q w [] h = tt
all_map f P Q w (x ∷ xs) h = (w x h.0, all_map f P Q w xs h.1)

pub pairwise_append : {A : Type 0} (R : A → A → Type 0) (xs ys : List A) → Pairwise R xs → Pairwise R ys → AllByRecursion (λ x. AllByRecursion (R x) ys) xs → Pairwise R (xs ++ ys)
pairwise_append R [] ys h i c = i
pairwise_append R (x ∷ xs) ys h i c = (all_append (R x) xs ys h.0 c.0, pairwise_append R xs ys h.1 i c.1)

pairwise_map : {A B : Type 0} (f : A → B) (R : A → A → Type 0) (S : B → B → Type 0) → ((x y : A) → R x y → S (f x) (f y)) → (xs : List A) → Pairwise R xs → Pairwise S (map f xs)
pairwise_map f R S w [] h = tt
pairwise_map f R S w (x ∷ xs) h = (all_map f (R x) (S (f x)) (λ y r. w x y r) xs h.0, pairwise_map f R S w xs h.1)

-- P at each, and R at each two, give S at each two
pub all_both_to : {A : Type 0} (P Q S : A → Type 0) → ((x : A) → P x → Q x → S x) → (xs : List A) → AllByRecursion P xs → AllByRecursion Q xs → AllByRecursion S xs
all_both_to P Q S w [] h r = tt
all_both_to P Q S w (x ∷ xs) h r = (w x h.0 r.0, all_both_to P Q S w xs h.1 r.1)

pairwise_to : {A : Type 0} (P : A → Type 0) (R S : A → A → Type 0) → ((x y : A) → P x → P y → R x y → S x y) → (xs : List A) → AllByRecursion P xs → Pairwise R xs → Pairwise S xs
pairwise_to P R S w [] h r = tt
pairwise_to P R S w (x ∷ xs) h r = (all_both_to P (R x) (S x) (λ y q g. w x y h.0 q g) xs h.1 r.0, pairwise_to P R S w xs h.1 r.1)

no_cons : (x : ℕ) (xs : List ℕ) → x ∷ xs ≢ []
no_cons x xs e = let l : suc (length xs) ≡ 0 = ap length e in omega (arith, l)

-- all facets are shorter by one
pub facet_length : (t : List ℕ) → AllByRecursion (λ e. suc (length e) ≡ length t) (facets t)
facet_length [] = tt
facet_length (g ∷ t) = (refl, all_map (λ s. g ∷ s) (λ e. suc (length e) ≡ length t) (λ e. suc (length e) ≡ suc (length t)) (λ e h. ap suc h) (facets t) (facet_length t))

-- no facet of the upper is the lower
abbrev Apart : TowerPair → TowerPair → Type 0
Apart p q = AllByRecursion (λ e. e ≢ q.low) (facets p.up)

module _ (below : ℕ → ℕ → Bool) (dim : ℕ → ℕ) (data_of : ℕ → ℕ → Building) (flag : ℕ → List ℕ) (falls : (x c : ℕ) → below x c ≡ true → dim x < dim c) where
  abbrev face : ℕ → ℕ → Type 0
  face x c = below x c ≡ true

  abbrev NotAbove : ℕ → ℕ → Type 0
  NotAbove = words.NotAbove below

  abbrev FitsIn : ℕ → ℕ × ℕ → Type 0
  FitsIn = words.FitsIn below dim

  abbrev InCells : ℕ → List (ℕ × ℕ) → ℕ → Type 0
  InCells = words.IsAmong

  abbrev IsBuilding : ℕ → ℕ → Building → Type 0
  IsBuilding g f b = words.IsBuilding below dim g f b

  abbrev Full : List ℕ → Type 0
  Full = words.IsFull below dim

  module _ (works : (g f : ℕ) → face f g → dim g ≡ suc (dim f) → IsBuilding g f (data_of g f)) (flag_head : (c : ℕ) → flag c ≡ c ∷ rest_of (flag c)) (flag_full : (c : ℕ) → Full (flag c)) where
    pub full_length : (c : ℕ) (t : List ℕ) → Full (c ∷ t) → length (c ∷ t) ≡ suc (dim c)
    full_length c [] h = ap suc (sym h)
    full_length c (f ∷ rest) h = ap suc (full_length f rest h.2 ∙ sym h.1)

    flag_length : (c : ℕ) → length (flag c) ≡ suc (dim c)
    flag_length c = ap length (flag_head c) ∙ full_length c (rest_of (flag c)) (subst Full (flag_head c) (flag_full c))

    flag_over : (l u : ℕ) → face l u → dim u ≡ suc (dim l) → Full (u ∷ flag l)
    flag_over l u h e = subst (λ t. Full (u ∷ t)) (sym (flag_head l)) (h, e, subst Full (flag_head l) (flag_full l))

    -- a pair inside c
    abbrev Fits : ℕ → TowerPair → Type 0
    Fits c p = words.FitsUnder below dim c p

    -- a pair in the boundary of g
    pub record Below (g : ℕ) (p : TowerPair) : Type 0 where
      pub x : ℕ
      pub b : List ℕ
      pub some : p.low ≢ []
      pub is_up : p.up ≡ x ∷ b
      pub lies : face x g
      pub short : length p.up ≤ dim g
      pub one : suc (length p.low) ≡ length p.up

    goes_below : (g c : ℕ) (p : TowerPair) → face c g → Fits c p → Below g p
    goes_below g c p h i = record { x = c; b = i.x ∷ i.b; some = λ e. no_cons c i.a (sym i.is_low ∙ e); is_up = i.is_up; lies = h; short = omega (arith, i.short, falls c g h); one = i.one }

    comes_under : (g : ℕ) (p : TowerPair) → Below g p → Fits g (record { low = g ∷ p.low; up = g ∷ p.up })
    comes_under g p i = record { a = p.low; x = i.x; b = i.b; is_low = refl; is_up = ap (λ t. g ∷ t) i.is_up; lies = i.lies; short = omega (arith, i.short); one = ap suc i.one }

    pair_below : (g l u : ℕ) → FitsIn g (l, u) → Below g (pair_of flag l u)
    pair_below g l u h = record { x = u; b = flag l; some = λ e. no_cons l (rest_of (flag l)) (sym (flag_head l) ∙ e); is_up = refl; lies = h.1; short = omega (arith, falls u g h.1, flag_length l, h.3); one = refl }

    abbrev InOwn : (List ℕ → List TowerPair) → Type 0
    InOwn sub = (c : ℕ) (t : List ℕ) → Full (c ∷ t) → AllByRecursion (Fits c) (sub (c ∷ t))

    own_flag : (sub : List ℕ → List TowerPair) → InOwn sub → (c : ℕ) → AllByRecursion (Fits c) (sub (flag c))
    own_flag sub w c = subst (λ t. AllByRecursion (Fits c) (sub t)) (sym (flag_head c)) (w c (rest_of (flag c)) (subst Full (flag_head c) (flag_full c)))

    own_over : (sub : List ℕ → List TowerPair) → InOwn sub → (g : ℕ) (p : ℕ × ℕ) → FitsIn g p → AllByRecursion (Fits p.1) (sub (p.1 ∷ flag p.0))
    own_over sub w g p h = w p.1 (flag p.0) (flag_over p.0 p.1 h.2 h.3)

    build_below : (sub : List ℕ → List TowerPair) → InOwn sub → (g : ℕ) (last : List TowerPair) → AllByRecursion (Below g) last → (ps : List (ℕ × ℕ)) → AllByRecursion (FitsIn g) ps → AllByRecursion (Below g) (build flag sub last ps)
    build_below sub w g last z [] h = z
    build_below sub w g last z (p ∷ ps) h =
        all_append (Below g) (sub (flag p.0)) (sub (p.1 ∷ flag p.0) ++ (pair_of flag p.0 p.1 ∷ build flag sub last ps)) (all_to (Fits p.0) (Below g) (λ q i. goes_below g p.0 q h.0.0 i) (sub (flag p.0)) (own_flag sub w p.0))
        (all_append (Below g) (sub (p.1 ∷ flag p.0)) (pair_of flag p.0 p.1 ∷ build flag sub last ps) (all_to (Fits p.1) (Below g) (λ q i. goes_below g p.1 q h.0.1 i) (sub (p.1 ∷ flag p.0)) (own_over sub w g p h.0))
        (pair_below g p.0 p.1 h.0, build_below sub w g last z ps h.1))

    pub in_own : (d : ℕ) → InOwn (local data_of flag d)
    in_own zero c t h = tt
    in_own (suc d) c [] h = tt
    in_own (suc d) c (f ∷ rest) h =
        let b : Building = data_of c f in
        let i : IsBuilding c f b = works c f h.0 h.1 in
        let sub : List ℕ → List TowerPair = local data_of flag d in (
          record { a = []; x = b.root; b = []; is_low = refl; is_up = refl; lies = i.rooted; short = omega (arith, h.1); one = refl },
          all_map (λ (p : TowerPair). record { low = c ∷ p.low; up = c ∷ p.up }) (Below c) (Fits c) (comes_under c) (build flag sub (sub (f ∷ rest)) b.pairs)
              (build_below sub (in_own d) c (sub (f ∷ rest)) (all_to (Fits f) (Below c) (λ q j. goes_below c f q h.0 j) (sub (f ∷ rest)) (in_own d f rest h.2)) b.pairs i.fit),
        )

    -- ---- what is left over is no upper

    -- a pair whose upper has another top
    other_top : (c f : ℕ) (t : List ℕ) (p : TowerPair) → c ≢ f → Fits c p → NotUp (f ∷ t) p
    other_top c f t p ne i e = ne (ap top_of (sym i.is_up ∙ e))

    last_differs : (c : ℕ) (ps : List (ℕ × ℕ)) (f : ℕ) → AllByRecursion (NotAbove c) (cells_of ps f) → c ≢ f
    last_differs c [] f o e = o.0.0 (sym e)
    last_differs c (p ∷ ps) f o e = last_differs c ps f o.1.1 e

    build_not : (sub : List ℕ → List TowerPair) → InOwn sub → (g f : ℕ) (t : List ℕ) (last : List TowerPair) → AllByRecursion (NotUp (f ∷ t)) last → (ps : List (ℕ × ℕ)) → AllByRecursion (FitsIn g) ps → Pairwise NotAbove (cells_of ps f) → AllByRecursion (NotUp (f ∷ t)) (build flag sub last ps)
    build_not sub w g f t last z [] h o = z
    build_not sub w g f t last z (p ∷ ps) h o =
        let l : p.0 ≢ f = λ e. last_differs p.0 ps f o.0.1 e in
        let u : p.1 ≢ f = λ e. last_differs p.1 ps f o.1.0 e in
        all_append (NotUp (f ∷ t)) (sub (flag p.0)) (sub (p.1 ∷ flag p.0) ++ (pair_of flag p.0 p.1 ∷ build flag sub last ps)) (all_to (Fits p.0) (NotUp (f ∷ t)) (λ q i. other_top p.0 f t q l i) (sub (flag p.0)) (own_flag sub w p.0))
        (all_append (NotUp (f ∷ t)) (sub (p.1 ∷ flag p.0)) (pair_of flag p.0 p.1 ∷ build flag sub last ps) (all_to (Fits p.1) (NotUp (f ∷ t)) (λ q i. other_top p.1 f t q u i) (sub (p.1 ∷ flag p.0)) (own_over sub w g p h.0))
        (λ e. u (ap top_of e), build_not sub w g f t last z ps h.1 o.1.1))

    pub not_left : (d : ℕ) (t : List ℕ) → Full t → AllByRecursion (NotUp t) (local data_of flag d t)
    not_left zero t h = tt
    not_left (suc d) [] h = tt
    not_left (suc d) (g ∷ []) h = tt
    not_left (suc d) (g ∷ f ∷ rest) h =
        let b : Building = data_of g f in
        let i : IsBuilding g f b = works g f h.0 h.1 in
        let sub : List ℕ → List TowerPair = local data_of flag d in (
          λ e. i.other (ap (λ t. top_of (rest_of t)) e),
          all_map (λ (p : TowerPair). record { low = g ∷ p.low; up = g ∷ p.up }) (NotUp (f ∷ rest)) (NotUp (g ∷ f ∷ rest)) (λ p n e. n (ap rest_of e)) (build flag sub (sub (f ∷ rest)) b.pairs)
              (build_not sub (in_own d) g f rest (sub (f ∷ rest)) (not_left d (f ∷ rest) h.2) b.pairs i.fit i.order),
        )

    -- ---- the order

    -- the lower of q has the top c
    abbrev LowTop : ℕ → TowerPair → Type 0
    LowTop c q = q.low ≡ c ∷ rest_of q.low

    low_top : (c : ℕ) (q : TowerPair) → Fits c q → LowTop c q
    low_top c q i = i.is_low ∙ ap (λ t. c ∷ t) (sym (ap rest_of i.is_low))

    -- a facet with another top
    heads_differ : (c c' : ℕ) (t : List ℕ) → c' ≢ c → (ts : List (List ℕ)) → AllByRecursion (λ e. e ≢ c' ∷ t) (map (λ s. c ∷ s) ts)
    heads_differ c c' t ne ts = all_map (λ s. c ∷ s) (λ s. ⊤) (λ e. e ≢ c' ∷ t) (λ s h e. ne (sym (ap top_of e))) ts (all_of (λ s. ⊤) (λ s. tt) ts)

    apart_from : (c : ℕ) (p q : TowerPair) (c' : ℕ) → Fits c p → LowTop c' q → NotAbove c c' → Apart p q
    apart_from c p q c' i l n =
        subst (λ t. AllByRecursion (λ e. e ≢ t) (facets p.up)) (sym l)
        (subst (λ t. AllByRecursion (λ e. e ≢ c' ∷ rest_of q.low) (facets t)) (sym i.is_up)
        (λ e. n.1 (subst (λ y. face y c) (ap top_of e) i.lies), heads_differ c c' (rest_of q.low) n.0 (facets (i.x ∷ i.b))))

    -- inside one block
    own_apart : (c : ℕ) (p q : TowerPair) → Fits c p → Fits c q → InnerApart p q → Apart p q
    own_apart c p q i j n =
        let none : i.x ∷ i.b ≢ q.low = λ e. let s : i.x ≡ c = ap top_of (e ∙ j.is_low) in omega (arith, falls i.x c i.lies, ap dim s) in
        subst (λ t. AllByRecursion (λ e. e ≢ q.low) (facets t)) (sym i.is_up) (none, subst (λ t. AllByRecursion (λ e. e ≢ q.low) (inner t)) i.is_up n)

    -- a block and its own pair: the block of the lower cell
    block_of_lower : (l u : ℕ) (p : TowerPair) → Fits l p → Apart p (pair_of flag l u)
    block_of_lower l u p i =
        let none : i.x ∷ i.b ≢ flag l = λ e. let s : i.x ≡ l = ap top_of (e ∙ flag_head l) in omega (arith, falls i.x l i.lies, ap dim s) in
        let longer : AllByRecursion (λ e. e ≢ flag l) (facets p.up) =
        all_to (λ e. suc (length e) ≡ length p.up) (λ e. e ≢ flag l) (λ e h g. omega (arith, h, ap length g, flag_length l, i.short)) (facets p.up) (facet_length p.up) in
        longer

    -- the block of the upper cell
    block_of_upper : (l u : ℕ) (p : TowerPair) → face l u → Fits u p → NotUp (u ∷ flag l) p → Apart p (pair_of flag l u)
    block_of_upper l u p h i n =
        let none : i.x ∷ i.b ≢ flag l = λ e. n (i.is_up ∙ ap (λ t. u ∷ t) e) in
        let differ : l ≢ u = λ e. omega (arith, falls l u h, ap dim e) in
        subst (λ t. AllByRecursion (λ e. e ≢ flag l) (facets t)) (sym i.is_up)
        (none, subst (λ t. AllByRecursion (λ e. e ≢ t) (map (λ s. u ∷ s) (facets (i.x ∷ i.b)))) (sym (flag_head l)) (heads_differ u l (rest_of (flag l)) differ (facets (i.x ∷ i.b))))

    -- the pair and what comes later
    pair_apart : (l u : ℕ) (q : TowerPair) (c' : ℕ) → LowTop c' q → NotAbove l c' → NotAbove u c' → Apart (pair_of flag l u) q
    pair_apart l u q c' t a b =
        subst (λ s. AllByRecursion (λ e. e ≢ s) (facets (u ∷ flag l))) (sym t)
        (λ e. a.0 (sym (ap top_of (sym (flag_head l) ∙ e))), heads_differ u c' (rest_of q.low) b.0 (facets (flag l)))

    -- all of what comes later has one of the later tops
    abbrev Topped : (ℕ → Type 0) → TowerPair → Type 0
    Topped P q = (c : ℕ) × LowTop c q × P c

    block_topped : (P : ℕ → Type 0) (c : ℕ) (qs : List TowerPair) → P c → AllByRecursion (Fits c) qs → AllByRecursion (Topped P) qs
    block_topped P c qs pc h = all_to (Fits c) (Topped P) (λ q i. (c, low_top c q i, pc)) qs h

    build_topped : (P : ℕ → Type 0) (sub : List ℕ → List TowerPair) → InOwn sub → (g f : ℕ) (rest : List ℕ) → Full (f ∷ rest) → (ps : List (ℕ × ℕ)) → AllByRecursion (FitsIn g) ps → AllByRecursion P (cells_of ps f) → AllByRecursion (Topped P) (build flag sub (sub (f ∷ rest)) ps)
    build_topped P sub w g f rest fu [] h a = block_topped P f (sub (f ∷ rest)) a.0 (w f rest fu)
    build_topped P sub w g f rest fu (p ∷ ps) h a =
        let last : List TowerPair = sub (f ∷ rest) in
        all_append (Topped P) (sub (flag p.0)) (sub (p.1 ∷ flag p.0) ++ (pair_of flag p.0 p.1 ∷ build flag sub last ps)) (block_topped P p.0 (sub (flag p.0)) a.0 (own_flag sub w p.0))
        (all_append (Topped P) (sub (p.1 ∷ flag p.0)) (pair_of flag p.0 p.1 ∷ build flag sub last ps) (block_topped P p.1 (sub (p.1 ∷ flag p.0)) a.1.0 (own_over sub w g p h.0))
        ((p.0, flag_head p.0, a.0), build_topped P sub w g f rest fu ps h.1 a.1.1))

    abbrev InsideOrder : (List ℕ → List TowerPair) → Type 0
    InsideOrder sub = (t : List ℕ) → Full t → Pairwise InnerApart (sub t)

    own_order : (sub : List ℕ → List TowerPair) (c : ℕ) (qs : List TowerPair) → AllByRecursion (Fits c) qs → Pairwise InnerApart qs → Pairwise Apart qs
    own_order sub c qs h o = pairwise_to (Fits c) InnerApart Apart (own_apart c) qs h o

    both_not : (l u : ℕ) (cs : List ℕ) → AllByRecursion (NotAbove l) cs → AllByRecursion (NotAbove u) cs → AllByRecursion (λ c. NotAbove l c × NotAbove u c) cs
    both_not l u cs a b = all_both_to (NotAbove l) (NotAbove u) (λ c. NotAbove l c × NotAbove u c) (λ c x y. (x, y)) cs a b

    build_order : (sub : List ℕ → List TowerPair) → InOwn sub → InsideOrder sub → ((t : List ℕ) → Full t → AllByRecursion (NotUp t) (sub t)) → (g f : ℕ) (rest : List ℕ) → Full (f ∷ rest) → (ps : List (ℕ × ℕ)) → AllByRecursion (FitsIn g) ps → Pairwise NotAbove (cells_of ps f) → Pairwise Apart (build flag sub (sub (f ∷ rest)) ps)
    build_order sub w r n g f rest fu [] h o = own_order sub f (sub (f ∷ rest)) (w f rest fu) (r (f ∷ rest) fu)
    build_order sub w r n g f rest fu (p ∷ ps) h o =
        let l : ℕ = p.0 in
        let u : ℕ = p.1 in
        let last : List TowerPair = sub (f ∷ rest) in
        let more : List TowerPair = build flag sub last ps in
        let bl : List TowerPair = sub (flag l) in
        let bu : List TowerPair = sub (u ∷ flag l) in
        let fl : AllByRecursion (Fits l) bl = own_flag sub w l in
        let fu2 : AllByRecursion (Fits u) bu = own_over sub w g p h.0 in
        let over : Full (u ∷ flag l) = flag_over l u h.0.2 h.0.3 in
        let after_l : AllByRecursion (Topped (NotAbove l)) more = build_topped (NotAbove l) sub w g f rest fu ps h.1 o.0.1 in
        let after_u : AllByRecursion (Topped (NotAbove u)) more = build_topped (NotAbove u) sub w g f rest fu ps h.1 o.1.0 in
        let after : AllByRecursion (Topped (λ c. NotAbove l c × NotAbove u c)) more = build_topped (λ c. NotAbove l c × NotAbove u c) sub w g f rest fu ps h.1 (both_not l u (cells_of ps f) o.0.1 o.1.0) in
        let pair : TowerPair = pair_of flag l u in
        let tail_order : Pairwise Apart (pair ∷ more) =
        (all_to (Topped (λ c. NotAbove l c × NotAbove u c)) (Apart pair) (λ q t. pair_apart l u q t.0 t.1 t.2.0 t.2.1) more after, build_order sub w r n g f rest fu ps h.1 o.1.1) in
        let upper_order : Pairwise Apart (bu ++ (pair ∷ more)) =
        pairwise_append Apart bu (pair ∷ more) (own_order sub u bu fu2 (r (u ∷ flag l) over)) tail_order
        (all_both_to (Fits u) (NotUp (u ∷ flag l)) (λ x. AllByRecursion (Apart x) (pair ∷ more)) (λ x i j. (block_of_upper l u x h.0.2 i j, all_to (Topped (NotAbove u)) (Apart x) (λ q t. apart_from u x q t.0 i t.1 t.2) more after_u)) bu fu2 (n (u ∷ flag l) over)) in
        pairwise_append Apart bl (bu ++ (pair ∷ more)) (own_order sub l bl fl (r (flag l) (flag_full l))) upper_order
        (all_to (Fits l) (λ x. AllByRecursion (Apart x) (bu ++ (pair ∷ more)))
        (λ x i.
        all_append (Apart x) bu (pair ∷ more) (all_to (Fits u) (Apart x) (λ q j. apart_from l x q u i (low_top u q j) o.0.0) bu fu2)
        (block_of_lower l u x i, all_to (Topped (NotAbove l)) (Apart x) (λ q t. apart_from l x q t.0 i t.1 t.2) more after_l)) bl fl)

    -- the field inside a cell is in order
    pub in_order : (d : ℕ) → InsideOrder (local data_of flag d)
    in_order zero t h = tt
    in_order (suc d) [] h = tt
    in_order (suc d) (g ∷ []) h = tt
    in_order (suc d) (g ∷ f ∷ rest) h =
        let b : Building = data_of g f in
        let i : IsBuilding g f b = works g f h.0 h.1 in
        let sub : List ℕ → List TowerPair = local data_of flag d in
        let all : List TowerPair = build flag sub (sub (f ∷ rest)) b.pairs in
        let low : AllByRecursion (Below g) all = build_below sub (in_own d) g (sub (f ∷ rest)) (all_to (Fits f) (Below g) (λ q j. goes_below g f q h.0 j) (sub (f ∷ rest)) (in_own d f rest h.2)) b.pairs i.fit in
        let up : TowerPair → TowerPair = λ p. record { low = g ∷ p.low; up = g ∷ p.up } in (
          all_map up (Below g) (InnerApart (first_pair g b.root)) (λ q j. ((λ e. j.some (sym (ap rest_of e))), tt)) all low,
          pairwise_map up Apart InnerApart (λ p q r. all_map (λ s. g ∷ s) (λ e. e ≢ q.low) (λ e. e ≢ g ∷ q.low) (λ e x y. x (ap rest_of y)) (facets p.up) r) all
              (build_order sub (in_own d) (in_order d) (λ t k. not_left d t k) g f rest h.2 b.pairs i.fit i.order),
        )

    -- ---- lowers and uppers differ

    -- what is left over is no lower
    not_low : (c : ℕ) (t : List ℕ) (p : TowerPair) → Full (c ∷ t) → Fits c p → p.low ≢ c ∷ t
    not_low c t p h i e = omega (arith, i.short, i.one, ap length e, full_length c t h)

    abbrev Tops : (ℕ → Type 0) → TowerPair → Type 0
    Tops P q = (c : ℕ) × (d : ℕ) × LowTop c q × (q.up ≡ d ∷ rest_of q.up) × P c × P d

    fits_tops : (P : ℕ → Type 0) (c : ℕ) (q : TowerPair) → P c → Fits c q → Tops P q
    fits_tops P c q pc i = (c, c, low_top c q i, i.is_up ∙ ap (λ t. c ∷ t) (sym (ap rest_of i.is_up)), pc, pc)

    build_tops : (P : ℕ → Type 0) (sub : List ℕ → List TowerPair) → InOwn sub → (g f : ℕ) (rest : List ℕ) → Full (f ∷ rest) → (ps : List (ℕ × ℕ)) → AllByRecursion (FitsIn g) ps → AllByRecursion P (cells_of ps f) → AllByRecursion (Tops P) (build flag sub (sub (f ∷ rest)) ps)
    build_tops P sub w g f rest fu [] h a = all_to (Fits f) (Tops P) (λ q i. fits_tops P f q a.0 i) (sub (f ∷ rest)) (w f rest fu)
    build_tops P sub w g f rest fu (p ∷ ps) h a =
        let last : List TowerPair = sub (f ∷ rest) in
        all_append (Tops P) (sub (flag p.0)) (sub (p.1 ∷ flag p.0) ++ (pair_of flag p.0 p.1 ∷ build flag sub last ps)) (all_to (Fits p.0) (Tops P) (λ q i. fits_tops P p.0 q a.0 i) (sub (flag p.0)) (own_flag sub w p.0))
        (all_append (Tops P) (sub (p.1 ∷ flag p.0)) (pair_of flag p.0 p.1 ∷ build flag sub last ps) (all_to (Fits p.1) (Tops P) (λ q i. fits_tops P p.1 q a.1.0 i) (sub (p.1 ∷ flag p.0)) (own_over sub w g p h.0))
        ((p.0, p.1, flag_head p.0, refl, a.0, a.1.0), build_tops P sub w g f rest fu ps h.1 a.1.1))

    tops_apart : (c : ℕ) (p q : TowerPair) → Fits c p → Tops (NotAbove c) q → Differ p q
    tops_apart c p q i t = ((λ e. t.4.0 (sym (ap top_of (sym i.is_up ∙ (e ∙ t.2))))), (λ e. t.5.0 (ap top_of (sym t.3 ∙ (e ∙ i.is_low)))))

    abbrev Split : (List ℕ → List TowerPair) → Type 0
    Split sub = (t : List ℕ) → Full t → Pairwise Differ (sub t)

    build_differ : (sub : List ℕ → List TowerPair) → InOwn sub → Split sub → ((t : List ℕ) → Full t → AllByRecursion (NotUp t) (sub t)) → (g f : ℕ) (rest : List ℕ) → Full (f ∷ rest) → (ps : List (ℕ × ℕ)) → AllByRecursion (FitsIn g) ps → Pairwise NotAbove (cells_of ps f) → Pairwise Differ (build flag sub (sub (f ∷ rest)) ps)
    build_differ sub w r n g f rest fu [] h o = r (f ∷ rest) fu
    build_differ sub w r n g f rest fu (p ∷ ps) h o =
        let l : ℕ = p.0 in
        let u : ℕ = p.1 in
        let more : List TowerPair = build flag sub (sub (f ∷ rest)) ps in
        let bl : List TowerPair = sub (flag l) in
        let bu : List TowerPair = sub (u ∷ flag l) in
        let fl : AllByRecursion (Fits l) bl = own_flag sub w l in
        let fu2 : AllByRecursion (Fits u) bu = own_over sub w g p h.0 in
        let over : Full (u ∷ flag l) = flag_over l u h.0.2 h.0.3 in
        let differ : l ≢ u = λ e. omega (arith, falls l u h.0.2, ap dim e) in
        let after_l : AllByRecursion (Tops (NotAbove l)) more = build_tops (NotAbove l) sub w g f rest fu ps h.1 o.0.1 in
        let after_u : AllByRecursion (Tops (NotAbove u)) more = build_tops (NotAbove u) sub w g f rest fu ps h.1 o.1.0 in
        let pair : TowerPair = pair_of flag l u in
        let tail_differ : Pairwise Differ (pair ∷ more) =
        (all_both_to (Tops (NotAbove l)) (Tops (NotAbove u)) (Differ pair) (λ q s t. ((λ e. t.4.0 (sym (ap top_of (e ∙ t.2)))), (λ e. s.5.0 (ap top_of (sym s.3 ∙ (e ∙ flag_head l)))))) more after_l after_u, build_differ sub w r n g f rest fu ps h.1 o.1.1) in
        let upper_differ : Pairwise Differ (bu ++ (pair ∷ more)) =
        pairwise_append Differ bu (pair ∷ more) (r (u ∷ flag l) over) tail_differ
        (all_to (Fits u) (λ x. AllByRecursion (Differ x) (pair ∷ more)) (λ x i. (((λ e. differ (sym (ap top_of (sym i.is_up ∙ (e ∙ flag_head l))))), (λ e. not_low u (flag l) x over i (sym e))), all_to (Tops (NotAbove u)) (Differ x) (λ q t. tops_apart u x q i t) more after_u)) bu fu2) in
        pairwise_append Differ bl (bu ++ (pair ∷ more)) (r (flag l) (flag_full l)) upper_differ
        (all_both_to (Fits l) (NotUp (flag l)) (λ x. AllByRecursion (Differ x) (bu ++ (pair ∷ more)))
        (λ x i j.
        all_append (Differ x) bu (pair ∷ more) (all_to (Fits u) (Differ x) (λ q y. tops_apart l x q i (fits_tops (NotAbove l) u q o.0.0 y)) bu fu2)
        ((j, (λ e. differ (sym (ap top_of (e ∙ i.is_low))))), all_to (Tops (NotAbove l)) (Differ x) (λ q t. tops_apart l x q i t) more after_l)) bl fl (n (flag l) (flag_full l)))

    -- no tower is both a lower and an upper
    pub in_split : (d : ℕ) → Split (local data_of flag d)
    in_split zero t h = tt
    in_split (suc d) [] h = tt
    in_split (suc d) (g ∷ []) h = tt
    in_split (suc d) (g ∷ f ∷ rest) h =
        let b : Building = data_of g f in
        let i : IsBuilding g f b = works g f h.0 h.1 in
        let sub : List ℕ → List TowerPair = local data_of flag d in
        let all : List TowerPair = build flag sub (sub (f ∷ rest)) b.pairs in
        let up : TowerPair → TowerPair = λ p. record { low = g ∷ p.low; up = g ∷ p.up } in
        let tops : AllByRecursion (Tops (λ c. c ≢ b.root)) all = build_tops (λ c. c ≢ b.root) sub (in_own d) g f rest h.2 b.pairs i.fit i.rootless in (
          all_map up (Tops (λ c. c ≢ b.root)) (Differ (first_pair g b.root)) (λ q t. ((λ e. t.4 (sym (ap (λ r. top_of (rest_of r)) e ∙ ap top_of t.2))), (λ e. no_cons t.1 (rest_of q.up) (sym t.3 ∙ ap rest_of e)))) all tops,
          pairwise_map up Differ Differ (λ p q r. ((λ e. r.0 (ap rest_of e)), (λ e. r.1 (ap rest_of e)))) all
              (build_differ sub (in_own d) (in_split d) (λ t k. not_left d t k) g f rest h.2 b.pairs i.fit i.order),
        )

    -- ---- each tower is left over, a lower or an upper

    has_left : (xs ys : List TowerPair) (t : List ℕ) → HasTower xs t → HasTower (xs ++ ys) t
    has_left [] ys t h = absurd h
    has_left (x ∷ xs) ys t (inl e) = inl e
    has_left (x ∷ xs) ys t (inr (inl e)) = inr (inl e)
    has_left (x ∷ xs) ys t (inr (inr h)) = inr (inr (has_left xs ys t h))

    has_right : (xs ys : List TowerPair) (t : List ℕ) → HasTower ys t → HasTower (xs ++ ys) t
    has_right [] ys t h = h
    has_right (x ∷ xs) ys t h = inr (inr (has_right xs ys t h))

    has_under : (g : ℕ) (ps : List TowerPair) (t : List ℕ) → HasTower ps t → HasTower (under g ps) (g ∷ t)
    has_under g [] t h = absurd h
    has_under g (p ∷ ps) t (inl e) = inl (ap (λ s. g ∷ s) e)
    has_under g (p ∷ ps) t (inr (inl e)) = inr (inl (ap (λ s. g ∷ s) e))
    has_under g (p ∷ ps) t (inr (inr h)) = inr (inr (has_under g ps t h))

    abbrev Tower : List ℕ → Type 0
    Tower = words.IsTower below

    abbrev Covers : ℕ → (List ℕ → List TowerPair) → Type 0
    Covers d sub = (c : ℕ) (s t : List ℕ) → dim c ≤ d → Full (c ∷ s) → Tower (c ∷ t) → (c ∷ t ≡ c ∷ s) ⊎ HasTower (sub (c ∷ s)) (c ∷ t)

    covers_flag : (d : ℕ) (sub : List ℕ → List TowerPair) → Covers d sub → (c : ℕ) (t : List ℕ) → dim c ≤ d → Tower (c ∷ t) → (c ∷ t ≡ flag c) ⊎ HasTower (sub (flag c)) (c ∷ t)
    covers_flag d sub w c t l h = subst (λ s. (c ∷ t ≡ s) ⊎ HasTower (sub s) (c ∷ t)) (sym (flag_head c)) (w c (rest_of (flag c)) t l (subst Full (flag_head c) (flag_full c)) h)

    build_covers : (d : ℕ) (sub : List ℕ → List TowerPair) → Covers d sub → (g f : ℕ) (rest : List ℕ) → dim g ≤ suc d → face f g → Full (f ∷ rest) → (ps : List (ℕ × ℕ)) → AllByRecursion (FitsIn g) ps → (c : ℕ) (t : List ℕ) → face c g → InCells c ps f → Tower (c ∷ t) → (c ∷ t ≡ f ∷ rest) ⊎ HasTower (build flag sub (sub (f ∷ rest)) ps) (c ∷ t)
    build_covers d sub w g f rest l ff fu [] h c t fc e tw = subst (λ y. (y ∷ t ≡ f ∷ rest) ⊎ HasTower (sub (f ∷ rest)) (y ∷ t)) (sym e) (w f rest t (omega (arith, l, falls f g ff)) fu (subst (λ y. Tower (y ∷ t)) e tw))
    build_covers d sub w g f rest l ff fu (p ∷ ps) h c t fc (inl e) tw =
        let bl : List TowerPair = sub (flag p.0) in
        let more : List TowerPair = pair_of flag p.0 p.1 ∷ build flag sub (sub (f ∷ rest)) ps in
        let bu : List TowerPair = sub (p.1 ∷ flag p.0) in
        inr (elim (covers_flag d sub w c t (omega (arith, l, falls c g fc)) tw) [
          | inl same ↦ has_right bl (bu ++ more) (c ∷ t) (has_right bu more (c ∷ t) (inl (sym (same ∙ ap flag e))))
          | inr in_block ↦ has_left bl (bu ++ more) (c ∷ t) (subst (λ y. HasTower (sub (flag y)) (c ∷ t)) e in_block)
        ])
    build_covers d sub w g f rest l ff fu (p ∷ ps) h c t fc (inr (inl e)) tw =
        let bl : List TowerPair = sub (flag p.0) in
        let more : List TowerPair = pair_of flag p.0 p.1 ∷ build flag sub (sub (f ∷ rest)) ps in
        let bu : List TowerPair = sub (p.1 ∷ flag p.0) in
        let lu : dim p.1 ≤ d = omega (arith, l, falls p.1 g h.0.1) in
        let s : c ∷ t ≡ p.1 ∷ t = ap (λ y. y ∷ t) e in
        inr (subst (λ y. HasTower (bl ++ (bu ++ more)) y) (sym s) (elim (w p.1 (flag p.0) t lu (flag_over p.0 p.1 h.0.2 h.0.3) (subst Tower s tw)) [
          | inl same ↦ has_right bl (bu ++ more) (p.1 ∷ t) (has_right bu more (p.1 ∷ t) (inr (inl (sym same))))
          | inr in_block ↦ has_right bl (bu ++ more) (p.1 ∷ t) (has_left bu more (p.1 ∷ t) in_block)
        ]))
    build_covers d sub w g f rest l ff fu (p ∷ ps) h c t fc (inr (inr i)) tw =
        let bl : List TowerPair = sub (flag p.0) in
        let last : List TowerPair = build flag sub (sub (f ∷ rest)) ps in
        let bu : List TowerPair = sub (p.1 ∷ flag p.0) in
        elim (build_covers d sub w g f rest l ff fu ps h.1 c t fc i tw) [
          | inl same ↦ inl same
          | inr found ↦ inr (has_right bl (bu ++ (pair_of flag p.0 p.1 ∷ last)) (c ∷ t) (has_right bu (pair_of flag p.0 p.1 ∷ last) (c ∷ t) (inr (inr found))))
        ]

    no_face : (v c : ℕ) → dim v ≡ 0 → face c v → ⊥
    no_face v c e h = omega (arith, falls c v h, e)

    pub covered : (d : ℕ) → Covers d (local data_of flag d)
    covered d c [] [] l h tw = inl refl
    covered d c [] (x ∷ t) l h tw = absurd (no_face c x h tw.0)
    covered zero c (f ∷ rest) t l h tw = absurd (omega (arith, l, h.1))
    covered (suc d) c (f ∷ rest) [] l h tw = inr (inl refl)
    covered (suc d) c (f ∷ rest) (x ∷ t) l h tw =
        let b : Building = data_of c f in
        let i : IsBuilding c f b = works c f h.0 h.1 in
        let sub : List ℕ → List TowerPair = local data_of flag d in
        let all : List TowerPair = build flag sub (sub (f ∷ rest)) b.pairs in
        elim (i.all x tw.0) [
          | inl e ↦ inr (inr (inl (ap (λ r. c ∷ r) (is_point x t (ap dim e ∙ i.point) tw.1 e))))
          | inr j ↦
              elim (build_covers d sub (covered d) c f rest l h.0 h.2 b.pairs i.fit x t tw.0 j tw.1) [
                | inl same ↦ inl (ap (λ r. c ∷ r) same)
                | inr found ↦ inr (inr (inr (has_under c all (x ∷ t) found)))
              ]
        ]
      where
        is_point : {r : ℕ} (x : ℕ) (t : List ℕ) → dim x ≡ 0 → Tower (x ∷ t) → x ≡ r → r ∷ [] ≡ x ∷ t
        is_point x [] e tw g = ap (λ y. y ∷ []) (sym g)
        is_point x (y ∷ t) e tw g = absurd (no_face x y e tw.0)

-- all of it together
pub local_leaves : LocalLeavesOver
local_leaves below dim data_of flag d [] flagged full low = absurd full
local_leaves below dim data_of flag d (c ∷ s) flagged full low = record {
  own = in_own below dim data_of flag flagged.falls flagged.builds flagged.tops flagged.full d c s full;
  order = in_order below dim data_of flag flagged.falls flagged.builds flagged.tops flagged.full d (c ∷ s) full;
  split = in_split below dim data_of flag flagged.falls flagged.builds flagged.tops flagged.full d (c ∷ s) full;
  no_up = not_left below dim data_of flag flagged.falls flagged.builds flagged.tops flagged.full d (c ∷ s) full;
  covers = λ other tower. covered below dim data_of flag flagged.falls flagged.builds flagged.tops flagged.full d c s other low full tower;
}
