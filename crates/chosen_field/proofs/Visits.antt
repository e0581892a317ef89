-- What the visit of a vertex finds, and of a level.
use Rattle.std.proofs.Common.{◌≡◌, ◌⊎◌, inl, inr, ℕ, ◌+◌, ◌<◌, ◌≤◌, List, [], ◌∷◌, ◌++◌, length, take, drop, get_or, Bool, true, false, cond, ◌&&◌, eqb, refl, ap, sym, ◌∙◌, subst, arith}
use Rattle.std.proofs.lemmas.Bool.{and_parts, and_from, cases_Bool, both_ways, eq-eqb, eqb-true}
use Rattle.std.proofs.lemmas.List.{take_more, take_all, drop_all, drop-append-le, length-take-le}
use Rattle.number_lists.specs.Words.{holds}
use Rattle.number_lists.specs.Members.{In}
use Rattle.number_lists.specs.Found.{inserted_all}
use Rattle.number_lists.proofs.CallerLemmas.{push-In, In-last, In-left, any-In, any-some, In-holds, holds-In, AreMore, are_more, same_bool}
use Rattle.face_poset.specs.Poset.{count, facets_of, cofaces_of}
use Rattle.vector_field.specs.Stages.{is_left}
use Rattle.vector_field.proofs.CallerLemmas.{Coface, cofaces-In, In-cofaces}
use Rattle.chosen_field.specs.Chosen.{joined_by}
use Rattle.chosen_field.specs.Rests.{left_of}
use Rattle.chosen_field.specs.Listings.{at}
use Rattle.chosen_field.specs.Levels.{Grows, IsVisited, AreVisited}
use Rattle.chosen_field.proofs.Steps.{left-In, In-left_of}

-- ---- lists that grow

pub grows-none : (old : List ℕ) → Grows old old
grows-none old = record { kept = λ y m. m; place = λ k l. refl; long = omega arith; distinct = λ d. d }

pub grows-on : (a b c : List ℕ) → Grows a b → Grows b c → Grows a c
grows-on a b c g h = record {
  kept = λ y m. h.kept y (g.kept y m);
  place = λ k l. h.place k (omega (arith, l, g.long)) ∙ g.place k l;
  long = omega (arith, g.long, h.long);
  distinct = λ d. h.distinct (g.distinct d);
}

grows-all : (old ns : List ℕ) → Grows old (inserted_all old ns)
grows-all old ns = let m : AreMore old ns (inserted_all old ns) = are_more old ns in record { kept = m.kept; place = m.place; long = m.long; distinct = m.distinct }

-- ---- the edges at a vertex

module _ (space : List (List (List ℕ))) (flags : List Bool) where
  -- the ends of the flagged edges among some are found
  pub record IsPart (cofaces old new : List ℕ) : Type 0 where
    pub grows : Grows old new
    pub added : (e y : ℕ) → In e cofaces → is_left flags e ≡ true → In y (facets_of space 1 e) → In y new
    pub only : (y : ℕ) → In y new → In y old ⊎ ((e : ℕ) × In e cofaces × (is_left flags e ≡ true) × In y (facets_of space 1 e))

  pub part-none : (old : List ℕ) → IsPart [] old old
  part-none old = record { grows = grows-none old; added = λ e y m. elim m [ ]; only = λ y m. inl m }

  wider : (cofaces : List ℕ) (c y : ℕ) → ((e : ℕ) × In e cofaces × (is_left flags e ≡ true) × In y (facets_of space 1 e)) → (e : ℕ) × In e (cofaces ++ c ∷ []) × (is_left flags e ≡ true) × In y (facets_of space 1 e)
  wider cofaces c y s = (s.0, In-left (c ∷ []) s.1, s.2, s.3)

  pub part-flagged : (cofaces old new new' fs : List ℕ) (c : ℕ) → is_left flags c ≡ true → fs ≡ facets_of space 1 c → new' ≡ inserted_all new fs → IsPart cofaces old new → IsPart (cofaces ++ c ∷ []) old new'
  part-flagged cofaces old new new' fs c t f e h = subst (IsPart (cofaces ++ c ∷ []) old) (sym (e ∙ ap (inserted_all new) f)) whole
    where
      m : AreMore new (facets_of space 1 c) (inserted_all new (facets_of space 1 c))
      m = are_more new (facets_of space 1 c)

      whole : IsPart (cofaces ++ c ∷ []) old (inserted_all new (facets_of space 1 c))
      whole = record {
        grows = grows-on old new (inserted_all new (facets_of space 1 c)) h.grows (grows-all new (facets_of space 1 c));
        added = λ d y i t j. elim (push-In cofaces c i) [
          | inl k ↦ m.kept y (h.added d y k t j)
          | inr same ↦ m.added y (subst (λ (z : ℕ). In y (facets_of space 1 z)) same j)
        ];
        only = λ y i. elim (m.only y i) [
          | inl k ↦ elim (h.only y k) [ inl a ↦ inl a | inr s ↦ inr (wider cofaces c y s) ]
          | inr k ↦ inr (c, In-last cofaces c, t, k)
        ];
      }

  pub part-other : (cofaces old new : List ℕ) (c : ℕ) → is_left flags c ≡ false → IsPart cofaces old new → IsPart (cofaces ++ c ∷ []) old new
  part-other cofaces old new c t h = record {
    grows = h.grows;
    added = λ d y i u j. elim (push-In cofaces c i) [
      | inl k ↦ h.added d y k u j
      | inr same ↦ absurd (both_ways (is_left flags c) t (subst (λ (z : ℕ). is_left flags z ≡ true) same u))
    ];
    only = λ y i. elim (h.only y i) [ inl a ↦ inl a | inr s ↦ inr (wider cofaces c y s) ];
  }

  -- all edges at a vertex were looked at
  pub part-all : (vertex : ℕ) (cofaces old new : List ℕ) → length flags ≡ count space 1 → cofaces ≡ cofaces_of space 0 vertex → IsPart cofaces old new → IsVisited space (left_of flags) vertex old new
  part-all vertex cofaces old new long e h = record {
    grows = h.grows;
    added = λ y t.
        let s = any-some (λ f. holds (facets_of space 1 f) vertex && holds (facets_of space 1 f) y) (left_of flags) t in
        let b = and_parts (holds (facets_of space 1 s.0) vertex) (holds (facets_of space 1 s.0) y) s.2 in
        let r = left-In flags s.0 s.1 in
        let c : In s.0 (cofaces_of space 0 vertex) = In-cofaces space 0 vertex s.0 r.0 (omega (arith, r.1, long)) (holds-In (facets_of space 1 s.0) b.0) in
        h.added s.0 y (subst (λ (us : List ℕ). In s.0 us) (sym e) c) r.2 (holds-In (facets_of space 1 s.0) b.1);
    only = λ y m. elim (h.only y m) [
      | inl k ↦ inl k
      | inr s ↦
          let c : Coface space 0 vertex s.0 = cofaces-In space 0 vertex s.0 (subst (λ (us : List ℕ). In s.0 us) e s.1) in
          inr (any-In (λ f. holds (facets_of space 1 f) vertex && holds (facets_of space 1 f) y) (In-left_of flags s.0 c.first (omega (arith, c.last, long)) s.2)
          (and_from (holds (facets_of space 1 s.0) vertex) (holds (facets_of space 1 s.0) y) (In-holds c.facet) (In-holds s.3)))
    ];
  }

-- ---- the vertices of a level

-- the vertices that were found from one index on up to another
abbrev pub segment : (head index : ℕ) → List ℕ → List ℕ
segment head index found = drop head (take index found)

pub segment-none : (head : ℕ) (found : List ℕ) → head ≤ length found → segment head head found ≡ []
segment-none head found l = drop_all head (take head found) (omega (arith, length-take-le head found l))

pub segment-more : (head index : ℕ) (found : List ℕ) → head ≤ index → index < length found → segment head (index + 1) found ≡ segment head index found ++ get_or found index 0 ∷ []
segment-more head index found a b = ap (λ (xs : List ℕ). drop head xs) (take_more found index 0 b) ∙ drop-append-le head (take index found) (get_or found index 0 ∷ []) (omega (arith, a, length-take-le index found (omega (arith, b))))

pub segment-all : (head index : ℕ) (found : List ℕ) → length found ≤ index → segment head index found ≡ drop head found
segment-all head index found l = ap (λ (xs : List ℕ). drop head xs) (take_all index found l)

module _ (space : List (List (List ℕ))) (es : List ℕ) where
  pub visited-none : (old : List ℕ) → AreVisited space es [] old old
  visited-none old = record { grows = grows-none old; added = λ x y m. elim m [ ]; only = λ y m. inl m }

  pub visited-more : (xs old new new' : List ℕ) (x : ℕ) → AreVisited space es xs old new → IsVisited space es x new new' → AreVisited space es (xs ++ x ∷ []) old new'
  visited-more xs old new new' x h v = record {
    grows = grows-on old new new' h.grows v.grows;
    added = λ z y m t. elim (push-In xs x m) [
      | inl k ↦ v.grows.kept y (h.added z y k t)
      | inr same ↦ v.added y (subst (λ (w : ℕ). joined_by space es w y ≡ true) same t)
    ];
    only = λ y m. elim (v.only y m) [
      | inl k ↦ elim (h.only y k) [ inl a ↦ inl a | inr s ↦ inr (s.0, In-left (x ∷ []) s.1, s.2) ]
      | inr t ↦ inr (x, In-last xs x, t)
    ];
  }

-- one number more
pub numbered-more : (xs old now new : List ℕ) (x round : ℕ) → ((v : ℕ) → 1 ≤ v → at now v ≡ cond (holds xs v) round (at old v)) → ((v : ℕ) → 1 ≤ v → at new v ≡ cond (eqb v x) round (at now v))
    → (v : ℕ) → 1 ≤ v → at new v ≡ cond (holds (xs ++ x ∷ []) v) round (at old v)
numbered-more xs old now new x round h e v a = elim (cases_Bool (eqb v x)) [
  | inl t ↦
      let m : holds (xs ++ x ∷ []) v ≡ true = In-holds (subst (λ (w : ℕ). In w (xs ++ x ∷ [])) (sym (eqb-true v x t)) (In-last xs x)) in
      e v a ∙ (ap (λ (b : Bool). cond b round (at now v)) t ∙ ap (λ (b : Bool). cond b round (at old v)) (sym m))
  | inr t ↦
      let m : holds xs v ≡ holds (xs ++ x ∷ []) v =
      same_bool (holds xs v) (holds (xs ++ x ∷ []) v) (λ i. In-holds (In-left (x ∷ []) (holds-In xs i)))
      (λ i. elim (push-In xs x (holds-In (xs ++ x ∷ []) i)) [ inl k ↦ In-holds k | inr same ↦ absurd (both_ways (eqb v x) t (eq-eqb v x same)) ]) in
      e v a ∙ (ap (λ (b : Bool). cond b round (at now v)) t ∙ (h v a ∙ ap (λ (b : Bool). cond b round (at old v)) m))
]
