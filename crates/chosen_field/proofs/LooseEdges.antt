-- The loose edges join all vertices: round a 2-cell that is an upper its lower is replaced by the other edges, and so on along the field.
use Rattle.std.proofs.Common.{◌≡◌, ◌≢◌, ◌⊎◌, inl, inr, ℕ, zero, suc, ◌+◌, ◌<◌, ◌≤◌, List, [], ◌∷◌, ◌++◌, length, map, get_or, take, drop, Bool, true, false, not, ◌&&◌, eqb, AllPairs, refl, ap, sym, ◌∙◌, subst, arith, if◌then◌else◌}
use Rattle.std.specs.List.{list_any}
use Rattle.std.proofs.lemmas.Bool.{and_parts, and_from, cases_Bool, not_from_false}
use Rattle.face_poset.specs.declared.cells.Pair.{Pair}
use Rattle.number_lists.specs.Words.{upto, holds}
use Rattle.number_lists.specs.Members.{In, here, there}
use Rattle.number_lists.specs.Reach.{Reaches, at_start, on}
use Rattle.number_lists.proofs.CallerLemmas.{append-In, In-left, In-right, In-map, map-In, any-In, any-some, none-In, In-filter, In-inside, In-holds, holds-In, In-upto, upto-In, holds-upto, In-at, at-In}
use Rattle.face_poset.specs.Poset.{count, facets_of, IsSpace}
use Rattle.regular_check.specs.declared.cycles.Step.{Step}
use Rattle.regular_check.specs.Rules.{IsRegular}
use Rattle.regular_check.specs.Cycle.{end_of, start_of, cycle, GoesRound, CyclesGoRound}
use Rattle.regular_check.specs.Components.{vertices, share_edge, component_of, component_count, SameComponentIsAPath, ComponentsAreNumbered}
use Rattle.pair_laws.specs.Joins.{Chain, start, finish, none, next}
use Rattle.pair_laws.proofs.CallerLemmas.{opened}
use Rattle.vector_field.specs.Pairs.{has_lower, is_used, others, IsValid}
use Rattle.vector_field.proofs.CallerLemmas.{Incident, incident-true, lined-from, along-field, unused-from, has_lower-from, has_lower-true, other-In, facet-range}
use Rattle.chosen_field.specs.Chosen.{high, loose, joined_by}
use Rattle.chosen_field.specs.Laws.{LooseEdgesJoin}
use Rattle.chosen_field.proofs.Ends.{two_facets}
use Rattle.chosen_field.proofs.HighField.{high-is}

-- ---- round a cycle

-- a member splits a list
split-In : {A : Type 0} {x : A} (zs : List A) → In x zs → (xs : List A) × (ys : List A) × (zs ≡ xs ++ x ∷ ys)
split-In [] m = elim m [ ]
split-In (z ∷ zs) here = ([], zs, refl)
split-In {A} (z ∷ zs) (there m) = let s = split-In zs m in (z ∷ s.0, s.1, ap (λ (ws : List A). z ∷ ws) s.2)

module _ (space : List (List (List ℕ))) where
  abbrev from_end : ℕ → ℕ
  from_end e = get_or (facets_of space 1 e) 0 0

  abbrev to_end : ℕ → ℕ
  to_end e = get_or (facets_of space 1 e) 1 0

  start-same : (s : Step) → start (from_end) (to_end) s ≡ start_of space s
  start-same s = by s.forward refl
    where
      by : (b : Bool) → s.forward ≡ b → start (from_end) (to_end) s ≡ start_of space s
      by true e = rw e refl
      by false e = rw e refl

  finish-same : (s : Step) → finish (from_end) (to_end) s ≡ end_of space s
  finish-same s = by s.forward refl
    where
      by : (b : Bool) → s.forward ≡ b → finish (from_end) (to_end) s ≡ end_of space s
      by true e = rw e refl
      by false e = rw e refl

  -- steps that begin where the one before ends are a chain
  chain : (s : Step) (ss : List Step) (v : ℕ) → map (end_of space) (s ∷ ss) ≡ map (start_of space) ss ++ v ∷ [] → Chain (from_end) (to_end) (start_of space s) (s ∷ ss) v
  chain s [] v e =
      let f : end_of space s ≡ v = ap (λ (ns : List ℕ). get_or ns 0 0) e in
      subst (λ (x : ℕ). Chain (from_end) (to_end) x (s ∷ []) v) (start-same s) (next (subst (λ (x : ℕ). Chain (from_end) (to_end) x [] v) (sym (finish-same s ∙ f)) none))
  chain s (t ∷ ts) v e =
      let f : end_of space s ≡ start_of space t = ap (λ (ns : List ℕ). get_or ns 0 0) e in
      subst (λ (x : ℕ). Chain (from_end) (to_end) x (s ∷ t ∷ ts) v) (start-same s)
      (next (subst (λ (x : ℕ). Chain (from_end) (to_end) x (t ∷ ts) v) (sym (finish-same s ∙ f)) (chain t ts v (ap (λ (ns : List ℕ). drop 1 ns) e))))

  -- what goes once round is a closed chain
  closed : (s : Step) (ss : List Step) → map (end_of space) (s ∷ ss) ≡ drop 1 (map (start_of space) (s ∷ ss)) ++ take 1 (map (start_of space) (s ∷ ss)) → Chain (from_end) (to_end) (start_of space s) (s ∷ ss) (start_of space s)
  closed s ss e = chain s ss (start_of space s) e

  round : (steps : List Step) → map (end_of space) steps ≡ drop 1 (map (start_of space) steps) ++ take 1 (map (start_of space) steps) → {t : Step} → In t steps → (v : ℕ) × Chain (from_end) (to_end) v steps v
  round [] e m = elim m [ ]
  round (s ∷ ss) e m = (start_of space s, closed s ss e)

  -- no other step goes along the edge of a step
  other-steps : (xs ys : List Step) (s t : Step) → AllPairs (λ a b. a ≢ b) (map (λ (z : Step). z.edge) (xs ++ s ∷ ys)) → In t (ys ++ xs) → t.edge ≢ s.edge
  other-steps xs ys s t h m = elim (append-In ys xs m) [ inl i ↦ λ e. after xs h i (sym e) | inr i ↦ before xs h i ]
    where
      tail : (z : Step) (zs : List Step) → AllPairs (λ a b. a ≢ b) (map (λ (w : Step). w.edge) (z ∷ zs)) → AllPairs (λ a b. a ≢ b) (map (λ (w : Step). w.edge) zs)
      tail z zs k i j d l n = k (suc i) (suc j) d (omega (arith, l)) (omega (arith, n))

      head : (z w : Step) (zs : List Step) → AllPairs (λ a b. a ≢ b) (map (λ (w : Step). w.edge) (z ∷ zs)) → In w zs → z.edge ≢ w.edge
      head z w zs k i e = let a = In-at (In-map (λ (x : Step). x.edge) i) in k 0 (suc a.0) 0 (omega arith) (omega (arith, a.1)) (e ∙ sym a.2)

      after : (zs : List Step) → AllPairs (λ a b. a ≢ b) (map (λ (w : Step). w.edge) (zs ++ s ∷ ys)) → In t ys → s.edge ≢ t.edge
      after [] k i = head s t ys k i
      after (z ∷ zs) k i = after zs (tail z (zs ++ s ∷ ys) k) i

      before : (zs : List Step) → AllPairs (λ a b. a ≢ b) (map (λ (w : Step). w.edge) (zs ++ s ∷ ys)) → In t zs → t.edge ≢ s.edge
      before [] k i = elim i [ ]
      before (z ∷ zs) k here = head z s (zs ++ s ∷ ys) k (In-right zs here)
      before (z ∷ zs) k (there i) = before zs (tail z (zs ++ s ∷ ys) k) i

-- ---- along the field

module _ (space : List (List (List ℕ))) (valid : IsSpace space) (regular : IsRegular space) (cycles : CyclesGoRound) where
  abbrev Joined : ℕ → ℕ → Type 0
  Joined x y = Reaches (joined_by space (loose space)) (vertices space) x y

  trans : {x y z : ℕ} → Joined x y → Joined y z → Joined x z
  trans h at_start = h
  trans h (on k s m) = on (trans h k) s m

  -- the ends of the edge are joined by loose edges
  abbrev Ends : ℕ → Type 0
  Ends e = (x y : ℕ) → In x (facets_of space 1 e) → In y (facets_of space 1 e) → Joined x y

  along-chain : {v w : ℕ} {ss : List Step} → Chain (from_end space) (to_end space) v ss w → ((t : Step) → In t ss → Ends t.edge × (1 ≤ t.edge) × (t.edge ≤ count space 1)) → Joined v w
  along-chain none k = at_start
  along-chain (next {s = s} h) k =
      let r = k s here in
      trans (r.0 (start (from_end space) (to_end space) s) (finish (from_end space) (to_end space) s) (end-In s r.1 r.2).0 (end-In s r.1 r.2).1) (along-chain h (λ t m. k t (there m)))
    where
      end-In : (s : Step) → 1 ≤ s.edge → s.edge ≤ count space 1 → (In (start (from_end space) (to_end space) s) (facets_of space 1 s.edge)) × (In (finish (from_end space) (to_end space) s) (facets_of space 1 s.edge))
      end-In s a b =
          let l : length (facets_of space 1 s.edge) ≡ 2 = two_facets space regular s.edge a b in
          let x : In (from_end space s.edge) (facets_of space 1 s.edge) = at-In (facets_of space 1 s.edge) 0 0 (omega (arith, l)) in
          let y : In (to_end space s.edge) (facets_of space 1 s.edge) = at-In (facets_of space 1 s.edge) 1 0 (omega (arith, l)) in
          by s.forward refl x y
        where
          by : (b : Bool) → s.forward ≡ b → In (from_end space s.edge) (facets_of space 1 s.edge) → In (to_end space s.edge) (facets_of space 1 s.edge)
              → (In (start (from_end space) (to_end space) s) (facets_of space 1 s.edge)) × (In (finish (from_end space) (to_end space) s) (facets_of space 1 s.edge))
          by true e x y = rw e (x, y)
          by false e x y = rw e (y, x)

  flip : (x y : ℕ) → joined_by space (loose space) x y ≡ true → joined_by space (loose space) y x ≡ true
  flip x y t =
      let s = any-some (λ e. holds (facets_of space 1 e) x && holds (facets_of space 1 e) y) (loose space) t in
      let b = and_parts (holds (facets_of space 1 s.0) x) (holds (facets_of space 1 s.0) y) s.2 in
      any-In (λ e. holds (facets_of space 1 e) y && holds (facets_of space 1 e) x) s.1 (and_from (holds (facets_of space 1 s.0) y) (holds (facets_of space 1 s.0) x) b.1 b.0)

  joined_node : {x y : ℕ} → holds (vertices space) x ≡ true → Joined x y → holds (vertices space) y ≡ true
  joined_node a at_start = a
  joined_node a (on h s m) = m

  joined_back : {x y : ℕ} → holds (vertices space) x ≡ true → Joined x y → Joined y x
  joined_back a at_start = at_start
  joined_back a (on {y = y} {z = z} h s m) = trans (on at_start (flip y z s) (joined_node a h)) (joined_back a h)

  end-vertex : (e x : ℕ) → 1 ≤ e → e ≤ count space 1 → In x (facets_of space 1 e) → holds (vertices space) x ≡ true
  end-vertex e x a b m = let r = facet-range space 0 e x valid a b m in holds-upto (count space 0) x r.0 r.1

  two_cases : (xs : List ℕ) (x : ℕ) → length xs ≡ 2 → In x xs → (x ≡ get_or xs 0 0) ⊎ (x ≡ get_or xs 1 0)
  two_cases xs x l m = by (In-at m)
    where
      by : (k : ℕ) × (k < length xs) × (get_or xs k 0 ≡ x) → (x ≡ get_or xs 0 0) ⊎ (x ≡ get_or xs 1 0)
      by (zero, n, e) = inl (sym e)
      by (suc zero, n, e) = inr (sym e)
      by (suc (suc k), n, e) = absurd (omega (arith, n, l))

  ends-from : (e : ℕ) → 1 ≤ e → e ≤ count space 1 → Joined (from_end space e) (to_end space e) → Ends e
  ends-from e a b h x y m n =
      let l : length (facets_of space 1 e) ≡ 2 = two_facets space regular e a b in
      let back : Joined (to_end space e) (from_end space e) = joined_back (end-vertex e (from_end space e) a b (at-In (facets_of space 1 e) 0 0 (omega (arith, l)))) h in
      by (two_cases (facets_of space 1 e) x l m) (two_cases (facets_of space 1 e) y l n) back
    where
      by : (x ≡ from_end space e) ⊎ (x ≡ to_end space e) → (y ≡ from_end space e) ⊎ (y ≡ to_end space e) → Joined (to_end space e) (from_end space e) → Joined x y
      by (inl p) (inl q) back = subst (λ (z : ℕ). Joined x z) (p ∙ sym q) at_start
      by (inl p) (inr q) back = subst (λ (z : ℕ). Joined z y) (sym p) (subst (λ (z : ℕ). Joined (from_end space e) z) (sym q) h)
      by (inr p) (inl q) back = subst (λ (z : ℕ). Joined z y) (sym p) (subst (λ (z : ℕ). Joined (to_end space e) z) (sym q) back)
      by (inr p) (inr q) back = subst (λ (z : ℕ). Joined x z) (p ∙ sym q) at_start

  loose-ends : (e : ℕ) → In e (loose space) → Ends e
  loose-ends e i x y m n =
      let r = upto-In (count space 1) e (In-inside (λ c. not (is_used (high space) 1 c)) (upto (count space 1)) i) in
      on at_start
      (any-In (λ f. holds (facets_of space 1 f) x && holds (facets_of space 1 f) y) i (and_from (holds (facets_of space 1 e) x) (holds (facets_of space 1 e) y) (In-holds m) (In-holds n)))
      (end-vertex e y r.0 r.1 n)

  -- an edge that is no lower is loose
  is-loose : (e : ℕ) → 1 ≤ e → e ≤ count space 1 → list_any (has_lower 1 e) (high space) ≡ false → In e (loose space)
  is-loose e a b unled =
      In-filter (λ c. not (is_used (high space) 1 c)) (In-upto (count space 1) e a b)
      (not_from_false (is_used (high space) 1 e)
      (unused-from (high space) 1 e
      (λ p m u. elim u [
        | inl k ↦ none-In (has_lower 1 e) unled m (has_lower-from p 1 e k.0 k.1)
        | inr k ↦ let l : 1 ≤ p.dim = (high-is space).above p m in omega (arith, l, k.0)
      ])))

  turned : (s : Step) (e : ℕ) → 1 ≤ e → e ≤ count space 1 → e ≡ s.edge → (b : Bool) → s.forward ≡ b → Joined (finish (from_end space) (to_end space) s) (start (from_end space) (to_end space) s) → Joined (from_end space e) (to_end space e)
  turned s e low high same true f j =
      let h : Joined (to_end space s.edge) (from_end space s.edge) =
      subst (λ (c : Bool). Joined (if c then to_end space s.edge else from_end space s.edge) (if c then from_end space s.edge else to_end space s.edge)) f j in
      joined_back (end-vertex e (to_end space e) low high (at-In (facets_of space 1 e) 1 0 (omega (arith, two_facets space regular e low high)))) (subst (λ (z : ℕ). Joined (to_end space z) (from_end space z)) (sym same) h)
  turned s e low high same false f j =
      let h : Joined (from_end space s.edge) (to_end space s.edge) =
      subst (λ (c : Bool). Joined (if c then to_end space s.edge else from_end space s.edge) (if c then from_end space s.edge else to_end space s.edge)) f j in
      subst (λ (z : ℕ). Joined (from_end space z) (to_end space z)) (sym same) h

  -- the ends of a lower, where the other edges of its upper have joined ends
  lower-ends : (p : Pair) → In p (high space) → p.dim ≡ 1 → ((f : ℕ) → In f (others space p) → Ends f) → Ends p.lower
  lower-ends p m d k = ends-from p.lower i.first last (turned cut.0 p.lower i.first last cut.2 cut.0.forward refl joined_it)
    where
      i : Incident space p
      i = incident-true space p ((lined-from space (high space) (high-is space).valid).incident p m)

      last : p.lower ≤ count space 1
      last = subst (λ (n : ℕ). p.lower ≤ count space n) d i.last

      facet : In p.lower (facets_of space 2 p.upper)
      facet = subst (λ (n : ℕ). In p.lower (facets_of space (n + 1) p.upper)) d i.facet

      upper_last : p.upper ≤ count space 2
      upper_last = subst (λ (n : ℕ). p.upper ≤ count space (n + 1)) d i.upper_last

      round_it : GoesRound space (facets_of space 2 p.upper) (cycle space p.upper)
      round_it = cycles space p.upper valid regular i.upper_first upper_last

      -- the step along the lower
      cut : (s : Step) × In s (cycle space p.upper) × (p.lower ≡ s.edge)
      cut = map-In (λ (s : Step). s.edge) (cycle space p.upper) (holds-In (map (λ (s : Step). s.edge) (cycle space p.upper)) (round_it.edges_are p.lower ∙ In-holds facet))

      parts : (xs : List Step) × (ys : List Step) × (cycle space p.upper ≡ xs ++ cut.0 ∷ ys)
      parts = split-In (cycle space p.upper) cut.1

      opened_at : Chain (from_end space) (to_end space) (finish (from_end space) (to_end space) cut.0) (parts.1 ++ parts.0) (start (from_end space) (to_end space) cut.0)
      opened_at =
          let r = round space (cycle space p.upper) round_it.closes cut.1 in
          opened (from_end space) (to_end space) r.0 cut.0 parts.0 parts.1 (subst (λ (ss : List Step). Chain (from_end space) (to_end space) r.0 ss r.0) parts.2 r.1)

      step-ends : (t : Step) → In t (parts.1 ++ parts.0) → Ends t.edge × (1 ≤ t.edge) × (t.edge ≤ count space 1)
      step-ends t n =
          let apart : t.edge ≢ p.lower = λ e. other-steps space parts.0 parts.1 cut.0 t (subst (λ (ss : List Step). AllPairs (λ a b. a ≢ b) (map (λ (z : Step). z.edge) ss)) parts.2 round_it.edges_once) n (e ∙ cut.2) in
          let inside : In t (cycle space p.upper) = subst (λ (ss : List Step). In t ss) (sym parts.2) (elim (append-In parts.1 parts.0 n) [ inl j ↦ In-right parts.0 (there j) | inr j ↦ In-left (cut.0 ∷ parts.1) j ]) in
          let facet_of : In t.edge (facets_of space 2 p.upper) = holds-In (facets_of space 2 p.upper) (sym (round_it.edges_are t.edge) ∙ In-holds (In-map (λ (z : Step). z.edge) inside)) in
          let r = facet-range space 1 p.upper t.edge valid i.upper_first upper_last facet_of in
          (k t.edge (other-In space p t.edge (subst (λ (n : ℕ). In t.edge (facets_of space (n + 1) p.upper)) (sym d) facet_of) apart), r.0, r.1)

      joined_it : Joined (finish (from_end space) (to_end space) cut.0) (start (from_end space) (to_end space) cut.0)
      joined_it = along-chain opened_at step-ends

  edge-ends : (e : ℕ) → 1 ≤ e → e ≤ count space 1 → Ends e
  edge-ends e a b = by (cases_Bool (list_any (has_lower 1 e) (high space)))
    where
      field : IsValid space (high space)
      field = (high-is space).valid

      other-loose : (p : Pair) (f : ℕ) → In p (high space) → p.dim ≡ 1 → In f (others space p) → list_any (has_lower 1 f) (high space) ≡ false → Ends f
      other-loose p f m d o unled =
          let i : Incident space p = incident-true space p ((lined-from space (high space) field).incident p m) in
          let r = facet-range space p.dim p.upper f valid i.upper_first i.upper_last (In-inside (λ g. not (eqb g p.lower)) (facets_of space (p.dim + 1) p.upper) o) in
          loose-ends f (is-loose f r.0 (subst (λ (n : ℕ). f ≤ count space n) d r.1) unled)

      by : (list_any (has_lower 1 e) (high space) ≡ true) ⊎ (list_any (has_lower 1 e) (high space) ≡ false) → Ends e
      by (inl t) =
          let s = any-some (has_lower 1 e) (high space) t in
          let l = has_lower-true s.0 1 e s.2 in
          subst Ends l.1 (along-field space (high space) field 1 (λ f. Ends f) other-loose lower-ends s.0 s.1 l.0)
      by (inr f) = loose-ends e (is-loose e a b f)

  -- a path of edges is a path of loose edges
  loose-path : {x y : ℕ} → Reaches (share_edge space) (vertices space) x y → Joined x y
  loose-path at_start = at_start
  loose-path (on {y = y} {z = z} h s m) =
      let t = any-some (λ e. holds (facets_of space 1 e) y && holds (facets_of space 1 e) z) (upto (count space 1)) s in
      let r = upto-In (count space 1) t.0 t.1 in
      let b = and_parts (holds (facets_of space 1 t.0) y) (holds (facets_of space 1 t.0) z) t.2 in
      trans (loose-path h) (edge-ends t.0 r.0 r.1 y z (holds-In (facets_of space 1 t.0) b.0) (holds-In (facets_of space 1 t.0) b.1))

-- all vertices have the one component
pub one-component : ComponentsAreNumbered → (space : List (List (List ℕ))) → component_count space ≡ 1 → (x : ℕ) → 1 ≤ x → x ≤ count space 0 → component_of space x ≡ 1
one-component numbered space one x a b = let w = (numbered space).within x a b in omega (arith, w.0, w.1, one)

pub loose_edges_join : CyclesGoRound → SameComponentIsAPath → ComponentsAreNumbered → LooseEdgesJoin
loose_edges_join cycles path numbered space x y h a b c d =
    loose-path space h.valid h.regular cycles
    ((path space x y a b c d).0 (one-component numbered space h.one x a b ∙ sym (one-component numbered space h.one y c d)))
