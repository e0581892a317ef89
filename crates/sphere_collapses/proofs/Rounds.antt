-- Cycles of 2-cells as chains of steps, and paths along them.
use Rattle.std.proofs.Common.{◌≡◌, ◌⊎◌, inl, inr, ℕ, ◌≤◌, List, [], ◌∷◌, ◌++◌, Bool, true, false, cond, length, map, get_or, take, drop, refl, ap, sym, ◌∙◌, subst, arith}
use Rattle.number_lists.specs.Members.{In, here, there}
use Rattle.number_lists.proofs.CallerLemmas.{In-map, map-In, In-left, In-right, append-In, holds-In, In-holds, AreDistinct}
use Rattle.face_poset.specs.Poset.{IsSpace, count, facets_of}
use Rattle.regular_check.specs.declared.cycles.Step.{Step}
use Rattle.regular_check.specs.Rules.{IsRegular}
use Rattle.regular_check.specs.Cycle.{start_of, end_of, cycle, GoesRound, CyclesGoRound}
use Rattle.pair_laws.specs.Joins.{Joins, stay, forth, back, start, finish, Chain, none, next}
use Rattle.pair_laws.proofs.CallerLemmas.{joins-trans, joins-sym, chain-split, chain-head, opened}
use Rattle.sphere_collapses.specs.Spheres.{first_end, last_end}
use Rattle.sphere_collapses.proofs.Kept.{first_facet}
use Rattle.sphere_collapses.proofs.Apart.{distinct-from, apart}

-- a list with an item
pub record IsSplit {A : Type 0} (x : A) (xs : List A) : Type 0 where
  pub before : List A
  pub after : List A
  pub is : xs ≡ before ++ x ∷ after

pub split : {A : Type 0} {x : A} {xs : List A} → In x xs → IsSplit x xs
split (here {xs}) = record { before = []; after = xs; is = refl }
split {A} (there {y} {xs} i) = let r = split i in record { before = y ∷ r.before; after = r.after; is = ap (λ (zs : List A). y ∷ zs) r.is }

module _ (space : List (List (List ℕ))) where
  abbrev A : ℕ → ℕ
  A = first_end space

  abbrev B : ℕ → ℕ
  B = last_end space

  start-is : (s : Step) → start (first_end space) (last_end space) s ≡ start_of space s
  start-is s = by s.forward
    where
      by : (b : Bool) → cond b (get_or (facets_of space 1 s.edge) 0 0) (get_or (facets_of space 1 s.edge) 1 0) ≡ get_or (facets_of space 1 s.edge) (cond b 0 1) 0
      by true = refl
      by false = refl

  finish-is : (s : Step) → finish (first_end space) (last_end space) s ≡ end_of space s
  finish-is s = by s.forward
    where
      by : (b : Bool) → cond b (get_or (facets_of space 1 s.edge) 1 0) (get_or (facets_of space 1 s.edge) 0 0) ≡ get_or (facets_of space 1 s.edge) (cond b 1 0) 0
      by true = refl
      by false = refl

  -- steps each of which ends where the next one begins
  chain-along : (s : Step) (ss : List Step) (w : ℕ) → map (end_of space) (s ∷ ss) ≡ map (start_of space) ss ++ w ∷ [] → Chain (first_end space) (last_end space) (start (first_end space) (last_end space) s) (s ∷ ss) w
  chain-along s [] w e =
      let f : finish A B s ≡ w = finish-is s ∙ ap (λ (xs : List ℕ). get_or xs 0 0) e in
      subst (λ (v : ℕ). Chain (first_end space) (last_end space) (start (first_end space) (last_end space) s) (s ∷ []) v) f (next none)
  chain-along s (t ∷ ts) w e =
      let f : finish A B s ≡ start A B t = finish-is s ∙ (ap (λ (xs : List ℕ). get_or xs 0 0) e ∙ sym (start-is t)) in
      next (subst (λ (v : ℕ). Chain (first_end space) (last_end space) v (t ∷ ts) w) (sym f) (chain-along t ts w (ap (λ (xs : List ℕ). drop 1 xs) e)))

  -- a path along the steps of a chain
  chain-joins : {ok : ℕ → Bool} (ss : List Step) {v w : ℕ} → ((t : Step) → In t ss → ok t.edge ≡ true) → Chain (first_end space) (last_end space) v ss w → Joins (first_end space) (last_end space) ok v w
  chain-joins [] h none = stay
  chain-joins {ok} (s ∷ ss) {v} {w} h (next c) = one s (h s here) (chain-joins ss (λ t i. h t (there i)) c)
    where
      one : (s : Step) → ok s.edge ≡ true → Joins (first_end space) (last_end space) ok (finish (first_end space) (last_end space) s) w → Joins (first_end space) (last_end space) ok (start (first_end space) (last_end space) s) w
      one s o j = by s.forward refl j
        where
          by : (b : Bool) → s.forward ≡ b → Joins (first_end space) (last_end space) ok (cond b (last_end space s.edge) (first_end space s.edge)) w → Joins (first_end space) (last_end space) ok (cond b (first_end space s.edge) (last_end space s.edge)) w
          by true e k = forth s.edge o k
          by false e k = back s.edge o k

  -- the way round a 2-cell from a step on; first is where its cycle begins
  pub record RoundAt (c first e : ℕ) : Type 0 where
    pub before : List Step
    pub itself : Step
    pub after : List Step
    pub is : cycle space c ≡ before ++ itself ∷ after
    pub edge : itself.edge ≡ e
    pub others : (t : Step) → In t (after ++ before) → In t.edge (facets_of space 2 c) × (t.edge ≡ e → ⊥)

  module _ (c : ℕ) (hs : IsSpace space) (regular : IsRegular space) (rounds : CyclesGoRound) (low : 1 ≤ c) (high : c ≤ count space 2) where
    goes : GoesRound space (facets_of space 2 c) (cycle space c)
    goes = rounds space c hs regular low high

    -- a closed chain from a vertex
    closed : (ss : List Step) → 1 ≤ length ss → map (end_of space) ss ≡ drop 1 (map (start_of space) ss) ++ take 1 (map (start_of space) ss)
        → (v : ℕ) × Chain (first_end space) (last_end space) v ss v
    closed [] some e = absurd (omega (arith, some))
    closed (s ∷ ss) some e =
        let v : ℕ = start (first_end space) (last_end space) s in
        (v, chain-along s ss v (e ∙ ap (λ (w : ℕ). map (start_of space) ss ++ w ∷ []) (sym (start-is s))))

    edge_there : (e : ℕ) → In e (facets_of space 2 c) → In e (map (λ (s : Step). s.edge) (cycle space c))
    edge_there e i = holds-In (map (λ (s : Step). s.edge) (cycle space c)) (goes.edges_are e ∙ In-holds i)

    pub steps_inside : (t : Step) → In t (cycle space c) → In t.edge (facets_of space 2 c)
    steps_inside t i = holds-In (facets_of space 2 c) (sym (goes.edges_are t.edge) ∙ In-holds (In-map (λ (s : Step). s.edge) i))

    some_step : {t : Step} (ss : List Step) → In t ss → 1 ≤ length ss
    some_step [] i = elim i [ ]
    some_step (s ∷ ss) i = omega arith

    -- where the cycle begins
    pub round : (v : ℕ) × Chain (first_end space) (last_end space) v (cycle space c) v
    round =
        let m = map-In (λ (s : Step). s.edge) (cycle space c) (edge_there (get_or (facets_of space 2 c) 0 0) (first_facet space hs 1 c low high)) in
        closed (cycle space c) (some_step (cycle space c) m.1) goes.closes

    pub round_at : (first e : ℕ) → In e (facets_of space 2 c) → RoundAt c first e
    round_at first e i =
        let m = map-In (λ (s : Step). s.edge) (cycle space c) (edge_there e i) in
        let p = split m.1 in
        let once : AreDistinct (map (λ (s : Step). s.edge) (p.before ++ m.0 ∷ p.after)) = subst (λ (ss : List Step). AreDistinct (map (λ (s : Step). s.edge) ss)) p.is (distinct-from (map (λ (s : Step). s.edge) (cycle space c)) goes.edges_once) in
        record {
          before = p.before;
          itself = m.0;
          after = p.after;
          is = p.is;
          edge = sym m.2;
          others = λ t j. (
            steps_inside t (subst (In t) (sym p.is) (back t p.before p.after m.0 (append-In p.after p.before j))),
            λ q. apart p.before p.after m.0 t once (append-In p.after p.before j) (q ∙ m.2),
          );
        }
      where
        back : (t : Step) (xs ys : List Step) (s : Step) → In t ys ⊎ In t xs → In t (xs ++ s ∷ ys)
        back t xs ys s (inl i) = In-right xs (there i)
        back t xs ys s (inr i) = In-left (s ∷ ys) i

    -- the ends of an edge are joined by the others of the 2-cell
    pub opens : {ok : ℕ → Bool} (e : ℕ) → In e (facets_of space 2 c) → ((g : ℕ) → In g (facets_of space 2 c) → (g ≡ e → ⊥) → ok g ≡ true) → Joins (first_end space) (last_end space) ok (first_end space e) (last_end space e)
    opens {ok} e i h =
        let v : ℕ = round.0 in
        let r : RoundAt c v e = round_at v e i in
        let d = opened (first_end space) (last_end space) v r.itself r.before r.after (subst (λ (ss : List Step). Chain (first_end space) (last_end space) v ss v) r.is round.1) in
        let j : Joins (first_end space) (last_end space) ok (finish (first_end space) (last_end space) r.itself) (start (first_end space) (last_end space) r.itself) =
        chain-joins (r.after ++ r.before) (λ t k. (let q = r.others t k in h t.edge q.0 q.1)) d in
        subst (λ (x : ℕ). Joins (first_end space) (last_end space) ok (first_end space x) (last_end space x)) r.edge (by_way r.itself j)
      where
        by_way : {ok : ℕ → Bool} (s : Step) → Joins (first_end space) (last_end space) ok (finish (first_end space) (last_end space) s) (start (first_end space) (last_end space) s) → Joins (first_end space) (last_end space) ok (first_end space s.edge) (last_end space s.edge)
        by_way {ok} s j = by s.forward j
          where
            by : (b : Bool) → Joins (first_end space) (last_end space) ok (cond b (last_end space s.edge) (first_end space s.edge)) (cond b (first_end space s.edge) (last_end space s.edge)) → Joins (first_end space) (last_end space) ok (first_end space s.edge) (last_end space s.edge)
            by true k = joins-sym (first_end space) (last_end space) k
            by false k = k

    -- the ends of its edges are joined to where the cycle begins
    pub from_base : {ok : ℕ → Bool} (e : ℕ) → In e (facets_of space 2 c) → ((g : ℕ) → In g (facets_of space 2 c) → ok g ≡ true) → Joins (first_end space) (last_end space) ok round.0 (first_end space e)
    from_base {ok} e i h =
        let v : ℕ = round.0 in
        let r : RoundAt c v e = round_at v e i in
        let q = chain-split r.before (r.itself ∷ r.after) (subst (λ (ss : List Step). Chain (first_end space) (last_end space) v ss v) r.is round.1) in
        let u = chain-head q.2 in
        let j : Joins (first_end space) (last_end space) ok v q.0 = chain-joins r.before (λ t k. h t.edge ((r.others t (In-right r.after k)).0)) q.1 in
        let there_too : In r.itself.edge (facets_of space 2 c) = subst (λ (x : ℕ). In x (facets_of space 2 c)) (sym r.edge) i in
        let k : Joins (first_end space) (last_end space) ok v (start (first_end space) (last_end space) r.itself) = subst (λ (x : ℕ). Joins (first_end space) (last_end space) ok v x) u.0 j in
        subst (λ (x : ℕ). Joins (first_end space) (last_end space) ok v (first_end space x)) r.edge (joins-trans (first_end space) (last_end space) k (by_way r.itself (h r.itself.edge there_too)))
      where
        by_way : {ok : ℕ → Bool} (s : Step) → ok s.edge ≡ true → Joins (first_end space) (last_end space) ok (start (first_end space) (last_end space) s) (first_end space s.edge)
        by_way {ok} s o = by s.forward
          where
            by : (b : Bool) → Joins (first_end space) (last_end space) ok (cond b (first_end space s.edge) (last_end space s.edge)) (first_end space s.edge)
            by true = stay
            by false = back s.edge o stay
