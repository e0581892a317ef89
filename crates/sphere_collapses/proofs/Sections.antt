-- Where the walks round 2-cells close, a list of cells that collapses has a sheet over each vertex along which all its edges lead.
use Rattle.std.proofs.Common.{◌≡◌, ◌⊎◌, inl, inr, ℕ, zero, suc, ◌<◌, ◌≤◌, List, [], ◌∷◌, Bool, true, false, cond, eqb, refl, ap, sym, ◌∙◌, subst, arith}
use Rattle.std.proofs.lemmas.Bool.{eq-eqb, ne_eqb, and_parts, cases_eq}
use Rattle.number_lists.specs.Members.{In}
use Rattle.face_poset.specs.declared.cells.Cell.{Cell}
use Rattle.face_poset.specs.declared.cells.Pair.{Pair}
use Rattle.face_poset.specs.Poset.{IsSpace, count, facets_of}
use Rattle.face_poset.specs.Below.{cell_at}
use Rattle.regular_check.specs.declared.cycles.Step.{Step}
use Rattle.regular_check.specs.Rules.{IsRegular}
use Rattle.regular_check.specs.Cycle.{cycle, CyclesGoRound}
use Rattle.pair_laws.specs.Joins.{Chain, AreInverse, Flat, walk}
use Rattle.pair_laws.proofs.CallerLemmas.{flat_walk, flat_forced}
use Rattle.sphere_collapses.specs.Collapses.{collapses, is_free, without, upper_of}
use Rattle.sphere_collapses.specs.Spheres.{first_end, last_end}
use Rattle.sphere_collapses.proofs.Kept.{facets_cell, two_ends_kept}
use Rattle.sphere_collapses.proofs.Frees.{IsFree, is-free, without-inside, without-not, In-without, IsPoint, is-point}
use Rattle.sphere_collapses.proofs.Rounds.{RoundAt, round, round_at}
use Rattle.sphere_collapses.proofs.Spheres.{ends_in, end_is}

abbrev dim_of : Cell → ℕ
dim_of c = c.dim

abbrev number_of : Cell → ℕ
number_of c = c.number

module _ (space : List (List (List ℕ))) where
  -- a list of cells of the space, with each the facets
  pub record IsThere (rest : List Cell) : Type 0 where
    pub there : (d n : ℕ) → In (cell_at d n) rest → (1 ≤ n) × (n ≤ count space d)
    pub facets : (d n k : ℕ) → In (cell_at (suc d) n) rest → In k (facets_of space (suc d) n) → In (cell_at d k) rest

  there-without : (rest : List Cell) (p : Pair) → IsThere rest → IsFree space rest p → IsThere (without rest p)
  there-without rest p h fr =
      record {
        there = λ d n i. h.there d n (without-inside space rest p i);
        facets = λ d n k i j. (
            let q = without-not space rest p i in
            let m : In (cell_at (suc d) n) rest = without-inside space rest p i in
            In-without space rest p (h.facets d n k m j) (λ e. no_lower d n k m j (q.1) (ap dim_of e) (ap number_of e)) (λ e. no_upper d n k m j (ap dim_of e) (ap number_of e))
            );
      }
    where
      no_lower : (d n k : ℕ) → In (cell_at (suc d) n) rest → In k (facets_of space (suc d) n) → (upper_of p ≡ cell_at (suc d) n → ⊥) → p.dim ≡ d → p.lower ≡ k → ⊥
      no_lower d n k m j q a b =
          let m' : In (cell_at (suc p.dim) n) rest = subst (λ (x : ℕ). In (cell_at (suc x) n) rest) (sym a) m in
          let j' : In p.lower (facets_of space (suc p.dim) n) = subst (λ (x : ℕ). In x (facets_of space (suc p.dim) n)) (sym b) (subst (λ (x : ℕ). In k (facets_of space (suc x) n)) (sym a) j) in
          let e : n ≡ p.upper = fr.only n m' j' in
          q (ap (λ (x : ℕ). cell_at (suc x) p.upper) a ∙ ap (λ (x : ℕ). cell_at (suc d) x) (sym e))

      no_upper : (d n k : ℕ) → In (cell_at (suc d) n) rest → In k (facets_of space (suc d) n) → suc p.dim ≡ d → p.upper ≡ k → ⊥
      no_upper d n k m j a b =
          fr.top n (subst (λ (x : ℕ). In (cell_at (suc x) n) rest) (sym a) m) (subst (λ (x : ℕ). In x (facets_of space (suc (suc p.dim)) n)) (sym b) (subst (λ (x : ℕ). In k (facets_of space (suc x) n)) (sym a) j))

module _ (space : List (List (List ℕ))) (hs : IsSpace space) (regular : IsRegular space) (rounds : CyclesGoRound) (f g : ℕ → ℕ → ℕ) (is : ℕ → Bool) (inv : AreInverse f g is) where
  abbrev A : ℕ → ℕ
  A = first_end space

  abbrev B : ℕ → ℕ
  B = last_end space

  -- the walks round the 2-cells close
  pub record DoClose (rest : List Cell) : Type 0 where
    pub walks : (c x : ℕ) → In (cell_at 2 c) rest → is x ≡ true → walk f g (cycle space c) x ≡ x

  pub record IsSheeted (rest : List Cell) (v x : ℕ) (σ : ℕ → ℕ) : Type 0 where
    pub here_is : σ v ≡ x
    pub sheet : (w : ℕ) → is (σ w) ≡ true
    pub flat : (e : ℕ) → In (cell_at 1 e) rest → Flat (first_end space) (last_end space) f σ e

  abbrev set_at : (ℕ → ℕ) → ℕ → ℕ → ℕ → ℕ
  set_at σ v y w = cond (eqb w v) y (σ w)

  set-here : (σ : ℕ → ℕ) (v y w : ℕ) → w ≡ v → cond (eqb w v) y (σ w) ≡ y
  set-here σ v y w e = ap (λ (b : Bool). cond b y (σ w)) (eq-eqb w v e)

  set-other : (σ : ℕ → ℕ) (v y w : ℕ) → (w ≡ v → ⊥) → cond (eqb w v) y (σ w) ≡ σ w
  set-other σ v y w n = ap (λ (b : Bool). cond b y (σ w)) (ne_eqb w v n)

  set-sheet : (σ : ℕ → ℕ) (v y w : ℕ) → is y ≡ true → is (σ w) ≡ true → is (cond (eqb w v) y (σ w)) ≡ true
  set-sheet σ v y w a b = by_test (eqb w v)
    where
      by_test : (t : Bool) → is (cond t y (σ w)) ≡ true
      by_test true = a
      by_test false = b

  module _ (rest : List Cell) (p : Pair) (h : IsThere space rest) (fr : IsFree space rest p) where
    left : List Cell
    left = without rest p

    -- ---- a vertex with an edge

    module _ (zero_dim : p.dim ≡ 0) where
      upper_in : In (cell_at 1 p.upper) rest
      upper_in = subst (λ (d : ℕ). In (cell_at (suc d) p.upper) rest) zero_dim fr.upper

      facet_in : In p.lower (facets_of space 1 p.upper)
      facet_in = subst (λ (d : ℕ). In p.lower (facets_of space (suc d) p.upper)) zero_dim fr.facet

      only_one : (n : ℕ) → In (cell_at 1 n) rest → In p.lower (facets_of space 1 n) → n ≡ p.upper
      only_one n i j = fr.only n (subst (λ (d : ℕ). In (cell_at (suc d) n) rest) (sym zero_dim) i) (subst (λ (d : ℕ). In p.lower (facets_of space (suc d) n)) (sym zero_dim) j)

      range : (1 ≤ p.upper) × (p.upper ≤ count space 1)
      range = h.there 1 p.upper upper_in

      -- the two ends of the edge differ
      ends_differ : A p.upper < B p.upper
      ends_differ = (facets_cell space hs 0 p.upper range.0 range.1).rises 0 (omega (arith, two_ends_kept space hs regular p.upper range.0 range.1))

      -- another vertex stays
      vertex_stays : (v : ℕ) → In (cell_at 0 v) rest → (v ≡ p.lower → ⊥) → In (cell_at 0 v) (without rest p)
      vertex_stays v i n = In-without space rest p i (λ e. n (sym (ap number_of e))) (λ e. absurd (omega (arith, ap dim_of e)))

      edge_stays : (n : ℕ) → In (cell_at 1 n) rest → (n ≡ p.upper → ⊥) → In (cell_at 1 n) (without rest p)
      edge_stays n i k = In-without space rest p i (λ e. absurd (omega (arith, ap dim_of e, zero_dim))) (λ e. k (sym (ap number_of e)))

      -- the sheet over the vertex fits the edge
      Leads : (ℕ → ℕ) → ℕ → Type 0
      Leads σ y = ((A p.upper ≡ p.lower) × (f p.upper y ≡ σ (B p.upper))) ⊎ ((B p.upper ≡ p.lower) × (f p.upper (σ (A p.upper)) ≡ y))

      extended : (v x : ℕ) (σ : ℕ → ℕ) (y : ℕ) → ((w : ℕ) → is (σ w) ≡ true) → ((e : ℕ) → In (cell_at 1 e) (without rest p) → Flat (first_end space) (last_end space) f σ e) → is y ≡ true → Leads σ y
          → cond (eqb v p.lower) y (σ v) ≡ x → IsSheeted rest v x (λ w. cond (eqb w p.lower) y (σ w))
      unfolding Leads
      extended v x σ y sheets flats y_is leads at =
          record { here_is = at; sheet = λ w. set-sheet σ p.lower y w y_is (sheets w); flat = λ e i. elim (cases_eq e p.upper) [ inl q ↦ subst (Flat (first_end space) (last_end space) f (λ w. cond (eqb w p.lower) y (σ w))) (sym q) (new_flat leads) | inr q ↦ old_flat e i q ] }
        where
          new_flat : ((A p.upper ≡ p.lower) × (f p.upper y ≡ σ (B p.upper))) ⊎ ((B p.upper ≡ p.lower) × (f p.upper (σ (A p.upper)) ≡ y)) → Flat (first_end space) (last_end space) f (λ w. cond (eqb w p.lower) y (σ w)) p.upper
          new_flat (inl r) =
              ap (f p.upper) (set-here σ p.lower y (A p.upper) r.0) ∙ (r.1 ∙ sym (set-other σ p.lower y (B p.upper) (λ e. omega (arith, ends_differ, r.0, e))))
          new_flat (inr r) =
              ap (f p.upper) (set-other σ p.lower y (A p.upper) (λ e. omega (arith, ends_differ, r.0, e))) ∙ (r.1 ∙ sym (set-here σ p.lower y (B p.upper) r.0))

          old_flat : (e : ℕ) → In (cell_at 1 e) rest → (e ≡ p.upper → ⊥) → Flat (first_end space) (last_end space) f (λ w. cond (eqb w p.lower) y (σ w)) e
          old_flat e i q =
              let w = h.there 1 e i in
              let ends = ends_in space hs regular e w.0 w.1 in
              let a : (A e ≡ p.lower → ⊥) = λ k. q (only_one e i (subst (λ (z : ℕ). In z (facets_of space 1 e)) k ends.0)) in
              let b : (B e ≡ p.lower → ⊥) = λ k. q (only_one e i (subst (λ (z : ℕ). In z (facets_of space 1 e)) k ends.1)) in
              ap (f e) (set-other σ p.lower y (A e) a) ∙ (flats e (edge_stays e i q) ∙ sym (set-other σ p.lower y (B e) b))

      Found : ℕ → ℕ → Type 0
      Found v x = (σ : ℕ → ℕ) × IsSheeted rest v x σ

      vertex-back : ((v x : ℕ) → In (cell_at 0 v) (without rest p) → is x ≡ true → (σ : ℕ → ℕ) × IsSheeted (without rest p) v x σ) → (v x : ℕ) → In (cell_at 0 v) rest → is x ≡ true → (σ : ℕ → ℕ) × IsSheeted rest v x σ
      unfolding Leads
      vertex-back k v x i s = by_end (end_is space hs regular p.upper p.lower range.0 range.1 facet_in) (cases_eq v p.lower)
        where
          first_there : In (cell_at 0 (A p.upper)) rest
          first_there = h.facets 0 p.upper (A p.upper) upper_in ((ends_in space hs regular p.upper range.0 range.1).0)

          last_there : In (cell_at 0 (B p.upper)) rest
          last_there = h.facets 0 p.upper (B p.upper) upper_in ((ends_in space hs regular p.upper range.0 range.1).1)

          by_end : (A p.upper ≡ p.lower) ⊎ (B p.upper ≡ p.lower) → (v ≡ p.lower) ⊎ (v ≡ p.lower → ⊥) → (σ : ℕ → ℕ) × IsSheeted rest v x σ
          by_end (inl a) (inl e) =
              let t = k (B p.upper) (f p.upper x) (vertex_stays (B p.upper) last_there (λ q. omega (arith, ends_differ, a, q))) (inv.f_is p.upper x s) in
              let σ : ℕ → ℕ = t.0 in
              (λ w. cond (eqb w p.lower) x (σ w), extended v x σ x t.1.sheet t.1.flat s (inl (a, sym t.1.here_is)) (set-here σ p.lower x v e))
          by_end (inr b) (inl e) =
              let t = k (A p.upper) (g p.upper x) (vertex_stays (A p.upper) first_there (λ q. omega (arith, ends_differ, b, q))) (inv.g_is p.upper x s) in
              let σ : ℕ → ℕ = t.0 in
              (λ w. cond (eqb w p.lower) x (σ w), extended v x σ x t.1.sheet t.1.flat s (inr (b, ap (f p.upper) t.1.here_is ∙ inv.fg p.upper x s)) (set-here σ p.lower x v e))
          by_end (inl a) (inr n) =
              let t = k v x (vertex_stays v i n) s in
              let σ : ℕ → ℕ = t.0 in
              let y : ℕ = g p.upper (σ (B p.upper)) in
              let y_is : is y ≡ true = inv.g_is p.upper (σ (B p.upper)) (t.1.sheet (B p.upper)) in
              (λ w. cond (eqb w p.lower) y (σ w), extended v x σ y t.1.sheet t.1.flat y_is (inl (a, inv.fg p.upper (σ (B p.upper)) (t.1.sheet (B p.upper)))) (set-other σ p.lower y v n ∙ t.1.here_is))
          by_end (inr b) (inr n) =
              let t = k v x (vertex_stays v i n) s in
              let σ : ℕ → ℕ = t.0 in
              let y : ℕ = f p.upper (σ (A p.upper)) in
              let y_is : is y ≡ true = inv.f_is p.upper (σ (A p.upper)) (t.1.sheet (A p.upper)) in
              (λ w. cond (eqb w p.lower) y (σ w), extended v x σ y t.1.sheet t.1.flat y_is (inr (b, refl)) (set-other σ p.lower y v n ∙ t.1.here_is))

    -- ---- an edge with a 2-cell

    module _ (one_dim : p.dim ≡ 1) (closes : DoClose rest) where
      disk_in : In (cell_at 2 p.upper) rest
      disk_in = subst (λ (d : ℕ). In (cell_at (suc d) p.upper) rest) one_dim fr.upper

      edge_in : In p.lower (facets_of space 2 p.upper)
      edge_in = subst (λ (d : ℕ). In p.lower (facets_of space (suc d) p.upper)) one_dim fr.facet

      other_stays : (n : ℕ) → In (cell_at 1 n) rest → (n ≡ p.lower → ⊥) → In (cell_at 1 n) (without rest p)
      other_stays n i k = In-without space rest p i (λ e. k (sym (ap number_of e))) (λ e. absurd (omega (arith, ap dim_of e, one_dim)))

      edge-back : (v x : ℕ) (σ : ℕ → ℕ) → IsSheeted (without rest p) v x σ → IsSheeted rest v x σ
      edge-back v x σ s =
          record { here_is = s.here_is; sheet = s.sheet; flat = λ e i. elim (cases_eq e p.lower) [ inl q ↦ subst (Flat (first_end space) (last_end space) f σ) (sym q) forced | inr q ↦ s.flat e (other_stays e i q) ] }
        where
          forced : Flat (first_end space) (last_end space) f σ p.lower
          forced =
              let w = h.there 2 p.upper disk_in in
              let c = round space p.upper hs regular rounds w.0 w.1 in
              let r : RoundAt space p.upper c.0 p.lower = round_at space p.upper hs regular rounds w.0 w.1 c.0 p.lower edge_in in
              subst (Flat (first_end space) (last_end space) f σ) r.edge
              (flat_forced A B f g is σ inv s.sheet c.0 r.itself r.before r.after (subst (λ (ss : List Step). Chain (first_end space) (last_end space) c.0 ss c.0) r.is c.1)
              (λ y y_is. subst (λ (ss : List Step). walk f g ss y ≡ y) r.is (closes.walks p.upper y disk_in y_is))
              (λ t j. (let k = r.others t j in s.flat t.edge (other_stays t.edge (h.facets 1 p.upper t.edge disk_in k.0) k.1))))

    -- ---- cells above

    higher-back : 2 ≤ p.dim → (v x : ℕ) (σ : ℕ → ℕ) → IsSheeted (without rest p) v x σ → IsSheeted rest v x σ
    higher-back two v x σ s =
        record { here_is = s.here_is; sheet = s.sheet; flat = λ e i. s.flat e (In-without space rest p i (λ q. omega (arith, ap dim_of q, two)) (λ q. omega (arith, ap dim_of q, two))) }

    vertex-kept : 1 ≤ p.dim → (v : ℕ) → In (cell_at 0 v) rest → In (cell_at 0 v) (without rest p)
    vertex-kept one v i = In-without space rest p i (λ q. omega (arith, ap dim_of q, one)) (λ q. omega (arith, ap dim_of q, one))

    less : DoClose rest → DoClose (without rest p)
    less c = record { walks = λ n x i s. c.walks n x (without-inside space rest p i) s }

    back : DoClose rest → ((v x : ℕ) → In (cell_at 0 v) (without rest p) → is x ≡ true → (σ : ℕ → ℕ) × IsSheeted (without rest p) v x σ) → (v x : ℕ) → In (cell_at 0 v) rest → is x ≡ true → (σ : ℕ → ℕ) × IsSheeted rest v x σ
    back c k v x i s = by_dim p.dim refl
      where
        by_dim : (d : ℕ) → p.dim ≡ d → (σ : ℕ → ℕ) × IsSheeted rest v x σ
        by_dim zero e = vertex-back e k v x i s
        by_dim (suc zero) e = let t = k v x (vertex-kept (omega (arith, e)) v i) s in (t.0, edge-back e c v x t.0 t.1)
        by_dim (suc (suc d)) e = let t = k v x (vertex-kept (omega (arith, e)) v i) s in (t.0, higher-back (omega (arith, e)) v x t.0 t.1)

  pub sections : (pairs : List Pair) (rest : List Cell) → IsThere space rest → DoClose rest → collapses space rest pairs ≡ true → (v x : ℕ) → In (cell_at 0 v) rest → is x ≡ true → (σ : ℕ → ℕ) × IsSheeted rest v x σ
  sections [] rest h c e v x i s =
      let p : IsPoint rest = is-point rest e in
      (λ w. x, record { here_is = refl; sheet = λ w. s; flat = λ n j. absurd (omega (arith, ap dim_of (p.all (cell_at 1 n) j))) })
  sections (p ∷ pairs) rest h c e v x i s =
      let r = and_parts (is_free space rest p) (collapses space (without rest p) pairs) e in
      let fr : IsFree space rest p = is-free space rest p r.0 in
      back rest p h fr c (sections pairs (without rest p) (there-without space rest p h fr) (less rest p h fr c) r.1) v x i s

  pub closed-walk : (rest : List Cell) (v x : ℕ) (σ : ℕ → ℕ) (ss : List Step) → IsSheeted rest v x σ → Chain (first_end space) (last_end space) v ss v → ((t : Step) → In t ss → In (cell_at 1 t.edge) rest) → walk f g ss x ≡ x
  closed-walk rest v x σ ss s c h =
      ap (walk f g ss) (sym s.here_is) ∙ (flat_walk A B f g is σ inv s.sheet v v ss c (λ t i. s.flat t.edge (h t i)) ∙ s.here_is)
