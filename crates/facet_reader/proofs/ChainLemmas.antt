-- Points below others, and chains.
use Rattle.std.proofs.Common.{◌≡◌, ◌⊎◌, inl, inr, ◌<◌, ◌≤◌, ◌+◌, ℕ, zero, suc, List, refl, ap, sym, ◌∙◌, subst, arith, Bool, true, false, cond, ◌&&◌, ◌||◌, ◌==◌, nat_lt, Result, Ok, Err}
use Rattle.std.specs.List.{list_all}
use Rattle.std.proofs.lemmas.Bool.{eqb-true, eq-eqb, lt-ltb, cases_lt, false≢true, and_from}
use Rattle.number_lists.specs.Members.{In}
use Rattle.number_lists.proofs.CallerLemmas.{and-left, and-right, any-In, any-some, all-In, In-all}
use Rattle.face_poset.specs.Poset.{Layers, cell_count}
use Rattle.regular_check.specs.Rules.{IsRegular}
use Rattle.facet_reader.specs.declared.fault.FacetFault.{FacetFault}
use Rattle.facet_reader.specs.declared.fault.FacetFault.TheVariants.{TooManyCells}
use Rattle.facet_reader.specs.SetSpaces.{IsClosed}
use Rattle.facet_reader.specs.Simplices.{limited}
use Rattle.facet_reader.specs.Orders.{go_on, leads, is_below, is_chain, order_of, order_complex}
use Rattle.facet_reader.specs.OrderLaws.{IsBelow, given, through, AreRelations, BelowIsLeast, OrderComplexesAreRegular}
use Rattle.facet_reader.proofs.Choices.{IsPart, no_part, kept, left, part-In, choice-part}
use Rattle.facet_reader.proofs.SetRegularity.{sets_regular}

-- ---- chains

part-chain : (below : ℕ → ℕ → Bool) {t s : List ℕ} → IsPart t s → is_chain below s ≡ true → is_chain below t ≡ true
part-chain below no_part h = h
part-chain below (kept {x} {s = t} {xs = s} p) h =
    and_from (list_all (below x) t) (is_chain below t)
    (In-all (below x) t (λ z i. all-In (below x) (and-left (list_all (below x) s) (is_chain below s) h) (part-In p i)))
    (part-chain below p (and-right (list_all (below x) s) (is_chain below s) h))
part-chain below (left {x} {s = t} {xs = s} p) h = part-chain below p (and-right (list_all (below x) s) (is_chain below s) h)

pub chains-closed : (below : ℕ → ℕ → Bool) → IsClosed (is_chain below)
chains-closed below size s t h i = part-chain below (choice-part size t s i).0 h

-- ---- the law

unless-many : (space other : Layers) → limited space ≡ Ok other → (space ≡ other) × (cell_count space ≤ 60000)
unless-many space other e = by_test (nat_lt 60000 (cell_count space)) refl e
  where
    by_test : (b : Bool) → nat_lt 60000 (cell_count space) ≡ b → cond b (Err TooManyCells) (Ok space) ≡ Ok other → (space ≡ other) × (cell_count space ≤ 60000)
    by_test true q h = cc
    by_test false q h = (cc, elim (cases_lt 60000 (cell_count space)) [ inl l ↦ absurd (false≢true (sym q ∙ lt-ltb 60000 (cell_count space) l)) | inr l ↦ l ])

pub orders_regular : OrderComplexesAreRegular
orders_regular v space e = from_order (order_of v) e
  where
    from_order : (r : Result (ℕ × List (ℕ × ℕ)) FacetFault) → go_on r (λ order. limited (order_complex order)) ≡ Ok space → IsRegular space
    from_order (Ok order) h =
        let p = unless-many (order_complex order) space h in
        subst IsRegular p.0 (sets_regular order.0 (is_chain (is_below order.0 order.1)) (chains-closed (is_below order.0 order.1)) p.1)
    from_order (Err fault) h = cc

-- ---- to lie below

module _ (n : ℕ) (relations : List (ℕ × ℕ)) (are : AreRelations n relations) where
  -- one relation, and others after it
  pub record IsLed (k a b : ℕ) : Type 0 where
    pub next : ℕ
    pub among : In (a, next) relations
    pub on : (next ≡ b) ⊎ (leads k relations next b ≡ true)

  pub led : (k a b : ℕ) → leads (suc k) relations a b ≡ true → IsLed k a b
  led k a b h =
      let r = any-some (λ r. (r.0 == a) && ((r.1 == b) || leads k relations r.1 b)) relations h in
      let p : ℕ × ℕ = r.0 in
      let first : p.0 ≡ a = eqb-true p.0 a (and-left (p.0 == a) ((p.1 == b) || leads k relations p.1 b) r.2) in
      record {
        next = p.1;
        among = subst (λ (x : ℕ). In (x, p.1) relations) first r.1;
        on = either (p.1 == b) refl (and-right (p.0 == a) ((p.1 == b) || leads k relations p.1 b) r.2);
      }
    where
      either : {c : ℕ} (t : Bool) → c == b ≡ t → (t || leads k relations c b) ≡ true → (c ≡ b) ⊎ (leads k relations c b ≡ true)
      either {c} true e q = inl (eqb-true c b e)
      either {c} false e q = inr q

  pub lead : (k a b c : ℕ) → In (a, c) relations → (c ≡ b) ⊎ (leads k relations c b ≡ true) → leads (suc k) relations a b ≡ true
  lead k a b c i h = any-In (λ r. (r.0 == a) && ((r.1 == b) || leads k relations r.1 b)) i (and_from (a == a) ((c == b) || leads k relations c b) (eq-eqb a a refl) (either h))
    where
      either : (c ≡ b) ⊎ (leads k relations c b ≡ true) → ((c == b) || leads k relations c b) ≡ true
      either (inl e) = ap (λ (t : Bool). t || leads k relations c b) (eq-eqb c b e)
      either (inr e) = by_test (c == b) e
        where
          by_test : (t : Bool) → leads k relations c b ≡ true → (t || leads k relations c b) ≡ true
          by_test true q = refl
          by_test false q = q

  pub leads-below : (k a b : ℕ) → leads k relations a b ≡ true → IsBelow relations a b
  leads-below zero a b h = absurd (false≢true h)
  leads-below (suc k) a b h =
      let r = led k a b h in
      elim r.on [ inl e ↦ given (subst (λ (x : ℕ). In (a, x) relations) e r.among) | inr q ↦ through (given r.among) (leads-below k r.next b q) ]

  pub rises : {a b : ℕ} → IsBelow relations a b → (1 ≤ a) × (a < b) × (b ≤ n)
  rises (given {a} {b} i) = are a b i
  rises (through {a} {b} {c} h k) = let p = rises h in let q = rises k in (p.0, omega (arith, p.1, q.1), q.2)

  -- no more relations than the numbers lie apart
  enough : (k m a b : ℕ) → leads k relations a b ≡ true → b ≤ a + m → leads m relations a b ≡ true
  enough zero m a b h l = absurd (false≢true h)
  enough (suc k) zero a b h l = let p = rises (leads-below (suc k) a b h) in absurd (omega (arith, l, p.1))
  enough (suc k) (suc m) a b h l =
      let r = led k a b h in
      let p = are a r.next r.among in
      lead m a b r.next r.among (elim r.on [ inl e ↦ inl e | inr q ↦ inr (enough k m r.next b q (omega (arith, l, p.1))) ])

  -- more may be used than are needed
  pub larger : (m j a b : ℕ) → leads m relations a b ≡ true → m ≤ j → leads j relations a b ≡ true
  larger zero j a b h l = absurd (false≢true h)
  larger (suc m) zero a b h l = absurd (omega (arith, l))
  larger (suc m) (suc j) a b h l =
      let r = led m a b h in
      lead j a b r.next r.among (elim r.on [ inl e ↦ inl e | inr q ↦ inr (larger m j r.next b q (omega (arith, l))) ])

  joined : (k m a b c : ℕ) → leads k relations a b ≡ true → leads m relations b c ≡ true → leads (k + m) relations a c ≡ true
  joined zero m a b c h q = absurd (false≢true h)
  joined (suc k) m a b c h q =
      let r = led k a b h in
      let e : suc (k + m) ≡ suc k + m = omega arith in
      subst (λ (j : ℕ). leads j relations a c ≡ true) e (lead (k + m) a c r.next r.among (inr (elim r.on [ inl s ↦ after r.next s | inr s ↦ joined k m r.next b c s q ])))
    where
      after : (x : ℕ) → x ≡ b → leads (k + m) relations x c ≡ true
      after x s =
          let t : leads m relations x c ≡ true = subst (λ (y : ℕ). leads m relations y c ≡ true) (sym s) q in
          larger m (k + m) x c t (omega arith)

  pub below-leads : {a b : ℕ} → IsBelow relations a b → leads n relations a b ≡ true
  below-leads (given {a} {b} i) = let p = are a b i in enough 1 n a b (lead 0 a b b i (inl refl)) (omega (arith, p.2))
  below-leads (through {a} {b} {c} h k) = let q = rises k in enough (n + n) n a c (joined n n a b c (below-leads h) (below-leads k)) (omega (arith, q.2))

pub below_least : BelowIsLeast
below_least n relations a b are = (λ h. leads-below n relations are n a b h, λ h. below-leads n relations are h)
