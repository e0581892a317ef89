-- Which sequences are chains, and that a chain with one entry left out is one.
use Rattle.std.proofs.Common.{◌≡◌, inl, inr, ℕ, zero, suc, ◌-◌, ◌≤◌, List, Bool, [], ◌∷◌, length, get_or, refl, ap, sym, ◌∙◌, subst, arith}
use Rattle.std.specs.List.{flat_map}
use Rattle.face_poset.specs.Words.{upto, holds}
use Rattle.face_poset.specs.Poset.{cell_count}
use Rattle.number_lists.specs.Members.{In, here}
use Rattle.number_lists.proofs.CallerLemmas.{In-cases, In-filter, In-flat_map, In-holds, In-inside, In-map, In-upto, filter-In, flat_map-In, holds-In, map-In, upto-In}
use Rattle.order_complex.specs.Chains.{all_faces, above, chains_from, chains_of}
use Rattle.order_complex.specs.Cochains.{leave_out}
pub use Rattle.order_complex.specs.Sequences.{IsAbove, Follows, IsChain}
use Rattle.order_complex.proofs.FaceIds.{face_of_face, length-all_faces}

module _ (space : List (List (List ℕ))) where
  abbrev faces : List (List ℕ)
  faces = all_faces space

  pub above-member : (cell upper : ℕ) → In upper (above faces cell) → IsAbove space cell upper
  above-member cell upper h =
      let p : ℕ → Bool = λ u. holds (get_or faces (u - 1) []) cell in
      let b = upto-In (length faces) upper (In-inside p (upto (length faces)) h) in
      record { low = b.0; high = omega (arith, b.1, length-all_faces space); face = holds-In (get_or faces (upper - 1) []) (filter-In p (upto (length faces)) h) }

  pub member-above : (cell upper : ℕ) → IsAbove space cell upper → In upper (above faces cell)
  member-above cell upper h =
      In-filter (λ u. holds (get_or faces (u - 1) []) cell) (In-upto (length faces) upper h.low (omega (arith, h.high, length-all_faces space))) (In-holds h.face)

  pub above-trans : (a b c : ℕ) → IsAbove space a b → IsAbove space b c → IsAbove space a c
  above-trans a b c h k = record { low = k.low; high = k.high; face = face_of_face space a b c k.low k.high h.face k.face }

  pub chains_from-member : (more cell : ℕ) (chain : List ℕ) → In chain (chains_from faces more cell) → (rest : List ℕ) × (chain ≡ cell ∷ rest) × (length rest ≡ more) × Follows space cell rest
  chains_from-member zero cell chain h = elim (In-cases h) [ inl e ↦ ([], e, refl, tt) | inr n ↦ elim n [ ] ]
  chains_from-member (suc more) cell chain h =
      let r = map-In (λ c. cell ∷ c) (flat_map (chains_from faces more) (above faces cell)) h in
      let s = flat_map-In (chains_from faces more) (above faces cell) r.1 in
      let t = chains_from-member more s.0 r.0 s.2 in
      (r.0, r.2, ap (λ (c : List ℕ). length c) t.1 ∙ omega (arith, t.2), subst (Follows space cell) (sym t.1) (above-member cell s.0 s.1, t.3))

  member-chains_from : (more cell : ℕ) (rest : List ℕ) → length rest ≡ more → Follows space cell rest → In (cell ∷ rest) (chains_from faces more cell)
  member-chains_from zero cell [] e h = here
  member-chains_from zero cell (next ∷ rest) e h = absurd (omega arith)
  member-chains_from (suc more) cell [] e h = absurd (omega arith)
  member-chains_from (suc more) cell (next ∷ rest) e h =
      In-map (λ c. cell ∷ c) (In-flat_map (chains_from faces more) (member-above cell next h.0) (member-chains_from more next rest (omega arith) h.1))

  pub chains_of-member : (degree : ℕ) (chain : List ℕ) → In chain (chains_of space degree) → IsChain space degree chain
  chains_of-member degree chain h =
      let r = flat_map-In (chains_from faces degree) (upto (length faces)) h in
      let b = upto-In (length faces) r.0 r.1 in
      let t = chains_from-member degree r.0 chain r.2 in
      record { first = r.0; rest = t.0; is = t.1; long = t.2; low = b.0; high = omega (arith, b.1, length-all_faces space); follows = t.3 }

  pub member-chains_of : (degree : ℕ) (chain : List ℕ) → IsChain space degree chain → In chain (chains_of space degree)
  member-chains_of degree chain h =
      subst (λ c. In c (chains_of space degree)) (sym h.is)
      (In-flat_map (chains_from faces degree) (In-upto (length faces) h.first h.low (omega (arith, h.high, length-all_faces space))) (member-chains_from degree h.first h.rest h.long h.follows))

  -- ---- one entry left out

  follows_next : (a b : ℕ) (rest : List ℕ) → IsAbove space a b → Follows space b rest → Follows space a rest
  follows_next a b [] h f = tt
  follows_next a b (c ∷ rest) h f = (above-trans a b c h f.0, f.1)

  leave_out-follows : (a : ℕ) (rest : List ℕ) → Follows space a rest → (b : List ℕ) → In b (leave_out rest) → Follows space a b × (suc (length b) ≡ length rest)
  leave_out-follows a [] f b h = elim h [ ]
  leave_out-follows a (c ∷ rest) f b m =
      elim (In-cases m) [
        | inl e ↦ (subst (Follows space a) (sym e) (follows_next a c rest f.0 f.1), ap (λ (x : List ℕ). suc (length x)) e)
        | inr h ↦
            let r = map-In (λ x. c ∷ x) (leave_out rest) h in
            let s = leave_out-follows c rest f.1 r.0 r.1 in
            (subst (Follows space a) (sym r.2) (f.0, s.0), ap (λ (x : List ℕ). suc (length x)) r.2 ∙ omega (arith, s.1))
      ]

  leave_out-chain : (degree first : ℕ) (rest : List ℕ) → 1 ≤ first → first ≤ cell_count space → length rest ≡ suc degree → Follows space first rest → (b : List ℕ) → In b (leave_out (first ∷ rest)) → IsChain space degree b
  leave_out-chain degree first [] low high e f b h = absurd (omega arith)
  leave_out-chain degree first (c ∷ rest) low high e f b m =
      elim (In-cases m) [
        | inl s ↦ record { first = c; rest = rest; is = s; long = omega arith; low = f.0.low; high = f.0.high; follows = f.1 }
        | inr h ↦
            let r = map-In (λ x. first ∷ x) (leave_out (c ∷ rest)) h in
            let s = leave_out-follows first (c ∷ rest) f r.0 r.1 in
            record { first = first; rest = r.0; is = r.2; long = omega (arith, s.1); low = low; high = high; follows = s.0 }
      ]

  pub leave_out-member : (degree : ℕ) (chain : List ℕ) → In chain (chains_of space (suc degree)) → (b : List ℕ) → In b (leave_out chain) → In b (chains_of space degree)
  leave_out-member degree chain h b k =
      let c = chains_of-member (suc degree) chain h in
      member-chains_of degree b (leave_out-chain degree c.first c.rest c.low c.high c.long c.follows b (subst (λ x. In b (leave_out x)) c.is k))
