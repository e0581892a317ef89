-- The boundary of one chain, and the boundary of a boundary.
use Rattle.std.proofs.Common.{◌≡◌, ℕ, suc, ◌<◌, List, [], ◌∷◌, Bool, true, false, cond, map, length, replicate, get_or, refl, ap, sym, ◌∙◌, arith}
use Rattle.std.specs.Str.{bytes_eq}
use Rattle.std.proofs.lemmas.List.{length-map, get_or-map, get_or_default, same_lists}
use Rattle.std.proofs.lemmas.Simd.{length-replicate, get_or-replicate, get_or-zip2}
use Rattle.small_field.specs.Field.{Ops, IsField}
use Rattle.small_field.proofs.CallerLemmas.{neg_mul}
use Rattle.linear_laws.specs.Vectors.{dot, IsVector}
use Rattle.linear_laws.proofs.CallerLemmas.{plus_scaled-long, zeros_dot, dot_unit}
use Rattle.number_lists.specs.Members.{In}
use Rattle.order_complex.specs.Chains.{chains_of}
use Rattle.order_complex.specs.Cochains.{alternating, alternating_rows, leave_out, value, mark, coboundary_at, coboundary_on, boundary, zeros, IsCochain}
use Rattle.order_complex.proofs.Alternating.{alternating_below}
use Rattle.order_complex.proofs.Chained.{leave_out-member}
use Rattle.order_complex.proofs.Classes.{coboundary_on-vector}
use Rattle.order_complex.proofs.Evaluation.{evaluation-coboundary}
use Rattle.order_complex.proofs.Graded.{placed}
use Rattle.order_complex.proofs.Ordered.{ordered-chains_of, ordered-differ}
use Rattle.order_complex.proofs.Twice.{bytes_eq-refl, bytes_eq-true, value-map, map-members, coboundary-coboundary}

bytes_eq-swap : (a b : List ℕ) → bytes_eq a b ≡ bytes_eq b a
bytes_eq-swap a b = by_tests (bytes_eq a b) (bytes_eq b a) refl refl
  where
    by_tests : (s t : Bool) → bytes_eq a b ≡ s → bytes_eq b a ≡ t → s ≡ t
    by_tests true true e d = refl
    by_tests false false e d = refl
    by_tests true false e d = sym (sym d ∙ ap (λ x. bytes_eq x a) (sym (bytes_eq-true a b e)) ∙ bytes_eq-refl a)
    by_tests false true e d = sym e ∙ ap (λ x. bytes_eq a x) (bytes_eq-true b a d) ∙ bytes_eq-refl a

map_map : {A B C : Type 0} (g : B → C) (f : A → B) (xs : List A) → map g (map f xs) ≡ map (λ x. g (f x)) xs
map_map g f [] = refl
map_map g f (x ∷ xs) = ap (λ r. g (f x) ∷ r) (map_map g f xs)

module _ (F : Ops) (L : IsField F) where
  rows-long : (n : ℕ) (g : List ℕ → List ℕ) (bs : List (List ℕ)) → ((b : List ℕ) → length (g b) ≡ n) → length (alternating_rows F n (map g bs)) ≡ n
  rows-long n g [] long = length-replicate n 0
  rows-long n g (b ∷ bs) long = plus_scaled-long F L (F.neg 1) (g b) (alternating_rows F n (map g bs)) (long b ∙ sym (rows-long n g bs long)) ∙ long b

  -- coordinate j of an alternating sum of rows
  rows-at : (n j : ℕ) (g : List ℕ → List ℕ) (bs : List (List ℕ)) → ((b : List ℕ) → length (g b) ≡ n) → j < n
      → get_or (alternating_rows F n (map g bs)) j 0 ≡ alternating F (map (λ b. get_or (g b) j 0) bs)
  rows-at n j g [] long l = get_or-replicate n j 0 0 l
  rows-at n j g (b ∷ bs) long l =
      let rest : List ℕ = alternating_rows F n (map g bs) in
      get_or-zip2 (λ x y. F.add x (F.mul (F.neg 1) y)) (g b) rest j 0 0 0 (omega (arith, long b)) (omega (arith, rows-long n g bs long))
      ∙ ap (λ y. F.add (get_or (g b) j 0) (F.mul (F.neg 1) y)) (rows-at n j g bs long l)
      ∙ ap (F.add (get_or (g b) j 0)) (neg_mul F L 1 (alternating F (map (λ c. get_or (g c) j 0) bs)) ∙ ap F.neg (L.one_mul _ (alternating_below F L _)))

  -- a vector at the place of a mark
  dot-mark : (chains : List (List ℕ)) (xs : List ℕ) (i : ℕ) (space : List (List (List ℕ))) (degree : ℕ) → chains ≡ chains_of space degree → IsVector F (length chains) xs → i < length chains
      → dot F xs (mark chains (get_or chains i [])) ≡ get_or xs i 0
  dot-mark chains xs i space degree e v l =
      let c : List ℕ = get_or chains i [] in
      let long : length (mark chains c) ≡ length chains = length-map chains (λ b. cond {A = ℕ} (bytes_eq b c) 1 0) in
      dot_unit F L xs (mark chains c) i v.elements (omega (arith, v.long)) (omega (arith, long))
      (get_or-map (λ b. cond {A = ℕ} (bytes_eq b c) 1 0) chains i [] 0 l ∙ ap (λ t. cond t 1 0) (bytes_eq-refl c))
      (λ j k ne. get_or-map (λ b. cond {A = ℕ} (bytes_eq b c) 1 0) chains j [] 0 (omega (arith, long))
      ∙ ap (λ t. cond t 1 0) (differ j (bytes_eq (get_or chains j []) c) refl (omega (arith, long)) ne))
    where
      differ : (j : ℕ) (t : Bool) → bytes_eq (get_or chains j []) (get_or chains i []) ≡ t → j < length chains → (j ≡ i → ⊥) → t ≡ false
      differ j false h k ne = refl
      differ j true h k ne = absurd (ordered-differ chains j i (rw e (ordered-chains_of space degree)) k l ne (bytes_eq-true (get_or chains j []) (get_or chains i []) h))

  module _ (space : List (List (List ℕ))) where
    -- the boundary of one chain
    pub boundary-mark : (degree : ℕ) (chain : List ℕ) → In chain (chains_of space (suc degree))
        → boundary F space degree (mark (chains_of space (suc degree)) chain) ≡ alternating_rows F (length (chains_of space degree)) (map (mark (chains_of space degree)) (leave_out chain))
    boundary-mark degree chain m =
        same_lists (boundary F space degree (mark next chain)) (alternating_rows F n (map (mark chains) (leave_out chain)))
        (length-map chains (λ b. dot F (coboundary_on F chains next (mark chains b)) (mark next chain)) ∙ sym (rows-long n (mark chains) (leave_out chain) marks-long))
        (λ j d l. at j d (omega (arith, l, length-map chains (λ b. dot F (coboundary_on F chains next (mark chains b)) (mark next chain)))))
      where
        chains : List (List ℕ)
        chains = chains_of space degree

        next : List (List ℕ)
        next = chains_of space (suc degree)

        n : ℕ
        n = length (chains_of space degree)

        marks-long : (b : List ℕ) → length (mark (chains_of space degree) b) ≡ length (chains_of space degree)
        marks-long b = length-map (chains_of space degree) (λ c. cond {A = ℕ} (bytes_eq c b) 1 0)

        at : (j d : ℕ) → j < length (chains_of space degree)
            → get_or (boundary F space degree (mark (chains_of space (suc degree)) chain)) j d ≡ get_or (alternating_rows F (length (chains_of space degree)) (map (mark (chains_of space degree)) (leave_out chain))) j d
        at j d l =
            let cs : List (List ℕ) = chains_of space degree in
            let ns : List (List ℕ) = chains_of space (suc degree) in
            let b : List ℕ = get_or cs j [] in
            let p = placed ns chain (ordered-chains_of space (suc degree)) m in
            get_or-map (λ c. dot F (coboundary_on F cs ns (mark cs c)) (mark ns chain)) cs j [] d l
            ∙ ap (λ c. dot F (coboundary_on F cs ns (mark cs b)) (mark ns c)) (sym p.there)
            ∙ dot-mark ns (coboundary_on F cs ns (mark cs b)) p.place space (suc degree) refl (coboundary_on-vector F L cs ns (mark cs b)) p.within
            ∙ get_or-map (coboundary_at F cs (mark cs b)) ns p.place [] 0 p.within
            ∙ ap (coboundary_at F cs (mark cs b)) p.there
            ∙ ap (alternating F)
            (map-members (value cs (mark cs b)) (λ x. get_or (mark cs x) j 0) (leave_out chain)
            (λ x k. value-map (λ c. cond (bytes_eq c b) 1 0) cs x (leave_out-member space degree chain m x k)
            ∙ ap (λ t. cond t 1 0) (bytes_eq-swap x b)
            ∙ sym (get_or-map (λ c. cond {A = ℕ} (bytes_eq c x) 1 0) cs j [] 0 l)))
            ∙ sym (rows-at (length cs) j (mark cs) (leave_out chain) marks-long l)
            ∙ get_or_default (alternating_rows F (length cs) (map (mark cs) (leave_out chain))) j 0 d (omega (arith, rows-long (length cs) (mark cs) (leave_out chain) marks-long))

    -- the boundary of a boundary is zero
    pub boundary-boundary : (degree : ℕ) (c : List ℕ) → IsCochain F space (suc (suc degree)) c → boundary F space degree (boundary F space (suc degree) c) ≡ zeros space degree
    boundary-boundary degree c v = all_zero (chains_of space degree)
      where
        one : (b : List ℕ) → dot F (coboundary_on F (chains_of space degree) (chains_of space (suc degree)) (mark (chains_of space degree) b)) (boundary F space (suc degree) c) ≡ 0
        one b =
            let x : List ℕ = coboundary_on F (chains_of space degree) (chains_of space (suc degree)) (mark (chains_of space degree) b) in
            sym (evaluation-coboundary F L (chains_of space (suc degree)) (chains_of space (suc (suc degree))) x c (ordered-chains_of space (suc degree)) (coboundary_on-vector F L (chains_of space degree) (chains_of space (suc degree)) (mark (chains_of space degree) b)) v.long)
            ∙ ap (λ y. dot F y c) (coboundary-coboundary F L space degree (mark (chains_of space degree) b))
            ∙ zeros_dot F L (length (chains_of space (suc (suc degree)))) c

        all_zero : (bs : List (List ℕ)) → map (λ b. dot F (coboundary_on F (chains_of space degree) (chains_of space (suc degree)) (mark (chains_of space degree) b)) (boundary F space (suc degree) c)) bs ≡ replicate (length bs) 0
        all_zero [] = refl
        all_zero (b ∷ bs) = rw (one b, all_zero bs) refl
