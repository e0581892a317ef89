-- The places of the sets that leave one member out.
use Rattle.std.proofs.Common.{◌≡◌, inl, inr, ◌<◌, ◌≤◌, ◌+◌, ◌*◌, ◌/◌, ◌%◌, ◌^◌, ◌++◌, ℕ, zero, suc, List, [], ◌∷◌, length, map, refl, ap, ◌∙◌, subst, arith, Contains}
use Rattle.std.proofs.Math.Nat.{mul-le-mul_right, mul-le-mul_left, mod-lt}
use Rattle.std.proofs.lemmas.Nat.{div-add-mod', div-mul-add, mod-mul-add}
use Rattle.std.proofs.lemmas.Bool.{cases_lt}
use Rattle.std.proofs.lemmas.List.{map-append}
use Rattle.std.proofs.lemmas.Simd.{map-map}
use Rattle.number_lists.specs.Members.{In, here, there}
use Rattle.number_lists.proofs.CallerLemmas.{In-cases, In-left, In-right, In-map, map_agree}
use Rattle.facet_reader.specs.SetSpaces.{leave_one}
use Rattle.facet_reader.specs.Simplices.{number_in}
use Rattle.facet_reader.specs.Places.{place_of, members}
use Rattle.facet_reader.proofs.Powers.{power-next, power-some, digit-front}
use Rattle.facet_reader.proofs.FacePlaces.{place-below}

-- ---- members of a set at a place

pub length-members : (k p : ℕ) → length (members k p) ≡ k
length-members zero p = refl
length-members (suc k) p = ap (λ (n : ℕ). suc n) (length-members k (p % 65536 ^ k))

pub rest-low : (p k : ℕ) → p % 65536 ^ k < 65536 ^ k
rest-low p k = mod-lt p (power-some k)

pub digit-low : (p k : ℕ) → p < 65536 ^ suc k → p / 65536 ^ k < 65536
digit-low p k h =
    elim (cases_lt (p / 65536 ^ k) 65536) [
      | inl l ↦ l
      | inr l ↦
          let up : 65536 * 65536 ^ k ≤ p / 65536 ^ k * 65536 ^ k = mul-le-mul_right (65536 ^ k) l in
          absurd (omega (arith, up, div-add-mod' p (65536 ^ k), h, power-next k))
    ]

pub place-members : (k p : ℕ) → p < 65536 ^ k → place_of (members k p) ≡ p
place-members zero p h = omega (arith, h, power-zero)
  where
    power-zero : 65536 ^ 0 ≡ 1
    power-zero = refl
place-members (suc k) p h =
    let r : ℕ = p % 65536 ^ k in
    ap (λ (n : ℕ). p / 65536 ^ k * 65536 ^ n + place_of (members k r)) (length-members k r)
    ∙ (ap (λ (n : ℕ). p / 65536 ^ k * 65536 ^ k + n) (place-members k r (rest-low p k)) ∙ div-add-mod' p (65536 ^ k))

pub members-place : (s : List ℕ) → ((x : ℕ) → In x s → x < 65536) → members (length s) (place_of s) ≡ s
members-place [] h = refl
members-place (x ∷ s) h =
    let w : ℕ = 65536 ^ length s in
    let l : place_of s < 65536 ^ length s = place-below s (λ y i. h y (there i)) in
    let a : (x * 65536 ^ length s + place_of s) / 65536 ^ length s ≡ x = div-mul-add x (65536 ^ length s) (place_of s) l in
    let b : (x * 65536 ^ length s + place_of s) % 65536 ^ length s ≡ place_of s = mod-mul-add x (65536 ^ length s) (place_of s) l in
    ap (λ (y : ℕ). y ∷ members (length s) ((x * 65536 ^ length s + place_of s) % 65536 ^ length s)) a
    ∙ ap (λ (t : List ℕ). x ∷ t) (ap (members (length s)) b ∙ members-place s (λ y i. h y (there i)))

pub members-low : (k p x : ℕ) → p < 65536 ^ k → In x (members k p) → x < 65536
members-low zero p x h i = elim i [ ]
members-low (suc k) p x h i = elim (In-cases i) [ inl e ↦ omega (arith, e, digit-low p k h) | inr j ↦ members-low k (p % 65536 ^ k) x (rest-low p k) j ]

-- ---- one member out

module _ (k high place : ℕ) (below : List ℕ) (fits : place < 65536 ^ suc k) where
  first_is : ℕ
  first_is = place / 65536 ^ k

  pub held-last : ((u : List ℕ) → In u (leave_one (members (suc k) place)) → Contains below (high * 65536 ^ length u + place_of u)) → Contains below (high * 65536 ^ k + place % 65536 ^ k)
  held-last held =
      let u : List ℕ = members k (place % 65536 ^ k) in
      let c : Contains below (high * 65536 ^ length u + place_of u) = held u (In-right (map (λ t. place / 65536 ^ k ∷ t) (leave_one u)) here) in
      subst (Contains below) (value (length u) (place_of u) (length-members k (place % 65536 ^ k)) (place-members k (place % 65536 ^ k) (rest-low place k))) c
    where
      value : (n p : ℕ) → n ≡ k → p ≡ place % 65536 ^ k → high * 65536 ^ n + p ≡ high * 65536 ^ k + place % 65536 ^ k
      value n p a b = ap (λ (m : ℕ). high * 65536 ^ m + p) a ∙ ap (λ (m : ℕ). high * 65536 ^ k + m) b

  pub held-kept : ((u : List ℕ) → In u (leave_one (members (suc k) place)) → Contains below (high * 65536 ^ length u + place_of u))
      → (u : List ℕ) → In u (leave_one (members k (place % 65536 ^ k))) → Contains below ((high * 65536 + place / 65536 ^ k) * 65536 ^ length u + place_of u)
  held-kept held u i =
      let x : ℕ = place / 65536 ^ k in
      subst (Contains below) (digit-front high x (length u) (place_of u)) (held (x ∷ u) (In-left (members k (place % 65536 ^ k) ∷ []) (In-map (λ t. x ∷ t) i)))

  pub facets-listed : map (λ u. number_in below (high * 65536 ^ length u + place_of u)) (leave_one (members (suc k) place))
      ≡ map (λ u. number_in below ((high * 65536 + place / 65536 ^ k) * 65536 ^ length u + place_of u)) (leave_one (members k (place % 65536 ^ k))) ++ number_in below (high * 65536 ^ k + place % 65536 ^ k) ∷ []
  facets-listed =
      let x : ℕ = place / 65536 ^ k in
      let m : List ℕ = members k (place % 65536 ^ k) in
      let f : List ℕ → ℕ = λ u. number_in below (high * 65536 ^ length u + place_of u) in
      let g : List ℕ → ℕ = λ u. number_in below ((high * 65536 + x) * 65536 ^ length u + place_of u) in
      let front : map f (map (λ t. x ∷ t) (leave_one m)) ≡ map g (leave_one m) =
      map-map f (λ t. x ∷ t) (leave_one m) ∙ map_agree (λ t. f (x ∷ t)) g (leave_one m) (λ u. ap (number_in below) (digit-front high x (length u) (place_of u))) in
      let last : f m ≡ number_in below (high * 65536 ^ k + place % 65536 ^ k) =
      ap (λ (n : ℕ). number_in below (high * 65536 ^ n + place_of m)) (length-members k (place % 65536 ^ k))
      ∙ ap (λ (n : ℕ). number_in below (high * 65536 ^ k + n)) (place-members k (place % 65536 ^ k) (rest-low place k)) in
      map-append f (map (λ t. x ∷ t) (leave_one m)) (m ∷ [])
      ∙ (ap (λ (xs : List ℕ). xs ++ f m ∷ []) front ∙ ap (λ (n : ℕ). map g (leave_one m) ++ n ∷ []) last)

pub room-last : (high place k : ℕ) → (high + 1) * 65536 ^ suc k ≤ 18446744073709551616 → high * 65536 ^ k + place % 65536 ^ k < 18446744073709551616
room-last high place k h =
    let w : 65536 ^ k ≤ 65536 ^ suc k = omega (arith, power-next k) in
    let up : (high + 1) * 65536 ^ k ≤ (high + 1) * 65536 ^ suc k = mul-le-mul_left (high + 1) w in
    let cut : (high + 1) * 65536 ^ k ≡ high * 65536 ^ k + 65536 ^ k = grind arith in
    omega (arith, up, cut, h, rest-low place k)
