-- The places of choices, row by row and head by head.
use Rattle.std.proofs.Common.{◌≡◌, inl, inr, ◌<◌, ◌≤◌, ◌+◌, ◌*◌, ◌^◌, ◌++◌, ℕ, zero, suc, List, [], ◌∷◌, length, map, drop, get_or, ap, sym, ◌∙◌, subst, arith, append-nil, Contains}
use Rattle.std.specs.List.{flat_map, range_with_len}
use Rattle.std.specs.List.Sorted.{IsStrictlyIncreasing}
use Rattle.std.proofs.lemmas.Grind.{flat_map-append}
use Rattle.number_lists.specs.Members.{In}
use Rattle.number_lists.proofs.CallerLemmas.{In-left, In-right, append-In, In-map, map-In, In-flat_map, flat_map-In, Contains-In, In-Contains, length-inside, distinct_rising}
use Rattle.tuple_spaces.proofs.CallerLemmas.{range-more, In-below, below-In}
use Rattle.facet_reader.specs.SetSpaces.{choices}
use Rattle.facet_reader.specs.Places.{place_of, Adds, IsCrowded, made_by}
use Rattle.facet_reader.proofs.Choices.{choice-part}
use Rattle.facet_reader.proofs.Powers.{digit-front}

-- ---- what is added

pub adds-none : (old : List ℕ) → Adds [] old old
adds-none old = record { kept = λ z i. i; added = λ z i. elim i [ ]; no_other = λ z i. inl i }

pub adds-both : {a b old mid new : List ℕ} → Adds a old mid → Adds b mid new → Adds (a ++ b) old new
adds-both {a} {b} h k =
    record {
      kept = λ z i. k.kept z (h.kept z i);
      added = λ z i. elim (append-In a b i) [ inl j ↦ k.kept z (h.added z j) | inr j ↦ k.added z j ];
      no_other = λ z i. elim (k.no_other z i) [ inl j ↦ elim (h.no_other z j) [ inl l ↦ inl l | inr l ↦ inr (In-left b l) ] | inr j ↦ inr (In-right a j) ];
    }

pub adds-same : {a b old new : List ℕ} → ((z : ℕ) → In z a → In z b) → ((z : ℕ) → In z b → In z a) → Adds a old new → Adds b old new
adds-same to from h = record { kept = h.kept; added = λ z i. h.added z (from z i); no_other = λ z i. elim (h.no_other z i) [ inl j ↦ inl j | inr j ↦ inr (to z j) ] }

-- a place after those that were sorted
pub adds-pushed : (old mid new : List ℕ) (place : ℕ) → ((z : ℕ) → Contains old z → Contains mid z) → ((z : ℕ) → Contains mid z → Contains old z) → new ≡ mid ++ place ∷ [] → Adds (place ∷ []) old new
adds-pushed old mid new place keeps adds_none e =
    record {
      kept = λ z i. subst (In z) (sym e) (In-left (place ∷ []) (Contains-In (keeps z (In-Contains i))));
      added = λ z i. subst (In z) (sym e) (In-right mid i);
      no_other = λ z i. elim (append-In mid (place ∷ []) (subst (In z) e i)) [ inl j ↦ inl (Contains-In (adds_none z (In-Contains j))) | inr j ↦ inr j ];
    }

-- too many different ones
pub crowded : (made old mid : List ℕ) → IsStrictlyIncreasing mid → ((z : ℕ) → Contains mid z → Contains old z) → 60000 < length mid → IsCrowded made old
crowded made old mid rises adds_none many all h k =
    let l : length mid ≤ length all = length-inside mid all (distinct_rising mid rises) (λ y i. h y (Contains-In (adds_none y (In-Contains i)))) in
    omega (arith, l, many)

pub crowded-later : {a b c old now : List ℕ} → Adds a old now → ((z : ℕ) → In z a → In z c) → ((z : ℕ) → In z b → In z c) → IsCrowded b now → IsCrowded c old
crowded-later h from_a from_b k all old_in made_in =
    k all (λ z i. elim (h.no_other z i) [ inl j ↦ old_in z j | inr j ↦ made_in z (from_a z j) ]) (λ z i. made_in z (from_b z i))

-- ---- choices by their heads

pub head-choice : (k : ℕ) (row : List ℕ) (j : ℕ) (t : List ℕ) → j < length row → In t (choices k (drop (j + 1) row)) → In (get_or row j 0 ∷ t) (choices (suc k) row)
head-choice k [] j t l i = absurd (omega arith)
head-choice k (x ∷ row) zero t l i = In-left (choices (suc k) row) (In-map (λ s. x ∷ s) i)
head-choice k (x ∷ row) (suc j) t l i =
    let e : suc j + 1 ≡ suc (j + 1) = omega arith in
    In-right (map (λ s. x ∷ s) (choices k row)) (head-choice k row j t (omega (arith, l)) (subst (λ (n : ℕ). In t (choices k (drop n (x ∷ row)))) e i))

-- a choice by its head
pub record HasHead (k : ℕ) (row s : List ℕ) : Type 0 where
  pub index : ℕ
  pub inside : index < length row
  pub rest : List ℕ
  pub chosen : In rest (choices k (drop (index + 1) row))
  pub is : s ≡ get_or row index 0 ∷ rest

pub choice-head : (k : ℕ) (row s : List ℕ) → In s (choices (suc k) row) → HasHead k row s
choice-head k [] s i = elim i [ ]
choice-head k (x ∷ row) s i =
    elim (append-In (map (λ t. x ∷ t) (choices k row)) (choices (suc k) row) i) [
      | inl j ↦ let r = map-In (λ t. x ∷ t) (choices k row) j in record { index = 0; inside = omega arith; rest = r.0; chosen = r.1; is = r.2 }
      | inr j ↦
          let h = choice-head k row s j in
          let e : suc (h.index + 1) ≡ suc h.index + 1 = omega arith in
          record { index = suc h.index; inside = omega (arith, h.inside); rest = h.rest; chosen = subst (λ (n : ℕ). In h.rest (choices k (drop n (x ∷ row)))) e h.chosen; is = h.is }
    ]

-- the places of the choices with one head, and with the first heads
abbrev pub made_at : (k high : ℕ) → List ℕ → ℕ → List ℕ
made_at k high row j = made_by k (high * 65536 + get_or row j 0) (drop (j + 1) row)

abbrev pub made_first : (k high : ℕ) → List ℕ → ℕ → List ℕ
made_first k high row i = flat_map (made_at k high row) (range_with_len 0 i)

pub made-more : (k high : ℕ) (row : List ℕ) (i : ℕ) → made_first k high row (i + 1) ≡ made_first k high row i ++ made_at k high row i
made-more k high row i =
    ap (flat_map (made_at k high row)) (range-more i) ∙ (flat_map-append (made_at k high row) (range_with_len 0 i) (i ∷ []) ∙ ap (λ (xs : List ℕ). made_first k high row i ++ xs) (append-nil (made_at k high row i)))

long : (k : ℕ) (row t : List ℕ) → In t (choices k row) → length t ≡ k
long k row t i = (choice-part k t row i).1

pub place-front : (k high x : ℕ) (t : List ℕ) → length t ≡ k → high * 65536 ^ suc k + place_of (x ∷ t) ≡ (high * 65536 + x) * 65536 ^ k + place_of t
place-front k high x t e = ap (λ (n : ℕ). high * 65536 ^ suc k + (x * 65536 ^ n + place_of t)) e ∙ digit-front high x k (place_of t)

pub made-head : (k high : ℕ) (row : List ℕ) (j z : ℕ) → j < length row → In z (made_at k high row j) → In z (made_by (suc k) high row)
made-head k high row j z l i =
    let r = map-In (λ s. (high * 65536 + get_or row j 0) * 65536 ^ k + place_of s) (choices k (drop (j + 1) row)) i in
    let e : z ≡ high * 65536 ^ suc k + place_of (get_or row j 0 ∷ r.0) = r.2 ∙ sym (place-front k high (get_or row j 0) r.0 (long k (drop (j + 1) row) r.0 r.1)) in
    subst (λ (n : ℕ). In n (made_by (suc k) high row)) (sym e) (In-map (λ s. high * 65536 ^ suc k + place_of s) (head-choice k row j r.0 l r.1))

pub made-heads : (k high : ℕ) (row : List ℕ) (i z : ℕ) → i ≤ length row → In z (made_first k high row i) → In z (made_by (suc k) high row)
made-heads k high row i z l h =
    let r = flat_map-In (made_at k high row) (range_with_len 0 i) h in
    made-head k high row r.0 z (omega (arith, below-In i r.0 r.1, l)) r.2

pub made-all : (k high : ℕ) (row : List ℕ) (z : ℕ) → In z (made_by (suc k) high row) → In z (made_first k high row (length row))
made-all k high row z i =
    let r = map-In (λ s. high * 65536 ^ suc k + place_of s) (choices (suc k) row) i in
    let h = choice-head k row r.0 r.1 in
    let e : z ≡ (high * 65536 + get_or row h.index 0) * 65536 ^ k + place_of h.rest =
    r.2 ∙ (ap (λ (s : List ℕ). high * 65536 ^ suc k + place_of s) h.is ∙ place-front k high (get_or row h.index 0) h.rest (long k (drop (h.index + 1) row) h.rest h.chosen)) in
    In-flat_map (made_at k high row) (In-below (length row) h.index h.inside) (subst (λ (n : ℕ). In n (made_at k high row h.index)) (sym e) (In-map (λ s. (high * 65536 + get_or row h.index 0) * 65536 ^ k + place_of s) h.chosen))

-- no number more
pub made-none : (high : ℕ) (row : List ℕ) → made_by 0 high row ≡ high ∷ []
made-none high row = let e : high * 65536 ^ 0 + 0 ≡ high = omega arith in ap (λ (n : ℕ). n ∷ []) e
