-- The numbers of chains in a list in lexicographic order.
use Rattle.std.proofs.Common.{◌≡◌, ◌≢◌, ℕ, zero, suc, ◌+◌, ◌<◌, List, [], ◌∷◌, ◌++◌, Bool, true, false, cond, map, take, drop, length, get_or, Some, None, refl, ap, sym, ◌∙◌, subst, arith}
use Rattle.std.specs.Prelude.{option_map}
use Rattle.std.specs.List.{range_with_len}
use Rattle.std.specs.Str.{bytes_eq}
use Rattle.number_lists.specs.Members.{In}
use Rattle.number_lists.proofs.CallerLemmas.{at-In}
use Rattle.order_complex.specs.Order.{Before, IsOrdered}
use Rattle.order_complex.specs.Cochains.{leave_out}
use Rattle.order_complex.specs.Complex.{number_in}
use Rattle.order_complex.proofs.Ordered.{all-at, before-self}
use Rattle.order_complex.proofs.Twice.{bytes_eq-refl, bytes_eq-true}

-- the first of them
number-first : (chain ids : List ℕ) (chains : List (List ℕ)) → chain ≡ ids → number_in (chain ∷ chains) ids ≡ Some 1
number-first chain ids chains e = ap (λ t. cond t (Some 1) (option_map suc (number_in chains ids))) (ap (λ c. bytes_eq c ids) e ∙ bytes_eq-refl ids)

not-equal : (b c : List ℕ) (t : Bool) → bytes_eq b c ≡ t → b ≢ c → t ≡ false
not-equal b c true e ne = absurd (ne (bytes_eq-true b c e))
not-equal b c false e ne = refl

number-later : (chain ids : List ℕ) (chains : List (List ℕ)) → chain ≢ ids → number_in (chain ∷ chains) ids ≡ option_map suc (number_in chains ids)
number-later chain ids chains ne = ap (λ t. cond t (Some 1) (option_map suc (number_in chains ids))) (not-equal chain ids (bytes_eq chain ids) refl ne)

-- the number of the ids at a place
pub number-at : (chains : List (List ℕ)) (ids : List ℕ) (place : ℕ) → IsOrdered chains → place < length chains → get_or chains place [] ≡ ids → number_in chains ids ≡ Some (place + 1)
number-at [] ids place o l e = absurd (omega arith)
number-at (c ∷ chains) ids zero o l e = number-first c ids chains e
number-at (c ∷ chains) ids (suc place) o l e =
    number-later c ids chains (λ same. before-self ids (subst (λ x. Before x ids) same (all-at (Before c) chains ids o.0 (subst (λ x. In x chains) e (at-In chains place [] (omega arith))))))
    ∙ ap (option_map suc) (number-at chains ids place o.1 (omega arith) e) ∙ ap Some (omega arith)

-- ids that are nowhere have none
pub number-nowhere : (chains : List (List ℕ)) (ids : List ℕ) → ((place : ℕ) → place < length chains → get_or chains place [] ≢ ids) → number_in chains ids ≡ None
number-nowhere [] ids none = refl
number-nowhere (c ∷ chains) ids none =
    number-later c ids chains (none 0 (omega arith)) ∙ ap (option_map suc) (number-nowhere chains ids (λ place l. none (suc place) (omega arith)))

-- the sequences with one entry left out, by the place of the entry
abbrev pub without : List ℕ → ℕ → List ℕ
without chain place = take place chain ++ drop (place + 1) chain

map-range_suc : (f g : ℕ → List ℕ) → ((i : ℕ) → f (i + 1) ≡ g i) → (a n : ℕ) → map f (range_with_len (a + 1) n) ≡ map g (range_with_len a n)
map-range_suc f g e a zero = refl
map-range_suc f g e a (suc n) = rw (e a, map-range_suc f g e (a + 1) n) refl

map_map : {A B C : Type 0} (g : B → C) (f : A → B) (xs : List A) → map g (map f xs) ≡ map (λ x. g (f x)) xs
map_map g f [] = refl
map_map g f (x ∷ xs) = ap (λ r. g (f x) ∷ r) (map_map g f xs)

pub leave_out-places : (chain : List ℕ) → leave_out chain ≡ map (without chain) (range_with_len 0 (length chain))
leave_out-places [] = refl
leave_out-places (c ∷ cs) =
    ap (λ r. cs ∷ r)
    (ap (map (λ chain. c ∷ chain)) (leave_out-places cs) ∙ map_map (λ chain. c ∷ chain) (without cs) (range_with_len 0 (length cs))
    ∙ sym (map-range_suc (without (c ∷ cs)) (λ i. c ∷ without cs i) (λ i. next i) 0 (length cs)))
  where
    next : (i : ℕ) → without (c ∷ cs) (i + 1) ≡ c ∷ without cs i
    next i = at (i + 1) (i + 1 + 1) (omega arith) (omega arith)
      where
        at : (j k : ℕ) → j ≡ suc i → k ≡ suc (i + 1) → take j (c ∷ cs) ++ drop k (c ∷ cs) ≡ c ∷ without cs i
        at j k e d = ap (λ m. take m (c ∷ cs) ++ drop k (c ∷ cs)) e ∙ ap (λ m. take (suc i) (c ∷ cs) ++ drop m (c ∷ cs)) d
