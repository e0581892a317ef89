-- What is listed of a space, from its parts.
use Rattle.std.proofs.Common.{◌≡◌, ℕ, ◌-◌, ◌≤◌, ◌<◌, List, [], ◌∷◌, ◌++◌, length, eqb, get_or, refl, ap, sym, ◌∙◌, subst, arith, All}
use Rattle.face_poset.specs.Poset.{IsLimited, IsSpace, count}
use Rattle.regular_check.specs.Components.{Numbering, ComponentsAreNumbered, components_of, component_count, is_least}
use Rattle.number_lists.specs.Words.{upto}
use Rattle.number_lists.proofs.CallerLemmas.{length-upto, length-filter-le}
use Rattle.space_parts.specs.Parts.{Piece, component_at, cells_in, part_of, piece_of}
use Rattle.space_parts.specs.Laws.{IsWhole}
use Rattle.space_parts.specs.Listings.{numbers_of, grouped, own_places, IsListing}
use Rattle.space_parts.specs.Making.{stage, HasCells}
use Rattle.space_parts.proofs.Listed.{length_numbers, numbers_in, grouped_at, length_grouped}
use Rattle.space_parts.proofs.Places.{by_dim, part_above, part_count}

pub count_few : (space : List (List (List ℕ))) → IsLimited space → (d : ℕ) → d ≤ 3 → count space d ≤ 60000
count_few space h d l = by_dim (λ e. count space e ≤ 60000) (omega (arith, h.most)) (omega (arith, h.most)) (omega (arith, h.most)) (omega (arith, h.most)) d l

-- the components of the cells of a dimension, as a call is given them
pub record AreGiven (space : List (List (List ℕ))) (dim number : ℕ) (given : List ℕ) : Type 0 where
  pub numbers_are : given ≡ numbers_of space dim
  pub number_is : number ≡ component_count space

pub given : (space : List (List (List ℕ))) (dim number : ℕ) (components : Numbering) (xs numbers : List ℕ) → components ≡ components_of space → number ≡ components.count → xs ≡ numbers → numbers ≡ numbers_of space dim → AreGiven space dim number xs
given space dim number components xs numbers e n f g = record { numbers_are = f ∙ g; number_is = n ∙ ap (λ (x : Numbering). x.count) e }

module _ (space : List (List (List ℕ))) (dim number : ℕ) (xs : List ℕ) (h : AreGiven space dim number xs) where
  pub given_within : IsSpace space → ComponentsAreNumbered → All (λ n. (1 ≤ n) × (n ≤ number)) xs
  given_within hs numbered =
      subst (λ (n : ℕ). All (λ x. (1 ≤ x) × (x ≤ n)) xs) (sym h.number_is) (subst (All (λ x. (1 ≤ x) × (x ≤ component_count space))) (sym h.numbers_are) (numbers_in space dim hs numbered))

  pub given_few : IsLimited space → dim ≤ 3 → length xs ≤ 60000
  given_few few l = omega (arith, ap length h.numbers_are, length_numbers space dim, count_few space few dim l)

  pub given_groups : (cells : List (List ℕ)) → cells ≡ grouped xs number → cells ≡ grouped (numbers_of space dim) (component_count space)
  given_groups cells e = e ∙ (ap (λ (ys : List ℕ). grouped ys number) h.numbers_are ∙ ap (grouped (numbers_of space dim)) h.number_is)

  pub given_places : (places made : List ℕ) → places ≡ made → made ≡ own_places xs → places ≡ own_places (numbers_of space dim)
  given_places places made e f = e ∙ (f ∙ ap own_places h.numbers_are)

-- four lists, put one after another
pub four_lists : (none one two three all : List (List ℕ)) (a b c d : List ℕ) → none ≡ [] → one ≡ none ++ a ∷ [] → two ≡ one ++ b ∷ [] → three ≡ two ++ c ∷ [] → all ≡ three ++ d ∷ [] → all ≡ a ∷ b ∷ c ∷ d ∷ []
four_lists none one two three all a b c d e p q r s =
    s
    ∙ (ap (λ (xs : List (List ℕ)). xs ++ d ∷ []) r
    ∙ (ap (λ (xs : List (List ℕ)). (xs ++ c ∷ []) ++ d ∷ []) q
    ∙ (ap (λ (xs : List (List ℕ)). ((xs ++ b ∷ []) ++ c ∷ []) ++ d ∷ []) p ∙ ap (λ (xs : List (List ℕ)). (((xs ++ a ∷ []) ++ b ∷ []) ++ c ∷ []) ++ d ∷ []) e)))

pub listing : (space : List (List (List ℕ))) (number : ℕ) (g0 g1 g2 g3 places : List (List ℕ)) (x0 x1 x2 x3 p0 p1 p2 p3 m0 m1 m2 m3 : List ℕ)
    → AreGiven space 0 number x0 → AreGiven space 1 number x1 → AreGiven space 2 number x2 → AreGiven space 3 number x3
    → g0 ≡ grouped x0 number → g1 ≡ grouped x1 number → g2 ≡ grouped x2 number → g3 ≡ grouped x3 number → places ≡ p0 ∷ p1 ∷ p2 ∷ p3 ∷ []
    → p0 ≡ m0 → p1 ≡ m1 → p2 ≡ m2 → p3 ≡ m3 → m0 ≡ own_places x0 → m1 ≡ own_places x1 → m2 ≡ own_places x2 → m3 ≡ own_places x3 → IsListing space (g0 ∷ g1 ∷ g2 ∷ g3 ∷ []) places
listing space number g0 g1 g2 g3 places x0 x1 x2 x3 p0 p1 p2 p3 m0 m1 m2 m3 a0 a1 a2 a3 e0 e1 e2 e3 f q0 q1 q2 q3 r0 r1 r2 r3 =
    record {
      cells_four = refl;
      places_four = ap length f;
      cells_are = λ d l. by_dim (λ d. get_or (g0 ∷ g1 ∷ g2 ∷ g3 ∷ []) d [] ≡ grouped (numbers_of space d) (component_count space))
          (given_groups space 0 number x0 a0 g0 e0) (given_groups space 1 number x1 a1 g1 e1) (given_groups space 2 number x2 a2 g2 e2) (given_groups space 3 number x3 a3 g3 e3) d l;
      places_are = λ d l. ap (λ (ps : List (List ℕ)). get_or ps d []) f
          ∙ by_dim (λ d. get_or (p0 ∷ p1 ∷ p2 ∷ p3 ∷ []) d [] ≡ own_places (numbers_of space d)) (given_places space 0 number x0 a0 p0 m0 q0 r0) (given_places space 1 number x1 a1 p1 m1 q1 r1)
          (given_places space 2 number x2 a2 p2 m2 q2 r2) (given_places space 3 number x3 a3 p3 m3 q3 r3) d l;
    }

-- the cells of a component
pub room : (space : List (List (List ℕ))) (cells : List (List (List ℕ))) (places : List (List ℕ)) (number dim : ℕ) → IsListing space cells places → dim < 4 → number ≤ component_count space → number ≤ length (get_or cells dim [])
room space cells places number dim h l n = omega (arith, n, ap length (h.cells_are dim (omega (arith, l))), length_grouped space dim (component_count space))

pub own_cells : (space : List (List (List ℕ))) (cells : List (List (List ℕ))) (places : List (List ℕ)) (number dim : ℕ) (own : List ℕ) → IsListing space cells places → dim < 4 → 1 ≤ number → number ≤ component_count space
    → own ≡ get_or (get_or cells dim []) (number - 1) [] → own ≡ cells_in space number dim
own_cells space cells places number dim own h l low n e =
    e ∙ (ap (λ (gs : List (List ℕ)). get_or gs (number - 1) []) (h.cells_are dim (omega (arith, l))) ∙ grouped_at space dim number (component_count space) low n)

-- how many they are
pub own_many : (space : List (List (List ℕ))) (cells : List (List (List ℕ))) (places : List (List ℕ)) (number dim : ℕ) (own : List ℕ) → IsListing space cells places → dim ≤ 3 → 1 ≤ number → number ≤ component_count space
    → own ≡ get_or (get_or cells dim []) (number - 1) [] → length own ≡ count (part_of space number) dim
own_many space cells places number dim own h l low n e = ap length (own_cells space cells places number dim own h (omega (arith, l)) low n e) ∙ sym (part_count space number dim l)

pub own_few : (space : List (List (List ℕ))) (number dim : ℕ) → IsLimited space → dim ≤ 3 → count (part_of space number) dim ≤ 60000
own_few space number dim few l =
    omega (arith, part_count space number dim l, length-filter-le (λ c. eqb (component_at space dim c) number) (upto (count space dim)), length-upto (count space dim), count_few space few dim l)

-- ---- a part that was made

pub some_vertex : (part : List (List (List ℕ))) → IsWhole part → 1 ≤ count part 0
some_vertex part h = omega (arith, h.one, length-filter-le (is_least part) (upto (count part 0)), length-upto (count part 0))

pub stage_whole : (space : List (List (List ℕ))) (number dim : ℕ) (builder : List (List (List ℕ))) → dim ≡ 4 → builder ≡ stage space number dim 0 → builder ≡ part_of space number
stage_whole space number dim builder e is = is ∙ ap (λ (d : ℕ). stage space number d 0) e

pub has_cells : (space : List (List (List ℕ))) (number : ℕ) → HasCells (part_of space number) (cells_in space number 0 ∷ cells_in space number 1 ∷ cells_in space number 2 ∷ cells_in space number 3 ∷ [])
has_cells space number =
    record {
      low = part_above space number;
      four = refl;
      as_many = λ d l. by_dim (λ d. length (get_or (cells_in space number 0 ∷ cells_in space number 1 ∷ cells_in space number 2 ∷ cells_in space number 3 ∷ []) d []) ≡ count (part_of space number) d)
          (sym (part_count space number 0 (omega arith))) (sym (part_count space number 1 (omega arith))) (sym (part_count space number 2 (omega arith))) (sym (part_count space number 3 (omega arith))) d l;
    }

pub piece_is : (space : List (List (List ℕ))) (number : ℕ) (piece : Piece) → piece.space ≡ part_of space number → piece.cells ≡ cells_in space number 0 ∷ cells_in space number 1 ∷ cells_in space number 2 ∷ cells_in space number 3 ∷ [] → piece ≡ piece_of space number
piece_is space number piece e f =
    ap (λ (s : List (List (List ℕ))). let p : Piece = record { space = s; cells = piece.cells } in p) e ∙ ap (λ (cs : List (List ℕ)). let p : Piece = record { space = part_of space number; cells = cs } in p) f
