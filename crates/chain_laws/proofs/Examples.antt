-- The lines of a certificate for the circle of two points and two edges, modulo 3. The chains of degree 1 are numbered
-- (1,3), (1,4), (2,3), (2,4), where 3 and 4 are the ids of the edges.
use Rattle.std.proofs.Common.{◌≡◌, ℕ, List, [], ◌∷◌, true, false, refl}
use Rattle.face_poset.specs.Poset.{Layers}
use Rattle.small_field.specs.Field.{Ops}
use Rattle.small_field.specs.Prime.{mod_ops}
use Rattle.order_complex.specs.Chains.{chains_of}
use Rattle.chain_laws.specs.Lines.{rank_holds, cocycle_holds, cycle_holds, pairing_holds, class_holds, product_holds, count_holds}
use Rattle.chain_laws.specs.AllLines.{Line, homology_holds}

abbrev circle : Layers
circle = ([] ∷ [] ∷ []) ∷ ((1 ∷ 2 ∷ []) ∷ (1 ∷ 2 ∷ []) ∷ []) ∷ [] ∷ [] ∷ []

abbrev F : Ops
F = mod_ops 3

abbrev points : List (List ℕ)
points = chains_of circle 0

abbrev edges : List (List ℕ)
edges = chains_of circle 1

-- 1 on one chain
abbrev at : ℕ → List (ℕ × ℕ)
at n = (n, 1) ∷ []

abbrev ones : List (ℕ × ℕ)
ones = (1, 1) ∷ (2, 1) ∷ (3, 1) ∷ (4, 1) ∷ []

-- once round
abbrev round : List (ℕ × ℕ)
round = (1, 1) ∷ (2, 2) ∷ (3, 2) ∷ (4, 1) ∷ []

are-chains : edges ≡ (1 ∷ 3 ∷ []) ∷ (1 ∷ 4 ∷ []) ∷ (2 ∷ 3 ∷ []) ∷ (2 ∷ 4 ∷ []) ∷ []
are-chains = refl

rank-first : rank_holds F points edges [] (at 3) (at 1) ≡ true
rank-first = refl

rank-second : rank_holds F points edges (at 1 ∷ []) (at 4) (at 2) ≡ true
rank-second = refl

rank-third : rank_holds F points edges (at 1 ∷ at 2 ∷ []) (at 2) (at 3) ≡ true
rank-third = refl

-- not zero on the right side of a line before, and zero on its own
rank-before : rank_holds F points edges (at 1 ∷ at 2 ∷ at 3 ∷ []) (at 2) (at 4) ≡ false
rank-before = refl

rank-own : rank_holds F points edges [] (at 3) (at 2) ≡ false
rank-own = refl

count-points : count_holds points 0 3 1 ≡ true
count-points = refl

count-edges : count_holds edges 3 0 1 ≡ true
count-edges = refl

constant-is-cocycle : cocycle_holds F points edges ones ≡ true
constant-is-cocycle = refl

mark-is-none : cocycle_holds F points edges (at 1) ≡ false
mark-is-none = refl

point-is-cycle : cycle_holds F [] points (at 1) ≡ true
point-is-cycle = refl

round-is-cycle : cycle_holds F points edges round ≡ true
round-is-cycle = refl

ones-are-none : cycle_holds F points edges ones ≡ false
ones-are-none = refl

round-pairs : pairing_holds F edges (round ∷ []) 0 (at 1) ≡ true
round-pairs = refl

round-pairs-with-two : pairing_holds F edges (round ∷ []) 0 (at 2) ≡ false
round-pairs-with-two = refl

-- the mark of the second edge is the negative of that of the first, plus the coboundary of the negative of the first point
product-by-bound : product_holds F 1 edges (at 2) points ones points edges (at 1 ∷ []) ((1, 2) ∷ []) ((1, 2) ∷ []) ≡ true
product-by-bound = refl

product-of-other-bound : product_holds F 1 edges (at 2) points ones points edges (at 1 ∷ []) ((1, 2) ∷ []) (at 1) ≡ false
product-of-other-bound = refl

-- the same of the second edge without a product
class-by-bound : class_holds F points edges (at 1 ∷ []) ((1, 2) ∷ []) ((1, 2) ∷ []) (0 ∷ 1 ∷ 0 ∷ 0 ∷ []) ≡ true
class-by-bound = refl

class-of-another-edge : class_holds F points edges (at 1 ∷ []) ((1, 2) ∷ []) ((1, 2) ∷ []) (0 ∷ 0 ∷ 0 ∷ 1 ∷ []) ≡ false
class-of-another-edge = refl

no-bound-below : class_holds F [] points (ones ∷ []) ((1, 2) ∷ []) [] (2 ∷ 2 ∷ 2 ∷ 2 ∷ []) ≡ true
no-bound-below = refl

-- ---- all lines

line : (left right : List (ℕ × ℕ)) → Line
line left right = record { left = left; right = right }

ranks : List (List Line)
ranks = (line (at 3) (at 1) ∷ line (at 4) (at 2) ∷ line (at 2) (at 3) ∷ []) ∷ []

classes : List (List Line)
classes = (line ones (at 1) ∷ []) ∷ (line (at 1) round ∷ []) ∷ []

all-lines : homology_holds F circle ranks classes ≡ true
unfolding line ranks classes
all-lines = refl

-- the line with the last vertex first
in-another-order : homology_holds F circle ((line (at 2) (at 3) ∷ line (at 3) (at 1) ∷ line (at 4) (at 2) ∷ []) ∷ []) classes ≡ false
unfolding line classes
in-another-order = refl

one-line-less : homology_holds F circle ((line (at 3) (at 1) ∷ line (at 4) (at 2) ∷ []) ∷ []) classes ≡ false
unfolding line classes
one-line-less = refl

no-class-round : homology_holds F circle ranks ((line ones (at 1) ∷ []) ∷ []) ≡ false
unfolding line ranks
no-class-round = refl

a-class-that-is-no-cycle : homology_holds F circle ranks ((line ones (at 1) ∷ []) ∷ (line (at 1) (at 1) ∷ []) ∷ []) ≡ false
unfolding line ranks
a-class-that-is-no-cycle = refl
