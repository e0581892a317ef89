-- Cochains on lists of chains, their coboundaries, and boundaries of chains with coefficients.
-- `F` is the arithmetic of a field. A cochain is the list of the elements that it gives to the chains of its degree, in
-- their order; `chains` are those of a degree, `next` those of one degree more.
--   leave_out chain                   the chain with one entry left out, the first entry first
--   alternating F xs                  the first element less the second plus the third and so on
--   value chains x chain              the element that the cochain x gives to a chain
--   coboundary_at F chains x chain    the alternating sum of x over the chain with one entry left out
--   coboundary_on F chains next x     the coboundary of x
--   mark chains chain                 1 on one chain and 0 on each other
--   alternating_rows F n rows         the alternating sum of rows of n coordinates
--   evaluation F x c                  the cochain x on the chain with coefficients c: the sum of the products
--   boundary_on F chains next c       the boundary of c: at each chain what the coboundary of its mark takes on c
--   IsCochain F space degree x        x has an element for each chain of the degree
--   zeros space degree                the zero cochain
--   coboundary F space degree x       the coboundary of a cochain of a degree
--   boundary F space degree c         the boundary, in this degree, of a chain with coefficients of one degree more
use Rattle.std.specs.Prelude.{ℕ, suc, List, [], ◌∷◌, map, length, cond, replicate}
use Rattle.std.specs.Str.{bytes_eq}
use Rattle.small_field.specs.Field.{Ops}
use Rattle.linear_laws.specs.Vectors.{IsVector, dot, plus_scaled}
use Rattle.face_poset.specs.Poset.{Layers}
use Rattle.order_complex.specs.Chains.{chains_of}

-- a chain with one entry left out, the first entry first
abbrev pub leave_out : List ℕ → List (List ℕ)
leave_out [] = []
leave_out (cell ∷ cells) = cells ∷ map (λ chain. cell ∷ chain) (leave_out cells)

-- the first less the second plus the third and so on
abbrev pub alternating : Ops → List ℕ → ℕ
alternating F [] = 0
alternating F (x ∷ xs) = F.add x (F.neg (alternating F xs))

-- the element that the cochain gives to a chain, where `chains` are those of its degree
abbrev pub value : (chains : List (List ℕ)) → (cochain : List ℕ) → (chain : List ℕ) → ℕ
value [] xs chain = 0
value (c ∷ chains) [] chain = 0
value (c ∷ chains) (x ∷ xs) chain = cond (bytes_eq c chain) x (value chains xs chain)

-- the value of the coboundary on a chain: the alternating sum over the chain with one entry left out
abbrev pub coboundary_at : Ops → (chains : List (List ℕ)) → (cochain : List ℕ) → (chain : List ℕ) → ℕ
coboundary_at F chains xs chain = alternating F (map (value chains xs) (leave_out chain))

-- the coboundary of a cochain on `chains`, on the chains `next` of one degree more
abbrev pub coboundary_on : Ops → (chains next : List (List ℕ)) → List ℕ → List ℕ
coboundary_on F chains next xs = map (coboundary_at F chains xs) next

-- 1 on one chain and 0 on each other
abbrev pub mark : (chains : List (List ℕ)) → (chain : List ℕ) → List ℕ
mark chains chain = map (λ c. cond (bytes_eq c chain) 1 0) chains

-- the first row less the second plus the third and so on, in rows of n coordinates
abbrev pub alternating_rows : Ops → (n : ℕ) → List (List ℕ) → List ℕ
alternating_rows F n [] = replicate n 0
alternating_rows F n (row ∷ rows) = plus_scaled F (F.neg 1) row (alternating_rows F n rows)

-- the value of a cochain on a chain with coefficients: the sum of the products
abbrev pub evaluation : Ops → List ℕ → List ℕ → ℕ
evaluation = dot

-- the boundary of a chain with coefficients on `next`: at each chain what the coboundary of its mark takes on it
abbrev pub boundary_on : Ops → (chains next : List (List ℕ)) → List ℕ → List ℕ
boundary_on F chains next cs = map (λ chain. evaluation F (coboundary_on F chains next (mark chains chain)) cs) chains

-- ---- over a space

abbrev pub IsCochain : Ops → Layers → (degree : ℕ) → List ℕ → Type 0
IsCochain F space degree xs = IsVector F (length (chains_of space degree)) xs

abbrev pub zeros : Layers → (degree : ℕ) → List ℕ
zeros space degree = replicate (length (chains_of space degree)) 0

-- the coboundary of a cochain of a degree
abbrev pub coboundary : Ops → Layers → (degree : ℕ) → List ℕ → List ℕ
coboundary F space degree xs = coboundary_on F (chains_of space degree) (chains_of space (suc degree)) xs

-- the boundary, in this degree, of a chain with coefficients of one degree more
abbrev pub boundary : Ops → Layers → (degree : ℕ) → List ℕ → List ℕ
boundary F space degree cs = boundary_on F (chains_of space degree) (chains_of space (suc degree)) cs
