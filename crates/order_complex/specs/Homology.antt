-- Cocycles modulo coboundaries, their bases, and Betti numbers. (Simplicial cohomology with coefficients in a field; textbook.)
-- `F` is the arithmetic of a field, `degree` is from 0 on.
--   IsCocycle F space degree z       z is a cochain with coboundary zero
--   IsCoboundary F space degree b    b is the coboundary of a cochain of one degree less; in degree 0 only zero
--   IsClass F space degree zs cs z   z is the combination of the cocycles zs with coefficients cs, plus a coboundary
--   IsBasis F space degree zs        cocycles of which each cocycle is a combination plus a coboundary in exactly one way
--   IsBetti F space degree n         a basis has n members
use Rattle.std.specs.Prelude.{◌≡◌, ℕ, zero, suc, List, length}
use Rattle.std.specs.List.{AllByRecursion}
use Rattle.small_field.specs.Field.{Ops}
use Rattle.linear_laws.specs.Vectors.{IsVector, combination, plus_scaled}
use Rattle.face_poset.specs.Poset.{Layers}
use Rattle.order_complex.specs.Chains.{chains_of}
use Rattle.order_complex.specs.Cochains.{IsCochain, zeros, coboundary}

-- a cochain whose coboundary is zero
pub record IsCocycle (F : Ops) (space : Layers) (degree : ℕ) (z : List ℕ) : Type 0 where
  pub cochain : IsCochain F space degree z
  pub closed : coboundary F space degree z ≡ zeros space (suc degree)

-- the coboundary of a cochain of one degree less; in degree 0 only zero
abbrev pub IsCoboundary : Ops → Layers → (degree : ℕ) → List ℕ → Type 0
IsCoboundary F space zero b = b ≡ zeros space 0
IsCoboundary F space (suc degree) b = (y : List ℕ) × IsCochain F space degree y × (coboundary F space degree y ≡ b)

-- z is the combination of the cocycles zs with these coefficients plus a coboundary
pub record IsClass (F : Ops) (space : Layers) (degree : ℕ) (zs : List (List ℕ)) (coefficients z : List ℕ) : Type 0 where
  pub elements : IsVector F (length zs) coefficients
  pub rest : List ℕ
  pub coboundary : IsCoboundary F space degree rest
  pub is_sum : z ≡ plus_scaled F 1 rest (combination F (length (chains_of space degree)) coefficients zs)

-- cocycles of which each cocycle is a combination plus a coboundary, with unique coefficients
pub record IsBasis (F : Ops) (space : Layers) (degree : ℕ) (zs : List (List ℕ)) : Type 0 where
  pub cocycles : AllByRecursion (IsCocycle F space degree) zs
  pub spans : (z : List ℕ) → IsCocycle F space degree z → (cs : List ℕ) × IsClass F space degree zs cs z
  pub unique : (z cs ds : List ℕ) → IsClass F space degree zs cs z → IsClass F space degree zs ds z → cs ≡ ds

-- the length of a basis
abbrev pub IsBetti : Ops → Layers → (degree betti : ℕ) → Type 0
IsBetti F space degree betti = (zs : List (List ℕ)) × IsBasis F space degree zs × (length zs ≡ betti)
