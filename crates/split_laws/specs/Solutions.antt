-- Extension, flow and clearing, each as linear conditions. `rows` are those of the coboundary from n cells of the kinds `ts` to m
-- cells of the kinds `us`. F is the arithmetic of a field.
--   IsExtension F n m rows ts us w x       the cochain x is w on critical cells and zero on uppers, and its coboundary is zero on uppers
--   AreExtensions F n m rows ts us ws xs   each of the cochains xs is the extension of one of the ws, in their order
--   IsFlow F n m rows ts us c z            the chain z, on the m cells, is c on critical cells and zero on lowers, and its boundary is zero
--                                          on lowers
--   AreFlows F n m rows ts us cs zs        each of the chains zs is the flow of one of the cs, in their order
--   without F m rows x y                   the cochain x, on the m cells, less the coboundary of y
--   IsCleared F n m rows ts us x w y       the cochain y is zero but on lowers, and x less the coboundary of y is zero on uppers and w on
--                                          critical cells
--   IsReducedBy F n m rows ts us reduced   a row for each critical cell: the coboundary of the extension that is 1 there and 0 on the other
--                                          critical cells, at the critical cells above
use Rattle.std.specs.Prelude.{◌≡◌, ⊤, ℕ, ◌<◌, List, [], ◌∷◌, length}
use Rattle.small_field.specs.Field.{Ops}
use Rattle.linear_laws.specs.Marks.{mark}
use Rattle.linear_laws.specs.Vectors.{boundary, combination, plus_scaled, row_at, IsVector, IsMatrix}
use Rattle.split_laws.specs.Kinds.{Kind, criticals, part, ZeroOnUppers, ZeroOnLowers, ZeroOffLowers}

pub record IsExtension (F : Ops) (n m : ℕ) (rows : List (List ℕ)) (ts us : List Kind) (w x : List ℕ) : Type 0 where
  pub vector : IsVector F n x
  pub own : part ts x ≡ w
  pub none : ZeroOnUppers ts x
  pub closed : ZeroOnUppers us (combination F m x rows)

abbrev pub AreExtensions : Ops → (n m : ℕ) → (rows : List (List ℕ)) → (ts us : List Kind) → (ws xs : List (List ℕ)) → Type 0
AreExtensions F n m rows ts us [] [] = ⊤
AreExtensions F n m rows ts us [] (x ∷ xs) = ⊥
AreExtensions F n m rows ts us (w ∷ ws) [] = ⊥
AreExtensions F n m rows ts us (w ∷ ws) (x ∷ xs) = IsExtension F n m rows ts us w x × AreExtensions F n m rows ts us ws xs

pub record IsFlow (F : Ops) (n m : ℕ) (rows : List (List ℕ)) (ts us : List Kind) (c z : List ℕ) : Type 0 where
  pub vector : IsVector F m z
  pub own : part us z ≡ c
  pub none : ZeroOnLowers us z
  pub closed : ZeroOnLowers ts (boundary F rows z)

abbrev pub AreFlows : Ops → (n m : ℕ) → (rows : List (List ℕ)) → (ts us : List Kind) → (cs zs : List (List ℕ)) → Type 0
AreFlows F n m rows ts us [] [] = ⊤
AreFlows F n m rows ts us [] (z ∷ zs) = ⊥
AreFlows F n m rows ts us (c ∷ cs) [] = ⊥
AreFlows F n m rows ts us (c ∷ cs) (z ∷ zs) = IsFlow F n m rows ts us c z × AreFlows F n m rows ts us cs zs

abbrev pub without : Ops → (m : ℕ) → (rows : List (List ℕ)) → (x y : List ℕ) → List ℕ
without F m rows x y = plus_scaled F (F.neg 1) x (combination F m y rows)

pub record IsCleared (F : Ops) (n m : ℕ) (rows : List (List ℕ)) (ts us : List Kind) (x w y : List ℕ) : Type 0 where
  pub vector : IsVector F n y
  pub only : ZeroOffLowers ts y
  pub none : ZeroOnUppers us (without F m rows x y)
  pub rest : part us (without F m rows x y) ≡ w

pub record IsReducedBy (F : Ops) (n m : ℕ) (rows : List (List ℕ)) (ts us : List Kind) (reduced : List (List ℕ)) : Type 0 where
  pub matrix : IsMatrix F (criticals us) reduced
  pub long : length reduced ≡ criticals ts
  pub each : (i : ℕ) (x : List ℕ) → i < criticals ts → IsExtension F n m rows ts us (mark (criticals ts) i) x → row_at reduced i ≡ part us (combination F m x rows)
