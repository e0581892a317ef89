-- A split sorts the cells of each degree into critical ones, lowers and uppers. (Discrete Morse theory; R. Forman.)
-- ts is the list of the kinds of the cells of a degree, xs and ys lists with a value for each cell.
--   criticals ts             how many critical cells there are
--   lowers ts, uppers ts     how many lowers, and how many uppers
--   part ts xs               the values on critical cells, in their order
--   spread ts w              the values w for critical cells, and zero elsewhere
--   ZeroOnUppers ts xs       zero on uppers
--   ZeroOnLowers ts xs       zero on lowers
--   ZeroOffLowers ts xs      zero but on lowers
--   ZeroOffUppers ts xs      zero but on uppers
--   AgreeOnLowers ts xs ys   equal on lowers
--   AgreeOnUppers ts xs ys   equal on uppers
--   HasNoUpper ts            no cell is an upper
use Rattle.std.specs.Prelude.{◌≡◌, ⊤, ℕ, suc, List, [], ◌∷◌}
pub use Rattle.split_laws.specs.declared.kind.Kind.{Kind}
pub use Rattle.split_laws.specs.declared.kind.Kind.TheVariants.{Critical, Lower, Upper}

abbrev pub criticals : List Kind → ℕ
criticals [] = 0
criticals (Critical ∷ ts) = suc (criticals ts)
criticals (Lower ∷ ts) = criticals ts
criticals (Upper ∷ ts) = criticals ts

abbrev pub lowers : List Kind → ℕ
lowers [] = 0
lowers (Critical ∷ ts) = lowers ts
lowers (Lower ∷ ts) = suc (lowers ts)
lowers (Upper ∷ ts) = lowers ts

abbrev pub uppers : List Kind → ℕ
uppers [] = 0
uppers (Critical ∷ ts) = uppers ts
uppers (Lower ∷ ts) = uppers ts
uppers (Upper ∷ ts) = suc (uppers ts)

abbrev pub part : List Kind → List ℕ → List ℕ
part [] xs = []
part (t ∷ ts) [] = []
part (Critical ∷ ts) (x ∷ xs) = x ∷ part ts xs
part (Lower ∷ ts) (x ∷ xs) = part ts xs
part (Upper ∷ ts) (x ∷ xs) = part ts xs

abbrev pub ZeroOnUppers : List Kind → List ℕ → Type 0
ZeroOnUppers [] xs = xs ≡ []
ZeroOnUppers (t ∷ ts) [] = ⊥
ZeroOnUppers (Critical ∷ ts) (x ∷ xs) = ZeroOnUppers ts xs
ZeroOnUppers (Lower ∷ ts) (x ∷ xs) = ZeroOnUppers ts xs
ZeroOnUppers (Upper ∷ ts) (x ∷ xs) = (x ≡ 0) × ZeroOnUppers ts xs

abbrev pub ZeroOnLowers : List Kind → List ℕ → Type 0
ZeroOnLowers [] xs = xs ≡ []
ZeroOnLowers (t ∷ ts) [] = ⊥
ZeroOnLowers (Critical ∷ ts) (x ∷ xs) = ZeroOnLowers ts xs
ZeroOnLowers (Lower ∷ ts) (x ∷ xs) = (x ≡ 0) × ZeroOnLowers ts xs
ZeroOnLowers (Upper ∷ ts) (x ∷ xs) = ZeroOnLowers ts xs

abbrev pub ZeroOffLowers : List Kind → List ℕ → Type 0
ZeroOffLowers [] xs = xs ≡ []
ZeroOffLowers (t ∷ ts) [] = ⊥
ZeroOffLowers (Critical ∷ ts) (x ∷ xs) = (x ≡ 0) × ZeroOffLowers ts xs
ZeroOffLowers (Lower ∷ ts) (x ∷ xs) = ZeroOffLowers ts xs
ZeroOffLowers (Upper ∷ ts) (x ∷ xs) = (x ≡ 0) × ZeroOffLowers ts xs

abbrev pub ZeroOffUppers : List Kind → List ℕ → Type 0
ZeroOffUppers [] xs = xs ≡ []
ZeroOffUppers (t ∷ ts) [] = ⊥
ZeroOffUppers (Critical ∷ ts) (x ∷ xs) = (x ≡ 0) × ZeroOffUppers ts xs
ZeroOffUppers (Lower ∷ ts) (x ∷ xs) = (x ≡ 0) × ZeroOffUppers ts xs
ZeroOffUppers (Upper ∷ ts) (x ∷ xs) = ZeroOffUppers ts xs

abbrev pub AgreeOnLowers : List Kind → List ℕ → List ℕ → Type 0
AgreeOnLowers [] xs ys = ⊤
AgreeOnLowers (t ∷ ts) [] ys = ⊥
AgreeOnLowers (t ∷ ts) (x ∷ xs) [] = ⊥
AgreeOnLowers (Critical ∷ ts) (x ∷ xs) (y ∷ ys) = AgreeOnLowers ts xs ys
AgreeOnLowers (Lower ∷ ts) (x ∷ xs) (y ∷ ys) = (x ≡ y) × AgreeOnLowers ts xs ys
AgreeOnLowers (Upper ∷ ts) (x ∷ xs) (y ∷ ys) = AgreeOnLowers ts xs ys

abbrev pub AgreeOnUppers : List Kind → List ℕ → List ℕ → Type 0
AgreeOnUppers [] xs ys = ⊤
AgreeOnUppers (t ∷ ts) [] ys = ⊥
AgreeOnUppers (t ∷ ts) (x ∷ xs) [] = ⊥
AgreeOnUppers (Critical ∷ ts) (x ∷ xs) (y ∷ ys) = AgreeOnUppers ts xs ys
AgreeOnUppers (Lower ∷ ts) (x ∷ xs) (y ∷ ys) = AgreeOnUppers ts xs ys
AgreeOnUppers (Upper ∷ ts) (x ∷ xs) (y ∷ ys) = (x ≡ y) × AgreeOnUppers ts xs ys

abbrev pub spread : List Kind → List ℕ → List ℕ
spread [] w = []
spread (Critical ∷ ts) [] = 0 ∷ spread ts []
spread (Critical ∷ ts) (x ∷ w) = x ∷ spread ts w
spread (Lower ∷ ts) w = 0 ∷ spread ts w
spread (Upper ∷ ts) w = 0 ∷ spread ts w

abbrev pub HasNoUpper : List Kind → Type 0
HasNoUpper [] = ⊤
HasNoUpper (Critical ∷ ts) = HasNoUpper ts
HasNoUpper (Lower ∷ ts) = HasNoUpper ts
HasNoUpper (Upper ∷ ts) = ⊥
