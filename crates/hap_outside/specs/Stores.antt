-- The bytes that a source has under names. A name is None for standard input; what is not told is None.
--   Store                          the bytes under each name, where there are any
--   bytes_under store name         the bytes that a told store has under a name
--   Opens store name left result   a begin that succeeded found an entry under the name, and the bytes of that entry are left
--   left_once begun rest           the rest is left once the source is begun, and nothing before
--   none_before begun rest         so nothing is left before
use Rattle.std.specs.Prelude.{◌≡◌, ℕ, Bool, true, false, List, [], ⊤, Result, OnOk, IsSome, refl}
use Rattle.std.proofs.Common.{sym, subst}
use Rattle.std.specs.declared.option.Option.{Option}
use Rattle.std.specs.declared.option.Option.TheVariants.{Some, None}

abbrev pub Store : Type 0
Store = Option (List ℕ) → Option (List ℕ)

abbrev pub bytes_under : Option Store → Option (List ℕ) → Option (List ℕ)
bytes_under None name = None
bytes_under (Some store) name = store name

abbrev pub Opens : {T E : Type 0} → Option Store → Option (List ℕ) → Option (List ℕ) → Result T E → Type 0
Opens None name left result = ⊤
Opens (Some store) name left result = OnOk result (IsSome (store name) × (left ≡ store name))

abbrev pub left_once : Bool → List ℕ → List ℕ
left_once true rest = rest
left_once false rest = []

pub none_before : (begun : Bool) (rest : List ℕ) → begun ≡ false → left_once begun rest ≡ []
none_before begun rest h = subst (λ b. left_once b rest ≡ []) (sym h) refl
