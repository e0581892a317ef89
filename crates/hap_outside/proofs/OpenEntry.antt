-- The entry of a source in memory that is open, and an entry more behind the others.
use Rattle.std.proofs.Common.{◌≡◌, ◌≢◌, ℕ, zero, suc, ◌+◌, ◌≤◌, ◌<◌, Bool, true, false, List, [], ◌∷◌, ◌++◌, length, length-append, take, drop, min, map, get_or, Some, None, refl, sym, ap, ◌∙◌, subst, arith, if◌then◌else◌}
use Rattle.std.specs.Bool.{Decides}
use Rattle.std.specs.Option.{option_or}
use Rattle.std.proofs.lemmas.Bool.Decides.{Decides-like}
use Rattle.std.proofs.lemmas.List.{drop-drop, drop_all, map-append, length-drop, length-take, take-take, take-append-le, take-append-drop}
use Rattle.std.proofs.lemmas.Slice.Eq.{bytes_eq-Decides}
use Rattle.std.specs.declared.option.Option.{Option}
use Rattle.hap_outside.specs.declared.entries.Entry.{Entry}
use Rattle.hap_outside.specs.Entries.{named_bytes, bytes_at, left_at, IsWithin}
use Rattle.hap_outside.specs.BytesState.{BytesState, NamedBytes, lookup, same_name}

-- the bytes at a place that a list has
pub bytes_at-get : (entries : List Entry) (place : ℕ) (d : Entry) → place < length entries → bytes_at entries place ≡ (get_or entries place d).bytes.items
bytes_at-get [] place d h = absurd (omega arith)
bytes_at-get (e ∷ es) zero d h = refl
bytes_at-get (e ∷ es) (suc place) d h = bytes_at-get es place d (omega arith)

-- an entry more behind the others leaves the bytes before it
pub bytes_at-append : (entries more : List Entry) (place : ℕ) → place < length entries → bytes_at (entries ++ more) place ≡ bytes_at entries place
bytes_at-append [] more place h = absurd (omega arith)
bytes_at-append (e ∷ es) more zero h = refl
bytes_at-append (e ∷ es) more (suc place) h = bytes_at-append es more place (omega arith)

pub left_at-append : (entries more : List Entry) (open_at : Option ℕ) (taken : ℕ) → ((place : ℕ) → open_at ≡ Some place → place < length entries) → left_at open_at taken (entries ++ more) ≡ left_at open_at taken entries
left_at-append entries more None taken h = refl
left_at-append entries more (Some place) taken h = ap (drop taken) (bytes_at-append entries more place (h place refl))

-- the bytes of the open entry, of which no more was taken than it has
pub rest_of_open : (entries : List Entry) (open_at : Option ℕ) (place taken : ℕ) (d : Entry) (bytes : List ℕ) → IsWithin entries open_at taken → open_at ≡ Some place
    → bytes ≡ (get_or entries place d).bytes.items → (taken ≤ length bytes) × (left_at open_at taken entries ≡ drop taken bytes)
rest_of_open entries open_at place taken d bytes h o b =
    let same : bytes_at entries place ≡ bytes = bytes_at-get entries place d (h place o).0 ∙ sym b in
    (subst (λ b. taken ≤ length b) same (h place o).1, ap (λ x. left_at x taken entries) o ∙ ap (drop taken) same)

-- one entry more behind the others
pub within-append : (entries more : List Entry) (open_at : Option ℕ) (taken : ℕ) → IsWithin entries open_at taken → IsWithin (entries ++ more) open_at taken
within-append entries more open_at taken h place o =
    (omega (arith, length-append entries more, (h place o).0), subst (λ b. taken ≤ length b) (sym (bytes_at-append entries more place (h place o).0)) (h place o).1)

pub map_put : (entries new : List Entry) (entry : Entry) (named : NamedBytes) → new ≡ entries ++ entry ∷ [] → named_bytes entry ≡ named → map named_bytes new ≡ map named_bytes entries ++ named ∷ []
map_put entries new entry named e n =
    ap (map named_bytes) e ∙ map-append named_bytes entries (entry ∷ []) ∙ ap (λ x. map named_bytes entries ++ x ∷ []) n

-- taking as many bytes as were left keeps the open entry within
pub within_more : (entries : List Entry) (open_at : Option ℕ) (taken n : ℕ) → n ≤ length (left_at open_at taken entries) → IsWithin entries open_at taken → IsWithin entries open_at (taken + n)
within_more entries None taken n fits h place p = absurd (cc)
within_more entries (Some open_place) taken n fits h place p =
    let same : open_place ≡ place = cc in
    let at = h place p in (
      at.0,
      subst (λ y. taken + n ≤ length (bytes_at entries y)) same
          (omega (arith, length-drop taken (bytes_at entries open_place), (h open_place refl).1)),
    )

-- what is left after more was taken
pub left_at-more : (entries : List Entry) (open_at : Option ℕ) (taken n : ℕ) → left_at open_at (taken + n) entries ≡ drop n (left_at open_at taken entries)
left_at-more entries None taken n = sym (drop_all n [] (omega arith))
left_at-more entries (Some place) taken n = sym (drop-drop n taken (bytes_at entries place))

option_or-none : {A : Type 0} (a : Option A) → option_or a None ≡ a
option_or-none None = refl
option_or-none (Some x) = refl

option_or_assoc : {A : Type 0} (a b c : Option A) → option_or (option_or a b) c ≡ option_or a (option_or b c)
option_or_assoc None b c = refl
option_or_assoc (Some x) b c = refl

pub same_name-Decides : (a b : Option (List ℕ)) → Decides (same_name a b) (a ≡ b)
same_name-Decides None None = (λ t. refl, λ h. refl)
same_name-Decides None (Some b) = (λ t. absurd (cc), λ h. absurd (cc))
same_name-Decides (Some a) None = (λ t. absurd (cc), λ h. absurd (cc))
same_name-Decides (Some a) (Some b) = Decides-like _ (ap Some) (λ h. cc) (bytes_eq-Decides a b)

abbrev under : NamedBytes → Option (List ℕ) → Option (List ℕ)
under entry name = if same_name entry.0 name then Some entry.1 else None

-- an entry behind the others comes before them
lookup-append : (entries : List NamedBytes) (entry : NamedBytes) (name : Option (List ℕ)) → lookup (entries ++ entry ∷ []) name ≡ option_or (under entry name) (lookup entries name)
lookup-append [] entry name = sym (option_or-none (under entry name))
lookup-append (e ∷ es) entry name =
    ap (λ o. option_or o (under e name)) (lookup-append es entry name) ∙ option_or_assoc (under entry name) (lookup es name) (under e name)

-- the bytes that were put last stand under their name
pub lookup_put : (entries : List NamedBytes) (name : Option (List ℕ)) (bytes : List ℕ) → lookup (entries ++ (name, bytes) ∷ []) name ≡ Some bytes
lookup_put entries name bytes =
    lookup-append entries (name, bytes) name
    ∙ ap (λ b. option_or (if b then Some bytes else None) (lookup entries name)) ((same_name-Decides name name).1 refl)

-- and what stands under the other names stays
pub lookup_other : (entries : List NamedBytes) (name other : Option (List ℕ)) (bytes : List ℕ) → other ≢ name → lookup (entries ++ (name, bytes) ∷ []) other ≡ lookup entries other
lookup_other entries name other bytes differs =
    lookup-append entries (name, bytes) other
    ∙ ap (λ b. option_or (if b then Some bytes else None) (lookup entries other)) (not_same (same_name name other) refl)
  where
    not_same : (b : Bool) → b ≡ same_name name other → same_name name other ≡ false
    not_same true h = absurd (differs (sym ((same_name-Decides name other).0 (sym h))))
    not_same false h = sym h

-- what a read says that copied the front of what was left
pub takes_front : (rest buf new left : List ℕ) (n : ℕ) → n ≡ min (length buf) (length rest) → new ≡ take n rest ++ drop n buf → left ≡ drop n rest
    → (rest ≡ take n new ++ left) × (n ≡ 0 → 0 < length new → left ≡ [])
takes_front rest buf new left n count copied after =
    let within : n ≤ length (take n rest) = omega (arith, length-take n rest) in
    let front : take n new ≡ take n rest = ap (take n) copied ∙ take-append-le n (take n rest) (drop n buf) within ∙ take-take n n rest (omega arith) in (
      sym (ap (λ l. l ++ left) front ∙ ap (λ l. take n rest ++ l) after ∙ take-append-drop n rest),
      λ none some. after ∙ drop_all n rest (omega (arith, ap length copied, length-append (take n rest) (drop n buf), length-take n rest, length-drop n buf)),
    )

-- a source into which an entry was put, with what stands under the name and under each other name
pub stands_put : (entries new : List Entry) (entry : Entry) (name : Option (List ℕ)) (bytes : List ℕ) → new ≡ entries ++ entry ∷ [] → named_bytes entry ≡ (name, bytes)
    → lookup (map named_bytes new) name ≡ Some bytes
stands_put entries new entry name bytes e n =
    ap (λ es. lookup es name) (map_put entries new entry (name, bytes) e n) ∙ lookup_put (map named_bytes entries) name bytes

pub others_put : (old : BytesState) (entries new : List Entry) (entry : Entry) (name : Option (List ℕ)) (bytes : List ℕ) → new ≡ entries ++ entry ∷ [] → named_bytes entry ≡ (name, bytes)
    → map named_bytes entries ≡ old.entries → (other : Option (List ℕ)) → other ≢ name → lookup (map named_bytes new) other ≡ lookup old.entries other
others_put old entries new entry name bytes e n was other differs =
    ap (λ es. lookup es other) (map_put entries new entry (name, bytes) e n) ∙ lookup_other (map named_bytes entries) name other bytes differs ∙ ap (λ es. lookup es other) was

abbrev state : List ℕ → ℕ → ℕ → Bool → List NamedBytes → List ℕ → BytesState
state listed calls faults begun entries rest = record { entries = entries; listed = listed; calls = calls; faults = faults; begun = begun; rest = rest }

-- what the source is then
pub state_put : (old : BytesState) (entries new : List Entry) (entry : Entry) (named : NamedBytes) (open_at : Option ℕ) (taken : ℕ) (listed : List ℕ) (calls faults : ℕ) (begun : Bool)
    → new ≡ entries ++ entry ∷ [] → named_bytes entry ≡ named → IsWithin entries open_at taken
    → state listed calls faults begun (map named_bytes entries) (left_at open_at taken entries) ≡ old
    → state listed calls faults begun (map named_bytes new) (left_at open_at taken new) ≡ record old { entries = old.entries ++ named ∷ [] }
state_put old entries new entry named open_at taken listed calls faults begun e n h was =
    let is = state listed calls faults begun in
    subst (λ (was : BytesState). is (map named_bytes new) (left_at open_at taken new) ≡ record was { entries = was.entries ++ named ∷ [] }) was
    (ap (λ es. is es (left_at open_at taken new)) (map_put entries new entry named e n)
    ∙ ap (is (map named_bytes entries ++ named ∷ [])) (ap (left_at open_at taken) e ∙ left_at-append entries (entry ∷ []) open_at taken (λ place o. (h place o).0)))
