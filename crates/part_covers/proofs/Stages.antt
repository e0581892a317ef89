-- From the calls that make a cover to the stages that they stand for.
use Rattle.std.proofs.Common.{◌≡◌, ℕ, zero, suc, ◌-◌, ◌*◌, ◌<◌, ◌≤◌, List, [], ◌∷◌, length, take, filter, Result, Ok, Err, Option, None, refl, ap, sym, ◌∙◌, subst, arith, Bool, true, false, inl, inr}
use Rattle.std.specs.Prelude.{nat_lt, nat_le, if◌then◌else◌, IfOk}
use Rattle.std.specs.List.{flat_map}
use Rattle.std.proofs.lemmas.Bool.{ltb-true, ltb-false, le-ltb}
use Rattle.number_lists.specs.Members.{In, here, there}
use Rattle.number_lists.proofs.CallerLemmas.{flat_map-In, map-In, In-inside, In-cases}
use Rattle.face_poset.specs.declared.cells.Cell.{Cell}
use Rattle.face_poset.specs.Poset.{Layers, cell_count}
use Rattle.regular_check.specs.Components.{component_count}
use Rattle.live_laws.specs.Trees.{from, beyond}
use Rattle.live_laws.specs.Live.{Relations, Position, is_live, live_of, live, comes_after}
use Rattle.edge_words.specs.declared.fault.WordFault.{WordFault}
use Rattle.edge_words.specs.declared.fault.WordFault.TheVariants as in_words
use Rattle.edge_words.specs.Limits as limits
use Rattle.edge_words.specs.Words.{Presented, presentation_of}
use Rattle.edge_words.specs.Labels.{Labelled, labels_of}
use Rattle.edge_words.specs.Laws.{LabelsAreTheLift}
use Rattle.sheet_tables.specs.Tables.{Rows}
use Rattle.sheet_laws.specs.Lifts.{columns_of, is_cover}
use Rattle.part_groups.specs.Groups.{GroupPiece, field_in, group_by, long_in}
use Rattle.space_parts.specs.Parts.{part_of}
use Rattle.face_poset.specs.Poset.{IsSpace}
use Rattle.regular_check.specs.Rules.{IsRegular}
use Rattle.sheet_tables.specs.Spots.{Mark}
use Rattle.space_parts.specs.Laws.{IsWhole}
use Rattle.chosen_field.specs.Chosen.{chosen}
use Rattle.chosen_field.specs.Laws.{ChosenIsGood}
use Rattle.cover_laws.specs.Covers.{relations_at}
use Rattle.cover_laws.specs.Laws.{ListedAreCovers}
use Rattle.cover_space.specs.Total.{total_of, IsTooLarge}
use Rattle.cover_search.specs.Searches.{Searching, begun, last_of}
use Rattle.cover_listing.specs.Nths.{found, nth_of, IsNth}
use Rattle.cover_listing.specs.declared.nth.Nth.{Nth}
use Rattle.cover_listing.specs.declared.nth.Nth.TheVariants as nth
use Rattle.cover_space.specs.declared.fault.TotalFault.{TotalFault}
use Rattle.cover_space.specs.declared.fault.TotalFault.TheVariants as in_total
use Rattle.part_covers.specs.declared.wanted.Wanted.{Wanted}
use Rattle.part_covers.specs.declared.fault.CoverFault.{CoverFault}
use Rattle.part_covers.specs.declared.fault.CoverFault.TheVariants.{Components, Word, Spent, Index, TotalCells, Memory}
use Rattle.part_covers.specs.Faults.{HasFault, bare, word_fault, total_fault}
use Rattle.part_covers.specs.Covered.{Covering, IsWanted, IsGiven, IsNumbered, NumberedAreCovers, covering_in, covering_there, covering_on, covering_of, total_at, total_stage, with_total, with_table, table_of, table_stage, lift_on, unless_long, IsTotal, is_large}
use Rattle.part_covers.proofs.Found.{HasCover, found-cover, found-full, same-columns, cover-parts}
use Rattle.part_covers.proofs.Numbered.{found-within, past-nth}

-- ---- the spot where the budget is spent

-- the numbers from a on are not less
from-least : (a n k : ℕ) → In k (from a n) → a ≤ k
from-least a zero k h = elim h [ ]
from-least a (suc n) k h = elim (In-cases h) [ inl e ↦ omega (arith, e) | inr j ↦ (let r = from-least (suc a) n k j in omega (arith, r)) ]

-- a live partial table has a sheet
live-sheet : (P : Relations) (n : ℕ) (t q : Position) → In q (live P n t) → 1 ≤ q.0
live-sheet P n t q h =
    let f = flat_map-In (live_of P) (from 1 n) (In-inside (comes_after t) (flat_map (live_of P) (from 1 n)) h) in
    let g = map-In (λ (p : List ℕ). (f.0, p)) (filter (is_live P f.0) (beyond f.0 (f.0 * P.generators) [])) f.2 in
    subst (λ (x : Position). 1 ≤ x.0) (sym g.2) (from-least 1 n f.0 f.1)

-- the last of some of these is one of them
last-sheet : (t q : Position) (qs : List Position) → 1 ≤ q.0 → ((x : Position) → In x qs → 1 ≤ x.0) → 1 ≤ (last_of t (q ∷ qs)).0
last-sheet t q [] l h = l
last-sheet t q (x ∷ qs) l h = last-sheet q x qs (h x here) (λ y i. h y (there i))

taken : (B : ℕ) (t : Position) (qs : List Position) → 1 ≤ B → 1 ≤ length qs → ((x : Position) → In x qs → 1 ≤ x.0) → 1 ≤ (last_of t (take B qs)).0
taken zero t qs some long h = absurd (omega (arith, some))
taken (suc B) t [] some long h = absurd (omega (arith, long))
taken (suc B) t (q ∷ qs) some long h = last-sheet t q (take B qs) (h q here) (λ x i. h x (there (In-take B qs x i)))
  where
    In-take : (B : ℕ) (qs : List Position) (x : Position) → In x (take B qs) → In x qs
    In-take zero qs x i = elim i [ ]
    In-take (suc B) [] x i = elim i [ ]
    In-take (suc B) (q ∷ qs) x i = elim (In-cases i) [ inl e ↦ subst (λ (y : Position). In y (q ∷ qs)) (sym e) here | inr j ↦ there (In-take B qs x j) ]

spent-long : (a b : Bool) (x : ℕ) → (if a then nth.Found else if b then nth.Spent else nth.Only x) ≡ nth.Spent → b ≡ true
spent-long true b x e = absurd (grind (arith, e))
spent-long false true x e = refl
spent-long false false x e = absurd (grind (arith, e))

pub spent-sheet : (P : Relations) (n B index : ℕ) → 1 ≤ B → nth_of P n (0, []) B index ≡ nth.Spent → 1 ≤ (last_of (0, []) (take B (live P n (0, [])))).0
spent-sheet P n B index some e =
    let more : B < length (live P n (0, [])) =
    ltb-true B (length (live P n (0, []))) (spent-long (nat_le index (length (found P n (0, []) B))) (nat_lt B (length (live P n (0, [])))) (length (found P n (0, []) B)) e) in
    taken B (0, []) (live P n (0, [])) some (omega (arith, more)) (live-sheet P n (0, []))

-- ---- the table with the number

module _ (P : Relations) (w : Wanted) (old new : Searching) (e : old ≡ begun P w.sheets (0, [])) where
  -- the search for it began at the start
  from-start : (x : Nth) → IsNth old new w.budget w.index x → IsNth (begun P w.sheets (0, [])) new w.budget w.index x
  from-start x h = subst (λ (s : Searching). IsNth s new w.budget w.index x) e h

  pub found_stage : IsNth old new w.budget w.index nth.Found → table_stage P w ≡ Ok new.table
  found_stage h = let b = from-start nth.Found h in ap (table_of P w) (sym b.is) ∙ ap Ok (sym (b.table refl))

  pub found_range : 1 ≤ w.index → IsNth old new w.budget w.index nth.Found → w.index - 1 < length (found P w.sheets (0, []) w.budget)
  found_range low h = found-within P w.sheets w.budget w.index low (sym (from-start nth.Found h).is)

  pub only_stage : (count : ℕ) → IsNth old new w.budget w.index (nth.Only count) → table_stage P w ≡ Err (Index count)
  only_stage count h = let b = from-start (nth.Only count) h in ap (table_of P w) (sym b.is)

  pub spent_stage : (p : Position) → p ≡ new.position → IsNth old new w.budget w.index nth.Spent
      → table_stage P w ≡ Err (Spent (record { component = w.component; sheets = p.0; cells = p.1; room = 0 }))
  spent_stage p is h =
      let b = from-start nth.Spent h in
      ap (table_of P w) (sym b.is)
      ∙ ap (λ (q : Position). let m : Mark = record { component = w.component; sheets = q.0; cells = q.1; room = 0 } in Err (Spent m)) (sym (is ∙ b.position refl))

  pub spent_sheet : (p : Position) → p ≡ new.position → 1 ≤ w.budget → IsNth old new w.budget w.index nth.Spent → 1 ≤ p.0
  spent_sheet p is some h =
      let b = from-start nth.Spent h in
      subst (λ (q : Position). 1 ≤ q.0) (sym (is ∙ b.position refl)) (spent-sheet P w.sheets w.budget w.index some (sym b.is))

-- the table of a search has a column for each generator
pub found_columns : (P : Relations) (w : Wanted) (t : Position) (columns : ℕ) → 1 ≤ w.index → table_stage P w ≡ Ok t → 1 ≤ t.0 → length t.1 ≡ t.0 * columns → columns ≡ P.generators
found_columns P w t columns low e some long =
    let n = past-nth P w (nth_of P w.sheets (0, []) w.budget w.index) t e in
    let within = found-within P w.sheets w.budget w.index low n.0 in
    let full : length t.1 ≡ t.0 * P.generators = subst (λ (q : Position). length q.1 ≡ q.0 * P.generators) (sym n.1) (found-full P w.sheets w.budget (w.index - 1) within) in
    same-columns t.0 columns P.generators (length t.1) some long full

-- and is a cover of the part
pub found_is_cover : ListedAreCovers → ChosenIsGood → (part : Layers) (w : Wanted) (t : Position) → IsWhole part → IsWanted w → table_stage (relations_at part (chosen part)) w ≡ Ok t → HasCover part (chosen part) t
found_is_cover laws good part w t whole ranges e =
    let P : Relations = relations_at part (chosen part) in
    let n = past-nth P w (nth_of P w.sheets (0, []) w.budget w.index) t e in
    let within = found-within P w.sheets w.budget w.index ranges.first_index n.0 in
    subst (HasCover part (chosen part)) (sym n.1) (found-cover laws good part w.sheets w.budget (w.index - 1) whole ranges.least_sheets within)

-- ---- labels and total spaces

-- where the words lead through the table of a cover is its lift
pub labels_lift : LabelsAreTheLift → ChosenIsGood → (part : Layers) (p : Presented) (t : Rows) → IsWhole part → p ≡ presentation_of part (chosen part)
    → t.columns ≡ columns_of part (chosen part) → is_cover part (chosen part) (t.sheets, t.cells) ≡ true → labels_of t.columns t.sheets t.cells p.words ≡ lift_on part t.sheets t.cells
labels_lift lifts good part p t whole words columns cover =
    let field = good part (record { valid = whole.valid; regular = whole.regular; one = whole.one }) in
    ap (λ (k : ℕ). labels_of k t.sheets t.cells p.words) columns
    ∙ (ap (λ (q : Presented). labels_of (columns_of part (chosen part)) t.sheets t.cells q.words) words
    ∙ lifts part (chosen part) t.sheets t.cells whole.valid whole.regular field.valid (cover-parts part (chosen part) t.sheets t.cells cover).table)

pub total_stage_of : (part regular : Layers) (labels : Labelled) (r : Result Layers TotalFault) → regular ≡ part
    → IfOk r (λ s. s ≡ total_of regular labels.sheets labels.labels) → (IsTooLarge regular labels.sheets → r ≡ Err in_total.TooManyCells) → (r ≡ Err in_total.TooManyCells → IsTooLarge regular labels.sheets)
    → IsTotal part labels r
total_stage_of part regular labels (Ok total) e ok large only = (small (is_large part labels.sheets) refl, ok ∙ ap (λ (s : Layers). total_of s labels.sheets labels.labels) e)
  where
    small : (b : Bool) → is_large part labels.sheets ≡ b → is_large part labels.sheets ≡ false
    small true f = absurd (let bad : Ok total ≡ Err in_total.TooManyCells = large (subst (λ (s : Layers). IsTooLarge s labels.sheets) (sym e) (ltb-true 60000 (labels.sheets * cell_count part) f)) in cc)
    small false f = f
total_stage_of part regular labels (Err in_total.TooManyCells) e ok large only = less (is_large part labels.sheets) refl
  where
    many : 60000 < labels.sheets * cell_count part
    many = subst (λ (s : Layers). IsTooLarge s labels.sheets) e (only refl)

    less : (b : Bool) → is_large part labels.sheets ≡ b → is_large part labels.sheets ≡ true
    less true f = f
    less false f = let few : labels.sheets * cell_count part ≤ 60000 = ltb-false 60000 (labels.sheets * cell_count part) f in absurd (omega (arith, few, many))
total_stage_of part regular labels (Err in_total.Memory) e ok large only = tt

-- the total space of the lift
pub total_given : (part : Layers) (t : Position) (labels : Labelled) (total : Layers) → labels.sheets ≡ t.0 → labels.labels ≡ lift_on part t.0 t.1 → IsTotal part labels (Ok total)
    → with_total part t (total_stage part t) ≡ Ok (covering_of part t total)
total_given part t labels total m u h =
    let small : is_large part t.0 ≡ false = ap (is_large part) (sym m) ∙ h.0 in
    let is : total ≡ total_at part t = h.1 ∙ (ap (λ (k : ℕ). total_of part k labels.labels) m ∙ ap (total_of part t.0) u) in
    ap (λ b. with_total part t (if b then Err TotalCells else Ok (total_at part t))) small
    ∙ ap (λ (s : Layers). let c : Result Covering CoverFault = Ok (covering_of part t s) in c) (sym is)

-- ---- faults

-- a fault of one stage is that of the stages after it
pub past-fault : {A B : Type 0} (next : Result A CoverFault → Result B CoverFault) → ((fault : CoverFault) → next (Err fault) ≡ Err fault) → (stage : Result A CoverFault) (fault : CoverFault) → HasFault stage fault → HasFault (next stage) fault
past-fault next keeps stage (Components n) h = ap next h ∙ keeps (Components n)
past-fault next keeps stage (Word cell) h = ap next h ∙ keeps (Word cell)
past-fault next keeps stage (Spent spot) h = ap next h ∙ keeps (bare (Spent spot))
past-fault next keeps stage (Index n) h = ap next h ∙ keeps (Index n)
past-fault next keeps stage TotalCells h = ap next h ∙ keeps TotalCells
past-fault next keeps stage Memory h = tt

pub table-fault : (part : Layers) (stage : Result Position CoverFault) (fault : CoverFault) → HasFault stage fault → HasFault (with_table part stage) fault
table-fault part stage fault h = past-fault (with_table part) (λ f. refl) stage fault h

-- a word that is too long
pub word-given : (o : Option Cell) (r : Result Covering CoverFault) (fault : WordFault) → limits.IsFault o fault → HasFault (unless_long o r) (word_fault fault)
word-given o r in_words.Memory h = tt
word-given o r (in_words.TooLong cell) h = ap (λ (x : Option Cell). unless_long x r) h

-- too many cells
pub total-fault : (part : Layers) (t : Position) (labels : Labelled) (fault : TotalFault) → labels.sheets ≡ t.0 → IsTotal part labels (Err fault) → HasFault (with_total part t (total_stage part t)) (total_fault fault)
total-fault part t labels in_total.Memory e h = tt
total-fault part t labels in_total.TooManyCells e h =
    ap (λ b. with_total part t (if b then Err TotalCells else Ok (total_at part t))) (ap (is_large part) (sym e) ∙ h)

-- ---- the stages one after another

-- the part of a component has the presentation along its chosen field
pub group_presented : (space : Layers) (number : ℕ) (g : GroupPiece) → g ≡ group_by (field_in space number) → g.presentation ≡ presentation_of g.piece.space (chosen g.piece.space)
group_presented space number g e = subst (λ (x : GroupPiece). x.presentation ≡ presentation_of x.piece.space (chosen x.piece.space)) (sym e) refl

pub group_part : (space : Layers) (number : ℕ) (g : GroupPiece) → g ≡ group_by (field_in space number) → g.piece.space ≡ part_of space number
group_part space number g e = ap (λ (x : GroupPiece). x.piece.space) e

-- no word is too long
pub worded_given : (space part : Layers) (w : Wanted) (r : Result Covering CoverFault) → part ≡ part_of space w.component → long_in space w.component ≡ None → IsGiven (covering_on part w) r → IsGiven (covering_there space w) r
worded_given space part w r e none h =
    subst (λ (o : Option Cell). IsGiven (unless_long o (covering_on (part_of space w.component) w)) r) (sym none) (subst (λ (s : Layers). IsGiven (covering_on s w) r) e h)

-- there is such a component
pub there_given : (space : Layers) (w : Wanted) (r : Result Covering CoverFault) → w.component ≤ component_count space → IsGiven (covering_there space w) r → IsGiven (covering_in space w) r
there_given space w r last h =
    subst (λ b. IsGiven (if b then Err (Components (component_count space)) else covering_there space w) r) (sym (le-ltb (component_count space) w.component last)) h

-- and the cover is the one with the number
pub given_numbered : NumberedAreCovers → (space : Layers) (w : Wanted) (r : Result Covering CoverFault) → IsSpace space → IsRegular space → IsWanted w → IsGiven (covering_in space w) r → IfOk r (IsNumbered space w)
given_numbered law space w (Ok c) valid regular ranges h = law space w c valid regular ranges h
given_numbered law space w (Err fault) valid regular ranges h = tt
