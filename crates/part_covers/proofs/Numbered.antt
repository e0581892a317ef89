-- The cover with a number has the table with this number among the covers, and a regular total space with one component.
use Rattle.std.proofs.Common.{◌≡◌, ℕ, ◌-◌, ◌*◌, ◌<◌, ◌≤◌, [], length, get_or, Result, Ok, Err, Option, Some, None, refl, ap, sym, ◌∙◌, subst, arith, Bool, true, false}
use Rattle.std.specs.Prelude.{nat_lt, nat_le, if◌then◌else◌}
use Rattle.std.proofs.lemmas.Bool.{leb-true, ltb-false}
use Rattle.face_poset.specs.declared.cells.Cell.{Cell}
use Rattle.face_poset.specs.Poset.{Layers, cell_count}
use Rattle.regular_check.specs.Rules.{IsRegular}
use Rattle.regular_check.specs.Components.{component_count}
use Rattle.space_parts.specs.Parts.{part_of}
use Rattle.space_parts.specs.Laws.{IsWhole, PartsAreRegular}
use Rattle.sheet_laws.specs.Labellings.{IsConnected, ConnectedIsExact}
use Rattle.live_laws.specs.Live.{Relations, Position, live}
use Rattle.chosen_field.specs.Chosen.{chosen}
use Rattle.chosen_field.specs.Laws.{ChosenIsGood}
use Rattle.edge_words.proofs.CallerLemmas.{labelling-parts}
use Rattle.part_groups.specs.Groups.{long_in}
use Rattle.cover_laws.specs.Covers.{relations_at}
use Rattle.cover_laws.specs.Laws.{ListedAreCovers}
use Rattle.cover_listing.specs.Nths.{found, nth_of}
use Rattle.cover_listing.specs.declared.nth.Nth.{Nth}
use Rattle.cover_listing.specs.declared.nth.Nth.TheVariants as nth
use Rattle.cover_space.specs.Laws.{TotalIsRegular, TotalHasComponents}
use Rattle.part_covers.specs.declared.wanted.Wanted.{Wanted}
use Rattle.part_covers.specs.declared.fault.CoverFault.{CoverFault}
use Rattle.part_covers.specs.declared.fault.CoverFault.TheVariants.{Components, Word, Index, TotalCells}
use Rattle.part_covers.specs.Covered.{NumberedAreCovers, Covering, covering_of, covering_on, covering_there, found_for, table_of, table_stage, total_at, with_total, with_table, unless_long, is_large, lift_on}
use Rattle.part_covers.proofs.Found.{HasCover, found-there, found-cover, cover-parts}

-- ---- back through the stages

past-there : (b : Bool) (fault : CoverFault) (r : Result Covering CoverFault) (c : Covering) → (if b then Err fault else r) ≡ Ok c → (b ≡ false) × (r ≡ Ok c)
past-there true fault r c e = absurd (let bad : Err fault ≡ Ok c = e in cc)
past-there false fault r c e = (refl, e)

past-words : (o : Option Cell) (r : Result Covering CoverFault) (c : Covering) → unless_long o r ≡ Ok c → r ≡ Ok c
past-words None r c e = e
past-words (Some cell) r c e = absurd (let bad : Err (Word cell) ≡ Ok c = e in cc)

pub past-total : (part : Layers) (t : Position) (b : Bool) (c : Covering) → with_total part t (if b then Err TotalCells else Ok (total_at part t)) ≡ Ok c
    → (b ≡ false) × (c ≡ covering_of part t (total_at part t))
past-total part t true c e = absurd (let bad : Err TotalCells ≡ Ok c = e in cc)
past-total part t false c e = (refl, sym (let same : Ok (covering_of part t (total_at part t)) ≡ Ok c = e in cc))

pub past-table : (part : Layers) (r : Result Position CoverFault) (c : Covering) → with_table part r ≡ Ok c
    → (t : Position) × (r ≡ Ok t) × (is_large part t.0 ≡ false) × (c ≡ covering_of part t (total_at part t))
past-table part (Ok t) c e = let p = past-total part t (is_large part t.0) c e in (t, refl, p.0, p.1)
past-table part (Err fault) c e = absurd (let bad : Err fault ≡ Ok c = e in cc)

pub past-nth : (P : Relations) (w : Wanted) (x : Nth) (t : Position) → table_of P w x ≡ Ok t → (x ≡ nth.Found) × (t ≡ get_or (found_for P w) (w.index - 1) (0, []))
past-nth P w nth.Found t e = (refl, sym (let same : Ok (get_or (found_for P w) (w.index - 1) (0, [])) ≡ Ok t = e in cc))
past-nth P w (nth.Only count) t e = absurd (let bad : Err (Index count) ≡ Ok t = e in cc)
past-nth P w nth.Spent t e = absurd (grind (arith, e))

-- where the table is found, there are so many
pub found-many : (a b : Bool) (x : ℕ) → (if a then nth.Found else if b then nth.Spent else nth.Only x) ≡ nth.Found → a ≡ true
found-many true b x e = refl
found-many false true x e = absurd (grind (arith, e))
found-many false false x e = absurd (grind (arith, e))

pub found-within : (P : Relations) (n B index : ℕ) → 1 ≤ index → nth_of P n (0, []) B index ≡ nth.Found → index - 1 < length (found P n (0, []) B)
found-within P n B index low e =
    let fits : index ≤ length (found P n (0, []) B) =
    leb-true index (length (found P n (0, []) B)) (found-many (nat_le index (length (found P n (0, []) B))) (nat_lt B (length (live P n (0, [])))) (length (found P n (0, []) B)) e) in
    omega (arith, low, fits)

-- ---- the law

cover-again : Layers → Position → Covering
cover-again part t = covering_of part t (total_at part t)

module _ (laws : ListedAreCovers) (parts : PartsAreRegular) (good : ChosenIsGood) (exact : ConnectedIsExact) (regular_total : TotalIsRegular) (components : TotalHasComponents) where
  pub numbered : NumberedAreCovers
  numbered space w c valid regular ranges e =
      let there = past-there (nat_lt (component_count space) w.component) (Components (component_count space)) (covering_there space w) c e in
      let part : Layers = part_of space w.component in
      let last : w.component ≤ component_count space = ltb-false (component_count space) w.component there.0 in
      let whole : IsWhole part = parts space w.component valid regular ranges.first_component last in
      let P : Relations = relations_at part (chosen part) in
      let table = past-table part (table_stage P w) c (past-words (long_in space w.component) (covering_on part w) c there.1) in
      let t : Position = table.0 in
      let nth = past-nth P w (nth_of P w.sheets (0, []) w.budget w.index) t table.1 in
      let within : w.index - 1 < length (found_for P w) = found-within P w.sheets w.budget w.index ranges.first_index nth.0 in
      let among = found-there laws good part w.sheets w.budget (w.index - 1) whole ranges.least_sheets within in
      let cover : HasCover part (chosen part) t = subst (HasCover part (chosen part)) (sym nth.1) (found-cover laws good part w.sheets w.budget (w.index - 1) whole ranges.least_sheets within) in
      let is = cover-parts part (chosen part) t.0 t.1 cover.is in
      let same : c ≡ covering_of part t (total_at part t) = table.3 in
      let own : ◌≡◌ {A = Position} (c.sheets, c.cells) t = ap (λ (x : Covering). let p : Position = (x.sheets, x.cells) in p) same in
      let few : t.0 * cell_count part ≤ 60000 = ltb-false 60000 (t.0 * cell_count part) table.2 in
      let connected : IsConnected part t.0 (lift_on part t.0 t.1) = (exact part t.0 (lift_on part t.0 t.1) whole.valid whole.regular (labelling-parts part t.0 (lift_on part t.0 t.1) is.labelling).labels).0 is.connected in
      let total : c.total ≡ total_at part t = ap (λ (x : Covering). x.total) same in
      record {
        listed = let low = ranges.first_index in let l = among.0 in omega (arith, low, l);
        table = own ∙ (nth.1 ∙ among.1);
        cover = same ∙ sym (ap (λ (q : Position). covering_of part q (total_at part q)) own);
        regular = subst IsRegular (sym total) (regular_total part t.0 (lift_on part t.0 t.1) whole.valid whole.regular is.labelling few);
        one = ap component_count total ∙ components part t.0 (lift_on part t.0 t.1) whole.valid whole.regular is.labelling few whole.one connected;
      }
