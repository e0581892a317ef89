use Rattle.std.proofs.Common.{◌≡◌, ◌≤◌, ◌-◌, ℕ, List, get_or, subst, true}
use Rattle.sheet_tables.specs.Tables.{Rows, entry_of}
use Rattle.sheet_laws.specs.Tables.{is_table}
use Rattle.edge_words.specs.Moves.{inverse_columns}
use Rattle.edge_words.proofs.Led.{ahead-is, move-within, column-within, sheet-within, back-is, back-small}
use Rattle.edge_words.proofs.moves.Moves.turn.Goals as goal

-- what the value holds, said of the table
record IsHeld (u t : Rows) (inverses : List (List ℕ)) : Type 0 where
  few : t.sheets ≤ 8
  table : is_table t.columns t.sheets t.cells ≡ true
  inverse : inverses ≡ inverse_columns t.columns t.sheets t.cells

held : (u t : Rows) (inverses : List (List ℕ)) → u ≡ t → u.sheets ≤ 8 → is_table u.columns u.sheets u.cells ≡ true → inverses ≡ inverse_columns u.columns u.sheets u.cells → IsHeld u t inverses
held u t inverses e f i h = subst (λ (v : Rows). IsHeld u v inverses) e (record { few = f; table = i; inverse = h })

cell-of : (u t : Rows) (s n v : ℕ) → u ≡ t → v ≡ entry_of u.columns u.cells s n → v ≡ entry_of t.columns t.cells s n
cell-of u t s n v e h = subst (λ (w : Rows). v ≡ entry_of w.columns w.cells s n) e h

pub returns-then-letter-gt0-clause-sheet : goal.returns-then-letter-gt0-clause-sheet
returns-then-letter-gt0-clause-sheet c =
    let h = held c.self.inside.table.now c.args.self.now c.self.inside.inverses c.self.view_is c.self.invariant.0 c.self.invariant.1 c.self.invariant.2 in
    ahead-is c.args.self.now h.few h.table c.args.letter c.args.sheet c.unsigned_abs-generator.result c.ranges.letter c.unsigned_abs-generator.ensures.value c.requires.letter c.requires.sheet c.cell.result c.if-letter-gt0.true
    (cell-of c.self.inside.table.now c.args.self.now c.args.sheet c.unsigned_abs-generator.result c.cell.result c.self.view_is c.cell.ensures)

pub returns-then-letter-gt0-clause-range : goal.returns-then-letter-gt0-clause-range
returns-then-letter-gt0-clause-range c =
    let h = held c.self.inside.table.now c.args.self.now c.self.inside.inverses c.self.view_is c.self.invariant.0 c.self.invariant.1 c.self.invariant.2 in
    move-within c.args.self.now h.few h.table c.args.letter c.args.sheet c.unsigned_abs-generator.result c.ranges.letter c.unsigned_abs-generator.ensures.value c.requires.letter c.requires.sheet c.cell.result
    (ahead-is c.args.self.now h.few h.table c.args.letter c.args.sheet c.unsigned_abs-generator.result c.ranges.letter c.unsigned_abs-generator.ensures.value c.requires.letter c.requires.sheet c.cell.result c.if-letter-gt0.true
    (cell-of c.self.inside.table.now c.args.self.now c.args.sheet c.unsigned_abs-generator.result c.cell.result c.self.view_is c.cell.ensures))

pub get-inverse-requires : goal.get-inverse-requires
get-inverse-requires c =
    let h = held c.self.inside.table.now c.args.self.now c.self.inside.inverses c.self.view_is c.self.invariant.0 c.self.invariant.1 c.self.invariant.2 in
    column-within c.args.self.now h.few h.table c.args.letter c.args.sheet c.unsigned_abs-generator.result c.ranges.letter c.unsigned_abs-generator.ensures.value c.requires.letter c.requires.sheet c.self.inside.inverses h.inverse

pub bounds-inverse-sheet : goal.bounds-inverse-sheet
bounds-inverse-sheet c =
    let h = held c.self.inside.table.now c.args.self.now c.self.inside.inverses c.self.view_is c.self.invariant.0 c.self.invariant.1 c.self.invariant.2 in
    sheet-within c.args.self.now h.few h.table c.args.letter c.args.sheet c.unsigned_abs-generator.result c.ranges.letter c.unsigned_abs-generator.ensures.value c.requires.letter c.requires.sheet c.self.inside.inverses h.inverse
    c.get-inverse.result.now c.get-inverse.ensures

pub overflow_cast-result-2 : goal.overflow_cast-result-2
overflow_cast-result-2 c =
    let h = held c.self.inside.table.now c.args.self.now c.self.inside.inverses c.self.view_is c.self.invariant.0 c.self.invariant.1 c.self.invariant.2 in
    record {
      fits = back-small c.args.self.now h.few h.table c.args.letter c.args.sheet c.unsigned_abs-generator.result c.ranges.letter c.unsigned_abs-generator.ensures.value c.requires.letter c.requires.sheet c.self.inside.inverses h.inverse
          c.get-inverse.result.now c.get-inverse.ensures c.if-letter-gt0.false;
    }

pub returns-clause-sheet : goal.returns-clause-sheet
returns-clause-sheet c =
    let h = held c.self.inside.table.now c.args.self.now c.self.inside.inverses c.self.view_is c.self.invariant.0 c.self.invariant.1 c.self.invariant.2 in
    back-is c.args.self.now h.few h.table c.args.letter c.args.sheet c.unsigned_abs-generator.result c.ranges.letter c.unsigned_abs-generator.ensures.value c.requires.letter c.requires.sheet c.self.inside.inverses h.inverse c.get-inverse.result.now
    c.get-inverse.ensures c.if-letter-gt0.false

pub returns-clause-range : goal.returns-clause-range
returns-clause-range c =
    let h = held c.self.inside.table.now c.args.self.now c.self.inside.inverses c.self.view_is c.self.invariant.0 c.self.invariant.1 c.self.invariant.2 in
    move-within c.args.self.now h.few h.table c.args.letter c.args.sheet c.unsigned_abs-generator.result c.ranges.letter c.unsigned_abs-generator.ensures.value c.requires.letter c.requires.sheet (get_or c.get-inverse.result.now (c.args.sheet - 1) 0)
    (back-is c.args.self.now h.few h.table c.args.letter c.args.sheet c.unsigned_abs-generator.result c.ranges.letter c.unsigned_abs-generator.ensures.value c.requires.letter c.requires.sheet c.self.inside.inverses h.inverse
    c.get-inverse.result.now c.get-inverse.ensures c.if-letter-gt0.false)
