-- The labels of a table in which the relators of a valid field lead home are a labelling.
use Rattle.std.proofs.Common.{◌≡◌, ℕ, ◌≤◌, List, length, ap, sym, ◌∙◌, subst, true}
use Rattle.std.specs.Prelude.{ℤ}
use Rattle.sheet_tables.specs.Tables.{Rows}
use Rattle.sheet_laws.specs.Tables.{is_table}
use Rattle.sheet_laws.specs.Labellings.{is_labelling}
use Rattle.sheet_laws.specs.Lifts.{columns_of}
use Rattle.edge_words.specs.Words.{relators, Presented}
use Rattle.edge_words.specs.Labels.{labels_of, satisfies, labelled_by, IsRepresentation}
use Rattle.edge_words.specs.Laws.{LabelsAreTheLift, LiftsAreLabellings, IsLabellingAt}

pub represented : LabelsAreTheLift → LiftsAreLabellings → (p : Presented) (t : Rows) → 1 ≤ t.sheets → IsRepresentation p t → IsLabellingAt p (labelled_by p t)
represented labels lifts p t l h space pairs is regular valid e =
    subst (λ (c : ℕ). is_labelling space t.sheets (labels_of c t.sheets t.cells p.words) ≡ true) (sym columns)
    (subst (λ (ws : List (List ℤ)). is_labelling space t.sheets (labels_of (columns_of space pairs) t.sheets t.cells ws) ≡ true) (sym (ap (λ (x : Presented). x.words) e))
    (subst (λ (u : List (List ℕ)). is_labelling space t.sheets u ≡ true) (sym (labels space pairs t.sheets t.cells is regular valid table))
    ((lifts space pairs t.sheets t.cells is regular valid l table).1 home)))
  where
    columns : t.columns ≡ columns_of space pairs
    columns = h.columns ∙ ap (λ (x : Presented). length x.generators) e

    table : is_table (columns_of space pairs) t.sheets t.cells ≡ true
    table = subst (λ (c : ℕ). is_table c t.sheets t.cells ≡ true) columns h.permutations

    home : satisfies (columns_of space pairs) t.sheets t.cells (relators space pairs) ≡ true
    home =
        subst (λ (ws : List (List ℤ)). satisfies (columns_of space pairs) t.sheets t.cells ws ≡ true) (ap (λ (x : Presented). x.relators) e)
        (subst (λ (c : ℕ). satisfies c t.sheets t.cells p.relators ≡ true) columns h.relators)
