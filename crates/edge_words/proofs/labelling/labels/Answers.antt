use Rattle.std.proofs.Common.{◌≡◌, ◌≤◌, ◌<◌, ◌+◌, ◌∙◌, arith, ℕ, List, ap, sym, subst, [], ◌∷◌, ◌++◌, map, length, take, get_or, All}
use Rattle.std.specs.Prelude.{ℤ}
use Rattle.std.proofs.lemmas.List.{map_more, take_all}
use Rattle.sheet_tables.specs.Tables.{Rows}
use Rattle.live_laws.specs.Walks.{AreLetters}
use Rattle.edge_words.specs.Words.{Presented}
use Rattle.edge_words.specs.Labels.{label_of, Labelled, labelled_by, IsRepresentation, IsLabel}
use Rattle.edge_words.specs.Laws.{IsLabellingAt}
use Rattle.edge_words.proofs.Led.{labels-are}
use Rattle.edge_words.proofs.Representations.{represented}
use Rattle.edge_words.proofs.labelling.labels.Goals as goal

-- one label more
labels-more : (t u : Rows) (ws vs : List (List ℤ)) (i : ℕ) (labels new : List (List ℕ)) (w : List ℤ) (l x : List ℕ) → u ≡ t → vs ≡ ws → i < length vs
    → labels ≡ map (label_of t.columns t.sheets t.cells) (take i ws) → new ≡ labels ++ x ∷ [] → x ≡ l → w ≡ get_or vs i [] → l ≡ label_of u.columns u.sheets u.cells w
    → new ≡ map (label_of t.columns t.sheets t.cells) (take (i + 1) ws)
labels-more t u ws vs i labels new w l x table words lt held e same read is =
    e
    ∙ (ap (λ (us : List (List ℕ)). us ++ x ∷ []) held
    ∙ (ap (λ (y : List ℕ). map (label_of t.columns t.sheets t.cells) (take i ws) ++ y ∷ []) (same ∙ (is ∙ (ap (λ (r : Rows). label_of r.columns r.sheets r.cells w) table ∙ ap (label_of t.columns t.sheets t.cells) (read ∙ ap (λ (xs : List (List ℤ)). get_or xs i []) words))))
    ∙ sym (map_more (label_of t.columns t.sheets t.cells) ws i [] (subst (λ (xs : List (List ℤ)). i < length xs) words lt))))

labels-all : (t : Rows) (ws vs : List (List ℤ)) (i : ℕ) (labels : List (List ℕ)) → vs ≡ ws → length vs ≤ i → labels ≡ map (label_of t.columns t.sheets t.cells) (take i ws) → labels ≡ map (label_of t.columns t.sheets t.cells) ws
labels-all t ws vs i labels words h held =
    held ∙ ap (map (label_of t.columns t.sheets t.cells)) (take_all i ws (subst (λ (xs : List (List ℤ)). length xs ≤ i) words h))

all-are : (p : Presented) (t : Rows) (labels : List (List ℕ)) (m : ℕ) → IsRepresentation p t → All (AreLetters (length p.generators)) p.words → labels ≡ map (label_of t.columns t.sheets t.cells) p.words → m ≡ t.sheets → All (IsLabel m) labels
all-are p t labels m h letters e s =
    rw s (labels-are t.columns t.sheets t.cells h.permutations p.words labels (rw h.columns letters) e)

pub loop-index-preserved : goal.loop-index-preserved
loop-index-preserved c =
    labels-more c.args.table.now c.in_ok-moves.moves c.args.presentation.now.words c.words-words.result.now c.loop-index.index c.loop-index.labels c.push.new.self c.get.result.now c.list_label.new.label.items c.deref.result.now
    c.in_ok-moves.ensures c.words-words.ensures.words (omega (arith, c.loop-index-test.true, c.len-index-end.ensures)) c.loop-index.invariant c.in_ok-push.ensures.ok c.deref.ensures.value c.get.ensures c.in_ok-list_label.ensures

pub new-requires-2-clause-labels : goal.new-requires-2-clause-labels
new-requires-2-clause-labels c =
    all-are c.args.presentation.now c.args.table.now c.loop-index.labels c.sheets.result c.requires c.words-words.ensures.letters
    (labels-all c.args.table.now c.args.presentation.now.words c.words-words.result.now c.loop-index.index c.loop-index.labels c.words-words.ensures.words (omega (arith, c.loop-index-test.false, c.len-index-end.ensures)) c.loop-index.invariant)
    c.sheets.ensures.sheets

whole : (p : Presented) (t : Rows) (v : Labelled) (m : ℕ) (labels : List (List ℕ)) → v ≡ record { sheets = m; labels = labels } → m ≡ t.sheets → labels ≡ map (label_of t.columns t.sheets t.cells) p.words → v ≡ labelled_by p t
whole p t v m labels e s h = rw (s, h) at e

pub returns-clause-labels : goal.returns-clause-labels
returns-clause-labels c =
    whole c.args.presentation.now c.args.table.now c.new-2.result c.sheets.result c.loop-index.labels c.new-2.ensures c.sheets.ensures.sheets
    (labels-all c.args.table.now c.args.presentation.now.words c.words-words.result.now c.loop-index.index c.loop-index.labels c.words-words.ensures.words (omega (arith, c.loop-index-test.false, c.len-index-end.ensures)) c.loop-index.invariant)

pub returns-clause-labelling : goal.returns-clause-labelling
returns-clause-labelling c =
    subst (IsLabellingAt c.args.presentation.now)
    (sym (whole c.args.presentation.now c.args.table.now c.new-2.result c.sheets.result c.loop-index.labels c.new-2.ensures c.sheets.ensures.sheets
    (labels-all c.args.table.now c.args.presentation.now.words c.words-words.result.now c.loop-index.index c.loop-index.labels c.words-words.ensures.words (omega (arith, c.loop-index-test.false, c.len-index-end.ensures)) c.loop-index.invariant)))
    (represented c.labels_are_the_lift.ensures c.lifts_are_labellings.ensures c.args.presentation.now c.args.table.now c.sheets.ensures.valid.some_sheet c.requires)
