use Rattle.std.proofs.Common.{◌≡◌, ◌∙◌, ◌++◌, ◌∷◌, ◌%◌, [], length, ap, sym, subst, true, false, All}
use Rattle.std.specs.Prelude.{slice_index_or}
use Rattle.sheet_laws.specs.Permutations.{InRange}
use Rattle.live_laws.specs.Live.{may_follow, sound}
use Rattle.edge_words.specs.Words.{relations_of}
use Rattle.cover_search.specs.Columns.{Partial}
use Rattle.cover_search.specs.Courses.{Passage}
use Rattle.cover_search.proofs.Trying.{forbidden, numbers-ranged, decided, restored}
use Rattle.cover_search.proofs.course.Course.try_place.Goals as goal

pub returns-then-not-may_place-clause-told : goal.returns-then-not-may_place-clause-told
returns-then-not-may_place-clause-told c =
    subst (λ v. false ≡ sound v.relations v.sheets (v.cells ++ c.args.sheet ∷ [])) c.self.view_is
    (forbidden (relations_of c.self.inside.presentation.now) c.self.inside.index c.self.inside.walker c.self.invariant c.args.sheet (sym c.may_place.ensures ∙ c.if-not-may_place.true))

pub all_close-requires-clause-numbers : goal.all_close-requires-clause-numbers
all_close-requires-clause-numbers c =
    let may : may_follow c.self.inside.walker.columns c.self.inside.walker.sheets c.self.inside.walker.cells c.args.sheet ≡ true = sym c.may_place.ensures ∙ c.if-not-may_place.false in
    let numbers : c.get.result.now ≡ slice_index_or c.self.inside.index (length c.self.inside.walker.cells % c.self.inside.walker.columns) [] =
    c.get.ensures ∙ ap (λ n. slice_index_or c.self.inside.index n []) c.next_column-column.ensures in
    subst (λ xs. All (InRange (length c.self.inside.presentation.now.relators)) xs) (sym numbers)
    (numbers-ranged (relations_of c.self.inside.presentation.now) c.self.inside.index c.self.inside.walker c.self.invariant c.args.sheet may)

pub invariant_of-self : goal.invariant_of-self
invariant_of-self c =
    let may : may_follow c.self.inside.walker.columns c.self.inside.walker.sheets c.self.inside.walker.cells c.args.sheet ≡ true = sym c.may_place.ensures ∙ c.if-not-may_place.false in
    let numbers : c.get.result.now ≡ slice_index_or c.self.inside.index (length c.self.inside.walker.cells % c.self.inside.walker.columns) [] =
    c.get.ensures ∙ ap (λ n. slice_index_or c.self.inside.index n []) c.next_column-column.ensures in
    let told : c.all_close.result ≡ sound (relations_of c.self.inside.presentation.now) c.self.inside.walker.sheets (c.self.inside.walker.cells ++ c.args.sheet ∷ []) =
    c.all_close.ensures
    ∙ decided (relations_of c.self.inside.presentation.now) c.self.inside.index c.self.inside.walker c.self.invariant c.args.sheet may c.place-before.new.self c.get.result.now
    (ap (λ v. v.columns) c.place-before.ensures.placed) (ap (λ v. v.sheets) c.place-before.ensures.placed) (ap (λ v. v.cells) c.place-before.ensures.placed) numbers in
    record {
      columns = ap (λ v. v.columns) c.place-before.ensures.placed ∙ c.self.invariant.columns;
      partial = c.place-before.ensures.valid;
      letters = c.self.invariant.letters;
      indexed = c.self.invariant.indexed;
      sound = ap (λ v. sound (relations_of c.self.inside.presentation.now) v.sheets v.cells) c.place-before.ensures.placed ∙ (sym told ∙ c.if-all_close.true);
    }

pub returns-then-all_close-clause-told : goal.returns-then-all_close-clause-told
returns-then-all_close-clause-told c =
    let may : may_follow c.self.inside.walker.columns c.self.inside.walker.sheets c.self.inside.walker.cells c.args.sheet ≡ true = sym c.may_place.ensures ∙ c.if-not-may_place.false in
    let numbers : c.get.result.now ≡ slice_index_or c.self.inside.index (length c.self.inside.walker.cells % c.self.inside.walker.columns) [] =
    c.get.ensures ∙ ap (λ n. slice_index_or c.self.inside.index n []) c.next_column-column.ensures in
    let told : c.all_close.result ≡ sound (relations_of c.self.inside.presentation.now) c.self.inside.walker.sheets (c.self.inside.walker.cells ++ c.args.sheet ∷ []) =
    c.all_close.ensures
    ∙ decided (relations_of c.self.inside.presentation.now) c.self.inside.index c.self.inside.walker c.self.invariant c.args.sheet may c.place-before.new.self c.get.result.now
    (ap (λ v. v.columns) c.place-before.ensures.placed) (ap (λ v. v.sheets) c.place-before.ensures.placed) (ap (λ v. v.cells) c.place-before.ensures.placed) numbers in
    subst (λ v. true ≡ sound v.relations v.sheets (v.cells ++ c.args.sheet ∷ [])) c.self.view_is (sym c.if-all_close.true ∙ told)

pub returns-clause-told : goal.returns-clause-told
returns-clause-told c =
    let may : may_follow c.self.inside.walker.columns c.self.inside.walker.sheets c.self.inside.walker.cells c.args.sheet ≡ true = sym c.may_place.ensures ∙ c.if-not-may_place.false in
    let numbers : c.get.result.now ≡ slice_index_or c.self.inside.index (length c.self.inside.walker.cells % c.self.inside.walker.columns) [] =
    c.get.ensures ∙ ap (λ n. slice_index_or c.self.inside.index n []) c.next_column-column.ensures in
    let told : c.all_close.result ≡ sound (relations_of c.self.inside.presentation.now) c.self.inside.walker.sheets (c.self.inside.walker.cells ++ c.args.sheet ∷ []) =
    c.all_close.ensures
    ∙ decided (relations_of c.self.inside.presentation.now) c.self.inside.index c.self.inside.walker c.self.invariant c.args.sheet may c.place-before.new.self c.get.result.now
    (ap (λ v. v.columns) c.place-before.ensures.placed) (ap (λ v. v.sheets) c.place-before.ensures.placed) (ap (λ v. v.cells) c.place-before.ensures.placed) numbers in
    subst (λ v. false ≡ sound v.relations v.sheets (v.cells ++ c.args.sheet ∷ [])) c.self.view_is (sym c.if-all_close.false ∙ told)

pub returns-clause-same : goal.returns-clause-same
returns-clause-same c =
    let seen : Partial → Passage = λ v. record { relations = relations_of c.self.inside.presentation.now; most = v.room; sheets = v.sheets; cells = v.cells; written = v.written } in
    λ _.
    ap seen
    (restored c.self.inside.walker c.place-before.new.self c.unplace.new.self c.write.new.self c.args.sheet c.place-before.result c.place-before.ensures.placed c.unplace.ensures.cells c.write.ensures.written c.place-before.ensures.before)
    ∙ c.self.view_is
