-- The rank lines and the class lines of all degrees pass the tests of a certificate of homology.
use Rattle.std.proofs.Common.{◌≡◌, ℕ, zero, suc, ◌+◌, ◌≤◌, List, true, length, length-append, map, ap, sym, ◌∙◌, arith}
use Rattle.std.specs.List.{AllByRecursion}
use Rattle.std.proofs.lemmas.List.{length-map}
use Rattle.face_poset.specs.Poset.{Layers}
use Rattle.small_field.specs.Field.{Ops, IsField}
use Rattle.linear_laws.specs.Triangle.{Triangle}
use Rattle.field_matrix.specs.declared.history.Elimination.{Elimination}
use Rattle.order_complex.specs.Chains.{chains_of}
use Rattle.order_complex.specs.Homology.{IsBasis}
use Rattle.order_complex.specs.Laws.{BettiIsOneNumber}
use Rattle.split_laws.specs.Kinds.{criticals, lowers, uppers}
use Rattle.split_laws.specs.Laws.{BasesExtend, BettiByReducedRanks, CellsAreCounted, ExtensionsCommute, ExtensionsPair, FlowsCommute, SolutionsAreOne, SolutionsCombine}
use Rattle.critical_complex.specs.Levels.{Level, kinds_at}
use Rattle.critical_complex.specs.Complex.{IsReducedComplex}
use Rattle.chain_laws.specs.Laws.{EquationsAreTests}
use Rattle.chain_laws.specs.Lines.{cochain_in}
use Rattle.chain_laws.specs.AllLines.{Line, left_sides, right_sides, coboundary_in, homology_holds, lines_before, lines_of, AreHomology, HaveEntries, IsRankLine}
use Rattle.cohomology.specs.declared.echelons.Echelons.{Echelons}
use Rattle.cohomology.specs.declared.lists.ClassLines.{ClassLines}
use Rattle.cohomology.specs.declared.lists.RankLines.{RankLines}
use Rattle.cohomology.specs.Bases.{cells_with, kinds_with, class_lists, rank_lists, AreAllClasses}
use Rattle.cohomology.specs.Echelons.{number_at, rank_in, AreEchelons, AreRowsOf}
use Rattle.cohomology.specs.RankLines.{unit_lines, AreAllRanks, AreRankLines}
use Rattle.cohomology.proofs.BasesLemmas.{basis, cocycles, cycles, pairing, sides}
use Rattle.cohomology.proofs.Complexes.{cells_are}
use Rattle.cohomology.proofs.Ranked.{betti_is}
use Rattle.cohomology.proofs.RankTriangles.{rank_entries, triangle}

module _ {G : Type 0} (F : Ops) (L : IsField F) (one : SolutionsAreOne F) (combine : SolutionsCombine F) (extend : BasesExtend F) (pair : ExtensionsPair F) (flows : FlowsCommute F) (commute : ExtensionsCommute F) (counted : CellsAreCounted F)
    (ranked : BettiByReducedRanks F) (single : BettiIsOneNumber F) (tests : EquationsAreTests F) (levels : List Level) (space : Layers) (e : Echelons G) (E : AreEchelons F levels e) (rows_are : AreRowsOf F levels space) (rs : RankLines) (cs : ClassLines)
    (all_ranks : AreAllRanks F levels e rs) (all_classes : AreAllClasses F levels cs) where
  R : IsReducedComplex F levels
  R = E.complex

  abbrev ranks : List (List Line)
  ranks = rank_lists rs

  abbrev classes : List (List Line)
  classes = class_lists cs

  -- ---- counts

  -- the rank of the coboundary into a degree
  abbrev rank_into : ℕ → ℕ
  rank_into zero = 0
  rank_into (suc zero) = rank_in e.first
  rank_into (suc (suc zero)) = rank_in e.second
  rank_into (suc (suc (suc zero))) = rank_in e.third
  rank_into (suc (suc (suc (suc degree)))) = 0

  number_left : (degree : ℕ) → degree ≤ 3 → number_at e.numbers degree + rank_into degree + rank_into (suc degree) ≡ criticals (kinds_at levels degree)
  number_left zero l = omega (arith, E.zero)
  number_left (suc zero) l = E.one
  number_left (suc (suc zero)) l = E.two
  number_left (suc (suc (suc zero))) l = omega (arith, E.three)
  number_left (suc (suc (suc (suc degree)))) l = absurd (omega (arith, l))

  class_count : (degree : ℕ) → degree ≤ 3 → length (lines_of classes degree) ≡ number_at e.numbers degree
  class_count degree l =
      let lines : List Line = lines_of classes degree in
      let zs : List (List ℕ) = map (cochain_in space degree) (left_sides lines) in
      let b : IsBasis F space degree zs = basis F L one combine extend pair flows levels R space rows_are degree l lines (all_classes degree l) in
      let long : length zs ≡ length lines = length-map (left_sides lines) (cochain_in space degree) ∙ length-map lines (λ line. line.left) in
      single space degree (length lines) (number_at e.numbers degree) (zs, b, long) (betti_is F L ranked levels space e E rows_are degree l)

  line_count : {H : Type 0} (degree : ℕ) (f : Elimination H) (lines : List Line) → AreRankLines F levels degree f lines → length lines ≡ uppers (kinds_at levels (suc degree)) + rank_in f
  line_count degree f lines h =
      let up : degree + 1 ≡ suc degree = omega arith in
      ap (λ xs. length xs) h.are ∙ length-append (unit_lines levels degree) h.rest
      ∙ ap (λ k. k + length h.rest) (h.many ∙ ap (λ k. uppers (kinds_at levels k)) up)
      ∙ ap (λ k. uppers (kinds_at levels (suc degree)) + k) h.long

  rank_count : (degree : ℕ) → degree ≤ 3 → length (lines_of ranks degree) ≡ uppers (kinds_at levels (suc degree)) + rank_into (suc degree)
  rank_count zero l = line_count 0 e.first rs.zero.items all_ranks.zero
  rank_count (suc zero) l = line_count 1 e.second rs.one.items all_ranks.one
  rank_count (suc (suc zero)) l = line_count 2 e.third rs.two.items all_ranks.two
  rank_count (suc (suc (suc zero))) l = ap (λ ks. uppers ks + 0) (sym (R.none 4 (omega arith)))
  rank_count (suc (suc (suc (suc degree)))) l = absurd (omega (arith, l))

  lowers_are : (index : ℕ) → lowers (kinds_with levels index) ≡ uppers (kinds_with levels (suc index))
  lowers_are index = let s = R.complex.splits index in counted.pairs (cells_with levels index) (cells_with levels (suc index)) _ (kinds_with levels index) (kinds_with levels (suc index)) s

  before_count : (degree : ℕ) → degree ≤ 3 → length (lines_before ranks degree) ≡ uppers (kinds_at levels degree) + rank_into degree
  before_count zero l = lowers_are 0 ∙ (let z : uppers (kinds_at levels 0) ≡ uppers (kinds_at levels 0) + 0 = omega arith in z)
  before_count (suc degree) l = rank_count degree (omega (arith, l))

  count : (degree : ℕ) → degree ≤ 3 → length (chains_of space degree) ≡ length (lines_before ranks degree) + length (lines_of ranks degree) + length (lines_of classes degree)
  count degree l =
      omega (
        arith,
        cells_are F L space levels R rows_are degree (omega (arith, l)),
        counted.kinds (kinds_at levels degree),
        lowers_are (suc degree),
        before_count degree l,
        rank_count degree l,
        class_count degree l,
        number_left degree l,
      )

  -- ---- equations

  triangles : (degree : ℕ) → degree ≤ 3 → Triangle F (map (coboundary_in F space degree) (left_sides (lines_of ranks degree))) (map (cochain_in space (suc degree)) (right_sides (lines_of ranks degree)))
  triangles zero l = triangle F L one commute levels R space rows_are 0 (omega arith) e.first E.first rs.zero.items all_ranks.zero
  triangles (suc zero) l = triangle F L one commute levels R space rows_are 1 (omega arith) e.second E.second rs.one.items all_ranks.one
  triangles (suc (suc zero)) l = triangle F L one commute levels R space rows_are 2 (omega arith) e.third E.third rs.two.items all_ranks.two
  triangles (suc (suc (suc zero))) l = tt
  triangles (suc (suc (suc (suc degree)))) l = absurd (omega (arith, l))

  rank_sides : (degree : ℕ) → degree ≤ 3 → AllByRecursion (IsRankLine F space degree) (lines_of ranks degree)
  rank_sides zero l = rank_entries F L one commute levels R space rows_are 0 (omega arith) e.first E.first rs.zero.items all_ranks.zero
  rank_sides (suc zero) l = rank_entries F L one commute levels R space rows_are 1 (omega arith) e.second E.second rs.one.items all_ranks.one
  rank_sides (suc (suc zero)) l = rank_entries F L one commute levels R space rows_are 2 (omega arith) e.third E.third rs.two.items all_ranks.two
  rank_sides (suc (suc (suc zero))) l = tt
  rank_sides (suc (suc (suc (suc degree)))) l = absurd (omega (arith, l))

  pub entries : HaveEntries F space ranks classes
  entries = record {
    rank_lines = rank_sides;
    class_lines = λ degree l. sides F L one combine extend pair flows levels R space rows_are degree l (lines_of classes degree) (all_classes degree l);
  }

  are_homology : AreHomology F space ranks classes
  are_homology degree l =
      let lines : List Line = lines_of classes degree in
      record {
        count = count degree l;
        triangle = triangles degree l;
        cocycles = cocycles F L one combine extend pair flows levels R space rows_are degree l lines (all_classes degree l);
        cycles = cycles F L one combine extend pair flows levels R space rows_are degree l lines (all_classes degree l);
        pairing = pairing F L one combine extend pair flows levels R space rows_are degree l lines (all_classes degree l);
      }

  pub holds : homology_holds F space ranks classes ≡ true
  holds = (tests.homology space ranks classes entries).1 are_homology
