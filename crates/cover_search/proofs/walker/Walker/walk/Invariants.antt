use Rattle.std.proofs.Common.{◌≡◌, ◌<◌, drop, suc}
use Rattle.live_laws.specs.Walks.{AreLetters}
use Rattle.live_laws.specs.Walks.{trace}
use Rattle.cover_search.proofs.walker.Walker.walk.Given as goal

abbrev pub invariant-loop-letter : goal.invariant-loop-letter
invariant-loop-letter l = record {
  letters : AreLetters l.self.columns (drop l.letter-index l.word);
  inside : l.at < l.self.sheets;
  same : trace l.self.columns l.self.sheets l.self.cells (drop l.letter-index l.word) (suc l.at) ≡ trace l.self.columns l.self.sheets l.self.cells l.word (suc l.sheet);
}
