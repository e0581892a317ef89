use Rattle.std.proofs.Common.{◌≡◌, drop}
use Rattle.pair_laws.specs.Letters.{follow}
use Rattle.sheet_laws.specs.Permutations.{InRange}
use Rattle.live_laws.specs.Walks.{AreLetters, move}
use Rattle.edge_words.proofs.moves.Moves.follow.Given as goal

abbrev pub invariant-loop-letter : goal.invariant-loop-letter
invariant-loop-letter l =
    AreLetters l.self.columns (drop l.letter-index l.word)
    × InRange l.self.sheets l.at
    × (follow (move l.self.columns l.self.sheets l.self.cells) (drop l.letter-index l.word) l.at ≡ follow (move l.self.columns l.self.sheets l.self.cells) l.word l.fn.sheet)
