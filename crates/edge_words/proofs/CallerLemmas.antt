-- What other crates may cite of the proofs here. Where a lemma takes `CyclesGoRound` or `LastFaceCloses`, hand it the clause of
-- regular_check's law or of the law of sphere_collapses.

-- ---- words in letters

-- the inverse of two words joined, of an inverse, of a reduced word
pub use Rattle.edge_words.proofs.FreeWords.{inverted-append, inverted-twice, is_reduced-inverted}
-- a part of a word may be reduced first; a word and its inverse leave nothing
pub use Rattle.edge_words.proofs.FreeWords.{reduced-left, reduced-right, reduced-undone, reduced-undone_back}
-- letters of the first generators are letters; those of words joined, of the reduced word, of the inverse
pub use Rattle.edge_words.proofs.LetterWalks.{letters-are, letters-append, letters-reduced, letters-inverted}
-- ---- words in the letters of a table

-- two words one after another; a word permutes the sheets, and its inverse undoes it; the reduced word leads as the word does
pub use Rattle.edge_words.proofs.LetterWalks.{follow-append, word-turn, word-back, word-short}
-- in a whole table no walk by a word, or by some words, fails exactly where they lead home
pub use Rattle.edge_words.proofs.LetterWalks.{home-is, satisfied-is}
-- ---- the words of edges

-- words of steps: joined, of words that agree, their letters
pub use Rattle.edge_words.proofs.StepWords.{word_of-append, word_of-agree}
pub use Rattle.edge_words.proofs.Along.{letters-word_at, letters-word_of}
-- what holds of the word of each edge holds of each word
pub use Rattle.edge_words.proofs.StepWords.{each-word}
-- the words of edges: how many, their letters, and those of the relators
pub use Rattle.edge_words.proofs.WordLetters.{words-long, words-letters, relators-letters}
-- they are reduced; those of paired and of critical edges
pub use Rattle.edge_words.proofs.WordStages.{words-short, words-close, tree-word, critical-word}
-- they are forced, and no others are; nor does another reduced word at one pair close the round of its 2-cell
pub use Rattle.edge_words.proofs.ForcedWords.{words-forced, words-one, words-only}
-- ---- labels by words

-- walks by labels that words give; the words of edges give the lift; where its walks lead
pub use Rattle.edge_words.proofs.WordLabels.{walk-word, labels-are_lift, lift-walk, lift-walk_short}
-- ---- 2-cells

-- the steps of a cycle go along edges of the space; what a 2-cell is to a field, and the induction over all of them
pub use Rattle.edge_words.proofs.FieldCells.{cycle-within, disk-kinds, over-disks}
-- labels that close round all 2-cells of a 3-cell but one close round it, and those that close round the critical ones, and round those that
-- are paired with an edge, close round all
pub use Rattle.edge_words.proofs.LastFaces.{last-closes}
pub use Rattle.edge_words.proofs.LiftLabels.{all-close}
-- ---- labellings

-- what a labelling is; a lift is one where the relators lead home, and only there
pub use Rattle.edge_words.proofs.LiftLabels.{LabellingParts, labelling-parts, labelling-from, to-relators, from-relators}
