use Rattle.edge_words.proofs.ForcedWords.{words-forced, words-one, words-only}
use Rattle.edge_words.proofs.laws.forced_words_are_the_only_ones.Goals as goal

pub returns-clause-each : goal.returns-clause-each
returns-clause-each c space pairs p is regular valid i d = words-only c.cycles_go_round.ensures space pairs is regular valid p i d

pub returns-clause-all : goal.returns-clause-all
returns-clause-all c space pairs is regular valid =
    let law = c.cycles_go_round.ensures in
    record { are = words-forced law space pairs is regular valid; only = words-one law space pairs is regular valid }
