use Rattle.edge_words.proofs.WordLabels.{lift-walk, lift-walk_short}
use Rattle.edge_words.proofs.laws.walks_follow_words.Goals as goal

pub returns : goal.returns
returns c space pairs m cells ss x is regular valid table within sheet =
    let law = c.cycles_go_round.ensures in
    record {
      word = lift-walk law space pairs is regular valid m cells table ss within x sheet;
      reduced_word = lift-walk_short law space pairs is regular valid m cells table ss within x sheet;
    }
