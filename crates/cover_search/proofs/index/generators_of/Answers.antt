use Rattle.std.proofs.Common.{◌≡◌, ◌∙◌, ap, map, take, length, arith}
use Rattle.std.proofs.Math.Seq.{take-length}
use Rattle.live_laws.specs.Walks.{generator}
use Rattle.cover_search.proofs.Indexing.{naming}
use Rattle.cover_search.proofs.index.generators_of.Goals as goal

pub returns : goal.returns
returns c =
    let end : c.loop-letter.letter-index ≡ length c.args.word.now = omega arith in
    naming c.args.most c.args.word.now c.loop-letter.generators.items c.sort_once.new.numbers.items c.requires
    (c.loop-letter.invariant ∙ ap (map generator) (ap (λ n. take n c.args.word.now) end ∙ take-length c.args.word.now))
    c.sort_once.ensures.rises c.sort_once.ensures.keeps c.sort_once.ensures.adds_none
