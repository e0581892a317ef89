use Rattle.std.proofs.Common.{◌≡◌, ◌+◌, ◌∙◌, sym, subst}
use Rattle.number_lists.specs.Members.{In}
use Rattle.number_lists.specs.Found.{inserted_all}
use Rattle.pair_stages.specs.Reaches.{HasMore, HasCofaces}
use Rattle.pair_stages.proofs.Searched.{on_ok, cofaces_within, more_all, all_found}
use Rattle.pair_stages.proofs.reach.insert_cofaces.Goals as goal

pub insert_all-requires : goal.insert_all-requires
insert_all-requires g c = cofaces_within (g.G.Graded.space c.args.graded.now) c.args.dim (c.args.place + 1) c.args.found.now.most c.cofaces.result.now c.cofaces.ensures.cofaces (c.requires.most ∙ c.requires.degrees.above)

pub returns-clause-more : goal.returns-clause-more
returns-clause-more g c =
    on_ok c.insert_all.result (c.insert_all.new.self.found ≡ inserted_all c.args.found.now.found c.cofaces.result.now) (HasMore c.args.found.now.found c.insert_all.new.self.found)
    (more_all c.args.found.now.found c.cofaces.result.now c.insert_all.new.self.found) c.insert_all.ensures.found

pub returns-clause-cofaces : goal.returns-clause-cofaces
returns-clause-cofaces g c =
    on_ok c.insert_all.result (c.insert_all.new.self.found ≡ inserted_all c.args.found.now.found c.cofaces.result.now) (HasCofaces (g.G.Graded.space c.args.graded.now) c.args.dim c.args.place c.insert_all.new.self.found)
    (λ e n m. all_found c.args.found.now.found c.cofaces.result.now c.insert_all.new.self.found e n (subst (In n) (sym c.cofaces.ensures.cofaces) m)) c.insert_all.ensures.found
