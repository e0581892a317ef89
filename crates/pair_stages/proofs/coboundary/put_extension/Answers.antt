use Rattle.pair_stages.proofs.coboundary.put_extension.Goals as goal

pub returns-clause-row : goal.returns-clause-row
returns-clause-row g c = record { y = c.settle_mark.new.x; extension = c.settle_mark.ensures.extension; is = c.put_coboundary-some.ensures.values }
