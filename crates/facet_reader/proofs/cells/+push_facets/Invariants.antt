use Rattle.facet_reader.proofs.cells.+push_facets.Given as goal

abbrev pub decreases-push_facets : goal.decreases-push_facets
decreases-push_facets l = l.size
