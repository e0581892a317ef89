use Rattle.cover_search.proofs.Raising.{made}
use Rattle.cover_search.proofs.walker.Walker.new.Goals as goal

pub invariant_of-result : goal.invariant_of-result
invariant_of-result c =
    rw (c.in_ok-ones.ensures, c.in_ok-ones-2.ensures)
    (made c.args.columns c.args.most c.in_ok-empty_columns.field-0.items c.in_ok-empty_columns-2.field-0.items c.requires.least c.requires.most c.requires.columns
    c.in_ok-empty_columns.ensures.0 c.in_ok-empty_columns-2.ensures.0 c.in_ok-empty_columns.ensures.1 c.in_ok-empty_columns-2.ensures.1)
