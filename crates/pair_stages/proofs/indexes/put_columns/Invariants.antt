use Rattle.std.proofs.Common.{◌≡◌, ◌<◌, ℕ, get_or}
use Rattle.split_laws.specs.declared.kind.Kind.TheVariants.{Upper}
use Rattle.split_laws.specs.Pairs.{kind_at}
use Rattle.pair_stages.specs.Stages.{place_of}
use Rattle.pair_stages.proofs.indexes.put_columns.Given as goal

abbrev pub invariant-loop-col : goal.invariant-loop-col
invariant-loop-col g l = record {
  columns : (c : ℕ) → c < l.col → get_or l.indexes (place_of l.next.kinds c) 0 ≡ c;
  others : (j : ℕ) → kind_at l.next.kinds j ≡ Upper → get_or l.indexes j 0 ≡ get_or l.fn.indexes j 0;
}
