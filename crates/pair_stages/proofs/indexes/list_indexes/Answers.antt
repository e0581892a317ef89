use Rattle.std.proofs.Common.{◌≡◌, ◌++◌, ℕ, List, length, take, drop, get_or, ap, sym, ◌∙◌, subst, arith}
use Rattle.pair_stages.specs.Reaches.{AreIndexes}
use Rattle.pair_stages.proofs.Indexed.{indexes_are, written}
use Rattle.pair_stages.proofs.indexes.list_indexes.Goals as goal

pub returns : goal.returns
returns g c =
    let n : ℕ = c.in_ok-indexes.indexes.len in
    let a : List ℕ = c.put_pairs.new.indexes in
    let b : List ℕ = c.put_columns.new.indexes in
    let ln : length c.in_ok-indexes.indexes.items ≡ n = omega (arith, c.in_ok-indexes.indexes.ok.0) in
    let la : length a ≡ n = c.put_pairs.auto.indexes ∙ (ap (λ (xs : List ℕ). length xs) c.deref_mut.ensures.value ∙ ln) in
    let mid : c.deref_mut-2.result.now ≡ a = c.deref_mut-2.ensures.value ∙ written a (drop (length a) c.in_ok-indexes.indexes.items) n (sym la) in
    let lb : length b ≡ n = c.put_columns.auto.indexes ∙ (ap (λ (xs : List ℕ). length xs) mid ∙ la) in
    let kinds : n ≡ length c.args.next.now.kinds = omega (arith, c.in_ok-indexes.ensures.len, c.len.ensures.len) in
    subst (AreIndexes c.args.stage.now.pairs c.args.next.now.kinds) (sym (written b (drop (length b) (take n (a ++ drop (length a) c.in_ok-indexes.indexes.items))) n (sym lb)))
    (indexes_are g.F.Field.ops c.args.stage.now c.args.next.now a b c.requires (lb ∙ kinds) c.put_pairs.ensures c.put_columns.ensures.columns
    (λ j e. c.put_columns.ensures.others j e ∙ ap (λ (xs : List ℕ). get_or xs j 0) mid))
