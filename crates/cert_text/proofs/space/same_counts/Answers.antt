use Rattle.std.proofs.Common.{◌≡◌, ◌∙◌, ◌∷◌, [], ℕ, List, sym}
use Rattle.cert_text.proofs.LayerLemmas.{counts-four, same-then, same-else}
use Rattle.cert_text.proofs.space.same_counts.Goals as goal

pub returns-then-are_same : goal.returns-then-are_same
returns-then-are_same c =
    let found : List ℕ = c.len.result ∷ c.len-2.result ∷ c.len-3.result ∷ c.len-4.result ∷ [] in
    let wide : List ℕ = c.from.result ∷ c.from-2.result ∷ c.from-3.result ∷ c.from-4.result ∷ [] in
    let e : wide ≡ found = λ i. c.from.ensures i ∷ c.from-2.ensures i ∷ c.from-3.ensures i ∷ c.from-4.ensures i ∷ [] in
    same-then c.args.chains c.args.counts.now found wide (counts-four c.args.counts.now c.len.result c.len-2.result c.len-3.result c.len-4.result c.requires c.len.ensures c.len-2.ensures c.len-3.ensures c.len-4.ensures) e (sym c.are_same.ensures ∙ c.if-are_same.true)

pub returns-else-are_same : goal.returns-else-are_same
returns-else-are_same c =
    let found : List ℕ = c.len.result ∷ c.len-2.result ∷ c.len-3.result ∷ c.len-4.result ∷ [] in
    let wide : List ℕ = c.from.result ∷ c.from-2.result ∷ c.from-3.result ∷ c.from-4.result ∷ [] in
    let e : wide ≡ found = λ i. c.from.ensures i ∷ c.from-2.ensures i ∷ c.from-3.ensures i ∷ c.from-4.ensures i ∷ [] in
    same-else c.args.chains c.args.counts.now found wide (counts-four c.args.counts.now c.len.result c.len-2.result c.len-3.result c.len-4.result c.requires c.len.ensures c.len-2.ensures c.len-3.ensures c.len-4.ensures) e (sym c.are_same.ensures ∙ c.if-are_same.false)
