use Rattle.std.proofs.Common.{◌≡◌, ◌≤◌, ◌<◌, ◌+◌, ◌-◌, ℕ, List, ◌++◌, ◌∷◌, [], get_or, sum_by, ap, sym, ◌∙◌, subst, arith, rules}
use Rattle.face_poset.specs.Poset.{count, cell_count}
use Rattle.order_complex.specs.Chains.{cells_before, faces_of}
use Rattle.order_complex.specs.Counting.{IsTally}
use Rattle.order_complex.proofs.FaceIds.{faces_at, faces_at-cell, id_high}
use Rattle.order_complex.proofs.Endings.{countable, tally-more}
use Rattle.order_complex.proofs.counts.tally_cell.Goals as goal

-- the cells before a cell, and its faces by its id
pub record Here (space : List (List (List ℕ))) (dim number n : ℕ) (faces : List ℕ) : Type 0 where
  pub before : n < cell_count space
  pub next : n + 1 ≡ cells_before space dim + number
  pub faces_are : faces ≡ faces_at space (n + 1)

here-is : (space : List (List (List ℕ))) (dim number n : ℕ) (faces : List ℕ) → dim ≤ 3 → 1 ≤ number → number ≤ count space dim → n ≡ (cells_before space dim + number) - 1 → faces ≡ faces_of space dim number → Here space dim number n faces
here-is space dim number n faces small low high e f =
    let next : n + 1 ≡ cells_before space dim + number = omega arith in
    record { before = omega (arith, id_high space dim number small high); next = next; faces_are = f ∙ sym (ap (faces_at space) next ∙ faces_at-cell space dim number small low high) }

sums : (counts pairs cells faces : List ℕ) (q : ℕ) → q ≡ sum_by (λ c. get_or counts (c - 1) 0) cells → counts ≡ pairs → cells ≡ faces → q ≡ sum_by (λ c. get_or pairs (c - 1) 0) faces
sums counts pairs cells faces q e f g = e ∙ ap (λ (xs : List ℕ). sum_by (λ c. get_or xs (c - 1) 0) cells) f ∙ ap (sum_by (λ c. get_or pairs (c - 1) 0)) g

moved : (space : List (List (List ℕ))) (n m : ℕ) (pairs triples ps ts : List ℕ) (e t u : ℕ) → n ≡ m → ps ≡ pairs → ts ≡ triples → IsTally space n pairs triples e t u → IsTally space m ps ts e t u
moved space n m pairs triples ps ts e t u a b d h =
    subst (λ k. IsTally space k ps ts e t u) a (subst (λ xs. IsTally space n xs ts e t u) (sym b) (subst (λ ys. IsTally space n pairs ys e t u) (sym d) h))

pub sum_at-triples-requires-clause-within : goal.sum_at-triples-requires-clause-within
sum_at-triples-requires-clause-within c =
    let n : ℕ = (cells_before c.args.space.now c.args.dim + c.args.number) - 1 in
    let h = here-is c.args.space.now c.args.dim c.args.number n c.deref-2.result.now c.requires.dim c.requires.first c.requires.last (search rules) (c.deref-2.ensures.value ∙ c.in_ok-faces.ensures) in
    (countable c.args.space.now 1 n c.deref-2.result.now c.deref.result.now (omega arith) h.before c.requires.few h.faces_are (c.deref.ensures.value ∙ c.requires.before.pairs_are)).within

pub sum_at-triples-requires-clause-small : goal.sum_at-triples-requires-clause-small
sum_at-triples-requires-clause-small c =
    let n : ℕ = (cells_before c.args.space.now c.args.dim + c.args.number) - 1 in
    let h = here-is c.args.space.now c.args.dim c.args.number n c.deref-2.result.now c.requires.dim c.requires.first c.requires.last (search rules) (c.deref-2.ensures.value ∙ c.in_ok-faces.ensures) in
    (countable c.args.space.now 1 n c.deref-2.result.now c.deref.result.now (omega arith) h.before c.requires.few h.faces_are (c.deref.ensures.value ∙ c.requires.before.pairs_are)).small

pub sum_at-triples-requires-clause-few : goal.sum_at-triples-requires-clause-few
sum_at-triples-requires-clause-few c =
    let n : ℕ = (cells_before c.args.space.now c.args.dim + c.args.number) - 1 in
    let h = here-is c.args.space.now c.args.dim c.args.number n c.deref-2.result.now c.requires.dim c.requires.first c.requires.last (search rules) (c.deref-2.ensures.value ∙ c.in_ok-faces.ensures) in
    (countable c.args.space.now 1 n c.deref-2.result.now c.deref.result.now (omega arith) h.before c.requires.few h.faces_are (c.deref.ensures.value ∙ c.requires.before.pairs_are)).few

pub sum_at-fours-requires-clause-within : goal.sum_at-fours-requires-clause-within
sum_at-fours-requires-clause-within c =
    let n : ℕ = (cells_before c.args.space.now c.args.dim + c.args.number) - 1 in
    let h = here-is c.args.space.now c.args.dim c.args.number n c.deref-4.result.now c.requires.dim c.requires.first c.requires.last (search rules) (c.deref-4.ensures.value ∙ c.in_ok-faces.ensures) in
    (countable c.args.space.now 2 n c.deref-4.result.now c.deref-3.result.now (omega arith) h.before c.requires.few h.faces_are (c.deref-3.ensures.value ∙ c.requires.before.triples_are)).within

pub sum_at-fours-requires-clause-small : goal.sum_at-fours-requires-clause-small
sum_at-fours-requires-clause-small c =
    let n : ℕ = (cells_before c.args.space.now c.args.dim + c.args.number) - 1 in
    let h = here-is c.args.space.now c.args.dim c.args.number n c.deref-4.result.now c.requires.dim c.requires.first c.requires.last (search rules) (c.deref-4.ensures.value ∙ c.in_ok-faces.ensures) in
    (countable c.args.space.now 2 n c.deref-4.result.now c.deref-3.result.now (omega arith) h.before c.requires.few h.faces_are (c.deref-3.ensures.value ∙ c.requires.before.triples_are)).small

pub sum_at-fours-requires-clause-few : goal.sum_at-fours-requires-clause-few
sum_at-fours-requires-clause-few c =
    let n : ℕ = (cells_before c.args.space.now c.args.dim + c.args.number) - 1 in
    let h = here-is c.args.space.now c.args.dim c.args.number n c.deref-4.result.now c.requires.dim c.requires.first c.requires.last (search rules) (c.deref-4.ensures.value ∙ c.in_ok-faces.ensures) in
    (countable c.args.space.now 2 n c.deref-4.result.now c.deref-3.result.now (omega arith) h.before c.requires.few h.faces_are (c.deref-3.ensures.value ∙ c.requires.before.triples_are)).few

pub overflow_add-tally : goal.overflow_add-tally
overflow_add-tally c =
    let n : ℕ = (cells_before c.args.space.now c.args.dim + c.args.number) - 1 in
    let h = here-is c.args.space.now c.args.dim c.args.number n c.in_ok-faces.faces.items c.requires.dim c.requires.first c.requires.last (search rules) c.in_ok-faces.ensures in
    let m = tally-more c.args.space.now n c.in_ok-faces.faces.items c.args.tally.now.pairs.items c.args.tally.now.triples.items c.args.tally.now.edges c.args.tally.now.triangles c.args.tally.now.tetrahedra
    c.len-pairs.result c.sum_at-triples.result c.sum_at-fours.result h.before c.requires.few c.requires.before h.faces_are (search rules)
    (sums c.deref.result.now c.args.tally.now.pairs.items c.deref-2.result.now c.in_ok-faces.faces.items c.sum_at-triples.result c.sum_at-triples.ensures c.deref.ensures.value c.deref-2.ensures.value)
    (sums c.deref-3.result.now c.args.tally.now.triples.items c.deref-4.result.now c.in_ok-faces.faces.items c.sum_at-fours.result c.sum_at-fours.ensures c.deref-3.ensures.value c.deref-4.ensures.value) in
    omega (arith, m.edges_small)

pub overflow_add-tally-2 : goal.overflow_add-tally-2
overflow_add-tally-2 c =
    let n : ℕ = (cells_before c.args.space.now c.args.dim + c.args.number) - 1 in
    let h = here-is c.args.space.now c.args.dim c.args.number n c.in_ok-faces.faces.items c.requires.dim c.requires.first c.requires.last (search rules) c.in_ok-faces.ensures in
    let m = tally-more c.args.space.now n c.in_ok-faces.faces.items c.args.tally.now.pairs.items c.args.tally.now.triples.items c.args.tally.now.edges c.args.tally.now.triangles c.args.tally.now.tetrahedra
    c.len-pairs.result c.sum_at-triples.result c.sum_at-fours.result h.before c.requires.few c.requires.before h.faces_are (search rules)
    (sums c.deref.result.now c.args.tally.now.pairs.items c.deref-2.result.now c.in_ok-faces.faces.items c.sum_at-triples.result c.sum_at-triples.ensures c.deref.ensures.value c.deref-2.ensures.value)
    (sums c.deref-3.result.now c.args.tally.now.triples.items c.deref-4.result.now c.in_ok-faces.faces.items c.sum_at-fours.result c.sum_at-fours.ensures c.deref-3.ensures.value c.deref-4.ensures.value) in
    omega (arith, m.triangles_small)

pub overflow_add-tally-3 : goal.overflow_add-tally-3
overflow_add-tally-3 c =
    let n : ℕ = (cells_before c.args.space.now c.args.dim + c.args.number) - 1 in
    let h = here-is c.args.space.now c.args.dim c.args.number n c.in_ok-faces.faces.items c.requires.dim c.requires.first c.requires.last (search rules) c.in_ok-faces.ensures in
    let m = tally-more c.args.space.now n c.in_ok-faces.faces.items c.args.tally.now.pairs.items c.args.tally.now.triples.items c.args.tally.now.edges c.args.tally.now.triangles c.args.tally.now.tetrahedra
    c.len-pairs.result c.sum_at-triples.result c.sum_at-fours.result h.before c.requires.few c.requires.before h.faces_are (search rules)
    (sums c.deref.result.now c.args.tally.now.pairs.items c.deref-2.result.now c.in_ok-faces.faces.items c.sum_at-triples.result c.sum_at-triples.ensures c.deref.ensures.value c.deref-2.ensures.value)
    (sums c.deref-3.result.now c.args.tally.now.triples.items c.deref-4.result.now c.in_ok-faces.faces.items c.sum_at-fours.result c.sum_at-fours.ensures c.deref-3.ensures.value c.deref-4.ensures.value) in
    omega (arith, m.tetrahedra_small)

pub returns : goal.returns
returns c =
    let n : ℕ = (cells_before c.args.space.now c.args.dim + c.args.number) - 1 in
    let h = here-is c.args.space.now c.args.dim c.args.number n c.in_ok-faces.faces.items c.requires.dim c.requires.first c.requires.last (search rules) c.in_ok-faces.ensures in
    let m = tally-more c.args.space.now n c.in_ok-faces.faces.items c.args.tally.now.pairs.items c.args.tally.now.triples.items c.args.tally.now.edges c.args.tally.now.triangles c.args.tally.now.tetrahedra
    c.len-pairs.result c.sum_at-triples.result c.sum_at-fours.result h.before c.requires.few c.requires.before h.faces_are (search rules)
    (sums c.deref.result.now c.args.tally.now.pairs.items c.deref-2.result.now c.in_ok-faces.faces.items c.sum_at-triples.result c.sum_at-triples.ensures c.deref.ensures.value c.deref-2.ensures.value)
    (sums c.deref-3.result.now c.args.tally.now.triples.items c.deref-4.result.now c.in_ok-faces.faces.items c.sum_at-fours.result c.sum_at-fours.ensures c.deref-3.ensures.value c.deref-4.ensures.value) in
    moved c.args.space.now (n + 1) (cells_before c.args.space.now c.args.dim + c.args.number) (c.args.tally.now.pairs.items ++ c.len-pairs.result ∷ []) (c.args.tally.now.triples.items ++ c.sum_at-triples.result ∷ [])
    c.push.new.self.items c.push-2.new.self.items (c.args.tally.now.edges + c.len-pairs.result) (c.args.tally.now.triangles + c.sum_at-triples.result) (c.args.tally.now.tetrahedra + c.sum_at-fours.result)
    h.next c.in_ok-push.ensures.items c.in_ok-push-2.ensures.items m.next
