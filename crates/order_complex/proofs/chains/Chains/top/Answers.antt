use Rattle.std.proofs.Common.{◌≡◌, ◌≤◌, ◌<◌, ◌-◌, List, ℕ, [], length, get_or, sym, subst, arith}
use Rattle.face_poset.specs.Poset.{cell_count}
use Rattle.order_complex.specs.Chains.{chains_of}
use Rattle.order_complex.proofs.Extended.{length-uppers_of}
use Rattle.order_complex.proofs.ChainBounds.{chains-walk}
use Rattle.order_complex.proofs.chains.Chains.top.Goals as goal

-- the last entry of a chain of a space
pub record EndsIn (space : List (List (List ℕ))) (chain : List ℕ) : Type 0 where
  pub some : 1 ≤ length chain
  pub first : 1 ≤ get_or chain (length chain - 1) 0
  pub last : get_or chain (length chain - 1) 0 ≤ cell_count space

ends : (space : List (List (List ℕ))) (degree number : ℕ) (chain : List ℕ) → 1 ≤ number → number ≤ length (chains_of space degree) → chain ≡ get_or (chains_of space degree) (number - 1) [] → EndsIn space chain
ends space degree number chain low high e =
    let w = chains-walk space degree in
    let lt : number - 1 < length (chains_of space degree) = omega arith in
    subst (EndsIn space) (sym e) record {
      some = w.some (number - 1) [] lt;
      first = w.first (number - 1) [] lt;
      last = omega (arith, w.last (number - 1) [] lt, length-uppers_of space);
    }

pub overflow_sub-chain : goal.overflow_sub-chain
overflow_sub-chain c = (ends c.args.self.now c.args.degree c.args.number c.chain-chain.result.now c.requires.first c.requires.last c.chain-chain.ensures.chain).some

pub bounds-chain-chain : goal.bounds-chain-chain
bounds-chain-chain c =
    let e = ends c.args.self.now c.args.degree c.args.number c.chain-chain.result.now c.requires.first c.requires.last c.chain-chain.ensures.chain in omega (arith, e.some)

pub cell_of_id-requires-clause-first : goal.cell_of_id-requires-clause-first
cell_of_id-requires-clause-first c = (ends c.args.self.now c.args.degree c.args.number c.chain-chain.result.now c.requires.first c.requires.last c.chain-chain.ensures.chain).first

pub cell_of_id-requires-clause-last : goal.cell_of_id-requires-clause-last
cell_of_id-requires-clause-last c =
    let e = ends c.args.self.now c.args.degree c.args.number c.chain-chain.result.now c.requires.first c.requires.last c.chain-chain.ensures.chain in
    subst (λ (s : List (List (List ℕ))). get_or c.chain-chain.result.now (length c.chain-chain.result.now - 1) 0 ≤ cell_count s) (sym c.self.view_is) e.last
