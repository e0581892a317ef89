use Rattle.std.proofs.Common.{◌≡◌, ◌+◌, ◌-◌, ◌<◌, ◌≤◌, ℕ, List, [], ◌∷◌, ◌++◌, map, take, length, get_or, refl, ap, sym, ◌∙◌, subst, arith}
use Rattle.std.specs.List.{flat_map, range_with_len}
use Rattle.std.proofs.lemmas.List.{length-append, length-map, get_or_default}
use Rattle.std.proofs.lemmas.List.Folds.{length-flat_map-take}
use Rattle.std.proofs.lemmas.List.FromFn.{map-range_with_len_more}
use Rattle.order_complex.specs.Listing.{extensions, uppers_of, AreWalks}
use Rattle.order_complex.proofs.Extended.{length-uppers_of}
use Rattle.order_complex.proofs.Steps.{flat_map_more}
use Rattle.order_complex.proofs.uppers.Uppers.first_places.Goals as goal

-- one chain more
pub record More (uppers chains : List (List ℕ)) (i total : ℕ) (x above : List ℕ) : Type 0 where
  pub last : get_or x (length x - 1) 0 ≤ length uppers
  pub next : total + length above ≡ length (flat_map (extensions uppers) (take (i + 1) chains))
  pub small : total + length above ≤ length (flat_map (extensions uppers) chains)

more : (uppers chains : List (List ℕ)) (i total : ℕ) (x above : List ℕ) → AreWalks uppers chains → i < length chains → x ≡ get_or chains i x
    → total ≡ length (flat_map (extensions uppers) (take i chains)) → above ≡ get_or uppers (get_or x (length x - 1) 0 - 1) [] → More uppers chains i total x above
more uppers chains i total x above w l e t a =
    let f : List ℕ → List (List ℕ) = extensions uppers in
    let here : x ≡ get_or chains i [] = e ∙ get_or_default chains i x [] l in
    let added : flat_map f (take i chains) ++ f x ≡ flat_map f (take (i + 1) chains) = flat_map_more f chains i [] x (flat_map f (take i chains)) (flat_map f (take i chains) ++ f x) l here refl refl in
    let long : length (f x) ≡ length above = length-map (get_or uppers (get_or x (length x - 1) 0 - 1) []) (λ upper. x ++ upper ∷ []) ∙ ap (λ (xs : List ℕ). length xs) (sym a) in
    record {
      last = subst (λ (y : List ℕ). get_or y (length y - 1) 0 ≤ length uppers) (sym e) (w.last i x l);
      next = omega (arith, t, long, length-append (flat_map f (take i chains)) (f x), ap (λ (xs : List (List ℕ)). length xs) added);
      small = omega (arith, t, long, length-flat_map-take f chains i [] l, ap (λ (y : List ℕ). length (f y)) here);
    }

pub above-requires-clause-last : goal.above-requires-clause-last
above-requires-clause-last g c =
    let x : List ℕ = c.index-chains-index.result in
    let r : get_or x (length x - 1) 0 ≤ length (uppers_of c.args.self.now) =
    subst (λ (y : List ℕ). get_or y (length y - 1) 0 ≤ length (uppers_of c.args.self.now)) (sym c.index-chains-index.is) (c.requires.walks.last c.loop-index.index x (omega arith)) in
    omega (arith, r, length-uppers_of c.args.self.now)

pub overflow_cast-total : goal.overflow_cast-total
overflow_cast-total g c =
    let m = more (uppers_of c.args.self.now) c.args.chains.now c.loop-index.index c.loop-index.total c.index-chains-index.result c.above.result.now c.requires.walks (omega arith) c.index-chains-index.is c.loop-index.invariant.1 c.above.ensures in
    omega (arith, m.small, c.requires.few)

pub overflow_add-total : goal.overflow_add-total
overflow_add-total g c =
    let m = more (uppers_of c.args.self.now) c.args.chains.now c.loop-index.index c.loop-index.total c.index-chains-index.result c.above.result.now c.requires.walks (omega arith) c.index-chains-index.is c.loop-index.invariant.1 c.above.ensures in
    omega (arith, m.small, c.requires.few)

pub loop-index-preserved : goal.loop-index-preserved
loop-index-preserved g c =
    let m = more (uppers_of c.args.self.now) c.args.chains.now c.loop-index.index c.loop-index.total c.index-chains-index.result c.above.result.now c.requires.walks (omega arith) c.index-chains-index.is c.loop-index.invariant.1 c.above.ensures in
    let G : ℕ → ℕ = λ k. length (flat_map (extensions (uppers_of c.args.self.now)) (take k c.args.chains.now)) in (
      c.in_ok-push.ensures.items ∙ ap (λ (ps : List ℕ). ps ++ c.loop-index.total ∷ []) c.loop-index.invariant.0
          ∙ ap (λ (t : ℕ). map G (range_with_len 0 c.loop-index.index) ++ t ∷ []) c.loop-index.invariant.1
          ∙ sym (map-range_with_len_more G 0 c.loop-index.index c.loop-index.index (omega arith)),
      m.next,
    )
