use Rattle.std.proofs.Common.{◌≡◌, ◌++◌, ◌∷◌, [], ◌<◌, ℕ, suc, List, ap, sym, ◌∙◌, subst, arith}
use Rattle.std.specs.Prelude.{ℤ, pos, ◌+ℤ◌, OnOk}
use Rattle.std.proofs.lemmas.Int.{ints}
use mir.Syntax.{w32}
use mir.Val.{of_z, to_z}
use Rattle.edge_words.proofs.Own.{own-found, own-missing, place-found}
use Rattle.edge_words.proofs.presenting.push_own.Goals as goal

letter : (n : ℕ) → n < 60000 → to_z w32 (of_z w32 (to_z w32 n +ℤ pos 1)) ≡ pos (suc n)
letter n l = omega (arith, ints)

pub returns-in-Ok : goal.returns-in-Ok
returns-in-Ok c =
    subst (λ (w : List ℤ). OnOk c.push.result (c.push.new.self ≡ c.args.words.now ++ w ∷ []))
    (ap (λ (g : ℤ). g ∷ []) (letter c.in-Ok.place (omega (arith, c.requires.few, place-found c.args.critical.now c.args.edge c.binary_search.result c.binary_search.ensures.position c.requires.rise c.in-Ok.place c.in-Ok.is)))
    ∙ sym (own-found c.args.critical.now c.args.edge c.binary_search.result c.binary_search.ensures.position c.requires.rise c.in-Ok.place c.in-Ok.is)) c.push.ensures

pub returns-in-Err : goal.returns-in-Err
returns-in-Err c =
    subst (λ (w : List ℤ). OnOk c.push-in-Err.result (c.push-in-Err.new.self ≡ c.args.words.now ++ w ∷ []))
    (sym (own-missing c.args.critical.now c.args.edge c.binary_search.result c.binary_search.ensures.position c.requires.rise c.in-Err.field-0 c.in-Err.is)) c.push-in-Err.ensures
