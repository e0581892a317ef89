-- The cochain that is 1 on one chain and 0 on the others.
use Rattle.std.proofs.Common.{◌≡◌, ◌≢◌, ℕ, ◌<◌, List, [], Bool, true, false, cond, length, replicate, set, get_or, refl, ap, sym, ◌∙◌, arith}
use Rattle.std.specs.Str.{bytes_eq}
use Rattle.std.proofs.lemmas.List.{same_lists, length-set, length-map, length-replicate, get_or-set_other, get_or-replicate, get_or-map, set-set, set-get_or}
use Rattle.std.proofs.lemmas.Grind.{get_or-set_at}
use Rattle.std.proofs.lemmas.Slice.Eq.{bytes_eq-Decides}
use native.Mathlib.Decide.{dec_lt}
use Prim.{yes, no}
use Rattle.order_complex.specs.Order.{IsOrdered}
use Rattle.order_complex.specs.Cochains.{mark}
use Rattle.order_complex.proofs.CallerLemmas.{ordered-differ}

not-same : (b c : List ℕ) (t : Bool) → bytes_eq b c ≡ t → b ≢ c → t ≡ false
not-same b c true e ne = absurd (ne ((bytes_eq-Decides b c).0 e))
not-same b c false e ne = refl

module _ (chains : List (List ℕ)) (i : ℕ) where
  abbrev one : List ℕ
  one = set (replicate (length chains) 0) i 1

  abbrev chosen : List ℕ
  chosen = get_or chains i []

  elsewhere : (j d : ℕ) → IsOrdered chains → i < length chains → j < length chains → j ≢ i → get_or one j d ≡ get_or (mark chains chosen) j d
  elsewhere j d o l k ne =
      get_or-set_other (replicate (length chains) 0) i j 1 d ne ∙ get_or-replicate (length chains) j 0 d k
      ∙ sym (get_or-map (λ c. cond {A = ℕ} (bytes_eq c chosen) 1 0) chains j [] d k
      ∙ ap (λ t. cond {A = ℕ} t 1 0) (not-same (get_or chains j []) chosen (bytes_eq (get_or chains j []) chosen) refl (ordered-differ chains j i o k l ne)))

  there : (j d : ℕ) → j < length chains → j ≡ i → get_or one j d ≡ get_or (mark chains chosen) j d
  there j d k e =
      get_or-set_at (replicate (length chains) 0) i j 1 d e (omega (arith, length-replicate {A = ℕ} (length chains) 0, k))
      ∙ sym (get_or-map (λ c. cond {A = ℕ} (bytes_eq c chosen) 1 0) chains j [] d k
      ∙ ap (λ t. cond {A = ℕ} t 1 0) (ap (λ (n : ℕ). bytes_eq (get_or chains n []) chosen) e ∙ (bytes_eq-Decides chosen chosen).1 refl))

  -- a 1 at the place of a chain among zeros
  pub marked : IsOrdered chains → i < length chains → one ≡ mark chains chosen
  marked o l =
      same_lists one (mark chains chosen)
      (long ∙ sym (length-map chains (λ c. cond {A = ℕ} (bytes_eq c chosen) 1 0)))
      (λ j d k. at j d (omega (arith, long, k)))
    where
      long : length one ≡ length chains
      long = length-set (replicate (length chains) 0) i 1 ∙ length-replicate (length chains) 0

      at : (j d : ℕ) → j < length chains → get_or one j d ≡ get_or (mark chains chosen) j d
      at j d k =
          elim (dec_lt j i) [
            | yes a ↦ elsewhere j d o l k (omega arith)
            | no a ↦ elim (dec_lt i j) [
              | yes b ↦ elsewhere j d o l k (omega arith)
              | no b ↦ there j d k (omega arith)
            ]
          ]

  -- zeros again
  pub unmarked : i < length chains → set one i 0 ≡ replicate (length chains) 0
  unmarked l =
      let zeros : List ℕ = replicate (length chains) 0 in
      set-set zeros i 1 0 ∙ ap (set zeros i) (sym (get_or-replicate (length chains) i 0 0 l)) ∙ set-get_or zeros i 0
