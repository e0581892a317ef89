-- The coboundary of a coboundary is zero.
use Rattle.std.proofs.Common.{◌≡◌, ◌⊎◌, inl, inr, ℕ, suc, List, [], ◌∷◌, Bool, true, false, cond, map, length, replicate, refl, ap, sym, ◌∙◌}
use Rattle.std.specs.Str.{bytes_eq}
use Rattle.std.proofs.lemmas.Slice.Eq.{bytes_eq-Decides}
use Rattle.small_field.specs.Field.{Ops, IsField}
use Rattle.number_lists.specs.Members.{In, here, there}
use Rattle.number_lists.proofs.CallerLemmas.{In-cases}
use Rattle.order_complex.specs.Chains.{chains_of}
use Rattle.order_complex.specs.Cochains.{alternating, leave_out, value, coboundary_at, coboundary, zeros}
use Rattle.order_complex.proofs.Chained.{leave_out-member}
use Rattle.order_complex.proofs.Alternating.{around, around-around}

pub bytes_eq-refl : (c : List ℕ) → bytes_eq c c ≡ true
bytes_eq-refl c = (bytes_eq-Decides c c).1 refl

pub bytes_eq-true : (b c : List ℕ) → bytes_eq b c ≡ true → b ≡ c
bytes_eq-true b c h = (bytes_eq-Decides b c).0 h

value-case : (g : List ℕ → ℕ) (t : Bool) (b c : List ℕ) (r : ℕ) → bytes_eq b c ≡ t → (c ≡ b) ⊎ (r ≡ g c) → cond t (g b) r ≡ g c
value-case g true b c r e h = ap g (bytes_eq-true b c e)
value-case g false b c r e (inl s) = absurd (let yes : bytes_eq b c ≡ true = (bytes_eq-Decides b c).1 (sym s) in cc)
value-case g false b c r e (inr h) = h

-- a cochain that is given by a function takes its values
pub value-map : (g : List ℕ → ℕ) (chains : List (List ℕ)) (c : List ℕ) → In c chains → value chains (map g chains) c ≡ g c
value-map g [] c h = elim h [ ]
value-map g (b ∷ chains) c m =
    elim (In-cases m) [
      | inl s ↦ value-case g (bytes_eq b c) b c (value chains (map g chains) c) refl (inl s)
      | inr h ↦ value-case g (bytes_eq b c) b c (value chains (map g chains) c) refl (inr (value-map g chains c h))
    ]

pub map-members : {A : Type 0} (g h : A → ℕ) (cs : List A) → ((c : A) → In c cs → g c ≡ h c) → map g cs ≡ map h cs
map-members g h [] e = refl
map-members g h (c ∷ cs) e = rw (e c here, map-members g h cs (λ d m. e d (there m))) refl

map-zero : {A : Type 0} (cs : List A) → map {B = ℕ} (λ c. 0) cs ≡ replicate (length cs) 0
map-zero [] = refl
map-zero (c ∷ cs) = ap (λ r. 0 ∷ r) (map-zero cs)

module _ (F : Ops) (L : IsField F) where
  pub coboundary-coboundary : (space : List (List (List ℕ))) (degree : ℕ) (x : List ℕ) → coboundary F space (suc degree) (coboundary F space degree x) ≡ zeros space (suc (suc degree))
  coboundary-coboundary space degree x =
      map-members (coboundary_at F next (coboundary F space degree x)) (λ c. 0) (chains_of space (suc (suc degree))) at
      ∙ map-zero (chains_of space (suc (suc degree)))
    where
      next : List (List ℕ)
      next = chains_of space (suc degree)

      at : (c : List ℕ) → In c (chains_of space (suc (suc degree))) → coboundary_at F (chains_of space (suc degree)) (coboundary F space degree x) c ≡ 0
      at c h =
          ap (alternating F)
          (map-members (value (chains_of space (suc degree)) (coboundary F space degree x)) (around F (value (chains_of space degree) x)) (leave_out c)
          (λ b m. value-map (coboundary_at F (chains_of space degree) x) (chains_of space (suc degree)) b (leave_out-member space (suc degree) c h b m)))
          ∙ around-around F L (value (chains_of space degree) x) c
