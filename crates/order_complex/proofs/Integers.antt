-- Alternating sums of integers.
use Rattle.std.proofs.Common.{◌≡◌, ℕ, List, [], ◌∷◌, map, refl, ap, sym, ◌∙◌}
use Rattle.std.specs.Prelude.{ℤ, pos, ◌+ℤ◌, ◌-ℤ◌}
use Rattle.std.proofs.Math.IntN.{neg_ℤ, +ℤ_assoc, +ℤ_comm, +ℤ_idr, +ℤ_invr, neg_ℤ-+ℤ}
use Rattle.order_complex.specs.Cochains.{leave_out}

abbrev pub alternating_sum : List ℤ → ℤ
alternating_sum [] = pos 0
alternating_sum (x ∷ xs) = x -ℤ alternating_sum xs

abbrev around : (List ℕ → ℤ) → List ℕ → ℤ
around x chain = alternating_sum (map x (leave_out chain))

swap_middle : (a b c d : ℤ) → (a +ℤ b) +ℤ (c +ℤ d) ≡ (a +ℤ c) +ℤ (b +ℤ d)
swap_middle a b c d =
    +ℤ_assoc a b (c +ℤ d) ∙ ap (λ n. a +ℤ n) (sym (+ℤ_assoc b c d) ∙ ap (λ n. n +ℤ d) (+ℤ_comm b c) ∙ +ℤ_assoc c b d) ∙ sym (+ℤ_assoc a c (b +ℤ d))

swap : (a b c d : ℤ) → (a -ℤ b) -ℤ (c -ℤ d) ≡ (a -ℤ c) -ℤ (b -ℤ d)
swap a b c d =
    ap (λ n. (a -ℤ b) +ℤ n) (neg_ℤ-+ℤ c (neg_ℤ d)) ∙ swap_middle a (neg_ℤ b) (neg_ℤ c) (neg_ℤ (neg_ℤ d)) ∙ ap (λ n. (a -ℤ c) +ℤ n) (sym (neg_ℤ-+ℤ b (neg_ℤ d)))

zero_less : (a : ℤ) → a -ℤ a ≡ pos 0
zero_less a = +ℤ_invr a

pub less_zero : (a : ℤ) → a -ℤ pos 0 ≡ a
less_zero a = +ℤ_idr a

alternating_sub : (x g : List ℕ → ℤ) (bs : List (List ℕ)) → alternating_sum (map (λ b. x b -ℤ g b) bs) ≡ alternating_sum (map x bs) -ℤ alternating_sum (map g bs)
alternating_sub x g [] = sym (zero_less (pos 0))
alternating_sub x g (b ∷ bs) = ap (λ n. (x b -ℤ g b) -ℤ n) (alternating_sub x g bs) ∙ swap (x b) (g b) (alternating_sum (map x bs)) (alternating_sum (map g bs))

map_map : (h : List ℕ → ℤ) (f : List ℕ → List ℕ) (bs : List (List ℕ)) → map h (map f bs) ≡ map (λ b. h (f b)) bs
map_map h f [] = refl
map_map h f (b ∷ bs) = ap (λ r. h (f b) ∷ r) (map_map h f bs)

map_same : (h g : List ℕ → ℤ) → ((b : List ℕ) → h b ≡ g b) → (bs : List (List ℕ)) → map h bs ≡ map g bs
map_same h g e [] = refl
map_same h g e (b ∷ bs) = rw (e b, map_same h g e bs) refl

around_cons : (x : List ℕ → ℤ) (a : ℕ) (b : List ℕ) → around x (a ∷ b) ≡ x b -ℤ around (λ y. x (a ∷ y)) b
around_cons x a b = ap (λ ys. x b -ℤ alternating_sum ys) (map_map x (λ y. a ∷ y) (leave_out b))

-- twice around is zero
pub twice_around : (x : List ℕ → ℤ) (c : List ℕ) → alternating_sum (map (λ b. alternating_sum (map x (leave_out b))) (leave_out c)) ≡ pos 0
twice_around x [] = refl
twice_around x (a ∷ c) =
    let xa : List ℕ → ℤ = λ y. x (a ∷ y) in
    around_cons (around x) a c
    ∙ ap (λ ys. around x c -ℤ alternating_sum ys) (map_same (λ b. around x (a ∷ b)) (λ b. x b -ℤ around xa b) (λ b. around_cons x a b) (leave_out c))
    ∙ ap (λ n. around x c -ℤ n) (alternating_sub x (around xa) (leave_out c))
    ∙ ap (λ n. around x c -ℤ (around x c -ℤ n)) (twice_around xa c)
    ∙ ap (λ n. around x c -ℤ n) (less_zero (around x c)) ∙ zero_less (around x c)
