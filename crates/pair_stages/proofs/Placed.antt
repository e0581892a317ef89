-- The places of critical cells.
use Rattle.std.proofs.Common.{◌≡◌, ℕ, zero, suc, ◌+◌, ◌-◌, ◌≤◌, ◌<◌, inl, inr, List, [], ◌∷◌, ◌++◌, length, take, replicate, get_or, set, get_or-set_same, get_or-set_other, refl, ap, sym, ◌∙◌, arith, subst}
use Rattle.std.proofs.lemmas.Bool.{cases_eq}
use Rattle.std.proofs.lemmas.List.{take_more, length-take-le, get_or_default}
use Rattle.split_laws.specs.declared.kind.Kind.{Kind}
use Rattle.split_laws.specs.declared.kind.Kind.TheVariants.{Critical, Lower, Upper}
use Rattle.split_laws.specs.Kinds.{criticals, part, spread, ZeroOnUppers}
use Rattle.pair_stages.specs.Stages.{critical_from, place_of}

pub critical_long : (n : ℕ) (ts : List Kind) → length (critical_from n ts) ≡ criticals ts
critical_long n [] = refl
critical_long n (Critical ∷ ts) = ap suc (critical_long (n + 1) ts)
critical_long n (Lower ∷ ts) = critical_long (n + 1) ts
critical_long n (Upper ∷ ts) = critical_long (n + 1) ts

pub criticals_few : (ts : List Kind) → criticals ts ≤ length ts
criticals_few [] = omega arith
criticals_few (Critical ∷ ts) = let h : criticals ts ≤ length ts = criticals_few ts in omega arith
criticals_few (Lower ∷ ts) = let h : criticals ts ≤ length ts = criticals_few ts in omega arith
criticals_few (Upper ∷ ts) = let h : criticals ts ≤ length ts = criticals_few ts in omega arith

later : (n p c : ℕ) → c ≡ n + 1 + p → c ≡ n + suc p
later n p c e = omega arith

pub critical_at : (n : ℕ) (ts : List Kind) (i : ℕ) → i < criticals ts → get_or (critical_from n ts) i 0 ≡ n + place_of ts i
critical_at n [] i lt = absurd (omega arith)
critical_at n (Critical ∷ ts) zero lt = omega arith
critical_at n (Critical ∷ ts) (suc i) lt = later n (place_of ts i) (get_or (critical_from (n + 1) ts) i 0) (critical_at (n + 1) ts i (omega arith))
critical_at n (Lower ∷ ts) i lt = later n (place_of ts i) (get_or (critical_from (n + 1) ts) i 0) (critical_at (n + 1) ts i lt)
critical_at n (Upper ∷ ts) i lt = later n (place_of ts i) (get_or (critical_from (n + 1) ts) i 0) (critical_at (n + 1) ts i lt)

pub place_below : (ts : List Kind) (i : ℕ) → i < criticals ts → place_of ts i < length ts
place_below [] i lt = absurd (omega arith)
place_below (Critical ∷ ts) zero lt = omega arith
place_below (Critical ∷ ts) (suc i) lt = let h : place_of ts i < length ts = place_below ts i (omega arith) in omega arith
place_below (Lower ∷ ts) i lt = let h : place_of ts i < length ts = place_below ts i lt in omega arith
place_below (Upper ∷ ts) i lt = let h : place_of ts i < length ts = place_below ts i lt in omega arith

pub spread_put : (ts : List Kind) (ws : List ℕ) (v : ℕ) → length ws < criticals ts → set (spread ts ws) (place_of ts (length ws)) v ≡ spread ts (ws ++ v ∷ [])
spread_put [] ws v lt = absurd (omega arith)
spread_put (Critical ∷ ts) [] v lt = refl
spread_put (Critical ∷ ts) (w ∷ ws) v lt = ap (λ (r : List ℕ). w ∷ r) (spread_put ts ws v (omega arith))
spread_put (Lower ∷ ts) ws v lt = ap (λ (r : List ℕ). 0 ∷ r) (spread_put ts ws v lt)
spread_put (Upper ∷ ts) ws v lt = ap (λ (r : List ℕ). 0 ∷ r) (spread_put ts ws v lt)

pub spread_nothing : (ts : List Kind) → spread ts [] ≡ replicate (length ts) 0
spread_nothing [] = refl
spread_nothing (Critical ∷ ts) = ap (λ (r : List ℕ). 0 ∷ r) (spread_nothing ts)
spread_nothing (Lower ∷ ts) = ap (λ (r : List ℕ). 0 ∷ r) (spread_nothing ts)
spread_nothing (Upper ∷ ts) = ap (λ (r : List ℕ). 0 ∷ r) (spread_nothing ts)

pub part_at : (ts : List Kind) (x : List ℕ) (i : ℕ) → length x ≡ length ts → i < criticals ts → get_or x (place_of ts i) 0 ≡ get_or (part ts x) i 0
part_at [] x i l lt = absurd (omega arith)
part_at (t ∷ ts) [] i l lt = absurd (omega arith)
part_at (Critical ∷ ts) (x ∷ xs) zero l lt = refl
part_at (Critical ∷ ts) (x ∷ xs) (suc i) l lt = part_at ts xs i (omega arith) (omega arith)
part_at (Lower ∷ ts) (x ∷ xs) i l lt = part_at ts xs i (omega arith) lt
part_at (Upper ∷ ts) (x ∷ xs) i l lt = part_at ts xs i (omega arith) lt

pub part_set : (ts : List Kind) (x : List ℕ) (i v : ℕ) → length x ≡ length ts → i < criticals ts → part ts (set x (place_of ts i) v) ≡ set (part ts x) i v
part_set [] x i v l lt = absurd (omega arith)
part_set (t ∷ ts) [] i v l lt = absurd (omega arith)
part_set (Critical ∷ ts) (x ∷ xs) zero v l lt = refl
part_set (Critical ∷ ts) (x ∷ xs) (suc i) v l lt = ap (λ (r : List ℕ). x ∷ r) (part_set ts xs i v (omega arith) (omega arith))
part_set (Lower ∷ ts) (x ∷ xs) i v l lt = part_set ts xs i v (omega arith) lt
part_set (Upper ∷ ts) (x ∷ xs) i v l lt = part_set ts xs i v (omega arith) lt

pub none_set : (ts : List Kind) (x : List ℕ) (i v : ℕ) → i < criticals ts → ZeroOnUppers ts x → ZeroOnUppers ts (set x (place_of ts i) v)
none_set [] x i v lt z = absurd (omega arith)
none_set (t ∷ ts) [] i v lt z = absurd z
none_set (Critical ∷ ts) (x ∷ xs) zero v lt z = z
none_set (Critical ∷ ts) (x ∷ xs) (suc i) v lt z = none_set ts xs i v (omega arith) z
none_set (Lower ∷ ts) (x ∷ xs) i v lt z = none_set ts xs i v lt z
none_set (Upper ∷ ts) (x ∷ xs) i v lt z = (z.0, none_set ts xs i v lt z.1)

-- ---- one critical cell after the other

pub index_in : (ts : List Kind) (cs : List ℕ) (i : ℕ) → cs ≡ critical_from 1 ts → i < criticals ts → i < length cs
index_in ts cs i e lt = let l : length cs ≡ criticals ts = ap (λ (xs : List ℕ). length xs) e ∙ critical_long 1 ts in omega arith

pub number_is : (ts : List Kind) (cs : List ℕ) (i d : ℕ) → cs ≡ critical_from 1 ts → i < criticals ts → get_or cs i d ≡ 1 + place_of ts i
number_is ts cs i d e lt = get_or_default cs i d 0 (index_in ts cs i e lt) ∙ (ap (λ (xs : List ℕ). get_or xs i 0) e ∙ critical_at 1 ts i lt)

pub number_low : (ts : List Kind) (cs : List ℕ) (i d : ℕ) → cs ≡ critical_from 1 ts → i < criticals ts → 1 ≤ get_or cs i d
number_low ts cs i d e lt = let h : get_or cs i d ≡ 1 + place_of ts i = number_is ts cs i d e lt in omega arith

pub number_high : (ts : List Kind) (cs : List ℕ) (i d n : ℕ) → cs ≡ critical_from 1 ts → i < criticals ts → n ≡ length ts → get_or cs i d ≤ n
number_high ts cs i d n e lt l = let h : get_or cs i d ≡ 1 + place_of ts i = number_is ts cs i d e lt in let b : place_of ts i < length ts = place_below ts i lt in omega arith

pub spread_step : (ts : List Kind) (w x now : List ℕ) (i number v : ℕ) → i < length w → length w ≡ criticals ts → x ≡ spread ts (take i w) → number ≡ 1 + place_of ts i → now ≡ set x (number - 1) v → v ≡ get_or w i 0 → now ≡ spread ts (take (i + 1) w)
spread_step ts w x now i number v lt l h e s g =
    let li : length (take i w) ≡ i = length-take-le i w (omega arith) in
    let p : number - 1 ≡ place_of ts (length (take i w)) = (let a : number - 1 ≡ place_of ts i = omega arith in a) ∙ ap (place_of ts) (sym li) in
    s ∙ (ap (λ (y : List ℕ). set y (number - 1) v) h ∙ (ap (λ (k : ℕ). set (spread ts (take i w)) k v) p
    ∙ (spread_put ts (take i w) v (let a : i < criticals ts = omega arith in subst (λ (k : ℕ). k < criticals ts) (sym li) a)
    ∙ ap (spread ts) (ap (λ (k : ℕ). take i w ++ k ∷ []) g ∙ sym (take_more w i 0 lt)))))

pub part_step : (ts : List Kind) (x w now : List ℕ) (i number v : ℕ) → i < criticals ts → length x ≡ length ts → length w ≡ criticals ts → ((j : ℕ) → j < i → get_or w j 0 ≡ get_or (part ts x) j 0) → number ≡ 1 + place_of ts i → v ≡ get_or x (number - 1) 0 → now ≡ set w i v
    → (j : ℕ) → j < i + 1 → get_or now j 0 ≡ get_or (part ts x) j 0
part_step ts x w now i number v lt lx lw h e g s j lj =
    ap (λ (r : List ℕ). get_or r j 0) s
    ∙ elim (cases_eq j i) [
      | inl b ↦ ap (λ (k : ℕ). get_or (set w i v) k 0) b ∙ (get_or-set_same w i v 0 (omega arith) ∙ (g ∙ (ap (λ (k : ℕ). get_or x k 0) (let a : number - 1 ≡ place_of ts i = omega arith in a) ∙ (part_at ts x i lx lt ∙ ap (λ (k : ℕ). get_or (part ts x) k 0) (sym b)))))
      | inr b ↦ get_or-set_other w i j v 0 b ∙ h j (omega arith)
    ]
