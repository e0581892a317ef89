-- Triangles of vectors with marks as tests.
use Rattle.std.proofs.Common.{◌≡◌, ◌≢◌, ℕ, zero, suc, ◌<◌, List, [], ◌∷◌, ◌++◌, length, map, get_or, ap, sym, ◌∙◌, arith}
use Rattle.std.specs.List.{AllByRecursion}
use Rattle.std.proofs.lemmas.List.{get_or_default}
use Rattle.std.proofs.lemmas.List.Elements.{recursion_from_All}
use Rattle.small_field.specs.Field.{Ops, IsField}
use Rattle.linear_laws.specs.Marks.{mark}
use Rattle.linear_laws.specs.Triangle.{Triangle, TriangleOver}
use Rattle.linear_laws.specs.Vectors.{dot, row_at, IsMatrix, IsVector}
use Rattle.linear_laws.proofs.CallerLemmas.{all_append, dot_comm, dot_mark, mark_vector}

-- what holds of two lists joined holds of each
pub all_parts : {A : Type 0} (P : A → Type 0) (xs ys : List A) → AllByRecursion P (xs ++ ys) → AllByRecursion P xs × AllByRecursion P ys
all_parts P [] ys h = (tt, h)
all_parts P (x ∷ xs) ys h = let r = all_parts P xs ys h.1 in ((h.0, r.0), r.1)

pub all_map : {A B : Type 0} (P : B → Type 0) (f : A → B) (xs : List A) → AllByRecursion (λ x. P (f x)) xs → AllByRecursion P (map f xs)
all_map P f [] h = tt
all_map P f (x ∷ xs) h = (h.0, all_map P f xs h.1)

module _ (F : Ops) (L : IsField F) where
  -- a product with a mark
  pub at_mark : (n p : ℕ) (v : List ℕ) → IsVector F n v → p < n → dot F v (mark n p) ≡ get_or v p 0
  at_mark n p v w l = dot_comm F L v (mark n p) ∙ dot_mark F L n p v w l

  pub joined : (ds ts es us : List (List ℕ)) → TriangleOver F es ds ts → Triangle F es us → Triangle F (ds ++ es) (ts ++ us)
  joined [] [] es us h g = g
  joined [] (t ∷ ts) es us h g = absurd h
  joined (d ∷ ds) [] es us h g = absurd h
  joined (d ∷ ds) (t ∷ ts) es us h g = (h.0, h.1, joined ds ts es us h.2 g)

  -- a triangle, whose tests are zero on more vectors
  pub over : (es ds ts : List (List ℕ)) → Triangle F ds ts → AllByRecursion (λ t. AllByRecursion (λ e. dot F e t ≡ 0) es) ts → TriangleOver F es ds ts
  over es [] [] h z = tt
  over es [] (t ∷ ts) h z = absurd h
  over es (d ∷ ds) [] h z = absurd h
  over es (d ∷ ds) (t ∷ ts) h z = (h.0, all_append (λ e. dot F e t ≡ 0) ds es h.1 z.0, over es ds ts h.2 z.1)

  module _ (n : ℕ) where
    record AreTests (vs : List (List ℕ)) (ps : List ℕ) : Type 0 where
      long : length vs ≡ length ps
      within : (i : ℕ) → i < length ps → get_or ps i 0 < n
      own : (i : ℕ) → i < length ps → get_or (row_at vs i) (get_or ps i 0) 0 ≢ 0
      later : (i j : ℕ) → i < j → j < length ps → get_or (row_at vs j) (get_or ps i 0) 0 ≡ 0

    triangle_from : (vs : List (List ℕ)) (ps : List ℕ) → IsMatrix F n vs → AreTests vs ps → Triangle F vs (map (mark n) ps)
    triangle_from [] [] m t = tt
    triangle_from [] (p ∷ ps) m t = absurd (omega (arith, t.long))
    triangle_from (v ∷ vs) [] m t = absurd (omega (arith, t.long))
    triangle_from (v ∷ vs) (p ∷ ps) m t =
        let same : length vs ≡ length ps = omega (arith, t.long) in
        let l : p < n = t.within 0 (omega arith) in (
          λ e. t.own 0 (omega arith) (sym (at_mark n p v m.0 l) ∙ e),
          recursion_from_All (λ w. dot F w (mark n p) ≡ 0) vs
              (λ i d li.
              let is : get_or vs i d ≡ get_or vs i [] = get_or_default vs i d [] li in
              let w : IsVector F n (get_or vs i []) = at_place i vs li m.1 in
              ap (λ ys. dot F ys (mark n p)) is ∙ at_mark n p (get_or vs i []) w l ∙ t.later 0 (suc i) (omega arith) (omega (arith, li, same))),
          triangle_from vs ps m.1
              (record {
                long = same;
                within = λ i li. t.within (suc i) (omega (arith, li));
                own = λ i li. t.own (suc i) (omega (arith, li));
                later = λ i j lij lj. t.later (suc i) (suc j) (omega (arith, lij)) (omega (arith, lj));
              }),
        )
      where
        at_place : (i : ℕ) (ws : List (List ℕ)) → i < length ws → IsMatrix F n ws → IsVector F n (get_or ws i [])
        at_place zero [] li a = absurd (omega (arith, li))
        at_place zero (w ∷ ws) li a = a.0
        at_place (suc i) [] li a = absurd (omega (arith, li))
        at_place (suc i) (w ∷ ws) li a = at_place i ws (omega (arith, li)) a.1

    -- vectors that are not zero at places of their own, where the later ones are zero
    pub triangle_of : (vs : List (List ℕ)) (ps : List ℕ) → IsMatrix F n vs → length vs ≡ length ps → ((i : ℕ) → i < length ps → get_or ps i 0 < n) → ((i : ℕ) → i < length ps → get_or (row_at vs i) (get_or ps i 0) 0 ≢ 0)
        → ((i j : ℕ) → i < j → j < length ps → get_or (row_at vs j) (get_or ps i 0) 0 ≡ 0) → Triangle F vs (map (mark n) ps)
    triangle_of vs ps m long within own later = triangle_from vs ps m (record { long = long; within = within; own = own; later = later })

    pub marks_matrix : (ps : List ℕ) → IsMatrix F n (map (mark n) ps)
    marks_matrix [] = tt
    marks_matrix (p ∷ ps) = (mark_vector F L n p, marks_matrix ps)
