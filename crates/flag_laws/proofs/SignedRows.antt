-- The rows of the chains as a signed set are the coboundaries of the marks.
use Rattle.std.proofs.Common.{◌≡◌, ℕ, zero, suc, ◌+◌, ◌-◌, ◌<◌, ◌≤◌, List, [], ◌∷◌, map, length, get_or, refl, ap, sym, ◌∙◌, arith}
use Rattle.std.proofs.lemmas.List.{length-map, get_or-map, same_lists}
use Rattle.std.proofs.lemmas.List.FromFn.{length-map-range_with_len, get_or-map-range_with_len}
use Rattle.small_field.specs.Field.{Ops, IsField}
use Rattle.face_poset.specs.Words.{upto, holds}
use Rattle.face_poset.specs.Poset.{Layers, count, facets_of}
use Rattle.number_lists.proofs.CallerLemmas.{length-upto, at-In}
use Rattle.order_complex.specs.Chains.{chains_of}
use Rattle.order_complex.specs.Cochains.{leave_out, mark, coboundary_at, coboundary_on}
use Rattle.order_complex.specs.Complex.{number_or_zero, facet_numbers, facet_lists, complex_of, stands_odd, negative_in}
use Rattle.order_complex.specs.Ranks.{rows_on, rows_of}
use Rattle.order_complex.proofs.CallerLemmas.{chains_of-four, holds-reverse, weight, coboundary-mark, count-chains, layer-facets, number-of}
use Rattle.pair_stages.specs.Signed.{signed_entry, signed_rows}

nothings : {A B : Type 0} (xs : List A) (ys : List B) → length xs ≡ length ys → map {B = List ℕ} (λ x. []) xs ≡ map (λ y. []) ys
nothings [] [] e = refl
nothings [] (y ∷ ys) e = absurd (omega (arith, e))
nothings (x ∷ xs) [] e = absurd (omega (arith, e))
nothings (x ∷ xs) (y ∷ ys) e = ap (λ (r : List (List ℕ)). [] ∷ r) (nothings xs ys (omega (arith, e)))

module _ (F : Ops) (L : IsField F) (space : Layers) where
  abbrev entry_of : ℕ → ℕ → ℕ → ℕ
  entry_of degree = signed_entry F (complex_of space) (negative_in space) degree

  -- one entry
  entry_is : (degree i j d : ℕ) → degree ≤ 2 → i < length (chains_of space degree) → j < length (chains_of space (suc degree))
      → get_or (coboundary_on F (chains_of space degree) (chains_of space (suc degree)) (mark (chains_of space degree) (get_or (chains_of space degree) i []))) j d ≡ entry_of degree (i + 1) (j + 1)
  entry_is degree i j d small li lj =
      let chains : List (List ℕ) = chains_of space degree in
      let next : List (List ℕ) = chains_of space (suc degree) in
      let b : List ℕ = get_or chains i [] in
      let c : List ℕ = get_or next j [] in
      let ms : List ℕ = map (number_or_zero chains) (leave_out c) in
      let same : i + 1 - 1 ≡ i = omega arith in
      let place : j ≡ j + 1 - 1 = omega arith in
      let up : suc degree ≡ degree + 1 = omega arith in
      let number : number_or_zero chains b ≡ i + 1 = ap (λ k. number_or_zero chains (get_or chains k [])) (sym same) ∙ number-of space degree (i + 1) (omega arith) (omega arith) in
      get_or-map (coboundary_at F chains (mark chains b)) next j [] d lj
      ∙ coboundary-mark space F L degree (i + 1) b c (at-In chains i [] li) (at-In next j [] lj) number
      ∙ ap (λ t. weight F t (stands_odd ms (i + 1))) (sym (holds-reverse (i + 1) ms) ∙ ap (λ fs. holds fs (i + 1)) (sym (get_or-map (facet_numbers chains) next j [] [] lj)))
      ∙ ap (λ k. weight F (holds (get_or (facet_lists space (suc degree)) k []) (i + 1)) (stands_odd (map (number_or_zero chains) (leave_out (get_or next k []))) (i + 1))) place
      ∙ ap (λ (fs : List (List ℕ)). weight F (holds (get_or fs (j + 1 - 1) []) (i + 1)) (negative_in space (suc degree) (j + 1) (i + 1))) (sym (layer-facets space degree small))
      ∙ ap (λ k. weight F (holds (facets_of (complex_of space) (degree + 1) (j + 1)) (i + 1)) (negative_in space k (j + 1) (i + 1))) up

  count_next : (degree : ℕ) → degree ≤ 2 → count (complex_of space) (degree + 1) ≡ length (chains_of space (suc degree))
  count_next degree small = count-chains space (degree + 1) (omega arith) ∙ ap (λ k. length (chains_of space k)) (let up : degree + 1 ≡ suc degree = omega arith in up)

  row_is : (degree i : ℕ) → degree ≤ 2 → i < length (chains_of space degree)
      → map (entry_of degree (i + 1)) (upto (count (complex_of space) (degree + 1))) ≡ coboundary_on F (chains_of space degree) (chains_of space (suc degree)) (mark (chains_of space degree) (get_or (chains_of space degree) i []))
  row_is degree i small li =
      let n : ℕ = count (complex_of space) (degree + 1) in
      let next : List (List ℕ) = chains_of space (suc degree) in
      let b : List ℕ = mark (chains_of space degree) (get_or (chains_of space degree) i []) in
      let many : length (map (entry_of degree (i + 1)) (upto n)) ≡ n = length-map-range_with_len (entry_of degree (i + 1)) 1 n in
      same_lists (map (entry_of degree (i + 1)) (upto n)) (coboundary_on F (chains_of space degree) next b)
      (many ∙ count_next degree small ∙ sym (length-map next (coboundary_at F (chains_of space degree) b)))
      (λ j d l.
      get_or-map-range_with_len (entry_of degree (i + 1)) 1 n j (j + 1) d (omega (arith, many, l)) (omega arith)
      ∙ sym (entry_is degree i j d small li (omega (arith, many, l, count_next degree small))))

  rows_are : (degree : ℕ) → degree ≤ 2 → signed_rows F (complex_of space) (negative_in space) degree ≡ rows_of F space degree
  rows_are degree small =
      let chains : List (List ℕ) = chains_of space degree in
      let next : List (List ℕ) = chains_of space (suc degree) in
      let n : ℕ = count (complex_of space) degree in
      let row : ℕ → List ℕ = λ lower. map (entry_of degree lower) (upto (count (complex_of space) (degree + 1))) in
      let many : length (map row (upto n)) ≡ n = length-map-range_with_len row 1 n in
      let cells : n ≡ length chains = count-chains space degree (omega arith) in
      same_lists (map row (upto n)) (rows_on F chains next)
      (many ∙ cells ∙ sym (length-map chains (λ b. coboundary_on F chains next (mark chains b))))
      (λ i d l.
      get_or-map-range_with_len row 1 n i (i + 1) d (omega (arith, many, l)) (omega arith)
      ∙ row_is degree i small (omega (arith, many, l, cells))
      ∙ sym (get_or-map (λ b. coboundary_on F chains next (mark chains b)) chains i [] d (omega (arith, many, l, cells))))

  rows_three : signed_rows F (complex_of space) (negative_in space) 3 ≡ rows_of F space 3
  rows_three =
      nothings (upto (count (complex_of space) 3)) (chains_of space 3) (length-upto (count (complex_of space) 3) ∙ count-chains space 3 (omega arith))
      ∙ ap (rows_on F (chains_of space 3)) (sym (chains_of-four space))

  pub signed-rows_of : (degree : ℕ) → degree ≤ 3 → signed_rows F (complex_of space) (negative_in space) degree ≡ rows_of F space degree
  signed-rows_of zero small = rows_are 0 (omega arith)
  signed-rows_of (suc zero) small = rows_are 1 (omega arith)
  signed-rows_of (suc (suc zero)) small = rows_are 2 (omega arith)
  signed-rows_of (suc (suc (suc zero))) small = rows_three
  signed-rows_of (suc (suc (suc (suc degree)))) small = absurd (omega arith)
