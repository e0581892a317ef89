-- Values of cochains by the numbers of chains.
use Rattle.std.proofs.Common.{◌≡◌, ℕ, suc, ◌+◌, ◌-◌, ◌<◌, ◌≤◌, List, [], ◌∷◌, ◌++◌, Bool, true, false, cond, map, reverse, take, length, get_or, Some, None, refl, ap, sym, ◌∙◌, subst, arith}
use Rattle.std.specs.Prelude.{option_map}
use Rattle.std.specs.declared.option.Option.{Option}
use Rattle.std.specs.Str.{bytes_eq}
use Rattle.std.proofs.lemmas.List.{take_more, reverse-append}
use Rattle.std.proofs.lemmas.Bool.{le-leb}
use Rattle.small_field.specs.Field.{Ops}
use Rattle.face_poset.specs.Poset.{facets_of}
use Rattle.number_lists.specs.Members.{In, here, there}
use Rattle.number_lists.proofs.CallerLemmas.{at-In}
use Rattle.order_complex.specs.Order.{IsOrdered}
use Rattle.order_complex.specs.Chains.{chains_of}
use Rattle.order_complex.specs.Cochains.{alternating, leave_out, value, coboundary_at}
use Rattle.order_complex.specs.Complex.{number_in, position_of, number_or_zero, complex_of}
use Rattle.order_complex.proofs.Chained.{chains_of-member, leave_out-member}
use Rattle.order_complex.proofs.Ordered.{ordered-chains_of}
use Rattle.order_complex.proofs.Graded.{placed, facets-are}
use Rattle.order_complex.proofs.Cancel.{reverse-reverse, complex-facets}
use Rattle.order_complex.proofs.Numbers.{number-at}

pub chain-long : (space : List (List (List ℕ))) (degree place : ℕ) → place < length (chains_of space degree) → length (get_or (chains_of space degree) place []) ≡ degree + 1
chain-long space degree place l =
    let c = chains_of-member space degree (get_or (chains_of space degree) place []) (at-In (chains_of space degree) place [] l) in
    ap (λ (x : List ℕ). length x) c.is ∙ omega (arith, c.long)

-- ---- the value by the number

pub position-in : (space : List (List (List ℕ))) (ids : List ℕ) (degree : ℕ) → degree ≤ 3 → length ids ≡ degree + 1 → position_of space ids ≡ number_in (chains_of space degree) ids
position-in space ids degree small e =
    let k : length ids - 1 ≡ degree = omega arith in
    rw (le-leb 1 (length ids) (omega arith), le-leb (length ids) 4 (omega arith), k) refl

pub record Found (xs : List ℕ) (n v : ℕ) : Type 0 where
  pub low : 1 ≤ n
  pub high : n ≤ length xs
  pub is : v ≡ get_or xs (n - 1) 0

value-later : (x : ℕ) (xs : List ℕ) (n v : ℕ) → Found xs n v → Found (x ∷ xs) (suc n) v
value-later x xs n v f =
    let e : suc n - 1 ≡ suc (n - 1) = omega (arith, f.low) in
    record { low = omega arith; high = omega (arith, f.high); is = f.is ∙ sym (ap (λ k. get_or (x ∷ xs) k 0) e) }

some-case : (t : Bool) (x : ℕ) (xs : List ℕ) (later : Option ℕ) (v n : ℕ) → ((m : ℕ) → later ≡ Some m → Found xs m v) → cond t (Some 1) (option_map suc later) ≡ Some n → Found (x ∷ xs) n (cond t x v)
some-case true x xs later v n go e =
    let one : ◌≡◌ {A = ℕ} 1 n = cc in
    subst (λ k. Found (x ∷ xs) k x) one record { low = lit; high = omega arith; is = refl }
  where
    lit : 1 ≤ 1
    lit = omega arith
some-case false x xs None v n go e = absurd (cc)
some-case false x xs (Some m) v n go e =
    let s : suc m ≡ n = cc in subst (λ k. Found (x ∷ xs) k v) s (value-later x xs m v (go m refl))

pub value-found : (chains : List (List ℕ)) (xs ids : List ℕ) (n : ℕ) → length xs ≡ length chains → number_in chains ids ≡ Some n → Found xs n (value chains xs ids)
value-found [] xs ids n l e = absurd (cc)
value-found (c ∷ chains) [] ids n l e = absurd (omega arith)
value-found (c ∷ chains) (x ∷ xs) ids n l e =
    some-case (bytes_eq c ids) x xs (number_in chains ids) (value chains xs ids) n (λ m h. value-found chains xs ids m (omega arith) h) e

none-case : (t : Bool) (x v : ℕ) (later : Option ℕ) → (later ≡ None → v ≡ 0) → cond t (Some 1) (option_map suc later) ≡ None → cond t x v ≡ 0
none-case true x v later go e = absurd (cc)
none-case false x v None go e = go refl
none-case false x v (Some m) go e = absurd (cc)

pub value-nowhere : (chains : List (List ℕ)) (xs ids : List ℕ) → number_in chains ids ≡ None → value chains xs ids ≡ 0
value-nowhere [] xs ids e = refl
value-nowhere (c ∷ chains) [] ids e = refl
value-nowhere (c ∷ chains) (x ∷ xs) ids e = none-case (bytes_eq c ids) x (value chains xs ids) (number_in chains ids) (λ h. value-nowhere chains xs ids h) e

-- ---- the coboundary by the facets

pub one_facet_more : (F : Ops) (x : List ℕ) (fs : List ℕ) (i f v now : ℕ) → i < length fs → f ≡ get_or fs i f
    → v ≡ alternating F (map (λ n. get_or x (n - 1) 0) (reverse (take i fs))) → now ≡ F.add (get_or x (f - 1) 0) (F.neg v)
    → now ≡ alternating F (map (λ n. get_or x (n - 1) 0) (reverse (take (i + 1) fs)))
one_facet_more F x fs i f v now l e m h =
    let g : ℕ → ℕ = λ n. get_or x (n - 1) 0 in
    h ∙ ap (λ k. F.add (get_or x (f - 1) 0) (F.neg k)) m
    ∙ sym (ap (λ xs. alternating F (map g (reverse xs))) (take_more fs i f l ∙ ap (λ k. take i fs ++ k ∷ []) (sym e)) ∙ ap (λ xs. alternating F (map g xs)) (reverse-snoc (take i fs) f))
  where
    reverse-snoc : (xs : List ℕ) (y : ℕ) → reverse (xs ++ y ∷ []) ≡ y ∷ reverse xs
    reverse-snoc xs y = reverse-append xs (y ∷ [])

map_map : (g : ℕ → ℕ) (f : List ℕ → ℕ) (xs : List (List ℕ)) → map g (map f xs) ≡ map (λ x. g (f x)) xs
map_map g f [] = refl
map_map g f (x ∷ xs) = ap (λ r. g (f x) ∷ r) (map_map g f xs)

map-members : (g h : List ℕ → ℕ) (cs : List (List ℕ)) → ((c : List ℕ) → In c cs → g c ≡ h c) → map g cs ≡ map h cs
map-members g h [] e = refl
map-members g h (c ∷ cs) e = rw (e c here, map-members g h cs (λ d m. e d (there m))) refl

value-member : (chains : List (List ℕ)) (xs b : List ℕ) (space : List (List (List ℕ))) (degree : ℕ) → chains ≡ chains_of space degree → length xs ≡ length chains → In b chains → get_or xs (number_or_zero chains b - 1) 0 ≡ value chains xs b
value-member chains xs b space degree e l m =
    let o = subst IsOrdered (sym e) (ordered-chains_of space degree) in
    let p = placed chains b o m in
    let n = number-at chains b p.place o p.within p.there in
    let f = value-found chains xs b (p.place + 1) l n in
    ap (λ k. get_or xs (k - 1) 0) p.number ∙ sym f.is

module _ (F : Ops) (space : List (List (List ℕ))) where
  pub coboundary-facets : (degree cell : ℕ) (x : List ℕ) → degree ≤ 2 → length x ≡ length (chains_of space degree) → 1 ≤ cell → cell ≤ length (chains_of space (degree + 1))
      → alternating F (map (λ n. get_or x (n - 1) 0) (reverse (facets_of (complex_of space) (degree + 1) cell))) ≡ coboundary_at F (chains_of space degree) x (get_or (chains_of space (degree + 1)) (cell - 1) [])
  coboundary-facets degree cell x small l first last =
      let up : degree + 1 ≡ suc degree = omega arith in
      subst (λ k. alternating F (map (λ n. get_or x (n - 1) 0) (reverse (facets_of (complex_of space) k cell))) ≡ coboundary_at F (chains_of space degree) x (get_or (chains_of space k) (cell - 1) [])) (sym up)
      (at (subst (λ k. cell ≤ length (chains_of space k)) up last))
    where
      at : cell ≤ length (chains_of space (suc degree))
          → alternating F (map (λ n. get_or x (n - 1) 0) (reverse (facets_of (complex_of space) (suc degree) cell))) ≡ coboundary_at F (chains_of space degree) x (get_or (chains_of space (suc degree)) (cell - 1) [])
      at high =
          let chains : List (List ℕ) = chains_of space degree in
          let chain : List ℕ = get_or (chains_of space (suc degree)) (cell - 1) [] in
          let m : In chain (chains_of space (suc degree)) = at-In (chains_of space (suc degree)) (cell - 1) [] (omega arith) in
          ap (λ fs. alternating F (map (λ n. get_or x (n - 1) 0) (reverse fs))) (complex-facets space degree cell small first high)
          ∙ ap (λ ns. alternating F (map (λ n. get_or x (n - 1) 0) ns)) (reverse-reverse (map (number_or_zero chains) (leave_out chain)))
          ∙ ap (alternating F) (map_map (λ n. get_or x (n - 1) 0) (number_or_zero chains) (leave_out chain)
          ∙ map-members (λ b. get_or x (number_or_zero chains b - 1) 0) (value chains x) (leave_out chain)
          (λ b k. value-member chains x b space degree refl l (leave_out-member space degree chain m b k)))

  -- the facets are numbers of chains of one degree less
  pub facet-range : (degree cell i : ℕ) → degree ≤ 2 → 1 ≤ cell → cell ≤ length (chains_of space (degree + 1)) → i < length (facets_of (complex_of space) (degree + 1) cell)
      → (1 ≤ get_or (facets_of (complex_of space) (degree + 1) cell) i 0) × (get_or (facets_of (complex_of space) (degree + 1) cell) i 0 ≤ length (chains_of space degree))
  facet-range degree cell i small first last l =
      let up : degree + 1 ≡ suc degree = omega arith in
      subst (λ k. i < length (facets_of (complex_of space) k cell) → (1 ≤ get_or (facets_of (complex_of space) k cell) i 0) × (get_or (facets_of (complex_of space) k cell) i 0 ≤ length (chains_of space degree))) (sym up)
      (at (subst (λ k. cell ≤ length (chains_of space k)) up last)) l
    where
      at : cell ≤ length (chains_of space (suc degree)) → i < length (facets_of (complex_of space) (suc degree) cell)
          → (1 ≤ get_or (facets_of (complex_of space) (suc degree) cell) i 0) × (get_or (facets_of (complex_of space) (suc degree) cell) i 0 ≤ length (chains_of space degree))
      at high b =
          let chain : List ℕ = get_or (chains_of space (suc degree)) (cell - 1) [] in
          let m : In chain (chains_of space (suc degree)) = at-In (chains_of space (suc degree)) (cell - 1) [] (omega arith) in
          let e = complex-facets space degree cell small first high in
          let c = facets-are space degree chain m in
          subst (λ fs. (1 ≤ get_or fs i 0) × (get_or fs i 0 ≤ length (chains_of space degree))) (sym e) (c.within i 0 (subst (λ (fs : List ℕ). i < length fs) e b))
