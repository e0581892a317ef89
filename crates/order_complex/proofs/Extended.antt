-- The chains of a degree, each with one cell more at its end, are the chains of the next degree.
use Rattle.std.proofs.Common.{◌≡◌, ℕ, zero, suc, ◌-◌, ◌≤◌, List, [], ◌∷◌, ◌++◌, map, length, get_or, refl, ap, sym, ◌∙◌, arith}
use Rattle.std.specs.List.{flat_map}
use Rattle.std.proofs.lemmas.List.{append-nil, length-map, map-append}
use Rattle.std.proofs.lemmas.List.Concat.{flat_map-cons, flat_map_single}
use Rattle.std.proofs.lemmas.Grind.{flat_map-append}
use Rattle.std.proofs.lemmas.List.FromFn.{get_or-map-range_with_len}
use Rattle.face_poset.specs.Words.{upto}
use Rattle.face_poset.specs.Poset.{cell_count}
use Rattle.number_lists.specs.Cofaces.{cells_with}
use Rattle.number_lists.proofs.CallerLemmas.{length-upto, flat_map-In, upto-In}
use Rattle.number_lists.specs.Members.{In, here, there}
use Rattle.order_complex.specs.Chains.{all_faces, above, chains_from, chains_of}
use Rattle.order_complex.specs.Listing.{extensions, uppers_of}
use Rattle.order_complex.proofs.FaceIds.{length-all_faces}
use Rattle.order_complex.proofs.Chained.{above-member, chains_from-member}

flat_map-flat_map : {A B C : Type 0} (f : B → List C) (g : A → List B) (xs : List A) → flat_map f (flat_map g xs) ≡ flat_map (λ x. flat_map f (g x)) xs
flat_map-flat_map f g [] = refl
flat_map-flat_map f g (x ∷ xs) =
    ap (flat_map f) (flat_map-cons g x xs) ∙ flat_map-append f (g x) (flat_map g xs) ∙ ap (λ r. flat_map f (g x) ++ r) (flat_map-flat_map f g xs) ∙ sym (flat_map-cons (λ x. flat_map f (g x)) x xs)

flat_map-members : {A B : Type 0} (f g : A → List B) (xs : List A) → ((x : A) → In x xs → f x ≡ g x) → flat_map f xs ≡ flat_map g xs
flat_map-members f g [] e = refl
flat_map-members f g (x ∷ xs) e =
    flat_map-cons f x xs ∙ ap (λ r. r ++ flat_map f xs) (e x here) ∙ ap (λ r. g x ++ r) (flat_map-members f g xs (λ y m. e y (there m))) ∙ sym (flat_map-cons g x xs)

map_map : {A B C : Type 0} (g : B → C) (f : A → B) (xs : List A) → map g (map f xs) ≡ map (λ x. g (f x)) xs
map_map g f [] = refl
map_map g f (x ∷ xs) = ap (λ r. g (f x) ∷ r) (map_map g f xs)

-- the extensions of a chain with one cell more in front
extensions-cons : (uppers : List (List ℕ)) (c x : ℕ) (t : List ℕ) → map (λ chain. c ∷ chain) (extensions uppers (x ∷ t)) ≡ extensions uppers (c ∷ x ∷ t)
extensions-cons uppers c x t = map_map (λ chain. c ∷ chain) (λ upper. (x ∷ t) ++ upper ∷ []) (get_or uppers (get_or (x ∷ t) (length (x ∷ t) - 1) 0 - 1) [])
    ∙ ap (λ i. map (λ upper. (c ∷ x ∷ t) ++ upper ∷ []) (get_or uppers (i - 1) [])) (last_same t)
  where
    last_same : (t : List ℕ) → get_or (x ∷ t) (length (x ∷ t) - 1) 0 ≡ get_or (c ∷ x ∷ t) (length (c ∷ x ∷ t) - 1) 0
    last_same t = at (length (x ∷ t) - 1) (length (c ∷ x ∷ t) - 1) (omega arith)
      where
        at : (i j : ℕ) → j ≡ suc i → get_or (x ∷ t) i 0 ≡ get_or (c ∷ x ∷ t) j 0
        at i j e = sym (ap (λ k. get_or (c ∷ x ∷ t) k 0) e)

flat_map-cons-map : (uppers : List (List ℕ)) (c : ℕ) (chains : List (List ℕ)) → ((t : List ℕ) → In t chains → (y : ℕ) × (ys : List ℕ) × (t ≡ y ∷ ys))
    → flat_map (extensions uppers) (map (λ chain. c ∷ chain) chains) ≡ map (λ chain. c ∷ chain) (flat_map (extensions uppers) chains)
flat_map-cons-map uppers c [] some = refl
flat_map-cons-map uppers c (t ∷ chains) some =
    let s = some t here in
    let one : extensions uppers (c ∷ t) ≡ map (λ chain. c ∷ chain) (extensions uppers t) =
    ap (λ u. extensions uppers (c ∷ u)) s.2 ∙ sym (extensions-cons uppers c s.0 s.1) ∙ ap (λ u. map (λ chain. c ∷ chain) (extensions uppers u)) (sym s.2) in
    flat_map-cons (extensions uppers) (c ∷ t) (map (λ chain. c ∷ chain) chains)
    ∙ ap (λ r. r ++ flat_map (extensions uppers) (map (λ chain. c ∷ chain) chains)) one
    ∙ ap (λ r. map (λ chain. c ∷ chain) (extensions uppers t) ++ r) (flat_map-cons-map uppers c chains (λ u m. some u (there m)))
    ∙ sym (map-append (λ chain. c ∷ chain) (extensions uppers t) (flat_map (extensions uppers) chains))
    ∙ ap (map (λ chain. c ∷ chain)) (sym (flat_map-cons (extensions uppers) t chains))

module _ (space : List (List (List ℕ))) where
  abbrev faces : List (List ℕ)
  faces = all_faces space

  pub length-uppers_of : length (uppers_of space) ≡ cell_count space
  length-uppers_of = length-map (upto (length faces)) (cells_with faces) ∙ length-upto (length faces) ∙ length-all_faces space

  pub uppers_of-at : (c : ℕ) → 1 ≤ c → c ≤ cell_count space → get_or (uppers_of space) (c - 1) [] ≡ above faces c
  uppers_of-at c low high = get_or-map-range_with_len (cells_with faces) 1 (length faces) (c - 1) c [] (omega (arith, length-all_faces space)) (omega arith)

  one_cell : (c : ℕ) → flat_map (chains_from faces 0) (above faces c) ≡ map (λ b. b ∷ []) (above faces c)
  one_cell c = flat_map_single (λ b. b ∷ []) (above faces c)

  from-extended : (more c : ℕ) → 1 ≤ c → c ≤ cell_count space → flat_map (extensions (uppers_of space)) (chains_from faces more c) ≡ chains_from faces (suc more) c
  from-extended zero c low high =
      flat_map-cons (extensions (uppers_of space)) (c ∷ []) [] ∙ append-nil (extensions (uppers_of space) (c ∷ []))
      ∙ ap (map (λ upper. (c ∷ []) ++ upper ∷ [])) (uppers_of-at c low high)
      ∙ sym (ap (map (λ chain. c ∷ chain)) (one_cell c) ∙ map_map (λ chain. c ∷ chain) (λ b. b ∷ []) (above faces c))
  from-extended (suc more) c low high =
      flat_map-cons-map (uppers_of space) c (flat_map (chains_from faces more) (above faces c)) (λ t m. nonempty t m)
      ∙ ap (map (λ chain. c ∷ chain))
      (flat_map-flat_map (extensions (uppers_of space)) (chains_from faces more) (above faces c)
      ∙ flat_map-members (λ b. flat_map (extensions (uppers_of space)) (chains_from faces more b)) (chains_from faces (suc more)) (above faces c)
      (λ b m. let a = above-member space c b m in from-extended more b a.low a.high))
    where
      nonempty : (t : List ℕ) → In t (flat_map (chains_from faces more) (above faces c)) → (y : ℕ) × (ys : List ℕ) × (t ≡ y ∷ ys)
      nonempty t m =
          let r = flat_map-In (chains_from faces more) (above faces c) m in
          let s = chains_from-member space more r.0 t r.2 in (r.0, s.0, s.1)

  pub chains_of-next : (degree : ℕ) → flat_map (extensions (uppers_of space)) (chains_of space degree) ≡ chains_of space (suc degree)
  chains_of-next degree =
      flat_map-flat_map (extensions (uppers_of space)) (chains_from faces degree) (upto (length faces))
      ∙ flat_map-members (λ c. flat_map (extensions (uppers_of space)) (chains_from faces degree c)) (chains_from faces (suc degree)) (upto (length faces))
      (λ c m. let b = upto-In (length faces) c m in from-extended degree c b.0 (omega (arith, b.1, length-all_faces space)))

  pub chains_of-zero : chains_of space 0 ≡ map (λ c. c ∷ []) (upto (cell_count space))
  chains_of-zero = flat_map_single (λ c. c ∷ []) (upto (length faces)) ∙ ap (λ n. map (λ c. c ∷ []) (upto n)) (length-all_faces space)
