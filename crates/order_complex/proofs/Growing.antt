-- Lists of facets that grow by one row for each cell above the last one of a chain.
use Rattle.std.proofs.Common.{◌≡◌, ℕ, ◌+◌, ◌-◌, ◌<◌, ◌≤◌, suc, List, [], ◌∷◌, ◌++◌, map, take, length, get_or, refl, ap, sym, ◌∙◌, arith}
use Rattle.std.proofs.lemmas.List.{append_assoc, map-append, take_more, take_all}
use Rattle.std.specs.List.{flat_map}
use Rattle.order_complex.specs.Chains.{chains_of}
use Rattle.order_complex.specs.Listing.{extensions, uppers_of}
use Rattle.order_complex.proofs.Extended.{chains_of-next}
use Rattle.order_complex.proofs.Steps.{flat_map_more}

pub two-entries : (e : List ℕ) → length e ≡ 2 → e ≡ get_or e 0 0 ∷ get_or e 1 0 ∷ []
two-entries [] l = absurd (omega arith)
two-entries (a ∷ []) l = absurd (omega arith)
two-entries (a ∷ b ∷ []) l = refl
two-entries (a ∷ b ∷ c ∷ rest) l = absurd (omega arith)

pub three-entries : (e : List ℕ) → length e ≡ 3 → e ≡ get_or e 0 0 ∷ get_or e 1 0 ∷ get_or e 2 0 ∷ []
three-entries [] l = absurd (omega arith)
three-entries (a ∷ []) l = absurd (omega arith)
three-entries (a ∷ b ∷ []) l = absurd (omega arith)
three-entries (a ∷ b ∷ c ∷ []) l = refl
three-entries (a ∷ b ∷ c ∷ d ∷ rest) l = absurd (omega arith)

-- one row more
pub grown : (g : List ℕ → List ℕ) (chain : List ℕ) (initial now new : List (List ℕ)) (after : List ℕ) (place : ℕ) (row : List ℕ) → now ≡ initial ++ map g (map (λ upper. chain ++ upper ∷ []) (take place after)) → new ≡ now ++ row ∷ []
    → place < length after → row ≡ g (chain ++ get_or after place 0 ∷ []) → new ≡ initial ++ map g (map (λ upper. chain ++ upper ∷ []) (take (place + 1) after))
grown g chain initial now new after place row i n l r =
    let f : ℕ → List ℕ = λ upper. chain ++ upper ∷ [] in
    let front : List ℕ = take place after in
    n ∙ ap (λ rows. rows ++ row ∷ []) i ∙ append_assoc initial (map g (map f front)) (row ∷ [])
    ∙ ap (λ k. initial ++ (map g (map f front) ++ k ∷ [])) r
    ∙ ap (λ rows. initial ++ rows) (sym (ap (λ xs. map g (map f xs)) (take_more after place 0 l) ∙ ap (map g) (map-append f front (get_or after place 0 ∷ [])) ∙ map-append g (map f front) (f (get_or after place 0) ∷ [])))

-- a row for each cell above the last one of the chain
pub ended : (g : List ℕ → List ℕ) (uppers : List (List ℕ)) (chain : List ℕ) (last : ℕ) (initial now : List (List ℕ)) (after : List ℕ) (place : ℕ) → now ≡ initial ++ map g (map (λ upper. chain ++ upper ∷ []) (take place after))
    → place ≡ length after → after ≡ get_or uppers (last - 1) [] → get_or chain (length chain - 1) 0 ≡ last → now ≡ initial ++ map g (extensions uppers chain)
ended g uppers chain last initial now after place i p a e =
    i ∙ ap (λ xs. initial ++ map g (map (λ upper. chain ++ upper ∷ []) xs)) (take_all place after (omega arith) ∙ a ∙ ap (λ n. get_or uppers (n - 1) []) (sym e))

-- the rows of the chains that one chain more begins
pub chain-more : (g : List ℕ → List ℕ) (uppers chains : List (List ℕ)) (i : ℕ) (made now : List (List ℕ)) → i < length chains → made ≡ map g (flat_map (extensions uppers) (take i chains))
    → now ≡ made ++ map g (extensions uppers (get_or chains i [])) → now ≡ map g (flat_map (extensions uppers) (take (i + 1) chains))
chain-more g uppers chains i made now l m n =
    let f : List ℕ → List (List ℕ) = extensions uppers in
    let before : List (List ℕ) = flat_map f (take i chains) in
    n ∙ ap (λ rows. rows ++ map g (f (get_or chains i []))) m ∙ sym (map-append g before (f (get_or chains i [])))
    ∙ ap (map g) (flat_map_more f chains i [] (get_or chains i []) before (before ++ f (get_or chains i [])) l refl refl refl)

-- the rows of all chains of a degree
pub chain-all : (space : List (List (List ℕ))) (g : List ℕ → List ℕ) (degree index : ℕ) (chains facets : List (List ℕ)) → chains ≡ chains_of space degree → length chains ≤ index
    → facets ≡ map g (flat_map (extensions (uppers_of space)) (take index chains)) → facets ≡ map g (chains_of space (suc degree))
chain-all space g degree index chains facets e l f =
    f ∙ ap (λ cs. map g (flat_map (extensions (uppers_of space)) cs)) (take_all index chains l ∙ e) ∙ ap (map g) (chains_of-next space degree)
