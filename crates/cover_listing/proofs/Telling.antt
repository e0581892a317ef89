-- The text of what is handed on; f is the text of each.
use Rattle.std.proofs.Common.{◌≡◌, ℕ, List, [], ◌∷◌, ◌++◌, map, refl, ap, sym, ◌∙◌, Ok}
use Rattle.std.specs.List.{flat_map}
use Rattle.std.proofs.lemmas.List.{append-nil, append_assoc}
use Rattle.std.specs.declared.option.Option.{Option}
use Rattle.hap_outside.specs.Gathers.{Gathers}
use Rattle.hap_outside.proofs.CallerLemmas.{gathers_next, gathers_nothing}
use Rattle.live_laws.specs.Live.{Position}
use Rattle.cover_listing.specs.Events.{Event, Finds, Ends, rest_of_section, counts_of}

pub flat-append : (f : Event → List ℕ) (xs ys : List Event) → flat_map f (xs ++ ys) ≡ flat_map f xs ++ flat_map f ys
flat-append f [] ys = refl
flat-append f (x ∷ xs) ys = ap (λ zs. f x ++ zs) (flat-append f xs ys) ∙ sym (append_assoc (f x) (flat_map f xs) (flat_map f ys))

map-append : (c : ℕ) (ts us : List Position) → map (Finds c) (ts ++ us) ≡ map (Finds c) ts ++ map (Finds c) us
map-append c [] us = refl
map-append c (t ∷ ts) us = ap (λ es. Finds c t ∷ es) (map-append c ts us)

-- one table more
pub told-more : (f : Event → List ℕ) (c : ℕ) (ts us : List Position) (t : Position) → us ≡ ts ++ t ∷ [] → flat_map f (map (Finds c) ts) ++ f (Finds c t) ≡ flat_map f (map (Finds c) us)
told-more f c ts us t e =
    ap (λ bs. flat_map f (map (Finds c) ts) ++ bs) (sym (append-nil (f (Finds c t))))
    ∙ (sym (flat-append f (map (Finds c) ts) (Finds c t ∷ []))
    ∙ ap (flat_map f) (sym (map-append c ts (t ∷ [])) ∙ ap (map (Finds c)) (sym e)))

-- a table, and those behind it
pub told-split : (f : Event → List ℕ) (c : ℕ) (ts us whole : List Position) (t : Position) → whole ≡ ts ++ (t ∷ us)
    → flat_map f (map (Finds c) ts) ++ (f (Finds c t) ++ flat_map f (map (Finds c) us)) ≡ flat_map f (map (Finds c) whole)
told-split f c ts us whole t e =
    sym (flat-append f (map (Finds c) ts) (map (Finds c) (t ∷ us)))
    ∙ ap (flat_map f) (sym (map-append c ts (t ∷ us)) ∙ ap (map (Finds c)) (sym e))

pub told-alone : (f : Event → List ℕ) (c : ℕ) (ts : List Position) (t : Position) → ts ≡ t ∷ [] → f (Finds c t) ≡ flat_map f (map (Finds c) ts)
told-alone f c ts t e = sym (append-nil (f (Finds c t))) ∙ ap (λ (us : List Position). flat_map f (map (Finds c) us)) (sym e)

-- the tables and the end of a component
pub told-rest : (f : Event → List ℕ) (n c : ℕ) (ts : List Position) (numbers : List ℕ) → numbers ≡ counts_of n ts
    → flat_map f (map (Finds c) ts) ++ f (Ends numbers) ≡ flat_map f (rest_of_section n c ts)
told-rest f n c ts numbers e =
    ap (λ bs. flat_map f (map (Finds c) ts) ++ bs) (ap (λ (ks : List ℕ). f (Ends ks)) e ∙ sym (append-nil (f (Ends (counts_of n ts)))))
    ∙ sym (flat-append f (map (Finds c) ts) (Ends (counts_of n ts) ∷ []))

-- the same, where columns and table are known by equations
pub told-next : (f : Event → List ℕ) (c d : ℕ) (ts us : List Position) (t u : Position) → us ≡ ts ++ u ∷ [] → d ≡ c → t ≡ u
    → flat_map f (map (Finds c) ts) ++ f (Finds d t) ≡ flat_map f (map (Finds c) us)
told-next f c d ts us t u e same is =
    ap (λ (k : ℕ). flat_map f (map (Finds c) ts) ++ f (Finds k t)) same
    ∙ (ap (λ (q : Position). flat_map f (map (Finds c) ts) ++ f (Finds c q)) is ∙ told-more f c ts us u e)

pub told-broken : (f : Event → List ℕ) (c d : ℕ) (ts us whole : List Position) (t u : Position) → whole ≡ ts ++ (u ∷ us) → d ≡ c → t ≡ u
    → (flat_map f (map (Finds c) ts) ++ f (Finds d t)) ++ flat_map f (map (Finds c) us) ≡ flat_map f (map (Finds c) whole)
told-broken f c d ts us whole t u e same is =
    append_assoc (flat_map f (map (Finds c) ts)) (f (Finds d t)) (flat_map f (map (Finds c) us))
    ∙ (ap (λ (k : ℕ). flat_map f (map (Finds c) ts) ++ (f (Finds k t) ++ flat_map f (map (Finds c) us))) same
    ∙ (ap (λ (q : Position). flat_map f (map (Finds c) ts) ++ (f (Finds c q) ++ flat_map f (map (Finds c) us))) is ∙ told-split f c ts us whole u e))

-- what was gathered is the text, whatever is answered
pub gathers_same : {T U E : Type 0} (a b : Option (List ℕ)) (before after text whole : List ℕ) (x : T) (y : U) → text ≡ whole
    → Gathers {E = E} a b before after text (Ok x) → Gathers {E = E} a b before after whole (Ok y)
gathers_same {T} {U} {E} a b before after text whole x y e p = gathers_next a b b before after after text [] whole x (Ok y) (append-nil text ∙ e) p (gathers_nothing {E = E} b after y)

pub told-end : (f : Event → List ℕ) (n c : ℕ) (ts us : List Position) (numbers : List ℕ) → ts ≡ us → numbers ≡ counts_of n us
    → flat_map f (map (Finds c) ts) ++ f (Ends numbers) ≡ flat_map f (rest_of_section n c us)
told-end f n c ts us numbers same e = ap (λ (xs : List Position). flat_map f (map (Finds c) xs) ++ f (Ends numbers)) same ∙ told-rest f n c us numbers e
