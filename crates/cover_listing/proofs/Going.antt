-- A pass over the components, as far as it has gone: rs are the searches that are left.
use Rattle.std.proofs.Common.{◌≡◌, ℕ, zero, suc, ◌+◌, ◌-◌, ◌<◌, ◌≤◌, List, [], ◌∷◌, ◌++◌, length, take, drop, refl, ap, arith, sym, subst, ◌∙◌, Bool, true, false, ◌&&◌, ◌||◌, Some, None}
use Rattle.std.specs.Prelude.{nat_lt, nat_le, if◌then◌else◌, slice_get}
use Rattle.number_lists.proofs.CallerLemmas.{take-slice_get}
use Rattle.std.specs.List.{flat_map}
use Rattle.std.proofs.lemmas.Bool.{false≢true}
use Rattle.std.proofs.lemmas.List.{append-nil, append_assoc, take_all}
use Rattle.live_laws.specs.Live.{Relations, Position, live}
use Rattle.cover_search.specs.Searches.{Searching, begun, last_of}
use Rattle.cover_listing.specs.Events.{Event, section}
use Rattle.cover_listing.specs.Nths.{found}
use Rattle.cover_listing.specs.Listings.{CanBegin, Planned}
use Rattle.cover_listing.specs.Passes.{IsPlan, begun_each, moves, stops, stop_at, pass, pass_spent, relations_in_all, first_position}
use Rattle.cover_listing.proofs.Telling.{flat-append}

pub record IsLeft (n b until index component : ℕ) (rs : List Searching) : Type 0 where
  pub fresh : rs ≡ begun_each n (first_position rs) (relations_in_all rs)
  pub first : 1 ≤ component
  pub numbers : component + length rs ≤ 60001
  pub few : index + length rs ≤ 60001
  pub reaches : (i : ℕ) → moves (drop i (relations_in_all rs)) ≡ nat_lt (index + i) until
  pub some : moves (relations_in_all rs) ≡ true → 1 ≤ b

module _ (n b until index component : ℕ) (s : Searching) (us : List Searching) (h : IsLeft n b until index component (s ∷ us)) where
  pub this-fresh : s ≡ begun s.relations n s.position
  this-fresh = let e : s ∷ us ≡ begun s.relations n s.position ∷ begun_each n (0, []) (relations_in_all us) = h.fresh in cc

  later-fresh : us ≡ begun_each n (0, []) (relations_in_all us)
  later-fresh = let e : s ∷ us ≡ begun s.relations n s.position ∷ begun_each n (0, []) (relations_in_all us) = h.fresh in cc

  pub later-start : first_position us ≡ (0, [])
  later-start = one us later-fresh
    where
      one : (vs : List Searching) → vs ≡ begun_each n (0, []) (relations_in_all vs) → ◌≡◌ {A = Position} (first_position vs) (0, [])
      one [] e = refl
      one (v ∷ vs) e = let f : v ≡ begun v.relations n (0, []) = cc in ap (λ (v : Searching). v.position) f

  pub later-moves : moves (relations_in_all us) ≡ nat_lt (index + 1) until
  later-moves = h.reaches 1

  pub this-some : (more : Bool) → more ≡ nat_lt (index + 1) until → (nat_lt 0 s.relations.generators || more) ≡ true → 1 ≤ b
  this-some more m e = h.some (ap (λ (a : Bool). nat_lt 0 s.relations.generators || a) (later-moves ∙ sym m) ∙ e)

  module _ (more : Bool) (m : more ≡ nat_lt (index + 1) until) where
    stops-same : stops s.relations (moves (relations_in_all us)) n s.position b ≡ stops s.relations more n s.position b
    stops-same = ap (λ (a : Bool). stops s.relations a n s.position b) (later-moves ∙ sym m)

    -- it goes on
    module _ (e : None ≡ stop_at s.relations more n s.position b) where
      goes : stops s.relations more n s.position b ≡ false
      goes = one (stops s.relations more n s.position b) e
        where
          one : (a : Bool) → None ≡ (if a then Some (last_of s.position (take b (live s.relations n s.position))) else None) → a ≡ false
          one true e = absurd (grind (arith, e))
          one false e = refl

      later-some : moves (relations_in_all us) ≡ true → 1 ≤ b - length (live s.relations n s.position)
      later-some t = one (nat_lt b (length (live s.relations n s.position))) (nat_le b (length (live s.relations n s.position))) refl refl
          (ap (λ (a : Bool). nat_lt b (length (live s.relations n s.position)) || (nat_le b (length (live s.relations n s.position)) && a)) (sym t) ∙ (stops-same ∙ goes))
        where
          one : (a c : Bool) → nat_lt b (length (live s.relations n s.position)) ≡ a → nat_le b (length (live s.relations n s.position)) ≡ c → (a || (c && true)) ≡ false → 1 ≤ b - length (live s.relations n s.position)
          one true c f g k = absurd (false≢true (sym k))
          one false true f g k = absurd (false≢true (sym k))
          one false false f g k = grind (arith, g)

      pub goes-left : (after : ℕ) → after ≡ b - length (live s.relations n s.position) → IsLeft n after until (index + 1) (component + 1) us
      goes-left after is = record {
        fresh = later-fresh ∙ ap (λ (t : Position). begun_each n t (relations_in_all us)) (sym later-start);
        first = omega (arith, h.first);
        numbers = omega (arith, h.numbers);
        few = omega (arith, h.few);
        reaches = λ i. (let k : index + (suc i) ≡ (index + 1) + i = omega arith in h.reaches (suc i) ∙ ap (λ (j : ℕ). nat_lt j until) k);
        some = λ t. subst (λ (k : ℕ). 1 ≤ k) (sym is) (later-some t);
      }

      next : suc component ≡ component + 1
      next = omega arith

      pub goes-spent : (after : ℕ) → after ≡ b - length (live s.relations n s.position)
          → pass_spent n after (first_position us) (component + 1) (relations_in_all us) ≡ pass_spent n b s.position component (relations_in_all (s ∷ us))
      goes-spent after is =
          ap (λ (k : ℕ). pass_spent n k (first_position us) (component + 1) (relations_in_all us)) is
          ∙ (ap (λ (t : Position). pass_spent n (b - length (live s.relations n s.position)) t (component + 1) (relations_in_all us)) later-start
          ∙ (ap (λ (k : ℕ). pass_spent n (b - length (live s.relations n s.position)) (0, []) k (relations_in_all us)) (sym next)
          ∙ sym (ap (λ (a : Bool). if a then Some (component, last_of s.position (take b (live s.relations n s.position))) else pass_spent n (b - length (live s.relations n s.position)) (0, []) (suc component) (relations_in_all us)) (stops-same ∙ goes))))

      goes-pass : (after : ℕ) → after ≡ b - length (live s.relations n s.position)
          → section n component s.relations.generators (found s.relations n s.position b) ++ pass n after (first_position us) (component + 1) (relations_in_all us) ≡ pass n b s.position component (relations_in_all (s ∷ us))
      goes-pass after is =
          ap (λ (es : List Event). section n component s.relations.generators (found s.relations n s.position b) ++ es)
          (ap (λ (k : ℕ). pass n k (first_position us) (component + 1) (relations_in_all us)) is
          ∙ (ap (λ (t : Position). pass n (b - length (live s.relations n s.position)) t (component + 1) (relations_in_all us)) later-start
          ∙ (ap (λ (k : ℕ). pass n (b - length (live s.relations n s.position)) (0, []) k (relations_in_all us)) (sym next)
          ∙ sym (ap (λ (a : Bool). if a then [] else pass n (b - length (live s.relations n s.position)) (0, []) (suc component) (relations_in_all us)) (stops-same ∙ goes)))))

      pub goes-text : (f : Event → List ℕ) (done whole : List ℕ) (after : ℕ) → after ≡ b - length (live s.relations n s.position)
          → done ++ flat_map f (pass n b s.position component (relations_in_all (s ∷ us))) ≡ whole
          → (done ++ flat_map f (section n component s.relations.generators (found s.relations n s.position b))) ++ flat_map f (pass n after (first_position us) (component + 1) (relations_in_all us)) ≡ whole
      goes-text f done whole after is e =
          append_assoc done (flat_map f (section n component s.relations.generators (found s.relations n s.position b))) (flat_map f (pass n after (first_position us) (component + 1) (relations_in_all us)))
          ∙ (ap (λ bs. done ++ bs) (sym (flat-append f (section n component s.relations.generators (found s.relations n s.position b)) (pass n after (first_position us) (component + 1) (relations_in_all us))) ∙ ap (flat_map f) (goes-pass after is)) ∙ e)

    -- it stops here
    module _ (p : Position) (e : Some p ≡ stop_at s.relations more n s.position b) where
      halts : stops s.relations more n s.position b ≡ true
      halts = one (stops s.relations more n s.position b) e
        where
          one : (a : Bool) → Some p ≡ (if a then Some (last_of s.position (take b (live s.relations n s.position))) else None) → a ≡ true
          one true e = refl
          one false e = absurd (grind (arith, e))

      is-last : p ≡ last_of s.position (take b (live s.relations n s.position))
      is-last = let k : Some p ≡ Some (last_of s.position (take b (live s.relations n s.position))) = e ∙ ap (λ (a : Bool). if a then Some (last_of s.position (take b (live s.relations n s.position))) else None) halts in cc

      pub stop-spent : Some (component, p) ≡ pass_spent n b s.position component (relations_in_all (s ∷ us))
      stop-spent =
          ap (λ (q : Position). Some (component, q)) is-last
          ∙ sym (ap (λ (a : Bool). if a then Some (component, last_of s.position (take b (live s.relations n s.position))) else pass_spent n (b - length (live s.relations n s.position)) (0, []) (suc component) (relations_in_all us)) (stops-same ∙ halts))

      stop-pass : section n component s.relations.generators (found s.relations n s.position b) ≡ pass n b s.position component (relations_in_all (s ∷ us))
      stop-pass =
          sym (append-nil (section n component s.relations.generators (found s.relations n s.position b)))
          ∙ ap (λ (es : List Event). section n component s.relations.generators (found s.relations n s.position b) ++ es)
          (sym (ap (λ (a : Bool). if a then [] else pass n (b - length (live s.relations n s.position)) (0, []) (suc component) (relations_in_all us)) (stops-same ∙ halts)))

      pub stop-text : (f : Event → List ℕ) (done whole : List ℕ)
          → done ++ flat_map f (pass n b s.position component (relations_in_all (s ∷ us))) ≡ whole
          → done ++ flat_map f (section n component s.relations.generators (found s.relations n s.position b)) ≡ whole
      stop-text f done whole e = ap (λ es. done ++ flat_map f es) stop-pass ∙ e

    -- a front of the text, whatever comes
    abbrev pub this-front : List Event
    this-front = if stops s.relations (moves (relations_in_all us)) n s.position b then [] else pass n (b - length (live s.relations n s.position)) (0, []) (suc component) (relations_in_all us)

    pub front-text : (f : Event → List ℕ) (done whole : List ℕ)
        → done ++ flat_map f (pass n b s.position component (relations_in_all (s ∷ us))) ≡ whole
        → (done ++ flat_map f (section n component s.relations.generators (found s.relations n s.position b))) ++ flat_map f this-front ≡ whole
    front-text f done whole e =
        append_assoc done (flat_map f (section n component s.relations.generators (found s.relations n s.position b))) (flat_map f this-front)
        ∙ (ap (λ bs. done ++ bs) (sym (flat-append f (section n component s.relations.generators (found s.relations n s.position b)) this-front)) ∙ e)

-- ---- before it begins

pub begins-left : (i n B until : ℕ) (ss : List Searching) → IsPlan i n ss → ((k : ℕ) → moves (drop k (relations_in_all ss)) ≡ nat_lt k until) → 1 ≤ B → IsLeft n B until 0 i ss
begins-left i n B until ss plan h l = record {
  fresh = plan.fresh;
  first = plan.first;
  numbers = plan.components;
  few = omega (arith, plan.components, plan.first);
  reaches = λ k. (let e : k ≡ 0 + k = omega arith in h k ∙ ap (λ (j : ℕ). nat_lt j until) e);
  some = λ _. l;
}

relations-of : (n : ℕ) (t : Position) (Ps : List Relations) → relations_in_all (begun_each n t Ps) ≡ Ps
relations-of n t [] = refl
relations-of n t (P ∷ Ps) = ap (λ Rs. P ∷ Rs) (relations-of n (0, []) Ps)

first-of : (n : ℕ) (t : Position) (Ps : List Relations) → (Ps ≡ [] → t ≡ (0, [])) → first_position (begun_each n t Ps) ≡ t
first-of n t [] h = sym (h refl)
first-of n t (P ∷ Ps) h = refl

length-begun : (n : ℕ) (t : Position) (Ps : List Relations) → length (begun_each n t Ps) ≡ length Ps
length-begun n t [] = refl
length-begun n t (P ∷ Ps) = ap suc (length-begun n (0, []) Ps)

can-begin : (n : ℕ) (t : Position) (Ps : List Relations) → (Ps ≡ [] → t ≡ (0, [])) → (1 ≤ length Ps → CanBegin Ps n t) → CanBegin Ps n t
can-begin n t [] h k = h refl
can-begin n t (P ∷ Ps) h k = k (omega arith)

module _ (i n : ℕ) (t : Position) (Ps : List Relations) (ss : List Searching) (is : ss ≡ begun_each n t Ps) (empty : Ps ≡ [] → t ≡ (0, [])) where
  pub parts-are : relations_in_all ss ≡ Ps
  parts-are = ap relations_in_all is ∙ relations-of n t Ps

  pub first-is : first_position ss ≡ t
  first-is = ap first_position is ∙ first-of n t Ps empty

  pub plans : 1 ≤ i → 1 ≤ n → n ≤ 8 → i + length Ps ≤ 60001 → (1 ≤ length Ps → CanBegin Ps n t) → IsPlan i n ss
  plans first least most few can = record {
    first = first;
    least = least;
    most = most;
    components = omega (arith, few, ap length is, length-begun n t Ps);
    fresh = is ∙ (ap (λ (s : Position). begun_each n s Ps) (sym first-is) ∙ ap (begun_each n (first_position ss)) (sym parts-are));
    begins = subst (λ (Rs : List Relations). CanBegin Rs n (first_position ss)) (sym parts-are) (subst (λ (s : Position). CanBegin Ps n s) (sym first-is) (can-begin n t Ps empty can));
  }

  pub planned : (k : ℕ) → i ≡ k → ◌≡◌ {A = Planned} (record { parts = relations_in_all ss; most = n; from = (i, first_position ss) }) (record { parts = Ps; most = n; from = (k, t) })
  planned k e =
      ap (λ (Rs : List Relations). record { parts = Rs; most = n; from = (i, first_position ss) }) parts-are
      ∙ (ap (λ (s : Position). record { parts = Ps; most = n; from = (i, s) }) first-is ∙ ap (λ (j : ℕ). record { parts = Ps; most = n; from = (j, t) }) e)

-- a list with all its searches
pub all-taken : (n : ℕ) (t : Position) (Ps : List Relations) (k : ℕ) → length Ps ≤ k → take k (begun_each n t Ps) ≡ begun_each n t Ps
all-taken n t Ps k l = take_all k (begun_each n t Ps) (omega (arith, l, length-begun n t Ps))

pub by-first : (X : Type 0) (i : ℕ) → (i ≡ 0 → X) → (1 ≤ i → X) → X
by-first X zero h k = h refl
by-first X (suc i) h k = k (omega arith)

pub taken-more : (n : ℕ) (t : Position) (Ps : List Relations) (k : ℕ) (s : Searching) → k < length Ps → slice_get (begun_each n t Ps) k ≡ Some s → take (k + 1) (begun_each n t Ps) ≡ take k (begun_each n t Ps) ++ s ∷ []
taken-more n t Ps k s l e = take-slice_get (begun_each n t Ps) k s (omega (arith, l, length-begun n t Ps)) e
