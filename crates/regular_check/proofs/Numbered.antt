-- The numbers that are given to vertices, component by component.
use Rattle.std.proofs.Common.{◌≡◌, ◌≢◌, inl, inr, ℕ, ◌+◌, ◌<◌, ◌≤◌, List, Bool, true, false, cond, length, get_or, map, replicate, refl, ap, sym, ◌∙◌, subst, arith}
use Rattle.std.proofs.lemmas.Bool.{false≢true, eq-eqb, cases_lt, ne_eqb}
use Rattle.std.proofs.lemmas.List.{same_lists, get_or_default, get_or-replicate, length-replicate}
use Rattle.std.proofs.lemmas.List.FromFn.{length-map-range_with_len, get_or-map-range_with_len}
use Rattle.number_lists.specs.Words.{upto, holds}
use Rattle.face_poset.specs.Poset.{count}
use Rattle.number_lists.proofs.CallerLemmas.{length-upto, length-filter-le, In-upto, upto-In}
use Rattle.regular_check.specs.Components.{vertices, are_joined, least_of, is_least, leasts_upto, component_of, component_count}
use Rattle.number_lists.specs.Members.{In}
use Rattle.regular_check.proofs.Leasts.{passing-more, path_least, path_joined, joined_path, is_least_of, least_again, component_low}

module _ (space : List (List (List ℕ))) where
  -- the components of the first vertices are numbered
  pub record IsNumbered (index number : ℕ) (numbers : List ℕ) : Type 0 where
    pub long : length numbers ≡ count space 0
    pub counted : number ≡ leasts_upto space index
    pub given : (k : ℕ) → k < count space 0 → least_of space (k + 1) ≤ index → get_or numbers k 0 ≡ component_of space (k + 1)
    pub free : (k : ℕ) → k < count space 0 → index < least_of space (k + 1) → get_or numbers k 0 ≡ 0

  vertex : (k : ℕ) → k < count space 0 → In (k + 1) (vertices space)
  vertex k l = In-upto (count space 0) (k + 1) (omega arith) (omega arith)

  pub numbered_begun : (most : ℕ) → most ≡ count space 0 → IsNumbered 0 0 (replicate most 0)
  numbered_begun most e =
      record {
        long = length-replicate most 0 ∙ e;
        counted = refl;
        given = λ k l low. absurd (omega (arith, low, (upto-In (count space 0) (least_of space (k + 1)) (is_least_of space (k + 1) (vertex k l)).vertex).0));
        free = λ k l low. get_or-replicate most k 0 0 (omega (arith, e));
      }

  pub number_low : (index number : ℕ) (numbers : List ℕ) → IsNumbered index number numbers → number ≤ index
  number_low index number numbers h = omega (arith, h.counted, length-filter-le (is_least space) (upto index), length-upto index)

  module _ (index number : ℕ) (numbers : List ℕ) (l : index < count space 0) (h : IsNumbered index number numbers) where
    -- the component of the next vertex has a number
    pub numbered_idle : get_or numbers index 0 ≢ 0 → IsNumbered (index + 1) number numbers
    numbered_idle some =
        record {
          long = h.long;
          counted = h.counted ∙ (omega (arith, passing-more (is_least space) index ∙ ap (λ (b : Bool). leasts_upto space index + cond b 1 0) (ne_eqb (least_of space (index + 1)) (index + 1) not_least)));
          given = λ k m low. elim (cases_lt index (least_of space (k + 1))) [
            | inl q ↦ absurd (not_least (let e : least_of space (k + 1) ≡ index + 1 = omega (arith, q, low) in subst (λ (v : ℕ). least_of space v ≡ v) e (least_again space (k + 1) (vertex k m))))
            | inr q ↦ h.given k m q
          ];
          free = λ k m low. h.free k m (omega (arith, low));
        }
      where
        not_least : least_of space (index + 1) ≢ index + 1
        not_least e = some (h.free index l (omega (arith, e)))

    -- it has none: the vertex is the least of a new component
    next_least : get_or numbers index 0 ≡ 0 → least_of space (index + 1) ≡ index + 1
    next_least none =
        let low : least_of space (index + 1) ≤ index + 1 = (is_least_of space (index + 1) (vertex index l)).low in
        elim (cases_lt index (least_of space (index + 1))) [
          | inl q ↦ omega (arith, q, low)
          | inr q ↦ absurd (omega (arith, h.given index l q, none, component_low space (index + 1) (vertex index l)))
        ]

    next_number : get_or numbers index 0 ≡ 0 → number + 1 ≡ leasts_upto space (index + 1)
    next_number none = omega (arith, h.counted, passing-more (is_least space) index ∙ ap (λ (b : Bool). leasts_upto space index + cond b 1 0) (eq-eqb (least_of space (index + 1)) (index + 1) (next_least none)))

    -- what one vertex has after that
    HasNumber : ℕ → ℕ → Type 0
    HasNumber k n = (least_of space (k + 1) ≤ index + 1 → n ≡ component_of space (k + 1)) × (index + 1 < least_of space (k + 1) → n ≡ 0)

    one_more : get_or numbers index 0 ≡ 0 → (k n : ℕ) → k < count space 0 → (b : Bool) → are_joined space (index + 1) (k + 1) ≡ b → n ≡ cond b (number + 1) (get_or numbers k 0) → HasNumber k n
    unfolding HasNumber
    one_more none k n m true e is =
        let same : least_of space (index + 1) ≡ least_of space (k + 1) = path_least space (index + 1) (k + 1) (vertex index l) (joined_path space (index + 1) (k + 1) (vertex index l) e) in
        let to : least_of space (k + 1) ≡ index + 1 = sym same ∙ next_least none in (
          λ low. is ∙ (next_number none ∙ ap (leasts_upto space) (sym to)),
          λ high. absurd (omega (arith, high, to)),
        )
    one_more none k n m false e is = (
      λ low. is ∙ elim (cases_lt index (least_of space (k + 1))) [
        | inl q ↦
            let w = is_least_of space (k + 1) (vertex k m) in
            let to : least_of space (k + 1) ≡ index + 1 = omega (arith, q, low) in
            absurd (false≢true (sym e ∙ subst (λ (v : ℕ). are_joined space v (k + 1) ≡ true) to (path_joined space (least_of space (k + 1)) (k + 1) w.vertex w.path)))
        | inr q ↦ h.given k m q
      ],
      λ high. is ∙ h.free k m (omega (arith, high)),
    )

    pub numbered_more : get_or numbers index 0 ≡ 0 → (found new : List ℕ) → ((v : ℕ) → holds found v ≡ are_joined space (index + 1) v) → length new ≡ length numbers
        → ((k : ℕ) → k < length numbers → get_or new k 0 ≡ cond (holds found (k + 1)) (number + 1) (get_or numbers k 0)) → IsNumbered (index + 1) (number + 1) new
    unfolding HasNumber
    numbered_more none found new f long w =
        record {
          long = long ∙ h.long;
          counted = next_number none;
          given = λ k m low. (one_more none k (get_or new k 0) m (holds found (k + 1)) (sym (f (k + 1))) (w k (omega (arith, h.long)))).0 low;
          free = λ k m high. (one_more none k (get_or new k 0) m (holds found (k + 1)) (sym (f (k + 1))) (w k (omega (arith, h.long)))).1 high;
        }

  -- all are numbered
  pub numbered_all : (index number : ℕ) (numbers : List ℕ) → index ≡ count space 0 → IsNumbered index number numbers → (number ≡ component_count space) × (numbers ≡ map (component_of space) (vertices space))
  numbered_all index number numbers e h = (
    h.counted ∙ ap (leasts_upto space) e,
    same_lists numbers (map (component_of space) (vertices space)) (h.long ∙ sym (length-map-range_with_len (component_of space) 1 (count space 0)))
        (λ k d m.
        let lt : k < count space 0 = omega (arith, h.long) in
        let low : least_of space (k + 1) ≤ index = omega (arith, (upto-In (count space 0) (least_of space (k + 1)) (is_least_of space (k + 1) (vertex k lt)).vertex).1, e) in
        let here : get_or numbers k d ≡ get_or numbers k 0 = get_or_default numbers k d 0 m in
        here ∙ (h.given k lt low ∙ sym (get_or-map-range_with_len (component_of space) 1 (count space 0) k (k + 1) d lt (omega arith)))),
  )
