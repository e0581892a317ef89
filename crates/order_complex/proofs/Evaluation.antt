-- The coboundary is the combination of its rows, and evaluation carries it to the boundary.
use Rattle.std.proofs.Common.{◌≡◌, ◌≢◌, ℕ, ◌<◌, List, [], ◌∷◌, Bool, true, false, cond, map, length, get_or, refl, ap, sym, ◌∙◌, arith}
use Rattle.std.specs.Str.{bytes_eq}
use Rattle.std.proofs.lemmas.List.{length-map, get_or-map, get_or_default, same_lists}
use Rattle.small_field.specs.Field.{Ops, IsField}
use Rattle.small_field.proofs.CallerLemmas.{zero_below}
use Rattle.linear_laws.specs.Vectors.{dot, column, combination, IsVector, IsMatrix}
use Rattle.small_field.specs.Values.{AreElements}
use Rattle.linear_laws.proofs.CallerLemmas.{combination-vector, entry_combination, dot_unit, functional_of_combination, adjoint}
use Rattle.order_complex.specs.Cochains.{mark, coboundary_at, coboundary_on, boundary_on, evaluation}
use Rattle.order_complex.specs.Order.{IsOrdered}
use Rattle.order_complex.specs.Ranks.{rows_on}
use Rattle.order_complex.proofs.Rows.{coboundary_at_is_linear}
use Rattle.order_complex.proofs.Classes.{coboundary_on-vector}
use Rattle.order_complex.proofs.Ordered.{ordered-differ}
use Rattle.order_complex.proofs.Twice.{bytes_eq-refl, bytes_eq-true}

map_map : {A B C : Type 0} (g : B → C) (f : A → B) (xs : List A) → map g (map f xs) ≡ map (λ x. g (f x)) xs
map_map g f [] = refl
map_map g f (x ∷ xs) = ap (λ r. g (f x) ∷ r) (map_map g f xs)

column-map : (j : ℕ) (g : List ℕ → List ℕ) (cs : List (List ℕ)) → column j (map g cs) ≡ map (λ c. get_or (g c) j 0) cs
column-map j g [] = refl
column-map j g (c ∷ cs) = ap (λ r. get_or (g c) j 0 ∷ r) (column-map j g cs)

bytes_differ : (b c : List ℕ) (t : Bool) → bytes_eq b c ≡ t → b ≢ c → t ≡ false
bytes_differ b c true e ne = absurd (ne (bytes_eq-true b c e))
bytes_differ b c false e ne = refl

module _ (F : Ops) (L : IsField F) where
  mark-elements : (chains : List (List ℕ)) (b : List ℕ) → AreElements F (mark chains b)
  mark-elements [] b = tt
  mark-elements (c ∷ chains) b = (bit (bytes_eq c b), mark-elements chains b)
    where
      bit : (t : Bool) → cond {A = ℕ} t 1 0 < F.size
      bit true = L.one_below
      bit false = zero_below F L

  pub mark-vector : (chains : List (List ℕ)) (b : List ℕ) → IsVector F (length chains) (mark chains b)
  mark-vector chains b = record { long = length-map chains (λ c. cond (bytes_eq c b) 1 0); elements = mark-elements chains b }

  marks-matrix : (chains bs : List (List ℕ)) → IsMatrix F (length chains) (map (mark chains) bs)
  marks-matrix chains [] = tt
  marks-matrix chains (b ∷ bs) = (mark-vector chains b, marks-matrix chains bs)

  rows-matrix : (chains next bs : List (List ℕ)) → IsMatrix F (length next) (map (λ b. coboundary_on F chains next (mark chains b)) bs)
  rows-matrix chains next [] = tt
  rows-matrix chains next (b ∷ bs) = (coboundary_on-vector F L chains next (mark chains b), rows-matrix chains next bs)

  pub rows_on-matrix : (chains next : List (List ℕ)) → IsMatrix F (length next) (rows_on F chains next)
  rows_on-matrix chains next = rows-matrix chains next chains

  -- the marks at one place
  marks-column : (chains : List (List ℕ)) (j : ℕ) → j < length chains → column j (map (mark chains) chains) ≡ map (λ b. cond (bytes_eq (get_or chains j []) b) 1 0) chains
  marks-column chains j l = column-map j (mark chains) chains ∙ same chains
    where
      same : (bs : List (List ℕ)) → map (λ b. get_or (mark chains b) j 0) bs ≡ map (λ b. cond (bytes_eq (get_or chains j []) b) 1 0) bs
      same [] = refl
      same (b ∷ bs) = rw (get_or-map (λ c. cond {A = ℕ} (bytes_eq c b) 1 0) chains j [] 0 l, same bs) refl

  -- a cochain is the combination of the marks with its values
  pub marks-combination : (chains : List (List ℕ)) (x : List ℕ) → IsOrdered chains → IsVector F (length chains) x → combination F (length chains) x (map (mark chains) chains) ≡ x
  marks-combination chains x o v =
      let n : ℕ = length chains in
      let rows : List (List ℕ) = map (mark chains) chains in
      let m = marks-matrix chains chains in
      let c = combination-vector F L n x rows m in
      same_lists (combination F n x rows) x (c.long ∙ sym v.long) (λ j d l. at j d (omega (arith, c.long, l)))
    where
      at : (j d : ℕ) → j < length chains → get_or (combination F (length chains) x (map (mark chains) chains)) j d ≡ get_or x j d
      at j d l =
          let n : ℕ = length chains in
          let rows : List (List ℕ) = map (mark chains) chains in
          let cj : List ℕ = get_or chains j [] in
          let units : List ℕ = map (λ b. cond (bytes_eq cj b) 1 0) chains in
          let c = combination-vector F L n x rows (marks-matrix chains chains) in
          get_or_default (combination F n x rows) j d 0 (omega (arith, c.long))
          ∙ entry_combination F L n j x rows (marks-matrix chains chains) l
          ∙ ap (dot F x) (marks-column chains j l)
          ∙ dot_unit F L x units j v.elements (omega (arith, v.long)) (omega (arith, length-map chains (λ b. cond {A = ℕ} (bytes_eq cj b) 1 0)))
          (get_or-map (λ b. cond {A = ℕ} (bytes_eq cj b) 1 0) chains j [] 0 l ∙ ap (λ t. cond t 1 0) (bytes_eq-refl cj))
          (λ i k ne. let ik : i < length chains = omega (arith, k, length-map chains (λ b. cond {A = ℕ} (bytes_eq cj b) 1 0)) in
          get_or-map (λ b. cond {A = ℕ} (bytes_eq cj b) 1 0) chains i [] 0 ik
          ∙ ap (λ t. cond t 1 0) (bytes_differ cj (get_or chains i []) (bytes_eq cj (get_or chains i [])) refl (ordered-differ chains j i o l ik (λ e. ne (sym e)))))
          ∙ get_or_default x j 0 d (omega (arith, v.long))

  -- the coboundary is the combination of its rows
  pub coboundary_on-combination : (chains next : List (List ℕ)) (x : List ℕ) → IsOrdered chains → IsVector F (length chains) x → coboundary_on F chains next x ≡ combination F (length next) x (rows_on F chains next)
  coboundary_on-combination chains next x o v =
      let rows : List (List ℕ) = rows_on F chains next in
      let a = coboundary_on-vector F L chains next x in
      let b = combination-vector F L (length next) x rows (rows_on-matrix chains next) in
      same_lists (coboundary_on F chains next x) (combination F (length next) x rows) (a.long ∙ sym b.long) (λ j d l. at j d (omega (arith, a.long, l)))
    where
      at : (j d : ℕ) → j < length next → get_or (coboundary_on F chains next x) j d ≡ get_or (combination F (length next) x (rows_on F chains next)) j d
      at j d l =
          let rows : List (List ℕ) = rows_on F chains next in
          let c : List ℕ = get_or next j [] in
          let g : List ℕ → ℕ = λ y. coboundary_at F chains y c in
          let b = combination-vector F L (length next) x rows (rows_on-matrix chains next) in
          get_or-map (coboundary_at F chains x) next j [] d l
          ∙ ap g (sym (marks-combination chains x o v))
          ∙ functional_of_combination F L (length chains) g x (map (mark chains) chains) (coboundary_at_is_linear F L chains c) (marks-matrix chains chains) (v.long ∙ sym (length-map chains (mark chains)))
          ∙ ap (dot F x) (map_map g (mark chains) chains ∙ sym (column-map j (λ y. coboundary_on F chains next (mark chains y)) chains ∙ entries chains))
          ∙ sym (entry_combination F L (length next) j x rows (rows_on-matrix chains next) l)
          ∙ get_or_default (combination F (length next) x rows) j 0 d (omega (arith, b.long))
        where
          entries : (bs : List (List ℕ)) → map (λ y. get_or (coboundary_on F chains next (mark chains y)) j 0) bs ≡ map (λ y. coboundary_at F chains (mark chains y) (get_or next j [])) bs
          entries [] = refl
          entries (y ∷ bs) = rw (get_or-map (coboundary_at F chains (mark chains y)) next j [] 0 l, entries bs) refl

  -- the coboundary of x on c is x on the boundary of c
  pub evaluation-coboundary : (chains next : List (List ℕ)) (x c : List ℕ) → IsOrdered chains → IsVector F (length chains) x → length c ≡ length next
      → evaluation F (coboundary_on F chains next x) c ≡ evaluation F x (boundary_on F chains next c)
  evaluation-coboundary chains next x c o v e =
      let rows : List (List ℕ) = rows_on F chains next in
      ap (λ y. dot F y c) (coboundary_on-combination chains next x o v)
      ∙ adjoint F L (length next) x c rows (rows_on-matrix chains next) (v.long ∙ sym (length-map chains (λ b. coboundary_on F chains next (mark chains b)))) e
      ∙ ap (dot F x) (map_map (λ r. dot F r c) (λ b. coboundary_on F chains next (mark chains b)) chains)
