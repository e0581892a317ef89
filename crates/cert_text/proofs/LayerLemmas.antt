-- Layers that are filled one after another, and the lines of their faces.
use Rattle.std.proofs.Common.{◌≡◌, ◌≢◌, ◌≤◌, ◌<◌, ◌+◌, ◌++◌, ◌∷◌, [], ℕ, zero, suc, Bool, true, false, cond, ◌&&◌, Some, None, List, length, replicate, refl, sym, ◌∙◌, ap, arith, subst, Ok, Err, bytes_eq}
use Rattle.std.specs.Prelude.{slice_index_or, slice_set}
use Rattle.std.proofs.lemmas.List.{get_or-set_same, get_or-set_other, set-set, set-get_or, length-set}
use Rattle.std.proofs.lemmas.Bool.{ne_eqb, eq-eqb}
use Rattle.std.proofs.lemmas.Option.{same_Some}
use Rattle.face_poset.specs.Poset.{Layers, layer, count, IsCell}
use Rattle.certificates.specs.declared.kind.Kind.TheVariants as kind
use Rattle.certificates.specs.Plain as p
use Rattle.certificates.specs.Plain.{Plain, parts}
use Rattle.certificates.specs.Forms.{Form, plain}
use Rattle.certificates.proofs.CallerLemmas.{form-is, bytes-same}
use Rattle.cert_lines.specs.declared.kind.LineKind.TheVariants as line_kind
use Rattle.cert_lines.specs.Kinds.{kind_of}
use Rattle.cert_lines.specs.Listed.{rise_from, if_rising, numbers_in, numbers_behind, words_behind}
use Rattle.cert_lines.proofs.CallerLemmas.{numbers-told, numbers-rest}
use Rattle.cert_lines.specs.declared.fault.CertFault.{CertFault}
use Rattle.cert_lines.specs.declared.fault.CertFault.TheVariants.{OutOfRange}
use Rattle.cert_lines.specs.Readers.{Left, Answer, and_then, in_range, many}
use Rattle.cert_text.specs.Picks.{pick_face}
use Rattle.cert_text.specs.Reading.{face_fits, read_face, read_faces}
use Rattle.cert_lines.specs.Taken.{IsTaken, IsRefused}
use Rattle.cert_text.proofs.SpaceReaders.{some_facet, four-is}
use Rattle.cert_text.proofs.WellSpaces.{cell-there}
use Rattle.cert_lines.proofs.CallerLemmas.{plain-of, taken-is, refused-is}

-- ---- layers

pub record IsAdded (b0 b : Layers) (dim : ℕ) (xs : List (List ℕ)) : Type 0 where
  pub layer_is : layer b dim ≡ xs
  pub layers : b ≡ slice_set b0 dim (layer b dim)

pub layer-more : (b0 b c : Layers) (dim : ℕ) (xs : List (List ℕ)) (facets : List ℕ) → length b0 ≡ 4 → dim ≤ 3 → b ≡ slice_set b0 dim xs → c ≡ slice_set b dim (layer b dim ++ facets ∷ [])
    → IsAdded b0 c dim (layer b dim ++ facets ∷ [])
layer-more b0 b c dim xs facets four high e f =
    let ys : List (List ℕ) = layer b dim ++ facets ∷ [] in
    let long : length b ≡ 4 = ap length e ∙ (length-set b0 dim xs ∙ four) in
    let top : layer c dim ≡ ys = ap (λ (x : Layers). layer x dim) f ∙ get_or-set_same b dim ys [] (omega (arith, high, long)) in
    record { layer_is = top; layers = f ∙ (ap (λ (x : Layers). slice_set x dim ys) e ∙ (set-set b0 dim xs ys ∙ ap (slice_set b0 dim) (sym top))) }

pub layer-begun : (b : Layers) (dim : ℕ) → b ≡ slice_set b dim (layer b dim)
layer-begun b dim = sym (set-get_or b dim [])

pub other-layer : (b0 b : Layers) (dim k : ℕ) (xs : List (List ℕ)) → k ≢ dim → b ≡ slice_set b0 dim xs → count b k ≡ count b0 k
other-layer b0 b dim k xs other e = ap (λ (x : Layers). count x k) e ∙ ap length (get_or-set_other b0 dim k xs [] other)

-- ---- points

abbrev pub points : ℕ → Layers
points n = replicate n [] ∷ [] ∷ [] ∷ [] ∷ []

pub points-above : (n above : ℕ) → 0 < above → count (points n) above ≡ 0
points-above n zero h = absurd (omega arith)
points-above n (suc zero) h = refl
points-above n (suc (suc zero)) h = refl
points-above n (suc (suc (suc zero))) h = refl
points-above n (suc (suc (suc (suc k)))) h = refl

replicate-more : (n : ℕ) → replicate n [] ++ [] ∷ [] ≡ replicate {A = List ℕ} (n + 1) []
replicate-more zero = refl
replicate-more (suc n) = ap (λ (xs : List (List ℕ)). [] ∷ xs) (replicate-more n) ∙ ap (λ (k : ℕ). replicate k []) (let e : suc (n + 1) ≡ suc n + 1 = omega arith in e)

pub points-more : (n : ℕ) (b c : Layers) → b ≡ points n → c ≡ slice_set b 0 (layer b 0 ++ [] ∷ []) → c ≡ points (n + 1)
points-more n b c e f = f ∙ (ap (λ (x : Layers). slice_set x 0 (layer x 0 ++ [] ∷ [])) e ∙ ap (λ (xs : List (List ℕ)). xs ∷ [] ∷ [] ∷ [] ∷ []) (replicate-more n))

-- ---- a face

no-face : (f : Form) → kind_of f ≢ line_kind.Plain kind.Face → pick_face f ≡ None
no-face (plain (p.Face k facets)) h = absurd (h refl)
no-face f h = refl

abbrev facets_in : (line : List ℕ) → ℕ × List ℕ
facets_in line = (slice_index_or (numbers_in line) 0 0, numbers_behind line 1)

face-known : (g : Plain) (line : List ℕ) → (parts g).kind ≡ kind.Face → numbers_in line ≡ (parts g).rest.numbers → pick_face (plain g) ≡ Some (facets_in line)
face-known (p.Face k facets) line h e =
    ap (λ (x : ℕ × List ℕ). Some x) (λ i. (sym (ap (λ (ns : List ℕ). slice_index_or ns 0 0) e) i, sym (numbers-rest (words_behind line) k facets e) i))
face-known g line h e = cc

face-taken : (v : ℕ) (l m : Left) (line : List ℕ) (t : IsTaken v l (line_kind.Plain kind.Face) m line) → pick_face t.form ≡ Some (facets_in line)
face-taken v l m line t =
    let q = plain-of kind.Face t.form t.kind in
    ap pick_face q.1 ∙ face-known q.0 line q.2 (numbers-told v line q.0 (t.of ∙ ap (λ (f : Form). Some f) q.1))

abbrev facets_of : Answer (ℕ × List ℕ) → Answer (List ℕ)
facets_of r = and_then r (λ a. Ok (a.0.1, a.1))

face-at : (v dim below : ℕ) (l m : Left) (line : List ℕ) → IsTaken v l (line_kind.Plain kind.Face) m line → read_face v dim below l ≡ facets_of (in_range l.number (facets_in line) m (face_fits dim below (facets_in line)))
face-at v dim below l m line t = ap facets_of (taken-is v l m (line_kind.Plain kind.Face) line pick_face (face_fits dim below) (facets_in line) t (face-taken v l m line t))

pub face-refused : (v dim below : ℕ) (l : Left) (f : CertFault) → IsRefused v l (line_kind.Plain kind.Face) f → read_face v dim below l ≡ Err f
face-refused v dim below l f r = ap facets_of (refused-is v l (line_kind.Plain kind.Face) f pick_face (face_fits dim below) no-face r)

pub other-dim : (v dim below : ℕ) (l m : Left) (line : List ℕ) → IsTaken v l (line_kind.Plain kind.Face) m line → slice_index_or (numbers_in line) 0 0 ≢ dim → read_face v dim below l ≡ Err (OutOfRange l.number)
other-dim v dim below l m line t other =
    face-at v dim below l m line t
    ∙ ap (λ (b : Bool). facets_of (in_range l.number (facets_in line) m (b && rise_from 0 below (numbers_behind line 1)))) (ne_eqb (slice_index_or (numbers_in line) 0 0) dim other)

if-none : (most : ℕ) (ns : List ℕ) → None ≡ if_rising most ns → rise_from 0 most ns ≡ false
if-none most ns h = at (rise_from 0 most ns) h
  where
    at : (t : Bool) → None ≡ cond t (Some ns) None → t ≡ false
    at true h = cc
    at false h = refl

if-some : (most : ℕ) (ns xs : List ℕ) → Some xs ≡ if_rising most ns → (rise_from 0 most ns ≡ true) × (ns ≡ xs)
if-some most ns xs h = at (rise_from 0 most ns) h
  where
    at : (t : Bool) → Some xs ≡ cond t (Some ns) None → (t ≡ true) × (ns ≡ xs)
    at true h = (refl, sym (same_Some xs ns h))
    at false h = cc

same_dim : (v dim below : ℕ) (l m : Left) (line : List ℕ) → IsTaken v l (line_kind.Plain kind.Face) m line → slice_index_or (numbers_in line) 0 0 ≡ dim → read_face v dim below l ≡ facets_of (in_range l.number (facets_in line) m (rise_from 0 below (numbers_behind line 1)))
same_dim v dim below l m line t e =
    face-at v dim below l m line t
    ∙ ap (λ (b : Bool). facets_of (in_range l.number (facets_in line) m (b && rise_from 0 below (numbers_behind line 1)))) (eq-eqb (slice_index_or (numbers_in line) 0 0) dim e)

pub not_rising : (v dim below : ℕ) (l m : Left) (line : List ℕ) → IsTaken v l (line_kind.Plain kind.Face) m line → slice_index_or (numbers_in line) 0 0 ≡ dim → None ≡ if_rising below (numbers_behind line 1) → read_face v dim below l ≡ Err (OutOfRange l.number)
not_rising v dim below l m line t e h =
    same_dim v dim below l m line t e ∙ ap (λ (b : Bool). facets_of (in_range l.number (facets_in line) m b)) (if-none below (numbers_behind line 1) h)

pub is-rising : (v dim below : ℕ) (l m : Left) (line xs : List ℕ) → IsTaken v l (line_kind.Plain kind.Face) m line → slice_index_or (numbers_in line) 0 0 ≡ dim → Some xs ≡ if_rising below (numbers_behind line 1) → read_face v dim below l ≡ Ok (xs, m)
is-rising v dim below l m line xs t e h =
    let s = if-some below (numbers_behind line 1) xs h in
    same_dim v dim below l m line t e
    ∙ (ap (λ (b : Bool). facets_of (in_range l.number (facets_in line) m b)) s.0 ∙ ap (λ (ns : List ℕ). Ok (ns, m)) s.1)

pub is-cell : (v below : ℕ) (l m : Left) (line xs : List ℕ) → IsTaken v l (line_kind.Plain kind.Face) m line → Some xs ≡ if_rising below (numbers_behind line 1) → IsCell below xs
is-cell v below l m line xs t h =
    let s = if-some below (numbers_behind line 1) xs h in
    subst (IsCell below) s.1 (cell-there below (numbers_behind line 1) (s.0, some_facet v t.form (facets_in line) (face-taken v l m line t) (form-is v line t.form t.of).0))

-- ---- the numbers of chains

pub counts-four : (counts : List ℕ) (a b c d : ℕ) → length counts ≡ 4 → a ≡ slice_index_or counts 0 0 → b ≡ slice_index_or counts 1 0 → c ≡ slice_index_or counts 2 0 → d ≡ slice_index_or counts 3 0 → a ∷ b ∷ c ∷ d ∷ [] ≡ counts
counts-four counts a b c d four ea eb ec ed = (λ i. ea i ∷ eb i ∷ ec i ∷ ed i ∷ []) ∙ four-is counts four

pub same-then : (chains counts found wide : List ℕ) → found ≡ counts → wide ≡ found → bytes_eq chains wide ≡ true → Some found ≡ cond (bytes_eq chains counts) (Some chains) None
same-then chains counts found wide e f h =
    let all : chains ≡ found = bytes-same chains wide h ∙ f in
    ap (λ (ns : List ℕ). Some ns) (sym all) ∙ sym (ap (λ (t : Bool). cond t (Some chains) None) (ap (bytes_eq chains) (sym (f ∙ e)) ∙ h))

pub same-else : (chains counts found wide : List ℕ) → found ≡ counts → wide ≡ found → bytes_eq chains wide ≡ false → None ≡ cond (bytes_eq chains counts) (Some chains) None
same-else chains counts found wide e f h = sym (ap (λ (t : Bool). cond t (Some chains) None) (ap (bytes_eq chains) (sym (f ∙ e)) ∙ h))

-- ---- all faces

abbrev edges_read : (v : ℕ) → (cells : List ℕ) → Left → Answer (List (List ℕ))
edges_read v cells l = many (slice_index_or cells 1 0) (read_face v 1 (slice_index_or cells 0 0)) l

abbrev faces_read : (v : ℕ) → (cells : List ℕ) → Left → Answer (List (List ℕ))
faces_read v cells l = many (slice_index_or cells 2 0) (read_face v 2 (slice_index_or cells 1 0)) l

abbrev solids_read : (v : ℕ) → (cells : List ℕ) → Left → Answer (List (List ℕ))
solids_read v cells l = many (slice_index_or cells 3 0) (read_face v 3 (slice_index_or cells 2 0)) l

abbrev layers_with : (cells : List ℕ) → (edges faces solids : List (List ℕ)) → Layers
layers_with cells edges faces solids = replicate (slice_index_or cells 0 0) [] ∷ edges ∷ faces ∷ solids ∷ []

behind_edges : (v : ℕ) → (cells : List ℕ) → (edges : List (List ℕ) × Left) → Answer Layers
behind_edges v cells edges = and_then (faces_read v cells edges.1) (λ faces. and_then (solids_read v cells faces.1) (λ solids. Ok (layers_with cells edges.0 faces.0 solids.0, solids.1)))

pub edges-fail : (v : ℕ) (cells : List ℕ) (l : Left) (f : CertFault) → edges_read v cells l ≡ Err f → read_faces v cells l ≡ Err f
unfolding behind_edges
edges-fail v cells l f h = ap (λ r. and_then r (behind_edges v cells)) h

pub faces-fail : (v : ℕ) (cells : List ℕ) (l m : Left) (edges : List (List ℕ)) (f : CertFault) → edges_read v cells l ≡ Ok (edges, m) → faces_read v cells m ≡ Err f → read_faces v cells l ≡ Err f
unfolding behind_edges
faces-fail v cells l m edges f e h = ap (λ r. and_then r (behind_edges v cells)) e ∙ ap (λ r. and_then r (λ faces. and_then (solids_read v cells faces.1) (λ solids. Ok (layers_with cells edges faces.0 solids.0, solids.1)))) h

pub solids-fail : (v : ℕ) (cells : List ℕ) (l m n : Left) (edges faces : List (List ℕ)) (f : CertFault) → edges_read v cells l ≡ Ok (edges, m) → faces_read v cells m ≡ Ok (faces, n) → solids_read v cells n ≡ Err f → read_faces v cells l ≡ Err f
unfolding behind_edges
solids-fail v cells l m n edges faces f e g h =
    ap (λ r. and_then r (behind_edges v cells)) e
    ∙ (ap (λ r. and_then r (λ faces. and_then (solids_read v cells faces.1) (λ solids. Ok (layers_with cells edges faces.0 solids.0, solids.1)))) g
    ∙ ap (λ r. and_then r (λ solids. Ok (layers_with cells edges faces solids.0, solids.1))) h)

pub layers-read : (v : ℕ) (cells : List ℕ) (l m n o : Left) (b1 b2 b3 : Layers) → edges_read v cells l ≡ Ok (layer b1 1, m) → faces_read v cells m ≡ Ok (layer b2 2, n) → solids_read v cells n ≡ Ok (layer b3 3, o)
    → b1 ≡ slice_set (points (slice_index_or cells 0 0)) 1 (layer b1 1) → b2 ≡ slice_set b1 2 (layer b2 2) → b3 ≡ slice_set b2 3 (layer b3 3) → read_faces v cells l ≡ Ok (b3, o)
unfolding behind_edges
layers-read v cells l m n o b1 b2 b3 e g h s1 s2 s3 =
    ap (λ r. and_then r (behind_edges v cells)) e
    ∙ (ap (λ r. and_then r (λ faces. and_then (solids_read v cells faces.1) (λ solids. Ok (layers_with cells (layer b1 1) faces.0 solids.0, solids.1)))) g
    ∙ (ap (λ r. and_then r (λ solids. Ok (layers_with cells (layer b1 1) (layer b2 2) solids.0, solids.1))) h
    ∙ ap (λ (b : Layers). Ok (b, o)) (sym (s3 ∙ ap (λ (b : Layers). slice_set b 3 (layer b3 3)) (s2 ∙ ap (λ (b : Layers). slice_set b 2 (layer b2 2)) s1)))))
