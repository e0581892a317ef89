use Rattle.std.proofs.Common.{◌≡◌, ◌<◌, ◌≤◌, ◌+◌, ◌-◌, ◌++◌, ◌∷◌, [], ℕ, true, List, cond, length, take, get_or, map, refl, sym, ◌∙◌, ap, arith, subst, All}
use Rattle.std.specs.List.{concat}
use Rattle.std.specs.List.Sorted.{IsStrictlyIncreasing}
use Rattle.std.proofs.lemmas.List.{get_or_default, same_lists, take_more, take_all, length-take-le}
use Rattle.std.proofs.lemmas.List.FromFn.{length-map-range_with_len, get_or-map-range_with_len}
use Rattle.std.proofs.lemmas.List.Elements.{All-nil, All-append, All-tail}
use Rattle.number_lists.specs.Words.{holds, upto}
use Rattle.number_lists.specs.Rooms.{AllGain}
use Rattle.number_lists.specs.Cofaces.{cells_with}
use Rattle.number_lists.specs.Cofaces.{IsRising}
use Rattle.number_lists.specs.Cofaces.{coface_lists}
use Rattle.number_lists.proofs.Increasing.{Contains-holds}
use Rattle.number_lists.proofs.Counting.{times, times-concat, room_left, cells_with-push}
use Rattle.number_lists.proofs.cofaces.cofaces_in.Goals as goal

-- the facets of all cells are in range
all_within : (most : ℕ) (cells : List (List ℕ)) → All (IsRising most) cells → All (λ n. (1 ≤ n) × (n ≤ most)) (concat cells)
all_within most [] h = All-nil (λ n. (1 ≤ n) × (n ≤ most))
all_within most (c ∷ cells) h = All-append (λ n. (1 ≤ n) × (n ≤ most)) c (concat cells) (h 0 [] (omega arith)).within (all_within most cells (All-tail (IsRising most) c cells h))

-- one cell more
more : (most : ℕ) (cells : List (List ℕ)) (i value : ℕ) (old new : List (List ℕ)) → i < length cells → value ≡ i + 1 → old ≡ coface_lists most (take i cells) → length new ≡ length old
    → AllGain (get_or cells i []) value old new → new ≡ coface_lists most (take (i + 1) cells)
more most cells i value old new lt is e long h =
    let c : List ℕ = get_or cells i [] in
    let n : length old ≡ most = ap length e ∙ length-map-range_with_len (cells_with (take i cells)) 1 most in
    let m : length (coface_lists most (take (i + 1) cells)) ≡ most = length-map-range_with_len (cells_with (take (i + 1) cells)) 1 most in
    let short : length (take i cells) ≡ i = length-take-le i cells (omega arith) in
    same_lists new (coface_lists most (take (i + 1) cells)) (long ∙ (n ∙ sym m)) (λ k d l.
    let lk : k < most = omega arith in
    let was : get_or old k [] ≡ cells_with (take i cells) (k + 1) = ap (λ (ps : List (List ℕ)). get_or ps k []) e ∙ get_or-map-range_with_len (cells_with (take i cells)) 1 most k (k + 1) [] lk (omega arith) in
    let push : cells_with (take (i + 1) cells) (k + 1) ≡ cells_with (take i cells) (k + 1) ++ cond (holds c (k + 1)) ((length (take i cells) + 1) ∷ []) [] =
    ap (λ (cs : List (List ℕ)). cells_with cs (k + 1)) (take_more cells i [] lt) ∙ cells_with-push (take i cells) c (k + 1) in
    let number : length (take i cells) + 1 ≡ value = omega arith in
    get_or_default new k d [] l
    ∙ (h k (omega arith)
    ∙ (ap (λ (ps : List ℕ). ps ++ cond (holds c (k + 1)) (value ∷ []) []) was
    ∙ (ap (λ (v : ℕ). cells_with (take i cells) (k + 1) ++ cond (holds c (k + 1)) (v ∷ []) []) (sym number)
    ∙ (sym push
    ∙ sym (get_or-map-range_with_len (cells_with (take (i + 1) cells)) 1 most k (k + 1) d lk (omega arith)))))))

empties : (F : ℕ → ℕ) (xs : List ℕ) → map {A = ℕ} {B = List ℕ} (λ _. []) (map F xs) ≡ map {A = ℕ} {B = List ℕ} (λ _. []) xs
empties F [] = refl
empties F (x ∷ xs) = ap (λ (ls : List (List ℕ)). [] ∷ ls) (empties F xs)

none_yet : (most : ℕ) (F : ℕ → ℕ) (rooms : List ℕ) (parts cells : List (List ℕ)) → rooms ≡ map F (upto most) → parts ≡ map {A = ℕ} {B = List ℕ} (λ _. []) rooms → parts ≡ coface_lists most (take 0 cells)
none_yet most F rooms parts cells e h = h ∙ (ap (map {A = ℕ} {B = List ℕ} (λ _. [])) e ∙ empties F (upto most))

rooms_are : (most : ℕ) (entries : List ℕ) (cells : List (List ℕ)) (rooms : List ℕ) → entries ≡ concat cells → rooms ≡ map (λ n. times n entries) (upto most) → rooms ≡ map (λ n. times n (concat cells)) (upto most)
rooms_are most entries cells rooms e h = h ∙ ap (λ (xs : List ℕ). map (λ n. times n xs) (upto most)) e

increasing : (most : ℕ) (cells : List (List ℕ)) → All (IsRising most) cells → All IsStrictlyIncreasing cells
increasing most cells h k d l = (h k d l).rises

room_for : (most : ℕ) (cells : List (List ℕ)) (i : ℕ) (facets : List ℕ) (parts : List (List ℕ)) (rooms : List ℕ) → All (IsRising most) cells → i < length cells
    → facets ≡ get_or cells i [] → parts ≡ coface_lists most (take i cells) → rooms ≡ map (λ n. times n (concat cells)) (upto most)
    → All (λ f. length (get_or parts (f - 1) []) < get_or rooms (f - 1) 0) facets
room_for most cells i facets parts rooms h lt is ps rs k d l =
    let f : ℕ = get_or facets k d in
    let w : All (λ n. (1 ≤ n) × (n ≤ most)) facets = subst (λ (xs : List ℕ). All (λ n. (1 ≤ n) × (n ≤ most)) xs) (sym is) (h i [] lt).within in
    let within : (1 ≤ f) × (f ≤ most) = w k d l in
    let part : get_or parts (f - 1) [] ≡ cells_with (take i cells) f = ap (λ (qs : List (List ℕ)). get_or qs (f - 1) []) ps ∙ get_or-map-range_with_len (cells_with (take i cells)) 1 most (f - 1) f [] (omega arith) (omega arith) in
    let room : get_or rooms (f - 1) 0 ≡ times f (concat cells) = ap (λ (qs : List ℕ). get_or qs (f - 1) 0) rs ∙ get_or-map-range_with_len (λ n. times n (concat cells)) 1 most (f - 1) f 0 (omega arith) (omega arith) in
    let has : holds (get_or cells i []) f ≡ true = ap (λ (xs : List ℕ). holds xs f) (sym is) ∙ Contains-holds facets f (k, l, get_or_default facets k f d l) in
    let less : length (cells_with (take i cells) f) < times f (concat cells) = room_left cells f i (increasing most cells h) lt has in
    subst (λ (n : ℕ). length (get_or parts (f - 1) []) < n) (sym room) (subst (λ (xs : List ℕ). length xs < times f (concat cells)) (sym part) less)

lengths : (G : ℕ → List ℕ) (F : ℕ → ℕ) → ((x : ℕ) → length (G x) ≡ F x) → (xs : List ℕ) → map (λ part. length part) (map G xs) ≡ map F xs
lengths G F h [] = refl
lengths G F h (x ∷ xs) = ap (λ (n : ℕ). n ∷ map (λ part. length part) (map G xs)) (h x) ∙ ap (λ (ns : List ℕ). F x ∷ ns) (lengths G F h xs)

full : (most : ℕ) (cells : List (List ℕ)) (i : ℕ) (parts : List (List ℕ)) (rooms : List ℕ) → All (IsRising most) cells → length cells ≤ i
    → parts ≡ coface_lists most (take i cells) → rooms ≡ map (λ n. times n (concat cells)) (upto most) → map (λ part. length part) parts ≡ rooms
full most cells i parts rooms h le ps rs =
    ap (map (λ part. length part)) (ps ∙ ap (coface_lists most) (take_all i cells le))
    ∙ (lengths (cells_with cells) (λ n. times n (concat cells)) (λ f. sym (times-concat cells f (increasing most cells h))) (upto most) ∙ sym rs)

pub tally-requires : goal.tally-requires
tally-requires c = subst (λ (xs : List ℕ). All (λ n. (1 ≤ n) × (n ≤ c.args.most)) xs) (sym c.entries.ensures) (all_within c.args.most c.args.cells.now c.requires.cells)

pub loop-index-init : goal.loop-index-init
loop-index-init c =
    let same : c.in_ok-slots.slots.rooms ≡ c.in_ok-rooms.rooms.items = c.in_ok-slots.ensures.rooms ∙ c.deref.ensures.value in
    record {
      rooms = same ∙ rooms_are c.args.most c.entries.result.now c.args.cells.now c.in_ok-rooms.rooms.items c.entries.ensures c.in_ok-rooms.ensures;
      parts = none_yet c.args.most (λ n. times n c.entries.result.now) c.deref.result.now c.in_ok-slots.slots.parts c.args.cells.now (c.deref.ensures.value ∙ c.in_ok-rooms.ensures) c.in_ok-slots.ensures.parts;
    }

pub put_all-requires-clause-room : goal.put_all-requires-clause-room
put_all-requires-clause-room c =
    room_for c.args.most c.args.cells.now c.loop-index.index c.get.result.now c.loop-index.slots.parts c.loop-index.slots.rooms c.requires.cells (omega (arith, c.len-index-end.ensures))
    c.get.ensures c.loop-index.invariant.parts c.loop-index.invariant.rooms

pub loop-index-preserved : goal.loop-index-preserved
loop-index-preserved c =
    record {
      rooms = c.put_all.ensures.rooms ∙ c.loop-index.invariant.rooms;
      parts = more c.args.most c.args.cells.now c.loop-index.index (c.loop-index.index + 1) c.loop-index.slots.parts c.put_all.new.slots.parts (omega (arith, c.len-index-end.ensures)) refl
          c.loop-index.invariant.parts c.put_all.ensures.len (subst (λ (xs : List ℕ). AllGain xs (c.loop-index.index + 1) c.loop-index.slots.parts c.put_all.new.slots.parts) c.get.ensures c.put_all.ensures.parts);
    }

pub finish-requires : goal.finish-requires
finish-requires c =
    full c.args.most c.args.cells.now c.loop-index.index c.loop-index.slots.parts c.loop-index.slots.rooms c.requires.cells (omega (arith, c.len-index-end.ensures)) c.loop-index.invariant.parts c.loop-index.invariant.rooms

-- the list at the index is one of the lists
one_of : (most : ℕ) (cells : List (List ℕ)) (i : ℕ) (facets : List ℕ) → All (IsRising most) cells → i < length cells → facets ≡ get_or cells i [] → IsRising most facets
one_of most cells i facets h lt is = subst (IsRising most) (sym is) (h i [] lt)

pub put_all-requires-clause-rises : goal.put_all-requires-clause-rises
put_all-requires-clause-rises c =
    (one_of c.args.most c.args.cells.now c.loop-index.index c.get.result.now c.requires.cells (omega (arith, c.len-index-end.ensures)) c.get.ensures).rises

pub put_all-requires-clause-first : goal.put_all-requires-clause-first
put_all-requires-clause-first c = λ k d l.
    ((one_of c.args.most c.args.cells.now c.loop-index.index c.get.result.now c.requires.cells (omega (arith, c.len-index-end.ensures)) c.get.ensures).within k d l).0
