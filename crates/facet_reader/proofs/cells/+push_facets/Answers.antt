use Rattle.std.proofs.Common.{◌≡◌, ◌≢◌, ◌<◌, ◌≤◌, ◌+◌, ◌*◌, ◌/◌, ◌%◌, ◌^◌, ◌-◌, ◌++◌, ◌∷◌, [], ℕ, suc, List, length, map, ap, sym, ◌∙◌, subst, arith, Contains, append_assoc}
use Rattle.number_lists.specs.Members.{In}
use Rattle.facet_reader.specs.SetSpaces.{leave_one}
use Rattle.facet_reader.specs.Simplices.{number_in}
use Rattle.facet_reader.specs.Places.{place_of, members}
use Rattle.facet_reader.proofs.Powers.{power-some, room-front, room-fits}
use Rattle.facet_reader.proofs.FacetPlaces.{rest-low, digit-low, held-last, held-kept, facets-listed, room-last}
use Rattle.facet_reader.proofs.cells.+push_facets.Goals as goal

-- the facts of a call, at the number of the other members and at the step of the first one
record HasFront (k w high place : ℕ) (below : List ℕ) : Type 0 where
  pub step : 0 < w
  pub low : place % w < 65536 ^ k
  pub room : (high * 65536 + place / w + 1) * 65536 ^ k ≤ 18446744073709551616
  pub fits : high * 65536 + place / w < 18446744073709551616
  pub last_fits : high * w + place % w < 18446744073709551616
  pub kept : (u : List ℕ) → In u (leave_one (members k (place % w))) → Contains below ((high * 65536 + place / w) * 65536 ^ length u + place_of u)
  pub last : Contains below (high * w + place % w)

has_front : (k high place : ℕ) (below : List ℕ) → place < 65536 ^ suc k → (high + 1) * 65536 ^ suc k ≤ 18446744073709551616
    → ((u : List ℕ) → In u (leave_one (members (suc k) place)) → Contains below (high * 65536 ^ length u + place_of u)) → HasFront k (65536 ^ k) high place below
has_front k high place below fits room held =
    let r = room-front high (place / 65536 ^ k) k (digit-low place k fits) room in
    record {
      step = power-some k;
      low = rest-low place k;
      room = r;
      fits = room-fits (high * 65536 + place / 65536 ^ k) k r;
      last_fits = room-last high place k room;
      kept = held-kept k high place below fits held;
      last = held-last k high place below fits held;
    }

front_is : (size w high place : ℕ) (below : List ℕ) → size ≢ 0 → w ≡ 65536 ^ (size - 1) → place < 65536 ^ size → (high + 1) * 65536 ^ size ≤ 18446744073709551616
    → ((u : List ℕ) → In u (leave_one (members size place)) → Contains below (high * 65536 ^ length u + place_of u)) → HasFront (size - 1) w high place below
front_is size w high place below some is fits room held =
    let e : size ≡ suc (size - 1) = omega (arith, some) in
    subst (λ (v : ℕ). HasFront (size - 1) v high place below) (sym is)
    (has_front (size - 1) high place below (subst (λ (n : ℕ). place < 65536 ^ n) e fits) (subst (λ (n : ℕ). (high + 1) * 65536 ^ n ≤ 18446744073709551616) e room)
    (subst (λ (n : ℕ). (u : List ℕ) → In u (leave_one (members n place)) → Contains below (high * 65536 ^ length u + place_of u)) e held))

all_listed : (size w high place : ℕ) (below old new newest : List ℕ) (last : ℕ) → size ≢ 0 → w ≡ 65536 ^ (size - 1) → place < 65536 ^ size
    → new ≡ old ++ map (λ u. number_in below ((high * 65536 + place / w) * 65536 ^ length u + place_of u)) (leave_one (members (size - 1) (place % w))) → last ≡ number_in below (high * w + place % w) → newest ≡ new ++ last ∷ []
    → newest ≡ old ++ map (λ u. number_in below (high * 65536 ^ length u + place_of u)) (leave_one (members size place))
all_listed size w high place below old new newest last some is fits a b c =
    let e : size ≡ suc (size - 1) = omega (arith, some) in
    let g : ℕ → List ℕ = λ v. map (λ u. number_in below ((high * 65536 + place / v) * 65536 ^ length u + place_of u)) (leave_one (members (size - 1) (place % v))) in
    c
    ∙ (ap (λ (xs : List ℕ). xs ++ last ∷ []) a
    ∙ (append_assoc old (g w) (last ∷ [])
    ∙ ap (λ (xs : List ℕ). old ++ xs)
    (ap (λ (n : ℕ). g w ++ n ∷ []) b
    ∙ (ap (λ (v : ℕ). g v ++ number_in below (high * v + place % v) ∷ []) is
    ∙ (sym (facets-listed (size - 1) high place below (subst (λ (n : ℕ). place < 65536 ^ n) e fits))
    ∙ ap (λ (n : ℕ). map (λ u. number_in below (high * 65536 ^ length u + place_of u)) (leave_one (members n place))) (sym e))))))

pub nonzero_rem-rest : goal.nonzero_rem-rest
nonzero_rem-rest t c = (front_is c.args.size c.weight-weight.result c.args.high c.args.place c.args.below.now c.if-size-eq0.false c.weight-weight.ensures c.requires.fits c.requires.room c.requires.held).step

pub nonzero_div-kept : goal.nonzero_div-kept
nonzero_div-kept t c = (front_is c.args.size c.weight-weight.result c.args.high c.args.place c.args.below.now c.if-size-eq0.false c.weight-weight.ensures c.requires.fits c.requires.room c.requires.held).step

pub overflow_mul-kept : goal.overflow_mul-kept
overflow_mul-kept t c =
    let h = front_is c.args.size c.weight-weight.result c.args.high c.args.place c.args.below.now c.if-size-eq0.false c.weight-weight.ensures c.requires.fits c.requires.room c.requires.held in
    omega (arith, h.fits)

pub overflow_add-kept : goal.overflow_add-kept
overflow_add-kept t c =
    let h = front_is c.args.size c.weight-weight.result c.args.high c.args.place c.args.below.now c.if-size-eq0.false c.weight-weight.ensures c.requires.fits c.requires.room c.requires.held in
    omega (arith, h.fits)

pub push_facets-requires : goal.push_facets-requires
push_facets-requires t c =
    let h = front_is c.args.size c.weight-weight.result c.args.high c.args.place c.args.below.now c.if-size-eq0.false c.weight-weight.ensures c.requires.fits c.requires.room c.requires.held in
    (omega (arith, c.decreases, c.if-size-eq0.false), (omega (arith, c.requires.size), (h.low, (h.room, (c.requires.rises, (c.requires.few, h.kept))))))

pub overflow_mul-high : goal.overflow_mul-high
overflow_mul-high t c =
    let h = front_is c.args.size c.weight-weight.result c.args.high c.args.place c.args.below.now c.if-size-eq0.false c.weight-weight.ensures c.requires.fits c.requires.room c.requires.held in
    omega (arith, h.last_fits)

pub overflow_add-high : goal.overflow_add-high
overflow_add-high t c =
    let h = front_is c.args.size c.weight-weight.result c.args.high c.args.place c.args.below.now c.if-size-eq0.false c.weight-weight.ensures c.requires.fits c.requires.room c.requires.held in
    omega (arith, h.last_fits)

pub number_of-requires-clause-there : goal.number_of-requires-clause-there
number_of-requires-clause-there t c =
    let h = front_is c.args.size c.weight-weight.result c.args.high c.args.place c.args.below.now c.if-size-eq0.false c.weight-weight.ensures c.requires.fits c.requires.room c.requires.held in
    h.last

pub returns : goal.returns
returns t c =
    all_listed c.args.size c.weight-weight.result c.args.high c.args.place c.args.below.now c.args.facets.now.items c.push_facets.new.facets.items c.push.new.self.items c.number_of.result c.if-size-eq0.false c.weight-weight.ensures c.requires.fits
    c.in_ok-push_facets.ensures c.number_of.ensures c.in_ok-push.ensures.items
