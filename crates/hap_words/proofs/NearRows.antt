-- Rows of matches that differ by the order of two neighbours, and what is the same of them.
use Rattle.std.proofs.Common.{◌≡◌, ◌⊎◌, ◌∙◌, ◌++◌, ap, sym, refl, subst, Bool, true, false, cond, ◌||◌, ℕ, List, [], ◌∷◌, None, Some, inl, inr, true≢false, ◌+◌}
use Rattle.std.specs.Prelude.{min, slice_get, option_and_then}
use Rattle.std.specs.Option.{option_map_or, unwrap_or}
use Rattle.std.specs.List.{find, fold, list_any}
use Rattle.std.specs.Str.{bytes_eq}
use Rattle.std.specs.declared.option.Option.{Option}
use Rattle.std.proofs.lemmas.Slice.Eq.{bytes_eq-Decides}
use Rattle.clap.specs.Words.{Row, Rule, Text, first_of, count_of}
use Rattle.clap.specs.Walk.{at_row, counted, default_rows, first_as_count, has_row, more_values, new_count, reading_by, action_of, used, used_as, used_by_id, settled_rows, stronger, values_or_missing, with_count, with_default, with_values, without, arg_by_id}
use Rattle.clap.specs.Facts.{explicit_source}
use Rattle.clap.specs.Takes.{is_given}
use Rattle.clap.specs.Matches.{count_text}
use Rattle.clap.specs.declared.builder.action.ArgAction.{ArgAction}
use Rattle.clap.specs.declared.builder.action.ArgAction.TheVariants as action
use Rattle.clap.specs.declared.parser.matches.ValueSource.{ValueSource}
use Rattle.clap.specs.declared.parser.matches.ValueSource.TheVariants.{CommandLine, DefaultValue}
use Rattle.clap.specs.declared.builder.value_parser.Reading.{Reading}

-- two neighbours with different ids have changed places
pub record Swapped (xs ys : List Row) : Type 0 where
  pub front : List Row
  pub first : Row
  pub second : Row
  pub back : List Row
  pub differ : bytes_eq first.id second.id ≡ false
  pub left : xs ≡ front ++ first ∷ second ∷ back
  pub right : ys ≡ front ++ second ∷ first ∷ back

abbrev pub Near : List Row → List Row → Type 0
Near xs ys = (xs ≡ ys) ⊎ Swapped xs ys

near-cons : (r : Row) (xs ys : List Row) → Near xs ys → Near (r ∷ xs) (r ∷ ys)
near-cons r xs ys (inl e) = inl (ap (λ (rs : List Row). r ∷ rs) e)
near-cons r xs ys (inr s) = inr (record {
  front = r ∷ s.front;
  first = s.first;
  second = s.second;
  back = s.back;
  differ = s.differ;
  left = ap (λ (rs : List Row). r ∷ rs) s.left;
  right = ap (λ (rs : List Row). r ∷ rs) s.right;
})

near-append : (front xs ys : List Row) → Near xs ys → Near (front ++ xs) (front ++ ys)
near-append [] xs ys n = n
near-append (r ∷ front) xs ys n = near-cons r (front ++ xs) (front ++ ys) (near-append front xs ys n)

near-by : (xs ys xs2 ys2 : List Row) → xs2 ≡ xs → ys2 ≡ ys → Near xs ys → Near xs2 ys2
near-by xs ys xs2 ys2 e f n = subst (λ (zs : List Row). Near zs ys2) (sym e) (subst (λ (zs : List Row). Near xs zs) (sym f) n)

-- what is the same of two neighbours in either order is the same of such rows
pub same-of : {B : Type 0} (P : List Row → B) → ((front : List Row) (a b : Row) (back : List Row) → bytes_eq a.id b.id ≡ false → P (front ++ a ∷ b ∷ back) ≡ P (front ++ b ∷ a ∷ back))
    → (xs ys : List Row) → Near xs ys → P xs ≡ P ys
same-of P h xs ys (inl e) = ap P e
same-of P h xs ys (inr s) = ap P s.left ∙ (h s.front s.first s.second s.back s.differ ∙ sym (ap P s.right))

near-of : (f : List Row → List Row) → ((front : List Row) (a b : Row) (back : List Row) → bytes_eq a.id b.id ≡ false → Near (f (front ++ a ∷ b ∷ back)) (f (front ++ b ∷ a ∷ back)))
    → (xs ys : List Row) → Near xs ys → Near (f xs) (f ys)
near-of f h xs ys (inl e) = inl (ap f e)
near-of f h xs ys (inr s) = near-by (f (s.front ++ s.first ∷ s.second ∷ s.back)) (f (s.front ++ s.second ∷ s.first ∷ s.back)) (f xs) (f ys) (ap f s.left) (ap f s.right) (h s.front s.first s.second s.back s.differ)

-- ---- what is found

-- only one of the two has the id
not-both : (a b id : Text) → bytes_eq a b ≡ false → bytes_eq a id ≡ true → bytes_eq b id ≡ true → ⊥
not-both a b id differ e f = true≢false (sym ((bytes_eq-Decides a b).1 ((bytes_eq-Decides a id).0 e ∙ sym ((bytes_eq-Decides b id).0 f))) ∙ differ)

-- the first of two tests that hold one at most, in either order
either-first : {A : Type 0} (s t : Bool) → (s ≡ true → t ≡ true → ⊥) → (x y z : A) → cond s x (cond t y z) ≡ cond t y (cond s x z)
either-first true true = λ no x y z. absurd (no refl refl)
either-first true false = λ no x y z. refl
either-first false true = λ no x y z. refl
either-first false false = λ no x y z. refl

find-swap : (id : Text) (front : List Row) (a b : Row) (back : List Row) → bytes_eq a.id b.id ≡ false →
    find (λ (r : Row). bytes_eq r.id id) (front ++ a ∷ b ∷ back) ≡ find (λ (r : Row). bytes_eq r.id id) (front ++ b ∷ a ∷ back)
find-swap id [] a b back differ =
    either-first (bytes_eq a.id id) (bytes_eq b.id id) (not-both a.id b.id id differ) (Some a) (Some b) (find (λ (r : Row). bytes_eq r.id id) back)
find-swap id (r ∷ front) a b back differ = ap (λ (o : Option Row). cond (bytes_eq r.id id) (Some r) o) (find-swap id front a b back differ)

pub find-same : (id : Text) (xs ys : List Row) → Near xs ys → find (λ (r : Row). bytes_eq r.id id) xs ≡ find (λ (r : Row). bytes_eq r.id id) ys
find-same id = same-of (find (λ (r : Row). bytes_eq r.id id)) (find-swap id)

or-swap : (s t u : Bool) → (s || (t || u)) ≡ (t || (s || u))
or-swap true true u = refl
or-swap true false u = refl
or-swap false t u = refl

any-swap : (p : Row → Bool) (front : List Row) (a b : Row) (back : List Row) → list_any p (front ++ a ∷ b ∷ back) ≡ list_any p (front ++ b ∷ a ∷ back)
any-swap p [] a b back = or-swap (p a) (p b) (list_any p back)
any-swap p (r ∷ front) a b back = ap (λ (t : Bool). p r || t) (any-swap p front a b back)

pub any-same : (p : Row → Bool) (xs ys : List Row) → Near xs ys → list_any p xs ≡ list_any p ys
any-same p = same-of (list_any p) (λ front a b back differ. any-swap p front a b back)

pub has-same : (id : Text) (xs ys : List Row) → Near xs ys → has_row id xs ≡ has_row id ys
has-same id = any-same (λ (r : Row). bytes_eq r.id id)

pub first-same : (id : Text) (xs ys : List Row) → Near xs ys → first_of id xs ≡ first_of id ys
first-same id xs ys n = ap (option_and_then (λ (r : Row). slice_get r.values 0)) (find-same id xs ys n)

pub count-same : (id : Text) (xs ys : List Row) → Near xs ys → count_of id xs ≡ count_of id ys
count-same id xs ys n = ap (λ (o : Option Row). option_map_or (λ (r : Row). unwrap_or r.count (first_as_count r.values)) o 0) (find-same id xs ys n)

pub given-same : (id : Text) (xs ys : List Row) → Near xs ys → is_given id xs ≡ is_given id ys
given-same id xs ys n = ap (λ (o : Option Row). option_map_or (λ (r : Row). explicit_source r.source) o false) (find-same id xs ys n)

-- ---- rows that change

at-hit : (id : Text) (change : Row → List Row) (missing : List Row) (r : Row) (rs : List Row) → bytes_eq r.id id ≡ true → at_row id change missing (r ∷ rs) ≡ change r ++ rs
at-hit id change missing r rs e = ap (λ (b : Bool). cond b (change r ++ rs) (r ∷ at_row id change missing rs)) e

at-miss : (id : Text) (change : Row → List Row) (missing : List Row) (r : Row) (rs : List Row) → bytes_eq r.id id ≡ false → at_row id change missing (r ∷ rs) ≡ r ∷ at_row id change missing rs
at-miss id change missing r rs e = ap (λ (b : Bool). cond b (change r ++ rs) (r ∷ at_row id change missing rs)) e

-- a row goes, or is changed and keeps its id
abbrev Keeps : (Row → List Row) → Type 0
Keeps change = (r : Row) → (change r ≡ []) ⊎ ((q : Row) × (q.id ≡ r.id) × (change r ≡ q ∷ []))

-- two neighbours of which the first is changed, in either order
first-changed : (change : List Row) (a b : Row) (back : List Row) → bytes_eq a.id b.id ≡ false → (change ≡ []) ⊎ ((q : Row) × (q.id ≡ a.id) × (change ≡ q ∷ []))
    → Near (change ++ b ∷ back) (b ∷ (change ++ back))
first-changed change a b back differ (inl e) = inl (ap (λ (c : List Row). c ++ b ∷ back) e ∙ sym (ap (λ (c : List Row). b ∷ (c ++ back)) e))
first-changed change a b back differ (inr k) = inr (record {
  front = [];
  first = k.0;
  second = b;
  back = back;
  differ = ap (λ (i : Text). bytes_eq i b.id) k.1 ∙ differ;
  left = ap (λ (c : List Row). c ++ b ∷ back) k.2;
  right = ap (λ (c : List Row). b ∷ (c ++ back)) k.2;
})

second-changed : (change : List Row) (a b : Row) (back : List Row) → bytes_eq a.id b.id ≡ false → (change ≡ []) ⊎ ((q : Row) × (q.id ≡ b.id) × (change ≡ q ∷ []))
    → Near (a ∷ (change ++ back)) (change ++ a ∷ back)
second-changed change a b back differ (inl e) = inl (ap (λ (c : List Row). a ∷ (c ++ back)) e ∙ sym (ap (λ (c : List Row). c ++ a ∷ back) e))
second-changed change a b back differ (inr k) = inr (record {
  front = [];
  first = a;
  second = k.0;
  back = back;
  differ = ap (λ (i : Text). bytes_eq a.id i) k.1 ∙ differ;
  left = ap (λ (c : List Row). a ∷ (c ++ back)) k.2;
  right = ap (λ (c : List Row). c ++ a ∷ back) k.2;
})

at-swap : (id : Text) (change : Row → List Row) (missing : List Row) → Keeps change → (front : List Row) (a b : Row) (back : List Row) → bytes_eq a.id b.id ≡ false
    → Near (at_row id change missing (front ++ a ∷ b ∷ back)) (at_row id change missing (front ++ b ∷ a ∷ back))
at-swap id change missing keeps [] a b back differ = go (bytes_eq a.id id) refl (bytes_eq b.id id) refl
  where
    go : (s : Bool) → bytes_eq a.id id ≡ s → (t : Bool) → bytes_eq b.id id ≡ t → Near (at_row id change missing (a ∷ b ∷ back)) (at_row id change missing (b ∷ a ∷ back))
    go true e true f = absurd (not-both a.id b.id id differ e f)
    go true e false f =
        near-by (change a ++ b ∷ back) (b ∷ (change a ++ back)) (at_row id change missing (a ∷ b ∷ back)) (at_row id change missing (b ∷ a ∷ back))
        (at-hit id change missing a (b ∷ back) e) (at-miss id change missing b (a ∷ back) f ∙ ap (λ (rs : List Row). b ∷ rs) (at-hit id change missing a back e))
        (first-changed (change a) a b back differ (keeps a))
    go false e true f =
        near-by (a ∷ (change b ++ back)) (change b ++ a ∷ back) (at_row id change missing (a ∷ b ∷ back)) (at_row id change missing (b ∷ a ∷ back))
        (at-miss id change missing a (b ∷ back) e ∙ ap (λ (rs : List Row). a ∷ rs) (at-hit id change missing b back f)) (at-hit id change missing b (a ∷ back) f)
        (second-changed (change b) a b back differ (keeps b))
    go false e false f = inr (record {
      front = [];
      first = a;
      second = b;
      back = at_row id change missing back;
      differ = differ;
      left = at-miss id change missing a (b ∷ back) e ∙ ap (λ (rs : List Row). a ∷ rs) (at-miss id change missing b back f);
      right = at-miss id change missing b (a ∷ back) f ∙ ap (λ (rs : List Row). b ∷ rs) (at-miss id change missing a back e);
    })
at-swap id change missing keeps (r ∷ front) a b back differ = go (bytes_eq r.id id) refl (at-swap id change missing keeps front a b back differ)
  where
    go : (s : Bool) → bytes_eq r.id id ≡ s → Near (at_row id change missing (front ++ a ∷ b ∷ back)) (at_row id change missing (front ++ b ∷ a ∷ back)) → Near (at_row id change missing (r ∷ (front ++ a ∷ b ∷ back))) (at_row id change missing (r ∷ (front ++ b ∷ a ∷ back)))
    go true e later =
        near-by (change r ++ (front ++ a ∷ b ∷ back)) (change r ++ (front ++ b ∷ a ∷ back)) (at_row id change missing (r ∷ (front ++ a ∷ b ∷ back))) (at_row id change missing (r ∷ (front ++ b ∷ a ∷ back)))
        (at-hit id change missing r (front ++ a ∷ b ∷ back) e) (at-hit id change missing r (front ++ b ∷ a ∷ back) e)
        (near-append (change r) (front ++ a ∷ b ∷ back) (front ++ b ∷ a ∷ back) (inr (record { front = front; first = a; second = b; back = back; differ = differ; left = refl; right = refl })))
    go false e later =
        near-by (r ∷ at_row id change missing (front ++ a ∷ b ∷ back)) (r ∷ at_row id change missing (front ++ b ∷ a ∷ back)) (at_row id change missing (r ∷ (front ++ a ∷ b ∷ back))) (at_row id change missing (r ∷ (front ++ b ∷ a ∷ back)))
        (at-miss id change missing r (front ++ a ∷ b ∷ back) e) (at-miss id change missing r (front ++ b ∷ a ∷ back) e)
        (near-cons r (at_row id change missing (front ++ a ∷ b ∷ back)) (at_row id change missing (front ++ b ∷ a ∷ back)) later)

at-near : (id : Text) (change : Row → List Row) (missing : List Row) → Keeps change → (xs ys : List Row) → Near xs ys → Near (at_row id change missing xs) (at_row id change missing ys)
at-near id change missing keeps = near-of (at_row id change missing) (at-swap id change missing keeps)

without-near : (id : Text) (xs ys : List Row) → Near xs ys → Near (without id xs) (without id ys)
without-near id = at-near id (λ r. []) [] (λ r. inl refl)

values-near : (id : Text) (how : Reading) (s : ValueSource) (values : List Text) (xs ys : List Row) → Near xs ys → Near (with_values id how s values xs) (with_values id how s values ys)
values-near id how s values =
    at-near id (more_values s values) (record { id = id; values = values; count = None; source = Some s; reading = how } ∷ []) (λ r. inr (record r { values = r.values ++ values; source = Some (stronger r.source s) }, refl, refl))

count-near : (id : Text) (how : Reading) (s : ValueSource) (n : ℕ) (xs ys : List Row) → Near xs ys → Near (with_count id how s n xs) (with_count id how s n ys)
count-near id how s n =
    at-near id (new_count s n) (record { id = id; values = count_text n ∷ []; count = Some n; source = Some s; reading = how } ∷ [])
    (λ r. inr (record r { values = r.values ++ count_text n ∷ []; count = Some n; source = Some (stronger r.source s) }, refl, refl))

counted-near : (id : Text) (how : Reading) (values : List Text) (xs ys : List Row) → Near xs ys → Near (counted id how values xs) (counted id how values ys)
counted-near id how [] xs ys n =
    subst (λ (k : ℕ). Near (counted id how [] xs) (with_count id how CommandLine (min (k + 1) 255) (without id ys))) (count-same id xs ys n)
    (count-near id how CommandLine (min (count_of id xs + 1) 255) (without id xs) (without id ys) (without-near id xs ys n))
counted-near id how (v ∷ vs) xs ys n = values-near id how CommandLine (v ∷ vs) (without id xs) (without id ys) (without-near id xs ys n)

used_as-near : (a : ArgAction) (id : Text) (how : Reading) (values : List Text) (xs ys : List Row) → Near xs ys → Near (used_as a id how values xs) (used_as a id how values ys)
used_as-near action.Set id how values xs ys n = values-near id how CommandLine values (without id xs) (without id ys) (without-near id xs ys n)
used_as-near action.SetTrue id how values xs ys n = values-near id how CommandLine values (without id xs) (without id ys) (without-near id xs ys n)
used_as-near action.SetFalse id how values xs ys n = values-near id how CommandLine values (without id xs) (without id ys) (without-near id xs ys n)
used_as-near action.Append id how values xs ys n = values-near id how CommandLine values xs ys n
used_as-near action.Count id how values xs ys n = counted-near id how values xs ys n
used_as-near other id how values xs ys n = n

pub used-near : (a : Rule) (values : List Text) (xs ys : List Row) → Near xs ys → Near (used a values xs) (used a values ys)
used-near a values xs ys n = used_as-near (action_of a) a.id (reading_by a) (values_or_missing a values) xs ys n

used_by_id-near : (o : Option Rule) (values : List Text) (xs ys : List Row) → Near xs ys → Near (used_by_id o values xs) (used_by_id o values ys)
used_by_id-near None values xs ys n = n
used_by_id-near (Some a) values xs ys n = used-near a values xs ys n

pub settled-near : (c : List Rule) (p : Option (Text × List Text)) (xs ys : List Row) → Near xs ys → Near (settled_rows c p xs) (settled_rows c p ys)
settled-near c None xs ys n = n
settled-near c (Some p) xs ys n = used_by_id-near (arg_by_id c p.0) p.1 xs ys n

-- ---- defaults

default_rows-near : (id : Text) (how : Reading) (values : List Text) (xs ys : List Row) → Near xs ys → Near (default_rows id how values xs) (default_rows id how values ys)
default_rows-near id how [] xs ys n = n
default_rows-near id how (v ∷ vs) xs ys n = values-near id how DefaultValue (v ∷ vs) xs ys n

if-near : (b : Bool) (xs ys xs2 ys2 : List Row) → Near xs ys → Near xs2 ys2 → Near (cond b xs xs2) (cond b ys ys2)
if-near true xs ys xs2 ys2 n m = n
if-near false xs ys xs2 ys2 n m = m

pub with_default-near : (a : Rule) (xs ys : List Row) → Near xs ys → Near (with_default xs a) (with_default ys a)
with_default-near a xs ys n =
    subst (λ (b : Bool). Near (with_default xs a) (cond b ys (default_rows a.id (reading_by a) a.defaults ys))) (has-same a.id xs ys n)
    (if-near (has_row a.id xs) xs ys (default_rows a.id (reading_by a) a.defaults xs) (default_rows a.id (reading_by a) a.defaults ys) n
    (default_rows-near a.id (reading_by a) a.defaults xs ys n))

pub defaults-near : (rules : List Rule) (xs ys : List Row) → Near xs ys → Near (fold with_default xs rules) (fold with_default ys rules)
defaults-near [] xs ys n = n
defaults-near (a ∷ rules) xs ys n = defaults-near rules (with_default xs a) (with_default ys a) (with_default-near a xs ys n)
