-- Readers that read exactly the lines of what they answer.
use Rattle.std.proofs.Common.{◌≡◌, ◌≤◌, ◌+◌, ◌++◌, ◌∷◌, [], ℕ, zero, suc, Bool, true, false, cond, eqb, Option, Some, None, List, map, length, refl, sym, ◌∙◌, ap, arith, subst, Result, Ok, Err}
use Rattle.std.specs.List.{AllByRecursion}
use Rattle.certificates.specs.Forms.{Form, line_text, IsForm, form_of}
use Rattle.certificates.specs.Texts.{Stated}
use Rattle.certificates.specs.WellFormed.{are_numbered}
use Rattle.certificates.proofs.CallerLemmas.{form-is, form-back}
use Rattle.cert_lines.specs.declared.fault.CertFault.{CertFault}
use Rattle.cert_lines.specs.declared.fault.CertFault.TheVariants.{BadLine, Ends}
use Rattle.cert_lines.specs.Readers.{Left, Answer, and_then, form_at, formed, next_form, in_range, chosen, take_line, many, each}
use Rattle.cert_text.proofs.Passing.{Passed, nothing-passed, passed-append, between, passed-first, passed-second}

-- what the reader answers is printed as the lines that it passed, and has the property; and it answers whatever has the
-- property where its lines stand
pub record IsReader {A : Type 0} (v : ℕ) (read : Left → Answer A) (lines : A → List Stated) (P : A → Type 0) : Type 0 where
  pub sound : (l m : Left) (x : A) → 1 ≤ length l.pieces → read l ≡ Ok (x, m) → P x × Passed v l (lines x) m
  pub complete : (l m : Left) (x : A) → P x → Passed v l (lines x) m → read l ≡ Ok (x, m)

-- ---- answers one after another

abbrev ok : {A : Type 0} → A → Result A CertFault
ok x = Ok x

pub both_ok : {A B : Type 0} (r : Result A CertFault) (go : A → Result B CertFault) (b : B) → and_then r go ≡ Ok b → (a : A) × (r ≡ Ok a) × (go a ≡ Ok b)
both_ok (Ok a) go b h = (a, refl, h)
both_ok (Err f) go b h = cc

pub then_ok : {A B : Type 0} (r : Result A CertFault) (go : A → Result B CertFault) (a : A) → r ≡ Ok a → and_then r go ≡ go a
then_ok r go a e = ap (λ s. and_then s go) e

pub same_Ok : {A : Type 0} (x y : A) → ok x ≡ ok y → x ≡ y
same_Ok x y e = cc

-- ---- the next form

form_at-is : (v n : ℕ) (pieces : List (List ℕ)) (f : Form) (m : Left) → form_at v n pieces ≡ Ok (f, m)
    → (pieces ≡ line_text f ∷ m.pieces) × (m.number ≡ n + 1) × IsForm v f × (1 ≤ length m.pieces)
form_at-is v n [] f m h = cc
form_at-is v n (last ∷ []) f m h = at (eqb (length last) 0) h
  where
    at : (t : Bool) → cond {A = Answer Form} t (Err Ends) (Err (BadLine n)) ≡ Ok (f, m) → (last ∷ [] ≡ line_text f ∷ m.pieces) × (m.number ≡ n + 1) × IsForm v f × (1 ≤ length m.pieces)
    at true h = cc
    at false h = cc
form_at-is v n (line ∷ more ∷ rest) f m h = at (form_of v line) refl h
  where
    at : (o : Option Form) → form_of v line ≡ o → formed n (more ∷ rest) o ≡ Ok (f, m) → (line ∷ more ∷ rest ≡ line_text f ∷ m.pieces) × (m.number ≡ n + 1) × IsForm v f × (1 ≤ length m.pieces)
    at None e h = cc
    at (Some g) e h =
        let pair : (g, record { number = n + 1; pieces = more ∷ rest }) ≡ (f, m) = same_Ok (g, record { number = n + 1; pieces = more ∷ rest }) (f, m) h in
        let is = form-is v line g e in
        subst (λ (q : Form × Left). (line ∷ more ∷ rest ≡ line_text q.0 ∷ q.1.pieces) × (q.1.number ≡ n + 1) × IsForm v q.0 × (1 ≤ length q.1.pieces)) pair
        (ap (λ (xs : List ℕ). xs ∷ more ∷ rest) is.1, refl, is.0, omega arith)

form_at-back : (v n : ℕ) (f : Form) (rest : List (List ℕ)) → IsForm v f → 1 ≤ length rest → form_at v n (line_text f ∷ rest) ≡ Ok (f, record { number = n + 1; pieces = rest })
form_at-back v n f [] h more = absurd (omega arith)
form_at-back v n f (piece ∷ rest) h more = ap (formed n (piece ∷ rest)) (form-back v (line_text f) f h refl)

-- ---- one line

-- what the next line says
pub next-is : (v : ℕ) (l m : Left) (f : Form) → next_form v l ≡ Ok (f, m) → Passed v l ((None, f) ∷ []) m
next-is v l m f h =
    let p = form_at-is v l.number l.pieces f m h in
    record { pieces = p.0; number = p.1; numbered = refl; forms = (p.2, tt); more = p.3 }

pub next-back : (v : ℕ) (l m : Left) (o : Option ℕ) (f : Form) → Passed v l ((o, f) ∷ []) m → next_form v l ≡ Ok (f, m)
next-back v l m o f p =
    ap (form_at v l.number) p.pieces ∙ (form_at-back v l.number f m.pieces p.forms.0 p.more
    ∙ ap (λ (n : ℕ). ok (f, record { number = n; pieces = m.pieces })) (sym p.number))

chosen-is : {A : Type 0} (fits : A → Bool) (n : ℕ) (o : Option A) (l m : Left) (x : A) → chosen fits n o l ≡ Ok (x, m) → (o ≡ Some x) × (fits x ≡ true) × (l ≡ m)
chosen-is fits n None l m x h = cc
chosen-is fits n (Some y) l m x h = at (fits y) refl h
  where
    at : (t : Bool) → fits y ≡ t → in_range n y l t ≡ Ok (x, m) → (Some y ≡ Some x) × (fits x ≡ true) × (l ≡ m)
    at true e h =
        let pair : (y, l) ≡ (x, m) = same_Ok (y, l) (x, m) h in
        let same : y ≡ x = ap (λ q. q.0) pair in
        (ap Some same, sym (ap fits same) ∙ e, ap (λ q. q.1) pair)
    at false e h = cc

-- a line that is taken
pub take-is : {A : Type 0} (v : ℕ) (pick : Form → Option A) (fits : A → Bool) (l m : Left) (x : A) → take_line v pick fits l ≡ Ok (x, m)
    → (f : Form) × (pick f ≡ Some x) × (fits x ≡ true) × Passed v l ((None, f) ∷ []) m
take-is v pick fits l m x h =
    let p = both_ok (next_form v l) (λ a. chosen fits l.number (pick a.0) a.1) (x, m) h in
    let q = chosen-is fits l.number (pick p.0.0) p.0.1 m x p.2 in
    (p.0.0, q.0, q.1, subst (Passed v l ((None, p.0.0) ∷ [])) q.2 (next-is v l p.0.1 p.0.0 p.1))

pub take-back : {A : Type 0} (v : ℕ) (pick : Form → Option A) (fits : A → Bool) (l m : Left) (o : Option ℕ) (f : Form) (x : A) → Passed v l ((o, f) ∷ []) m → pick f ≡ Some x → fits x ≡ true
    → take_line v pick fits l ≡ Ok (x, m)
take-back v pick fits l m o f x p e t =
    then_ok (next_form v l) (λ a. chosen fits l.number (pick a.0) a.1) (f, m) (next-back v l m o f p)
    ∙ (ap (λ q. chosen fits l.number q m) e ∙ ap (in_range l.number x m) t)

-- what a reader of one line makes of it: n is the number of the line
pub record IsMaking {A B : Type 0} (v : ℕ) (pick : Form → Option A) (fits : A → Bool) (make : ℕ → A → B) (say : B → Stated) (P : B → Type 0) : Type 0 where
  pub says : (f : Form) (x : A) (n : ℕ) → pick f ≡ Some x → fits x ≡ true → (say (make n x)).1 ≡ f
  pub number : (x : A) (n : ℕ) → are_numbered n (say (make n x) ∷ []) ≡ true
  pub has : (f : Form) (x : A) (n : ℕ) → pick f ≡ Some x → IsForm v f → fits x ≡ true → P (make n x)
  pub back : (y : B) (n : ℕ) → P y → are_numbered n (say y ∷ []) ≡ true → (x : A) × (pick (say y).1 ≡ Some x) × (fits x ≡ true) × (make n x ≡ y)

abbrev pub read_one : {A B : Type 0} → (v : ℕ) → (Form → Option A) → (A → Bool) → (ℕ → A → B) → Left → Answer B
read_one v pick fits make l = and_then (take_line v pick fits l) (λ a. Ok (make l.number a.0, a.1))

pub renumbered : (v : ℕ) (l m : Left) (s : Stated) (f : Form) → s.1 ≡ f → are_numbered l.number (s ∷ []) ≡ true → Passed v l ((None, f) ∷ []) m → Passed v l (s ∷ []) m
renumbered v l m s f e t p = record {
  pieces = p.pieces ∙ ap (λ (g : Form). line_text g ∷ m.pieces) (sym e);
  number = p.number;
  numbered = t;
  forms = (subst (IsForm v) (sym e) p.forms.0, tt);
  more = p.more;
}

pub one-line : {A B : Type 0} (v : ℕ) (pick : Form → Option A) (fits : A → Bool) (make : ℕ → A → B) (say : B → Stated) (P : B → Type 0) → IsMaking v pick fits make say P → IsReader v (read_one v pick fits make) (λ y. say y ∷ []) P
one-line {A} {B} v pick fits make say P k = record {
  sound = λ l m y more h.
      let p = both_ok (take_line v pick fits l) (λ a. Ok (make l.number a.0, a.1)) (y, m) h in
      let t = take-is v pick fits l p.0.1 p.0.0 p.1 in
      let pair : (make l.number p.0.0, p.0.1) ≡ (y, m) = same_Ok (make l.number p.0.0, p.0.1) (y, m) p.2 in
      subst (λ (q : B × Left). P q.0 × Passed v l (say q.0 ∷ []) q.1) pair
      (k.has t.0 p.0.0 l.number t.1 t.3.forms.0 t.2, renumbered v l p.0.1 (say (make l.number p.0.0)) t.0 (k.says t.0 p.0.0 l.number t.1 t.2) (k.number p.0.0 l.number) t.3);
  complete = λ l m y has p.
      let b = k.back y l.number has p.numbered in
      then_ok (take_line v pick fits l) (λ a. Ok (make l.number a.0, a.1)) (b.0, m) (take-back v pick fits l m (say y).0 (say y).1 b.0 p b.1 b.2)
      ∙ ap (λ (z : B). ok (z, m)) b.3;
}

-- the same where what was read is the answer
pub taken-line : {A : Type 0} (v : ℕ) (pick : Form → Option A) (fits : A → Bool) (say : A → Stated) (P : A → Type 0) → IsMaking v pick fits (λ n x. x) say P → IsReader v (take_line v pick fits) (λ y. say y ∷ []) P
taken-line v pick fits say P k = record {
  sound = λ l m y more h.
      let t = take-is v pick fits l m y h in
      (k.has t.0 y l.number t.1 t.3.forms.0 t.2, renumbered v l m (say y) t.0 (k.says t.0 y l.number t.1 t.2) (k.number y l.number) t.3);
  complete = λ l m y has p.
      let b = k.back y l.number has p.numbered in
      subst (λ z. take_line v pick fits l ≡ ok (z, m)) b.3 (take-back v pick fits l m (say y).0 (say y).1 b.0 p b.1 b.2);
}

-- ---- other words for the same

pub recast : {A : Type 0} (v : ℕ) (read : Left → Answer A) (lines lines' : A → List Stated) (P Q : A → Type 0) → IsReader v read lines P → ((x : A) → P x → Q x × (lines x ≡ lines' x)) → ((x : A) → Q x → P x × (lines' x ≡ lines x))
    → IsReader v read lines' Q
recast v read lines lines' P Q r there back = record {
  sound = λ l m x more h. let a = r.sound l m x more h in let t = there x a.0 in (t.0, subst (λ ls. Passed v l ls m) t.1 a.1);
  complete = λ l m x has p. let b = back x has in r.complete l m x b.0 (subst (λ ls. Passed v l ls m) b.1 p);
}

-- ---- one reader after another: what the first answered is found in what the second answers

pub bind : {A B : Type 0} (v : ℕ) (read : Left → Answer A) (lines : A → List Stated) (P : A → Type 0) (go : A → Left → Answer B) (behind : A → B → List Stated) (Q : A → B → Type 0) (found : B → A)
    → IsReader v read lines P → ((x : A) → IsReader v (go x) (behind x) (Q x)) → ((x : A) (y : B) → P x → Q x y → found y ≡ x)
    → IsReader v (λ l. and_then (read l) (λ a. go a.0 a.1)) (λ y. lines (found y) ++ behind (found y) y) (λ y. P (found y) × Q (found y) y)
bind v read lines P go behind Q found r k same = record {
  sound = λ l m y more h.
      let p = both_ok (read l) (λ a. go a.0 a.1) (y, m) h in
      let a = r.sound l p.0.1 p.0.0 more p.1 in
      let b = (k p.0.0).sound p.0.1 m y a.1.more p.2 in
      subst (λ x. (P x × Q x y) × Passed v l (lines x ++ behind x y) m) (sym (same p.0.0 y a.0 b.0)) ((a.0, b.0), passed-append v l p.0.1 m (lines p.0.0) (behind p.0.0 y) a.1 b.1);
  complete = λ l m y has p.
      let x = found y in
      let c = between l (lines x) (behind x y) m in
      then_ok (read l) (λ a. go a.0 a.1) (x, c) (r.complete l c x has.0 (passed-first v l m (lines x) (behind x y) p))
      ∙ (k x).complete c m y has.1 (passed-second v l m (lines x) (behind x y) p);
}

-- an answer that is made of what was read
pub mapped : {A B : Type 0} (v : ℕ) (read : Left → Answer A) (lines : A → List Stated) (P : A → Type 0) (make : A → B) (found : B → A) → ((x : A) → found (make x) ≡ x) → IsReader v read lines P
    → IsReader v (λ l. and_then (read l) (λ a. Ok (make a.0, a.1))) (λ y. lines (found y)) (λ y. P (found y) × (y ≡ make (found y)))
mapped {A} {B} v read lines P make found same r = record {
  sound = λ l m y more h.
      let p = both_ok (read l) (λ a. Ok (make a.0, a.1)) (y, m) h in
      let a = r.sound l p.0.1 p.0.0 more p.1 in
      let pair : (make p.0.0, p.0.1) ≡ (y, m) = same_Ok (make p.0.0, p.0.1) (y, m) p.2 in
      let e : found y ≡ p.0.0 = sym (ap (λ q. found q.0) pair) ∙ same p.0.0 in
      let is : y ≡ make p.0.0 = sym (ap (λ q. q.0) pair) in
      ((subst P (sym e) a.0, is ∙ ap make (sym e)), subst (λ (q : A × Left). Passed v l (lines q.0) q.1) (λ i. (sym e i, ap (λ q. q.1) pair i)) a.1);
  complete = λ l m y has p.
      then_ok (read l) (λ a. Ok (make a.0, a.1)) (found y, m) (r.complete l m (found y) has.0 p) ∙ ap (λ (z : B). ok (z, m)) (sym has.1);
}

-- ---- many lines of one kind

abbrev pub HasMany : {B : Type 0} → (n : ℕ) → (B → Type 0) → List B → Type 0
HasMany n P ys = (length ys ≡ n) × AllByRecursion P ys

many-sound : {B : Type 0} (v n : ℕ) (read : Left → Answer B) (say : B → Stated) (P : B → Type 0) → IsReader v read (λ y. say y ∷ []) P → (l m : Left) (ys : List B) → 1 ≤ length l.pieces → many n read l ≡ Ok (ys, m) → HasMany n P ys × Passed v l (map say ys) m
many-sound {B} v zero read say P r l m ys more h =
    subst (λ (q : List B × Left). HasMany 0 P q.0 × Passed v l (map say q.0) q.1) (same_Ok ([], l) (ys, m) h) ((refl, tt), nothing-passed v l more)
many-sound {B} v (suc n) read say P r l m ys more h =
    let p = both_ok (read l) (λ a. and_then (many n read a.1) (λ b. Ok (a.0 ∷ b.0, b.1))) (ys, m) h in
    let q = both_ok (many n read p.0.1) (λ b. Ok (p.0.0 ∷ b.0, b.1)) (ys, m) p.2 in
    let a = r.sound l p.0.1 p.0.0 more p.1 in
    let b = many-sound v n read say P r p.0.1 q.0.1 q.0.0 a.1.more q.1 in
    subst (λ (z : List B × Left). HasMany (suc n) P z.0 × Passed v l (map say z.0) z.1) (same_Ok (p.0.0 ∷ q.0.0, q.0.1) (ys, m) q.2)
    ((ap suc b.0.0, (a.0, b.0.1)), passed-append v l p.0.1 q.0.1 (say p.0.0 ∷ []) (map say q.0.0) a.1 b.1)

many-complete : {B : Type 0} (v n : ℕ) (read : Left → Answer B) (say : B → Stated) (P : B → Type 0) → IsReader v read (λ y. say y ∷ []) P → (l m : Left) (ys : List B) → HasMany n P ys → Passed v l (map say ys) m → many n read l ≡ Ok (ys, m)
many-complete {B} v zero read say P r l m [] has p =
    let number : m.number ≡ l.number = omega (arith, p.number) in
    λ i. ok ([], record { number = sym number i; pieces = p.pieces i })
many-complete v zero read say P r l m (y ∷ ys) has p = absurd (omega (arith, has.0))
many-complete v (suc n) read say P r l m [] has p = absurd (omega (arith, has.0))
many-complete {B} v (suc n) read say P r l m (y ∷ ys) has p =
    let c = between l (say y ∷ []) (map say ys) m in
    then_ok (read l) (λ a. and_then (many n read a.1) (λ b. Ok (a.0 ∷ b.0, b.1))) (y, c) (r.complete l c y has.1.0 (passed-first v l m (say y ∷ []) (map say ys) p))
    ∙ then_ok (many n read c) (λ b. Ok (y ∷ b.0, b.1)) (ys, m) (many-complete v n read say P r c m ys (omega (arith, has.0), has.1.1) (passed-second v l m (say y ∷ []) (map say ys) p))

pub many-lines : {B : Type 0} (v n : ℕ) (read : Left → Answer B) (say : B → Stated) (P : B → Type 0) → IsReader v read (λ y. say y ∷ []) P → IsReader v (many n read) (map say) (HasMany n P)
many-lines v n read say P r = record { sound = many-sound v n read say P r; complete = many-complete v n read say P r }

-- ---- one line for each of a list

abbrev pub HasEach : {A B : Type 0} → (place : A → B) → (P : A → Type 0) → List B → List A → Type 0
HasEach place P xs ys = (map place ys ≡ xs) × AllByRecursion P ys

each-sound : {A B : Type 0} (v : ℕ) (read : B → Left → Answer A) (say : A → Stated) (place : A → B) (P : A → Type 0) → ((x : B) → IsReader v (read x) (λ y. say y ∷ []) (λ y. (place y ≡ x) × P y))
    → (xs : List B) (l m : Left) (ys : List A) → 1 ≤ length l.pieces → each read xs l ≡ Ok (ys, m) → HasEach place P xs ys × Passed v l (map say ys) m
each-sound {A} v read say place P r [] l m ys more h =
    subst (λ (q : List A × Left). HasEach place P [] q.0 × Passed v l (map say q.0) q.1) (same_Ok ([], l) (ys, m) h) ((refl, tt), nothing-passed v l more)
each-sound {A} v read say place P r (x ∷ xs) l m ys more h =
    let p = both_ok (read x l) (λ a. and_then (each read xs a.1) (λ b. Ok (a.0 ∷ b.0, b.1))) (ys, m) h in
    let q = both_ok (each read xs p.0.1) (λ b. Ok (p.0.0 ∷ b.0, b.1)) (ys, m) p.2 in
    let a = (r x).sound l p.0.1 p.0.0 more p.1 in
    let b = each-sound v read say place P r xs p.0.1 q.0.1 q.0.0 a.1.more q.1 in
    subst (λ (z : List A × Left). HasEach place P (x ∷ xs) z.0 × Passed v l (map say z.0) z.1) (same_Ok (p.0.0 ∷ q.0.0, q.0.1) (ys, m) q.2)
    (((λ i. a.0.0 i ∷ b.0.0 i), (a.0.1, b.0.1)), passed-append v l p.0.1 q.0.1 (say p.0.0 ∷ []) (map say q.0.0) a.1 b.1)

each-complete : {A B : Type 0} (v : ℕ) (read : B → Left → Answer A) (say : A → Stated) (place : A → B) (P : A → Type 0) → ((x : B) → IsReader v (read x) (λ y. say y ∷ []) (λ y. (place y ≡ x) × P y))
    → (ys : List A) (l m : Left) → AllByRecursion P ys → Passed v l (map say ys) m → each read (map place ys) l ≡ Ok (ys, m)
each-complete {A} v read say place P r [] l m has p =
    let number : m.number ≡ l.number = omega (arith, p.number) in
    λ i. ok ([], record { number = sym number i; pieces = p.pieces i })
each-complete {A} v read say place P r (y ∷ ys) l m has p =
    let c = between l (say y ∷ []) (map say ys) m in
    then_ok (read (place y) l) (λ a. and_then (each read (map place ys) a.1) (λ b. Ok (a.0 ∷ b.0, b.1))) (y, c) ((r (place y)).complete l c y (refl, has.0) (passed-first v l m (say y ∷ []) (map say ys) p))
    ∙ then_ok (each read (map place ys) c) (λ b. Ok (y ∷ b.0, b.1)) (ys, m) (each-complete v read say place P r ys c m has.1 (passed-second v l m (say y ∷ []) (map say ys) p))

pub each-lines : {A B : Type 0} (v : ℕ) (read : B → Left → Answer A) (say : A → Stated) (place : A → B) (P : A → Type 0) → ((x : B) → IsReader v (read x) (λ y. say y ∷ []) (λ y. (place y ≡ x) × P y))
    → (xs : List B) → IsReader v (each read xs) (map say) (HasEach place P xs)
each-lines {A} v read say place P r xs = record {
  sound = each-sound v read say place P r xs;
  complete = λ l m ys has p. subst (λ zs. each read zs l ≡ ok (ys, m)) has.0 (each-complete v read say place P r ys l m has.1 p);
}
