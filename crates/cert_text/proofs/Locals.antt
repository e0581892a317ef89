-- Readers that look at no line behind the one that they refuse: a fault at a line stays where what follows that line is changed.
use Rattle.std.proofs.Common.{◌≡◌, ◌≤◌, ◌+◌, ◌++◌, ◌∷◌, [], ◌⊎◌, inl, inr, ℕ, zero, suc, Bool, true, false, cond, eqb, Option, Some, None, List, length, refl, sym, ◌∙◌, ap, arith, subst, Result, Ok, Err}
use Rattle.std.proofs.lemmas.Option.{same_Some}
use Rattle.certificates.specs.Forms.{Form, form_of}
use Rattle.cert_lines.specs.declared.fault.CertFault.{CertFault}
use Rattle.cert_lines.specs.declared.fault.CertFault.TheVariants.{BadLine, WrongOrder, OutOfRange, Ends}
use Rattle.cert_lines.specs.Readers.{Left, Answer, and_then, form_at, formed, next_form, in_range, chosen, take_line, many, each}
use Rattle.cert_text.specs.Laws.{line_of}
use Rattle.cert_lines.specs.Taken.{formed_to}
use Rattle.cert_text.proofs.Equivalents.{both_ok, then_ok, same_Ok}
use Rattle.cert_lines.proofs.CallerLemmas.{two_pieces}
use Rattle.cert_text.proofs.TakingLemmas.{then_err}

-- the same lines up to line n, and more behind them
pub record Agree (n : ℕ) (l m : Left) : Type 0 where
  pub front : List (List ℕ)
  pub tail : List (List ℕ)
  pub other : List (List ℕ)
  pub left : l.pieces ≡ front ++ tail
  pub right : m.pieces ≡ front ++ other
  pub more : 1 ≤ length tail
  pub also : 1 ≤ length other
  pub number : l.number ≡ m.number
  pub to : l.number + length front ≡ n + 1

pub record IsLocal {A : Type 0} (read : Left → Answer A) : Type 0 where
  pub fails : (n : ℕ) (l m : Left) (f : CertFault) → Agree n l m → read l ≡ Err f → line_of f ≡ Some n → read m ≡ Err f
  pub passes : (n : ℕ) (l m o : Left) (x : A) → Agree n l m → read l ≡ Ok (x, o) → o.number ≤ n + 1 → (p : Left) × (read m ≡ Ok (x, p)) × Agree n o p
  pub late : (n : ℕ) (l : Left) (f : CertFault) → read l ≡ Err f → line_of f ≡ Some n → l.number ≤ n
  pub later : (l o : Left) (x : A) → read l ≡ Ok (x, o) → l.number ≤ o.number

pub same_Err : {A : Type 0} (f g : CertFault) → ◌≡◌ {A = Result A CertFault} (Err f) (Err g) → f ≡ g
same_Err f g e = cc

-- ---- nothing, and one reader after another

pub local-return : {A : Type 0} (x : A) → IsLocal (λ l. Ok (x, l))
local-return {A} x = record {
  fails = λ n l m f a e line. cc;
  passes = λ n l m o y a e within.
      let s = same_Ok (x, l) (y, o) e in
      (m, ap (λ (z : A). Ok (z, m)) (ap (λ (q : A × Left). q.0) s), subst (λ (q : Left). Agree n q m) (ap (λ (q : A × Left). q.1) s) a);
  late = λ n l f e line. cc;
  later = λ l o y e. let s = ap (λ (q : A × Left). q.1.number) (same_Ok (x, l) (y, o) e) in omega (arith, s);
}

pub either : {A B : Type 0} (r : Result A CertFault) (go : A → Result B CertFault) (f : CertFault) → and_then r go ≡ Err f → (r ≡ Err f) ⊎ ((a : A) × (r ≡ Ok a) × (go a ≡ Err f))
either (Ok a) go f h = inr (a, refl, h)
either (Err g) go f h = inl (ap (λ (x : CertFault). Err x) (same_Err g f h))

pub local-then : {A B : Type 0} (first : Left → Answer A) (second : ℕ → A → Left → Answer B) → IsLocal first → ((n : ℕ) (a : A) → IsLocal (second n a)) → IsLocal (λ l. and_then (first l) (λ a. second l.number a.0 a.1))
local-then {A} {B} first second i j = record {
  fails = λ n l m f a e line. at n l m f a (either (first l) (λ x. second l.number x.0 x.1) f e) line;
  passes = λ n l m o x a e within.
      let p = both_ok (first l) (λ y. second l.number y.0 y.1) (x, o) e in
      let up = (j l.number p.0.0).later p.0.1 o x p.2 in
      let q = i.passes n l m p.0.1 p.0.0 a p.1 (omega (arith, up, within)) in
      let r = (j l.number p.0.0).passes n p.0.1 q.0 o x q.2 p.2 within in
      (r.0, then_ok (first m) (λ y. second m.number y.0 y.1) (p.0.0, q.0) q.1 ∙ (ap (λ (k : ℕ). second k p.0.0 q.0) (sym a.number) ∙ r.1), r.2);
  late = λ n l f e line. low n l f (either (first l) (λ x. second l.number x.0 x.1) f e) line;
  later = λ l o x e.
      let p = both_ok (first l) (λ y. second l.number y.0 y.1) (x, o) e in
      let one = i.later l p.0.1 p.0.0 p.1 in
      let two = (j l.number p.0.0).later p.0.1 o x p.2 in
      omega (arith, one, two);
}
  where
    at : (n : ℕ) (l m : Left) (f : CertFault) → Agree n l m → (first l ≡ Err f) ⊎ ((x : A × Left) × (first l ≡ Ok x) × (second l.number x.0 x.1 ≡ Err f)) → line_of f ≡ Some n → and_then (first m) (λ x. second m.number x.0 x.1) ≡ Err f
    at n l m f a (inl e) line = then_err (first m) (λ x. second m.number x.0 x.1) f (i.fails n l m f a e line)
    at n l m f a (inr e) line =
        let low = (j l.number e.0.0).late n e.0.1 f e.2 line in
        let q = i.passes n l m e.0.1 e.0.0 a e.1 (omega (arith, low)) in
        then_ok (first m) (λ x. second m.number x.0 x.1) (e.0.0, q.0) q.1
        ∙ (ap (λ (k : ℕ). second k e.0.0 q.0) (sym a.number) ∙ (j l.number e.0.0).fails n e.0.1 q.0 f q.2 e.2 line)

    low : (n : ℕ) (l : Left) (f : CertFault) → (first l ≡ Err f) ⊎ ((x : A × Left) × (first l ≡ Ok x) × (second l.number x.0 x.1 ≡ Err f)) → line_of f ≡ Some n → l.number ≤ n
    low n l f (inl e) line = i.late n l f e line
    low n l f (inr e) line =
        let one = i.later l e.0.1 e.0.0 e.1 in
        let two = (j l.number e.0.0).late n e.0.1 f e.2 line in
        omega (arith, one, two)

-- ---- the next line

bad_number : (n k : ℕ) (f : CertFault) → BadLine k ≡ f → line_of f ≡ Some n → n ≡ k
bad_number n k f e line = sym (same_Some k n (ap line_of e ∙ line))

no_end : (n : ℕ) (f : CertFault) → Ends ≡ f → line_of f ≡ Some n → ⊥
no_end n f e line = let h : ◌≡◌ {A = Option ℕ} None (Some n) = ap line_of e ∙ line in cc

pub err-line : (v n k : ℕ) (pieces : List (List ℕ)) (f : CertFault) → form_at v k pieces ≡ Err f → line_of f ≡ Some n → n ≡ k
err-line v n k [] f e line = absurd (no_end n f (same_Err {A = Form × Left} Ends f e) line)
err-line v n k (w ∷ []) f e line = at (eqb (length w) 0) e
  where
    at : (t : Bool) → cond {A = Answer Form} t (Err Ends) (Err (BadLine k)) ≡ Err f → n ≡ k
    at true h = absurd (no_end n f (same_Err {A = Form × Left} Ends f h) line)
    at false h = bad_number n k f (same_Err {A = Form × Left} (BadLine k) f h) line
err-line v n k (w ∷ x ∷ ws) f e line = at (form_of v w) e
  where
    at : (o : Option Form) → formed k (x ∷ ws) o ≡ Err f → n ≡ k
    at None h = bad_number n k f (same_Err {A = Form × Left} (BadLine k) f h) line
    at (Some g) h = cc

both_more : (ws xs : List (List ℕ)) → 1 ≤ length xs → 1 ≤ length (ws ++ xs)
both_more [] xs h = h
both_more (w ∷ ws) xs h = omega arith

same_fault : (k : ℕ) (l m : Left) (o : Option Form) (f : CertFault) → formed_to k l o ≡ Err f → formed_to k m o ≡ Err f
same_fault k l m None f h = h
same_fault k l m (Some g) f h = cc

same_form : (k : ℕ) (l m o : Left) (p : Option Form) (x : Form) → formed_to k l p ≡ Ok (x, o) → (formed_to k m p ≡ Ok (x, m)) × (l ≡ o)
same_form k l m o None x h = cc
same_form k l m o (Some g) x h =
    let s = same_Ok (g, l) (x, o) h in
    (ap (λ (y : Form). Ok (y, m)) (ap (λ (q : Form × Left). q.0) s), ap (λ (q : Form × Left). q.1) s)

abbrev behind : ℕ → List (List ℕ) → Left
behind k pieces = record { number = k + 1; pieces = pieces }

next_fails : (v n k : ℕ) (front tail other : List (List ℕ)) (f : CertFault) → 1 ≤ length tail → 1 ≤ length other → k + length front ≡ n + 1 → form_at v k (front ++ tail) ≡ Err f → line_of f ≡ Some n → form_at v k (front ++ other) ≡ Err f
next_fails v n k [] tail other f more also to e line = let s = err-line v n k tail f e line in absurd (omega (arith, s, to))
next_fails v n k (w ∷ ws) tail other f more also to e line =
    two_pieces v k w (ws ++ other) (both_more ws other also)
    ∙ same_fault k (behind k (ws ++ tail)) (behind k (ws ++ other)) (form_of v w) f (sym (two_pieces v k w (ws ++ tail) (both_more ws tail more)) ∙ e)

pub form_number : (v k : ℕ) (pieces : List (List ℕ)) (o : Left) (x : Form) → form_at v k pieces ≡ Ok (x, o) → o.number ≡ k + 1
form_number v k [] o x e = cc
form_number v k (w ∷ []) o x e = at (eqb (length w) 0) e
  where
    at : (t : Bool) → cond {A = Answer Form} t (Err Ends) (Err (BadLine k)) ≡ Ok (x, o) → o.number ≡ k + 1
    at true h = cc
    at false h = cc
form_number v k (w ∷ y ∷ ws) o x e = at (form_of v w) e
  where
    at : (p : Option Form) → formed k (y ∷ ws) p ≡ Ok (x, o) → o.number ≡ k + 1
    at None h = cc
    at (Some g) h = sym (ap (λ (q : Form × Left). q.1.number) (same_Ok (g, behind k (y ∷ ws)) (x, o) h))

next_passes : (v n k : ℕ) (front tail other : List (List ℕ)) (o : Left) (x : Form) → 1 ≤ length tail → 1 ≤ length other → k + length front ≡ n + 1 → form_at v k (front ++ tail) ≡ Ok (x, o) → o.number ≤ n + 1
    → (p : Left) × (form_at v k (front ++ other) ≡ Ok (x, p)) × Agree n o p
next_passes v n k [] tail other o x more also to e within = let s = form_number v k tail o x e in absurd (omega (arith, s, to, within))
next_passes v n k (w ∷ ws) tail other o x more also to e within =
    let s = same_form k (behind k (ws ++ tail)) (behind k (ws ++ other)) o (form_of v w) x (sym (two_pieces v k w (ws ++ tail) (both_more ws tail more)) ∙ e) in (
      behind k (ws ++ other),
      two_pieces v k w (ws ++ other) (both_more ws other also) ∙ s.0,
      subst (λ (q : Left). Agree n q (behind k (ws ++ other))) s.1
          (record { front = ws; tail = tail; other = other; left = refl; right = refl; more = more; also = also; number = refl; to = omega (arith, to) }),
    )

pub local-next : (v : ℕ) → IsLocal (next_form v)
local-next v = record {
  fails = λ n l m f a e line.
      ap (form_at v m.number) a.right
      ∙ (ap (λ (k : ℕ). form_at v k (a.front ++ a.other)) (sym a.number)
      ∙ next_fails v n l.number a.front a.tail a.other f a.more a.also a.to (sym (ap (form_at v l.number) a.left) ∙ e) line);
  passes = λ n l m o x a e within.
      let p = next_passes v n l.number a.front a.tail a.other o x a.more a.also a.to (sym (ap (form_at v l.number) a.left) ∙ e) within in
      (p.0, ap (form_at v m.number) a.right ∙ (ap (λ (k : ℕ). form_at v k (a.front ++ a.other)) (sym a.number) ∙ p.1), p.2);
  late = λ n l f e line. let s = err-line v n l.number l.pieces f e line in omega (arith, s);
  later = λ l o x e. let s = form_number v l.number l.pieces o x e in omega (arith, s);
}

-- ---- what is made of a line

-- a value whatever is left, or a fault of line n
abbrev pub IsChoice : {A : Type 0} → ℕ → (Left → Answer A) → Type 0
IsChoice {A} n go = ((x : A) × ((m : Left) → go m ≡ Ok (x, m))) ⊎ ((f : CertFault) × (line_of f ≡ Some n) × ((m : Left) → go m ≡ Err f))

pub local-line : {A : Type 0} (v : ℕ) (go : ℕ → Form → Left → Answer A) → ((n : ℕ) (f : Form) → IsChoice n (go n f)) → IsLocal (λ l. and_then (next_form v l) (λ a. go l.number a.0 a.1))
local-line {A} v go choice = record {
  fails = λ n l m f a e line. at n l m f a (either (next_form v l) (λ x. go l.number x.0 x.1) f e) line;
  passes = λ n l m o x a e within.
      let p = both_ok (next_form v l) (λ y. go l.number y.0 y.1) (x, o) e in
      pass n l m o x a p.0.0 p.0.1 p.1 p.2 (choice l.number p.0.0) within;
  late = λ n l f e line. low n l f (either (next_form v l) (λ x. go l.number x.0 x.1) f e) line;
  later = λ l o x e.
      let p = both_ok (next_form v l) (λ y. go l.number y.0 y.1) (x, o) e in
      let one = (local-next v).later l p.0.1 p.0.0 p.1 in
      up l o x p.0.0 p.0.1 p.2 (choice l.number p.0.0) one;
}
  where
    other : (n : ℕ) (l m : Left) (f : CertFault) (g : Form) (o : Left) → Agree n l m → next_form v l ≡ Ok (g, o) → go l.number g o ≡ Err f → line_of f ≡ Some n → IsChoice l.number (go l.number g) → and_then (next_form v m) (λ x. go m.number x.0 x.1) ≡ Err f
    other n l m f g o a e h line (inl c) = let s : ◌≡◌ {A = Answer A} (Ok (c.0, o)) (Err f) = sym (c.1 o) ∙ h in cc
    other n l m f g o a e h line (inr c) =
        let same : c.0 ≡ f = same_Err c.0 f (sym (c.2 o) ∙ h) in
        let here : n ≡ l.number = sym (same_Some l.number n (sym c.1 ∙ (ap line_of same ∙ line))) in
        let next = form_number v l.number l.pieces o g e in
        let q = (local-next v).passes n l m o g a e (omega (arith, next, here)) in
        then_ok (next_form v m) (λ x. go m.number x.0 x.1) (g, q.0) q.1
        ∙ (ap (λ (k : ℕ). go k g q.0) (sym a.number) ∙ (c.2 q.0 ∙ ap (λ (x : CertFault). Err x) same))

    at : (n : ℕ) (l m : Left) (f : CertFault) → Agree n l m → (next_form v l ≡ Err f) ⊎ ((x : Form × Left) × (next_form v l ≡ Ok x) × (go l.number x.0 x.1 ≡ Err f)) → line_of f ≡ Some n → and_then (next_form v m) (λ x. go m.number x.0 x.1) ≡ Err f
    at n l m f a (inl e) line = then_err (next_form v m) (λ x. go m.number x.0 x.1) f ((local-next v).fails n l m f a e line)
    at n l m f a (inr e) line = other n l m f e.0.0 e.0.1 a e.1 e.2 line (choice l.number e.0.0)

    pass : (n : ℕ) (l m o : Left) (x : A) → Agree n l m → (g : Form) (q : Left) → next_form v l ≡ Ok (g, q) → go l.number g q ≡ Ok (x, o) → IsChoice l.number (go l.number g) → o.number ≤ n + 1
        → (p : Left) × (and_then (next_form v m) (λ y. go m.number y.0 y.1) ≡ Ok (x, p)) × Agree n o p
    pass n l m o x a g q e h (inr c) within = let s : ◌≡◌ {A = Answer A} (Err c.0) (Ok (x, o)) = sym (c.2 q) ∙ h in cc
    pass n l m o x a g q e h (inl c) within =
        let s = same_Ok (c.0, q) (x, o) (sym (c.1 q) ∙ h) in
        let r = (local-next v).passes n l m o g a (e ∙ ap (λ (y : Left). Ok (g, y)) (ap (λ (y : A × Left). y.1) s)) within in (
          r.0,
          then_ok (next_form v m) (λ y. go m.number y.0 y.1) (g, r.0) r.1
              ∙ (ap (λ (k : ℕ). go k g r.0) (sym a.number) ∙ (c.1 r.0 ∙ ap (λ (y : A). Ok (y, r.0)) (ap (λ (y : A × Left). y.0) s))),
          r.2,
        )

    low : (n : ℕ) (l : Left) (f : CertFault) → (next_form v l ≡ Err f) ⊎ ((x : Form × Left) × (next_form v l ≡ Ok x) × (go l.number x.0 x.1 ≡ Err f)) → line_of f ≡ Some n → l.number ≤ n
    low n l f (inl e) line = (local-next v).late n l f e line
    low n l f (inr e) line = own n l f e.0.0 e.0.1 e.2 line (choice l.number e.0.0)
      where
        own : (n : ℕ) (l : Left) (f : CertFault) (g : Form) (o : Left) → go l.number g o ≡ Err f → line_of f ≡ Some n → IsChoice l.number (go l.number g) → l.number ≤ n
        own n l f g o h line (inl c) = let s : ◌≡◌ {A = Answer A} (Ok (c.0, o)) (Err f) = sym (c.1 o) ∙ h in cc
        own n l f g o h line (inr c) =
            let same : c.0 ≡ f = same_Err c.0 f (sym (c.2 o) ∙ h) in
            let here : l.number ≡ n = same_Some l.number n (sym c.1 ∙ (ap line_of same ∙ line)) in
            omega (arith, here)

    up : (l o : Left) (x : A) (g : Form) (q : Left) → go l.number g q ≡ Ok (x, o) → IsChoice l.number (go l.number g) → l.number ≤ q.number → l.number ≤ o.number
    up l o x g q h (inr c) one = let s : ◌≡◌ {A = Answer A} (Err c.0) (Ok (x, o)) = sym (c.2 q) ∙ h in cc
    up l o x g q h (inl c) one = let s = ap (λ (y : A × Left). y.1.number) (same_Ok (c.0, q) (x, o) (sym (c.1 q) ∙ h)) in omega (arith, s, one)

chosen-choice : {A : Type 0} (fits : A → Bool) (n : ℕ) (o : Option A) → IsChoice n (chosen fits n o)
chosen-choice fits n None = inr (WrongOrder n, refl, λ m. refl)
chosen-choice {A} fits n (Some x) = at (fits x) refl
  where
    at : (t : Bool) → fits x ≡ t → IsChoice n (chosen fits n (Some x))
    at true e = inl (x, λ m. ap (in_range n x m) e)
    at false e = inr (OutOfRange n, refl, λ m. ap (in_range n x m) e)

pub local-take : {A : Type 0} (v : ℕ) (pick : Form → Option A) (fits : A → Bool) → IsLocal (take_line v pick fits)
local-take v pick fits = local-line v (λ n f m. chosen fits n (pick f) m) (λ n f. chosen-choice fits n (pick f))

-- ---- many lines

pub local-many : {A : Type 0} (n : ℕ) (read : Left → Answer A) → IsLocal read → IsLocal (many n read)
local-many zero read i = local-return []
local-many (suc n) read i =
    local-then read (λ k a m. and_then (many n read m) (λ b. Ok (a ∷ b.0, b.1))) i (λ k a. local-then (many n read) (λ j b m. Ok (a ∷ b, m)) (local-many n read i) (λ j b. local-return (a ∷ b)))

pub local-each : {A B : Type 0} (read : B → Left → Answer A) (xs : List B) → ((x : B) → IsLocal (read x)) → IsLocal (each read xs)
local-each read [] i = local-return []
local-each read (x ∷ xs) i =
    local-then (read x) (λ k a m. and_then (each read xs m) (λ b. Ok (a ∷ b.0, b.1))) (i x) (λ k a. local-then (each read xs) (λ j b m. Ok (a ∷ b, m)) (local-each read xs i) (λ j b. local-return (a ∷ b)))
