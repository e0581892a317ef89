-- A line that was taken by its kind is the line that the definition takes.
use Rattle.std.proofs.Common.{eqb, ◌||◌, ◌≡◌, ◌≢◌, ℕ, Bool, true, false, cond, Option, Some, None, List, refl, sym, ◌∙◌, ap, subst, Result, Ok, Err}
use Rattle.std.specs.Option.{option_map}
use Rattle.std.specs.Prelude.{slice_index_or}
use Rattle.std.proofs.lemmas.Option.{same_Some}
use Rattle.certificates.specs.declared.kind.Kind.{Kind}
use Rattle.certificates.specs.declared.kind.Kind.TheVariants as kind
use Rattle.certificates.specs.Plain.{Plain, parts}
use Rattle.certificates.specs.Plain as p
use Rattle.certificates.specs.Forms.{Form, plain}
use Rattle.cert_lines.specs.declared.fault.CertFault.{CertFault}
use Rattle.cert_lines.specs.declared.fault.CertFault.TheVariants.{WrongOrder, OutOfRange, BadVersion, Memory}
use Rattle.cert_lines.specs.Readers.{Left, Answer, and_then, next_form, in_range, chosen, take_line}
use Rattle.cert_text.specs.Picks.{pick_modulus, pick_cells, pick_chains}
use Rattle.cert_text.specs.Reading.{versioned, read_version}
use Rattle.cert_lines.specs.Taken.{Reads, numbers_if, any}
use Rattle.cert_text.proofs.Equivalents.{same_Ok}

-- ---- a line of numbers, by what is picked of them

-- what is picked of a form are these of its numbers
abbrev pub IsPick : {A : Type 0} → Kind → (Form → Option A) → (List ℕ → A) → Type 0
IsPick k pick of = (f : Form) → pick f ≡ option_map of (numbers_if k f)

by_numbers : {A : Type 0} (l m : Left) (of : List ℕ → A) (fits : A → Bool) (o : Option (List ℕ)) (ns : List ℕ) → chosen any l.number o m ≡ Ok (ns, m) → chosen fits l.number (option_map of o) m ≡ in_range l.number (of ns) m (fits (of ns))
by_numbers l m of fits None ns h = cc
by_numbers l m of fits (Some x) ns h = ap (λ (y : List ℕ). in_range l.number (of y) m (fits (of y))) (ap (λ (p : List ℕ × Left). p.0) (same_Ok (x, m) (ns, m) h))

left_after : (l m n : Left) (o : Option (List ℕ)) (ns : List ℕ) → chosen any l.number o m ≡ Ok (ns, n) → m ≡ n
left_after l m n None ns h = cc
left_after l m n (Some x) ns h = ap (λ (p : List ℕ × Left). p.1) (same_Ok (x, m) (ns, n) h)

pub picked-line : {A : Type 0} (v : ℕ) (l m : Left) (k : Kind) (ns : List ℕ) (pick : Form → Option A) (of : List ℕ → A) (fits : A → Bool) → IsPick k pick of → take_line v (numbers_if k) any l ≡ Ok (ns, m) → take_line v pick fits l ≡ in_range l.number (of ns) m (fits (of ns))
picked-line {A} v l m k ns pick of fits is h = at (next_form v l) h
  where
    at : (r : Answer Form) → and_then r (λ a. chosen any l.number (numbers_if k a.0) a.1) ≡ Ok (ns, m) → and_then r (λ a. chosen fits l.number (pick a.0) a.1) ≡ in_range l.number (of ns) m (fits (of ns))
    at (Err f) h = cc
    at (Ok a) h =
        let e : a.1 ≡ m = left_after l a.1 m (numbers_if k a.0) ns h in
        ap (λ (n : Left). chosen fits l.number (pick a.0) n) e
        ∙ (ap (λ (o : Option A). chosen fits l.number o m) (is a.0)
        ∙ by_numbers l m of fits (numbers_if k a.0) ns (ap (λ (n : Left). chosen any l.number (numbers_if k a.0) n) (sym e) ∙ h))

pub fits-line : {A : Type 0} (v : ℕ) (l m : Left) (k : Kind) (ns : List ℕ) (pick : Form → Option A) (of : List ℕ → A) (fits : A → Bool) → IsPick k pick of → fits (of ns) ≡ true → take_line v (numbers_if k) any l ≡ Ok (ns, m) → take_line v pick fits l ≡ Ok (of ns, m)
fits-line v l m k ns pick of fits is t h = picked-line v l m k ns pick of fits is h ∙ ap (in_range l.number (of ns) m) t

pub unfit-line : {A : Type 0} (v : ℕ) (l m : Left) (k : Kind) (ns : List ℕ) (pick : Form → Option A) (of : List ℕ → A) (fits : A → Bool) → IsPick k pick of → fits (of ns) ≡ false → take_line v (numbers_if k) any l ≡ Ok (ns, m) → take_line v pick fits l ≡ Err (OutOfRange l.number)
unfit-line v l m k ns pick of fits is t h = picked-line v l m k ns pick of fits is h ∙ ap (in_range l.number (of ns) m) t

not_chosen : {A : Type 0} (l m : Left) (of : List ℕ → A) (fits : A → Bool) (o : Option (List ℕ)) (fault : CertFault) → chosen any l.number o m ≡ Err fault → chosen fits l.number (option_map of o) m ≡ Err fault
not_chosen l m of fits None fault h = ap (λ (f : CertFault). Err f) (let e : WrongOrder l.number ≡ fault = cc in e)
not_chosen l m of fits (Some x) fault h = cc

pub fails-line : {A : Type 0} (v : ℕ) (l : Left) (k : Kind) (fault : CertFault) (pick : Form → Option A) (of : List ℕ → A) (fits : A → Bool) → IsPick k pick of → take_line v (numbers_if k) any l ≡ Err fault → take_line v pick fits l ≡ Err fault
fails-line {A} v l k fault pick of fits is h = at (next_form v l) h
  where
    at : (r : Answer Form) → and_then r (λ a. chosen any l.number (numbers_if k a.0) a.1) ≡ Err fault → and_then r (λ a. chosen fits l.number (pick a.0) a.1) ≡ Err fault
    at (Err f) h = ap (λ (g : CertFault). Err g) (let e : f ≡ fault = cc in e)
    at (Ok a) h = ap (λ (o : Option A). chosen fits l.number o a.1) (is a.0) ∙ not_chosen l a.1 of fits (numbers_if k a.0) fault h

-- ---- what a call of the code answers

-- a fault that is passed on
pub breaks : {A B : Type 0} (see : B → A) (wanted : Answer A) (now : Left) (r : Result B CertFault) (f : CertFault) → r ≡ Err f → (f ≢ Memory → wanted ≡ Err f) → Reads see wanted now r
breaks see wanted now r f e h = subst (Reads see wanted now) (sym e) h

-- the number of the line that is out of range
pub out_of : {A : Type 0} (n m : ℕ) → n ≡ m → ◌≡◌ {A = Answer A} (Err (OutOfRange n)) (Err (OutOfRange m))
out_of n m e = ap (λ (k : ℕ). Err (OutOfRange k)) e

-- ---- picks of one line

pub modulus-pick : IsPick kind.Modulus pick_modulus (λ ns. slice_index_or ns 0 0)
modulus-pick (plain (p.Modulus n)) = refl
modulus-pick f = refl

abbrev pick_version : Form → Option ℕ
pick_version (plain (p.Version n)) = Some n
pick_version f = None

version-pick : IsPick kind.Version pick_version (λ ns. slice_index_or ns 0 0)
version-pick (plain (p.Version n)) = refl
version-pick f = refl

-- the version by what is picked
abbrev numbered : (n : ℕ) → Left → Option ℕ → Answer ℕ
numbered n left None = Err (WrongOrder n)
numbered n left (Some v) = cond ((eqb v 1) || (eqb v 2)) (Ok (v, left)) (Err BadVersion)

same_version : (n : ℕ) (f : Form) (left : Left) → versioned n f left ≡ numbered n left (pick_version f)
same_version n (plain (p.Version v)) left = refl
same_version n f left = refl

abbrev checked : Answer ℕ → Answer ℕ
checked a = and_then a (λ x. cond ((eqb x.0 1) || (eqb x.0 2)) (Ok (x.0, x.1)) (Err BadVersion))

checked-numbered : (n : ℕ) (left : Left) (o : Option ℕ) → numbered n left o ≡ checked (chosen any n o left)
checked-numbered n left None = refl
checked-numbered n left (Some v) = refl

pub version-read : (l : Left) → read_version l ≡ checked (take_line 2 pick_version any l)
version-read l = at (next_form 2 l)
  where
    at : (r : Answer Form) → and_then r (λ a. versioned l.number a.0 a.1) ≡ checked (and_then r (λ a. chosen any l.number (pick_version a.0) a.1))
    at (Err f) = refl
    at (Ok a) = same_version l.number a.0 a.1 ∙ checked-numbered l.number a.1 (pick_version a.0)

pub version-taken : (l m : Left) (ns : List ℕ) → take_line 2 (numbers_if kind.Version) any l ≡ Ok (ns, m) → read_version l ≡ cond ((eqb (slice_index_or ns 0 0) 1) || (eqb (slice_index_or ns 0 0) 2)) (Ok (slice_index_or ns 0 0, m)) (Err BadVersion)
version-taken l m ns h = version-read l ∙ ap checked (picked-line 2 l m kind.Version ns pick_version (λ ns. slice_index_or ns 0 0) any version-pick h)

pub version-fails : (l : Left) (f : CertFault) → take_line 2 (numbers_if kind.Version) any l ≡ Err f → read_version l ≡ Err f
version-fails l f h = version-read l ∙ ap checked (fails-line 2 l kind.Version f pick_version (λ ns. slice_index_or ns 0 0) any version-pick h)

pub cells-pick : IsPick kind.Cells pick_cells (λ ns. ns)
cells-pick (plain (p.Cells a b c d)) = refl
cells-pick f = refl

pub chains-pick : IsPick kind.Chains pick_chains (λ ns. ns)
chains-pick (plain (p.Chains a b c d)) = refl
chains-pick f = refl

-- numbers that are answered if they fit
pub counts-none : (t : Bool) (ns : List ℕ) → None ≡ cond t (Some ns) None → t ≡ false
counts-none true ns h = cc
counts-none false ns h = refl

pub counts-some : (t : Bool) (ns xs : List ℕ) → Some xs ≡ cond t (Some ns) None → (t ≡ true) × (xs ≡ ns)
counts-some true ns xs h = (refl, same_Some xs ns h)
counts-some false ns xs h = cc

-- a call that reads what is left to read
pub continues : {A B : Type 0} (see : B → A) (wanted more : Answer A) (now : Left) (r : Result B CertFault) → wanted ≡ more → Reads see more now r → Reads see wanted now r
continues see wanted more now r e h = subst (λ w. Reads see w now r) (sym e) h

pub then_err : {A B : Type 0} (r : Result A CertFault) (go : A → Result B CertFault) (f : CertFault) → r ≡ Err f → and_then r go ≡ Err f
then_err r go f e = ap (λ s. and_then s go) e
