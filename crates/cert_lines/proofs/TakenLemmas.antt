-- A line that is taken by its kind, and the numbers of a line of a kind.
use Rattle.std.proofs.Common.{◌≡◌, ◌≢◌, inl, inr, ℕ, Bool, true, false, cond, Option, Some, None, List, refl, sym, ◌∙◌, ap, Result, Ok, Err}
use Rattle.std.proofs.lemmas.Bool.{false≢true}
use Rattle.certificates.specs.declared.kind.Kind.{Kind}
use Rattle.certificates.specs.declared.kind.Kind.TheVariants as kind
use Rattle.certificates.specs.Plain.{Plain, parts}
use Rattle.certificates.specs.Placed as q
use Rattle.certificates.specs.Forms.{Form, plain, placed}
use Rattle.cert_lines.specs.declared.kind.LineKind.{LineKind}
use Rattle.cert_lines.specs.declared.kind.LineKind.TheVariants as line_kind
use Rattle.cert_lines.specs.Kinds.{kind_of}
use Rattle.cert_lines.specs.Listed.{numbers_in}
use Rattle.cert_lines.specs.declared.fault.CertFault.{CertFault}
use Rattle.cert_lines.specs.Readers.{Left, and_then, next_form, in_range, chosen, take_line}
use Rattle.cert_lines.specs.Taken.{IsTaken, IsRefused, four_of, same_kind, numbers_if, any}
use Rattle.cert_lines.proofs.WordLemmas.{numbers-told}

then_ok : {A B : Type 0} (r : Result A CertFault) (go : A → Result B CertFault) (a : A) → r ≡ Ok a → and_then r go ≡ go a
then_ok r go a e = ap (λ s. and_then s go) e

-- ---- kinds

same-self : (k : Kind) → same_kind k k ≡ true
same-self kind.Version = refl
same-self kind.Modulus = refl
same-self kind.Cells = refl
same-self kind.Face = refl
same-self kind.Chains = refl
same-self kind.Rank = refl
same-self kind.RankLine = refl
same-self kind.Classes = refl
same-self kind.ClassLine = refl
same-self kind.Products = refl
same-self kind.ProductLine = refl
same-self kind.Pairs = refl
same-self kind.PairLine = refl
same-self kind.Critical = refl
same-self kind.Components = refl
same-self kind.Columns = refl
same-self kind.Covers = refl
same-self kind.Done = refl
same-self kind.End = refl

same-is : (k l : Kind) → same_kind k l ≡ true → l ≡ k
same-is kind.Version kind.Version h = refl
same-is kind.Modulus kind.Modulus h = refl
same-is kind.Cells kind.Cells h = refl
same-is kind.Face kind.Face h = refl
same-is kind.Chains kind.Chains h = refl
same-is kind.Rank kind.Rank h = refl
same-is kind.RankLine kind.RankLine h = refl
same-is kind.Classes kind.Classes h = refl
same-is kind.ClassLine kind.ClassLine h = refl
same-is kind.Products kind.Products h = refl
same-is kind.ProductLine kind.ProductLine h = refl
same-is kind.Pairs kind.Pairs h = refl
same-is kind.PairLine kind.PairLine h = refl
same-is kind.Critical kind.Critical h = refl
same-is kind.Components kind.Components h = refl
same-is kind.Columns kind.Columns h = refl
same-is kind.Covers kind.Covers h = refl
same-is kind.Done kind.Done h = refl
same-is kind.End kind.End h = refl
same-is k l h = absurd (false≢true h)

-- what a form of a kind says, by a reader of its plain part
abbrev pub if_kind : {A : Type 0} → (Plain → Option A) → Kind → Form → Option A
if_kind read k (plain f) = cond (same_kind k (parts f).kind) (read f) None
if_kind read k (placed f) = None

same_plain : (a b : Kind) → line_kind.Plain a ≡ line_kind.Plain b → a ≡ b
same_plain a b e = cc

-- a form of the kind is plain
pub plain-of : (k : Kind) (f : Form) → kind_of f ≡ line_kind.Plain k → (g : Plain) × (f ≡ plain g) × ((parts g).kind ≡ k)
plain-of k (plain g) e = (g, refl, same_plain (parts g).kind k e)
plain-of k (placed (q.Sheets n s)) e = cc
plain-of k (placed (q.Cover m rows)) e = cc
plain-of k (placed (q.Spent s)) e = cc

pub of-kind : {A : Type 0} (read : Plain → Option A) (k : Kind) (g : Plain) → (parts g).kind ≡ k → if_kind read k (plain g) ≡ read g
of-kind read k g e = ap (λ (t : Bool). cond t (read g) None) (ap (same_kind k) e ∙ same-self k)

pub no-kind : {A : Type 0} (read : Plain → Option A) (k : Kind) (f : Form) → kind_of f ≢ line_kind.Plain k → if_kind read k f ≡ None
no-kind read k (placed f) h = refl
no-kind read k (plain g) h = at (same_kind k (parts g).kind) refl
  where
    at : (t : Bool) → same_kind k (parts g).kind ≡ t → cond t (read g) None ≡ None
    at true e = absurd (h (ap line_kind.Plain (same-is k (parts g).kind e)))
    at false e = refl

-- ---- a line

pub taken-is : {A : Type 0} (v : ℕ) (l m : Left) (w : LineKind) (line : List ℕ) (pick : Form → Option A) (fits : A → Bool) (x : A) (t : IsTaken v l w m line) → pick t.form ≡ Some x → take_line v pick fits l ≡ in_range l.number x m (fits x)
taken-is v l m w line pick fits x t e = then_ok (next_form v l) (λ a. chosen fits l.number (pick a.0) a.1) (t.form, m) t.next ∙ ap (λ o. chosen fits l.number o m) e

pub refused-is : {A : Type 0} (v : ℕ) (l : Left) (w : LineKind) (fault : CertFault) (pick : Form → Option A) (fits : A → Bool) → ((f : Form) → kind_of f ≢ w → pick f ≡ None) → IsRefused v l w fault → take_line v pick fits l ≡ Err fault
refused-is v l w fault pick fits none (inl e) = ap (λ r. and_then r (λ a. chosen fits l.number (pick a.0) a.1)) e
refused-is v l w fault pick fits none (inr o) =
    then_ok (next_form v l) (λ a. chosen fits l.number (pick a.0) a.1) (o.form, o.now) o.next
    ∙ (ap (λ p. chosen fits l.number p o.now) (none o.form o.kind) ∙ ap (λ (f : CertFault). Err f) (sym o.is))

-- ---- the numbers of a line

abbrev first_four : Plain → Option (List ℕ)
first_four f = Some (four_of (parts f).rest.numbers)

same_numbers : (k : Kind) (f : Form) → if_kind first_four k f ≡ numbers_if k f
same_numbers k (plain f) = refl
same_numbers k (placed f) = refl

pub numbers-taken : (v : ℕ) (l m : Left) (k : Kind) (line : List ℕ) → IsTaken v l (line_kind.Plain k) m line → take_line v (numbers_if k) any l ≡ Ok (four_of (numbers_in line), m)
numbers-taken v l m k line t =
    let p = plain-of k t.form t.kind in
    let told : numbers_in line ≡ (parts p.0).rest.numbers = numbers-told v line p.0 (t.of ∙ ap (λ (f : Form). Some f) p.1) in
    taken-is v l m (line_kind.Plain k) line (numbers_if k) any (four_of (numbers_in line)) t
    (ap (numbers_if k) p.1 ∙ (sym (same_numbers k (plain p.0)) ∙ (of-kind first_four k p.0 p.2 ∙ ap (λ (ns : List ℕ). Some (four_of ns)) (sym told))))

pub numbers-refused : (v : ℕ) (l : Left) (k : Kind) (fault : CertFault) → IsRefused v l (line_kind.Plain k) fault → take_line v (numbers_if k) any l ≡ Err fault
numbers-refused v l k fault r = refused-is v l (line_kind.Plain k) fault (numbers_if k) any (λ f h. sym (same_numbers k f) ∙ no-kind first_four k f h) r
