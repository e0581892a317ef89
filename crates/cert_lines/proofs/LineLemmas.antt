-- The next line of the text, by the place of its line feed, and by its kind.
use Rattle.std.proofs.Common.{zero, suc, inr, ◌≢◌, ◌≡◌, ◌≤◌, ◌+◌, ◌-◌, ◌∷◌, [], ℕ, Bool, true, false, cond, eqb, Option, Some, None, List, length, take, drop, position, refl, sym, ◌∙◌, ap, arith, Err}
use Rattle.std.specs.Prelude.{slice_index_or}
use Rattle.std.specs.Option.{option_map, unwrap_or}
use Rattle.std.specs.List.{slice_get}
use Rattle.std.proofs.lemmas.Option.{same_Some}
use Rattle.std.proofs.lemmas.List.Splits.{length-slice_split}
use Rattle.certificates.specs.Forms.{Form, form_of}
use Rattle.cert_lines.specs.declared.kind.LineKind.{LineKind}
use Rattle.cert_lines.specs.Kinds.{kind_of}
use Rattle.cert_lines.proofs.CutLemmas.{cut-none, cut-some}
use Rattle.cert_lines.specs.declared.fault.CertFault.TheVariants.{BadLine, WrongOrder, Ends}
use Rattle.cert_lines.specs.Readers.{Left, Answer, pieces_of, form_at, formed, next_form}
use Rattle.cert_lines.specs.Taken.{formed_to, IsTaken, IsRefused}

same_formed : (n : ℕ) (m : Left) (o : Option Form) → formed n m.pieces o ≡ formed_to n (record { number = n + 1; pieces = m.pieces }) o
same_formed n m None = refl
same_formed n m (Some f) = refl

pub two_pieces : (v n : ℕ) (line : List ℕ) (rest : List (List ℕ)) → 1 ≤ length rest → form_at v n (line ∷ rest) ≡ formed_to n (record { number = n + 1; pieces = rest }) (form_of v line)
two_pieces v n line [] l = absurd (omega arith)
two_pieces v n line (more ∷ rest) l = same_formed n (record { number = n + 1; pieces = more ∷ rest }) (form_of v line)

pub line-cut : (v n : ℕ) (text : List ℕ) (i : ℕ) → position (λ b. eqb b 10) text ≡ Some i
    → form_at v n (pieces_of text) ≡ formed_to n (record { number = n + 1; pieces = pieces_of (take (length text - (i + 1)) (drop (i + 1) text)) }) (form_of v (take i text))
line-cut v n text i h =
    let rest : List ℕ = take (length text - (i + 1)) (drop (i + 1) text) in
    ap (form_at v n) (cut-some 10 text i h).cut ∙ two_pieces v n (take i text) (pieces_of rest) (omega (arith, length-slice_split (λ b. eqb b 10) rest))

ended : (n : ℕ) (t : Bool) → cond {A = Answer Form} t (Err Ends) (Err (BadLine n)) ≡ Err (cond t Ends (BadLine n))
ended n true = refl
ended n false = refl

pub line-none : (v n : ℕ) (text : List ℕ) → position (λ b. eqb b 10) text ≡ None → form_at v n (pieces_of text) ≡ Err (cond (eqb (length text) 0) Ends (BadLine n))
line-none v n text h = ap (form_at v n) (cut-none 10 text h) ∙ ended n (eqb (length text) 0)

pub or_zero : (ns : List ℕ) (i : ℕ) → unwrap_or (slice_get ns i) 0 ≡ slice_index_or ns i 0
or_zero [] i = refl
or_zero (n ∷ ns) zero = refl
or_zero (n ∷ ns) (suc i) = or_zero ns i

-- ---- a line by its kind

formed_kind : (o : Option Form) (k : LineKind) → option_map kind_of o ≡ Some k → (f : Form) × (o ≡ Some f) × (kind_of f ≡ k)
formed_kind None k h = cc
formed_kind (Some f) k h = (f, refl, same_Some (kind_of f) k h)

formed_none : (o : Option Form) → option_map kind_of o ≡ None → o ≡ None
formed_none None h = refl
formed_none (Some f) h = cc

pub taken-there : (v : ℕ) (l m : Left) (k : LineKind) (line : List ℕ) → next_form v l ≡ formed_to l.number m (form_of v line) → option_map kind_of (form_of v line) ≡ Some k → IsTaken v l k m line
taken-there v l m k line h e =
    let p = formed_kind (form_of v line) k e in
    record { form = p.0; next = h ∙ ap (formed_to l.number m) p.1; kind = p.2; of = p.1 }

pub taken-none : (v : ℕ) (l m : Left) (line : List ℕ) → next_form v l ≡ formed_to l.number m (form_of v line) → option_map kind_of (form_of v line) ≡ None → next_form v l ≡ Err (BadLine l.number)
taken-none v l m line h e = h ∙ ap (formed_to l.number m) (formed_none (form_of v line) e)

pub other-kind : (v : ℕ) (l m : Left) (k w : LineKind) (line : List ℕ) → IsTaken v l k m line → k ≢ w → IsRefused v l w (WrongOrder l.number)
other-kind v l m k w line t other = inr (record { form = t.form; now = m; next = t.next; kind = λ s. other (sym t.kind ∙ s); is = refl })
