-- The line `end`, what may stand behind the products, and the whole of a text.
use Rattle.std.proofs.Common.{◌≡◌, ◌≢◌, ◌∷◌, [], ℕ, Bool, true, false, Option, Some, None, Result, List, length, refl, sym, ◌∙◌, ap, arith, subst, IfErr, Ok, Err}
use Rattle.std.specs.Prelude.{slice_index_or}
use Rattle.std.proofs.lemmas.Bool.{false≢true}
use Rattle.face_poset.specs.Poset.{Layers, IsSpace}
use Rattle.certificates.specs.declared.kind.Kind.TheVariants as kind
use Rattle.certificates.specs.Plain as p
use Rattle.certificates.specs.Plain.{Plain, parts}
use Rattle.certificates.specs.Placed as place
use Rattle.certificates.specs.Forms.{Form, plain, placed}
use Rattle.certificates.specs.Cert.{Cert, CertCover}
use Rattle.cert_lines.specs.declared.kind.LineKind.{LineKind}
use Rattle.cert_lines.specs.declared.kind.LineKind.TheVariants as line_kind
use Rattle.cert_lines.specs.Kinds.{kind_of}
use Rattle.cert_lines.specs.Listed.{numbers_in}
use Rattle.cert_lines.proofs.CallerLemmas.{numbers-told}
use Rattle.cert_lines.specs.declared.fault.CertFault.{CertFault}
use Rattle.cert_lines.specs.declared.fault.CertFault.TheVariants.{Ends, Memory}
use Rattle.cert_lines.specs.Readers.{Left, Answer, and_then, take_line}
use Rattle.cert_text.specs.Picks.{pick_end, pick_pairs_or_end}
use Rattle.cert_lines.specs.Readers.{start}
use Rattle.cert_text.specs.Reading.{read_version, read_body, read_space, read_cover, read_covers, covered, nothing_left, certificate_of}
use Rattle.cert_lines.specs.Taken.{IsTaken, IsRefused}
use Rattle.cert_text.proofs.SpaceReaders.{space-read}
use Rattle.cert_text.proofs.WellSpaces.{space-well}
use Rattle.cert_lines.proofs.CallerLemmas.{taken-is, refused-is}

abbrev is_end : LineKind → Bool
is_end (line_kind.Plain kind.End) = true
is_end k = false

abbrev is_pairs : LineKind → Bool
is_pairs (line_kind.Plain kind.Pairs) = true
is_pairs k = false

-- ---- the line `end`

end_form : (f : Form) → kind_of f ≡ line_kind.Plain kind.End → pick_end f ≡ Some tt
end_form (plain p.End) e = refl
end_form (plain g) e = absurd (false≢true (ap is_end e))
end_form (placed (place.Sheets n s)) e = absurd (false≢true (ap is_end e))
end_form (placed (place.Cover m rows)) e = absurd (false≢true (ap is_end e))
end_form (placed (place.Spent s)) e = absurd (false≢true (ap is_end e))

no_end : (f : Form) → kind_of f ≢ line_kind.Plain kind.End → pick_end f ≡ None
no_end (plain p.End) h = absurd (h refl)
no_end f h = refl

pub end-refused : (v : ℕ) (l : Left) (f : CertFault) → IsRefused v l (line_kind.Plain kind.End) f → take_line v pick_end (λ _. true) l ≡ Err f
end-refused v l f r = refused-is v l (line_kind.Plain kind.End) f pick_end (λ _. true) no_end r

pub end-taken : (v : ℕ) (l m : Left) (text : List ℕ) → IsTaken v l (line_kind.Plain kind.End) m text → take_line v pick_end (λ _. true) l ≡ Ok (tt, m)
end-taken v l m text t = taken-is v l m (line_kind.Plain kind.End) text pick_end (λ _. true) tt t (end_form t.form t.kind)

-- ---- the cover part

pairs_form : (f : Form) → kind_of f ≡ line_kind.Plain kind.Pairs → (q : ℕ) × (f ≡ plain (p.Pairs q))
pairs_form (plain (p.Pairs q)) e = (q, refl)
pairs_form (plain g) e = absurd (false≢true (ap is_pairs e))
pairs_form (placed (place.Sheets n s)) e = absurd (false≢true (ap is_pairs e))
pairs_form (placed (place.Cover m rows)) e = absurd (false≢true (ap is_pairs e))
pairs_form (placed (place.Spent s)) e = absurd (false≢true (ap is_pairs e))

abbrev after : (v : ℕ) → Layers → Answer (Option ℕ) → Answer (Option CertCover)
after v space r = and_then r (λ a. covered v space a.0 a.1)

abbrev pub with-cover : Answer CertCover → Answer (Option CertCover)
with-cover r = and_then r (λ a. Ok (Some a.0, a.1))

pub some-covers : (v : ℕ) (space : Layers) (l m : Left) (w : LineKind) (text : List ℕ) → IsTaken v l w m text → w ≡ line_kind.Plain kind.Pairs
    → read_covers v space l ≡ with-cover (read_cover v space (slice_index_or (numbers_in text) 0 0) m)
some-covers v space l m w text t e =
    let f = pairs_form t.form (t.kind ∙ e) in
    let numbers : numbers_in text ≡ f.0 ∷ [] = numbers-told v text (p.Pairs f.0) (t.of ∙ ap (λ (g : Form). Some g) f.1) in
    ap (after v space) (taken-is v l m w text pick_pairs_or_end (λ _. true) (Some f.0) t (ap pick_pairs_or_end f.1))
    ∙ ap (λ (ns : List ℕ). with-cover (read_cover v space (slice_index_or ns 0 0) m)) (sym numbers)

-- ---- the space

pub space-valid : (v : ℕ) (l m : Left) (space : Layers) → read_space v l ≡ Ok (space, m) → IsSpace space
space-valid v l m space h = at l.pieces refl
  where
    at : (pieces : List (List ℕ)) → l.pieces ≡ pieces → IsSpace space
    at [] e = absurd (no_line (ap (λ (ps : List (List ℕ)). read_space v (record { number = l.number; pieces = ps })) (sym e) ∙ h))
      where
        no_line : ◌≡◌ {A = Answer Layers} (Err Ends) (Ok (space, m)) → ⊥
        no_line h = cc
    at (line ∷ rest) e = (space-well space ((space-read v).sound l m space (omega (arith, ap length e)) h).0).0

-- ---- a whole text

abbrev rest : Answer ℕ → Result Cert CertFault
rest r = and_then r (λ v. and_then (read_body v.0 v.1) (λ c. nothing_left v.0 c.0 c.1))

pub version-fault : (text : List ℕ) (l : Left) (f : CertFault) → l ≡ start text → read_version l ≡ Err f → certificate_of text ≡ Err f
version-fault text l f e h = ap (λ (k : Left). rest (read_version k)) (sym e) ∙ ap rest h

body : (text : List ℕ) (l m : Left) (v : ℕ) → l ≡ start text → read_version l ≡ Ok (v, m) → certificate_of text ≡ and_then (read_body v m) (λ c. nothing_left v c.0 c.1)
body text l m v e h = ap (λ (k : Left). rest (read_version k)) (sym e) ∙ ap rest h

pub body-fault : (text : List ℕ) (l m : Left) (v : ℕ) (f : CertFault) → l ≡ start text → read_version l ≡ Ok (v, m) → read_body v m ≡ Err f → certificate_of text ≡ Err f
body-fault text l m v f e h g = body text l m v e h ∙ ap (λ r. and_then r (λ c. nothing_left v c.0 c.1)) g

pub text-read : (text : List ℕ) (l m n : Left) (v : ℕ) (c : Cert) → l ≡ start text → read_version l ≡ Ok (v, m) → read_body v m ≡ Ok (c, n) → certificate_of text ≡ nothing_left v c n
text-read text l m n v c e h g = body text l m v e h ∙ ap (λ r. and_then r (λ c. nothing_left v c.0 c.1)) g

-- a fault that is passed on
pub fails-so : {B : Type 0} (wanted : Result Cert CertFault) (r : Result B CertFault) (f : CertFault) → r ≡ Err f → (f ≢ Memory → wanted ≡ Err f) → IfErr r (λ fault. fault ≢ Memory → wanted ≡ Err fault)
fails-so wanted r f e h = subst (λ s. IfErr s (λ fault. fault ≢ Memory → wanted ≡ Err fault)) (sym e) h
