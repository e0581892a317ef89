-- A fault at a line that has a line feed stays, whatever follows.
use Rattle.std.proofs.Common.{◌≡◌, ◌<◌, ◌++◌, ◌∷◌, [], ◌⊎◌, inl, inr, ℕ, Bool, true, false, cond, eqb, Option, Some, None, List, length, take, drop, refl, sym, ◌∙◌, ap, arith, Result, Ok, Err, All}
use Rattle.std.specs.List.{slice_split, onto_first, flat_map}
use Rattle.std.proofs.lemmas.Bool.{eq-eqb}
use Rattle.std.proofs.lemmas.Option.{same_Some}
use Rattle.std.proofs.lemmas.List.{take-append-drop, append_assoc, length-take-le, length-drop}
use Rattle.std.proofs.lemmas.List.Splits.{slice_split_at, length-slice_split}
use Rattle.std.proofs.lemmas.List.Elements.{All-nil, All-cons, All-head, All-tail, All-take}
use Rattle.certificates.specs.Forms.{Form}
use Rattle.certificates.specs.Cert.{Cert}
use Rattle.cert_lines.specs.declared.fault.CertFault.{CertFault}
use Rattle.cert_lines.specs.declared.fault.CertFault.TheVariants.{WrongOrder, Ends}
use Rattle.cert_lines.specs.Readers.{Left, Answer, pieces_of, and_then, next_form}
use Rattle.cert_lines.specs.Readers.{start}
use Rattle.cert_text.specs.Reading.{read_body, over, nothing_left, certificate_of}
use Rattle.cert_text.specs.Laws.{TextsAreRead, line_of, lines_to, FaultsAreFinal}
use Rattle.cert_text.proofs.Equivalents.{then_ok}
use Rattle.cert_text.proofs.TakingLemmas.{then_err}
use Rattle.cert_text.proofs.Locals.{Agree, IsLocal, same_Err, either, local-then, local-next, err-line, form_number}
use Rattle.cert_text.proofs.LocalReaders.{version_read, local-version, local-map, local-body}

-- ---- behind the end

over_at : (n k : ℕ) (c : Cert) (r : Answer Form) (f : CertFault) → over k c r ≡ Err f → line_of f ≡ Some n → (r ≡ Err f) ⊎ ((a : Form × Left) × (r ≡ Ok a) × (WrongOrder k ≡ f))
over_at n k c (Ok a) f h line = inr (a, refl, same_Err (WrongOrder k) f h)
over_at n k c (Err g) f h line = inl (ap (λ (x : CertFault). Err x) (other g h))
  where
    other : (g : CertFault) → over k c (Err g) ≡ Err f → g ≡ f
    other Ends h = cc
    other g h = same_Err g f h

over_err : (n k : ℕ) (c : Cert) (f : CertFault) → line_of f ≡ Some n → over k c (Err f) ≡ Err f
over_err n k c Ends line = let h : ◌≡◌ {A = Option ℕ} None (Some n) = line in cc
over_err n k c f line = refl

end_late : (v n : ℕ) (c : Cert) (l : Left) (f : CertFault) → (next_form v l ≡ Err f) ⊎ ((a : Form × Left) × (next_form v l ≡ Ok a) × (WrongOrder l.number ≡ f)) → line_of f ≡ Some n → n ≡ l.number
end_late v n c l f (inl e) line = err-line v n l.number l.pieces f e line
end_late v n c l f (inr e) line = sym (same_Some l.number n (ap line_of e.2 ∙ line))

end_fails : (v n : ℕ) (c : Cert) (l m : Left) (f : CertFault) → Agree n l m → (next_form v l ≡ Err f) ⊎ ((a : Form × Left) × (next_form v l ≡ Ok a) × (WrongOrder l.number ≡ f)) → line_of f ≡ Some n → nothing_left v c m ≡ Err f
end_fails v n c l m f a (inl e) line = ap (over m.number c) ((local-next v).fails n l m f a e line) ∙ over_err n m.number c f line
end_fails v n c l m f a (inr e) line =
    let here = end_late v n c l f (inr e) line in
    let next = form_number v l.number l.pieces e.0.1 e.0.0 e.1 in
    let p = (local-next v).passes n l m e.0.1 e.0.0 a e.1 (omega (arith, here, next)) in
    ap (over m.number c) p.1 ∙ ap (λ (x : CertFault). Err x) (ap WrongOrder (sym a.number) ∙ e.2)

-- ---- all of it

-- the version and the certificate
abbrev paired : ℕ → Answer Cert → Answer (ℕ × Cert)
paired v r = and_then r (λ c. Ok ((v, c.0), c.1))

abbrev read_all : Left → Answer (ℕ × Cert)
read_all l = and_then (version_read l) (λ v. paired v.0 (read_body v.0 v.1))

local-all : IsLocal read_all
local-all = local-then version_read (λ n v m. paired v (read_body v m)) local-version (λ n v. local-map (read_body v) (λ k c. (v, c)) (local-body v))

regrouped : (l : Left) → and_then (version_read l) (λ v. and_then (read_body v.0 v.1) (λ c. nothing_left v.0 c.0 c.1)) ≡ and_then (read_all l) (λ x. nothing_left x.0.0 x.0.1 x.1)
regrouped l = at (version_read l)
  where
    behind : (v : ℕ) (r : Answer Cert) → and_then r (λ c. nothing_left v c.0 c.1) ≡ and_then (paired v r) (λ x. nothing_left x.0.0 x.0.1 x.1)
    behind v (Ok c) = refl
    behind v (Err f) = refl

    at : (r : Answer ℕ) → and_then r (λ v. and_then (read_body v.0 v.1) (λ c. nothing_left v.0 c.0 c.1)) ≡ and_then {A = (ℕ × Cert) × Left} (and_then r (λ v. paired v.0 (read_body v.0 v.1))) (λ x. nothing_left x.0.0 x.0.1 x.1)
    at (Ok v) = behind v.0 (read_body v.0 v.1)
    at (Err f) = refl

read_by : (bytes : List ℕ) → certificate_of bytes ≡ and_then (read_all (start bytes)) (λ x. nothing_left x.0.0 x.0.1 x.1)
read_by bytes = regrouped (start bytes)

stays : (n : ℕ) (l m : Left) (f : CertFault) → Agree n l m → and_then (read_all l) (λ x. nothing_left x.0.0 x.0.1 x.1) ≡ Err f → line_of f ≡ Some n → and_then (read_all m) (λ x. nothing_left x.0.0 x.0.1 x.1) ≡ Err f
stays n l m f a h line = at (either (read_all l) (λ x. nothing_left x.0.0 x.0.1 x.1) f h)
  where
    at : (read_all l ≡ Err f) ⊎ ((x : (ℕ × Cert) × Left) × (read_all l ≡ Ok x) × (nothing_left x.0.0 x.0.1 x.1 ≡ Err f)) → and_then (read_all m) (λ x. nothing_left x.0.0 x.0.1 x.1) ≡ Err f
    at (inl e) = then_err (read_all m) (λ x. nothing_left x.0.0 x.0.1 x.1) f (local-all.fails n l m f a e line)
    at (inr e) =
        let o = over_at n e.0.1.number e.0.0.1 (next_form e.0.0.0 e.0.1) f e.2 line in
        let here = end_late e.0.0.0 n e.0.0.1 e.0.1 f o line in
        let p = local-all.passes n l m e.0.1 e.0.0 a e.1 (omega (arith, here)) in
        then_ok (read_all m) (λ x. nothing_left x.0.0 x.0.1 x.1) (e.0.0, p.0) p.1 ∙ end_fails e.0.0.0 n e.0.0.1 e.0.1 p.0 f p.2 o line

-- ---- the lines of a text

abbrev Feedless : List ℕ → Type 0
Feedless line = All (λ b. eqb b 10 ≡ false) line

onto_all : (x : ℕ) (ls : List (List ℕ)) → eqb x 10 ≡ false → All Feedless ls → All Feedless (onto_first x ls)
onto_all x [] e h = All-cons Feedless (x ∷ []) [] (All-cons (λ b. eqb b 10 ≡ false) x [] e (All-nil (λ b. eqb b 10 ≡ false))) (All-nil Feedless)
onto_all x (l ∷ ls) e h = All-cons Feedless (x ∷ l) ls (All-cons (λ b. eqb b 10 ≡ false) x l e (All-head Feedless l ls h)) (All-tail Feedless l ls h)

pieces-feedless : (bytes : List ℕ) → All Feedless (pieces_of bytes)
pieces-feedless [] = All-cons Feedless [] [] (All-nil (λ b. eqb b 10 ≡ false)) (All-nil Feedless)
pieces-feedless (x ∷ xs) = at (eqb x 10) refl (pieces-feedless xs)
  where
    at : (t : Bool) → eqb x 10 ≡ t → All Feedless (pieces_of xs) → All Feedless (cond t ([] ∷ slice_split (λ b. eqb b 10) xs) (onto_first x (slice_split (λ b. eqb b 10) xs)))
    at true e h = All-cons Feedless [] (pieces_of xs) (All-nil (λ b. eqb b 10 ≡ false)) h
    at false e h = onto_all x (pieces_of xs) e h

joined-pieces : (lines : List (List ℕ)) (rest : List ℕ) → All Feedless lines → pieces_of (flat_map (λ line. line ++ 10 ∷ []) lines ++ rest) ≡ lines ++ pieces_of rest
joined-pieces [] rest h = refl
joined-pieces (l ∷ ls) rest h =
    let more : List ℕ = flat_map (λ line. line ++ 10 ∷ []) ls ++ rest in
    ap pieces_of (append_assoc (l ++ 10 ∷ []) (flat_map (λ line. line ++ 10 ∷ []) ls) rest ∙ append_assoc l (10 ∷ []) more)
    ∙ (slice_split_at (λ b. eqb b 10) l 10 more (All-head Feedless l ls h) (eq-eqb 10 10 refl)
    ∙ ap (λ (ps : List (List ℕ)). l ∷ ps) (joined-pieces ls rest (All-tail Feedless l ls h)))

agrees : (bytes rest : List ℕ) (n : ℕ) → n < length (pieces_of bytes) → Agree n (start bytes) (start (lines_to n bytes ++ rest))
agrees bytes rest n few = record {
  front = take n (pieces_of bytes);
  tail = drop n (pieces_of bytes);
  other = pieces_of rest;
  left = sym (take-append-drop n (pieces_of bytes));
  right = joined-pieces (take n (pieces_of bytes)) rest (All-take Feedless n (pieces_of bytes) (pieces-feedless bytes));
  more = omega (arith, length-drop n (pieces_of bytes), few);
  also = omega (arith, length-slice_split (λ b. eqb b 10) rest);
  number = refl;
  to = omega (arith, length-take-le n (pieces_of bytes) (omega (arith, few)));
}

pub faults-final : TextsAreRead → FaultsAreFinal
faults-final read bytes f n h line few c rest well e =
    let stay : certificate_of (lines_to n bytes ++ rest) ≡ Err f = read_by (lines_to n bytes ++ rest) ∙ stays n (start bytes) (start (lines_to n bytes ++ rest)) f (agrees bytes rest n few) (sym (read_by bytes) ∙ h) line in
    let ok : certificate_of (lines_to n bytes ++ rest) ≡ Ok c = ap certificate_of (sym e) ∙ read c well in
    let s : ◌≡◌ {A = Result Cert CertFault} (Err f) (Ok c) = sym stay ∙ ok in
    cc
