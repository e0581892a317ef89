-- A line has a form of a version exactly where it is the text of that form.
use Rattle.std.proofs.Common.{◌≡◌, All, ℕ, Bool, true, cond, Option, Some, None, List, refl, ◌∙◌, ap, subst}
use Rattle.std.specs.Option.{option_and_then, option_or, option_map}
use Rattle.std.proofs.lemmas.Option.{same_Some}
use Rattle.certificates.specs.Tokens.{IsProper, words_of}
use Rattle.certificates.specs.Parts.{rest_tokens, parts_words, parts_from}
use Rattle.certificates.specs.Plain.{Plain, plain_from, plain_of}
use Rattle.certificates.specs.Placed.{Placed, Sheets, Cover, Spent, placed_words, placed_text, IsPlaced, placed_of}
use Rattle.certificates.specs.Forms.{Form, plain, placed, line_text, stands, IsAnyForm, IsForm, any_form, if_stands, form_of}
use Rattle.certificates.proofs.Somes.{both_some, tested}
use Rattle.certificates.specs.Plain.{parts}
use Rattle.certificates.proofs.Words.{Without}
use Rattle.certificates.proofs.PartLemmas.{kind-feedless}
use Rattle.certificates.proofs.PlainLemmas.{plain-is, plain-back, words-plain}
use Rattle.certificates.proofs.PlacedLemmas.{line_feed, placed-is, placed-back, placed-words, plain-without, placed-without}

any-is : (line : List ℕ) (f : Form) → any_form line ≡ Some f → IsAnyForm f × (line ≡ line_text f)
any-is line f h = at (plain_of line) (placed_of line) refl refl h
  where
    at : (a : Option Plain) (b : Option Placed) → plain_of line ≡ a → placed_of line ≡ b → option_or (option_map plain a) (option_map placed b) ≡ Some f → IsAnyForm f × (line ≡ line_text f)
    at (Some g) b e u h = subst (λ (x : Form). IsAnyForm x × (line ≡ line_text x)) (same_Some (plain g) f h) (let q = plain-is line g e in (q.0, q.1))
    at None (Some g) e u h = subst (λ (x : Form). IsAnyForm x × (line ≡ line_text x)) (same_Some (placed g) f h) (let q = placed-is line g u in (q.0, q.1))
    at None None e u h = cc

-- a line with a spot or a table is no plain one: its first word tells
no_plain : (f : Placed) → option_and_then (λ p. plain_from p.kind p.rest.lists p.rest.numbers) (parts_from (placed_words f)) ≡ None
no_plain (Sheets n s) = refl
no_plain (Cover m rows) = refl
no_plain (Spent s) = refl

not_plain : (line : List ℕ) (f : Placed) → IsPlaced f → line ≡ placed_text f → plain_of line ≡ None
not_plain line f w e = ap plain_of e ∙ (ap (λ (ws : List (List ℕ)). option_and_then (λ p. plain_from p.kind p.rest.lists p.rest.numbers) (parts_from ws)) (placed-words f w) ∙ no_plain f)

any-back : (line : List ℕ) (f : Form) → IsAnyForm f → line ≡ line_text f → any_form line ≡ Some f
any-back line (plain f) w e = ap (λ (o : Option Plain). option_or (option_map plain o) (option_map placed (placed_of line))) (plain-back line f w e)
any-back line (placed f) w e =
    ap (λ (o : Option Plain). option_or (option_map plain o) (option_map placed (placed_of line))) (not_plain line f w e)
    ∙ ap (λ (o : Option Placed). option_or {T = Form} None (option_map placed o)) (placed-back line f w e)

pub form-is : (version : ℕ) (line : List ℕ) (f : Form) → form_of version line ≡ Some f → IsForm version f × (line ≡ line_text f)
form-is version line f h =
    let q : (g : Form) × (any_form line ≡ Some g) × (if_stands version g ≡ Some f) = both_some (if_stands version) (any_form line) f h in
    let t : (stands version q.0 ≡ true) × (Some q.0 ≡ Some f) = tested (stands version q.0) (Some q.0) f q.2 in
    let a : IsAnyForm q.0 × (line ≡ line_text q.0) = any-is line q.0 q.1 in
    subst (λ (x : Form). IsForm version x × (line ≡ line_text x)) (same_Some q.0 f t.1) (record { form = a.0; there = t.0 }, a.1)

pub form-back : (version : ℕ) (line : List ℕ) (f : Form) → IsForm version f → line ≡ line_text f → form_of version line ≡ Some f
form-back version line f w e =
    ap (option_and_then (if_stands version)) (any-back line f w.form e)
    ∙ ap (λ (t : Bool). cond t (Some f) None) w.there

-- ---- no line has a line feed in it

pub feedless : (version : ℕ) (f : Form) → IsForm version f → Without 10 (line_text f)
feedless version (plain f) w = plain-without 10 line_feed refl refl (parts f) w.form.proper (kind-feedless (parts f).kind)
feedless version (placed f) w = placed-without f w.form

-- ---- the words of a line that has a form

is_plain : (line : List ℕ) (f : Plain) → any_form line ≡ Some (plain f) → plain_of line ≡ Some f
is_plain line f h = at (plain_of line) (placed_of line) h
  where
    at : (a : Option Plain) (b : Option Placed) → option_or (option_map plain a) (option_map placed b) ≡ Some (plain f) → a ≡ Some f
    at (Some g) b h = cc
    at None (Some g) h = cc
    at None None h = cc

is_placed : (line : List ℕ) (f : Placed) → any_form line ≡ Some (placed f) → placed_of line ≡ Some f
is_placed line f h = at (plain_of line) (placed_of line) h
  where
    at : (a : Option Plain) (b : Option Placed) → option_or (option_map plain a) (option_map placed b) ≡ Some (placed f) → b ≡ Some f
    at (Some g) b h = cc
    at None (Some g) h = cc
    at None None h = cc

formed : (version : ℕ) (line : List ℕ) (f : Form) → form_of version line ≡ Some f → any_form line ≡ Some f
formed version line f h =
    let q : (g : Form) × (any_form line ≡ Some g) × (if_stands version g ≡ Some f) = both_some (if_stands version) (any_form line) f h in
    let t : (stands version q.0 ≡ true) × (Some q.0 ≡ Some f) = tested (stands version q.0) (Some q.0) f q.2 in
    q.1 ∙ t.1

pub plain-words : (version : ℕ) (line : List ℕ) (f : Plain) → form_of version line ≡ Some (plain f) → All IsProper (rest_tokens (parts f).rest) × (words_of line ≡ parts_words (parts f))
plain-words version line f h = words-plain line f (is_plain line f (formed version line (plain f) h))

pub placed-text : (version : ℕ) (line : List ℕ) (f : Placed) → form_of version line ≡ Some (placed f) → IsPlaced f × (words_of line ≡ placed_words f)
placed-text version line f h =
    let q : IsPlaced f × (line ≡ placed_text f) = placed-is line f (is_placed line f (formed version line (placed f) h)) in
    (q.0, ap words_of q.1 ∙ placed-words f q.0)
