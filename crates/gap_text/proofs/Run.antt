-- A run goes on where another has stopped.
use Rattle.std.proofs.Common.{◌≡◌, ℕ, suc, ◌+◌, List, [], ◌∷◌, ◌++◌, length, Result, Ok, Err, refl, sym, ◌∙◌, ap, subst, arith, get_or, drop, drop-cons, ◌<◌}
use Rattle.gap_text.specs.declared.fault.TextFault.{TextFault}
use Rattle.gap_text.specs.declared.byte.Class.{Class}
use Rattle.gap_text.specs.declared.byte.Class.TheVariants.{LeftBracket, RightBracket, CommaSign, SemicolonSign, Point, Digit, Hash, Blank, LineFeed, Other}
use Rattle.gap_text.specs.Value.{Value}
use Rattle.gap_text.specs.Tokens.{Token, Number, Digits, Mode, class_of, tokens_begun, tokens_at, mode_begun, mode_after, tokens_from}
use Rattle.gap_text.specs.Reading.{State, step, run, read, value_at_end}
use Rattle.gap_text.specs.Readers.{Progress, progress, past, fed, begun, rest, mode_of}
use Rattle.gap_text.specs.declared.reader.Mode.{Mode as CodeMode}
use Rattle.gap_text.specs.declared.reader.Mode.TheVariants as mode

-- ---- over tokens

-- where these tokens are taken, the run goes on with the others
pub run-append : (ts us : List Token) (s : State) → run s (ts ++ us) ≡ elim (run s ts) [ Ok next ↦ run next us | Err f ↦ Err f ]
run-append [] us s = refl
run-append (t ∷ ts) us s =
    elim (step s t) as (λ q. (elim q as (λ x. Result State TextFault) [ Ok next ↦ run next (ts ++ us) | Err f ↦ Err f ])
    ≡ elim (elim q as (λ x. Result State TextFault) [ Ok next ↦ run next ts | Err f ↦ Err f ]) as (λ x. Result State TextFault) [ Ok next ↦ run next us | Err f ↦ Err f ])
    [ Ok next ↦ run-append ts us next | Err f ↦ refl ]

pub run-append-ok : (ts us : List Token) (s next : State) → run s ts ≡ Ok next → run s (ts ++ us) ≡ run next us
run-append-ok ts us s next e = run-append ts us s ∙ ap (λ q. elim q as (λ x. Result State TextFault) [ Ok after ↦ run after us | Err f ↦ Err f ]) e

pub run-append-err : (ts us : List Token) (s : State) (f : TextFault) → run s ts ≡ Err f → run s (ts ++ us) ≡ Err f
run-append-err ts us s f e = run-append ts us s ∙ ap (λ q. elim q as (λ x. Result State TextFault) [ Ok after ↦ run after us | Err f ↦ Err f ]) e

pub read-append-ok : (ts us : List Token) (s next : State) (p : ℕ) → run s ts ≡ Ok next → read s (ts ++ us) p ≡ read next us p
read-append-ok ts us s next p e = ap (λ q. elim q as (λ x. Result Value TextFault) [ Ok last ↦ value_at_end last.phase p | Err f ↦ Err f ]) (run-append-ok ts us s next e)

pub read-append-err : (ts us : List Token) (s : State) (f : TextFault) (p : ℕ) → run s ts ≡ Err f → read s (ts ++ us) p ≡ Err f
read-append-err ts us s f p e = ap (λ q. elim q as (λ x. Result Value TextFault) [ Ok last ↦ value_at_end last.phase p | Err f ↦ Err f ]) (run-append-err ts us s f e)

-- ---- over bytes

past-ok : (q : Result State TextFault) (m : Mode) (r : Progress) → (elim q as (λ x. Result Progress TextFault) [ Ok next ↦ Ok (progress next m) | Err f ↦ Err f ]) ≡ Ok r → (q ≡ Ok r.state) × (m ≡ r.mode)
past-ok (Ok next) m r e = (cc, cc)
past-ok (Err f) m r e = absurd (cc)

past-err : (q : Result State TextFault) (m : Mode) (f : TextFault) → (elim q as (λ x. Result Progress TextFault) [ Ok next ↦ Ok (progress next m) | Err f ↦ Err f ]) ≡ Err f → q ≡ Err f
past-err (Ok next) m f e = absurd (cc)
past-err (Err g) m f e = cc

rest-class-ok : (r next : Progress) (i : ℕ) (bs : List ℕ) (c : Class) → fed r i c ≡ Ok next → read r.state (tokens_at r.mode i c ++ tokens_from (mode_after r.mode i c) (suc i) bs) (i + suc (length bs)) ≡ rest next (i + 1) bs
rest-class-ok r next i bs c e =
    let p = past-ok (run r.state (tokens_at r.mode i c)) (mode_after r.mode i c) next e in
    let end : i + suc (length bs) ≡ i + 1 + length bs = omega arith in
    let after : suc i ≡ i + 1 = omega arith in
    read-append-ok (tokens_at r.mode i c) (tokens_from (mode_after r.mode i c) (suc i) bs) r.state next.state (i + suc (length bs)) p.0
    ∙ ap (λ (m : Mode). read next.state (tokens_from m (suc i) bs) (i + suc (length bs))) p.1
    ∙ ap (λ (k : ℕ). read next.state (tokens_from next.mode (suc i) bs) k) end
    ∙ ap (λ (j : ℕ). read next.state (tokens_from next.mode j bs) (i + 1 + length bs)) after

pub rest-fed-ok : (r next : Progress) (i b : ℕ) (bs : List ℕ) (c : Class) → c ≡ class_of b → fed r i c ≡ Ok next → rest r i (b ∷ bs) ≡ rest next (i + 1) bs
rest-fed-ok r next i b bs c k e =
    subst (λ (d : Class). read r.state (tokens_at r.mode i d ++ tokens_from (mode_after r.mode i d) (suc i) bs) (i + suc (length bs)) ≡ rest next (i + 1) bs) k (rest-class-ok r next i bs c e)

pub rest-fed-err : (r : Progress) (f : TextFault) (i b : ℕ) (bs : List ℕ) (c : Class) → c ≡ class_of b → fed r i c ≡ Err f → rest r i (b ∷ bs) ≡ Err f
rest-fed-err r f i b bs c k e =
    let p = past-err (run r.state (tokens_at r.mode i c)) (mode_after r.mode i c) f e in
    subst (λ (d : Class). read r.state (tokens_at r.mode i d ++ tokens_from (mode_after r.mode i d) (suc i) bs) (i + suc (length bs)) ≡ Err f) k
    (read-append-err (tokens_at r.mode i c) (tokens_from (mode_after r.mode i c) (suc i) bs) r.state f (i + suc (length bs)) p)

-- ---- a byte after digits that is none

past-step : (s next : State) (t : Token) (ts : List Token) (m : Mode) → step s t ≡ Ok next → past s (t ∷ ts) m ≡ past next ts m
past-step s next t ts m e =
    ap (λ q. elim (elim q as (λ x. Result State TextFault) [ Ok after ↦ run after ts | Err f ↦ Err f ]) as (λ x. Result Progress TextFault) [ Ok after ↦ Ok (progress after m) | Err f ↦ Err f ]) e

begun-after : (s next : State) (p n i : ℕ) (c : Class) → step s (Number p n) ≡ Ok next → past s (Number p n ∷ tokens_begun i c) (mode_begun i c) ≡ begun next i c
begun-after s next p n i c e = past-step s next (Number p n) (tokens_begun i c) (mode_begun i c) e

fed-number : (s next : State) (p n i : ℕ) (c : Class) → ((d : ℕ) → c ≡ Digit d → ⊥) → step s (Number p n) ≡ Ok next → fed (progress s (Digits p n)) i c ≡ begun next i c
fed-number s next p n i (Digit d) h e = absurd (h d refl)
fed-number s next p n i LeftBracket h e = begun-after s next p n i LeftBracket e
fed-number s next p n i RightBracket h e = begun-after s next p n i RightBracket e
fed-number s next p n i CommaSign h e = begun-after s next p n i CommaSign e
fed-number s next p n i SemicolonSign h e = begun-after s next p n i SemicolonSign e
fed-number s next p n i Point h e = begun-after s next p n i Point e
fed-number s next p n i Hash h e = begun-after s next p n i Hash e
fed-number s next p n i Blank h e = begun-after s next p n i Blank e
fed-number s next p n i LineFeed h e = begun-after s next p n i LineFeed e
fed-number s next p n i Other h e = begun-after s next p n i Other e

pub fed-digits : (s next : State) (m : CodeMode) (p n i : ℕ) (c : Class) → m ≡ mode.Digits p n → ((d : ℕ) → c ≡ Digit d → ⊥) → step s (Number p n) ≡ Ok next → fed (progress s (mode_of m)) i c ≡ begun next i c
fed-digits s next m p n i c k h e = rw k (fed-number s next p n i c h e)

-- ---- a byte within a text

pub rest-drop-ok : (r next : Progress) (i : ℕ) (text : List ℕ) (c : Class) (v : Result Value TextFault) → i < length text → c ≡ class_of (get_or text i 0) → rest r i (drop i text) ≡ v → fed r i c ≡ Ok next → rest next (i + 1) (drop (i + 1) text) ≡ v
rest-drop-ok r next i text c v h k e f =
    let after : suc i ≡ i + 1 = omega arith in
    ap (λ (j : ℕ). rest next (i + 1) (drop j text)) (sym after) ∙ sym (rest-fed-ok r next i (get_or text i 0) (drop (suc i) text) c k f) ∙ ap (rest r i) (sym (drop-cons text i 0 h)) ∙ e

pub rest-drop-err : (r : Progress) (f : TextFault) (i : ℕ) (text : List ℕ) (c : Class) (v : Result Value TextFault) → i < length text → c ≡ class_of (get_or text i 0) → rest r i (drop i text) ≡ v → fed r i c ≡ Err f → v ≡ Err f
rest-drop-err r f i text c v h k e g =
    sym e ∙ ap (rest r i) (drop-cons text i 0 h) ∙ rest-fed-err r f i (get_or text i 0) (drop (suc i) text) c k g
