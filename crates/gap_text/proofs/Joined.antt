-- The laws that join the value of a text with the grammar.
use Rattle.std.proofs.Common.{◌≡◌, ℕ, List, [], ◌∷◌, length, map, Result, Ok, Err, refl, sym, ◌∙◌, ap}
use Rattle.gap_text.specs.declared.fault.TextFault.{TextFault}
use Rattle.gap_text.specs.Value.{Value}
use Rattle.gap_text.specs.Tokens.{Token, Open, Close, Comma, Dots, Semicolon, Number, Bad, tokens}
use Rattle.gap_text.specs.Reading.{State, start, read, value_at_end, value_of}
use Rattle.gap_text.specs.Grammar.{IsValueOf, ValueIsSpelled, FaultIsNoValue}
use Rattle.gap_text.proofs.Accepted.{read-spelled}
use Rattle.gap_text.proofs.Spelled.{taken, spelled-read}
use Rattle.gap_text.proofs.Lexed.{held, run-held, NoBad, lexed, tokens_from-lexed}

-- what has a value has no byte that begins no token
no_bad : (ts : List Token) (s : State) (p : ℕ) (w : Value) → read s ts p ≡ Ok w → NoBad ts
no_bad [] s p w e = tt
no_bad (Bad q ∷ ts) s p w e = absurd (cc)
no_bad (Number q n ∷ ts) s p w e = let t = taken s (Number q n) ts p w e in no_bad ts t.next p w t.goes
no_bad (Open q ∷ ts) s p w e = let t = taken s (Open q) ts p w e in no_bad ts t.next p w t.goes
no_bad (Close q ∷ ts) s p w e = let t = taken s (Close q) ts p w e in no_bad ts t.next p w t.goes
no_bad (Comma q ∷ ts) s p w e = let t = taken s (Comma q) ts p w e in no_bad ts t.next p w t.goes
no_bad (Dots q ∷ ts) s p w e = let t = taken s (Dots q) ts p w e in no_bad ts t.next p w t.goes
no_bad (Semicolon q ∷ ts) s p w e = let t = taken s (Semicolon q) ts p w e in no_bad ts t.next p w t.goes

read-held : (ts us : List Token) (p : ℕ) → map held ts ≡ us → read start us p ≡ read start ts p
read-held ts us p e =
    ap (λ (vs : List Token). read start vs p) (sym e)
    ∙ ap (λ q. elim q as (λ x. Result Value TextFault) [ Ok last ↦ value_at_end last.phase p | Err f ↦ Err f ]) (run-held ts start)

pub spelled : (text : List ℕ) (v : Value) → value_of text ≡ Ok v → IsValueOf text v
spelled text v e =
    let l = lexed text 0 (no_bad (tokens text) start (length text) v e) in
    record { tokens = l.ts; lexes = l.lexes; spells = spelled-read l.ts v (length text) (sym (read-held l.ts (tokens text) (length text) l.is) ∙ e) }

pub value_of-spelled : (text : List ℕ) (v : Value) → IsValueOf text v → value_of text ≡ Ok v
value_of-spelled text v s =
    read-held s.tokens (tokens text) (length text) (sym (tokens_from-lexed s.lexes)) ∙ read-spelled s.tokens v (length text) s.spells

pub value_is_spelled : ValueIsSpelled
value_is_spelled text v = (spelled text v, value_of-spelled text v)

both : (v : Value) (f : TextFault) (r : Result Value TextFault) → r ≡ Ok v → r ≡ Err f → ⊥
both v f r e h = cc

pub fault_is_no_value : FaultIsNoValue
fault_is_no_value text = (λ (f, e) v s. both v f (value_of text) (value_of-spelled text v s) e, by_result (value_of text) refl)
  where
    by_result : (r : Result Value TextFault) → value_of text ≡ r → ((v : Value) → IsValueOf text v → ⊥) → (f : TextFault) × (value_of text ≡ Err f)
    by_result (Ok v) e none = absurd (none v (spelled text v e))
    by_result (Err f) e none = (f, e)
