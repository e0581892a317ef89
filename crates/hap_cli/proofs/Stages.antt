-- From the stages of a command to what it answers.
use Rattle.std.proofs.Common.{◌≡◌, ℕ, ◌≤◌, ◌<◌, ◌+◌, Bool, true, false, List, None, Some, Result, Ok, Err, refl, sym, ap, ◌∙◌, subst, arith}
use Rattle.std.specs.Prelude.{nat_lt}
use Rattle.std.proofs.lemmas.Bool.{ltb-true, ltb-false}
use Rattle.face_poset.specs.Poset.{Layers}
use Rattle.order_complex.specs.Chains.{chain_count}
use Rattle.order_complex.specs.Numbers.{coboundary_entries}
use Rattle.hap_words.specs.Asked.{Asked}
use Rattle.hap_ends.specs.declared.outcome.Outcome.{Outcome}
use Rattle.hap_ends.specs.declared.outcome.Outcome.TheVariants.{Done, Spent, Usage, Refused, ReadFault, WriteFault, Memory}
use Rattle.hap_ends.specs.declared.refusal.Refusal.{Refusal}
use Rattle.hap_ends.specs.Outcomes.{Fails}
use Rattle.hap_inputs.specs.Spaces.{fault_in, only_regular, only_few, chain_limit, only_worded, unless_long}
use Rattle.face_poset.specs.declared.cells.Cell.{Cell}
use Rattle.part_groups.specs.Groups.{long_word}
use Rattle.hap_inputs.proofs.CallerLemmas.{few_passes, many_fail, fails_next}
use Rattle.std.specs.declared.option.Option.{Option}
use Rattle.tuple_spaces.specs.Torus.{torus_of}
use Rattle.hap_cli.specs.declared.make.Summary.{Summary}
use Rattle.hap_cli.specs.Refusals.{cause, made}
use Rattle.hap_cli.specs.Answers.{Gives, GivesIf, IsSummary, IsMade, summary_text, told_text, chain_numbers}
use Rattle.hap_cli.specs.Counting.{entries_of}

-- where the stages of a command fail so, it gives no answer but that
pub fails_give : {A : Type 0} (asked : Asked) (bytes : List ℕ) (stage : Result A Refusal) (outcome : Outcome) → cause asked bytes ≡ fault_in stage → Fails stage outcome → Gives asked bytes (Err outcome)
fails_give asked bytes stage (Refused refusal) e h = e ∙ ap fault_in h
fails_give asked bytes stage Memory e h = tt
fails_give asked bytes stage Done e h = h
fails_give asked bytes stage (Spent spot) e h = h
fails_give asked bytes stage Usage e h = h
fails_give asked bytes stage ReadFault e h = h
fails_give asked bytes stage WriteFault e h = h

-- the steps of a space with few enough chains, and none of another
pub few_steps : (space : Layers) (old new : ℕ) → new ≤ old + coboundary_entries space → (chain_limit < chain_count space → new ≡ old)
    → new ≤ old + entries_of (only_few (Ok space))
few_steps space old new most none = at (nat_lt chain_limit (chain_count space)) refl
  where
    at : (b : Bool) → nat_lt chain_limit (chain_count space) ≡ b → new ≤ old + entries_of (only_few (Ok space))
    at true e = let same : new ≡ old = none (ltb-true chain_limit (chain_count space) e) in
        subst (λ r. new ≤ old + entries_of r) (sym (many_fail space (ltb-true chain_limit (chain_count space) e))) (omega (arith, same))
    at false e = subst (λ r. new ≤ old + entries_of r) (sym (few_passes space (ltb-false chain_limit (chain_count space) e))) most

-- what is given of a space that is regular
pub gives_past : {T : Type 0} (next : Result Layers Refusal → Result Layers Refusal) (space regular : Layers) (P : Layers → T → Type 0) (r : Result T Outcome) → only_regular (Ok space) ≡ Ok regular → regular ≡ space
    → GivesIf (next (Ok regular)) regular (P regular) r → GivesIf (next (only_regular (Ok space))) space (P space) r
gives_past next space regular P (Ok value) stage e h = (ap next stage ∙ (h.0 ∙ ap Ok e), subst (λ s. P s value) e h.1)
gives_past next space regular P (Err outcome) stage e h = fails_next (only_regular (Ok space)) next regular outcome stage h

not_long : (o : Option Cell) (s space : Layers) → unless_long s o ≡ Ok space → unless_long s None ≡ Ok space
not_long None s space h = h
not_long (Some cell) s space h = cc

-- a space that comes past the stage of words has come past the stage before it
pub worded_is : (stage : Result Layers Refusal) (space : Layers) → only_worded stage ≡ Ok space → stage ≡ Ok space
worded_is (Ok s) space e = not_long (long_word s) s space e
worded_is (Err refusal) space e = cc

pub steps_past : (space regular : Layers) (old new : ℕ) → only_regular (Ok space) ≡ Ok regular → new ≤ old + entries_of (only_few (Ok regular))
    → new ≤ old + entries_of (only_few (only_regular (Ok space)))
steps_past space regular old new stage h = subst (λ r. new ≤ old + entries_of (only_few r)) (sym stage) h

-- the steps of a space with few enough chains, by all of them
pub all_steps : (space chains : Layers) (old new : ℕ) → chain_count space ≤ chain_limit → chains ≡ space → new ≤ old + coboundary_entries chains
    → new ≤ old + entries_of (only_few (Ok space))
all_steps space chains old new few e h =
    subst (λ r. new ≤ old + entries_of r) (sym (few_passes space few)) (subst (λ s. new ≤ old + coboundary_entries s) e h)

-- what is told of a torus is what its command answers
pub made_answer : (size : ℕ) (modulus : Option ℕ) (p : ℕ) (s : Summary) → modulus ≡ Some p → only_few (Ok (torus_of size)) ≡ Ok (torus_of size) → IsSummary size p s
    → (fault_in (made size modulus) ≡ None) × IsMade size modulus (summary_text s)
made_answer size modulus p s e few is =
    let text : summary_text s ≡ told_text size (torus_of size) (chain_numbers (torus_of size)) s.numbers =
    ap (λ n. told_text n s.space s.chains s.numbers) is.0
    ∙ (ap (λ (x : Layers). told_text size x s.chains s.numbers) is.1 ∙ ap (λ c. told_text size (torus_of size) c s.numbers) is.2) in
    subst (λ o. (fault_in (made size o) ≡ None) × IsMade size o (summary_text s)) (sym e) (ap fault_in few, (s.numbers, is.3, text))
