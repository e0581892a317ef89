-- From a call that reads to the stages of the reading.
use Rattle.std.proofs.Common.{None, ◌≡◌, ℕ, ◌≤◌, ◌<◌, Bool, true, false, List, Result, Ok, Err, refl, sym, ap, ◌∙◌, subst, arith, ◌≢◌}
use Rattle.std.specs.Prelude.{nat_lt, if◌then◌else◌}
use Rattle.std.proofs.lemmas.Bool.{ltb-true, ltb-false}
use Rattle.face_poset.specs.Poset.{Layers}
use Rattle.gap_text.specs.declared.fault.TextFault.{TextFault}
use Rattle.gap_text.specs.declared.fault.TextFault.TheVariants as in_text
use Rattle.gap_text.specs.Value.{Value}
use Rattle.gap_text.specs.Reading.{value_of}
use Rattle.face_poset.specs.declared.fault.SpaceFault.{SpaceFault}
use Rattle.face_poset.specs.declared.fault.SpaceFault.TheVariants as in_space
use Rattle.face_poset.specs.Reader.{space_of}
use Rattle.array_values.specs.declared.fault.ArrayFault.{ArrayFault}
use Rattle.array_values.specs.declared.fault.ArrayFault.TheVariants as in_array
use Rattle.facet_reader.specs.declared.fault.FacetFault.{FacetFault}
use Rattle.facet_reader.specs.declared.fault.FacetFault.TheVariants as in_facet
use Rattle.hap_words.specs.declared.command.Kind.{Kind}
use Rattle.hap_words.specs.declared.command.Kind.TheVariants.{Boundary}
use Rattle.regular_check.specs.declared.fault.RegularFault.{RegularFault}
use Rattle.regular_check.specs.declared.fault.RegularFault.TheVariants as in_rules
use Rattle.regular_check.specs.Rules.{first_fault, IsFault}
use Rattle.order_complex.specs.declared.fault.ChainFault.{ChainFault}
use Rattle.order_complex.specs.declared.fault.ChainFault.TheVariants as in_chains
use Rattle.order_complex.specs.Chains.{chain_count}
use Rattle.order_complex.specs.Complex.{IsRefused}
use Rattle.edge_words.specs.declared.fault.WordFault.{WordFault}
use Rattle.edge_words.specs.declared.fault.WordFault.TheVariants as in_words
use Rattle.edge_words.specs.Limits as limits
use Rattle.part_groups.specs.Groups.{long_word}
use Rattle.hap_ends.specs.declared.outcome.Outcome.{Outcome}
use Rattle.hap_ends.specs.declared.refusal.Refusal.{Refusal}
use Rattle.hap_ends.specs.declared.refusal.Refusal.TheVariants.{Chains}
use Rattle.hap_inputs.specs.Spaces.{space_in, space_of_kind, of_text, of_value, of_array, of_facets, unless_broken, only_regular, only_few, chain_limit, unless_long, only_worded}
use Rattle.hap_ends.specs.Outcomes.{text_outcome, space_outcome, array_outcome, facet_outcome, regular_outcome, chain_outcome, word_outcome, Fails}

pub less : (n m : ℕ) → n < m → nat_lt n m ≡ true
less n m h = at (nat_lt n m) refl
  where
    at : (b : Bool) → nat_lt n m ≡ b → nat_lt n m ≡ true
    at true e = e
    at false e = let short : m ≤ n = ltb-false n m e in absurd (omega arith)

pub not_less : (n m : ℕ) → m ≤ n → nat_lt n m ≡ false
not_less n m h = at (nat_lt n m) refl
  where
    at : (b : Bool) → nat_lt n m ≡ b → nat_lt n m ≡ false
    at true e = let long : n < m = ltb-true n m e in absurd (omega arith)
    at false e = e

-- a fault of the text is the refusal, but for want of memory
pub text_ends : (kind : Kind) (bytes : List ℕ) (fault : TextFault) → (fault ≢ in_text.Memory → value_of bytes ≡ Err fault) → Fails (space_in kind bytes) (text_outcome fault)
text_ends kind bytes in_text.Memory h = tt
text_ends kind bytes (in_text.BadByte p) h = ap (of_text kind) (h (λ e. cc))
text_ends kind bytes (in_text.Unclosed p) h = ap (of_text kind) (h (λ e. cc))
text_ends kind bytes (in_text.Stray p) h = ap (of_text kind) (h (λ e. cc))
text_ends kind bytes (in_text.Stepped p) h = ap (of_text kind) (h (λ e. cc))
text_ends kind bytes (in_text.BadRange p) h = ap (of_text kind) (h (λ e. cc))
text_ends kind bytes (in_text.NumberTooBig p) h = ap (of_text kind) (h (λ e. cc))
text_ends kind bytes (in_text.TooDeep p) h = ap (of_text kind) (h (λ e. cc))

-- and so is a fault of the space
pub space_ends : (value : Value) (fault : SpaceFault) → (fault ≢ in_space.Memory → space_of value ≡ Err fault) → Fails (space_of_kind Boundary value) (space_outcome fault)
space_ends value in_space.Memory h = tt
space_ends value (in_space.Shape p) h = ap of_value (h (λ f. cc))
space_ends value in_space.Empty h = ap of_value (h (λ f. cc))
space_ends value in_space.TooHigh h = ap of_value (h (λ f. cc))
space_ends value (in_space.BadCount c) h = ap of_value (h (λ f. cc))
space_ends value (in_space.FaceOutOfRange c) h = ap of_value (h (λ f. cc))
space_ends value (in_space.RepeatedFace c) h = ap of_value (h (λ f. cc))
space_ends value in_space.TooManyCells h = ap of_value (h (λ f. cc))

-- and one of an array
pub array_ends : (r : Result Layers ArrayFault) (fault : ArrayFault) → (fault ≢ in_array.Memory → r ≡ Err fault) → Fails (of_array r) (array_outcome fault)
array_ends r in_array.Memory h = tt
array_ends r (in_array.Ragged p) h = ap of_array (h (λ f. cc))
array_ends r (in_array.NotBit p) h = ap of_array (h (λ f. cc))
array_ends r in_array.BadDimension h = ap of_array (h (λ f. cc))
array_ends r in_array.Empty h = ap of_array (h (λ f. cc))
array_ends r (in_array.BadPair p) h = ap of_array (h (λ f. cc))
array_ends r (in_array.ColumnCount p) h = ap of_array (h (λ f. cc))
array_ends r in_array.TooManyCells h = ap of_array (h (λ f. cc))

-- and one of simplices or of a partial order
pub facet_ends : (r : Result Layers FacetFault) (fault : FacetFault) → (fault ≢ in_facet.Memory → r ≡ Err fault) → Fails (of_facets r) (facet_outcome fault)
facet_ends r in_facet.Memory h = tt
facet_ends r (in_facet.Shape p) h = ap of_facets (h (λ f. cc))
facet_ends r in_facet.Empty h = ap of_facets (h (λ f. cc))
facet_ends r (in_facet.BadLabel p) h = ap of_facets (h (λ f. cc))
facet_ends r (in_facet.Repeated p) h = ap of_facets (h (λ f. cc))
facet_ends r in_facet.TooManyCells h = ap of_facets (h (λ f. cc))

-- what stops the reading of a value stops that of its text
pub value_ends : (kind : Kind) (bytes : List ℕ) (value : Value) (outcome : Outcome) → value_of bytes ≡ Ok value → Fails (space_of_kind kind value) outcome → Fails (space_in kind bytes) outcome
value_ends kind bytes value outcome e h = subst (λ r. Fails (of_text kind r) outcome) (sym e) h

-- and the first rule that is broken
pub rule_ends : (space : Layers) (fault : RegularFault) → IsFault (first_fault space) fault → Fails (only_regular (Ok space)) (regular_outcome fault)
rule_ends space in_rules.Memory h = tt
rule_ends space (in_rules.EdgeEnds c) h = ap (unless_broken space) h
rule_ends space (in_rules.NotCycle c) h = ap (unless_broken space) h
rule_ends space (in_rules.EdgeNotTwice c) h = ap (unless_broken space) h
rule_ends space (in_rules.Apart c) h = ap (unless_broken space) h
rule_ends space (in_rules.NotSphere c v) h = ap (unless_broken space) h

-- a space with few enough chains comes past that stage
pub few_passes : (space : Layers) → chain_count space ≤ chain_limit → only_few (Ok space) ≡ Ok space
few_passes space few = ap (λ b. if b then Err (Chains (chain_count space)) else Ok space) (not_less chain_limit (chain_count space) few)

-- and one with more does not
pub many_fail : (space : Layers) → chain_limit < chain_count space → only_few (Ok space) ≡ Err (Chains (chain_count space))
many_fail space many = ap (λ b. if b then Err (Chains (chain_count space)) else Ok space) (less chain_limit (chain_count space) many)

-- the refusal is that of the number of chains
pub chain_ends : (space : Layers) (fault : ChainFault) → IsRefused (chain_count space) chain_limit fault → Fails (only_few (Ok space)) (chain_outcome fault)
chain_ends space in_chains.Memory h = tt
chain_ends space (in_chains.TooManyChains n) h = subst (λ m. only_few (Ok space) ≡ Err (Chains m)) (sym h.0) (many_fail space h.1)

-- a space without long words comes past that stage
pub worded_passes : (space : Layers) → long_word space ≡ None → only_worded (Ok space) ≡ Ok space
worded_passes space none = ap (unless_long space) none

-- and another is refused with the cell of the first
pub word_ends : (space : Layers) (fault : WordFault) → limits.IsFault (long_word space) fault → Fails (only_worded (Ok space)) (word_outcome fault)
word_ends space in_words.Memory h = tt
word_ends space (in_words.TooLong cell) h = ap (unless_long space) h

-- where a value that came so far does not come past the next stage, the stages together fail so
pub fails_next : {A B : Type 0} (first : Result A Refusal) (next : Result A Refusal → Result B Refusal) (value : A) (outcome : Outcome)
    → first ≡ Ok value → Fails (next (Ok value)) outcome → Fails (next first) outcome
fails_next first next value outcome e h = subst (λ r. Fails (next r) outcome) (sym e) h

-- and where it does
pub passes_next : {A B : Type 0} (first : Result A Refusal) (next : Result A Refusal → Result B Refusal) (value : A) (passed : B)
    → first ≡ Ok value → next (Ok value) ≡ Ok passed → next first ≡ Ok passed
passes_next first next value passed e h = ap next e ∙ h
