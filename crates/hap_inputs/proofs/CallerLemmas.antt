-- What other crates may cite of the proofs here.

-- a number compared: it is below another one, or it is not
pub use Rattle.hap_inputs.proofs.Stages.{less, not_less}
-- a stage that lets a value through, or does not, behind one that has let it through
pub use Rattle.hap_inputs.proofs.Stages.{passes_next, fails_next}
-- what is stopped by the number of chains: the refusal is that of the number; few enough come through
pub use Rattle.hap_inputs.proofs.Stages.{chain_ends, few_passes, many_fail}
-- what is stopped by a long word: the refusal is that of its cell; where there is none the space comes through
pub use Rattle.hap_inputs.proofs.Stages.{word_ends, worded_passes}
