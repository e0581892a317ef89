-- Calls that put texts one after another.
use Rattle.std.proofs.Common.{◌≡◌, ◌++◌, ℕ, List, ◌∙◌, append_assoc}

-- four texts, and what stands behind the first of them
pub four-parts : (a b c d : List ℕ) → ((a ++ b) ++ c) ++ d ≡ a ++ (b ++ (c ++ d))
four-parts a b c d = append_assoc (a ++ b) c d ∙ append_assoc a b (c ++ d)
