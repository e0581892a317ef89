-- The shape of a line behind its first word: how many numbers, and whether two sparse lists come after them.
--   shape_from stage count words   the shape of these words, behind a stage with so many numbers
--   fits kind count lists          a line of the kind has so many numbers, and lists or none
-- and as steps of these: stage_after, count_after, shape_at
use Rattle.std.specs.Prelude.{ℕ, ◌+◌, ◌==◌, List, [], ◌∷◌, Bool, true, false, ◌&&◌, not, nat_le, Option, Some, None, option_and_then}
use Rattle.certificates.specs.declared.kind.Kind.{Kind}
use Rattle.certificates.specs.declared.kind.Kind.TheVariants as kind
use Rattle.certificates.specs.declared.token.Token.{Token}
use Rattle.certificates.specs.declared.token.Token.TheVariants.{Number, Entry, Dash, Bar}
use Rattle.certificates.specs.Tokens.{token_of}
use Rattle.cert_lines.specs.declared.shape.Stage.{Stage}
use Rattle.cert_lines.specs.declared.shape.Stage.TheVariants as stage

abbrev pub stage_after : Stage → Token → Option Stage
stage_after stage.Numbers (Number n) = Some stage.Numbers
stage_after stage.Numbers (Entry p v) = Some stage.Left
stage_after stage.Numbers Dash = Some stage.LeftDash
stage_after stage.LeftDash Bar = Some stage.Bar
stage_after stage.Left (Entry p v) = Some stage.Left
stage_after stage.Left Bar = Some stage.Bar
stage_after stage.Bar (Entry p v) = Some stage.Right
stage_after stage.Bar Dash = Some stage.RightDash
stage_after stage.Right (Entry p v) = Some stage.Right
stage_after s t = None

abbrev pub count_after : ℕ → Token → ℕ
count_after n (Number m) = n + 1
count_after n t = n

abbrev pub shape_at : Stage → ℕ → Option (ℕ × Bool)
shape_at stage.Numbers n = Some (n, false)
shape_at stage.Right n = Some (n, true)
shape_at stage.RightDash n = Some (n, true)
shape_at s n = None

abbrev pub shape_from : Stage → ℕ → List (List ℕ) → Option (ℕ × Bool)
shape_from s n [] = shape_at s n
shape_from s n (w ∷ ws) =
    option_and_then (λ t. option_and_then (λ u. shape_from u (count_after n t) ws) (stage_after s t)) (token_of w)

abbrev pub fits : Kind → ℕ → Bool → Bool
fits kind.Version n lists = not lists && (n == 1)
fits kind.Modulus n lists = not lists && (n == 1)
fits kind.Cells n lists = not lists && (n == 4)
fits kind.Face n lists = not lists && nat_le 2 n
fits kind.Chains n lists = not lists && (n == 4)
fits kind.Rank n lists = not lists && (n == 2)
fits kind.RankLine n lists = lists && (n == 0)
fits kind.Classes n lists = not lists && (n == 2)
fits kind.ClassLine n lists = lists && (n == 0)
fits kind.Products n lists = not lists && (n == 1)
fits kind.ProductLine n lists = lists && (n == 4)
fits kind.Pairs n lists = not lists && (n == 1)
fits kind.PairLine n lists = not lists && (n == 3)
fits kind.Critical n lists = not lists && (n == 4)
fits kind.Components n lists = not lists && (n == 1)
fits kind.Columns n lists = not lists && (n == 2)
fits kind.Covers n lists = not lists && (n == 1)
fits kind.Done n lists = not lists && (n == 0)
fits kind.End n lists = not lists && (n == 0)
