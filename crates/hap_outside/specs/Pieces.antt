-- The text of the pieces of a line.
--   text_of piece     a text stands for itself, and a number for its decimal digits, behind a minus sign below 0
--   texts_of pieces   the texts one after another
use Rattle.std.specs.Prelude.{ℕ, List, [], ◌∷◌, ◌++◌, decimal}
use Rattle.std.specs.Fmt.{signed_decimal}
use Rattle.hap_outside.specs.declared.pieces.Piece.{Piece}
use Rattle.hap_outside.specs.declared.pieces.Piece.TheVariants.{Text, Count, Number}

abbrev pub text_of : Piece → List ℕ
text_of (Text text) = text.now
text_of (Count value) = decimal value
text_of (Number value) = signed_decimal value

abbrev pub texts_of : List Piece → List ℕ
texts_of [] = []
texts_of (piece ∷ pieces) = text_of piece ++ texts_of pieces
