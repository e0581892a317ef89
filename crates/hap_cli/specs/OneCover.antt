-- What `cover` writes of a cover with a modulus, before the Betti numbers of its total space.
--   cover_line c      the line of its table
--   cells_line space  how many cells each dimension of a space has
--   cover_front c     the line of its table, and the cells of its total space
use Rattle.std.specs.Prelude.{ℕ, List, ◌++◌, codes, decimal}
use Rattle.face_poset.specs.Poset.{Layers, count}
use Rattle.certificates.specs.Texts.{cover_text}
use Rattle.part_covers.specs.Covered.{Covering}

abbrev pub cover_line : Covering → List ℕ
cover_line c = cover_text c.sheets c.columns c.cells

abbrev pub cells_line : Layers → List ℕ
cells_line space =
    codes "cells " ++ (decimal (count space 0) ++ (codes " " ++ (decimal (count space 1) ++ (codes " "
    ++ (decimal (count space 2) ++ (codes " " ++ (decimal (count space 3) ++ codes "\n")))))))

abbrev pub cover_front : Covering → List ℕ
cover_front c = cover_line c ++ cells_line c.total
