-- Command lines that are read, and command lines that are refused.
use Rattle.std.proofs.Common.{◌≡◌, refl, true, List, [], ◌∷◌, None, Some, codes}
use Rattle.std.specs.Prelude.{is_none}
use Rattle.std.specs.List.{list_all}
use Rattle.clap.specs.Words.{Text}
use Rattle.clap.proofs.OnLiterals.{clap_on_literals}
use Rattle.hap_words.specs.declared.command.Kind.TheVariants.{Boundary, Arcs}
use Rattle.hap_words.specs.Asked.{Source, cells, betti, migrate, covers, cover, report, make}
use Rattle.hap_words.specs.Line.{hap_app}
use Rattle.hap_words.specs.Table.{asked, read}

abbrev plain : Source
plain = record { kind = Boundary; name = None }

-- defaults, leading zeros, the empty name, options in front of the command, two hyphens
cells-alone : asked (codes "cells" ∷ []) ≡ Some (cells (record { source = plain }))
unfolding clap_on_literals hap_app
cells-alone = refl

empty-name : asked (codes "--in=" ∷ codes "--" ∷ codes "cells" ∷ []) ≡ Some (cells (record { source = record { kind = Boundary; name = Some [] } }))
unfolding clap_on_literals hap_app
empty-name = refl

betti-three : asked (codes "betti" ∷ codes "--kind" ∷ codes "arcs" ∷ codes "--mod" ∷ codes "03" ∷ []) ≡ Some (betti (record { source = record { kind = Arcs; name = None }; modulus = 3 }))
unfolding clap_on_literals hap_app
betti-three = refl

betti-nine : asked (codes "betti" ∷ codes "--mod" ∷ codes "9" ∷ []) ≡ Some (betti (record { source = plain; modulus = 9 }))
unfolding clap_on_literals hap_app
betti-nine = refl

covers-from : asked (codes "covers" ∷ codes "--sheets" ∷ codes "8" ∷ codes "--from" ∷ codes "3/2:2,1" ∷ []) ≡ Some (covers (record { source = plain; sheets = 8; budget = 10000000; from = (3, 2, 2 ∷ 1 ∷ []) }))
unfolding clap_on_literals hap_app
covers-from = refl

cover-in : asked (codes "cover" ∷ codes "--index" ∷ codes "7" ∷ codes "--component=60000" ∷ codes "--sheets" ∷ codes "002" ∷ [])
    ≡ Some (cover (record { source = plain; sheets = 2; index = 7; component = 60000; budget = 10000000; modulus = None }))
unfolding clap_on_literals hap_app
cover-in = refl

report-start : asked (codes "report" ∷ codes "--sheets=3" ∷ codes "--budget=12" ∷ []) ≡ Some (report (record { source = plain; modulus = 2; sheets = 3; budget = 12; from = (1, 0, []) }))
unfolding clap_on_literals hap_app
report-start = refl

migrate-named : asked (codes "migrate" ∷ codes "--in" ∷ codes "a" ∷ []) ≡ Some (migrate (record { name = Some (codes "a") }))
unfolding clap_on_literals hap_app
migrate-named = refl

make-two : read (codes "make" ∷ codes "--size" ∷ codes "2" ∷ codes "--mod" ∷ codes "7" ∷ []) ≡ Some (make (record { size = 2; modulus = Some 7 }))
unfolding clap_on_literals hap_app
make-two = refl

-- a command that is not built
migrate-not_built : read (codes "migrate" ∷ []) ≡ None
unfolding clap_on_literals hap_app
migrate-not_built = refl

abbrev all_refused : List (List Text) → Type 0
all_refused lines = list_all (λ words. is_none (asked words)) lines ≡ true

-- the words and the options
no-command : all_refused (
    []
    ∷ (codes "frob" ∷ [])
    ∷ (codes "cells" ∷ codes "cells" ∷ [])
    ∷ (codes "cells" ∷ codes "--kind" ∷ [])
    ∷ (codes "cells" ∷ codes "--kind" ∷ codes "knot" ∷ [])
    ∷ (codes "cells" ∷ codes "--mod" ∷ codes "2" ∷ [])
    ∷ (codes "cells" ∷ codes "--component" ∷ codes "1" ∷ [])
    ∷ (codes "verify" ∷ codes "--kind" ∷ codes "boundary" ∷ [])
    ∷ (codes "migrate" ∷ codes "--mod" ∷ codes "2" ∷ [])
    ∷ (codes "betti" ∷ codes "--mod" ∷ codes "2" ∷ codes "--mod" ∷ codes "2" ∷ [])
    ∷ (codes "cells" ∷ codes "--help" ∷ [])
    ∷ (codes "cells" ∷ codes "-h" ∷ [])
    ∷ (codes "--" ∷ codes "cells" ∷ codes "--in=a" ∷ [])
    ∷ [])
unfolding clap_on_literals hap_app
no-command = refl

-- the values
no-value : all_refused (
    (codes "make" ∷ [])
    ∷ (codes "make" ∷ codes "--size" ∷ codes "1" ∷ [])
    ∷ (codes "make" ∷ codes "--size" ∷ codes "20" ∷ [])
    ∷ (codes "betti" ∷ codes "--mod" ∷ codes "6" ∷ [])
    ∷ (codes "betti" ∷ codes "--mod" ∷ codes "8" ∷ [])
    ∷ (codes "betti" ∷ codes "--mod" ∷ codes "17" ∷ [])
    ∷ (codes "covers" ∷ [])
    ∷ (codes "covers" ∷ codes "--sheets" ∷ codes "0" ∷ [])
    ∷ (codes "covers" ∷ codes "--sheets" ∷ codes "9" ∷ [])
    ∷ (codes "covers" ∷ codes "--sheets" ∷ codes "2" ∷ codes "--budget" ∷ codes "0" ∷ [])
    ∷ (codes "cover" ∷ codes "--sheets" ∷ codes "2" ∷ [])
    ∷ (codes "cover" ∷ codes "--sheets" ∷ codes "2" ∷ codes "--index" ∷ codes "1" ∷ codes "--component" ∷ codes "0" ∷ [])
    ∷ (codes "cover" ∷ codes "--sheets" ∷ codes "2" ∷ codes "--index" ∷ codes "1" ∷ codes "--component" ∷ codes "60001" ∷ [])
    ∷ [])
unfolding clap_on_literals hap_app
no-value = refl

-- the spots
no-spot : all_refused (
    (codes "covers" ∷ codes "--sheets" ∷ codes "2" ∷ codes "--from" ∷ codes "-" ∷ [])
    ∷ (codes "covers" ∷ codes "--sheets" ∷ codes "2" ∷ codes "--from" ∷ codes "2:" ∷ [])
    ∷ (codes "covers" ∷ codes "--sheets" ∷ codes "2" ∷ codes "--from" ∷ codes "2:9" ∷ [])
    ∷ (codes "covers" ∷ codes "--sheets" ∷ codes "2" ∷ codes "--from" ∷ codes "1/2:1" ∷ [])
    ∷ (codes "covers" ∷ codes "--sheets" ∷ codes "2" ∷ codes "--from" ∷ codes "02/2:1" ∷ [])
    ∷ (codes "covers" ∷ codes "--sheets" ∷ codes "2" ∷ codes "--from" ∷ codes "60001/2:1" ∷ [])
    ∷ (codes "covers" ∷ codes "--sheets" ∷ codes "2" ∷ codes "--from" ∷ codes "2/-" ∷ [])
    ∷ [])
unfolding clap_on_literals hap_app
no-spot = refl
