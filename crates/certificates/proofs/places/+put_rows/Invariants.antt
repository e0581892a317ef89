use Rattle.certificates.proofs.places.+put_rows.Given as goal

abbrev pub decreases-put_rows : goal.decreases-put_rows
decreases-put_rows g l = l.sheets
