use Rattle.std.proofs.Common.{◌++◌, ◌∷◌, [], append_assoc, refl, sym, ◌∙◌}
use Rattle.hap_outside.proofs.CallerLemmas.{gathers_next, gathers_fail, gathers_break}
use Rattle.face_poset.specs.Poset.{count}
use Rattle.certificates.specs.declared.kind.Kind.TheVariants as kind
use Rattle.certificates.specs.Written.{numbered_line, opening_text}
use Rattle.certificates.proofs.front.put_opening.Goals as goal

pub returns-in_err-put_small-clause-bytes : goal.returns-in_err-put_small-clause-bytes
returns-in_err-put_small-clause-bytes g c =
    gathers_fail _ _ _ _ (numbered_line kind.Version (c.args.cert.now.version ∷ [])) ((numbered_line kind.Modulus (c.args.cert.now.modulus ∷ [])) ++ (numbered_line kind.Cells (count c.args.cert.now.space 0 ∷ count c.args.cert.now.space 1 ∷ count c.args.cert.now.space 2 ∷ count c.args.cert.now.space 3 ∷ []))) (opening_text c.args.cert.now.version c.args.cert.now.modulus c.args.cert.now.space) _ c.from_residual.result c.from_residual.ensures.0 c.in_err-put_small.ensures.bytes (sym (append_assoc (numbered_line kind.Version (c.args.cert.now.version ∷ [])) (numbered_line kind.Modulus (c.args.cert.now.modulus ∷ [])) (numbered_line kind.Cells (count c.args.cert.now.space 0 ∷ count c.args.cert.now.space 1 ∷ count c.args.cert.now.space 2 ∷ count c.args.cert.now.space 3 ∷ []))) ∙ append_assoc (numbered_line kind.Version (c.args.cert.now.version ∷ [])) (numbered_line kind.Modulus (c.args.cert.now.modulus ∷ [])) (numbered_line kind.Cells (count c.args.cert.now.space 0 ∷ count c.args.cert.now.space 1 ∷ count c.args.cert.now.space 2 ∷ count c.args.cert.now.space 3 ∷ [])))

pub returns-in_err-put_small-2-clause-bytes : goal.returns-in_err-put_small-2-clause-bytes
returns-in_err-put_small-2-clause-bytes g c =
    gathers_break _ _ _ _ _ _ (numbered_line kind.Version (c.args.cert.now.version ∷ [])) (numbered_line kind.Modulus (c.args.cert.now.modulus ∷ [])) (numbered_line kind.Cells (count c.args.cert.now.space 0 ∷ count c.args.cert.now.space 1 ∷ count c.args.cert.now.space 2 ∷ count c.args.cert.now.space 3 ∷ [])) (opening_text c.args.cert.now.version c.args.cert.now.modulus c.args.cert.now.space) _ _ c.from_residual-in_err-put_small-2.result c.in_ok-put_small.ensures.bytes c.from_residual-in_err-put_small-2.ensures.0 c.in_err-put_small-2.ensures.bytes (append_assoc (numbered_line kind.Version (c.args.cert.now.version ∷ [])) (numbered_line kind.Modulus (c.args.cert.now.modulus ∷ [])) (numbered_line kind.Cells (count c.args.cert.now.space 0 ∷ count c.args.cert.now.space 1 ∷ count c.args.cert.now.space 2 ∷ count c.args.cert.now.space 3 ∷ [])))

pub returns-clause-bytes : goal.returns-clause-bytes
returns-clause-bytes g c =
    gathers_next _ _ _ _ _ _ ((numbered_line kind.Version (c.args.cert.now.version ∷ [])) ++ (numbered_line kind.Modulus (c.args.cert.now.modulus ∷ []))) (numbered_line kind.Cells (count c.args.cert.now.space 0 ∷ count c.args.cert.now.space 1 ∷ count c.args.cert.now.space 2 ∷ count c.args.cert.now.space 3 ∷ [])) (opening_text c.args.cert.now.version c.args.cert.now.modulus c.args.cert.now.space) _ c.put_cells.result (append_assoc (numbered_line kind.Version (c.args.cert.now.version ∷ [])) (numbered_line kind.Modulus (c.args.cert.now.modulus ∷ [])) (numbered_line kind.Cells (count c.args.cert.now.space 0 ∷ count c.args.cert.now.space 1 ∷ count c.args.cert.now.space 2 ∷ count c.args.cert.now.space 3 ∷ []))) (gathers_next _ _ _ _ _ _ _ _ _ _ _ refl c.in_ok-put_small.ensures.bytes c.in_ok-put_small-2.ensures.bytes) c.put_cells.ensures.bytes
