use Rattle.std.proofs.Common.{◌++◌, append_assoc, refl, sym, ◌∙◌}
use Rattle.hap_outside.proofs.CallerLemmas.{gathers_next, gathers_fail, gathers_break}
use Rattle.certificates.proofs.Sequences.{four-parts}
use Rattle.certificates.specs.declared.kind.Kind.TheVariants as kind
use Rattle.certificates.specs.Written.{faces_text, four_line, space_text}
use Rattle.certificates.proofs.front.put_space.Goals as goal

pub returns-in_err-put_faces-clause-bytes : goal.returns-in_err-put_faces-clause-bytes
returns-in_err-put_faces-clause-bytes g c =
    gathers_fail _ _ _ _ (faces_text c.args.space.now 1) ((faces_text c.args.space.now 2) ++ ((faces_text c.args.space.now 3) ++ (four_line kind.Chains c.args.chains.now))) (space_text c.args.space.now c.args.chains.now) _ c.from_residual.result c.from_residual.ensures.0 c.in_err-put_faces.ensures.bytes (sym (four-parts (faces_text c.args.space.now 1) (faces_text c.args.space.now 2) (faces_text c.args.space.now 3) (four_line kind.Chains c.args.chains.now)) ∙ four-parts (faces_text c.args.space.now 1) (faces_text c.args.space.now 2) (faces_text c.args.space.now 3) (four_line kind.Chains c.args.chains.now))

pub returns-in_err-put_faces-2-clause-bytes : goal.returns-in_err-put_faces-2-clause-bytes
returns-in_err-put_faces-2-clause-bytes g c =
    gathers_break _ _ _ _ _ _ (faces_text c.args.space.now 1) (faces_text c.args.space.now 2) ((faces_text c.args.space.now 3) ++ (four_line kind.Chains c.args.chains.now)) (space_text c.args.space.now c.args.chains.now) _ _ c.from_residual-in_err-put_faces-2.result c.in_ok-put_faces.ensures.bytes c.from_residual-in_err-put_faces-2.ensures.0 c.in_err-put_faces-2.ensures.bytes (sym (append_assoc ((faces_text c.args.space.now 1) ++ (faces_text c.args.space.now 2)) (faces_text c.args.space.now 3) (four_line kind.Chains c.args.chains.now)) ∙ four-parts (faces_text c.args.space.now 1) (faces_text c.args.space.now 2) (faces_text c.args.space.now 3) (four_line kind.Chains c.args.chains.now))

pub returns-in_err-put_faces-3-clause-bytes : goal.returns-in_err-put_faces-3-clause-bytes
returns-in_err-put_faces-3-clause-bytes g c =
    gathers_break _ _ _ _ _ _ ((faces_text c.args.space.now 1) ++ (faces_text c.args.space.now 2)) (faces_text c.args.space.now 3) (four_line kind.Chains c.args.chains.now) (space_text c.args.space.now c.args.chains.now) _ _ c.from_residual-in_err-put_faces-3.result (gathers_next _ _ _ _ _ _ _ _ _ _ _ refl c.in_ok-put_faces.ensures.bytes c.in_ok-put_faces-2.ensures.bytes) c.from_residual-in_err-put_faces-3.ensures.0 c.in_err-put_faces-3.ensures.bytes (four-parts (faces_text c.args.space.now 1) (faces_text c.args.space.now 2) (faces_text c.args.space.now 3) (four_line kind.Chains c.args.chains.now))

pub returns-clause-bytes : goal.returns-clause-bytes
returns-clause-bytes g c =
    gathers_next _ _ _ _ _ _ (((faces_text c.args.space.now 1) ++ (faces_text c.args.space.now 2)) ++ (faces_text c.args.space.now 3)) (four_line kind.Chains c.args.chains.now) (space_text c.args.space.now c.args.chains.now) _ c.put_four.result (four-parts (faces_text c.args.space.now 1) (faces_text c.args.space.now 2) (faces_text c.args.space.now 3) (four_line kind.Chains c.args.chains.now)) (gathers_next _ _ _ _ _ _ _ _ _ _ _ refl (gathers_next _ _ _ _ _ _ _ _ _ _ _ refl c.in_ok-put_faces.ensures.bytes c.in_ok-put_faces-2.ensures.bytes) c.in_ok-put_faces-3.ensures.bytes) c.put_four.ensures.bytes
