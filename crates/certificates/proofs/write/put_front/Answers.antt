use Rattle.std.proofs.Common.{◌++◌, append_assoc, refl, sym, ◌∙◌}
use Rattle.hap_outside.proofs.CallerLemmas.{gathers_next, gathers_fail, gathers_break}
use Rattle.certificates.proofs.Sequences.{four-parts}
use Rattle.certificates.specs.Cert.{cert_of}
use Rattle.certificates.specs.Texts.{front_text}
use Rattle.certificates.specs.Written.{opening_text, space_text, homology_text, cover_fronts_text}
use Rattle.certificates.proofs.TextLemmas.{front-is}
use Rattle.certificates.proofs.write.put_front.Goals as goal

pub returns-in_err-put_opening-clause-bytes : goal.returns-in_err-put_opening-clause-bytes
returns-in_err-put_opening-clause-bytes g c =
    gathers_fail _ _ _ _ (opening_text (cert_of c.args.cert.now).version (cert_of c.args.cert.now).modulus (cert_of c.args.cert.now).space) ((space_text (cert_of c.args.cert.now).space (cert_of c.args.cert.now).chains) ++ ((homology_text (cert_of c.args.cert.now).ranks (cert_of c.args.cert.now).classes (cert_of c.args.cert.now).products) ++ (cover_fronts_text (cert_of c.args.cert.now).version (cert_of c.args.cert.now).cover))) (front_text (cert_of c.args.cert.now)) _ c.from_residual.result c.from_residual.ensures.0 c.in_err-put_opening.ensures.bytes (sym (four-parts (opening_text (cert_of c.args.cert.now).version (cert_of c.args.cert.now).modulus (cert_of c.args.cert.now).space) (space_text (cert_of c.args.cert.now).space (cert_of c.args.cert.now).chains) (homology_text (cert_of c.args.cert.now).ranks (cert_of c.args.cert.now).classes (cert_of c.args.cert.now).products) (cover_fronts_text (cert_of c.args.cert.now).version (cert_of c.args.cert.now).cover)) ∙ four-parts (opening_text (cert_of c.args.cert.now).version (cert_of c.args.cert.now).modulus (cert_of c.args.cert.now).space) (space_text (cert_of c.args.cert.now).space (cert_of c.args.cert.now).chains) (homology_text (cert_of c.args.cert.now).ranks (cert_of c.args.cert.now).classes (cert_of c.args.cert.now).products) (cover_fronts_text (cert_of c.args.cert.now).version (cert_of c.args.cert.now).cover) ∙ front-is (cert_of c.args.cert.now))

pub returns-in_err-put_space-clause-bytes : goal.returns-in_err-put_space-clause-bytes
returns-in_err-put_space-clause-bytes g c =
    gathers_break _ _ _ _ _ _ (opening_text (cert_of c.args.cert.now).version (cert_of c.args.cert.now).modulus (cert_of c.args.cert.now).space) (space_text (cert_of c.args.cert.now).space (cert_of c.args.cert.now).chains) ((homology_text (cert_of c.args.cert.now).ranks (cert_of c.args.cert.now).classes (cert_of c.args.cert.now).products) ++ (cover_fronts_text (cert_of c.args.cert.now).version (cert_of c.args.cert.now).cover)) (front_text (cert_of c.args.cert.now)) _ _ c.from_residual-in_err-put_space.result c.in_ok-put_opening.ensures.bytes c.from_residual-in_err-put_space.ensures.0 c.in_err-put_space.ensures.bytes (sym (append_assoc ((opening_text (cert_of c.args.cert.now).version (cert_of c.args.cert.now).modulus (cert_of c.args.cert.now).space) ++ (space_text (cert_of c.args.cert.now).space (cert_of c.args.cert.now).chains)) (homology_text (cert_of c.args.cert.now).ranks (cert_of c.args.cert.now).classes (cert_of c.args.cert.now).products) (cover_fronts_text (cert_of c.args.cert.now).version (cert_of c.args.cert.now).cover)) ∙ four-parts (opening_text (cert_of c.args.cert.now).version (cert_of c.args.cert.now).modulus (cert_of c.args.cert.now).space) (space_text (cert_of c.args.cert.now).space (cert_of c.args.cert.now).chains) (homology_text (cert_of c.args.cert.now).ranks (cert_of c.args.cert.now).classes (cert_of c.args.cert.now).products) (cover_fronts_text (cert_of c.args.cert.now).version (cert_of c.args.cert.now).cover) ∙ front-is (cert_of c.args.cert.now))

pub returns-in_err-put_homology-clause-bytes : goal.returns-in_err-put_homology-clause-bytes
returns-in_err-put_homology-clause-bytes g c =
    gathers_break _ _ _ _ _ _ ((opening_text (cert_of c.args.cert.now).version (cert_of c.args.cert.now).modulus (cert_of c.args.cert.now).space) ++ (space_text (cert_of c.args.cert.now).space (cert_of c.args.cert.now).chains)) (homology_text (cert_of c.args.cert.now).ranks (cert_of c.args.cert.now).classes (cert_of c.args.cert.now).products) (cover_fronts_text (cert_of c.args.cert.now).version (cert_of c.args.cert.now).cover) (front_text (cert_of c.args.cert.now)) _ _ c.from_residual-in_err-put_homology.result (gathers_next _ _ _ _ _ _ _ _ _ _ _ refl c.in_ok-put_opening.ensures.bytes c.in_ok-put_space.ensures.bytes) c.from_residual-in_err-put_homology.ensures.0 c.in_err-put_homology.ensures.bytes (four-parts (opening_text (cert_of c.args.cert.now).version (cert_of c.args.cert.now).modulus (cert_of c.args.cert.now).space) (space_text (cert_of c.args.cert.now).space (cert_of c.args.cert.now).chains) (homology_text (cert_of c.args.cert.now).ranks (cert_of c.args.cert.now).classes (cert_of c.args.cert.now).products) (cover_fronts_text (cert_of c.args.cert.now).version (cert_of c.args.cert.now).cover) ∙ front-is (cert_of c.args.cert.now))

pub returns-clause-bytes : goal.returns-clause-bytes
returns-clause-bytes g c =
    gathers_next _ _ _ _ _ _ (((opening_text (cert_of c.args.cert.now).version (cert_of c.args.cert.now).modulus (cert_of c.args.cert.now).space) ++ (space_text (cert_of c.args.cert.now).space (cert_of c.args.cert.now).chains)) ++ (homology_text (cert_of c.args.cert.now).ranks (cert_of c.args.cert.now).classes (cert_of c.args.cert.now).products)) (cover_fronts_text (cert_of c.args.cert.now).version (cert_of c.args.cert.now).cover) (front_text (cert_of c.args.cert.now)) _ c.put_cover_front.result (four-parts (opening_text (cert_of c.args.cert.now).version (cert_of c.args.cert.now).modulus (cert_of c.args.cert.now).space) (space_text (cert_of c.args.cert.now).space (cert_of c.args.cert.now).chains) (homology_text (cert_of c.args.cert.now).ranks (cert_of c.args.cert.now).classes (cert_of c.args.cert.now).products) (cover_fronts_text (cert_of c.args.cert.now).version (cert_of c.args.cert.now).cover) ∙ front-is (cert_of c.args.cert.now)) (gathers_next _ _ _ _ _ _ _ _ _ _ _ refl (gathers_next _ _ _ _ _ _ _ _ _ _ _ refl c.in_ok-put_opening.ensures.bytes c.in_ok-put_space.ensures.bytes) c.in_ok-put_homology.ensures.bytes) c.put_cover_front.ensures.bytes
