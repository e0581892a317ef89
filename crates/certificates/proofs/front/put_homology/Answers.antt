use Rattle.std.proofs.Common.{◌++◌, append_assoc, refl, sym, ◌∙◌}
use Rattle.hap_outside.proofs.CallerLemmas.{gathers_next, gathers_fail, gathers_break}
use Rattle.certificates.specs.declared.kind.Kind.TheVariants as kind
use Rattle.certificates.specs.Written.{blocks_text, products_text, homology_text}
use Rattle.certificates.proofs.front.put_homology.Goals as goal

pub returns-in_err-put_blocks-clause-bytes : goal.returns-in_err-put_blocks-clause-bytes
returns-in_err-put_blocks-clause-bytes g c =
    gathers_fail _ _ _ _ (blocks_text kind.Rank kind.RankLine c.args.ranks.now 3) ((blocks_text kind.Classes kind.ClassLine c.args.classes.now 4) ++ (products_text c.args.products.now)) (homology_text c.args.ranks.now c.args.classes.now c.args.products.now) _ c.from_residual.result c.from_residual.ensures.0 c.in_err-put_blocks.ensures.bytes (sym (append_assoc (blocks_text kind.Rank kind.RankLine c.args.ranks.now 3) (blocks_text kind.Classes kind.ClassLine c.args.classes.now 4) (products_text c.args.products.now)) ∙ append_assoc (blocks_text kind.Rank kind.RankLine c.args.ranks.now 3) (blocks_text kind.Classes kind.ClassLine c.args.classes.now 4) (products_text c.args.products.now))

pub returns-in_err-put_blocks-2-clause-bytes : goal.returns-in_err-put_blocks-2-clause-bytes
returns-in_err-put_blocks-2-clause-bytes g c =
    gathers_break _ _ _ _ _ _ (blocks_text kind.Rank kind.RankLine c.args.ranks.now 3) (blocks_text kind.Classes kind.ClassLine c.args.classes.now 4) (products_text c.args.products.now) (homology_text c.args.ranks.now c.args.classes.now c.args.products.now) _ _ c.from_residual-in_err-put_blocks-2.result c.in_ok-put_blocks.ensures.bytes c.from_residual-in_err-put_blocks-2.ensures.0 c.in_err-put_blocks-2.ensures.bytes (append_assoc (blocks_text kind.Rank kind.RankLine c.args.ranks.now 3) (blocks_text kind.Classes kind.ClassLine c.args.classes.now 4) (products_text c.args.products.now))

pub returns-clause-bytes : goal.returns-clause-bytes
returns-clause-bytes g c =
    gathers_next _ _ _ _ _ _ ((blocks_text kind.Rank kind.RankLine c.args.ranks.now 3) ++ (blocks_text kind.Classes kind.ClassLine c.args.classes.now 4)) (products_text c.args.products.now) (homology_text c.args.ranks.now c.args.classes.now c.args.products.now) _ c.put_products.result (append_assoc (blocks_text kind.Rank kind.RankLine c.args.ranks.now 3) (blocks_text kind.Classes kind.ClassLine c.args.classes.now 4) (products_text c.args.products.now)) (gathers_next _ _ _ _ _ _ _ _ _ _ _ refl c.in_ok-put_blocks.ensures.bytes c.in_ok-put_blocks-2.ensures.bytes) c.put_products.ensures.bytes
