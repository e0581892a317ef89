use Rattle.std.proofs.Common.{◌≡◌, ◌++◌, List, ℕ, refl, ap, ◌∙◌}
use Rattle.face_poset.specs.Poset.{Layers}
use Rattle.certificates.specs.Texts.{cover_text}
use Rattle.part_covers.specs.Covered.{Covering}
use Rattle.hap_outside.proofs.CallerLemmas.{gathers_next, gathers_fail}
use Rattle.hap_cli.specs.OneCover.{cover_front, cells_line}
use Rattle.hap_cli.proofs.cover.put_cover_front.Goals as goal

-- the line of a table by its parts, and the cells of a space behind it
front-is : (c : Covering) (sheets columns : ℕ) (cells : List ℕ) (space : Layers) → sheets ≡ c.sheets → columns ≡ c.columns → cells ≡ c.cells → space ≡ c.total
    → cover_text sheets columns cells ++ cells_line space ≡ cover_front c
front-is c sheets columns cells space s k e t =
    ap (λ (m : ℕ). cover_text m columns cells ++ cells_line space) s
    ∙ (ap (λ (m : ℕ). cover_text c.sheets m cells ++ cells_line space) k
    ∙ (ap (λ (xs : List ℕ). cover_text c.sheets c.columns xs ++ cells_line space) e ∙ ap (λ (x : Layers). cover_text c.sheets c.columns c.cells ++ cells_line x) t))

pub returns-in_err-put_cover-clause-bytes : goal.returns-in_err-put_cover-clause-bytes
returns-in_err-put_cover-clause-bytes g c =
    let t = c.table.result.now in
    let is = c.table.ensures in
    gathers_fail _ _ _ _ (cover_text t.sheets t.columns t.cells) (cells_line c.args.found.now.total) (cover_front c.args.found.now) _ c.from_residual.result c.from_residual.ensures.0
    c.in_err-put_cover.ensures.bytes (front-is c.args.found.now t.sheets t.columns t.cells c.args.found.now.total is.sheets is.columns is.cells refl)

pub returns-clause-bytes : goal.returns-clause-bytes
returns-clause-bytes g c =
    let t = c.table.result.now in
    let is = c.table.ensures in
    gathers_next _ _ _ _ _ _ (cover_text t.sheets t.columns t.cells) (cells_line c.total.result.now) (cover_front c.args.found.now) _ c.put_cells.result
    (front-is c.args.found.now t.sheets t.columns t.cells c.total.result.now is.sheets is.columns is.cells c.total.ensures) c.in_ok-put_cover.ensures.bytes c.put_cells.ensures.bytes
