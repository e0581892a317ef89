use Rattle.std.proofs.Common.{◌≡◌, ◌≤◌, ◌-◌, ◌<◌, ℕ, List, [], length, get_or, All, ap, sym, subst, arith}
use Rattle.edge_words.specs.Labels.{IsLabel, Labelled}
use Rattle.edge_words.proofs.label_list.Labels.of.Goals as goal

-- a number of a label
small : (v : Labelled) (labels : List (List ℕ)) (m e s : ℕ) (l : List ℕ) → record { sheets = m; labels = labels } ≡ v → m ≤ 8 → All (IsLabel m) labels → 1 ≤ e → e ≤ length v.labels → l ≡ get_or labels (e - 1) [] → 1 ≤ s → s ≤ v.sheets → get_or l (s - 1) 0 < 256
small v labels m e s l h few all first last told low high =
    let n : e - 1 < length labels = omega (arith, first, last, ap (λ (w : Labelled). length w.labels) h) in
    let is : IsLabel m l = subst (IsLabel m) (sym told) (all (e - 1) [] n) in
    let within : s - 1 < length l = omega (arith, is.full, low, high, ap (λ (w : Labelled). w.sheets) h) in
    let r = is.within (s - 1) 0 within in
    omega (arith, r.1, few)

pub overflow_cast-result-2 : goal.overflow_cast-result-2
overflow_cast-result-2 c =
    record {
      fits = small c.args.self.now c.self.inside.labels c.self.inside.sheets c.args.edge c.args.sheet c.get.result.now c.self.view_is c.self.invariant.1 c.self.invariant.2 c.requires.first_edge c.requires.last_edge c.get.ensures c.requires.first_sheet c.requires.last_sheet;
    }
