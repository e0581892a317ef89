-- The first word and what stands behind it tell which line it is.
use Rattle.std.proofs.Common.{◌≡◌, ◌<◌, ◌+◌, ◌∷◌, [], ℕ, Bool, true, false, cond, not, ◌&&◌, ◌||◌, eqb, Option, Some, None, option_map, is_some, List, length, refl, sym, ◌∙◌, ap, arith, subst, bytes_eq, codes}
use Rattle.std.specs.Option.{option_and_then, option_or}
use Rattle.std.proofs.lemmas.Bool.{ne_eqb, le-leb}
use Rattle.certificates.specs.declared.kind.Kind.{Kind}
use Rattle.certificates.specs.declared.kind.Kind.TheVariants as kind
use Rattle.certificates.specs.declared.token.Token.{Token}
use Rattle.certificates.specs.Numbers.{number_of}
use Rattle.certificates.specs.Tokens.{tokens_of, words_of}
use Rattle.certificates.specs.Parts.{Sparse, Rest, Parts, kind_text, kind_of_word, rest_of, parts_from}
use Rattle.certificates.specs.Plain as p
use Rattle.certificates.specs.Plain.{Plain, parts, plain_from, plain_of}
use Rattle.certificates.specs.Placed as q
use Rattle.certificates.specs.Placed.{SearchSpot, SheetRows, Placed, spot_or_start_of, table_of, placed_from, placed_of}
use Rattle.certificates.specs.Forms.{Form, plain, placed, in_first, stands, if_stands, form_of}
use Rattle.certificates.proofs.CallerLemmas.{bytes-same, kind-is}
use Rattle.cert_lines.specs.declared.kind.LineKind.{LineKind}
use Rattle.cert_lines.specs.declared.kind.LineKind.TheVariants as line_kind
use Rattle.cert_lines.specs.declared.shape.Stage.TheVariants as stage
use Rattle.cert_lines.specs.Shapes.{shape_from, fits}
use Rattle.cert_lines.specs.Kinds.{kind_of, kind_stands, plain_stands, spot_in, spent_stands, cover_stands, sheets_stands, placed_stands}
use Rattle.cert_lines.proofs.ShapeLemmas.{shape_in, shape, shape-tokens, at_numbers}

-- ---- plain lines

abbrev plain_kind : Plain → Kind
plain_kind f = (parts f).kind

long : (k : Kind) (n m : ℕ) → m < n → None ≡ cond (eqb n m) (Some k) None
long k n m l = sym (ap (λ (t : Bool). cond t (Some k) None) (ne_eqb n m (λ e. omega arith)))

by_shape : (k : Kind) (o : Option (Sparse × Sparse)) (ns : List ℕ) → option_map plain_kind (plain_from k o ns) ≡ cond (fits k (length ns) (is_some o)) (Some k) None
by_shape kind.Version None (n ∷ []) = refl
by_shape kind.Version None (a ∷ b ∷ ns) = long _ _ _ (omega arith)
by_shape kind.Modulus None (n ∷ []) = refl
by_shape kind.Modulus None (a ∷ b ∷ ns) = long _ _ _ (omega arith)
by_shape kind.Cells None (a ∷ b ∷ c ∷ d ∷ []) = refl
by_shape kind.Cells None (a ∷ b ∷ c ∷ d ∷ e ∷ ns) = long _ _ _ (omega arith)
by_shape kind.Face None (k ∷ a ∷ facets) = sym (ap (λ (t : Bool). cond t (Some kind.Face) None) (le-leb 2 (length (k ∷ a ∷ facets)) (omega arith)))
by_shape kind.Chains None (a ∷ b ∷ c ∷ d ∷ []) = refl
by_shape kind.Chains None (a ∷ b ∷ c ∷ d ∷ e ∷ ns) = long _ _ _ (omega arith)
by_shape kind.Rank None (a ∷ b ∷ []) = refl
by_shape kind.Rank None (a ∷ b ∷ c ∷ ns) = long _ _ _ (omega arith)
by_shape kind.RankLine (Some s) [] = refl
by_shape kind.RankLine (Some s) (a ∷ ns) = long _ _ _ (omega arith)
by_shape kind.Classes None (a ∷ b ∷ []) = refl
by_shape kind.Classes None (a ∷ b ∷ c ∷ ns) = long _ _ _ (omega arith)
by_shape kind.ClassLine (Some s) [] = refl
by_shape kind.ClassLine (Some s) (a ∷ ns) = long _ _ _ (omega arith)
by_shape kind.Products None (n ∷ []) = refl
by_shape kind.Products None (a ∷ b ∷ ns) = long _ _ _ (omega arith)
by_shape kind.ProductLine (Some s) (a ∷ b ∷ c ∷ d ∷ []) = refl
by_shape kind.ProductLine (Some s) (a ∷ b ∷ c ∷ d ∷ e ∷ ns) = long _ _ _ (omega arith)
by_shape kind.Pairs None (n ∷ []) = refl
by_shape kind.Pairs None (a ∷ b ∷ ns) = long _ _ _ (omega arith)
by_shape kind.PairLine None (a ∷ b ∷ c ∷ []) = refl
by_shape kind.PairLine None (a ∷ b ∷ c ∷ d ∷ ns) = long _ _ _ (omega arith)
by_shape kind.Critical None (a ∷ b ∷ c ∷ d ∷ []) = refl
by_shape kind.Critical None (a ∷ b ∷ c ∷ d ∷ e ∷ ns) = long _ _ _ (omega arith)
by_shape kind.Components None (n ∷ []) = refl
by_shape kind.Components None (a ∷ b ∷ ns) = long _ _ _ (omega arith)
by_shape kind.Columns None (a ∷ b ∷ []) = refl
by_shape kind.Columns None (a ∷ b ∷ c ∷ ns) = long _ _ _ (omega arith)
by_shape kind.Covers None (n ∷ []) = refl
by_shape kind.Covers None (a ∷ b ∷ ns) = long _ _ _ (omega arith)
by_shape kind.Done None [] = refl
by_shape kind.Done None (a ∷ ns) = long _ _ _ (omega arith)
by_shape kind.End None [] = refl
by_shape kind.End None (a ∷ ns) = long _ _ _ (omega arith)
by_shape k None ns = refl
by_shape k (Some s) ns = refl

abbrev form_in : Parts → Option Plain
form_in r = plain_from r.kind r.rest.lists r.rest.numbers

abbrev if_fits : Kind → ℕ × Bool → Option Kind
if_fits k s = cond (fits k s.0 s.1) (Some k) None

abbrev with : Kind → Rest → Option Parts
with k r = Some (record { kind = k; rest = r })

by_rest : (k : Kind) (o : Option Rest) → option_map plain_kind (option_and_then form_in (option_and_then (with k) o)) ≡ option_and_then (if_fits k) (option_map (shape 0) o)
by_rest k None = refl
by_rest k (Some r) = by_shape k r.lists r.numbers ∙ ap (λ (m : ℕ). if_fits k (m, is_some r.lists)) (let e : length r.numbers ≡ 0 + length r.numbers = omega arith in e)

by_tokens : (k : Kind) (us : Option (List Token)) → option_map plain_kind (option_and_then form_in (option_and_then (λ ts. option_and_then (with k) (rest_of ts)) us)) ≡ option_and_then (if_fits k) (option_and_then (shape_in stage.Numbers 0) us)
by_tokens k None = refl
by_tokens k (Some ts) = by_rest k (rest_of ts) ∙ ap (option_and_then (if_fits k)) (sym (at_numbers 0 ts))

plain-read : (line word : List ℕ) (ws : List (List ℕ)) (k : Kind) → words_of line ≡ word ∷ ws → kind_of_word word ≡ Some k → option_map plain_kind (plain_of line) ≡ option_and_then (if_fits k) (shape_from stage.Numbers 0 ws)
plain-read line word ws k e ek =
    ap (λ (vs : List (List ℕ)). option_map plain_kind (option_and_then form_in (parts_from vs))) e
    ∙ (ap (λ (o : Option Kind). option_map plain_kind (option_and_then form_in (option_and_then (λ k. option_and_then (λ ts. option_and_then (with k) (rest_of ts)) (tokens_of ws)) o))) ek
    ∙ (by_tokens k (tokens_of ws) ∙ ap (option_and_then (if_fits k)) (sym (shape-tokens stage.Numbers 0 ws))))

-- ---- versions

abbrev told : (version : ℕ) → Option Plain → Option Placed → Option LineKind
told v a b = option_map kind_of (option_and_then (if_stands v) (option_or (option_map plain a) (option_map placed b)))

abbrev in_version : (version : ℕ) → Kind → Option LineKind
in_version v k = cond (kind_stands v k) (Some (line_kind.Plain k)) None

kept : (t : Bool) (f : Form) → option_map kind_of (cond t (Some f) None) ≡ cond t (Some (kind_of f)) None
kept true f = refl
kept false f = refl

told-plain : (v : ℕ) (f : Plain) → option_map kind_of (if_stands v (plain f)) ≡ in_version v (plain_kind f)
told-plain v (p.Components k) = kept (not (eqb v 1)) (plain (p.Components k))
told-plain v (p.Columns i c) = kept (not (eqb v 1)) (plain (p.Columns i c))
told-plain v (p.Covers i) = kept (not (eqb v 1)) (plain (p.Covers i))
told-plain v f = refl

told-none : (v : ℕ) (a : Option Plain) → told v a None ≡ option_and_then (in_version v) (option_map plain_kind a)
told-none v None = refl
told-none v (Some f) = told-plain v f

both : (v : ℕ) (k : Kind) (t u : Bool) → option_and_then (λ (j : Kind). cond u (Some (line_kind.Plain k)) None) (cond t (Some k) None) ≡ cond (t && u) (Some (line_kind.Plain k)) None
both v k true u = refl
both v k false u = refl

onto : (v : ℕ) (k : Kind) (o : Option (ℕ × Bool)) → option_and_then (in_version v) (option_and_then (if_fits k) o) ≡ option_and_then (plain_stands v k) o
onto v k None = refl
onto v k (Some s) = at (fits k s.0 s.1)
  where
    at : (t : Bool) → option_and_then (in_version v) (cond t (Some k) None) ≡ cond (t && kind_stands v k) (Some (line_kind.Plain k)) None
    at true = refl
    at false = refl

-- ---- lines with a spot or a table

-- the first word is none of the three
pub record IsApart (w : List ℕ) : Type 0 where
  pub spent : bytes_eq w (codes "spent") ≡ false
  pub cover : bytes_eq w (codes "cover") ≡ false
  pub sheets : bytes_eq w (codes "sheets") ≡ false

apart-none : (w : List ℕ) (ws : List (List ℕ)) → IsApart w → placed_from (w ∷ ws) ≡ None
apart-none w [] a = refl
apart-none w (s ∷ []) a = ap (λ (t : Bool). cond {A = Option Placed} t (option_and_then (λ x. Some (q.Spent x)) (spot_or_start_of s)) None) a.spent
apart-none w (n ∷ t ∷ []) a = ap (λ (b : Bool). cond {A = Option Placed} b (q.cover_of n t) None) a.cover
apart-none w (n ∷ v ∷ s ∷ []) a = ap (λ (b : Bool). cond {A = Option Placed} b (cond (bytes_eq v (codes "from")) (q.sheets_of n s) None) None) a.sheets
apart-none w (n ∷ v ∷ s ∷ x ∷ ws) a = refl

kind-apart : (k : Kind) → IsApart (kind_text k)
kind-apart kind.Version = record { spent = refl; cover = refl; sheets = refl }
kind-apart kind.Modulus = record { spent = refl; cover = refl; sheets = refl }
kind-apart kind.Cells = record { spent = refl; cover = refl; sheets = refl }
kind-apart kind.Face = record { spent = refl; cover = refl; sheets = refl }
kind-apart kind.Chains = record { spent = refl; cover = refl; sheets = refl }
kind-apart kind.Rank = record { spent = refl; cover = refl; sheets = refl }
kind-apart kind.RankLine = record { spent = refl; cover = refl; sheets = refl }
kind-apart kind.Classes = record { spent = refl; cover = refl; sheets = refl }
kind-apart kind.ClassLine = record { spent = refl; cover = refl; sheets = refl }
kind-apart kind.Products = record { spent = refl; cover = refl; sheets = refl }
kind-apart kind.ProductLine = record { spent = refl; cover = refl; sheets = refl }
kind-apart kind.Pairs = record { spent = refl; cover = refl; sheets = refl }
kind-apart kind.PairLine = record { spent = refl; cover = refl; sheets = refl }
kind-apart kind.Critical = record { spent = refl; cover = refl; sheets = refl }
kind-apart kind.Components = record { spent = refl; cover = refl; sheets = refl }
kind-apart kind.Columns = record { spent = refl; cover = refl; sheets = refl }
kind-apart kind.Covers = record { spent = refl; cover = refl; sheets = refl }
kind-apart kind.Done = record { spent = refl; cover = refl; sheets = refl }
kind-apart kind.End = record { spent = refl; cover = refl; sheets = refl }

pub kind-told : (v : ℕ) (line word : List ℕ) (ws : List (List ℕ)) (k : Kind) → words_of line ≡ word ∷ ws → kind_of_word word ≡ Some k → option_and_then (plain_stands v k) (shape_from stage.Numbers 0 ws) ≡ option_map kind_of (form_of v line)
kind-told v line word ws k e ek =
    let none : placed_of line ≡ None = ap placed_from e ∙ apart-none word ws (subst IsApart (sym (kind-is word k ek)) (kind-apart k)) in
    sym (ap (told v (plain_of line)) none
    ∙ (told-none v (plain_of line)
    ∙ (ap (option_and_then (in_version v)) (plain-read line word ws k e ek) ∙ onto v k (shape_from stage.Numbers 0 ws))))

-- ---- the three

abbrev placed_in : (version : ℕ) → Option Placed → Option LineKind
placed_in v o = option_map kind_of (option_and_then (if_stands v) (option_map placed o))

spotted : (v : ℕ) (o : Option SearchSpot) (make : SearchSpot → Placed) (k : LineKind) → ((x : SearchSpot) → (stands v (placed (make x)) ≡ (not (eqb v 1) || in_first x)) × (kind_of (placed (make x)) ≡ k))
    → cond (spot_in v o) (Some k) None ≡ placed_in v (option_and_then (λ x. Some (make x)) o)
spotted v None make k h = refl
spotted v (Some x) make k h =
    sym (ap (λ (t : Bool). option_map kind_of (cond t (Some (placed (make x))) None)) (h x).0
    ∙ (kept (not (eqb v 1) || in_first x) (placed (make x)) ∙ ap (λ (j : LineKind). cond (not (eqb v 1) || in_first x) (Some j) None) (h x).1))

spent-told : (v : ℕ) (ws : List (List ℕ)) → cond (spent_stands v ws) (Some line_kind.Spent) None ≡ placed_in v (placed_from (codes "spent" ∷ ws))
spent-told v [] = refl
spent-told v (s ∷ []) = spotted v (spot_or_start_of s) q.Spent line_kind.Spent (λ x. (refl, refl))
spent-told v (s ∷ t ∷ []) = refl
spent-told v (s ∷ t ∷ u ∷ []) = refl
spent-told v (s ∷ t ∷ u ∷ x ∷ ws) = refl

covered : (v : ℕ) (n : Option ℕ) (t : Option SheetRows) → cond (is_some n && is_some t) (Some line_kind.Cover) None ≡ placed_in v (option_and_then (λ m. option_and_then (λ rows. Some (q.Cover m rows)) t) n)
covered v None t = refl
covered v (Some n) None = refl
covered v (Some n) (Some rows) = refl

cover-told : (v : ℕ) (ws : List (List ℕ)) → cond (cover_stands ws) (Some line_kind.Cover) None ≡ placed_in v (placed_from (codes "cover" ∷ ws))
cover-told v [] = refl
cover-told v (n ∷ []) = refl
cover-told v (n ∷ t ∷ []) = covered v (number_of n) (table_of t)
cover-told v (n ∷ t ∷ u ∷ []) = refl
cover-told v (n ∷ t ∷ u ∷ x ∷ ws) = refl

started : (v : ℕ) (n : Option ℕ) (f : Bool) (s : Option SearchSpot) → cond (is_some n && f && spot_in v s) (Some line_kind.Sheets) None
    ≡ placed_in v (cond f (option_and_then (λ m. option_and_then (λ x. Some (q.Sheets m x)) s) n) None)
started v None true s = refl
started v None false s = refl
started v (Some n) false s = refl
started v (Some n) true s = spotted v s (q.Sheets n) line_kind.Sheets (λ x. (refl, refl))

sheets-told : (v : ℕ) (ws : List (List ℕ)) → cond (sheets_stands v ws) (Some line_kind.Sheets) None ≡ placed_in v (placed_from (codes "sheets" ∷ ws))
sheets-told v [] = refl
sheets-told v (n ∷ []) = refl
sheets-told v (n ∷ f ∷ []) = refl
sheets-told v (n ∷ f ∷ s ∷ []) = started v (number_of n) (bytes_eq f (codes "from")) (spot_or_start_of s)
sheets-told v (n ∷ f ∷ s ∷ x ∷ ws) = refl

placed-at : (v : ℕ) (w : List ℕ) (ws : List (List ℕ)) → placed_stands v w ws ≡ placed_in v (placed_from (w ∷ ws))
placed-at v w ws = at (bytes_eq w (codes "spent")) refl (bytes_eq w (codes "cover")) refl (bytes_eq w (codes "sheets")) refl
  where
    out : (a b c : Bool) → Option LineKind
    out a b c = cond a (cond (spent_stands v ws) (Some line_kind.Spent) None) (cond b (cond (cover_stands ws) (Some line_kind.Cover) None) (cond c (cond (sheets_stands v ws) (Some line_kind.Sheets) None) None))

    at : (a : Bool) → bytes_eq w (codes "spent") ≡ a → (b : Bool) → bytes_eq w (codes "cover") ≡ b → (c : Bool) → bytes_eq w (codes "sheets") ≡ c → out a b c ≡ placed_in v (placed_from (w ∷ ws))
    at true e b f c g = spent-told v ws ∙ ap (λ (x : List ℕ). placed_in v (placed_from (x ∷ ws))) (sym (bytes-same w (codes "spent") e))
    at false e true f c g = cover-told v ws ∙ ap (λ (x : List ℕ). placed_in v (placed_from (x ∷ ws))) (sym (bytes-same w (codes "cover") f))
    at false e false f true g = sheets-told v ws ∙ ap (λ (x : List ℕ). placed_in v (placed_from (x ∷ ws))) (sym (bytes-same w (codes "sheets") g))
    at false e false f false g = sym (ap (placed_in v) (apart-none w ws (record { spent = e; cover = f; sheets = g })))

pub placed-told : (v : ℕ) (line word : List ℕ) (ws : List (List ℕ)) → words_of line ≡ word ∷ ws → kind_of_word word ≡ None → placed_stands v word ws ≡ option_map kind_of (form_of v line)
placed-told v line word ws e ek =
    let none : plain_of line ≡ None =
    ap (λ (vs : List (List ℕ)). option_and_then form_in (parts_from vs)) e
    ∙ ap (λ (o : Option Kind). option_and_then form_in (option_and_then (λ k. option_and_then (λ ts. option_and_then (with k) (rest_of ts)) (tokens_of ws)) o)) ek in
    placed-at v word ws
    ∙ (ap (λ (vs : List (List ℕ)). placed_in v (placed_from vs)) (sym e)
    ∙ sym (ap (λ (o : Option Plain). told v o (placed_of line)) none))
