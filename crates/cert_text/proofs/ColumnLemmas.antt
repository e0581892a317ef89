-- Critical cells, and the columns of components.
use Rattle.std.proofs.Common.{◌≡◌, ◌≤◌, ◌<◌, ◌+◌, ◌-◌, ◌++◌, ◌∷◌, [], ℕ, suc, Bool, true, false, cond, not, ◌&&◌, ◌||◌, eqb, leb, Some, None, List, length, take, get_or, refl, sym, ◌∙◌, ap, arith, Ok, Err}
use Rattle.std.specs.Prelude.{slice_index_or}
use Rattle.std.proofs.lemmas.Option.{same_Some}
use Rattle.std.proofs.lemmas.List.{take_more}
use Rattle.face_poset.specs.Poset.{Layers}
use Rattle.certificates.specs.declared.kind.Kind.{Kind}
use Rattle.certificates.specs.declared.kind.Kind.TheVariants as kind
use Rattle.certificates.specs.declared.lines.PairLine.{PairLine}
use Rattle.certificates.specs.Plain as p
use Rattle.certificates.specs.Plain.{parts}
use Rattle.certificates.specs.Forms.{Form, plain, placed}
use Rattle.certificates.specs.WellFormed.{paired}
use Rattle.cert_lines.specs.declared.fault.CertFault.{CertFault}
use Rattle.cert_lines.specs.declared.fault.CertFault.TheVariants.{OutOfRange}
use Rattle.cert_lines.specs.Readers.{Left, Answer, and_then, take_line}
use Rattle.cert_text.specs.Picks.{pick_critical, pick_components, pick_columns}
use Rattle.cert_text.specs.Reading.{all_critical, read_critical, columns_from, read_columns}
use Rattle.cert_lines.specs.Taken.{numbers_if, same_kind, four_of, any}
use Rattle.cert_text.specs.Taking.{onto, column_at}
use Rattle.cert_text.proofs.Equivalents.{same_Ok, take-is}
use Rattle.cert_text.proofs.Loops.{onto-cons, onto-over}
use Rattle.cert_text.proofs.SpaceReaders.{four-is}
use Rattle.cert_text.proofs.TakingLemmas.{IsPick, fits-line, unfit-line, fails-line}

-- ---- cells in pairs

paired-append : (dim : ℕ) (xs ys : List PairLine) → paired dim (xs ++ ys) ≡ paired dim xs + paired dim ys
paired-append dim [] ys = let e : paired dim ys ≡ 0 + paired dim ys = omega arith in e
paired-append dim (x ∷ xs) ys =
    let one : ℕ = cond (eqb x.pair.dim dim || eqb (x.pair.dim + 1) dim) 1 0 in
    ap (λ (n : ℕ). one + n) (paired-append dim xs ys) ∙ (let e : one + (paired dim xs + paired dim ys) ≡ one + paired dim xs + paired dim ys = omega arith in e)

pub paired-more : (dim : ℕ) (xs : List PairLine) (i : ℕ) (x : PairLine) → i < length xs → x ≡ get_or xs i x → paired dim (take i xs) + paired dim (x ∷ []) ≡ paired dim (take (i + 1) xs)
paired-more dim xs i x l e =
    sym (ap (paired dim) (take_more xs i x l) ∙ (paired-append dim (take i xs) (get_or xs i x ∷ []) ∙ ap (λ (y : PairLine). paired dim (take i xs) + paired dim (y ∷ [])) (sym e)))

one_or_none : (t : Bool) (n : ℕ) → cond t 1 0 + n ≤ n + 1
one_or_none true n = omega arith
one_or_none false n = omega arith

pub paired-one : (dim : ℕ) (x : PairLine) → paired dim (x ∷ []) ≤ 1
paired-one dim x = omega (arith, one_or_none (eqb x.pair.dim dim || eqb (x.pair.dim + 1) dim) 0)

-- ---- the line `critical`

critical-pick : IsPick kind.Critical pick_critical (λ ns. ns)
critical-pick (plain (p.Critical a b c d)) = refl
critical-pick f = refl

abbrev numbered : (n : ℕ) → Answer (List ℕ) → Answer (ℕ × List ℕ)
numbered n r = and_then r (λ a. Ok ((n, a.0), a.1))

four-of : (k : Kind) (f : Form) (ns : List ℕ) → numbers_if k f ≡ Some ns → length ns ≡ 4
four-of k (placed f) ns h = cc
four-of k (plain f) ns h = at (same_kind k (parts f).kind) h
  where
    at : (t : Bool) → cond t (Some (four_of (parts f).rest.numbers)) None ≡ Some ns → length ns ≡ 4
    at true h = sym (ap length (same_Some (four_of (parts f).rest.numbers) ns h))
    at false h = cc

four-numbers : (v : ℕ) (l m : Left) (k : Kind) (ns : List ℕ) → take_line v (numbers_if k) any l ≡ Ok (ns, m) → length ns ≡ 4
four-numbers v l m k ns h = let t = take-is v (numbers_if k) any l m ns h in four-of k t.0 ns t.1

pub critical-fails : (v : ℕ) (space : Layers) (pairs : List PairLine) (l : Left) (f : CertFault) → take_line v (numbers_if kind.Critical) any l ≡ Err f → read_critical v space pairs l ≡ Err f
critical-fails v space pairs l f h = ap (numbered l.number) (fails-line v l kind.Critical f pick_critical (λ ns. ns) (all_critical space pairs) critical-pick h)

pub critical-out : (v : ℕ) (space : Layers) (pairs : List PairLine) (l m : Left) (ns : List ℕ) → take_line v (numbers_if kind.Critical) any l ≡ Ok (ns, m) → all_critical space pairs ns ≡ false
    → read_critical v space pairs l ≡ Err (OutOfRange l.number)
critical-out v space pairs l m ns h e = ap (numbered l.number) (unfit-line v l m kind.Critical ns pick_critical (λ ns. ns) (all_critical space pairs) critical-pick e h)

pub critical-in : (v : ℕ) (space : Layers) (pairs : List PairLine) (l m : Left) (ns : List ℕ) (n : ℕ) → take_line v (numbers_if kind.Critical) any l ≡ Ok (ns, m) → all_critical space pairs ns ≡ true → l.number ≡ n
    → read_critical v space pairs l ≡ Ok ((n, slice_index_or ns 0 0 ∷ slice_index_or ns 1 0 ∷ slice_index_or ns 2 0 ∷ slice_index_or ns 3 0 ∷ []), m)
critical-in v space pairs l m ns n h e s =
    ap (numbered l.number) (fits-line v l m kind.Critical ns pick_critical (λ ns. ns) (all_critical space pairs) critical-pick e h)
    ∙ (ap (λ (k : ℕ). Ok ((k, ns), m)) s ∙ ap (λ (xs : List ℕ). Ok ((n, xs), m)) (sym (four-is ns (four-numbers v l m kind.Critical ns h))))

-- ---- the line `components`

pub components-pick : IsPick kind.Components pick_components (λ ns. slice_index_or ns 0 0)
components-pick (plain (p.Components k)) = refl
components-pick f = refl

abbrev pub counted : (components : ℕ) → ℕ → Bool
counted components n = eqb n components && leb 1 n

abbrev pub listed : (v edges : ℕ) → Answer ℕ → Answer (List ℕ)
listed v edges r = and_then r (λ a. columns_from v 1 a.0 edges a.1)

pub more-columns : (v : ℕ) (critical : List ℕ) (l : Left) → eqb v 1 ≡ false → read_columns v critical l ≡ listed v (slice_index_or critical 1 0) (take_line v pick_components (counted (slice_index_or critical 0 0)) l)
more-columns v critical l e =
    ap (λ (t : Bool). cond t (Ok (slice_index_or critical 1 0 ∷ [], l)) (listed v (slice_index_or critical 1 0) (take_line v pick_components (counted (slice_index_or critical 0 0)) l))) e

-- ---- the columns of a component

abbrev pair : List ℕ → ℕ × ℕ
pair ns = (slice_index_or ns 0 0, slice_index_or ns 1 0)

columns-pick : IsPick {A = ℕ × ℕ} kind.Columns pick_columns (λ ns. (slice_index_or ns 0 0, slice_index_or ns 1 0))
columns-pick (plain (p.Columns i c)) = refl
columns-pick f = refl

abbrev column_test : (i later columns : ℕ) → ℕ × ℕ → Bool
column_test i later columns s = eqb s.0 i && leb s.1 columns && (not (eqb later 0) || eqb s.1 columns)

abbrev second : Answer (ℕ × ℕ) → Answer ℕ
second r = and_then r (λ a. Ok (a.0.1, a.1))

pub column-fails : (v i later columns : ℕ) (l : Left) (f : CertFault) → take_line v (numbers_if kind.Columns) any l ≡ Err f → column_at v i later columns l ≡ Err f
column-fails v i later columns l f h = ap second (fails-line {A = ℕ × ℕ} v l kind.Columns f pick_columns (λ ns. pair ns) (column_test i later columns) columns-pick h)

pub column-out : (v i later columns : ℕ) (l m : Left) (ns : List ℕ) → take_line v (numbers_if kind.Columns) any l ≡ Ok (ns, m)
    → (eqb (slice_index_or ns 0 0) i && leb (slice_index_or ns 1 0) columns && (not (eqb later 0) || eqb (slice_index_or ns 1 0) columns)) ≡ false → column_at v i later columns l ≡ Err (OutOfRange l.number)
column-out v i later columns l m ns h e = ap second (unfit-line {A = ℕ × ℕ} v l m kind.Columns ns pick_columns (λ ns. pair ns) (column_test i later columns) columns-pick e h)

pub column-in : (v i later columns : ℕ) (l m : Left) (ns : List ℕ) → take_line v (numbers_if kind.Columns) any l ≡ Ok (ns, m)
    → (eqb (slice_index_or ns 0 0) i && leb (slice_index_or ns 1 0) columns && (not (eqb later 0) || eqb (slice_index_or ns 1 0) columns)) ≡ true → column_at v i later columns l ≡ Ok (slice_index_or ns 1 0, m)
column-in v i later columns l m ns h e = ap second (fits-line {A = ℕ × ℕ} v l m kind.Columns ns pick_columns (λ ns. pair ns) (column_test i later columns) columns-pick e h)

-- ---- component after component

abbrev put_column : ℕ → Answer (List ℕ) → Answer (List ℕ)
put_column c r = and_then r (λ b. Ok (c ∷ b.0, b.1))

columns-next : (v i n columns : ℕ) (l m : Left) (c : ℕ) → column_at v i n columns l ≡ Ok (c, m) → columns_from v i (suc n) columns l ≡ put_column c (columns_from v (i + 1) n (columns - c) m)
columns-next v i n columns l m c h = at (take_line v pick_columns (column_test i n columns) l) h
  where
    at : (r : Answer (ℕ × ℕ)) → second r ≡ Ok (c, m)
        → and_then r (λ a. put_column a.0.1 (columns_from v (i + 1) n (columns - a.0.1) a.1)) ≡ put_column c (columns_from v (i + 1) n (columns - c) m)
    at (Err f) h = cc
    at (Ok a) h = ap (λ (q : ℕ × Left). put_column q.0 (columns_from v (i + 1) n (columns - q.0) q.1)) (same_Ok (a.0.1, a.1) (c, m) h)

columns-stop : (v i n columns : ℕ) (l : Left) (f : CertFault) → column_at v i n columns l ≡ Err f → columns_from v i (suc n) columns l ≡ Err f
columns-stop v i n columns l f h = at (take_line v pick_columns (column_test i n columns) l) h
  where
    at : (r : Answer (ℕ × ℕ)) → second r ≡ Err f → and_then r (λ a. put_column a.0.1 (columns_from v (i + 1) n (columns - a.0.1) a.1)) ≡ Err f
    at (Err g) h = ap (λ (f : CertFault). Err f) (let e : g ≡ f = cc in e)
    at (Ok a) h = cc

count-left : (done count : ℕ) → done < count → count - done ≡ suc (count - done - 1)
count-left done count l = omega (arith, l)

pub columns-more : (v done count columns : ℕ) (xs : List ℕ) (l m : Left) (c : ℕ) → done < count → column_at v (done + 1) (count - done - 1) columns l ≡ Ok (c, m)
    → onto xs (columns_from v (done + 1) (count - done) columns l) ≡ onto (xs ++ c ∷ []) (columns_from v (done + 1 + 1) (count - (done + 1)) (columns - c) m)
columns-more v done count columns xs l m c h e =
    ap (λ (n : ℕ). onto xs (columns_from v (done + 1) n columns l)) (count-left done count h)
    ∙ (ap (onto xs) (columns-next v (done + 1) (count - done - 1) columns l m c e)
    ∙ (onto-cons xs c (columns_from v (done + 1 + 1) (count - done - 1) (columns - c) m)
    ∙ ap (λ (n : ℕ). onto (xs ++ c ∷ []) (columns_from v (done + 1 + 1) n (columns - c) m)) (let s : count - done - 1 ≡ count - (done + 1) = omega arith in s)))

pub columns-broken : (v done count columns : ℕ) (xs : List ℕ) (l : Left) (f : CertFault) → done < count → column_at v (done + 1) (count - done - 1) columns l ≡ Err f
    → onto xs (columns_from v (done + 1) (count - done) columns l) ≡ Err f
columns-broken v done count columns xs l f h e =
    ap (λ (n : ℕ). onto xs (columns_from v (done + 1) n columns l)) (count-left done count h) ∙ ap (onto xs) (columns-stop v (done + 1) (count - done - 1) columns l f e)

pub columns-over : (v done count columns : ℕ) (xs : List ℕ) (l : Left) → count - done ≡ 0 → onto xs (columns_from v (done + 1) (count - done) columns l) ≡ Ok (xs, l)
columns-over v done count columns xs l e = ap (λ (n : ℕ). onto xs (columns_from v (done + 1) n columns l)) e ∙ onto-over xs l
