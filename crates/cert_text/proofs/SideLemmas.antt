-- Lines of two sparse lists.
use Rattle.std.proofs.Common.{◌≡◌, ◌≤◌, ◌+◌, ◌++◌, ◌∷◌, [], ℕ, Bool, true, false, cond, ◌&&◌, Option, Some, None, List, length, refl, sym, ◌∙◌, ap, arith, Ok, Err}
use Rattle.std.specs.Prelude.{slice_set}
use Rattle.std.proofs.lemmas.Bool.{false≢true}
use Rattle.std.proofs.lemmas.Option.{same_Some}
use Rattle.std.proofs.lemmas.List.{get_or-set_same, set-set, set-get_or, length-set}
use Rattle.certificates.specs.declared.kind.Kind.{Kind}
use Rattle.certificates.specs.declared.kind.Kind.TheVariants as kind
use Rattle.certificates.specs.declared.lines.Line.{Line}
use Rattle.certificates.specs.Degrees.{at}
use Rattle.certificates.specs.Parts.{Sparse}
use Rattle.certificates.specs.Plain as p
use Rattle.certificates.specs.Plain.{Plain, parts}
use Rattle.certificates.specs.Forms.{Form, plain, placed}
use Rattle.certificates.specs.WellFormed.{are_entries}
use Rattle.cert_lines.specs.declared.kind.LineKind.TheVariants as line_kind
use Rattle.cert_lines.specs.Listed.{list_in, list_behind, if_entries}
use Rattle.cert_lines.proofs.CallerLemmas.{lists-told}
use Rattle.cert_lines.specs.declared.fault.CertFault.{CertFault}
use Rattle.cert_lines.specs.declared.fault.CertFault.TheVariants.{OutOfRange}
use Rattle.cert_lines.specs.Readers.{Left, Answer, and_then, in_range}
use Rattle.cert_text.specs.Picks.{pick_rank, pick_rank_line, pick_classes, pick_class_line}
use Rattle.cert_text.specs.Reading.{chains_at, read_sides, read_block, read_rank, read_class}
use Rattle.cert_lines.specs.Taken.{IsTaken, IsRefused}
use Rattle.cert_text.specs.Taking.{pair_if, lists_if, has_lists}
use Rattle.cert_lines.proofs.CallerLemmas.{if_kind, plain-of, of-kind, no-kind, taken-is, refused-is}

-- ---- the lists of a line

abbrev lists : Plain → Option (Sparse × Sparse)
lists f = (parts f).rest.lists

same_lists : (k : Kind) (f : Form) → if_kind lists k f ≡ lists_if k f
same_lists k (plain f) = refl
same_lists k (placed f) = refl

listed : (f : Plain) (k : Kind) → has_lists k ≡ true → (parts f).kind ≡ k → ((parts f).rest.numbers ≡ []) × ((s : Sparse × Sparse) × (lists f ≡ Some s))
listed (p.RankLine l r) k h e = (refl, ((l, r), refl))
listed (p.ClassLine l r) k h e = (refl, ((l, r), refl))
listed f k h e = absurd (false≢true (ap has_lists e ∙ h))

abbrev pub sides_in : (line : List ℕ) → Sparse × Sparse
sides_in line = (list_in line 0, list_behind line)

lists-taken : (v : ℕ) (l m : Left) (k : Kind) (line : List ℕ) → has_lists k ≡ true → (t : IsTaken v l (line_kind.Plain k) m line) → lists_if k t.form ≡ Some (sides_in line)
lists-taken v l m k line h t =
    let q = plain-of k t.form t.kind in
    let s = listed q.0 k h q.2 in
    let told = lists-told v line q.0 s.1.0 (t.of ∙ ap (λ (f : Form). Some f) q.1) s.1.1 in
    let first : list_in line 0 ≡ s.1.0.0 = ap (λ (ns : List ℕ). list_in line (length ns)) (sym s.0) ∙ told.0 in
    ap (lists_if k) q.1 ∙ (sym (same_lists k (plain q.0)) ∙ (of-kind lists k q.0 q.2 ∙ (s.1.1 ∙ ap (λ (x : Sparse × Sparse). Some x) (λ i. (sym first i, sym told.1 i)))))

-- ---- a line

abbrev fit : (m low high : ℕ) → Sparse × Sparse → Bool
fit m low high s = are_entries m low s.0 && are_entries m high s.1

abbrev sides_of : (n : ℕ) → Answer (Sparse × Sparse) → Answer Line
sides_of n r = and_then r (λ a. Ok (record { number = n; left = a.0.0; right = a.0.1 }, a.1))

sides-at : (v : ℕ) (k : Kind) (m low high : ℕ) (l o : Left) (line : List ℕ) → has_lists k ≡ true → IsTaken v l (line_kind.Plain k) o line
    → read_sides v (lists_if k) m low high l ≡ sides_of l.number (in_range l.number (sides_in line) o (fit m low high (sides_in line)))
sides-at v k m low high l o line h t = ap (sides_of l.number) (taken-is v l o (line_kind.Plain k) line (lists_if k) (fit m low high) (sides_in line) t (lists-taken v l o k line h t))

pub sides-refused : (v : ℕ) (k : Kind) (m low high : ℕ) (l : Left) (f : CertFault) → IsRefused v l (line_kind.Plain k) f → read_sides v (lists_if k) m low high l ≡ Err f
sides-refused v k m low high l f r =
    ap (sides_of l.number) (refused-is v l (line_kind.Plain k) f (lists_if k) (fit m low high) (λ g h. sym (same_lists k g) ∙ no-kind lists k g h) r)

pub entries-none : (m most : ℕ) (es : Sparse) → None ≡ if_entries m most es → are_entries m most es ≡ false
entries-none m most es h = at (are_entries m most es) h
  where
    at : (t : Bool) → None ≡ cond t (Some es) None → t ≡ false
    at true h = cc
    at false h = refl

pub entries-some : (m most : ℕ) (es xs : Sparse) → Some xs ≡ if_entries m most es → (are_entries m most es ≡ true) × (es ≡ xs)
entries-some m most es xs h = at (are_entries m most es) h
  where
    at : (t : Bool) → Some xs ≡ cond t (Some es) None → (t ≡ true) × (es ≡ xs)
    at true h = (refl, sym (same_Some xs es h))
    at false h = cc

pub left-out : (v : ℕ) (k : Kind) (m low high : ℕ) (l o : Left) (line : List ℕ) → has_lists k ≡ true → IsTaken v l (line_kind.Plain k) o line → None ≡ if_entries m low (list_in line 0)
    → read_sides v (lists_if k) m low high l ≡ Err (OutOfRange l.number)
left-out v k m low high l o line h t e =
    sides-at v k m low high l o line h t
    ∙ ap (λ (b : Bool). sides_of l.number (in_range l.number (sides_in line) o (b && are_entries m high (list_behind line)))) (entries-none m low (list_in line 0) e)

pub right-out : (v : ℕ) (k : Kind) (m low high : ℕ) (l o : Left) (line : List ℕ) (left : Sparse) → has_lists k ≡ true → IsTaken v l (line_kind.Plain k) o line → Some left ≡ if_entries m low (list_in line 0) → None ≡ if_entries m high (list_behind line)
    → read_sides v (lists_if k) m low high l ≡ Err (OutOfRange l.number)
right-out v k m low high l o line left h t e g =
    sides-at v k m low high l o line h t
    ∙ (ap (λ (b : Bool). sides_of l.number (in_range l.number (sides_in line) o (b && are_entries m high (list_behind line)))) (entries-some m low (list_in line 0) left e).0
    ∙ ap (λ (b : Bool). sides_of l.number (in_range l.number (sides_in line) o b)) (entries-none m high (list_behind line) g))

pub both-in : (v : ℕ) (k : Kind) (m low high : ℕ) (l o : Left) (line : List ℕ) (left right : Sparse) (n : ℕ) → has_lists k ≡ true → IsTaken v l (line_kind.Plain k) o line → Some left ≡ if_entries m low (list_in line 0) → Some right ≡ if_entries m high (list_behind line)
    → l.number ≡ n → read_sides v (lists_if k) m low high l ≡ Ok (record { number = n; left = left; right = right }, o)
both-in v k m low high l o line left right n h t e g s =
    let a = entries-some m low (list_in line 0) left e in
    let b = entries-some m high (list_behind line) right g in
    sides-at v k m low high l o line h t
    ∙ (ap (λ (t : Bool). sides_of l.number (in_range l.number (sides_in line) o (t && are_entries m high (list_behind line)))) a.0
    ∙ (ap (λ (t : Bool). sides_of l.number (in_range l.number (sides_in line) o t)) b.0
    ∙ (λ i. Ok (record { number = s i; left = a.1 i; right = b.1 i }, o))))

-- ---- lists by degree

pub record IsPut (b0 b : List (List Line)) (degree : ℕ) (xs : List Line) : Type 0 where
  pub list : at b degree ≡ xs
  pub lists : b ≡ slice_set b0 degree (at b degree)

pub list-more : (b0 b c : List (List Line)) (degree : ℕ) (line : Line) → length b0 ≡ 4 → degree ≤ 3 → b ≡ slice_set b0 degree (at b degree) → c ≡ slice_set b degree (at b degree ++ line ∷ [])
    → IsPut b0 c degree (at b degree ++ line ∷ [])
list-more b0 b c degree line four high e f =
    let ys : List Line = at b degree ++ line ∷ [] in
    let long : length b ≡ 4 = ap length e ∙ (length-set b0 degree (at b degree) ∙ four) in
    let top : at c degree ≡ ys = ap (λ x. at x degree) f ∙ get_or-set_same b degree ys [] (omega (arith, high, long)) in
    record { list = top; lists = f ∙ (ap (λ x. slice_set x degree ys) e ∙ (set-set b0 degree (at b degree) ys ∙ ap (slice_set b0 degree) (sym top))) }

pub list-begun : (b : List (List Line)) (degree : ℕ) → b ≡ slice_set b degree (at b degree)
list-begun b degree = sym (set-get_or b degree [])

-- ---- the kinds of the two lists

rank_head : pick_rank ≡ pair_if kind.Rank
rank_head = λ i f. at f i
  where
    at : (f : Form) → pick_rank f ≡ pair_if kind.Rank f
    at (plain (p.Rank k r)) = refl
    at f = refl

rank_each : pick_rank_line ≡ lists_if kind.RankLine
rank_each = λ i f. at f i
  where
    at : (f : Form) → pick_rank_line f ≡ lists_if kind.RankLine f
    at (plain (p.RankLine l r)) = refl
    at f = refl

class_head : pick_classes ≡ pair_if kind.Classes
class_head = λ i f. at f i
  where
    at : (f : Form) → pick_classes f ≡ pair_if kind.Classes f
    at (plain (p.Classes k b)) = refl
    at f = refl

class_each : pick_class_line ≡ lists_if kind.ClassLine
class_each = λ i f. at f i
  where
    at : (f : Form) → pick_class_line f ≡ lists_if kind.ClassLine f
    at (plain (p.ClassLine l r)) = refl
    at f = refl

pub rank-read : (v m : ℕ) (chains : List ℕ) (degree : ℕ) (l : Left) → read_rank v m chains degree l ≡ read_block v (pair_if kind.Rank) (lists_if kind.RankLine) m degree (chains_at chains degree) (chains_at chains (degree + 1)) l
rank-read v m chains degree l = λ i. read_block v (rank_head i) (rank_each i) m degree (chains_at chains degree) (chains_at chains (degree + 1)) l

pub class-read : (v m : ℕ) (chains : List ℕ) (degree : ℕ) (l : Left) → read_class v m chains degree l ≡ read_block v (pair_if kind.Classes) (lists_if kind.ClassLine) m degree (chains_at chains degree) (chains_at chains degree) l
class-read v m chains degree l = λ i. read_block v (class_head i) (class_each i) m degree (chains_at chains degree) (chains_at chains degree) l

-- ---- all degrees

abbrev pub empty : List (List Line)
empty = [] ∷ [] ∷ [] ∷ [] ∷ []

pub ranks-whole : (a b c : List (List Line)) → a ≡ slice_set empty 0 (at a 0) → b ≡ slice_set a 1 (at b 1) → c ≡ slice_set b 2 (at c 2) → at a 0 ∷ at b 1 ∷ at c 2 ∷ [] ∷ [] ≡ c
ranks-whole a b c e f g = sym (g ∙ ap (λ x. slice_set x 2 (at c 2)) (f ∙ ap (λ x. slice_set x 1 (at b 1)) e))

pub classes-whole : (a b c d : List (List Line)) → a ≡ slice_set empty 0 (at a 0) → b ≡ slice_set a 1 (at b 1) → c ≡ slice_set b 2 (at c 2) → d ≡ slice_set c 3 (at d 3) → at a 0 ∷ at b 1 ∷ at c 2 ∷ at d 3 ∷ [] ≡ d
classes-whole a b c d e f g h = sym (h ∙ ap (λ x. slice_set x 3 (at d 3)) (g ∙ ap (λ x. slice_set x 2 (at c 2)) (f ∙ ap (λ x. slice_set x 1 (at b 1)) e)))
