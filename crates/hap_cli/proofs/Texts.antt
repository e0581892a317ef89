-- The texts of lists, element by element, and the parts of the lines of groups.
use Rattle.std.proofs.Common.{◌≡◌, ◌≤◌, ◌<◌, ◌+◌, ◌-◌, ◌++◌, ◌∷◌, [], ℕ, zero, suc, Option, Result, Ok, List, codes, length, take, drop, get_or, refl, sym, ◌∙◌, ap, subst, arith, append_assoc}
use Rattle.std.specs.Prelude.{ℤ}
use Rattle.std.specs.Fmt.{signed_decimal}
use Rattle.std.specs.List.{flat_map}
use Rattle.std.proofs.lemmas.List.{append-nil, take-append-drop, drop_more, take_more, take_all}
use Rattle.std.proofs.lemmas.List.Concat.{flat_map-append}
use Rattle.hap_outside.specs.Gathers.{Gathers}
use Rattle.part_groups.specs.Groups.{Generated}
use Rattle.hap_cli.specs.GroupTexts.{word_text, later_letters, numbered_text, group_lines, component_lines, groups_text}

-- a text by another name
pub gathers_as : {T E : Type 0} (a b : Option (List ℕ)) (before after text whole : List ℕ) (r : Result T E) → text ≡ whole → Gathers a b before after text r → Gathers a b before after whole r
gathers_as a b before after text whole r e g = subst (λ (t : List ℕ). Gathers a b before after t r) e g

-- a text that was gathered by a call which answers something else
pub gathers_done : {T E : Type 0} (a b : Option (List ℕ)) (before after text : List ℕ) (u : Unit {0}) (x : T)
    → Gathers {T = Unit {0}} {E = E} a b before after text (Ok u) → Gathers {T = T} {E = E} a b before after text (Ok x)
gathers_done a b before after text u x g = record { handed = g.handed; rest = g.rest; all = g.all; bytes = g.bytes; kept = g.kept; lost = g.lost }

-- ---- each element has a text

-- the text of the elements up to an index, and of one more
pub flat-more : {A : Type 0} (f : A → List ℕ) (xs : List A) (i : ℕ) (x d : A) → i < length xs → x ≡ get_or xs i d → flat_map f (take i xs) ++ f x ≡ flat_map f (take (i + 1) xs)
flat-more f xs i x d l e =
    ap (λ y. flat_map f (take i xs) ++ f y) e
    ∙ sym (ap (flat_map f) (take_more xs i d l) ∙ (flat_map-append f (take i xs) (get_or xs i d ∷ []) ∙ ap (λ (ys : List ℕ). flat_map f (take i xs) ++ ys) (append-nil (f (get_or xs i d)))))

-- the elements before one, that one, and those after it
pub flat-split : {A : Type 0} (f : A → List ℕ) (xs : List A) (i : ℕ) (x d : A) → i < length xs → x ≡ get_or xs i d → flat_map f (take i xs) ++ f x ++ flat_map f (drop (i + 1) xs) ≡ flat_map f xs
flat-split f xs i x d l e =
    ap (λ y. flat_map f (take i xs) ++ f y ++ flat_map f (drop (i + 1) xs)) e
    ∙ (append_assoc (flat_map f (take i xs)) (f (get_or xs i d)) (flat_map f (drop (i + 1) xs))
    ∙ (sym (flat_map-append f (take i xs) (get_or xs i d ∷ drop (i + 1) xs))
    ∙ ap (flat_map f) (ap (λ ys. take i xs ++ ys) (sym (drop_more xs i d l)) ∙ take-append-drop i xs)))

-- ---- each element has a text with its number

numbered-append : {A : Type 0} (line : ℕ → A → List ℕ) (n : ℕ) (xs ys : List A) → numbered_text line n (xs ++ ys) ≡ numbered_text line n xs ++ numbered_text line (n + length xs) ys
numbered-append line n [] ys = ap (λ (m : ℕ). numbered_text line m ys) (let e : n ≡ n + 0 = omega arith in e)
numbered-append line n (x ∷ xs) ys =
    ap (λ (t : List ℕ). line n x ++ t) (numbered-append line (n + 1) xs ys ∙ ap (λ (m : ℕ). numbered_text line (n + 1) xs ++ numbered_text line m ys) (let e : n + 1 + length xs ≡ n + length (x ∷ xs) = omega arith in e))
    ∙ sym (append_assoc (line n x) (numbered_text line (n + 1) xs) (numbered_text line (n + length (x ∷ xs)) ys))

length-front : {A : Type 0} (xs : List A) (i : ℕ) → i < length xs → length (take i xs) ≡ i
length-front [] i l = absurd (omega arith)
length-front (x ∷ xs) zero l = refl
length-front (x ∷ xs) (suc i) l = ap suc (length-front xs i (omega arith))

-- numbered from 1 on
numbered-at : {A : Type 0} (line : ℕ → A → List ℕ) (xs : List A) (i : ℕ) (ys : List A) → i < length xs → numbered_text line 1 (take i xs ++ ys) ≡ numbered_text line 1 (take i xs) ++ numbered_text line (i + 1) ys
numbered-at line xs i ys l =
    numbered-append line 1 (take i xs) ys
    ∙ ap (λ (m : ℕ). numbered_text line 1 (take i xs) ++ numbered_text line m ys) (let e : 1 + length (take i xs) ≡ i + 1 = omega (arith, length-front xs i l) in e)

pub numbered-more : {A : Type 0} (line : ℕ → A → List ℕ) (xs : List A) (i : ℕ) (x d : A) → i < length xs → x ≡ get_or xs i d
    → numbered_text line 1 (take i xs) ++ line (i + 1) x ≡ numbered_text line 1 (take (i + 1) xs)
numbered-more line xs i x d l e =
    ap (λ y. numbered_text line 1 (take i xs) ++ line (i + 1) y) e
    ∙ sym (ap (numbered_text line 1) (take_more xs i d l)
    ∙ (numbered-at line xs i (get_or xs i d ∷ []) l ∙ ap (λ (ys : List ℕ). numbered_text line 1 (take i xs) ++ ys) (append-nil (line (i + 1) (get_or xs i d)))))

pub numbered-split : {A : Type 0} (line : ℕ → A → List ℕ) (xs : List A) (i : ℕ) (x d : A) → i < length xs → x ≡ get_or xs i d
    → numbered_text line 1 (take i xs) ++ line (i + 1) x ++ numbered_text line (i + 1 + 1) (drop (i + 1) xs) ≡ numbered_text line 1 xs
numbered-split line xs i x d l e =
    ap (λ y. numbered_text line 1 (take i xs) ++ line (i + 1) y ++ numbered_text line (i + 1 + 1) (drop (i + 1) xs)) e
    ∙ (append_assoc (numbered_text line 1 (take i xs)) (line (i + 1) (get_or xs i d)) (numbered_text line (i + 1 + 1) (drop (i + 1) xs))
    ∙ (sym (numbered-at line xs i (get_or xs i d ∷ drop (i + 1) xs) l)
    ∙ ap (numbered_text line 1) (ap (λ ys. take i xs ++ ys) (sym (drop_more xs i d l)) ∙ take-append-drop i xs)))

-- ---- groups

-- one group, and another number of them
pub one-group : (gs : List Generated) (g d : Generated) → length gs ≡ 1 → g ≡ get_or gs 0 d → group_lines g ≡ groups_text gs
one-group [] g d e h = absurd (omega arith)
one-group (x ∷ []) g d e h = ap group_lines h
one-group (x ∷ y ∷ gs) g d e h = absurd (omega arith)

pub many-groups : (gs : List Generated) → (length gs ≡ 1 → ⊥) → numbered_text component_lines 1 gs ≡ groups_text gs
many-groups [] n = refl
many-groups (x ∷ []) n = absurd (n refl)
many-groups (x ∷ y ∷ gs) n = refl

-- a word with a letter
pub word-parts : (word : List ℤ) (d : ℤ) → 1 ≤ length word → signed_decimal (get_or word 0 d) ++ later_letters (take (length word - 1) (drop 1 word)) ≡ word_text word
word-parts [] d some = absurd (omega arith)
word-parts (a ∷ word) d some = ap (λ (ys : List ℤ). signed_decimal a ++ later_letters ys) (take_all (length (a ∷ word) - 1) word (omega arith))

pub word-none : (word : List ℤ) → length word ≡ 0 → codes "-" ≡ word_text word
word-none [] e = refl
word-none (a ∷ word) e = absurd (omega arith)
