-- Lines that are passed in reading: what stands there, and what is left behind them.
use Rattle.std.proofs.Common.{◌≡◌, ◌≤◌, ◌+◌, ◌++◌, ◌∷◌, [], ℕ, Bool, true, false, ◌&&◌, eqb, Some, None, List, map, length, refl, sym, ◌∙◌, ap, arith, append_assoc}
use Rattle.std.specs.List.{AllByRecursion}
use Rattle.std.proofs.lemmas.List.{map-append, length-append}
use Rattle.certificates.specs.Forms.{line_text, IsForm}
use Rattle.certificates.specs.Texts.{Stated}
use Rattle.certificates.specs.WellFormed.{are_numbered}
use Rattle.cert_lines.specs.Readers.{Left}

abbrev pub stated_text : Stated → List ℕ
stated_text s = line_text s.1

abbrev pub AreForms : ℕ → List Stated → Type 0
AreForms v ls = AllByRecursion (λ s. IsForm v s.1) ls

-- from l on these lines stand, with the numbers that are given, and m is left behind them
pub record Passed (v : ℕ) (l : Left) (ls : List Stated) (m : Left) : Type 0 where
  pub pieces : l.pieces ≡ map stated_text ls ++ m.pieces
  pub number : m.number ≡ l.number + length ls
  pub numbered : are_numbered l.number ls ≡ true
  pub forms : AreForms v ls
  pub more : 1 ≤ length m.pieces

pub nothing-passed : (v : ℕ) (l : Left) → 1 ≤ length l.pieces → Passed v l [] l
nothing-passed v l more = record { pieces = refl; number = (let e : l.number ≡ l.number + 0 = omega arith in e); numbered = refl; forms = tt; more = more }

pub and-parts : (a b : Bool) → (a && b) ≡ true → (a ≡ true) × (b ≡ true)
and-parts true b h = (refl, h)
and-parts false b h = cc

pub and-both : (a b : Bool) → a ≡ true → b ≡ true → (a && b) ≡ true
and-both a b p q = cc

forms-append : (v : ℕ) (ls ms : List Stated) → AreForms v ls → AreForms v ms → AreForms v (ls ++ ms)
forms-append v [] ms a b = b
forms-append v (s ∷ ls) ms a b = (a.0, forms-append v ls ms a.1 b)

forms-split : (v : ℕ) (ls ms : List Stated) → AreForms v (ls ++ ms) → AreForms v ls × AreForms v ms
forms-split v [] ms a = (tt, a)
forms-split v (s ∷ ls) ms a = let p = forms-split v ls ms a.1 in ((a.0, p.0), p.1)

at_number : (a b : ℕ) (ls : List Stated) → a ≡ b → are_numbered a ls ≡ are_numbered b ls
at_number a b ls e = ap (λ (n : ℕ). are_numbered n ls) e

numbered-append : (n k : ℕ) (ls ms : List Stated) → k ≡ n + length ls → are_numbered n ls ≡ true → are_numbered k ms ≡ true → are_numbered n (ls ++ ms) ≡ true
numbered-append n k [] ms e a b = at_number n k ms (omega (arith, e)) ∙ b
numbered-append n k ((None, f) ∷ ls) ms e a b = numbered-append (n + 1) k ls ms (omega (arith, e)) a b
numbered-append n k ((Some m, f) ∷ ls) ms e a b =
    let p = and-parts (eqb m n) (are_numbered (n + 1) ls) a in
    and-both (eqb m n) (are_numbered (n + 1) (ls ++ ms)) p.0 (numbered-append (n + 1) k ls ms (omega (arith, e)) p.1 b)

numbered-split : (n k : ℕ) (ls ms : List Stated) → k ≡ n + length ls → are_numbered n (ls ++ ms) ≡ true → (are_numbered n ls ≡ true) × (are_numbered k ms ≡ true)
numbered-split n k [] ms e a = (refl, at_number k n ms (omega (arith, e)) ∙ a)
numbered-split n k ((None, f) ∷ ls) ms e a = numbered-split (n + 1) k ls ms (omega (arith, e)) a
numbered-split n k ((Some m, f) ∷ ls) ms e a =
    let p = and-parts (eqb m n) (are_numbered (n + 1) (ls ++ ms)) a in
    let q = numbered-split (n + 1) k ls ms (omega (arith, e)) p.1 in
    (and-both (eqb m n) (are_numbered (n + 1) ls) p.0 q.0, q.1)

pub passed-append : (v : ℕ) (a b c : Left) (ls ms : List Stated) → Passed v a ls b → Passed v b ms c → Passed v a (ls ++ ms) c
passed-append v a b c ls ms p q = record {
  pieces = p.pieces ∙ (ap (λ xs. map stated_text ls ++ xs) q.pieces ∙ (sym (append_assoc (map stated_text ls) (map stated_text ms) c.pieces)
      ∙ ap (λ xs. xs ++ c.pieces) (sym (map-append stated_text ls ms))));
  number = omega (arith, p.number, q.number, length-append ls ms);
  numbered = numbered-append a.number b.number ls ms p.number p.numbered q.numbered;
  forms = forms-append v ls ms p.forms q.forms;
  more = q.more;
}

-- what is left behind the first of two lists of lines
pub between : Left → List Stated → List Stated → Left → Left
between a ls ms c = record { number = a.number + length ls; pieces = map stated_text ms ++ c.pieces }

pub passed-first : (v : ℕ) (a c : Left) (ls ms : List Stated) → Passed v a (ls ++ ms) c → Passed v a ls (between a ls ms c)
unfolding between
passed-first v a c ls ms p = record {
  pieces = p.pieces ∙ (ap (λ xs. xs ++ c.pieces) (map-append stated_text ls ms) ∙ append_assoc (map stated_text ls) (map stated_text ms) c.pieces);
  number = refl;
  numbered = (numbered-split a.number (a.number + length ls) ls ms refl p.numbered).0;
  forms = (forms-split v ls ms p.forms).0;
  more = omega (arith, p.more, length-append (map stated_text ms) c.pieces);
}

pub passed-second : (v : ℕ) (a c : Left) (ls ms : List Stated) → Passed v a (ls ++ ms) c → Passed v (between a ls ms c) ms c
unfolding between
passed-second v a c ls ms p = record {
  pieces = refl;
  number = omega (arith, p.number, length-append ls ms);
  numbered = (numbered-split a.number (a.number + length ls) ls ms refl p.numbered).1;
  forms = (forms-split v ls ms p.forms).1;
  more = p.more;
}
