-- Lemmas on the text of a position.
use Rattle.std.proofs.Common.{◌≡◌, ◌≤◌, ◌+◌, ◌-◌, ◌++◌, ◌∷◌, [], ℕ, Bool, true, false, cond, ◌&&◌, eqb, leb, Option, Some, None, List, length, get_or, take, drop, map, refl, sym, ◌∙◌, ap, arith, subst, All, append_assoc}
use Rattle.std.specs.Option.{option_and_then}
use Rattle.std.proofs.lemmas.Bool.{eqb-true, eq-eqb, leb-true, le-leb, false≢true}
use Rattle.std.proofs.lemmas.Option.{same_Some}
use Rattle.std.proofs.lemmas.List.{take_rest}
use Rattle.std.proofs.lemmas.List.Elements.{All-nil, All-cons, All-tail}
use Rattle.sheet_tables.specs.Positions.{IsProper, digit_from, cells_from, cells_text, position_from, position_text}

-- ---- parts of an answer

both_some : {A B : Type 0} (f : A → Option B) (o : Option A) (y : B) → option_and_then f o ≡ Some y → (x : A) × (o ≡ Some x) × (f x ≡ Some y)
both_some f (Some x) y h = (x, refl, h)
both_some f None y h = cc

tested : {A : Type 0} (b : Bool) (o : Option A) (y : A) → cond b o None ≡ Some y → (b ≡ true) × (o ≡ Some y)
tested true o y h = (refl, h)
tested false o y h = cc

and_parts : (a b : Bool) → (a && b) ≡ true → (a ≡ true) × (b ≡ true)
and_parts true b h = (refl, h)
and_parts false b h = absurd (false≢true h)

-- ---- digits

pub digit-is : (b d : ℕ) → digit_from b ≡ Some d → (1 ≤ d) × (d ≤ 8) × (b ≡ 48 + d)
digit-is b d h =
    let t : ((leb 49 b && leb b 56) ≡ true) × (Some (b - 48) ≡ Some d) = tested (leb 49 b && leb b 56) (Some (b - 48)) d h in
    let p : (leb 49 b ≡ true) × (leb b 56 ≡ true) = and_parts (leb 49 b) (leb b 56) t.0 in
    let low : 49 ≤ b = leb-true 49 b p.0 in
    let high : b ≤ 56 = leb-true b 56 p.1 in
    let same : Some (b - 48) ≡ Some d = t.1 in
    let e : b - 48 ≡ d = cc in
    (omega arith, omega arith, omega arith)

digit-back : (d : ℕ) → 1 ≤ d → d ≤ 8 → digit_from (48 + d) ≡ Some d
digit-back d low high =
    let a : leb 49 (48 + d) ≡ true = le-leb 49 (48 + d) (omega arith) in
    let b : leb (48 + d) 56 ≡ true = le-leb (48 + d) 56 (omega arith) in
    ap (λ (t : Bool). cond (t && leb (48 + d) 56) (Some (48 + d - 48)) None) a
    ∙ (ap (λ (t : Bool). cond t (Some (48 + d - 48)) None) b ∙ ap (λ (n : ℕ). Some n) (let e : 48 + d - 48 ≡ d = omega arith in e))

-- ---- cells

abbrev is_small : ℕ → Type 0
is_small c = (1 ≤ c) × (c ≤ 8)

join_more : (c : ℕ) (cells : List ℕ) → 1 ≤ length cells → cells_text (c ∷ cells) ≡ (48 + c) ∷ 44 ∷ cells_text cells
join_more c [] l = absurd (omega arith)
join_more c (d ∷ cells) l = refl

pub cells-are : (text cells : List ℕ) → cells_from text ≡ Some cells → (1 ≤ length cells) × All (λ c. (1 ≤ c) × (c ≤ 8)) cells × (text ≡ cells_text cells)
cells-are [] cells h = cc
cells-are (b ∷ []) cells h =
    let p : (c : ℕ) × (digit_from b ≡ Some c) × (Some (c ∷ []) ≡ Some cells) = both_some (λ c. Some (c ∷ [])) (digit_from b) cells h in
    let w : (1 ≤ p.0) × (p.0 ≤ 8) × (b ≡ 48 + p.0) = digit-is b p.0 p.1 in
    let q : Some (p.0 ∷ []) ≡ Some cells = p.2 in
    let e : p.0 ∷ [] ≡ cells = cc in
    subst (λ (cs : List ℕ). (1 ≤ length cs) × All (λ c. (1 ≤ c) × (c ≤ 8)) cs × (b ∷ [] ≡ cells_text cs)) e
    (omega arith, All-cons (λ c. (1 ≤ c) × (c ≤ 8)) p.0 [] (w.0, w.1) (All-nil (λ c. (1 ≤ c) × (c ≤ 8))), ap (λ (x : ℕ). x ∷ []) w.2)
cells-are (b ∷ d ∷ bs) cells h =
    let t : (eqb d 44 ≡ true) × (option_and_then (λ c. option_and_then (λ cs. Some (c ∷ cs)) (cells_from bs)) (digit_from b) ≡ Some cells) =
    tested (eqb d 44) (option_and_then (λ c. option_and_then (λ cs. Some (c ∷ cs)) (cells_from bs)) (digit_from b)) cells h in
    let p : (c : ℕ) × (digit_from b ≡ Some c) × (option_and_then (λ cs. Some (c ∷ cs)) (cells_from bs) ≡ Some cells) = both_some (λ c. option_and_then (λ cs. Some (c ∷ cs)) (cells_from bs)) (digit_from b) cells t.1 in
    let q : (cs : List ℕ) × (cells_from bs ≡ Some cs) × (Some (p.0 ∷ cs) ≡ Some cells) = both_some (λ cs. Some (p.0 ∷ cs)) (cells_from bs) cells p.2 in
    let r : (1 ≤ length q.0) × All (λ c. (1 ≤ c) × (c ≤ 8)) q.0 × (bs ≡ cells_text q.0) = cells-are bs q.0 q.1 in
    let w : (1 ≤ p.0) × (p.0 ≤ 8) × (b ≡ 48 + p.0) = digit-is b p.0 p.1 in
    let s : Some (p.0 ∷ q.0) ≡ Some cells = q.2 in
    let e : p.0 ∷ q.0 ≡ cells = cc in
    let comma : d ≡ 44 = eqb-true d 44 t.0 in
    subst (λ (cs : List ℕ). (1 ≤ length cs) × All (λ c. (1 ≤ c) × (c ≤ 8)) cs × (b ∷ d ∷ bs ≡ cells_text cs)) e (
      omega arith,
      All-cons (λ c. (1 ≤ c) × (c ≤ 8)) p.0 q.0 (w.0, w.1) r.1,
      ap (λ (x : ℕ). x ∷ d ∷ bs) w.2 ∙ (ap (λ (x : ℕ). (48 + p.0) ∷ x ∷ bs) comma ∙ (ap (λ (x : List ℕ). (48 + p.0) ∷ 44 ∷ x) r.2 ∙ sym (join_more p.0 q.0 r.0))),
    )

cells-back : (cells : List ℕ) → 1 ≤ length cells → All (λ c. (1 ≤ c) × (c ≤ 8)) cells → cells_from (cells_text cells) ≡ Some cells
cells-back [] l h = absurd (omega arith)
cells-back (c ∷ []) l h =
    let w : (1 ≤ c) × (c ≤ 8) = h 0 0 (omega arith) in
    ap (option_and_then (λ x. Some (x ∷ []))) (digit-back c w.0 w.1)
cells-back (c ∷ d ∷ cells) l h =
    let w : (1 ≤ c) × (c ≤ 8) = h 0 0 (omega arith) in
    let rest : cells_from (cells_text (d ∷ cells)) ≡ Some (d ∷ cells) = cells-back (d ∷ cells) (omega arith) (All-tail (λ x. (1 ≤ x) × (x ≤ 8)) c (d ∷ cells) h) in
    ap (option_and_then (λ x. option_and_then (λ cs. Some (x ∷ cs)) (cells_from (cells_text (d ∷ cells))))) (digit-back c w.0 w.1)
    ∙ ap (option_and_then (λ cs. Some (c ∷ cs))) rest

-- ---- positions

pub position-is : (text : List ℕ) (sheets : ℕ) (cells : List ℕ) → position_from text ≡ Some (sheets, cells) → IsProper sheets cells × (text ≡ position_text sheets cells)
position-is [] sheets cells h = cc
position-is (b ∷ []) sheets cells h = cc
position-is (b ∷ d ∷ bs) sheets cells h =
    let t : (eqb d 58 ≡ true) × (option_and_then (λ m. option_and_then (λ cs. Some (m, cs)) (cells_from bs)) (digit_from b) ≡ Some (sheets, cells)) =
    tested (eqb d 58) (option_and_then (λ m. option_and_then (λ cs. Some (m, cs)) (cells_from bs)) (digit_from b)) (sheets, cells) h in
    let p : (m : ℕ) × (digit_from b ≡ Some m) × (option_and_then (λ cs. Some (m, cs)) (cells_from bs) ≡ Some (sheets, cells)) = both_some (λ m. option_and_then (λ cs. Some (m, cs)) (cells_from bs)) (digit_from b) (sheets, cells) t.1 in
    let q : (cs : List ℕ) × (cells_from bs ≡ Some cs) × (Some (p.0, cs) ≡ Some (sheets, cells)) = both_some (λ cs. Some (p.0, cs)) (cells_from bs) (sheets, cells) p.2 in
    let r : (1 ≤ length q.0) × All (λ c. (1 ≤ c) × (c ≤ 8)) q.0 × (bs ≡ cells_text q.0) = cells-are bs q.0 q.1 in
    let w : (1 ≤ p.0) × (p.0 ≤ 8) × (b ≡ 48 + p.0) = digit-is b p.0 p.1 in
    let s : Some (p.0, q.0) ≡ Some (sheets, cells) = q.2 in
    let pair : (p.0, q.0) ≡ (sheets, cells) = same_Some (p.0, q.0) (sheets, cells) s in
    let m-is : p.0 ≡ sheets = ap (λ (x : ℕ × List ℕ). x.0) pair in
    let cs-is : q.0 ≡ cells = ap (λ (x : ℕ × List ℕ). x.1) pair in
    let colon : d ≡ 58 = eqb-true d 58 t.0 in
    subst (λ (m : ℕ). IsProper m cells × (b ∷ d ∷ bs ≡ position_text m cells)) m-is
    (subst (λ (cs : List ℕ). IsProper p.0 cs × (b ∷ d ∷ bs ≡ position_text p.0 cs)) cs-is (
      record { some_sheet = w.0; most_sheets = w.1; some_cell = r.0; within = r.1 },
      ap (λ (x : ℕ). x ∷ d ∷ bs) w.2 ∙ (ap (λ (x : ℕ). (48 + p.0) ∷ x ∷ bs) colon ∙ ap (λ (x : List ℕ). (48 + p.0) ∷ 58 ∷ x) r.2),
    ))

pub position-back : (text : List ℕ) (sheets : ℕ) (cells : List ℕ) → IsProper sheets cells → text ≡ position_text sheets cells → position_from text ≡ Some (sheets, cells)
position-back text sheets cells h e =
    ap position_from e
    ∙ (ap (option_and_then (λ m. option_and_then (λ cs. Some (m, cs)) (cells_from (cells_text cells)))) (digit-back sheets h.some_sheet h.most_sheets)
    ∙ ap (option_and_then (λ cs. Some (sheets, cs))) (cells-back cells h.some_cell h.within))

-- ---- a step of the reader

joined : (front : List ℕ) (c : ℕ) (o : Option (List ℕ)) → option_and_then (λ cs. Some (front ++ cs)) (option_and_then (λ cs. Some (c ∷ cs)) o) ≡ option_and_then (λ cs. Some ((front ++ c ∷ []) ++ cs)) o
joined front c None = refl
joined front c (Some cs) = ap (λ (xs : List ℕ). Some xs) (sym (append_assoc front (c ∷ []) cs))

pub cells-step : (text front now rest more : List ℕ) (c : ℕ) → cells_from text ≡ option_and_then (λ cs. Some (front ++ cs)) (cells_from rest) → 2 ≤ length rest → digit_from (get_or rest 0 0) ≡ Some c → get_or rest 1 0 ≡ 44
    → more ≡ take (length rest - 2) (drop 2 rest) → now ≡ front ++ c ∷ [] → cells_from text ≡ option_and_then (λ cs. Some (now ++ cs)) (cells_from more)
cells-step text front now [] more c h l digit comma e push = absurd (omega arith)
cells-step text front now (b ∷ []) more c h l digit comma e push = absurd (omega arith)
cells-step text front now (b ∷ d ∷ bs) more c h l digit comma e push =
    let all : more ≡ bs = e ∙ take_rest (b ∷ d ∷ bs) 2 in
    let test : eqb d 44 ≡ true = eq-eqb d 44 comma in
    let read : cells_from (b ∷ d ∷ bs) ≡ option_and_then (λ cs. Some (c ∷ cs)) (cells_from bs) =
    ap (λ (t : Bool). cond t (option_and_then (λ x. option_and_then (λ cs. Some (x ∷ cs)) (cells_from bs)) (digit_from b)) None) test
    ∙ ap (option_and_then (λ x. option_and_then (λ cs. Some (x ∷ cs)) (cells_from bs))) digit in
    h ∙ (ap (option_and_then (λ cs. Some (front ++ cs))) read
    ∙ (joined front c (cells_from bs)
    ∙ (ap (λ (xs : List ℕ). option_and_then (λ cs. Some (xs ++ cs)) (cells_from bs)) (sym push)
    ∙ ap (λ (xs : List ℕ). option_and_then (λ cs. Some (now ++ cs)) (cells_from xs)) (sym all))))
