use Rattle.std.proofs.Common.{◌≡◌, ◌++◌, ◌∙◌, ap, sym, ℕ, List, arith, Bool, true, false, cond, Ok, Err, []}
use Rattle.std.specs.List.{list_any}
use Rattle.gap_text.specs.Nest.{view}
use Rattle.gap_text.specs.Value.{Value}
use Rattle.array_values.specs.declared.fault.ArrayFault.TheVariants.{Empty}
use Rattle.array_values.specs.Bits.{bits_of}
use Rattle.array_values.proofs.Levels.{array-is, bits_of-len}
use Rattle.array_values.proofs.bits.read_bits.Goals as goal

-- all bits were read
all-read : (v : Value) (sizes there : List ℕ) (read now bits : List Bool) → there ≡ sizes → bits_of there v ≡ Ok bits → read ≡ [] → now ≡ read ++ bits → bits_of sizes v ≡ Ok now
all-read v sizes there read now bits s h e n =
    ap (λ (ns : List ℕ). bits_of ns v) (sym s) ∙ (h ∙ ap (λ (bs : List Bool). Ok bs) (sym (n ∙ ap (λ (bs : List Bool). bs ++ bits) e)))

pub returns-then-not-has_one-clause-fault : goal.returns-then-not-has_one-clause-fault
returns-then-not-has_one-clause-fault c =
    let (bits, read, new) = c.in_ok-push_bits.ensures.ok in
    let sizes : List ℕ = c.in_ok-sizes.sizes.items in
    let now : List Bool = c.push_bits.new.bits.items in
    let all : bits_of sizes (view c.args.nest.now) ≡ Ok now = all-read (view c.args.nest.now) sizes c.deref.result.now c.new-bits.result.items now bits c.deref.ensures.value read c.new-bits.ensures.items new in
    let no_one : list_any (λ b. b) now ≡ false = sym (c.if-not-has_one.ensures ∙ ap (λ (bs : List Bool). list_any (λ b. b) bs) c.deref-2.ensures.value) in
    λ _. array-is c.args.least c.args.most (view c.args.nest.now) sizes now c.in_ok-sizes.ensures.ok (omega (arith, c.len.ensures, c.if-len-least.false)) (omega (arith, c.len-else-len-least.ensures, c.if-len-most.false)) all
    ∙ ap (λ (b : Bool). cond b (Ok (record { sizes = sizes; bits = now })) (Err Empty)) no_one

pub returns-clause-array : goal.returns-clause-array
returns-clause-array c =
    let (bits, read, new) = c.in_ok-push_bits.ensures.ok in
    let sizes : List ℕ = c.in_ok-sizes.sizes.items in
    let now : List Bool = c.push_bits.new.bits.items in
    let all : bits_of sizes (view c.args.nest.now) ≡ Ok now = all-read (view c.args.nest.now) sizes c.deref.result.now c.new-bits.result.items now bits c.deref.ensures.value read c.new-bits.ensures.items new in
    let one : list_any (λ b. b) now ≡ true = sym (c.if-not-has_one.ensures ∙ ap (λ (bs : List Bool). list_any (λ b. b) bs) c.deref-2.ensures.value) in
    array-is c.args.least c.args.most (view c.args.nest.now) sizes now c.in_ok-sizes.ensures.ok (omega (arith, c.len.ensures, c.if-len-least.false)) (omega (arith, c.len-else-len-least.ensures, c.if-len-most.false)) all
    ∙ ap (λ (b : Bool). cond b (Ok (record { sizes = sizes; bits = now })) (Err Empty)) one

pub returns-clause-shape : goal.returns-clause-shape
returns-clause-shape c =
    let (bits, read, new) = c.in_ok-push_bits.ensures.ok in
    let sizes : List ℕ = c.in_ok-sizes.sizes.items in
    let now : List Bool = c.push_bits.new.bits.items in
    let all : bits_of sizes (view c.args.nest.now) ≡ Ok now = all-read (view c.args.nest.now) sizes c.deref.result.now c.new-bits.result.items now bits c.deref.ensures.value read c.new-bits.ensures.items new in
    record {
      shallow = omega (arith, c.len-else-len-least.ensures, c.if-len-most.false);
      deep = omega (arith, c.len.ensures, c.if-len-least.false);
      full = bits_of-len sizes (view c.args.nest.now) now all;
      has_one = sym (c.if-not-has_one.ensures ∙ ap (λ (bs : List Bool). list_any (λ b. b) bs) c.deref-2.ensures.value);
    }
