use Rattle.std.proofs.Common.{ap, sym, subst}
use Rattle.hap_outside.specs.Entries.{IsWithin}
use Rattle.hap_outside.proofs.OpenEntry.{stands_put, others_put, state_put, within-append}
use Rattle.hap_outside.proofs.bytes.Bytes.put.Goals as goal

pub invariant_of-self-2 : goal.invariant_of-self-2
invariant_of-self-2 c =
    (subst (λ entries. IsWithin entries c.self.inside.open_at c.self.inside.taken) (sym c.in_ok-push.ensures.items) (within-append c.self.inside.entries.items _ _ _ c.self.invariant.0), c.self.invariant.1)

pub returns-clause-ok : goal.returns-clause-ok
returns-clause-ok c =
    state_put c.args.self.now c.self.inside.entries.items c.push.new.self.items _ _ _ _ _ _ _ _ c.in_ok-push.ensures.items c.in_ok-entry.ensures c.self.invariant.0 c.self.view_is

pub returns-clause-stands : goal.returns-clause-stands
returns-clause-stands c =
    stands_put c.self.inside.entries.items _ _ _ _ c.in_ok-push.ensures.items c.in_ok-entry.ensures

pub returns-clause-others : goal.returns-clause-others
returns-clause-others c =
    others_put c.args.self.now c.self.inside.entries.items _ _ _ _ c.in_ok-push.ensures.items c.in_ok-entry.ensures (ap (λ s. s.entries) c.self.view_is)
