-- What doesn't fit, one thing behind the other.
use Rattle.std.proofs.Common.{◌≡◌, Bool, true, false, not, ◌&&◌, ap, ◌∙◌}
use Rattle.spk_broker.specs.Fault.{IsLimit, IsUnknown}
use Rattle.spk_broker.specs.Restoring.{IsRefused}
use Rattle.spk_broker.specs.declared.fault.BrokerFault.{BrokerFault}
use Rattle.spk_broker.specs.declared.fault.BrokerFault.TheVariants as broker
use Rattle.spk_broker.specs.declared.part_fault.PartFault.{PartFault}
use Rattle.spk_broker.specs.declared.part_fault.PartFault.TheVariants.{NoMemory, Unfit}
use Rattle.spk_broker_journal.specs.Fitting.{IsUnfit, refusal}

pub as-unfit : (b : Bool) (e : PartFault) → IsRefused b e → IsUnfit b e
as-unfit b NoMemory r = tt
as-unfit b Unfit r = r

pub unfit-left : (a b : Bool) (e : PartFault) → IsUnfit a e → IsUnfit (a && b) e
unfit-left a b NoMemory n = tt
unfit-left a b Unfit n = ap (λ x. x && b) n

pub unfit-right : (a b : Bool) (e : PartFault) → a ≡ true → IsUnfit b e → IsUnfit (a && b) e
unfit-right a b NoMemory t n = tt
unfit-right a b Unfit t n = ap (λ x. x && b) t ∙ n

pub fit-both : (a b : Bool) → a ≡ true → b ≡ true → (a && b) ≡ true
fit-both a b s t = ap (λ x. x && b) s ∙ t

pub unfit-false : (b : Bool) (e : PartFault) → b ≡ false → IsUnfit b e
unfit-false b NoMemory f = tt
unfit-false b Unfit f = f

pub unknown-is : (k : Bool) (f : BrokerFault) → IsUnknown k f → IsUnfit k (refusal f)
unknown-is k broker.NoMemory u = tt
unknown-is k broker.NoSuchConn u = u
unknown-is k broker.Limit u = absurd u

pub full-is : (k : Bool) (f : BrokerFault) → IsLimit k f → IsUnfit (not k) (refusal f)
full-is k broker.NoMemory u = tt
full-is k broker.NoSuchConn u = absurd u
full-is k broker.Limit u = ap not u
