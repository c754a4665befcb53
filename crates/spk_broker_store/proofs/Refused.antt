-- What the refusal of one call says of the next one's.
use Rattle.std.proofs.Common.{ℕ, List, Result, Ok, Err, IfErr, inr}
use Rattle.spk_broker_rules.specs.Data.{Broker}
use Rattle.spk_broker_snapshot.specs.Lines.{lines}
use Rattle.spk_broker_journal.specs.Adding.{first_refusal}
use Rattle.spk_broker_store.specs.Fault.{IsNotBegun}
use Rattle.spk_broker_store.specs.Kept.{IsKept, IsNotKept, IsNotOpened, IsNotRead}
use Rattle.spk_broker_store.specs.declared.fault.StoreFault.{StoreFault}
use Rattle.spk_broker_store.specs.declared.fault.StoreFault.TheVariants.{NoMemory, Unfit, Unkept}

-- bytes that are no broker's are some
not-read : (bytes : List ℕ) (e : StoreFault) → IsNotKept bytes e → IsNotRead e
not-read bytes NoMemory h = tt
not-read bytes Unfit h = (bytes, h)
not-read bytes Unkept h = tt

pub is-not-read : {X : Type 0} (bytes : List ℕ) (r : Result X StoreFault) → IfErr r (IsNotKept bytes) → IfErr r IsNotRead
is-not-read bytes (Ok x) h = tt
is-not-read bytes (Err e) h = not-read bytes e h

-- a broker that was kept, and can't be written
pub not-begun : (bytes : List ℕ) (b : Broker) (cut : ℕ) (e : StoreFault) → IsKept bytes b cut → IsNotBegun (first_refusal (lines b)) e → IsNotOpened e
not-begun bytes b cut NoMemory kept h = tt
not-begun bytes b cut Unfit kept h = (bytes, inr (b, cut, kept, h))
not-begun bytes b cut Unkept kept h = tt
