-- How often a send to a connection was dropped.
use Rattle.std.specs.Prelude.{◌≡◌, ℕ, ◌==◌, Bool, true, false, if◌then◌else◌}
use Rattle.spk_session.specs.declared.answer.Sort.TheVariants as sort
use Rattle.spk_session.specs.Step.{one_more, is_spent}
use Rattle.spk_broker_rules.specs.Data.{Broker}
use Rattle.spk_broker_rules.specs.Plan.{Event, Refused}
use Rattle.spk_broker_rules.specs.Step.{drops_in, knows}

-- a PUBLISH of QoS 0 to this connection was refused
abbrev pub is_drop : ℕ → Event → Bool
is_drop conn (Refused d sort.QosZero moment) = d == conn
is_drop conn _ = false

-- how many sends to it were dropped, behind this event
abbrev pub drops_after : ℕ → Event → ℕ → ℕ
drops_after conn e drops = if is_drop conn e then one_more drops else drops

-- each open connection has had fewer drops than close it
abbrev pub HasFew : Broker → Type 0
HasFew b = (conn : ℕ) → knows b conn ≡ true → is_spent b.limit (drops_in conn b) ≡ false
