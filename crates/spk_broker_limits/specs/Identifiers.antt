-- Packet identifiers of a session: those in use, and the next one (MQTT 3.1.1, 2.3.1).
use Rattle.std.specs.Prelude.{◌≡◌, ℕ, ◌+◌, ◌<◌, false, List, Option}
use Rattle.std.specs.Option.{option_map}
use Rattle.spk_session.specs.PacketIds.{AreIds, IsNextFree, is_in, next_id}
use Rattle.spk_session.specs.Step.{without}
use Rattle.spk_broker_rules.specs.Data.{Broker, Session}
use Rattle.spk_broker_rules.specs.Step.{session_by}

-- those in use are from 1 to 65,535, no two are equal, and they are at most 1,024
abbrev pub HasIds : Session → Type 0
HasIds s = AreIds s.used

-- the next one is the first behind the one given last that isn't in use
abbrev pub HasNext : Session → Type 0
HasNext s = IsNextFree s.used s.last (next_id s.used s.last)

-- where the one behind the one given last isn't in use, that is the next one: not the smallest that isn't
abbrev pub GoesOn : Session → Type 0
GoesOn s = s.last < 65535 → is_in s.used (s.last + 1) ≡ false → next_id s.used s.last ≡ s.last + 1

-- those in use of a connection's session, and the one given last
abbrev pub ids_in : Broker → ℕ → Option (List ℕ × ℕ)
ids_in b conn = option_map (λ (s : Session). (s.used, s.last)) (session_by conn b.sessions)

-- one is in use no more; the one given last stays
abbrev pub acked_ids : ℕ → List ℕ × ℕ → List ℕ × ℕ
acked_ids id ids = (without id ids.0, ids.1)
