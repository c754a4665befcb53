-- What contracts see of a broker that is put together.
use Rattle.std.specs.Prelude.{Option}
use Rattle.std.specs.Option.{option_map_or}
use Rattle.spk_broker_rules.specs.Data.{Session, Broker}
use Rattle.spk_broker_replay.specs.Parts as part
use Rattle.spk_broker_replay.specs.Parts.{with_part}
use Rattle.spk_broker_events.specs.Line.{Kept}
use Rattle.spk_broker_events.specs.declared.line.Kind.{Kind}
use Rattle.spk_broker_events.specs.declared.line.Kind.TheVariants as kind
use Rattle.spk_broker_snapshot.specs.Together.{Sent, Stand, apart, copied, gave, granted, in_use, sits}
use Rattle.spk_broker_journal.specs.declared.assembly.Assembly.{Assembly}

abbrev pub stand : Assembly → Stand
stand a = record { broker = a.broker; session = a.session }

-- a session behind a line that speaks of it
abbrev pub in_kind : Kept → Session → Kind → Session
in_kind l s kind.Sits = sits l s
in_kind l s kind.Grant = granted l s
in_kind l s kind.InUse = in_use l s
in_kind l s kind.Last = gave l s
in_kind l s kind.Unacknowledged = copied l s
in_kind l s _ = s

abbrev pub in_line : Kept → Session → Session
in_line l s = in_kind l s l.kind

-- a retained message more, where there is one
abbrev pub with_message : Broker → Sent → Broker
with_message b x = with_part b (part.Retained x.app_message.topic (record { payload = x.app_message.payload; qos = x.app_message.qos }))

abbrev pub with_retained : Broker → Option Sent → Stand
with_retained b x = apart (option_map_or (with_message b) x b)
