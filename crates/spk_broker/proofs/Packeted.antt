-- A packet as the rules take it.
use Rattle.std.proofs.Common.{◌≡◌, ℕ, Bool, true, false, cond, Option, Some, None, List, refl, sym, ap, subst, ◌∙◌}
use Rattle.std.specs.Option.{is_none, is_some}
use Rattle.spk_packets.specs.Fault.{first_of}
use Rattle.spk_packets.specs.Message.{Message}
use Rattle.spk_packets.specs.Spelling.{unwritable}
use Rattle.spk_packets.specs.declared.fault.PacketFault.{PacketFault}
use Rattle.spk_broker_rules.specs.Data as plain
use Rattle.spk_broker_rules.specs.Plan.{Act, Seen, first_packet, next_packet, packet, shut}
use Rattle.spk_broker_rules.specs.Step.{Turn, acts, session_by}
use Rattle.spk_broker.specs.Asking.{sessions_now}
use Rattle.spk_broker.specs.Endings.{Leads, ended}
use Rattle.spk_broker.specs.declared.state.State.{State}
use Rattle.spk_broker.specs.declared.packet_end.Ending.{Ending}
use Rattle.spk_broker.specs.declared.packet_end.Ending.TheVariants.{Nothing, One}
use Rattle.spk_broker.specs.declared.out.Draft.{Draft}
use Rattle.spk_broker.specs.View.{Stands}

-- which acts are planned, by whether it can't be written and whether its connection joined
abbrev chosen : Bool → Bool → Seen → ℕ → Message → List Act
chosen bad joined seen conn p = cond bad (shut conn) (cond joined (next_packet seen conn p) (first_packet seen conn p))

turned : (o : Option PacketFault) (b : Bool) → is_none o ≡ b → is_some o ≡ cond b false true
turned None b e = ap (λ x. cond x false true) e
turned (Some x) b e = ap (λ x. cond x false true) e

pub packet-leads : (d1 d2 : State) (x1 x2 : Draft) (e : Ending) (seen : Seen) (t : Turn) (conn : ℕ) (p : Message) (fits joined : Bool)
    → is_none (first_of (unwritable p)) ≡ fits → seen.joined ≡ joined
    → Leads d2 x2 e (acts (chosen (cond fits false true) joined seen conn p) t) → Leads d2 x2 e (acts (packet seen conn p) t)
packet-leads d1 d2 x1 x2 e seen t conn p fits joined a b done =
    subst (λ u. Leads d2 x2 e u)
    (ap (λ c. acts (chosen c joined seen conn p) t) (sym (turned (first_of (unwritable p)) fits a))
    ∙ ap (λ c. acts (chosen (is_some (first_of (unwritable p))) c seen conn p) t) (sym b)) done

-- what stands says who joined
pub joined-is : (d : State) (x : Draft) (t : Turn) (conn : ℕ) → Stands d x t → is_some (session_by conn (sessions_now d.sessions.items)) ≡ is_some (session_by conn t.broker.sessions)
joined-is d x t conn s = ap (λ (b : plain.Broker). is_some (session_by conn b.sessions)) s.broker

-- nothing follows
pub leads-plain : (d : State) (x : Draft) (t : Turn) → Stands d x t → Leads d x Nothing t
leads-plain d x t s = record { before = t; stands = s; is = refl }

pub leads-one : (d : State) (x : Draft) (t : Turn) (place : ℕ) → Stands d x t → Leads d x (One place) t
leads-one d x t place s = record { before = t; stands = s; is = refl }

-- what changes nothing more
pub leads-same : (d : State) (x : Draft) (t : Turn) (e : Ending) → ((b : plain.Broker) → ended e b ≡ b) → Stands d x t → Leads d x e t
leads-same d x t e same s = record { before = t; stands = s; is = ap (λ (b : plain.Broker). record t { broker = b }) (same t.broker) }
