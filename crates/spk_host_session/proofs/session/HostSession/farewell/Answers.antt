use Rattle.std.proofs.Common.{Vec, Global, List, ℕ, sym, subst}
use Rattle.std.specs.Prelude.{All}
use Rattle.std.proofs.lemmas.List.Elements.{All-nil, All-push}
use Rattle.spk_host_session.specs.Packets.{IsPacket}
use Rattle.spk_host_session.proofs.Writable.{disconnect_writable}
use Rattle.spk_host_session.proofs.session.HostSession.farewell.Goals as goal

pub written-requires : goal.written-requires
written-requires c = disconnect_writable

pub returns-clause-whole : goal.returns-clause-whole
returns-clause-whole c =
    let none : All (λ b. IsPacket b.items) c.in_ok-packets.packets.items =
    subst (λ (l : List (Vec ℕ Global)). All (λ b. IsPacket b.items) l) (sym c.in_ok-packets.ensures.items) (All-nil (λ b. IsPacket b.items)) in
    let one : All (λ b. IsPacket b.items) c.push.new.self.items =
    subst (λ (l : List (Vec ℕ Global)). All (λ b. IsPacket b.items) l) (sym c.in_ok-push.ensures.items)
    (All-push (λ b. IsPacket b.items) c.in_ok-packets.packets.items c.in_ok-state.field-0 none c.in_ok-state.ensures.whole) in
    subst (λ (l : List (Vec ℕ Global)). All (λ b. IsPacket b.items) l) (sym c.in_ok-push-2.ensures.items)
    (All-push (λ b. IsPacket b.items) c.push.new.self.items c.in_ok-written.field-0 one c.in_ok-written.ensures.whole)
