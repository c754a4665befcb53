use Rattle.std.proofs.Common.{◌≡◌, ◌≢◌, ◌∷◌, length, refl, sym, subst, arith, Option, None, Result, Ok, Err}
use Rattle.std.specs.Prelude.{IfOk, OnOk}
use Rattle.std.specs.declared.alloc.AllocError.{AllocError}
use Rattle.spk_packets.specs.Grammar.{Spells}
use Rattle.spk_packets.specs.View.{view}
use Rattle.spk_packets.specs.declared.fault.PacketFault.TheVariants as fault
use Rattle.spk_broker_events.specs.Record.{IsSaid, SaysNothing}
use Rattle.spk_broker_events.specs.declared.event.Event.{Event}
use Rattle.spk_broker_events.proofs.Saying.{all-of, fails-not, nothing-packet, ok-len, packet-not, packet-said}
use Rattle.spk_broker_events.proofs.reading.packet.Goals as goal

pub returns-in_default : goal.returns-in_default
returns-in_default c = nothing-packet c.args.bytes.now (λ conn moment p text a b s is. c.in_default.ensures.none conn moment text a b is)

pub returns-then-len-rest : goal.returns-then-len-rest
returns-then-len-rest c =
    packet-said c.args.bytes.now c.in-Some.conn c.in-Some.moment c.in-Some.rest.now c.in-Some.ensures.some (view c.in-Ok.packet)
    (subst (λ t. Spells t (view c.in-Ok.packet)) (all-of c.in-Some.rest.now c.in-Ok.len c.if-len-rest.true) c.in-Ok.ensures.found.1)

pub returns-else-len-rest : goal.returns-else-len-rest
returns-else-len-rest c =
    let rest = c.in-Some.rest.now in
    packet-not c.args.bytes.now c.in-Some.conn c.in-Some.moment rest c.in-Some.ensures.some
    (λ p s. c.if-len-rest.false (sym (ok-len p (view c.in-Ok.packet) (length rest) c.in-Ok.len (c.in-Ok.ensures.only p (length rest) (omega arith) (subst (λ t. Spells t p) (sym (all-of rest (length rest) refl)) s)))))

pub returns-in-Err : goal.returns-in-Err
returns-in-Err c = by c.none_by.result c.none_by.ensures.none c.none_by.ensures.named
  where
    nothing : c.in-Err.fault ≢ fault.NoMemory → SaysNothing (2 ∷ c.args.bytes.now)
    nothing apart = packet-not c.args.bytes.now c.in-Some.conn c.in-Some.moment c.in-Some.rest.now c.in-Some.ensures.some
        (λ p s. fails-not (p, length c.in-Some.rest.now) c.in-Err.fault apart
        (c.in-Err.ensures.only p (length c.in-Some.rest.now) (omega arith) (subst (λ t. Spells t p) (sym (all-of c.in-Some.rest.now (length c.in-Some.rest.now) refl)) s)))

    by : (r : Result (Option Event) AllocError) → IfOk r (λ o. o ≡ None) → OnOk r (c.in-Err.fault ≢ fault.NoMemory) → IfOk r (λ o. IsSaid (2 ∷ c.args.bytes.now) o)
    by (Ok o) none named = subst (IsSaid (2 ∷ c.args.bytes.now)) (sym none) (nothing named)
    by (Err e) none named = tt
