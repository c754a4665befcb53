use Rattle.std.proofs.Common.{List, ℕ, sym, subst}
use Rattle.std.specs.Prelude.{All, Vec}
use Rattle.std.specs.declared.alloc.Global.{Global}
use Rattle.std.proofs.lemmas.List.Elements.{All-push}
use Rattle.spk_host_session.specs.Packets.{IsPacket}
use Rattle.spk_host.proofs.asking.ask.Goals as goal

pub returns-in_ok-push-in-Ok-2-clause-whole : goal.returns-in_ok-push-in-Ok-2-clause-whole
returns-in_ok-push-in-Ok-2-clause-whole c = λ before.
    subst (λ (l : List (Vec ℕ Global)). All (λ b. IsPacket b.items) l) (sym c.in_ok-push-in-Ok-2.ensures.items)
    (All-push (λ b. IsPacket b.items) c.args.packets.now.items c.in-Ok.bytes before c.in-Ok.ensures.whole)
