use Rattle.std.proofs.Common.{◌≡◌, List, ℕ, sym, subst, rules}
use Rattle.std.specs.Prelude.{All, Vec}
use Rattle.std.specs.declared.alloc.Global.{Global}
use Rattle.std.proofs.lemmas.List.Elements.{All-push}
use Rattle.spk_host_session.specs.Packets.{IsPacket}
use Rattle.spk_host.proofs.asking.ask_copy.Goals as goal

pub returns-clause-whole : goal.returns-clause-whole
returns-clause-whole c = λ one before.
    let same : c.in_ok-copy.copy.items ≡ c.args.bytes.now = search rules in
    subst (λ (l : List (Vec ℕ Global)). All (λ b. IsPacket b.items) l) (sym c.in_ok-push-2.ensures.items)
    (All-push (λ b. IsPacket b.items) c.args.packets.now.items c.in_ok-copy.copy before (subst IsPacket (sym same) one))
