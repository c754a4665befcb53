use Rattle.std.proofs.Common.{◌∙◌, ap, ◌++◌, map}
use Rattle.spk_host.proofs.Found.{on_ok}
use Rattle.spk_host.proofs.Requests.{copied}
use Rattle.spk_host.proofs.asking.ask_many.Goals as goal

pub returns-in-Ok-clause-packets : goal.returns-in-Ok-clause-packets
returns-in-Ok-clause-packets c =
    on_ok c.ask_copies.result c.ask_copies.ensures.packets
    (λ is. is ∙ ap (λ l. map (λ b. b.items) c.args.packets.now.items ++ l)
    (copied c.args.group.now c.args.node.now c.args.now c.args.count c.deref.result.now c.in-Ok.ensures.addressed
    (c.deref.ensures.value ∙ c.in-Ok.ensures.said)))
