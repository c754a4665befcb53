use Rattle.std.proofs.Common.{ℕ, List, Option, ◌∙◌, ap}
use Rattle.std.proofs.Math.Path.{fun_ext}
use Rattle.spk_broker_rules.specs.Data.{Broker}
use Rattle.spk_clients.specs.declared.client.Client.{Client}
use Rattle.spk_server.specs.Calls.{room_with}
use Rattle.spk_server.specs.Data.{Room}
use Rattle.spk_server.proofs.server.Server.over_broker.Goals as goal

pub returns-clause-fresh : goal.returns-clause-fresh
returns-clause-fresh c =
    let now = c.clock-now.result in
    ap {A = ℕ → Option Client} {B = Room} (λ cs. record (room_with c.args.noted) { clients = cs; held = c.new-2.result.items; now = now; ticked = now }) (fun_ext c.new.ensures.none)
    ∙ ap {A = List ℕ} {B = Room} (λ h. record (room_with c.args.noted) { held = h; now = now; ticked = now }) c.new-2.ensures.items
    ∙ ap {A = ℕ} {B = Room} (λ t. record (room_with c.args.noted) { now = t; ticked = t }) (c.clock-now.ensures ∙ ap (λ (b : Broker). b.clock) c.broker.ensures)
