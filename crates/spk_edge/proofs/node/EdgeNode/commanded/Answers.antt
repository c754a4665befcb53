use Rattle.std.proofs.Common.{refl, ◌≡◌, ◌⊎◌, ◌∙◌, ◌^◌, ◌&&◌, inl, inr, ap, sym, subst, nat_lt, true, false, map, List, Option, Some, None}
use Rattle.std.proofs.lemmas.Bool.{lt-ltb}
use Rattle.std.proofs.lemmas.Result.{err_from_is_err_and}
use Rattle.spk_edge_rules.specs.Commands.{Order as Asked, command_of, wants_rebirth, writes_in}
use Rattle.spk_edge_rules.specs.Inputs.{Command}
use Rattle.spk_edge_rules.specs.Rules as rule
use Rattle.spk_edge_rules.specs.declared.fault.EdgeFault.{EdgeFault}
use Rattle.spk_edge_rules.specs.declared.fault.EdgeFault.TheVariants as fault
use Rattle.spk_edge.specs.Ordered.{order_view}
use Rattle.spk_edge.specs.Patch.{IsDone, IsRefusal}
use Rattle.spk_edge.specs.Reborn.{IsReborn, IsUnborn, command_input}
use Rattle.spk_edge.specs.View.{NodeData, config_view, write_view}
use Rattle.spk_edge.specs.declared.command.Order.{Order}
use Rattle.spk_edge.proofs.Plans.{if-err, if-ok}
use Rattle.spk_edge.proofs.Reborn.{command-never, handed-done, handed-refused, reborn-done, unborn-refused}
use Rattle.spk_edge.proofs.node.EdgeNode.commanded.Goals as goal

with-same : (a b : Option (List Asked)) (e : EdgeFault) → b ≡ a → (e ≡ fault.NoMemory) ⊎ ((e ≡ fault.BadCommand) × (a ≡ None)) → (e ≡ fault.NoMemory) ⊎ ((e ≡ fault.BadCommand) × (b ≡ None))
with-same a b e same (inl memory) = inl memory
with-same a b e same (inr (bad, none)) = inr (bad, same ∙ none)

pub returns-in_err-orders-clause-refused : goal.returns-in_err-orders-clause-refused
returns-in_err-orders-clause-refused c =
    let n = c.args.self.now in
    let topic = c.args.topic.now in
    let payload = c.args.payload.now in
    let fit : rule.fits n.standing.asked.phase (Command topic payload) ≡ true = sym c.fits.ensures ∙ c.if-not-fits.false in
    let moment : nat_lt c.args.now (2 ^ 63) ≡ true = lt-ltb c.args.now (2 ^ 63) c.if-now-ge-END.false in
    let same : command_of n.config n.standing.asked.book topic payload ≡ command_of (config_view c.self.inside.config) c.self.inside.registry topic payload =
    ap (λ (n : NodeData). command_of n.config n.standing.asked.book topic payload) (sym c.self.view_is) in
    let p = err_from_is_err_and c.from_residual.result c.from_residual.ensures.1 in
    rw (p.1, p.2) (command-never n c.args.now c.args.ack topic payload c.in_err-orders.field-0.0 fit moment
    (with-same (command_of (config_view c.self.inside.config) c.self.inside.registry topic payload) (command_of n.config n.standing.asked.book topic payload) c.in_err-orders.field-0.0 same c.in_err-orders.ensures.fault))

pub returns-then-asked-clause-done : goal.returns-then-asked-clause-done
returns-then-asked-clause-done c =
    let n = c.args.self.now in
    let topic = c.args.topic.now in
    let payload = c.args.payload.now in
    let orders = map order_view c.in_ok-orders.orders.items in
    let fit : rule.fits n.standing.asked.phase (Command topic payload) ≡ true = sym c.fits.ensures ∙ c.if-not-fits.false in
    let moment : nat_lt c.args.now (2 ^ 63) ≡ true = lt-ltb c.args.now (2 ^ 63) c.if-now-ge-END.false in
    let some : command_of n.config n.standing.asked.book topic payload ≡ Some orders =
    ap (λ (n : NodeData). command_of n.config n.standing.asked.book topic payload) (sym c.self.view_is) ∙ c.in_ok-orders.ensures.some in
    let asked : (wants_rebirth orders && rule.is_born n.standing.asked.phase) ≡ true =
    ap (λ (l : List Order). wants_rebirth (map order_view l) && rule.is_born n.standing.asked.phase) (sym c.deref.ensures.value) ∙ sym c.wants_births-asked.ensures ∙ c.if-asked.true in
    let writes : map write_view c.in_ok-writes.writes.items ≡ writes_in orders = c.in_ok-writes.ensures in
    if-ok (IsReborn n c.args.now c.args.ack (map write_view c.in_ok-writes.writes.items) c.rebear.new.self) (IsDone n (command_input c.args.now c.args.ack topic payload) c.rebear.new.self) c.rebear.result
    (λ out is. reborn-done n c.args.now c.args.ack topic payload orders c.rebear.new.self out fit moment some asked (subst (λ ws. IsReborn n c.args.now c.args.ack ws c.rebear.new.self out) writes is))
    c.rebear.ensures.reborn

pub returns-then-asked-clause-refused : goal.returns-then-asked-clause-refused
returns-then-asked-clause-refused c =
    let n = c.args.self.now in
    let topic = c.args.topic.now in
    let payload = c.args.payload.now in
    let orders = map order_view c.in_ok-orders.orders.items in
    let fit : rule.fits n.standing.asked.phase (Command topic payload) ≡ true = sym c.fits.ensures ∙ c.if-not-fits.false in
    let moment : nat_lt c.args.now (2 ^ 63) ≡ true = lt-ltb c.args.now (2 ^ 63) c.if-now-ge-END.false in
    let some : command_of n.config n.standing.asked.book topic payload ≡ Some orders =
    ap (λ (n : NodeData). command_of n.config n.standing.asked.book topic payload) (sym c.self.view_is) ∙ c.in_ok-orders.ensures.some in
    let asked : (wants_rebirth orders && rule.is_born n.standing.asked.phase) ≡ true =
    ap (λ (l : List Order). wants_rebirth (map order_view l) && rule.is_born n.standing.asked.phase) (sym c.deref.ensures.value) ∙ sym c.wants_births-asked.ensures ∙ c.if-asked.true in
    if-err (IsUnborn n c.args.now c.args.ack) (IsRefusal n (command_input c.args.now c.args.ack topic payload)) c.rebear.result
    (λ e why. unborn-refused n c.args.now c.args.ack topic payload orders e fit moment some asked why)
    c.rebear.ensures.fault

pub returns-in_err-packets-clause-refused : goal.returns-in_err-packets-clause-refused
returns-in_err-packets-clause-refused c =
    let n = c.args.self.now in
    let topic = c.args.topic.now in
    let payload = c.args.payload.now in
    let orders = map order_view c.in_ok-orders.orders.items in
    let fit : rule.fits n.standing.asked.phase (Command topic payload) ≡ true = sym c.fits.ensures ∙ c.if-not-fits.false in
    let moment : nat_lt c.args.now (2 ^ 63) ≡ true = lt-ltb c.args.now (2 ^ 63) c.if-now-ge-END.false in
    let some : command_of n.config n.standing.asked.book topic payload ≡ Some orders =
    ap (λ (n : NodeData). command_of n.config n.standing.asked.book topic payload) (sym c.self.view_is) ∙ c.in_ok-orders.ensures.some in
    let asked : (wants_rebirth orders && rule.is_born n.standing.asked.phase) ≡ false =
    ap (λ (l : List Order). wants_rebirth (map order_view l) && rule.is_born n.standing.asked.phase) (sym c.deref.ensures.value) ∙ sym c.wants_births-asked.ensures ∙ c.if-asked.false in
    let p = err_from_is_err_and c.from_residual-in_err-packets.result c.from_residual-in_err-packets.ensures.1 in
    rw (p.1, p.2) (handed-refused n c.args.now c.args.ack topic payload orders c.in_err-packets.field-0.0 fit moment some asked c.in_err-packets.ensures.fault)

pub returns-clause-done : goal.returns-clause-done
returns-clause-done c =
    let n = c.args.self.now in
    let topic = c.args.topic.now in
    let payload = c.args.payload.now in
    let orders = map order_view c.in_ok-orders.orders.items in
    let fit : rule.fits n.standing.asked.phase (Command topic payload) ≡ true = sym c.fits.ensures ∙ c.if-not-fits.false in
    let moment : nat_lt c.args.now (2 ^ 63) ≡ true = lt-ltb c.args.now (2 ^ 63) c.if-now-ge-END.false in
    let some : command_of n.config n.standing.asked.book topic payload ≡ Some orders =
    ap (λ (n : NodeData). command_of n.config n.standing.asked.book topic payload) (sym c.self.view_is) ∙ c.in_ok-orders.ensures.some in
    let asked : (wants_rebirth orders && rule.is_born n.standing.asked.phase) ≡ false =
    ap (λ (l : List Order). wants_rebirth (map order_view l) && rule.is_born n.standing.asked.phase) (sym c.deref.ensures.value) ∙ sym c.wants_births-asked.ensures ∙ c.if-asked.false in
    handed-done n c.args.now c.args.ack topic payload orders (record { packets = c.in_ok-packets.packets; writes = c.in_ok-writes.writes; close = false }) fit moment some asked
    c.in_ok-packets.ensures.bytes c.in_ok-packets.ensures.writable c.in_ok-writes.ensures refl
