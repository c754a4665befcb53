use Rattle.std.proofs.Common.{◌≡◌, ◌⊎◌, ◌∙◌, inl, inr, ap, sym, refl, map, false, List, Option, Some, None}
use Rattle.std.proofs.lemmas.Result.{err_from_is_err_and}
use Rattle.spk_edge_rules.specs.Commands.{Order, command_of}
use Rattle.spk_edge_rules.specs.declared.fault.EdgeFault.{EdgeFault}
use Rattle.spk_edge_rules.specs.declared.fault.EdgeFault.TheVariants as fault
use Rattle.spk_edge.specs.Ordered.{order_view}
use Rattle.spk_edge_rules.specs.Inputs as inputs
use Rattle.spk_edge.specs.Patch.{IsGivenBy, IsRefusedBy, plain_input}
use Rattle.spk_edge.specs.View.{NodeData, act_view, config_view, given_of, given_view, input_view}
use Rattle.spk_edge_rules.specs.Rules as rule
use Rattle.spk_edge_rules.specs.declared.phase.Phase.TheVariants.{Idle}
use Rattle.spk_edge.specs.declared.input.Act.TheVariants.{Open, Drain, Stop, Cut, Pass}
use Rattle.spk_edge.proofs.Plans.{command-given, command-late, command-refused, gave-is, if-err, if-ok}
use Rattle.spk_edge.proofs.Heard.{plain-given, plain-refused}
use Rattle.spk_edge.proofs.node.EdgeNode.given.Goals as goal

with-same : (a b : Option (List Order)) (e : EdgeFault) → b ≡ a → (e ≡ fault.NoMemory) ⊎ ((e ≡ fault.BadCommand) × (a ≡ None)) → (e ≡ fault.NoMemory) ⊎ ((e ≡ fault.BadCommand) × (b ≡ None))
with-same a b e same (inl memory) = inl memory
with-same a b e same (inr (bad, none)) = inr (bad, same ∙ none)

pub returns-in_ok-opening-in-Open-clause-given : goal.returns-in_ok-opening-in-Open-clause-given
returns-in_ok-opening-in-Open-clause-given c =
    let n = c.args.self.now in
    gave-is n c.args.input Open (rule.opening n.config n.standing.asked c.args.input.now) c.in_ok-opening-in-Open.field-0 c.in-Open.is refl c.in_ok-opening-in-Open.ensures

pub returns-in_ok-leaving-in-Stop-clause-given : goal.returns-in_ok-leaving-in-Stop-clause-given
returns-in_ok-leaving-in-Stop-clause-given c =
    let n = c.args.self.now in
    gave-is n c.args.input Stop (rule.leaving n.config n.standing.asked) c.in_ok-leaving-in-Stop.field-0 c.in-Stop.is refl c.in_ok-leaving-in-Stop.ensures

pub returns-in_ok-draining-in-Drain-clause-given : goal.returns-in_ok-draining-in-Drain-clause-given
returns-in_ok-draining-in-Drain-clause-given c =
    let n = c.args.self.now in
    gave-is n c.args.input Drain (rule.draining n.config n.standing.seq n.standing.asked c.args.input.now n.standing.asked.store.items) c.in_ok-draining-in-Drain.field-0 c.in-Drain.is refl c.in_ok-draining-in-Drain.ensures.given

pub returns-in-Cut-clause-given : goal.returns-in-Cut-clause-given
returns-in-Cut-clause-given c =
    let n = c.args.self.now in
    gave-is n c.args.input Cut (record (rule.nothing n.standing.asked) { phase = Idle }) c.cutting.result c.in-Cut.is refl c.cutting.ensures

pub returns-in-Pass-clause-given : goal.returns-in-Pass-clause-given
returns-in-Pass-clause-given c =
    let n = c.args.self.now in
    gave-is n c.args.input Pass (rule.nothing n.standing.asked) c.nothing.result c.in-Pass.is refl c.nothing.ensures

-- a command as the registry and the names of the node have it
pub returns-in_err-orders-in-Command-clause-fault :
    goal.returns-in_err-orders-in-Command-clause-fault
returns-in_err-orders-in-Command-clause-fault c =
    let n = c.args.self.now in
    let topic = c.in-Command.topic.now in
    let payload = c.in-Command.payload.now in
    let same : command_of n.config n.standing.asked.book topic payload ≡ command_of (config_view c.self.inside.config) c.self.inside.registry topic payload =
    ap (λ (n : NodeData). command_of n.config n.standing.asked.book topic payload) (sym c.self.view_is) in
    let p = err_from_is_err_and c.from_residual-in_err-orders-in-Command.result c.from_residual-in_err-orders-in-Command.ensures.1 in
    rw (p.1, p.2) (command-refused n c.args.input topic payload c.in_err-orders-in-Command.field-0.0 (ap act_view c.in-Command.is)
    (with-same (command_of (config_view c.self.inside.config) c.self.inside.registry topic payload) (command_of n.config n.standing.asked.book topic payload) c.in_err-orders-in-Command.field-0.0 same c.in_err-orders-in-Command.ensures.fault))

pub returns-in_ok-orders-in-Command-clause-given :
    goal.returns-in_ok-orders-in-Command-clause-given
returns-in_ok-orders-in-Command-clause-given c =
    let n = c.args.self.now in
    let topic = c.in-Command.topic.now in
    let payload = c.in-Command.payload.now in
    let orders = map order_view c.in_ok-orders-in-Command.orders.items in
    let some : command_of n.config n.standing.asked.book topic payload ≡ Some orders =
    ap (λ (n : NodeData). command_of n.config n.standing.asked.book topic payload) (sym c.self.view_is) ∙ c.in_ok-orders-in-Command.ensures.some in
    if-ok (λ g. given_view g ≡ given_of n.config n.standing.asked.heard (rule.obeying n.standing.asked c.args.input.now orders)) (IsGivenBy n (input_view c.args.input)) c.obeying.result
    (λ g given. command-given n c.args.input topic payload orders g (ap act_view c.in-Command.is) some given) c.obeying.ensures.given

pub returns-in_ok-orders-in-Command-clause-fault :
    goal.returns-in_ok-orders-in-Command-clause-fault
returns-in_ok-orders-in-Command-clause-fault c =
    let n = c.args.self.now in
    let topic = c.in-Command.topic.now in
    let payload = c.in-Command.payload.now in
    let orders = map order_view c.in_ok-orders-in-Command.orders.items in
    let some : command_of n.config n.standing.asked.book topic payload ≡ Some orders =
    ap (λ (n : NodeData). command_of n.config n.standing.asked.book topic payload) (sym c.self.view_is) ∙ c.in_ok-orders-in-Command.ensures.some in
    if-err (λ e. (e ≡ fault.NoMemory) ⊎ ((e ≡ fault.ClockEnd) × (rule.is_timely (rule.obeying n.standing.asked c.args.input.now orders) ≡ false))) (IsRefusedBy n (input_view c.args.input)) c.obeying.result
    (λ e why. command-late n c.args.input topic payload orders e (ap act_view c.in-Command.is) some why) c.obeying.ensures.fault

-- a STATE, which has no other input but its moment
pub returns-in-State-clause-given : goal.returns-in-State-clause-given
returns-in-State-clause-given c =
    let n = c.args.self.now in
    let act = inputs.State c.in-State.payload.now in
    if-ok (IsGivenBy n (plain_input c.args.input.now act)) (IsGivenBy n (input_view c.args.input)) c.stating.result
    (λ g given. plain-given n c.args.input act g (ap act_view c.in-State.is) given) c.stating.ensures.given

pub returns-in-State-clause-fault : goal.returns-in-State-clause-fault
returns-in-State-clause-fault c =
    let n = c.args.self.now in
    let act = inputs.State c.in-State.payload.now in
    if-err (IsRefusedBy n (plain_input c.args.input.now act)) (IsRefusedBy n (input_view c.args.input)) c.stating.result
    (λ e refused. plain-refused n c.args.input act e (ap act_view c.in-State.is) refused) c.stating.ensures.fault
