use Rattle.std.proofs.Common.{◌≡◌, ◌⊎◌, ◌∙◌, ap, sym, not, true, false, is_some}
use Rattle.std.proofs.lemmas.Result.{err_from_is_err_and}
use Rattle.std.specs.String.{string_bytes}
use Rattle.spk_state.specs.Step.{after_heard, heard_as}
use Rattle.spk_edge_rules.specs.Inputs as inputs
use Rattle.spk_edge_rules.specs.Rules as rule
use Rattle.spk_edge_rules.specs.declared.fault.EdgeFault.TheVariants as fault
use Rattle.spk_edge.specs.Patch.{IsGivenBy, IsRefusedBy, plain_input}
use Rattle.spk_edge.specs.View.{NodeData, given_of, given_view}
use Rattle.spk_edge.proofs.Heard.{some-mapped, stated, stated-badly, stated-late, unstated}
use Rattle.spk_edge.proofs.Plans.{if-err, if-ok}
use Rattle.spk_edge.proofs.node.EdgeNode.stating.Goals as goal

pub returns-then-is_none-clause-given : goal.returns-then-is_none-clause-given
returns-then-is_none-clause-given c =
    let n = c.args.self.now in
    let none : is_some n.config.primary ≡ false =
    ap (λ (n : NodeData). is_some n.config.primary) (sym c.self.view_is) ∙ some-mapped string_bytes c.self.inside.config.primary ∙ c.is_none.ensures ∙ ap not c.if-is_none.true in
    unstated n c.args.now c.args.payload.now c.nothing.result none c.nothing.ensures

pub returns-in_err-state-clause-fault : goal.returns-in_err-state-clause-fault
returns-in_err-state-clause-fault c =
    let n = c.args.self.now in
    let some : is_some n.config.primary ≡ true =
    ap (λ (n : NodeData). is_some n.config.primary) (sym c.self.view_is) ∙ some-mapped string_bytes c.self.inside.config.primary ∙ c.is_none.ensures ∙ ap not c.if-is_none.false in
    let p = err_from_is_err_and c.from_residual.result c.from_residual.ensures.1 in
    rw (p.1, p.2) (stated-badly n c.args.now c.args.payload.now c.in_err-state.field-0.0 some c.in_err-state.ensures.fault)

pub returns-clause-given : goal.returns-clause-given
returns-clause-given c =
    let n = c.args.self.now in
    let some : is_some n.config.primary ≡ true =
    ap (λ (n : NodeData). is_some n.config.primary) (sym c.self.view_is) ∙ some-mapped string_bytes c.self.inside.config.primary ∙ c.is_none.ensures ∙ ap not c.if-is_none.false in
    let s = c.in_ok-state.state in
    if-ok (λ g. given_view g ≡ given_of n.config (after_heard n.standing.asked.heard s) (rule.hearing n.config n.standing.asked c.args.now (heard_as n.standing.asked.heard s)))
    (IsGivenBy n (plain_input c.args.now (inputs.State c.args.payload.now))) c.hearing_state.result
    (λ g given. stated n c.args.now c.args.payload.now s g some c.in_ok-state.ensures.state given) c.hearing_state.ensures.given

pub returns-clause-fault : goal.returns-clause-fault
returns-clause-fault c =
    let n = c.args.self.now in
    let some : is_some n.config.primary ≡ true =
    ap (λ (n : NodeData). is_some n.config.primary) (sym c.self.view_is) ∙ some-mapped string_bytes c.self.inside.config.primary ∙ c.is_none.ensures ∙ ap not c.if-is_none.false in
    let s = c.in_ok-state.state in
    if-err (λ e. (e ≡ fault.NoMemory) ⊎ ((e ≡ fault.ClockEnd) × (rule.is_timely (rule.hearing n.config n.standing.asked c.args.now (heard_as n.standing.asked.heard s)) ≡ false)))
    (IsRefusedBy n (plain_input c.args.now (inputs.State c.args.payload.now))) c.hearing_state.result
    (λ e why. stated-late n c.args.now c.args.payload.now s e some c.in_ok-state.ensures.state why) c.hearing_state.ensures.fault
