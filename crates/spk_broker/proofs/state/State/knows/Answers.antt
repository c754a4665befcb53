use Rattle.std.proofs.Common.{◌≡◌, Bool, true, false, ◌∙◌, ◌||◌, ap, refl, sym}
use Rattle.std.specs.List.{list_any}
use Rattle.spk_broker_rules.specs.Step.{is_newcomer}
use Rattle.spk_broker.specs.Asking.{newcomers_now}
use Rattle.spk_broker.proofs.Near.{joined-in}
use Rattle.spk_broker.proofs.state.State.knows.Goals as goal

or-true : (b : Bool) → b || true ≡ true
or-true true = refl
or-true false = refl

or-false : (b : Bool) → b || false ≡ b
or-false true = refl
or-false false = refl

pub returns-then-is_some : goal.returns-then-is_some
returns-then-is_some c =
    let there = sym c.if-is_some.true ∙ c.is_some.ensures ∙ joined-in c.args.conn c.args.self.now.sessions.items c.args.place c.requires in
    let newcomers = newcomers_now c.args.self.now.newcomers.items in
    c.if-is_some.true ∙ sym (or-true (list_any (is_newcomer c.args.conn) newcomers)) ∙ ap (λ b. list_any (is_newcomer c.args.conn) newcomers || b) there

pub returns-else-is_some : goal.returns-else-is_some
returns-else-is_some c =
    let none = sym c.if-is_some.false ∙ c.is_some.ensures ∙ joined-in c.args.conn c.args.self.now.sessions.items c.args.place c.requires in
    let newcomers = newcomers_now c.args.self.now.newcomers.items in
    c.is_newcomer.ensures ∙ ap (λ gs. list_any (is_newcomer c.args.conn) (newcomers_now gs)) c.deref.ensures.value
    ∙ sym (or-false (list_any (is_newcomer c.args.conn) newcomers)) ∙ ap (λ b. list_any (is_newcomer c.args.conn) newcomers || b) none
