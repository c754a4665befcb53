use Rattle.std.proofs.Common.{◌≡◌, ◌∙◌, ap, sym, None, Bool, List, ℕ, Option}
use Rattle.std.specs.Option.{option_map}
use Rattle.spk_packets.specs.Message.{WillData}
use Rattle.spk_packets.specs.View.{will_view}
use Rattle.spk_broker_rules.specs.Data as plain
use Rattle.spk_broker_rules.specs.Plan.{Seen, connect, join}
use Rattle.spk_broker_rules.specs.Step.{Turn, acts, welcome_in}
use Rattle.spk_broker_rules.specs.Words.{will_message}
use Rattle.spk_broker.specs.Asking.{sessions_now}
use Rattle.spk_broker.specs.Connecting.{Comes, acts_of, judged}
use Rattle.spk_broker.specs.Parts.{app_message_view}
use Rattle.spk_broker.specs.View.{Stands}
use Rattle.spk_broker.specs.declared.connect.Judged.{Judged}
use Rattle.spk_broker.specs.declared.connect.Judged.TheVariants.{Refused, Shut, Joins}
use Rattle.spk_broker.specs.declared.state.State.{State}
use Rattle.spk_broker.specs.declared.accept.Entry.{Entry}
use Rattle.spk_broker.specs.declared.out.Draft.{Draft}
use Rattle.spk_broker.proofs.Accepting.{connects}
use Rattle.spk_broker.proofs.state.State.connect.Goals as goal

-- what was judged, as the rules' acts
acts_are : (j : Judged) (ss : List plain.Session) (seen : Seen) (conn : ℕ) (client : List ℕ) (clean : Bool) (alive : ℕ) (will : Option WillData) (t : Turn)
    → judged (welcome_in client ss) client clean will ≡ j → ss ≡ t.broker.sessions → seen.welcome ≡ welcome_in client t.broker.sessions
    → acts (acts_of j seen.older conn client clean alive (option_map will_message will)) t ≡ acts (connect seen conn client clean alive will) t
acts_are j ss seen conn client clean alive will t is same welcome =
    ap (λ k. acts (acts_of k seen.older conn client clean alive (option_map will_message will)) t)
    (sym is ∙ ap (λ w. judged w client clean will) (ap (welcome_in client) same ∙ sym welcome))
    ∙ ap (λ as_list. acts as_list t) (connects seen conn client clean alive will)

nothing_enters : (d : State) (x : Draft) (t u : Turn) → Stands d x t → t ≡ u → Comes d x None u
nothing_enters d x t u s e = record { before = t; stands = s; is = e }

comes_along : (d : State) (x : Draft) (e : Option Entry) (t u : Turn) → Comes d x e t → t ≡ u → Comes d x e u
comes_along d x e t u c is = record { before = c.before; stands = c.stands; is = c.is ∙ is }

pub returns-in_ok-turn_away-in-Refused-clause-done : goal.returns-in_ok-turn_away-in-Refused-clause-done
returns-in_ok-turn_away-in-Refused-clause-done c seen t older welcome s =
    nothing_enters _ _ _ _ (c.in_ok-turn_away-in-Refused.ensures.done t s)
    (acts_are (Refused c.in-Refused.code) (sessions_now c.deref.result.now) seen c.args.conn c.args.client.now c.args.clean c.args.alive (option_map will_view c.args.will.now) t
    (sym c.judge.ensures ∙ c.in-Refused.is) (ap sessions_now c.deref.ensures.value ∙ ap (λ (b : plain.Broker). b.sessions) s.broker) welcome)

pub returns-in_ok-shut-in-Shut-clause-done : goal.returns-in_ok-shut-in-Shut-clause-done
returns-in_ok-shut-in-Shut-clause-done c seen t older welcome s =
    nothing_enters _ _ _ _ (c.in_ok-shut-in-Shut.ensures.done t s)
    (acts_are Shut (sessions_now c.deref.result.now) seen c.args.conn c.args.client.now c.args.clean c.args.alive (option_map will_view c.args.will.now) t
    (sym c.judge.ensures ∙ c.in-Shut.is) (ap sessions_now c.deref.ensures.value ∙ ap (λ (b : plain.Broker). b.sessions) s.broker) welcome)

pub returns-in_ok-join-in-Joins-clause-done : goal.returns-in_ok-join-in-Joins-clause-done
returns-in_ok-join-in-Joins-clause-done c seen t older welcome s =
    comes_along _ _ _ _ _ (c.in_ok-join-in-Joins.ensures.done t s)
    (ap (λ o. acts (join o c.args.conn c.args.client.now c.args.clean c.args.alive (option_map app_message_view c.in_ok-will-in-Joins.will)) t) (sym older)
    ∙ ap (λ w. acts (join seen.older c.args.conn c.args.client.now c.args.clean c.args.alive w) t) c.in_ok-will-in-Joins.ensures
    ∙ acts_are Joins (sessions_now c.deref.result.now) seen c.args.conn c.args.client.now c.args.clean c.args.alive (option_map will_view c.args.will.now) t
    (sym c.judge.ensures ∙ c.in-Joins.is) (ap sessions_now c.deref.ensures.value ∙ ap (λ (b : plain.Broker). b.sessions) s.broker) welcome)
