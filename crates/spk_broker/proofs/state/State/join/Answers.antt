use Rattle.std.proofs.Common.{◌≡◌, ◌∙◌, ap, refl, subst, sym, Bool, true, false, not}
use Rattle.std.specs.List.{position}
use Rattle.std.specs.Option.{option_map}
use Rattle.spk_broker_rules.specs.Data as plain
use Rattle.spk_broker_rules.specs.Lawful.{IsLawful}
use Rattle.spk_broker_rules.specs.Plan.{join}
use Rattle.spk_broker_rules.specs.Step.{Turn, acts, is_away, older_in}
use Rattle.spk_broker_rules.specs.Words.{option_list}
use Rattle.spk_broker.specs.Asking.{is_joined_by, passes, sessions_now}
use Rattle.spk_broker.specs.Connecting.{Comes}
use Rattle.spk_broker.specs.Parts.{app_message_view}
use Rattle.spk_broker.specs.declared.state.State.{State}
use Rattle.spk_broker.specs.declared.out.Draft.{Draft}
use Rattle.spk_broker.proofs.Accepting.{joins, tells-older}
use Rattle.spk_broker.proofs.state.State.join.Goals as goal

pub returns-clause-done : goal.returns-clause-done
returns-clause-done c t s =
    let last : Draft = record c.tell_older.new.self { is_still = c.if-is_none.draft } in
    let over = c.in_ok-take_over.ensures.done t s in
    let clean = c.clean_up-was_kept.ensures.done _ _ over in
    let comes = c.in_ok-entry.ensures.done _ clean in
    let told = tells-older c.older-older.result c.accept.new.self c.accept.new.draft last c.in_ok-entry.entry _ (option_list c.older-older.result) refl c.in_ok-tell_older.ensures comes in
    let found : c.older-older.result ≡ older_in c.args.client.now t.broker.sessions =
    c.older-older.ensures ∙ ap (λ ss. older_in c.args.client.now (sessions_now ss)) c.deref-2.ensures.value ∙ ap (λ (b : plain.Broker). older_in c.args.client.now b.sessions) s.broker in
    subst (λ (u : Turn). Comes c.accept.new.self last c.in_ok-entry.entry u)
    (joins c.older-older.result c.args.conn c.args.client.now c.args.clean c.args.alive (option_map app_message_view c.args.will) t
    ∙ ap (λ o. acts (join o c.args.conn c.args.client.now c.args.clean c.args.alive (option_map app_message_view c.args.will)) t) found)
    told

pub older-older-requires : goal.older-older-requires
older-older-requires c = c.client_places-places.ensures.joined ∙ ap (position (passes (is_joined_by c.args.client.now))) (c.deref.ensures.value ∙ sym c.deref-2.ensures.value)

pub away_now-away-requires : goal.away_now-away-requires
away_now-away-requires c = λ e.
    c.client_places-places.ensures.away ∙ ap (position (passes (is_away c.args.client.now))) c.deref.ensures.value
    ∙ ap (λ (d : State). position (passes (is_away c.args.client.now)) d.sessions.items) (sym (c.take_over.ensures.none e))

pub accept-requires-clause-lawful : goal.accept-requires-clause-lawful
accept-requires-clause-lawful c = subst IsLawful (sym (c.clean_up-was_kept.ensures.same ∙ c.take_over.ensures.same)) c.requires.lawful

is-clean : (b : Bool) → not b ≡ true → b ≡ false
is-clean false e = refl
is-clean true e = cc

pub accept-requires-clause-away : goal.accept-requires-clause-away
accept-requires-clause-away c = λ kept.
    c.away_now-away.ensures
    ∙ ap (λ (d : State). position (passes (is_away c.args.client.now)) d.sessions.items) (sym (c.clean_up-was_kept.ensures.kept (is-clean c.args.clean kept)))
