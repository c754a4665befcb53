use Rattle.std.proofs.Common.{◌≡◌, ◌∙◌, List, ap, map, sym, subst, length, rules}
use Rattle.std.proofs.lemmas.List.{with_items_is}
use Rattle.std.specs.List.{find, flat_map, position}
use Rattle.std.specs.Vec.{with_items}
use Rattle.spk_broker_rules.specs.Data as plain
use Rattle.spk_broker_rules.specs.Lawful.{Rises}
use Rattle.spk_broker_rules.specs.Step.{is_away}
use Rattle.spk_broker.specs.Asking.{passes, sessions_now}
use Rattle.spk_broker.specs.Both.{Both}
use Rattle.spk_broker.specs.Changes.{forgot}
use Rattle.spk_broker.specs.View.{session_now, session_was}
use Rattle.spk_broker.proofs.States.{forgets}
use Rattle.spk_broker.proofs.state.State.forget.Goals as goal

pub returns-clause-done : goal.returns-clause-done
returns-clause-done c = λ draft t s.
    let len : length c.end_away.new.sessions ≡ c.args.self.now.sessions.len = search rules in
    let same = with_items_is c.args.self.now.sessions c.end_away.new.sessions len in
    let rises = subst (Rises 0 t.broker.made) (sym (ap sessions_now c.deref_mut.ensures.value ∙ ap (λ (b : plain.Broker). b.sessions) s.broker)) s.lawful.keys in
    forgets c.args.self.now draft t c.args.client.now (with_items c.args.self.now.sessions c.end_away.new.sessions) _ s
    (ap sessions_now same ∙ c.end_away.ensures.now 0 t.broker.made rises
    ∙ ap (λ xs. forgot (find (is_away c.args.client.now) (sessions_now xs)) (sessions_now xs)) c.deref_mut.ensures.value)

pub returns-clause-still : goal.returns-clause-still
returns-clause-still c none still =
    let len : length c.end_away.new.sessions ≡ c.args.self.now.sessions.len = search rules in
    let same = with_items_is c.args.self.now.sessions c.end_away.new.sessions len in
    subst (λ (bs : List Both). flat_map session_now bs ≡ map session_was bs) (sym (same ∙ c.end_away.ensures.none none ∙ c.deref_mut.ensures.value)) still

pub end_away-requires : goal.end_away-requires
end_away-requires c = c.requires.away ∙ ap (λ (bs : List Both). position (passes (is_away c.args.client.now)) bs) (sym c.deref_mut.ensures.value)
