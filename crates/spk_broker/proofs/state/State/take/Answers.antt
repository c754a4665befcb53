use Rattle.std.proofs.Common.{◌≡◌, ◌∙◌, ◌∷◌, [], ap, map, sym, subst, length, rules, string_bytes}
use Rattle.std.proofs.lemmas.List.{with_items_is}
use Rattle.std.specs.Vec.{with_items}
use Rattle.spk_broker_rules.specs.Data as plain
use Rattle.spk_broker_rules.specs.Lawful.{Rises}
use Rattle.spk_broker_rules.specs.Step.{session_by}
use Rattle.spk_broker.specs.Asking.{place_in, sessions_now}
use Rattle.spk_broker.specs.Changes.{changed_at}
use Rattle.spk_broker.specs.Granting.{without_grants}
use Rattle.spk_broker.specs.Touched.{AreTouched}
use Rattle.spk_broker.proofs.States.{takes}
use Rattle.spk_broker.proofs.state.State.take.Goals as goal

pub returns-clause-done : goal.returns-clause-done
returns-clause-done c = λ draft t s.
    let len : length c.take_in.new.sessions ≡ c.args.self.now.sessions.len = search rules in
    let same = with_items_is c.args.self.now.sessions c.take_in.new.sessions len in
    let names = map (λ name. string_bytes name) c.args.names.now in
    let rises = subst (Rises 0 t.broker.made) (sym (ap sessions_now c.deref_mut.ensures.value ∙ ap (λ (b : plain.Broker). b.sessions) s.broker)) s.lawful.keys in
    takes c.args.self.now draft t c.args.conn names (with_items c.args.self.now.sessions c.take_in.new.sessions) _ s
    (ap sessions_now same ∙ c.in_ok-take_in.ensures.now 0 t.broker.made rises
    ∙ ap (λ xs. changed_at (session_by c.args.conn (sessions_now xs)) (without_grants names) (sessions_now xs)) c.deref_mut.ensures.value)

pub take_in-requires : goal.take_in-requires
take_in-requires c = ap (place_in c.args.conn) c.deref_mut.ensures.value ∙ c.requires

pub returns-clause-only : goal.returns-clause-only
returns-clause-only c o =
    let len : length c.take_in.new.sessions ≡ c.args.self.now.sessions.len = search rules in
    record {
      sessions = subst (AreTouched (c.args.place ∷ [])) (sym (with_items_is c.args.self.now.sessions c.take_in.new.sessions len))
          (c.take_in.ensures.touched (subst (AreTouched (c.args.place ∷ [])) (sym c.deref_mut.ensures.value) o.sessions));
      newcomers = o.newcomers;
    }
