use Rattle.std.proofs.Common.{◌∙◌, ap, map, refl, sym, true, false, Global}
use Rattle.std.proofs.lemmas.List.{length-map}
use Rattle.spk_packets.specs.View.{request_view}
use Rattle.spk_broker.specs.Parts.{grant_view, retained_view}
use Rattle.spk_broker_rules.specs.Words.{is_heavy}
use Rattle.spk_broker.proofs.Filtering.{are-filters}
use Rattle.spk_broker.proofs.Gives.{heavy-is, subscribe-leads}
use Rattle.spk_broker.proofs.Sendables.{suback-writable}
use Rattle.spk_broker.proofs.state.State.subscribe.Goals as goal

pub granted_at-requires-clause-filters : goal.granted_at-requires-clause-filters
granted_at-requires-clause-filters c = are-filters (map request_view c.args.entries.now) (sym c.has_bad_entry.ensures ∙ c.if-has_bad_entry.false)

pub give_at-requires-clause-writable : goal.give_at-requires-clause-writable
give_at-requires-clause-writable c =
    suback-writable c.args.id (map request_view c.args.entries.now) c.in_ok-granting.granting.codes.items
    (c.in_ok-granting.ensures.codes ∙ sym (length-map c.args.entries.now request_view)) c.in_ok-granting.ensures.granted c.requires.writable

pub returns-then-has_bad_entry-clause-done : goal.returns-then-has_bad_entry-clause-done
returns-then-has_bad_entry-clause-done c seen t heavy s =
    subscribe-leads c.shut_at.new.self c.shut_at.new.draft c.in_ok-ending.ending seen c.args.conn c.args.id (map request_view c.args.entries.now) t true seen.heavy
    (sym c.has_bad_entry.ensures ∙ c.if-has_bad_entry.true) refl (c.in_ok-ending.ensures.done t s)

pub returns-then-is_heavy-clause-done : goal.returns-then-is_heavy-clause-done
returns-then-is_heavy-clause-done c seen t heavy s =
    let (session, sitting, grown) = c.in_ok-granting.ensures.view c.args.draft.now t s in
    subscribe-leads c.shut_at-then-is_heavy.new.self c.shut_at-then-is_heavy.new.draft c.in_ok-ending-2.ending seen c.args.conn c.args.id (map request_view c.args.entries.now) t false true
    (sym c.has_bad_entry.ensures ∙ c.if-has_bad_entry.false)
    (heavy ∙ sym (heavy-is c.args.self.now c.args.draft.now t c.args.conn (map request_view c.args.entries.now) session c.in_ok-granting.granting c.requires.keeps s sitting grown)
    ∙ ap (λ l. is_heavy (map (retained_view {A = Global}) c.args.self.now.retained.entries) (map grant_view l)) (sym c.deref.ensures.value) ∙ sym c.is_heavy.ensures ∙ c.if-is_heavy.true)
    (c.in_ok-ending-2.ensures.done t s)

pub returns-clause-done : goal.returns-clause-done
returns-clause-done c seen t heavy s =
    let (session, sitting, grown) = c.in_ok-granting.ensures.view c.args.draft.now t s in
    subscribe-leads c.route_near.new.self c.route_near.new.draft c.in_ok-ending-3.ending seen c.args.conn c.args.id (map request_view c.args.entries.now) t false false
    (sym c.has_bad_entry.ensures ∙ c.if-has_bad_entry.false)
    (heavy ∙ sym (heavy-is c.args.self.now c.args.draft.now t c.args.conn (map request_view c.args.entries.now) session c.in_ok-granting.granting c.requires.keeps s sitting grown)
    ∙ ap (λ l. is_heavy (map (retained_view {A = Global}) c.args.self.now.retained.entries) (map grant_view l)) (sym c.deref.ensures.value) ∙ sym c.is_heavy.ensures ∙ c.if-is_heavy.false)
    (c.in_ok-ending-3.ensures.done _ (c.in_ok-give_at.ensures.done t session (map request_view c.args.entries.now) s sitting grown))
