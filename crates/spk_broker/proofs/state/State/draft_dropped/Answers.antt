use Rattle.std.proofs.Common.{◌≡◌, ◌∙◌, ap, sym, true, false, rules}
use Rattle.spk_broker.specs.Asking.{place_in}
use Rattle.spk_broker.proofs.Near.{apart-stands}
use Rattle.spk_broker.proofs.Packeted.{leads-same}
use Rattle.spk_broker.proofs.Ruled.{dropped-leads}
use Rattle.spk_broker.proofs.Touched.{alone-as}
use Rattle.spk_broker.proofs.state.State.draft_dropped.Goals as goal

pub count_drop-requires : goal.count_drop-requires
count_drop-requires c = ap (λ v. place_in c.args.conn v.items) c.at.ensures.sessions ∙ c.requires.place

pub returns-then-not-is_spent-clause-done : goal.returns-then-not-is_spent-clause-done
returns-then-not-is_spent-clause-done c t s =
    let s2 = c.count_drop.ensures.done c.args.draft.now _ (c.at.ensures.done c.args.draft.now t s) in
    let e : c.is_spent.result ≡ false = search rules in
    dropped-leads c.count_drop.new.self c.count_drop.new.self c.args.draft.now c.args.draft.now c.alone.result c.args.conn c.args.now t false s2
    (sym (c.is_spent.ensures (apart-stands c.count_drop.new.self c.args.draft.now _ c.args.conn s2)) ∙ e)
    (leads-same c.count_drop.new.self c.args.draft.now _ c.alone.result c.alone.ensures.nothing s2)

pub returns-then-not-is_spent-clause-ready : goal.returns-then-not-is_spent-clause-ready
returns-then-not-is_spent-clause-ready c =
    c.alone.ensures.ready c.count_drop.new.self
    (c.count_drop.ensures.alone (alone-as c.args.place c.args.self.now c.at.new.self c.at.ensures.sessions c.at.ensures.newcomers c.requires.alone))

pub shut_at-requires-clause-alone : goal.shut_at-requires-clause-alone
shut_at-requires-clause-alone c =
    c.count_drop.ensures.alone (alone-as c.args.place c.args.self.now c.at.new.self c.at.ensures.sessions c.at.ensures.newcomers c.requires.alone)

pub returns-clause-done : goal.returns-clause-done
returns-clause-done c t s =
    let s2 = c.count_drop.ensures.done c.args.draft.now _ (c.at.ensures.done c.args.draft.now t s) in
    let e : c.is_spent.result ≡ true = search rules in
    dropped-leads c.count_drop.new.self c.shut_at.new.self c.args.draft.now c.shut_at.new.draft c.in_ok-ending.ending c.args.conn c.args.now t true s2
    (sym (c.is_spent.ensures (apart-stands c.count_drop.new.self c.args.draft.now _ c.args.conn s2)) ∙ e)
    (c.in_ok-ending.ensures.done _ s2)
