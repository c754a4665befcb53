use Rattle.std.proofs.Common.{◌≡◌, ◌≤◌, ◌∙◌, List, sym, subst}
use Rattle.spk_packets.specs.View.{view}
use Rattle.spk_broker.specs.Asking.{sessions_now}
use Rattle.spk_broker.specs.Both.{Both}
use Rattle.spk_broker.specs.Filing.{is_publish}
use Rattle.spk_broker.specs.Sizes.{size_of_all}
use Rattle.spk_broker.specs.View.{state_now}
use Rattle.spk_broker.proofs.Follows.{make-held}
use Rattle.spk_broker.proofs.index.GrantIndex.make.Goals as goal

pub returns-then-is_some : goal.returns-then-is_some
returns-then-is_some c =
    make-held c.index_for.result c.unwrap_or.result (is_publish (view c.args.packet.now)) (state_now c.args.state.now).sessions c.total-self.result c.unwrap_or.ensures
    (sym c.is_some.ensures ∙ c.if-is_some.true) c.index_for.ensures.none c.index_for.ensures.made c.index_for.ensures.index
    (subst (λ (bs : List Both). size_of_all (sessions_now bs) ≤ 100000 → c.total-self.result ≡ size_of_all (sessions_now bs)) c.deref.ensures.value c.total-self.ensures)
