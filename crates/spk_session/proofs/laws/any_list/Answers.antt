use Rattle.std.proofs.Common.{refl, subst, arith, []}
use Rattle.spk_session.specs.PacketIds.{AreIds}
use Rattle.spk_session.specs.Step.{fresh_standing}
use Rattle.spk_session.proofs.CircleLemmas.{next_free}
use Rattle.spk_session.proofs.Histories.{tied, tied-start, same_replies}
use Rattle.spk_session.proofs.laws.any_list.Goals as goal

pub returns-clause-replies : goal.returns-clause-replies
returns-clause-replies c = λ limit calls fits. same_replies calls [] (fresh_standing limit) limit refl fits (tied-start limit)

pub returns-clause-used : goal.returns-clause-used
returns-clause-used c = λ limit calls. (tied calls [] (fresh_standing limit) (tied-start limit)).used

pub returns-clause-ids : goal.returns-clause-ids
returns-clause-ids c = λ calls.
    subst AreIds (tied calls [] (fresh_standing 1) (tied-start 1)).used (tied calls [] (fresh_standing 1) (tied-start 1)).ids

pub returns-clause-next : goal.returns-clause-next
returns-clause-next c = λ used last ids. next_free used last ids.in_range (omega (arith, ids.few))

pub returns-clause-last : goal.returns-clause-last
returns-clause-last c = λ limit calls. (tied calls [] (fresh_standing limit) (tied-start limit)).last
