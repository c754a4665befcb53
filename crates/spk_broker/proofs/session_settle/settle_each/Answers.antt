use Rattle.std.proofs.Common.{not, ◌||◌, ap, ◌<◌, ◌∙◌, sym, refl, length, arith}
use Rattle.std.specs.List.{list_any}
use Rattle.std.proofs.lemmas.List.{take_all}
use Rattle.spk_broker_rules.specs.Words.{option_list}
use Rattle.spk_broker.specs.Settling.{has_ended, session_left}
use Rattle.spk_broker.specs.View.{session_now}
use Rattle.spk_broker.proofs.Walks.{any-step, walk-step, walk-end}
use Rattle.spk_broker.proofs.session_settle.settle_each.Goals as goal

pub loop-session-preserved : goal.loop-session-preserved
loop-session-preserved c =
    let below : c.loop-session.session-index < length c.loop-session.sessions = omega arith in
    record {
      now = walk-step session_now session_now c.loop-session.sessions c.loop-session.session-index _ _ c.settle.new.self below refl (ap option_list c.settle.ensures.now) ∙ c.loop-session.invariant.now;
      ended = sym (any-step has_ended c.loop-session.sessions c.loop-session.session-index c.settle.new.self below ∙ ap (λ b. b || has_ended c.settle.new.self) (sym c.loop-session.invariant.ended)
          ∙ ap (λ b. c.loop-session.ended || not b) (sym c.is_there.ensures));
      left = walk-step session_left session_now c.loop-session.sessions c.loop-session.session-index _ _ c.settle.new.self below refl c.settle.ensures.left ∙ c.loop-session.invariant.left;
    }

pub returns-clause-now : goal.returns-clause-now
returns-clause-now c =
    sym (walk-end session_now session_now c.loop-session.sessions c.loop-session.session-index (omega arith)) ∙ c.loop-session.invariant.now

pub returns-clause-left : goal.returns-clause-left
returns-clause-left c =
    sym (walk-end session_left session_now c.loop-session.sessions c.loop-session.session-index (omega arith)) ∙ c.loop-session.invariant.left

pub returns-clause-ended : goal.returns-clause-ended
returns-clause-ended c = c.loop-session.invariant.ended ∙ ap (list_any has_ended) (take_all c.loop-session.session-index c.loop-session.sessions (omega arith))
