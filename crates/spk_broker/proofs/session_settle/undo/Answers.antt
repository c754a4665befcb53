use Rattle.std.proofs.Common.{ap, ◌<◌, ◌∙◌, [], ◌∷◌, sym, refl, length, arith}
use Rattle.spk_broker_rules.specs.Words.{option_list}
use Rattle.spk_broker.specs.Both.{Both}
use Rattle.spk_broker.specs.View.{session_now, session_was}
use Rattle.spk_broker.proofs.Flats.{single-flat}
use Rattle.spk_broker.proofs.Walks.{walk-step, walk-end, same-step}
use Rattle.spk_broker.proofs.session_settle.undo.Goals as goal

pub loop-session-preserved : goal.loop-session-preserved
loop-session-preserved c =
    let below : c.loop-session.session-index < length c.loop-session.sessions = omega arith in
    record {
      was = same-step session_was c.loop-session.sessions c.loop-session.session-index _ _ c.undo.new.self refl c.undo.ensures.was ∙ c.loop-session.invariant.was;
      now = walk-step session_now (λ (b : Both). b.was ∷ []) c.loop-session.sessions c.loop-session.session-index _ _ c.undo.new.self below refl (ap option_list c.undo.ensures.now) ∙ c.loop-session.invariant.now;
    }

pub returns-clause-now : goal.returns-clause-now
returns-clause-now c =
    sym (walk-end session_now (λ (b : Both). b.was ∷ []) c.loop-session.sessions c.loop-session.session-index (omega arith)) ∙ c.loop-session.invariant.now ∙ single-flat session_was c.args.sessions.now
