use Rattle.std.proofs.Common.{arith, ◌≡◌, ◌∙◌, ◌≤◌, ◌+◌, ◌++◌, List, ap, append-nil, subst, sym, take, ℕ, Vec, Global}
use Rattle.std.specs.List.{flat_map}
use Rattle.spk_broker_rules.specs.Step.{silent_at}
use Rattle.spk_broker.specs.Asking.{sessions_now}
use Rattle.spk_broker.specs.Calm.{AreCalm}
use Rattle.spk_broker.specs.View.{session_now}
use Rattle.spk_broker.proofs.Silence.{calm-more, silent-more}
use Rattle.spk_broker.proofs.keep_alive.look.Goals as goal
use Rattle.spk_broker.proofs.keep_alive.look.Goals.{in-Some+in_ok-push, in_default}

pub loop-session-preserved : goal.loop-session-preserved
loop-session-preserved c =
    let soon : c.loop-session.until ≤ c.args.clock + 1500 = c.loop-session.invariant.2 in
    let more : c.loop-session.silent.items ++ flat_map (silent_at c.args.clock) (session_now c.session-item.result) ≡ flat_map (silent_at c.args.clock) (sessions_now (take (c.loop-session.session-index + 1) c.args.sessions.now)) =
    silent-more c.args.clock c.args.sessions.now c.loop-session.session-index _ c.session-item.result c.loop-session.silent.items (omega arith) c.session-item.is c.loop-session.invariant.0 in (
      elim c.match-silent.branch [
        | in-Some+in_ok-push w ↦ ap (λ (v : Vec ℕ Global). v.items) w.silent-is ∙ w.in_ok-push.ensures.items ∙ ap (λ (l : List ℕ). c.loop-session.silent.items ++ l) w.in-Some.ensures ∙ more
        | in_default w ↦ ap (λ (v : Vec ℕ Global). v.items) w.silent-is ∙ sym (append-nil c.loop-session.silent.items) ∙ ap (λ (l : List ℕ). c.loop-session.silent.items ++ l) w.in_default.ensures ∙ more
      ],
      subst (λ n. AreCalm n (sessions_now (take (c.loop-session.session-index + 1) c.args.sessions.now))) (sym c.min-until.ensures)
          (calm-more c.loop-session.until c.due.result c.args.sessions.now c.loop-session.session-index _ c.session-item.result (omega arith) c.session-item.is c.loop-session.invariant.1 c.due.ensures),
      omega (arith, c.min-until.ensures, soon),
    )
