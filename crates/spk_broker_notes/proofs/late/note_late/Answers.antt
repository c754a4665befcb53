use Rattle.std.proofs.Common.{sym, ap, ◌∙◌, Some}
use Rattle.std.specs.Option.{option_map}
use Rattle.spk_broker_notes.specs.Logs.{log_view, with_late}
use Rattle.spk_broker_notes.specs.Noted.{Notes}
use Rattle.spk_broker_notes.proofs.Pings.{so-late}
use Rattle.spk_broker_notes.proofs.late.note_late.Goals as goal

pub returns-in-Ok-clause-done : goal.returns-in-Ok-clause-done
returns-in-Ok-clause-done c =
    ap (λ (n : Notes). Some n) (so-late c.args.clock c.args.broker.now (log_view c.in-Some.log) c.in-Some-checked_add.moment c.add_late.new.bytes.items
    (sym c.in_ok-is_late.ensures ∙ c.if-not-branch.false) (sym c.in-Some-checked_add.ensures.1) c.in-Ok.ensures.added)
    ∙ sym (ap (λ o. option_map (with_late c.args.clock c.args.broker.now) (option_map log_view o)) c.in-Some.is)
