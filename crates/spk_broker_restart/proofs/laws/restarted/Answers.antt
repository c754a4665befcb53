use Rattle.std.proofs.Common.{[], ◌++◌, ◌≤◌, length, sym, ap, ◌∙◌, subst, append_assoc}
use Rattle.std.proofs.lemmas.List.{append-nil}
use Rattle.spk_broker_replay.specs.Replay.{Follows, restored, run}
use Rattle.spk_broker_snapshot.specs.Lines.{lines}
use Rattle.spk_broker_notes.specs.Noted as note
use Rattle.spk_broker_journal.specs.Adding as line
use Rattle.spk_broker_journal.specs.Replayed.{together}
use Rattle.spk_broker_restart.specs.Written.{noted}
use Rattle.spk_broker_restart.proofs.Reading.{NotesSay, found, lawful-run, more-noted}
use Rattle.spk_broker_restart.proofs.laws.restarted.Goals as goal

pub returns-clause-any : goal.returns-clause-any
returns-clause-any c = λ limit b r es front lost whole lawful said are few replayed.
    let read = replayed.read in
    let f = found c.one_event.ensures c.one_line.ensures.alone c.one_line.ensures.apart c.torn.ensures.front c.torn.ensures.whole (lines b) [] (noted limit b es) replayed.items read.contents
    front lost read.rest said.of_lines said.of_notes are (subst (λ xs. length xs ≤ length front) (sym (append-nil (line.records (lines b)))) few) read.hold read.said in
    let d = c.restart.ensures.any limit b es f.left f.lost lawful f.all in
    (d.0, d.1, d.2, subst (Follows (run b d.0)) (sym (replayed.is ∙ ap (together limit) f.are)) d.3)

pub returns-clause-synced : goal.returns-clause-synced
returns-clause-synced c = λ limit b r first others front lost whole lawful said are few replayed.
    let read = replayed.read in
    let m = more-noted first others b (restored limit b) in
    let f = found c.one_event.ensures c.one_line.ensures.alone c.one_line.ensures.apart c.torn.ensures.front c.torn.ensures.whole (lines b) (noted limit b first) m.more replayed.items
    read.contents front lost read.rest said.of_lines (subst NotesSay m.are said.of_notes) (are ∙ ap (λ js. line.records (lines b) ++ note.records js) m.are) few read.hold read.said in
    let d = c.restart.ensures.synced limit b first others f.left f.lost lawful (m.are ∙ ap (λ t. noted limit b first ++ t) f.all ∙ sym (append_assoc (noted limit b first) f.left f.lost)) in
    (d.0, d.1, d.2, subst (Follows (run b (first ++ d.0))) (sym (replayed.is ∙ ap (together limit) f.are)) d.3)

pub returns-clause-ended : goal.returns-clause-ended
returns-clause-ended c = λ b r es lawful follows. c.ended.ensures (run b es) r (lawful-run c.lawful.ensures es b lawful) follows
