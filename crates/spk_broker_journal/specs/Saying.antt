-- What contracts see of a message as its PUBLISH says it.
use Rattle.spk_broker_snapshot.specs.Together as plain
use Rattle.spk_broker.specs.Restoring.{message_view}
use Rattle.spk_broker_journal.specs.declared.saying.Sent.{Sent}

abbrev pub sent_view : Sent → plain.Sent
sent_view x = record { dup = x.dup; id = x.id; app_message = message_view x.message }
