use Rattle.std.proofs.Common.{◌++◌, ◌∙◌, ap, refl, sym}
use Rattle.std.specs.Option.{option_map}
use Rattle.spk_outbox.specs.Calls as outbox
use Rattle.spk_outbox.specs.Data.{fresh_outbox, waiting}
use Rattle.spk_clients.specs.declared.client.Client.{Client}
use Rattle.spk_server.specs.Calls.{room_with}
use Rattle.spk_server.specs.Log.{any_deed}
use Rattle.spk_server.specs.Past.{outbox_of}
use Rattle.spk_server.proofs.Histories.{owes}
use Rattle.spk_server.proofs.laws.written_and_waiting_are_owed.Goals as goal

pub returns : goal.returns
returns c = λ y log r k x run is.
    ap (λ o. outbox.sent (outbox_of k log) fresh_outbox ++ waiting o) (sym (owes k any_deed log (room_with y) r run refl x.outbox (ap (option_map (λ (z : Client). z.outbox)) is)))
    ∙ c.written_and_waiting_are_owed.ensures (outbox_of k log)
