use Rattle.std.proofs.Common.{ap, refl}
use Rattle.std.specs.Option.{option_map}
use Rattle.spk_clients.specs.declared.client.Client.{Client}
use Rattle.spk_server.specs.Calls.{room_with}
use Rattle.spk_server.specs.Log.{any_deed}
use Rattle.spk_server.specs.Past.{stream_of}
use Rattle.spk_server.proofs.Histories.{streams}
use Rattle.spk_server.proofs.laws.packets_are_spelled.Goals as goal

pub returns-clause-stream : goal.returns-clause-stream
returns-clause-stream c = λ a log r k x run is. streams k any_deed log (room_with a) r run refl x.feed (ap (option_map (λ (y : Client). y.feed)) is)

pub returns-clause-first : goal.returns-clause-first
returns-clause-first c = λ a log r k x others more y run is other same no.
    c.any_pieces.ensures.first (stream_of k log) others x.feed y more (streams k any_deed log (room_with a) r run refl x.feed (ap (option_map (λ (z : Client). z.feed)) is)) other same no
