-- What contracts see of the crate's types.
use Rattle.std.specs.Prelude.{map}
use Rattle.std.specs.Option.{option_map}
use Rattle.std.specs.String.{string_bytes}
use Rattle.spk_payload.specs.Typing.{typed_view}
use Rattle.spk_payload.specs.View.{payload_view}
use Rattle.spk_world_rules.specs.Answers as answer
use Rattle.spk_world_rules.specs.Files as file
use Rattle.spk_world_run.specs.Data as plain
use Rattle.spk_world.specs.declared.answer.Done.{Done}
use Rattle.spk_world.specs.declared.answer.Done.TheVariants as done
use Rattle.spk_world.specs.declared.event.Event.{Event}
use Rattle.spk_world.specs.declared.event.Event.TheVariants as event
use Rattle.spk_world.specs.declared.records.Published.{Published}
use Rattle.spk_world.specs.declared.records.Consumed.{Consumed}
use Rattle.spk_world.specs.declared.track.Track.{Track}

abbrev pub event_view : Event → file.Event
event_view (event.Open node now) = file.Open node now
event_view (event.Accepted node now) = file.Accepted node now
event_view (event.Drain node now) = file.Drain node now
event_view (event.Stop node now) = file.Stop node now
event_view (event.Cut node) = file.Cut node
event_view (event.Set node now alias value) = file.Set node now alias (option_map typed_view value)
event_view (event.Device node now name up) = file.Device node now (string_bytes name) up
event_view (event.Rebirth node now) = file.Rebirth node now
event_view (event.State node now online timestamp) = file.State node now online timestamp
event_view (event.Hand host node position now) = file.Hand host node position now
event_view (event.Death host node session now) = file.Death host node session now
event_view (event.Tick host now) = file.Tick host now
event_view (event.Session host now) = file.Session host now

abbrev pub done_view : Done → answer.Answer
done_view (done.Edge added) = answer.Added added
done_view (done.Hand step) = answer.Stepped step
done_view (done.Death match) = answer.Told match
done_view (done.Tick gaps) = answer.Gaps gaps
done_view done.Session = answer.Renewed

abbrev pub published_view : Published → plain.PublishedData
published_view m = record {
  birth = m.birth;
  session = m.session;
  stamp = m.stamp;
  topic = string_bytes m.topic;
  payload = payload_view m.payload;
}

abbrev pub consumed_view : Consumed → plain.ConsumedData
consumed_view m = record { position = m.position; topic = string_bytes m.topic; payload = payload_view m.payload }

abbrev pub track_view : Track → plain.Track
track_view t = record {
  reach = t.reach;
  session = t.session;
  births = t.births.items;
  consumed = map consumed_view t.consumed.items;
}
