-- What contracts see of the crate's types.
use Rattle.std.specs.String.{string_bytes}
use Rattle.spk_payload.specs.View.{payload_view}
use Rattle.spk_reading.specs.Data as plain
use Rattle.spk_reading.specs.declared.said.Subject.{Subject}
use Rattle.spk_reading.specs.declared.said.Subject.TheVariants as subject
use Rattle.spk_reading.specs.declared.said.Numbered.{Numbered}
use Rattle.spk_reading.specs.declared.said.Content.{Content}
use Rattle.spk_reading.specs.declared.said.Content.TheVariants as content
use Rattle.spk_reading.specs.declared.said.Heard.{Heard}
use Rattle.spk_reading.specs.declared.said.Heard.TheVariants as heard

abbrev pub subject_view : Subject → plain.SubjectData
subject_view subject.NodeBirth = plain.NodeBirth
subject_view subject.NodeData = plain.NodeData
subject_view (subject.DeviceBirth device) = plain.DeviceBirth (string_bytes device)
subject_view (subject.DeviceData device) = plain.DeviceData (string_bytes device)
subject_view (subject.DeviceDeath device) = plain.DeviceDeath (string_bytes device)

abbrev pub numbered_view : Numbered → plain.NumberedData
numbered_view m = record {
  group = string_bytes m.group;
  node = string_bytes m.node;
  subject = subject_view m.subject;
  number = m.number;
  kind = m.kind;
  topic = string_bytes m.topic;
  payload = payload_view m.payload;
}

abbrev pub content_view : Content → plain.ContentData
content_view (content.Message m) = plain.Message (numbered_view m)
content_view (content.Death group node bd) = plain.Death (string_bytes group) (string_bytes node) bd
content_view content.Nothing = plain.Nothing

abbrev pub heard_view : Heard → plain.HeardData
heard_view (heard.Published ack content) = plain.Published ack (content_view content)
heard_view (heard.Answered code) = plain.Answered code
heard_view heard.Granted = plain.Granted
heard_view heard.Other = plain.Other
