-- What is kept of the words of a host's program.
use Rattle.std.specs.Prelude.{ℕ, List, [], ◌∷◌}
use Rattle.std.specs.Option.{unwrap_or}
use Rattle.spk_sequence.specs.declared.message.Kind.{Kind}
use Rattle.spk_sequence.specs.declared.message.Kind.TheVariants as kind
use Rattle.spk_reading.specs.Data as read
use Rattle.spk_reading.specs.Data.{NumberedData, SubjectData}
use Rattle.spk_host_app.specs.Data as app
use Rattle.spk_host_app.specs.Data.{Word}
use Rattle.spk_historian.specs.Event.{WhatData, NodeBirth, NodeData, DeviceBirth, DeviceData, DeviceDeath, EventData, Consumed, Ended}

-- what an NBIRTH says of itself: its timestamp and its bdSeq, which each has
abbrev pub birth_of : Kind → WhatData
birth_of (kind.Birth stamp bd) = NodeBirth stamp bd
birth_of (kind.Other stamp) = NodeBirth (unwrap_or stamp 0) 0

abbrev pub about : SubjectData → Kind → WhatData
about read.NodeBirth k = birth_of k
about read.NodeData k = NodeData
about (read.DeviceBirth device) k = DeviceBirth device
about (read.DeviceData device) k = DeviceData device
about (read.DeviceDeath device) k = DeviceDeath device

abbrev pub what_of : NumberedData → WhatData
what_of m = about m.subject m.kind

-- A message of the node of this number was consumed at this moment.
abbrev pub consumed : ℕ → ℕ → NumberedData → EventData
consumed number at m = Consumed at (record { number = number; group = m.group; name = m.node }) (what_of m) m.number m.payload

-- What is told of a word: a message that was consumed, and the end of the host's session. Other words are told by what they make of a node.
abbrev pub events_of : ℕ → ℕ → Word → List EventData
events_of number at (app.Consumed message) = consumed number at message ∷ []
events_of number at app.Ended = Ended at ∷ []
events_of number at _ = []
