-- How long a content is.
use Rattle.std.proofs.Common.{◌<◌, ◌≤◌, ◌^◌, [], ◌∷◌, ◌++◌, length, length-append, arith}
use Rattle.spk_history.specs.Entry.{KindData, NodeData, DeviceBirth, DeviceData, DeviceDeath, EntryData, Session, Node, Birth, Death, Gap, Hole, Message}
use Rattle.spk_frames.specs.Numbers.{counted, eight, four}
use Rattle.spk_history.specs.Record.{HasDevice, HasTexts, content, device_part, most, payload_of}
use Rattle.spk_frames.proofs.Lengths.{length-counted, length-eight, length-four}

device_short : (kind : KindData) → HasDevice kind → length (device_part kind) ≤ 65537
device_short NodeData has = omega arith
device_short (DeviceBirth device) has = omega (arith, length-counted device, has.1)
device_short (DeviceData device) has = omega (arith, length-counted device, has.1)
device_short (DeviceDeath device) has = omega (arith, length-counted device, has.1)

pub payload_fits : (e : EntryData) → HasTexts e → length (payload_of e) < 2 ^ 28 → length (content e) ≤ most
unfolding content HasTexts payload_of
payload_fits (Session at what) t lt = omega (arith, length-eight at)
payload_fits (Node node group name) t lt =
    omega (arith, length-append (four node) (counted group ++ counted name), length-append (counted group) (counted name), length-four node, length-counted group, length-counted name, t.0.1, t.1.1)
payload_fits (Birth at node stamp bd payload) t lt =
    omega (arith, length-append (eight at) (four node ++ (eight stamp ++ (bd ∷ payload))), length-append (four node) (eight stamp ++ (bd ∷ payload)), length-append (eight stamp) (bd ∷ payload), length-eight at, length-four node, length-eight stamp)
payload_fits (Death at node bd) t lt =
    omega (arith, length-append (eight at) (four node ++ bd ∷ []), length-append (four node) (bd ∷ []), length-eight at, length-four node)
payload_fits (Gap at node awaited missing) t lt =
    omega (arith, length-append (eight at) (four node ++ (eight awaited ++ eight missing)), length-append (four node) (eight awaited ++ eight missing), length-append (eight awaited) (eight missing), length-eight at, length-four node, length-eight awaited, length-eight missing)
payload_fits (Hole node from to missing unused ended_by) t lt =
    omega (
      arith,
      length-append (four node) (eight from ++ (eight to ++ (eight missing ++ eight unused))),
      length-append (eight from) (eight to ++ (eight missing ++ eight unused)),
      length-append (eight to) (eight missing ++ eight unused),
      length-append (eight missing) (eight unused),
      length-four node,
      length-eight from,
      length-eight to,
      length-eight missing,
      length-eight unused,
    )
payload_fits (Message at node kind seq payload) t lt =
    omega (
      arith,
      length-append (eight at) (four node ++ (seq ∷ (device_part kind ++ payload))),
      length-append (four node) (seq ∷ (device_part kind ++ payload)),
      length-append (device_part kind) payload,
      length-eight at,
      length-four node,
      device_short kind t,
    )
