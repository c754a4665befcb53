-- Records that are worked out by hand, and sums that are known elsewhere.
use Rattle.std.proofs.Common.{◌≡◌, refl, [], ◌∷◌, ◌++◌, replicate}
use Rattle.std.specs.Prelude.{codes}
use Rattle.spk_history.specs.declared.entry.Ending.TheVariants as endings
use Rattle.spk_history.specs.declared.entry.SessionEvent.TheVariants as sessions
use Rattle.spk_history.specs.Entry.{NodeData, DeviceData, Session, Node, Birth, Death, Gap, Hole, Message}
use Rattle.spk_history.specs.File.{file_of, head}
use Rattle.spk_frames.specs.Numbers.{counted, eight, four, two}
use Rattle.spk_frames.specs.Frame.{framed}
use Rattle.spk_history.specs.Record.{content, record_of}
use Rattle.spk_frames.specs.Sum.{crc32, eight_steps}

-- the check value of CRC-32 in catalogues of sums, and those of nothing, of `a`, and of 32 bytes 255
pub sums : (crc32 (codes "123456789") ≡ 0xcbf4_3926) × (crc32 [] ≡ 0) × (crc32 (codes "a") ≡ 0xe8b7_be43) × (crc32 (replicate 32 255) ≡ 0xff6c_ab0b)
unfolding crc32 eight_steps
sums = (refl, refl, refl, refl)

-- the host's session began at 1000
pub began : content (Session 1000 sessions.Began) ≡ 1 ∷ 232 ∷ 3 ∷ 0 ∷ 0 ∷ 0 ∷ 0 ∷ 0 ∷ 0 ∷ []
unfolding content counted two four eight
began = refl

-- and ended at 258
pub ended : content (Session 258 sessions.Ended) ≡ 2 ∷ 2 ∷ 1 ∷ 0 ∷ 0 ∷ 0 ∷ 0 ∷ 0 ∷ 0 ∷ []
unfolding content counted two four eight
ended = refl

-- node 7 is N1 of the group G
pub node : content (Node 7 (codes "G") (codes "N1")) ≡ 3 ∷ 7 ∷ 0 ∷ 0 ∷ 0 ∷ 1 ∷ 0 ∷ 71 ∷ 2 ∷ 0 ∷ 78 ∷ 49 ∷ []
unfolding content counted two four eight
node = refl

-- an NBIRTH at 1 of node 2, with the timestamp 3, bdSeq 4 and a payload of two bytes
pub birth : content (Birth 1 2 3 4 (9 ∷ 8 ∷ [])) ≡ 4 ∷ 1 ∷ 0 ∷ 0 ∷ 0 ∷ 0 ∷ 0 ∷ 0 ∷ 0 ∷ 2 ∷ 0 ∷ 0 ∷ 0 ∷ 3 ∷ 0 ∷ 0 ∷ 0 ∷ 0 ∷ 0 ∷ 0 ∷ 0 ∷ 4 ∷ 9 ∷ 8 ∷ []
unfolding content counted two four eight
birth = refl

-- an NDEATH with bdSeq 255
pub death : content (Death 1 2 255) ≡ 5 ∷ 1 ∷ 0 ∷ 0 ∷ 0 ∷ 0 ∷ 0 ∷ 0 ∷ 0 ∷ 2 ∷ 0 ∷ 0 ∷ 0 ∷ 255 ∷ []
unfolding content counted two four eight
death = refl

-- a gap: position 65536 is awaited, five are missing
pub gap : content (Gap 1 2 65536 5) ≡ 6 ∷ 1 ∷ 0 ∷ 0 ∷ 0 ∷ 0 ∷ 0 ∷ 0 ∷ 0 ∷ 2 ∷ 0 ∷ 0 ∷ 0 ∷ 0 ∷ 0 ∷ 1 ∷ 0 ∷ 0 ∷ 0 ∷ 0 ∷ 0 ∷ 5 ∷ 0 ∷ 0 ∷ 0 ∷ 0 ∷ 0 ∷ 0 ∷ 0 ∷ []
unfolding content counted two four eight
gap = refl

-- a hole from 10 to 20, of five that are missing and six that weren't used, ended by a new session
pub hole : content (Hole 2 10 20 5 6 endings.NewSession) ≡ 8 ∷ 2 ∷ 0 ∷ 0 ∷ 0 ∷ 10 ∷ 0 ∷ 0 ∷ 0 ∷ 0 ∷ 0 ∷ 0 ∷ 0 ∷ 20 ∷ 0 ∷ 0 ∷ 0 ∷ 0 ∷ 0 ∷ 0 ∷ 0 ∷ 5 ∷ 0 ∷ 0 ∷ 0 ∷ 0 ∷ 0 ∷ 0 ∷ 0 ∷ 6 ∷ 0 ∷ 0 ∷ 0 ∷ 0 ∷ 0 ∷ 0 ∷ 0 ∷ []
unfolding content counted two four eight
hole = refl

-- an NDATA with seq 200
pub ndata : content (Message 1 2 NodeData 200 (1 ∷ [])) ≡ 10 ∷ 1 ∷ 0 ∷ 0 ∷ 0 ∷ 0 ∷ 0 ∷ 0 ∷ 0 ∷ 2 ∷ 0 ∷ 0 ∷ 0 ∷ 200 ∷ 1 ∷ []
unfolding content counted two four eight
ndata = refl

-- a DDATA of the device d without a payload
pub ddata : content (Message 1 2 (DeviceData (codes "d")) 0 []) ≡ 12 ∷ 1 ∷ 0 ∷ 0 ∷ 0 ∷ 0 ∷ 0 ∷ 0 ∷ 0 ∷ 2 ∷ 0 ∷ 0 ∷ 0 ∷ 0 ∷ 1 ∷ 0 ∷ 100 ∷ []
unfolding content counted two four eight
ddata = refl

-- a record: the length, the content and its sum
pub framed_death : record_of (Death 1 2 255) ≡ 14 ∷ 0 ∷ 0 ∷ 0 ∷ 5 ∷ 1 ∷ 0 ∷ 0 ∷ 0 ∷ 0 ∷ 0 ∷ 0 ∷ 0 ∷ 2 ∷ 0 ∷ 0 ∷ 0 ∷ 255 ∷ 194 ∷ 114 ∷ 76 ∷ 223 ∷ []
unfolding content framed two four eight crc32 eight_steps
framed_death = refl

-- a file of one record
pub file : file_of (Session 258 sessions.Ended ∷ []) ≡ codes "Juldremm history 1" ++ 10 ∷ 9 ∷ 0 ∷ 0 ∷ 0 ∷ 2 ∷ 2 ∷ 1 ∷ 0 ∷ 0 ∷ 0 ∷ 0 ∷ 0 ∷ 0 ∷ 225 ∷ 48 ∷ 173 ∷ 44 ∷ []
unfolding content framed head four eight crc32 eight_steps
file = refl
