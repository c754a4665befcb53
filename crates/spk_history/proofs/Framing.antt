-- The content at the front of bytes: where there is one it is one alone.
use Rattle.std.proofs.Common.{◌≡◌, ℕ, ◌<◌, List, ◌++◌, length, arith}
use Rattle.spk_frames.specs.Frame.{framed}
use Rattle.spk_frames.specs.Numbers.{four}
use Rattle.spk_frames.specs.Sum.{crc32}
use Rattle.spk_frames.proofs.Fronts as frames
use Rattle.spk_history.specs.File.{IsTorn}
use Rattle.spk_history.specs.Frame.{IsFramed}
use Rattle.spk_history.specs.Record.{most}

pub framed_parts : (bytes content rest : List ℕ) → bytes ≡ framed content ++ rest → bytes ≡ four (length content) ++ (content ++ (four (crc32 content) ++ rest))
framed_parts bytes content rest e = frames.framed_parts bytes content rest e

-- a frame that is there isn't torn
pub framed_stands : (bytes content : List ℕ) → IsFramed bytes content → (0 < length bytes) × ¬ (IsTorn bytes)
framed_stands bytes content f = frames.framed_stands most (omega arith) bytes content f

-- one content at the front
pub framed_same : (bytes c d : List ℕ) (f : IsFramed bytes c) (g : IsFramed bytes d) → (c ≡ d) × (f.1.0 ≡ g.1.0)
framed_same bytes c d f g = frames.framed_same most (omega arith) bytes c d f g
