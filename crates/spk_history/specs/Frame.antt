-- What a content with its length and its sum is at the front of bytes.
use Rattle.std.specs.Prelude.{ℕ, List}
use Rattle.spk_frames.specs.Frame as frames
use Rattle.spk_history.specs.Record.{most}

abbrev pub IsFramed : List ℕ → List ℕ → Type 0
IsFramed bytes content = frames.IsFramed most bytes content
