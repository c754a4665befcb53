-- Lists of calls of an outbox: what it was owed, what was written of it, and what waits (own rules).
use Rattle.std.specs.Prelude.{ℕ, List, [], ◌∷◌, ◌++◌, take}
use Rattle.spk_outbox.specs.Data.{Outbox, waiting}
use Rattle.spk_outbox.specs.Step.{put, written}

-- what became of an outbox
pub data Call : Type 0 where
  -- a packet was taken
  Took : (packet : List ℕ) → Call
  -- so many bytes of what waits were written
  Wrote : (count : ℕ) → Call

abbrev pub after_call : Call → Outbox → Outbox
after_call (Took p) o = put p o
after_call (Wrote n) o = written n o

abbrev pub after : List Call → Outbox → Outbox
after [] o = o
after (c ∷ cs) o = after cs (after_call c o)

-- the bytes of the packets that were taken, in order
abbrev pub owed : List Call → List ℕ
owed [] = []
owed (Took p ∷ cs) = p ++ owed cs
owed (Wrote n ∷ cs) = owed cs

-- the bytes that were written, in order: each time a front of what waited
abbrev pub sent : List Call → Outbox → List ℕ
sent [] o = []
sent (Took p ∷ cs) o = sent cs (put p o)
sent (Wrote n ∷ cs) o = take n (waiting o) ++ sent cs (written n o)
