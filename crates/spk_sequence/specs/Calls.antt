-- Lists of calls of `Sequence`, and what they answer.
use Rattle.std.specs.Prelude.{ℕ, Bool, List, [], ◌∷◌}
use Rattle.spk_sequence.specs.declared.message.Kind.{Kind}
use Rattle.spk_sequence.specs.declared.answer.Step.{Step}
use Rattle.spk_sequence.specs.declared.answer.Match.{Match}
use Rattle.spk_sequence.specs.Data.{Standing}
use Rattle.spk_sequence.specs.Step.{hand, is_over, tick, match_of, death}

pub data Call : Type 0 where
  -- a message's number and kind, and the moment
  Hand : ℕ → Kind → ℕ → Call
  -- a moment
  Tick : ℕ → Call
  -- a bdSeq
  Death : ℕ → Call

pub data Reply : Type 0 where
  Stepped : Step → Reply
  -- whether there is a gap
  Ticked : Bool → Reply
  Told : Match → Reply

abbrev pub reply_of : Standing → Call → Reply
reply_of s (Hand number kind now) = Stepped (hand s number kind now).0
reply_of s (Tick now) = Ticked (is_over s now)
reply_of s (Death bd) = Told (match_of s bd)

abbrev pub after_call : Standing → Call → Standing
after_call s (Hand number kind now) = (hand s number kind now).1
after_call s (Tick now) = tick s now
after_call s (Death bd) = death s bd

-- the reply to each call, in order
abbrev pub replies_of : Standing → List Call → List Reply
replies_of s [] = []
replies_of s (call ∷ calls) = reply_of s call ∷ replies_of (after_call s call) calls

-- the data after all calls
abbrev pub after_calls : Standing → List Call → Standing
after_calls s [] = s
after_calls s (call ∷ calls) = after_calls (after_call s call) calls
