-- What is asked of the broker alone (MQTT 3.1.1, section 4.6), as `IsHanded` of `spk_handed` asks it: that what the node published is a node record isn't
-- asked, since the node's lives make it one. Inputs stand newest first.
use Rattle.std.specs.Prelude.{◌≡◌, ◌<◌, ◌≤◌, List}
use Rattle.spk_sequence.specs.Claims.{AllPublished}
use Rattle.spk_sequence.specs.HostRecord.{Input, record_of}
use Rattle.spk_sequence.specs.NodeRecord.{Restarts, Setting}
use Rattle.spk_sequence.specs.Window.{IsNearBirth}
use Rattle.spk_handed.specs.Handed.{AreRising, AtEach, ComesBehindBirth, DiesApart, FewMiss, positions_in}

pub record KeepsOrder (s : Setting) (inputs : List Input) : Type 0 where
  pub some_places : 0 < s.width
  pub few_places : s.width ≤ 96
  pub published : AllPublished s inputs
  pub rising : AreRising (positions_in inputs)
  pub few : AtEach (FewMiss s) inputs
  pub deaths : AtEach (DiesApart s) inputs
  -- where the sequence number restarts at each NBIRTH
  pub births : s.numbering ≡ Restarts → AtEach (ComesBehindBirth s) inputs
  pub near : s.numbering ≡ Restarts → AtEach (λ is i. IsNearBirth s (record_of s is) i) inputs
