-- What the host's thread begins with, and what its end hands on: facts about its own lists alone.
use Rattle.std.specs.Prelude.{◌≡◌, ℕ, ◌+◌, Bool, true, false, List, [], ◌∷◌, ◌++◌, count_by, map, Result, Ok, Err}
use Rattle.spk_ingress.specs.Passes.{PutsInto, frames_put}
use Rattle.spk_ingress.specs.declared.channel.Ingress.{Ingress}
use Rattle.spk_ingress.specs.declared.channel.PutPass.{PutPass}
use Rattle.spk_ingress.specs.declared.frame.Frame.{Frame}
use Rattle.spk_ingress.specs.declared.frame.Frame.TheVariants as frame
use Rattle.spk_rings.specs.Ring.{SameInlet, ahead, popped}
use Rattle.spk_rings.specs.declared.item.Item.{Item}
use Rattle.spk_plant_host.specs.declared.fault.HostCause.{HostCause}
use Rattle.spk_plant_host.specs.declared.fault.HostCause.TheVariants as why
use Rattle.spk_host_session.specs.Data.{Config}
use Rattle.spk_host.specs.Inputs.{Call, host_after, new_host}
use Rattle.spk_plant_host.specs.Calls.{packets_of}
use Rattle.spk_plant_host.specs.Told.{AreToldBy, calls_of, consumed_by, consumptions, heard_in, told_in}
use Rattle.spk_plant_host.specs.declared.ends.HostStart.{HostStart}
use Rattle.spk_plant_host.specs.declared.ends.HostEnd.{HostEnd}
use Rattle.spk_plant_host.specs.declared.ends.HostFailed.{HostFailed}

-- The pass is of this ingress, and the host is new.
pub record HostReady (n : Ingress) (s : HostStart) : Type 0 where
  pub puts_into : PutsInto n s.pass
  pub fresh : s.host ≡ new_host s.host.session.config

abbrev pub config_of : HostStart → Config
config_of s = s.host.session.config

-- the calls that the host did, newest first
abbrev pub calls_done : HostStart → HostEnd → List Call
calls_done s e = calls_of (config_of s) (told_in e.given.items)

pub record HostDone (n : Ingress) (s : HostStart) (e : HostEnd) : Type 0 where
  -- the same ends, and the ring was empty when it was looked into last
  pub puts_into : PutsInto n e.pass
  pub sender : e.pass.sender ≡ s.pass.sender
  pub inlet : SameInlet s.inlet e.inlet
  pub emptied : ahead e.inlet ≡ []
  -- these items were taken out; of each of them there is what it says
  pub items : List Item
  pub taken : popped e.inlet ≡ popped s.inlet ++ items
  pub told : AreToldBy items (map heard_in e.given.items)
  -- the host is as its calls leave it; their packets were put, in order, and last the end; and what each item made it consume
  pub host : e.host ≡ host_after (config_of s) (calls_done s e)
  pub put : frames_put e.pass ≡ frames_put s.pass ++ (map frame.Packet (packets_of (config_of s) (calls_done s e)) ++ frame.End ∷ [])
  pub consumed : consumed_by e.given.items ≡ consumptions (config_of s) (told_in e.given.items)

-- ---- a run that failed

abbrev pub is_end : Frame → Bool
is_end frame.End = true
is_end _ = false

-- how many of its own ends a sender put through a pass
abbrev pub ends_put : PutPass → ℕ
ends_put p = count_by is_end (frames_put p)

-- the taker is gone
abbrev pub is_closed : {A : Type 0} → Result A HostCause → Bool
is_closed (Ok done) = false
is_closed (Err (why.Closed gone)) = true
is_closed (Err why.NoMemory) = false

-- the end was put once since the start, and last
pub record IsEnded (start p : PutPass) : Type 0 where
  pub before : List Frame
  pub put : frames_put p ≡ before ++ frame.End ∷ []
  pub once : ends_put p ≡ ends_put start + 1

-- The end is put once and last; where the taker is gone it isn't put.
abbrev pub IsLast : HostCause → PutPass → PutPass → Type 0
IsLast (why.Closed gone) start p = ends_put p ≡ ends_put start
IsLast why.NoMemory start p = IsEnded start p

pub record HostBroke (n : Ingress) (s : HostStart) (f : HostFailed) : Type 0 where
  pub puts_into : PutsInto n f.pass
  pub sender : f.pass.sender ≡ s.pass.sender
  pub last : IsLast f.cause s.pass f.pass
