-- What the parts of the host's thread promise one another.
use Rattle.std.specs.Prelude.{◌≡◌, ℕ, List, [], ◌++◌, map, Option, Some, None, Result, Ok, Err}
use Rattle.spk_ingress.specs.Passes.{PutsInto}
use Rattle.spk_ingress.specs.declared.channel.Ingress.{Ingress}
use Rattle.spk_ingress.specs.declared.channel.PutPass.{PutPass}
use Rattle.spk_ingress.specs.declared.frame.Frame.{Frame}
use Rattle.spk_ingress.specs.declared.frame.Frame.TheVariants as frame
use Rattle.spk_rings.specs.Ring.{popped}
use Rattle.spk_rings.specs.declared.inlet.Inlet.{Inlet}
use Rattle.spk_rings.specs.declared.item.Item.{Item}
use Rattle.spk_plant_host.specs.declared.fault.HostCause.{HostCause}
use Rattle.spk_plant_host.specs.declared.fault.HostCause.TheVariants as why
use Rattle.spk_reading.specs.Data.{HeardData, NumberedData}
use Rattle.spk_host_session.specs.Data.{Config}
use Rattle.spk_host_session.specs.declared.fault.HostFault.{HostFault}
use Rattle.spk_host_session.specs.declared.fault.HostFault.TheVariants as host
use Rattle.spk_host.specs.Data.{HostData, OutData}
use Rattle.spk_host.specs.Inputs.{Call, Heard, host_after}
use Rattle.spk_host.specs.Step.{nothing}
use Rattle.spk_host.specs.View.{out_view}
use Rattle.spk_host.specs.declared.out.Out.{Out}
use Rattle.spk_plant_host.specs.Calls.{answer_at, done, host_asked, packets_of}
use Rattle.spk_plant_host.specs.Ends.{ends_put}
use Rattle.spk_plant_host.specs.Told.{AreToldBy, asked, consumed_by, consumptions, heard_in, told_in}
use Rattle.spk_plant_host.specs.declared.ends.Given.{Given}

-- ---- what is put

-- the same sender's pass, of this ingress; no end of the sender was put since
pub record SamePass (n : Ingress) (a b : PutPass) : Type 0 where
  pub puts_into : PutsInto n b
  pub sender : b.sender ≡ a.sender
  pub ends : ends_put b ≡ ends_put a

-- of these packets all but what is left were put, in order
pub record Puts (packets left : List (List ℕ)) (put_before put : List Frame) : Type 0 where
  pub before : List (List ℕ)
  pub parts : packets ≡ before ++ left
  pub frames : put ≡ put_before ++ map frame.Packet before

-- ---- one call

-- what a call answered, but for want of memory: nothing where it was refused
abbrev pub answered : Result Out HostFault → Result (Option Out) HostCause
answered (Ok out) = Ok (Some out)
answered (Err host.NoMemory) = Err why.NoMemory
answered _ = Ok None

abbrev pub handed : Option Out → OutData
handed None = nothing
handed (Some out) = out_view out

-- a host was asked to do a call
pub record Answers (call : Call) (h new : HostData) (out : Option Out) : Type 0 where
  pub hands_out : handed out ≡ answer_at h call
  pub state : new ≡ host_asked h call

-- and its packets were put, and this was consumed
pub record Took (call : Call) (h new : HostData) (put_before put : List Frame) (consumed : List NumberedData) : Type 0 where
  pub state : new ≡ host_asked h call
  pub frames : put ≡ put_before ++ map frame.Packet (answer_at h call).packets
  pub took : consumed ≡ (answer_at h call).consumed

-- what an item says was told
abbrev pub TookTold : Option HeardData → ℕ → HostData → HostData → List Frame → List Frame → List NumberedData → Type 0
TookTold (Some heard) now h new put_before put consumed = Took (Heard heard now) h new put_before put consumed
TookTold None now h new put_before put consumed = (new ≡ h) × (put ≡ put_before) × (consumed ≡ [])

-- ---- many calls

-- A new host was asked to do these calls.
pub record IsAfter (config : Config) (put_before : List Frame) (calls : List Call) (h : HostData) (put : List Frame) : Type 0 where
  pub state : h ≡ host_after config (done config calls)
  pub frames : put ≡ put_before ++ map frame.Packet (packets_of config (done config calls))

-- These items came, and this is kept of them.
pub record IsAlong (config : Config) (put_before : List Frame) (items : List Item) (given : List Given) (h : HostData) (put : List Frame) : Type 0 where
  pub told : AreToldBy items (map heard_in given)
  pub after : IsAfter config put_before (asked (told_in given)) h put
  pub consumed : consumed_by given ≡ consumptions config (told_in given)

-- all that came out of a ring
pub record HasRun (config : Config) (put_before : List Frame) (before after : Inlet) (given : List Given) (h : HostData) (put : List Frame) : Type 0 where
  pub items : List Item
  pub taken : popped after ≡ popped before ++ items
  pub along : IsAlong config put_before items given h put
