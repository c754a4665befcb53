-- What the broker's thread is given, and what it hands on when it is joined.
use Rattle.spk_sequence.specs.Budget.{budget}
use Rattle.std.specs.Prelude.{◌≡◌, ℕ, ◌-◌, ◌^◌, ◌<◌, ◌==◌, Bool, true, List, [], length, Option, Some, None, count_by}
use Rattle.std.specs.List.{AllByRecursion, slice_get}
use Rattle.spk_ingress.specs.Passes.{TakesFrom, frames_taken}
use Rattle.spk_ingress.specs.declared.channel.Ingress.{Ingress}
use Rattle.spk_ingress.specs.declared.channel.TakePass.{TakePass}
use Rattle.spk_ingress.specs.declared.rule.Message.{Message}
use Rattle.spk_rings.specs.Ring.{FinishedFrom, offered, all_offered}
use Rattle.spk_rings.specs.declared.item.Item.{Item}
use Rattle.spk_rings.specs.declared.outlet.Outlet.{Outlet}
use Rattle.spk_rings.specs.declared.token.Token.{Token}
use Rattle.spk_plant_broker.specs.declared.part.BrokerStart.{BrokerStart}
use Rattle.spk_plant_broker.specs.declared.part.BrokerEnd.{BrokerEnd}
use Rattle.spk_plant_broker.specs.declared.part.Refusal.{Refusal}
use Rattle.spk_plant_broker.specs.declared.hub.Hub.{Hub}
use Rattle.spk_plant_broker.specs.Data.{Entry, Room}
use Rattle.spk_plant_broker.specs.Holding.{FitsDesk, FitLines}
use Rattle.spk_plant_broker.specs.Step.{has_ended}
use Rattle.spk_plant_broker.specs.Log.{AtRefusals, HasFilled, IsLog, accepted_of, got_of, refusals_of, room_of, taken_of}

-- nothing was offered so far
abbrev pub AreFresh : List Outlet → Type 0
AreFresh os = (k : ℕ) (o : Outlet) → slice_get os k ≡ Some o → offered o ≡ []

-- A pass of this ingress through which nothing was taken, and a new ring for each sender.
pub record BrokerReady (n : Ingress) (start : BrokerStart) : Type 0 where
  pub pass : TakesFrom n start.pass
  pub none : frames_taken start.pass ≡ []
  pub rings : length start.outlets.items ≡ n.senders
  pub fresh : AreFresh start.outlets.items
  pub some : 0 < n.senders

-- how many of these were a client's
abbrev pub refused_to : ℕ → List Refusal → ℕ
refused_to k rs = count_by (λ (r : Refusal). r.client == k) rs

-- the token of a ring's dropping, where the ring's other end was there: all that it got
abbrev pub IsTokenOf : Outlet → Option Token → List Item → Type 0
IsTokenOf o None got = Unit {0}
IsTokenOf o (Some t) got = FinishedFrom o t × (all_offered t ≡ got)

-- the token of one client's ring
abbrev pub IsTokenAt : List Outlet → (ℕ → List Item) → ℕ → Option Token → Type 0
IsTokenAt os got k t = (o : Outlet) × (slice_get os k ≡ Some o) × IsTokenOf o t (got k)

abbrev pub AreTokens : List Outlet → (ℕ → List Item) → List (Option Token) → Type 0
AreTokens os got ts = (k : ℕ) (t : Option Token) → slice_get ts k ≡ Some t → IsTokenAt os got k t

-- There is a log of all that was done, by which everything handed on is read. Edge nodes are the first senders, the host is the last.
pub record BrokerDone (n : Ingress) (start : BrokerStart) (end : BrokerEnd) : Type 0 where
  pub log : List Entry
  pub is_log : IsLog (budget start.width) (n.senders - 1) log
  -- all was offered, and all refusals were told
  pub offered : (room_of (budget start.width) (n.senders - 1) log).pending ≡ []
  pub told : (room_of (budget start.width) (n.senders - 1) log).untold ≡ []
  -- each sender's End was taken
  pub ended : (k : ℕ) → k < n.senders → has_ended k (taken_of log) ≡ true
  pub pass : TakesFrom n end.pass
  pub frames : frames_taken end.pass ≡ taken_of log
  pub taken : end.taken.items ≡ taken_of log
  -- each frame is one of the ingress's senders, and a count of 64 bits counts them
  pub senders : AllByRecursion (λ (m : Message). m.sender < n.senders) (taken_of log)
  pub counted : length (taken_of log) < 2 ^ 64
  pub refusals : end.refusals.items ≡ refusals_of log
  pub refused : end.refused ≡ refused_to (n.senders - 1) (refusals_of log)
  -- a ring refuses nothing before it got as many items as it has room for
  pub full : AtRefusals (HasFilled start.outlets.items) log
  pub accepted : end.accepted.items ≡ accepted_of (n.senders - 1) log
  pub is_cut : end.is_cut ≡ (room_of (budget start.width) (n.senders - 1) log).closed (n.senders - 1)
  pub sized : length end.tokens.items ≡ n.senders
  pub tokens : AreTokens start.outlets.items (λ k. got_of k log) end.tokens.items

-- what is read off what the thread holds at its end
pub record IsEndOf (hub : Hub) (pass : TakePass) (end : BrokerEnd) : Type 0 where
  pub pass_is : end.pass ≡ pass
  pub taken : end.taken.items ≡ hub.taken.items
  pub refusals : end.refusals.items ≡ hub.refusals.items
  pub refused : end.refused ≡ refused_to hub.edges hub.refusals.items
  pub accepted : end.accepted.items ≡ hub.accepted.items
  pub is_cut : (limit : ℕ) (closed : ℕ → Bool) (r : Room) → FitsDesk limit closed hub.desk r → end.is_cut ≡ closed hub.edges
  pub sized : length end.tokens.items ≡ length hub.lines.items
  pub tokens : (firsts : List Outlet) (dropped : ℕ → Bool) (got : ℕ → List Item) (taken : List Message) →
      FitLines firsts dropped got taken hub.lines.items → AreTokens firsts got end.tokens.items
