-- Why a thing isn't done, in the order in which the causes are tried: what isn't there, what wasn't published, the window, sessions
-- that one byte of bdSeq couldn't tell apart, and what comes before its own NBIRTH where numbers restart.
use Rattle.std.specs.Prelude.{◌≡◌, ℕ, ◌+◌, nat_lt, nat_le, Bool, false, not, ◌&&◌, ◌||◌, List, [], ◌∷◌, length, Option, Some, None, Result, Ok, Err, if◌then◌else◌}
use Rattle.spk_sequence.specs.Budget.{budget}
use Rattle.spk_sequence.specs.Following.{contains, following, taken}
use Rattle.spk_sequence.specs.HostRecord.{HostRecord, reach}
use Rattle.spk_sequence.specs.NodeRecord.{Numbering, RunsOn, Restarts, Setting, opens, session_at, start_of}
use Rattle.spk_sequence.specs.Window.{handed_of}
use Rattle.spk_edge_rules.specs.declared.fault.EdgeFault.{EdgeFault}
use Rattle.spk_edge_rules.specs.Answers.{Answer}
use Rattle.spk_edge_rules.specs.Run.{right_at, run_of}
use Rattle.spk_world_rules.specs.Events.{World, Deed, AtNode, Hand, Death, Tick, Renew, node_at}
use Rattle.spk_world_rules.specs.Queries.{calls_of, record_of, sessions_of, setting_of}

-- Why a thing isn't done.
pub data Refusal : Type 0 where
  NoSuch : Refusal
  NotPublished : Refusal
  OutsideWindow : Refusal
  TooFar : Refusal
  Edge : EdgeFault → Refusal
  OvertakesBirth : Refusal

-- more than width - 1 behind the greatest position handed, or while the host follows more than 256 - 2 * width ahead of it
abbrev pub is_outside : Setting → HostRecord → ℕ → Bool
is_outside s h p =
    not (nat_le (reach h) (p + s.width)) || ((following s h).on && not (nat_lt p (reach h + budget s.width)))

-- 256 or more sessions from that of the birth taken last, either way
abbrev pub is_far_from : Setting → Option ℕ → ℕ → Bool
is_far_from s None session = false
is_far_from s (Some b) session =
    not (nat_lt session (session_at s.published b + 256)) || not (nat_lt (session_at s.published b) (session + 256))

-- the same by what the host took
abbrev pub is_far : Setting → HostRecord → ℕ → Bool
is_far s h session = is_far_from s (taken s h) session

-- where numbers restart: not an NBIRTH, and its own wasn't handed before it
abbrev pub overtakes : Numbering → Setting → HostRecord → ℕ → Bool
overtakes RunsOn s h p = false
overtakes Restarts s h p = not (opens s.published p) && not (contains (start_of s.published p) (handed_of h))

-- why the message of a position isn't handed to a host: the first cause that holds
abbrev pub message_refusal : Setting → HostRecord → ℕ → Option Refusal
message_refusal s h p =
    if not (nat_lt p (length s.published)) then Some NotPublished
    else if is_outside s h p then Some OutsideWindow
    else if opens s.published p && is_far s h (session_at s.published p) then Some TooFar
    else if overtakes s.numbering s h p then Some OvertakesBirth
    else None

-- why the NDEATH of a session isn't, of a node that opened so many
abbrev pub death_refusal : Setting → HostRecord → (sessions session : ℕ) → Option Refusal
death_refusal s h sessions session =
    if not (nat_lt session sessions) then Some NotPublished
    else if is_far s h session then Some TooFar
    else None

-- the node's own refusal
abbrev pub edge_refusal : Result Answer EdgeFault → Option Refusal
edge_refusal (Ok answer) = None
edge_refusal (Err fault) = Some (Edge fault)

-- what isn't there comes before every other cause
abbrev pub if_there : Bool → Option Refusal → Option Refusal
if_there there refusal = if there then refusal else Some NoSuch

-- there is a node of this number
abbrev pub has_node : World → ℕ → Bool
has_node w n = nat_lt n (length w.nodes)

-- there is a host of this number
abbrev pub has_host : World → ℕ → Bool
has_host w h = nat_lt h (length w.hosts)

-- why a thing isn't done behind all that was done; none where it is
abbrev pub refusal_of : World → List Deed → Deed → Option Refusal
refusal_of w done (AtNode n input) =
    if_there (has_node w n) (edge_refusal (right_at (node_at w n) (run_of (node_at w n) (calls_of done n)) input))
refusal_of w done (Hand h n p now) =
    if_there (has_host w h && has_node w n) (message_refusal (setting_of w done h n) (record_of w done h n) p)
refusal_of w done (Death h n session now) =
    if_there (has_host w h && has_node w n) (death_refusal (setting_of w done h n) (record_of w done h n) (sessions_of w done n) session)
refusal_of w done (Tick h now) = if_there (has_host w h) None
refusal_of w done (Renew h now) = if_there (has_host w h) None

-- each was done after those before it, none refused
abbrev pub AllDone : World → List Deed → Type 0
AllDone w [] = Unit {0}
AllDone w (e ∷ done) = (refusal_of w done e ≡ None) × AllDone w done
