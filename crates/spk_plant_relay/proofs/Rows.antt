-- Logs by hand: what is shown of a node, and what is missing.
use Rattle.std.proofs.Common.{◌≡◌, refl, ℕ, Bool, List, [], ◌∷◌, Some, bytes_eq}
use Rattle.spk_ingress.specs.declared.frame.Frame.TheVariants as frame
use Rattle.spk_ingress.specs.declared.rule.Message.{Message}
use Rattle.spk_session.specs.declared.answer.Sort.TheVariants as sort
use Rattle.spk_broker_rules.specs.Listening.{plain_publish}
use Rattle.spk_plant_broker.specs.Data.{Input, Says, Offer, Entry, Took, Accepted, Refused, Told}
use Rattle.spk_sequence.specs.HostRecord.{MessageComes, DeathComes, TickComes}
use Rattle.spk_plant_relay.specs.Relayed.{missing, positions_in}
use Rattle.spk_plant_relay.specs.Shown.{count_numbered, shown}

-- the topic of one byte 7 is the node's
abbrev on : List ℕ → Bool
on topic = bytes_eq topic (7 ∷ [])

abbrev from : ℕ → Message
from k = record { sender = k; frame = frame.Cut }

abbrev offer : Offer
offer = record { to = Some 2; conn = 1; sort = sort.QosZero; bytes = [] }

abbrev message : Input
message = Says (plain_publish (7 ∷ []) [])

abbrev other : Input
other = Says (plain_publish (8 ∷ []) [])

-- Nodes are clients 0 and 1, the host is client 2. Node 0 says its first message, and the host's ring gets it; the second is refused,
-- and the broker is told; what this sends is no message of the node; then another node's message, and the third of node 0.
abbrev log : List Entry
log =
    Accepted 2 offer ∷ Took (from 0) message
    ∷ Accepted 2 offer ∷ Took (from 1) message
    ∷ Accepted 2 offer ∷ Told offer ∷ Refused 2 offer ∷ Took (from 0) message
    ∷ Accepted 2 offer ∷ Accepted 1 offer ∷ Took (from 0) message
    ∷ Accepted 2 offer ∷ Took (from 0) other
    ∷ []

three_taken : count_numbered on 0 log ≡ 3
three_taken = refl

-- the first and the third are shown, and one is missing
two_shown : shown on 0 2 log ≡ 2 ∷ 0 ∷ []
two_shown = refl

one_missing : missing (2 ∷ 0 ∷ []) ≡ 1
one_missing = refl

-- the other node's one message is its own first one
other_shown : shown on 1 2 log ≡ 0 ∷ []
other_shown = refl

-- what came before the oldest position isn't missing, nor what may come after the newest
none_before : missing (9 ∷ 8 ∷ 7 ∷ []) ≡ 0
none_before = refl

two_between : missing (9 ∷ 6 ∷ []) ≡ 2
two_between = refl

in_order : positions_in (TickComes 4 ∷ MessageComes 6 3 ∷ DeathComes 0 2 ∷ MessageComes 5 1 ∷ []) ≡ 6 ∷ 5 ∷ []
in_order = refl
