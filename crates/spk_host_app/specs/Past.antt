-- What a run of deeds was, newest first: questions to the list, without any data of the program.
use Rattle.std.specs.Prelude.{ℕ, Bool, true, false, List, [], ◌∷◌, ◌++◌, Option, if◌then◌else◌}
use Rattle.spk_host_session.specs.Data.{Config}
use Rattle.spk_host.specs.Data.{HostData}
use Rattle.spk_host.specs.Inputs as host
use Rattle.spk_host.specs.Inputs.{host_after}
use Rattle.spk_connection.specs.Run as conn
use Rattle.spk_host_app.specs.Data.{Deed, Fate, LoginData, Word}
use Rattle.spk_host_app.specs.Data as word
use Rattle.spk_host_app.specs.Data.{Whole, Unsent, Lost, Began, Connected, Read, Told, Denied, Unsubscribed, Ticked, Requested, Pinged, Stopped, Wrote, Over, Printed}
use Rattle.spk_host_app.specs.Meant.{topic_in}
use Rattle.spk_host_app.specs.Step.{ack_of, bytes_of, request_bytes, request_words, words_of}

-- ---- the host

-- what the host was told
abbrev pub calls_in : List Deed → List host.Call
calls_in [] = []
calls_in (Connected now fate ∷ ds) = host.Connected now ∷ calls_in ds
calls_in (Told p rest heard now fate ∷ ds) = host.Heard heard now ∷ calls_in ds
calls_in (Ticked now fate ∷ ds) = host.Ticked now ∷ calls_in ds
calls_in (Stopped now fate ∷ ds) = host.Stopped now ∷ calls_in ds
calls_in (Over now ∷ ds) = host.Ended ∷ calls_in ds
calls_in (_ ∷ ds) = calls_in ds

-- ---- the connection

-- these bytes were sent, where there was memory
abbrev pub sends : Fate → List ℕ → List conn.Event
sends Whole bytes = conn.Sent bytes ∷ []
sends Unsent bytes = []
sends Lost bytes = []

-- what a deed was to the connection, the host before it being this
abbrev pub events_of : Option LoginData → HostData → Deed → List conn.Event
events_of login h (Began now) = conn.Opened now ∷ []
events_of login h (Connected now fate) = sends fate (bytes_of login h (host.Connected now))
events_of login h (Read piece now) = conn.Read piece now ∷ []
events_of login h (Told p rest heard now fate) = sends fate (bytes_of login h (host.Heard heard now)) ++ conn.Took p ∷ []
events_of login h (Denied p rest fault fate) = sends fate (ack_of p) ++ conn.Took p ∷ []
events_of login h (Unsubscribed p rest) = conn.Took p ∷ []
events_of login h (Ticked now fate) = sends fate (bytes_of login h (host.Ticked now))
events_of login h (Requested group node now fate) = sends fate (request_bytes group node now)
events_of login h (Pinged now) = conn.Asked now ∷ []
events_of login h (Stopped now fate) = sends fate (bytes_of login h (host.Stopped now))
events_of login h (Wrote (b ∷ bs) now) = conn.Wrote b bs now ∷ []
events_of login h (Over now) = conn.Over now ∷ []
events_of login h _ = []

-- what happened to the connection: the packets that were told to the host or refused were taken, CONNECT, what the host answered, acknowledgements of what
-- it refused, requests for rebirths beside the rules and PINGREQs were sent
abbrev pub events_in : Config → Option LoginData → List Deed → List conn.Event
events_in config login [] = []
events_in config login (d ∷ ds) = events_of login (host_after config (calls_in ds)) d ++ events_in config login ds

-- ---- the words

-- these words were said, where there was memory
abbrev pub says : Fate → List Word → List Word
says Whole words = words
says Unsent words = words
says Lost words = []

-- a connection began whose end didn't come
abbrev pub has_begun : List Deed → Bool
has_begun [] = false
has_begun (Began now ∷ ds) = true
has_begun (Over now ∷ ds) = false
has_begun (_ ∷ ds) = has_begun ds

-- what a deed said, the host before it being this
abbrev pub said_of : HostData → Bool → Deed → List Word
said_of h begun (Connected now fate) = says fate (words_of h (host.Connected now))
said_of h begun (Told p rest heard now fate) = says fate (words_of h (host.Heard heard now))
said_of h begun (Denied p rest fault fate) = says fate (word.Refused fault (topic_in p) ∷ [])
said_of h begun (Unsubscribed p rest) = word.SubscriptionRefused ∷ []
said_of h begun (Ticked now fate) = says fate (words_of h (host.Ticked now))
said_of h begun (Requested group node now fate) = says fate (request_words group node)
said_of h begun (Stopped now fate) = says fate (words_of h (host.Stopped now))
said_of h begun (Over now) = if begun then word.Ended ∷ [] else []
said_of h begun _ = []

-- all that was said, in order: what is lost, what the host consumed, what became of messages, its requests, deaths, refusals, and ends
abbrev pub said_in : Config → List Deed → List Word
said_in config [] = []
said_in config (d ∷ ds) = said_in config ds ++ said_of (host_after config (calls_in ds)) (has_begun ds) d

-- all that was printed, in order
abbrev pub printed_in : List Deed → List Word
printed_in [] = []
printed_in (Printed w ∷ ds) = printed_in ds ++ w ∷ []
printed_in (_ ∷ ds) = printed_in ds
