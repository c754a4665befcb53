-- What is asked for: by the head of a request at the front of the bytes, by the grammar of RFC 9112 as `http1` has it.
use Rattle.std.specs.Prelude.{◌≡◌, ◌⊎◌, ℕ, ◌<◌, Bool, not, ◌&&◌, ◌||◌, List, map, length, drop, Option, Some, None, codes, nat_eq, if◌then◌else◌}
use Rattle.std.specs.List.{list_any, starts_with}
use Rattle.std.specs.Str.{bytes_eq}
use Rattle.std.specs.Str.Parse.{digits_value}
use Rattle.httparse.specs.Grammar.{HasNoRequest, MayBecomeRequest, RequestHead}
use Rattle.httparse.specs.Spans.{name_and_value}
use Rattle.http1.specs.declared.conn.Limits.{Limits}
use Rattle.http1.specs.declared.error.ReadError.{ReadError}
use Rattle.http1.specs.declared.framing.Framing.{Framing}
use Rattle.http1.specs.Fields.{Header, is_named, is_number}
use Rattle.http1.specs.Message.{AcceptsRequest}
use Rattle.http1.specs.ReadError.{RequestError, status_of}
use Rattle.http1.specs.Server.{HasNoHead}
use Rattle.spk_page.specs.declared.asked.Asked.{Asked}
use Rattle.spk_page.specs.declared.asked.Asked.TheVariants.{Nothing, Page, View, Node, Events, Metrics, Text, Elsewhere, Foreign, Otherwise, NoRequest}

-- the node of this place, where the digits say one
abbrev pub node_of : List ℕ → Asked
node_of digits = if is_number digits then Node (digits_value 10 digits) else Elsewhere

abbrev pub node_at : List ℕ → Asked
node_at target = if starts_with nat_eq target (codes "/view?node=") then node_of (drop 11 target) else Elsewhere

-- what GET of a target asks for
abbrev pub asked_at : List ℕ → Asked
asked_at target =
    if bytes_eq target (codes "/") then Page
    else if bytes_eq target (codes "/view") then View
    else if bytes_eq target (codes "/events") then Events
    else if bytes_eq target (codes "/metrics") then Metrics
    else if bytes_eq target (codes "/text") then Text
    else node_at target

-- this machine by a name of its own, with or without a port (own rule)
abbrev pub is_own : List ℕ → Bool
is_own host =
    bytes_eq host (codes "127.0.0.1") || (starts_with nat_eq host (codes "127.0.0.1:")
    || (bytes_eq host (codes "localhost") || starts_with nat_eq host (codes "localhost:")))

-- a Host field (RFC 9112, section 3.2) that says so
abbrev pub is_own_field : Header → Bool
is_own_field h = is_named (codes "host") h && is_own h.1

-- what a request of this method and target asks for, where the host is this machine or isn't
abbrev pub asked_by : List ℕ → List ℕ → Bool → Asked
asked_by method target own =
    if not (bytes_eq method (codes "GET")) then Otherwise
    else if not own then Foreign
    else asked_at target

-- what a request with this head asks for
abbrev pub asked_for : RequestHead → Asked
asked_for h = asked_by h.method h.target (list_any is_own_field (map name_and_value h.fields))
