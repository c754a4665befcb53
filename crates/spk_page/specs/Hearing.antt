-- What bytes ask for that a client sent.
use Rattle.std.specs.Prelude.{◌≡◌, ◌⊎◌, ℕ, ◌<◌, ◌≤◌, List, length}
use Rattle.httparse.specs.Grammar.{HasNoRequest, MayBecomeRequest, RequestHead}
use Rattle.http1.specs.declared.conn.Limits.{Limits}
use Rattle.http1.specs.declared.error.ReadError.{ReadError}
use Rattle.http1.specs.declared.framing.Framing.{Framing}
use Rattle.http1.specs.Message.{AcceptsRequest}
use Rattle.http1.specs.ReadError.{RequestError, status_of}
use Rattle.http1.specs.declared.server.Server.{Server}
use Rattle.http1.specs.Framing.{method_kind}
use Rattle.http1.specs.Server.{HasNoHead, peer_method, peer_minor}
use Rattle.spk_page.specs.declared.asked.Asked.{Asked}
use Rattle.spk_page.specs.declared.asked.Asked.TheVariants.{Nothing, NoRequest}
use Rattle.spk_page.specs.Asked.{asked_for}

-- what a request may have: 8,192 bytes (own rule)
abbrev pub limits : Limits
limits = record { max_head_len = 8192; max_extensions_len = 8192; max_trailers_len = 8192 }

-- the head of a request within the limits stands at the front, this is what it asks for, and
-- the connection answers that request
abbrev pub IsRequestFor : List ℕ → Asked → Server → Type 0
IsRequestFor bytes asked s = (h : RequestHead) × (framing : Framing) × (rest : List ℕ) × AcceptsRequest limits bytes h framing rest
    × (asked ≡ asked_for h) × (peer_method s ≡ method_kind h.method) × (peer_minor s ≡ h.minor)

-- no head stands at the front, and one may yet
abbrev pub IsBegun : List ℕ → Asked → Type 0
IsBegun bytes asked = (asked ≡ Nothing) × HasNoRequest bytes × (length bytes < 8192) × MayBecomeRequest bytes

-- whatever follows, no head within the limits and with 64 fields at most stands at the front; the status says why
abbrev pub IsNone : List ℕ → Asked → Type 0
IsNone bytes asked = (e : ReadError) × HasNoHead limits bytes 64 × RequestError 8192 bytes 64 e × (asked ≡ NoRequest (status_of e))

abbrev pub AsksFor : List ℕ → Asked → Server → Type 0
AsksFor bytes asked s = IsNone bytes asked ⊎ (IsBegun bytes asked ⊎ IsRequestFor bytes asked s)
