-- What is asked of the page: the request at the front of the bytes, by the grammar of RFC 9112 as `httparse` has it.
use Rattle.std.specs.Prelude.{◌≡◌, ◌⊎◌, ℕ, ◌<◌, ◌≤◌, not, ◌||◌, List, length, Option, Some, None, codes, if◌then◌else◌}
use Rattle.std.specs.Str.{bytes_eq}
use Rattle.httparse.specs.Grammar.{HasNoRequest, MayBecomeRequest, ReadsRequest, RequestHead}
use Rattle.httparse.specs.Spans.{RequestOverflows}
use Rattle.spk_status.specs.declared.asked.Asked.{Asked}
use Rattle.spk_status.specs.declared.asked.Asked.TheVariants.{Nothing, Page, Elsewhere, Otherwise, NoRequest}

-- what a request of this method and target asks for
abbrev pub asked_for : List ℕ → List ℕ → Asked
asked_for method target =
    if not (bytes_eq method (codes "GET")) then Otherwise
    else if bytes_eq target (codes "/metrics") || bytes_eq target (codes "/") then Page
    else Elsewhere

-- a request of at most 64 fields stands at the front, and this is what it asks for
abbrev pub IsRequestFor : List ℕ → Asked → Type 0
IsRequestFor bytes asked = (h : RequestHead) × (rest : List ℕ) × ReadsRequest bytes h rest × (length h.fields ≤ 64) × (asked ≡ asked_for h.method h.target)

-- no request stands at the front, and one may yet
abbrev pub IsBegun : List ℕ → Asked → Type 0
IsBegun bytes asked = (asked ≡ Nothing) × HasNoRequest bytes × MayBecomeRequest bytes

-- there are too many bytes, or whatever follows, no request of at most 64 fields stands at the front
abbrev pub IsNone : List ℕ → Asked → Type 0
IsNone bytes asked = (asked ≡ NoRequest) × ((4096 < length bytes) ⊎ RequestOverflows 64 bytes)

abbrev pub AsksFor : List ℕ → Asked → Type 0
AsksFor bytes asked = IsNone bytes asked ⊎ ((length bytes ≤ 4096) × (IsRequestFor bytes asked ⊎ IsBegun bytes asked))

-- the status of the answer (RFC 9110, section 15)
abbrev pub status_of : Asked → Option ℕ
status_of Nothing = None
status_of Page = Some 200
status_of Elsewhere = Some 404
status_of Otherwise = Some 405
status_of NoRequest = Some 400
