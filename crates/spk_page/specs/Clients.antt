-- One client's connection (own rules where no section is named). Moments are in milliseconds.
use Rattle.std.specs.Prelude.{◌≡◌, ◌⊎◌, ℕ, ◌+◌, ◌++◌, Bool, true, false, ◌||◌, nat_le, List, [], ◌∷◌, Option, Some, None, codes, if◌then◌else◌}
use Rattle.http1.specs.declared.server.Server.{Server}
use Rattle.http1.specs.Conn.{after_data}
use Rattle.http1.specs.Fields.{Header}
use Rattle.http1.specs.Server.{with_writing, writing}
use Rattle.spk_story.specs.Data.{capped}
use Rattle.spk_page.specs.declared.asked.Asked.{Asked}
use Rattle.spk_page.specs.declared.asked.Asked.TheVariants as Asked
use Rattle.spk_page.specs.declared.stage.Stage.{Stage}
use Rattle.spk_page.specs.declared.stage.Stage.TheVariants.{Hearing, Asked as Heard, Streaming, Ending}
use Rattle.spk_page.specs.Hearing.{AsksFor}

pub record Client : Type 0 where
  pub server : Server
  -- what came, until it asks for something
  pub input : List ℕ
  -- what waits to be written
  pub unwritten : List ℕ
  pub stage : Stage
  -- when it began, or bytes were taken last
  pub since : ℕ

abbrev pub is_hearing : Stage → Bool
is_hearing Hearing = true
is_hearing _ = false

abbrev pub is_ending : Stage → Bool
is_ending Ending = true
is_ending _ = false

-- once something is asked for, it waits for the answer
abbrev pub stage_by : Asked → Stage
stage_by Asked.Nothing = Hearing
stage_by _ = Heard

-- what all that came asks for; where it is answered already, bytes change nothing
abbrev pub HasHeardBy : Bool → Client → List ℕ → Client → Asked → Type 0
HasHeardBy true old piece new asked =
    (new.input ≡ old.input ++ piece) × AsksFor new.input asked new.server × (new.stage ≡ stage_by asked)
HasHeardBy false old piece new asked = (asked ≡ Asked.Nothing) × (new ≡ old)

abbrev pub HasHeard : Client → List ℕ → Client → Asked → Type 0
HasHeard old piece new asked = HasHeardBy (is_hearing old.stage) old piece new asked

abbrev pub is_empty : List ℕ → Bool
is_empty [] = true
is_empty (_ ∷ _) = false

-- bytes that wait are taken within 30 seconds of those before; a request is whole within 10
abbrev pub deadline_of : Client → Option ℕ
deadline_of c =
    if is_empty c.unwritten then (if is_hearing c.stage then Some (capped (c.since + 10000)) else None)
    else Some (capped (c.since + 30000))

-- the moment has come
abbrev pub has_come : Option ℕ → ℕ → Bool
has_come None now = false
has_come (Some until) now = nat_le until now

-- it was answered and all is written
abbrev pub is_answered : Client → Bool
is_answered c = if is_ending c.stage then is_empty c.unwritten else false

-- or it is past its time
abbrev pub is_over : Client → ℕ → Bool
is_over c now = is_answered c || has_come (deadline_of c) now

-- at most four events a second, and one in 15 seconds
abbrev pub event_after : Stage → Bool → Option ℕ
event_after (Streaming told) news = Some (capped (told + (if news then 250 else 15000)))
event_after _ news = None

-- an event waits until the one before is written
abbrev pub next_event : Client → Bool → Option ℕ
next_event c news = if is_empty c.unwritten then event_after c.stage news else None

-- what a stream of events says of itself (HTML, section 9.2)
abbrev pub stream_fields : List Header
stream_fields =
    (codes "content-type", codes "text/event-stream") ∷ (codes "cache-control", codes "no-store")
    ∷ (codes "x-content-type-options", codes "nosniff") ∷ (codes "connection", codes "close") ∷ []

-- an event whose data is this text
abbrev pub event_text : List ℕ → List ℕ
event_text text = codes "data: " ++ text ++ (10 ∷ 10 ∷ [])

abbrev pub ping_text : List ℕ
ping_text = codes "event: ping\ndata: {}\n\n"

-- the connection behind an event of this length
abbrev pub told_by : Server → ℕ → Server
told_by s len = with_writing s (after_data (writing s) len)
