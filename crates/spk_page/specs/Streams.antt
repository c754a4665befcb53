-- A stream of events as one response (RFC 9112, as `http1` has it).
use Rattle.std.specs.Prelude.{◌≡◌, ℕ, ◌≤◌, List, [], ◌++◌, length, Option, codes}
use Rattle.std.specs.List.{concat}
use Rattle.http1.specs.declared.conn.BodySize.TheVariants.{Unknown}
use Rattle.http1.specs.declared.conn.Limits.{Limits}
use Rattle.http1.specs.declared.conn.Writing.TheVariants as Writes
use Rattle.http1.specs.declared.encode.Encoder.{Encoder}
use Rattle.http1.specs.declared.error.WriteError.{WriteError}
use Rattle.http1.specs.declared.server.Server.{Server}
use Rattle.http1.specs.Body.{body_of}
use Rattle.http1.specs.Encoder.{body_text}
use Rattle.http1.specs.Fields.{Header}
use Rattle.http1.specs.Head.{response_head, response_text}
use Rattle.http1.specs.Message.{ReadsResponseMessage}
use Rattle.http1.specs.Server.{after_response, peer_method, peer_minor, planned_response, response_refusal, writing}
use Rattle.spk_page.specs.Clients.{stream_fields}

-- why a stream's head is not written
abbrev pub stream_refusal : Server → Option WriteError
stream_refusal s = response_refusal s 200 (codes "OK") Unknown stream_fields

-- behind its head the body is written so
abbrev pub BeginsWith : Server → Encoder → Type 0
BeginsWith s e = writing (after_response s 200 Unknown stream_fields) ≡ Writes.Body e

-- the head, these events, and the end of the body
abbrev pub stream_text : Server → Encoder → List (List ℕ) → List ℕ
stream_text s e events = planned_response s 200 (codes "OK") Unknown stream_fields ++ body_text events e []

-- the text is one response to the request, with status 200, these fields and this body, for each reader whose limits the head fits
abbrev pub IsOneResponse : Server → Encoder → List (List ℕ) → Type 0
IsOneResponse s e events = (extra : List Header) × ((limits : Limits)
    → length (response_text (peer_minor s) 200 (codes "OK") (stream_fields ++ extra)) ≤ limits.max_head_len → 2 ≤ limits.max_trailers_len
    → ReadsResponseMessage limits (peer_method s) (stream_text s e events) (record { head = response_head (peer_minor s) 200 (codes "OK") (stream_fields ++ extra); body = body_of (concat events) [] }) [])
