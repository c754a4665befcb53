-- A stream's head and its events are one response.
use Rattle.std.proofs.Common.{◌≡◌, ℕ, ◌≤◌, List, [], ◌++◌, length, codes, Option, None, Result, Ok, sym, ap, ◌∙◌, subst, append-nil, arith}
use Rattle.std.specs.List.{concat}
use Rattle.http1.specs.declared.conn.BodySize.TheVariants.{Unknown}
use Rattle.http1.specs.declared.conn.Limits.{Limits}
use Rattle.http1.specs.declared.conn.Writing.TheVariants as Writes
use Rattle.http1.specs.declared.encode.Encoder.{Encoder}
use Rattle.http1.specs.declared.error.WriteError.{WriteError}
use Rattle.http1.specs.declared.server.Server.{Server}
use Rattle.http1.specs.Body.{body_of}
use Rattle.http1.specs.Conn.{Plan, planned_headers}
use Rattle.http1.specs.Encoder.{AreAccepted, body_text, encoder_for}
use Rattle.http1.specs.Head.{head_refusal, is_status_line, response_head, response_text}
use Rattle.http1.specs.Message.{ReadsResponseMessage}
use Rattle.http1.specs.Server.{planned_response, responding, response_plan, writing}
use Rattle.http1.proofs.MessageRoundTrip.{response_round_trip}
use Rattle.spk_page.specs.Clients.{stream_fields}
use Rattle.spk_page.specs.Streams.{BeginsWith, IsOneResponse, stream_refusal, stream_text}
use Rattle.spk_page.proofs.Round.{may_end, plan_of}

encoder_of : (s : Server) (q : Result Plan WriteError) (p : Plan) (e : Encoder) → q ≡ Ok p → writing (responding s q) ≡ Writes.Body e → encoder_for p.framing ≡ e
encoder_of s q p e same behind =
    let at : Writes.Body (encoder_for p.framing) ≡ Writes.Body e = subst (λ x. writing (responding s x) ≡ Writes.Body e) same behind in cc

module _ (s : Server) (e : Encoder) (events : List (List ℕ)) (p : Plan) (planned : response_plan s 200 Unknown stream_fields ≡ Ok p) (same : encoder_for p.framing ≡ e) where
  text_by : stream_text s e events ≡ response_text s.request.minor 200 (codes "OK") (stream_fields ++ p.extra) ++ (body_text events (encoder_for p.framing) [] ++ [])
  text_by =
      let head : planned_response s 200 (codes "OK") Unknown stream_fields ≡ response_text s.request.minor 200 (codes "OK") (stream_fields ++ p.extra) = ap (λ q. response_text s.request.minor 200 (codes "OK") (planned_headers q stream_fields)) planned in
      let body : body_text events e [] ≡ body_text events (encoder_for p.framing) [] ++ [] = ap (λ x. body_text events x []) (sym same) ∙ sym (append-nil (body_text events (encoder_for p.framing) [])) in
      ap (λ h. h ++ body_text events e []) head ∙ ap (λ b. response_text s.request.minor 200 (codes "OK") (stream_fields ++ p.extra) ++ b) body

  reads : head_refusal (is_status_line s.request.minor 200 (codes "OK")) (stream_fields ++ p.extra) ≡ None → AreAccepted events e [] → (limits : Limits) → length (response_text s.request.minor 200 (codes "OK") (stream_fields ++ p.extra)) ≤ limits.max_head_len → 2 ≤ limits.max_trailers_len → ReadsResponseMessage limits s.request.method (stream_text s e events) (record { head = response_head s.request.minor 200 (codes "OK") (stream_fields ++ p.extra); body = body_of (concat events) [] }) []
  reads valid accepted limits short two =
      let here = subst (λ x. AreAccepted events x []) (sym same) accepted in
      let back = response_round_trip limits Unknown stream_fields p events [] [] here (omega (arith, two)) (may_end p.framing) s 200 (codes "OK") planned valid short in
      subst (λ t. ReadsResponseMessage limits s.request.method t (record { head = response_head s.request.minor 200 (codes "OK") (stream_fields ++ p.extra); body = body_of (concat events) [] }) []) (sym text_by) back

pub stream_reads : (s : Server) (e : Encoder) (events : List (List ℕ)) → stream_refusal s ≡ None → BeginsWith s e → AreAccepted events e [] → IsOneResponse s e events
stream_reads s e events begun behind accepted =
    let found = plan_of (response_plan s 200 Unknown stream_fields) (is_status_line s.request.minor 200 (codes "OK")) stream_fields begun in
    let same = encoder_of s _ found.0 e found.1 behind in
    (found.0.extra, reads s e events found.0 found.1 same found.2 accepted)
