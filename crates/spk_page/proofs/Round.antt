-- A whole response is read again as it was meant.
use Rattle.std.proofs.Common.{◌≡◌, ℕ, ◌^◌, ◌<◌, ◌≤◌, Bool, List, [], ◌∷◌, ◌++◌, length, map, Option, None, Some, Result, Ok, Err, refl, sym, ap, ◌∙◌, subst, append_assoc, append-nil, arith}
use Rattle.http1.specs.declared.conn.BodySize.{BodySize}
use Rattle.http1.specs.declared.conn.Limits.{Limits}
use Rattle.http1.specs.declared.error.WriteError.{WriteError}
use Rattle.http1.specs.declared.framing.Framing.{Framing}
use Rattle.http1.specs.declared.framing.Framing.TheVariants as Framed
use Rattle.http1.specs.declared.server.Server.{Server}
use Rattle.http1.specs.Body.{body_of}
use Rattle.http1.specs.Conn.{Plan, plan_refusal, planned_headers, data_refusal, data_text, after_data, finish_refusal, finish_text}
use Rattle.http1.specs.Encoder.{AreAccepted, after_piece, body_text, encoder_for, end_text, end_refusal, piece_refusal, piece_text}
use Rattle.http1.specs.Fields.{Header}
use Rattle.http1.specs.Head.{head_refusal, is_status_line, response_head, response_text}
use Rattle.http1.specs.Message.{ReadsResponseMessage, Response}
use Rattle.http1.specs.Output.{GivesOrRefuses}
use Rattle.http1.specs.Server.{after_response, peer_method, peer_minor, planned_response, responding, response_plan, response_refusal, with_writing, writing}
use Rattle.http1.proofs.BodyRoundTrip.{MayFollow}
use Rattle.http1.proofs.MessageRoundTrip.{response_round_trip}

-- what was written wasn't refused
pub ok_none : {T : Type 0} → (o : Option WriteError) (spare len : ℕ) (r : Result T WriteError) (t : T) → r ≡ Ok t → GivesOrRefuses o spare len r → o ≡ None
ok_none None spare len r t e h = refl
ok_none (Some x) spare len r t e h = cc

pub plan_of : (q : Result Plan WriteError) (line : Bool) (hs : List Header) → plan_refusal q line hs ≡ None → (p : Plan) × (q ≡ Ok p) × (head_refusal line (hs ++ p.extra) ≡ None)
plan_of (Ok p) line hs e = (p, refl, e)
plan_of (Err x) line hs e = cc

pub may_end : (f : Framing) → MayFollow f []
may_end Framed.NoBody = tt
may_end (Framed.Length n) = tt
may_end Framed.Chunked = tt
may_end Framed.UntilClose = refl

-- all that is written for a response with this body
abbrev pub whole : Server → ℕ → List ℕ → BodySize → List Header → List ℕ → List ℕ
whole s status reason size fields body =
    let after = after_response s status size fields in
    let done = with_writing after (after_data (writing after) (length body)) in
    (planned_response s status reason size fields ++ data_text (writing after) body) ++ finish_text (writing done) []

-- the same by a plan
abbrev by_plan : Server → ℕ → List ℕ → List Header → List ℕ → Result Plan WriteError → List ℕ
by_plan s status reason fields body q =
    (response_text s.request.minor status reason (planned_headers q fields) ++ data_text (writing (responding s q)) body) ++ finish_text (after_data (writing (responding s q)) (length body)) []

text_by : (s : Server) (status : ℕ) (reason : List ℕ) (fields : List Header) (body : List ℕ) (p : Plan) → by_plan s status reason fields body (Ok p) ≡ response_text s.request.minor status reason (fields ++ p.extra) ++ (body_text (body ∷ []) (encoder_for p.framing) [] ++ [])
text_by s status reason fields body p =
    let head = response_text s.request.minor status reason (fields ++ p.extra) in
    let piece = piece_text (encoder_for p.framing) body in
    let end = end_text (after_piece (encoder_for p.framing) (length body)) [] in
    append_assoc head piece end ∙ ap (λ x. head ++ x) (sym (append-nil (piece ++ end)))

abbrev pub ReadsAs : Server → ℕ → List ℕ → List Header → List ℕ → List ℕ → Limits → List Header → Type 0
ReadsAs s status reason fields body text limits extra =
    length (response_text (peer_minor s) status reason (fields ++ extra)) ≤ limits.max_head_len → 2 ≤ limits.max_trailers_len
    → ReadsResponseMessage limits (peer_method s) text (record { head = response_head (peer_minor s) status reason (fields ++ extra); body = body_of body [] }) []

module _ (s : Server) (status : ℕ) (reason : List ℕ) (size : BodySize) (fields : List Header) (body : List ℕ) where
  by_that : (p : Plan) → response_plan s status size fields ≡ Ok p → head_refusal (is_status_line s.request.minor status reason) (fields ++ p.extra) ≡ None → AreAccepted (body ∷ []) (encoder_for p.framing) [] → (limits : Limits) → ReadsAs s status reason fields body (whole s status reason size fields body) limits p.extra
  by_that p planned valid accepted limits short two =
      let message : List ℕ → Response = λ b. record { head = response_head s.request.minor status reason (fields ++ p.extra); body = body_of b [] } in
      let text : whole s status reason size fields body ≡ response_text s.request.minor status reason (fields ++ p.extra) ++ (body_text (body ∷ []) (encoder_for p.framing) [] ++ []) = ap (by_plan s status reason fields body) planned ∙ text_by s status reason fields body p in
      let back = response_round_trip limits size fields p (body ∷ []) [] [] accepted (omega (arith, two)) (may_end p.framing) s status reason planned valid short in
      subst (λ t. ReadsResponseMessage limits s.request.method t (message body) []) (sym text) (subst (λ b. ReadsResponseMessage limits s.request.method (response_text s.request.minor status reason (fields ++ p.extra) ++ (body_text (body ∷ []) (encoder_for p.framing) [] ++ [])) (message b) []) (append-nil body) back)

  accepted_by : (p : Plan) → response_plan s status size fields ≡ Ok p → length body < 2 ^ 64 → data_refusal (writing (after_response s status size fields)) (length body) ≡ None → finish_refusal (after_data (writing (after_response s status size fields)) (length body)) [] ≡ None → AreAccepted (body ∷ []) (encoder_for p.framing) []
  accepted_by p planned fits sent ended = (
    fits,
    subst (λ q. data_refusal (writing (responding s q)) (length body) ≡ None) planned sent,
    subst (λ q. finish_refusal (after_data (writing (responding s q)) (length body)) [] ≡ None) planned ended,
  )

  -- a response none of whose three parts was refused
  pub reads_back : length body < 2 ^ 64 → response_refusal s status reason size fields ≡ None → data_refusal (writing (after_response s status size fields)) (length body) ≡ None → finish_refusal (after_data (writing (after_response s status size fields)) (length body)) [] ≡ None → (extra : List Header) × ((limits : Limits) → ReadsAs s status reason fields body (whole s status reason size fields body) limits extra)
  reads_back fits begun sent ended =
      let found = plan_of (response_plan s status size fields) (is_status_line s.request.minor status reason) fields begun in
      (found.0.extra, by_that found.0 found.1 found.2 (accepted_by found.0 found.1 fits sent ended))

-- what three calls wrote
module _ (s s1 s2 : Server) (status : ℕ) (reason : List ℕ) (size : BodySize) (fields : List Header) (body t0 t1 t2 t3 : List ℕ) where
  pub written_back : length body < 2 ^ 64 → t0 ≡ [] → t1 ≡ t0 ++ planned_response s status reason size fields → s1 ≡ after_response s status size fields → t2 ≡ t1 ++ data_text (writing s1) body → s2 ≡ with_writing s1 (after_data (writing s1) (length body)) → t3 ≡ t2 ++ finish_text (writing s2) [] → response_refusal s status reason size fields ≡ None → data_refusal (writing s1) (length body) ≡ None → finish_refusal (writing s2) [] ≡ None → (extra : List Header) × ((limits : Limits) → ReadsAs s status reason fields body t3 limits extra)
  written_back fits e0 e1 n1 e2 n2 e3 begun sent ended =
      let after = after_response s status size fields in
      let sent_here = subst (λ x. data_refusal (writing x) (length body) ≡ None) n1 sent in
      let done = n2 ∙ ap (λ x. with_writing x (after_data (writing x) (length body))) n1 in
      let ended_here = subst (λ x. finish_refusal (writing x) [] ≡ None) done ended in
      let text2 = e2 ∙ ap (λ x. t1 ++ data_text (writing x) body) n1 ∙ ap (λ x. x ++ data_text (writing after) body) (e1 ∙ ap (λ x. x ++ planned_response s status reason size fields) e0) in
      let text3 = e3 ∙ ap (λ x. t2 ++ finish_text (writing x) []) done ∙ ap (λ x. x ++ finish_text (writing (with_writing after (after_data (writing after) (length body)))) []) text2 in
      let back = reads_back s status reason size fields body fits begun sent_here ended_here in
      (back.0, λ limits. subst (λ t. ReadsAs s status reason fields body t limits back.0) (sym text3) (back.1 limits))
