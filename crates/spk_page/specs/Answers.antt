-- What is answered. A response is read by the grammar of RFC 9112, as `http1` has it.
use Rattle.std.specs.Prelude.{◌≡◌, ℕ, ◌≤◌, List, [], ◌∷◌, ◌++◌, length, codes, if◌then◌else◌, ◌==◌}
use Rattle.http1.specs.declared.conn.Limits.{Limits}
use Rattle.http1.specs.declared.server.Server.{Server}
use Rattle.http1.specs.Body.{body_of}
use Rattle.http1.specs.Fields.{Header}
use Rattle.http1.specs.Head.{response_head, response_text}
use Rattle.http1.specs.Message.{ReadsResponseMessage}
use Rattle.http1.specs.Server.{peer_method, peer_minor}
use Rattle.spk_page.specs.declared.html.TheConstants.{POLICY}

-- the words behind a status (RFC 9110, section 15; RFC 6585)
abbrev pub reason_of : ℕ → List ℕ
reason_of status =
    if status == 200 then codes "OK"
    else if status == 403 then codes "Forbidden"
    else if status == 404 then codes "Not Found"
    else if status == 405 then codes "Method Not Allowed"
    else if status == 414 then codes "URI Too Long"
    else if status == 431 then codes "Request Header Fields Too Large"
    else if status == 503 then codes "Service Unavailable"
    else codes "Bad Request"

-- what each answer says of itself: nothing is kept, no other page may show it, it loads nothing and asks only where it came from, and the connection
-- is closed behind it (own rules; CSP 3; RFC 9111)
abbrev pub fields_of : List ℕ → List Header
fields_of kind =
    (codes "content-type", kind) ∷ (codes "cache-control", codes "no-store") ∷ (codes "content-security-policy", POLICY.now)
    ∷ (codes "x-content-type-options", codes "nosniff") ∷ (codes "referrer-policy", codes "no-referrer")
    ∷ (codes "connection", codes "close") ∷ (codes "allow", codes "GET") ∷ []

-- one response, whole: with this status, these fields and others of its frame, and this body
abbrev pub ReadsWith : Server → ℕ → List ℕ → List ℕ → List ℕ → Limits → List Header → Type 0
ReadsWith s status kind body text limits extra =
    let fields = fields_of kind ++ extra in
    length (response_text (peer_minor s) status (reason_of status) fields) ≤ limits.max_head_len → 2 ≤ limits.max_trailers_len
    → ReadsResponseMessage limits (peer_method s) text (record { head = response_head (peer_minor s) status (reason_of status) fields; body = body_of body [] }) []

-- a reader whose limits the head fits reads the text as one response to the request: with this status, these fields and this body
abbrev pub ReadsBack : Server → ℕ → List ℕ → List ℕ → List ℕ → Type 0
ReadsBack s status kind body text = (extra : List Header) × ((limits : Limits) → ReadsWith s status kind body text limits extra)
