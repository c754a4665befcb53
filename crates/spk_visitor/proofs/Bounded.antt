-- Who may subscribe to everything is never cut.
use Rattle.std.proofs.Common.{◌≡◌, ◌∙◌, sym, ap, refl, ℕ, List, [], ◌∷◌, Bool, true, false, Option, Some, None, is_some}
use Rattle.std.specs.Prelude.{◌&&◌, if◌then◌else◌, length, nat_le}
use Rattle.std.specs.List.{list_all}
use Rattle.spk_packets.specs.Message.{Message, WillData, Connect, ConnAck, Publish, PubAck, Subscribe, SubAck, Unsubscribe, UnsubAck, PingReq, PingResp, Disconnect}
use Rattle.spk_access.specs.Rights.{RightsData, may_publish, may_subscribe}
use Rattle.spk_door.specs.Data.{DoorData, EntryData}
use Rattle.spk_door.specs.Data as door
use Rattle.spk_door.specs.Rules.{allowed, entry, judged, lets_will}
use Rattle.spk_visitor.specs.Data.{AnswerData, Outcome, StageData, Outside, Inside, Over, Closes, Cuts, Refuses}
use Rattle.spk_visitor.specs.Rules.{admitted, client_of, ends, entered, first, further, is_bounded, login_of, outcome}

-- ---- the first packet is never cut

abbrev is_cut : AnswerData → Bool
is_cut (Cuts id each) = true
is_cut _ = false

by-will : (b : Bool) (o : Outcome) → is_cut o.answer ≡ false → is_cut (if b then o else ends Closes).answer ≡ false
by-will true o h = h
by-will false o h = refl

by-name : (b : Bool) (o : Outcome) → is_cut o.answer ≡ false → is_cut (if b then o else ends (Refuses 2)).answer ≡ false
by-name true o h = h
by-name false o h = refl

entered-whole : (d : DoorData) (client : List ℕ) (clean : Bool) (keep : ℕ) (will : Option WillData) (e : EntryData) → is_cut (entered d client clean keep will e).answer ≡ false
entered-whole d client clean keep will (door.Comes user r) =
    by-name (nat_le (length (client_of user client)) 65535) (admitted r d.guard (client_of user client) clean keep will) (by-will (lets_will r d.guard will) _ refl)
entered-whole d client clean keep will (door.Refused code) = refl

first-whole : (d : DoorData) (packet : List ℕ) (p : Message) → is_cut (first d packet p).answer ≡ false
first-whole d packet (Connect client clean keep will) = entered-whole d client clean keep will (entry d client (login_of packet))
first-whole d packet (ConnAck present code) = refl
first-whole d packet (Publish dup qos retain topic id payload) = refl
first-whole d packet (PubAck id) = refl
first-whole d packet (Subscribe id entries) = refl
first-whole d packet (SubAck id codes) = refl
first-whole d packet (Unsubscribe id filters) = refl
first-whole d packet (UnsubAck id) = refl
first-whole d packet PingReq = refl
first-whole d packet PingResp = refl
first-whole d packet Disconnect = refl

-- ---- the others

all-let : (r : RightsData) (es : List (List ℕ × ℕ)) → r.subscribe ≡ None → list_all (λ a. a) (allowed r es) ≡ true
all-let r [] e = refl
all-let r (x ∷ es) e =
    let here : may_subscribe r x.0 ≡ true = rw e refl in
    ap (λ b. b && list_all (λ a. a) (allowed r es)) here ∙ all-let r es e

passes-whole : (r : RightsData) (p : Message) (b : Bool) → is_cut (further r p (if b then door.Passes else door.Closes)).answer ≡ false
passes-whole r p true = refl
passes-whole r p false = refl

cut-whole : (r : RightsData) (id : ℕ) (es : List (List ℕ × ℕ)) (b : Bool) → b ≡ true → is_cut (further r (Subscribe id es) (if b then door.Passes else door.Cuts (allowed r es))).answer ≡ false
cut-whole r id es true h = refl
cut-whole r id es false h = cc

further-whole : (r : RightsData) (guard : Bool) (p : Message) → r.subscribe ≡ None → is_cut (further r p (judged r guard p)).answer ≡ false
further-whole r guard (Connect client clean keep will) e = refl
further-whole r guard (ConnAck present code) e = refl
further-whole r guard (Publish dup qos retain topic id payload) e = passes-whole r (Publish dup qos retain topic id payload) (may_publish r guard topic)
further-whole r guard (PubAck id) e = refl
further-whole r guard (Subscribe id entries) e = cut-whole r id entries (list_all (λ a. a) (allowed r entries)) (all-let r entries e)
further-whole r guard (SubAck id codes) e = refl
further-whole r guard (Unsubscribe id filters) e = refl
further-whole r guard (UnsubAck id) e = refl
further-whole r guard PingReq e = refl
further-whole r guard PingResp e = refl
further-whole r guard Disconnect e = refl

-- ----

not-cut : (a : AnswerData) (id : ℕ) (each : List Bool) → a ≡ Cuts id each → is_cut a ≡ false → ⊥
not-cut a id each e h =
    let here : true ≡ false = sym (ap is_cut e) ∙ h in
    cc

by-filters : (r : RightsData) (guard : Bool) (p : Message) (id : ℕ) (each : List Bool) (o : Option (List (List ℕ))) → r.subscribe ≡ o
    → (further r p (judged r guard p)).answer ≡ Cuts id each → is_some r.subscribe ≡ true
by-filters r guard p id each (Some filters) e h = ap is_some e
by-filters r guard p id each None e h = absurd (not-cut _ id each h (further-whole r guard p e))

pub cut-bounded : (d : DoorData) (s : StageData) (packet : List ℕ) (p : Message) (id : ℕ) (each : List Bool) → (outcome d s packet p).answer ≡ Cuts id each → is_bounded s ≡ true
cut-bounded d Outside packet p id each h = absurd (not-cut _ id each h (first-whole d packet p))
cut-bounded d (Inside r) packet p id each h = by-filters r d.guard p id each r.subscribe refl h
cut-bounded d Over packet p id each h = cc
