-- Behind a SUBSCRIBE that is granted the host is subscribed to a node's messages.
use Rattle.std.proofs.Common.{◌≡◌, ◌⊎◌, inl, inr, sym, ap, subst, ◌∙◌, ℕ, ◌≤◌, Bool, true, false, List, ◌∷◌, length, Some, true≢false}
use Rattle.spk_packets.specs.Message.{Subscribe}
use Rattle.spk_topics.specs.Fitting.{is_match}
use Rattle.spk_ingress.specs.declared.rule.Message.{Message}
use Rattle.spk_broker_rules.specs.Data.{Broker}
use Rattle.spk_broker_rules.specs.Lawful.{IsLawful}
use Rattle.spk_broker_rules.specs.Listening.{is_closed_in, listens}
use Rattle.spk_broker_rules.specs.Plan.{Packet}
use Rattle.spk_broker_rules.specs.Step.{after, knows, step}
use Rattle.spk_broker_listening.specs.Granted.{Grants, IsAnswered, holds}
use Rattle.spk_plant_broker.specs.Data.{Entry, Room, Says, Took}
use Rattle.spk_plant_broker.specs.Log.{IsLog, room_of, taken_of}
use Rattle.spk_plant_broker.specs.Step.{called, conn_at, packet_on}
use Rattle.spk_plant_relay.specs.Shown.{AllMaySay, HasPlaces}
use Rattle.spk_plant_relay.proofs.Base.{Base, closes-client, joined-known}
use Rattle.spk_plant_relay.proofs.Facts.{Facts}
use Rattle.spk_plant_relay.proofs.Few.{state-of}
use Rattle.spk_plant_relay.proofs.Moves.{known-is, known-some}
use Rattle.spk_plant_laws.specs.Standing.{Subscribes}

-- what the law on SUBSCRIBE says, handed in
pub record Grantings : Type 0 where
  pub granted : (b : Broker) (conn id moment : ℕ) (entries : List (List ℕ × ℕ)) (codes filter : List ℕ) → IsLawful b
      → IsAnswered b (Packet conn (Subscribe id entries) moment) conn id codes → Grants filter entries codes
      → (holds (step b (Packet conn (Subscribe id entries) moment)).broker conn filter ≡ true) ⊎ (is_closed_in conn (step b (Packet conn (Subscribe id entries) moment)) ≡ true)
  pub matched : (b : Broker) (conn : ℕ) (filter topic : List ℕ) → holds b conn filter ≡ true → is_match filter topic ≡ true → listens b conn topic ≡ true

module _ (f : Facts) (g : Grantings) (limit edges : ℕ) (on : List ℕ → Bool) where
  called-subscribes : (r : Room) (conn id now : ℕ) (entries : List (List ℕ × ℕ)) (codes filter topic : List ℕ) → Base limit on r
      → Base limit on (called limit r (Packet conn (Subscribe id entries) now)) → (called limit r (Packet conn (Subscribe id entries) now)).closed edges ≡ false
      → conn_at limit r edges ≡ Some conn → IsAnswered (after limit r.events) (Packet conn (Subscribe id entries) now) conn id codes → Grants filter entries codes → on topic ≡ true
      → is_match filter topic ≡ true → Subscribes limit edges on (called limit r (Packet conn (Subscribe id entries) now))
  called-subscribes r conn id now entries codes filter topic b later uncut has answer given is_on match = record {
    conn = conn;
    has = known-is (after limit (Packet conn (Subscribe id entries) now ∷ r.events)) (r.last edges) conn own.0
        (joined-known (after limit (Packet conn (Subscribe id entries) now ∷ r.events)) conn (f.heard (after limit (Packet conn (Subscribe id entries) now ∷ r.events)) conn topic hears));
    granted = λ other there. sym (f.alike (after limit (Packet conn (Subscribe id entries) now ∷ r.events)) conn topic other (later.filters topic other is_on there)) ∙ hears;
  }
    where
      own : (r.last edges ≡ Some conn) × (knows (after limit r.events) conn ≡ true)
      own = known-some (after limit r.events) (r.last edges) conn has

      hears : listens (after limit (Packet conn (Subscribe id entries) now ∷ r.events)) conn topic ≡ true
      hears = elim (g.granted (after limit r.events) conn id now entries codes filter (f.lawful limit r.events) answer given) [
        | inl x ↦ g.matched (after limit (Packet conn (Subscribe id entries) now ∷ r.events)) conn filter topic x match
        | inr closed ↦ absurd (true≢false (sym (closes-client f limit r (Packet conn (Subscribe id entries) now) edges conn (b.owned edges conn own.0) closed) ∙ uncut))
      ]

  pub took-subscribes : (k : ℕ) → limit ≤ 65535 → (before : List Entry) (m : Message) (conn id : ℕ) (entries : List (List ℕ × ℕ)) (codes filter topic : List ℕ)
      → IsLog limit edges (Took m (Says (Subscribe id entries)) ∷ before) → AllMaySay on k edges (Took m (Says (Subscribe id entries)) ∷ before) → HasPlaces limit edges (Took m (Says (Subscribe id entries)) ∷ before)
      → (room_of limit edges (Took m (Says (Subscribe id entries)) ∷ before)).closed edges ≡ false → m.sender ≡ edges → conn_at limit (room_of limit edges before) edges ≡ Some conn
      → IsAnswered (after limit (room_of limit edges before).events) (Packet conn (Subscribe id entries) (length (taken_of (Took m (Says (Subscribe id entries)) ∷ before)))) conn id codes
      → Grants filter entries codes → on topic ≡ true → is_match filter topic ≡ true
      → Subscribes limit edges on (room_of limit edges (Took m (Says (Subscribe id entries)) ∷ before))
  took-subscribes k small before m conn id entries codes filter topic log says places uncut own has answer given is_on match =
      subst (Subscribes limit edges on) (sym same)
      (called-subscribes (room_of limit edges before) conn id now entries codes filter topic (state-of f limit edges on k small before log.0 says.1 places.1).base
      (subst (Base limit on) same (state-of f limit edges on k small (Took m (Says (Subscribe id entries)) ∷ before) log says places).base)
      (ap (λ (r : Room). r.closed edges) (sym same) ∙ uncut) has answer given is_on match)
    where
      now : ℕ
      now = length (taken_of (Took m (Says (Subscribe id entries)) ∷ before))

      same : room_of limit edges (Took m (Says (Subscribe id entries)) ∷ before) ≡ called limit (room_of limit edges before) (Packet conn (Subscribe id entries) (length (taken_of (Took m (Says (Subscribe id entries)) ∷ before))))
      same = ap (packet_on limit (length (taken_of (Took m (Says (Subscribe id entries)) ∷ before))) (room_of limit edges before) m.sender (Subscribe id entries))
          (ap (conn_at limit (room_of limit edges before)) own ∙ has)
