-- What the broker's laws say, handed in to the lemmas.
use Rattle.std.proofs.Common.{◌≡◌, ◌⊎◌, ℕ, ◌+◌, ◌≤◌, true, false, cond, List, []}
use Rattle.std.specs.List.{flat_map}
use Rattle.spk_packets.specs.Message.{Message}
use Rattle.spk_session.specs.declared.answer.Sort.TheVariants as sort
use Rattle.spk_broker_rules.specs.Data.{Broker, fresh_broker}
use Rattle.spk_broker_rules.specs.Dropping.{HasFew, drops_after}
use Rattle.spk_broker_rules.specs.Knowing.{is_opening}
use Rattle.spk_broker_rules.specs.Lawful.{IsLawful}
use Rattle.spk_broker_rules.specs.Listening.{IsPlain, given_to, is_closed_in, is_joined, lets_go, listens, plain_publish, takes_back}
use Rattle.spk_broker_rules.specs.Plan.{Event, Open, Packet, Refused}
use Rattle.spk_broker_rules.specs.Step.{Turn, after, drops_in, knows, route, step}
use Rattle.spk_broker_rules.specs.Topics.{Brings, FiltersIn, FitsAlike, HasFilters}

pub record Facts : Type 0 where
  pub lawful : (limit : ℕ) (es : List Event) → IsLawful (after limit es)
  pub done : (t : Turn) → t.waiting ≡ [] → route t ≡ t
  -- a plain publish
  pub sends : (b : Broker) (conn moment : ℕ) (topic payload : List ℕ) → IsPlain topic payload → is_joined b conn ≡ true →
      (step b (Packet conn (plain_publish topic payload) moment)).sends ≡ flat_map (given_to topic payload) b.sessions
  pub closes : (b : Broker) (conn moment : ℕ) (topic payload : List ℕ) → IsPlain topic payload → is_joined b conn ≡ true →
      (step b (Packet conn (plain_publish topic payload) moment)).closes ≡ []
  -- staying
  pub joined : (b : Broker) (conn : ℕ) (e : Event) → IsLawful b → is_joined b conn ≡ true → lets_go conn e ≡ false →
      (is_joined (step b e).broker conn ≡ true) ⊎ (is_closed_in conn (step b e) ≡ true)
  pub listening : (b : Broker) (conn : ℕ) (topic : List ℕ) (e : Event) → IsLawful b → listens b conn topic ≡ true →
      lets_go conn e ≡ false → takes_back conn e ≡ false →
      (listens (step b e).broker conn topic ≡ true) ⊎ (is_closed_in conn (step b e) ≡ true)
  -- filters
  pub heard : (b : Broker) (conn : ℕ) (topic : List ℕ) → listens b conn topic ≡ true → is_joined b conn ≡ true
  pub no_filters : (limit : ℕ) (one other : List ℕ) → HasFilters (FitsAlike one other) (fresh_broker limit)
  pub filters : (b : Broker) (e : Event) (one other : List ℕ) → HasFilters (FitsAlike one other) b →
      Brings (FiltersIn (FitsAlike one other)) e → HasFilters (FitsAlike one other) (step b e).broker
  pub alike : (b : Broker) (conn : ℕ) (one other : List ℕ) → HasFilters (FitsAlike one other) b →
      listens b conn one ≡ listens b conn other
  -- connections
  pub fresh : (b : Broker) → IsLawful b → knows b (b.given + 1) ≡ false
  pub opened : (b : Broker) (moment : ℕ) → knows (step b (Open moment)).broker (b.given + 1) ≡ true
  pub given : (b : Broker) (e : Event) → IsLawful b → (step b e).broker.given ≡ cond (is_opening e) (b.given + 1) b.given
  pub stands : (b : Broker) (conn : ℕ) (e : Event) → IsLawful b → knows b conn ≡ true → lets_go conn e ≡ false →
      (knows (step b e).broker conn ≡ true) ⊎ (is_closed_in conn (step b e) ≡ true)
  pub closed : (b : Broker) (conn : ℕ) (e : Event) → IsLawful b → is_closed_in conn (step b e) ≡ true → knows (step b e).broker conn ≡ false
  pub ended : (b : Broker) (conn : ℕ) (e : Event) → IsLawful b → lets_go conn e ≡ true → knows (step b e).broker conn ≡ false
  pub gone : (b : Broker) (conn : ℕ) (e : Event) → IsLawful b → conn ≤ b.given → knows b conn ≡ false → knows (step b e).broker conn ≡ false
  -- the first packet
  pub first : (b : Broker) (conn : ℕ) (p : Message) (moment : ℕ) → IsLawful b → knows b conn ≡ true → is_joined b conn ≡ false →
      (is_joined (step b (Packet conn p moment)).broker conn ≡ true) ⊎ (is_closed_in conn (step b (Packet conn p moment)) ≡ true)
  -- drops
  pub no_drops : (limit : ℕ) → HasFew (fresh_broker limit)
  pub few : (b : Broker) (e : Event) → IsLawful b → HasFew b → HasFew (step b e).broker
  pub limit : (b : Broker) (e : Event) → IsLawful b → (step b e).broker.limit ≡ b.limit
  pub dropped : (b : Broker) (conn : ℕ) (e : Event) → IsLawful b → knows b conn ≡ true → knows (step b e).broker conn ≡ true →
      drops_in conn (step b e).broker ≡ drops_after conn e (drops_in conn b)
  pub other : (b : Broker) (conn moment : ℕ) → is_closed_in conn (step b (Refused conn sort.Other moment)) ≡ true
