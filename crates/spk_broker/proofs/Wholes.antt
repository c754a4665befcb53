-- A session that is as before the call: what it is made of, and how it is so again after a change.
use Rattle.std.proofs.Common.{◌≡◌, ℕ, Bool, true, false, not, ◌==◌, cond, List, length, map, take, refl, ap, ◌∙◌, arith, Option, Some, None, Vec}
use Rattle.std.proofs.lemmas.List.{take_all}
use Rattle.std.specs.Option.{option_map, option_map_or}
use Rattle.std.specs.List.{filter}
use Rattle.std.specs.declared.alloc.Global.{Global}
use Rattle.std.specs.Global.{Box}
use Rattle.spk_session.specs.Data.{Ids}
use Rattle.spk_session.specs.Step.{without}
use Rattle.spk_session.specs.Parts.{ids_after_acked}
use Rattle.spk_broker_rules.specs.Data as plain
use Rattle.spk_broker_rules.specs.Words.{without_id, handed_out}
use Rattle.spk_broker.specs.Both.{Both}
use Rattle.spk_broker.specs.Entering.{whole, acked, taken_up}
use Rattle.spk_broker.specs.Parts.{in_flight_view, grant_view, connection_now, connection_was}
use Rattle.spk_broker.specs.Sitting.{session_both, session_now, session_was, here_was}
use Rattle.spk_broker.specs.declared.session.InFlight.{InFlight}
use Rattle.spk_broker.specs.declared.session.Grant.{Grant}
use Rattle.spk_broker.specs.declared.session.Connection.{Connection}
use Rattle.spk_broker.specs.declared.session.Session.TheInside.{Inside}
use Rattle.spk_broker.proofs.Entered.{in_flight-without}

-- what is there by now is what was there
pub record Stays (s : Inside) : Type 0 where
  pub open' : s.ended ≡ false
  pub here : option_map connection_now s.here ≡ here_was s.left s.here
  pub grants : option_map_or (λ (g : Vec Grant Global). map grant_view g.items) s.regrant (map grant_view s.grants.items) ≡ map grant_view s.grants.items
  pub used : s.ids.value.used ≡ take s.used_before s.ids.value.used
  pub last : s.ids.value.last ≡ s.last_before
  pub in_flight : map in_flight_view s.in_flight.items ≡ map in_flight_view (take s.in_flight_before s.in_flight.items)

pub stays : (s : Inside) → session_both s ≡ whole (session_was s) → Stays s
stays s e = by s.ended refl (ap (λ (b : Both). b.now) e)
  where
    by : (t : Bool) → s.ended ≡ t → cond t None (Some (session_now s)) ≡ Some (session_was s) → Stays s
    by true f g = cc
    by false f g =
        let same : session_now s ≡ session_was s = cc in
        record {
          open' = f;
          here = ap (λ (x : plain.Session). x.here) same;
          grants = ap (λ (x : plain.Session). x.grants) same;
          used = ap (λ (x : plain.Session). x.used) same;
          last = ap (λ (x : plain.Session). x.last) same;
          in_flight = ap (λ (x : plain.Session). x.in_flight) same;
        }

abbrev session_with : plain.Session → Option plain.Connection → List (List ℕ × ℕ) → List ℕ → ℕ → List plain.InFlight → plain.Session
session_with s h g u l c = record s { here = h; grants = g; used = u; last = l; in_flight = c }

alike : (s : plain.Session) (h i : Option plain.Connection) (g f : List (List ℕ × ℕ)) (u v : List ℕ) (l m : ℕ) (c d : List plain.InFlight)
    → h ≡ i → g ≡ f → u ≡ v → l ≡ m → c ≡ d → session_with s h g u l c ≡ session_with s i f v m d
alike s h i g f u v l m c d a b e k n =
    ap (λ x. session_with s x g u l c) a ∙ ap (λ x. session_with s i x u l c) b ∙ ap (λ x. session_with s i f x l c) e
    ∙ ap (λ x. session_with s i f v x c) k ∙ ap (λ x. session_with s i f v m x) n

abbrev make : Bool → plain.Session → plain.Session → Both
make ended a b = record { was = a; now = cond ended None (Some b) }

made : (ended : Bool) (a b x : plain.Session) → ended ≡ false → a ≡ x → b ≡ x → make ended a b ≡ whole x
made ended a b x e f g = ap (λ t. make t a b) e ∙ ap (λ y. make false y b) f ∙ ap (λ y. make false x y) g

-- after an acknowledgement
pub acked-whole : (s : Inside) (id : ℕ) (ids : Box Ids) (in_flight : Vec InFlight Global) (used last most : ℕ) → session_both s ≡ whole (session_was s)
    → ids.value ≡ ids_after_acked s.ids.value id → in_flight.items ≡ filter (λ c. not (c.id == id)) s.in_flight.items
    → used ≡ length ids.value.used → last ≡ ids.value.last → most ≡ length in_flight.items
    → session_both (record s { ids = ids; in_flight = in_flight; used_before = used; last_before = last; in_flight_before = most }) ≡ whole (acked id (session_was s))
acked-whole s id ids in_flight used last most e is_ids are_in_flight is_used is_last is_most =
    let p = stays s e in
    let ids_same : ids.value.used ≡ without id (take s.used_before s.ids.value.used) = ap (λ (i : Ids). i.used) is_ids ∙ ap (without id) p.used in
    let last_same : ids.value.last ≡ s.last_before = ap (λ (i : Ids). i.last) is_ids ∙ p.last in
    let in_flight_same : map in_flight_view in_flight.items ≡ without_id id (map in_flight_view (take s.in_flight_before s.in_flight.items)) =
    ap (map in_flight_view) are_in_flight ∙ in_flight-without id s.in_flight.items ∙ ap (without_id id) p.in_flight in
    made s.ended _ _ (acked id (session_was s)) p.open'
    (alike (session_was s) _ _ _ _ _ _ _ _ _ _ refl refl (ap (λ n. take n ids.value.used) is_used ∙ take_all (length ids.value.used) ids.value.used (omega arith) ∙ ids_same) (is_last ∙ last_same)
    (ap (λ n. map in_flight_view (take n in_flight.items)) is_most ∙ ap (map in_flight_view) (take_all (length in_flight.items) in_flight.items (omega arith)) ∙ in_flight_same))
    (alike (session_was s) _ _ _ _ _ _ _ _ _ _ p.here p.grants ids_same last_same in_flight_same)

-- after it is taken up
pub taken-whole : (s : Inside) (connection : Connection) (in_flight : Vec InFlight Global) (used last most : ℕ) → session_both s ≡ whole (session_was s) → connection_was connection ≡ connection_now connection
    → map in_flight_view in_flight.items ≡ map handed_out (map in_flight_view s.in_flight.items)
    → used ≡ length s.ids.value.used → last ≡ s.ids.value.last → most ≡ length in_flight.items
    → session_both (record s { here = Some connection; left = None; in_flight = in_flight; used_before = used; last_before = last; in_flight_before = most })
    ≡ whole (taken_up (connection_now connection) (session_was s))
taken-whole s connection in_flight used last most e is_connection are_in_flight is_used is_last is_most =
    let p = stays s e in
    let in_flight_same : map in_flight_view in_flight.items ≡ map handed_out (map in_flight_view (take s.in_flight_before s.in_flight.items)) =
    are_in_flight ∙ ap (map handed_out) p.in_flight in
    made s.ended _ _ (taken_up (connection_now connection) (session_was s)) p.open'
    (alike (session_was s) _ _ _ _ _ _ _ _ _ _ (ap (λ l. Some l) is_connection) refl (ap (λ n. take n s.ids.value.used) is_used ∙ take_all (length s.ids.value.used) s.ids.value.used (omega arith) ∙ p.used) (is_last ∙ p.last)
    (ap (λ n. map in_flight_view (take n in_flight.items)) is_most ∙ ap (map in_flight_view) (take_all (length in_flight.items) in_flight.items (omega arith)) ∙ in_flight_same))
    (alike (session_was s) _ _ _ _ _ _ _ _ _ _ refl p.grants p.used p.last in_flight_same)
