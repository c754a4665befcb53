-- What holds of each session's identifiers and messages.
use Rattle.std.proofs.Common.{◌≡◌, ℕ, zero, suc, ◌+◌, ◌≤◌, ◌<◌, ◌==◌, Bool, true, false, not, cond, List, [], ◌∷◌, ◌++◌, map, length, refl, ap, ◌∙◌, arith, is_some}
use Rattle.std.specs.List.{filter, AllByRecursion}
use Rattle.std.proofs.lemmas.Bool.{ltb-true}
use Rattle.std.proofs.lemmas.List.{length-append, map-append}
use Rattle.spk_session.specs.PacketIds.{next_id}
use Rattle.spk_session.specs.Step.{has_room, without}
use Rattle.spk_broker_rules.specs.Data.{AppMessage, InFlight, Session}
use Rattle.spk_broker_rules.specs.Plan.{Event}
use Rattle.spk_broker_rules.specs.Words.{handed_out, without_id}
use Rattle.spk_broker_rules.specs.Step.{after, hand_at, numbered, bursts, in_flight_with}
use Rattle.spk_broker_limits.specs.Limits.{IsWithin, KeepsItsMessages}
use Rattle.spk_broker_limits.proofs.Sessions.{Keeps, All, always}

-- ---- at most 1,024 identifiers

shorter : (b : Bool) (x : ℕ) (kept xs : List ℕ) → length kept ≤ length xs → length (cond b (x ∷ kept) kept) ≤ suc (length xs)
shorter true x kept xs h = omega arith
shorter false x kept xs h = omega arith

few : (used : List ℕ) (keep : ℕ → Bool) → length (filter keep used) ≤ length used
few [] keep = omega arith
few (x ∷ xs) keep = shorter (keep x) x (filter keep xs) xs (few xs keep)

within_hand : (q : ℕ) (m : AppMessage) (s : Session) → IsWithin s → All IsWithin (hand_at q m s).left
within_hand zero m s p = (p, tt)
within_hand (suc q) m s p = by (has_room s.used) refl
  where
    by : (b : Bool) → has_room s.used ≡ b → All IsWithin (cond b (numbered s m (next_id s.used s.last)) (bursts s)).left
    by true e =
        let room : length s.used < 1024 = ltb-true (length s.used) 1024 e in
        let long : length (s.used ++ next_id s.used s.last ∷ []) ≡ length s.used + 1 = length-append s.used (next_id s.used s.last ∷ []) in
        ((omega arith), tt)
    by false e = tt

within_keeps : Keeps IsWithin
within_keeps = record {
  handed = λ m s p. within_hand m.qos m s p;
  connected = λ f s p. p;
  alone = λ s p. p;
  fresh = λ key client kept connection. omega arith;
  taken = λ connection s p. p;
  granted = λ grants s p. p;
  acked = λ id s p. let less = few s.used (λ other. not (other == id)) in omega arith;
}

pub identifiers : (limit : ℕ) (es : List Event) → AllByRecursion IsWithin (after limit es).sessions
identifiers limit es = always IsWithin within_keeps limit es

-- ---- messages in flight

handed_ids : (cs : List InFlight) → map (λ (c : InFlight). c.id) (map handed_out cs) ≡ map (λ (c : InFlight). c.id) cs
handed_ids [] = refl
handed_ids (c ∷ cs) = ap (λ xs. c.id ∷ xs) (handed_ids cs)

acked_ids : (id : ℕ) (cs : List InFlight) → map (λ (c : InFlight). c.id) (without_id id cs) ≡ without id (map (λ (c : InFlight). c.id) cs)
acked_ids id [] = refl
acked_ids id (c ∷ cs) = by (not (c.id == id)) (acked_ids id cs)
  where
    by : (b : Bool) → map (λ (c : InFlight). c.id) (without_id id cs) ≡ without id (map (λ (c : InFlight). c.id) cs)
        → map (λ (c : InFlight). c.id) (cond b (c ∷ without_id id cs) (without_id id cs)) ≡ cond b (c.id ∷ without id (map (λ (c : InFlight). c.id) cs)) (without id (map (λ (c : InFlight). c.id) cs))
    by true rest = ap (λ xs. c.id ∷ xs) rest
    by false rest = rest

in_flight_numbered : (m : AppMessage) (s : Session) (id : ℕ) → KeepsItsMessages s → KeepsItsMessages (record s { used = s.used ++ id ∷ []; last = id; in_flight = in_flight_with s id m })
in_flight_numbered m s id p = record { kept = λ e. is_kept e; clean = λ e. is_clean e }
  where
    new : InFlight
    new = record { id = id; app_message = m; handed = is_some s.here }

    is_kept : s.kept ≡ true → map (λ (c : InFlight). c.id) (in_flight_with s id m) ≡ s.used ++ id ∷ []
    is_kept e =
        ap (λ b. map (λ (c : InFlight). c.id) (cond b (s.in_flight ++ new ∷ []) s.in_flight)) e
        ∙ map-append (λ (c : InFlight). c.id) s.in_flight (new ∷ []) ∙ ap (λ xs. xs ++ id ∷ []) (p.kept e)

    is_clean : s.kept ≡ false → in_flight_with s id m ≡ []
    is_clean e = ap (λ b. cond b (s.in_flight ++ new ∷ []) s.in_flight) e ∙ p.clean e

in_flight_hand : (q : ℕ) (m : AppMessage) (s : Session) → KeepsItsMessages s → All KeepsItsMessages (hand_at q m s).left
in_flight_hand zero m s p = (p, tt)
in_flight_hand (suc q) m s p = by (has_room s.used)
  where
    by : (b : Bool) → All KeepsItsMessages (cond b (numbered s m (next_id s.used s.last)) (bursts s)).left
    by true = (in_flight_numbered m s (next_id s.used s.last) p, tt)
    by false = tt

in_flight_keeps : Keeps KeepsItsMessages
in_flight_keeps = record {
  handed = λ m s p. in_flight_hand m.qos m s p;
  connected = λ f s p. record { kept = p.kept; clean = p.clean };
  alone = λ s p. record { kept = p.kept; clean = p.clean };
  fresh = λ key client kept connection. record { kept = λ e. refl; clean = λ e. refl };
  taken = λ connection s p. record { kept = λ e. handed_ids s.in_flight ∙ p.kept e; clean = λ e. ap (map handed_out) (p.clean e) };
  granted = λ grants s p. record { kept = p.kept; clean = p.clean };
  acked = λ id s p. record { kept = λ e. acked_ids id s.in_flight ∙ ap (without id) (p.kept e); clean = λ e. ap (without_id id) (p.clean e) };
}

pub in_flight : (limit : ℕ) (es : List Event) → AllByRecursion KeepsItsMessages (after limit es).sessions
in_flight limit es = always KeepsItsMessages in_flight_keeps limit es
