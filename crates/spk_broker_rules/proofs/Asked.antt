-- What the rules ask of the tables is what they ask of the past.
use Rattle.std.proofs.Common.{◌≡◌, ℕ, Bool, ◌&&◌, ◌||◌, cond, eqb, ltb, List, [], ◌∷◌, map, length, refl, sym, ◌∙◌, ap, ap₂, Option, Some, None}
use Rattle.std.specs.List.{filter, find, flat_map}
use Rattle.std.specs.Option.{option_map, option_map_or, is_some}
use Rattle.std.specs.Str.{bytes_eq}
use Rattle.std.proofs.lemmas.List.{length-map}
use Rattle.spk_session.specs.Step.{is_spent}
use Rattle.spk_broker_rules.specs.Data.{Connection, Newcomer, Session}
use Rattle.spk_packets.specs.Spelling.{is_empty}
use Rattle.spk_broker_rules.specs.Words.{granted_of, is_heavy, is_silent, most_kept}
use Rattle.spk_broker_rules.specs.Plan.{Event, Seen, conn_of, client_of, entries_of}
use Rattle.spk_broker_rules.specs.Step.{session_by, conn_at, older_in, welcome_in, is_kept_of, drops_in, silent_at, heavy_at, heavy_in, seen}
use Rattle.spk_broker_rules.specs.Past.{Past, Joining, conn_deeds, deeds, clock, heard, drops, client, kept, here, grants, newcomers, sessions, retained, conn_here, session_at, is_of, older_of, is_welcome, joined_drops, drops_of, silent_of, other_pairs, heavy_for, heavy_of, seen_in, newcomer_of, connection_of, session_of, broker_of}
use Rattle.spk_broker_rules.proofs.Lists.{find-map, any-map, filter-map, flat_map-map}
use Rattle.spk_broker_rules.proofs.Sessions.{session_by-same, newcomer-same, has_connection}
use Rattle.spk_broker_rules.proofs.Gifts.{conn-same, others-same}

some-map : {X Y : Type 0} (f : X → Y) (o : Option X) → is_some (option_map f o) ≡ is_some o
some-map f None = refl
some-map f (Some x) = refl

joined-same : (h : Past) (c : ℕ) → is_some (session_at h c) ≡ is_some (session_by c (map (session_of h) (sessions h)))
joined-same h c = sym (ap is_some (session_by-same h c) ∙ some-map (session_of h) (session_at h c))

older-same : (h : Past) (c : List ℕ) → older_of h c ≡ older_in c (map (session_of h) (sessions h))
older-same h c = ap (cond (is_empty c) None) (sym (ap (λ o. option_map_or conn_at o None)
    (find-map (session_of h) (λ (s : Session). is_some s.here && bytes_eq s.client c) (λ s. is_some (here (deeds h s)) && is_of h c s)
    (λ s. ap (λ b. b && bytes_eq (client (deeds h s)) c) (has_connection h s)) (sessions h))
    ∙ by (find (λ s. is_some (here (deeds h s)) && is_of h c s) (sessions h))))
  where
    by : (o : Option ℕ) → option_map_or conn_at (option_map (session_of h) o) None ≡ option_map_or (conn_here h) o None
    by None = refl
    by (Some s) = conn-same h s

welcome-same : (h : Past) (c : List ℕ) → is_welcome h c ≡ welcome_in c (map (session_of h) (sessions h))
welcome-same h c = sym (ap₂ (λ b n. b || ltb n most_kept)
    (any-map (session_of h) (is_kept_of c) (λ s. kept (deeds h s) && is_of h c s) (λ s. refl) (sessions h))
    (ap length (filter-map (session_of h) (λ (s : Session). s.kept) (λ s. kept (deeds h s)) (λ s. refl) (sessions h))
    ∙ length-map (filter (λ s. kept (deeds h s)) (sessions h)) (session_of h)))

drops-same : (limit : ℕ) (h : Past) (c : ℕ) → drops_of h c ≡ drops_in c (broker_of limit h)
drops-same limit h c = sym (ap₂ (λ o p. option_map_or (λ (g : Newcomer). g.drops) o (option_map_or (λ (s : Session). option_map_or (λ (l : Connection). l.drops) s.here 0) p 0)) (newcomer-same h c) (session_by-same h c)
    ∙ ap (option_map_or (λ (g : Newcomer). g.drops) (option_map (newcomer_of h) (find (λ g. eqb g c) (newcomers h)))) (by (session_at h c))
    ∙ too (find (λ g. eqb g c) (newcomers h)))
  where
    connection : (j : Option Joining) → option_map_or (λ (l : Connection). l.drops) (option_map (connection_of h) j) 0 ≡ option_map_or (λ (i : Joining). drops (conn_deeds h i.conn)) j 0
    connection None = refl
    connection (Some j) = refl

    by : (o : Option ℕ) → option_map_or (λ (s : Session). option_map_or (λ (l : Connection). l.drops) s.here 0) (option_map (session_of h) o) 0 ≡ option_map_or (joined_drops h) o 0
    by None = refl
    by (Some s) = connection (here (deeds h s))

    too : (o : Option ℕ) → option_map_or (λ (g : Newcomer). g.drops) (option_map (newcomer_of h) o) (option_map_or (joined_drops h) (session_at h c) 0)
        ≡ option_map_or (λ g. drops (conn_deeds h g)) o (option_map_or (joined_drops h) (session_at h c) 0)
    too None = refl
    too (Some g) = refl

silent-same : (h : Past) → flat_map (silent_of h) (sessions h) ≡ flat_map (silent_at (clock h)) (map (session_of h) (sessions h))
silent-same h = sym (flat_map-map (session_of h) (silent_at (clock h)) (silent_of h) each (sessions h))
  where
    connection : (j : Option Joining) → option_map_or (λ (l : Connection). cond (is_silent (clock h) l.alive l.heard) (l.conn ∷ []) []) (option_map (connection_of h) j) []
        ≡ option_map_or (λ (i : Joining). cond (is_silent (clock h) i.alive (heard (conn_deeds h i.conn))) (i.conn ∷ []) []) j []
    connection None = refl
    connection (Some j) = refl

    each : (s : ℕ) → silent_at (clock h) (session_of h s) ≡ silent_of h s
    each s = connection (here (deeds h s))

heavy-same : (limit : ℕ) (h : Past) (conn : ℕ) (entries : List (List ℕ × ℕ)) → heavy_of h conn entries ≡ heavy_in conn entries (broker_of limit h)
heavy-same limit h conn entries = by (session_at h conn) ∙ ap (λ o. heavy_at o entries (broker_of limit h)) (sym (session_by-same h conn))
  where
    by : (o : Option ℕ) → heavy_for h o entries ≡ heavy_at (option_map (session_of h) o) entries (broker_of limit h)
    by None = refl
    by (Some s) = ap (λ n. is_heavy (retained h) (granted_of n (grants (deeds h s)) entries)) (sym (others-same h s))

abbrev seen_from : Bool → Option ℕ → Bool → Bool → List ℕ → Bool → Seen
seen_from j o w s q x = record { joined = j; older = o; welcome = w; spent = s; silent = q; heavy = x }

pub seen-same : (limit : ℕ) (h : Past) (e : Event) → seen_in limit h e ≡ seen (broker_of limit h) e
seen-same limit h e =
    ap (λ x. seen_from x (older_of h (client_of e)) (is_welcome h (client_of e)) (is_spent limit (drops_of h (conn_of e))) (flat_map (silent_of h) (sessions h)) (heavy_of h (conn_of e) (entries_of e))) (joined-same h (conn_of e))
    ∙ ap (λ x. seen_from b.joined x (is_welcome h (client_of e)) (is_spent limit (drops_of h (conn_of e))) (flat_map (silent_of h) (sessions h)) (heavy_of h (conn_of e) (entries_of e))) (older-same h (client_of e))
    ∙ ap (λ x. seen_from b.joined b.older x (is_spent limit (drops_of h (conn_of e))) (flat_map (silent_of h) (sessions h)) (heavy_of h (conn_of e) (entries_of e))) (welcome-same h (client_of e))
    ∙ ap (λ x. seen_from b.joined b.older b.welcome (is_spent limit x) (flat_map (silent_of h) (sessions h)) (heavy_of h (conn_of e) (entries_of e))) (drops-same limit h (conn_of e))
    ∙ ap (λ x. seen_from b.joined b.older b.welcome b.spent x (heavy_of h (conn_of e) (entries_of e))) (silent-same h)
    ∙ ap (seen_from b.joined b.older b.welcome b.spent b.silent) (heavy-same limit h (conn_of e) (entries_of e))
  where
    b : Seen
    b = seen (broker_of limit h) e
