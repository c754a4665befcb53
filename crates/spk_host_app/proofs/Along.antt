-- A program is what the run of its deeds asks.
use Rattle.std.proofs.Common.{◌≡◌, ◌∙◌, sym, ap, refl, subst, ℕ, Bool, true, false, List, [], ◌∷◌, ◌++◌, length, take, Option, append_assoc, if◌then◌else◌}
use Rattle.std.proofs.lemmas.List.{append-nil}
use Rattle.spk_host_session.specs.Data.{Config}
use Rattle.spk_packets.specs.Message.{Message}
use Rattle.spk_packets.specs.Stream.{TakesPacket}
use Rattle.spk_host.specs.Data.{HostData}
use Rattle.spk_host.specs.Inputs as host
use Rattle.spk_host.specs.Inputs.{host_after, host_with}
use Rattle.spk_connection.specs.Data.{Connection}
use Rattle.spk_connection.specs.Run as conn
use Rattle.spk_connection.specs.Step.{after_wrote, is_open}
use Rattle.spk_host_app.specs.Data.{App, Deed, Fate, LoginData, Word, Words}
use Rattle.spk_host_app.specs.Data as word
use Rattle.spk_host_app.specs.Data.{Whole, Unsent, Lost, Began, Connected, Read, Told, Denied, Unsubscribed, Ticked, Requested, Pinged, Stopped, GaveUp, Wrote, Over, Printed}
use Rattle.spk_host_app.specs.Log.{IsFate, IsRun, any_deed}
use Rattle.spk_host_app.specs.Meant.{topic_in}
use Rattle.spk_host_app.specs.Past.{calls_in, events_in, has_begun, printed_in, said_in, says, sends}
use Rattle.spk_host_app.specs.Step.{ack_of, answered, behind, bytes_of, called, fresh_app, request_bytes, request_words, taken, told, words_of}

-- ---- what an answer leaves as it was

host_stays : (fate : Fate) (ws : List Word) (bytes : List ℕ) (a : App) → (answered fate ws bytes a).host ≡ a.host
host_stays Whole ws bytes a = refl
host_stays Unsent ws bytes a = refl
host_stays Lost ws bytes a = refl

login_stays : (fate : Fate) (ws : List Word) (bytes : List ℕ) (a : App) → (answered fate ws bytes a).login ≡ a.login
login_stays Whole ws bytes a = refl
login_stays Unsent ws bytes a = refl
login_stays Lost ws bytes a = refl

begun_stays : (fate : Fate) (ws : List Word) (bytes : List ℕ) (a : App) → (answered fate ws bytes a).words.begun ≡ a.words.begun
begun_stays Whole ws bytes a = refl
begun_stays Unsent ws bytes a = refl
begun_stays Lost ws bytes a = refl

fate_taken : (f : Fate) (rest : List ℕ) (a : App) → IsFate f a → IsFate f (taken rest a)
fate_taken Whole rest a here = here
fate_taken Unsent rest a here = here
fate_taken Lost rest a here = here

fate_told : (f : Fate) (call : host.Call) (a : App) → IsFate f a → IsFate f (told call a)
fate_told Whole call a here = here
fate_told Unsent call a here = here
fate_told Lost call a here = here

fate_open : (f : Fate) (a : App) → is_open a.connection ≡ true → IsFate f a
fate_open Whole a here = here
fate_open Unsent a here = tt
fate_open Lost a here = tt

module _ (config : Config) (keep spread : ℕ) (login : Option LoginData) where
  -- ---- the host

  pub hosts : (ds : List Deed) (b : App) → IsRun any_deed (fresh_app config keep spread login) ds b → b.host ≡ host_after config (calls_in ds)
  hosts [] b run = ap (λ x. x.host) (sym run)
  hosts (Began now ∷ ds) b (m, run, ok, may, e) = ap (λ x. x.host) e ∙ hosts ds m run
  hosts (Connected now fate ∷ ds) b (m, run, ok, may, e) =
      ap (λ x. x.host) e ∙ host_stays fate _ _ _ ∙ ap (λ h. host_with h (host.Connected now)) (hosts ds m run)
  hosts (Read piece now ∷ ds) b (m, run, ok, may, e) = ap (λ x. x.host) e ∙ hosts ds m run
  hosts (Told p rest heard now fate ∷ ds) b (m, run, ok, may, e) =
      ap (λ x. x.host) e ∙ host_stays fate _ _ _ ∙ ap (λ h. host_with h (host.Heard heard now)) (hosts ds m run)
  hosts (Denied p rest fault fate ∷ ds) b (m, run, ok, may, e) = ap (λ x. x.host) e ∙ host_stays fate _ _ _ ∙ hosts ds m run
  hosts (Unsubscribed p rest ∷ ds) b (m, run, ok, may, e) = ap (λ x. x.host) e ∙ hosts ds m run
  hosts (Ticked now fate ∷ ds) b (m, run, ok, may, e) =
      ap (λ x. x.host) e ∙ host_stays fate _ _ _ ∙ ap (λ h. host_with h (host.Ticked now)) (hosts ds m run)
  hosts (Requested group node now fate ∷ ds) b (m, run, ok, may, e) = ap (λ x. x.host) e ∙ host_stays fate _ _ _ ∙ hosts ds m run
  hosts (Pinged now ∷ ds) b (m, run, ok, may, e) = ap (λ x. x.host) e ∙ hosts ds m run
  hosts (Stopped now fate ∷ ds) b (m, run, ok, may, e) =
      ap (λ x. x.host) e ∙ host_stays fate _ _ _ ∙ ap (λ h. host_with h (host.Stopped now)) (hosts ds m run)
  hosts (GaveUp fault ∷ ds) b (m, run, ok, may, e) = ap (λ x. x.host) e ∙ hosts ds m run
  hosts (Wrote bytes now ∷ ds) b (m, run, ok, may, e) = ap (λ x. x.host) e ∙ hosts ds m run
  hosts (Over now ∷ ds) b (m, run, ok, may, e) = ap (λ x. x.host) e ∙ ap (λ h. host_with h host.Ended) (hosts ds m run)
  hosts (Printed w ∷ ds) b (m, run, ok, may, e) = ap (λ x. x.host) e ∙ hosts ds m run

  -- ---- the user name and the password

  pub logins : (ds : List Deed) (b : App) → IsRun any_deed (fresh_app config keep spread login) ds b → b.login ≡ login
  logins [] b run = ap (λ x. x.login) (sym run)
  logins (Began now ∷ ds) b (m, run, ok, may, e) = ap (λ x. x.login) e ∙ logins ds m run
  logins (Connected now fate ∷ ds) b (m, run, ok, may, e) = ap (λ x. x.login) e ∙ login_stays fate _ _ _ ∙ logins ds m run
  logins (Read piece now ∷ ds) b (m, run, ok, may, e) = ap (λ x. x.login) e ∙ logins ds m run
  logins (Told p rest heard now fate ∷ ds) b (m, run, ok, may, e) = ap (λ x. x.login) e ∙ login_stays fate _ _ _ ∙ logins ds m run
  logins (Denied p rest fault fate ∷ ds) b (m, run, ok, may, e) = ap (λ x. x.login) e ∙ login_stays fate _ _ _ ∙ logins ds m run
  logins (Unsubscribed p rest ∷ ds) b (m, run, ok, may, e) = ap (λ x. x.login) e ∙ logins ds m run
  logins (Ticked now fate ∷ ds) b (m, run, ok, may, e) = ap (λ x. x.login) e ∙ login_stays fate _ _ _ ∙ logins ds m run
  logins (Requested group node now fate ∷ ds) b (m, run, ok, may, e) = ap (λ x. x.login) e ∙ login_stays fate _ _ _ ∙ logins ds m run
  logins (Pinged now ∷ ds) b (m, run, ok, may, e) = ap (λ x. x.login) e ∙ logins ds m run
  logins (Stopped now fate ∷ ds) b (m, run, ok, may, e) = ap (λ x. x.login) e ∙ login_stays fate _ _ _ ∙ logins ds m run
  logins (GaveUp fault ∷ ds) b (m, run, ok, may, e) = ap (λ x. x.login) e ∙ logins ds m run
  logins (Wrote bytes now ∷ ds) b (m, run, ok, may, e) = ap (λ x. x.login) e ∙ logins ds m run
  logins (Over now ∷ ds) b (m, run, ok, may, e) = ap (λ x. x.login) e ∙ logins ds m run
  logins (Printed w ∷ ds) b (m, run, ok, may, e) = ap (λ x. x.login) e ∙ logins ds m run

  -- ---- the connection

  sent_step : (fate : Fate) (ws : List Word) (bytes : List ℕ) (a : App) (es : List conn.Event) → IsFate fate a → conn.IsRun keep spread es a.connection
      → conn.IsRun keep spread (sends fate bytes ++ es) (answered fate ws bytes a).connection
  sent_step Whole ws bytes a es here run = (a.connection, run, (here, refl))
  sent_step Unsent ws bytes a es here run = run
  sent_step Lost ws bytes a es here run = run

  took_step : (a : App) (p : Message) (rest : List ℕ) (es : List conn.Event) → TakesPacket a.connection.unread p rest → conn.IsRun keep spread es a.connection
      → conn.IsRun keep spread (conn.Took p ∷ es) (taken rest a).connection
  took_step a p rest es front run = (a.connection, run, record { front = front; stays = refl })

  after_took : (fate : Fate) (bytes : List ℕ) (p : Message) (es : List conn.Event) → sends fate bytes ++ (conn.Took p ∷ es) ≡ (sends fate bytes ++ conn.Took p ∷ []) ++ es
  after_took Whole bytes p es = refl
  after_took Unsent bytes p es = refl
  after_took Lost bytes p es = refl

  -- a call of the host, whose answer is sent
  call_step : (call : host.Call) (fate : Fate) (m b : App) (es : List conn.Event) (h : HostData) → m.host ≡ h → m.login ≡ login → IsFate fate m
      → b ≡ called call fate m → conn.IsRun keep spread es m.connection → conn.IsRun keep spread (sends fate (bytes_of login h call) ++ es) b.connection
  call_step call fate m b es h is_host is_login here e run =
      subst (λ k. conn.IsRun keep spread (sends fate (bytes_of login k call) ++ es) b.connection) is_host
      (subst (λ l. conn.IsRun keep spread (sends fate (bytes_of l m.host call) ++ es) b.connection) is_login
      (subst (λ x. conn.IsRun keep spread (sends fate (bytes_of m.login m.host call) ++ es) x.connection) (sym e)
      (sent_step fate (words_of m.host call) (bytes_of m.login m.host call) (told call m) es (fate_told fate call m here) run)))

  module _ (writes : (c : Connection) (count now first : ℕ) (others : List ℕ) → take count c.unwritten ≡ first ∷ others
      → conn.IsStep c (conn.Wrote first others now) (after_wrote c count now)) where
    pub connections : (ds : List Deed) (b : App) → IsRun any_deed (fresh_app config keep spread login) ds b → conn.IsRun keep spread (events_in config login ds) b.connection
    connections [] b run = ap (λ x. x.connection) (sym run)
    connections (Began now ∷ ds) b (m, run, ok, may, e) = (m.connection, connections ds m run, ap (λ x. x.connection) e)
    connections (Connected now fate ∷ ds) b (m, run, ok, may, e) =
        call_step (host.Connected now) fate m b _ _ (hosts ds m run) (logins ds m run) (fate_open fate m may.1) e (connections ds m run)
    connections (Read piece now ∷ ds) b (m, run, ok, may, e) = (m.connection, connections ds m run, (may.0, ap (λ x. x.connection) e))
    connections (Told p rest heard now fate ∷ ds) b (m, run, ok, (may, here, front, other, others), e) =
        subst (λ l. conn.IsRun keep spread l b.connection) (after_took fate _ p _)
        (call_step (host.Heard heard now) fate (taken rest m) b _ _ (hosts ds m run) (logins ds m run) (fate_taken fate rest m here) e
        (took_step m p rest _ front (connections ds m run)))
    connections (Denied p rest fault fate ∷ ds) b (m, run, ok, (may, full, here, front, other), e) =
        subst (λ l. conn.IsRun keep spread l b.connection) (after_took fate (ack_of p) p _)
        (subst (λ x. conn.IsRun keep spread (sends fate (ack_of p) ++ (conn.Took p ∷ events_in config login ds)) x.connection) (sym e)
        (sent_step fate (word.Refused fault (topic_in p) ∷ []) (ack_of p) (taken rest m) _ (fate_taken fate rest m here)
        (took_step m p rest _ front (connections ds m run))))
    connections (Unsubscribed p rest ∷ ds) b (m, run, ok, (may, full, front, others), e) =
        subst (λ x. conn.IsRun keep spread (conn.Took p ∷ events_in config login ds) x.connection) (sym e) (took_step m p rest _ front (connections ds m run))
    connections (Ticked now fate ∷ ds) b (m, run, ok, may, e) =
        call_step (host.Ticked now) fate m b _ _ (hosts ds m run) (logins ds m run) may.1 e (connections ds m run)
    connections (Requested group node now fate ∷ ds) b (m, run, ok, (may, full, here, address), e) =
        subst (λ x. conn.IsRun keep spread (sends fate (request_bytes group node now) ++ events_in config login ds) x.connection) (sym e)
        (sent_step fate (request_words group node) (request_bytes group node now) m _ here (connections ds m run))
    connections (Pinged now ∷ ds) b (m, run, ok, may, e) = (m.connection, connections ds m run, (may.0, ap (λ x. x.connection) e))
    connections (Stopped now fate ∷ ds) b (m, run, ok, may, e) =
        call_step (host.Stopped now) fate m b _ _ (hosts ds m run) (logins ds m run) (fate_open fate m may.2) e (connections ds m run)
    connections (GaveUp fault ∷ ds) b (m, run, ok, may, e) = subst (λ x. conn.IsRun keep spread (events_in config login ds) x.connection) (sym e) (connections ds m run)
    connections (Wrote [] now ∷ ds) b (m, run, ok, may, e) = subst (λ x. conn.IsRun keep spread (events_in config login ds) x.connection) (sym e) (connections ds m run)
    connections (Wrote (x ∷ xs) now ∷ ds) b (m, run, ok, may, e) = (
      m.connection,
      connections ds m run,
      subst (λ y. conn.IsStep m.connection (conn.Wrote x xs now) y.connection) (sym e) (writes m.connection (length (x ∷ xs)) now x xs (sym may)),
    )
    connections (Over now ∷ ds) b (m, run, ok, may, e) = (m.connection, connections ds m run, ap (λ x. x.connection) e)
    connections (Printed w ∷ ds) b (m, run, ok, may, e) = subst (λ x. conn.IsRun keep spread (events_in config login ds) x.connection) (sym e) (connections ds m run)

  -- ---- what is said

  word_step : (fate : Fate) (ws : List Word) (bytes : List ℕ) (a : App) (printed before : List Word) → printed ++ a.words.said ≡ before
      → printed ++ (answered fate ws bytes a).words.said ≡ before ++ says fate ws
  word_step Whole ws bytes a printed before e = sym (append_assoc printed a.words.said ws) ∙ ap (λ l. l ++ ws) e
  word_step Unsent ws bytes a printed before e = sym (append_assoc printed a.words.said ws) ∙ ap (λ l. l ++ ws) e
  word_step Lost ws bytes a printed before e = e ∙ sym (append-nil before)

  call_words : (call : host.Call) (fate : Fate) (m b : App) (h : HostData) (printed before : List Word) → m.host ≡ h → b ≡ called call fate m
      → printed ++ m.words.said ≡ before → printed ++ b.words.said ≡ before ++ says fate (words_of h call)
  call_words call fate m b h printed before is_host e said =
      subst (λ k. printed ++ b.words.said ≡ before ++ says fate (words_of k call)) is_host
      (ap (λ x. printed ++ x.words.said) e ∙ word_step fate (words_of m.host call) (bytes_of m.login m.host call) (told call m) printed before said)

  quiet : (m b : App) (printed before : List Word) → b.words.said ≡ m.words.said → printed ++ m.words.said ≡ before → printed ++ b.words.said ≡ before ++ []
  quiet m b printed before same said = ap (λ l. printed ++ l) same ∙ said ∙ sym (append-nil before)

  over_words : (said : List Word) (begun : Bool) (printed before : List Word) → printed ++ said ≡ before
      → printed ++ (if begun then said ++ word.Ended ∷ [] else said) ≡ before ++ (if begun then word.Ended ∷ [] else [])
  over_words said true printed before e = sym (append_assoc printed said (word.Ended ∷ [])) ∙ ap (λ l. l ++ word.Ended ∷ []) e
  over_words said false printed before e = e ∙ sym (append-nil before)

  pub begins : (ds : List Deed) (b : App) → IsRun any_deed (fresh_app config keep spread login) ds b → b.words.begun ≡ has_begun ds
  begins [] b run = ap (λ x. x.words.begun) (sym run)
  begins (Began now ∷ ds) b (m, run, ok, may, e) = ap (λ x. x.words.begun) e
  begins (Connected now fate ∷ ds) b (m, run, ok, may, e) = ap (λ x. x.words.begun) e ∙ begun_stays fate _ _ _ ∙ begins ds m run
  begins (Read piece now ∷ ds) b (m, run, ok, may, e) = ap (λ x. x.words.begun) e ∙ begins ds m run
  begins (Told p rest heard now fate ∷ ds) b (m, run, ok, may, e) = ap (λ x. x.words.begun) e ∙ begun_stays fate _ _ _ ∙ begins ds m run
  begins (Denied p rest fault fate ∷ ds) b (m, run, ok, may, e) = ap (λ x. x.words.begun) e ∙ begun_stays fate _ _ _ ∙ begins ds m run
  begins (Unsubscribed p rest ∷ ds) b (m, run, ok, may, e) = ap (λ x. x.words.begun) e ∙ begins ds m run
  begins (Ticked now fate ∷ ds) b (m, run, ok, may, e) = ap (λ x. x.words.begun) e ∙ begun_stays fate _ _ _ ∙ begins ds m run
  begins (Requested group node now fate ∷ ds) b (m, run, ok, may, e) = ap (λ x. x.words.begun) e ∙ begun_stays fate _ _ _ ∙ begins ds m run
  begins (Pinged now ∷ ds) b (m, run, ok, may, e) = ap (λ x. x.words.begun) e ∙ begins ds m run
  begins (Stopped now fate ∷ ds) b (m, run, ok, may, e) = ap (λ x. x.words.begun) e ∙ begun_stays fate _ _ _ ∙ begins ds m run
  begins (GaveUp fault ∷ ds) b (m, run, ok, may, e) = ap (λ x. x.words.begun) e ∙ begins ds m run
  begins (Wrote bytes now ∷ ds) b (m, run, ok, may, e) = ap (λ x. x.words.begun) e ∙ begins ds m run
  begins (Over now ∷ ds) b (m, run, ok, may, e) = ap (λ x. x.words.begun) e
  begins (Printed w ∷ ds) b (m, run, ok, may, e) = ap (λ x. x.words.begun) e ∙ begins ds m run

  pub worded : (ds : List Deed) (b : App) → IsRun any_deed (fresh_app config keep spread login) ds b → printed_in ds ++ b.words.said ≡ said_in config ds
  worded [] b run = ap (λ x. x.words.said) (sym run)
  worded (Began now ∷ ds) b (m, run, ok, may, e) = quiet m b _ _ (ap (λ x. x.words.said) e) (worded ds m run)
  worded (Connected now fate ∷ ds) b (m, run, ok, may, e) = call_words (host.Connected now) fate m b _ _ _ (hosts ds m run) e (worded ds m run)
  worded (Read piece now ∷ ds) b (m, run, ok, may, e) = quiet m b _ _ (ap (λ x. x.words.said) e) (worded ds m run)
  worded (Told p rest heard now fate ∷ ds) b (m, run, ok, may, e) =
      call_words (host.Heard heard now) fate (taken rest m) b _ _ _ (hosts ds m run) e (worded ds m run)
  worded (Denied p rest fault fate ∷ ds) b (m, run, ok, may, e) =
      ap (λ x. printed_in ds ++ x.words.said) e
      ∙ word_step fate (word.Refused fault (topic_in p) ∷ []) (ack_of p) (taken rest m) (printed_in ds) _ (worded ds m run)
  worded (Unsubscribed p rest ∷ ds) b (m, run, ok, may, e) =
      ap (λ x. printed_in ds ++ x.words.said) e ∙ sym (append_assoc (printed_in ds) m.words.said (word.SubscriptionRefused ∷ []))
      ∙ ap (λ l. l ++ word.SubscriptionRefused ∷ []) (worded ds m run)
  worded (Ticked now fate ∷ ds) b (m, run, ok, may, e) = call_words (host.Ticked now) fate m b _ _ _ (hosts ds m run) e (worded ds m run)
  worded (Requested group node now fate ∷ ds) b (m, run, ok, may, e) =
      ap (λ x. printed_in ds ++ x.words.said) e
      ∙ word_step fate (request_words group node) (request_bytes group node now) m (printed_in ds) _ (worded ds m run)
  worded (Pinged now ∷ ds) b (m, run, ok, may, e) = quiet m b _ _ (ap (λ x. x.words.said) e) (worded ds m run)
  worded (Stopped now fate ∷ ds) b (m, run, ok, may, e) = call_words (host.Stopped now) fate m b _ _ _ (hosts ds m run) e (worded ds m run)
  worded (GaveUp fault ∷ ds) b (m, run, ok, may, e) = quiet m b _ _ (ap (λ x. x.words.said) e) (worded ds m run)
  worded (Wrote bytes now ∷ ds) b (m, run, ok, may, e) = quiet m b _ _ (ap (λ x. x.words.said) e) (worded ds m run)
  worded (Over now ∷ ds) b (m, run, ok, may, e) =
      ap (λ x. printed_in ds ++ x.words.said) e
      ∙ subst (λ g. printed_in ds ++ (if m.words.begun then m.words.said ++ word.Ended ∷ [] else m.words.said)
      ≡ said_in config ds ++ (if g then word.Ended ∷ [] else [])) (begins ds m run)
      (over_words m.words.said m.words.begun (printed_in ds) _ (worded ds m run))
  worded (Printed w ∷ ds) b (m, run, ok, (rest, is), e) =
      ap (λ x. (printed_in ds ++ w ∷ []) ++ x.words.said) e ∙ append_assoc (printed_in ds) (w ∷ []) (behind m.words.said)
      ∙ ap (λ l. printed_in ds ++ l) (ap (λ l. w ∷ behind l) is ∙ sym is) ∙ worded ds m run ∙ sym (append-nil (said_in config ds))
