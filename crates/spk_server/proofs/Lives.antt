-- Induction over the deeds since a client came, and what a deed leaves of a client.
use Rattle.std.proofs.Common.{◌≡◌, ℕ, ◌-◌, ◌==◌, if◌then◌else◌, Bool, true, false, List, [], ◌∷◌, ◌++◌, Option, Some, None, refl, sym, ◌∙◌, ap, subst}
use Rattle.std.proofs.lemmas.List.{append-nil}
use Rattle.std.specs.Option.{option_map}
use Rattle.spk_broker_rules.specs.Plan.{Event}
use Rattle.spk_broker_rules.specs.Step.{knows}
use Rattle.spk_clients.specs.declared.cause.Cause.{Cause}
use Rattle.spk_clients.specs.declared.client.Client.{Client}
use Rattle.spk_session.specs.declared.answer.Sort.{Sort}
use Rattle.spk_session.specs.declared.answer.Sort.TheVariants as sort
use Rattle.spk_clients.specs.Client.{awaited, given_up, is_over, may_be_awaited, over_until, refused_with, settled, settles, is_leaving, told, untouched, waiting_for}
use Rattle.spk_server.specs.Data.{Deed, InHand, Room}
use Rattle.spk_server.specs.Step.{after, called_on, called, came, change, set_free}
use Rattle.spk_server.specs.Log.{IsRun, May}
use Rattle.spk_server.specs.Past.{joins, on_conn, sends_at, since_from}

pub pick : (T : Bool → Type 0) (b : Bool) → (b ≡ true → T true) → (b ≡ false → T false) → T b
pick T true t f = t refl
pick T false t f = f refl

-- what holds when a client comes, and is kept by each deed, holds after all
pub lives : (k : ℕ) (P : Room → List Deed → Type 0) (f : Deed → Bool)
    → ((d : Deed) (r : Room) → May d r → joins k d ≡ true → P (after d r) [])
    → ((d : Deed) (r : Room) (past : List Deed) → May d r → joins k d ≡ false → P r past → P (after d r) (past ++ d ∷ []))
    → (log : List Deed) (r s : Room) (past : List Deed) → IsRun f r log s → P r past → P s (since_from k past log)
lives k P f first next [] r s past a p = subst (λ x. P x past) a p
lives k P f first next (d ∷ ds) r s past a p =
    pick (λ b. P s (if b then since_from k [] ds else since_from k (past ++ d ∷ []) ds)) (joins k d)
    (λ e. lives k P f first next ds (after d r) s [] a.2 (first d r a.1 e))
    (λ e. lives k P f first next ds (after d r) s (past ++ d ∷ []) a.2 (next d r past a.1 e p))

-- ---- a change of one client leaves a part of each

pub kept : {X : Type 0} (g : Client → X) (f : Client → Client) → ((c : Client) → g (f c) ≡ g c) → (conn k : ℕ) (cs : ℕ → Option Client) → option_map g (change f conn cs k) ≡ option_map g (cs k)
kept {X} g f same conn k cs = go (k == conn) (cs k)
  where
    go : (b : Bool) (o : Option Client) → option_map g (if b then option_map f o else o) ≡ option_map g o
    go true None = refl
    go true (Some c) = ap Some (same c)
    go false o = refl

pub others : {X : Type 0} (g : Client → X) (f : Client → Client) (conn k : ℕ) (cs : ℕ → Option Client) → (k == conn) ≡ false → option_map g (change f conn cs k) ≡ option_map g (cs k)
others {X} g f conn k cs e = ap (λ b. option_map g (if b then option_map f (cs k) else cs k)) e

pub here : {X : Type 0} (g : Client → X) (f : Client → Client) (conn k : ℕ) (cs : ℕ → Option Client) → (k == conn) ≡ true → option_map g (change f conn cs k) ≡ option_map (λ c. g (f c)) (cs k)
here {X} g f conn k cs e = ap (λ b. option_map g (if b then option_map f (cs k) else cs k)) e ∙ go (cs k)
  where
    go : (o : Option Client) → option_map g (option_map f o) ≡ option_map (λ c. g (f c)) o
    go None = refl
    go (Some c) = refl

pub either : {X : Type 0} (g : Client → X) (b : Bool) (x y : Client) → g x ≡ g y → g (if b then x else y) ≡ g y
either g true x y e = e
either g false x y e = refl

-- what a deed leaves as it was: a part that no end, no note and no wait changes
pub record Steady {X : Type 0} (g : Client → X) : Type 0 where
  pub settled : (c : Client) → g (settled c) ≡ g c
  pub over : (until : ℕ) (why : Cause) (c : Client) → g (over_until until why c) ≡ g c
  pub told : (c : Client) → g (told c) ≡ g c
  pub refused : (s : Sort) (c : Client) → g (refused_with s c) ≡ g c
  pub given_up : (c : Client) → g (given_up c) ≡ g c
  pub awaited : (own : Bool) (now : ℕ) (c : Client) → g (awaited own now c) ≡ g c
  pub freed : (now : ℕ) (own : Bool) (c : Client) → g (set_free now own c) ≡ g c
  pub waits : (slow : Option ℕ) (c : Client) → g (waiting_for slow c) ≡ g c
  pub cut : (c : Client) → g (record c { cut = true }) ≡ g c
  pub untouched : (c : Client) → g (untouched c) ≡ g c

refused_feed : (s : Sort) (c : Client) → (refused_with s c).feed ≡ c.feed
refused_feed sort.QosZero c = refl
refused_feed sort.Other c = refl

refused_outbox : (s : Sort) (c : Client) → (refused_with s c).outbox ≡ c.outbox
refused_outbox sort.QosZero c = refl
refused_outbox sort.Other c = refl

pub steady_feed : Steady (λ (c : Client). c.feed)
steady_feed = record {
  settled = λ c. either (λ (x : Client). x.feed) (settles c) _ c refl;
  over = λ until why c. either (λ (x : Client). x.feed) (is_over c) c _ refl;
  told = λ c. either (λ (x : Client). x.feed) c.lost _ (record c { drops = c.drops - 1 }) refl;
  refused = refused_feed;
  given_up = λ c. either (λ (x : Client). x.feed) (is_leaving c.phase) _ c refl;
  awaited = λ own now c. either (λ (x : Client). x.feed) (may_be_awaited own c) _ c refl;
  freed = λ now own c. refl;
  waits = λ slow c. refl;
  cut = λ c. refl;
  untouched = λ c. refl;
}

pub steady_outbox : Steady (λ (c : Client). c.outbox)
steady_outbox = record {
  settled = λ c. either (λ (x : Client). x.outbox) (settles c) _ c refl;
  over = λ until why c. either (λ (x : Client). x.outbox) (is_over c) c _ refl;
  told = λ c. either (λ (x : Client). x.outbox) c.lost _ (record c { drops = c.drops - 1 }) refl;
  refused = refused_outbox;
  given_up = λ c. either (λ (x : Client). x.outbox) (is_leaving c.phase) _ c refl;
  awaited = λ own now c. either (λ (x : Client). x.outbox) (may_be_awaited own c) _ c refl;
  freed = λ now own c. refl;
  waits = λ slow c. refl;
  cut = λ c. refl;
  untouched = λ c. refl;
}

-- ---- an event leaves the clients

pub called_keeps : (by : Option ℕ) (conn : ℕ) (e : Event) (r : Room) → (called_on by conn e r).clients ≡ r.clients
called_keeps by conn e r = go (knows r.noted.broker conn)
  where
    go : (b : Bool) → (if b then called by e r else r).clients ≡ r.clients
    go true = refl
    go false = refl

pub came_keeps : (h : Option InHand) (r : Room) → (came h r).clients ≡ r.clients
came_keeps None r = refl
came_keeps (Some h) r = called_keeps _ h.conn _ (record r { in_hand = None })

-- ---- sends

pub sends_called : (by : Option ℕ) (conn : ℕ) (e : Event) (r : Room) → (called_on by conn e r).pending ≡ r.pending ++ sends_at r.noted.broker (on_conn r.noted.broker conn by e)
sends_called by conn e r = go (knows r.noted.broker conn)
  where
    go : (b : Bool) → (if b then called by e r else r).pending ≡ r.pending ++ sends_at r.noted.broker (if b then Some (by, e) else None)
    go true = refl
    go false = sym (append-nil r.pending)
