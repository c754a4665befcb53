-- A connection is what the list of its calls asks.
use Rattle.std.proofs.Common.{◌≡◌, ◌∙◌, sym, ap, refl, ℕ, Bool, true, false, true≢false, List, [], ◌∷◌, ◌++◌, append_assoc, arith}
use Rattle.std.proofs.lemmas.List.{append-nil}
use Rattle.spk_link.specs.declared.stand.Moments.{Moments}
use Rattle.spk_link.specs.declared.stand.Stand.{Stand}
use Rattle.spk_link.specs.declared.stand.Stand.TheVariants.{Off, On}
use Rattle.spk_link.specs.Past as link
use Rattle.spk_link.specs.Step.{opened, with_moments}
use Rattle.spk_packets.specs.Grammar.{Spells}
use Rattle.spk_packets.specs.Message.{Message}
use Rattle.spk_connection.specs.Data.{Connection}
use Rattle.spk_connection.specs.Run.{AreSpelled, Event, Opened, Read, Took, Sent, Asked, Wrote, Over, IsRun, IsStep, of_link, read_in, sent_in, taken_in, written_in}
use Rattle.spk_connection.specs.Step.{fresh_connection, is_open, ping, stands_open}

-- ---- what was read

-- one packet more behind those that are spelled
spelled_further : (ps : List Message) (p : Message) (bytes front : List ℕ) → AreSpelled ps bytes → Spells front p → AreSpelled (ps ++ p ∷ []) (bytes ++ front)
spelled_further [] p bytes front is spells =
    let e : bytes ++ front ≡ front ++ [] = rw is (sym (append-nil front)) in
    (front, [], spells, e, refl)
spelled_further (q ∷ ps) p bytes front (f, rest, spells', e, more) spells =
    (f, rest ++ front, spells', rw e (append_assoc f rest front), spelled_further ps p rest front more spells)

pub reads : (keep spread : ℕ) (es : List Event) (c : Connection) → IsRun keep spread es c
    → (spelled : List ℕ) × AreSpelled (taken_in es) spelled × (read_in es ≡ spelled ++ c.unread)
reads keep spread [] d is = ([], refl, rw is refl)
reads keep spread (Opened now ∷ es) d (c, run, step) = rw step (reads keep spread es c run)
reads keep spread (Read piece now ∷ es) d (c, run, (here, step)) =
    let (spelled, are, e) = reads keep spread es c run in
    (spelled, are, rw step (ap (λ l. l ++ piece) e ∙ append_assoc spelled c.unread piece))
reads keep spread (Took p ∷ es) d (c, run, step) =
    let (spelled, are, e) = reads keep spread es c run in
    let (front, spells, parts) = step.front in
    (spelled ++ front, spelled_further (taken_in es) p spelled front are spells, e ∙ ap (λ l. spelled ++ l) parts ∙ sym (append_assoc spelled front d.unread))
reads keep spread (Sent packet ∷ es) d (c, run, (here, step)) = rw step (reads keep spread es c run)
reads keep spread (Asked now ∷ es) d (c, run, (here, step)) = rw step (reads keep spread es c run)
reads keep spread (Wrote first others now ∷ es) d (c, run, (parts, step)) = rw step (reads keep spread es c run)
reads keep spread (Over now ∷ es) d (c, run, step) = ([], refl, rw step refl)

-- ---- what was written

pub writes : (keep spread : ℕ) (es : List Event) (c : Connection) → IsRun keep spread es c → written_in es ++ c.unwritten ≡ sent_in es
writes keep spread [] d is = rw is refl
writes keep spread (Opened now ∷ es) d (c, run, step) = rw step (writes keep spread es c run)
writes keep spread (Read piece now ∷ es) d (c, run, (here, step)) = rw step (writes keep spread es c run)
writes keep spread (Took p ∷ es) d (c, run, step) = rw (ap (λ x. x.unwritten) step.stays) (writes keep spread es c run)
writes keep spread (Sent packet ∷ es) d (c, run, (here, step)) =
    rw step (sym (append_assoc (written_in es) c.unwritten packet) ∙ ap (λ l. l ++ packet) (writes keep spread es c run))
writes keep spread (Asked now ∷ es) d (c, run, (here, step)) =
    rw step (sym (append_assoc (written_in es) c.unwritten ping) ∙ ap (λ l. l ++ ping) (writes keep spread es c run))
writes keep spread (Wrote first others now ∷ es) d (c, run, (parts, step)) =
    append_assoc (written_in es) (first ∷ others) d.unwritten ∙ ap (λ l. written_in es ++ l) (sym parts) ∙ writes keep spread es c run
writes keep spread (Over now ∷ es) d (c, run, step) = rw step refl

-- ---- the link

pub links : (keep spread : ℕ) (es : List Event) (c : Connection) → IsRun keep spread es c → c.link ≡ link.after keep spread (of_link es)
links keep spread [] d is = rw is refl
links keep spread (Opened now ∷ es) d (c, run, step) = rw step (ap (link.after_event (link.Opened now)) (links keep spread es c run))
links keep spread (Read piece now ∷ es) d (c, run, (here, step)) = rw step (ap (link.after_event (link.Heard now)) (links keep spread es c run))
links keep spread (Took p ∷ es) d (c, run, step) = rw (ap (λ x. x.link) step.stays) (links keep spread es c run)
links keep spread (Sent packet ∷ es) d (c, run, (here, step)) = rw step (links keep spread es c run)
links keep spread (Asked now ∷ es) d (c, run, (here, step)) = rw step (ap (link.after_event (link.Asked now)) (links keep spread es c run))
links keep spread (Wrote first others now ∷ es) d (c, run, (parts, step)) = rw (ap (λ x. x.link) step) (ap (link.after_event (link.Sent now)) (links keep spread es c run))
links keep spread (Over now ∷ es) d (c, run, step) = rw step (ap (link.after_event (link.Over now)) (links keep spread es c run))

-- ---- where there is no connection

always_begun : (now : ℕ) (s : Stand) → stands_open (opened now s) ≡ true
always_begun now (Off at) = refl
always_begun now (On m) = refl

stays_open : (f : Moments → Moments) (s : Stand) → stands_open (with_moments f s) ≡ stands_open s
stays_open f (Off at) = refl
stays_open f (On m) = refl

not_both : (b : Bool) → b ≡ true → b ≡ false → ⊥
not_both b on off = true≢false (sym on ∙ off)

some : (x : ℕ) (xs : List ℕ) → x ∷ xs ≡ [] → ⊥
some x xs e = cc

nothing_behind : (xs ys : List ℕ) → xs ++ ys ≡ [] → ys ≡ []
nothing_behind [] ys e = e
nothing_behind (x ∷ xs) ys e = absurd (some x (xs ++ ys) e)

pub waits_not : (keep spread : ℕ) (es : List Event) (c : Connection) → IsRun keep spread es c → is_open c ≡ false → (c.unread ≡ []) × (c.unwritten ≡ [])
waits_not keep spread [] d is shut = (ap (λ x. x.unread) is, ap (λ x. x.unwritten) is)
waits_not keep spread (Opened now ∷ es) d (c, run, step) shut =
    absurd (not_both _ (ap is_open step ∙ always_begun now c.link.stand) shut)
waits_not keep spread (Read piece now ∷ es) d (c, run, (here, step)) shut =
    absurd (not_both _ (ap is_open step ∙ stays_open (λ m. record m { heard = now }) c.link.stand ∙ here) shut)
waits_not keep spread (Took p ∷ es) d (c, run, step) shut =
    let before : is_open c ≡ false = sym (ap is_open step.stays) ∙ shut in
    let (unread, unwritten) = waits_not keep spread es c run before in
    let (front, spells, parts) = step.front in
    (nothing_behind front d.unread (sym parts ∙ unread), ap (λ x. x.unwritten) step.stays ∙ unwritten)
waits_not keep spread (Sent packet ∷ es) d (c, run, (here, step)) shut = absurd (not_both _ (ap is_open step ∙ here) shut)
waits_not keep spread (Asked now ∷ es) d (c, run, (here, step)) shut =
    absurd (not_both _ (ap is_open step ∙ stays_open (λ m. record m { sent = now; asked = now }) c.link.stand ∙ here) shut)
waits_not keep spread (Wrote first others now ∷ es) d (c, run, (parts, step)) shut =
    let before : is_open c ≡ false = sym (stays_open (λ m. record m { sent = now }) c.link.stand) ∙ sym (ap is_open step) ∙ shut in
    let (unread, unwritten) = waits_not keep spread es c run before in
    absurd (some first (others ++ d.unwritten) (sym parts ∙ unwritten))
waits_not keep spread (Over now ∷ es) d (c, run, step) shut = (ap (λ x. x.unread) step, ap (λ x. x.unwritten) step)
