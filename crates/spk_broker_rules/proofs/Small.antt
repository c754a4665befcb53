-- Laws on single events: DISCONNECT and take-over.
use Rattle.std.proofs.Common.{◌≡◌, ℕ, Bool, true, false, not, ◌&&◌, cond, eqb, ltb, List, [], ◌∷◌, ◌++◌, refl, sym, ◌∙◌, ap, subst, Option, Some, None}
use Rattle.std.specs.List.{find, list_any, AllByRecursion}
use Rattle.std.specs.Option.{option_map, option_map_or, is_some}
use Rattle.spk_packets.specs.Fault.{first_of}
use Rattle.spk_packets.specs.Message.{WillData, Connect, ConnAck, Disconnect}
use Rattle.spk_packets.specs.Spelling.{unwritable, has_bad_text, has_bad_body, is_qos_two, spelling, body, shortest, is_empty}
use Rattle.spk_session.specs.Step.{without}
use Rattle.spk_broker_rules.specs.Data.{AppMessage, InFlight, Send}
use Rattle.spk_broker_rules.specs.Words.{will_message, resent}
use Rattle.spk_broker_rules.specs.Plan.{Packet, Act, At, Hear, Leave, Tell, Forget, Accept, plan, join, has_bad_topic, shut, turn_away}
use Rattle.spk_broker_rules.specs.Past.{Past, OfConn, Moment, Heard, Joining, deeds, clock, here, kept, in_flight, newcomers, sessions, open_conns, routed, conn_here, sits_at, session_at, is_of, older_of, is_welcome, seen_in}
use Rattle.spk_broker_rules.specs.Story as story
use Rattle.spk_broker_rules.specs.Story.{Story, Tells, TellsAll, Routes, nothing_waits, goes_on, note, session_facts, leaving, share, told_one, told_leave, told_forget, told_take_up, told_accept}
use Rattle.spk_broker_rules.specs.Telling.{Telling, story_at}
use Rattle.spk_broker_rules.specs.TakeOver.{TakesOver, GoesQuietly, IsAccepted}
use Rattle.spk_broker_rules.proofs.Lists.{eqb-self, eqb-is, found-passes}
use Rattle.spk_broker_rules.proofs.Gifts.{calm-share}
use Rattle.spk_broker_rules.proofs.Rounds.{round-newcomers}
use Rattle.spk_broker_rules.proofs.Counts.{count, count-without, any-count}

-- what is noted of a packet
heard_first : Past → ℕ → ℕ → Story
heard_first h c moment = story_at (OfConn c (Heard (clock (Moment moment ∷ h))) ∷ Moment moment ∷ h)

first-is : (h : Past) (c moment : ℕ) (u : Story) → TellsAll (At moment ∷ Hear c ∷ []) (story_at h) u → u ≡ heard_first h c moment
unfolding heard_first
first-is h c moment u (v, p, (w, q, e)) = sym e ∙ q ∙ ap (λ (x : Story). note (OfConn c (Heard (clock x.past)) ∷ []) x) p

-- ---- DISCONNECT

without-gone : (c : ℕ) (cs : List ℕ) → list_any (λ d. eqb d c) (without c cs) ≡ false
without-gone c cs = any-count c (without c cs) ∙ ap (ltb 0) (count-without c c cs ∙ ap (λ b. cond b 0 (count c cs)) (eqb-self c))

quiet-leave : (h g : Past) (c : ℕ) (o : Option ℕ) (u : Story) → routed g ≡ routed h → u ≡ told_leave o c false (story_at g) → GoesQuietly c h u
quiet-leave h g c None u same e = subst (GoesQuietly c h) (sym e) (record { nothing_routed = same; nothing_sent = refl; nothing_closed = refl; nothing_waits = refl; gone = without-gone c (open_conns g) })
quiet-leave h g c (Some s) u same e = subst (GoesQuietly c h) (sym e) (by (kept (deeds g s)))
  where
    by : (k : Bool) → GoesQuietly c h (record { past = session_facts s (leaving k c) ++ g; sends = []; closes = []; waiting = [] })
    by true = record { nothing_routed = same; nothing_sent = refl; nothing_closed = refl; nothing_waits = refl; gone = without-gone c (open_conns g) }
    by false = record { nothing_routed = same; nothing_sent = refl; nothing_closed = refl; nothing_waits = refl; gone = without-gone c (open_conns g) }

quiet-plan : (joined : Bool) (c : ℕ) → joined ≡ true → cond (is_some (first_of (unwritable Disconnect))) (shut c) (cond joined (Leave c false ∷ []) (shut c)) ≡ Leave c false ∷ []
unfolding has_bad_text has_bad_body is_qos_two spelling body shortest
quiet-plan joined c e = ap (λ b. cond b (Leave c false ∷ []) (shut c)) e

pub quietly : (limit : ℕ) (h : Past) (c moment : ℕ) (t : Telling limit h (Packet c Disconnect moment)) → is_some (session_at h c) ≡ true → GoesQuietly c h t.end
unfolding heard_first
quietly limit h c moment t joined =
    let first : t.first ≡ heard_first h c moment = first-is h c moment t.first t.noted in
    by (subst (λ (x : Story). TellsAll (plan (seen_in limit x.past (Packet c Disconnect moment)) (Packet c Disconnect moment)) x t.end) first t.done)
  where
    only : (x : Story) → TellsAll (Leave c false ∷ []) x t.end → t.end ≡ told_leave (session_at x.past c) c false x
    only x (v, p, e) = sym e ∙ p

    by : TellsAll (plan (seen_in limit (heard_first h c moment).past (Packet c Disconnect moment)) (Packet c Disconnect moment)) (heard_first h c moment) t.end → GoesQuietly c h t.end
    by d = quiet-leave h (heard_first h c moment).past c (session_at (heard_first h c moment).past c) t.end refl
        (only (heard_first h c moment) (subst (λ l. TellsAll l (heard_first h c moment) t.end) (quiet-plan (is_some (session_at h c)) c joined) d))

-- ---- take-over

all-append-tells : (as_list bs : List Act) (t u : Story) → TellsAll (as_list ++ bs) t u → (v : Story) × TellsAll as_list t v × TellsAll bs v u
all-append-tells [] bs t u d = (t, refl, d)
all-append-tells (a ∷ as_list) bs t u (x, p, d) = let (v, q, r) = all-append-tells as_list bs x u d in (v, (x, p, q), r)

newcomers-routed : (t u : Story) → Routes t u → newcomers u.past ≡ newcomers t.past
newcomers-routed t u (nothing_waits _ _ a e) = ap (λ (x : Story). newcomers x.past) (sym e)
newcomers-routed t u (goes_on _ _ m ms a r) = newcomers-routed (told_one m (record t { waiting = ms })) u r
    ∙ round-newcomers (λ s. (share t.past m s).deeds) (λ s. calm-share t.past m s) t.past (sessions t.past)

newcomers-left : (o : Option ℕ) (c : ℕ) (wills : Bool) (t : Story) → is_some o ≡ true → newcomers (told_leave o c wills t).past ≡ newcomers t.past
newcomers-left None c wills t e = absurd (no e)
  where
    no : false ≡ true → ⊥
    no e = cc
newcomers-left (Some s) c wills t e = by (kept (deeds t.past s))
  where
    by : (k : Bool) → newcomers (session_facts s (leaving k c) ++ t.past) ≡ newcomers t.past
    by true = refl
    by false = refl

-- a test that something passes finds something
finds : (p : ℕ → Bool) (q : ℕ → Bool) (ss : List ℕ) (s : ℕ) → find q ss ≡ Some s → p s ≡ true → is_some (find p ss) ≡ true
finds p q [] s e h = absurd (no e)
  where
    no : None ≡ Some s → ⊥
    no e = cc
finds p q (x ∷ xs) s e h = by (p x) refl (q x) e (finds p q xs s)
  where
    by : (a : Bool) → p x ≡ a → (b : Bool) → cond b (Some x) (find q xs) ≡ Some s → (find q xs ≡ Some s → p s ≡ true → is_some (find p xs) ≡ true) → is_some (cond a (Some x) (find p xs)) ≡ true
    by true i b f rest = refl
    by false i true f rest = let same : x ≡ s = cc in absurd (yes_no (sym h ∙ ap p (sym same) ∙ i))
      where
        yes_no : true ≡ false → ⊥
        yes_no e = cc
    by false i false f rest = rest f h

older-sits : (h : Past) (name : List ℕ) (o : ℕ) → older_of h name ≡ Some o → is_some (session_at h o) ≡ true
older-sits h name o e = by (is_empty name) e
  where
    at : (x : Option ℕ) → find (λ s. is_some (here (deeds h s)) && is_of h name s) (sessions h) ≡ x → option_map_or (conn_here h) x None ≡ Some o → is_some (session_at h o) ≡ true
    at None is f = absurd (no f)
      where
        no : None ≡ Some o → ⊥
        no f = cc
    at (Some s) is f = finds (sits_at h o) (λ x. is_some (here (deeds h x)) && is_of h name x) (sessions h) s is (sits (here (deeds h s)) f)
      where
        sits : (j : Option Joining) → option_map (λ (i : Joining). i.conn) j ≡ Some o → option_map_or (λ (i : Joining). eqb i.conn o) j false ≡ true
        sits None f = absurd (no f)
          where
            no : None ≡ Some o → ⊥
            no f = cc
        sits (Some j) f = let same : j.conn ≡ o = cc in ap (λ n. eqb n o) same ∙ eqb-self o

    by : (b : Bool) → cond b None (option_map_or (conn_here h) (find (λ s. is_some (here (deeds h s)) && is_of h name s) (sessions h)) None) ≡ Some o → is_some (session_at h o) ≡ true
    by true f = absurd (no f)
      where
        no : None ≡ Some o → ⊥
        no f = cc
    by false f = at (find (λ s. is_some (here (deeds h s)) && is_of h name s) (sessions h)) refl f

all-resent : (c : ℕ) (cs : List InFlight) → AllByRecursion (λ (s : Send). s.conn ≡ c) (resent c cs)
all-resent c [] = tt
all-resent c (x ∷ xs) = (refl, all-resent c xs)

-- what an accepted CONNECT sends
pub record Greets (c : ℕ) (t u : Story) : Type 0 where
  pub present : Bool
  pub again : List Send
  pub sends : u.sends ≡ t.sends ++ (record { conn = c; packet = ConnAck present 0 }) ∷ again
  pub to_newer : AllByRecursion (λ (s : Send). s.conn ≡ c) again
  pub closes : u.closes ≡ t.closes

greets-up : (o : Option ℕ) (c : ℕ) (name : List ℕ) (keeps : Bool) (alive : ℕ) (will : Option AppMessage) (t : Story) → Greets c t (told_take_up o c name keeps alive will t)
greets-up None c name keeps alive will t = record { present = false; again = []; sends = refl; to_newer = tt; closes = refl }
greets-up (Some s) c name keeps alive will t = record { present = true; again = resent c (in_flight (deeds t.past s)); sends = refl; to_newer = all-resent c (in_flight (deeds t.past s)); closes = refl }

greets : (c : ℕ) (o : Option ℕ) (name : List ℕ) (keeps : Bool) (alive : ℕ) (will : Option AppMessage) (t : Story) → find (λ g. eqb g c) (newcomers t.past) ≡ o → is_some o ≡ true → Greets c t (told_accept o name keeps alive will t)
greets c None name keeps alive will t is e = absurd (no e)
  where
    no : false ≡ true → ⊥
    no e = cc
greets c (Some d) name keeps alive will t is e =
    subst (λ x. Greets x t (told_take_up (story.away_for t.past keeps name) d name keeps alive will t)) (eqb-is d c (found-passes (λ g. eqb g c) (newcomers t.past) d is))
    (greets-up (story.away_for t.past keeps name) d name keeps alive will t)

pub record Forgot (t u : Story) : Type 0 where
  pub sends : u.sends ≡ t.sends
  pub closes : u.closes ≡ t.closes
  pub newcomers_same : newcomers u.past ≡ newcomers t.past

forgot-is : (clean : Bool) (name : List ℕ) (t u : Story) → TellsAll (cond clean (Forget name ∷ []) []) t u → Forgot t u
forgot-is true name t u (v, p, e) = subst (Forgot t) (sym p ∙ e) (by (find (story.is_away t.past name) (sessions t.past)))
  where
    by : (o : Option ℕ) → Forgot t (told_forget o t)
    by None = record { sends = refl; closes = refl; newcomers_same = refl }
    by (Some s) = record { sends = refl; closes = refl; newcomers_same = refl }
forgot-is false name t u e = subst (Forgot t) e (record { sends = refl; closes = refl; newcomers_same = refl })

joins-over : (c o : ℕ) (name : List ℕ) (clean : Bool) (alive : ℕ) (will : Option AppMessage) (t u : Story) → is_some (session_at t.past o) ≡ true → is_some (find (λ g. eqb g c) (newcomers t.past)) ≡ true
    → TellsAll (join (Some o) c name clean alive will) t u → TakesOver c o t u
joins-over c o name clean alive will t u sits newcomer (v, p, (w, r, d)) =
    let (x, q, (y, a, (z, b, e))) = all-append-tells (cond clean (Forget name ∷ []) []) (Accept c name (not clean) alive will ∷ Tell o ∷ []) w u d in
    let f : Forgot w x = forgot-is clean name w x q in
    let same : newcomers x.past ≡ newcomers t.past = f.newcomers_same ∙ newcomers-routed v w r ∙ ap (λ (k : Story). newcomers k.past) p ∙ newcomers-left (session_at t.past o) o true t sits in
    let g : Greets c x y = subst (Greets c x) (sym a)
    (greets c (find (λ k. eqb k c) (newcomers x.past)) name (not clean) alive will x refl (ap (λ ks. is_some (find (λ k. eqb k c) ks)) same ∙ newcomer)) in
    record {
      wills = w;
      left = (v, p, (w, r, refl));
      present = g.present;
      again = g.again;
      sends = ap (λ (k : Story). k.sends) (sym e ∙ b) ∙ g.sends ∙ ap (λ ss. ss ++ (record { conn = c; packet = ConnAck g.present 0 }) ∷ g.again) f.sends;
      to_newer = g.to_newer;
      closes = ap (λ (k : Story). k.closes) (sym e ∙ b) ∙ ap (λ cs. cs ++ o ∷ []) (g.closes ∙ f.closes);
    }

accepted-plan : (unwritten joined empty bad full : Bool) (seen_older : Option ℕ) (c : ℕ) (name : List ℕ) (clean : Bool) (alive : ℕ) (will : Option AppMessage) (o : ℕ)
    → unwritten ≡ false → joined ≡ false → empty ≡ false → bad ≡ false → full ≡ false → seen_older ≡ Some o
    → cond unwritten (shut c) (cond joined (shut c) (cond empty (turn_away c 2) (cond bad (shut c) (cond full (turn_away c 3) (join seen_older c name clean alive will)))))
    ≡ join (Some o) c name clean alive will
accepted-plan unwritten joined empty bad full seen_older c name clean alive will o a b d e f g = rw (a, b, d, e, f, g) refl

pub takes-over : (limit : ℕ) (h : Past) (c o moment : ℕ) (name : List ℕ) (clean : Bool) (alive : ℕ) (will : Option WillData) (t : Telling limit h (Packet c (Connect name clean alive will) moment))
    → is_some (find (λ g. eqb g c) (newcomers h)) ≡ true → is_some (session_at h c) ≡ false → older_of h name ≡ Some o → IsAccepted h name clean alive will → TakesOver c o t.first t.end
unfolding heard_first
takes-over limit h c o moment name clean alive will t newcomer fresh older accepted =
    let first : t.first ≡ heard_first h c moment = first-is h c moment t.first t.noted in
    subst (λ (x : Story). TakesOver c o x t.end) (sym first)
    (joins-over c o name clean alive (option_map will_message will) (heard_first h c moment) t.end (older-sits h name o older) newcomer
    (subst (λ l. TellsAll l (heard_first h c moment) t.end)
    (accepted-plan (is_some (first_of (unwritable (Connect name clean alive will)))) (is_some (session_at h c)) (is_empty name && not clean) (has_bad_topic will) (not clean && not (is_welcome h name)) (older_of h name)
    c name clean alive (option_map will_message will) o accepted.writable fresh accepted.named accepted.topic accepted.welcome older)
    (subst (λ (x : Story). TellsAll (plan (seen_in limit x.past (Packet c (Connect name clean alive will) moment)) (Packet c (Connect name clean alive will) moment)) x t.end) first t.done)))
