-- Two records of what was done on which every query agrees, but for what came while the host didn't follow.
use Rattle.std.proofs.Common.{◌≡◌, ◌∙◌, sym, ap, refl, ℕ, ◌+◌, ◌-◌, ◌%◌, Bool, true, false, true≢false, ◌&&◌, ◌||◌, not, cond, nat_le, eqb, List, [], ◌∷◌, ◌++◌, append-nil, Option}
use Rattle.std.specs.List.{range_with_len, filter_map}
use Rattle.std.proofs.lemmas.Bool.{eqb-true}
use Rattle.spk_sequence.specs.declared.answer.Step.TheVariants as step
use Rattle.spk_sequence.specs.Data.{Standing}
use Rattle.spk_sequence.specs.Calls.{Reply, Stepped, Ticked, Told, reply_of}
use Rattle.spk_sequence.specs.Following.{Following, contains, dead_sessions, following, is_empty, is_gap_of, is_matching_death, is_session_dead, is_session_of, is_waiting, last_opening, moment_of, taken, takes, and_handed}
use Rattle.spk_sequence.specs.HostRecord.{Done, HostRecord, Input, MessageComes, DeathComes, TickComes, after_last, call_of, consumed_by, consumed_of, done_at, held_under, is_held_under, next_after, position_of}
use Rattle.spk_sequence.specs.NodeRecord.{Setting, opens, written_number}
use Rattle.spk_sequence.specs.Window.{handed_of}

-- of the record h, as of the record g
pub record Agree (s : Setting) (h g : HostRecord) : Type 0 where
  pub consumed : consumed_of h ≡ consumed_of g
  pub next : next_after h ≡ next_after g
  pub taken : taken s h ≡ taken s g
  pub on : (following s h).on ≡ (following s g).on
  pub handed : (following s h).handed ≡ (following s g).handed
  pub began : (following s h).on ≡ true → (following s h).began ≡ (following s g).began
  pub dead : is_session_dead s h ≡ is_session_dead s g
  pub sessions : dead_sessions s h ≡ dead_sessions s g
  pub under : (x : ℕ) → held_under s h x ≡ held_under s g x
  pub births : (b : ℕ) → opens s.published b ≡ true → contains b (handed_of h) ≡ contains b (handed_of g)

pub nothing : (s : Setting) → Agree s [] []
nothing s = record {
  consumed = refl;
  next = refl;
  taken = refl;
  on = refl;
  handed = refl;
  began = λ t. refl;
  dead = refl;
  sessions = refl;
  under = λ x. refl;
  births = λ b o. refl;
}

-- ---- while the host doesn't follow nothing waits

pub idle : (s : Setting) (h : HostRecord) → (following s h).on ≡ false → (following s h).handed ≡ []
idle s [] off = refl
idle s (e ∷ h) off = ap (λ x. cond x (and_handed e.input (following s h).handed) []) off

waits_on : (s : Setting) (h : HostRecord) (n : ℕ) → is_waiting (following s h).handed n ≡ true → (following s h).on ≡ true
waits_on s h n waits = go (following s h).on refl
  where
    go : (b : Bool) → (following s h).on ≡ b → (following s h).on ≡ true
    go true e = e
    go false e = absurd (true≢false (sym waits ∙ ap (λ xs. is_waiting xs n) (idle s h e)))

-- ---- one event more, the same behind both

filter_map_same : (f g : ℕ → Option ℕ) (xs : List ℕ) → ((x : ℕ) → f x ≡ g x) → filter_map f xs ≡ filter_map g xs
filter_map_same f g [] same = refl
filter_map_same f g (x ∷ xs) same = rw (same x, filter_map_same f g xs same) refl

eats_same : (s : Setting) (h g : HostRecord) (i : Input) (reply : Reply) → ((x : ℕ) → held_under s h x ≡ held_under s g x) → consumed_by s h i reply ≡ consumed_by s g i reply
eats_same s h g (MessageComes p now) (Stepped (step.Consumed n)) under =
    ap (λ ps. p ∷ ps) (filter_map_same (λ i. held_under s h ((written_number s p + i) % 256)) (λ i. held_under s g ((written_number s p + i) % 256)) (range_with_len 1 (n - 1)) (λ i. under ((written_number s p + i) % 256)))
eats_same s h g (MessageComes p now) (Stepped step.Held) under = refl
eats_same s h g (MessageComes p now) (Stepped step.Old) under = refl
eats_same s h g (MessageComes p now) (Stepped step.Gap) under = refl
eats_same s h g (MessageComes p now) (Stepped step.OldBirth) under = refl
eats_same s h g (MessageComes p now) (Stepped step.DeadSession) under = refl
eats_same s h g (MessageComes p now) (Stepped step.NotLive) under = refl
eats_same s h g (MessageComes p now) (Ticked b) under = refl
eats_same s h g (MessageComes p now) (Told m) under = refl
eats_same s h g (DeathComes session now) reply under = refl
eats_same s h g (TickComes now) reply under = refl

abbrev as_done : Input → Reply → List ℕ → Done
as_done i reply ps = record { input = i; reply = reply; consumed = ps }

pub done_same : (s : Setting) (h g : HostRecord) (d : Standing) (i : Input) → Agree s h g → done_at s h d i ≡ done_at s g d i
done_same s h g d i a = ap (as_done i (reply_of d (call_of s i))) (eats_same s h g i (reply_of d (call_of s i)) a.under)

gap_same : (s : Setting) (f k : Following) (n m : ℕ) (i : Input) → f.on ≡ k.on → f.handed ≡ k.handed → (f.on ≡ true → f.began ≡ k.began) → n ≡ m → is_gap_of s f n i ≡ is_gap_of s k m i
gap_same s f k n m (MessageComes p now) on handed began same =
    ap (λ x. x && not (opens s.published p) && nat_le (n + s.width) p) on ∙ ap (λ y. k.on && not (opens s.published p) && nat_le (y + s.width) p) same
gap_same s f k n m (DeathComes session now) on handed began same = refl
gap_same s f k n m (TickComes now) on handed began same = ticks f.on k.on f.handed k.handed n m f.began k.began on handed same began
  where
    ticks : (a b : Bool) (hs ks : List ℕ) (n m x y : ℕ) → a ≡ b → hs ≡ ks → n ≡ m → (a ≡ true → x ≡ y)
        → (a && is_waiting hs n && nat_le s.wait (now - x)) ≡ (b && is_waiting ks m && nat_le s.wait (now - y))
    ticks false b hs ks n m x y e hk nm xy = ap (λ z. z && is_waiting ks m && nat_le s.wait (now - y)) e
    ticks true b hs ks n m x y e hk nm xy =
        ap (λ zs. is_waiting zs n && nat_le s.wait (now - x)) hk ∙ ap (λ z. is_waiting ks z && nat_le s.wait (now - x)) nm
        ∙ ap (λ z. is_waiting ks m && nat_le s.wait (now - z)) (xy refl) ∙ ap (λ z. z && is_waiting ks m && nat_le s.wait (now - y)) e

death_same : (s : Setting) (h g : HostRecord) (i : Input) → taken s h ≡ taken s g → is_matching_death s h i ≡ is_matching_death s g i
death_same s h g (MessageComes p now) same = refl
death_same s h g (DeathComes session now) same = ap (λ o. is_session_of s o session) same
death_same s h g (TickComes now) same = refl

began_same : (w v c : Bool) (x y t : ℕ) → w ≡ v → (w ≡ true → x ≡ y) → cond (w && c) x t ≡ cond (v && c) y t
began_same false v c x y t e same = ap (λ z. cond (z && c) y t) e
began_same true v true x y t e same = same refl ∙ ap (λ z. cond (z && true) y t) e
began_same true v false x y t e same = ap (λ z. cond (z && false) y t) e

sessions_same : (s : Setting) (h g : HostRecord) (i : Input) → Agree s h g → Rattle.spk_sequence.specs.Following.with_dead s h i (dead_sessions s h) ≡ Rattle.spk_sequence.specs.Following.with_dead s g i (dead_sessions s g)
sessions_same s h g (MessageComes p now) a = a.sessions
sessions_same s h g (TickComes now) a = a.sessions
sessions_same s h g (DeathComes session now) a =
    ap (λ b. cond b (session ∷ dead_sessions s h) (dead_sessions s h)) (death_same s h g (DeathComes session now) a.taken)
    ∙ ap (λ xs. cond (is_matching_death s g (DeathComes session now)) (session ∷ xs) xs) a.sessions

births_same : (s : Setting) (h g : HostRecord) (i : Input) (b : ℕ) → contains b (handed_of h) ≡ contains b (handed_of g)
    → contains b (Rattle.spk_sequence.specs.Window.with_handed i (handed_of h)) ≡ contains b (Rattle.spk_sequence.specs.Window.with_handed i (handed_of g))
births_same s h g (MessageComes p now) b same = ap (λ x. eqb p b || x) same
births_same s h g (DeathComes session now) b same = same
births_same s h g (TickComes now) b same = same

pub agree_after : (s : Setting) (h g : HostRecord) (e : Done) → Agree s h g → Agree s (e ∷ h) (e ∷ g)
agree_after s h g e a =
    let m : is_matching_death s h e.input ≡ is_matching_death s g e.input = death_same s h g e.input a.taken in
    let gap = gap_same s (following s h) (following s g) (next_after h) (next_after g) e.input a.on a.handed a.began a.next in
    let on : (following s (e ∷ h)).on ≡ (following s (e ∷ g)).on =
    ap (λ x. takes s e || (x && not (is_gap_of s (following s h) (next_after h) e.input) && not (is_matching_death s h e.input))) a.on
    ∙ ap (λ x. takes s e || ((following s g).on && not x && not (is_matching_death s h e.input))) gap
    ∙ ap (λ x. takes s e || ((following s g).on && not (is_gap_of s (following s g) (next_after g) e.input) && not x)) m in
    record {
      consumed = ap (λ ps. ps ++ e.consumed) a.consumed;
      next = ap (λ n. after_last n e.consumed) a.next;
      taken = ap (λ o. last_opening s.published o e.consumed) a.taken;
      on = on;
      handed = ap (λ x. cond x (and_handed e.input (following s h).handed) []) on ∙ ap (λ xs. cond (following s (e ∷ g)).on (and_handed e.input xs) []) a.handed;
      began = λ t. began_same (is_waiting (following s h).handed (next_after h)) (is_waiting (following s g).handed (next_after g)) (is_empty e.consumed) (following s h).began (following s g).began (moment_of e.input)
          (ap (λ xs. is_waiting xs (next_after h)) a.handed ∙ ap (λ n. is_waiting (following s g).handed n) a.next) (λ w. a.began (waits_on s h (next_after h) w));
      dead = ap (λ x. not (takes s e) && (x || is_session_dead s h)) m ∙ ap (λ x. not (takes s e) && (is_matching_death s g e.input || x)) a.dead;
      sessions = sessions_same s h g e.input a;
      under = λ x. ap (λ o. cond (is_held_under s x e.input e.reply) (position_of e.input) o) (a.under x);
      births = λ b o. births_same s h g e.input b (a.births b o);
    }

-- ---- one event more behind the first alone: a message that isn't taken, since the host doesn't follow

abbrev pub passed_over : ℕ → ℕ → Done
passed_over p now = record { input = MessageComes p now; reply = Stepped step.NotLive; consumed = [] }

not_equal : (s : Setting) (p b : ℕ) → opens s.published p ≡ false → opens s.published b ≡ true → eqb p b ≡ false
not_equal s p b other opening = go (eqb p b) refl
  where
    go : (x : Bool) → eqb p b ≡ x → eqb p b ≡ false
    go false e = e
    go true e = absurd (true≢false (sym opening ∙ sym (ap (opens s.published) (eqb-true p b e)) ∙ other))

pub agree_without : (s : Setting) (h g : HostRecord) (p now : ℕ) → Agree s h g → (following s h).on ≡ false → opens s.published p ≡ false → Agree s (passed_over p now ∷ h) g
agree_without s h g p now a off other =
    let still : (following s (passed_over p now ∷ h)).on ≡ false = ap (λ x. x && not (is_gap_of s (following s h) (next_after h) (MessageComes p now)) && not (is_matching_death s h (MessageComes p now))) off in
    record {
      consumed = append-nil (consumed_of h) ∙ a.consumed;
      next = a.next;
      taken = a.taken;
      on = still ∙ sym off ∙ a.on;
      handed = idle s (passed_over p now ∷ h) still ∙ sym (idle s g (sym a.on ∙ off));
      began = λ t. absurd (true≢false (sym t ∙ still));
      dead = a.dead;
      sessions = a.sessions;
      under = a.under;
      births = λ b o. ap (λ x. x || contains b (handed_of h)) (not_equal s p b other o) ∙ a.births b o;
    }
