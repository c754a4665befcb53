-- The list of all events, one event longer; and the data beside it, along any list of calls.
use Rattle.std.proofs.Common.{◌≡◌, ℕ, ◌+◌, ◌<◌, min, max, Bool, true, false, not, ◌&&◌, ◌||◌, eqb, cond, List, [], ◌∷◌, ◌++◌, length, take, drop, refl, sym, ◌∙◌, ap, arith, subst, inl, inr, append_assoc, Option, Some, None, unwrap_or, Ok, Err}
use Rattle.std.specs.List.{list_any, filter, AllByRecursion, IsDistinct}
use Rattle.std.proofs.lemmas.Bool.{eq-eqb, le-leb, lt-leb, cases_lt, lt-ltb, le-ltb}
use Rattle.std.proofs.Math.Bool.{or-false, or-true}
use Rattle.std.proofs.lemmas.List.{append-nil, take-append-drop}
use Rattle.std.proofs.lemmas.List.Elements.{filter-append}
use Rattle.std.proofs.lemmas.List.Folds.{list_any-append}
use Rattle.spk_session.specs.declared.answer.Sort.TheVariants as sort
use Rattle.spk_session.specs.declared.answer.Verdict.{Verdict}
use Rattle.spk_session.specs.declared.answer.Verdict.TheVariants as verdict
use Rattle.spk_session.specs.declared.fault.SessionFault.TheVariants as fault
use Rattle.spk_session.specs.Data.{Standing}
use Rattle.spk_session.specs.PacketIds.{is_in, next_id, AreIds, IsNextFree}
use Rattle.spk_session.specs.Past.{Event, Gave, Acked, Refused, Reopened, TookBack, ends, stays, in_use, says_last, or_else, last_said, last_given, is_drop, is_reopening, drops_of}
use Rattle.spk_session.specs.Step.{fresh_standing, without, has_room, one_more, is_spent, after_sent, after_given, after_acked, after_refused, after_reopen, after_rewind}
use Rattle.spk_session.specs.Calls.{Call, Sent, Ack, Refuse, Reopen, Rewind, Reply, Giving, Acking, Judging, reply_of, after_call, after_calls, replies_of, right_reply, done, events_of, right_replies}
use Rattle.spk_session.proofs.IdLemmas.{ids-nil, ids-take, ids-next, ids-without, eqb-flip}
use Rattle.spk_session.proofs.Undone.{limit-call}
use Rattle.spk_session.proofs.CircleLemmas.{next_free}

-- ids in use

-- what one event leaves of the ids in use
abbrev left_by : Event → List ℕ → List ℕ
left_by e ids = filter (λ id. not (ends id e)) ids

gave-more : (id : ℕ) (ended over : Bool) (e : Event) → ends id e ≡ over → cond (ended || over) [] (id ∷ []) ≡ left_by e (cond ended [] (id ∷ []))
gave-more id true over e is = refl
gave-more id false true e is = rw is refl
gave-more id false false e is = rw is refl

stays-more : (f : Event) (since : List Event) (e : Event) → stays f (since ++ e ∷ []) ≡ left_by e (stays f since)
stays-more (Gave id) since e =
    ap (λ b. cond b [] (id ∷ [])) (list_any-append (ends id) since (e ∷ []) ∙ ap (λ b. list_any (ends id) since || b) (or-false (ends id e)))
    ∙ gave-more id (list_any (ends id) since) (ends id e) e refl
stays-more (Acked id) since e = refl
stays-more (Refused some) since e = refl
stays-more Reopened since e = refl
stays-more (TookBack ids last) since e = refl

pub in_use-more : (events : List Event) (e : Event) → in_use (events ++ e ∷ []) ≡ left_by e (in_use events) ++ stays e []
in_use-more [] e = append-nil (stays e [])
in_use-more (f ∷ since) e =
    ap (λ xs. xs ++ in_use (since ++ e ∷ [])) (stays-more f since e)
    ∙ ap (λ xs. left_by e (stays f since) ++ xs) (in_use-more since e)
    ∙ sym (append_assoc (left_by e (stays f since)) (left_by e (in_use since)) (stays e []))
    ∙ ap (λ xs. xs ++ stays e []) (sym (filter-append (λ id. not (ends id e)) (stays f since) (in_use since)))

keeps-all : (p : ℕ → Bool) (xs : List ℕ) → ((x : ℕ) → p x ≡ true) → filter p xs ≡ xs
keeps-all p [] h = refl
keeps-all p (x ∷ xs) h = let e : p x ≡ true = h x in rw e (ap (λ ys. x ∷ ys) (keeps-all p xs h))

-- ids taken back: those behind the first ones
apart-absent : (x : ℕ) (ys : List ℕ) → AllByRecursion (λ y. eqb x y ≡ false) ys → is_in ys x ≡ false
apart-absent x [] h = refl
apart-absent x (y ∷ ys) h = ap (λ b. b || is_in ys x) (eqb-flip y x ∙ h.0) ∙ apart-absent x ys h.1

apart-behind : (x : ℕ) (xs ys : List ℕ) → AllByRecursion (λ y. eqb x y ≡ false) (xs ++ ys) → AllByRecursion (λ y. eqb x y ≡ false) ys
apart-behind x [] ys h = h
apart-behind x (z ∷ xs) ys h = apart-behind x xs ys h.1

front-stays : (xs ys : List ℕ) → IsDistinct eqb (xs ++ ys) → filter (λ id. not (is_in ys id)) xs ≡ xs
unfolding IsDistinct
front-stays [] ys h = refl
front-stays (x ∷ xs) ys h =
    let absent : is_in ys x ≡ false = apart-absent x ys (apart-behind x xs ys h.0) in
    rw absent (ap (λ zs. x ∷ zs) (front-stays xs ys h.1))

in-behind : (x : ℕ) (xs ys : List ℕ) → is_in (xs ++ x ∷ ys) x ≡ true
in-behind x [] ys = ap (λ b. b || is_in ys x) (eq-eqb x x refl)
in-behind x (y ∷ xs) ys = ap (λ b. eqb y x || b) (in-behind x xs ys) ∙ or-true (eqb y x)

back-goes : (before ys : List ℕ) → filter (λ id. not (is_in (before ++ ys) id)) ys ≡ []
back-goes before [] = refl
back-goes before (y ∷ ys) =
    let present : is_in (before ++ y ∷ ys) y ≡ true = in-behind y before ys in
    let rest : filter (λ id. not (is_in (before ++ y ∷ ys) id)) ys ≡ [] =
    subst (λ zs. filter (λ id. not (is_in zs id)) ys ≡ []) (append_assoc before (y ∷ []) ys) (back-goes (before ++ y ∷ []) ys) in
    rw present rest

took-back : (n : ℕ) (xs : List ℕ) → IsDistinct eqb xs → filter (λ id. not (is_in (drop n xs) id)) xs ≡ take n xs
took-back n xs h =
    let split : take n xs ++ drop n xs ≡ xs = take-append-drop n xs in
    ap (filter (λ id. not (is_in (drop n xs) id))) (sym split)
    ∙ filter-append (λ id. not (is_in (drop n xs) id)) (take n xs) (drop n xs)
    ∙ ap (λ zs. zs ++ filter (λ id. not (is_in (drop n xs) id)) (drop n xs)) (front-stays (take n xs) (drop n xs) (subst (IsDistinct eqb) (sym split) h))
    ∙ ap (λ zs. take n xs ++ zs) (back-goes [] (drop n xs))
    ∙ append-nil (take n xs)

-- the id given last

or-none : (o : Option ℕ) → or_else o None ≡ o
or-none None = refl
or-none (Some id) = refl

or-assoc : (a b c : Option ℕ) → or_else (or_else a b) c ≡ or_else a (or_else b c)
or-assoc None b c = refl
or-assoc (Some id) b c = refl

pub last_said-more : (events : List Event) (e : Event) → last_said (events ++ e ∷ []) ≡ or_else (says_last e) (last_said events)
last_said-more [] e = sym (or-none (says_last e))
last_said-more (f ∷ since) e = ap (λ o. or_else o (says_last f)) (last_said-more since e) ∙ or-assoc (says_last e) (last_said since) (says_last f)

-- drops

reopened-more : (since : List Event) (e : Event) → list_any is_reopening (since ++ e ∷ []) ≡ (list_any is_reopening since || is_reopening e)
reopened-more since e = list_any-append is_reopening since (e ∷ []) ∙ ap (λ b. list_any is_reopening since || b) (or-false (is_reopening e))

abbrev drop_at : Bool → Bool → ℕ
drop_at is reopened = cond (is && not reopened) 1 0

none-at : (is : Bool) → drop_at is true ≡ 0
none-at true = refl
none-at false = refl

drops-reopened : (events : List Event) → drops_of (events ++ Reopened ∷ []) ≡ 0
drops-reopened [] = refl
drops-reopened (f ∷ since) =
    ap (λ b. drop_at (is_drop f) b + drops_of (since ++ Reopened ∷ [])) (reopened-more since Reopened ∙ or-true _)
    ∙ ap (λ n. n + drops_of (since ++ Reopened ∷ [])) (none-at (is_drop f))
    ∙ ap (λ n. 0 + n) (drops-reopened since)

drops-other : (events : List Event) (e : Event) → is_reopening e ≡ false → drops_of (events ++ e ∷ []) ≡ drops_of events + drop_at (is_drop e) false
drops-other [] e h = omega arith
drops-other (f ∷ since) e h =
    ap (λ b. drop_at (is_drop f) b + drops_of (since ++ e ∷ [])) (reopened-more since e ∙ ap (λ b. list_any is_reopening since || b) h ∙ or-false _)
    ∙ ap (λ n. drop_at (is_drop f) (list_any is_reopening since) + n) (drops-other since e h)
    ∙ omega arith

-- a count that stays at 65,535 reaches a limit exactly where the true count does
spent-capped : (limit d : ℕ) → limit < 65536 → is_spent limit (one_more (min d 65535)) ≡ is_spent limit (d + 1)
spent-capped limit d h = elim (cases_lt (d + 1) (max 1 limit)) [
  | inl below ↦ lt-leb (max 1 limit) (one_more (min d 65535)) (omega arith) ∙ sym (lt-leb (max 1 limit) (d + 1) below)
  | inr past ↦ le-leb (max 1 limit) (one_more (min d 65535)) (omega arith) ∙ sym (le-leb (max 1 limit) (d + 1) past)
]

-- the data beside the events
pub record IsTied (events : List Event) (s : Standing) : Type 0 where
  pub used : s.used ≡ in_use events
  pub last : s.last ≡ last_given events
  pub drops : s.drops ≡ min (drops_of events) 65535
  pub ids : AreIds s.used

pub tied-start : (limit : ℕ) → IsTied [] (fresh_standing limit)
tied-start limit = record { used = refl; last = refl; drops = refl; ids = ids-nil }

-- what an event leaves as it was
left-all : (e : Event) (ids : List ℕ) → ((id : ℕ) → ends id e ≡ false) → left_by e ids ≡ ids
left-all e ids h = keeps-all (λ id. not (ends id e)) ids (λ id. ap not (h id))

last-more : (events : List Event) (e : Event) → last_given (events ++ e ∷ []) ≡ unwrap_or (or_else (says_last e) (last_said events)) 0
last-more events e = ap (λ o. unwrap_or o 0) (last_said-more events e)

capped-same : (s d c : ℕ) → s ≡ min d 65535 → c ≡ d + 0 → s ≡ min c 65535
capped-same s d c a b = omega arith

tied-given : (events : List Event) (s : Standing) (id : ℕ) → IsTied events s → length s.used < 1024 → id ≡ next_id s.used s.last → IsTied (events ++ Gave id ∷ []) (after_given s id)
tied-given events s id h room is = record {
  used = sym (in_use-more events (Gave id) ∙ ap (λ xs. xs ++ id ∷ []) (left-all (Gave id) (in_use events) (λ other. refl) ∙ sym h.used));
  last = sym (last-more events (Gave id));
  drops = capped-same _ _ _ h.drops (drops-other events (Gave id) refl);
  ids = ids-next s.used s.last id h.ids room (subst (IsNextFree s.used s.last) (sym is) (next_free s.used s.last h.ids.in_range (omega arith)));
}

tied-sent : (events : List Event) (s : Standing) → IsTied events s → IsTied (events ++ done events Sent) (after_sent s)
tied-sent events s h =
    let id : ℕ = next_id (in_use events) (last_given events) in
    let is : id ≡ next_id s.used s.last = ap (next_id (in_use events)) (sym h.last) ∙ ap (λ xs. next_id xs s.last) (sym h.used) in
    elim (cases_lt (length s.used) 1024) [
      | inl room ↦
          let a : has_room s.used ≡ true = lt-ltb _ _ room in
          let b : has_room (in_use events) ≡ true = ap has_room (sym h.used) ∙ a in
          rw (a, b) (subst (λ n. IsTied (events ++ Gave id ∷ []) (after_given s n)) is (tied-given events s id h room is))
      | inr full ↦
          let a : has_room s.used ≡ false = le-ltb _ _ full in
          let b : has_room (in_use events) ≡ false = ap has_room (sym h.used) ∙ a in
          rw (a, b) (subst (λ es. IsTied es s) (sym (append-nil events)) h)
    ]

tied-acked : (events : List Event) (s : Standing) (id : ℕ) → IsTied events s → IsTied (events ++ Acked id ∷ []) (after_acked s id)
tied-acked events s id h = record {
  used = sym (in_use-more events (Acked id) ∙ append-nil _ ∙ ap (without id) (sym h.used));
  last = h.last ∙ sym (last-more events (Acked id));
  drops = capped-same _ _ _ h.drops (drops-other events (Acked id) refl);
  ids = ids-without id s.used h.ids;
}

quiet-used : (events : List Event) (e : Event) (used : List ℕ) → ((id : ℕ) → ends id e ≡ false) → stays e [] ≡ [] → used ≡ in_use events → used ≡ in_use (events ++ e ∷ [])
quiet-used events e used h none is =
    is ∙ sym (in_use-more events e ∙ ap (λ xs. left_by e (in_use events) ++ xs) none ∙ append-nil _ ∙ left-all e (in_use events) h)

tied-dropped : (events : List Event) (s : Standing) → IsTied events s → IsTied (events ++ Refused sort.QosZero ∷ []) (after_refused s sort.QosZero)
tied-dropped events s h = record {
  used = quiet-used events (Refused sort.QosZero) s.used (λ id. refl) refl h.used;
  last = h.last ∙ sym (last-more events (Refused sort.QosZero));
  drops = (let e : drops_of (events ++ Refused sort.QosZero ∷ []) ≡ drops_of events + 1 = drops-other events (Refused sort.QosZero) refl in
      let d : s.drops ≡ min (drops_of events) 65535 = h.drops in omega arith);
  ids = h.ids;
}

tied-refused : (events : List Event) (s : Standing) → IsTied events s → IsTied (events ++ Refused sort.Other ∷ []) s
tied-refused events s h = record {
  used = quiet-used events (Refused sort.Other) s.used (λ id. refl) refl h.used;
  last = h.last ∙ sym (last-more events (Refused sort.Other));
  drops = capped-same _ _ _ h.drops (drops-other events (Refused sort.Other) refl);
  ids = h.ids;
}

tied-reopened : (events : List Event) (s : Standing) → IsTied events s → IsTied (events ++ Reopened ∷ []) (after_reopen s)
tied-reopened events s h = record {
  used = quiet-used events Reopened s.used (λ id. refl) refl h.used;
  last = h.last ∙ sym (last-more events Reopened);
  drops = (let e : drops_of (events ++ Reopened ∷ []) ≡ 0 = drops-reopened events in omega arith);
  ids = h.ids;
}

tied-rewound : (events : List Event) (s : Standing) (n last : ℕ) → IsTied events s → IsTied (events ++ TookBack (drop n (in_use events)) last ∷ []) (after_rewind s n last)
tied-rewound events s n last h = record {
  used = sym (in_use-more events (TookBack (drop n (in_use events)) last) ∙ append-nil _
      ∙ took-back n (in_use events) (subst (IsDistinct eqb) h.used h.ids.distinct) ∙ ap (take n) (sym h.used));
  last = sym (last-more events (TookBack (drop n (in_use events)) last));
  drops = capped-same _ _ _ h.drops (drops-other events (TookBack (drop n (in_use events)) last) refl);
  ids = ids-take n s.used h.ids;
}

pub tied-more : (call : Call) (events : List Event) (s : Standing) → IsTied events s → IsTied (events ++ done events call) (after_call s call)
tied-more Sent events s h = tied-sent events s h
tied-more (Ack id) events s h = tied-acked events s id h
tied-more (Refuse sort.QosZero) events s h = tied-dropped events s h
tied-more (Refuse sort.Other) events s h = tied-refused events s h
tied-more Reopen events s h = tied-reopened events s h
tied-more (Rewind n last) events s h = tied-rewound events s n last h

pub tied : (calls : List Call) (events : List Event) (s : Standing) → IsTied events s → IsTied (events_of events calls) (after_calls s calls)
tied [] events s h = h
tied (call ∷ calls) events s h = tied calls (events ++ done events call) (after_call s call) (tied-more call events s h)

-- replies

abbrev given : List ℕ → ℕ → Reply
given used last = Giving (cond (has_room used) (Ok (next_id used last)) (Err fault.Unacked))

either : (room : Bool) (id : ℕ) → Giving (cond room (Ok id) (Err fault.Unacked)) ≡ cond room (Giving (Ok id)) (Giving (Err fault.Unacked))
either true id = refl
either false id = refl

abbrev judged : Bool → Verdict
judged spent = cond spent verdict.Close verdict.Dropped

same_reply : (call : Call) (events : List Event) (s : Standing) (limit : ℕ) → s.limit ≡ limit → limit < 65536 → IsTied events s → reply_of s call ≡ right_reply limit events call
same_reply Sent events s limit is fits h =
    ap (λ xs. given xs s.last) h.used ∙ ap (given (in_use events)) h.last ∙ either (has_room (in_use events)) (next_id (in_use events) (last_given events))
same_reply (Ack id) events s limit is fits h = ap (λ xs. Acking (is_in xs id)) h.used
same_reply (Refuse sort.QosZero) events s limit is fits h =
    ap (λ l. Judging (judged (is_spent l (one_more s.drops)))) is
    ∙ ap (λ d. Judging (judged (is_spent limit (one_more d)))) h.drops
    ∙ ap (λ b. Judging (judged b)) (spent-capped limit (drops_of events) fits)
same_reply (Refuse sort.Other) events s limit is fits h = refl
same_reply Reopen events s limit is fits h = refl
same_reply (Rewind n last) events s limit is fits h = refl

pub same_replies : (calls : List Call) (events : List Event) (s : Standing) (limit : ℕ) → s.limit ≡ limit → limit < 65536 → IsTied events s → replies_of s calls ≡ right_replies limit events calls
same_replies [] events s limit is fits h = refl
same_replies (call ∷ calls) events s limit is fits h =
    ap (λ r. r ∷ replies_of (after_call s call) calls) (same_reply call events s limit is fits h)
    ∙ ap (λ rs. right_reply limit events call ∷ rs) (same_replies calls (events ++ done events call) (after_call s call) limit (limit-call s call ∙ is) fits (tied-more call events s h))
