-- Whoever was refused a packet stays noted.
use Rattle.std.proofs.Common.{◌≡◌, ◌⊎◌, inl, inr, ℕ, zero, suc, ◌<◌, ◌≤◌, min, nat_eq, ◌||◌, if◌then◌else◌, Bool, true, false, cond, List, [], ◌∷◌, ◌++◌, length, get_or, Option, Some, None, Result, Ok, Err, Contains, refl, sym, ◌∙◌, ap, subst, le_trans, arith}
use Rattle.std.proofs.lemmas.Bool.Decides.{eqb_tells}
use Rattle.std.proofs.lemmas.List.Elements.{Contains-append_left}
use Rattle.std.specs.Option.{IfSome, option_map, option_map_or}
use Rattle.spk_packets.specs.declared.packet.Packet.{Packet}
use Rattle.spk_packets.specs.declared.fault.PacketFault.{PacketFault}
use Rattle.spk_session.specs.declared.answer.Sort.{Sort}
use Rattle.spk_session.specs.declared.answer.Sort.TheVariants as sort
use Rattle.spk_clients.specs.declared.cause.Cause.{Cause}
use Rattle.spk_clients.specs.declared.client.Phase.{Phase}
use Rattle.spk_clients.specs.declared.client.Phase.TheVariants.{Over, Done}
use Rattle.spk_clients.specs.declared.client.Offered.{Offered}
use Rattle.spk_clients.specs.declared.client.Offered.TheVariants.{Refused}
use Rattle.spk_clients.specs.declared.client.Client.{Client}
use Rattle.spk_clients.specs.declared.clients.Clients.{Clients}
use Rattle.spk_clients.specs.Client.{given_up, has_moment, is_leaving, is_over, is_shut, is_to_shut, is_untold, leaves, over_until, refused_with, settles}
use Rattle.spk_clients.specs.Data.{AreNoted, GivesFrontOf, IsEarly, IsNamed, OfferedTo, OthersStay, client_at}

false_is_true : (b : Bool) → b ≡ false → b ≡ true → ⊥
false_is_true b e t = grind arith

or_true : (a b : Bool) → b ≡ true → (a || b) ≡ true
or_true true b t = refl
or_true false b t = t

or_false : (a b : Bool) → (a || b) ≡ false → a ≡ false
or_false true b f = cc
or_false false b f = refl

either : (P : Client → Type 0) (c : Client) (o : Option Client) (b : Bool) → P c → IfSome o P → IfSome (cond b (Some c) o) P
either P c o true p q = p
either P c o false p q = q

of_each : (P Q : Client → Type 0) (o : Option Client) → ((c : Client) → P c → Q c) → IfSome o P → IfSome o Q
of_each P Q None f h = tt
of_each P Q (Some c) f h = f c h

-- no moment comes before, where the number isn't greater
pub still_early : (clients : ℕ → Option Client) (old new : ℕ) → new ≤ old → IsEarly old clients → IsEarly new clients
still_early clients old new less early = λ k.
    of_each (λ c. has_moment c.phase ≡ true → old ≤ c.until) (λ c. has_moment c.phase ≡ true → new ≤ c.until) (clients k)
    (λ c h t. le_trans less (h t)) (early k)

-- a client of whom nothing is untold is put in
pub noted_put : (old new : Clients) (conn : ℕ) (c : Client) → is_untold c ≡ false
    → ((q : ℕ) → client_at new q ≡ cond (nat_eq conn q) (Some c) (client_at old q))
    → new.untold.items ≡ old.untold.items → new.soonest ≡ min old.soonest c.until
    → new.done.items ≡ old.done.items → new.unnamed ≡ (old.unnamed || is_to_shut c) → AreNoted old → AreNoted new
noted_put old new conn c none h same soon done named noted =
    let first : new.soonest ≤ old.soonest = omega (arith, soon) in
    let second : new.soonest ≤ c.until = omega (arith, soon) in (
      λ q.
          let P : Client → Type 0 = λ x. is_untold x ≡ true → Contains new.untold.items q in
          let was : IfSome (client_at old q) P = rw same (noted.0 q) in
          subst (λ (o : Option Client). IfSome o P) (sym (h q)) (either P c (client_at old q) (nat_eq conn q) (λ t. absurd (false_is_true _ none t)) was),
      λ q.
          let P : Client → Type 0 = λ x. has_moment x.phase ≡ true → new.soonest ≤ x.until in
          subst (λ (o : Option Client). IfSome o P) (sym (h q)) (either P c (client_at old q) (nat_eq conn q) (λ t. second) (still_early (client_at old) old.soonest new.soonest first noted.1 q)),
      λ q.
          let P : Client → Type 0 = λ x. is_to_shut x ≡ true → IsNamed new q in
          subst (λ (o : Option Client). IfSome o P) (sym (h q))
          (either P c (client_at old q) (nat_eq conn q)
          (λ t f. absurd (false_is_true _ (sym named ∙ f) (or_true old.unnamed (is_to_shut c) t)))
          (of_each (λ x. is_to_shut x ≡ true → IsNamed old q) P (client_at old q)
          (λ x n t f. subst (λ (xs : List ℕ). Contains xs q) (sym done) (n t (or_false old.unnamed (is_to_shut c) (sym named ∙ f)))) (noted.2 q))),
    )

-- ---- one client is changed

-- what was noted of this client is so still
abbrev pub Keeps : Clients → ℕ → Option Client → Option Client → Type 0
Keeps new conn o None = Unit {0}
Keeps new conn None (Some d) = ⊥
Keeps new conn (Some c) (Some d) = (is_untold d ≡ true → (is_untold c ≡ true) ⊎ Contains new.untold.items conn)
    × (has_moment d.phase ≡ true → ((has_moment c.phase ≡ true) × (d.until ≡ c.until)) ⊎ (new.soonest ≤ d.until))
    × (is_to_shut d ≡ true → (is_to_shut c ≡ true) ⊎ IsNamed new conn)

untold_kept : (old new : Clients) (k : ℕ) (o n : Option Client) → Keeps new k o n → (Contains old.untold.items k → Contains new.untold.items k)
    → IfSome o (λ c. is_untold c ≡ true → Contains old.untold.items k) → IfSome n (λ c. is_untold c ≡ true → Contains new.untold.items k)
untold_kept old new k None None h still s = tt
untold_kept old new k (Some c) None h still s = tt
untold_kept old new k None (Some d) h still s = absurd h
untold_kept old new k (Some c) (Some d) h still s = λ t. elim (h.0 t) [ inl u ↦ still (s u) | inr n ↦ n ]

moment_kept : (old new : Clients) (k : ℕ) (o n : Option Client) → Keeps new k o n → new.soonest ≤ old.soonest
    → IfSome o (λ c. has_moment c.phase ≡ true → old.soonest ≤ c.until) → IfSome n (λ c. has_moment c.phase ≡ true → new.soonest ≤ c.until)
moment_kept old new k None None h less s = tt
moment_kept old new k (Some c) None h less s = tt
moment_kept old new k None (Some d) h less s = absurd h
moment_kept old new k (Some c) (Some d) h less s = λ t. elim (h.1 t) [
  | inl u ↦ (let early : old.soonest ≤ c.until = s u.0 in let same : d.until ≡ c.until = u.1 in omega (arith, less, early, same))
  | inr n ↦ n
]

named_kept : (old new : Clients) (k : ℕ) (o n : Option Client) → Keeps new k o n → (IsNamed old k → IsNamed new k)
    → IfSome o (λ c. is_to_shut c ≡ true → IsNamed old k) → IfSome n (λ c. is_to_shut c ≡ true → IsNamed new k)
named_kept old new k None None h still s = tt
named_kept old new k (Some c) None h still s = tt
named_kept old new k None (Some d) h still s = absurd h
named_kept old new k (Some c) (Some d) h still s = λ t. elim (h.2 t) [ inl u ↦ still (s u) | inr n ↦ n ]

kept_same : (new : Clients) (k : ℕ) (o n : Option Client) → n ≡ o → Keeps new k o n
kept_same new k None None e = tt
kept_same new k (Some c) None e = tt
kept_same new k None (Some d) e = cc
kept_same new k (Some c) (Some d) e =
    let same : d ≡ c = some_same e in (
      λ t. inl (subst (λ (x : Client). is_untold x ≡ true) same t),
      λ t. inl (subst (λ (x : Client). has_moment x.phase ≡ true) same t, ap (λ (x : Client). x.until) same),
      λ t. inl (subst (λ (x : Client). is_to_shut x ≡ true) same t),
    )
  where
    some_same : Some d ≡ Some c → d ≡ c
    some_same h = cc

kept_at : (old new : Clients) (conn : ℕ) → OthersStay conn old new → Keeps new conn (client_at old conn) (client_at new conn) → (k : ℕ)
    → Keeps new k (client_at old k) (client_at new k)
kept_at old new conn others here k = elim (eqb_tells k conn) [
  | inl p ↦ subst (λ j. Keeps new j (client_at old j) (client_at new j)) (sym p.1) here
  | inr p ↦ kept_same new k (client_at old k) (client_at new k) (others k p.1)
]

pub noted_kept : (old new : Clients) (conn : ℕ) → OthersStay conn old new → Keeps new conn (client_at old conn) (client_at new conn)
    → ((k : ℕ) → Contains old.untold.items k → Contains new.untold.items k) → new.soonest ≤ old.soonest → ((k : ℕ) → IsNamed old k → IsNamed new k)
    → AreNoted old → AreNoted new
noted_kept old new conn others here untold less named noted = (
  λ k. untold_kept old new k (client_at old k) (client_at new k) (kept_at old new conn others here k) (untold k) (noted.0 k),
  λ k. moment_kept old new k (client_at old k) (client_at new k) (kept_at old new conn others here k) less (noted.1 k),
  λ k. named_kept old new k (client_at old k) (client_at new k) (kept_at old new conn others here k) (named k) (noted.2 k),
)

-- what stands at the front of what it sent was taken
pub front_keeps : (new : Clients) (conn : ℕ) (o n : Option Client) (r : Option (Result Packet PacketFault)) → GivesFrontOf o r n → Keeps new conn o n
front_keeps new conn None None r h = tt
front_keeps new conn (Some c) None r h = tt
front_keeps new conn None (Some d) r h = absurd h
front_keeps new conn (Some c) (Some d) None h = kept_same new conn (Some c) (Some d) (ap Some h.1)
front_keeps new conn (Some c) (Some d) (Some (Err fault)) h = kept_same new conn (Some c) (Some d) (ap Some h.3)
front_keeps new conn (Some c) (Some d) (Some (Ok packet)) h =
    let same : d ≡ record c { feed = d.feed } = h.2 in (
      λ t. inl (subst (λ (x : Client). is_untold x ≡ true) same t),
      λ t. inl (subst (λ (x : Client). has_moment x.phase ≡ true) same t, ap (λ (x : Client). x.until) same),
      λ t. inl (subst (λ (x : Client). is_to_shut x ≡ true) same t),
    )

refused_phase : (s : Sort) (c : Client) → (refused_with s c).phase ≡ c.phase
refused_phase sort.QosZero c = refl
refused_phase sort.Other c = refl

refused_until : (s : Sort) (c : Client) → (refused_with s c).until ≡ c.until
refused_until sort.QosZero c = refl
refused_until sort.Other c = refl

refused_so : (new : Clients) (conn : ℕ) (s : Sort) (bytes : List ℕ) (o n : Option Client) → OfferedTo s bytes o Refused n → Contains new.untold.items conn → Keeps new conn o n
refused_so new conn s bytes None None h in_it = tt
refused_so new conn s bytes (Some c) None h in_it = tt
refused_so new conn s bytes None (Some d) h in_it = absurd h
refused_so new conn s bytes (Some c) (Some d) h in_it =
    let phase : d.phase ≡ c.phase = ap (λ (x : Client). x.phase) h.2 ∙ refused_phase s c in (
      λ t. inr in_it,
      λ t. inl (subst (λ (p : Phase). has_moment p ≡ true) phase t, ap (λ (x : Client). x.until) h.2 ∙ refused_until s c),
      λ t. inl (subst (λ (p : Phase). is_shut p ≡ true) phase t),
    )

-- a packet for it was refused, and it is noted
pub refused_keeps : (new : Clients) (conn : ℕ) (s : Sort) (bytes : List ℕ) (o n : Option Client) (r : Offered) → r ≡ Refused → OfferedTo s bytes o r n
    → Contains new.untold.items conn → Keeps new conn o n
refused_keeps new conn s bytes o n r is h in_it = refused_so new conn s bytes o n (subst (λ (x : Offered). OfferedTo s bytes o x n) is h) in_it

pub contains_before : (xs : List ℕ) (x k : ℕ) → Contains xs k → Contains (xs ++ x ∷ []) k
contains_before xs x k h = Contains-append_left xs (x ∷ []) k h

-- ---- ends

settled_by : (b : Bool) (x : Client) → is_untold (if b then record x { phase = Done } else x) ≡ is_untold x
settled_by true x = refl
settled_by false x = refl

settled_moment : (b : Bool) (x : Client) → has_moment (if b then record x { phase = Done } else x).phase ≡ true → (has_moment x.phase ≡ true)
    × ((if b then record x { phase = Done } else x).until ≡ x.until)
settled_moment true x t = cc
settled_moment false x t = (t, refl)

over_by : (b : Bool) (until : ℕ) (cause : Cause) (c : Client) → is_untold (if b then c else record c { phase = Over; until = until; cause = cause }) ≡ is_untold c
over_by true until cause c = refl
over_by false until cause c = refl

over_moment : (b : Bool) (until soonest : ℕ) (cause : Cause) (c : Client) → soonest ≤ until
    → has_moment (if b then c else record c { phase = Over; until = until; cause = cause }).phase ≡ true
    → ((has_moment c.phase ≡ true) × ((if b then c else record c { phase = Over; until = until; cause = cause }).until ≡ c.until))
    ⊎ (soonest ≤ (if b then c else record c { phase = Over; until = until; cause = cause }).until)
over_moment true until soonest cause c less t = inl (t, refl)
over_moment false until soonest cause c less t = inr less

pub leaves_keeps : (new : Clients) (conn until : ℕ) (cause : Cause) (o n : Option Client) → n ≡ option_map (leaves until cause) o → new.soonest ≤ until → IsNamed new conn
    → Keeps new conn o n
leaves_keeps new conn until cause None None e less named = tt
leaves_keeps new conn until cause (Some c) None e less named = tt
leaves_keeps new conn until cause None (Some d) e less named = cc
leaves_keeps new conn until cause (Some c) (Some d) e less named =
    subst (λ (x : Client). Keeps new conn (Some c) (Some x)) (sym (some_same e)) (
      λ t. inl (sym (over_by (is_over c) until cause c) ∙ sym (settled_by (settles x) x) ∙ t),
      λ t.
          let s = settled_moment (settles x) x t in
          elim (over_moment (is_over c) until new.soonest cause c less s.0) [ inl p ↦ inl (p.0, s.1 ∙ p.1) | inr p ↦ inr (subst (λ m. new.soonest ≤ m) (sym s.1) p) ],
      λ t. inr named,
    )
  where
    x : Client
    x = over_until until cause c

    some_same : Some d ≡ Some (leaves until cause c) → d ≡ leaves until cause c
    some_same h = cc

pub given_up_keeps : (new : Clients) (conn : ℕ) (o n : Option Client) → n ≡ option_map given_up o → IsNamed new conn → Keeps new conn o n
given_up_keeps new conn None None e named = tt
given_up_keeps new conn (Some c) None e named = tt
given_up_keeps new conn None (Some d) e named = cc
given_up_keeps new conn (Some c) (Some d) e named =
    subst (λ (x : Client). Keeps new conn (Some c) (Some x)) (sym (some_same e)) (
      λ t. inl (sym (settled_by (is_leaving c.phase) c) ∙ t),
      λ t. inl (settled_moment (is_leaving c.phase) c t),
      λ t. inr named,
    )
  where
    some_same : Some d ≡ Some (given_up c) → d ≡ given_up c
    some_same h = cc

-- ---- a name is taken off

either_in : (x : ℕ) (xs ys : List ℕ) (k : ℕ) → xs ≡ x ∷ ys → Contains xs k → (x ≡ k) ⊎ Contains ys k
either_in x xs ys k e h = by_index (subst (λ zs. Contains zs k) e h)
  where
    go : (i : ℕ) → i < suc (length ys) → get_or (x ∷ ys) i k ≡ k → (x ≡ k) ⊎ Contains ys k
    go zero within found = inl found
    go (suc i) within found = inr (i, omega (arith, within), found)

    by_index : Contains (x ∷ ys) k → (x ≡ k) ⊎ Contains ys k
    by_index p = go p.0 p.1 p.2

pub noted_popped : (old new : Clients) (conn : ℕ) → ((k : ℕ) → client_at new k ≡ client_at old k) → new.untold.items ≡ old.untold.items → new.soonest ≡ old.soonest
    → new.unnamed ≡ old.unnamed → old.done.items ≡ conn ∷ new.done.items → option_map_or is_to_shut (client_at old conn) false ≡ false → AreNoted old → AreNoted new
noted_popped old new conn stay untold soonest unnamed done not noted = (
  λ k. subst (λ (xs : List ℕ). IfSome (client_at new k) (λ c. is_untold c ≡ true → Contains xs k)) (sym untold)
      (subst (λ (o : Option Client). IfSome o (λ c. is_untold c ≡ true → Contains old.untold.items k)) (sym (stay k)) (noted.0 k)),
  λ k. subst (λ (m : ℕ). IfSome (client_at new k) (λ c. has_moment c.phase ≡ true → m ≤ c.until)) (sym soonest)
      (subst (λ (o : Option Client). IfSome o (λ c. has_moment c.phase ≡ true → old.soonest ≤ c.until)) (sym (stay k)) (noted.1 k)),
  λ k. subst (λ (o : Option Client). IfSome o (λ c. is_to_shut c ≡ true → IsNamed new k)) (sym (stay k)) (still k (client_at old k) refl (noted.2 k)),
)
  where
    other : (k : ℕ) (c : Client) → client_at old k ≡ Some c → is_to_shut c ≡ true → (conn ≡ k) ⊎ Contains new.done.items k → Contains new.done.items k
    other k c is t (inr h) = h
    other k c is t (inl e) = absurd (false_is_true (is_to_shut c) (sym (ap (λ o. option_map_or is_to_shut o false) (ap (client_at old) e ∙ is)) ∙ not) t)

    still : (k : ℕ) (o : Option Client) → client_at old k ≡ o → IfSome o (λ c. is_to_shut c ≡ true → IsNamed old k) → IfSome o (λ c. is_to_shut c ≡ true → IsNamed new k)
    still k None is h = tt
    still k (Some c) is h = λ t f. other k c is t (either_in conn old.done.items new.done.items k done (h t (sym unnamed ∙ f)))
