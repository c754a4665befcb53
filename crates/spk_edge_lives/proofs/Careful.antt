-- The deeds of a program come to a careful life.
use Rattle.std.proofs.Common.{◌≡◌, ◌∙◌, ◌⊎◌, ℕ, zero, suc, ◌+◌, ◌%◌, ◌^◌, ◌<◌, ◌≤◌, Bool, true, false, cond, ◌&&◌, List, [], ◌∷◌, ◌++◌, map, take, ◌==◌, append_assoc, Option, Some, None, Result, Ok, Err, refl, sym, ap, subst, inl, inr, true≢false, arith}
use Rattle.std.specs.Prelude.{slice_get}
use Rattle.std.specs.List.{AllByRecursion, last_or}
use Rattle.std.proofs.lemmas.Bool.{eq-eqb, eqb-true, le-leb, leb-true}
use Rattle.spk_edge.specs.Along.{node_of}
use Rattle.spk_edge.specs.Calls.{Call, CutOff, IsAfterCalls, Tell, inputs_by}
use Rattle.spk_edge.specs.Patch.{plain_input}
use Rattle.spk_edge.specs.View.{NodeData}
use Rattle.spk_edge_rules.specs.declared.fault.EdgeFault.{EdgeFault}
use Rattle.spk_edge_rules.specs.Answers.{Answer}
use Rattle.spk_edge_rules.specs.Arriving.{input_of}
use Rattle.spk_edge_rules.specs.Config.{Setup}
use Rattle.spk_edge_rules.specs.Inputs.{Cut, Input, Open}
use Rattle.spk_edge_rules.specs.Rules.{Asked}
use Rattle.spk_edge_rules.specs.Run.{Message, asked_of, opened, published, right_at, run_of, session_number, stamp_of, with_done}
use Rattle.spk_edge_rules.specs.Step.{is_open, standing_of}
use Rattle.spk_packets.specs.Message as packets
use Rattle.spk_record.specs.declared.record.Record.{Record}
use Rattle.spk_edge_app.specs.Data.{App, Coming, Answered, Refused, Dropped, Deed, Opened, Read, Heard, Told, Wrote, Saved, GaveUp, Stopped, Handed, Over, LoginData}
use Rattle.spk_edge_app.specs.Data as deed
use Rattle.spk_edge_app.specs.Run.{cut_where, is_saved, of_node, on_node}
use Rattle.spk_edge_app.specs.Step.{IsRun, IsStep, allows, fresh_app, is_up_to, wanted_by}
use Rattle.spk_lives.specs.Lives as lives
use Rattle.spk_lives.specs.Lives.{Begins, CoversRun, IsAmong, IsCareful, IsUpTo, Keeps, Reserve, Says, on_disk, said}
use Rattle.spk_edge_lives.specs.Life.{BeginsWith, IsReserved, MayHold, before_write, begins, kept_after, life_of, since_write, told_in, wanted_after}
use Rattle.spk_edge_lives.proofs.Said.{disk_says, said_life, said_says, told_more, told_split}
use Rattle.spk_edge_lives.proofs.Wanted.{Further, IsAllowed, IsMoment, none_before, step_further, wanted_allows, wanted_again}

-- what the laws of the layers below say
pub record Laws : Type 0 where
  -- the node of a program is that of the inputs that it was told
  pub node : (s : Setup) (login : Option LoginData) (kept : Record) (spread : ℕ) (ds : List Deed) (a : App)
      → IsRun (fresh_app (node_of s []) login kept spread) ds a → a.node ≡ node_of s (told_in s ds)
  pub standing : (s : Setup) (is : List Input) → (standing_of s is).asked ≡ asked_of s (run_of s is)
  pub moments : (s : Setup) (is : List Input) (p : ℕ) (m : Message) → slice_get (published (run_of s is)) p ≡ Some m → m.draft.stamp < 2 ^ 63
  pub earlier : (s : Setup) (later is : List Input) (r : Reserve) → CoversRun s (run_of s (later ++ is)) r → CoversRun s (run_of s is) r

-- ---- sessions: each deed opens one at the most

abbrev pub sessions : Setup → List Input → ℕ
sessions s is = opened (run_of s is)

cond_within : (b : Bool) (n : ℕ) → (n ≤ cond b (n + 1) n) × (cond b (n + 1) n ≤ n + 1)
cond_within true n = (omega arith, omega arith)
cond_within false n = (omega arith, omega arith)

-- an input that is told behind others
input_within : (s : Setup) (i : Input) (is : List Input) → (sessions s is ≤ sessions s (i ∷ is)) × (sessions s (i ∷ is) ≤ sessions s is + 1)
input_within s i is = by (right_at s (run_of s is) i)
  where
    by : (r : Result Answer EdgeFault) → (sessions s is ≤ opened (with_done (run_of s is) i r)) × (opened (with_done (run_of s is) i r) ≤ sessions s is + 1)
    by (Ok answer) = cond_within (is_open i.act) (sessions s is)
    by (Err f) = (omega arith, omega arith)

cut_opens_none : (s : Setup) (is : List Input) → sessions s (plain_input 0 Cut ∷ is) ≡ sessions s is
cut_opens_none s is = by (right_at s (run_of s is) (plain_input 0 Cut))
  where
    by : (r : Result Answer EdgeFault) → opened (with_done (run_of s is) (plain_input 0 Cut) r) ≡ sessions s is
    by (Ok answer) = refl
    by (Err f) = refl

abbrev IsWithin : ℕ → ℕ → Type 0
IsWithin m n = (m ≤ n) × (n ≤ m + 1)

same_within : (m n : ℕ) → n ≡ m → IsWithin m n
same_within m n e = (omega (arith, e), omega (arith, e))

-- and a cut behind it none
cut_within : (s : Setup) (i : Input) (is : List Input) → IsWithin (sessions s is) (sessions s (plain_input 0 Cut ∷ i ∷ is))
cut_within s i is =
    let (low, high) = input_within s i is in
    let same = cut_opens_none s (i ∷ is) in
    (omega (arith, low, same), omega (arith, high, same))

deed_within : (s : Setup) (d : Deed) (ds : List Deed) → IsWithin (sessions s (told_in s ds)) (sessions s (told_in s (d ∷ ds)))
deed_within s (Opened now out bytes true) ds = input_within s (plain_input now Open) (told_in s ds)
deed_within s (Opened now out bytes false) ds = cut_within s (plain_input now Open) (told_in s ds)
deed_within s (Read piece now) ds = (omega arith, omega arith)
deed_within s (Heard packet now (Answered out true)) ds = input_within s (input_of s.config now packet) (told_in s ds)
deed_within s (Heard packet now (Answered out false)) ds = cut_within s (input_of s.config now packet) (told_in s ds)
deed_within s (Heard packet now (Refused fault)) ds = (omega arith, omega arith)
deed_within s (Heard packet now Dropped) ds = same_within (sessions s (told_in s ds)) (sessions s (plain_input 0 Cut ∷ told_in s ds)) (cut_opens_none s (told_in s ds))
deed_within s (Told input out true) ds = input_within s input (told_in s ds)
deed_within s (Told input out false) ds = cut_within s input (told_in s ds)
deed_within s (deed.Asked now) ds = (omega arith, omega arith)
deed_within s (Wrote first others now) ds = (omega arith, omega arith)
deed_within s (Saved saved) ds = (omega arith, omega arith)
deed_within s (GaveUp now) ds = same_within (sessions s (told_in s ds)) (sessions s (plain_input 0 Cut ∷ told_in s ds)) (cut_opens_none s (told_in s ds))
deed_within s Stopped ds = (omega arith, omega arith)
deed_within s Handed ds = (omega arith, omega arith)
deed_within s (Over now) ds = same_within (sessions s (told_in s ds)) (sessions s (plain_input 0 Cut ∷ told_in s ds)) (cut_opens_none s (told_in s ds))

-- two sessions next to one another with one bdSeq are one
one_session : (bd m n : ℕ) → m ≤ n → n ≤ m + 1 → (bd + m) % 256 ≡ (bd + n) % 256 → n ≡ m
one_session bd m n low high same = omega arith

-- ---- what the node did, by its data

abbrev node_told : Setup → List Deed → NodeData
node_told s ds = node_of s (told_in s ds)

bd_told : Laws → (s : Setup) (ds : List Deed) → (node_told s ds).standing.asked.bd ≡ session_number s (sessions s (told_in s ds))
bd_told laws s ds = ap (λ (x : Asked). x.bd) (laws.standing s (told_in s ds))

stamp_told : Laws → (s : Setup) (ds : List Deed) → (node_told s ds).standing.asked.stamp ≡ stamp_of s (run_of s (told_in s ds))
stamp_told laws s ds = ap (λ (x : Asked). x.stamp) (laws.standing s (told_in s ds))

last_moment : (o : Option ℕ) (ms : List Message) → IsMoment o → ((p : ℕ) (m : Message) → slice_get ms p ≡ Some m → m.draft.stamp < 2 ^ 63)
    → IsMoment (last_or o (map (λ (m : Message). m.draft.stamp) ms))
last_moment o [] first all = first
last_moment o (m ∷ ms) first all = last_moment (Some m.draft.stamp) ms (all 0 m refl) (λ p x at. all (suc p) x at)

moment_told : Laws → (s : Setup) (kept : Record) → BeginsWith s kept → (ds : List Deed) → IsMoment (node_told s ds).standing.asked.stamp
moment_told laws s kept begins ds =
    subst IsMoment (sym (stamp_told laws s ds))
    (last_moment s.stamp (published (run_of s (told_in s ds))) (subst IsMoment (sym begins.stamp) begins.moment) (laws.moments s (told_in s ds)))

-- ---- a record that allows what the node did covers it

first_of_two : (x y : Bool) → (x && y) ≡ true → x ≡ true
first_of_two true y e = refl
first_of_two false y e = absurd (true≢false (sym e))

second_of_two : (x y : Bool) → (x && y) ≡ true → y ≡ true
second_of_two true y e = e
second_of_two false y e = absurd (true≢false (sym e))

up_to : (used : Option ℕ) (until : ℕ) → is_up_to used until ≡ true → IsUpTo used (Some until)
up_to None until e = tt
up_to (Some used) until e = leb-true used until e

-- what a life reserves for these sessions is this record
pub record IsFor (s : Setup) (m : ℕ) (k : Record) (r : Reserve) : Type 0 where
  pub sessions_are : r.sessions ≡ m
  pub stamp : r.stamp ≡ Some k.stamp
  pub bd : k.bd ≡ session_number s m

for_told : Laws → (s : Setup) (ds : List Deed) (k : Record) → allows k (node_told s ds) ≡ true
    → IsFor s (sessions s (told_in s ds)) k (record { sessions = sessions s (told_in s ds); stamp = Some k.stamp })
for_told laws s ds k e = record {
  sessions_are = refl;
  stamp = refl;
  bd = eqb-true k.bd (node_told s ds).standing.asked.bd (first_of_two _ _ e) ∙ bd_told laws s ds;
}

covers_told : Laws → (s : Setup) (ds : List Deed) (k : Record) (r : Reserve) → allows k (node_told s ds) ≡ true → IsFor s (sessions s (told_in s ds)) k r
    → CoversRun s (run_of s (told_in s ds)) r
covers_told laws s ds k r e f = record {
  sessions = (let same = f.sessions_are in omega (arith, same));
  stamp = subst (IsUpTo (stamp_of s (run_of s (told_in s ds)))) (sym f.stamp)
      (subst (λ o. IsUpTo o (Some k.stamp)) (stamp_told laws s ds) (up_to (node_told s ds).standing.asked.stamp k.stamp (second_of_two _ _ e)));
}

is_reserved : (s : Setup) (m : ℕ) (k : Record) (r : Reserve) → IsFor s m k r → IsReserved s r k
is_reserved s m k r f = record {
  stamp = f.stamp;
  is = ap (λ (bd : ℕ). let x : Record = record { bd = bd; stamp = k.stamp } in x) (f.bd ∙ ap (session_number s) (sym f.sessions_are));
}

-- ---- what stands behind a list of deeds

-- the newest record that the disk may hold is the one that is wanted; and where none is, the disk holds the one that is kept and no other
abbrev pub IsNewest : Setup → ℕ → Record → Option Record → List Reserve → Type 0
IsNewest s m kept None disk = (r : Reserve) × (disk ≡ r ∷ []) × IsFor s m kept r
IsNewest s m kept (Some wanted) disk = (r : Reserve) × (rest : List Reserve) × (disk ≡ r ∷ rest) × IsFor s m wanted r

-- of a life, with the record that is kept and the one that is wanted
pub record Lived (s : Setup) (m : ℕ) (kept : Record) (wanted : Option Record) (ls : List lives.Deed) : Type 0 where
  pub careful : IsCareful s ls
  pub newest : IsNewest s m kept wanted (on_disk s ls)
  pub holds : MayHold s (on_disk s ls) kept

pub record Stands (s : Setup) (first : Record) (ds : List Deed) (a : App) : Type 0 where
  pub kept : a.kept ≡ kept_after first ds
  pub wanted : a.wanted ≡ wanted_after s first ds
  pub allowed : IsAllowed a.kept a.wanted a.node
  pub lived : Lived s (sessions s (told_in s ds)) a.kept a.wanted (life_of s first ds)

-- ---- the program that was made

nothing_more : (bd : ℕ) → (bd + 0) % 256 ≡ bd % 256
nothing_more bd = omega arith

is_allowed_first : (s : Setup) (kept : Record) → BeginsWith s kept → allows kept (node_of s []) ≡ true
is_allowed_first s kept begins =
    both (eq_bd (begins.bd ∙ nothing_more s.bd)) (subst (λ o. is_up_to o kept.stamp ≡ true) (sym begins.stamp) (le-leb kept.stamp kept.stamp (omega arith)))
  where
    eq_bd : kept.bd ≡ s.bd % 256 → (kept.bd == s.bd % 256) ≡ true
    eq_bd e = eq-eqb kept.bd (s.bd % 256) e

    both : (kept.bd == s.bd % 256) ≡ true → is_up_to s.stamp kept.stamp ≡ true → allows kept (node_of s []) ≡ true
    both x y = subst (λ b. (b && is_up_to s.stamp kept.stamp) ≡ true) (sym x) y

stands_first : (s : Setup) (login : Option LoginData) (kept : Record) (spread : ℕ) (a : App) → BeginsWith s kept
    → a ≡ fresh_app (node_of s []) login kept spread → Stands s kept [] a
stands_first s login kept spread a begins e = subst (Stands s kept []) (sym e) (record {
  kept = refl;
  wanted = refl;
  allowed = subst (λ w. IsAllowed kept w (node_of s [])) (sym none) (is_allowed_first s kept begins);
  lived = subst (λ w. Lived s 0 kept w []) (sym none) first;
})
  where
    none : wanted_by kept None (node_of s []) ≡ None
    none = wanted_again kept None (node_of s []) (is_allowed_first s kept begins)

    is_for : IsFor s 0 kept (record { sessions = 0; stamp = s.stamp })
    is_for = record { sessions_are = refl; stamp = begins.stamp; bd = begins.bd }

    first : Lived s 0 kept None []
    first = record {
      careful = tt;
      newest = (record { sessions = 0; stamp = s.stamp }, refl, is_for);
      holds = record { reserve = record { sessions = 0; stamp = s.stamp }; among = inl refl; is = is_reserved s 0 kept (record { sessions = 0; stamp = s.stamp }) is_for };
    }

-- ---- a record is saved

stands_saved : Laws → (s : Setup) (first : Record) (ds : List Deed) (saved : Record) (a b : App) → a.node ≡ node_told s ds → Stands s first ds a
    → IsStep a (Saved saved) b → Stands s first (Saved saved ∷ ds) b
stands_saved laws s first ds saved a b node st (was, e) = subst (Stands s first (Saved saved ∷ ds)) (sym e) (record {
  kept = refl;
  wanted = ap (wanted_by saved None) node;
  allowed = subst (λ w. IsAllowed saved w a.node) (sym none) ready;
  lived = subst (λ w. Lived s (sessions s (told_in s ds)) saved w (Keeps ∷ life_of s first ds)) (sym none)
      (kept_now (subst (λ w. IsNewest s (sessions s (told_in s ds)) a.kept w (on_disk s (life_of s first ds))) was st.lived.newest));
})
  where
    ready : allows saved a.node ≡ true
    ready = subst (λ w. IsAllowed a.kept w a.node) was st.allowed

    none : wanted_by saved None a.node ≡ None
    none = wanted_again saved None a.node ready

    kept_now : IsNewest s (sessions s (told_in s ds)) a.kept (Some saved) (on_disk s (life_of s first ds))
        → Lived s (sessions s (told_in s ds)) saved None (Keeps ∷ life_of s first ds)
    kept_now (r, rest, disk, f) =
        let one : take 1 (on_disk s (life_of s first ds)) ≡ r ∷ [] = ap (take 1) disk in
        record {
          careful = (tt, st.lived.careful);
          newest = (r, one, f);
          holds = record { reserve = r; among = subst (IsAmong r) (sym one) (inl refl); is = is_reserved s (sessions s (told_in s ds)) saved r f };
        }

-- ---- something is written

careful_says : Laws → (s : Setup) (is : List Input) (ls : List lives.Deed) (r : Reserve) → on_disk s ls ≡ r ∷ [] → CoversRun s (run_of s (is ++ said ls)) r
    → IsCareful s ls → IsCareful s (map Says is ++ ls)
careful_says laws s [] ls r disk covers careful = careful
careful_says laws s (i ∷ is) ls r disk covers careful = (
  subst (λ rs. AllByRecursion (CoversRun s (run_of s (i ∷ said (map Says is ++ ls)))) rs) (sym (disk_says s is ls ∙ disk))
      (subst (λ xs. AllByRecursion (CoversRun s (run_of s (i ∷ xs))) (r ∷ [])) (sym (said_says is ls)) (covers, tt)),
  careful_says laws s is ls r disk (laws.earlier s (i ∷ []) (is ++ said ls) r covers) careful,
)

told_is : (s : Setup) (first : Record) (ds : List Deed) → told_in s ds ≡ since_write s ds ++ said (life_of s first ds)
told_is s first ds = told_split s ds ∙ ap (λ (xs : List Input). since_write s ds ++ xs) (sym (said_life s first ds))

wrote_lived : Laws → (s : Setup) (first : Record) (ds : List Deed) (kept : Record) → allows kept (node_told s ds) ≡ true
    → Lived s (sessions s (told_in s ds)) kept None (life_of s first ds)
    → Lived s (sessions s (told_in s ds)) kept None (map Says (since_write s ds) ++ life_of s first ds)
wrote_lived laws s first ds kept ready l = by l.newest
  where
    same : on_disk s (map Says (since_write s ds) ++ life_of s first ds) ≡ on_disk s (life_of s first ds)
    same = disk_says s (since_write s ds) (life_of s first ds)

    by : IsNewest s (sessions s (told_in s ds)) kept None (on_disk s (life_of s first ds))
        → Lived s (sessions s (told_in s ds)) kept None (map Says (since_write s ds) ++ life_of s first ds)
    by (r, disk, f) = record {
      careful = careful_says laws s (since_write s ds) (life_of s first ds) r disk
          (subst (λ is. CoversRun s (run_of s is) r) (told_is s first ds) (covers_told laws s ds kept r ready f)) l.careful;
      newest = (r, same ∙ disk, f);
      holds = subst (λ rs. MayHold s rs kept) (sym same) l.holds;
    }

-- ---- whatever else is done

none_lived : Laws → (s : Setup) (first : Record) (d : Deed) (ds : List Deed) (kept : Record) → allows kept (node_told s (d ∷ ds)) ≡ true
    → Lived s (sessions s (told_in s ds)) kept None (life_of s first ds) → Lived s (sessions s (told_in s (d ∷ ds))) kept None (life_of s first ds)
none_lived laws s first d ds kept ready l = by l.newest
  where
    bd : kept.bd ≡ session_number s (sessions s (told_in s (d ∷ ds)))
    bd = (for_told laws s (d ∷ ds) kept ready).bd

    by : IsNewest s (sessions s (told_in s ds)) kept None (on_disk s (life_of s first ds)) → Lived s (sessions s (told_in s (d ∷ ds))) kept None (life_of s first ds)
    by (r, disk, f) =
        let (low, high) = deed_within s d ds in
        let one : sessions s (told_in s (d ∷ ds)) ≡ sessions s (told_in s ds) =
        one_session s.bd (sessions s (told_in s ds)) (sessions s (told_in s (d ∷ ds))) low high (sym f.bd ∙ bd) in
        subst (λ m. Lived s m kept None (life_of s first ds)) (sym one) l

some_lived : Laws → (s : Setup) (first : Record) (d : Deed) (ds : List Deed) (kept wanted : Record) → allows wanted (node_told s (d ∷ ds)) ≡ true
    → IsCareful s (life_of s first ds) → MayHold s (on_disk s (life_of s first ds)) kept
    → Lived s (sessions s (told_in s (d ∷ ds))) kept (Some wanted) (Begins (sessions s (told_in s (d ∷ ds))) wanted.stamp ∷ life_of s first ds)
some_lived laws s first d ds kept wanted ready careful holds = record {
  careful = (
    laws.earlier s (inputs_by (on_node s.config d) ++ since_write s ds) (said (life_of s first ds)) reserve
        (subst (λ is. CoversRun s (run_of s is) reserve) told (covers_told laws s (d ∷ ds) wanted reserve ready is_for)),
    careful,
  );
  newest = (reserve, on_disk s (life_of s first ds), refl, is_for);
  holds = record { reserve = holds.reserve; among = inr holds.among; is = holds.is };
}
  where
    reserve : Reserve
    reserve = record { sessions = sessions s (told_in s (d ∷ ds)); stamp = Some wanted.stamp }

    is_for : IsFor s (sessions s (told_in s (d ∷ ds))) wanted reserve
    is_for = for_told laws s (d ∷ ds) wanted ready

    told : told_in s (d ∷ ds) ≡ (inputs_by (on_node s.config d) ++ since_write s ds) ++ said (life_of s first ds)
    told =
        told_more s d ds ∙ ap (λ (xs : List Input). inputs_by (on_node s.config d) ++ xs) (told_is s first ds)
        ∙ sym (append_assoc (inputs_by (on_node s.config d)) (since_write s ds) (said (life_of s first ds)))

begun_lived : Laws → (s : Setup) (first : Record) (d : Deed) (ds : List Deed) (a b : App) → Stands s first ds a → Further a b → b.node ≡ node_told s (d ∷ ds)
    → IsAllowed b.kept b.wanted b.node → (w : Option Record) → b.wanted ≡ w
    → Lived s (sessions s (told_in s (d ∷ ds))) b.kept w (begins s (told_in s (d ∷ ds)) w ++ life_of s first ds)
begun_lived laws s first d ds a b st f node allowed None e =
    let before : a.wanted ≡ None = none_before a.kept a.wanted b.node (sym f.wanted ∙ e) in
    let l : Lived s (sessions s (told_in s ds)) a.kept None (life_of s first ds) =
    subst (λ w. Lived s (sessions s (told_in s ds)) a.kept w (life_of s first ds)) before st.lived in
    let ready : allows b.kept (node_told s (d ∷ ds)) ≡ true =
    subst (λ n. allows b.kept n ≡ true) node (subst (λ w. IsAllowed b.kept w b.node) e allowed) in
    none_lived laws s first d ds b.kept ready (subst (λ k. Lived s (sessions s (told_in s ds)) k None (life_of s first ds)) (sym f.kept) l)
begun_lived laws s first d ds a b st f node allowed (Some wanted) e =
    let ready : allows wanted (node_told s (d ∷ ds)) ≡ true =
    subst (λ n. allows wanted n ≡ true) node (subst (λ w. IsAllowed b.kept w b.node) e allowed) in
    some_lived laws s first d ds b.kept wanted ready st.lived.careful (subst (MayHold s (on_disk s (life_of s first ds))) (sym f.kept) st.lived.holds)

-- what is wanted behind a deed, whichever it is but a record's saving
abbrev wanted_behind : Setup → Record → Deed → List Deed → Option Record
wanted_behind s first d ds = wanted_by (kept_after first ds) (wanted_after s first ds) (node_told s (d ∷ ds))

record Behind (s : Setup) (first : Record) (d : Deed) (ds : List Deed) (b : App) : Type 0 where
  kept : b.kept ≡ kept_after first ds
  wanted : b.wanted ≡ wanted_behind s first d ds
  allowed : IsAllowed b.kept b.wanted b.node
  lived : Lived s (sessions s (told_in s (d ∷ ds))) b.kept b.wanted (begins s (told_in s (d ∷ ds)) (wanted_behind s first d ds) ++ life_of s first ds)

behind : Laws → (s : Setup) (first : Record) (d : Deed) (ds : List Deed) (a b : App) → is_saved d ≡ false → IsStep a d b → b.node ≡ node_told s (d ∷ ds)
    → IsMoment (node_told s (d ∷ ds)).standing.asked.stamp → Stands s first ds a → Behind s first d ds b
behind laws s first d ds a b unsaved step node moment st = record {
  kept = f.kept ∙ st.kept;
  wanted = is_wanted;
  allowed = allowed;
  lived = subst (λ w. Lived s (sessions s (told_in s (d ∷ ds))) b.kept b.wanted (begins s (told_in s (d ∷ ds)) w ++ life_of s first ds)) is_wanted
      (begun_lived laws s first d ds a b st f node allowed b.wanted refl);
}
  where
    f : Further a b
    f = step_further d a b step unsaved st.allowed

    is_wanted : b.wanted ≡ wanted_behind s first d ds
    is_wanted =
        f.wanted ∙ ap (λ k. wanted_by k a.wanted b.node) st.kept ∙ ap (λ w. wanted_by (kept_after first ds) w b.node) st.wanted
        ∙ ap (wanted_by (kept_after first ds) (wanted_after s first ds)) node

    allowed : IsAllowed b.kept b.wanted b.node
    allowed =
        subst (λ k. IsAllowed k b.wanted b.node) (sym f.kept)
        (subst (λ w. IsAllowed a.kept w b.node) (sym f.wanted)
        (wanted_allows a.kept a.wanted b.node (subst (λ (n : NodeData). IsMoment n.standing.asked.stamp) (sym node) moment)))

stands_wrote : Laws → (s : Setup) (first : Record) (byte now : ℕ) (others : List ℕ) (ds : List Deed) (a b : App) → a.node ≡ node_told s ds
    → IsStep a (Wrote byte others now) b → Behind s first (Wrote byte others now) ds b → Stands s first ds a → Stands s first (Wrote byte others now ∷ ds) b
stands_wrote laws s first byte now others ds a b node (none, (c, step, e)) x st = record {
  kept = x.kept;
  wanted = x.wanted;
  allowed = x.allowed;
  lived = subst (λ (z : App). Lived s (sessions s (told_in s ds)) z.kept z.wanted (map Says (since_write s ds) ++ life_of s first ds)) (sym e)
      (subst (λ w. Lived s (sessions s (told_in s ds)) a.kept w (map Says (since_write s ds) ++ life_of s first ds)) (sym none)
      (wrote_lived laws s first ds a.kept
      (subst (λ n. allows a.kept n ≡ true) node (subst (λ w. IsAllowed a.kept w a.node) none st.allowed))
      (subst (λ w. Lived s (sessions s (told_in s ds)) a.kept w (life_of s first ds)) none st.lived)));
}

-- a deed that neither saves a record nor writes
abbrev is_quiet : Deed → Bool
is_quiet (Opened now out bytes sent) = true
is_quiet (Read piece now) = true
is_quiet (Heard packet now came) = true
is_quiet (Told input out sent) = true
is_quiet (deed.Asked now) = true
is_quiet (Wrote byte others now) = false
is_quiet (Saved saved) = false
is_quiet (GaveUp now) = true
is_quiet Stopped = true
is_quiet Handed = true
is_quiet (Over now) = true

stands_on : (s : Setup) (first : Record) (d : Deed) (ds : List Deed) (b : App) → is_quiet d ≡ true → Behind s first d ds b → Stands s first (d ∷ ds) b
stands_on s first (Opened now out bytes sent) ds b quiet x = record { kept = x.kept; wanted = x.wanted; allowed = x.allowed; lived = x.lived }
stands_on s first (Read piece now) ds b quiet x = record { kept = x.kept; wanted = x.wanted; allowed = x.allowed; lived = x.lived }
stands_on s first (Heard packet now came) ds b quiet x = record { kept = x.kept; wanted = x.wanted; allowed = x.allowed; lived = x.lived }
stands_on s first (Told input out sent) ds b quiet x = record { kept = x.kept; wanted = x.wanted; allowed = x.allowed; lived = x.lived }
stands_on s first (deed.Asked now) ds b quiet x = record { kept = x.kept; wanted = x.wanted; allowed = x.allowed; lived = x.lived }
stands_on s first (Wrote byte others now) ds b quiet x = absurd (true≢false (sym quiet))
stands_on s first (Saved saved) ds b quiet x = absurd (true≢false (sym quiet))
stands_on s first (GaveUp now) ds b quiet x = record { kept = x.kept; wanted = x.wanted; allowed = x.allowed; lived = x.lived }
stands_on s first Stopped ds b quiet x = record { kept = x.kept; wanted = x.wanted; allowed = x.allowed; lived = x.lived }
stands_on s first Handed ds b quiet x = record { kept = x.kept; wanted = x.wanted; allowed = x.allowed; lived = x.lived }
stands_on s first (Over now) ds b quiet x = record { kept = x.kept; wanted = x.wanted; allowed = x.allowed; lived = x.lived }

grown : Laws → (s : Setup) (login : Option LoginData) (first : Record) (spread : ℕ) → BeginsWith s first → (d : Deed) (ds : List Deed) (a b : App)
    → IsRun (fresh_app (node_of s []) login first spread) ds a → IsStep a d b → is_saved d ≡ false → Stands s first ds a → Behind s first d ds b
grown laws s login first spread begins d ds a b run step unsaved st =
    behind laws s first d ds a b unsaved step (laws.node s login first spread (d ∷ ds) b (a, run, step)) (moment_told laws s first begins (d ∷ ds)) st

pub stands : Laws → (s : Setup) (login : Option LoginData) (first : Record) (spread : ℕ) → BeginsWith s first → (ds : List Deed) (b : App)
    → IsRun (fresh_app (node_of s []) login first spread) ds b → Stands s first ds b
stands laws s login first spread begins [] b e = stands_first s login first spread b begins e
stands laws s login first spread begins (Opened now out bytes sent ∷ ds) b (a, run, step) =
    stands_on s first (Opened now out bytes sent) ds b refl (grown laws s login first spread begins (Opened now out bytes sent) ds a b run step refl (stands laws s login first spread begins ds a run))
stands laws s login first spread begins (Read piece now ∷ ds) b (a, run, step) =
    stands_on s first (Read piece now) ds b refl (grown laws s login first spread begins (Read piece now) ds a b run step refl (stands laws s login first spread begins ds a run))
stands laws s login first spread begins (Heard packet now came ∷ ds) b (a, run, step) =
    stands_on s first (Heard packet now came) ds b refl (grown laws s login first spread begins (Heard packet now came) ds a b run step refl (stands laws s login first spread begins ds a run))
stands laws s login first spread begins (Told input out sent ∷ ds) b (a, run, step) =
    stands_on s first (Told input out sent) ds b refl (grown laws s login first spread begins (Told input out sent) ds a b run step refl (stands laws s login first spread begins ds a run))
stands laws s login first spread begins (deed.Asked now ∷ ds) b (a, run, step) =
    stands_on s first (deed.Asked now) ds b refl (grown laws s login first spread begins (deed.Asked now) ds a b run step refl (stands laws s login first spread begins ds a run))
stands laws s login first spread begins (Wrote byte others now ∷ ds) b (a, run, step) =
    let st = stands laws s login first spread begins ds a run in
    stands_wrote laws s first byte now others ds a b (laws.node s login first spread ds a run) step
    (grown laws s login first spread begins (Wrote byte others now) ds a b run step refl st) st
stands laws s login first spread begins (Saved saved ∷ ds) b (a, run, step) =
    stands_saved laws s first ds saved a b (laws.node s login first spread ds a run) (stands laws s login first spread begins ds a run) step
stands laws s login first spread begins (GaveUp now ∷ ds) b (a, run, step) =
    stands_on s first (GaveUp now) ds b refl (grown laws s login first spread begins (GaveUp now) ds a b run step refl (stands laws s login first spread begins ds a run))
stands laws s login first spread begins (Stopped ∷ ds) b (a, run, step) =
    stands_on s first Stopped ds b refl (grown laws s login first spread begins Stopped ds a b run step refl (stands laws s login first spread begins ds a run))
stands laws s login first spread begins (Handed ∷ ds) b (a, run, step) =
    stands_on s first Handed ds b refl (grown laws s login first spread begins Handed ds a b run step refl (stands laws s login first spread begins ds a run))
stands laws s login first spread begins (Over now ∷ ds) b (a, run, step) =
    stands_on s first (Over now) ds b refl (grown laws s login first spread begins (Over now) ds a b run step refl (stands laws s login first spread begins ds a run))

-- the record that is wanted is the newest that the disk may hold
newest_holds : (s : Setup) (m : ℕ) (kept : Record) (wanted : Option Record) (disk : List Reserve) (k : Record) → wanted ≡ Some k → IsNewest s m kept wanted disk
    → MayHold s disk k
newest_holds s m kept wanted disk k e newest = by (subst (λ w. IsNewest s m kept w disk) e newest)
  where
    by : IsNewest s m kept (Some k) disk → MayHold s disk k
    by (r, rest, is, f) = record { reserve = r; among = subst (IsAmong r) (sym is) (inl refl); is = is_reserved s m k r f }

pub may_hold_wanted : (s : Setup) (first : Record) (ds : List Deed) (a : App) (k : Record) → Stands s first ds a → a.wanted ≡ Some k
    → MayHold s (on_disk s (life_of s first ds)) k
may_hold_wanted s first ds a k st e = newest_holds s (sessions s (told_in s ds)) a.kept a.wanted (on_disk s (life_of s first ds)) k e st.lived.newest
