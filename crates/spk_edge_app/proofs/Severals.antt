-- Several changes that are told to a node that isn't Born: each is told by itself.
use Rattle.std.proofs.Common.{◌≡◌, ◌∙◌, inl, ℕ, Bool, true, false, ◌&&◌, cond, List, [], ◌∷◌, ◌++◌, map, Option, Some, None, Ok, refl, sym, ap, subst}
use Rattle.std.specs.Prelude.{◌==◌}
use Rattle.std.specs.List.{flat_map}
use Rattle.std.proofs.lemmas.List.{append-nil}
use Rattle.spk_payload.specs.Typing.{Typed}
use Rattle.spk_packets.specs.Message as packets
use Rattle.spk_packets.specs.Spelling.{spelling}
use Rattle.spk_connection.specs.Data.{Connection}
use Rattle.spk_connection.specs.Step.{after_sent}
use Rattle.spk_record.specs.Covers.{reserved}
use Rattle.spk_record.specs.declared.record.Record.{Record}
use Rattle.spk_edge_rules.specs.Answers.{Answer}
use Rattle.spk_edge_rules.specs.Messages.{Draft}
use Rattle.spk_edge_rules.specs.Rules.{is_born}
use Rattle.spk_edge_rules.specs.Several.{single}
use Rattle.spk_edge_rules.specs.Step.{answer_at, stamp_after, stepped}
use Rattle.spk_edge.specs.Sealing.{AreWhole, bytes_of, numbered}
use Rattle.spk_edge.specs.Several as several
use Rattle.spk_edge.specs.Several.{AreDone}
use Rattle.spk_edge.specs.View.{NodeData, unnumbered, write_view}
use Rattle.spk_edge.specs.declared.message.Out.{Out}
use Rattle.spk_edge.specs.declared.message.Write.{Write}
use Rattle.spk_edge_app.specs.Calls.{AreTold, IsTold, IsToldAll}
use Rattle.spk_edge_app.specs.Data.{App}
use Rattle.spk_edge_app.specs.Step.{MaySend, bytes_in, is_up_to, noted, sending, stamp_used, told, wanted_by}

-- ---- the record that is wanted

abbrev covers : Record → ℕ → Option ℕ → Bool
covers r bd stamp = (r.bd == bd) && is_up_to stamp r.stamp

abbrev record_for : ℕ → Option ℕ → Record
record_for bd stamp = record (reserved 0 (stamp_used stamp)) { bd = bd }

abbrev wanted_for : Record → Option Record → ℕ → Option ℕ → Option Record
wanted_for kept None bd stamp = cond (covers kept bd stamp) None (Some (record_for bd stamp))
wanted_for kept (Some wanted) bd stamp = cond (covers wanted bd stamp) (Some wanted) (Some (record_for bd stamp))

is-for : (kept : Record) (wanted : Option Record) (n : NodeData) → wanted_by kept wanted n ≡ wanted_for kept wanted n.standing.asked.bd n.standing.asked.stamp
is-for kept None n = refl
is-for kept (Some wanted) n = refl

both : (b : Bool) (r : Record) → (let o : Option Record = cond b (Some r) (Some r) in o) ≡ Some r
both true r = refl
both false r = refl

twice : (kept : Record) (wanted : Option Record) (bd : ℕ) (stamp : Option ℕ) → wanted_for kept (wanted_for kept wanted bd stamp) bd stamp ≡ wanted_for kept wanted bd stamp
twice kept None bd stamp = by (covers kept bd stamp) refl
  where
    by : (b : Bool) → covers kept bd stamp ≡ b
        → wanted_for kept (cond b None (Some (record_for bd stamp))) bd stamp ≡ cond b None (Some (record_for bd stamp))
    by true e = ap (λ b. let o : Option Record = cond b None (Some (record_for bd stamp)) in o) e
    by false e = both (covers (record_for bd stamp) bd stamp) (record_for bd stamp)
twice kept (Some w) bd stamp = by (covers w bd stamp) refl
  where
    by : (b : Bool) → covers w bd stamp ≡ b
        → wanted_for kept (cond b (Some w) (Some (record_for bd stamp))) bd stamp ≡ cond b (Some w) (Some (record_for bd stamp))
    by true e = ap (λ b. let o : Option Record = cond b (Some w) (Some (record_for bd stamp)) in o) e
    by false e = both (covers (record_for bd stamp) bd stamp) (record_for bd stamp)

wanted-twice : (kept : Record) (wanted : Option Record) (n m : NodeData) → m.standing.asked.bd ≡ n.standing.asked.bd → m.standing.asked.stamp ≡ n.standing.asked.stamp
    → wanted_by kept (wanted_by kept wanted n) m ≡ wanted_by kept wanted m
wanted-twice kept wanted n m bd stamp =
    is-for kept (wanted_by kept wanted n) m
    ∙ ap (λ w. wanted_for kept w m.standing.asked.bd m.standing.asked.stamp) (is-for kept wanted n)
    ∙ ap (λ b. wanted_for kept (wanted_for kept wanted b n.standing.asked.stamp) m.standing.asked.bd m.standing.asked.stamp) (sym bd)
    ∙ ap (λ s. wanted_for kept (wanted_for kept wanted m.standing.asked.bd s) m.standing.asked.bd m.standing.asked.stamp) (sym stamp)
    ∙ twice kept wanted m.standing.asked.bd m.standing.asked.stamp
    ∙ sym (is-for kept wanted m)

-- ---- a node that answered nothing

abbrev pub behind : NodeData → App → App
behind n a = record a { node = n; wanted = wanted_by a.kept a.wanted n; connection = after_sent a.connection [] }

pub silent-told : (n : NodeData) (out : Out) (now : ℕ) (a : App) → out.packets.items ≡ [] → out.writes.items ≡ [] → out.close ≡ false
    → sending true (flat_map bytes_of out.packets.items) out.close now (told n out a) ≡ behind n a
silent-told n out now a packets writes close =
    ap (λ bytes. sending true bytes out.close now (told n out a)) (ap (flat_map bytes_of) packets)
    ∙ ap (λ c. sending true [] c now (told n out a)) close
    ∙ ap (λ (ws : List Write). sending true [] false now (noted ws (record a { node = n }))) writes

behind-twice : (n m : NodeData) (a : App) → m.standing.asked.bd ≡ n.standing.asked.bd → m.standing.asked.stamp ≡ n.standing.asked.stamp → behind m (behind n a) ≡ behind m a
behind-twice n m a bd stamp =
    ap (λ w. record a { node = m; wanted = w; connection = after_sent (after_sent a.connection []) [] }) (wanted-twice a.kept a.wanted n m bd stamp)
    ∙ ap (λ (u : List ℕ). record a { node = m; wanted = wanted_by a.kept a.wanted m; connection = record a.connection { unwritten = u } }) (append-nil (a.connection.unwritten ++ []))

same-counts : (n : NodeData) (now : ℕ) (xs : List (ℕ × Option Typed)) (after : NodeData) → AreDone n now xs after
    → (after.standing.asked.bd ≡ n.standing.asked.bd) × (after.standing.asked.stamp ≡ n.standing.asked.stamp)
same-counts n now [] after is = (ap (λ (n : NodeData). n.standing.asked.bd) is, ap (λ (n : NodeData). n.standing.asked.stamp) is)
same-counts n now (x ∷ xs) after (answer, answered, silence, rest) =
    let more = same-counts (record n { standing = stepped n.config n.standing (single now x) answer.given }) now xs after rest in
    (more.0, more.1 ∙ ap (stamp_after n.standing.asked.stamp) silence.drafts)

-- the first of them alone
first-told : (a : App) (now : ℕ) (x : ℕ × Option Typed) (out : Out) (answer : Answer)
    → answer_at a.node.config a.node.standing (single now x) ≡ Ok answer → several.IsSilence answer → out.packets.items ≡ [] → out.writes.items ≡ [] → out.close ≡ false
    → IsTold a (single now x) (behind (record a.node { standing = stepped a.node.config a.node.standing (single now x) answer.given }) a)
first-told a now x out answer answered silence packets writes close =
    let n = a.node in
    let next : NodeData = record n { standing = stepped n.config n.standing (single now x) answer.given } in
    record {
      out = out;
      sent = true;
      step = (
        refl,
        inl (ap (flat_map bytes_of) packets),
        record {
          node = next;
          done = record {
            answer = answer;
            answered = answered;
            packets = ap (map bytes_of) packets ∙ ap (map spelling) (sym silence.packets);
            writes = ap (map write_view) writes ∙ sym silence.writes;
            close = close ∙ sym silence.close;
            whole = subst (λ (ds : List Draft). AreWhole (numbered n.config.numbering n.standing.seq (map (unnumbered n.config) ds))) (sym silence.drafts) tt;
            stands = refl;
          };
          is = sym (silent-told next out now a packets writes close);
        },
      );
    }

pub each-told : (a : App) (now : ℕ) (x : ℕ × Option Typed) (xs : List (ℕ × Option Typed)) (after : NodeData) (out : Out) (b : App) → AreDone a.node now (x ∷ xs) after
    → out.packets.items ≡ [] → out.writes.items ≡ [] → out.close ≡ false → b ≡ behind after a → AreTold a now (x ∷ xs) b
each-told a now x [] after out b (answer, answered, silence, rest) packets writes close is = (
  behind (record a.node { standing = stepped a.node.config a.node.standing (single now x) answer.given }) a,
  first-told a now x out answer answered silence packets writes close,
  is ∙ ap (λ n. behind n a) rest,
)
each-told a now x (y ∷ ys) after out b (answer, answered, silence, rest) packets writes close is =
    let next : NodeData = record a.node { standing = stepped a.node.config a.node.standing (single now x) answer.given } in
    let counts = same-counts next now (y ∷ ys) after rest in (
      behind next a,
      first-told a now x out answer answered silence packets writes close,
      each-told (behind next a) now y ys after out b rest packets writes close (is ∙ sym (behind-twice next after a counts.0 counts.1)),
    )

-- ---- all of them

behind-by : (sent : Bool) (a : App) (n : NodeData) (out : Out) (now : ℕ) (b : App) → MaySend sent out (bytes_in out) a.connection
    → out.packets.items ≡ [] → out.writes.items ≡ [] → out.close ≡ false → b ≡ sending sent (bytes_in out) out.close now (told n out a) → b ≡ behind n a
behind-by true a n out now b may packets writes close is = is ∙ silent-told n out now a packets writes close
behind-by false a n out now b may packets writes close is = absurd (may packets)

told-each : (a : App) (n : NodeData) (now : ℕ) (xs : List (ℕ × Option Typed)) (out : Out) (b : App) → AreDone a.node now xs n
    → out.packets.items ≡ [] → out.writes.items ≡ [] → out.close ≡ false → b ≡ behind n a → (xs ≡ [] → ⊥) → AreTold a now xs b
told-each a n now [] out b done packets writes close is some = absurd (some refl)
told-each a n now (x ∷ xs) out b done packets writes close is some = each-told a now x xs n out b done packets writes close is

still : (m n : NodeData) (now : ℕ) (xs : List (ℕ × Option Typed)) → xs ≡ [] → AreDone m now xs n → is_born m.standing.asked.phase ≡ false
    → is_born n.standing.asked.phase ≡ false
still m n now [] none done waits = ap (λ (k : NodeData). is_born k.standing.asked.phase) done ∙ waits
still m n now (x ∷ xs) none done waits = absurd cc

pub all-told : (a c : App) (n : NodeData) (now : ℕ) (xs : List (ℕ × Option Typed)) (out : Out) (b : App) → a ≡ c → several.IsTold a.node now xs n out
    → (is_born n.standing.asked.phase ≡ false → xs ≡ [] → ⊥)
    → (sent : Bool) × MaySend sent out (bytes_in out) a.connection × (b ≡ sending sent (bytes_in out) out.close now (told n out a)) → IsToldAll c now xs b
all-told a c n now xs out b same done some (sent, may, is) = subst (λ x. IsToldAll x now xs b) same (record {
  born = λ born. record { out = out; sent = sent; step = (refl, may, record { node = n; done = done.born born; is = is }) };
  each = λ waits. told-each a n now xs out b (done.each waits) (done.silent waits) done.writes done.close
      (behind-by sent a n out now b may (done.silent waits) done.writes done.close is) (λ none. some (still a.node n now xs none (done.each waits) waits) none);
})
