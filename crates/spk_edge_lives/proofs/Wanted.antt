-- Which record is wanted: one that covers what the node did, where the one on the disk doesn't.
use Rattle.std.proofs.Common.{◌≡◌, ◌∙◌, ℕ, ◌+◌, ◌-◌, ◌^◌, ◌<◌, ◌≤◌, Bool, true, false, ◌&&◌, List, [], ◌∷◌, Option, Some, None, refl, sym, ap, subst, min, nat_le, true≢false, arith, if◌then◌else◌}
use Rattle.std.proofs.lemmas.Bool.{eq-eqb, le-leb}
use Rattle.spk_edge.specs.Patch.{after_cut}
use Rattle.spk_edge.specs.View.{NodeData}
use Rattle.spk_edge.specs.declared.message.Out.{Out}
use Rattle.spk_edge_rules.specs.Inputs.{Input}
use Rattle.spk_record.specs.Covers.{ahead}
use Rattle.spk_record.specs.declared.record.Record.{Record}
use Rattle.spk_edge_app.specs.Data.{App, Coming, Answered, Refused, Dropped, Deed, Opened, Read, Heard, Told, Asked, Wrote, Saved, GaveUp, Stopped, Handed, Over}
use Rattle.spk_edge_app.specs.Run.{is_saved}
use Rattle.spk_edge_app.specs.Step.{Comes, IsStep, Tells, acknowledged, allows, connected, is_up_to, needed, sending, stamp_used, told, wanted_by, with_connection}

-- a stamp that is a moment
abbrev pub IsMoment : Option ℕ → Type 0
IsMoment None = Unit {0}
IsMoment (Some stamp) = stamp < 2 ^ 63

-- the record that is to be on the disk allows what the node did
abbrev pub IsAllowed : Record → Option Record → NodeData → Type 0
IsAllowed kept None n = allows kept n ≡ true
IsAllowed kept (Some wanted) n = allows wanted n ≡ true

-- ---- the record that is reserved allows it

ahead_of : (used end : ℕ) → used < end → used ≤ min (used + ahead) (end - 1)
ahead_of used end below = omega arith

both_true : (x y : Bool) → x ≡ true → y ≡ true → (x && y) ≡ true
both_true true y a b = b
both_true false y a b = absurd (true≢false (sym a))

up_to_reserved : (stamp : Option ℕ) → IsMoment stamp → is_up_to stamp (min (stamp_used stamp + ahead) (2 ^ 63 - 1)) ≡ true
up_to_reserved None is = refl
up_to_reserved (Some used) is = le-leb used (min (used + ahead) (2 ^ 63 - 1)) (ahead_of used (2 ^ 63) is)

needed_allows : (n : NodeData) → IsMoment n.standing.asked.stamp → allows (needed n) n ≡ true
needed_allows n is =
    both_true _ _ (eq-eqb n.standing.asked.bd n.standing.asked.bd refl) (up_to_reserved n.standing.asked.stamp is)

by_test : (kept : Record) (n : NodeData) (b : Bool) → allows kept n ≡ b → allows (needed n) n ≡ true → IsAllowed kept (if b then None else Some (needed n)) n
by_test kept n true e ready = e
by_test kept n false e ready = ready

by_wanted : (kept wanted : Record) (n : NodeData) (b : Bool) → allows wanted n ≡ b → allows (needed n) n ≡ true
    → IsAllowed kept (if b then Some wanted else Some (needed n)) n
by_wanted kept wanted n true e ready = e
by_wanted kept wanted n false e ready = ready

pub wanted_allows : (kept : Record) (wanted : Option Record) (n : NodeData) → IsMoment n.standing.asked.stamp → IsAllowed kept (wanted_by kept wanted n) n
wanted_allows kept None n is = by_test kept n (allows kept n) refl (needed_allows n is)
wanted_allows kept (Some wanted) n is = by_wanted kept wanted n (allows wanted n) refl (needed_allows n is)

-- ---- where it is allowed already, what is wanted stays

pub wanted_again : (kept : Record) (wanted : Option Record) (n : NodeData) → IsAllowed kept wanted n → wanted_by kept wanted n ≡ wanted
wanted_again kept None n is = ap (λ (b : Bool). let o : Option Record = if b then None else Some (needed n) in o) is
wanted_again kept (Some wanted) n is = ap (λ (b : Bool). let o : Option Record = if b then Some wanted else Some (needed n) in o) is

-- and where one is wanted, something goes on being wanted
pub none_before : (kept : Record) (wanted : Option Record) (n : NodeData) → wanted_by kept wanted n ≡ None → wanted ≡ None
none_before kept None n e = refl
none_before kept (Some wanted) n e = absurd (by (allows wanted n) e)
  where
    by : (b : Bool) → (if b then Some wanted else Some (needed n)) ≡ None → ⊥
    by true e = cc
    by false e = cc

-- a cut changes neither bdSeq nor stamp
wanted_cut : (kept : Record) (wanted : Option Record) (n : NodeData) → wanted_by kept wanted (after_cut n) ≡ wanted_by kept wanted n
wanted_cut kept None n = refl
wanted_cut kept (Some wanted) n = refl

-- ---- what a deed but a record's saving leaves wanted

pub record Further (a b : App) : Type 0 where
  pub kept : b.kept ≡ a.kept
  pub wanted : b.wanted ≡ wanted_by a.kept a.wanted b.node

abbrev IsAllowedIn : App → Type 0
IsAllowedIn a = IsAllowed a.kept a.wanted a.node

sent_further : (sent : Bool) (bytes : List ℕ) (close : Bool) (now : ℕ) (n : NodeData) (out : Out) (a : App) → Further a (sending sent bytes close now (told n out a))
sent_further true bytes true now n out a = record { kept = refl; wanted = refl }
sent_further true bytes false now n out a = record { kept = refl; wanted = refl }
sent_further false bytes close now n out a = record { kept = refl; wanted = sym (wanted_cut a.kept a.wanted n) }

tells_further : (a : App) (i : Input) (out : Out) (bytes : List ℕ) (sent : Bool) (b : App) → Tells a i out bytes sent b → Further a b
tells_further a i out bytes sent b t = subst (Further a) (sym t.is) (sent_further sent bytes out.close i.now t.node out a)

-- the node is as it was
same_further : (a b : App) → IsAllowedIn a → b.kept ≡ a.kept → b.wanted ≡ a.wanted → b.node ≡ a.node → Further a b
same_further a b is kept wanted node = record {
  kept = kept;
  wanted = wanted ∙ sym (wanted_again a.kept a.wanted a.node is) ∙ ap (wanted_by a.kept a.wanted) (sym node);
}

-- its connection is gone
cut_further : (a b : App) → IsAllowedIn a → b.kept ≡ a.kept → b.wanted ≡ a.wanted → b.node ≡ after_cut a.node → Further a b
cut_further a b is kept wanted node = record {
  kept = kept;
  wanted = wanted ∙ sym (wanted_again a.kept a.wanted a.node is) ∙ sym (wanted_cut a.kept a.wanted a.node) ∙ ap (wanted_by a.kept a.wanted) (sym node);
}

acknowledged_further : (ack : Option ℕ) (a : App) → IsAllowedIn a → Further a (acknowledged ack a)
acknowledged_further None a is = same_further a (acknowledged None a) is refl refl refl
acknowledged_further (Some id) a is = same_further a (acknowledged (Some id) a) is refl refl refl

come_further : (i : Input) (came : Coming) (a b : App) → Comes i came a b → IsAllowedIn a → Further a b
come_further i (Answered out sent) a b (may, t) is = tells_further a i out _ sent b t
come_further i (Refused fault) a b (wrong, may, e) is = subst (Further a) (sym e) (acknowledged_further i.ack a is)
come_further i Dropped a b e is = cut_further a b is (ap (λ x. x.kept) e) (ap (λ x. x.wanted) e) (ap (λ x. x.node) e)

-- what a connection is doesn't matter
opened_further : (now : ℕ) (a b : App) → Further (connected now a) b → Further a b
opened_further now a b f = record { kept = f.kept; wanted = f.wanted }

heard_further : (a b : App) (x : App) → x.kept ≡ a.kept → x.wanted ≡ a.wanted → Further x b → Further a b
heard_further a b x kept wanted f = record {
  kept = f.kept ∙ kept;
  wanted = f.wanted ∙ ap (λ k. wanted_by k x.wanted b.node) kept ∙ ap (λ w. wanted_by a.kept w b.node) wanted;
}

pub step_further : (d : Deed) (a b : App) → IsStep a d b → is_saved d ≡ false → IsAllowedIn a → Further a b
step_further (Opened now out bytes sent) a b (off, going, says, t) unsaved is = opened_further now a b (tells_further (connected now a) _ out bytes sent b t)
step_further (Read piece now) a b (on, going, e) unsaved is = same_further a b is (ap (λ x. x.kept) e) (ap (λ x. x.wanted) e) (ap (λ x. x.node) e)
step_further (Heard packet now came) a b (c, taken, h) unsaved is = heard_further a b (with_connection c a) refl refl (come_further _ came (with_connection c a) b h.came_of is)
step_further (Told i out sent) a b (own, may, t) unsaved is = tells_further a i out _ sent b t
step_further (Asked now) a b (on, e) unsaved is = same_further a b is (ap (λ x. x.kept) e) (ap (λ x. x.wanted) e) (ap (λ x. x.node) e)
step_further (Wrote first others now) a b (none, (c, step, e)) unsaved is = same_further a b is (ap (λ x. x.kept) e) (ap (λ x. x.wanted) e) (ap (λ x. x.node) e)
step_further (Saved saved) a b (was, e) unsaved is = absurd (true≢false unsaved)
step_further (GaveUp now) a b e unsaved is = cut_further a b is (ap (λ x. x.kept) e) (ap (λ x. x.wanted) e) (ap (λ x. x.node) e)
step_further Stopped a b e unsaved is = same_further a b is (ap (λ x. x.kept) e) (ap (λ x. x.wanted) e) (ap (λ x. x.node) e)
step_further Handed a b e unsaved is = same_further a b is (ap (λ x. x.kept) e) (ap (λ x. x.wanted) e) (ap (λ x. x.node) e)
step_further (Over now) a b e unsaved is = cut_further a b is (ap (λ x. x.kept) e) (ap (λ x. x.wanted) e) (ap (λ x. x.node) e)
