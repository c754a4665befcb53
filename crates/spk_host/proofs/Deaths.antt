-- What is told of an NDEATH, and how its node stands behind it.
use Rattle.std.proofs.Common.{◌≡◌, ◌∙◌, sym, ap, refl, ℕ, Bool, true, false, cond, List, Option, Some}
use Rattle.spk_sequence.specs.Data.{Standing}
use Rattle.spk_sequence.specs.Step as sequence
use Rattle.spk_sequence.specs.Step.{is_live, match_of}
use Rattle.spk_sequence.specs.declared.answer.Match.{Match}
use Rattle.spk_sequence.specs.declared.answer.Match.TheVariants.{Matched, Ignored}
use Rattle.spk_sequence.specs.declared.phase.Phase.TheVariants.{Live, Dead}
use Rattle.spk_reading.specs.Data.{Published, Death}
use Rattle.spk_host_node.specs.Data.{NodeData, fresh_node}
use Rattle.spk_host_node.specs.Step as node
use Rattle.spk_host.specs.Data.{HostData}
use Rattle.spk_host.specs.Step.{after_packet, standing_of}
use Rattle.spk_host.proofs.Fresh.{fresh_death}
use Rattle.spk_host.proofs.Kept.{changed_same}

-- its node alone is told
behind : (h : HostData) (ack : Option ℕ) (group name : List ℕ) (bd now : ℕ) →
    standing_of (after_packet h (Published ack (Death group name bd)) now) group name ≡ sequence.death (standing_of h group name) bd
behind h ack group name bd now =
    let wait = h.session.config.wait in
    let width = h.session.config.width in
    ap (λ (n : NodeData). n.order.standing)
    (changed_same (fresh_node wait width) (λ n. node.death n bd) h.nodes group name (fresh_death wait width bd))

by_matched : (s : Standing) (b : Bool) → Some (cond b Matched Ignored) ≡ Some Matched → (cond b (sequence.after_stop s Dead) s).phase ≡ Dead
by_matched s true h = refl
by_matched s false h = absurd cc

by_ignored : (s : Standing) (b : Bool) → Some (cond b Matched Ignored) ≡ Some Ignored → cond b (sequence.after_stop s Dead) s ≡ s
by_ignored s true h = absurd cc
by_ignored s false h = refl

abbrev told_by : Standing → Option Match
told_by after = Some (cond (is_live after.phase) Ignored Matched)

by_followed : (s : Standing) (b : Bool) → s.phase ≡ Live → Some (cond b Matched Ignored) ≡ told_by (cond b (sequence.after_stop s Dead) s)
by_followed s true live = refl
by_followed s false live = sym (ap (λ p. Some (cond (is_live p) Ignored Matched)) live)

pub matched : (h : HostData) (ack : Option ℕ) (group name : List ℕ) (bd now : ℕ) →
    Some (match_of (standing_of h group name) bd) ≡ Some Matched →
    (standing_of (after_packet h (Published ack (Death group name bd)) now) group name).phase ≡ Dead
matched h ack group name bd now is =
    let s = standing_of h group name in
    ap (λ (x : Standing). x.phase) (behind h ack group name bd now) ∙ by_matched s (sequence.is_match s bd) is

pub ignored : (h : HostData) (ack : Option ℕ) (group name : List ℕ) (bd now : ℕ) →
    Some (match_of (standing_of h group name) bd) ≡ Some Ignored →
    standing_of (after_packet h (Published ack (Death group name bd)) now) group name ≡ standing_of h group name
ignored h ack group name bd now is =
    let s = standing_of h group name in
    behind h ack group name bd now ∙ by_ignored s (sequence.is_match s bd) is

pub followed : (h : HostData) (ack : Option ℕ) (group name : List ℕ) (bd now : ℕ) → (standing_of h group name).phase ≡ Live →
    Some (match_of (standing_of h group name) bd) ≡ told_by (standing_of (after_packet h (Published ack (Death group name bd)) now) group name)
followed h ack group name bd now live =
    let s = standing_of h group name in
    by_followed s (sequence.is_match s bd) live ∙ sym (ap told_by (behind h ack group name bd now))
