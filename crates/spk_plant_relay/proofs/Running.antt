-- What is told of a node in a plant is relayed, so it is lawful.
use Rattle.std.proofs.Common.{◌≡◌, sym, subst, ℕ, zero, suc, ◌+◌, ◌-◌, ◌*◌, ◌<◌, ◌≤◌, Bool, true, false, cond, List, [], ◌∷◌, ◌++◌, length, arith}
use Rattle.std.specs.List.{AllByRecursion}
use Rattle.std.proofs.lemmas.List.{length-map}
use Rattle.spk_sequence.specs.Claims.{AllPublished}
use Rattle.spk_sequence.specs.HostRecord.{Input, MessageComes, DeathComes, TickComes}
use Rattle.spk_sequence.specs.NodeRecord as sequence
use Rattle.spk_sequence.specs.NodeRecord.{IsNodeRecord, RunsOn, Setting, session_at}
use Rattle.spk_host_node.specs.Inputs as node
use Rattle.spk_edge_rules.specs.Config.{Setup}
use Rattle.spk_edge_rules.specs.Messages.{Draft, opens}
use Rattle.spk_edge_rules.specs.Run.{Done, Message, births_in, opened, outline, posts, published}
use Rattle.spk_edge_rules.specs.Step.{is_open}
use Rattle.spk_tie.specs.Tie.{host_setting}
use Rattle.spk_plant_relay.specs.Given.{IsHeard}
use Rattle.spk_plant_relay.specs.Relayed.{AreRising, missing, past_newest, positions_in}
use Rattle.spk_plant_relay.specs.Shown.{IsFew}
use Rattle.spk_plant_relay.proofs.Heard.{IsTold}

-- ---- positions

all-published : (s : Setting) (is : List Input) → AreRising (positions_in is) → past_newest (positions_in is) ≤ length s.published → AllPublished s is
all-published s [] rising low = tt
all-published s (MessageComes p now ∷ is) rising low = let r = rising.0 in (omega (arith, low), all-published s is rising.1 (omega (arith, low, r)))
all-published s (DeathComes session now ∷ is) rising low = (tt, all-published s is rising low)
all-published s (TickComes now ∷ is) rising low = (tt, all-published s is rising low)

-- ---- sessions

abbrev AreEarly : List Message → Type 0
AreEarly ms = AllByRecursion (λ (m : Message). m.session < 256) ms

early-append : (xs ys : List Message) → AreEarly xs → AreEarly ys → AreEarly (xs ++ ys)
early-append [] ys x y = y
early-append (m ∷ xs) ys x y = (x.0, early-append xs ys x.1 y)

early-posts : (session births : ℕ) (drafts : List Draft) → session < 256 → AreEarly (posts session births drafts)
early-posts session births [] low = tt
early-posts session births (d ∷ ds) low = (low, early-posts session (cond (opens d) (births + 1) births) ds low)

early-of : (h : List Done) → opened h ≤ 256 → AreEarly (published h)
early-of [] low = tt
early-of (e ∷ h) low =
    let before = fewer (is_open e.input.act) (opened h) low in
    early-append (published h) (posts (opened h - 1) (births_in (published h)) e.given.drafts) (early-of h before) (early-posts (opened h - 1) (births_in (published h)) e.given.drafts (omega (arith, before)))
  where
    fewer : (b : Bool) (n : ℕ) → cond b (n + 1) n ≤ 256 → n ≤ 256
    fewer true n low = omega (arith, low)
    fewer false n low = low

early-at : (ms : List Message) (p : ℕ) → AreEarly ms → session_at (outline ms) p < 256
early-at [] p all = omega arith
early-at (m ∷ ms) zero all = all.0
early-at (m ∷ ms) (suc p) all = early-at ms p all.1

-- ---- all of it

pub heard-is : (s : Setup) (h : List Done) (wait width : ℕ) (ps : List ℕ) (js : List node.Input) → 0 < width → width ≤ 96 → s.config.numbering ≡ RunsOn → IsNodeRecord (outline (published h)) → opened h ≤ 256 →
    IsFew (256 - 2 * width) (length (published h)) ps → IsTold s (published h) ps js → IsHeard s (published h) wait width ps js
heard-is s h wait width ps js some most on record_is sessions few told =
    let size = length-map (published h) (λ (m : Message). sequence-message m) in
    let within = few.within in
    record {
      inputs = told.inputs;
      read = told.read;
      relayed = record {
        node = record_is;
        some_places = some;
        few_places = most;
        runs_on = on;
        published = all-published (host_setting s (published h) wait width) told.inputs rising (subst (λ (xs : List ℕ). past_newest xs ≤ length (outline (published h))) (sym told.shown) (omega (arith, size, within)));
        rising = rising;
        few = subst (λ (xs : List ℕ). missing xs < 256 - 2 * width) (sym told.shown) (let m = few.few in omega (arith, m, most));
        sessions = λ p low. early-at (published h) p (early-of h sessions);
        deaths = told.deaths;
      };
      shown = told.shown;
    }
  where
    sequence-message : Message → sequence.Message
    sequence-message m = record { birth = m.birth; session = m.session; stamp = m.draft.stamp }

    rising : AreRising (positions_in told.inputs)
    rising = subst AreRising (sym told.shown) few.rising
