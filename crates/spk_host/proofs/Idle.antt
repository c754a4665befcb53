-- Nodes that have no gap yet, and what is kept beside the nodes.
use Rattle.std.proofs.Common.{◌≡◌, ◌⊎◌, inl, inr, ◌∙◌, sym, ap, refl, subst, ℕ, zero, suc, false, List, [], ◌∷◌, ◌++◌, map, length, set, take, drop, get_or, Some, arith}
use Rattle.std.specs.Prelude.{◌+◌, ◌<◌, ◌&&◌, min, slice_get, if◌then◌else◌, None}
use Rattle.spk_sequence.specs.declared.answer.Step.{Step}
use Rattle.spk_sequence.specs.declared.answer.Step.TheVariants as step
use Rattle.spk_host_rules.specs.Data.{Gap}
use Rattle.spk_host_rules.specs.Step as rules
use Rattle.spk_host_node.specs.Data.{NodeData}
use Rattle.spk_sequence.specs.Step.{is_over}
use Rattle.spk_host_node.specs.Step.{tick}
use Rattle.spk_host.specs.Data.{Entry, OutData}
use Rattle.spk_host.specs.Idle.{AreStillUntil, IsInOrder, IsStillUntil}
use Rattle.spk_host.specs.Index.{IndexData, IsIndexed, names_of}
use Rattle.spk_host.specs.Step.{gap_places, gaps_at, requests_at, requests_to, spelled, tick_entry, tick_out, topics_at, topics_to}
use Rattle.spk_topics.specs.Spark.{Named}
use Rattle.spk_packets.specs.Message.{Message}
use Rattle.spk_host.proofs.GapPlaces.{no-gap-places}
use Rattle.spk_host.proofs.Indexed.{indexed-lent, indexed-set, lent-all}
use Rattle.spk_host.proofs.Mapped.{same-some}

none≢some : {X : Type 0} {x : X} → None ≡ Some x → ⊥
none≢some h = cc

-- at a moment none has a gap, or changes
abbrev AreStillAt : ℕ → List Entry → Type 0
AreStillAt now nodes = (k : ℕ) (e : Entry) → slice_get nodes k ≡ Some e → (is_over e.kept.order.standing now ≡ false) × (tick e.kept now ≡ e.kept)

rest_still : (now : ℕ) (e : Entry) (nodes : List Entry) → AreStillAt now (e ∷ nodes) → AreStillAt now nodes
rest_still now e nodes still k x at = still (suc k) x at

no_gaps : (now : ℕ) (nodes : List Entry) → AreStillAt now nodes → gaps_at now nodes ≡ []
no_gaps now [] idle = refl
no_gaps now (e ∷ nodes) idle =
    ap (λ b. (if b then step.Gap ∷ [] else []) ++ gaps_at now nodes) (idle 0 e refl).0 ∙ no_gaps now nodes (rest_still now e nodes idle)

no_topics : (now : ℕ) (nodes : List Entry) → AreStillAt now nodes → topics_at now nodes ≡ []
no_topics now [] idle = refl
no_topics now (e ∷ nodes) idle =
    ap (λ b. (if b && rules.asks e.kept.order.standing.wait e.kept.watch (Gap now) then topics_to e.group e.node 1 else []) ++ topics_at now nodes) (idle 0 e refl).0
    ∙ no_topics now nodes (rest_still now e nodes idle)

no_requests : (now : ℕ) (nodes : List Entry) → AreStillAt now nodes → requests_at now nodes ≡ []
no_requests now [] idle = refl
no_requests now (e ∷ nodes) idle =
    ap (λ b. (if b && rules.asks e.kept.order.standing.wait e.kept.watch (Gap now) then requests_to e.group e.node now 1 else []) ++ requests_at now nodes) (idle 0 e refl).0
    ∙ no_requests now nodes (rest_still now e nodes idle)

out_of : List Step → List ℕ → List Named → List Message → OutData
out_of steps gaps rebirths packets = record { consumed = []; steps = steps; gaps = gaps; death = None; rebirths = rebirths; packets = spelled packets }

-- a moment hands out what it does without a node
pub still_out : (nodes : List Entry) (now due : ℕ) → now < due → AreStillUntil due nodes → tick_out [] now ≡ tick_out nodes now
unfolding out_of
still_out nodes now due low still =
    let idle : AreStillAt now nodes = λ k e at. still k e at now low in
    let all : out_of (gaps_at now nodes) (gap_places now nodes) (topics_at now nodes) (requests_at now nodes) ≡ out_of [] [] [] [] =
    ap (λ s. out_of s (gap_places now nodes) (topics_at now nodes) (requests_at now nodes)) (no_gaps now nodes idle)
    ∙ ap (λ g. out_of [] g (topics_at now nodes) (requests_at now nodes)) (no-gap-places now nodes (λ k e at. (idle k e at).0))
    ∙ ap (λ t. out_of [] [] t (requests_at now nodes)) (no_topics now nodes idle)
    ∙ ap (out_of [] [] []) (no_requests now nodes idle) in
    sym all

entry_with : Entry → NodeData → Entry
entry_with e kept = record e { kept = kept }

-- and leaves them as they are
ticked : (nodes : List Entry) (now : ℕ) → AreStillAt now nodes → nodes ≡ map (tick_entry now) nodes
unfolding entry_with
ticked [] now idle = refl
ticked (e ∷ nodes) now idle =
    ap (λ l. e ∷ l) (ticked nodes now (rest_still now e nodes idle))
    ∙ ap (λ k. entry_with e k ∷ map (tick_entry now) nodes) (sym (idle 0 e refl).1)

pub still_ticked : (nodes : List Entry) (now due : ℕ) → now < due → AreStillUntil due nodes → nodes ≡ map (tick_entry now) nodes
still_ticked nodes now due low still = ticked nodes now (λ k e at. still k e at now low)

-- ---- what is kept beside the nodes

set-seen : {X : Type 0} (xs : List X) (n : ℕ) (y : X) (m : ℕ) (x : X) → slice_get (set xs n y) m ≡ Some x → (x ≡ y) ⊎ (slice_get xs m ≡ Some x)
set-seen [] n y m x h = absurd (none≢some h)
set-seen (z ∷ xs) zero y zero x h = inl (sym (same-some h))
set-seen (z ∷ xs) zero y (suc m) x h = inr h
set-seen (z ∷ xs) (suc n) y zero x h = inr h
set-seen (z ∷ xs) (suc n) y (suc m) x h = set-seen xs n y m x h

-- a node changed, and keeps its names
pub order-set : (entries : List Entry) (index : IndexData) (k : ℕ) (new old : Entry) (before own after : ℕ) → IsInOrder entries index before
    → old ≡ get_or entries k old → names_of new ≡ names_of old → IsStillUntil own new.kept → after ≡ min before own
    → IsInOrder (set entries k new) index after
order-set entries index k new old before own after so at same mine least = record {
  indexed = indexed-set entries index k new old so.indexed at same;
  still = λ j e seen now low. by j e now low (set-seen entries k new j e seen);
}
  where
    by : (j : ℕ) (e : Entry) (now : ℕ) → now < after → (e ≡ new) ⊎ (slice_get entries j ≡ Some e) → (is_over e.kept.order.standing now ≡ false) × (tick e.kept now ≡ e.kept)
    by j e now low (inl is) = subst (λ (x : Entry). (is_over x.kept.order.standing now ≡ false) × (tick x.kept now ≡ x.kept)) (sym is) (mine now (omega arith))
    by j e now low (inr there) = so.still j e there now (omega arith)

-- of no moment it is known
pub at-once : {entries : List Entry} {index : IndexData} → IsIndexed (map names_of entries) index → IsInOrder entries index 0
at-once indexed = record { indexed = indexed; still = λ k e at now low. absurd (never now low) }
  where
    never : (now : ℕ) → now < 0 → ⊥
    never now low = absurd (omega arith)

-- one more node had the moment
set-sees : {X : Type 0} (xs : List X) (n : ℕ) (y : X) (m : ℕ) (x : X) → slice_get (set xs n y) m ≡ Some x
    → (x ≡ y) ⊎ ((m ≡ n → ⊥) × (slice_get xs m ≡ Some x))
set-sees [] n y m x h = absurd (none≢some h)
set-sees (z ∷ xs) zero y zero x h = inl (sym (same-some h))
set-sees (z ∷ xs) zero y (suc m) x h = inr ((λ e. absurd (omega arith)), h)
set-sees (z ∷ xs) (suc n) y zero x h = inr ((λ e. absurd (omega arith)), h)
set-sees (z ∷ xs) (suc n) y (suc m) x h = later (set-sees xs n y m x h)
  where
    later : (x ≡ y) ⊎ ((m ≡ n → ⊥) × (slice_get xs m ≡ Some x)) → (x ≡ y) ⊎ ((suc m ≡ suc n → ⊥) × (slice_get xs m ≡ Some x))
    later (inl is) = inl is
    later (inr (off, k)) = inr ((λ e. off (omega arith)), k)

-- so many of the first nodes have no gap before a moment
abbrev pub AreFirstStill : ℕ → List Entry → ℕ → Type 0
AreFirstStill due nodes n = (k : ℕ) (e : Entry) → k < n → slice_get nodes k ≡ Some e → IsStillUntil due e.kept

pub still-more : (nodes : List Entry) (n : ℕ) (new : Entry) (before own after : ℕ) → AreFirstStill before nodes n → IsStillUntil own new.kept
    → after ≡ min before own → AreFirstStill after (set nodes n new) (n + 1)
still-more nodes n new before own after first mine least k e low seen now early = by (set-sees nodes n new k e seen)
  where
    by : (e ≡ new) ⊎ ((k ≡ n → ⊥) × (slice_get nodes k ≡ Some e)) → (is_over e.kept.order.standing now ≡ false) × (tick e.kept now ≡ e.kept)
    by (inl is) = subst (λ (x : Entry). (is_over x.kept.order.standing now ≡ false) × (tick x.kept now ≡ x.kept)) (sym is) (mine now (omega arith))
    by (inr (off, there)) = first k e (omega arith) there now (omega arith)

-- nodes that were lent whole, and ticked
pub order-ticked : (f : Entry → Entry) → ((e : Entry) → names_of (f e) ≡ names_of e) → (size : ℕ) (new lent old : List Entry)
    (index : IndexData) (due : ℕ) → IsIndexed (map names_of old) index → new ≡ map f lent → lent ≡ old → size ≡ length old → AreStillUntil due new
    → IsInOrder (take size (new ++ drop (length new) old)) index due
order-ticked f same size new lent old index due so is whole count still = record {
  indexed = indexed-lent f same size new lent old index so is whole count;
  still = subst (AreStillUntil due) (sym (lent-all f size new lent old is whole count)) still;
}
