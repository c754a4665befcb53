-- The deeds of calls, one call behind the other.
use Rattle.std.proofs.Common.{◌≡◌, ◌⊎◌, inl, inr, ℕ, ◌&&◌, if◌then◌else◌, Bool, true, false, List, [], ◌∷◌, ◌++◌, Some, None, refl, sym, ◌∙◌, ap}
use Rattle.std.specs.List.{list_all}
use Rattle.spk_broker_notes.specs.Noted.{Noted}
use Rattle.spk_server.specs.Data.{Deed, Room, Want}
use Rattle.spk_server.specs.Data as deed
use Rattle.spk_server.specs.Step.{after}
use Rattle.spk_server.specs.Calls.{AreDone, Call, Accepted, TurnedAway, Read, Gone, GoOn, Moment, Wrote, Cut, NextToWrite, NextToShut, Kept, Begun, IsDone, IsLogOf, LogOf, PassedOver, RanOut, TookUp, WasEnded, room_with, timed}
use Rattle.spk_server.specs.Log.{IsRested, IsRun, any_deed, calls, follows, goes_on, is_all_kept, takes}
use Rattle.spk_server.proofs.Allowed.{follows_takes}
use Rattle.spk_server.proofs.Runs.{joined, widened}

all_of : (f : Deed → Bool) (ds : List Deed) (r s : Room) → IsRun f r ds s → list_all f ds ≡ true
all_of f [] r s a = refl
all_of f (d ∷ ds) r s a = ap (λ b. b && list_all f ds) a.0 ∙ all_of f ds (after d r) s a.2

any_of : (f : Deed → Bool) (ds : List Deed) (r s : Room) → IsRun f r ds s → IsRun any_deed r ds s
any_of f ds r s a = widened f any_deed (λ d e. refl) ds r s a

abbrev HasLog : Call → Room → Room → Type 0
HasLog c r m = (own : List Deed) × IsLogOf c own × IsRun any_deed r own m

read_log : (conn : ℕ) (piece : List ℕ) (now : ℕ) (r m : Room) → IsRested r
    → TookUp conn piece (timed now r) m ⊎ (PassedOver conn (timed now r) m ⊎ RanOut conn (timed now r) m) → HasLog (Read conn piece now) r m
read_log conn piece now r m rest (inl t) = (
  deed.Timed now ∷ deed.Fed conn piece ∷ t.taken.0,
  (deed.Fed conn piece, t.taken.0, refl, inl refl, all_of (takes conn) t.taken.0 _ m t.taken.1),
  (refl, rest, (refl, (rest, t.here), any_of (takes conn) t.taken.0 _ m t.taken.1)),
)
read_log conn piece now r m rest (inr (inl p)) = (
  deed.Timed now ∷ deed.Skipped conn piece ∷ [],
  (deed.Skipped conn piece, [], refl, inr (inl refl), refl),
  (refl, rest, (refl, (rest, p.over), sym p.same)),
)
read_log conn piece now r m rest (inr (inr o)) = (
  deed.Timed now ∷ deed.Left conn Want ∷ o.ended.0,
  (deed.Left conn Want, o.ended.0, refl, inr (inr refl), all_of (takes conn) o.ended.0 _ m (widened follows (takes conn) (follows_takes conn) o.ended.0 _ m o.ended.1)),
  (refl, rest, (refl, (rest.0.1, tt), any_of follows o.ended.0 _ m o.ended.1)),
)

gone_log : (conn : ℕ) (now : ℕ) (r m : Room) → IsRested r → WasEnded conn (timed now r) m ⊎ PassedOver conn (timed now r) m → HasLog (Gone conn now) r m
gone_log conn now r m rest (inl t) = (
  deed.Timed now ∷ deed.Left conn deed.Gone ∷ t.ended.0,
  (deed.Left conn deed.Gone ∷ t.ended.0, refl, inr (t.ended.0, refl, all_of follows t.ended.0 _ m t.ended.1)),
  (refl, rest, (refl, (rest.0.1, t.here), any_of follows t.ended.0 _ m t.ended.1)),
)
gone_log conn now r m rest (inr p) = (deed.Timed now ∷ [], ([], refl, inl refl), (refl, rest, sym p.same))

wrote_log : (conn count : ℕ) (r m : Room) → IsRested r → (b : Bool) → is_all_kept r ≡ b → m ≡ (if b then after (deed.Wrote conn count) r else r) → HasLog (Wrote conn count) r m
wrote_log conn count r m rest true kept d = (deed.Wrote conn count ∷ [], inl refl, (refl, (rest, kept), sym d))
wrote_log conn count r m rest false kept d = ([], inr refl, sym d)

done_log : (c : Call) (r m : Room) → IsRested r → IsDone c r m → HasLog c r m
done_log (Accepted conn now) r m rest d = (deed.Timed now ∷ deed.Joined conn ∷ [], refl, (refl, rest, (refl, (rest, d.0, d.1), sym d.2)))
done_log (TurnedAway now) r m rest d = (deed.Timed now ∷ [], refl, (refl, rest, sym d))
done_log (Read conn piece now) r m rest d = read_log conn piece now r m rest d
done_log (Gone conn now) r m rest d = gone_log conn now r m rest d
done_log (GoOn now) r m rest d = (deed.Timed now ∷ d.0, (d.0, refl, all_of goes_on d.0 (timed now r) m d.1), (refl, rest, any_of goes_on d.0 (timed now r) m d.1))
done_log (Moment now) r m rest d = (deed.Timed now ∷ d.0.0, (d.0.0, refl, all_of calls d.0.0 (timed now r) m d.0.1), (refl, rest, any_of calls d.0.0 (timed now r) m d.0.1))
done_log (Wrote conn count) r m rest d = wrote_log conn count r m rest (is_all_kept r) refl d
done_log (Cut conn) r m rest d = (deed.Blocked conn ∷ [], refl, (refl, rest, sym d))
done_log (NextToWrite None) r m rest d = ([], refl, sym d)
done_log (NextToWrite (Some conn)) r m rest d = (deed.Named conn ∷ [], refl, (refl, rest, sym d))
done_log (NextToShut None) r m rest d = ([], refl, sym d.0)
done_log (NextToShut (Some shut)) r m rest d = (deed.Forgot shut.0 ∷ [], refl, (refl, (rest, (d.0.0, d.0.1, d.0.2.0)), sym d.1))
done_log (Kept bytes) r m rest d = (deed.Kept bytes ∷ [], refl, (refl, (rest, d.0), sym d.1))
done_log Begun r m rest d = (deed.Begun ∷ [], refl, (refl, rest, sym d))

pub calls_log : (cs : List Call) (r s : Room) → IsRested r → AreDone r cs s → (log : List Deed) × LogOf cs log × IsRun any_deed r log s
calls_log [] r s rest a = ([], refl, a)
calls_log (c ∷ cs) r s rest a =
    let own = done_log c r a.0 rest a.1 in
    let more = calls_log cs a.0 s a.2 a.3 in
    (own.0 ++ more.0, (own.0, more.0, refl, own.1, more.1), joined any_deed own.0 more.0 r a.0 s own.2 more.2)

pub first_rested : (x : Noted) → IsRested (room_with x)
first_rested x = ((refl, (refl, refl)), λ k. tt)
