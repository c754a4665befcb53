-- Whatever the disk may hold at a moment covers what was given out until then.
use Rattle.std.proofs.Common.{List, [], ◌∷◌, ◌++◌, take, subst, sym, inl, inr, arith}
use Rattle.std.specs.List.{AllByRecursion}
use Rattle.spk_edge_rules.specs.Config.{Setup}
use Rattle.spk_edge_rules.specs.Run.{run_of}
use Rattle.spk_lives.specs.Lives.{CoversRun, Deed, Begins, Keeps, Says, IsAmong, IsCareful, IsLife, Life, Reserve, on_disk, run, said}
use Rattle.spk_lives.proofs.Published.{up-to-same}

newest : {X : Type 0} (P : X → Type 0) (xs : List X) → AllByRecursion P xs → AllByRecursion P (take 1 xs)
newest P [] all = tt
newest P (x ∷ xs) all = (all.0, tt)

pub survivors : (s : Setup) (ds : List Deed) → IsCareful s ds → AllByRecursion (CoversRun s (run_of s (said ds))) (on_disk s ds)
survivors s [] careful = (record { sessions = omega arith; stamp = up-to-same s.stamp }, tt)
survivors s (Begins sessions stamp ∷ ds) careful = (careful.0, survivors s ds careful.1)
survivors s (Keeps ∷ ds) careful = newest (CoversRun s (run_of s (said ds))) (on_disk s ds) (survivors s ds careful.1)
survivors s (Says i ∷ ds) careful = careful.0

pub cut : (s : Setup) (later ds : List Deed) → IsCareful s (later ++ ds) → IsCareful s ds
cut s [] ds careful = careful
cut s (d ∷ later) ds careful = cut s later ds careful.1

among : (P : Reserve → Type 0) (r : Reserve) (rs : List Reserve) → IsAmong r rs → AllByRecursion P rs → P r
among P r [] is all = absurd is
among P r (x ∷ xs) is all = elim is [
  | inl here ↦ subst P (sym here) all.0
  | inr there ↦ among P r xs there all.1
]

pub left-covers : (l : Life) → IsLife l → CoversRun l.setup (run l) l.left
left-covers l is = among (CoversRun l.setup (run l)) l.left (on_disk l.setup l.deeds) is.survived (survivors l.setup l.deeds is.careful)
