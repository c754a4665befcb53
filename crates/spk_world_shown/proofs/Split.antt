-- The calls of a host's present session, and those of its sessions before.
use Rattle.std.proofs.Common.{◌≡◌, ap, refl, List, [], ◌∷◌, ◌++◌}
use Rattle.spk_host_node.specs.Inputs.{Input, Comes, Dies, Ticks, Ends, since_end}
use Rattle.spk_shown.specs.Shown.{AreOver}

pub split : (xs : List Input) → (earlier : List Input) × AreOver earlier × (xs ≡ since_end xs ++ earlier)
split [] = ([], tt, refl)
split (Comes m now ∷ xs) = ((split xs).0, (split xs).1, ap (λ ys. Comes m now ∷ ys) (split xs).2)
split (Dies bd ∷ xs) = ((split xs).0, (split xs).1, ap (λ ys. Dies bd ∷ ys) (split xs).2)
split (Ticks now ∷ xs) = ((split xs).0, (split xs).1, ap (λ ys. Ticks now ∷ ys) (split xs).2)
split (Ends ∷ xs) = (Ends ∷ xs, tt, refl)
