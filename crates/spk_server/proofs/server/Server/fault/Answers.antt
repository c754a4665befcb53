use Rattle.std.proofs.Common.{◌⊎◌, inl, inr, None}
use Rattle.spk_server.specs.Data.{Room}
use Rattle.spk_server.specs.Log.{Reaches, follows}
use Rattle.spk_server.proofs.Runs.{and_then}
use Rattle.spk_server.proofs.server.Server.fault.Goals as goal

both : (a b m s : Room) → Reaches follows m s → Reaches follows a m ⊎ Reaches follows b m → Reaches follows a s ⊎ Reaches follows b s
both a b m s t (inl x) = inl (and_then follows a m s x t)
both a b m s t (inr x) = inr (and_then follows b m s x t)

pub returns-clause-comes : goal.returns-clause-comes
returns-clause-comes c = both _ _ _ _ (c.in_ok-tell_all.ensures.tells None) c.in_ok-come_fault.ensures.comes
