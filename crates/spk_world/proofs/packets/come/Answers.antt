use Rattle.std.proofs.Common.{◌≡◌, ◌⊎◌, sym, subst}
use Rattle.spk_world.specs.Outcome.{IsUnheard}
use Rattle.spk_world.specs.declared.fault.WorldFault.{WorldFault}
use Rattle.spk_world.specs.declared.fault.WorldFault.TheVariants.{NoMemory}
use Rattle.spk_world.proofs.Unheard.{unheard}
use Rattle.spk_world.proofs.packets.come.Goals as goal

pub returns-in-Err-clause-fault : goal.returns-in-Err-clause-fault
returns-in-Err-clause-fault c =
    subst (λ (e : WorldFault). (e ≡ NoMemory) ⊎ IsUnheard c.args.host.now c.args.bytes.now e) (sym c.from.ensures)
    (unheard c.args.host.now c.args.bytes.now c.in-Err.fault c.in-Err.ensures.only)
