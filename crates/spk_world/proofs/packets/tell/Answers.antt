use Rattle.std.proofs.Common.{◌≡◌, ◌⊎◌, sym, subst}
use Rattle.spk_host.specs.Step.{packet_out}
use Rattle.spk_reading.specs.View.{heard_view}
use Rattle.spk_world_run.specs.Data.{PublishedData}
use Rattle.spk_world.specs.Outcome.{IsUnsendable}
use Rattle.spk_world.specs.declared.fault.WorldFault.{WorldFault}
use Rattle.spk_world.specs.declared.fault.WorldFault.TheVariants.{NoMemory}
use Rattle.spk_world.proofs.Unheard.{untold}
use Rattle.spk_world.proofs.packets.tell.Goals as goal

pub returns-in-Err-clause-fault : goal.returns-in-Err-clause-fault
returns-in-Err-clause-fault c =
    subst (λ (e : WorldFault). (e ≡ NoMemory) ⊎ ((m : PublishedData) → IsUnsendable c.args.host.now m e)) (sym c.from.ensures)
    (untold c.args.host.now c.in-Err.fault (packet_out c.args.host.now (heard_view c.args.heard) c.args.now) c.in-Err.ensures.outside c.in-Err.ensures.answer)
