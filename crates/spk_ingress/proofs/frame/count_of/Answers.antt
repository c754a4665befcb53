use Rattle.std.proofs.Common.{◌≡◌, sym, subst, IfOk, IfErr}
use Rattle.spk_packets.specs.declared.fault.PacketFault.TheVariants.{NoMemory}
use Rattle.spk_ingress.proofs.Fronts.{front_count, lent_count, memory_alone}
use Rattle.spk_ingress.proofs.frame.count_of.Goals as goal
use Rattle.spk_ingress.proofs.frame.count_of.Goals.{in-Ok-decode, in-Err-decode}

pub returns-in-Ok-clause-front : goal.returns-in-Ok-clause-front
returns-in-Ok-clause-front c p n few spells = lent_count p c.in-Ok.field-0-0 c.in-Ok.whole n (c.in-Ok.ensures.only p n few spells)

pub returns-in-Err-clause-memory : goal.returns-in-Err-clause-memory
returns-in-Err-clause-memory c p n few spells = memory_alone c.in-Err.fault (p, n) (c.in-Err.ensures.only p n few spells)

pub returns-clause-front : goal.returns-clause-front
returns-clause-front c p n few spells = elim c.match-decode.branch [
  | in-Ok-decode w ↦ subst (λ r. IfOk r (λ m. m ≡ n)) (sym w.result-is)
      (front_count p w.in-Ok-decode.field-0-0 w.in-Ok-decode.count n (w.in-Ok-decode.ensures.only p n few spells))
  | in-Err-decode w ↦ subst (λ r. IfOk r (λ m. m ≡ n)) (sym w.result-is) tt
]

pub returns-clause-memory : goal.returns-clause-memory
returns-clause-memory c p n few spells = elim c.match-decode.branch [
  | in-Ok-decode w ↦ subst (λ r. IfErr r (λ e. e ≡ NoMemory)) (sym w.result-is) tt
  | in-Err-decode w ↦ subst (λ r. IfErr r (λ e. e ≡ NoMemory)) (sym w.result-is)
      (memory_alone w.in-Err-decode.fault (p, n) (w.in-Err-decode.ensures.only p n few spells))
]
