use Rattle.std.proofs.Common.{◌≤◌, subst, sym}
use Rattle.spk_broker_rules.specs.Data as plain
use Rattle.spk_broker_rules.specs.Lawful.{places}
use Rattle.spk_broker.proofs.Touched.{settled-alone}
use Rattle.spk_broker.proofs.hints.Hints.seek.Goals as goal

pub seek_in-requires : goal.seek_in-requires
seek_in-requires c = subst (λ (b : plain.Broker). places c.args.conn b ≤ 1) (sym c.requires.settled) (c.requires.lawful.apart c.args.conn)

pub returns-clause-alone : goal.returns-clause-alone
returns-clause-alone c = settled-alone c.args.state.now c.args.conn c.seek_in.result.place c.requires.settled (sym c.seek_in.ensures.place)
