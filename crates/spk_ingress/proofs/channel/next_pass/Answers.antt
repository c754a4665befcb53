use Rattle.std.proofs.Common.{[]}
use Rattle.crossbeam_channel.specs.Claims.{view}
use Rattle.spk_ingress.proofs.Steps.{forks_at}
use Rattle.spk_ingress.proofs.channel.next_pass.Goals as goal

pub another-seat-requires-clause-rule : goal.another-seat-requires-clause-rule
another-seat-requires-clause-rule c = forks_at c.args.taker.now.seat.id c.args.sender [] [] (view c.args.taker.now.seat) c.requires.0.sees
