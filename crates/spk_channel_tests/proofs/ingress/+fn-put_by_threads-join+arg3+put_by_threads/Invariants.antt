use Rattle.std.proofs.Common.{length}
use Rattle.spk_channel_tests.proofs.ingress.+fn-put_by_threads-join+arg3+put_by_threads.Given as goal

abbrev pub decreases-join+arg3 : goal.decreases-join+arg3
decreases-join+arg3 g l = length l.passes.items

abbrev pub decreases-put_by_threads : goal.decreases-put_by_threads
decreases-put_by_threads g l = length l.passes.items
