use Rattle.std.proofs.Common.{min, option_copied, sym, ap, ◌∙◌, arith}
use Rattle.std.specs.List.{prefix_len}
use Rattle.std.proofs.Math.Nat.{min-le_right}
use Rattle.std.proofs.lemmas.List.Sums.{prefix_len-le-length}
use Rattle.spk_store.specs.Owners.{is_of}
use Rattle.spk_store.proofs.Runs.{run_is}
use Rattle.spk_store.proofs.store.Store.front_run.Goals as goal

pub returns-in-Some-clause-answer : goal.returns-in-Some-clause-answer
returns-in-Some-clause-answer c = c.run_of_owner.ensures ∙ ap (min c.args.max) (run_is c.in-Some.change.now c.args.self.now.items (sym c.get.ensures ∙ ap option_copied c.in-Some.is))

pub returns-in-Some-clause-kept : goal.returns-in-Some-clause-kept
returns-in-Some-clause-kept c = omega (arith, c.run_of_owner.ensures, prefix_len-le-length (is_of c.in-Some.change.now.owner) c.args.self.now.items, min-le_right c.args.max (prefix_len (is_of c.in-Some.change.now.owner) c.args.self.now.items))
