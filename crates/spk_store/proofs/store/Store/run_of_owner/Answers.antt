use Rattle.std.proofs.Common.{sym, ◌∙◌, arith}
use Rattle.std.specs.List.{prefix_len}
use Rattle.std.proofs.lemmas.List.Sums.{prefix_len-le-length}
use Rattle.spk_store.specs.Owners.{is_of}
use Rattle.spk_store.proofs.Runs.{run_goes, run_stops, stopped_at, went_on}
use Rattle.spk_store.proofs.store.Store.run_of_owner.Goals as goal

pub returns-then-not-is_of : goal.returns-then-not-is_of
returns-then-not-is_of c =
    stopped_at c.args.max c.len.result c.min-most.result (prefix_len (is_of c.args.owner) c.args.self.now.items) c.loop-n.n c.min-most.ensures c.loop-n-test.true
    (run_stops c.args.owner c.args.self.now.items c.loop-n.n c.loop-n.invariant (sym c.is_of.ensures ∙ c.if-not-is_of.true))

pub loop-n-preserved : goal.loop-n-preserved
loop-n-preserved c = run_goes c.args.owner c.args.self.now.items c.loop-n.n c.loop-n.invariant (sym c.is_of.ensures ∙ c.if-not-is_of.false)

pub returns : goal.returns
returns c =
    went_on c.args.max c.len.result c.min-most.result (prefix_len (is_of c.args.owner) c.args.self.now.items) c.min-most.ensures
    (omega (arith, c.len.ensures, prefix_len-le-length (is_of c.args.owner) c.args.self.now.items)) (omega (arith, c.loop-n.invariant, c.loop-n-test.false))
