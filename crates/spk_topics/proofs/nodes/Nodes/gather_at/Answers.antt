use Rattle.std.proofs.Common.{sym, refl, subst}
use Rattle.std.specs.Ordering.{nat_cmp}
use Rattle.std.specs.BTreeMap.{get}
use Rattle.spk_topics.specs.Matching.{Matches}
use Rattle.spk_topics.specs.Nodes.{row_of, rows_of}
use Rattle.spk_topics.proofs.EdgeLemmas.{row_at}
use Rattle.spk_topics.proofs.FitLemmas.{not_both}
use Rattle.spk_topics.proofs.WalkLemmas.{gathered_gains, gathered_taken, unmatched_taken}
use Rattle.spk_topics.proofs.nodes.Nodes.gather_at.Goals as goal

pub returns-in_ok-gather-clause-gains : goal.returns-in_ok-gather-clause-gains
returns-in_ok-gather-clause-gains c =
    gathered_gains (rows_of c.args.self.now) c.args.topic.now c.args.number (row_of c.in-Some.node.now) c.in-Some.node.now.grants (row_at c.args.self.now.list.items c.args.number c.in-Some.node.now (sym c.in-Some.ensures)) refl
    (get nat_cmp c.args.found.now) (get nat_cmp c.gather.new.found) (subst (λ t. Matches t c.args.topic.now) c.deref.ensures (c.matches_text.ensures.relation.0 c.if-matches_text.true)) c.in_ok-gather.ensures.ok

pub returns-in_ok-gather-clause-taken : goal.returns-in_ok-gather-clause-taken
returns-in_ok-gather-clause-taken c =
    gathered_taken (rows_of c.args.self.now) c.args.topic.now c.args.number (row_of c.in-Some.node.now) c.in-Some.node.now.grants (row_at c.args.self.now.list.items c.args.number c.in-Some.node.now (sym c.in-Some.ensures)) refl
    (get nat_cmp c.args.found.now) (get nat_cmp c.gather.new.found) c.in_ok-gather.ensures.ok

pub returns-else-matches_text-clause-taken : goal.returns-else-matches_text-clause-taken
returns-else-matches_text-clause-taken c =
    unmatched_taken (rows_of c.args.self.now) c.args.topic.now c.args.number (row_of c.in-Some.node.now) (get nat_cmp c.args.found.now) (row_at c.args.self.now.list.items c.args.number c.in-Some.node.now (sym c.in-Some.ensures))
    (λ fits. not_both c.matches_text.result c.if-matches_text.false (c.matches_text.ensures.relation.1 (subst (λ t. Matches t c.args.topic.now) (sym c.deref.ensures) fits)))
