use Rattle.spk_topics.proofs.FitLemmas.{open_matches}
use Rattle.spk_topics.proofs.matching.matches_text.Goals as goal

pub returns-then-not-is_barred-clause-relation : goal.returns-then-not-is_barred-clause-relation
returns-then-not-is_barred-clause-relation c = let a = c.is_barred.ensures in let b = c.fits.ensures in let t = c.if-not-is_barred.true in open_matches c.args.filter.now c.args.topic.now c.fits.result (cc) c.fits.ensures
