use Rattle.std.proofs.Common.{rules, sym}
use Rattle.spk_story.proofs.Kept.{put_is}
use Rattle.spk_story.proofs.holes.Holes.put.Goals as goal

pub returns : goal.returns
returns c = put_is c.self.inside.count _ c.args.hole c.self.inside.places _ _ (search rules) c.self.invariant c.min-self-inside.ensures c.rotate_right.ensures.after (sym c.self.view_is)
