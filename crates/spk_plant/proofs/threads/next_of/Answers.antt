use Rattle.spk_plant.proofs.Ends.{next_fewer, next_items, next_others, next_ready}
use Rattle.spk_plant.proofs.threads.next_of.Goals as goal

pub returns-clause-ready : goal.returns-clause-ready
returns-clause-ready c = next_ready c.args.ingress.now c.pop.result c.pop.new.self.items c.args.starts.now.items c.requires c.pop.ensures.items

pub returns-clause-others : goal.returns-clause-others
returns-clause-others c = next_others c.args.ingress.now c.pop.result c.pop.new.self.items c.args.starts.now.items c.requires c.pop.ensures.items

pub returns-clause-items : goal.returns-clause-items
returns-clause-items c = next_items c.pop.result c.pop.new.self.items c.args.starts.now.items c.pop.ensures.items

pub returns-clause-fewer : goal.returns-clause-fewer
returns-clause-fewer c = next_fewer c.pop.result c.pop.new.self.items c.args.starts.now.items c.pop.ensures.items
