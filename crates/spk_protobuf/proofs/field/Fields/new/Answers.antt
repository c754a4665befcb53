-- The laws of the items, at the text.
use Rattle.std.proofs.Common.{◌∙◌, ap}
use Rattle.spk_protobuf.specs.Reading.{items_of}
use Rattle.spk_protobuf.proofs.Items.{items_are, items_only, same_fields, items_of-front}
use Rattle.spk_protobuf.proofs.field.Fields.new.Goals as goal

pub returns-clause-items : goal.returns-clause-items
returns-clause-items c = items_are c.args.text.now

pub returns-clause-only : goal.returns-clause-only
returns-clause-only c = λ items h. items_only c.args.text.now items h

pub returns-clause-fields : goal.returns-clause-fields
returns-clause-fields c = λ fs. same_fields c.args.text.now fs

pub returns-clause-fronts : goal.returns-clause-fronts
returns-clause-fronts c = λ front rest fs e h. (items_of rest, ap items_of e ∙ items_of-front front rest fs h)
