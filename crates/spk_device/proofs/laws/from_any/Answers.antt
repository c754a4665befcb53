use Rattle.std.proofs.Common.{ap}
use Rattle.spk_device.specs.Calls.{answer_of}
use Rattle.spk_device.proofs.HistoryLemmas.{births-done, device-found, kinds-from, lawful-fresh, lawful-from, metric-found, refused-call, told, unreserved-births, values-kept}
use Rattle.spk_device.proofs.laws.from_any.Goals as goal

pub returns-clause-book : goal.returns-clause-book
returns-clause-book c = λ first calls. (told first calls).book

pub returns-clause-answer : goal.returns-clause-answer
returns-clause-answer c = λ first calls call. ap (λ b. answer_of b call) (told first calls).book

pub returns-clause-refused : goal.returns-clause-refused
returns-clause-refused c = refused-call

pub returns-clause-births : goal.returns-clause-births
returns-clause-births c = births-done

pub returns-clause-lawful : goal.returns-clause-lawful
returns-clause-lawful c = lawful-from

pub returns-clause-numbers : goal.returns-clause-numbers
returns-clause-numbers c = device-found

pub returns-clause-aliases : goal.returns-clause-aliases
returns-clause-aliases c = metric-found

pub returns-clause-fresh : goal.returns-clause-fresh
returns-clause-fresh c = lawful-fresh

pub returns-clause-values : goal.returns-clause-values
returns-clause-values c = values-kept

pub returns-clause-kinds : goal.returns-clause-kinds
returns-clause-kinds c = kinds-from

pub returns-clause-unreserved : goal.returns-clause-unreserved
returns-clause-unreserved c = unreserved-births
