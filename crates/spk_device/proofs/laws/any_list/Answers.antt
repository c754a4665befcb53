use Rattle.std.proofs.Common.{ap}
use Rattle.spk_device.specs.Book.{empty_book}
use Rattle.spk_device.specs.Calls.{answer_of, standing}
use Rattle.spk_device.proofs.HistoryLemmas.{births-done, device-found, lawful-standing, metric-found, refused-call, told}
use Rattle.spk_device.proofs.laws.any_list.Goals as goal

pub returns-clause-book : goal.returns-clause-book
returns-clause-book c = λ calls. (told empty_book calls).book

pub returns-clause-answer : goal.returns-clause-answer
returns-clause-answer c = λ calls call. ap (λ b. answer_of b call) (told empty_book calls).book

pub returns-clause-refused : goal.returns-clause-refused
returns-clause-refused c = refused-call empty_book

pub returns-clause-births : goal.returns-clause-births
returns-clause-births c = births-done empty_book

pub returns-clause-lawful : goal.returns-clause-lawful
returns-clause-lawful c = lawful-standing

pub returns-clause-numbers : goal.returns-clause-numbers
returns-clause-numbers c = λ calls n d. device-found (standing calls) n d (lawful-standing calls)

pub returns-clause-aliases : goal.returns-clause-aliases
returns-clause-aliases c = λ calls n g. metric-found (standing calls) n g (lawful-standing calls)
