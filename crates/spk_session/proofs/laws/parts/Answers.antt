use Rattle.std.proofs.Common.{sym, ◌∙◌, ap, []}
use Rattle.spk_session.specs.Data.{Standing}
use Rattle.spk_session.specs.Parts.{fresh_ids, fresh_drops}
use Rattle.spk_session.specs.Step.{fresh_standing}
use Rattle.spk_session.proofs.Histories.{tied, tied-start}
use Rattle.spk_session.proofs.PartLemmas.{calls-joined, ids-undone}
use Rattle.spk_session.proofs.laws.parts.Goals as goal

pub returns-clause-both : goal.returns-clause-both
returns-clause-both c = calls-joined

pub returns-clause-used : goal.returns-clause-used
returns-clause-used c = λ calls.
    sym (ap (λ (s : Standing). s.used) (calls-joined fresh_ids (fresh_drops 1) calls)) ∙ (tied calls [] (fresh_standing 1) (tied-start 1)).used

pub returns-clause-last : goal.returns-clause-last
returns-clause-last c = λ calls.
    sym (ap (λ (s : Standing). s.last) (calls-joined fresh_ids (fresh_drops 1) calls)) ∙ (tied calls [] (fresh_standing 1) (tied-start 1)).last

pub returns-clause-rewound : goal.returns-clause-rewound
returns-clause-rewound c = λ i calls leaves. ids-undone i (fresh_drops 1) calls leaves

pub returns-clause-drops : goal.returns-clause-drops
returns-clause-drops c = λ limit calls.
    sym (ap (λ (s : Standing). s.drops) (calls-joined fresh_ids (fresh_drops limit) calls)) ∙ (tied calls [] (fresh_standing limit) (tied-start limit)).drops
