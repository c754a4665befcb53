use Rattle.std.proofs.Common.{not}
use Rattle.spk_quota.specs.Step.{is_retained_on}
use Rattle.spk_quota.proofs.Growing.{messages-less}
use Rattle.spk_quota.proofs.Others.{call-keeps}
use Rattle.spk_quota.proofs.laws.others_are_untouched.Goals as goal

pub returns-clause-same : goal.returns-clause-same
returns-clause-same c = call-keeps

pub returns-clause-clear : goal.returns-clause-clear
returns-clause-clear c = λ d topic user. messages-less d (λ m. not (is_retained_on topic m)) user
