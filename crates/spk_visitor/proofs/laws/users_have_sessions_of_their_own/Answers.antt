use Rattle.spk_visitor.proofs.Apart.{own-sessions}
use Rattle.spk_visitor.proofs.laws.users_have_sessions_of_their_own.Goals as goal

pub returns : goal.returns
returns c = own-sessions
