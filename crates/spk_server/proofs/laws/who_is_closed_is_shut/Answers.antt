use Rattle.spk_server.proofs.Closing.{done_shut, late_shut, shut_by_calls}
use Rattle.spk_server.proofs.laws.who_is_closed_is_shut.Goals as goal

pub returns-clause-done : goal.returns-clause-done
returns-clause-done c = λ x log r s k c shut run is over done calls. shut_by_calls k c shut r s is (done_shut x log r k c run is over done) calls

pub returns-clause-late : goal.returns-clause-late
returns-clause-late c = λ x before behind q r s k c shut run over more none is nobody late calls.
    shut_by_calls k c shut r s is (late_shut x before behind q r k c run over more none is nobody late) calls
