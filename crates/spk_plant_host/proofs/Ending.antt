-- How the host's thread ends.
use Rattle.std.proofs.Common.{◌≡◌, ◌∙◌, ap, ◌+◌, arith, false, cond, Err, List, [], ◌∷◌, ◌++◌}
use Rattle.std.specs.List.{count_by}
use Rattle.std.proofs.lemmas.List.Sums.{sum_by-append}
use Rattle.spk_ingress.specs.Passes.{PutsInto, frames_put}
use Rattle.spk_ingress.specs.declared.channel.Ingress.{Ingress}
use Rattle.spk_ingress.specs.declared.channel.PutPass.{PutPass}
use Rattle.spk_ingress.specs.declared.frame.Frame.{Frame}
use Rattle.spk_ingress.specs.declared.frame.Frame.TheVariants as frame
use Rattle.spk_plant_host.specs.declared.fault.HostCause.{HostCause}
use Rattle.spk_plant_host.specs.declared.fault.HostCause.TheVariants as why
use Rattle.spk_plant_host.specs.Ends.{HostBroke, IsEnded, IsLast, ends_put, is_closed, is_end}
use Rattle.spk_plant_host.specs.declared.ends.HostStart.{HostStart}
use Rattle.spk_plant_host.specs.declared.ends.HostFailed.{HostFailed}

ends_more : (fs : List Frame) → count_by is_end (fs ++ frame.End ∷ []) ≡ count_by is_end fs + 1
ends_more fs =
    let all : count_by is_end (fs ++ frame.End ∷ []) ≡ count_by is_end fs + (0 + 1) = sum_by-append (λ x. cond (is_end x) 1 0) fs (frame.End ∷ []) in omega arith

ended : (start q p : PutPass) → ends_put q ≡ ends_put start → frames_put p ≡ frames_put q ++ frame.End ∷ [] → IsEnded start p
ended start q p same put = record {
  before = frames_put q;
  put = put;
  once = ap (λ (fs : List Frame). count_by is_end fs) put ∙ ends_more (frames_put q) ∙ ap (λ n. n + 1) same;
}

last_is : (A : Type 0) (start q p : PutPass) (f : HostCause) → is_closed {A = A} (Err f) ≡ false → ends_put q ≡ ends_put start
    → frames_put p ≡ frames_put q ++ frame.End ∷ [] → IsLast f start p
last_is A start q p why.NoMemory still same put = ended start q p same put
last_is A start q p (why.Closed gone) still same put = cc

pub ended_badly : (A : Type 0) (n : Ingress) (s : HostStart) (f : HostFailed) (q : PutPass) → PutsInto n f.pass → f.pass.sender ≡ s.pass.sender
    → is_closed {A = A} (Err f.cause) ≡ false → ends_put q ≡ ends_put s.pass → frames_put f.pass ≡ frames_put q ++ frame.End ∷ []
    → HostBroke n s f
ended_badly A n s f q into sender still same put = record {
  puts_into = into;
  sender = sender;
  last = last_is A s.pass q f.pass f.cause still same put;
}
