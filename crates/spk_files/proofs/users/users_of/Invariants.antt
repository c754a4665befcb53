use Rattle.spk_files.specs.Users.{IsListed}
use Rattle.spk_files.proofs.users.users_of.Given as goal

-- those so far have names of their own, without a colon, and limits for each
abbrev pub invariant-loop-place : goal.invariant-loop-place
invariant-loop-place l = IsListed l.listed
