use Rattle.std.specs.Option.{option_map}
use Rattle.spk_login.proofs.Same.{is_good}
use Rattle.spk_login.proofs.login.joined.Goals as goal

pub added-requires : goal.added-requires
added-requires c = is_good c.args.connect.now c.args.user.now (option_map (λ p. p.items) c.args.password.now) c.requires
