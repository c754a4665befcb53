use Rattle.std.proofs.Common.{◌∙◌, sym, ap}
use Rattle.std.proofs.lemmas.Bool.{le-leb}
use Rattle.std.specs.Prelude.{length, nat_le}
use Rattle.std.specs.Option.{option_map}
use Rattle.spk_packets.specs.View.{will_view}
use Rattle.spk_access.specs.Rights.{rights_view}
use Rattle.spk_door.specs.Rules.{lets_will}
use Rattle.spk_door.specs.View.{user_of}
use Rattle.spk_visitor.specs.Rules.{client_of}
use Rattle.spk_visitor.proofs.Outcomes.{some-same, turned-away-named}
use Rattle.spk_visitor.proofs.visitor.admit.Goals as goal

pub returns-then-not-branch-clause-comes : goal.returns-then-not-branch-clause-comes
returns-then-not-branch-clause-comes c r is =
    let d = c.args.door.now in
    let client = c.args.client.now in
    let will = option_map will_view c.args.will in
    let same = some-same (rights_view c.in-Some.rights.now) r (c.in-Some.ensures ∙ is) in
    let refused = ap (λ x. lets_will x d.guard will) (sym same) ∙ sym c.in_ok-lets_will.ensures.ok ∙ c.if-not-branch.true in
    let own = c.as_str.ensures.value ∙ c.in_ok-own.ensures ∙ ap (λ o. client_of o client) c.user.ensures in
    let short = ap (λ xs. nat_le (length xs) 65535) (sym own) ∙ le-leb (length c.as_str.result.now) 65535 c.if-as_str-gt-LONGEST.false in
    turned-away-named d (nat_le (length (client_of (user_of d c.args.who) client)) 65535) (lets_will r d.guard will) _ _ c.args.out.now.items short refused
