use Rattle.std.proofs.Common.{◌≡◌, rules, inl, inr, length, Some, subst, sym}
use Rattle.spk_plant.proofs.Chosen.{missing_more}
use Rattle.spk_plant.proofs.Ends.{apart_push, sized_before, theirs_before}
use Rattle.spk_plant.specs.Done.{IsReportOf, lists}
use Rattle.spk_plant.proofs.tie.+apart.Goals as goal

pub apart-requires : goal.apart-requires
apart-requires t c = (
  search rules,
  (
    sized_before c.args.ends.items c.pop.new.self.items c.last_of.new.tokens.items c.args.tokens.items c.in-Some.end (Some c.in-Some-last_of.token)
        c.in-Some.ensures.items c.in-Some-last_of.ensures.there c.requires.sized,
    theirs_before c.args.ends.items c.pop.new.self.items c.last_of.new.tokens.items c.args.tokens.items c.in-Some.end (Some c.in-Some-last_of.token)
        c.in-Some.ensures.items c.in-Some-last_of.ensures.there c.requires.theirs,
  ),
)

pub returns-clause-apart : goal.returns-clause-apart
returns-clause-apart t c =
    let ls = lists c.args.seen.taken.now.items c.args.seen.accepted.now.items c.args.seen.given.now.items in
    let end = c.in-Some.end in
    let token = c.in-Some-last_of.token in
    let place : c.len-place.result ≡ length c.pop.new.self.items = search rules in
    apart_push ls c.pop.new.self.items c.args.ends.items c.last_of.new.tokens.items c.args.tokens.items c.in-Ok.others.0.items c.push.new.self.items
    c.in-Ok.others.1.items c.push-2.new.self.items end (Some token) c.in_ok-parts.parts.0 c.in_ok-parts.parts.1
    c.in-Some.ensures.items c.in-Some-last_of.ensures.there c.in_ok-push.ensures.items c.in_ok-push-2.ensures.items c.requires.sized
    (sym c.in_ok-parts.ensures.pass) (subst (λ k. IsReportOf ls k end c.in_ok-parts.parts.0) place c.in_ok-parts.ensures.report) c.in_ok-parts.ensures.front c.in-Ok.ensures.apart

pub returns-in-Err-clause-fault : goal.returns-in-Err-clause-fault
returns-in-Err-clause-fault t c = elim c.in-Err.ensures.fault [
  | inl memory ↦ inl memory
  | inr missing ↦ inr (missing.0, missing_more c.last_of.new.tokens.items c.args.tokens.items (Some c.in-Some-last_of.token) c.in-Some-last_of.ensures.there missing.1)
]
