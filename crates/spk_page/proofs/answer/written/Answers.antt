use Rattle.std.proofs.Common.{ℕ, ◌≡◌, ◌^◌, ◌<◌, List, length, rules, subst}
use Rattle.http1.specs.declared.conn.BodySize.TheVariants.{Known}
use Rattle.http1.specs.declared.conn.Limits.{Limits}
use Rattle.http1.specs.Fields.{Header}
use Rattle.spk_page.specs.Answers.{fields_of}
use Rattle.spk_page.proofs.Round.{ReadsAs, ok_none, written_back}
use Rattle.spk_page.proofs.answer.written.Goals as goal

pub returns : goal.returns
returns c =
    let fits : length c.args.body.now < 2 ^ 64 = search rules in
    let fields = fields_of c.args.kind.now in
    let back =
    written_back c.args.server.now c.write_response.new.self c.write_data.new.self c.args.status c.reason.result.now (Known (length c.args.body.now)) fields c.args.body.now c.new-text.result.items c.write_response.new.output.items c.write_data.new.output.items c.write_end.new.output.items fits
    c.new-text.ensures.items
    c.in_ok-write_response.ensures.ok
    c.in_ok-write_response.ensures.next
    c.in_ok-write_data.ensures.ok
    c.in_ok-write_data.ensures.counted
    c.in_ok-write_end.ensures.ok
    (ok_none _ _ _ _ _ c.in_ok-write_response.was c.write_response.ensures.outcome)
    (ok_none _ _ _ _ _ c.in_ok-write_data.was c.write_data.ensures.outcome)
    (ok_none _ _ _ _ _ c.in_ok-write_end.was c.write_end.ensures.outcome) in
    subst (λ r. (extra : List Header) × ((limits : Limits) → ReadsAs c.args.server.now c.args.status r fields c.args.body.now c.write_end.new.output.items limits extra)) c.reason.ensures back
