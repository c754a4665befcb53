use Rattle.std.proofs.Common.{◌≡◌, ◌∷◌, [], ◌++◌, map, ◌<◌, length, sym, ◌∙◌}
use Rattle.std.proofs.lemmas.Result.{err_from_is_err_and}
use Rattle.std.proofs.lemmas.List.{map_push}
use Rattle.spk_packets.specs.View.{request_view}
use Rattle.spk_packets.specs.Reading.{request_at, each_at}
use Rattle.spk_packets.proofs.Each.{goes_on, ends, is_done}
use Rattle.spk_packets.proofs.Shorter.{request_shorter}
use Rattle.spk_packets.proofs.subscribe.requests.Goals as goal

pub returns-in_err-one : goal.returns-in_err-one
returns-in_err-one c =
    let p = err_from_is_err_and c.from_residual.result c.from_residual.ensures.1 in
    rw (p.1, p.2) (ends request_at request_shorter c.in_err-one.field-0.0 (map request_view c.loop-rest.requests.items) c.loop-rest.rest.now (each_at request_at c.args.bytes.now) (sym c.is_empty.ensures ∙ c.loop-rest-test.true) c.in_err-one.ensures c.loop-rest.invariant)

pub loop-rest-smaller : goal.loop-rest-smaller
loop-rest-smaller c = let less : length c.in_ok-one.after.now < length c.loop-rest.rest.now = request_shorter c.loop-rest.rest.now _ c.in_ok-one.ensures in less

pub loop-rest-preserved : goal.loop-rest-preserved
loop-rest-preserved c =
    let one = c.in_ok-one.one in
    let e : map request_view c.push.new.self.items ≡ map request_view c.loop-rest.requests.items ++ request_view one ∷ [] = rw c.in_ok-push.ensures.items (map_push _ c.loop-rest.requests.items one) in
    rw e (goes_on request_at request_shorter (map request_view c.loop-rest.requests.items) c.loop-rest.rest.now (request_view one) c.in_ok-one.after.now (each_at request_at c.args.bytes.now) (sym c.is_empty.ensures ∙ c.loop-rest-test.true) c.in_ok-one.ensures c.loop-rest.invariant)

pub returns : goal.returns
returns c = is_done request_at request_shorter (map request_view c.loop-rest.requests.items) c.loop-rest.rest.now (each_at request_at c.args.bytes.now) (sym c.is_empty.ensures ∙ c.loop-rest-test.false) c.loop-rest.invariant
