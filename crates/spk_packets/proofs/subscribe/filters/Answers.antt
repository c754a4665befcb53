use Rattle.std.proofs.Common.{◌≡◌, ◌∷◌, [], ◌++◌, map, ◌<◌, length, sym, ◌∙◌, string_bytes}
use Rattle.std.proofs.lemmas.Result.{err_from_is_err_and}
use Rattle.std.proofs.lemmas.List.{map_push}
use Rattle.spk_packets.specs.Reading.{text_at, each_at}
use Rattle.spk_packets.proofs.Each.{goes_on, ends, is_done}
use Rattle.spk_packets.proofs.Shorter.{text_shorter}
use Rattle.spk_packets.proofs.subscribe.filters.Goals as goal

pub returns-in_err-one : goal.returns-in_err-one
returns-in_err-one c =
    let p = err_from_is_err_and c.from_residual.result c.from_residual.ensures.1 in
    rw (p.1, p.2) (ends text_at text_shorter c.in_err-one.field-0.0 (map (λ filter. string_bytes filter) c.loop-rest.filters.items) c.loop-rest.rest.now (each_at text_at c.args.bytes.now) (sym c.is_empty.ensures ∙ c.loop-rest-test.true) c.in_err-one.ensures c.loop-rest.invariant)

pub loop-rest-smaller : goal.loop-rest-smaller
loop-rest-smaller c = let less : length c.in_ok-one.after.now < length c.loop-rest.rest.now = text_shorter c.loop-rest.rest.now _ c.in_ok-one.ensures in less

pub loop-rest-preserved : goal.loop-rest-preserved
loop-rest-preserved c =
    let one = c.in_ok-one.one in
    let e : map (λ filter. string_bytes filter) c.push.new.self.items ≡ map (λ filter. string_bytes filter) c.loop-rest.filters.items ++ string_bytes one ∷ [] = rw c.in_ok-push.ensures.items (map_push _ c.loop-rest.filters.items one) in
    rw e (goes_on text_at text_shorter (map (λ filter. string_bytes filter) c.loop-rest.filters.items) c.loop-rest.rest.now (string_bytes one) c.in_ok-one.after.now (each_at text_at c.args.bytes.now) (sym c.is_empty.ensures ∙ c.loop-rest-test.true) c.in_ok-one.ensures c.loop-rest.invariant)

pub returns : goal.returns
returns c = is_done text_at text_shorter (map (λ filter. string_bytes filter) c.loop-rest.filters.items) c.loop-rest.rest.now (each_at text_at c.args.bytes.now) (sym c.is_empty.ensures ∙ c.loop-rest-test.false) c.loop-rest.invariant
