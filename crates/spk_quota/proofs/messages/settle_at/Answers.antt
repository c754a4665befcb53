use Rattle.std.proofs.Common.{◌∙◌, [], ◌∷◌, ◌++◌, ap, arith, slice_get}
use Rattle.std.specs.List.{filter}
use Rattle.std.proofs.lemmas.Option.{get_or_from_slice_get}
use Rattle.spk_quota.specs.Step.{bytes_on, retained_of, stays_beside}
use Rattle.spk_quota.proofs.Settling.{settled-at}
use Rattle.spk_quota.proofs.messages.settle_at.Goals as goal

pub push_in-requires : goal.push_in-requires
push_in-requires c = omega (arith, c.keep_beside.ensures.len, c.keep_beside.ensures.capacity, c.remove-will.ensures.len, c.remove-will.ensures.capacity, c.args.list.now.ok.1)

pub returns : goal.returns
returns c = λ will at is.
    let list = c.args.list.now.items in
    let own = c.remove-will.result in
    let bytes = c.retained_beside-bytes.result in
    let same = c.remove-will.ensures.value ∙ get_or_from_slice_get list c.args.place will own at in
    c.push_in.ensures
    ∙ ap (λ m. c.keep_beside.new.list.items ++ m ∷ []) c.into_retained.ensures
    ∙ ap (λ ms. ms ++ retained_of own bytes ∷ []) (c.keep_beside.ensures.items ∙ ap (filter (stays_beside c.args.conn own)) c.remove-will.ensures.items)
    ∙ settled-at c.args.conn list c.args.place will own bytes at is same
    ∙ ap (λ n. filter (stays_beside c.args.conn will) list ++ retained_of will n ∷ [])
    (c.retained_beside-bytes.ensures will (ap (λ ms. slice_get ms c.args.place) c.deref.ensures.value ∙ at) ∙ ap (bytes_on will.user will.topic) c.deref.ensures.value)
