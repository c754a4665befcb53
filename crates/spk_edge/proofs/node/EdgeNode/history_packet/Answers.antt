use Rattle.std.proofs.Common.{◌≡◌, ◌∙◌, ap, sym, subst, ℕ, List, false, None, arith}
use Rattle.std.specs.Str.{IsUtf8}
use Rattle.std.proofs.lemmas.Result.{err_from_is_err_and}
use Rattle.spk_packets.specs.Message.{Publish}
use Rattle.spk_packets.specs.Spelling.{spelling}
use Rattle.spk_edge_rules.specs.Writable.{is_writable}
use Rattle.spk_edge.specs.History.{IsFront, message, room}
use Rattle.spk_edge.specs.Sealing.{wire_of}
use Rattle.spk_edge.proofs.Fronts.{above, front-goes, front-writes, never-large}
use Rattle.spk_edge.proofs.Written.{written-whole}
use Rattle.spk_edge.proofs.node.EdgeNode.history_packet.Goals as goal

pub returns-then-count-eq0-clause-none : goal.returns-then-count-eq0-clause-none
returns-then-count-eq0-clause-none c = λ none.
    let n = c.args.self.now in
    let front = subst (λ r. IsFront n c.args.now r c.args.most c.in_ok-bytes.field-0.count) (c.room.ensures.room ∙ ap room (c.as_str.ensures.value ∙ c.in_ok-topic.ensures)) c.in_ok-bytes.ensures.front in
    let goes = front-goes n c.args.now c.args.owner c.args.most c.in_ok-bytes.field-0.count front in
    let zero = c.if-count-eq0.true in
    let same = c.in_ok-bytes.count-is in
    omega (arith, goes, zero, same)

pub returns-clause-some : goal.returns-clause-some
returns-clause-some c =
    let n = c.args.self.now in
    let count = c.in_ok-bytes.field-0.count in
    let front = subst (λ r. IsFront n c.args.now r c.args.most count) (c.room.ensures.room ∙ ap room (c.as_str.ensures.value ∙ c.in_ok-topic.ensures)) c.in_ok-bytes.ensures.front in
    let m = message n c.args.now c.args.owner count in
    let topic : c.as_str-2.result.now ≡ m.topic = c.as_str-2.ensures.value ∙ c.in_ok-topic.ensures in
    let same : Publish false 0 false c.as_str-2.result.now None c.deref.result.now ≡ wire_of m =
    ap (λ (t : List ℕ). Publish false 0 false t None c.deref.result.now) topic
    ∙ ap (λ (bytes : List ℕ). Publish false 0 false m.topic None bytes) (c.deref.ensures.value ∙ c.in_ok-bytes.ensures.bytes) in
    let writable = ap is_writable (sym same) ∙ c.in_ok-bytes-2.ensures.writable in
    record {
      count = front-goes n c.args.now c.args.owner c.args.most count front;
      some = above count c.if-count-eq0.false;
      bytes = c.in_ok-bytes-2.ensures.bytes ∙ ap spelling same;
      writable = writable;
      whole = written-whole c.spelling_spells.ensures m (subst IsUtf8 topic c.as_str-2.utf8) c.in_ok-bytes.ensures.fits writable;
    }

pub returns-in_err-bytes-2-clause-fault : goal.returns-in_err-bytes-2-clause-fault
returns-in_err-bytes-2-clause-fault c =
    let n = c.args.self.now in
    let count = c.in_ok-bytes.field-0.count in
    let front = subst (λ r. IsFront n c.args.now r c.args.most count) (c.room.ensures.room ∙ ap room (c.as_str.ensures.value ∙ c.in_ok-topic.ensures)) c.in_ok-bytes.ensures.front in
    let m = message n c.args.now c.args.owner count in
    let same : Publish false 0 false c.as_str-2.result.now None c.deref.result.now ≡ wire_of m =
    ap (λ (t : List ℕ). Publish false 0 false t None c.deref.result.now) (c.as_str-2.ensures.value ∙ c.in_ok-topic.ensures)
    ∙ ap (λ (bytes : List ℕ). Publish false 0 false m.topic None bytes) (c.deref.ensures.value ∙ c.in_ok-bytes.ensures.bytes) in
    let can = ap is_writable same ∙ front-writes n c.args.now c.args.owner c.args.most count front (above count c.if-count-eq0.false) in
    let p = err_from_is_err_and c.from_residual-in_err-bytes-2.result c.from_residual-in_err-bytes-2.ensures.1 in
    rw (p.1, p.2) (never-large c.in_err-bytes-2.field-0.0 (Publish false 0 false c.as_str-2.result.now None c.deref.result.now) c.in_err-bytes-2.ensures.fault can)
