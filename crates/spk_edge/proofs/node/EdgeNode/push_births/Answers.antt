use Rattle.std.proofs.Common.{◌≡◌, ◌∙◌, ◌<◌, ◌≤◌, ◌+◌, ◌%◌, ◌&&◌, ◌++◌, ◌∷◌, [], ℕ, List, true, ap, sym, subst, arith, drop, length, map}
use Rattle.std.proofs.lemmas.List.{map_push}
use Rattle.std.proofs.lemmas.Result.{err_from_is_err_and}
use Rattle.spk_packets.specs.Spelling.{spelling}
use Rattle.spk_device.specs.Book.{device_at}
use Rattle.spk_edge_rules.specs.Writable.{is_writable}
use Rattle.spk_edge_rules.specs.Births.{node_birth}
use Rattle.spk_edge.specs.Listed.{birth_if_up, births_from}
use Rattle.spk_edge.specs.Rows.{node_born}
use Rattle.spk_edge.specs.Sealing.{IsWhole, bytes_of, number_in, wire_of}
use Rattle.spk_edge.specs.View.{NodeData, unnumbered}
use Rattle.spk_edge.proofs.Bears.{all_of, left-none, left-step, node-first, so-far-bytes, so-far-never, so-far-past, so-far-start, so-far-step, so-far-whole, so-far-writable}
use Rattle.spk_edge.proofs.node.EdgeNode.push_births.Goals as goal

pub loop-number-init : goal.loop-number-init
loop-number-init c =
    let n = c.args.self.now in
    let b = n.standing.asked.book in
    let stamp = c.args.stamp in
    let before = map bytes_of c.args.packets.now.items in
    let first = unnumbered n.config (node_birth b n.standing.asked.will_bd stamp) in
    let k = c.opening_number-number.result in
    let e : k ≡ number_in n.config.numbering n.standing.seq first = c.opening_number-number.ensures in
    so-far-step n stamp before before (map bytes_of c.push.new.self.items) n.standing.seq ((k + 1) % 256) (all_of n stamp) (first ∷ []) (births_from n.config b stamp 0 b.devices)
    (so-far-start n stamp before) (node-first n stamp)
    (ap (map bytes_of) c.in_ok-push.ensures.items ∙ map_push bytes_of c.args.packets.now.items c.in_ok-node_packet.field-0
    ∙ ap (λ (l : List ℕ). before ++ l ∷ []) (c.in_ok-node_packet.ensures.bytes ∙ ap (λ j. spelling (wire_of (node_born n stamp j))) e))
    (ap (λ b. b && true) (ap (λ j. is_writable (wire_of (node_born n stamp j))) (sym e) ∙ c.in_ok-node_packet.ensures.writable))
    (subst (λ j. IsWhole (node_born n stamp j)) e c.in_ok-node_packet.ensures.whole, tt)
    (ap (λ j. (j + 1) % 256) e)

pub loop-number-preserved : goal.loop-number-preserved
loop-number-preserved c =
    let n = c.args.self.now in
    let b = n.standing.asked.book in
    let i = c.loop-number.number in
    let below : i < length b.devices = (let t = c.loop-number-test.true in let e = c.device_count-count.ensures.count in let same = ap (λ (n : NodeData). length n.standing.asked.book.devices) (sym c.self.view_is) in omega (arith, t, e, same)) in
    so-far-step n c.args.stamp (map bytes_of c.args.packets.now.items) (map bytes_of c.loop-number.packets.items) (map bytes_of c.push_born.new.packets.items) c.loop-number.next c.in_ok-next.next
    (births_from n.config b c.args.stamp i (drop i b.devices)) (birth_if_up n.config b c.args.stamp i (device_at b i)) (births_from n.config b c.args.stamp (i + 1) (drop (i + 1) b.devices))
    c.loop-number.invariant (left-step n.config b c.args.stamp i below) c.in_ok-next.ensures.bytes c.in_ok-next.ensures.writable c.in_ok-next.ensures.whole c.in_ok-next.ensures.next

pub returns-in_err-next-clause-fault : goal.returns-in_err-next-clause-fault
returns-in_err-next-clause-fault c =
    let n = c.args.self.now in
    let b = n.standing.asked.book in
    let i = c.loop-number.number in
    let below : i < length b.devices = (let t = c.loop-number-test.true in let e = c.device_count-count.ensures.count in let same = ap (λ (n : NodeData). length n.standing.asked.book.devices) (sym c.self.view_is) in omega (arith, t, e, same)) in
    let p = err_from_is_err_and c.from_residual-in_err-next.result c.from_residual-in_err-next.ensures.1 in
    rw (p.1, p.2) (so-far-never n c.args.stamp (map bytes_of c.args.packets.now.items) (map bytes_of c.loop-number.packets.items) c.loop-number.next
    (births_from n.config b c.args.stamp i (drop i b.devices)) (birth_if_up n.config b c.args.stamp i (device_at b i)) (births_from n.config b c.args.stamp (i + 1) (drop (i + 1) b.devices)) c.in_err-next.field-0.0
    c.loop-number.invariant (left-step n.config b c.args.stamp i below) c.in_err-next.ensures.fault)

pub returns-clause-bytes : goal.returns-clause-bytes
returns-clause-bytes c =
    let n = c.args.self.now in
    let b = n.standing.asked.book in
    let past : length b.devices ≤ c.loop-number.number = (let t = c.loop-number-test.false in let e = c.device_count-count.ensures.count in let same = ap (λ (n : NodeData). length n.standing.asked.book.devices) (sym c.self.view_is) in omega (arith, t, e, same)) in
    so-far-bytes n c.args.stamp (map bytes_of c.args.packets.now.items) (map bytes_of c.loop-number.packets.items) c.loop-number.next
    (births_from n.config b c.args.stamp c.loop-number.number (drop c.loop-number.number b.devices)) c.loop-number.invariant (left-none n.config b c.args.stamp c.loop-number.number past)

pub returns-clause-writable : goal.returns-clause-writable
returns-clause-writable c =
    let n = c.args.self.now in
    let b = n.standing.asked.book in
    let past : length b.devices ≤ c.loop-number.number = (let t = c.loop-number-test.false in let e = c.device_count-count.ensures.count in let same = ap (λ (n : NodeData). length n.standing.asked.book.devices) (sym c.self.view_is) in omega (arith, t, e, same)) in
    so-far-writable n c.args.stamp (map bytes_of c.args.packets.now.items) (map bytes_of c.loop-number.packets.items) c.loop-number.next
    (births_from n.config b c.args.stamp c.loop-number.number (drop c.loop-number.number b.devices)) c.loop-number.invariant (left-none n.config b c.args.stamp c.loop-number.number past)

pub returns-clause-whole : goal.returns-clause-whole
returns-clause-whole c =
    let n = c.args.self.now in
    let b = n.standing.asked.book in
    let past : length b.devices ≤ c.loop-number.number = (let t = c.loop-number-test.false in let e = c.device_count-count.ensures.count in let same = ap (λ (n : NodeData). length n.standing.asked.book.devices) (sym c.self.view_is) in omega (arith, t, e, same)) in
    so-far-whole n c.args.stamp (map bytes_of c.args.packets.now.items) (map bytes_of c.loop-number.packets.items) c.loop-number.next
    (births_from n.config b c.args.stamp c.loop-number.number (drop c.loop-number.number b.devices)) c.loop-number.invariant (left-none n.config b c.args.stamp c.loop-number.number past)

pub returns-clause-next : goal.returns-clause-next
returns-clause-next c =
    let n = c.args.self.now in
    let b = n.standing.asked.book in
    let past : length b.devices ≤ c.loop-number.number = (let t = c.loop-number-test.false in let e = c.device_count-count.ensures.count in let same = ap (λ (n : NodeData). length n.standing.asked.book.devices) (sym c.self.view_is) in omega (arith, t, e, same)) in
    so-far-past n c.args.stamp (map bytes_of c.args.packets.now.items) (map bytes_of c.loop-number.packets.items) c.loop-number.next
    (births_from n.config b c.args.stamp c.loop-number.number (drop c.loop-number.number b.devices)) c.loop-number.invariant (left-none n.config b c.args.stamp c.loop-number.number past)
