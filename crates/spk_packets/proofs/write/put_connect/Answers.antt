use Rattle.std.proofs.Common.{◌∙◌, ap, ◌%◌, ◌++◌, ◌∷◌, false, List, ℕ}
use Rattle.std.specs.Option.{option_map}
use Rattle.spk_packets.specs.Grammar.{connect_flags, protocol}
use Rattle.spk_packets.specs.Spelling.{number, counted, will_part}
use Rattle.spk_packets.specs.View.{will_view}
use Rattle.spk_packets.proofs.Written.{connect_parts}
use Rattle.spk_packets.proofs.write.put_connect.Goals as goal

pub returns : goal.returns
returns c =
    let old = c.args.out.now.items in
    let will = option_map will_view c.args.will.now in
    let bits = connect_flags false false will c.args.clean % 256 in
    connect_parts old protocol (number c.from.result) (counted c.as_bytes.result.now) (will_part will)
    c.extend_from_slice.new.self.items c.push.new.self.items c.put_number.new.out.items c.put_counted.new.out.items c.put_will.new.out.items c.flags.result
    c.in_ok-extend_from_slice.ensures.items c.in_ok-push.ensures.items c.in_ok-put_number.ensures c.in_ok-put_counted.ensures c.in_ok-put_will.ensures
    ∙ ap (λ f. old ++ (protocol ++ (f ∷ (number c.from.result ++ (counted c.as_bytes.result.now ++ will_part will))))) c.flags.ensures
    ∙ ap (λ n. old ++ (protocol ++ (bits ∷ (number n ++ (counted c.as_bytes.result.now ++ will_part will))))) c.from.ensures
    ∙ ap (λ (b : List ℕ). old ++ (protocol ++ (bits ∷ (number c.args.keep ++ (counted b ++ will_part will))))) c.as_bytes.ensures.value
