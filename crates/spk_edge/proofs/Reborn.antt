-- Commands that are done at once do what the rules ask.
use Rattle.std.proofs.Common.{◌≡◌, ◌⊎◌, inl, inr, ◌∙◌, ap, sym, refl, subst, ℕ, ◌^◌, nat_lt, Bool, true, false, ◌&&◌, cond, List, [], ◌∷◌, ◌++◌, map, Option, Some, None, Result, Ok, Err}
use Rattle.std.specs.List.{enumerate_from, filter, last_or, list_all}
use Rattle.spk_packets.specs.Message as packets
use Rattle.spk_packets.specs.Spelling.{spelling}
use Rattle.spk_device.specs.Book.{Book, DeviceData}
use Rattle.spk_edge_rules.specs.declared.fault.EdgeFault.{EdgeFault}
use Rattle.spk_edge_rules.specs.declared.fault.EdgeFault.TheVariants as fault
use Rattle.spk_edge_rules.specs.declared.phase.Phase.TheVariants.{Born}
use Rattle.spk_edge_rules.specs.Answers.{Answer}
use Rattle.spk_edge_rules.specs.Writable.{is_writable}
use Rattle.spk_edge_rules.specs.Births.{births_at, device_birth}
use Rattle.spk_edge_rules.specs.Commands.{Order, command_of, wants_rebirth, writes_in}
use Rattle.spk_edge_rules.specs.Inputs.{Command, Input}
use Rattle.spk_edge_rules.specs.Messages.{Draft}
use Rattle.spk_edge_rules.specs.Rules as rule
use Rattle.spk_edge_rules.specs.Rules.{Given, acked, acts, fits, is_timely}
use Rattle.spk_edge_rules.specs.Step as step
use Rattle.spk_edge.specs.Patch.{IsDone, IsRefusal}
use Rattle.spk_edge.specs.Reborn.{IsReborn, IsUnborn, acks, command_input, stamp_at}
use Rattle.spk_edge.specs.Rows.{all_born}
use Rattle.spk_edge.specs.Sealing.{AreWhole, IsUnwritten, bytes_of, numbered, seq_past, wire_of}
use Rattle.spk_edge.specs.View.{NodeData, unnumbered, write_view}
use Rattle.spk_edge.specs.declared.message.Out.{Out}
use Rattle.spk_edge.proofs.Plans.{act_refused, all-timely, answer-ok, late, seqs-are, wires-are}

-- ---- the stamps of births

abbrev early : Draft → Bool
early d = nat_lt d.stamp (2 ^ 63)

births-timely : (b : Book) (bd stamp : ℕ) → nat_lt stamp (2 ^ 63) ≡ true → list_all early (births_at b bd stamp) ≡ true
births-timely b bd stamp is = ap (λ t. t && list_all early (map (device_birth b stamp) (filter (λ (e : ℕ × DeviceData). e.1.up) (enumerate_from 0 b.devices)))) is ∙ devices (filter (λ (e : ℕ × DeviceData). e.1.up) (enumerate_from 0 b.devices))
  where
    devices : (xs : List (ℕ × DeviceData)) → list_all early (map (device_birth b stamp) xs) ≡ true
    devices [] = refl
    devices (x ∷ xs) = ap (λ t. t && list_all early (map (device_birth b stamp) xs)) is ∙ devices xs

births-late : (b : Book) (bd stamp : ℕ) → nat_lt stamp (2 ^ 63) ≡ false → list_all early (births_at b bd stamp) ≡ false
births-late b bd stamp is = ap (λ t. t && list_all early (map (device_birth b stamp) (filter (λ (e : ℕ × DeviceData). e.1.up) (enumerate_from 0 b.devices)))) is

abbrev stamps : List Draft → List ℕ
stamps ds = map (λ (d : Draft). d.stamp) ds

births-last : (b : Book) (bd stamp : ℕ) (before : Option ℕ) → last_or before (stamps (births_at b bd stamp)) ≡ Some stamp
births-last b bd stamp before = devices (filter (λ (e : ℕ × DeviceData). e.1.up) (enumerate_from 0 b.devices))
  where
    devices : (xs : List (ℕ × DeviceData)) → last_or (Some stamp) (stamps (map (device_birth b stamp) xs)) ≡ Some stamp
    devices [] = refl
    devices (x ∷ xs) = devices xs

-- ---- what the rules ask

abbrev gave : Given → Result Given EdgeFault
gave g = Ok g

abbrev handing : rule.Asked → List Order → Given
handing a orders = record (rule.nothing a) { writes = writes_in orders }

acts-so : (n : NodeData) (now : ℕ) (topic payload : List ℕ) (orders : List Order) (g : Given) → command_of n.config n.standing.asked.book topic payload ≡ Some orders
    → rule.obeying n.standing.asked now orders ≡ g → acts n.config n.standing.seq n.standing.asked now (Command topic payload) ≡ Ok g
acts-so n now topic payload orders g some is = ap (rule.commanded n.standing.asked now) some ∙ ap gave is

-- births are asked for
asks-births : (n : NodeData) (now : ℕ) (topic payload : List ℕ) (orders : List Order) → command_of n.config n.standing.asked.book topic payload ≡ Some orders
    → (wants_rebirth orders && rule.is_born n.standing.asked.phase) ≡ true
    → acts n.config n.standing.seq n.standing.asked now (Command topic payload) ≡ Ok (rule.born n.standing.asked now (handing n.standing.asked orders))
asks-births n now topic payload orders some asked =
    let a = n.standing.asked in
    acts-so n now topic payload orders (rule.born a now (handing a orders)) some (ap (λ b. cond b (rule.born a now (handing a orders)) (handing a orders)) asked)

asks-none : (n : NodeData) (now : ℕ) (topic payload : List ℕ) (orders : List Order) → command_of n.config n.standing.asked.book topic payload ≡ Some orders
    → (wants_rebirth orders && rule.is_born n.standing.asked.phase) ≡ false
    → acts n.config n.standing.seq n.standing.asked now (Command topic payload) ≡ Ok (handing n.standing.asked orders)
asks-none n now topic payload orders some asked =
    let a = n.standing.asked in
    acts-so n now topic payload orders (handing a orders) some (ap (λ b. cond b (rule.born a now (handing a orders)) (handing a orders)) asked)

-- ---- what is done

abbrev sent : NodeData → Given → List packets.Message
sent n g = g.plain ++ step.wires n.config n.standing.seq g.drafts

pub done-ruled : (n : NodeData) (i : Input) (r : Given) (after : NodeData) (out : Out) → fits n.standing.asked.phase i.act ≡ true → nat_lt i.now (2 ^ 63) ≡ true
    → acts n.config n.standing.seq n.standing.asked i.now i.act ≡ Ok r → is_timely (acked i.ack r) ≡ true → list_all is_writable (sent n (acked i.ack r)) ≡ true
    → map bytes_of out.packets.items ≡ map spelling (sent n (acked i.ack r)) → map write_view out.writes.items ≡ (acked i.ack r).writes → out.close ≡ (acked i.ack r).close
    → AreWhole (numbered n.config.numbering n.standing.seq (map (unnumbered n.config) (acked i.ack r).drafts))
    → after ≡ record n { standing = step.stepped n.config n.standing i (acked i.ack r) } → IsDone n i after out
done-ruled n i r after out fit moment acted timely writable packets writes close whole stands =
    let a : Answer = record { given = acked i.ack r; packets = sent n (acked i.ack r) } in
    record {
      answer = a;
      answered = all-timely n i r true timely fit moment acted ∙ ap (λ b. cond b (answer-ok a) (Err fault.TooLarge)) writable;
      packets = packets;
      writes = writes;
      close = close;
      whole = whole;
      stands = stands;
    }

-- what can't be written is refused
pub large-ruled : (n : NodeData) (i : Input) (r : Given) → fits n.standing.asked.phase i.act ≡ true → nat_lt i.now (2 ^ 63) ≡ true
    → acts n.config n.standing.seq n.standing.asked i.now i.act ≡ Ok r → is_timely (acked i.ack r) ≡ true → list_all is_writable (sent n (acked i.ack r)) ≡ false → IsRefusal n i fault.TooLarge
large-ruled n i r fit moment acted timely never =
    let a : Answer = record { given = acked i.ack r; packets = sent n (acked i.ack r) } in
    inr (all-timely n i r true timely fit moment acted ∙ ap (λ b. cond b (answer-ok a) (Err fault.TooLarge)) never)

-- the node with this stamp and this number, Born
abbrev stood : NodeData → Option ℕ → ℕ → NodeData
stood n stamp seq = record n { standing = record { asked = record n.standing.asked { phase = Born; stamp = stamp }; seq = seq } }

pub reborn-done : (n : NodeData) (now : ℕ) (ack : Option ℕ) (topic payload : List ℕ) (orders : List Order) (after : NodeData) (out : Out)
    → fits n.standing.asked.phase (Command topic payload) ≡ true → nat_lt now (2 ^ 63) ≡ true
    → command_of n.config n.standing.asked.book topic payload ≡ Some orders → (wants_rebirth orders && rule.is_born n.standing.asked.phase) ≡ true
    → IsReborn n now ack (writes_in orders) after out → IsDone n (command_input now ack topic payload) after out
reborn-done n now ack topic payload orders after out fit moment some asked = by ack
  where
    b : Book
    b = n.standing.asked.book

    stamp : ℕ
    stamp = stamp_at n now

    drafts : List Draft
    drafts = births_at b n.standing.asked.will_bd stamp

    wires : map wire_of (all_born n stamp) ≡ step.wires n.config n.standing.seq drafts
    wires = wires-are n.config n.standing.seq drafts

    acted : acts n.config n.standing.seq n.standing.asked now (Command topic payload) ≡ Ok (rule.born n.standing.asked now (handing n.standing.asked orders))
    acted = asks-births n now topic payload orders some asked

    stands-so : after ≡ stood n (Some stamp) (seq_past n.config.numbering n.standing.seq (map (unnumbered n.config) drafts)) → after ≡ stood n (step.stamp_after n.standing.asked.stamp drafts) (step.seq_after n.config n.standing.seq drafts)
    stands-so is =
        is ∙ ap (λ k. stood n (Some stamp) k) (seqs-are n.config n.standing.seq drafts)
        ∙ ap (λ o. stood n o (step.seq_after n.config n.standing.seq drafts)) (sym (births-last b n.standing.asked.will_bd stamp n.standing.asked.stamp))

    by : (ack : Option ℕ) → IsReborn n now ack (writes_in orders) after out → IsDone n (command_input now ack topic payload) after out
    by None is =
        done-ruled n (command_input now None topic payload) (rule.born n.standing.asked now (handing n.standing.asked orders)) after out fit moment acted (births-timely b n.standing.asked.will_bd stamp is.timely)
        (ap (λ l. list_all is_writable (acks None ++ l)) (sym wires) ∙ is.writable) (is.packets ∙ ap (λ l. map spelling (acks None ++ l)) wires) is.writes is.close is.whole (stands-so is.stands)
    by (Some id) is =
        done-ruled n (command_input now (Some id) topic payload) (rule.born n.standing.asked now (handing n.standing.asked orders)) after out fit moment acted (births-timely b n.standing.asked.will_bd stamp is.timely)
        (ap (λ l. list_all is_writable (acks (Some id) ++ l)) (sym wires) ∙ is.writable) (is.packets ∙ ap (λ l. map spelling (acks (Some id) ++ l)) wires) is.writes is.close is.whole (stands-so is.stands)

pub unborn-refused : (n : NodeData) (now : ℕ) (ack : Option ℕ) (topic payload : List ℕ) (orders : List Order) (e : EdgeFault)
    → fits n.standing.asked.phase (Command topic payload) ≡ true → nat_lt now (2 ^ 63) ≡ true
    → command_of n.config n.standing.asked.book topic payload ≡ Some orders → (wants_rebirth orders && rule.is_born n.standing.asked.phase) ≡ true
    → IsUnborn n now ack e → IsRefusal n (command_input now ack topic payload) e
unborn-refused n now ack topic payload orders e fit moment some asked is = by ack is
  where
    b : Book
    b = n.standing.asked.book

    stamp : ℕ
    stamp = stamp_at n now

    drafts : List Draft
    drafts = births_at b n.standing.asked.will_bd stamp

    wires : map wire_of (all_born n stamp) ≡ step.wires n.config n.standing.seq drafts
    wires = wires-are n.config n.standing.seq drafts

    r : Given
    r = rule.born n.standing.asked now (handing n.standing.asked orders)

    acted : acts n.config n.standing.seq n.standing.asked now (Command topic payload) ≡ Ok r
    acted = asks-births n now topic payload orders some asked

    by : (ack : Option ℕ) → IsUnborn n now ack e → IsRefusal n (command_input now ack topic payload) e
    by ack (inl memory) = inl memory
    by ack (inr (inl (end, never))) =
        subst (IsRefusal n (command_input now ack topic payload)) (sym end) (late n (command_input now ack topic payload) r fit moment acted (births-late b n.standing.asked.will_bd stamp never))
    by None (inr (inr (large, timely, never))) =
        subst (IsRefusal n (command_input now None topic payload)) (sym large) (large-ruled n (command_input now None topic payload) r fit moment acted (births-timely b n.standing.asked.will_bd stamp timely)
        (ap (λ l. list_all is_writable (acks None ++ l)) (sym wires) ∙ never))
    by (Some id) (inr (inr (large, timely, never))) =
        subst (IsRefusal n (command_input now (Some id) topic payload)) (sym large) (large-ruled n (command_input now (Some id) topic payload) r fit moment acted (births-timely b n.standing.asked.will_bd stamp timely)
        (ap (λ l. list_all is_writable (acks (Some id) ++ l)) (sym wires) ∙ never))

-- ---- where no births are asked for

pub handed-done : (n : NodeData) (now : ℕ) (ack : Option ℕ) (topic payload : List ℕ) (orders : List Order) (out : Out)
    → fits n.standing.asked.phase (Command topic payload) ≡ true → nat_lt now (2 ^ 63) ≡ true
    → command_of n.config n.standing.asked.book topic payload ≡ Some orders → (wants_rebirth orders && rule.is_born n.standing.asked.phase) ≡ false
    → map bytes_of out.packets.items ≡ map spelling (acks ack) → list_all is_writable (acks ack) ≡ true → map write_view out.writes.items ≡ writes_in orders → out.close ≡ false
    → IsDone n (command_input now ack topic payload) n out
handed-done n now ack topic payload orders out fit moment some asked bytes writable writes close = by ack bytes writable
  where
    acted : acts n.config n.standing.seq n.standing.asked now (Command topic payload) ≡ Ok (handing n.standing.asked orders)
    acted = asks-none n now topic payload orders some asked

    by : (ack : Option ℕ) → map bytes_of out.packets.items ≡ map spelling (acks ack) → list_all is_writable (acks ack) ≡ true → IsDone n (command_input now ack topic payload) n out
    by None bytes writable = done-ruled n (command_input now None topic payload) (handing n.standing.asked orders) n out fit moment acted refl writable bytes writes close tt refl
    by (Some id) bytes writable = done-ruled n (command_input now (Some id) topic payload) (handing n.standing.asked orders) n out fit moment acted refl writable bytes writes close tt refl

pub handed-refused : (n : NodeData) (now : ℕ) (ack : Option ℕ) (topic payload : List ℕ) (orders : List Order) (e : EdgeFault)
    → fits n.standing.asked.phase (Command topic payload) ≡ true → nat_lt now (2 ^ 63) ≡ true
    → command_of n.config n.standing.asked.book topic payload ≡ Some orders → (wants_rebirth orders && rule.is_born n.standing.asked.phase) ≡ false
    → IsUnwritten (acks ack) e → IsRefusal n (command_input now ack topic payload) e
handed-refused n now ack topic payload orders e fit moment some asked is = by ack is
  where
    acted : acts n.config n.standing.seq n.standing.asked now (Command topic payload) ≡ Ok (handing n.standing.asked orders)
    acted = asks-none n now topic payload orders some asked

    by : (ack : Option ℕ) → IsUnwritten (acks ack) e → IsRefusal n (command_input now ack topic payload) e
    by ack (inl memory) = inl memory
    by None (inr (large, never)) =
        subst (IsRefusal n (command_input now None topic payload)) (sym large) (large-ruled n (command_input now None topic payload) (handing n.standing.asked orders) fit moment acted refl never)
    by (Some id) (inr (large, never)) =
        subst (IsRefusal n (command_input now (Some id) topic payload)) (sym large) (large-ruled n (command_input now (Some id) topic payload) (handing n.standing.asked orders) fit moment acted refl never)

-- what isn't a command
pub command-never : (n : NodeData) (now : ℕ) (ack : Option ℕ) (topic payload : List ℕ) (e : EdgeFault) → fits n.standing.asked.phase (Command topic payload) ≡ true → nat_lt now (2 ^ 63) ≡ true
    → (e ≡ fault.NoMemory) ⊎ ((e ≡ fault.BadCommand) × (command_of n.config n.standing.asked.book topic payload ≡ None)) → IsRefusal n (command_input now ack topic payload) e
command-never n now ack topic payload e fit moment (inl memory) = inl memory
command-never n now ack topic payload e fit moment (inr (bad, none)) =
    subst (IsRefusal n (command_input now ack topic payload)) (sym bad)
    (act_refused n (command_input now ack topic payload) fault.BadCommand fit moment (inr (inl (ap (rule.commanded n.standing.asked now) none))))
