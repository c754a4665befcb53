use Rattle.std.proofs.Common.{◌≡◌, ◌∙◌, sym}
use Rattle.spk_packets.specs.declared.fault.PacketFault.TheVariants.{NoMemory, More}
use Rattle.spk_packets.specs.View.{view}
use Rattle.spk_packets.proofs.Waiting.{took, stands_ok, stands_err}
use Rattle.spk_packets.proofs.feed.Feed.next.Goals as goal
use Rattle.spk_packets.proofs.feed.Feed.next.Goals.{in-More, in_default}

pub returns-in-Ok-clause-taken : goal.returns-in-Ok-clause-taken
returns-in-Ok-clause-taken c = took c.self.inside.buffer.items c.as_slice.result.now c.rest.result.now c.args.self.now _ c.self.inside.start c.in-Ok.n (view c.in-Ok.packet) c.as_slice.ensures.value c.rest.ensures c.self.view_is c.pass-self-inside.ensures.rest c.in-Ok.ensures.found

pub returns-in-Ok-clause-only : goal.returns-in-Ok-clause-only
returns-in-Ok-clause-only c = λ front rest p spells parts.
    stands_ok c.self.inside.buffer.items c.as_slice.result.now c.rest.result.now c.args.self.now front rest c.self.inside.start p c.as_slice.ensures.value c.rest.ensures c.self.view_is spells parts c.in-Ok.packet c.in-Ok.n c.in-Ok.ensures.only

no_more : More ≡ NoMemory → ⊥
no_more e = absurd cc

pub returns-after-fault-clause-only : goal.returns-after-fault-clause-only
returns-after-fault-clause-only c = λ front rest p spells parts.
    let none : c.in-Err.fault ≡ NoMemory = stands_err c.self.inside.buffer.items c.as_slice.result.now c.rest.result.now c.args.self.now front rest c.self.inside.start p c.as_slice.ensures.value c.rest.ensures c.self.view_is spells parts c.in-Err.fault c.in-Err.ensures.only in
    elim c.match-fault.branch [
      | in-More w ↦ absurd (no_more (sym w.in-More.is ∙ none))
      | in_default w ↦ rw w.result-is none
    ]
