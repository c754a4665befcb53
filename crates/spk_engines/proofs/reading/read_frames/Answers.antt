use Rattle.std.proofs.Common.{◌≡◌, ◌∙◌, ap, refl, subst, arith, Some, None, take, ◌++◌}
use Rattle.spk_ingress.specs.Passes.{frames_put}
use Rattle.spk_ingress.specs.declared.frame.Frame.TheVariants as frame
use Rattle.spk_engines.specs.Counted.{taken}
use Rattle.spk_engines.specs.Reading.{IsPiece, TakesIn}
use Rattle.spk_engines.proofs.Streams.{begun, upto_begun, wants_start, reads_end, reads_piece, taken_front, whole_end, part_end, cut_ends, fault_ends, upto_piece}
use Rattle.spk_engines.proofs.reading.read_frames.Goals as goal

pub loop-turn-init : goal.loop-turn-init
loop-turn-init g c = record {
  into = c.requires;
  sender = refl;
  room = c.in-Ok.ensures.len;
  before = c.failures-before.ensures ∙ ap (λ d. g.S.Failures.count d) c.begin.ensures.device;
  reads = begun g.S.Read.remaining c.args.reader.now.device c.begin.new.self.device c.new-waiting.result.items (frames_put c.args.pass.now) c.begin.ensures.device c.new-waiting.ensures.items;
  wants = rw c.new-waiting.ensures.items wants_start;
  count = c.begin.ensures.none;
  turns = upto_begun g.S.Read.remaining c.args.reader.now.device c.begin.new.self.device (taken c.begin.new.self) c.begin.ensures.device;
}

pub returns-then-count-eq0-clause-whole : goal.returns-then-count-eq0-clause-whole
returns-then-count-eq0-clause-whole g c =
    let piece : IsPiece (g.S.Read.remaining c.loop-turn.reader.device) (g.S.Read.remaining c.read_piece.new.reader.device) c.read_piece.new.piece.items (Some c.in-Ok-Some.count) =
    subst (IsPiece (g.S.Read.remaining c.loop-turn.reader.device) (g.S.Read.remaining c.read_piece.new.reader.device) c.read_piece.new.piece.items) c.in-Ok-Some.field-0-is c.in-Ok-Some.ensures.piece in
    whole_end (g.S.Read.remaining c.args.reader.now.device) (g.S.Read.remaining c.read_piece.new.reader.device) c.loop-turn.waiting.items (frames_put c.args.pass.now) (frames_put c.loop-turn.pass) (frames_put c.end.new.pass) frame.Cut c.end.result
    (reads_end (g.S.Read.remaining c.args.reader.now.device) (g.S.Read.remaining c.loop-turn.reader.device) (g.S.Read.remaining c.read_piece.new.reader.device) c.loop-turn.waiting.items c.read_piece.new.piece.items c.in-Ok-Some.count (frames_put c.args.pass.now) (frames_put c.loop-turn.pass) c.loop-turn.invariant.reads piece c.if-count-eq0.true)
    (cut_ends (g.S.Read.remaining c.read_piece.new.reader.device) c.loop-turn.waiting.items (piece.2 c.if-count-eq0.true) c.loop-turn.invariant.wants)
    c.end.ensures.ok

pub returns-then-count-eq0-clause-part : goal.returns-then-count-eq0-clause-part
returns-then-count-eq0-clause-part g c =
    let piece : IsPiece (g.S.Read.remaining c.loop-turn.reader.device) (g.S.Read.remaining c.read_piece.new.reader.device) c.read_piece.new.piece.items (Some c.in-Ok-Some.count) =
    subst (IsPiece (g.S.Read.remaining c.loop-turn.reader.device) (g.S.Read.remaining c.read_piece.new.reader.device) c.read_piece.new.piece.items) c.in-Ok-Some.field-0-is c.in-Ok-Some.ensures.piece in
    part_end (g.S.Read.remaining c.args.reader.now.device) (g.S.Read.remaining c.read_piece.new.reader.device) c.loop-turn.waiting.items (frames_put c.args.pass.now) (frames_put c.loop-turn.pass) (frames_put c.end.new.pass) c.end.result
    (reads_end (g.S.Read.remaining c.args.reader.now.device) (g.S.Read.remaining c.loop-turn.reader.device) (g.S.Read.remaining c.read_piece.new.reader.device) c.loop-turn.waiting.items c.read_piece.new.piece.items c.in-Ok-Some.count (frames_put c.args.pass.now) (frames_put c.loop-turn.pass) c.loop-turn.invariant.reads piece c.if-count-eq0.true)
    c.end.ensures.closed

pub returns-in-Ok-Some-take_in-clause-whole : goal.returns-in-Ok-Some-take_in-clause-whole
returns-in-Ok-Some-take_in-clause-whole g c =
    let piece : IsPiece (g.S.Read.remaining c.loop-turn.reader.device) (g.S.Read.remaining c.read_piece.new.reader.device) c.read_piece.new.piece.items (Some c.in-Ok-Some.count) =
    subst (IsPiece (g.S.Read.remaining c.loop-turn.reader.device) (g.S.Read.remaining c.read_piece.new.reader.device) c.read_piece.new.piece.items) c.in-Ok-Some.field-0-is c.in-Ok-Some.ensures.piece in
    let seen : c.front_of.result.now ≡ take c.in-Ok-Some.count c.read_piece.new.piece.items = c.front_of.ensures ∙ ap (λ l. take c.in-Ok-Some.count l) c.as_slice.ensures.value in
    let taken : TakesIn (Some c.in-Ok-Some-take_in.fault) (c.loop-turn.waiting.items ++ c.front_of.result.now) c.take_in.new.waiting.items (frames_put c.loop-turn.pass) (frames_put c.take_in.new.pass) =
    subst (λ f. TakesIn f (c.loop-turn.waiting.items ++ c.front_of.result.now) c.take_in.new.waiting.items (frames_put c.loop-turn.pass) (frames_put c.take_in.new.pass)) c.in-Ok-Some-take_in.field-0-is c.in-Ok-Some-take_in.ensures.ok in
    whole_end (g.S.Read.remaining c.args.reader.now.device) (g.S.Read.remaining c.read_piece.new.reader.device) c.take_in.new.waiting.items (frames_put c.args.pass.now) (frames_put c.take_in.new.pass) (frames_put c.end-in-Ok-Some-take_in.new.pass) (frame.Fault c.in-Ok-Some-take_in.fault) c.end-in-Ok-Some-take_in.result
    (reads_piece (g.S.Read.remaining c.args.reader.now.device) (g.S.Read.remaining c.loop-turn.reader.device) (g.S.Read.remaining c.read_piece.new.reader.device) c.loop-turn.waiting.items c.read_piece.new.piece.items c.take_in.new.waiting.items c.in-Ok-Some.count (frames_put c.args.pass.now) (frames_put c.loop-turn.pass) (frames_put c.take_in.new.pass) c.loop-turn.invariant.reads piece
    (taken_front c.read_piece.new.piece.items c.in-Ok-Some.count c.loop-turn.waiting.items c.take_in.new.waiting.items (frames_put c.loop-turn.pass) (frames_put c.take_in.new.pass) c.front_of.result.now seen taken.0))
    (fault_ends (g.S.Read.remaining c.read_piece.new.reader.device) c.take_in.new.waiting.items c.in-Ok-Some-take_in.fault taken.1.0 taken.1.1)
    c.end-in-Ok-Some-take_in.ensures.ok

pub returns-in-Ok-Some-take_in-clause-part : goal.returns-in-Ok-Some-take_in-clause-part
returns-in-Ok-Some-take_in-clause-part g c =
    let piece : IsPiece (g.S.Read.remaining c.loop-turn.reader.device) (g.S.Read.remaining c.read_piece.new.reader.device) c.read_piece.new.piece.items (Some c.in-Ok-Some.count) =
    subst (IsPiece (g.S.Read.remaining c.loop-turn.reader.device) (g.S.Read.remaining c.read_piece.new.reader.device) c.read_piece.new.piece.items) c.in-Ok-Some.field-0-is c.in-Ok-Some.ensures.piece in
    let seen : c.front_of.result.now ≡ take c.in-Ok-Some.count c.read_piece.new.piece.items = c.front_of.ensures ∙ ap (λ l. take c.in-Ok-Some.count l) c.as_slice.ensures.value in
    let taken : TakesIn (Some c.in-Ok-Some-take_in.fault) (c.loop-turn.waiting.items ++ c.front_of.result.now) c.take_in.new.waiting.items (frames_put c.loop-turn.pass) (frames_put c.take_in.new.pass) =
    subst (λ f. TakesIn f (c.loop-turn.waiting.items ++ c.front_of.result.now) c.take_in.new.waiting.items (frames_put c.loop-turn.pass) (frames_put c.take_in.new.pass)) c.in-Ok-Some-take_in.field-0-is c.in-Ok-Some-take_in.ensures.ok in
    part_end (g.S.Read.remaining c.args.reader.now.device) (g.S.Read.remaining c.read_piece.new.reader.device) c.take_in.new.waiting.items (frames_put c.args.pass.now) (frames_put c.take_in.new.pass) (frames_put c.end-in-Ok-Some-take_in.new.pass) c.end-in-Ok-Some-take_in.result
    (reads_piece (g.S.Read.remaining c.args.reader.now.device) (g.S.Read.remaining c.loop-turn.reader.device) (g.S.Read.remaining c.read_piece.new.reader.device) c.loop-turn.waiting.items c.read_piece.new.piece.items c.take_in.new.waiting.items c.in-Ok-Some.count (frames_put c.args.pass.now) (frames_put c.loop-turn.pass) (frames_put c.take_in.new.pass) c.loop-turn.invariant.reads piece
    (taken_front c.read_piece.new.piece.items c.in-Ok-Some.count c.loop-turn.waiting.items c.take_in.new.waiting.items (frames_put c.loop-turn.pass) (frames_put c.take_in.new.pass) c.front_of.result.now seen taken.0))
    c.end-in-Ok-Some-take_in.ensures.closed

pub returns-in-Err-take_in-clause-part : goal.returns-in-Err-take_in-clause-part
returns-in-Err-take_in-clause-part g c =
    let piece : IsPiece (g.S.Read.remaining c.loop-turn.reader.device) (g.S.Read.remaining c.read_piece.new.reader.device) c.read_piece.new.piece.items (Some c.in-Ok-Some.count) =
    subst (IsPiece (g.S.Read.remaining c.loop-turn.reader.device) (g.S.Read.remaining c.read_piece.new.reader.device) c.read_piece.new.piece.items) c.in-Ok-Some.field-0-is c.in-Ok-Some.ensures.piece in
    let seen : c.front_of.result.now ≡ take c.in-Ok-Some.count c.read_piece.new.piece.items = c.front_of.ensures ∙ ap (λ l. take c.in-Ok-Some.count l) c.as_slice.ensures.value in (
      c.in-Err-take_in.ensures.part.0,
      (reads_piece (g.S.Read.remaining c.args.reader.now.device) (g.S.Read.remaining c.loop-turn.reader.device) (g.S.Read.remaining c.read_piece.new.reader.device) c.loop-turn.waiting.items c.read_piece.new.piece.items c.in-Err-take_in.ensures.part.0 c.in-Ok-Some.count (frames_put c.args.pass.now) (frames_put c.loop-turn.pass) (frames_put c.take_in.new.pass) c.loop-turn.invariant.reads piece
          (taken_front c.read_piece.new.piece.items c.in-Ok-Some.count c.loop-turn.waiting.items c.in-Err-take_in.ensures.part.0 (frames_put c.loop-turn.pass) (frames_put c.take_in.new.pass) c.front_of.result.now seen c.in-Err-take_in.ensures.part.1)),
    )

pub loop-turn-preserved : goal.loop-turn-preserved
loop-turn-preserved g c =
    let piece : IsPiece (g.S.Read.remaining c.loop-turn.reader.device) (g.S.Read.remaining c.read_piece.new.reader.device) c.read_piece.new.piece.items (Some c.in-Ok-Some.count) =
    subst (IsPiece (g.S.Read.remaining c.loop-turn.reader.device) (g.S.Read.remaining c.read_piece.new.reader.device) c.read_piece.new.piece.items) c.in-Ok-Some.field-0-is c.in-Ok-Some.ensures.piece in
    let seen : c.front_of.result.now ≡ take c.in-Ok-Some.count c.read_piece.new.piece.items = c.front_of.ensures ∙ ap (λ l. take c.in-Ok-Some.count l) c.as_slice.ensures.value in
    let taken : TakesIn None (c.loop-turn.waiting.items ++ c.front_of.result.now) c.take_in.new.waiting.items (frames_put c.loop-turn.pass) (frames_put c.take_in.new.pass) =
    subst (λ f. TakesIn f (c.loop-turn.waiting.items ++ c.front_of.result.now) c.take_in.new.waiting.items (frames_put c.loop-turn.pass) (frames_put c.take_in.new.pass)) c.in-Ok-None-take_in.field-0-is c.in-Ok-None-take_in.ensures.ok in
    record {
      into = c.in-Ok-None-take_in.ensures.pass.0;
      sender = c.in-Ok-None-take_in.ensures.pass.1 ∙ c.loop-turn.invariant.sender;
      room = c.in-Ok-Some.ensures.len ∙ c.loop-turn.invariant.room;
      before = c.loop-turn.invariant.before;
      reads = (reads_piece (g.S.Read.remaining c.args.reader.now.device) (g.S.Read.remaining c.loop-turn.reader.device) (g.S.Read.remaining c.read_piece.new.reader.device) c.loop-turn.waiting.items c.read_piece.new.piece.items c.take_in.new.waiting.items c.in-Ok-Some.count (frames_put c.args.pass.now) (frames_put c.loop-turn.pass) (frames_put c.take_in.new.pass) c.loop-turn.invariant.reads piece
          (taken_front c.read_piece.new.piece.items c.in-Ok-Some.count c.loop-turn.waiting.items c.take_in.new.waiting.items (frames_put c.loop-turn.pass) (frames_put c.take_in.new.pass) c.front_of.result.now seen taken.0));
      wants = taken.1;
      count = omega (arith, c.loop-turn.invariant.count, c.read_piece.ensures.taken);
      turns = upto_piece (g.S.Read.remaining c.args.reader.now.device) (g.S.Read.remaining c.loop-turn.reader.device) (g.S.Read.remaining c.read_piece.new.reader.device) c.loop-turn.reader.taken c.read_piece.new.reader.taken c.in-Ok-Some.count c.read_piece.new.piece.items c.loop-turn.invariant.turns piece
          (c.in-Ok-Some.ensures.len ∙ c.loop-turn.invariant.room) (omega (arith, c.read_piece.ensures.taken));
    }

pub returns-in-Ok-Some-take_in-clause-turns : goal.returns-in-Ok-Some-take_in-clause-turns
returns-in-Ok-Some-take_in-clause-turns g c =
    let piece : IsPiece (g.S.Read.remaining c.loop-turn.reader.device) (g.S.Read.remaining c.read_piece.new.reader.device) c.read_piece.new.piece.items (Some c.in-Ok-Some.count) =
    subst (IsPiece (g.S.Read.remaining c.loop-turn.reader.device) (g.S.Read.remaining c.read_piece.new.reader.device) c.read_piece.new.piece.items) c.in-Ok-Some.field-0-is c.in-Ok-Some.ensures.piece in
    upto_piece (g.S.Read.remaining c.args.reader.now.device) (g.S.Read.remaining c.loop-turn.reader.device) (g.S.Read.remaining c.read_piece.new.reader.device) c.loop-turn.reader.taken c.read_piece.new.reader.taken c.in-Ok-Some.count c.read_piece.new.piece.items c.loop-turn.invariant.turns piece
    (c.in-Ok-Some.ensures.len ∙ c.loop-turn.invariant.room) (omega (arith, c.read_piece.ensures.taken))

pub returns-in-Err-take_in-clause-turns : goal.returns-in-Err-take_in-clause-turns
returns-in-Err-take_in-clause-turns g c =
    let piece : IsPiece (g.S.Read.remaining c.loop-turn.reader.device) (g.S.Read.remaining c.read_piece.new.reader.device) c.read_piece.new.piece.items (Some c.in-Ok-Some.count) =
    subst (IsPiece (g.S.Read.remaining c.loop-turn.reader.device) (g.S.Read.remaining c.read_piece.new.reader.device) c.read_piece.new.piece.items) c.in-Ok-Some.field-0-is c.in-Ok-Some.ensures.piece in
    upto_piece (g.S.Read.remaining c.args.reader.now.device) (g.S.Read.remaining c.loop-turn.reader.device) (g.S.Read.remaining c.read_piece.new.reader.device) c.loop-turn.reader.taken c.read_piece.new.reader.taken c.in-Ok-Some.count c.read_piece.new.piece.items c.loop-turn.invariant.turns piece
    (c.in-Ok-Some.ensures.len ∙ c.loop-turn.invariant.room) (omega (arith, c.read_piece.ensures.taken))
