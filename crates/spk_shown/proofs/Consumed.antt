-- What the view consumed in a session is what the session handed out.
use Rattle.std.proofs.Common.{◌≡◌, ◌∙◌, sym, ap, subst, refl, ℕ, Bool, true, false, List, [], ◌∷◌, ◌++◌, map, reverse, append_assoc, append-nil, if◌then◌else◌}
use Rattle.std.proofs.lemmas.List.{map-append, reverse-append}
use Rattle.std.specs.List.{filter_map}
use Rattle.spk_sequence.specs.declared.answer.Step.{Step}
use Rattle.spk_sequence.specs.declared.answer.Step.TheVariants as step
use Rattle.spk_sequence.specs.HostRecord.{Input}
use Rattle.spk_sequence.specs.Step as sequence
use Rattle.spk_order.specs.Ordered.{Ordered}
use Rattle.spk_order.specs.Step.{consumed_with}
use Rattle.spk_reading.specs.Data.{NumberedData}
use Rattle.spk_host_rules.specs.Data.{Event, Message, Consumed, Gap, NotLive, Over}
use Rattle.spk_host_rules.specs.Values.{consumed_of}
use Rattle.spk_host_node.specs.Inputs as node
use Rattle.spk_host_node.specs.Inputs.{Comes, Dies, Ticks, Ends, events_of, heard_at, order_after, since_end}
use Rattle.spk_host_node.specs.Step.{consumed_at, heard_by, message_of, step_of}
use Rattle.spk_edge_rules.specs.Config.{Setup}
use Rattle.spk_edge_rules.specs.Run as edge
use Rattle.spk_heard.specs.Read.{AreRead, all_taken, taken_at}
use Rattle.spk_shown.specs.Shown.{AreOver}
use Rattle.spk_shown.proofs.Events.{reverse_cons}
use Rattle.spk_shown.proofs.Session.{since_is}

consumed_more : (es fs : List Event) → consumed_of (es ++ fs) ≡ consumed_of es ++ consumed_of fs
consumed_more [] fs = refl
consumed_more (Consumed m now ∷ es) fs = ap (λ ms. m ∷ ms) (consumed_more es fs)
consumed_more (Gap now ∷ es) fs = consumed_more es fs
consumed_more (NotLive now ∷ es) fs = consumed_more es fs
consumed_more (Over ∷ es) fs = consumed_more es fs

consumed_all : (now : ℕ) (ms : List NumberedData) → consumed_of (reverse (map (consumed_at now) ms)) ≡ reverse (map message_of ms)
consumed_all now [] = refl
consumed_all now (m ∷ ms) =
    ap consumed_of (reverse_cons (consumed_at now m) (map (consumed_at now) ms))
    ∙ consumed_more (reverse (map (consumed_at now) ms)) (consumed_at now m ∷ [])
    ∙ ap (λ (xs : List Message). xs ++ message_of m ∷ []) (consumed_all now ms)
    ∙ sym (reverse_cons (message_of m) (map message_of ms))

step_consumed : (st : Step) (o : Ordered NumberedData) (m : NumberedData) (now : ℕ) →
    consumed_of (reverse (heard_by st (filter_map (λ p. p) (consumed_with o.kept m.number m st)) now)) ≡ reverse (map message_of (filter_map (λ p. p) (consumed_with o.kept m.number m st)))
step_consumed (step.Consumed n) o m now = consumed_all now (filter_map (λ p. p) (consumed_with o.kept m.number m (step.Consumed n)))
step_consumed step.Held o m now = refl
step_consumed step.Old o m now = refl
step_consumed step.Gap o m now = refl
step_consumed step.OldBirth o m now = refl
step_consumed step.DeadSession o m now = refl
step_consumed step.NotLive o m now = refl

heard_consumed : (o : Ordered NumberedData) (j : node.Input) → consumed_of (heard_at o j) ≡ reverse (map message_of (taken_at o j))
heard_consumed o (Comes m now) = step_consumed (step_of o m now) o m now
heard_consumed o (Dies bd) = go (sequence.is_match o.standing bd)
  where
    go : (b : Bool) → consumed_of (if b then Over ∷ [] else []) ≡ []
    go true = refl
    go false = refl
heard_consumed o (Ticks now) = go (sequence.is_over o.standing now)
  where
    go : (b : Bool) → consumed_of (if b then Gap now ∷ [] else []) ≡ []
    go true = refl
    go false = refl
heard_consumed o Ends = refl

more_taken : (xs ys : List NumberedData) (rest : List Message) → reverse (map message_of ys) ++ (reverse (map message_of xs) ++ rest) ≡ reverse (map message_of (xs ++ ys)) ++ rest
more_taken xs ys rest =
    sym (append_assoc (reverse (map message_of ys)) (reverse (map message_of xs)) rest)
    ∙ ap (λ (zs : List Message). zs ++ rest) (sym (reverse-append (map message_of xs) (map message_of ys)) ∙ ap reverse (sym (map-append message_of xs ys)))

pub consumed_along : (s : Setup) (published : List edge.Message) (wait width : ℕ) (is : List Input) (js earlier : List node.Input) → AreRead s published is js → AreOver earlier →
    consumed_of (events_of wait width (js ++ earlier)) ≡ reverse (map message_of (all_taken wait width js)) ++ consumed_of (events_of wait width earlier)
consumed_along s published wait width [] [] earlier are over = refl
consumed_along s published wait width [] (j ∷ js) earlier are over = absurd are
consumed_along s published wait width (i ∷ is) [] earlier are over = absurd are
consumed_along s published wait width (i ∷ is) (j ∷ js) earlier are over =
    let es = events_of wait width (js ++ earlier) in
    let rest = consumed_of (events_of wait width earlier) in
    ap (λ ks. consumed_of (heard_at (order_after wait width ks) j ++ es)) (since_is s published is js earlier are.1 over)
    ∙ consumed_more (heard_at (order_after wait width js) j) es
    ∙ ap (λ (ms : List Message). ms ++ consumed_of es) (heard_consumed (order_after wait width js) j)
    ∙ ap (λ (ms : List Message). reverse (map message_of (taken_at (order_after wait width js) j)) ++ ms) (consumed_along s published wait width is js earlier are.1 over)
    ∙ more_taken (all_taken wait width js) (taken_at (order_after wait width js) j) rest
