-- A plan that is taken up, or refused, behind a list of inputs.
use Rattle.std.proofs.Common.{◌≡◌, ◌⊎◌, inl, inr, ◌∙◌, ap, sym, refl, subst, ℕ, ◌-◌, Bool, true, false, ◌||◌, List, [], ◌∷◌, ◌++◌, map, length, Result, Ok, Err}
use Rattle.std.specs.Prelude.{is_err}
use Rattle.spk_packets.specs.Message as packets
use Rattle.spk_packets.specs.Spelling.{spelling}
use Rattle.spk_edge.specs.Along.{messages_from}
use Rattle.spk_edge_rules.specs.declared.fault.EdgeFault.{EdgeFault}
use Rattle.spk_edge_rules.specs.Answers.{Answer}
use Rattle.spk_edge_rules.specs.Config.{Setup}
use Rattle.spk_edge_rules.specs.Inputs.{Input}
use Rattle.spk_edge_rules.specs.Run.{Message, births_in, opened, posts, published, right_at, run_of, with_done}
use Rattle.spk_ingress.specs.declared.frame.Frame.{Frame}
use Rattle.spk_ingress.specs.declared.frame.Frame.TheVariants.{Packet}
use Rattle.spk_plant_edge.specs.Frames.{cut_if, frames_at, frames_by, is_cut, packet_frame}

-- messages stay as they are when more is published
abbrev pub Grows : Setup → Type 0
Grows s = (messages more : List Message) → messages_from s (messages ++ more) 0
    ≡ messages_from s messages 0 ++ messages_from s (messages ++ more) (length messages)

pub grown : (s : Setup) (is : List Input) (i : Input) (answer : Answer) → right_at s (run_of s is) i ≡ Ok answer
    → published (run_of s (i ∷ is)) ≡ published (run_of s is) ++ posts (opened (run_of s is) - 1) (births_in (published (run_of s is))) answer.given.drafts
grown s is i answer ok = ap (λ (r : Result Answer EdgeFault). published (with_done (run_of s is) i r)) ok

pub joined : (s : Setup) → Grows s → (is : List Input) (i : Input) (answer : Answer) → right_at s (run_of s is) i ≡ Ok answer
    → messages_from s (published (run_of s (i ∷ is))) 0
    ≡ messages_from s (published (run_of s is)) 0 ++ messages_from s (published (run_of s (i ∷ is))) (length (published (run_of s is)))
joined s grows is i answer ok =
    subst (λ (all : List Message). messages_from s all 0 ≡ messages_from s (published (run_of s is)) 0 ++ messages_from s all (length (published (run_of s is))))
    (sym (grown s is i answer ok))
    (grows (published (run_of s is)) (posts (opened (run_of s is) - 1) (births_in (published (run_of s is))) answer.given.drafts))

abbrev as_frame : List ℕ → Frame
as_frame bytes = Packet bytes

pub spelled : (ps : List packets.Message) → map packet_frame ps ≡ map Packet (map spelling ps)
spelled [] = refl
spelled (p ∷ ps) = ap (λ fs. packet_frame p ∷ fs) (spelled ps)

pub framed : (s : Setup) (is : List Input) (i : Input) (answer : Answer) (bytes : List (List ℕ)) → right_at s (run_of s is) i ≡ Ok answer
    → bytes ≡ map spelling answer.packets → frames_at s is i ≡ map Packet bytes ++ cut_if (is_cut i.act || answer.given.close)
framed s is i answer bytes ok same = ap (frames_by i.act) ok
    ∙ ap (λ fs. fs ++ cut_if (is_cut i.act || answer.given.close)) (spelled answer.packets ∙ ap (λ bs. map Packet bs) (sym same))

pub done_so : (r : Result Answer EdgeFault) (answer : Answer) → r ≡ Ok answer → is_err r ≡ false
done_so r answer ok = ap (λ (x : Result Answer EdgeFault). is_err x) ok

pub refused_so : (r : Result Answer EdgeFault) (fault : EdgeFault) → r ≡ Err fault → is_err r ≡ true
refused_so r fault err = ap (λ (x : Result Answer EdgeFault). is_err x) err
