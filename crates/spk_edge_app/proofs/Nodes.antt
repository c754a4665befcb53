-- What the deeds of a run are to the node.
use Rattle.std.proofs.Common.{◌≡◌, ◌∙◌, ℕ, Bool, true, false, List, [], ◌∷◌, ◌++◌, Option, Some, None, refl, sym, ap, subst, append_assoc}
use Rattle.spk_edge.specs.Along.{node_of}
use Rattle.spk_edge.specs.Calls.{Call, CutOff, IsAfterCalls, TakeUp, Tell}
use Rattle.spk_edge.specs.View.{NodeData}
use Rattle.spk_edge.specs.declared.message.Out.{Out}
use Rattle.spk_edge_rules.specs.Arriving.{input_of}
use Rattle.spk_edge_rules.specs.Config.{Setup}
use Rattle.spk_edge_rules.specs.Inputs.{Input}
use Rattle.spk_packets.specs.Message.{Message}
use Rattle.spk_record.specs.declared.record.Record.{Record}
use Rattle.spk_edge_app.specs.Data.{App, Coming, Answered, Refused, Dropped, Deed, Opened, Read, Heard, Told, Asked, Wrote, Saved, GaveUp, Stopped, Handed, Over, LoginData}
use Rattle.spk_edge_app.specs.Run.{cut_where, of_node, on_node, told_of}
use Rattle.spk_edge_app.specs.Step.{Comes, IsRun, IsStep, Tells, acknowledged, connected, ending, fresh_app, sent_where, told, with_connection}

going_on : (close : Bool) (now : ℕ) (a : App) → (ending true close now a).node ≡ a.node
going_on true now a = refl
going_on false now a = refl

tells_on : (s : Setup) (calls : List Call) (a : App) (i : Input) (out : Out) (bytes : List ℕ) (sent : Bool) (b : App) → Tells a i out bytes sent b
    → IsAfterCalls s calls a.node → IsAfterCalls s (cut_where sent ++ Tell i out ∷ calls) b.node
tells_on s calls a i out bytes true b t run =
    subst (IsAfterCalls s (Tell i out ∷ calls)) (sym (ap (λ x. x.node) t.is ∙ going_on out.close i.now (sent_where true bytes (told t.node out a)))) (a.node, run, t.done)
tells_on s calls a i out bytes false b t run = (t.node, (a.node, run, t.done), ap (λ x. x.node) t.is)

-- what the node is stays as it is
pub config_is : (s : Setup) (calls : List Call) (n : NodeData) → IsAfterCalls s calls n → n.config ≡ s.config
config_is s [] n e = ap (λ x. x.config) e
config_is s (TakeUp i p ∷ calls) n (m, run, (plan, e)) = ap (λ x. x.config) e ∙ config_is s calls m run
config_is s (Tell i out ∷ calls) n (m, run, done) = ap (λ x. x.config) done.stands ∙ config_is s calls m run
config_is s (CutOff ∷ calls) n (m, run, e) = ap (λ x. x.config) e ∙ config_is s calls m run

acknowledged_on : (ack : Option ℕ) (a : App) → (acknowledged ack a).node ≡ a.node
acknowledged_on None a = refl
acknowledged_on (Some id) a = refl

told_further : (s : Setup) (sent : Bool) (i : Input) (out : Out) (calls : List Call) (n : NodeData) → IsAfterCalls s (cut_where sent ++ Tell i out ∷ calls) n
    → IsAfterCalls s ((cut_where sent ++ Tell i out ∷ []) ++ calls) n
told_further s sent i out calls n run = subst (λ l. IsAfterCalls s l n) (sym (append_assoc (cut_where sent) (Tell i out ∷ []) calls)) run

come_on : (s : Setup) (packet : Message) (now : ℕ) (came : Coming) (a b : App) (calls : List Call) → Comes (input_of s.config now packet) came a b
    → IsAfterCalls s calls a.node → IsAfterCalls s (told_of s.config packet now came ++ calls) b.node
come_on s packet now (Answered out sent) a b calls (may, t) run =
    told_further s sent _ out calls b.node (tells_on s calls a (input_of s.config now packet) out _ sent b t run)
come_on s packet now (Refused fault) a b calls (wrong, may, is) run =
    subst (IsAfterCalls s calls) (sym (ap (λ x. x.node) is ∙ acknowledged_on (input_of s.config now packet).ack a)) run
come_on s packet now Dropped a b calls is run = (a.node, run, ap (λ x. x.node) is)

pub step_on : (s : Setup) (d : Deed) (a b : App) (calls : List Call) → IsStep a d b → IsAfterCalls s calls a.node → IsAfterCalls s (on_node s.config d ++ calls) b.node
step_on s (Opened now out bytes sent) a b calls (off, going, says, t) run =
    told_further s sent _ out calls b.node (tells_on s calls (connected now a) _ out bytes sent b t run)
step_on s (Read piece now) a b calls (there, going, e) run = subst (IsAfterCalls s calls) (sym (ap (λ x. x.node) e)) run
step_on s (Heard packet now came) a b calls (c, taken, h) run =
    come_on s packet now came (with_connection c a) b calls (subst (λ x. Comes (input_of x now packet) came (with_connection c a) b) (config_is s calls a.node run) h.came_of) run
step_on s (Told i out sent) a b calls (own, may, t) run = told_further s sent i out calls b.node (tells_on s calls a i out _ sent b t run)
step_on s (Asked now) a b calls (there, e) run = subst (IsAfterCalls s calls) (sym (ap (λ x. x.node) e)) run
step_on s (Wrote first others now) a b calls (none, (c, step, e)) run = subst (IsAfterCalls s calls) (sym (ap (λ x. x.node) e)) run
step_on s (Saved saved) a b calls (was, e) run = subst (IsAfterCalls s calls) (sym (ap (λ x. x.node) e)) run
step_on s (GaveUp now) a b calls e run = (a.node, run, ap (λ x. x.node) e)
step_on s Stopped a b calls e run = subst (IsAfterCalls s calls) (sym (ap (λ x. x.node) e)) run
step_on s Handed a b calls e run = subst (IsAfterCalls s calls) (sym (ap (λ x. x.node) e)) run
step_on s (Over now) a b calls e run = (a.node, run, ap (λ x. x.node) e)

pub node_after : (s : Setup) (login : Option LoginData) (kept : Record) (spread : ℕ) (ds : List Deed) (b : App)
    → IsRun (fresh_app (node_of s []) login kept spread) ds b → IsAfterCalls s (of_node s.config ds) b.node
node_after s login kept spread [] b e = ap (λ x. x.node) e
node_after s login kept spread (d ∷ ds) b (a, run, step) = step_on s d a b (of_node s.config ds) step (node_after s login kept spread ds a run)
