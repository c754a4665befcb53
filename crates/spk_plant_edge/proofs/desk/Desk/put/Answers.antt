use Rattle.std.proofs.Common.{◌≡◌, ◌∙◌, ap, refl, subst, Bool, ◌||◌, ◌++◌, map}
use Rattle.spk_edge.specs.Patch.{IsPlan}
use Rattle.spk_edge.specs.Sealing.{bytes_of}
use Rattle.spk_edge.specs.View.{NodeData}
use Rattle.spk_edge.specs.declared.message.Out.{Out}
use Rattle.spk_ingress.specs.declared.frame.Frame.TheVariants.{Packet}
use Rattle.spk_plant_edge.specs.At.{HasPut}
use Rattle.spk_plant_edge.specs.Frames.{cut_if, is_cut}
use Rattle.spk_plant_edge.specs.Told.{told_act, told_view}
use Rattle.spk_plant_edge.specs.declared.desk.Desk.{Desk}
use Rattle.spk_plant_edge.proofs.Standing.{stands-taken}
use Rattle.spk_plant_edge.proofs.desk.Desk.put.Goals as goal

pub returns-clause-taken : goal.returns-clause-taken
returns-clause-taken g c = λ o is n h up.
    let over = is_cut (told_act c.args.told.act) in
    let put : HasPut c.args.self.now.sender c.put_answer.new.self (map Packet (map bytes_of up.plan.out.packets.items) ++ cut_if (over || up.plan.out.close)) =
    subst (λ (out : Out). HasPut c.args.self.now.sender c.put_answer.new.self (map Packet (map bytes_of out.packets.items) ++ cut_if (over || out.close))) up.out
    (subst (λ (b : Bool). HasPut c.args.self.now.sender c.put_answer.new.self (map Packet (map bytes_of c.args.taken.out.packets.items) ++ cut_if b)) c.is_over-is_over.ensures c.in_ok-put_answer.ensures.ok) in
    stands-taken o is (record c.args.self.now { node = n }) (record c.args.self.now { inputs = c.push.new.self; published = c.append.new.self; sender = c.put_answer.new.self; in_vain = c.in_ok-in_vain.in_vain }) c.args.told up.plan h
    (c.stepping.ensures.taken o.setup is (told_view c.args.told) up.plan (subst (λ (m : NodeData). IsPlan m (told_view c.args.told) up.plan) h.node up.planned))
    up.stands
    c.in_ok-push.ensures.items
    (c.in_ok-append.ensures.items ∙ ap (λ v. c.args.self.now.published.items ++ v.items) up.messages)
    put c.in_ok-in_vain.ensures.vain
