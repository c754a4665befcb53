-- One entry more in the log of what a hub holds.
use Rattle.std.proofs.Common.{◌≡◌, ℕ, ◌+◌, ◌<◌, ◌==◌, ◌&&◌, ◌||◌, if◌then◌else◌, Bool, true, false, List, [], ◌∷◌, ◌++◌, map, length, Some, None, refl, sym, ◌∙◌, ap, subst, arith, ◌⊎◌, inl, inr, take, get_or, zero, suc, ◌-◌, ◌*◌, ◌^◌, true≢false}
use Rattle.std.specs.List.{AllByRecursion}
use Rattle.std.proofs.lemmas.List.Folds.{list_any_more}
use Rattle.std.proofs.Math.Bool.{or-true}
use Rattle.std.proofs.lemmas.List.{map-append}
use Rattle.spk_ingress.specs.Passes.{TakesFrom, frames_taken}
use Rattle.spk_ingress.specs.declared.channel.Ingress.{Ingress}
use Rattle.spk_ingress.specs.declared.channel.TakePass.{TakePass}
use Rattle.spk_ingress.specs.declared.rule.Message.{Message}
use Rattle.spk_ingress.specs.declared.frame.Frame.TheVariants as frame
use Rattle.spk_rings.specs.declared.item.Item.{Item}
use Rattle.spk_rings.specs.declared.outlet.Outlet.{Outlet}
use Rattle.spk_broker.specs.Sent.{Sent, sent_view}
use Rattle.spk_broker.specs.declared.out.Out.{Out}
use Rattle.spk_broker_rules.specs.Plan.{Event}
use Rattle.spk_broker_rules.specs.Plan as event
use Rattle.spk_broker_rules.specs.Step.{after}
use Rattle.spk_plant_broker.specs.declared.desk.Desk.{Desk}
use Rattle.spk_plant_broker.specs.declared.hub.Hub.{Hub}
use Rattle.spk_plant_broker.specs.declared.hub.Untold.{Untold}
use Rattle.spk_plant_broker.specs.declared.part.BrokerStart.{BrokerStart}
use Rattle.spk_plant_broker.specs.declared.part.BrokerEnd.{BrokerEnd}
use Rattle.spk_plant_broker.specs.Done.{BrokerDone, BrokerReady, IsEndOf, refused_to}
use Rattle.spk_plant_broker.specs.Data.{Entry, Input, Offer, Room, Took, Accepted, Refused, Passed, Told, Cuts, Ends}
use Rattle.spk_plant_broker.specs.Holding.{FitLines, FitsDesk, Gives, Holds, HasAllEnded, IsIdle, IsNoted, IsTaken, Offers, Rests, Setting, setting_of, untold_of}
use Rattle.spk_plant_broker.specs.Log.{HasFilled, IsLog, Means, accepted_of, got_of, refusals_of, room_of, taken_of}
use Rattle.spk_plant_broker.specs.Step.{behind, called_on, client_of, cuts_in, fresh_room, has_ended, have_ended, holds_client, is_client, is_cut, is_dropped, is_end, known, offer_of, ring_of, took}
use Rattle.spk_plant_broker.specs.declared.line.Line.{Line}
use Rattle.spk_plant_broker.proofs.Desks.{or_false}
use Rattle.spk_plant_broker.proofs.Each.{same_or_not}
use Rattle.spk_plant_broker.proofs.Lines.{lines_ext, lines_noted}

abbrev room : Setting → List Entry → Room
room s log = room_of s.limit s.edges log

abbrev drops : Setting → (ℕ → Bool) → List Entry → ℕ → Bool
drops s closed log = is_dropped (room s log).over closed

-- a desk beside a room that differs in what is to be offered and told
pub desk_kept : (limit : ℕ) (closed : ℕ → Bool) (d e : Desk) (r : Room) (pending untold : List Offer) → FitsDesk limit closed d r → e ≡ d → FitsDesk limit closed e (record r { pending = pending; untold = untold })
desk_kept limit closed d e r pending untold f same = subst (λ x. FitsDesk limit closed x (record r { pending = pending; untold = untold })) (sym same) (record { broker = f.broker; openers = f.openers; clients = f.clients })

-- what is kept of a hub while sends are offered
pub record Same (h k : Hub) : Type 0 where
  pub desk : k.desk ≡ h.desk
  pub edges : k.edges ≡ h.edges
  pub over : k.over ≡ h.over
  pub taken : k.taken.items ≡ h.taken.items
  pub sized : length k.lines.items ≡ length h.lines.items

-- a send is passed over
pub passed_offers : (s : Setting) (closed : ℕ → Bool) (log : List Entry) (h k : Hub) (send : Sent) (sends : List Sent) (closes : List ℕ) → Offers s closed h log (send ∷ sends) closes → Same h k
    → k.untold.items ≡ h.untold.items → k.refusals.items ≡ h.refusals.items → k.accepted.items ≡ h.accepted.items
    → ring_of (drops s closed log) (client_of h.desk.openers.items send.conn) ≡ None
    → FitLines s.outlets (drops s closed log) (λ j. got_of j log) (taken_of log) k.lines.items
    → (e : Entry) × Offers s closed k (e ∷ log) sends closes
passed_offers s closed log h k send sends closes f same untold refusals accepted none lines =
    let r : Room = room s log in
    let o : Offer = offer_of r.openers (drops s closed log) send in (
      Passed o,
      record {
        holds = record {
          log_is = (
            f.holds.log_is,
            (
              (map (offer_of r.openers (drops s closed log)) sends, f.awaits.pending),
              ap (λ os. ring_of (drops s closed log) (client_of os send.conn)) (sym f.holds.desk.openers) ∙ none,
            ),
          );
          desk = desk_kept s.limit closed h.desk k.desk r (behind r.pending) r.untold f.holds.desk same.desk;
          clients = ap (λ d. length d.clients.items) same.desk ∙ f.holds.clients;
          over = same.over ∙ f.holds.over;
          lines = lines;
          sized = same.sized ∙ f.holds.sized;
          untold = untold ∙ f.holds.untold;
          edges = same.edges ∙ f.holds.edges;
          few = f.holds.few;
          taken = same.taken ∙ f.holds.taken;
          refusals = refusals ∙ f.holds.refusals;
          accepted = accepted ∙ f.holds.accepted;
          full = f.holds.full;
        };
        awaits = record { pending = ap behind f.awaits.pending; shut = f.awaits.shut };
      },
    )

-- where a send goes
pub goes_to : (s : Setting) (closed : ℕ → Bool) (log : List Entry) (h : Hub) (send : Sent) (client : ℕ) → Holds s closed h log → Some client ≡ client_of h.desk.openers.items send.conn → drops s closed log client ≡ false
    → (offer_of (room s log).openers (drops s closed log) send).to ≡ Some client
goes_to s closed log h send client f is stands =
    ap (λ os. ring_of (drops s closed log) (client_of os send.conn)) (sym f.desk.openers) ∙ (ap (ring_of (drops s closed log)) (sym is) ∙ ap (λ b. if b then None else Some client) stands)

-- a ring takes a send
pub accepted_offers : (s : Setting) (closed : ℕ → Bool) (log : List Entry) (h k : Hub) (send : Sent) (sends : List Sent) (closes : List ℕ) (client : ℕ) → Offers s closed h log (send ∷ sends) closes → Same h k
    → k.untold.items ≡ h.untold.items → k.refusals.items ≡ h.refusals.items
    → k.accepted.items ≡ (if client == h.edges then h.accepted.items ++ length h.taken.items ∷ [] else h.accepted.items)
    → Some client ≡ client_of h.desk.openers.items send.conn → drops s closed log client ≡ false
    → FitLines s.outlets (drops s closed log) (λ j. if client == j then got_of j log ++ (record { bytes = send.bytes; cuts = cuts_in j (taken_of log) }) ∷ [] else got_of j log) (taken_of log) k.lines.items
    → (e : Entry) × Offers s closed k (e ∷ log) sends closes
accepted_offers s closed log h k send sends closes client f same untold refusals accepted is stands lines =
    let r : Room = room s log in
    let o : Offer = offer_of r.openers (drops s closed log) send in (
      Accepted client o,
      record {
        holds = record {
          log_is = (f.holds.log_is, ((map (offer_of r.openers (drops s closed log)) sends, f.awaits.pending), goes_to s closed log h send client f.holds is stands));
          desk = desk_kept s.limit closed h.desk k.desk r (behind r.pending) r.untold f.holds.desk same.desk;
          clients = ap (λ d. length d.clients.items) same.desk ∙ f.holds.clients;
          over = same.over ∙ f.holds.over;
          lines = lines;
          sized = same.sized ∙ f.holds.sized;
          untold = untold ∙ f.holds.untold;
          edges = same.edges ∙ f.holds.edges;
          few = f.holds.few;
          taken = same.taken ∙ f.holds.taken;
          refusals = refusals ∙ f.holds.refusals;
          accepted = accepted ∙ (ap (λ e. if client == e then h.accepted.items ++ length h.taken.items ∷ [] else h.accepted.items) f.holds.edges
              ∙ (ap (λ xs. if client == s.edges then xs ++ length h.taken.items ∷ [] else xs) f.holds.accepted
              ∙ ap (λ ms. if client == s.edges then accepted_of s.edges log ++ length ms ∷ [] else accepted_of s.edges log) f.holds.taken));
          full = f.holds.full;
        };
        awaits = record { pending = ap behind f.awaits.pending; shut = f.awaits.shut };
      },
    )

-- a ring is full
pub refused_offers : (s : Setting) (closed : ℕ → Bool) (log : List Entry) (h k : Hub) (send : Sent) (sends : List Sent) (closes : List ℕ) (client : ℕ) → Offers s closed h log (send ∷ sends) closes → Same h k
    → k.untold.items ≡ h.untold.items ++ (record { conn = send.conn; sort = send.sort }) ∷ []
    → k.refusals.items ≡ h.refusals.items ++ (record { client = client; sort = send.sort; taken = length h.taken.items }) ∷ []
    → k.accepted.items ≡ h.accepted.items
    → Some client ≡ client_of h.desk.openers.items send.conn → drops s closed log client ≡ false
    → FitLines s.outlets (drops s closed log) (λ j. got_of j log) (taken_of log) k.lines.items
    → HasFilled s.outlets client (got_of client log)
    → (e : Entry) × Offers s closed k (e ∷ log) sends closes
refused_offers s closed log h k send sends closes client f same untold refusals accepted is stands lines filled =
    let r : Room = room s log in
    let o : Offer = offer_of r.openers (drops s closed log) send in (
      Refused client o,
      record {
        holds = record {
          log_is = (f.holds.log_is, ((map (offer_of r.openers (drops s closed log)) sends, f.awaits.pending), goes_to s closed log h send client f.holds is stands));
          desk = desk_kept s.limit closed h.desk k.desk r (behind r.pending) (r.untold ++ o ∷ []) f.holds.desk same.desk;
          clients = ap (λ d. length d.clients.items) same.desk ∙ f.holds.clients;
          over = same.over ∙ f.holds.over;
          lines = lines;
          sized = same.sized ∙ f.holds.sized;
          untold = untold ∙ (ap (λ us. us ++ untold_of o ∷ []) f.holds.untold ∙ sym (map-append untold_of r.untold (o ∷ [])));
          edges = same.edges ∙ f.holds.edges;
          few = f.holds.few;
          taken = same.taken ∙ f.holds.taken;
          refusals = refusals ∙ (ap (λ rs. rs ++ (record { client = client; sort = send.sort; taken = length h.taken.items }) ∷ []) f.holds.refusals
              ∙ ap (λ ms. refusals_of log ++ (record { client = client; sort = send.sort; taken = length ms }) ∷ []) f.holds.taken);
          accepted = accepted ∙ f.holds.accepted;
          full = (filled, f.holds.full);
        };
        awaits = record { pending = ap behind f.awaits.pending; shut = f.awaits.shut };
      },
    )

-- ---- telling

pub front_is : (o : Offer) (os : List Offer) (u : Untold) (rest : List Untold) → (u ∷ rest) ≡ map untold_of (o ∷ os) → (untold_of o ≡ u) × (rest ≡ map untold_of os)
front_is o os u rest e = (cc, cc)

pub told_offers : (s : Setting) (log : List Entry) (h k : Hub) (u : Untold) (now : ℕ) (out : Out) → Rests s h log → h.untold.items ≡ u ∷ k.untold.items
    → ((limit : ℕ) (r : Room) → FitsDesk limit r.closed h.desk r → r.pending ≡ []
    → Gives limit r (called_on limit r (λ c. event.Refused c u.sort now) (known (after limit r.events) (Some u.conn))) k.desk out)
    → length k.desk.clients.items ≡ length h.desk.clients.items → now ≡ length h.taken.items → k.edges ≡ h.edges → k.over ≡ h.over → k.lines.items ≡ h.lines.items
    → k.taken.items ≡ h.taken.items → k.refusals.items ≡ h.refusals.items → k.accepted.items ≡ h.accepted.items
    → (e : Entry) × Offers s (room s log).closed k (e ∷ log) (map sent_view out.sends.items) out.closes.items
told_offers s log h k u now out f untold gives clients moment edges over lines taken refusals accepted =
    go (room s log).untold refl (sym untold ∙ f.holds.untold)
  where
    r : Room
    r = room s log

    go : (os : List Offer) → (room s log).untold ≡ os → (u ∷ k.untold.items) ≡ map untold_of os → (e : Entry) × Offers s (room s log).closed k (e ∷ log) (map sent_view out.sends.items) out.closes.items
    go [] is e = absurd cc
    go (o ∷ os) is e =
        let front : (untold_of o ≡ u) × (k.untold.items ≡ map untold_of os) = front_is o os u k.untold.items e in
        let q : Room = record (room s log) { untold = behind (room s log).untold } in
        let fits : FitsDesk s.limit q.closed h.desk q = desk_kept s.limit (room s log).closed h.desk h.desk (room s log) (room s log).pending (behind (room s log).untold) f.holds.desk refl in
        let g : Gives s.limit q (room s (Told o ∷ log)) k.desk out =
        subst (λ n. Gives s.limit q (called_on s.limit q (λ c. event.Refused c o.sort n) (known (after s.limit q.events) (Some o.conn))) k.desk out) (moment ∙ ap length f.holds.taken)
        (subst (λ (v : Untold). Gives s.limit q (called_on s.limit q (λ c. event.Refused c v.sort now) (known (after s.limit q.events) (Some v.conn))) k.desk out) (sym front.0)
        (gives s.limit q fits f.pending)) in (
          Told o,
          record {
            holds = record {
              log_is = (f.holds.log_is, (f.pending, (os, is)));
              desk = g.desk;
              clients = clients ∙ f.holds.clients;
              over = over ∙ (f.holds.over ∙ sym g.over);
              lines = subst (λ ls. FitLines s.outlets (is_dropped (room s (Told o ∷ log)).over (room s log).closed) (λ j. got_of j log) (taken_of log) ls) (sym lines)
                  (subst (λ b. FitLines s.outlets (is_dropped b (room s log).closed) (λ j. got_of j log) (taken_of log) h.lines.items) (sym g.over) f.holds.lines);
              sized = ap length lines ∙ f.holds.sized;
              untold = front.1 ∙ (ap (λ x. map untold_of (behind x)) (sym is) ∙ ap (map untold_of) (sym g.untold));
              edges = edges ∙ f.holds.edges;
              few = f.holds.few;
              taken = taken ∙ f.holds.taken;
              refusals = refusals ∙ f.holds.refusals;
              accepted = accepted ∙ f.holds.accepted;
              full = f.holds.full;
            };
            awaits = g.awaits;
          },
        )

-- ---- frames

pub took_offers : (s : Setting) (log : List Entry) (h k : Hub) (m : Message) (i : Input) (out : Out) → IsIdle s h log → Means m.frame i → k.taken.items ≡ h.taken.items ++ m ∷ []
    → Gives s.limit (room s log) (took s.limit s.edges (taken_of log ++ m ∷ []) (room s log) m.sender i) k.desk out
    → FitLines s.outlets (drops s (room s log).closed log) (λ j. got_of j log) (taken_of log ++ m ∷ []) k.lines.items
    → length k.desk.clients.items ≡ length h.desk.clients.items → length k.lines.items ≡ length h.lines.items → k.edges ≡ h.edges → k.over ≡ h.over
    → k.untold.items ≡ h.untold.items → k.refusals.items ≡ h.refusals.items → k.accepted.items ≡ h.accepted.items
    → (e : Entry) × Offers s (room s log).closed k (e ∷ log) (map sent_view out.sends.items) out.closes.items
took_offers s log h k m i out f means taken g lines clients sized edges over untold refusals accepted =
    let held : Holds s (room s log).closed h log = f.rests.holds in (
      Took m i,
      record {
        holds = record {
          log_is = (held.log_is, (means, f.rests.pending, f.untold));
          desk = g.desk;
          clients = clients ∙ held.clients;
          over = over ∙ (held.over ∙ sym g.over);
          lines = subst (λ b. FitLines s.outlets (is_dropped b (room s log).closed) (λ j. got_of j log) (taken_of log ++ m ∷ []) k.lines.items) (sym g.over) lines;
          sized = sized ∙ held.sized;
          untold = untold ∙ (held.untold ∙ ap (map untold_of) (sym g.untold));
          edges = edges ∙ held.edges;
          few = held.few;
          taken = taken ∙ ap (λ ms. ms ++ m ∷ []) held.taken;
          refusals = refusals ∙ held.refusals;
          accepted = accepted ∙ held.accepted;
          full = held.full;
        };
        awaits = g.awaits;
      },
    )

pub noted_gives : (s : Setting) (log : List Entry) (old mid : Hub) (m : Message) (now : ℕ) (d : Desk) (out : Out) (next : ℕ → ℕ → Room → Room) → IsIdle s old log → IsNoted m now old mid
    → ((limit : ℕ) (r : Room) → FitsDesk limit r.closed mid.desk r → r.pending ≡ [] → Gives limit r (next limit now r) d out)
    → Gives s.limit (room s log) (next s.limit (length (taken_of log ++ m ∷ [])) (room s log)) d out
noted_gives s log old mid m now d out next f n gives =
    subst (λ t. Gives s.limit (room s log) (next s.limit t (room s log)) d out) (n.number ∙ ap length (n.taken ∙ ap (λ ms. ms ++ m ∷ []) f.rests.holds.taken))
    (gives s.limit (room s log) (subst (λ (x : Desk). FitsDesk s.limit (room s log).closed x (room s log)) (sym (ap (λ (x : Hub). x.desk) n.same)) f.rests.holds.desk) f.rests.pending)

-- a packet or a fault
pub frame_taken : (old mid : Hub) (d : Desk) (m : Message) (i : Input) (now : ℕ) (out : Out) (next : ℕ → ℕ → Room → Room) → Means m.frame i → is_cut m.frame ≡ false → is_end m.frame ≡ false → IsNoted m now old mid
    → ((limit edges : ℕ) (taken : List Message) (r : Room) → next limit (length taken) r ≡ took limit edges taken r m.sender i)
    → ((limit : ℕ) (r : Room) → FitsDesk limit r.closed mid.desk r → r.pending ≡ [] → Gives limit r (next limit now r) d out)
    → length d.clients.items ≡ length mid.desk.clients.items → IsTaken m old (record mid { desk = d }) out
frame_taken old mid d m i now out next means no_cut no_end n tied gives clients = record {
  offers = λ s log f.
      took_offers s log old (record mid { desk = d }) m i out f means n.taken
      (subst (λ q. Gives s.limit (room s log) q d out) (tied s.limit s.edges (taken_of log ++ m ∷ []) (room s log)) (noted_gives s log old mid m now d out next f n gives))
      (lines_noted s.outlets (drops s (room s log).closed log) (λ j. got_of j log) (taken_of log) m mid.lines.items no_cut no_end
      (subst (λ (x : Hub). FitLines s.outlets (drops s (room s log).closed log) (λ j. got_of j log) (taken_of log) x.lines.items) (sym n.same) f.rests.holds.lines))
      (clients ∙ ap (λ (x : Hub). length x.desk.clients.items) n.same) (ap (λ (x : Hub). length x.lines.items) n.same) (ap (λ (x : Hub). x.edges) n.same) (ap (λ (x : Hub). x.over) n.same)
      (ap (λ (x : Hub). x.untold.items) n.same) (ap (λ (x : Hub). x.refusals.items) n.same) (ap (λ (x : Hub). x.accepted.items) n.same);
  taken = n.taken;
}

-- a Cut
pub cut_taken : (old mid k : Hub) (sender now : ℕ) (out : Out) (next : ℕ → ℕ → Room → Room) → IsNoted (record { sender = sender; frame = frame.Cut }) now old mid
    → ((limit edges : ℕ) (taken : List Message) (r : Room) → next limit (length taken) r ≡ took limit edges taken r sender Cuts)
    → ((limit : ℕ) (r : Room) → FitsDesk limit r.closed mid.desk r → r.pending ≡ [] → Gives limit r (next limit now r) k.desk out)
    → ((firsts : List Outlet) (dropped : ℕ → Bool) (got : ℕ → List Item) (taken : List Message) → FitLines firsts dropped got taken mid.lines.items
    → FitLines firsts dropped got (taken ++ (record { sender = sender; frame = frame.Cut }) ∷ []) k.lines.items)
    → length k.desk.clients.items ≡ length mid.desk.clients.items → length k.lines.items ≡ length mid.lines.items
    → k.edges ≡ mid.edges → k.over ≡ mid.over → k.untold ≡ mid.untold → k.taken ≡ mid.taken → k.refusals ≡ mid.refusals → k.accepted ≡ mid.accepted
    → IsTaken (record { sender = sender; frame = frame.Cut }) old k out
cut_taken old mid k sender now out next n tied gives lines clients sized edges over untold taken refusals accepted = record {
  offers = λ s log f.
      let m : Message = record { sender = sender; frame = frame.Cut } in
      took_offers s log old k m Cuts out f tt (ap (λ v. v.items) taken ∙ n.taken)
      (subst (λ q. Gives s.limit (room s log) q k.desk out) (tied s.limit s.edges (taken_of log ++ m ∷ []) (room s log)) (noted_gives s log old mid m now k.desk out next f n gives))
      (lines s.outlets (drops s (room s log).closed log) (λ j. got_of j log) (taken_of log)
      (subst (λ (x : Hub). FitLines s.outlets (drops s (room s log).closed log) (λ j. got_of j log) (taken_of log) x.lines.items) (sym n.same) f.rests.holds.lines))
      (clients ∙ ap (λ (x : Hub). length x.desk.clients.items) n.same) (sized ∙ ap (λ (x : Hub). length x.lines.items) n.same) (edges ∙ ap (λ (x : Hub). x.edges) n.same) (over ∙ ap (λ (x : Hub). x.over) n.same)
      (ap (λ v. v.items) untold ∙ ap (λ (x : Hub). x.untold.items) n.same) (ap (λ v. v.items) refusals ∙ ap (λ (x : Hub). x.refusals.items) n.same) (ap (λ v. v.items) accepted ∙ ap (λ (x : Hub). x.accepted.items) n.same);
  taken = ap (λ v. v.items) taken ∙ n.taken;
}

-- ---- an End

-- what of a hub is as it was at a frame, but for its lines and whether all is over
pub record SameBut (h k : Hub) : Type 0 where
  pub desk : k.desk ≡ h.desk
  pub edges : k.edges ≡ h.edges
  pub untold : k.untold ≡ h.untold
  pub taken : k.taken ≡ h.taken
  pub refusals : k.refusals ≡ h.refusals
  pub accepted : k.accepted ≡ h.accepted
  pub sized : length k.lines.items ≡ length h.lines.items

pub end_offers : (s : Setting) (log : List Entry) (old mid k : Hub) (sender now : ℕ) (out : Out) → IsIdle s old log → IsNoted (record { sender = sender; frame = frame.End }) now old mid → SameBut mid k
    → k.over ≡ ((room s log).over || have_ended s.edges (taken_of log ++ (record { sender = sender; frame = frame.End }) ∷ []))
    → FitLines s.outlets (is_dropped ((room s log).over || have_ended s.edges (taken_of log ++ (record { sender = sender; frame = frame.End }) ∷ [])) (room s log).closed) (λ j. got_of j log) (taken_of log ++ (record { sender = sender; frame = frame.End }) ∷ []) k.lines.items
    → (out.sends.items ≡ []) × (out.closes.items ≡ [])
    → (e : Entry) × Offers s (room s log).closed k (e ∷ log) (map sent_view out.sends.items) out.closes.items
end_offers s log old mid k sender now out f n same over lines empty =
    let held : Holds s (room s log).closed old log = f.rests.holds in
    let r : Room = room s log in
    let m : Message = record { sender = sender; frame = frame.End } in
    let fits : FitsDesk s.limit r.closed k.desk r = subst (λ (d : Desk). FitsDesk s.limit r.closed d r) (sym (same.desk ∙ ap (λ (x : Hub). x.desk) n.same)) held.desk in (
      Took m Ends,
      record {
        holds = record {
          log_is = (held.log_is, (tt, f.rests.pending, f.untold));
          desk = record { broker = fits.broker; openers = fits.openers; clients = fits.clients };
          clients = ap (λ (d : Desk). length d.clients.items) (same.desk ∙ ap (λ (x : Hub). x.desk) n.same) ∙ held.clients;
          over = over;
          lines = lines;
          sized = same.sized ∙ (ap (λ (x : Hub). length x.lines.items) n.same ∙ held.sized);
          untold = ap (λ v. v.items) (same.untold ∙ ap (λ (x : Hub). x.untold) n.same) ∙ held.untold;
          edges = same.edges ∙ (ap (λ (x : Hub). x.edges) n.same ∙ held.edges);
          few = held.few;
          taken = ap (λ v. v.items) same.taken ∙ (n.taken ∙ ap (λ ms. ms ++ m ∷ []) held.taken);
          refusals = ap (λ v. v.items) (same.refusals ∙ ap (λ (x : Hub). x.refusals) n.same) ∙ held.refusals;
          accepted = ap (λ v. v.items) (same.accepted ∙ ap (λ (x : Hub). x.accepted) n.same) ∙ held.accepted;
          full = held.full;
        };
        awaits = record {
          pending = f.rests.pending ∙ ap (λ ss. map (offer_of r.openers (is_dropped (r.over || have_ended s.edges (taken_of log ++ m ∷ [])) r.closed)) (map sent_view ss)) (sym empty.0);
          shut = λ j. or_false (r.closed j) ∙ ap (λ cs. r.closed j || holds_client r.openers j cs) (sym empty.1);
        };
      },
    )

-- what a line of an End makes of the lines
abbrev EndsLine : ℕ → Hub → Hub → Type 0
EndsLine sender mid k = (firsts : List Outlet) (dropped : ℕ → Bool) (got : ℕ → List Item) (taken : List Message) → FitLines firsts dropped got taken mid.lines.items
    → FitLines firsts dropped got (taken ++ (record { sender = sender; frame = frame.End }) ∷ []) k.lines.items

pub end_lines : (s : Setting) (log : List Entry) (old mid k : Hub) (sender now : ℕ) → IsIdle s old log → IsNoted (record { sender = sender; frame = frame.End }) now old mid → EndsLine sender mid k
    → FitLines s.outlets (drops s (room s log).closed log) (λ j. got_of j log) (taken_of log ++ (record { sender = sender; frame = frame.End }) ∷ []) k.lines.items
end_lines s log old mid k sender now f n lines = lines s.outlets (drops s (room s log).closed log) (λ j. got_of j log) (taken_of log)
    (subst (λ (x : Hub). FitLines s.outlets (drops s (room s log).closed log) (λ j. got_of j log) (taken_of log) x.lines.items) (sym n.same) f.rests.holds.lines)

-- all was over before, or not all edge nodes have ended
pub end_kept : (old mid k : Hub) (sender now : ℕ) (out : Out) → IsNoted (record { sender = sender; frame = frame.End }) now old mid → SameBut mid k → k.over ≡ mid.over → EndsLine sender mid k
    → (k.over ≡ true) ⊎ ((firsts : List Outlet) (dropped : ℕ → Bool) (got : ℕ → List Item) (taken : List Message) → FitLines firsts dropped got taken k.lines.items → have_ended k.edges taken ≡ false)
    → (out.sends.items ≡ []) × (out.closes.items ≡ []) → IsTaken (record { sender = sender; frame = frame.End }) old k out
end_kept old mid k sender now out n same same_over lines why empty = record {
  offers = λ s log f.
      let all : List Message = taken_of log ++ (record { sender = sender; frame = frame.End }) ∷ [] in
      let was : k.over ≡ (room s log).over = same_over ∙ (ap (λ (x : Hub). x.over) n.same ∙ f.rests.holds.over) in
      let fits = end_lines s log old mid k sender now f n lines in
      let stays : ((room s log).over || have_ended s.edges all) ≡ (room s log).over = elim why [
        | inl over ↦ ap (λ b. b || have_ended s.edges all) (sym was ∙ over) ∙ (sym over ∙ was)
        | inr none ↦ ap (λ b. (room s log).over || b) (ap (λ e. have_ended e all) (sym (same.edges ∙ (ap (λ (x : Hub). x.edges) n.same ∙ f.rests.holds.edges))) ∙ none s.outlets (drops s (room s log).closed log) (λ j. got_of j log) all fits) ∙ sym (or_false (room s log).over)
      ] in
      end_offers s log old mid k sender now out f n same (was ∙ sym stays)
      (subst (λ b. FitLines s.outlets (is_dropped b (room s log).closed) (λ j. got_of j log) all k.lines.items) (sym stays) fits) empty;
  taken = ap (λ v. v.items) same.taken ∙ n.taken;
}

-- all edge nodes have ended
pub end_over : (old mid k : Hub) (ls : List Line) (sender now : ℕ) (out : Out) → IsNoted (record { sender = sender; frame = frame.End }) now old mid → SameBut mid k → k.over ≡ true
    → ((firsts : List Outlet) (dropped : ℕ → Bool) (got : ℕ → List Item) (taken : List Message) → FitLines firsts dropped got taken mid.lines.items
    → FitLines firsts dropped got (taken ++ (record { sender = sender; frame = frame.End }) ∷ []) ls)
    → ((firsts : List Outlet) (dropped : ℕ → Bool) (got : ℕ → List Item) (taken : List Message) → FitLines firsts dropped got taken ls → have_ended k.edges taken ≡ true)
    → ((firsts : List Outlet) (dropped : ℕ → Bool) (got : ℕ → List Item) (taken : List Message) → FitLines firsts dropped got taken ls → FitLines firsts (λ j. true) got taken k.lines.items)
    → (out.sends.items ≡ []) × (out.closes.items ≡ []) → IsTaken (record { sender = sender; frame = frame.End }) old k out
end_over old mid k ls sender now out n same over lines all_have finish empty = record {
  offers = λ s log f.
      let all : List Message = taken_of log ++ (record { sender = sender; frame = frame.End }) ∷ [] in
      let fits : FitLines s.outlets (drops s (room s log).closed log) (λ j. got_of j log) all ls = lines s.outlets (drops s (room s log).closed log) (λ j. got_of j log) (taken_of log)
      (subst (λ (x : Hub). FitLines s.outlets (drops s (room s log).closed log) (λ j. got_of j log) (taken_of log) x.lines.items) (sym n.same) f.rests.holds.lines) in
      let becomes : ((room s log).over || have_ended s.edges all) ≡ true =
      ap (λ b. (room s log).over || b) (ap (λ e. have_ended e all) (sym (same.edges ∙ (ap (λ (x : Hub). x.edges) n.same ∙ f.rests.holds.edges))) ∙ all_have s.outlets (drops s (room s log).closed log) (λ j. got_of j log) all fits) ∙ or-true (room s log).over in
      end_offers s log old mid k sender now out f n same (over ∙ sym becomes)
      (subst (λ b. FitLines s.outlets (is_dropped b (room s log).closed) (λ j. got_of j log) all k.lines.items) (sym becomes)
      (finish s.outlets (drops s (room s log).closed log) (λ j. got_of j log) all fits)) empty;
  taken = ap (λ v. v.items) same.taken ∙ n.taken;
}

-- ---- closing

pub holds_ext : (s : Setting) (c d : ℕ → Bool) (h : Hub) (log : List Entry) → ((k : ℕ) → c k ≡ d k) → Holds s c h log → Holds s d h log
holds_ext s c d h log same f = record {
  log_is = f.log_is;
  desk = record {
    broker = f.desk.broker;
    openers = f.desk.openers;
    clients = λ k x below. record { conn = (f.desk.clients k x below).conn; shut = (f.desk.clients k x below).shut ∙ same k };
  };
  clients = f.clients;
  over = f.over;
  lines = lines_ext s.outlets (is_dropped (room s log).over c) (is_dropped (room s log).over d) (λ j. got_of j log) (taken_of log) h.lines.items (λ k below. ap (λ b. (room s log).over || b) (same k)) f.lines;
  sized = f.sized;
  untold = f.untold;
  edges = f.edges;
  few = f.few;
  taken = f.taken;
  refusals = f.refusals;
  accepted = f.accepted;
  full = f.full;
}

pub or_assoc : (a b c : Bool) → ((a || b) || c) ≡ (a || (b || c))
or_assoc true b c = refl
or_assoc false b c = refl

-- a client is closed
pub closed_holds : (s : Setting) (closed : ℕ → Bool) (log : List Entry) (h k : Hub) (client conn : ℕ) → Holds s closed h log → Some client ≡ client_of h.desk.openers.items conn
    → ((limit : ℕ) (c : ℕ → Bool) (r : Room) → FitsDesk limit c h.desk r → FitsDesk limit (λ j. c j || is_client j (Some client)) k.desk r) → length k.desk.clients.items ≡ length h.desk.clients.items
    → ((firsts : List Outlet) (dropped : ℕ → Bool) (got : ℕ → List Item) (taken : List Message) → FitLines firsts dropped got taken h.lines.items → FitLines firsts (λ j. dropped j || is_client j (Some client)) got taken k.lines.items)
    → length k.lines.items ≡ length h.lines.items → k.edges ≡ h.edges → k.over ≡ h.over → k.untold ≡ h.untold → k.taken ≡ h.taken → k.refusals ≡ h.refusals → k.accepted ≡ h.accepted
    → Holds s (λ j. closed j || is_client j (client_of (room s log).openers conn)) k log
closed_holds s closed log h k client conn f is desk clients lines sized edges over untold taken refusals accepted =
    let who : Some client ≡ client_of (room s log).openers conn = is ∙ ap (λ os. client_of os conn) f.desk.openers in
    holds_ext s (λ j. closed j || is_client j (Some client)) (λ j. closed j || is_client j (client_of (room s log).openers conn)) k log (λ j. ap (λ o. closed j || is_client j o) who)
    (record {
      log_is = f.log_is;
      desk = desk s.limit closed (room s log) f.desk;
      clients = clients ∙ f.clients;
      over = over ∙ f.over;
      lines = lines_ext s.outlets (λ j. drops s closed log j || is_client j (Some client)) (is_dropped (room s log).over (λ j. closed j || is_client j (Some client))) (λ j. got_of j log) (taken_of log) k.lines.items
          (λ j below. or_assoc (room s log).over (closed j) (is_client j (Some client)))
          (lines s.outlets (drops s closed log) (λ j. got_of j log) (taken_of log) f.lines);
      sized = sized ∙ f.sized;
      untold = ap (λ v. v.items) untold ∙ f.untold;
      edges = edges ∙ f.edges;
      few = f.few;
      taken = ap (λ v. v.items) taken ∙ f.taken;
      refusals = ap (λ v. v.items) refusals ∙ f.refusals;
      accepted = ap (λ v. v.items) accepted ∙ f.accepted;
      full = f.full;
    })

-- nobody opened the connection
pub closed_none : (s : Setting) (closed : ℕ → Bool) (log : List Entry) (h : Hub) (conn : ℕ) → Holds s closed h log → None ≡ client_of h.desk.openers.items conn
    → Holds s (λ j. closed j || is_client j (client_of (room s log).openers conn)) h log
closed_none s closed log h conn f is =
    holds_ext s closed (λ j. closed j || is_client j (client_of (room s log).openers conn)) h log
    (λ j. or_false (closed j) ∙ ap (λ o. closed j || is_client j o) (is ∙ ap (λ os. client_of os conn) f.desk.openers)) f

-- one connection more
pub one_more_closed : (s : Setting) (closed : ℕ → Bool) (log : List Entry) (h : Hub) (conns : List ℕ) (i conn : ℕ) → i < length conns → conn ≡ get_or conns i conn
    → Holds s (λ k. (closed k || holds_client (room s log).openers k (take i conns)) || is_client k (client_of (room s log).openers conn)) h log
    → Holds s (λ k. closed k || holds_client (room s log).openers k (take (i + 1) conns)) h log
one_more_closed s closed log h conns i conn below is f =
    holds_ext s (λ k. (closed k || holds_client (room s log).openers k (take i conns)) || is_client k (client_of (room s log).openers conn)) (λ k. closed k || holds_client (room s log).openers k (take (i + 1) conns)) h log
    (λ k. or_assoc (closed k) (holds_client (room s log).openers k (take i conns)) (is_client k (client_of (room s log).openers conn))
    ∙ ap (λ b. closed k || b) (ap (λ c. holds_client (room s log).openers k (take i conns) || is_client k (client_of (room s log).openers c)) is
    ∙ sym (list_any_more (λ c. is_client k (client_of (room s log).openers c)) conns i conn below))) f

-- all is handed out
pub hands_out : (s : Setting) (closed : ℕ → Bool) (log : List Entry) (h k : Hub) (closes : List ℕ) → Offers s closed h log [] closes
    → Holds s (λ j. closed j || holds_client (room s log).openers j closes) k log → Rests s k log
hands_out s closed log h k closes f holds = record {
  holds = holds_ext s (λ j. closed j || holds_client (room s log).openers j closes) (room s log).closed k log (λ j. sym (f.awaits.shut j)) holds;
  pending = f.awaits.pending;
}

-- ---- the whole run

pub new_idle : (limit : ℕ) (outlets : List Outlet) (h : Hub) → FitsDesk limit (λ k. false) h.desk fresh_room → length h.desk.clients.items ≡ length outlets → h.over ≡ false
    → FitLines outlets (λ k. false) (λ k. []) [] h.lines.items → length h.lines.items ≡ length outlets → h.untold.items ≡ [] → h.edges ≡ length outlets - 1 → h.taken.items ≡ [] → h.refusals.items ≡ [] → h.accepted.items ≡ []
    → IsIdle (setting_of limit outlets) h []
new_idle limit outlets h desk clients over lines sized untold edges taken refusals accepted = record {
  rests = record {
    holds = record {
      log_is = tt;
      desk = desk;
      clients = clients;
      over = over;
      lines = lines;
      sized = sized;
      untold = untold;
      edges = edges;
      few = omega arith;
      taken = taken;
      refusals = refusals;
      accepted = accepted;
      full = tt;
    };
    pending = refl;
  };
  untold = refl;
}

pub both_true : (a b : Bool) → (a && b) ≡ true → (a ≡ true) × (b ≡ true)
both_true true true e = (refl, refl)
both_true true false e = absurd (true≢false (sym e))
both_true false b e = absurd (true≢false (sym e))

pub each_ended : (n : ℕ) (ms : List Message) → have_ended n ms ≡ true → (k : ℕ) → k < n → has_ended k ms ≡ true
each_ended zero ms h k below = absurd (omega (arith, below))
each_ended (suc n) ms h k below =
    let both : (has_ended n ms ≡ true) × (have_ended n ms ≡ true) = both_true (has_ended n ms) (have_ended n ms) h in
    elim (same_or_not k n) [
      | inl same ↦ ap (λ i. has_ended i ms) same ∙ both.0
      | inr other ↦ each_ended n ms both.1 k (omega (arith, below, other))
    ]

pub run_done : (n : Ingress) (start : BrokerStart) (pass : TakePass) (hub : Hub) (end : BrokerEnd) → BrokerReady n start → HasAllEnded (setting_of (256 - 2 * start.width) start.outlets.items) hub
    → TakesFrom n pass → frames_taken pass ≡ hub.taken.items → AllByRecursion (λ (m : Message). m.sender < n.senders) hub.taken.items → IsEndOf hub pass end → BrokerDone n start end
run_done n start pass hub end ready all takes frames senders is =
    let limit : ℕ = 256 - 2 * start.width in
    let s : Setting = setting_of limit start.outlets.items in
    let held : Holds s (room s all.log).closed hub all.log = all.idle.rests.holds in
    let host : length start.outlets.items - 1 ≡ n.senders - 1 = ap (λ m. m - 1) ready.rings in
    record {
      log = all.log;
      is_log = subst (λ e. IsLog limit e all.log) host held.log_is;
      offered = subst (λ e. (room_of limit e all.log).pending ≡ []) host all.idle.rests.pending;
      told = subst (λ e. (room_of limit e all.log).untold ≡ []) host all.idle.untold;
      ended = λ k below. each_ended (length start.outlets.items) (taken_of all.log) all.ended k (subst (λ m. k < m) (sym ready.rings) below);
      pass = subst (TakesFrom n) (sym is.pass_is) takes;
      frames = ap frames_taken is.pass_is ∙ (frames ∙ held.taken);
      taken = is.taken ∙ held.taken;
      senders = subst (AllByRecursion (λ (m : Message). m.sender < n.senders)) held.taken senders;
      counted = subst (λ (ms : List Message). length ms < 2 ^ 64) held.taken (omega (arith, hub.taken.ok.0));
      refusals = is.refusals ∙ held.refusals;
      refused = is.refused ∙ (ap (λ e. refused_to e hub.refusals.items) (held.edges ∙ host) ∙ ap (refused_to (n.senders - 1)) held.refusals);
      full = held.full;
      accepted = is.accepted ∙ (held.accepted ∙ ap (λ e. accepted_of e all.log) host);
      is_cut = is.is_cut limit (room s all.log).closed (room s all.log) held.desk ∙ (ap (room s all.log).closed (held.edges ∙ host) ∙ ap (λ e. (room_of limit e all.log).closed (n.senders - 1)) host);
      sized = is.sized ∙ (held.sized ∙ ready.rings);
      tokens = is.tokens start.outlets.items (drops s (room s all.log).closed all.log) (λ k. got_of k all.log) (taken_of all.log) held.lines;
    }
