-- Calls that a new host is asked to do, one after the other, and items that come one after the other.
use Rattle.std.proofs.Common.{◌≡◌, ◌∙◌, ap, sym, subst, refl, ℕ, ◌+◌, Bool, true, false, List, [], ◌∷◌, ◌++◌, map, length, reverse, Option, Some, None}
use Rattle.std.proofs.lemmas.List.{append_assoc, append-nil, length-map, length-reverse, map-append, reverse-append}
use Rattle.spk_ingress.specs.declared.frame.Frame.{Frame}
use Rattle.spk_ingress.specs.declared.frame.Frame.TheVariants as frame
use Rattle.spk_rings.specs.Ring.{SameInlet, popped}
use Rattle.spk_rings.specs.declared.inlet.Inlet.{Inlet}
use Rattle.spk_rings.specs.declared.item.Item.{Item}
use Rattle.spk_reading.specs.Data.{HeardData, NumberedData}
use Rattle.spk_host_session.specs.Data.{Config}
use Rattle.spk_host.specs.Data.{HostData}
use Rattle.spk_host.specs.Inputs.{Call, Heard, Ticked, Connected, host_after, new_host}
use Rattle.spk_plant_host.specs.Calls.{answer_at, done, is_done, out_at, packets_of}
use Rattle.spk_plant_host.specs.Steps.{HasRun, IsAfter, IsAlong, Took, TookTold}
use Rattle.spk_plant_host.specs.Told.{AreToldBy, IsToldBy, asked, consumed_at, consumed_by, consumed_in, consumptions, heard_in, told_in}
use Rattle.spk_plant_host.specs.declared.ends.Given.{Given}
use Rattle.spk_plant_host.proofs.Answering.{answer_no, answer_yes, asked_no, asked_yes}

-- ---- one call more

pub done_yes : (config : Config) (before : List Call) (call : Call) → is_done (host_after config (done config before)) call ≡ true →
    done config (call ∷ before) ≡ call ∷ done config before
unfolding done
done_yes config before call e = rw e refl

done_no : (config : Config) (before : List Call) (call : Call) → is_done (host_after config (done config before)) call ≡ false →
    done config (call ∷ before) ≡ done config before
unfolding done
done_no config before call e = rw e refl

packets_more : (config : Config) (call : Call) (before : List Call) →
    packets_of config (call ∷ before) ≡ packets_of config before ++ (out_at (host_after config before) call).packets
unfolding packets_of
packets_more config call before = refl

frames_more : (p : List Frame) (xs ys : List (List ℕ)) → (p ++ map frame.Packet xs) ++ map frame.Packet ys ≡ p ++ map frame.Packet (xs ++ ys)
frames_more p xs ys = append_assoc p (map frame.Packet xs) (map frame.Packet ys) ∙ ap (λ l. p ++ l) (sym (map-append frame.Packet xs ys))

after_yes : (config : Config) (p : List Frame) (before : List Call) (call : Call) (new : HostData) (q r : List Frame) (taken : List NumberedData) →
    let h = host_after config (done config before) in
    q ≡ p ++ map frame.Packet (packets_of config (done config before)) → Took call h new q r taken → is_done h call ≡ true →
    IsAfter config p (call ∷ before) new r
after_yes config p before call new q r taken f t e =
    let calls = done config before in
    let h = host_after config calls in
    let d = done_yes config before call e in
    let out = ap (λ (o : _). o.packets) (answer_yes call h e) in
    record {
      state = t.state ∙ asked_yes call h e ∙ ap (host_after config) (sym d);
      frames = t.frames ∙ ap (λ l. l ++ map frame.Packet (answer_at h call).packets) f
          ∙ frames_more p (packets_of config calls) (answer_at h call).packets
          ∙ ap (λ l. p ++ map frame.Packet (packets_of config calls ++ l)) out
          ∙ ap (λ l. p ++ map frame.Packet l) (sym (packets_more config call calls))
          ∙ ap (λ l. p ++ map frame.Packet (packets_of config l)) (sym d);
    }

after_no : (config : Config) (p : List Frame) (before : List Call) (call : Call) (new : HostData) (q r : List Frame) (taken : List NumberedData) →
    let h = host_after config (done config before) in
    q ≡ p ++ map frame.Packet (packets_of config (done config before)) → Took call h new q r taken → is_done h call ≡ false →
    IsAfter config p (call ∷ before) new r
after_no config p before call new q r taken f t e =
    let calls = done config before in
    let h = host_after config calls in
    let d = done_no config before call e in
    let out = ap (λ (o : _). o.packets) (answer_no call h e) in
    record {
      state = t.state ∙ asked_no call h e ∙ ap (host_after config) (sym d);
      frames = t.frames ∙ ap (λ l. q ++ map frame.Packet l) out ∙ append-nil q ∙ f
          ∙ ap (λ l. p ++ map frame.Packet (packets_of config l)) (sym d);
    }

pub after_call : (config : Config) (p : List Frame) (before : List Call) (call : Call) (h new : HostData) (q r : List Frame) (taken : List NumberedData) →
    IsAfter config p before h q → Took call h new q r taken → IsAfter config p (call ∷ before) new r
after_call config p before call h new q r taken a t =
    either (is_done at call) refl
  where
    at : HostData
    at = host_after config (done config before)

    took : Took call at new q r taken
    took = subst (λ x. Took call x new q r taken) a.state t

    either : (b : Bool) → is_done at call ≡ b → IsAfter config p (call ∷ before) new r
    either true e = after_yes config p before call new q r taken a.frames took e
    either false e = after_no config p before call new q r taken a.frames took e

-- ---- the first call

no_calls : (config : Config) (p : List Frame) (h : HostData) → h ≡ new_host config → IsAfter config p [] h p
unfolding done packets_of
no_calls config p h e = record { state = e; frames = sym (append-nil p) }

pub after_begin : (config : Config) (p q : List Frame) (h new : HostData) (taken : List NumberedData) → h ≡ new_host config →
    Took (Connected 0) h new p q taken → IsAlong config p [] [] new q
after_begin config p q h new taken e t = record {
  told = tt;
  after = after_call config p [] (Connected 0) h new p q taken (no_calls config p h e) t;
  consumed = refl;
}

-- ---- one item more

told_more : (given : List Given) (g : Given) → told_in (given ++ g ∷ []) ≡ heard_in g ∷ told_in given
told_more given g = ap reverse (map-append heard_in given (g ∷ [])) ∙ reverse-append (map heard_in given) (heard_in g ∷ [])

consumed_more : (given : List Given) (g : Given) → consumed_by (given ++ g ∷ []) ≡ consumed_in g ∷ consumed_by given
consumed_more given g = ap reverse (map-append consumed_in given (g ∷ [])) ∙ reverse-append (map consumed_in given) (consumed_in g ∷ [])

told_length : (given : List Given) → length (told_in given) ≡ length given
told_length given = length-reverse (map heard_in given) ∙ length-map given heard_in

told_by_more : (items : List Item) (told : List (Option HeardData)) (item : Item) (t : Option HeardData) → AreToldBy items told → IsToldBy item t →
    AreToldBy (items ++ item ∷ []) (told ++ t ∷ [])
told_by_more [] [] item t all one = (one, tt)
told_by_more [] (u ∷ told) item t all one = absurd all
told_by_more (i ∷ items) [] item t all one = absurd all
told_by_more (i ∷ items) (u ∷ told) item t all one = (all.0, told_by_more items told item t all.1 one)

-- what the item says was told, and nothing else
mid_after : (config : Config) (p : List Frame) (before : List (Option HeardData)) (t : Option HeardData) (now : ℕ) (h new : HostData) (q r : List Frame) (taken : List NumberedData) →
    now ≡ length before + 1 → IsAfter config p (asked before) h q → TookTold t now h new q r taken →
    (calls : List Call) × IsAfter config p calls new r × (Ticked now ∷ calls ≡ asked (t ∷ before)) × (taken ≡ consumed_at config before t)
mid_after config p before (Some heard) now h new q r taken e a t = (
  Heard heard now ∷ asked before,
  after_call config p (asked before) (Heard heard now) h new q r taken a t,
  ap (λ n. Ticked n ∷ Heard heard n ∷ asked before) e,
  t.took ∙ ap (λ x. (answer_at x (Heard heard now)).consumed) a.state
      ∙ ap (λ n. (answer_at (host_after config (done config (asked before))) (Heard heard n)).consumed) e,
)
mid_after config p before None now h new q r taken e a t = (
  asked before,
  record { state = t.0 ∙ a.state; frames = t.1 ∙ a.frames },
  ap (λ n. Ticked n ∷ asked before) e,
  t.2,
)

pub along_more : (config : Config) (p : List Frame) (items : List Item) (given : List Given) (item : Item) (g : Given) (now : ℕ)
    (h mid new : HostData) (q r s : List Frame) (nothing_taken : List NumberedData) →
    now ≡ length given + 1 → IsAlong config p items given h q → IsToldBy item (heard_in g) →
    TookTold (heard_in g) now h mid q r (consumed_in g) → Took (Ticked now) mid new r s nothing_taken →
    IsAlong config p (items ++ item ∷ []) (given ++ g ∷ []) new s
along_more config p items given item g now h mid new q r s nothing_taken e a told t u =
    let m = mid_after config p (told_in given) (heard_in g) now h mid q r (consumed_in g)
    (e ∙ ap (λ n. n + 1) (sym (told_length given))) a.after t in
    let more = told_more given g in
    record {
      told = subst (AreToldBy (items ++ item ∷ [])) (sym (map-append heard_in given (g ∷ [])))
          (told_by_more items (map heard_in given) item (heard_in g) a.told told);
      after = subst (λ calls. IsAfter config p calls new s) (m.2 ∙ ap asked (sym more))
          (after_call config p m.0 (Ticked now) mid new r s nothing_taken m.1 u);
      consumed = consumed_more given g ∙ ap (λ x. x ∷ consumed_by given) m.3
          ∙ ap (λ l. consumed_at config (told_in given) (heard_in g) ∷ l) a.consumed
          ∙ ap (consumptions config) (sym more);
    }

-- ---- items of a ring

pub same_inlet : (a : Inlet) → SameInlet a a
same_inlet a = (refl, refl, refl, refl)

pub same_then : (a b c : Inlet) → SameInlet a b → SameInlet b c → SameInlet a c
same_then a b c s t = (t.0 ∙ s.0, t.1 ∙ s.1, t.2 ∙ s.2, t.3 ∙ s.3)

pub ran_more : (config : Config) (p : List Frame) (first before between after : Inlet) (given later : List Given) (item : Item) (h new : HostData) (q r : List Frame) →
    HasRun config p first before given h q → popped between ≡ popped before → popped after ≡ popped between ++ item ∷ [] →
    ((items : List Item) → IsAlong config p items given h q → IsAlong config p (items ++ item ∷ []) later new r) →
    HasRun config p first after later new r
ran_more config p first before between after given later item h new q r ran same one more = record {
  items = ran.items ++ item ∷ [];
  taken = one ∙ ap (λ l. l ++ item ∷ []) (same ∙ ran.taken) ∙ append_assoc (popped first) ran.items (item ∷ []);
  along = more ran.items ran.along;
}
