-- Events that are told besides.
use Rattle.std.proofs.Common.{◌≡◌, ◌⊎◌, inl, inr, ℕ, List, [], ◌∷◌, ◌++◌, Result, Ok, Err, OnOk, OnErr, Option, Some, None, IfSome, sym, refl, ap, ◌∙◌, subst, append_assoc}
use Rattle.std.specs.List.{cons_option, filter_map}
use Rattle.std.proofs.lemmas.List.Elements.{filter_map-append}
use Rattle.spk_history.specs.Entry.{EntryData}
use Rattle.spk_history.specs.declared.fault.HistoryFault.{HistoryFault}
use Rattle.spk_historian.specs.Event.{EventData}
use Rattle.spk_historian.specs.Told.{HistorianData, Tells, consumed, entry_of, naming}
use Rattle.spk_host_history.specs.Telling.{Adds, Befalls}

pub told : (result : Result (Unit {0}) HistoryFault) (old new : HistorianData) (e : EventData)
    → OnOk result ((before entries : List EntryData) (part : List ℕ) (es : List EventData) → Tells before entries part es old
    → Tells before (entries ++ naming old.nodes e ++ entry_of es e ∷ []) part (e ∷ es) new)
    → OnOk result (Adds (e ∷ []) old new)
told (Ok x) old new e tells = λ before entries part es t. (_, tells before entries part es t)
told (Err f) old new e tells = tt

pub untold : (result : Result (Unit {0}) HistoryFault) (old new : HistorianData) (e : EventData)
    → OnErr result ((before entries : List EntryData) (part : List ℕ) (es : List EventData) → Tells before entries part es old
    → Tells before entries part es new ⊎ Tells before (entries ++ naming old.nodes e) part es new)
    → OnErr result (Adds [] old new)
untold (Ok x) old new e err = tt
untold (Err f) old new e err = λ before entries part es t. either before entries part es (err before entries part es t)
  where
    either : (before entries : List EntryData) (part : List ℕ) (es : List EventData)
        → Tells before entries part es new ⊎ Tells before (entries ++ naming old.nodes e) part es new → (now : List EntryData) × Tells before now part es new
    either before entries part es (inl t) = (_, t)
    either before entries part es (inr t) = (_, t)

pub nothing : (h : HistorianData) → Befalls h h
nothing h = ([], refl, λ before entries part es t. (entries, t))

-- one event that is no message, or none
pub one : (result : Result (Unit {0}) HistoryFault) (old new : HistorianData) (e : EventData) → consumed e ≡ None
    → OnOk result (Adds (e ∷ []) old new) → OnErr result (Adds [] old new) → Befalls old new
one (Ok x) old new e none ok err = (e ∷ [], ap (λ o. cons_option o []) none, ok)
one (Err f) old new e none ok err = ([], refl, err)

pub both : (a b c : HistorianData) → Befalls a b → Befalls b c → Befalls a c
both a b c first second = (
  second.0 ++ first.0,
  filter_map-append consumed second.0 first.0 ∙ ap (λ t. t ++ filter_map consumed first.0) second.1 ∙ first.1,
  λ before entries part es t.
      let one = first.2 before entries part es t in
      let two = second.2 before one.0 part (first.0 ++ es) one.1 in
      (two.0, subst (λ l. Tells before two.0 part l c) (sym (append_assoc second.0 first.0 es)) two.1),
)
