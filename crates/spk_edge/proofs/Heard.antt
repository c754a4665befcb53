-- What a STATE gives, and how a node that has no input but an act at a moment answers it.
use Rattle.std.specs.Option.{option_map}
use Rattle.std.proofs.Common.{◌⊎◌, ◌≡◌, inl, inr, ◌∙◌, ap, sym, refl, subst, ℕ, Bool, true, false, cond, List, Option, Some, None, is_some, Result, Ok}
use Rattle.spk_state.specs.Step.{after_heard, heard_as}
use Rattle.spk_state.specs.Text.{state_at}
use Rattle.spk_state.specs.declared.fault.StateFault.TheVariants.{BadState}
use Rattle.spk_state.specs.declared.state.State as read
use Rattle.spk_edge_rules.specs.declared.fault.EdgeFault.{EdgeFault}
use Rattle.spk_edge_rules.specs.declared.fault.EdgeFault.TheVariants as fault
use Rattle.spk_edge_rules.specs.Inputs as inputs
use Rattle.spk_edge_rules.specs.Rules as rule
use Rattle.spk_edge_rules.specs.Step as step
use Rattle.spk_edge.specs.Patch.{IsGivenBy, IsRefusedBy, plain_input}
use Rattle.spk_edge.specs.View.{NodeData, given_of, given_view, act_view, input_view}
use Rattle.spk_edge.specs.declared.input.Input.{Input}
use Rattle.spk_edge.specs.declared.message.Given.{Given}

-- ---- an act at a moment

pub plain-given : (n : NodeData) (i : Input) (act : inputs.Act) (g : Given) → act_view i.act ≡ act → IsGivenBy n (plain_input i.now act) g → IsGivenBy n (input_view i) g
plain-given n i act g is given = record {
  given = given.given;
  acted = ap (rule.acts n.config n.standing.seq n.standing.asked i.now) is ∙ given.acted;
  is = given.is ∙ ap (λ a. given_of n.config (step.heard_after n.config n.standing.asked.heard a) given.given) (sym is);
}

pub plain-refused : (n : NodeData) (i : Input) (act : inputs.Act) (e : EdgeFault) → act_view i.act ≡ act → IsRefusedBy n (plain_input i.now act) e → IsRefusedBy n (input_view i) e
plain-refused n i act e is refused = subst (λ a. IsRefusedBy n (plain_input i.now a) e) (sym is) refused

-- ---- a STATE

abbrev gave : rule.Given → Result rule.Given EdgeFault
gave g = Ok g

abbrev heard-in : (n : NodeData) (now : ℕ) (payload : List ℕ) → Bool → Result rule.Given EdgeFault
heard-in n now payload b = cond b (rule.heard_in n.config n.standing.asked now (state_at payload)) (gave (rule.nothing n.standing.asked))

none-is : (p : Option (List ℕ)) → is_some p ≡ false → p ≡ None
none-is None e = refl
none-is (Some host) e = absurd (let x : ⊥ = cc in x)

pub some-mapped : {X Y : Type 0} (f : X → Y) (p : Option X) → is_some (option_map f p) ≡ is_some p
some-mapped f None = refl
some-mapped f (Some x) = refl

-- without a primary host
pub unstated : (n : NodeData) (now : ℕ) (payload : List ℕ) (g : Given) → is_some n.config.primary ≡ false
    → given_view g ≡ given_of n.config n.standing.asked.heard (rule.nothing n.standing.asked) → IsGivenBy n (plain_input now (inputs.State payload)) g
unstated n now payload g none given = record {
  given = rule.nothing n.standing.asked;
  acted = ap (heard-in n now payload) none;
  is = given ∙ ap (λ (p : Option (List ℕ)). given_of n.config (step.heard_by p n.standing.asked.heard (state_at payload)) (rule.nothing n.standing.asked)) (sym (none-is n.config.primary none));
}

heard-some : (p : Option (List ℕ)) (heard : Option ℕ) (s : read.State) → is_some p ≡ true → after_heard heard s ≡ step.heard_by p heard (Some s)
heard-some None heard s e = absurd (let x : ⊥ = cc in x)
heard-some (Some host) heard s e = refl

abbrev said : (n : NodeData) (now : ℕ) → read.State → rule.Given
said n now s = rule.hearing n.config n.standing.asked now (heard_as n.standing.asked.heard s)

said-is : (n : NodeData) (now : ℕ) (payload : List ℕ) (s : read.State) → is_some n.config.primary ≡ true → state_at payload ≡ Some s → rule.stating n.config n.standing.asked now payload ≡ Ok (said n now s)
said-is n now payload s some is = ap (heard-in n now payload) some ∙ ap (rule.heard_in n.config n.standing.asked now) is

pub stated : (n : NodeData) (now : ℕ) (payload : List ℕ) (s : read.State) (g : Given) → is_some n.config.primary ≡ true → state_at payload ≡ Some s
    → given_view g ≡ given_of n.config (after_heard n.standing.asked.heard s) (said n now s) → IsGivenBy n (plain_input now (inputs.State payload)) g
stated n now payload s g some is given = record {
  given = said n now s;
  acted = said-is n now payload s some is;
  is = given ∙ ap (λ (h : Option ℕ). given_of n.config h (said n now s))
      (heard-some n.config.primary n.standing.asked.heard s some ∙ ap (step.heard_by n.config.primary n.standing.asked.heard) (sym is));
}

pub stated-late : (n : NodeData) (now : ℕ) (payload : List ℕ) (s : read.State) (e : EdgeFault) → is_some n.config.primary ≡ true → state_at payload ≡ Some s
    → (e ≡ fault.NoMemory) ⊎ ((e ≡ fault.ClockEnd) × (rule.is_timely (said n now s) ≡ false)) → IsRefusedBy n (plain_input now (inputs.State payload)) e
stated-late n now payload s e some is (inl memory) = inl memory
stated-late n now payload s e some is (inr (end, never)) = inr (inr (end, (said n now s, said-is n now payload s some is, never)))

pub stated-badly : (n : NodeData) (now : ℕ) (payload : List ℕ) (e : EdgeFault) → is_some n.config.primary ≡ true
    → (e ≡ fault.NoMemory) ⊎ ((e ≡ fault.State BadState) × (state_at payload ≡ None)) → IsRefusedBy n (plain_input now (inputs.State payload)) e
stated-badly n now payload e some (inl memory) = inl memory
stated-badly n now payload e some (inr (bad, none)) =
    subst (IsRefusedBy n (plain_input now (inputs.State payload))) (sym bad) (inr (inl (ap (heard-in n now payload) some ∙ ap (rule.heard_in n.config n.standing.asked now) none)))
