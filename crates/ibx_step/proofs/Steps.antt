-- A step with what was fetched and decoded is a step of the architecture.
use Rattle.std.proofs.Common.{◌≡◌, ℕ, ◌+◌, ◌%◌, ◌^◌, ◌<◌, subst, Bool, true, false, Option, Some, None, refl, sym, ap}
use Rattle.std.proofs.Common.{◌∙◌, if◌then◌else◌}
use Rattle.ibx_isa.specs.declared.insn.Insn.{Insn}
use Rattle.ibx_isa.specs.declared.event.Event.{Event}
use Rattle.ibx_csr.specs.Values.{CsrValues, counters_after}
use Rattle.ibx_decoder.specs.Instructions.{instruction_of}
use Rattle.ibx_arch.specs.declared.fetched.Fetched.{Fetched}
use Rattle.ibx_arch.specs.declared.fetched.Fetched.TheVariants.{Unsound, Instruction}
use Rattle.ibx_arch.specs.Fetch.{fetch}
use Rattle.ibx_arch.specs.State.{State, at_cycle}
use Rattle.ibx_arch.specs.Step.{Stepped, Interrupt, Parcels, interrupted, after_fetch, arch_step, decoded, instruction}
use Rattle.ibx_arch.specs.Step.{is_wait, is_wait_at, parcel_at, present_step, step_with, takes_choice, would_wait}
use Rattle.ibx_arch.specs.Laws.{IsAligned}
use Rattle.ibx_arch.proofs.Aligned.{stays_aligned}
use Rattle.ibx_step.specs.declared.fetch.Prepared.{Prepared}
use Rattle.ibx_step.specs.Machines.{Steps}
use Rattle.ibx_step.specs.Preparing.{prepared_from, decoded_word, carried_out, is_wait_of}

-- protection and the mode don't change while the counters pass
fetch_moved : (s : State) (cycle first second : ℕ) → fetch (at_cycle s cycle) first second ≡ fetch s first second
unfolding fetch counters_after
fetch_moved s cycle first second = refl

-- what is carried out is the architecture's step, from the decoded word, from what was fetched, and from parcels
decoded_alike : (s : State) (cycle lines word length : ℕ) (o : Option Insn)
    → carried_out s cycle lines (decoded_word word length o) ≡ decoded s cycle word length lines o
unfolding carried_out
decoded_alike s cycle lines word length None = refl
decoded_alike s cycle lines word length (Some insn) = refl

-- what was fetched is carried out as in the architecture, an unsound parcel too
fetched_alike : (s : State) (cycle lines : ℕ) (f : Fetched)
    → carried_out s cycle lines (prepared_from f) ≡ after_fetch s cycle lines f
unfolding carried_out prepared_from
fetched_alike s cycle lines (Unsound addr) = refl
fetched_alike s cycle lines (Instruction word length) = decoded_alike s cycle lines word length (instruction_of word)

-- two parcels, fetched before the counters move, are carried out as the architecture's instruction after it
pub carried_alike : (s : State) (cycle lines first second : ℕ)
    → carried_out (at_cycle s cycle) cycle lines (prepared_from (fetch s first second))
    ≡ instruction (at_cycle s cycle) first second cycle lines
unfolding instruction
carried_alike s cycle lines first second =
    ap (λ (f : Fetched). carried_out (at_cycle s cycle) cycle lines (prepared_from f))
    (sym (fetch_moved s cycle first second))
    ∙ fetched_alike (at_cycle s cycle) cycle lines (fetch (at_cycle s cycle) first second)

-- so they are carried out as the step with these parcels as its choice
pub carried_step : (s : State) (cycle lines first second : ℕ)
    → carried_out (at_cycle s cycle) cycle lines (prepared_from (fetch s first second))
    ≡ step_with (λ _. lines) s (Parcels first second) cycle
unfolding step_with
carried_step s cycle lines first second = carried_alike s cycle lines first second

-- the same test of a WFI that waits
wait_word : (csrs : CsrValues) (word length : ℕ) (o : Option Insn)
    → is_wait_of csrs (decoded_word word length o) ≡ is_wait csrs o
wait_word csrs word length None = refl
wait_word csrs word length (Some insn) = refl

-- preparing what was fetched leaves whether it is a WFI that waits
wait_fetched : (csrs : CsrValues) (f : Fetched) → is_wait_of csrs (prepared_from f) ≡ is_wait_at csrs f
unfolding prepared_from
wait_fetched csrs (Unsound addr) = refl
wait_fetched csrs (Instruction word length) = wait_word csrs word length (instruction_of word)

-- the parcels that memory holds
abbrev pub first_at : State → ℕ
first_at s = parcel_at s s.pc

-- the parcels that memory holds, at the program counter and after it
abbrev pub second_at : State → ℕ
second_at s = parcel_at s ((s.pc + 2) % 2 ^ 32)

-- the step of the machine is none at a WFI that would wait for ever, and else what is carried out
step_by : (s : State) (cycle : ℕ) (waits : Bool)
    → is_wait_of s.csrs (prepared_from (fetch s (first_at s) (second_at s))) ≡ waits
    → present_step s cycle ≡ (if waits then None
    else Some (instruction (at_cycle s cycle) (first_at s) (second_at s) cycle 0))
unfolding present_step arch_step takes_choice step_with would_wait
step_by s cycle waits e =
    ap (λ (b : Bool). if b then None else Some (instruction (at_cycle s cycle) (first_at s) (second_at s) cycle 0))
    (sym (wait_fetched s.csrs (fetch s (first_at s) (second_at s))) ∙ e)

-- a machine has no step where memory holds a WFI that may wait
pub waits_for_ever : (s : State) (cycle : ℕ)
    → is_wait_of s.csrs (prepared_from (fetch s (first_at s) (second_at s))) ≡ true → present_step s cycle ≡ None
waits_for_ever s cycle = step_by s cycle true

-- everywhere else its step carries out the parcels that memory holds
pub takes_step : (s : State) (cycle : ℕ)
    → is_wait_of s.csrs (prepared_from (fetch s (first_at s) (second_at s))) ≡ false
    → present_step s cycle ≡ Some (carried_out (at_cycle s cycle) cycle 0
    (prepared_from (fetch s (first_at s) (second_at s))))
takes_step s cycle e = step_by s cycle false e ∙ ap Some (sym (carried_alike s cycle 0 (first_at s) (second_at s)))

-- with no step there is no event, and the state stays
pub steps_none : (s : State) (step : Option Stepped) → step ≡ None → Steps s step None s
steps_none s step e = subst (λ (o : Option Stepped). Steps s o None s) (sym e) (refl, refl)

-- where there is a step, the machine's event and its next state are those that it gives
pub steps_some : (s next : State) (step : Option Stepped) (event : Event)
    → step ≡ Some (record { event = event; next = next }) → Steps s step (Some event) next
steps_some s next step event e = subst (λ (o : Option Stepped). Steps s o (Some event) next) (sym e) (refl, refl)

-- these parcels are those that memory holds, and this is what they are
pub record IsPrepared (s : State) (first second : ℕ) (prepared : Prepared) : Type 0 where
  pub first_is : first ≡ parcel_at s s.pc
  pub second_is : second ≡ parcel_at s ((s.pc + 2) % 2 ^ 32)
  pub is : prepared ≡ prepared_from (fetch s first second)

-- what is prepared from these parcels is what memory holds
held : {s : State} {first second : ℕ} {prepared : Prepared} → IsPrepared s first second prepared
    → prepared ≡ prepared_from (fetch s (first_at s) (second_at s))
held {s} {first} {second} {prepared} p =
    p.is ∙ ap (λ (n : ℕ). prepared_from (fetch s n second)) p.first_is
    ∙ ap (λ (n : ℕ). prepared_from (fetch s (first_at s) n)) p.second_is

-- so a machine that prepared them has no step at such a WFI, and else this one
pub step_waits : (s : State) (cycle first second : ℕ) (prepared : Prepared) → IsPrepared s first second prepared
    → is_wait_of s.csrs prepared ≡ true → present_step s cycle ≡ None
step_waits s cycle first second prepared p e = waits_for_ever s cycle (sym (ap (is_wait_of s.csrs) (held p)) ∙ e)

-- where no WFI waits, what a machine carries out of prepared parcels is its step
pub step_goes : (s : State) (cycle first second : ℕ) (prepared : Prepared) (stepped : Stepped)
    → IsPrepared s first second prepared → is_wait_of s.csrs prepared ≡ false
    → stepped ≡ carried_out (at_cycle s cycle) cycle 0 prepared → present_step s cycle ≡ Some stepped
step_goes s cycle first second prepared stepped p e f =
    takes_step s cycle (sym (ap (is_wait_of s.csrs) (held p)) ∙ e)
    ∙ ap Some (sym (f ∙ ap (carried_out (at_cycle s cycle) cycle 0) (held p)))

-- what is carried out keeps the program counter and mepc even
pub carried_aligned : (s : State) (cycle lines first second : ℕ) (prepared : Prepared) (stepped : Stepped)
    → prepared ≡ prepared_from (fetch s first second) → first < 2 ^ 16 → second < 2 ^ 16 → IsAligned s
    → stepped ≡ carried_out (at_cycle s cycle) cycle lines prepared → IsAligned stepped.next
carried_aligned s cycle lines first second prepared stepped p f g a e =
    subst (λ (x : Stepped). IsAligned x.next)
    (sym (e ∙ ap (carried_out (at_cycle s cycle) cycle lines) p ∙ carried_step s cycle lines first second))
    (stays_aligned (λ _. lines) s (Parcels first second) cycle (f, g) a)

-- a step with a choice
pub carried_prepared : (s : State) (cycle lines first second : ℕ) (prepared : Prepared) (stepped : Stepped)
    → prepared ≡ prepared_from (fetch s first second) → stepped ≡ carried_out (at_cycle s cycle) cycle lines prepared
    → stepped ≡ step_with (λ _. lines) s (Parcels first second) cycle
carried_prepared s cycle lines first second prepared stepped p e =
    e ∙ ap (carried_out (at_cycle s cycle) cycle lines) p ∙ carried_step s cycle lines first second

-- an interrupt that is taken is the step with that choice
pub interrupt_step : (s : State) (cycle lines number : ℕ)
    → interrupted (at_cycle s cycle) number cycle ≡ step_with (λ _. lines) s (Interrupt number) cycle
unfolding step_with
interrupt_step s cycle lines number = refl
