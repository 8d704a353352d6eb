-- What of an event a printed line shows, and which events have a line.
use Rattle.std.specs.Prelude.{◌≡◌, ℕ, ◌<◌, IsTrue, Option, Some, None}
use Rattle.ibx_isa.specs.declared.event.Access.{Access}
use Rattle.ibx_isa.specs.declared.event.Event.{Event}
use Rattle.ibx_isa.specs.declared.event.Event.TheVariants.{Retire, Trap, Irq}
use Rattle.ibx_isa.specs.Lengths.{IsWordOrHalf}

-- the register that an event changed, or 0 for none
abbrev pub event_register : Event → ℕ
event_register (Retire cycle pc word rd value mem ctl ops) = rd
event_register _ = 0

-- the instruction that an event carries, or 0 for none
abbrev pub event_word : Event → ℕ
event_word (Retire cycle pc word rd value mem ctl ops) = word
event_word (Trap cycle pc word cause tval addr) = word
event_word (Irq cycle pc cause) = 0

-- the access is a store
abbrev pub IsStore : Option Access → Type 0
IsStore None = ⊥
IsStore (Some access) = IsTrue access.store

-- the event is a store that retired
abbrev pub Stores : Event → Type 0
Stores (Retire cycle pc word rd value mem ctl ops) = IsStore mem
Stores _ = ⊥

-- an event that has a line: a register that there is, none for a store, and a word or a halfword
pub record IsPrintable (e : Event) : Type 0 where
  pub register : event_register e < 32
  pub store : Stores e → event_register e ≡ 0
  pub halfword : IsWordOrHalf (event_word e)
