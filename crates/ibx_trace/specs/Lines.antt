-- The lines of a trace, each as its bytes with the line feed. The format is our own.
use Rattle.std.specs.Prelude.{ℕ, ◌==◌, if◌then◌else◌, Bool, List, [], ◌++◌, Option, Some, None, codes}
use Rattle.std.specs.Fmt.{decimal}
use Rattle.ibx_isa.specs.declared.event.Access.{Access}
use Rattle.ibx_isa.specs.declared.event.Event.{Event}
use Rattle.ibx_isa.specs.declared.event.Event.TheVariants.{Retire, Trap, Irq}
use Rattle.ibx_text.specs.Digits.{hex_digits, two_digits}
use Rattle.ibx_trace.specs.Digits.{word_digits}

-- the kind of an event, its cycle and the address of its instruction
unfoldable pub heading : List ℕ → ℕ → ℕ → List ℕ
heading kind cycle pc = kind ++ decimal cycle ++ codes " " ++ hex_digits 8 pc

-- the register that was written and its new value, and nothing for x0
unfoldable pub register_text : ℕ → ℕ → List ℕ
register_text rd value = if rd == 0 then [] else codes " x" ++ two_digits rd ++ codes "=" ++ hex_digits 8 value

-- the byte address, the value and the size in bytes of a store, and nothing for a load
unfoldable pub store_text : Option Access → List ℕ
store_text None = []
store_text (Some access) = if access.store
    then codes " m" ++ hex_digits 8 access.addr ++ codes "=" ++ hex_digits 8 access.value ++ codes "/"
    ++ decimal access.size
    else []

-- the line of an event
unfoldable pub line_of : Event → List ℕ
line_of (Retire cycle pc word rd value mem ctl ops) =
    heading (codes "R ") cycle pc ++ codes " " ++ word_digits word ++ register_text rd value ++ store_text mem
    ++ codes "\n"
line_of (Trap cycle pc word cause tval addr) =
    heading (codes "T ") cycle pc ++ codes " cause=" ++ decimal cause ++ codes " tval=" ++ hex_digits 8 tval
    ++ codes "\n"
line_of (Irq cycle pc cause) = heading (codes "I ") cycle pc ++ codes " cause=" ++ decimal cause ++ codes "\n"

-- the last line: whether a halting store ended the run, the count of cycles, and the count of events
unfoldable pub end_line_of : Bool → ℕ → ℕ → List ℕ
end_line_of halted cycles events =
    (if halted then codes "E halt " else codes "E budget ") ++ decimal cycles ++ codes " " ++ decimal events
    ++ codes "\n"
