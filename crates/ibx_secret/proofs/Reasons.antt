-- An event leaks exactly where it has a reason, and the first leak of events is found.
use Rattle.std.proofs.Common.{◌≡◌, ℕ, zero, suc, ◌+◌, ◌%◌, ◌^◌, Bool, true, false, not, ◌&&◌, ◌||◌, ◌==◌, List, [], ◌∷◌}
use Rattle.std.proofs.Common.{Option, Some, None, refl, ap, ap₂, ◌∙◌, subst, arith, if◌then◌else◌}
use Rattle.std.specs.Prelude.{take, is_some}
use Rattle.std.specs.List.{slice_get}
use Rattle.ibx_elf.specs.declared.ram.Ram.{Ram}
use Rattle.ibx_isa.specs.declared.insn.Insn.{Insn}
use Rattle.ibx_isa.specs.declared.insn.Insn.TheVariants as row
use Rattle.ibx_isa.specs.declared.insn.MulKind.{MulKind}
use Rattle.ibx_isa.specs.declared.event.Access.{Access}
use Rattle.ibx_isa.specs.declared.event.Event.{Event}
use Rattle.ibx_isa.specs.declared.event.Event.TheVariants.{Retire, Trap, Irq}
use Rattle.ibx_isa.specs.Lengths.{is_long}
use Rattle.ibx_isa.specs.Causes.{fetch_fault}
use Rattle.ibx_csr.specs.Table.{csr_of}
use Rattle.ibx_decoder.specs.Instructions.{instruction_of}
use Rattle.ibx_secret.specs.declared.leak.Leak.{Leak}
use Rattle.ibx_secret.specs.declared.leak.Reason.{Reason}
use Rattle.ibx_secret.specs.declared.leak.Reason.TheVariants as reason
use Rattle.ibx_secret.specs.declared.leak.What.{What}
use Rattle.ibx_secret.specs.declared.leak.What.TheVariants.{Half, Reg, Mepc}
use Rattle.ibx_secret.specs.Marks.{Marks, marks_after, word_of}
use Rattle.ibx_secret.specs.Leaks.{hangs, is_blind, is_guarded_in, is_marked_half, is_marked_word, leaks, leaks_by}
use Rattle.ibx_secret.specs.Leaks.{leaks_fetched, leaks_retired, leaks_trapped, names_halt}
use Rattle.ibx_secret.specs.Runs.{has_leak, marks_end}
use Rattle.ibx_secret.specs.Reasons.{FindsLeak, IsFirstLeak, TellsLeaks, first_leak, first_of, leak_by, leak_fetched}
use Rattle.ibx_secret.specs.Reasons.{leak_half, leak_here, leak_if, leak_in, leak_of, leak_reg, leak_retired}
use Rattle.ibx_secret.specs.Reasons.{leak_second, leak_trapped, leak_word}

-- a leak is there where something is marked
told_if : (b : Bool) (r : Reason) (w : What) → b ≡ is_some (leak_if b r w)
told_if true r w = refl
told_if false r w = refl

-- and one of two where either is
told_first : (a b : Option Leak) → (is_some a || is_some b) ≡ is_some (first_of a b)
told_first (Some leak) b = refl
told_first None b = refl

-- so for two tests and the leaks that they make
told_two : (x y : Bool) (a b : Option Leak) → x ≡ is_some a → y ≡ is_some b → (x || y) ≡ is_some (first_of a b)
told_two x y a b e f = ap₂ (λ (p q : Bool). p || q) e f ∙ told_first a b

-- a second halfword
told_second : (m : Marks) (long : Bool) (addr : ℕ)
    → (long && is_marked_half m addr) ≡ is_some (leak_second m long addr)
told_second m true addr = told_if (is_marked_half m addr) reason.Fetch (Half addr)
told_second m false addr = refl

-- the halfwords of an instruction
told_word : (m : Marks) (pc word : ℕ) → is_marked_word m pc word ≡ is_some (leak_word m pc word)
told_word m pc word =
    told_two (is_marked_half m pc) (is_long word && is_marked_half m ((pc + 2) % 2 ^ 32)) (leak_half m pc)
    (leak_second m (is_long word) ((pc + 2) % 2 ^ 32)) (told_if (is_marked_half m pc) reason.Fetch (Half pc))
    (told_second m (is_long word) ((pc + 2) % 2 ^ 32))

-- where an unsound first parcel isn't looked at
told_unless : (unsound b : Bool) (o : Option Leak) → b ≡ is_some o
    → (not unsound && b) ≡ is_some (if unsound then None else o)
told_unless true b o e = refl
told_unless false b o e = e

-- what was fetched
told_fetched : (m : Marks) (e : Event) → leaks_fetched m e ≡ is_some (leak_fetched m e)
told_fetched m (Retire cycle pc word rd value mem ctl ops) = told_word m pc word
told_fetched m (Trap cycle pc word cause tval addr) =
    told_unless (cause == fetch_fault && tval == pc) (is_marked_word m pc word) (leak_word m pc word)
    (told_word m pc word)
told_fetched m (Irq cycle pc cause) = told_if (is_marked_half m pc) reason.Fetch (Half pc)

-- the operands of an instruction that retires
told_retired : (mul : MulKind) (m : Marks) (o : Option Insn) (mem : Option Access) (ops : Option (ℕ × ℕ))
    → leaks_retired mul m o mem ops ≡ is_some (leak_retired mul m o mem ops)
told_retired mul m (Some (row.Branch op rs1 rs2 imm)) mem ops =
    told_two (m.reg rs1) (m.reg rs2) (leak_reg m reason.Branch rs1) (leak_reg m reason.Branch rs2)
    (told_if (m.reg rs1) reason.Branch (Reg rs1)) (told_if (m.reg rs2) reason.Branch (Reg rs2))
told_retired mul m (Some (row.Load op rd rs1 imm)) mem ops = told_if (m.reg rs1) reason.Load (Reg rs1)
told_retired mul m (Some (row.Store size rs1 rs2 imm)) mem ops =
    told_two (m.reg rs1) (names_halt mem && m.reg rs2) (leak_reg m reason.Store rs1)
    (leak_if (names_halt mem && m.reg rs2) reason.Halt (Reg rs2)) (told_if (m.reg rs1) reason.Store (Reg rs1))
    (told_if (names_halt mem && m.reg rs2) reason.Halt (Reg rs2))
told_retired mul m (Some (row.MulDiv op rd rs1 rs2)) mem ops =
    told_if (m.reg rs2 && hangs op (is_blind ops) mul) reason.Cost (Reg rs2)
told_retired mul m (Some (row.Jalr rd rs1 imm)) mem ops = told_if (m.reg rs1) reason.Jump (Reg rs1)
told_retired mul m (Some (row.Csr op rd src false addr)) mem ops =
    told_if (m.reg src && is_guarded_in (csr_of addr)) reason.Csr (Reg src)
told_retired mul m (Some row.Mret) mem ops = told_if m.mepc reason.Return Mepc
told_retired mul m o mem ops = refl

-- the address of one that traps
told_trapped : (m : Marks) (o : Option Insn) → leaks_trapped m o ≡ is_some (leak_trapped m o)
told_trapped m (Some (row.Load op rd rs1 imm)) = told_if (m.reg rs1) reason.Load (Reg rs1)
told_trapped m (Some (row.Store size rs1 rs2 imm)) = told_if (m.reg rs1) reason.Store (Reg rs1)
told_trapped m o = refl

-- by the kind of the event
told_by : (mul : MulKind) (m : Marks) (o : Option Insn) (e : Event) → leaks_by mul m o e ≡ is_some (leak_by mul m o e)
told_by mul m o (Retire cycle pc word rd value mem ctl ops) = told_retired mul m o mem ops
told_by mul m o (Trap cycle pc word cause tval addr) = told_trapped m o
told_by mul m o (Irq cycle pc cause) = refl

-- so an event leaks exactly where it has a reason
pub tells_leaks : TellsLeaks
unfolding leaks leak_of
tells_leaks mul m e =
    told_two (leaks_fetched m e) (leaks_by mul m (instruction_of (word_of e)) e) (leak_fetched m e)
    (leak_by mul m (instruction_of (word_of e)) e) (told_fetched m e) (told_by mul m (instruction_of (word_of e)) e)

-- ---- the first leak

-- the same of events the first of which has an index
abbrev IsFirstFrom : ℕ → Ram → MulKind → Marks → List Event → Option (ℕ × Leak) → Type 0
IsFirstFrom from ram mul m es None = has_leak ram mul m es ≡ false
IsFirstFrom from ram mul m es (Some (at, leak)) =
    (i : ℕ) × (from + i ≡ at) × (has_leak ram mul m (take i es) ≡ false)
    × (leak_in mul (marks_end ram m (take i es)) (slice_get es i) ≡ Some leak)

-- an event that doesn't leak stands before the rest
after_even : (from : ℕ) (ram : Ram) (mul : MulKind) (m : Marks) (e : Event) (es : List Event) (o : Option (ℕ × Leak))
    → leaks mul m e ≡ false → IsFirstFrom (from + 1) ram mul (marks_after ram m e) es o
    → IsFirstFrom from ram mul m (e ∷ es) o
unfolding has_leak marks_end
after_even from ram mul m e es None even h = ap₂ (λ (p q : Bool). p || q) even h
after_even from ram mul m e es (Some (at, leak)) even h =
    (suc h.0, omega (arith, h.1), ap₂ (λ (p q : Bool). p || q) even h.2, h.3)

-- by the leak of the first event
by_leak : (from : ℕ) (ram : Ram) (mul : MulKind) (m : Marks) (e : Event) (es : List Event) (o : Option Leak)
    (rest : Option (ℕ × Leak)) → leak_of mul m e ≡ o → IsFirstFrom (from + 1) ram mul (marks_after ram m e) es rest
    → IsFirstFrom from ram mul m (e ∷ es) (leak_here from o rest)
unfolding has_leak marks_end
by_leak from ram mul m e es None rest is h =
    after_even from ram mul m e es rest (tells_leaks mul m e ∙ ap is_some is) h
by_leak from ram mul m e es (Some leak) rest is h = (zero, omega arith, refl, is)

-- so it is of all events
finds_from : (from : ℕ) (ram : Ram) (mul : MulKind) (m : Marks) (es : List Event)
    → IsFirstFrom from ram mul m es (first_leak from ram mul m es)
unfolding first_leak has_leak
finds_from from ram mul m [] = refl
finds_from from ram mul m (e ∷ es) =
    by_leak from ram mul m e es (leak_of mul m e) (first_leak (from + 1) ram mul (marks_after ram m e) es) refl
    (finds_from (from + 1) ram mul (marks_after ram m e) es)

-- from index 0 on
from_start : (ram : Ram) (mul : MulKind) (m : Marks) (es : List Event) (o : Option (ℕ × Leak))
    → IsFirstFrom 0 ram mul m es o → IsFirstLeak ram mul m es o
from_start ram mul m es None h = h
from_start ram mul m es (Some (at, leak)) h =
    let index : h.0 ≡ at = omega (arith, h.1) in
    subst (λ (i : ℕ). (has_leak ram mul m (take i es) ≡ false)
    × (leak_in mul (marks_end ram m (take i es)) (slice_get es i) ≡ Some leak)) index (h.2, h.3)

-- each answer is the first leak
pub finds_leak : FindsLeak
finds_leak ram mul m es = from_start ram mul m es (first_leak 0 ram mul m es) (finds_from 0 ram mul m es)
