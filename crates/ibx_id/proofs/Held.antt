-- What a turn holds is within the widths where the state is.
use Rattle.std.proofs.Common.{◌≡◌, ℕ, ◌+◌, ◌<◌, ◌^◌, Bool, true, false, if◌then◌else◌, nat_lt, nat_le, ◌==◌, ◌||◌}
use Rattle.std.proofs.Common.{Option, Some, None, sym, ◌∙◌, subst, arith}
use Rattle.std.proofs.lemmas.Bool.Decides.{nat_tests}
use Rattle.ibx_isa.specs.declared.insn.Insn.{Insn}
use Rattle.ibx_isa.specs.declared.insn.Insn.TheVariants.{Lui, Auipc, Jal, Jalr, Branch, Load, Store, AluImm, Alu}
use Rattle.ibx_isa.specs.declared.insn.Insn.TheVariants.{MulDiv, Csr, Fence, FenceI, Ecall, Ebreak, Mret, Wfi}
use Rattle.ibx_isa.specs.Alu.{branch_of}
use Rattle.ibx_id.specs.declared.stage.IdState.{IdState}
use Rattle.ibx_id.specs.declared.stage.IdIn.{IdIn}
use Rattle.ibx_id.specs.declared.stage.Turn.{Turn}
use Rattle.ibx_id.specs.declared.stage.Turn.TheVariants.{Hold, Retire, Trap}
use Rattle.ibx_id.specs.Turns.{IsWithinWidths, held, ends_at, branches, worked, is_some_cause, real_turn}

-- the state that a turn holds, if any, is within the widths where this one is
abbrev Keeps : IdState → Turn → Type 0
Keeps st turn = (next : IdState) → turn ≡ Hold next → IsWithinWidths st → IsWithinWidths next

-- the count stops at 63, in its six bits
count_fits : (n : ℕ) → (if nat_lt n 63 then n + 1 else 63) < 2 ^ 6
count_fits n = grind (arith, nat_tests)

-- a state that is held on keeps the widths, also as a turn
pub held_fits : (st : IdState) (phase : ℕ) → phase < 2 ^ 3 → IsWithinWidths st → IsWithinWidths (held phase st)
held_fits st phase h w =
    record { kind = w.kind; pc = w.pc; word = w.word; fault = w.fault; phase = h; count = count_fits st.count }

-- a turn that holds the item in a phase of three bits leaves no field wider than it was
holds : (st : IdState) (phase : ℕ) → phase < 2 ^ 3 → Keeps st (Hold (held phase st))
holds st phase h next e w =
    let same : held phase st ≡ next = cc in
    subst IsWithinWidths same (held_fits st phase h w)

-- whichever of two turns a test chooses
either : (st : IdState) (b : Bool) (x y : Turn) → Keeps st x → Keeps st y → Keeps st (if b then x else y)
either st true x y kx ky = kx
either st false x y kx ky = ky

-- each kind of turn holds a state within the widths, or none: an item that ends at its cost, an access, a branch, an
-- instruction, and a real item
ends : (st : IdState) (cost : ℕ) (redirect : Bool) → Keeps st (ends_at cost redirect st)
ends st cost redirect =
    either st (nat_le cost st.count) (Retire redirect) (Hold (held 1 st)) (λ next e w. cc) (holds st 1 (omega arith))

-- an item that waits for its answer or its wake is held in phase 1, within the widths
awaits : (st : IdState) (done : Bool) → Keeps st (if done then Retire false else Hold (held 1 st))
awaits st done = either st done (Retire false) (Hold (held 1 st)) (λ next e w. cc) (holds st 1 (omega arith))

-- a branch is an item that ends at its cost: one cycle where it redirects, and none where it doesn't
branched : (st : IdState) (took : Bool) → Keeps st (branches took st)
branched st true = ends st 1 true
branched st false = ends st 0 false

-- whatever the instruction, a cycle that doesn't end it keeps the fields to their bits
works : (insn : Option Insn) (st : IdState) (i : IdIn) → Keeps st (worked insn st i)
unfolding worked
works (Some (Lui rd imm)) st i = ends st i.cost false
works (Some (Auipc rd imm)) st i = ends st i.cost false
works (Some (Jal rd imm)) st i = λ next e w. cc
works (Some (Jalr rd rs1 imm)) st i = λ next e w. cc
works (Some (Branch op rs1 rs2 imm)) st i = branched st (i.fixed || branch_of op i.a i.b)
works (Some (Load op rd rs1 imm)) st i = awaits st i.ls_done
works (Some (Store size rs1 rs2 imm)) st i = awaits st i.ls_done
works (Some (AluImm op rd rs1 imm)) st i = ends st i.cost false
works (Some (Alu op rd rs1 rs2)) st i = ends st i.cost false
works (Some (MulDiv op rd rs1 rs2)) st i = ends st i.cost false
works (Some (Csr op rd src imm addr)) st i = ends st i.cost false
works (Some Fence) st i = ends st i.cost false
works (Some FenceI) st i = λ next e w. cc
works (Some Ecall) st i = ends st i.cost false
works (Some Ebreak) st i = ends st i.cost false
works (Some Mret) st i = ends st 1 true
works (Some Wfi) st i = awaits st i.wake
works None st i = ends st i.cost false

-- a failed portion or a cause holds the item in phase 2, 3 or 4, for which three bits are enough
reals : (st : IdState) (i : IdIn) → Keeps st (real_turn st i)
unfolding real_turn
reals st i =
    either st (st.phase == 2) (Trap 1) _ (λ next e w. cc)
    (either st (st.phase == 3) (Trap 2) _ (λ next e w. cc)
    (either st (nat_le 4 st.phase) (Trap 0) _ (λ next e w. cc)
    (either st (i.ls_fault == 1) (Hold (held 2 st)) _ (holds st 2 (omega arith))
    (either st (i.ls_fault == 2) (Hold (held 3 st)) _ (holds st 3 (omega arith))
    (either st (is_some_cause i.trap) (Hold (held 4 st)) (worked i.insn st i) (holds st 4 (omega arith))
    (works i.insn st i))))))

-- so the state after a real item's turn is within the widths
pub real_fits : (st : IdState) (i : IdIn) (turn : Turn) (next : IdState) → turn ≡ real_turn st i → turn ≡ Hold next
    → IsWithinWidths st → IsWithinWidths next
real_fits st i turn next is e w = reals st i next (sym is ∙ e) w
