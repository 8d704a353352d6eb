-- What follows from the turn alone: where the fetch side begins anew, and whether a FENCE.I retires.
use Rattle.std.proofs.Common.{◌≡◌, ℕ, Bool, true, false, Option, Some, None, refl}
use Rattle.std.specs.Prelude.{◌==◌, if◌then◌else◌}
use Rattle.ibx_isa.specs.declared.insn.Insn.{Insn}
use Rattle.ibx_isa.specs.declared.insn.Insn.TheVariants.{Lui, Auipc, Jal, Jalr, Branch, Load, Store, AluImm, Alu}
use Rattle.ibx_isa.specs.declared.insn.Insn.TheVariants.{MulDiv, Csr, Fence, FenceI, Ecall, Ebreak, Mret, Wfi}
use Rattle.ibx_isa.specs.CsrWrites.{writes}
use Rattle.ibx_id.specs.declared.stage.Turn.{Turn}
use Rattle.ibx_id.specs.declared.stage.Turn.TheVariants.{Idle, Hold, Retire, Trap, Irq, Dummy}
use Rattle.ibx_core.specs.declared.sight.Sight.{Sight}
use Rattle.ibx_core.specs.declared.state.State.{State}
use Rattle.ibx_core.specs.Effects.{Effect, access_or, cause_fails, cause_or, csr_outcome, csr_written, effect_by}
use Rattle.ibx_core.specs.Effects.{fails, fences, interrupts, is_fence, outcome_by, plain_outcome, portion_fails}
use Rattle.ibx_core.specs.Effects.{redirects, rests, retires, target_if}

-- a trap redirects to its handler, whichever portion failed
trap_redirects : (first second : Bool) (a b c : Effect)
    → a.redirect ≡ Some a.next_pc → b.redirect ≡ Some b.next_pc → c.redirect ≡ Some c.next_pc
    → (if first then a else if second then b else c).redirect
    ≡ Some (if first then a else if second then b else c).next_pc
trap_redirects true second a b c p q r = p
trap_redirects false true a b c p q r = q
trap_redirects false false a b c p q r = r

-- a turn that redirects does so to the address that it leaves
pub redirect_is : (turn : Turn) (x : State) (g : Sight) (lines : ℕ)
    → (effect_by turn x g lines).redirect ≡ target_if (redirects turn) (effect_by turn x g lines).next_pc
unfolding effect_by rests interrupts portion_fails cause_fails fails retires
redirect_is Idle x g lines = refl
redirect_is (Hold st) x g lines = refl
redirect_is Dummy x g lines = refl
redirect_is Irq x g lines = refl
redirect_is (Trap portion) x g lines =
    trap_redirects (portion == 1) (portion == 2) (portion_fails x (access_or g.access) false)
    (portion_fails x (access_or g.access) true) (cause_fails x (cause_or g.cause)) refl refl refl
redirect_is (Retire redirect) x g lines = refl

-- a trap is no FENCE.I
trap_fences : (first second : Bool) (a b c : Effect) → a.fence ≡ false → b.fence ≡ false → c.fence ≡ false
    → (if first then a else if second then b else c).fence ≡ false
trap_fences true second a b c p q r = p
trap_fences false true a b c p q r = q
trap_fences false false a b c p q r = r

-- nor is a CSR instruction, whether it writes or not
csr_fences : (writing : Bool) (x : State) (rd old value addr : ℕ)
    → (csr_written x writing rd old value addr).fence ≡ false
unfolding csr_written plain_outcome
csr_fences true x rd old value addr = refl
csr_fences false x rd old value addr = refl

-- a row is a FENCE.I where its outcome is one
row_fences : (row : Option Insn) (x : State) (g : Sight) (lines : ℕ) → (outcome_by row x g lines).fence ≡ is_fence row
unfolding outcome_by plain_outcome csr_outcome
row_fences (Some (Lui rd imm)) x g lines = refl
row_fences (Some (Auipc rd imm)) x g lines = refl
row_fences (Some (Jal rd imm)) x g lines = refl
row_fences (Some (Jalr rd rs1 imm)) x g lines = refl
row_fences (Some (Branch op rs1 rs2 imm)) x g lines = refl
row_fences (Some (Load op rd rs1 imm)) x g lines = refl
row_fences (Some (Store size rs1 rs2 imm)) x g lines = refl
row_fences (Some (AluImm op rd rs1 imm)) x g lines = refl
row_fences (Some (Alu op rd rs1 rs2)) x g lines = refl
row_fences (Some (MulDiv op rd rs1 rs2)) x g lines = refl
row_fences (Some (Csr op rd src imm addr)) x g lines = csr_fences (writes op src) x rd _ _ addr
row_fences (Some Fence) x g lines = refl
row_fences (Some FenceI) x g lines = refl
row_fences (Some Ecall) x g lines = refl
row_fences (Some Ebreak) x g lines = refl
row_fences (Some Mret) x g lines = refl
row_fences (Some Wfi) x g lines = refl
row_fences None x g lines = refl

-- a FENCE.I is one that retires
pub fence_is : (turn : Turn) (x : State) (g : Sight) (lines : ℕ) → (effect_by turn x g lines).fence ≡ fences turn g.row
unfolding effect_by rests interrupts portion_fails cause_fails fails retires
fence_is Idle x g lines = refl
fence_is (Hold st) x g lines = refl
fence_is Dummy x g lines = refl
fence_is Irq x g lines = refl
fence_is (Trap portion) x g lines =
    trap_fences (portion == 1) (portion == 2) (portion_fails x (access_or g.access) false)
    (portion_fails x (access_or g.access) true) (cause_fails x (cause_or g.cause)) refl refl refl
fence_is (Retire redirect) x g lines = row_fences g.row x g lines
