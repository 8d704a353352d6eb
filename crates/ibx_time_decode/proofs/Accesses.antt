-- Every access is of 1, 2 or 4 bytes, and every source is a register.
use Rattle.std.proofs.Common.{◌≡◌, ℕ, ◌+◌, ◌%◌, ◌^◌, ◌<◌, ◌≤◌, Bool, true, false, refl, sym, subst, arith, inl, inr}
use Rattle.std.proofs.Common.{Option, Some, None}
use Rattle.std.specs.Prelude.{IfSome, if◌then◌else◌}
use Rattle.std.specs.Option.{option_and_then}
use Rattle.ibx_isa.specs.declared.insn.Insn.{Insn}
use Rattle.ibx_isa.specs.declared.insn.Insn.TheVariants.{Lui, Auipc, Jal, Jalr, Branch, Load, Store, AluImm, Alu}
use Rattle.ibx_isa.specs.declared.insn.Insn.TheVariants.{MulDiv, Csr, Fence, FenceI, Ecall, Ebreak, Mret, Wfi}
use Rattle.ibx_isa.specs.declared.insn.LoadOp.{LoadOp}
use Rattle.ibx_isa.specs.declared.insn.LoadOp.TheVariants.{Lb, Lh, Lw, Lbu, Lhu}
use Rattle.ibx_isa.specs.declared.event.Access.{Access}
use Rattle.ibx_isa.specs.WellFormed.{IsAccessSize}
use Rattle.ibx_decoder.specs.Rows.{rows, decode_of, rs1, rs2}
use Rattle.ibx_decoder.specs.Compressed.{expand_of}
use Rattle.ibx_decoder.proofs.OneRow.{AllGive, ◌▸◌, given}
use Rattle.ibx_arch.specs.State.{State, reg}
use Rattle.ibx_arch.specs.Step.{Choice}
use Rattle.ibx_isa.specs.Sources.{source1, source2}
use Rattle.ibx_decoder.specs.Instructions.{instruction_of}
use Rattle.ibx_isa.specs.Lengths.{is_long}
use Rattle.ibx_isa.specs.Portions.{size_of}
use Rattle.ibx_time.specs.Settings.{Setup}
use Rattle.ibx_time.specs.Memories.{access_of}
use Rattle.ibx_time.specs.History.{Story, access_at, access_by, choice_at, view_with}
use Rattle.ibx_time_invariant.proofs.Stages.{IsAccess}
use Rattle.ibx_time_invariant.proofs.ArchSide.{ArchAccesses}

-- a store's size, and the registers that an instruction reads
abbrev pub HasSize : Insn → Type 0
HasSize (Store size rs1 rs2 imm) = IsAccessSize size
HasSize _ = Unit {0}

-- both sources are registers, and a store has such a size
abbrev pub IsNamed : Insn → Type 0
IsNamed insn = HasSize insn × (source1 insn < 32) × (source2 insn < 32)

-- each row is so, each word that is decoded, and each halfword that is expanded
named_rows : (w : ℕ) → AllGive w IsNamed rows
named_rows w =
    let a : rs1 w < 32 = omega arith in
    let b : rs2 w < 32 = omega arith in
    let z : 0 < 32 = omega arith in
    -- LUI, AUIPC, JAL, JALR, and the branches
    (λ _. (tt, z, z)) ▸ (λ _. (tt, z, z)) ▸ (λ _. (tt, z, z)) ▸ (λ _. (tt, a, z)) ▸
    (λ _. (tt, a, b)) ▸ (λ _. (tt, a, b)) ▸ (λ _. (tt, a, b)) ▸ (λ _. (tt, a, b)) ▸ (λ _. (tt, a, b)) ▸
    (λ _. (tt, a, b)) ▸
    -- loads and stores
    (λ _. (tt, a, z)) ▸ (λ _. (tt, a, z)) ▸ (λ _. (tt, a, z)) ▸ (λ _. (tt, a, z)) ▸ (λ _. (tt, a, z)) ▸
    (λ _. (inl refl, a, b)) ▸ (λ _. (inr (inl refl), a, b)) ▸ (λ _. (inr (inr refl), a, b)) ▸
    -- computations with an immediate
    (λ _. (tt, a, z)) ▸ (λ _. (tt, a, z)) ▸ (λ _. (tt, a, z)) ▸ (λ _. (tt, a, z)) ▸ (λ _. (tt, a, z)) ▸
    (λ _. (tt, a, z)) ▸ (λ _. (tt, a, z)) ▸ (λ _. (tt, a, z)) ▸ (λ _. (tt, a, z)) ▸
    -- computations, multiplications and divisions
    (λ _. (tt, a, b)) ▸ (λ _. (tt, a, b)) ▸ (λ _. (tt, a, b)) ▸ (λ _. (tt, a, b)) ▸ (λ _. (tt, a, b)) ▸
    (λ _. (tt, a, b)) ▸
    (λ _. (tt, a, b)) ▸ (λ _. (tt, a, b)) ▸ (λ _. (tt, a, b)) ▸ (λ _. (tt, a, b)) ▸ (λ _. (tt, a, b)) ▸
    (λ _. (tt, a, b)) ▸
    (λ _. (tt, a, b)) ▸ (λ _. (tt, a, b)) ▸ (λ _. (tt, a, b)) ▸ (λ _. (tt, a, b)) ▸ (λ _. (tt, a, b)) ▸
    (λ _. (tt, a, b)) ▸
    -- FENCE and FENCE.I, the CSR instructions by register and by immediate, and those without a field
    (λ _. (tt, z, z)) ▸ (λ _. (tt, z, z)) ▸
    (λ _. (tt, a, z)) ▸ (λ _. (tt, a, z)) ▸ (λ _. (tt, a, z)) ▸ (λ _. (tt, z, z)) ▸ (λ _. (tt, z, z)) ▸
    (λ _. (tt, z, z)) ▸
    (λ _. (tt, z, z)) ▸ (λ _. (tt, z, z)) ▸ (λ _. (tt, z, z)) ▸ (λ _. (tt, z, z)) ▸ tt

-- a word that is decoded reads registers below 32, and a store has an access size
named_decoded : (w : ℕ) → IfSome (decode_of w) IsNamed
unfolding decode_of
named_decoded w = given w IsNamed rows (named_rows w)

-- the same of a halfword, by the word that it expands to, if there is one
named_expanded : (o : Option ℕ) → IfSome (option_and_then decode_of o) IsNamed
named_expanded None = tt
named_expanded (Some w) = named_decoded w

-- the same of a fetched word, decoded as it is or expanded first
named_by : (long : Bool) (word : ℕ)
    → IfSome (if long then decode_of word else option_and_then decode_of (expand_of word)) IsNamed
named_by true word = named_decoded word
named_by false word = named_expanded (expand_of word)

-- so every instruction reads registers below 32 only, and stores 1, 2 or 4 bytes
pub named : (word : ℕ) → IfSome (instruction_of word) IsNamed
unfolding instruction_of
named word = named_by (is_long word) word

-- ---- the access of an instruction

-- two that are the same of an option are the same
same : {A : Type 0} (x y : A) → Some x ≡ Some y → x ≡ y
same x y e = cc

-- sizes of loads, and so their accesses and those of stores
load_size : (op : LoadOp) → (0 < size_of op) × (size_of op ≤ 4)
load_size Lb = (omega arith, omega arith)
load_size Lh = (omega arith, omega arith)
load_size Lw = (omega arith, omega arith)
load_size Lbu = (omega arith, omega arith)
load_size Lhu = (omega arith, omega arith)

-- a load's access has an address in 32 bits and 1 to 4 bytes, and no value to write
loads_are : (op : LoadOp) (a : ℕ) → IsAccess
    (record { addr = a % 2 ^ 32; size = size_of op; store = false; value = 0 })
loads_are op a = record { addr = omega arith; some = (load_size op).0; most = (load_size op).1; value = omega arith }

-- a store's access has them too, and its value is cut to its bytes
stores_are : (size a v : ℕ) → IsAccessSize size
    → IsAccess (record { addr = a % 2 ^ 32; size = size; store = true; value = v % 256 ^ size })
stores_are size a v (inl e) = subst
    (λ n. IsAccess (record { addr = a % 2 ^ 32; size = n; store = true; value = v % 256 ^ n })) (sym e)
    (record { addr = omega arith; some = omega arith; most = omega arith; value = omega arith })
stores_are size a v (inr (inl e)) =
    subst (λ n. IsAccess (record { addr = a % 2 ^ 32; size = n; store = true; value = v % 256 ^ n })) (sym e)
    (record { addr = omega arith; some = omega arith; most = omega arith; value = omega arith })
stores_are size a v (inr (inr e)) =
    subst (λ n. IsAccess (record { addr = a % 2 ^ 32; size = n; store = true; value = v % 256 ^ n })) (sym e)
    (record { addr = omega arith; some = omega arith; most = omega arith; value = omega arith })

-- no access, no such one
no_access : (w : Access) → None ≡ Some w → IsAccess w
no_access w e = absurd cc

-- so each access of an instruction is one, by its row, by its word and by the item's choice
access_row : (s : State) (insn : Insn) → IsNamed insn → (w : Access) → access_of s (Some insn) ≡ Some w → IsAccess w
access_row s (Load op rd rs1 imm) n w e =
    subst IsAccess (same (record { addr = (reg s rs1 + imm) % 2 ^ 32; size = size_of op; store = false; value = 0 }) w
    e) (loads_are op (reg s rs1 + imm))
access_row s (Store size rs1 rs2 imm) n w e =
    subst IsAccess (same (record {
      addr = (reg s rs1 + imm) % 2 ^ 32;
      size = size;
      store = true;
      value = reg s rs2 % 256 ^ size;
    }) w e) (stores_are size (reg s rs1 + imm) (reg s rs2) n.0)
access_row s (Lui rd imm) n w e = no_access w e
access_row s (Auipc rd imm) n w e = no_access w e
access_row s (Jal rd imm) n w e = no_access w e
access_row s (Jalr rd rs1 imm) n w e = no_access w e
access_row s (Branch op rs1 rs2 imm) n w e = no_access w e
access_row s (AluImm op rd rs1 imm) n w e = no_access w e
access_row s (Alu op rd rs1 rs2) n w e = no_access w e
access_row s (MulDiv op rd rs1 rs2) n w e = no_access w e
access_row s (Csr op rd src imm addr) n w e = no_access w e
access_row s Fence n w e = no_access w e
access_row s FenceI n w e = no_access w e
access_row s Ecall n w e = no_access w e
access_row s Ebreak n w e = no_access w e
access_row s Mret n w e = no_access w e
access_row s Wfi n w e = no_access w e

-- so is the access of a word, if it is an instruction at all
access_some : (s : State) (o : Option Insn) → IfSome o IsNamed → (w : Access) → access_of s o ≡ Some w → IsAccess w
access_some s None n w e = no_access w e
access_some s (Some insn) n w e = access_row s insn n w e

-- so is the access of an item, by the word in its view; a dummy has none
access_chosen : (s : Setup) (h : Story) (o : Option Choice) (w : Access) → access_by s h o ≡ Some w → IsAccess w
access_chosen s h None w e = no_access w e
access_chosen s h (Some choice) w e =
    access_some h.state (instruction_of (view_with s h choice).word) (named (view_with s h choice).word) w e

-- so it is for the items of every history
pub arch_accesses : (s : Setup) → ArchAccesses s
unfolding access_at
arch_accesses s t h w e = access_chosen s h (choice_at s t h) w e
