-- An item that redirects leaves icache_enable as it is.
use Rattle.std.proofs.Common.{◌≡◌, ℕ, Bool, true, false, not, bit_and, bit_or, ◌==◌, Option, Some, None, refl, sym}
use Rattle.std.proofs.Common.{ap, ◌∙◌, if◌then◌else◌}
use Rattle.std.proofs.lemmas.Nat.{and_or_apart, and_assoc}
use Rattle.ibx_isa.specs.ControlBits.{icache_enable, sync_exc_seen, double_fault_seen}
use Rattle.ibx_isa.specs.declared.insn.Insn.{Insn}
use Rattle.ibx_isa.specs.declared.insn.Insn.TheVariants.{Csr, Mret}
use Rattle.ibx_isa.specs.declared.event.View.{View}
use Rattle.ibx_decoder.specs.Instructions.{instruction_of}
use Rattle.ibx_trap.specs.Bits.{cleared, has_some}
use Rattle.ibx_trap.specs.Traps.{enter_of, leave_of, excepted}
use Rattle.ibx_csr.specs.Bits.{legal_of}
use Rattle.ibx_csr.specs.declared.name.Csr.TheVariants.{Cpuctrl}
use Rattle.ibx_csr.specs.Values.{with_trap_regs}
use Rattle.ibx_time.specs.Settings.{Settings}
use Rattle.ibx_time.specs.Controls.{Ctl, enables_cache, ctl_after, ctl_entered, ctl_left, ctl_retired}
use Rattle.ibx_time.specs.Items.{item_of, plain, parcels_of, portions_for, retired_item, trap_parcels}

-- ---- bit 0 of cpuctrl

-- as the register holds it
kept_bit : (w : ℕ) → bit_and (legal_of Cpuctrl w) icache_enable ≡ bit_and w icache_enable
kept_bit w = and_or_apart 1 (bit_and w 0xff) 0 refl ∙ and_assoc 1 w 0xff

-- after an exception
marked_bit : (w : ℕ) (b : Bool) → bit_and (bit_or w (if b then double_fault_seen else 0)) icache_enable
    ≡ bit_and w icache_enable
marked_bit w true = and_or_apart 1 w 0x80 refl
marked_bit w false = and_or_apart 1 w 0 refl

-- an exception's mark leaves icache_enable
excepted_bit : (w : ℕ) → bit_and (excepted w) icache_enable ≡ bit_and w icache_enable
excepted_bit w = marked_bit (bit_or w sync_exc_seen) (has_some w sync_exc_seen) ∙ and_or_apart 1 w 0x40 refl

-- after a return
cleared_bit : (w : ℕ) → bit_and (cleared w sync_exc_seen) icache_enable ≡ bit_and w icache_enable
cleared_bit w = and_assoc 1 w 0xffffffbf

-- ---- the registers that time depends on

-- so do a trap and an interrupt
entered_bit : (c : Ctl) (irq : Bool) → enables_cache (ctl_entered c irq) ≡ enables_cache c
unfolding with_trap_regs enter_of
entered_bit c true = ap (λ n. not (n == 0)) (kept_bit c.cpuctrl)
entered_bit c false = ap (λ n. not (n == 0)) (kept_bit (excepted c.cpuctrl) ∙ excepted_bit c.cpuctrl)

-- so does MRET
left_bit : (c : Ctl) → enables_cache (ctl_left c) ≡ enables_cache c
unfolding with_trap_regs leave_of
left_bit c = ap (λ n. not (n == 0)) (kept_bit (cleared c.cpuctrl sync_exc_seen) ∙ cleared_bit c.cpuctrl)

-- of the instructions that retire MRET and the write of a CSR alone change them, and that write doesn't redirect
retired_bit : (k : Settings) (c : Ctl) (v : View) (o : Option Insn) (n : ℕ) (w : Option ℕ)
    → (retired_item k c v o (plain n)).redirects ≡ true → enables_cache (ctl_retired c o w) ≡ enables_cache c
unfolding retired_item
retired_bit k c v None n w e = refl
retired_bit k c v (Some Mret) n w e = left_bit c
retired_bit k c v (Some (Csr op rd src imm addr)) n w e = let no_ : true ≡ false = sym e in cc
retired_bit k c v (Some _) n w e = refl

-- so it is after every item that redirects
pub turn_keeps_bit : (k : Settings) (c : Ctl) (v : View) → (item_of k c v).redirects ≡ true
    → enables_cache (ctl_after c v) ≡ enables_cache c
unfolding item_of ctl_after
turn_keeps_bit k c v = by (v.kind == 2) (v.kind == 1)
  where
    by : (irq trap : Bool)
        → (if irq then record (plain 0) { redirects = true } else
        if trap then record (plain (trap_parcels v))
        { portions = portions_for k c (instruction_of v.word) v.addr; cost = 1; redirects = true } else
        retired_item k c v (instruction_of v.word) (plain (parcels_of v.word))).redirects ≡ true
        → enables_cache (if irq then ctl_entered c true else
        if trap then ctl_entered c false else
        ctl_retired c (instruction_of v.word) v.ctl) ≡ enables_cache c
    by true trap e = entered_bit c true
    by false true e = entered_bit c false
    by false false e = retired_bit k c v (instruction_of v.word) (parcels_of v.word) v.ctl e
