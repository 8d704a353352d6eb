-- The fields hold the registers: what a call does to the fields is what it does to the registers.
use Rattle.std.proofs.Common.{inl, inr, ◌≡◌, ◌≢◌, ℕ, ◌+◌, ◌*◌, ◌/◌, ◌%◌, ◌^◌, ◌<◌, Bool, true, false, refl, sym, ap}
use Rattle.std.proofs.Common.{◌∙◌, arith, get_or-set_other}
use Rattle.std.specs.Prelude.{◌==◌, Option, Some, None, is_some, if◌then◌else◌, slice_index, slice_set, bit_and}
use Rattle.std.proofs.lemmas.Bool.{cases_eq, cases_Bool, ne_eqb, eq-eqb}
use Rattle.std.proofs.Math.Nat.{add-mul-mod_self_left}
use Rattle.std.proofs.lemmas.List.{set_past}
use Rattle.ibx_isa.specs.ControlBits.{cy_bit}
use Rattle.ibx_csr.specs.declared.name.Csr.{Csr}
use Rattle.ibx_csr.specs.declared.name.Csr.TheVariants.{Mstatus, Mie, Mtvec, Mcountinhibit, Mscratch, Mepc, Mcause}
use Rattle.ibx_csr.specs.declared.name.Csr.TheVariants.{Mtval, Pmpcfg, Pmpaddr, Cpuctrl, Mcycle, Mcycleh, Minstret}
use Rattle.ibx_csr.specs.declared.name.Csr.TheVariants.{Minstreth, Mseccfg}
use Rattle.ibx_csr.specs.declared.csrs.Csrs.{Csrs}
use Rattle.ibx_csr.specs.Table.{readable, writable, csr_of, is_read_only}
use Rattle.ibx_csr.specs.Kept.{is_addr_held, stored_cfg}
use Rattle.ibx_csr.specs.Values.{CsrValues, value_of, value_at, is_there, csr_read, put_value, put_at as put_value_at}
use Rattle.ibx_csr.specs.Values.{csr_write, csr_tick, counters_after, cfg_bytes}
use Rattle.ibx_csr.specs.Fields.{values, cfgs, addrs, put_cfg, put_addr, put_of, put_at, write_of}

-- a choice by a number: what it leaves where the number is this one, and where it isn't
by_number : {z : CsrValues} (k n : ℕ) (x y : Csrs) → (k ≡ n → values x ≡ z) → (k ≢ n → values y ≡ z)
    → values (if k == n then x else y) ≡ z
by_number k n x y here there = elim (cases_eq k n) [
  | inl e ↦ rw (e, eq-eqb n n refl) (here e)
  | inr ne ↦ rw (ne_eqb k n ne) (there ne)
]

-- a word of configuration, and an address of the protection unit, by its number
put_cfg-values : (s : Csrs) (k w : ℕ) → values (put_cfg s k w) ≡ record (values s) { pmpcfg = slice_set (cfgs s) k w }
unfolding values
put_cfg-values s k w =
    by_number k 0 _ _ (λ e. rw e refl) λ n0.
    by_number k 1 _ _ (λ e. rw e refl) λ n1.
    by_number k 2 _ _ (λ e. rw e refl) λ n2.
    by_number k 3 _ _ (λ e. rw e refl) λ n3.
    (rw (set_past (cfgs s) k w (omega arith)) refl)

-- an address goes to the register of its number, and one past the sixteen goes nowhere
put_addr-values : (s : Csrs) (k w : ℕ)
    → values (put_addr s k w) ≡ record (values s) { pmpaddr = slice_set (addrs s) k w }
unfolding values
put_addr-values s k w =
    by_number k 0 _ _ (λ e. rw e refl) λ n0.
    by_number k 1 _ _ (λ e. rw e refl) λ n1.
    by_number k 2 _ _ (λ e. rw e refl) λ n2.
    by_number k 3 _ _ (λ e. rw e refl) λ n3.
    by_number k 4 _ _ (λ e. rw e refl) λ n4.
    by_number k 5 _ _ (λ e. rw e refl) λ n5.
    by_number k 6 _ _ (λ e. rw e refl) λ n6.
    by_number k 7 _ _ (λ e. rw e refl) λ n7.
    by_number k 8 _ _ (λ e. rw e refl) λ n8.
    by_number k 9 _ _ (λ e. rw e refl) λ n9.
    by_number k 10 _ _ (λ e. rw e refl) λ n10.
    by_number k 11 _ _ (λ e. rw e refl) λ n11.
    by_number k 12 _ _ (λ e. rw e refl) λ n12.
    by_number k 13 _ _ (λ e. rw e refl) λ n13.
    by_number k 14 _ _ (λ e. rw e refl) λ n14.
    by_number k 15 _ _ (λ e. rw e refl) λ n15.
    (rw (set_past (addrs s) k w (omega arith)) refl)

-- the address of a locked entry stays
unless_locked : (s : Csrs) (k w : ℕ) (locked : Bool)
    → values (if locked then s else put_addr s k w)
    ≡ (if locked then values s else record (values s) { pmpaddr = slice_set (values s).pmpaddr k w })
unfolding values
unless_locked s k w true = refl
unless_locked s k w false = put_addr-values s k w

-- so each write is the write to the registers: of one register, of one that there may be, and of an address
put-values : (s : Csrs) (c : Csr) (w : ℕ) → values (put_of s c w) ≡ put_value (values s) c w
unfolding values put_of put_value
put-values s (Pmpcfg k) w = put_cfg-values s k (stored_cfg s.mseccfg (slice_index (cfgs s) k) w)
put-values s (Pmpaddr k) w = unless_locked s k w (is_addr_held s.mseccfg (cfg_bytes (values s)) k)
put-values s _ w = refl

-- where there is no register to write, neither the fields nor the registers change
put_at-values : (s : Csrs) (w : ℕ) (o : Option Csr) → values (put_at s w o) ≡ put_value_at (values s) w o
put_at-values s w (Some c) = put-values s c w
put_at-values s w None = refl

-- a write to an address does to the fields what it does to the registers, in either mode
pub write-values : (s : Csrs) (a w : ℕ) → values (write_of s a w) ≡ csr_write (values s) a w
unfolding values write_of csr_write
write-values s a w = put_at-values s w (writable s.priv_ a)

-- a write to an address of the protection unit leaves every other register
addr-stays : (v : CsrValues) (k : ℕ) (d : Csr) (w lines : ℕ) (locked : Bool) → Pmpaddr k ≢ d
    → value_of (if locked then v else record v { pmpaddr = slice_set v.pmpaddr k w }) d lines ≡ value_of v d lines
unfolding value_of
addr-stays v k d w lines true ne = refl
addr-stays v k (Pmpaddr j) w lines false ne = get_or-set_other v.pmpaddr k j w 0 (λ e. ne (ap Pmpaddr (sym e)))
addr-stays v k _ w lines false ne = refl

-- a write of a word to one register leaves what each other register reads
stays : (v : CsrValues) (c d : Csr) (w lines : ℕ) → w < 2 ^ 32 → c ≢ d
    → value_of (put_value v c w) d lines ≡ value_of v d lines
unfolding put_value value_of
stays v (Pmpcfg k) (Pmpcfg j) w lines small ne = get_or-set_other v.pmpcfg k j _ 0 (λ e. ne (ap Pmpcfg (sym e)))
stays v (Pmpaddr k) d w lines small ne = addr-stays v k d w lines (is_addr_held v.mseccfg (cfg_bytes v) k) ne
stays v Mcycle Mcycleh w lines small ne = omega arith
stays v Mcycleh Mcycle w lines small ne = omega arith
stays v Minstret Minstreth w lines small ne = omega arith
stays v Minstreth Minstret w lines small ne = omega arith
stays v Mstatus Mstatus w lines small ne = absurd (ne refl)
stays v Mie Mie w lines small ne = absurd (ne refl)
stays v Mtvec Mtvec w lines small ne = absurd (ne refl)
stays v Mcountinhibit Mcountinhibit w lines small ne = absurd (ne refl)
stays v Mscratch Mscratch w lines small ne = absurd (ne refl)
stays v Mepc Mepc w lines small ne = absurd (ne refl)
stays v Mcause Mcause w lines small ne = absurd (ne refl)
stays v Mtval Mtval w lines small ne = absurd (ne refl)
stays v Cpuctrl Cpuctrl w lines small ne = absurd (ne refl)
stays v Mcycle Mcycle w lines small ne = absurd (ne refl)
stays v Mcycleh Mcycleh w lines small ne = absurd (ne refl)
stays v Minstret Minstret w lines small ne = absurd (ne refl)
stays v Minstreth Minstreth w lines small ne = absurd (ne refl)
stays v Mseccfg Mseccfg w lines small ne = absurd (ne refl)
stays v _ _ w lines small ne = refl

-- the same of the register that there may be
stays_at : (v : CsrValues) (o : Option Csr) (d : Csr) (w lines : ℕ) → w < 2 ^ 32 → o ≢ Some d
    → value_of (put_value_at v w o) d lines ≡ value_of v d lines
stays_at v (Some c) d w lines small ne = stays v c d w lines small (λ e. ne (ap Some e))
stays_at v None d w lines small ne = refl

-- a mode that hides a register names no other in its place
other : (hidden machine : Bool) (o : Option Csr) (d : Csr) → o ≢ Some d
    → (if hidden then None else if machine then o else None) ≢ Some d
other true machine o d ne e = absurd (cc)
other false false o d ne e = absurd (cc)
other false true o d ne e = ne e

-- so a write to an address leaves every register that it doesn't name
pub write-others : (v : CsrValues) (a w : ℕ) (d : Csr) (lines : ℕ) → w < 2 ^ 32 → csr_of a ≢ Some d
    → value_of (csr_write v a w) d lines ≡ value_of v d lines
unfolding csr_write
write-others v a w d lines small ne =
    stays_at v (writable v.machine a) d w lines small (other (is_read_only a) v.machine (csr_of a) d ne)

-- no write changes the mode
put-machine : (v : CsrValues) (c : Csr) (w : ℕ) → (put_value v c w).machine ≡ v.machine
unfolding put_value
put-machine v (Pmpaddr k) w =
    elim (cases_Bool (is_addr_held v.mseccfg (cfg_bytes v) k)) [ inl e ↦ rw e refl | inr e ↦ rw e refl ]
put-machine v _ w = refl

-- nor does a write where there may be no register to take it
put_at-machine : (v : CsrValues) (w : ℕ) (o : Option Csr) → (put_value_at v w o).machine ≡ v.machine
put_at-machine v w (Some c) = put-machine v c w
put_at-machine v w None = refl

-- whatever address an instruction writes, it stays in its mode
pub write-machine : (v : CsrValues) (a w : ℕ) → (csr_write v a w).machine ≡ v.machine
unfolding csr_write
write-machine v a w = put_at-machine v w (writable v.machine a)

-- a read gives a value exactly where there is a register, whatever the registers hold
known_by : (v : CsrValues) (lines : ℕ) (o : Option Csr) → is_some (value_at v lines o) ≡ is_there o
known_by v lines None = refl
known_by v lines (Some c) = refl

-- so it is told by the table and the mode, and alike for all values of the registers
pub read-known : (v : CsrValues) (a lines : ℕ) → is_some (csr_read v a lines) ≡ is_there (readable v.machine a)
unfolding csr_read
read-known v a lines = known_by v lines (readable v.machine a)

-- in one mode an address can be read at all values of the registers and lines, or at none
pub read-alike : (v w : CsrValues) (a k l : ℕ) → v.machine ≡ w.machine
    → is_some (csr_read v a k) ≡ is_some (csr_read w a l)
read-alike v w a k l e = read-known v a k ∙ ap (λ (m : Bool). is_there (readable m a)) e ∙ sym (read-known w a l)

-- no cycle at all
pub counters-none : (v : CsrValues) → v.mcycle < 2 ^ 64 → counters_after v 0 ≡ v
unfolding counters_after
counters-none v small =
    let same : (v.mcycle + 0) % 2 ^ 64 ≡ v.mcycle = omega arith in
    elim (cases_Bool (bit_and v.mcountinhibit cy_bit == 0)) [
      | inl e ↦ rw e (ap (λ (m : ℕ). record v { mcycle = m }) same)
      | inr e ↦ rw e refl
    ]

-- one more idle cycle
one_more : (m n : ℕ) → ((m + n) % 2 ^ 64 + 1) % 2 ^ 64 ≡ (m + (n + 1)) % 2 ^ 64
one_more m n =
    let whole : m + (n + 1) ≡ (m + n) % 2 ^ 64 + 1 + 2 ^ 64 * ((m + n) / 2 ^ 64) = omega arith in
    sym (ap (λ (x : ℕ). x % 2 ^ 64) whole ∙ add-mul-mod_self_left ((m + n) % 2 ^ 64 + 1) (2 ^ 64) ((m + n) / 2 ^ 64))

-- n cycles and one more are n + 1
pub counters-step : (v : CsrValues) (n : ℕ) → csr_tick (counters_after v n) false None ≡ counters_after v (n + 1)
unfolding csr_tick counters_after
counters-step v n = elim (cases_Bool (bit_and v.mcountinhibit cy_bit == 0)) [
  | inl e ↦ rw e (ap (λ (m : ℕ). record v { mcycle = m }) (one_more v.mcycle n))
  | inr e ↦ rw e refl
]
