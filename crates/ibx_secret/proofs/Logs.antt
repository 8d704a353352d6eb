-- Memory over time agrees at every byte that was never marked.
use Rattle.std.proofs.Common.{◌≡◌, ℕ, ◌∙◌, ◌&&◌, ◌||◌, ◌==◌, not, Bool, true, false, List, [], ◌∷◌, Option}
use Rattle.std.proofs.Common.{Some, None, refl, sym, ap, nat_lt, nat_le, if◌then◌else◌}
use Rattle.ibx_bits.specs.Bytes.{word_byte}
use Rattle.ibx_elf.specs.declared.ram.Ram.{Ram}
use Rattle.ibx_elf.specs.Ram.{ram_has}
use Rattle.ibx_isa.specs.declared.insn.Insn.{Insn}
use Rattle.ibx_isa.specs.declared.insn.Insn.TheVariants.{Lui, Auipc, Jal, Jalr, Branch, Load, Store, AluImm, Alu}
use Rattle.ibx_isa.specs.declared.insn.Insn.TheVariants.{MulDiv, Csr, Fence, FenceI, Ecall, Ebreak, Mret, Wfi}
use Rattle.ibx_isa.specs.declared.insn.CsrOp.{CsrOp}
use Rattle.ibx_isa.specs.declared.event.Access.{Access}
use Rattle.ibx_isa.specs.declared.event.Event.{Event}
use Rattle.ibx_isa.specs.declared.event.Event.TheVariants.{Retire, Trap, Irq}
use Rattle.ibx_isa.specs.Causes.{store_fault}
use Rattle.ibx_isa.specs.CsrWrites.{writes}
use Rattle.ibx_isa.specs.Portions.{portion_addr, portion_size}
use Rattle.ibx_csr.specs.declared.name.Csr.{Csr as Register}
use Rattle.ibx_csr.specs.declared.name.Csr.TheVariants.{Mscratch, Mepc, Mcause, Mtval, Mcycle, Mcycleh, Minstret}
use Rattle.ibx_csr.specs.declared.name.Csr.TheVariants.{Minstreth}
use Rattle.ibx_csr.specs.Table.{csr_of}
use Rattle.ibx_plan.specs.declared.site.Wait.{Wait}
use Rattle.ibx_arch.specs.Access.{has_second}
use Rattle.ibx_arch.specs.Memory.{Memory, is_mapped, read_bytes, with_bytes, offset_from}
use Rattle.ibx_time.specs.Items.{Portions, NoPortion, One, OneBad, Two, TwoBad, portions_by}
use Rattle.ibx_time.specs.Memories.{Write, memory_at, write_of, writes_with, written_by}
use Rattle.ibx_secret.specs.Marks.{Marks, is_any, mark_reg, mark_csr, csr_mark, written_mark, marks_csr, marks_by}
use Rattle.ibx_secret.specs.Marks.{marks_access}
use Rattle.ibx_secret.specs.Marks.{marks_retired, marks_failed, put_marks, stored_marks, source_mark}
use Rattle.ibx_secret.proofs.Places.{memory_of, left_of, read_alike}

-- ---- marks of bytes stay

reg_ever : (m : Marks) (rd : ℕ) (mark : Bool) (x : ℕ) → (mark_reg m rd mark).ever x ≡ false → m.ever x ≡ false
reg_ever m rd mark x = by (rd == 0)
  where
    by : (zeroth : Bool)
        → (if zeroth then m else record m { reg = λ n. if n == rd then mark else m.reg n }).ever x ≡ false
        → m.ever x ≡ false
    by true e = e
    by false e = e

csr_ever : (m : Marks) (c : Register) (mark : Bool) (x : ℕ) → (mark_csr m c mark).ever x ≡ false → m.ever x ≡ false
csr_ever m Mscratch mark x e = e
csr_ever m Mepc mark x e = e
csr_ever m Mcause mark x e = e
csr_ever m Mtval mark x e = e
csr_ever m Mcycle mark x e = e
csr_ever m Mcycleh mark x e = e
csr_ever m Minstret mark x e = e
csr_ever m Minstreth mark x e = e
csr_ever m c mark x e = e

put_ever : (m : Marks) (op : CsrOp) (rd src : ℕ) (source : Bool) (at : Option Register) (x : ℕ)
    → (marks_csr m op rd src source at).ever x ≡ false → m.ever x ≡ false
put_ever m op rd src source None x e = e
put_ever m op rd src source (Some c) x e = by (writes op src) e
  where
    new : Marks
    new = mark_csr m c (written_mark op (csr_mark m c) source)

    by : (w : Bool) → (mark_reg (if w then new else m) rd (csr_mark m c)).ever x ≡ false → m.ever x ≡ false
    by true h = csr_ever m c (written_mark op (csr_mark m c) source) x (reg_ever new rd (csr_mark m c) x h)
    by false h = reg_ever m rd (csr_mark m c) x h

retired_ever : (m : Marks) (o : Option Insn) (x : ℕ) → (marks_retired m o).ever x ≡ false → m.ever x ≡ false
retired_ever m (Some (Lui rd imm)) x e = reg_ever m rd false x e
retired_ever m (Some (Auipc rd imm)) x e = reg_ever m rd false x e
retired_ever m (Some (Jal rd imm)) x e = reg_ever m rd false x e
retired_ever m (Some (Jalr rd rs1 imm)) x e = reg_ever m rd false x e
retired_ever m (Some (AluImm op rd rs1 imm)) x e = reg_ever m rd (m.reg rs1) x e
retired_ever m (Some (Alu op rd rs1 rs2)) x e = reg_ever m rd (m.reg rs1 || m.reg rs2) x e
retired_ever m (Some (MulDiv op rd rs1 rs2)) x e = reg_ever m rd (m.reg rs1 || m.reg rs2) x e
retired_ever m (Some (Csr op rd src imm addr)) x e =
    put_ever m op rd src (source_mark m src imm) (csr_of addr) x e
retired_ever m (Some (Branch op rs1 rs2 imm)) x e = e
retired_ever m (Some (Load op rd rs1 imm)) x e = e
retired_ever m (Some (Store size rs1 rs2 imm)) x e = e
retired_ever m (Some Fence) x e = e
retired_ever m (Some FenceI) x e = e
retired_ever m (Some Ecall) x e = e
retired_ever m (Some Ebreak) x e = e
retired_ever m (Some Mret) x e = e
retired_ever m (Some Wfi) x e = e
retired_ever m None x e = e

access_ever : (ram : Ram) (m : Marks) (o : Option Insn) (a : Access) (x : ℕ) → (marks_access ram m o a).ever x ≡ false
    → m.ever x ≡ false
access_ever ram m (Some (Load op rd rs1 imm)) a x e = reg_ever m rd (is_any m.byte a.addr a.size) x e
access_ever ram m (Some (Store size rs1 rs2 imm)) a x e = left_of (m.ever x) _ e
access_ever ram m (Some (Lui rd imm)) a x e = e
access_ever ram m (Some (Auipc rd imm)) a x e = e
access_ever ram m (Some (Jal rd imm)) a x e = e
access_ever ram m (Some (Jalr rd rs1 imm)) a x e = e
access_ever ram m (Some (Branch op rs1 rs2 imm)) a x e = e
access_ever ram m (Some (AluImm op rd rs1 imm)) a x e = e
access_ever ram m (Some (Alu op rd rs1 rs2)) a x e = e
access_ever ram m (Some (MulDiv op rd rs1 rs2)) a x e = e
access_ever ram m (Some (Csr op rd src imm addr)) a x e = e
access_ever ram m (Some Fence) a x e = e
access_ever ram m (Some FenceI) a x e = e
access_ever ram m (Some Ecall) a x e = e
access_ever ram m (Some Ebreak) a x e = e
access_ever ram m (Some Mret) a x e = e
access_ever ram m (Some Wfi) a x e = e
access_ever ram m None a x e = e

failed_ever : (ram : Ram) (m : Marks) (o : Option Insn) (cause addr x : ℕ)
    → (marks_failed ram m o cause addr).ever x ≡ false → m.ever x ≡ false
failed_ever ram m (Some (Store size rs1 rs2 imm)) cause addr x e = by (cause == store_fault) e
  where
    by : (b : Bool) → (if b then record m {
      byte = λ a. m.byte a || stored_marks ram m.byte addr size (m.reg rs2) a;
      ever = λ a. m.ever a || (m.byte a || stored_marks ram m.byte addr size (m.reg rs2) a);
    } else m).ever x ≡ false → m.ever x ≡ false
    by true h = left_of (m.ever x) _ h
    by false h = h
failed_ever ram m (Some (Lui rd imm)) cause addr x e = e
failed_ever ram m (Some (Auipc rd imm)) cause addr x e = e
failed_ever ram m (Some (Jal rd imm)) cause addr x e = e
failed_ever ram m (Some (Jalr rd rs1 imm)) cause addr x e = e
failed_ever ram m (Some (Branch op rs1 rs2 imm)) cause addr x e = e
failed_ever ram m (Some (Load op rd rs1 imm)) cause addr x e = e
failed_ever ram m (Some (AluImm op rd rs1 imm)) cause addr x e = e
failed_ever ram m (Some (Alu op rd rs1 rs2)) cause addr x e = e
failed_ever ram m (Some (MulDiv op rd rs1 rs2)) cause addr x e = e
failed_ever ram m (Some (Csr op rd src imm a)) cause addr x e = e
failed_ever ram m (Some Fence) cause addr x e = e
failed_ever ram m (Some FenceI) cause addr x e = e
failed_ever ram m (Some Ecall) cause addr x e = e
failed_ever ram m (Some Ebreak) cause addr x e = e
failed_ever ram m (Some Mret) cause addr x e = e
failed_ever ram m (Some Wfi) cause addr x e = e
failed_ever ram m None cause addr x e = e

-- what was ever marked stays so
pub stays_ever : (ram : Ram) (m : Marks) (o : Option Insn) (e : Event) (x : ℕ) → (marks_by ram m o e).ever x ≡ false
    → m.ever x ≡ false
stays_ever ram m o (Retire cycle pc word rd value (Some a) ctl ops) x h = access_ever ram m o a x h
stays_ever ram m o (Retire cycle pc word rd value None ctl ops) x h = retired_ever m o x h
stays_ever ram m o (Trap cycle pc word cause tval addr) x h = failed_ever ram m o cause addr x h
stays_ever ram m o (Irq cycle pc cause) x h = h

-- ---- memory over time

-- two logs over two memories agree where a byte was never marked
abbrev pub LogsAlike : (ℕ → Bool) → Memory → Memory → List Write → List Write → Type 0
LogsAlike ever p q ws us = (t x : ℕ) → ever x ≡ false → (memory_at p ws t).byte x ≡ (memory_at q us t).byte x

-- writes leave the range of RAM
pub at_ram : (p : Memory) (ws : List Write) (t : ℕ) → (memory_at p ws t).ram ≡ p.ram
unfolding memory_at with_bytes
at_ram p [] t = refl
at_ram p (w ∷ ws) t = by (nat_lt w.time t) (at_ram p ws t)
  where
    by : (b : Bool) → (memory_at p ws t).ram ≡ p.ram
        → (if b then with_bytes (memory_at p ws t) w.addr w.from w.to w.value else memory_at p ws t).ram ≡ p.ram
    by true e = e
    by false e = e

-- what is read of memory with a range of RAM
read_of : (ram : Ram) (p : Memory) (addr n : ℕ) → p.ram ≡ ram
    → read_bytes p addr n ≡ read_bytes (memory_of ram p.byte) addr n
read_of ram p addr n e = ap (λ r. read_bytes (memory_of r p.byte) addr n) e

-- bytes that were never marked are read the same at every time
pub brought_alike : (ram : Ram) (ever : ℕ → Bool) (p q : Memory) (ws us : List Write) (t addr n : ℕ) → p.ram ≡ ram
    → q.ram ≡ ram → LogsAlike ever p q ws us → is_any ever addr n ≡ false
    → read_bytes (memory_at p ws t) addr n ≡ read_bytes (memory_at q us t) addr n
brought_alike ram ever p q ws us t addr n e f r h =
    read_of ram (memory_at p ws t) addr n (at_ram p ws t ∙ e)
    ∙ read_alike ram ever (memory_at p ws t).byte (memory_at q us t).byte addr n (r t) h
    ∙ sym (read_of ram (memory_at q us t) addr n (at_ram q us t ∙ f))

-- ---- the writes of a store

-- one write more, of values that are the same where it reaches the byte
one_write : (ram : Ram) (p q : Memory) (late : Bool) (addr from to v w x : ℕ) → p.ram ≡ ram → q.ram ≡ ram
    → ((ram_has ram x && (nat_le from (offset_from addr x) && nat_lt (offset_from addr x) to)) ≡ true → v ≡ w)
    → p.byte x ≡ q.byte x
    → (if late then with_bytes p addr from to v else p).byte x ≡
    (if late then with_bytes q addr from to w else q).byte x
unfolding with_bytes
one_write ram p q false addr from to v w x e f same old = old
one_write ram p q true addr from to v w x e f same old =
    ap (λ r. byte_by (ram_has r x && (nat_le from (offset_from addr x) && nat_lt (offset_from addr x) to)) v p) e
    ∙ by (ram_has ram x && (nat_le from (offset_from addr x) && nat_lt (offset_from addr x) to)) same
    ∙ ap (λ r. byte_by (ram_has r x && (nat_le from (offset_from addr x) && nat_lt (offset_from addr x) to)) w q)
    (sym f)
  where
    byte_by : Bool → ℕ → Memory → ℕ
    byte_by b n r = if b then word_byte n (offset_from addr x) else r.byte x

    by : (b : Bool) → (b ≡ true → v ≡ w) → byte_by b v p ≡ byte_by b w q
    by true h = ap (λ n. word_byte n (offset_from addr x)) (h refl)
    by false h = old

-- a byte of a portion that takes no mark: what is stored isn't marked
first_mark : (test2 two test1 mark old : Bool)
    → (if two then (if test2 then mark else (if test1 then mark else old)) else (if test1 then mark else old)) ≡ false
    → test1 ≡ true → mark ≡ false
first_mark test2 two false mark old e h = absurd (cc)
first_mark true true true mark old e h = e
first_mark false true true mark old e h = e
first_mark test2 false true mark old e h = e

second_mark : (test2 two test1 mark old : Bool)
    → (if two then (if test2 then mark else (if test1 then mark else old)) else (if test1 then mark else old)) ≡ false
    → two ≡ true → test2 ≡ true → mark ≡ false
second_mark false two test1 mark old e g h = absurd (cc)
second_mark true false test1 mark old e g h = absurd (cc)
second_mark true true test1 mark old e g h = e

-- the marks of a store at a byte by its tests
stored_at : (ram : Ram) (marks : ℕ → Bool) (addr size : ℕ) (mark : Bool) (x : ℕ)
    → stored_marks ram marks addr size mark x
    ≡ (if has_second addr size && is_mapped ram (portion_addr addr false)
    then (if ram_has ram x && (nat_le (portion_size addr size false) (offset_from addr x)
    && nat_lt (offset_from addr x) size) then mark else
    (if ram_has ram x && (nat_le 0 (offset_from addr x) && nat_lt (offset_from addr x) (portion_size addr size false))
    then mark else marks x))
    else (if ram_has ram x && (nat_le 0 (offset_from addr x)
    && nat_lt (offset_from addr x) (portion_size addr size false)) then mark else marks x))
stored_at ram marks addr size mark x = by (has_second addr size && is_mapped ram (portion_addr addr false))
  where
    first : ℕ
    first = portion_size addr size false

    by : (two : Bool)
        → (if two then put_marks ram (put_marks ram marks addr 0 first mark) addr first size mark
        else put_marks ram marks addr 0 first mark) x
        ≡ (if two then put_marks ram (put_marks ram marks addr 0 first mark) addr first size mark x
        else put_marks ram marks addr 0 first mark x)
    by true = refl
    by false = refl

-- a second portion is written only where there is one and the first met no error
abbrev pub goes_on : Portions → Bool
goes_on NoPortion = false
goes_on One = false
goes_on OneBad = false
goes_on Two = true
goes_on TwoBad = true

pub goes_on-by : (refused mapped second bad2 : Bool) → goes_on (portions_by refused (not mapped) second bad2) ≡ true
    → (second && mapped) ≡ true
goes_on-by true mapped second bad2 e = absurd (cc)
goes_on-by false false second bad2 e = absurd (cc)
goes_on-by false true false bad2 e = absurd (cc)
goes_on-by false true true true e = refl
goes_on-by false true true false e = refl

-- the writes of two stores at one address, of values that are the same where they aren't marked
pub store_logs : (ram : Ram) (ever marks : ℕ → Bool) (p q : Memory) (ws us : List Write) (waits : List Wait) (n e : ℕ)
    (portions : Portions) (addr size v w : ℕ) (mark : Bool) (t x : ℕ) → p.ram ≡ ram → q.ram ≡ ram
    → LogsAlike ever p q ws us → (mark ≡ false → v ≡ w) → ever x ≡ false
    → stored_marks ram marks addr size mark x ≡ false
    → (goes_on portions ≡ true → (has_second addr size && is_mapped ram (portion_addr addr false)) ≡ true)
    → (memory_at p (writes_with waits n e portions
    (Some (record { addr = addr; size = size; store = true; value = v })) ws) t).byte x
    ≡ (memory_at q (writes_with waits n e portions
    (Some (record { addr = addr; size = size; store = true; value = w })) us) t).byte x
unfolding written_by memory_at
store_logs ram ever marks p q ws us waits n e portions addr size v w mark t x er fr r val ev st go = by portions go
  where
    access : ℕ → Access
    access value = record { addr = addr; size = size; store = true; value = value }

    first : ℕ
    first = portion_size addr size false

    test1 : Bool
    test1 = ram_has ram x && (nat_le 0 (offset_from addr x) && nat_lt (offset_from addr x) first)

    test2 : Bool
    test2 = ram_has ram x && (nat_le first (offset_from addr x) && nat_lt (offset_from addr x) size)

    two : Bool
    two = has_second addr size && is_mapped ram (portion_addr addr false)

    marked : (if two then (if test2 then mark else (if test1 then mark else marks x)) else
        (if test1 then mark else marks x)) ≡ false
    marked = sym (stored_at ram marks addr size mark x) ∙ st

    one : (memory_at p (write_of waits n e (access v) false ∷ ws) t).byte x
        ≡ (memory_at q (write_of waits n e (access w) false ∷ us) t).byte x
    one =
        one_write ram (memory_at p ws t) (memory_at q us t) (nat_lt (write_of waits n e (access v) false).time t) addr 0
        first v w x (at_ram p ws t ∙ er) (at_ram q us t ∙ fr)
        (λ h. val (first_mark test2 two test1 mark (marks x) marked h)) (r t x ev)

    both : two ≡ true
        → (memory_at p (write_of waits n e (access v) true ∷ write_of waits n e (access v) false ∷ ws) t).byte x
        ≡ (memory_at q (write_of waits n e (access w) true ∷ write_of waits n e (access w) false ∷ us) t).byte x
    both g =
        one_write ram (memory_at p (write_of waits n e (access v) false ∷ ws) t)
        (memory_at q (write_of waits n e (access w) false ∷ us) t)
        (nat_lt (write_of waits n e (access v) true).time t) addr first size v w x
        (at_ram p (write_of waits n e (access v) false ∷ ws) t ∙ er)
        (at_ram q (write_of waits n e (access w) false ∷ us) t ∙ fr)
        (λ h. val (second_mark test2 two test1 mark (marks x) marked g h)) one

    by : (pp : Portions) → (goes_on pp ≡ true → two ≡ true)
        → (memory_at p (written_by pp true (write_of waits n e (access v) false) (write_of waits n e (access v) true)
        ws) t).byte x
        ≡ (memory_at q (written_by pp true (write_of waits n e (access w) false) (write_of waits n e (access w) true)
        us) t).byte x
    by NoPortion g = r t x ev
    by One g = one
    by OneBad g = one
    by Two g = both (g refl)
    by TwoBad g = both (g refl)
