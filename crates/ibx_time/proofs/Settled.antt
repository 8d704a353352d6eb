-- Along a story the state's memory is that of the writes so far.
use Rattle.std.proofs.Common.{◌≡◌, ℕ, zero, suc, ◌+◌, ◌-◌, ◌%◌, ◌^◌, ◌<◌, ◌≤◌, not, Bool, true, false, List, [], ◌∷◌}
use Rattle.std.proofs.Common.{Option, Some, None, refl, sym, ap, ◌∙◌, subst, arith, if◌then◌else◌}
use Rattle.std.proofs.lemmas.Bool.{lt-ltb}
use Rattle.ibx_isa.specs.declared.event.Access.{Access}
use Rattle.ibx_isa.specs.declared.event.View.{View}
use Rattle.ibx_isa.specs.declared.insn.Insn.{Insn}
use Rattle.ibx_isa.specs.declared.insn.Insn.TheVariants.{Lui, Auipc, Jal, Jalr, Branch, Load, Store, AluImm, Alu}
use Rattle.ibx_isa.specs.declared.insn.Insn.TheVariants.{MulDiv, Csr, Fence, FenceI, Ecall, Ebreak, Mret, Wfi}
use Rattle.ibx_isa.specs.declared.insn.LoadOp.{LoadOp}
use Rattle.ibx_isa.specs.declared.insn.CsrOp.{CsrOp}
use Rattle.ibx_isa.specs.Views.{access_addr, fault_addr, view_of}
use Rattle.ibx_csr.specs.Values.{counters_after, csr_read, csr_can_write, csr_write, csr_tick}
use Rattle.ibx_isa.specs.Portions.{size_of}
use Rattle.ibx_pmp.specs.declared.protection.AccessKind.TheVariants.{Read as Reads, Write as Writes}
use Rattle.ibx_plan.specs.declared.site.Wait.{Wait}
use Rattle.ibx_bus.specs.PortTimes.{answer_time, grant_time}
use Rattle.ibx_arch.specs.declared.done.Done.{Done}
use Rattle.ibx_arch.specs.declared.done.Done.TheVariants.{Retires, Traps}
use Rattle.ibx_arch.specs.declared.fetched.Fetched.{Fetched}
use Rattle.ibx_arch.specs.declared.fetched.Fetched.TheVariants.{Unsound, Instruction}
use Rattle.ibx_arch.specs.Access.{error_at, refused_at}
use Rattle.ibx_isa.specs.CsrWrites.{writes, written}
use Rattle.ibx_arch.specs.Effects.{Executed, execute, trap, illegal, plain, following, load, load_with, store}
use Rattle.ibx_arch.specs.Effects.{store_with, csr_with, csr_access, return_from_trap}
use Rattle.ibx_arch.specs.Fetch.{fetch}
use Rattle.ibx_decoder.specs.Instructions.{instruction_of}
use Rattle.ibx_arch.specs.Memory.{Memory, image_memory, with_bytes}
use Rattle.ibx_arch.specs.State.{State, reg, at_cycle}
use Rattle.ibx_arch.specs.Step.{Choice, Interrupt, Parcels, Stepped, after_fetch, decoded, stepped_by, finished}
use Rattle.ibx_arch.specs.Step.{instruction, interrupted, operands, reset_state, step_with}
use Rattle.ibx_time.specs.Settings.{Settings, Setup, settings_of, lines_in}
use Rattle.ibx_time.specs.Controls.{Ctl, ctl_of}
use Rattle.ibx_time.specs.Items.{Item, Portions, NoPortion, One, OneBad, Two, TwoBad, item_of, parcels_of, portions_at}
use Rattle.ibx_time.specs.Items.{portions_for, plain as plain_item, retired_item}
use Rattle.ibx_time.specs.Memories.{Write, access_of, memory_at, write_of, writes_with, written_by}
use Rattle.ibx_time.specs.Times.{done_by, done_of, may_end, stop_of}
use Rattle.ibx_time.specs.History.{Story, opening, view_with, access_at, access_by, admission, choice_at, item_by}
use Rattle.ibx_time.specs.History.{item_at, done_at, taken, ended_by, continued}
use Rattle.ibx_time.specs.Chains.{story_after}
use Rattle.ibx_time.proofs.SameViews.{step_view}
use Rattle.ibx_time.proofs.Follows.{HasCtl}
use Rattle.ibx_time.proofs.Chains.{story_ctl}
use Rattle.ibx_time.proofs.Seen.{taken_state, admission_after}
use Rattle.ibx_time.proofs.Timed.{done_after_by, first_after}
use Rattle.ibx_time.proofs.States.{IsGood}
use Rattle.ibx_time.proofs.Stories.{IsSane, story_good}
use Rattle.ibx_time.proofs.Written.{all_written, cut_access, leaves, leaves_for, store_leaves, writes_leave}
use Rattle.ibx_csr.specs.Modes.{may_wait}
use Rattle.ibx_csr.specs.Bits.{is_control_at}

-- ---- an instruction, by how it ends

-- a memory after an instruction is what its portions leave, by how it ended
abbrev MemoryIs : Settings → State → Insn → ℕ → Memory → Done → Type 0
MemoryIs k s insn n m (Retires r) = (v : View) → v.addr ≡ access_addr r.mem
    → m ≡ leaves_for (retired_item k (ctl_of s.csrs) v (Some insn) (plain_item n)).portions (access_of s (Some insn))
    s.memory
MemoryIs k s insn n m (Traps cause tval addr) =
    m ≡ leaves_for (portions_for k (ctl_of s.csrs) (Some insn) (fault_addr cause addr)) (access_of s (Some insn))
    s.memory

-- the same of what an instruction did
abbrev HasMemory : Settings → State → Insn → ℕ → Executed → Type 0
HasMemory k s insn n x = MemoryIs k s insn n x.memory x.done

-- one for each kind of instruction: loads, stores, accesses of CSRs, MRET and WFI
load_by : (k : Settings) (s : State) (op : LoadOp) (rd rs1 imm addr next n : ℕ) (refused error : Option ℕ)
    → HasMemory k s (Load op rd rs1 imm) n (load_with s op rd addr next refused error)
load_by k s op rd rs1 imm addr next n (Some at) error = refl
load_by k s op rd rs1 imm addr next n None (Some at) = refl
load_by k s op rd rs1 imm addr next n None None = λ v e. refl

-- a load leaves memory, whether it retires or traps
load_memory : (k : Settings) (s : State) (op : LoadOp) (rd rs1 imm addr next n : ℕ)
    → HasMemory k s (Load op rd rs1 imm) n (load s op rd addr next)
unfolding load
load_memory k s op rd rs1 imm addr next n =
    load_by k s op rd rs1 imm addr next n (refused_at s.csrs addr (size_of op) Reads)
    (error_at s.memory.ram addr (size_of op))

-- where memory is that of the portions, a store ends so: refused, not answered or done
store_by : (k : Settings) (s : State) (size rs1 rs2 imm next n : ℕ) (refused error : Option ℕ)
    → (store_with s size ((reg s rs1 + imm) % 2 ^ 32) (reg s rs2) next refused error).memory
    ≡ leaves true (portions_at k (ctl_of s.csrs) ((reg s rs1 + imm) % 2 ^ 32) size Writes)
    (cut_access ((reg s rs1 + imm) % 2 ^ 32) size (reg s rs2)) s.memory
    → HasMemory k s (Store size rs1 rs2 imm) n
    (store_with s size ((reg s rs1 + imm) % 2 ^ 32) (reg s rs2) next refused error)
unfolding retired_item
store_by k s size rs1 rs2 imm next n (Some at) error h = h
store_by k s size rs1 rs2 imm next n None (Some at) h = h
store_by k s size rs1 rs2 imm next n None None h =
    λ v e. h ∙ ap (λ o. leaves true (portions_for k (ctl_of s.csrs) (Some (Store size rs1 rs2 imm)) o)
    (cut_access ((reg s rs1 + imm) % 2 ^ 32) size (reg s rs2)) s.memory) (sym e)

-- so a store leaves what its portions leave, where the state's RAM is that of the settings
store_memory : (k : Settings) (s : State) (size rs1 rs2 imm next n : ℕ) → s.memory.ram ≡ k.ram
    → HasMemory k s (Store size rs1 rs2 imm) n (store s size ((reg s rs1 + imm) % 2 ^ 32) (reg s rs2) next)
unfolding store
store_memory k s size rs1 rs2 imm next n e =
    store_by k s size rs1 rs2 imm next n (refused_at s.csrs ((reg s rs1 + imm) % 2 ^ 32) size Writes)
    (error_at s.memory.ram ((reg s rs1 + imm) % 2 ^ 32) size)
    (store_leaves k s size ((reg s rs1 + imm) % 2 ^ 32) (reg s rs2) next e)

-- an access leaves memory whether it writes, only reads or is illegal
csr_by : (k : Settings) (s : State) (op : CsrOp) (rd src : ℕ) (imm : Bool) (addr source word next old n : ℕ)
    (w1 w2 : Bool) (ctl : Option ℕ)
    → HasMemory k s (Csr op rd src imm addr) n (
    if not w1 then plain s rd old next else
    if not w2 then illegal s word else
    record {
      done = Retires (record { rd = rd; value = old; mem = None; ctl = ctl; next_pc = next });
      memory = s.memory;
      csrs = csr_write (csr_tick s.csrs true (Some addr)) addr (written op old source);
    })
csr_by k s op rd src imm addr source word next old n false w2 ctl = λ v e. refl
csr_by k s op rd src imm addr source word next old n true false ctl = refl
csr_by k s op rd src imm addr source word next old n true true ctl = λ v e. refl

-- so it does where its address names a register that can be read, and where not
csr_found : (k : Settings) (s : State) (op : CsrOp) (rd src : ℕ) (imm : Bool) (addr source word next n : ℕ)
    (o : Option ℕ) → HasMemory k s (Csr op rd src imm addr) n (csr_with s op rd src source addr word next o)
csr_found k s op rd src imm addr source word next n None = refl
csr_found k s op rd src imm addr source word next n (Some old) =
    csr_by k s op rd src imm addr source word next old n (writes op src) (csr_can_write s.csrs addr)
    (if is_control_at addr then Some (written op old source) else None)

-- an access to a CSR leaves memory
csr_memory : (k : Settings) (s : State) (op : CsrOp) (rd src : ℕ) (imm : Bool) (addr source word next lines n : ℕ)
    → HasMemory k s (Csr op rd src imm addr) n (csr_access s op rd src source addr word next lines)
unfolding csr_access
csr_memory k s op rd src imm addr source word next lines n =
    csr_found k s op rd src imm addr source word next n (csr_read s.csrs addr lines)

-- in user mode MRET is a trap, which leaves memory
return_by : (k : Settings) (s : State) (word n : ℕ) (machine : Bool) (x : Executed) → HasMemory k s Mret n x
    → HasMemory k s Mret n (if not machine then illegal s word else x)
return_by k s word n true x h = h
return_by k s word n false x h = refl

-- MRET leaves memory in either mode
return_memory : (k : Settings) (s : State) (word n : ℕ) → HasMemory k s Mret n (return_from_trap s word)
unfolding return_from_trap
return_memory k s word n = return_by k s word n s.csrs.machine _ (λ v e. refl)

-- WFI leaves memory, whether it may wait or is illegal
wait_memory : (k : Settings) (s : State) (word next n : ℕ) (may : Bool)
    → HasMemory k s Wfi n (if may then plain s 0 0 next else illegal s word)
wait_memory k s word next n true = λ v e. refl
wait_memory k s word next n false = refl

-- so it is for every instruction
row_memory : (k : Settings) (s : State) (insn : Insn) (word length lines n : ℕ) → s.memory.ram ≡ k.ram
    → HasMemory k s insn n (execute s insn word length lines)
unfolding execute
row_memory k s (Lui rd imm) word length lines n e = λ v o. refl
row_memory k s (Auipc rd imm) word length lines n e = λ v o. refl
row_memory k s (Jal rd imm) word length lines n e = λ v o. refl
row_memory k s (Jalr rd rs1 imm) word length lines n e = λ v o. refl
row_memory k s (Branch op rs1 rs2 imm) word length lines n e = λ v o. refl
row_memory k s (Load op rd rs1 imm) word length lines n e =
    load_memory k s op rd rs1 imm ((reg s rs1 + imm) % 2 ^ 32) (following s length) n
row_memory k s (Store size rs1 rs2 imm) word length lines n e =
    store_memory k s size rs1 rs2 imm (following s length) n e
row_memory k s (AluImm op rd rs1 imm) word length lines n e = λ v o. refl
row_memory k s (Alu op rd rs1 rs2) word length lines n e = λ v o. refl
row_memory k s (MulDiv op rd rs1 rs2) word length lines n e = λ v o. refl
row_memory k s (Csr op rd src true addr) word length lines n e =
    csr_memory k s op rd src true addr src word (following s length) lines n
row_memory k s (Csr op rd src false addr) word length lines n e =
    csr_memory k s op rd src false addr (reg s src) word (following s length) lines n
row_memory k s Fence word length lines n e = λ v o. refl
row_memory k s FenceI word length lines n e = λ v o. refl
row_memory k s Ecall word length lines n e = refl
row_memory k s Ebreak word length lines n e = refl
row_memory k s Mret word length lines n e = return_memory k s word n
row_memory k s Wfi word length lines n e = wait_memory k s word (following s length) n (may_wait s.csrs)

-- ---- the step

-- the memory after a step is what the portions of its item leave
abbrev Keeps : Settings → Ctl → State → Stepped → Type 0
Keeps k c s x = x.next.memory ≡ leaves_for (item_of k c (view_of x.event)).portions
    (access_of s (instruction_of (view_of x.event).word)) s.memory

-- without a portion memory stays, and without an address there is none
none_left : (o : Option Access) (m : Memory) → leaves_for NoPortion o m ≡ m
none_left None m = refl
none_left (Some a) m = left_by a.store
  where
    left_by : (b : Bool) → leaves b NoPortion a m ≡ m
    left_by true = refl
    left_by false = refl

-- an instruction whose view has no address has no portions
no_portions : (k : Settings) (c : Ctl) (o : Option Insn) → portions_for k c o None ≡ NoPortion
no_portions k c None = refl
no_portions k c (Some insn) = none_by insn
  where
    none_by : (insn : Insn) → portions_for k c (Some insn) None ≡ NoPortion
    none_by (Load op rd rs1 imm) = refl
    none_by (Store size rs1 rs2 imm) = refl
    none_by _ = refl

-- a step that ends so has the memory of its item
ended_keeps : (k : Settings) (s : State) (c word : ℕ) (ops : Option (ℕ × ℕ)) (after : Executed) (d : Done)
    (insn : Insn) → instruction_of word ≡ Some insn → MemoryIs k s insn (parcels_of word) after.memory d
    → Keeps k (ctl_of s.csrs) s (stepped_by s.pc s.regs c word ops after d)
unfolding view_of item_of
ended_keeps k s c word ops after (Retires r) insn i h =
    let v : View = view_of (stepped_by s.pc s.regs c word ops after (Retires r)).event in
    subst (λ o. after.memory ≡ leaves_for (retired_item k (ctl_of s.csrs) v o (plain_item (parcels_of word))).portions
    (access_of s o) s.memory) (sym i) (h v refl)
ended_keeps k s c word ops after (Traps cause tval addr) insn i h =
    subst (λ o. after.memory ≡ leaves_for (portions_for k (ctl_of s.csrs) o (fault_addr cause addr)) (access_of s o)
    s.memory) (sym i) h

-- a trap whose event has no address
trap_keeps : (k : Settings) (s : State) (c word cause tval : ℕ) → fault_addr cause 0 ≡ None
    → Keeps k (ctl_of s.csrs) s (stepped_by s.pc s.regs c word None (trap s cause tval 0) (trap s cause tval 0).done)
unfolding view_of item_of
trap_keeps k s c word cause tval e =
    sym (none_left (access_of s (instruction_of word)) s.memory)
    ∙ ap (λ p. leaves_for p (access_of s (instruction_of word)) s.memory)
    (sym (ap (portions_for k (ctl_of s.csrs) (instruction_of word)) e
    ∙ no_portions k (ctl_of s.csrs) (instruction_of word)))

-- the same from the decoded word, from what was fetched and from parcels
decoded_keeps : (k : Settings) (s : State) (c word length lines : ℕ) (o : Option Insn) → instruction_of word ≡ o
    → s.memory.ram ≡ k.ram → Keeps k (ctl_of s.csrs) s (decoded s c word length lines o)
unfolding finished
decoded_keeps k s c word length lines None i e = trap_keeps k s c word 2 word refl
decoded_keeps k s c word length lines (Some insn) i e =
    ended_keeps k s c word (operands s insn) (execute s insn word length lines) (execute s insn word length lines).done
    insn i (row_memory k s insn word length lines (parcels_of word) e)

-- an unsound parcel is a trap that leaves memory, and a word that was fetched is decoded
fetched_keeps : (k : Settings) (s : State) (c lines : ℕ) (f : Fetched) → s.memory.ram ≡ k.ram
    → Keeps k (ctl_of s.csrs) s (after_fetch s c lines f)
unfolding finished
fetched_keeps k s c lines (Unsound addr) e = trap_keeps k s c 0 1 addr refl
fetched_keeps k s c lines (Instruction word length) e =
    decoded_keeps k s c word length lines (instruction_of word) refl e

-- an instruction leaves what its portions leave, whichever two parcels it is fetched from
instruction_keeps : (k : Settings) (s : State) (first second c lines : ℕ) → s.memory.ram ≡ k.ram
    → Keeps k (ctl_of s.csrs) s (instruction s first second c lines)
unfolding instruction
instruction_keeps k s first second c lines e = fetched_keeps k s c lines (fetch s first second) e

-- an interrupt leaves memory
interrupted_keeps : (k : Settings) (c : Ctl) (s : State) (number d : ℕ) → Keeps k c s (interrupted s number d)
unfolding interrupted view_of item_of
interrupted_keeps k c s number d = sym (none_left (access_of s (instruction_of 0)) s.memory)

-- so it is for each step, also before its counters are moved
step_by : (k : Settings) (s : State) (choice : Choice) (d : ℕ) → s.memory.ram ≡ k.ram
    → Keeps k (ctl_of (at_cycle s d).csrs) (at_cycle s d) (step_with (lines_in k) s choice d)
unfolding step_with
step_by k s (Interrupt number) d e = interrupted_keeps k (ctl_of (at_cycle s d).csrs) (at_cycle s d) number d
step_by k s (Parcels first second) d e = instruction_keeps k (at_cycle s d) first second d (lines_in k d) e

-- counters change neither the registers that time depends on nor the access
moved_ctl : (s : State) (d : ℕ) → ctl_of (at_cycle s d).csrs ≡ ctl_of s.csrs
unfolding counters_after
moved_ctl s d = refl

-- the access of a load or store doesn't depend on the counters
access_by_insn : (s : State) (d : ℕ) (insn : Insn) → access_of (at_cycle s d) (Some insn) ≡ access_of s (Some insn)
access_by_insn s d (Load op rd rs1 imm) = refl
access_by_insn s d (Store size rs1 rs2 imm) = refl
access_by_insn s d _ = refl

-- nor does that of a word that may fit no instruction
moved_access : (s : State) (d : ℕ) (o : Option Insn) → access_of (at_cycle s d) o ≡ access_of s o
moved_access s d None = refl
moved_access s d (Some insn) = access_by_insn s d insn

-- a step leaves of memory what the portions of its item leave
pub step_keeps : (k : Settings) (s : State) (choice : Choice) (d : ℕ) → s.memory.ram ≡ k.ram
    → Keeps k (ctl_of s.csrs) s (step_with (lines_in k) s choice d)
step_keeps k s choice d e =
    let x : Stepped = step_with (lines_in k) s choice d in
    step_by k s choice d e
    ∙ ap (λ c. leaves_for (item_of k c (view_of x.event)).portions
    (access_of (at_cycle s d) (instruction_of (view_of x.event).word)) s.memory) (moved_ctl s d)
    ∙ ap (λ o. leaves_for (item_of k (ctl_of s.csrs) (view_of x.event)).portions o s.memory)
    (moved_access s d (instruction_of (view_of x.event).word))

-- ---- the story

-- the state's memory is the image's with all writes so far
abbrev pub IsWritten : Setup → Story → Type 0
IsWritten s h = h.state.memory ≡ all_written (image_memory s.image) h.writes

-- a step of the history leaves the memory of its item's portions
view_keeps : (s : Setup) (h : Story) (choice : Choice) (d : ℕ) → HasCtl h → h.state.memory.ram ≡ s.image.ram
    → (step_with (lines_in (settings_of s)) h.state choice d).next.memory
    ≡ leaves_for (item_by s h (Some choice)).portions (access_by s h (Some choice)) h.state.memory
view_keeps s h choice d c e =
    step_keeps (settings_of s) h.state choice d e
    ∙ ap (λ v. leaves_for (item_of (settings_of s) (ctl_of h.state.csrs) v).portions
    (access_of h.state (instruction_of v.word)) h.state.memory)
    (step_view (settings_of s) h.state choice d h.state.stands)
    ∙ ap (λ x. leaves_for (item_of (settings_of s) x (view_with s h choice)).portions (access_by s h (Some choice))
    h.state.memory) (sym c)

-- so it is after an item that is done
ended_written : (s : Setup) (h : Story) (o : Option Choice) (i : Item) (d n e : ℕ) (y : Story) → HasCtl h
    → h.state.memory.ram ≡ s.image.ram → IsWritten s h → y.state ≡ h.state
    → y.writes ≡ writes_with s.plan.dwaits n e (item_by s h o).portions (access_by s h o) h.writes
    → IsWritten s (ended_by s h o i d y)
ended_written s h (Some choice) i d n e y c ram old same new =
    view_keeps s h choice d c ram
    ∙ ap (leaves_for (item_by s h (Some choice)).portions (access_by s h (Some choice))) old
    ∙ sym (writes_leave s.plan.dwaits n e (item_by s h (Some choice)).portions (access_by s h (Some choice)) h.writes
    (image_memory s.image))
    ∙ ap (all_written (image_memory s.image)) (sym new)
ended_written s h None i d n e y c ram old same new =
    ap (λ x. x.memory) same ∙ old ∙ ap (all_written (image_memory s.image)) (sym new)

-- an admission adds the writes of its item
taken_writes : (s : Setup) (t : ℕ) (h : Story)
    → (taken s t h).writes ≡ writes_with s.plan.dwaits h.times.made (t + 1) (item_by s h (choice_at s t h)).portions
    (access_by s h (choice_at s t h)) h.writes
unfolding taken item_at access_at
taken_writes s t h = refl

-- so it stays after each item, from the opening on
pub continued_written : (s : Setup) (limit t : ℕ) (h : Story) → HasCtl h → h.state.memory.ram ≡ s.image.ram
    → IsWritten s h → IsWritten s (continued s limit t h)
unfolding continued
continued_written s limit t h c ram old =
    ended_written s h (choice_at s t h) (item_at s t h) (done_at s limit t h) h.times.made (t + 1) (taken s t h) c ram
    old (taken_state s t h) (taken_writes s t h)

-- at reset nothing is written, and memory is the image's
opening_written : (s : Setup) → IsWritten s (opening s)
unfolding reset_state
opening_written s = refl

-- after any number of items
pub story_written : (s : Setup) (limit n : ℕ) → IsSane s → IsWritten s (story_after s limit n)
unfolding story_after
story_written s limit zero ok = opening_written s
story_written s limit (suc n) ok =
    let h : Story = story_after s limit n in
    let good : IsGood s.image.ram h.state = story_good s limit n ok in
    continued_written s limit (admission s limit h) h (story_ctl s limit n) good.ram_is (story_written s limit n ok)

-- ---- the same by cycles

-- all these writes are before a cycle
abbrev pub IsBefore : List Write → ℕ → Type 0
IsBefore [] c = Unit {0}
IsBefore (w ∷ ws) c = (w.time < c) × IsBefore ws c

-- then memory at that cycle has all of them
pub all_at : (m : Memory) (ws : List Write) (c : ℕ) → IsBefore ws c → memory_at m ws c ≡ all_written m ws
unfolding memory_at
all_at m [] c h = refl
all_at m (w ∷ ws) c h =
    rw (lt-ltb w.time c h.0) (ap (λ x. with_bytes x w.addr w.from w.to w.value) (all_at m ws c h.1))

-- writes before a cycle are before a later one
pub later_before : (ws : List Write) (c d : ℕ) → c ≤ d → IsBefore ws c → IsBefore ws d
later_before [] c d h z = tt
later_before (w ∷ ws) c d h z = (omega (arith, z.0), later_before ws c d h z.1)

-- the portions of an item are granted before its done
portions_before : (waits : List Wait) (n e stop : ℕ) (store : Bool) (portions : Portions) (a : Access)
    (ws : List Write) → e ≤ stop → IsBefore ws e
    → IsBefore (written_by portions store (write_of waits n e a false) (write_of waits n e a true) ws)
    (done_by waits portions n e stop)
unfolding written_by done_by answer_time grant_time
portions_before waits n e stop false NoPortion a ws h z = later_before ws e stop h z
portions_before waits n e stop false One a ws h z = later_before ws e (done_by waits One n e stop) (omega arith) z
portions_before waits n e stop false OneBad a ws h z =
    later_before ws e (done_by waits OneBad n e stop) (omega arith) z
portions_before waits n e stop false Two a ws h z = later_before ws e (done_by waits Two n e stop) (omega arith) z
portions_before waits n e stop false TwoBad a ws h z =
    later_before ws e (done_by waits TwoBad n e stop) (omega arith) z
portions_before waits n e stop true NoPortion a ws h z = later_before ws e stop h z
portions_before waits n e stop true One a ws h z =
    (omega arith, later_before ws e (done_by waits One n e stop) (omega arith) z)
portions_before waits n e stop true OneBad a ws h z =
    (omega arith, later_before ws e (done_by waits OneBad n e stop) (omega arith) z)
portions_before waits n e stop true Two a ws h z =
    (omega arith, (omega arith, later_before ws e (done_by waits Two n e stop) (omega arith) z))
portions_before waits n e stop true TwoBad a ws h z =
    (omega arith, (omega arith, later_before ws e (done_by waits TwoBad n e stop) (omega arith) z))

-- the writes of an item are before its done: by its access, in a story with it, and after it
with_before : (waits : List Wait) (n e stop : ℕ) (portions : Portions) (o : Option Access) (ws : List Write) → e ≤ stop
    → IsBefore ws e → IsBefore (writes_with waits n e portions o ws) (done_by waits portions n e stop)
with_before waits n e stop portions None ws h z =
    later_before ws e (done_by waits portions n e stop) (done_after_by waits portions n e stop h) z
with_before waits n e stop portions (Some a) ws h z = portions_before waits n e stop a.store portions a ws h z

-- the writes of a story with an admitted item are before that item's done
taken_before : (s : Setup) (limit t : ℕ) (h : Story) → IsBefore h.writes (t + 1)
    → IsBefore (taken s t h).writes (done_at s limit t h)
unfolding taken done_of
taken_before s limit t h z =
    with_before s.plan.dwaits h.times.made (t + 1) (stop_of (settings_of s) limit (item_at s t h) h.times.ctl (t + 1))
    (item_at s t h).portions (access_at s t h) h.writes
    (first_after (limit - (t + 1)) (may_end (settings_of s) (item_at s t h) h.times.ctl (t + 1)) (t + 1)) z

-- an item that ends adds no write, so all of them are before its done
ended_before : (s : Setup) (h : Story) (o : Option Choice) (i : Item) (d : ℕ) (y : Story) → IsBefore y.writes d
    → IsBefore (ended_by s h o i d y).writes (ended_by s h o i d y).done
ended_before s h (Some choice) i d y z = z
ended_before s h None i d y z = z

-- so after one item more all writes are before the last done
pub continued_before : (s : Setup) (limit t : ℕ) (h : Story) → h.done ≤ t → IsBefore h.writes h.done
    → IsBefore (continued s limit t h).writes (continued s limit t h).done
unfolding continued
continued_before s limit t h low z =
    ended_before s h (choice_at s t h) (item_at s t h) (done_at s limit t h) (taken s t h)
    (taken_before s limit t h (later_before h.writes h.done (t + 1) (omega arith) z))

-- all writes of a story are before the done of its last item
pub story_before : (s : Setup) (limit n : ℕ) → IsBefore (story_after s limit n).writes (story_after s limit n).done
unfolding story_after
story_before s limit zero = tt
story_before s limit (suc n) =
    let h : Story = story_after s limit n in
    continued_before s limit (admission s limit h) h (admission_after s limit h) (story_before s limit n)

-- from that cycle on, memory over time is the state's memory
pub story_memory : (s : Setup) (limit n c : ℕ) → IsSane s → (story_after s limit n).done ≤ c
    → (story_after s limit n).state.memory ≡ memory_at (image_memory s.image) (story_after s limit n).writes c
story_memory s limit n c ok late =
    let h : Story = story_after s limit n in
    story_written s limit n ok ∙ sym (all_at (image_memory s.image) h.writes c
    (later_before h.writes h.done c late (story_before s limit n)))
