-- What a step writes: the logs of two runs agree at every byte that was never marked.
use Rattle.std.proofs.Common.{◌≡◌, ℕ, ◌+◌, ◌%◌, ◌^◌, ◌&&◌, Bool, true, false, List, Option}
use Rattle.std.proofs.Common.{Some, None, refl, sym, ap, subst}
use Rattle.ibx_isa.specs.declared.insn.Insn.{Insn}
use Rattle.ibx_isa.specs.declared.insn.Insn.TheVariants.{Store, Lui, Auipc, Jal, Jalr, Branch, Load, AluImm, Alu}
use Rattle.ibx_isa.specs.declared.insn.Insn.TheVariants.{MulDiv, Csr, Fence, FenceI, Ecall, Ebreak, Mret, Wfi}
use Rattle.ibx_isa.specs.declared.event.Event.{Event}
use Rattle.ibx_isa.specs.declared.insn.LoadOp.{LoadOp}
use Rattle.ibx_isa.specs.Views.{view_of}
use Rattle.ibx_isa.specs.Portions.{portion_addr}
use Rattle.ibx_pmp.specs.declared.protection.AccessKind.TheVariants.{Write as Writing}
use Rattle.ibx_plan.specs.declared.site.Wait.{Wait}
use Rattle.ibx_arch.specs.Access.{refused_at, error_at, has_second}
use Rattle.ibx_arch.specs.Memory.{Memory, is_mapped}
use Rattle.ibx_arch.specs.State.{reg}
use Rattle.ibx_arch.specs.Effects.{execute, following, store, store_with}
use Rattle.ibx_arch.specs.Step.{decoded, finished, operands, after_fetch}
use Rattle.ibx_decoder.specs.Instructions.{instruction_of}
use Rattle.ibx_decoder.specs.Compressed.{expand_of}
use Rattle.ibx_time.specs.Settings.{Settings}
use Rattle.ibx_time.specs.Controls.{Ctl}
use Rattle.ibx_time.specs.Items.{Portions, NoPortion, One, OneBad, Two, TwoBad, portions_at, retired_item}
use Rattle.ibx_time.specs.Memories.{Write, access_of, writes_with, written_by, memory_at}
use Rattle.ibx_secret.specs.Marks.{Marks, marks_by, stored_marks, word_of}
use Rattle.ibx_secret.specs.Leaks.{leaks_by, leaks, leaks_fetched}
use Rattle.ibx_secret.specs.Twins.{Shared, Private, AreAlike}
use Rattle.ibx_secret.proofs.Places.{right_of}
use Rattle.ibx_secret.proofs.Csrs.{csrs_of, state_of}
use Rattle.ibx_secret.proofs.Rows.{item_by, same_reg, store_leaks}
use Rattle.ibx_secret.proofs.Logs.{LogsAlike, stays_ever, store_logs, goes_on, goes_on-by}
use Rattle.ibx_arch.specs.declared.fetched.Fetched.{Fetched}
use Rattle.ibx_arch.specs.declared.fetched.Fetched.TheVariants.{Unsound, Instruction}
use Rattle.ibx_secret.proofs.Alike.{decoded_word}

-- a load writes nothing
pub none_written : (portions : Portions) (first second : Write) (ws : List Write)
    → written_by portions false first second ws ≡ ws
unfolding written_by
none_written NoPortion first second ws = refl
none_written One first second ws = refl
none_written OneBad first second ws = refl
none_written Two first second ws = refl
none_written TwoBad first second ws = refl

-- the word 0 is no instruction
pub zero_none : instruction_of 0 ≡ None
unfolding instruction_of expand_of
zero_none = refl

-- two logs agree though fewer bytes count
pub fewer_logs : (ever ever2 : ℕ → Bool) (p r : Memory) (ws us : List Write)
    → ((a : ℕ) → ever2 a ≡ false → ever a ≡ false) → LogsAlike ever p r ws us → LogsAlike ever2 p r ws us
fewer_logs ever ever2 p r ws us more l t a h = l t a (more a h)

module _ (k : Settings) (q : Shared) (x y : Private) (cycle : ℕ) where
  -- what a store's event says, by how it ends
  store_marks : (m : Marks) (size rs1 rs2 imm addr v next word : ℕ) (ops : Option (ℕ × ℕ)) (refused error : Option ℕ)
      (a : ℕ)
      → (marks_by q.ram m (Some (Store size rs1 rs2 imm)) (finished q.pc x.regs cycle word ops
      (store_with (state_of q x) size addr v next refused error)).event).ever a ≡ false
      → stored_marks q.ram m.byte addr size (m.reg rs2) a ≡ false
  unfolding finished
  store_marks m size rs1 rs2 imm addr v next word ops (Some at) error a h =
      right_of (m.byte a) (stored_marks q.ram m.byte addr size (m.reg rs2) a) (right_of (m.ever a) _ h)
  store_marks m size rs1 rs2 imm addr v next word ops None (Some at) a h =
      right_of (m.byte a) (stored_marks q.ram m.byte addr size (m.reg rs2) a) (right_of (m.ever a) _ h)
  store_marks m size rs1 rs2 imm addr v next word ops None None a h =
      right_of (m.ever a) (stored_marks q.ram m.byte addr size (m.reg rs2) a) h

  store_portions : (c : Ctl) (size rs1 rs2 imm addr v next word : ℕ) (ops : Option (ℕ × ℕ)) (refused error : Option ℕ)
      → (item_by k c (view_of (finished q.pc x.regs cycle word ops
      (store_with (state_of q x) size addr v next refused error)).event) (Some (Store size rs1 rs2 imm))).portions
      ≡ portions_at k c addr size Writing
  unfolding finished view_of retired_item
  store_portions c size rs1 rs2 imm addr v next word ops (Some at) error = refl
  store_portions c size rs1 rs2 imm addr v next word ops None (Some at) = refl
  store_portions c size rs1 rs2 imm addr v next word ops None None = refl

  -- a second portion is written only where the marks say so
  goes_by : (c : Ctl) (addr size : ℕ) → q.ram ≡ k.ram → goes_on (portions_at k c addr size Writing) ≡ true
      → (has_second addr size && is_mapped q.ram (portion_addr addr false)) ≡ true
  goes_by c addr size e h =
      subst (λ r. (has_second addr size && is_mapped r (portion_addr addr false)) ≡ true) (sym e)
      (goes_on-by _ (is_mapped k.ram (portion_addr addr false)) (has_second addr size) _ h)

  -- a store
  stores_alike : (m : Marks) (size rs1 rs2 imm word length lines : ℕ) → AreAlike m x y → q.ram ≡ k.ram
      → leaks_by k.mul m (Some (Store size rs1 rs2 imm))
      (decoded (state_of q x) cycle word length lines (Some (Store size rs1 rs2 imm))).event ≡ false
      → (c : Ctl) (p r : Memory) (ws us : List Write) (waits : List Wait) (n e : ℕ) → p.ram ≡ q.ram → r.ram ≡ q.ram
      → LogsAlike m.ever p r ws us
      → LogsAlike (marks_by q.ram m (Some (Store size rs1 rs2 imm))
      (decoded (state_of q x) cycle word length lines (Some (Store size rs1 rs2 imm))).event).ever p r
      (writes_with waits n e (item_by k c (view_of (decoded (state_of q x) cycle word length lines
      (Some (Store size rs1 rs2 imm))).event) (Some (Store size rs1 rs2 imm))).portions
      (access_of (state_of q x) (Some (Store size rs1 rs2 imm))) ws)
      (writes_with waits n e (item_by k c (view_of (decoded (state_of q x) cycle word length lines
      (Some (Store size rs1 rs2 imm))).event) (Some (Store size rs1 rs2 imm))).portions
      (access_of (state_of q y) (Some (Store size rs1 rs2 imm))) us)
  unfolding execute store
  stores_alike m size rs1 rs2 imm word length lines s er leak c p r ws us waits n e pr rr l t a h =
      let insn : Option Insn = Some (Store size rs1 rs2 imm) in
      let addr : ℕ = (reg (state_of q x) rs1 + imm) % 2 ^ 32 in
      let next : ℕ = following (state_of q x) length in
      let v : ℕ = reg (state_of q x) rs2 in
      let w : ℕ = reg (state_of q y) rs2 in
      let ops : Option (ℕ × ℕ) = operands (state_of q x) (Store size rs1 rs2 imm) in
      let refused : Option ℕ = refused_at (csrs_of q x) addr size Writing in
      let error : Option ℕ = error_at q.ram addr size in
      let event : Event = (decoded (state_of q x) cycle word length lines insn).event in
      let same : addr ≡ (reg (state_of q y) rs1 + imm) % 2 ^ 32 =
      ap (λ i. (i + imm) % 2 ^ 32)
      (same_reg k q x y cycle m rs1 s
      (store_leaks k q x y cycle m size rs1 rs2 imm addr v next word ops refused error leak)) in
      let portions : Portions = (item_by k c (view_of event) insn).portions in
      let is : portions ≡ portions_at k c addr size Writing =
      store_portions c size rs1 rs2 imm addr v next word ops refused error in
      subst (λ i. (memory_at p (writes_with waits n e portions
      (Some (record { addr = addr; size = size; store = true; value = v % 256 ^ size })) ws) t).byte a
      ≡ (memory_at r (writes_with waits n e portions
      (Some (record { addr = i; size = size; store = true; value = w % 256 ^ size })) us) t).byte a) same
      (store_logs q.ram m.ever m.byte p r ws us waits n e portions addr size (v % 256 ^ size) (w % 256 ^ size)
      (m.reg rs2) t a pr rr l (λ u. ap (λ i. i % 256 ^ size) (same_reg k q x y cycle m rs2 s u))
      (stays_ever q.ram m insn event a h) (store_marks m size rs1 rs2 imm addr v next word ops refused error a h)
      (λ g. goes_by c addr size er (subst (λ i. goes_on i ≡ true) is g)))

  -- what an item writes in both runs
  abbrev Kept : Marks → Option Insn → Event → Portions → Type 0
  Kept m o event portions =
      (p r : Memory) (ws us : List Write) (waits : List Wait) (n e : ℕ) → p.ram ≡ q.ram → r.ram ≡ q.ram
      → LogsAlike m.ever p r ws us
      → LogsAlike (marks_by q.ram m o event).ever p r (writes_with waits n e portions (access_of (state_of q x) o) ws)
      (writes_with waits n e portions (access_of (state_of q y) o) us)

  -- one without an access, and a load
  no_access : (m : Marks) (o : Option Insn) (event : Event) (portions : Portions) → access_of (state_of q x) o ≡ None
      → access_of (state_of q y) o ≡ None → Kept m o event portions
  no_access m o event portions e f p r ws us waits n c pr rr l =
      subst (λ a. LogsAlike (marks_by q.ram m o event).ever p r (writes_with waits n c portions a ws)
      (writes_with waits n c portions (access_of (state_of q y) o) us)) (sym e)
      (subst (λ a. LogsAlike (marks_by q.ram m o event).ever p r ws (writes_with waits n c portions a us)) (sym f)
      (fewer_logs m.ever (marks_by q.ram m o event).ever p r ws us (stays_ever q.ram m o event) l))

  load_access : (m : Marks) (op : LoadOp) (rd rs1 imm : ℕ) (event : Event) (portions : Portions)
      → Kept m (Some (Load op rd rs1 imm)) event portions
  load_access m op rd rs1 imm event portions p r ws us waits n c pr rr l =
      subst (λ a. LogsAlike (marks_by q.ram m (Some (Load op rd rs1 imm)) event).ever p r a
      (writes_with waits n c portions (access_of (state_of q y) (Some (Load op rd rs1 imm))) us))
      (sym (none_written portions _ _ ws))
      (subst (λ a. LogsAlike (marks_by q.ram m (Some (Load op rd rs1 imm)) event).ever p r ws a)
      (sym (none_written portions _ _ us))
      (fewer_logs m.ever (marks_by q.ram m (Some (Load op rd rs1 imm)) event).ever p r ws us
      (stays_ever q.ram m (Some (Load op rd rs1 imm)) event) l))

  -- the portions of a decoded word
  abbrev portions_in : Ctl → ℕ → ℕ → ℕ → Option Insn → Portions
  portions_in c word length lines o =
      (item_by k c (view_of (decoded (state_of q x) cycle word length lines o).event) o).portions

  plain_logs : (m : Marks) (word length lines : ℕ) (o : Option Insn) (c : Ctl) → access_of (state_of q x) o ≡ None
      → access_of (state_of q y) o ≡ None
      → Kept m o (decoded (state_of q x) cycle word length lines o).event (portions_in c word length lines o)
  plain_logs m word length lines o c e f =
      no_access m o (decoded (state_of q x) cycle word length lines o).event (portions_in c word length lines o) e f

  -- each decoded word
  decoded_logs : (m : Marks) (word length lines : ℕ) (o : Option Insn) → AreAlike m x y → q.ram ≡ k.ram
      → leaks_by k.mul m o (decoded (state_of q x) cycle word length lines o).event ≡ false → (c : Ctl)
      → Kept m o (decoded (state_of q x) cycle word length lines o).event
      (item_by k c (view_of (decoded (state_of q x) cycle word length lines o).event) o).portions
  decoded_logs m word length lines None s er leak c = plain_logs m word length lines None c refl refl
  decoded_logs m word length lines (Some (Store size rs1 rs2 imm)) s er leak c =
      stores_alike m size rs1 rs2 imm word length lines s er leak c
  decoded_logs m word length lines (Some (Load op rd rs1 imm)) s er leak c =
      load_access m op rd rs1 imm (decoded (state_of q x) cycle word length lines (Some (Load op rd rs1 imm))).event
      (portions_in c word length lines (Some (Load op rd rs1 imm)))
  decoded_logs m word length lines (Some (Lui rd imm)) s er leak c =
      plain_logs m word length lines (Some (Lui rd imm)) c refl refl
  decoded_logs m word length lines (Some (Auipc rd imm)) s er leak c =
      plain_logs m word length lines (Some (Auipc rd imm)) c refl refl
  decoded_logs m word length lines (Some (Jal rd imm)) s er leak c =
      plain_logs m word length lines (Some (Jal rd imm)) c refl refl
  decoded_logs m word length lines (Some (Jalr rd rs1 imm)) s er leak c =
      plain_logs m word length lines (Some (Jalr rd rs1 imm)) c refl refl
  decoded_logs m word length lines (Some (Branch op rs1 rs2 imm)) s er leak c =
      plain_logs m word length lines (Some (Branch op rs1 rs2 imm)) c refl refl
  decoded_logs m word length lines (Some (AluImm op rd rs1 imm)) s er leak c =
      plain_logs m word length lines (Some (AluImm op rd rs1 imm)) c refl refl
  decoded_logs m word length lines (Some (Alu op rd rs1 rs2)) s er leak c =
      plain_logs m word length lines (Some (Alu op rd rs1 rs2)) c refl refl
  decoded_logs m word length lines (Some (MulDiv op rd rs1 rs2)) s er leak c =
      plain_logs m word length lines (Some (MulDiv op rd rs1 rs2)) c refl refl
  decoded_logs m word length lines (Some (Csr op rd src imm addr)) s er leak c =
      plain_logs m word length lines (Some (Csr op rd src imm addr)) c refl refl
  decoded_logs m word length lines (Some Fence) s er leak c =
      plain_logs m word length lines (Some Fence) c refl refl
  decoded_logs m word length lines (Some FenceI) s er leak c =
      plain_logs m word length lines (Some FenceI) c refl refl
  decoded_logs m word length lines (Some Ecall) s er leak c =
      plain_logs m word length lines (Some Ecall) c refl refl
  decoded_logs m word length lines (Some Ebreak) s er leak c =
      plain_logs m word length lines (Some Ebreak) c refl refl
  decoded_logs m word length lines (Some Mret) s er leak c =
      plain_logs m word length lines (Some Mret) c refl refl
  decoded_logs m word length lines (Some Wfi) s er leak c =
      plain_logs m word length lines (Some Wfi) c refl refl

  -- what was fetched
  pub fetched_logs : (m : Marks) (lines : ℕ) (f : Fetched) → AreAlike m x y → q.ram ≡ k.ram
      → leaks k.mul m (after_fetch (state_of q x) cycle lines f).event ≡ false → (c : Ctl)
      → Kept m (instruction_of (word_of (after_fetch (state_of q x) cycle lines f).event))
      (after_fetch (state_of q x) cycle lines f).event
      (item_by k c (view_of (after_fetch (state_of q x) cycle lines f).event)
      (instruction_of (word_of (after_fetch (state_of q x) cycle lines f).event))).portions
  unfolding leaks finished
  fetched_logs m lines (Unsound addr) s er leak c =
      no_access m (instruction_of 0) (after_fetch (state_of q x) cycle lines (Unsound addr)).event
      (item_by k c (view_of (after_fetch (state_of q x) cycle lines (Unsound addr)).event) (instruction_of 0)).portions
      (ap (access_of (state_of q x)) zero_none)
      (ap (access_of (state_of q y)) zero_none)
  fetched_logs m lines (Instruction word length) s er leak c =
      let event : Event = (decoded (state_of q x) cycle word length lines (instruction_of word)).event in
      let at : word_of event ≡ word = decoded_word k q x y cycle x word length lines (instruction_of word) in
      subst (λ w. Kept m (instruction_of w) event (item_by k c (view_of event) (instruction_of w)).portions) (sym at)
      (decoded_logs m word length lines (instruction_of word) s er
      (subst (λ w. leaks_by k.mul m (instruction_of w) event ≡ false) at
      (right_of (leaks_fetched m event) (leaks_by k.mul m (instruction_of (word_of event)) event) leak)) c)
