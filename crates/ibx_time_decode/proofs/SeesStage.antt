-- What the stage's fields hold of an instruction: its row, and its operands.
use Rattle.std.proofs.Common.{◌≡◌, ℕ, ◌+◌, ◌*◌, ◌%◌, ◌^◌, ◌<◌, Bool, true, false, ◌&&◌, ◌==◌, nat_lt, if◌then◌else◌}
use Rattle.std.proofs.Common.{List, map, length, slice_index, All, refl, ap, ◌∙◌, inl, inr, arith, Option, None}
use Rattle.std.proofs.Math.Nat.{mod-eq_of_lt}
use Rattle.std.proofs.lemmas.Bool.{cases_eq, eq-eqb, ne_eqb, lt-ltb}
use Rattle.std.proofs.lemmas.List.{get_or-map}
use Rattle.std.proofs.lemmas.List.Elements.{All-get_or}
use Rattle.ibx_secded.specs.Code.{encode_of, payload_of}
use Rattle.ibx_secded.proofs.Laws.{payload_of-encode}
use Rattle.ibx_isa.specs.declared.insn.Insn.{Insn}
use Rattle.ibx_bits.specs.Bytes.{bytes_number}
use Rattle.ibx_arch.specs.declared.fetched.Fetched.{Fetched}
use Rattle.ibx_arch.specs.declared.fetched.Fetched.TheVariants.{Unsound, Instruction}
use Rattle.ibx_arch.specs.Memory.{Memory, read_byte, read_bytes}
use Rattle.ibx_arch.specs.State.{State, reg}
use Rattle.ibx_decoder.specs.Instructions.{instruction_of}
use Rattle.ibx_isa.specs.Lengths.{is_long}
use Rattle.ibx_id.specs.declared.stage.IdState.{IdState}
use Rattle.ibx_time.proofs.States.{read_low_byte}
use Rattle.ibx_time_invariant.proofs.Stages.{fault_of}
use Rattle.ibx_time_invariant.proofs.ArchSide.{fetched_word}
use Rattle.ibx_time_decode.proofs.Fetches.{fetch_by, long_word}
use Rattle.ibx_core.specs.Sights.{row_of, stage_word}

-- ---- halfwords

-- bytes of memory make halfwords
pair_low : (f : ℕ → ℕ) → f 0 < 256 → f 1 < 256 → bytes_number f 2 < 2 ^ 16
unfolding bytes_number
pair_low f a b = omega (arith, a, b)

-- so a parcel that memory gives is a halfword
pub parcel_low : (m : Memory) (addr : ℕ) → ((x : ℕ) → m.byte x < 256) → read_bytes m addr 2 < 2 ^ 16
parcel_low m addr h = pair_low (λ k. read_byte m ((addr + k) % 2 ^ 32)) (read_low_byte m ((addr + 0) % 2 ^ 32) h)
    (read_low_byte m ((addr + 1) % 2 ^ 32) h)

-- ---- what is fetched, as the stage holds it

-- a word as the stage holds it: a short one by its low half
abbrev pub in_stage : ℕ → ℕ
in_stage word = if is_long word then word else word % 2 ^ 16

-- a fault is none of 0, and a word is all that the stage has of it
abbrev pub IsHeld : ℕ → Fetched → Type 0
IsHeld pc (Unsound addr) = (fault_of pc (Unsound addr) == 0) ≡ false
IsHeld pc (Instruction word size) = in_stage word ≡ word

-- a fault has a number
fault_some : (b : Bool) → ((if b then 1 else 2) == 0) ≡ false
fault_some true = refl
fault_some false = refl

-- a halfword is held as it is, and a word is long by its first parcel
short_word : (word : ℕ) → is_long word ≡ false → word < 2 ^ 16 → in_stage word ≡ word
short_word word e l = ap (λ b. if b then word else word % 2 ^ 16) e ∙ mod-eq_of_lt l

-- so what is fetched is held
pub held_good : (a long b : Bool) (pc p1 p2 : ℕ) → p1 < 2 ^ 16 → is_long p1 ≡ long
    → IsHeld pc (fetch_by a long b pc p1 p2)
held_good false long b pc p1 p2 k e = fault_some (pc == pc)
held_good true false b pc p1 p2 k e = short_word p1 e k
held_good true true false pc p1 p2 k e = fault_some ((pc + 2) % 2 ^ 32 == pc)
held_good true true true pc p1 p2 k e =
    ap (λ x. if x then p1 + 2 ^ 16 * p2 else (p1 + 2 ^ 16 * p2) % 2 ^ 16) (long_word p1 p2 ∙ e)

-- ---- the row

-- the stage holds the word of what is fetched, or its fault
pub record Fields (f : Fetched) (pc : ℕ) (id : IdState) : Type 0 where
  pub valid : id.valid ≡ true
  pub kind : id.kind ≡ 0
  pub word : id.word ≡ fetched_word f
  pub fault : id.fault ≡ fault_of pc f

-- an item that is real and has no fault has a row
row_if : (valid kind fault : Bool) (o : Option Insn) → valid ≡ true → kind ≡ true → (b : Bool) → fault ≡ b
    → (if valid && kind && fault then o else None) ≡ (if b then o else None)
row_if valid kind fault o e k b m = rw (e, k, m) refl

-- an item of kind 0 may have a row, as any below 2
kind_low : (n : ℕ) → n ≡ 0 → nat_lt n 2 ≡ true
kind_low n e = lt-ltb n 2 (omega (arith, e))

-- the row is the instruction that was fetched, or none after a fault
pub row_is : (pc word size : ℕ) (id : IdState) → IsHeld pc (Instruction word size)
    → Fields (Instruction word size) pc id → row_of id ≡ instruction_of word
unfolding row_of
row_is pc word size id g f =
    row_if id.valid (nat_lt id.kind 2) (id.fault == 0) (instruction_of (stage_word id)) f.valid
    (kind_low id.kind f.kind) true (ap (λ n. n == 0) f.fault)
    ∙ ap instruction_of (ap in_stage f.word ∙ g)

-- after a fetch that failed the stage has no row
pub no_row : (pc addr : ℕ) (id : IdState) → IsHeld pc (Unsound addr) → Fields (Unsound addr) pc id → row_of id ≡ None
unfolding row_of
no_row pc addr id g f =
    row_if id.valid (nat_lt id.kind 2) (id.fault == 0) (instruction_of (stage_word id)) f.valid
    (kind_low id.kind f.kind) false (ap (λ n. n == 0) f.fault ∙ g)

-- ---- the operands

-- a register by its codeword is the state's
reg_is : (x : State) (n : ℕ) → slice_index x.regs 0 ≡ 0 → slice_index x.regs n ≡ reg x n
reg_is x n z = elim (cases_eq n 0) [ inl e ↦ rw (eq-eqb n 0 e, e) z | inr k ↦ rw (ne_eqb n 0 k) refl ]

-- so an operand is
payload_in : (regs xs : List ℕ) (n : ℕ) → regs ≡ map (encode_of 32 7) xs → n < 32 → length xs ≡ 32
    → All (λ v. v < 2 ^ 32) xs → payload_of 32 (slice_index regs n) ≡ slice_index xs n
payload_in regs xs n e l k a =
    let inside : n < length xs = omega (arith, l, k) in
    ap (λ rs. payload_of 32 (slice_index rs n)) e
    ∙ ap (payload_of 32) (get_or-map (encode_of 32 7) xs n 0 0 inside)
    ∙ payload_of-encode 32 7 (slice_index xs n) (All-get_or (λ v. v < 2 ^ 32) xs n 0 inside a)

-- so a codeword that is read, without its check bits, is the state's register, x0 too
pub operand : (x : State) (regs : List ℕ) (n : ℕ) → regs ≡ map (encode_of 32 7) x.regs → n < 32 → length x.regs ≡ 32
    → All (λ v. v < 2 ^ 32) x.regs → slice_index x.regs 0 ≡ 0 → payload_of 32 (slice_index regs n) ≡ reg x n
operand x regs n e l k a z = payload_in regs x.regs n e l k a ∙ reg_is x n z
