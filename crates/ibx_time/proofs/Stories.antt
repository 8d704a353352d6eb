-- What holds of the states of a story, item by item.
use Rattle.std.proofs.Common.{◌≡◌, ℕ, zero, suc, ◌+◌, ◌%◌, ◌^◌, ◌<◌, Bool, true, false, List, [], ◌∷◌, length}
use Rattle.std.proofs.Common.{replicate, All, Option, Some, None, refl, sym, subst, arith, nat_lt, if◌then◌else◌}
use Rattle.std.proofs.lemmas.List.{length-replicate}
use Rattle.std.proofs.lemmas.List.Elements.{All-nil, All-cons}
use Rattle.ibx_elf.specs.declared.ram.Ram.{Ram}
use Rattle.ibx_elf.specs.Image.{image_byte}
use Rattle.ibx_elf.specs.Ram.{ram_has}
use Rattle.ibx_csr.specs.Values.{csr_reset}
use Rattle.ibx_arch.specs.Memory.{Memory, image_memory, read_byte, read_bytes, with_bytes}
use Rattle.ibx_arch.specs.Step.{Choice, reset_state}
use Rattle.ibx_time.specs.Settings.{Setup, settings_of, lines_in}
use Rattle.ibx_time.specs.Items.{Item}
use Rattle.ibx_time.specs.Memories.{Write, memory_at}
use Rattle.ibx_time.specs.Times.{Kind, AnInterrupt, ADummy, AnInstruction}
use Rattle.ibx_time.specs.Streams.{past}
use Rattle.ibx_time.specs.History.{Story, brought, brought_parcels, admission, kind_of, choice_by, choice_at, item_at}
use Rattle.ibx_time.specs.History.{done_at, taken, ended_by, continued}
use Rattle.ibx_time.specs.Chains.{story_after}
use Rattle.ibx_time.proofs.Seen.{taken_state}
use Rattle.ibx_csr.specs.Widths.{IsValues}
use Rattle.ibx_csr.proofs.Widths.{mtvec_low}
use Rattle.ibx_time.proofs.Words.{two_bytes}
use Rattle.ibx_time.proofs.States.{IsGood, IsGoodMemory, bytes_keep, read_low_byte, step_good}
use Rattle.ibx_arch.specs.Laws.{AreParcels}

-- a setup with an even entry, whose image has bytes, and whose interrupt lines are words
pub record IsSane (s : Setup) : Type 0 where
  pub entry_even : s.image.entry % 2 ≡ 0
  pub entry_low : s.image.entry < 2 ^ 32
  pub bytes : (addr : ℕ) → image_byte s.image addr < 256
  pub lines : (c : ℕ) → lines_in (settings_of s) c < 2 ^ 32

-- ---- memory over time

-- the image's memory has bytes, and keeps them with any writes
pub image_good : (s : Setup) → IsSane s → IsGoodMemory s.image.ram (image_memory s.image)
unfolding image_memory
image_good s ok = record {
  ram_is = refl;
  bytes = λ a. elim (ram_has s.image.ram a) as (λ b. (if b then image_byte s.image a else 0) < 256)
      [ true ↦ ok.bytes a | false ↦ omega arith ];
}

-- of two good memories, the one that a test picks is good
either_good : (ram : Ram) (x y : Memory) (b : Bool) → IsGoodMemory ram x → IsGoodMemory ram y
    → IsGoodMemory ram (if b then x else y)
either_good ram x y true hx hy = hx
either_good ram x y false hx hy = hy

-- good memory stays good in every cycle, whatever is written to it
pub at_good : (ram : Ram) (m : Memory) (ws : List Write) (t : ℕ) → IsGoodMemory ram m
    → IsGoodMemory ram (memory_at m ws t)
unfolding memory_at
at_good ram m [] t g = g
at_good ram m (w ∷ ws) t g =
    either_good ram (with_bytes (memory_at m ws t) w.addr w.from w.to w.value) (memory_at m ws t) (nat_lt w.time t)
    (bytes_keep ram (memory_at m ws t) w.addr w.from w.to w.value (at_good ram m ws t g)) (at_good ram m ws t g)

-- so halfwords that were brought have 16 bits
half_low : (ram : Ram) (m : Memory) (addr : ℕ) → IsGoodMemory ram m → read_bytes m addr 2 < 2 ^ 16
half_low ram m addr g =
    two_bytes (λ k. read_byte m ((addr + k) % 2 ^ 32)) (λ k. read_low_byte m ((addr + k) % 2 ^ 32) g.bytes)

-- a halfword that a story brings has 16 bits
brought_low : (s : Setup) (h : Story) (j addr : ℕ) → IsSane s → brought s h j addr < 2 ^ 16
brought_low s h j addr ok =
    half_low s.image.ram (memory_at (image_memory s.image) h.writes
    (past (settings_of s) h.times.stream (suc j)).grant) addr
    (at_good s.image.ram (image_memory s.image) h.writes (past (settings_of s) h.times.stream (suc j)).grant
    (image_good s ok))

-- so both parcels of the next instruction have 16 bits
pub brought_halves : (s : Setup) (h : Story) → IsSane s → AreParcels (brought_parcels s h)
unfolding brought_parcels
brought_halves s h ok = (
  brought_low s h (length h.times.stream.enters) h.state.pc ok,
  brought_low s h (length h.times.stream.enters + h.times.half) ((h.state.pc + 2) % 2 ^ 32) ok,
)

-- ---- the states

-- a choice by parcels has such ones
abbrev pub HasHalves : Option Choice → Type 0
HasHalves None = Unit {0}
HasHalves (Some choice) = AreParcels choice

-- each item of the history does
pub kind_halves : (s : Setup) (h : Story) (kind : Kind) → IsSane s → HasHalves (choice_by s h kind)
kind_halves s h (AnInterrupt number) ok = tt
kind_halves s h ADummy ok = tt
kind_halves s h AnInstruction ok = brought_halves s h ok

-- so the state stays valid after each item
ended_good : (s : Setup) (h : Story) (o : Option Choice) (i : Item) (d : ℕ) (y : Story) → IsSane s → HasHalves o
    → IsGood s.image.ram h.state → y.state ≡ h.state → IsGood s.image.ram (ended_by s h o i d y).state
ended_good s h (Some choice) i d y ok p g e = step_good s.image.ram (settings_of s) h.state choice d g p (ok.lines d)
ended_good s h None i d y ok p g e = subst (IsGood s.image.ram) (sym e) g

-- the state is valid after one item more, whatever is admitted
pub continued_good : (s : Setup) (limit t : ℕ) (h : Story) → IsSane s → IsGood s.image.ram h.state
    → IsGood s.image.ram (continued s limit t h).state
unfolding continued
continued_good s limit t h ok g = ended_good s h (choice_at s t h) (item_at s t h) (done_at s limit t h) (taken s t h)
    ok (kind_halves s h (kind_of s t h) ok) g (taken_state s t h)

-- registers at reset are words, so the first state is valid
zeros : (n : ℕ) → All (λ v. v < 2 ^ 32) (replicate n 0)
zeros zero = All-nil (λ v. v < 2 ^ 32)
zeros (suc n) = All-cons (λ v. v < 2 ^ 32) 0 (replicate n 0) (omega arith) (zeros n)

-- the registers at reset are within their widths
reset_values : (entry : ℕ) → IsValues (csr_reset entry)
unfolding csr_reset
reset_values entry = record {
  mstatus = omega arith;
  mie = omega arith;
  mtvec = mtvec_low entry;
  mepc = omega arith;
  mepc_even = refl;
  mscratch = omega arith;
  mcause = omega arith;
  mtval = omega arith;
  mcountinhibit = omega arith;
  pmpcfg = zeros 4;
  pmpaddr = zeros 16;
  cpuctrl = omega arith;
  mcycle = omega arith;
  minstret = omega arith;
  mseccfg = omega arith;
}

-- so the state at reset is valid
reset_good : (s : Setup) → IsSane s → IsGood s.image.ram (reset_state s.image)
unfolding reset_state
reset_good s ok =
    let m : IsGoodMemory s.image.ram (image_memory s.image) = image_good s ok in
    record {
      pc_even = ok.entry_even;
      pc_low = ok.entry_low;
      csrs = reset_values s.image.entry;
      regs_count = length-replicate {A = ℕ} 32 0;
      regs_low = zeros 32;
      zero_is = refl;
      ram_is = m.ram_is;
      bytes = m.bytes;
    }

-- the state after any number of items
pub story_good : (s : Setup) (limit n : ℕ) → IsSane s → IsGood s.image.ram (story_after s limit n).state
unfolding story_after
story_good s limit zero ok = reset_good s ok
story_good s limit (suc n) ok = continued_good s limit (admission s limit (story_after s limit n))
    (story_after s limit n) ok (story_good s limit n ok)
