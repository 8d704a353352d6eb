-- The registers that the stage reads are codewords, and no complement is wrong.
use Rattle.std.proofs.Common.{◌≡◌, ℕ, ◌^◌, ◌<◌, Bool, true, false, List, map, length, slice_index, All, ap, ◌∙◌, arith}
use Rattle.std.proofs.Common.{Option, Some, None}
use Rattle.std.specs.Prelude.{IfSome, if◌then◌else◌, ◌&&◌, nat_lt, ◌==◌}
use Rattle.std.proofs.lemmas.List.{get_or-map}
use Rattle.std.proofs.lemmas.List.Elements.{All-get_or}
use Rattle.ibx_secded.specs.Code.{encode_of, syndrome_of}
use Rattle.ibx_secded.proofs.Laws.{syndrome_of-encode}
use Rattle.ibx_isa.specs.declared.insn.Insn.{Insn}
use Rattle.ibx_csr.specs.Fields.{Complemented, glitch_of}
use Rattle.ibx_csr.proofs.Sound.{glitch-sound}
use Rattle.ibx_csr.specs.declared.csrs.Csrs.{Csrs}
use Rattle.ibx_isa.specs.Sources.{source1, source2}
use Rattle.ibx_decoder.specs.Instructions.{instruction_of}
use Rattle.ibx_id.specs.declared.stage.IdState.{IdState}
use Rattle.ibx_time.specs.Settings.{Setup}
use Rattle.ibx_time_invariant.proofs.ArchSide.{ArchQuiet}
use Rattle.ibx_time_decode.proofs.Accesses.{IsNamed, named}
use Rattle.ibx_core.specs.Sights.{ra_of, rb_of, read_by, row_of, stage_word}

-- ---- the registers that are read

-- the stage's row has such sources, or there is none
named_if : (b : Bool) (o : Option Insn) → IfSome o IsNamed → IfSome (if b then o else None) IsNamed
named_if true o n = n
named_if false o n = tt

-- a row in the stage was decoded from its word, so its sources are registers
pub named_row : (id : IdState) → IfSome (row_of id) IsNamed
unfolding row_of
named_row id =
    named_if (id.valid && nat_lt id.kind 2 && id.fault == 0) (instruction_of (stage_word id)) (named (stage_word id))

-- so it reads registers below 32
pub read1_low : (b : Bool) (o : Option Insn) → IfSome o IsNamed → read_by source1 b o < 32
read1_low true None n = omega arith
read1_low true (Some insn) n = n.1
read1_low false None n = omega arith
read1_low false (Some insn) n = omega arith

-- the second source is below 32 too, and x0 where none is read
pub read2_low : (b : Bool) (o : Option Insn) → IfSome o IsNamed → read_by source2 b o < 32
read2_low true None n = omega arith
read2_low true (Some insn) n = n.2
read2_low false None n = omega arith
read2_low false (Some insn) n = omega arith

-- ---- the codeword of a register

-- a register is held as a codeword
coded : (xs : List ℕ) (n : ℕ) → n < length xs → All (λ v. v < 2 ^ 32) xs
    → syndrome_of 32 7 (slice_index (map (encode_of 32 7) xs) n) ≡ 0
coded xs n l a =
    ap (syndrome_of 32 7) (get_or-map (encode_of 32 7) xs n 0 0 l)
    ∙ syndrome_of-encode 32 7 (slice_index xs n) (All-get_or (λ v. v < 2 ^ 32) xs n 0 l a)

-- so the check bits of each of the core's 32 registers fit its word
coded_in : (regs xs : List ℕ) (n : ℕ) → regs ≡ map (encode_of 32 7) xs → n < 32 → length xs ≡ 32
    → All (λ v. v < 2 ^ 32) xs → syndrome_of 32 7 (slice_index regs n) ≡ 0
coded_in regs xs n e l k a = ap (λ rs. syndrome_of 32 7 (slice_index rs n)) e ∙ coded xs n (omega (arith, k)) a

-- complements that are right raise no alert
no_glitch : (c : Csrs) → Complemented c → glitch_of c ≡ false
no_glitch c k = (glitch-sound c).1 k

-- so neither register that is read has a flipped bit
pub arch_quiet : (s : Setup) → ArchQuiet s
unfolding ra_of rb_of
arch_quiet s h c next_pc id csrs regs t i = (
  coded_in regs h.state.regs (ra_of id) t.regs_are (read1_low (nat_lt id.phase 4) (row_of id) (named_row id))
      i.good.regs_count i.good.regs_low,
  coded_in regs h.state.regs (rb_of id) t.regs_are (read2_low (nat_lt id.phase 4) (row_of id) (named_row id))
      i.good.regs_count i.good.regs_low,
  no_glitch csrs t.complemented,
)
