-- The dummy's word by the fields of the R format.
use Rattle.std.proofs.Common.{◌≡◌, ℕ, zero, suc, ◌+◌, ◌*◌, ◌/◌, ◌%◌, ◌^◌, ◌<◌, arith}
use Rattle.ibx_dummy.specs.Dummies.{dummy_word, dummy_funct}
use Rattle.ibx_dummy.specs.Laws.{IsDummyOf, funct3_of, funct7_of}

-- by the kind and the operands' numbers
record HasFields (kind first second word : ℕ) : Type 0 where
  opcode : word % 2 ^ 7 ≡ 0x33
  rd : word / 2 ^ 7 % 2 ^ 5 ≡ 0
  funct3 : word / 2 ^ 12 % 2 ^ 3 ≡ funct3_of kind
  rs1 : word / 2 ^ 15 % 2 ^ 5 ≡ first
  rs2 : word / 2 ^ 20 % 2 ^ 5 ≡ second
  funct7 : word / 2 ^ 25 ≡ funct7_of kind

-- a word that is put together has its fields
has_fields : (kind first second : ℕ) → kind < 4 → first < 32 → second < 32
    → HasFields kind first second (dummy_funct kind + second * 2 ^ 20 + first * 2 ^ 15 + 0x33)
has_fields zero first second lt f s =
    record {
      opcode = omega arith;
      rd = omega arith;
      funct3 = omega arith;
      rs1 = omega arith;
      rs2 = omega arith;
      funct7 = omega arith;
    }
has_fields (suc zero) first second lt f s =
    record {
      opcode = omega arith;
      rd = omega arith;
      funct3 = omega arith;
      rs1 = omega arith;
      rs2 = omega arith;
      funct7 = omega arith;
    }
has_fields (suc (suc zero)) first second lt f s =
    record {
      opcode = omega arith;
      rd = omega arith;
      funct3 = omega arith;
      rs1 = omega arith;
      rs2 = omega arith;
      funct7 = omega arith;
    }
has_fields (suc (suc (suc zero))) first second lt f s =
    record {
      opcode = omega arith;
      rd = omega arith;
      funct3 = omega arith;
      rs1 = omega arith;
      rs2 = omega arith;
      funct7 = omega arith;
    }
has_fields (suc (suc (suc (suc n)))) first second lt f s = absurd (omega arith)

-- so the register's dummy is the one that the rule asks for
pub is_dummy_of : (lfsr : ℕ) → IsDummyOf lfsr (dummy_word lfsr)
unfolding dummy_word
is_dummy_of lfsr =
    let h : HasFields (lfsr / 2 ^ 15 % 4) (lfsr / 2 ^ 5 % 32) (lfsr / 2 ^ 10 % 32) (dummy_word lfsr) =
    has_fields (lfsr / 2 ^ 15 % 4) (lfsr / 2 ^ 5 % 32) (lfsr / 2 ^ 10 % 32) (omega arith) (omega arith)
    (omega arith) in
    record { opcode = h.opcode; rd = h.rd; funct3 = h.funct3; rs1 = h.rs1; rs2 = h.rs2; funct7 = h.funct7 }
