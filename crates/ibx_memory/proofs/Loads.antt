-- A load, by words and by bytes.
use Rattle.std.proofs.Common.{◌≡◌, ℕ, ◌+◌, ◌-◌, ◌%◌, ◌^◌, ◌<◌, ◌≤◌, ap, ◌∙◌, arith, inl, inr}
use Rattle.std.proofs.lemmas.Bool.{cases_lt, lt-ltb, le-ltb}
use Rattle.ibx_isa.specs.declared.insn.LoadOp.{LoadOp}
use Rattle.ibx_isa.specs.declared.insn.LoadOp.TheVariants.{Lb, Lh, Lw, Lbu, Lhu}
use Rattle.ibx_isa.specs.Portions.{pair_byte, gather_of, loaded, size_of}
use Rattle.ibx_bits.proofs.Bytes.{same_bytes}
use Rattle.ibx_arch.specs.Memory.{Memory, read_byte, read_bytes}
use Rattle.ibx_memory.specs.Words.{HoldsBytes}

-- no load has more than four bytes
size_of-le : (op : LoadOp) → size_of op ≤ 4
size_of-le Lb = omega arith
size_of-le Lh = omega arith
size_of-le Lw = omega arith
size_of-le Lbu = omega arith
size_of-le Lhu = omega arith

module _ (memory : Memory) (addr first second : ℕ) (small : addr < 2 ^ 32)
    (low : HoldsBytes memory (addr - addr % 4) first)
    (high : HoldsBytes memory ((addr - addr % 4 + 4) % 2 ^ 32) second) where
  -- byte k of the pair of words is the one at its address
  byte_is : (k : ℕ) → k < 4 → pair_byte first second (addr % 4 + k) ≡ read_byte memory ((addr + k) % 2 ^ 32)
  byte_is k lt =
      elim (cases_lt (addr % 4 + k) 4) [
        | inl inside ↦
            let at : addr - addr % 4 + (addr % 4 + k) ≡ (addr + k) % 2 ^ 32 = omega arith in
            rw (lt-ltb (addr % 4 + k) 4 inside) (low (addr % 4 + k) inside ∙ ap (read_byte memory) at)
        | inr past ↦
            let at : (addr - addr % 4 + 4) % 2 ^ 32 + (addr % 4 + k - 4) ≡ (addr + k) % 2 ^ 32 = omega arith in
            rw (le-ltb (addr % 4 + k) 4 past) (high (addr % 4 + k - 4) (omega arith) ∙ ap (read_byte memory) at)
      ]

  -- so a load gathers what memory has there
  pub loads : (op : LoadOp) → gather_of op addr first second ≡ loaded op (read_bytes memory addr (size_of op))
  unfolding gather_of
  loads op = ap (loaded op) (same_bytes _ _ (size_of op) (λ k lt. byte_is k (omega (arith, size_of-le op))))
