-- The widths of the registers.
use Rattle.std.specs.Prelude.{◌≡◌, ℕ, ◌%◌, ◌^◌, ◌<◌}
use Rattle.std.specs.List.{All}
use Rattle.ibx_csr.specs.Values.{CsrValues}

-- a number of 32 bits
abbrev pub IsWord : ℕ → Type 0
IsWord n = n < 2 ^ 32

-- the registers' widths
pub record IsValues (v : CsrValues) : Type 0 where
  pub mstatus : v.mstatus < 2 ^ 32
  pub mie : v.mie < 2 ^ 32
  pub mtvec : v.mtvec < 2 ^ 32
  pub mepc : v.mepc < 2 ^ 32
  pub mepc_even : v.mepc % 2 ≡ 0
  pub mscratch : v.mscratch < 2 ^ 32
  pub mcause : v.mcause < 2 ^ 32
  pub mtval : v.mtval < 2 ^ 32
  pub mcountinhibit : v.mcountinhibit < 2 ^ 32
  pub pmpcfg : All (λ w. w < 2 ^ 32) v.pmpcfg
  pub pmpaddr : All (λ w. w < 2 ^ 32) v.pmpaddr
  pub cpuctrl : v.cpuctrl < 2 ^ 32
  pub mcycle : v.mcycle < 2 ^ 64
  pub minstret : v.minstret < 2 ^ 64
  pub mseccfg : v.mseccfg < 2 ^ 32
