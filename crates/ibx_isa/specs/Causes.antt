-- The causes of exceptions (Privileged ISA 1.12, 3.1.15, table 3.6).
use Rattle.std.specs.Prelude.{ℕ}

-- a fetch that protection refuses or no memory answers
abbrev pub fetch_fault : ℕ
fetch_fault = 1

-- a word that is no instruction, or one that may not be executed in the mode that there is
abbrev pub illegal_instruction : ℕ
illegal_instruction = 2

-- EBREAK
abbrev pub breakpoint : ℕ
breakpoint = 3

-- a load and a store that protection refuses or no memory answers
abbrev pub load_fault : ℕ
load_fault = 5

-- the access fault of a store
abbrev pub store_fault : ℕ
store_fault = 7

-- ECALL from U mode and from M mode
abbrev pub user_call : ℕ
user_call = 8

-- the environment call from M mode
abbrev pub machine_call : ℕ
machine_call = 11
