-- When a dummy instruction is due, and which one it is. Our own rule.
use Rattle.std.specs.Prelude.{ℕ, ◌+◌, ◌*◌, ◌/◌, ◌%◌, ◌^◌, Bool, ◌&&◌, ◌==◌, nat_le, if◌then◌else◌, bit_and, bit_xor}
use Rattle.std.specs.Prelude.{min}
use Rattle.ibx_dummy.specs.declared.unit.Dummy.{Dummy}

-- a shift register with feedback, and the real instructions since the last dummy
abbrev pub dummies_reset : Dummy
dummies_reset = record { lfsr = 0xace1ace1; dcount = 0 }

-- the real instructions that a dummy waits for: bits 4:0 of the register, as the mask lets them pass
abbrev pub threshold : ℕ → ℕ → ℕ
threshold lfsr mask = bit_and (lfsr % 32) (mask * 4 + 3)

-- by whether dummies are enabled, and by the mask
abbrev pub is_due : Bool → ℕ → Dummy → Bool
is_due enable mask d = enable && nat_le (threshold d.lfsr mask) d.dcount

-- shifted right, with the feedback where the bit that falls out is 1
abbrev pub lfsr_next : ℕ → ℕ
lfsr_next x = if x % 2 == 1 then bit_xor (x / 2) 0x80200003 else x / 2

-- a dummy is admitted
abbrev pub inserted : Dummy → Dummy
inserted d = record { lfsr = lfsr_next d.lfsr; dcount = 0 }

-- a real instruction is admitted; it is counted where dummies are enabled, and the count stops at 31
abbrev pub counted_by : Bool → Dummy → Dummy
counted_by enable d = if enable then record d { dcount = min 31 (d.dcount + 1) } else d

-- a value is written to the register, and that of reset in place of 0
abbrev pub seeded : ℕ → Dummy → Dummy
seeded value d = record d { lfsr = if value == 0 then 0xace1ace1 else value }

-- the dummy: ADD, MUL, DIV or AND by bits 16:15, of the registers in bits 9:5 and 14:10, into x0
abbrev pub dummy_kind : ℕ → ℕ
dummy_kind lfsr = lfsr / 2 ^ 15 % 4

-- its funct7 and funct3 in their places: ADD, MUL, DIV or AND
abbrev pub dummy_funct : ℕ → ℕ
dummy_funct kind =
    if kind == 0 then 0 else
    if kind == 1 then 2 ^ 25 else
    if kind == 2 then 2 ^ 25 + 4 * 2 ^ 12 else
    7 * 2 ^ 12

-- the word of the dummy that the register chooses
unfoldable pub dummy_word : ℕ → ℕ
dummy_word lfsr = dummy_funct (dummy_kind lfsr) + lfsr / 2 ^ 10 % 32 * 2 ^ 20 + lfsr / 2 ^ 5 % 32 * 2 ^ 15 + 0x33
