-- What a write leaves in the registers that have a rule beside their bits.
use Rattle.std.specs.Prelude.{ℕ, ◌+◌, ◌-◌, ◌*◌, ◌/◌, ◌%◌, ◌^◌, Bool, not, ◌&&◌, ◌||◌, List, [], ◌∷◌, bit_and, bit_or}
use Rattle.std.specs.Prelude.{◌==◌, if◌then◌else◌, slice_index}
use Rattle.std.specs.List.{list_any}
use Rattle.ibx_bits.specs.Bytes.{word_byte}
use Rattle.std.specs.Int.{w32, from_le_bytes}
use Rattle.ibx_isa.specs.ControlBits.{mpp_bits, mml_bit, mmwp_bit, rlb_bit}
use Rattle.ibx_csr.specs.declared.name.Csr.TheVariants.{Mstatus, Mtvec, Mepc}
use Rattle.ibx_csr.specs.Bits.{legal_of}

-- the registers that a trap writes, within their bits
abbrev pub kept_mstatus : ℕ → ℕ
kept_mstatus v = legal_of Mstatus v

-- a base that is a multiple of 256, always in vectored mode
abbrev pub kept_mtvec : ℕ → ℕ
kept_mtvec v = legal_of Mtvec v

-- bit 0 is always 0, as instructions begin at even addresses
abbrev pub kept_mepc : ℕ → ℕ
kept_mepc v = legal_of Mepc v

-- a write of MPP other than 3 (M) stores 0 (U)
abbrev pub stored_mstatus : ℕ → ℕ
stored_mstatus v = kept_mstatus (if bit_and v mpp_bits == mpp_bits then v else bit_and v (2 ^ 32 - 1 - mpp_bits))

-- a 64-bit count with its low or its high half written
abbrev pub with_low : ℕ → ℕ → ℕ
with_low count v = count / 2 ^ 32 * 2 ^ 32 + v

-- a write of mcycleh or minstreth: bits 63:32 are replaced, and the low half stays
abbrev pub with_high : ℕ → ℕ → ℕ
with_high count v = v * 2 ^ 32 + count % 2 ^ 32

-- L, and L with A = TOR
abbrev pub is_locked : ℕ → Bool
is_locked b = not (bit_and b 0x80 == 0)

-- a locked entry that is the top of a range, which begins at the address of the entry before it
abbrev pub is_locked_top : ℕ → Bool
is_locked_top b = bit_and b 0x98 == 0x88

-- an entry is held where it is locked and RLB is 0
abbrev pub is_held : ℕ → ℕ → Bool
is_held sec b = bit_and sec rlb_bit == 0 && is_locked b

-- a held entry that is the top of a range
abbrev pub is_held_top : ℕ → ℕ → Bool
is_held_top sec b = bit_and sec rlb_bit == 0 && is_locked_top b

-- While MML is 1 and RLB is 0, a locked byte that would add a right to execute isn't stored: its X W R is one of 100,
-- 010, 110 and 101.
abbrev pub is_refused : ℕ → ℕ → Bool
is_refused sec b =
    not (bit_and sec mml_bit == 0) && (bit_and sec rlb_bit == 0
    && (is_locked b && list_any (λ rights. bit_and b 7 == rights) (4 ∷ 2 ∷ 6 ∷ 5 ∷ [])))

-- A configuration byte has R 0, W 1, X 2, A 4:3 and L 7 (Privileged ISA 1.12, 3.7.1). W without R, which
-- the manual reserves, is stored as neither while MML is 0 (our own choice).
abbrev pub legal_byte : ℕ → ℕ → ℕ
legal_byte sec b = if bit_and sec mml_bit == 0 && bit_and b 3 == 2 then bit_and b 0x9d else bit_and b 0x9f

-- the byte of a held entry stays, and so does one in whose place a refused one is written
abbrev pub kept_byte : ℕ → ℕ → ℕ → ℕ
kept_byte sec old new = if is_held sec old || is_refused sec new then old else legal_byte sec new

-- the word of configuration after a write, byte by byte, with mseccfg as it was
abbrev pub stored_cfg : ℕ → ℕ → ℕ → ℕ
stored_cfg sec old v =
    from_le_bytes w32 (kept_byte sec (word_byte old 0) (word_byte v 0)
    ∷ kept_byte sec (word_byte old 1) (word_byte v 1) ∷ kept_byte sec (word_byte old 2) (word_byte v 2)
    ∷ kept_byte sec (word_byte old 3) (word_byte v 3) ∷ [])

-- the bytes of words, in the order of the entries
abbrev pub bytes_of : List ℕ → List ℕ
bytes_of [] = []
bytes_of (w ∷ ws) = word_byte w 0 ∷ word_byte w 1 ∷ word_byte w 2 ∷ word_byte w 3 ∷ bytes_of ws

-- An address can't be written where its entry is held, or the next one is a held range that begins at it
-- (3.7.1, "Locking and Privilege Mode").
abbrev pub is_addr_held : ℕ → List ℕ → ℕ → Bool
is_addr_held sec bytes k = is_held sec (slice_index bytes k) || is_held_top sec (slice_index bytes (k + 1))

-- mseccfg after a write: MML and MMWP stay once they are 1, and RLB takes the written bit, but stays 0 where it is 0
-- and some entry is locked, also one that is off
abbrev pub stored_sec : ℕ → List ℕ → ℕ → ℕ
stored_sec old bytes w =
    bit_or (bit_and (bit_or old w) (mml_bit + mmwp_bit))
    (if bit_and old rlb_bit == 0 && list_any is_locked bytes then 0 else bit_and w rlb_bit)
