-- The parcels of the next instruction, by the words that are held, and what of them doesn't show.
use Rattle.std.proofs.Common.{◌≡◌, ℕ, zero, suc, ◌+◌, ◌*◌, ◌/◌, ◌%◌, ◌^◌, ◌<◌, Bool, true, false, not, ◌&&◌, ◌||◌}
use Rattle.std.proofs.Common.{◌==◌, List, length, refl, sym, ap, ap₂, ◌∙◌, arith, if◌then◌else◌}
use Rattle.ibx_bits.specs.Bytes.{bytes_number}
use Rattle.ibx_elf.specs.Ram.{ram_has}
use Rattle.ibx_isa.specs.Lengths.{is_long}
use Rattle.ibx_arch.specs.declared.fetched.Fetched.TheVariants.{Unsound, Instruction}
use Rattle.ibx_arch.specs.Fetch.{fetch, is_sound}
use Rattle.ibx_arch.specs.Memory.{Memory, read_byte, read_bytes}
use Rattle.ibx_arch.specs.State.{State, at_cycle}
use Rattle.ibx_arch.specs.Step.{Parcels, after_fetch, step_with, instruction}
use Rattle.ibx_csr.specs.Values.{counters_after}
use Rattle.ibx_time.specs.Settings.{Settings}
use Rattle.ibx_time.specs.Memories.{Write, memory_at}
use Rattle.ibx_time.specs.Streams.{Stream, past, word_addr}
use Rattle.ibx_replay.specs.Fetches.{Fetch, half_of, first_parcel, second_parcel, is_answered, are_there}
use Rattle.ibx_replay.proofs.Fetched.{FetchAt}
use Rattle.ibx_replay.proofs.Stores.{reads_of}

-- ---- the halves of a word

-- a word and a halfword as the sums of their bytes
four_is : (f : ℕ → ℕ) → bytes_number f 4 ≡ f 0 + f 1 * 256 + f 2 * 65536 + f 3 * 16777216
unfolding bytes_number
four_is f = omega arith

-- the number of two bytes
two_is : (f : ℕ → ℕ) → bytes_number f 2 ≡ f 0 + f 1 * 256
unfolding bytes_number
two_is f = omega arith

-- the low half of a word is its first two bytes
low_half : (b0 b1 b2 b3 : ℕ) → b0 < 256 → b1 < 256
    → (b0 + b1 * 256 + b2 * 65536 + b3 * 16777216) / 1 % 65536 ≡ b0 + b1 * 256
low_half b0 b1 b2 b3 h0 h1 = omega arith

-- and its high half the other two
high_half : (b0 b1 b2 b3 : ℕ) → b0 < 256 → b1 < 256 → b2 < 256 → b3 < 256
    → (b0 + b1 * 256 + b2 * 65536 + b3 * 16777216) / 65536 % 65536 ≡ b2 + b3 * 256
high_half b0 b1 b2 b3 h0 h1 h2 h3 = omega arith

-- a byte that is read is a byte
byte_low : (memory : Memory) (a : ℕ) → ((b : ℕ) → memory.byte b < 256) → read_byte memory a < 256
byte_low memory a h =
    elim (ram_has memory.ram a) as (λ b. (if b then memory.byte a else 0) < 256) [ true ↦ h a | false ↦ omega arith ]

-- a half of a word of memory is the halfword there
pub halves : (memory : Memory) (a h : ℕ) → ((b : ℕ) → memory.byte b < 256) → h < 2
    → half_of (read_bytes memory a 4) h ≡ read_bytes memory (a + 2 * h) 2
halves memory a zero low small =
    let b : ℕ → ℕ = λ k. read_byte memory ((a + k) % 2 ^ 32) in
    ap (λ v. v / 1 % 65536) (four_is b)
    ∙ low_half (b 0) (b 1) (b 2) (b 3) (byte_low memory ((a + 0) % 2 ^ 32) low)
    (byte_low memory ((a + 1) % 2 ^ 32) low)
    ∙ ap₂ (λ v w. read_byte memory (v % 2 ^ 32) + read_byte memory (w % 2 ^ 32) * 256) (omega arith) (omega arith)
    ∙ sym (two_is (λ k. read_byte memory ((a + 0 + k) % 2 ^ 32)))
halves memory a (suc zero) low small =
    let b : ℕ → ℕ = λ k. read_byte memory ((a + k) % 2 ^ 32) in
    ap (λ v. v / 65536 % 65536) (four_is b)
    ∙ high_half (b 0) (b 1) (b 2) (b 3) (byte_low memory ((a + 0) % 2 ^ 32) low)
    (byte_low memory ((a + 1) % 2 ^ 32) low) (byte_low memory ((a + 2) % 2 ^ 32) low)
    (byte_low memory ((a + 3) % 2 ^ 32) low)
    ∙ ap₂ (λ v w. read_byte memory (v % 2 ^ 32) + read_byte memory (w % 2 ^ 32) * 256) (omega arith) (omega arith)
    ∙ sym (two_is (λ k. read_byte memory ((a + 2 + k) % 2 ^ 32)))
halves memory a (suc (suc h)) low small = absurd (omega arith)

-- ---- the parcels

-- half h of word i of those that are held, as memory held it in the grant of that word
half_held : (k : Settings) (m : Memory) (ws : List Write) (x : Stream) (q c i j h addr : ℕ) (f : Fetch)
    → FetchAt k (reads_of m ws) x q c f → ((g b : ℕ) → (memory_at m ws g).byte b < 256) → i < f.count → h < 2
    → j ≡ length x.enters + i → addr ≡ word_addr x j + 2 * h
    → half_of (f.words i).value h ≡ read_bytes (memory_at m ws (past k x (suc j)).grant) addr 2
half_held k m ws x q c i j h addr f z low held small e at =
    let w = z.words i held in
    let same : length x.enters + i ≡ j = sym e in
    let grant : (f.words i).grant ≡ (past k x (suc j)).grant = w.grant ∙ ap (λ n. (past k x (suc n)).grant) same in
    ap (λ v. half_of v h) (w.value ∙ ap (λ n. reads_of m ws (f.words i).grant (word_addr x n)) same
    ∙ ap (λ g. reads_of m ws g (word_addr x j)) grant)
    ∙ halves (memory_at m ws (past k x (suc j)).grant) (word_addr x j) h (low (past k x (suc j)).grant) small
    ∙ ap (λ a. read_bytes (memory_at m ws (past k x (suc j)).grant) a 2) (sym at)

-- So the code's parcels are those that were brought: the first where its word is there,
pub first_is : (k : Settings) (m : Memory) (ws : List Write) (x : Stream) (q c half pc : ℕ) (f : Fetch)
    → FetchAt k (reads_of m ws) x q c f → ((g b : ℕ) → (memory_at m ws g).byte b < 256) → 0 < f.count → half < 2
    → (4 * (x.base + length x.enters) + 2 * half) % 2 ^ 32 ≡ pc
    → first_parcel f half ≡ read_bytes (memory_at m ws (past k x (suc (length x.enters))).grant) pc 2
first_is k m ws x q c half pc f z low held small at =
    half_held k m ws x q c 0 (length x.enters) half pc f z low held small (omega arith) (omega (arith, at, small))

-- and the second where the word that has it is there.
pub second_is : (k : Settings) (m : Memory) (ws : List Write) (x : Stream) (q c half pc : ℕ) (f : Fetch)
    → FetchAt k (reads_of m ws) x q c f → ((g b : ℕ) → (memory_at m ws g).byte b < 256) → half < f.count → half < 2
    → (4 * (x.base + length x.enters) + 2 * half) % 2 ^ 32 ≡ pc
    → second_parcel f half
    ≡ read_bytes (memory_at m ws (past k x (suc (length x.enters + half))).grant) ((pc + 2) % 2 ^ 32) 2
second_is k m ws x q c zero pc f z low held small at =
    half_held k m ws x q c 0 (length x.enters + 0) 1 ((pc + 2) % 2 ^ 32) f z low held (omega arith) (omega arith)
    (omega (arith, at))
second_is k m ws x q c (suc zero) pc f z low held small at =
    half_held k m ws x q c 1 (length x.enters + 1) 0 ((pc + 2) % 2 ^ 32) f z low held (omega arith) (omega arith)
    (omega (arith, at))
second_is k m ws x q c (suc (suc half)) pc f z low held small at = absurd (omega arith)

-- ---- a second parcel that isn't needed doesn't show

-- the code needs the second parcel
abbrev pub needs_second : State → ℕ → Bool
needs_second s first = is_sound s.csrs s.memory.ram s.pc && is_long first

-- a second parcel that isn't needed changes nothing of what is fetched
fetch_same : (s : State) (first u v : ℕ) → needs_second s first ≡ false → fetch s first u ≡ fetch s first v
unfolding fetch
fetch_same s first u v e = by (is_sound s.csrs s.memory.ram s.pc) (is_long first)
    (is_sound s.csrs s.memory.ram ((s.pc + 2) % 2 ^ 32)) e
  where
    by : (a b c : Bool) → (a && b) ≡ false
        → (if not a then Unsound s.pc else if not b then Instruction first 2
        else if not c then Unsound ((s.pc + 2) % 2 ^ 32) else Instruction (first + 2 ^ 16 * u) 4)
        ≡ (if not a then Unsound s.pc else if not b then Instruction first 2
        else if not c then Unsound ((s.pc + 2) % 2 ^ 32) else Instruction (first + 2 ^ 16 * v) 4)
    by false b c e = refl
    by true false c e = refl
    by true true c e = let no_ : true ≡ false = e in cc

-- so the step is the same with any other in its place
pub step_same : (lines : ℕ → ℕ) (s : State) (first u v d : ℕ) → needs_second s first ≡ false
    → step_with lines s (Parcels first u) d ≡ step_with lines s (Parcels first v) d
unfolding step_with instruction counters_after
step_same lines s first u v d e = ap (after_fetch (at_cycle s d) d (lines d)) (fetch_same (at_cycle s d) first u v e)

-- ---- whether the instruction crosses a word

-- its parcels, by the tests of the first: `more` where the second isn't looked at otherwise
abbrev pub parcels_if : Bool → ℕ
parcels_if true = 2
parcels_if false = 1

-- an instruction crosses a word just where it begins in the upper half and needs a second parcel
pub crosses_is : (half parcels : ℕ) (needs : Bool) → parcels ≡ parcels_if needs
    → (half == 1 && parcels == 2) ≡ (half == 1 && needs)
crosses_is half parcels needs e = ap (λ n. half == 1 && n == 2) e ∙ ap (λ b. half == 1 && b) (by needs)
  where
    by : (b : Bool) → (parcels_if b == 2) ≡ b
    by true = refl
    by false = refl

-- where the first word isn't there, it makes no difference
pub crosses_same : (f : Fetch) (t : ℕ) (a b : Bool) → (is_answered f 0 t ≡ true → a ≡ b)
    → are_there f a t ≡ are_there f b t
crosses_same f t a b h = by (is_answered f 0 t) h
  where
    by : (u : Bool) → (u ≡ true → a ≡ b) → (u && (not a || is_answered f 1 t)) ≡ (u && (not b || is_answered f 1 t))
    by true h = ap (λ n. not n || is_answered f 1 t) (h refl)
    by false h = refl
