-- What memory held in a cycle, by what it holds after a store and what it held before.
use Rattle.std.proofs.Common.{◌≡◌, ℕ, zero, suc, ◌+◌, ◌*◌, ◌/◌, ◌%◌, ◌^◌, ◌<◌, ◌≤◌, ◌⊎◌, inl, inr, Bool, true, false}
use Rattle.std.proofs.Common.{◌&&◌, List, ◌∷◌}
use Rattle.std.proofs.Common.{refl, sym, ap, ap₂, ◌∙◌, arith, nat_lt, nat_le, if◌then◌else◌}
use Rattle.std.proofs.lemmas.Bool.{lt-ltb, le-ltb, le-leb, lt-leb, cases_lt}
use Rattle.ibx_elf.specs.Ram.{ram_has}
use Rattle.ibx_bits.specs.Bytes.{bytes_number, word_byte}
use Rattle.ibx_isa.specs.Portions.{portion_size}
use Rattle.ibx_arch.specs.Memory.{Memory, with_bytes, read_byte, read_bytes, offset_from}
use Rattle.ibx_memory.specs.Words.{portion_from, portion_to, portion_word}
use Rattle.ibx_time.specs.Memories.{Write, memory_at}
use Rattle.ibx_time.proofs.Settled.{IsBefore, all_at}
use Rattle.ibx_time.proofs.Written.{all_written}

-- ---- a portion changes no byte outside its word

-- no byte of another word is one of the portion's
outside : (addr size b : ℕ) (second : Bool) → addr < 2 ^ 32 → size ≤ 4 → b < 2 ^ 32
    → ((b / 4 < portion_word addr second) ⊎ (portion_word addr second < b / 4))
    → (nat_le (portion_from addr size second) (offset_from addr b) && nat_lt (offset_from addr b)
    (portion_to addr size second)) ≡ false
outside addr size b false low most small (inl h) =
    rw (
      le-leb 0 (offset_from addr b) (omega arith),
      le-ltb (offset_from addr b) (portion_size addr size false)
          (omega (arith, h, low, small, most)),
    ) refl
outside addr size b false low most small (inr h) =
    rw (
      le-leb 0 (offset_from addr b) (omega arith),
      le-ltb (offset_from addr b) (portion_size addr size false)
          (omega (arith, h, low, small, most)),
    ) refl
outside addr size b true low most small h = by (cases_lt (offset_from addr b) (portion_size addr size false))
  where
    far : ((b / 4 < portion_word addr true) ⊎ (portion_word addr true < b / 4))
        → portion_size addr size false ≤ offset_from addr b → size ≤ offset_from addr b
    far (inl k) g = omega (arith, g, k, low, small, most)
    far (inr k) g = omega (arith, g, k, low, small, most)

    by : (offset_from addr b < portion_size addr size false) ⊎ (portion_size addr size false ≤ offset_from addr b)
        → (nat_le (portion_size addr size false) (offset_from addr b) && nat_lt (offset_from addr b) size) ≡ false
    by (inl k) = rw (lt-leb (portion_size addr size false) (offset_from addr b) k) refl
    by (inr k) = rw (
      le-leb (portion_size addr size false) (offset_from addr b) k,
      le-ltb (offset_from addr b) size
          (far h k),
    ) refl

-- a portion leaves the bytes of each other word
same_byte : (m : Memory) (addr size value b : ℕ) (second : Bool) → addr < 2 ^ 32 → size ≤ 4 → b < 2 ^ 32
    → ((b / 4 < portion_word addr second) ⊎ (portion_word addr second < b / 4))
    → read_byte (with_bytes m addr (portion_from addr size second) (portion_to addr size second) value) b ≡ read_byte
    m b
unfolding with_bytes
same_byte m addr size value b second low most small h =
    rw (outside addr size b second low most small h) (by (ram_has m.ram b))
  where
    by : (has : Bool) → (if has then (if has && false then word_byte value (offset_from addr b) else m.byte b) else 0)
        ≡ (if has then m.byte b else 0)
    by true = refl
    by false = refl

-- numbers of the same bytes
bytes_same : (f g : ℕ → ℕ) (n : ℕ) → ((k : ℕ) → k < n → f k ≡ g k) → bytes_number f n ≡ bytes_number g n
unfolding bytes_number
bytes_same f g zero h = refl
bytes_same f g (suc n) h =
    ap₂ (λ a b. a + b * 256 ^ n) (bytes_same f g n (λ k lt. h k (omega arith))) (h n (omega arith))

-- a byte of word i isn't one of the portion's, where i isn't the portion's word
in_word : (addr i k : ℕ) (second : Bool) → i < 2 ^ 30 → k < 4
    → ((i < portion_word addr second) ⊎ (portion_word addr second < i))
    → (((4 * i + k) % 2 ^ 32) / 4 < portion_word addr second) ⊎ (portion_word addr second < ((4 * i + k) % 2 ^ 32) / 4)
in_word addr i k second small lt (inl g) = inl (omega (arith, lt, g, small))
in_word addr i k second small lt (inr g) = inr (omega (arith, lt, g, small))

-- the word number i of a memory
abbrev pub word_of : ℕ → Memory → ℕ
word_of i m = read_bytes m (4 * i) 4

-- so another word is as before
pub other_word : (m : Memory) (addr size value i : ℕ) (second : Bool) → addr < 2 ^ 32 → size ≤ 4 → i < 2 ^ 30
    → ((i < portion_word addr second) ⊎ (portion_word addr second < i))
    → word_of i (with_bytes m addr (portion_from addr size second) (portion_to addr size second) value) ≡ word_of i m
other_word m addr size value i second low most small h =
    let n = with_bytes m addr (portion_from addr size second) (portion_to addr size second) value in
    bytes_same (λ k. read_byte n ((4 * i + k) % 2 ^ 32)) (λ k. read_byte m ((4 * i + k) % 2 ^ 32)) 4
    (λ k lt. same_byte m addr size value ((4 * i + k) % 2 ^ 32) second low most (omega arith)
    (in_word addr i k second small lt h))

-- ---- memory before the write of cycle g, with two writes that come after all others

-- the memory after a write
abbrev pub put : Write → Memory → Memory
put w m = with_bytes m w.addr w.from w.to w.value

-- a write is of this word, or it leaves the word in every memory
abbrev pub Leaves : ℕ → Write → Type 0
Leaves i w = (m : Memory) → word_of i (put w m) ≡ word_of i m

-- the last two writes of a log, by whether they are before g
two_at : (m : Memory) (ws : List Write) (w v : Write) (g : ℕ) (b c : Bool) → nat_lt w.time g ≡ b → nat_lt v.time g ≡ c
    → IsBefore ws g
    → memory_at m (v ∷ w ∷ ws) g
    ≡ (if c then put v (if b then put w (all_written m ws) else all_written m ws)
    else if b then put w (all_written m ws) else all_written m ws)
unfolding memory_at
two_at m ws w v g b c e f z = rw (e, f, all_at m ws g z) refl

-- The word that memory held in cycle g: that of the memory after both writes, or the one before them where the word is
-- that of a write which is at g or later. This is what the code reads.
pub held_two : (m : Memory) (ws : List Write) (w v : Write) (g i : ℕ) → IsBefore ws g → w.time < v.time
    → (first : Bool) → (second : Bool) → (first ≡ false → Leaves i w) → (second ≡ false → Leaves i v)
    → (first ≡ true → second ≡ false)
    → word_of i (memory_at m (v ∷ w ∷ ws) g)
    ≡ (if first && nat_le g w.time then word_of i (all_written m ws) else
    if second && nat_le g v.time then word_of i (all_written m ws) else
    word_of i (put v (put w (all_written m ws))))
held_two m ws w v g i z order first second lw lv apart = go first second lw lv apart (cases_lt w.time g)
    (cases_lt v.time g)
  where
    n : Memory
    n = all_written m ws

    at : (b c : Bool) → nat_lt w.time g ≡ b → nat_lt v.time g ≡ c
        → word_of i (memory_at m (v ∷ w ∷ ws) g) ≡ word_of i (if c then put v
        (if b then put w n else n) else if b then put w n else n)
    at b c e f = ap (word_of i) (two_at m ws w v g b c e f z)

    go : (p q : Bool) → (p ≡ false → Leaves i w) → (q ≡ false → Leaves i v) → (p ≡ true → q ≡ false)
        → (w.time < g) ⊎ (g ≤ w.time) → (v.time < g) ⊎ (g ≤ v.time)
        → word_of i (memory_at m (v ∷ w ∷ ws) g)
        ≡ (if p && nat_le g w.time then word_of i n else
        if q && nat_le g v.time then word_of i n else
        word_of i (put v (put w n)))
    go true true a b c h k = absurd (let no : true ≡ false = c refl in cc)
    go true false a b c (inl h) (inl k) = rw (lt-leb g w.time h) (at true true (lt-ltb w.time g h) (lt-ltb v.time g k))
    go true false a b c (inl h) (inr k) = rw (lt-leb g w.time h)
        (at true false (lt-ltb w.time g h) (le-ltb v.time g k) ∙ sym (b refl (put w n)))
    go true false a b c (inr h) (inl k) = absurd (omega (arith, h, k, order))
    go true false a b c (inr h) (inr k) = rw (le-leb g w.time h)
        (at false false (le-ltb w.time g h) (le-ltb v.time g k))
    go false true a b c (inl h) (inl k) = rw (lt-leb g v.time k) (at true true (lt-ltb w.time g h) (lt-ltb v.time g k))
    go false true a b c (inl h) (inr k) = rw (le-leb g v.time k)
        (at true false (lt-ltb w.time g h) (le-ltb v.time g k) ∙ a refl n)
    go false true a b c (inr h) (inl k) = absurd (omega (arith, h, k, order))
    go false true a b c (inr h) (inr k) = rw (le-leb g v.time k)
        (at false false (le-ltb w.time g h) (le-ltb v.time g k))
    go false false a b c (inl h) (inl k) = at true true (lt-ltb w.time g h) (lt-ltb v.time g k)
    go false false a b c (inl h) (inr k) = at true false (lt-ltb w.time g h) (le-ltb v.time g k)
        ∙ sym (b refl (put w n))
    go false false a b c (inr h) (inl k) = absurd (omega (arith, h, k, order))
    go false false a b c (inr h) (inr k) = at false false (le-ltb w.time g h) (le-ltb v.time g k)
        ∙ sym (a refl n) ∙ sym (b refl (put w n))
