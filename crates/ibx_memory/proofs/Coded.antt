-- What a memory of codewords answers.
use Rattle.std.proofs.Common.{◌≡◌, ℕ, ◌+◌, ◌*◌, ◌/◌, ◌%◌, ◌^◌, ◌<◌, ◌≤◌, Bool, true, false, not, ◌||◌, cond, leb, ltb}
use Rattle.std.proofs.Common.{length, refl, sym, ap, ap₂, ◌∙◌, subst, arith}
use Rattle.std.specs.Prelude.{◌&&◌}
use Rattle.std.proofs.lemmas.Bool.{leb-true, leb-false, ltb-true, ltb-false, le-leb, lt-leb, lt-ltb, le-ltb, and_parts}
use Rattle.ibx_elf.specs.declared.ram.Ram.{Ram}
use Rattle.ibx_elf.specs.Ram.{IsRamRange, ram_has}
use Rattle.ibx_isa.specs.declared.bus.Req.{Req}
use Rattle.ibx_secded.specs.Code.{encode_of}
use Rattle.ibx_bus.specs.Memory.{MemoryState, error_of, index_of, memory_has, word_at, answered_word}
use Rattle.ibx_bits.specs.Bytes.{bytes_number}
use Rattle.ibx_bits.proofs.Bytes.{same_bytes}
use Rattle.ibx_arch.specs.Memory.{Memory, is_mapped, read_byte, read_bytes}
use Rattle.ibx_bits.specs.Platform.{host_page_has}
use Rattle.ibx_memory.specs.Coded.{HoldsMemory}

-- ---- the bytes of one word

-- a word lies in RAM where one of its bytes does, since RAM begins and ends at words
pub ram_word : (ram : Ram) (a b : ℕ) → IsRamRange ram → a / 4 ≡ b / 4 → ram_has ram a ≡ ram_has ram b
ram_word ram a b ok e =
    ap₂ (λ x y. x && y) (from (leb ram.base b) refl) (below (ltb b (ram.base + ram.size)) refl)
  where
    from : (t : Bool) → leb ram.base b ≡ t → leb ram.base a ≡ leb ram.base b
    from true k = le-leb ram.base a (omega (arith, ok.base_in_steps, leb-true ram.base b k, e)) ∙ sym k
    from false k = lt-leb ram.base a (omega (arith, ok.base_in_steps, leb-false ram.base b k, e)) ∙ sym k

    below : (t : Bool) → ltb b (ram.base + ram.size) ≡ t → ltb a (ram.base + ram.size) ≡ ltb b (ram.base + ram.size)
    below true k = lt-ltb a (ram.base + ram.size)
        (omega (arith, ok.base_in_steps, ok.size_in_steps, ltb-true b (ram.base + ram.size) k, e)) ∙ sym k
    below false k = le-ltb a (ram.base + ram.size)
        (omega (arith, ok.base_in_steps, ok.size_in_steps, ltb-false b (ram.base + ram.size) k, e)) ∙ sym k

-- and so does the page of the host
host_word : (a b : ℕ) → a / 4 ≡ b / 4 → host_page_has a ≡ host_page_has b
host_word a b e =
    ap₂ (λ x y. x && y) (from (leb 0x20000 b) refl) (below (ltb b 0x21000) refl)
  where
    from : (t : Bool) → leb 0x20000 b ≡ t → leb 0x20000 a ≡ leb 0x20000 b
    from true k = le-leb 0x20000 a (omega (arith, leb-true 0x20000 b k, e)) ∙ sym k
    from false k = lt-leb 0x20000 a (omega (arith, leb-false 0x20000 b k, e)) ∙ sym k

    below : (t : Bool) → ltb b 0x21000 ≡ t → ltb a 0x21000 ≡ ltb b 0x21000
    below true k = lt-ltb a 0x21000 (omega (arith, ltb-true b 0x21000 k, e)) ∙ sym k
    below false k = le-ltb a 0x21000 (omega (arith, ltb-false b 0x21000 k, e)) ∙ sym k

-- a word is answered as each of its bytes is
pub mapped_word : (ram : Ram) (a b : ℕ) → IsRamRange ram → a / 4 ≡ b / 4 → is_mapped ram a ≡ is_mapped ram b
mapped_word ram a b ok e = ap₂ (λ x y. x || y) (ram_word ram a b ok e) (host_word a b e)

-- a word outside RAM reads as 0
pub reads_none : (memory : Memory) (a : ℕ) → IsRamRange memory.ram → a % 4 ≡ 0 → a < 2 ^ 32
    → ram_has memory.ram a ≡ false → read_bytes memory a 4 ≡ 0
unfolding bytes_number
reads_none memory a ok aligned low lacks =
    same_bytes (λ k. read_byte memory ((a + k) % 2 ^ 32)) (λ _. 0) 4
    (λ k lt. ap (λ b. cond b (memory.byte ((a + k) % 2 ^ 32)) 0)
    (ram_word memory.ram ((a + k) % 2 ^ 32) a ok (omega arith) ∙ lacks))

-- ---- the answer

module _ (ram : Ram) (m : MemoryState) (memory : Memory) (v : HoldsMemory ram m memory) where
  -- RAM has an address by its words just where its range does
  pub is_ram_has : (a : ℕ) → memory_has m a ≡ ram_has ram a
  is_ram_has a = rw (v.base, v.size) refl

  -- it is an error where no memory answers at the address
  pub error_is : (r : Req) → error_of m r ≡ not (is_mapped ram r.addr)
  error_is r = ap (λ b. not (b || host_page_has r.addr)) (is_ram_has r.addr)

  -- the number of a word in RAM
  pub place_in : (a : ℕ) → ram_has ram a ≡ true → index_of m a < length m.words
  place_in a has =
      let parts = and_parts (leb ram.base a) (ltb a (ram.base + ram.size)) has in
      let from : ram.base ≤ a = leb-true ram.base a parts.0 in
      let below : a < ram.base + ram.size = ltb-true a (ram.base + ram.size) parts.1 in
      omega (arith, v.base, v.size)

  -- where that word begins
  pub place_start : (a : ℕ) → IsRamRange ram → ram_has ram a ≡ true → a % 4 ≡ 0 → ram.base + 4 * index_of m a ≡ a
  place_start a ok has aligned =
      let parts = and_parts (leb ram.base a) (ltb a (ram.base + ram.size)) has in
      let from : ram.base ≤ a = leb-true ram.base a parts.0 in
      omega (arith, v.base, ok.base_in_steps)

  -- a read's word by whether RAM has it
  word_by : (a : ℕ) → IsRamRange ram → memory.ram ≡ ram → a % 4 ≡ 0 → a < 2 ^ 32 → (b : Bool) → memory_has m a ≡ b
      → cond (b && true) (word_at m a) (encode_of 32 7 0) ≡ encode_of 32 7 (read_bytes memory a 4)
  word_by a ok same aligned low true e =
      let has : ram_has ram a ≡ true = sym (is_ram_has a) ∙ e in
      v.words (index_of m a) (place_in a has)
      ∙ ap (λ x. encode_of 32 7 (read_bytes memory x 4)) (place_start a ok has aligned)
  word_by a ok same aligned low false e =
      let has : ram_has memory.ram a ≡ false = ap (λ r. ram_has r a) same ∙ sym (is_ram_has a) ∙ e in
      ap (encode_of 32 7) (sym (reads_none memory a (subst IsRamRange (sym same) ok) aligned low has))

  -- the word of a read's answer is the codeword of the bytes
  pub word_is : (r : Req) → IsRamRange ram → memory.ram ≡ ram → r.write ≡ false → r.addr % 4 ≡ 0 → r.addr < 2 ^ 32
      → answered_word m r ≡ encode_of 32 7 (read_bytes memory r.addr 4)
  word_is r ok same reads aligned low =
      ap (λ w. cond (memory_has m r.addr && not w) (word_at m r.addr) (encode_of 32 7 0)) reads
      ∙ word_by r.addr ok same aligned low (memory_has m r.addr) refl
