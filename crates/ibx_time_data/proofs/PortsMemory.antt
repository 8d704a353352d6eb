-- The codewords of RAM over a cycle in which a portion of an access is granted.
use Rattle.std.proofs.Common.{◌≡◌, ◌≢◌, ℕ, ◌+◌, ◌*◌, ◌/◌, ◌%◌, ◌^◌, ◌<◌, ◌≤◌, Bool, true, false, not, cond, length}
use Rattle.std.proofs.Common.{get_or, set, get_or-set_same, get_or-set_other, refl, sym, ap, ap₂, ◌∙◌, subst, arith}
use Rattle.std.proofs.Common.{inl, inr, slice_index}
use Rattle.std.specs.Prelude.{◌&&◌}
use Rattle.std.proofs.lemmas.Bool.{cases_eq, le-leb, lt-ltb}
use Rattle.std.proofs.lemmas.List.{length-set}
use Rattle.ibx_elf.specs.Ram.{IsRamRange, ram_has}
use Rattle.ibx_secded.specs.Code.{encode_of}
use Rattle.ibx_bus.specs.Memory.{MemoryState, error_of, index_of, memory_has, memory_next, stored_word, word_at}
use Rattle.ibx_bus.specs.Memory.{answered_word}
use Rattle.ibx_isa.specs.declared.event.Access.{Access}
use Rattle.ibx_bits.specs.Bytes.{bits_number, bytes_number}
use Rattle.ibx_isa.specs.Portions.{is_held, lane_byte, lanes_of, portion_addr}
use Rattle.ibx_isa.specs.Wires.{request_of}
use Rattle.ibx_bits.proofs.Bytes.{same_bytes}
use Rattle.ibx_arch.specs.Memory.{Memory, read_byte, read_bytes, with_bytes}
use Rattle.ibx_time_invariant.proofs.Fetches.{is_unmapped}
use Rattle.ibx_time.specs.Settings.{Setup}
use Rattle.ibx_time_data.proofs.PortsBytes.{byte_inside, byte_outside, lane_low, stored_is}
use Rattle.ibx_memory.specs.Words.{portion_from, portion_to, portion_word}
use Rattle.ibx_memory.specs.Coded.{HoldsMemory}
use Rattle.ibx_memory.proofs.Coded.{error_is as answer_error, is_ram_has, mapped_word, place_in, place_start}
use Rattle.ibx_memory.proofs.Coded.{word_is as answer_word}

-- ---- addresses

-- the address of the portion's word
abbrev pub word_start : ℕ → Bool → ℕ
word_start addr second = portion_addr addr second / 4 * 4

-- it is the one by the portion's number
start_is : (addr : ℕ) (second : Bool) → addr < 2 ^ 32 → word_start addr second ≡ portion_word addr second * 4
start_is addr false small = refl
start_is addr true small = omega arith

-- a portion's address is a word, and the bytes of one word have one start
portion_low : (addr : ℕ) (second : Bool) → addr < 2 ^ 32 → portion_addr addr second < 2 ^ 32
portion_low addr false small = small
portion_low addr true small = omega arith

-- the first address of a word is in the same word
start_word : (a : ℕ) → a / 4 * 4 / 4 ≡ a / 4
start_word a = omega arith

-- ---- what is answered

-- an answer is an error just where no memory answers the portion
pub error_is : (s : Setup) (m : MemoryState) (memory : Memory) (w : Access) (second : Bool) → IsRamRange s.image.ram
    → HoldsMemory s.image.ram m memory
    → error_of m (request_of (encode_of 32 7) w second) ≡ is_unmapped s (portion_addr w.addr second)
unfolding request_of
error_is s m memory w second ok v =
    answer_error s.image.ram m memory v (request_of (encode_of 32 7) w second)
    ∙ ap not (mapped_word s.image.ram (word_start w.addr second) (portion_addr w.addr second) ok
    (start_word (portion_addr w.addr second)))

-- the word of a portion's answer, where RAM holds the state's memory before a load
pub word_is : (s : Setup) (m : MemoryState) (memory : Memory) (w : Access) (second : Bool) → IsRamRange s.image.ram
    → memory.ram ≡ s.image.ram → w.addr < 2 ^ 32 → (w.store ≡ false → HoldsMemory s.image.ram m memory)
    → answered_word m (request_of (encode_of 32 7) w second)
    ≡ encode_of 32 7 (cond w.store 0 (read_bytes memory (word_start w.addr second) 4))
unfolding request_of
word_is s m memory w second ok same small v = by w.store refl
  where
    stored_none : (b : Bool) (x y : ℕ) → cond (b && false) x y ≡ y
    stored_none true x y = refl
    stored_none false x y = refl

    by : (b : Bool) → w.store ≡ b → answered_word m (request_of (encode_of 32 7) w second)
        ≡ encode_of 32 7 (cond b 0 (read_bytes memory (word_start w.addr second) 4))
    by true e =
        ap (λ b. cond (memory_has m (word_start w.addr second) && not b) (word_at m (word_start w.addr second))
        (encode_of 32 7 0)) e
        ∙ stored_none (memory_has m (word_start w.addr second)) (word_at m (word_start w.addr second))
        (encode_of 32 7 0)
    by false e = answer_word s.image.ram m memory (v e) (request_of (encode_of 32 7) w second) ok same e (omega arith)
        (omega (arith, portion_low w.addr second small))

-- ---- what a granted store leaves

-- the memory after a portion of an access
abbrev pub memory_with : Memory → Access → Bool → Memory
memory_with memory w second =
    with_bytes memory w.addr (portion_from w.addr w.size second) (portion_to w.addr w.size second) w.value

-- what a granted portion leaves of RAM, by whether it is a store and its word is in RAM
abbrev store_left : MemoryState → Access → Bool → Bool → Bool → MemoryState
store_left m w second st r =
    cond (st && r)
    (record m {
      words =
          set m.words (index_of m (word_start w.addr second))
          (stored_word (bits_number (is_held w.addr w.size second) 4)
          (slice_index m.words (index_of m (word_start w.addr second)))
          (cond st (encode_of 32 7 (bytes_number (lane_byte w.addr w.size w.value second) 4)) 0));
    })
    m

-- RAM after the grant is this
next_left : (m : MemoryState) (w : Access) (second : Bool)
    → memory_next m (request_of (encode_of 32 7) w second)
    ≡ store_left m w second w.store (memory_has m (word_start w.addr second))
unfolding memory_next request_of lanes_of
next_left m w second = refl

-- a load leaves all
pub load_leaves : (m : MemoryState) (w : Access) (second : Bool) → w.store ≡ false
    → memory_next m (request_of (encode_of 32 7) w second) ≡ m
load_leaves m w second e =
    next_left m w second ∙ ap (λ st. store_left m w second st (memory_has m (word_start w.addr second))) e

module _ (s : Setup) (m : MemoryState) (memory : Memory) (w : Access) (second : Bool) (ok : IsRamRange s.image.ram)
    (small : w.addr < 2 ^ 32) (most : w.size ≤ 4) (same : memory.ram ≡ s.image.ram)
    (v : HoldsMemory s.image.ram m memory) where
  -- a byte of a word of RAM
  byte_addr : (i k : ℕ) → i < length m.words → k < 4
      → (s.image.ram.base + 4 * i + k) % 2 ^ 32 ≡ s.image.ram.base + 4 * i + k
  byte_addr i k lt four = omega (arith, v.size, ok.ends_below)

  -- a word that isn't the portion's stays
  other_word : (i : ℕ) → i < length m.words → s.image.ram.base / 4 + i ≢ portion_word w.addr second
      → read_bytes (memory_with memory w second) (s.image.ram.base + 4 * i) 4
      ≡ read_bytes memory (s.image.ram.base + 4 * i) 4
  other_word i lt ne =
      same_bytes (λ k. read_byte (memory_with memory w second) ((s.image.ram.base + 4 * i + k) % 2 ^ 32))
      (λ k. read_byte memory ((s.image.ram.base + 4 * i + k) % 2 ^ 32)) 4
      (λ k four. byte_outside memory w.addr w.size w.value second small most ((s.image.ram.base + 4 * i + k) % 2 ^ 32)
      (omega arith)
      (λ e. ne (omega (arith, byte_addr i k lt four, ok.base_in_steps, e))))

  -- the portion's word
  portion_bytes : (i : ℕ) → i < length m.words → s.image.ram.base / 4 + i ≡ portion_word w.addr second
      → read_bytes (memory_with memory w second) (s.image.ram.base + 4 * i) 4
      ≡ bytes_number (λ k. cond (is_held w.addr w.size second k) (lane_byte w.addr w.size w.value second k)
      (read_byte memory ((s.image.ram.base + 4 * i + k) % 2 ^ 32))) 4
  portion_bytes i lt here =
      same_bytes (λ k. read_byte (memory_with memory w second) ((s.image.ram.base + 4 * i + k) % 2 ^ 32))
      (λ k. cond (is_held w.addr w.size second k) (lane_byte w.addr w.size w.value second k)
      (read_byte memory ((s.image.ram.base + 4 * i + k) % 2 ^ 32))) 4
      (λ k four.
      let at : (s.image.ram.base + 4 * i + k) % 2 ^ 32 ≡ s.image.ram.base + 4 * i + k = byte_addr i k lt four in
      let lane : (s.image.ram.base + 4 * i + k) % 2 ^ 32 % 4 ≡ k = omega (arith, at, ok.base_in_steps) in
      let word : (s.image.ram.base + 4 * i + k) % 2 ^ 32 / 4 ≡ portion_word w.addr second =
      omega (arith, at, ok.base_in_steps, here) in
      let inside : ram_has memory.ram ((s.image.ram.base + 4 * i + k) % 2 ^ 32) ≡ true =
      ap (λ r. ram_has r ((s.image.ram.base + 4 * i + k) % 2 ^ 32)) same
      ∙ ap₂ (λ x y. x && y) (le-leb s.image.ram.base ((s.image.ram.base + 4 * i + k) % 2 ^ 32) (omega (arith, at)))
      (lt-ltb ((s.image.ram.base + 4 * i + k) % 2 ^ 32) (s.image.ram.base + s.image.ram.size)
      (omega (arith, at, v.size))) in
      byte_inside memory w.addr w.size w.value second small most ((s.image.ram.base + 4 * i + k) % 2 ^ 32) word inside
      ∙ ap (λ j. cond (is_held w.addr w.size second j) (lane_byte w.addr w.size w.value second j)
      (read_byte memory ((s.image.ram.base + 4 * i + k) % 2 ^ 32))) lane)

  -- a store whose word isn't in RAM
  store_outside : ram_has s.image.ram (word_start w.addr second) ≡ false
      → HoldsMemory s.image.ram m (memory_with memory w second)
  store_outside lacks = record {
    base = v.base;
    size = v.size;
    words = λ i lt. v.words i lt ∙ ap (encode_of 32 7) (sym (other_word i lt (λ e.
        let start : word_start w.addr second ≡ s.image.ram.base + 4 * i =
        omega (arith, start_is w.addr second small, ok.base_in_steps, e) in
        let has : ram_has s.image.ram (word_start w.addr second) ≡ true =
        ap₂ (λ x y. x && y) (le-leb s.image.ram.base (word_start w.addr second) (omega (arith, start)))
        (lt-ltb (word_start w.addr second) (s.image.ram.base + s.image.ram.size) (omega (arith, start, v.size))) in
        let no_ : true ≡ false = sym has ∙ lacks in
        cc)));
  }

  -- a store to RAM, whose word is number i
  put_word : (bytes : (a : ℕ) → memory.byte a < 256) (i : ℕ) → i < length m.words
      → s.image.ram.base / 4 + i ≡ portion_word w.addr second
      → stored_word (bits_number (is_held w.addr w.size second) 4) (slice_index m.words i)
      (encode_of 32 7 (bytes_number (lane_byte w.addr w.size w.value second) 4))
      ≡ encode_of 32 7 (read_bytes (memory_with memory w second) (s.image.ram.base + 4 * i) 4)
  put_word bytes i lt here =
      ap (λ x. stored_word (bits_number (is_held w.addr w.size second) 4) x
      (encode_of 32 7 (bytes_number (lane_byte w.addr w.size w.value second) 4))) (v.words i lt)
      ∙ stored_is (is_held w.addr w.size second) (lane_byte w.addr w.size w.value second)
      (λ k. read_byte memory ((s.image.ram.base + 4 * i + k) % 2 ^ 32))
      (lane_low w.addr w.size w.value second)
      (λ k. byte_low (ram_has memory.ram ((s.image.ram.base + 4 * i + k) % 2 ^ 32))
      (memory.byte ((s.image.ram.base + 4 * i + k) % 2 ^ 32)) (bytes ((s.image.ram.base + 4 * i + k) % 2 ^ 32)))
      ∙ sym (ap (encode_of 32 7) (portion_bytes i lt here))
    where
      byte_low : (b : Bool) (n : ℕ) → n < 256 → cond b n 0 < 256
      byte_low true n h = h
      byte_low false n h = omega arith

  -- a store's portion changes its word in RAM, and none else
  store_inside : (bytes : (a : ℕ) → memory.byte a < 256) (i : ℕ) → i < length m.words
      → s.image.ram.base / 4 + i ≡ portion_word w.addr second
      → HoldsMemory s.image.ram (record m {
        words = set m.words i (stored_word (bits_number (is_held w.addr w.size second) 4) (slice_index m.words i)
            (encode_of 32 7 (bytes_number (lane_byte w.addr w.size w.value second) 4)));
      })
      (memory_with memory w second)
  store_inside bytes i lt here =
      let word : ℕ = stored_word (bits_number (is_held w.addr w.size second) 4) (slice_index m.words i)
      (encode_of 32 7 (bytes_number (lane_byte w.addr w.size w.value second) 4)) in
      record {
        base = v.base;
        size = ap (λ n. 4 * n) (length-set m.words i word) ∙ v.size;
        words = λ j below.
            let inside : j < length m.words = subst (λ n. j < n) (length-set m.words i word) below in
            elim (cases_eq j i) [
              | inl e ↦
                  subst (λ x. get_or (set m.words i word) x 0
                  ≡ encode_of 32 7 (read_bytes (memory_with memory w second) (s.image.ram.base + 4 * x) 4)) (sym e)
                  (get_or-set_same m.words i word 0 lt ∙ put_word bytes i lt here)
              | inr ne ↦
                  get_or-set_other m.words i j word 0 ne ∙ v.words j inside
                  ∙ ap (encode_of 32 7) (sym (other_word j inside (λ e. ne (omega (arith, e, here)))))
            ];
      }

  -- so RAM holds the memory with the portion, where the word is in RAM and where it isn't
  by_store : (st r : Bool) (bytes : (a : ℕ) → memory.byte a < 256) → st ≡ true
      → memory_has m (word_start w.addr second) ≡ r
      → HoldsMemory s.image.ram (store_left m w second st r) (memory_with memory w second)
  by_store false r bytes writes e = let no_ : false ≡ true = writes in cc
  by_store true false bytes writes e =
      store_outside (sym (is_ram_has s.image.ram m memory v (word_start w.addr second)) ∙ e)
  by_store true true bytes writes e =
      let has : ram_has s.image.ram (word_start w.addr second) ≡ true =
      sym (is_ram_has s.image.ram m memory v (word_start w.addr second)) ∙ e in
      let start : s.image.ram.base + 4 * index_of m (word_start w.addr second) ≡ word_start w.addr second =
      place_start s.image.ram m memory v (word_start w.addr second) ok has (omega arith) in
      store_inside bytes (index_of m (word_start w.addr second))
      (place_in s.image.ram m memory v (word_start w.addr second) has)
      (omega (arith, start, start_is w.addr second small, ok.base_in_steps))

  -- the memory after a granted portion of a store
  pub store_holds : (bytes : (a : ℕ) → memory.byte a < 256) → w.store ≡ true
      → HoldsMemory s.image.ram (memory_next m (request_of (encode_of 32 7) w second)) (memory_with memory w second)
  store_holds bytes writes =
      subst (λ x. HoldsMemory s.image.ram x (memory_with memory w second)) (sym (next_left m w second))
      (by_store w.store (memory_has m (word_start w.addr second)) bytes writes refl)
