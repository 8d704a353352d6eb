-- What a cycle leaves of the port and of the memory.
use Rattle.std.proofs.Common.{◌≡◌, ◌≢◌, ℕ, ◌+◌, ◌*◌, ◌/◌, ◌^◌, ◌<◌, ◌≤◌, Bool, true, false, not, length, refl, ap, ◌∙◌}
use Rattle.std.proofs.Common.{arith, length-set, get_or-set_other, get_or-set_same}
use Rattle.std.specs.Prelude.{◌&&◌, ◌==◌, nat_lt, nat_le, slice_index, slice_set, if◌then◌else◌}
use Rattle.std.specs.Int.{bit_at}
use Rattle.std.proofs.lemmas.Nat.{mod_below}
use Rattle.std.proofs.lemmas.Bool.{and_parts, ltb-true, leb-true, ne_eqb}
use Rattle.ibx_bits.specs.Bytes.{word_byte}
use Rattle.ibx_isa.specs.declared.bus.Req.{Req}
use Rattle.ibx_secded.specs.Code.{payload_of, rewrite_of, syndrome_of}
use Rattle.ibx_secded.proofs.Laws.{payload_of-rewrite_of, syndrome_of-rewrite_of}
use Rattle.ibx_bus.specs.Memory.{MemoryState, StoresWord, error_of, index_of, memory_has, is_store, memory_after}
use Rattle.ibx_bus.specs.Memory.{memory_next, merged, stored_word, word_at, answered_word}
use Rattle.ibx_bus.specs.Port.{PortState, grants, is_blocked, is_wait_over, port_moves, port_next}

-- ---- the memory

-- a byte of a word is below 256
byte-lt : (word place : ℕ) → word_byte word place < 256
byte-lt word place = mod_below (word / 256 ^ place) 256 (omega arith)

-- merged bytes make a word of 32 bits
pub merged-lt : (enables old new : ℕ) → merged enables old new < 4294967296
unfolding merged
merged-lt enables old new =
    let a = byte-lt (if bit_at enables 0 == 1 then new else old) 0 in
    let b = byte-lt (if bit_at enables 1 == 1 then new else old) 1 in
    let c = byte-lt (if bit_at enables 2 == 1 then new else old) 2 in
    let d = byte-lt (if bit_at enables 3 == 1 then new else old) 3 in
    omega arith

-- with four enables a store leaves the word of the wires as it came, check bits and all
pub stored-whole : (enables old new : ℕ) → enables ≡ 15 → stored_word enables old new ≡ new
unfolding stored_word
stored-whole enables old new e = rw e refl

-- with fewer enables a store merges the payloads under the old word's syndrome
pub stored-bytes : (enables old new : ℕ) → enables ≢ 15 → stored_word enables old new ≡ rewrite_of 32 7 old
    (merged enables (payload_of 32 old) (payload_of 32 new))
unfolding stored_word
stored-bytes enables old new ne = rw (ne_eqb enables 15 ne) refl

-- an address of RAM is that of one of its words
index-lt : (m : MemoryState) (address : ℕ) → memory_has m address ≡ true → index_of m address < length m.words
index-lt m address e =
    let low : m.base ≤ address = leb-true m.base address (and_parts (nat_le m.base address)
    (nat_lt address (m.base + 4 * length m.words)) e).0 in
    let high : address < m.base + 4 * length m.words = ltb-true address (m.base + 4 * length m.words)
    (and_parts (nat_le m.base address) (nat_lt address (m.base + 4 * length m.words)) e).1 in
    omega arith

-- a cycle without a granted store to RAM leaves memory
pub unchanged : (granted : Bool) (m : MemoryState) (r : Req) → (granted && is_store m r) ≡ false → memory_after granted
    m r ≡ m
unfolding memory_next
unchanged true m r e = rw e refl
unchanged false m r e = refl

-- a store to RAM replaces the word at its address
written : (m : MemoryState) (r : Req) → is_store m r ≡ true → memory_next m r ≡ record m
    { words = slice_set m.words (index_of m r.addr) (stored_word r.be (word_at m r.addr) r.word) }
unfolding memory_next
written m r e = rw e refl

-- a granted store leaves its word whole, or merged with what was wrong before still told
pub stores : (granted : Bool) (m : MemoryState) (r : Req) → (granted && is_store m r) ≡ true → StoresWord m
    (memory_after granted m r) r
stores false m r e = cc
stores true m r e =
    let inside : index_of m r.addr < length m.words =
    index-lt m r.addr (and_parts r.write (memory_has m r.addr) e).1 in
    let here : word_at (record m {
      words = slice_set m.words (index_of m r.addr) (stored_word r.be (word_at m r.addr)
          r.word);
    }) r.addr ≡ stored_word r.be (word_at m r.addr) r.word = rw get_or-set_same refl in
    let value = merged r.be (payload_of 32 (word_at m r.addr)) (payload_of 32 r.word) in
    rw (written m r e) (record {
      whole = λ all. here ∙ stored-whole r.be (word_at m r.addr) r.word all;
      bytes = λ fewer. ap (payload_of 32) (here ∙ stored-bytes r.be (word_at m r.addr) r.word fewer) ∙
          payload_of-rewrite_of 32 7 (word_at m r.addr) value (merged-lt r.be (payload_of 32 (word_at m r.addr))
          (payload_of 32 r.word));
      syndrome = λ fewer. ap (syndrome_of 32 7) (here ∙ stored-bytes r.be (word_at m r.addr) r.word fewer) ∙
          syndrome_of-rewrite_of 32 7 (word_at m r.addr) value (merged-lt r.be (payload_of 32 (word_at m r.addr))
          (payload_of 32 r.word));
    })

-- a granted transaction leaves the words at other places, by whether it stores to RAM
other_by : (m : MemoryState) (r : Req) (b : Bool) → is_store m r ≡ b → (i : ℕ) → i ≢ index_of m r.addr → slice_index
    (memory_next m r).words i ≡ slice_index m.words i
other_by m r true e i ne = rw (written m r e) (get_or-set_other m.words (index_of m r.addr) i
    (stored_word r.be (word_at m r.addr) r.word) 0 ne)
other_by m r false e i ne = ap (λ (n : MemoryState). slice_index n.words i) (unchanged true m r e)

-- a cycle leaves all words but the one at the request's address
pub others : (granted : Bool) (m : MemoryState) (r : Req) (i : ℕ) → i ≢ index_of m r.addr → slice_index
    (memory_after granted m r).words i ≡ slice_index m.words i
others true m r i ne = other_by m r (is_store m r) refl i ne
others false m r i ne = refl

-- a granted transaction leaves the base of RAM, whether it stores or not
base_by : (m : MemoryState) (r : Req) (b : Bool) → is_store m r ≡ b → (memory_next m r).base ≡ m.base
base_by m r true e = rw (written m r e) refl
base_by m r false e = ap (λ (n : MemoryState). n.base) (unchanged true m r e)

-- a cycle leaves RAM where it is
pub same_base : (granted : Bool) (m : MemoryState) (r : Req) → (memory_after granted m r).base ≡ m.base
same_base true m r = base_by m r (is_store m r) refl
same_base false m r = refl

-- a granted transaction leaves the number of words, whether it stores or not
length_by : (m : MemoryState) (r : Req) (b : Bool) → is_store m r ≡ b → length (memory_next m r).words ≡ length m.words
length_by m r true e = rw (written m r e) (length-set m.words (index_of m r.addr) (stored_word r.be (word_at m r.addr)
    r.word))
length_by m r false e = ap (λ (n : MemoryState). length n.words) (unchanged true m r e)

-- a cycle leaves RAM as large as it is
pub same_length : (granted : Bool) (m : MemoryState) (r : Req) → length (memory_after granted m r).words ≡ length
    m.words
same_length true m r = length_by m r (is_store m r) refl
same_length false m r = refl

-- ---- the port

-- a grant takes over whether its answer is an error, by the cases of a cycle
error_by : (blocked request over : Bool) (p : PortState) (err : Bool) (word : ℕ) → (not blocked && (request && over)) ≡
    true → (port_moves blocked request over p err word).err ≡ err
unfolding port_moves
error_by true request over p err word e = cc
error_by false false over p err word e = cc
error_by false true false p err word e = cc
error_by false true true p err word e = refl

-- a grant takes over the word of its answer
word_by : (blocked request over : Bool) (p : PortState) (err : Bool) (word : ℕ) → (not blocked && (request && over)) ≡
    true → (port_moves blocked request over p err word).word ≡ word
unfolding port_moves
word_by true request over p err word e = cc
word_by false false over p err word e = cc
word_by false true false p err word e = cc
word_by false true true p err word e = refl

-- a cycle without a grant keeps the last answer's word
kept_by : (blocked request over : Bool) (p : PortState) (err : Bool) (word : ℕ) → (not blocked && (request && over)) ≡
    false → (port_moves blocked request over p err word).word ≡ p.word
unfolding port_moves
kept_by true request over p err word e = refl
kept_by false false over p err word e = refl
kept_by false true false p err word e = refl
kept_by false true true p err word e = cc

-- after a grant the port has the error of the transaction that it granted
pub new_error : (p : PortState) (m : MemoryState) (r : Req) → grants r.valid p ≡ true → (port_next p m r).err ≡
    error_of m r
new_error p m r e = error_by (is_blocked p) r.valid (is_wait_over p) p (error_of m r) (answered_word m r) e

-- after a grant the port has the word that memory answers in the cycle of the grant
pub new_word : (p : PortState) (m : MemoryState) (r : Req) → grants r.valid p ≡ true → (port_next p m r).word ≡
    answered_word m r
new_word p m r e = word_by (is_blocked p) r.valid (is_wait_over p) p (error_of m r) (answered_word m r) e

-- without a grant the port's word stays, whatever memory holds
pub kept_word : (p : PortState) (m : MemoryState) (r : Req) → grants r.valid p ≡ false
    → (port_next p m r).word ≡ p.word
kept_word p m r e = kept_by (is_blocked p) r.valid (is_wait_over p) p (error_of m r) (answered_word m r) e
