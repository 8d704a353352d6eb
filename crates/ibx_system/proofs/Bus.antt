-- The bus's memory and codes in the words of the flips.
use Rattle.std.proofs.Common.{◌≡◌, ℕ, ◌/◌, ◌^◌, ◌<◌, Bool, true, false, not, inl, inr, refl, ap, sym, ◌∙◌, arith}
use Rattle.std.specs.Prelude.{◌&&◌, ◌==◌, if◌then◌else◌, bit_xor}
use Rattle.std.specs.Int.{bit_at}
use Rattle.std.proofs.lemmas.Bool.{cases_Bool, eqb-true, eq-eqb, ne_eqb, not-false, not_from_true, not_from_false}
use Rattle.std.proofs.lemmas.Nat.{mod_below}
use Rattle.ibx_bits.specs.Bytes.{word_byte}
use Rattle.ibx_isa.specs.declared.bus.Req.{Req}
use Rattle.ibx_secded.specs.Code.{IsCode, encode_of, payload_of, rewrite_of, syndrome_of}
use Rattle.ibx_secded.proofs.Laws.{one_flip, syndrome_of-encode, syndrome_of-rewrite_of}
use Rattle.ibx_bus.specs.Memory.{MemoryState, index_of, is_store, memory_after, memory_next, merged, stored_word}
use Rattle.ibx_bus.specs.Port.{PortState, answer_wires, answers}
use Rattle.ibx_icache.specs.WordPort.{is_bad_tag, is_bad_word}
use Rattle.ibx_system.specs.System.{store_if}

-- ---- the memory

-- a transaction leaves the memory but for its words, and a store puts one of them
next_words : (m : MemoryState) (r : Req)
    → memory_next m r ≡ record m { words = store_if (is_store m r) m.words (index_of m r.addr) r.be r.word }
unfolding memory_next stored_word
next_words m r = elim (cases_Bool (is_store m r)) [ inl e ↦ rw e refl | inr e ↦ rw e refl ]

-- so does a cycle, where the transaction is granted
pub by_words : (granted : Bool) (m : MemoryState) (r : Req)
    → memory_after granted m r
    ≡ record m { words = store_if (granted && is_store m r) m.words (index_of m r.addr) r.be r.word }
by_words true m r = next_words m r
by_words false m r = refl

-- a fetch leaves the memory as it is
pub fetch_keeps : (granted : Bool) (m : MemoryState) (r : Req) → r.write ≡ false → memory_after granted m r ≡ m
unfolding memory_next
fetch_keeps true m r e = rw e refl
fetch_keeps false m r e = refl

-- the wires of an answer
pub answer_is : (q : PortState)
    → answer_wires q ≡ record { valid = answers q; err = answers q && q.err; word = if answers q then q.word else 0 }
unfolding answer_wires
answer_is q = elim (cases_Bool (answers q)) [ inl e ↦ rw e refl | inr e ↦ rw e refl ]

-- ---- the codes

-- what a store of fewer than four bytes leaves
abbrev pub merged_word : ℕ → ℕ → ℕ → ℕ
merged_word enables old new = rewrite_of 32 7 old (merged enables (payload_of 32 old) (payload_of 32 new))

-- the code of 39 bits, and that of 28
word_code : IsCode 32 7
word_code = record {
  least = omega arith;
  most = omega arith;
  some = omega arith;
  columns = omega arith;
  word =
      omega arith;
}

-- the code of a tag word
tag_code : IsCode 22 6
tag_code = record {
  least = omega arith;
  most = omega arith;
  some = omega arith;
  columns = omega arith;
  word =
      omega arith;
}

-- a flipped bit of a codeword is told, in either code
pub flip_told : (word bit : ℕ) → bit < 39 → is_bad_word word ≡ false → is_bad_word (bit_xor word (2 ^ bit)) ≡ true
flip_told word bit lt e =
    let zero : syndrome_of 32 7 word ≡ 0 =
    eqb-true (syndrome_of 32 7 word) 0 (not-false (syndrome_of 32 7 word == 0) e) in
    not_from_false (syndrome_of 32 7 (bit_xor word (2 ^ bit)) == 0)
    (ne_eqb (syndrome_of 32 7 (bit_xor word (2 ^ bit))) 0 (λ h. one_flip 32 7 word_code word bit lt (h ∙ sym zero)))

-- the same of a tag word
pub tag_flip_told : (word bit : ℕ) → bit < 28 → is_bad_tag word ≡ false → is_bad_tag (bit_xor word (2 ^ bit)) ≡ true
tag_flip_told word bit lt e =
    let zero : syndrome_of 22 6 word ≡ 0 =
    eqb-true (syndrome_of 22 6 word) 0 (not-false (syndrome_of 22 6 word == 0) e) in
    not_from_false (syndrome_of 22 6 (bit_xor word (2 ^ bit)) == 0)
    (ne_eqb (syndrome_of 22 6 (bit_xor word (2 ^ bit))) 0 (λ h. one_flip 22 6 tag_code word bit lt (h ∙ sym zero)))

-- the merged bytes are 32 bits
byte-lt : (word place : ℕ) → word_byte word place < 256
byte-lt word place = mod_below (word / 256 ^ place) 256 (omega arith)

-- so they fit 32 bits
merged-lt : (enables old new : ℕ) → merged enables old new < 2 ^ 32
unfolding merged
merged-lt enables old new =
    let a = byte-lt (if bit_at enables 0 == 1 then new else old) 0 in
    let b = byte-lt (if bit_at enables 1 == 1 then new else old) 1 in
    let c = byte-lt (if bit_at enables 2 == 1 then new else old) 2 in
    let d = byte-lt (if bit_at enables 3 == 1 then new else old) 3 in
    omega arith

-- a merged store keeps what was wrong
pub merge_keeps : (enables old new : ℕ) → is_bad_word (merged_word enables old new) ≡ is_bad_word old
merge_keeps enables old new =
    ap (λ x. not (x == 0))
    (syndrome_of-rewrite_of 32 7 old (merged enables (payload_of 32 old) (payload_of 32 new))
    (merged-lt enables (payload_of 32 old) (payload_of 32 new)))

-- the codeword of 0 is one
pub zero_good : is_bad_word (encode_of 32 7 0) ≡ false
zero_good = not_from_true (syndrome_of 32 7 (encode_of 32 7 0) == 0)
    (eq-eqb (syndrome_of 32 7 (encode_of 32 7 0)) 0 (syndrome_of-encode 32 7 0 (omega arith)))
