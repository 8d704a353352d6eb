-- The two parcels that the admission sees are those of the stream's words.
use Rattle.std.proofs.Common.{◌≡◌, ℕ, zero, suc, ◌+◌, ◌*◌, ◌/◌, ◌%◌, ◌^◌, ◌<◌, Bool, true, false, not, ◌==◌, nat_le}
use Rattle.std.proofs.Common.{nat_lt, List, length, refl, sym, ap, ap₂, subst, ◌∙◌, arith, add-zero}
use Rattle.std.proofs.lemmas.Bool.{le-leb, lt-leb, ltb-false, ltb-true}
use Rattle.ibx_time_invariant.proofs.FetchSide.{FetchShows}
use Rattle.ibx_time_invariant.proofs.Fetches.{Holds, Shows, is_unmapped, pc_in, word_entry, word_in}
use Rattle.ibx_time_invariant.proofs.Quiets.{image_low, memory_low, word_low}
use Rattle.ibx_time_invariant.proofs.Ties.{IsPlaced}
use Rattle.ibx_time_invariant.proofs.Words.{WordsAt}
use Rattle.ibx_arch.specs.Memory.{image_memory, read_bytes}
use Rattle.ibx_bus.specs.Port.{PortState}
use Rattle.ibx_prefetch.specs.declared.buffer.Parcel.{Parcel}
use Rattle.ibx_prefetch.specs.Buffer.{head_of, held_parcel, held_word}
use Rattle.ibx_prefetch.specs.declared.buffer.Prefetch.{Prefetch}
use Rattle.ibx_icache.specs.declared.port.WordPort.{WordPort}
use Rattle.ibx_time.specs.Memories.{Write, memory_at}
use Rattle.ibx_time.specs.Settings.{Setup, settings_of}
use Rattle.ibx_time.specs.Streams.{Stream, answer, past, word_addr}
use Rattle.ibx_time_fetch.proofs.ShowsHalves.{err_is, half_entry, same_mapped}
use Rattle.ibx_time.proofs.Halves.{half_at}
use Rattle.ibx_time_fetch.proofs.ShowsWords.{not_there, there}

-- ---- a word is in the buffer just where it has answered

-- the buffer holds word i of it just where that word has answered
test_by : (s : Setup) (log : List Write) (x : Stream) (half q c i : ℕ) (enable : Bool) (f : Prefetch) (w : WordPort)
    (p : PortState) (tags lines : List ℕ) → WordsAt s log x half q (c + 1) enable f w p tags lines → i < 3 → (b : Bool)
    → nat_lt i f.buf_count ≡ b → b ≡ nat_le (answer (settings_of s) x (length x.enters + i)) c
test_by s log x half q c i enable f w p tags lines v small true e =
    sym (le-leb (answer (settings_of s) x (length x.enters + i)) c
    (omega (arith, there s log x half q (c + 1) i enable f w p tags lines v v.fetch.count (ltb-true i f.buf_count e))))
test_by s log x half q c i enable f w p tags lines v small false e =
    sym (lt-leb (answer (settings_of s) x (length x.enters + i)) c
    (omega (
      arith,
      not_there s log x half q (c + 1) i enable f w p tags lines v v.fetch.count
          (ltb-false i f.buf_count e) small,
    )))

-- so the buffer's count tells which of the next three words have answered by this cycle
pub test_is : (s : Setup) (log : List Write) (x : Stream) (half q c i : ℕ) (enable : Bool) (f : Prefetch)
    (w : WordPort) (p : PortState) (tags lines : List ℕ) → WordsAt s log x half q (c + 1) enable f w p tags lines
    → i < 3 → nat_lt i f.buf_count ≡ nat_le (answer (settings_of s) x (length x.enters + i)) c
test_is s log x half q c i enable f w p tags lines v small =
    test_by s log x half q c i enable f w p tags lines v small (nat_lt i f.buf_count) refl

-- ---- half r of word i of the buffer

-- such a half, with whether it is ready and its error
abbrev parcel_by : Prefetch → ℕ → ℕ → Parcel
parcel_by f i r =
    record { ready = nat_lt i f.buf_count; err = not (held_word f i / 2 ^ 32 == 0); half = half_at (held_word f i) r }

-- a word that is held is the stream's
entry_at : (s : Setup) (log : List Write) (x : Stream) (f : Prefetch) (i : ℕ) → Holds s log x (length x.enters) f
    → i < 2 → i < f.buf_count → held_word f i ≡ word_entry s log x (length x.enters + i)
entry_at s log x f zero h small some = h.word0 some ∙ ap (word_entry s log x) (sym (add-zero (length x.enters)))
entry_at s log x f (suc zero) h small some = h.word1 some
entry_at s log x f (suc (suc i)) h small some = absurd (omega arith)

-- so its half is the stream's parcel
shows_at : (s : Setup) (log : List Write) (x : Stream) (half q c i r addr : ℕ) (enable : Bool) (f : Prefetch)
    (w : WordPort) (p : PortState) (tags lines : List ℕ) → IsPlaced s
    → WordsAt s log x half q (c + 1) enable f w p tags lines → i < 2 → r < 2
    → addr ≡ word_addr x (length x.enters + i) + 2 * r → Shows s log x (length x.enters + i) addr c (parcel_by f i r)
shows_at s log x half q c i r addr enable f w p tags lines ok v small low at =
    let j : ℕ = length x.enters + i in
    let g : ℕ = (past (settings_of s) x (suc j)).grant in
    record {
      ready = test_is s log x half q c i enable f w p tags lines v (omega arith);
      err = λ e.
          ap (λ n. not (n / 2 ^ 32 == 0)) (entry_at s log x f i v.fetch.holds small (ltb-true i f.buf_count e))
          ∙ err_is (is_unmapped s (word_addr x j)) (word_in s log g (word_addr x j))
          (word_low s ok log g (word_addr x j))
          ∙ same_mapped s (word_addr x j) addr ok (omega arith);
      half = λ e.
          ap (λ n. half_at n r) (entry_at s log x f i v.fetch.holds small (ltb-true i f.buf_count e))
          ∙ half_entry (memory_at (image_memory s.image) log g) (is_unmapped s (word_addr x j)) (word_addr x j) r
          (λ b. memory_low (image_memory s.image) log g b (image_low s ok)) low
          ∙ ap (λ n. read_bytes (memory_at (image_memory s.image) log g) n 2) (sym at);
    }

-- ---- the first and the second parcel

-- the half and the address of the first parcel, and of the second
head_half : (pc n half : ℕ) → pc ≡ (4 * n + 2 * half) % 2 ^ 32 → half < 2 → pc / 2 % 2 ≡ half
head_half pc n half e h = omega arith

-- the first parcel is in the word behind those taken, in the half where the program counter is
first_addr : (b m half : ℕ) → half < 2 → (4 * (b + m) + 2 * half) % 2 ^ 32 ≡ 4 * ((b + (m + 0)) % 2 ^ 30) + 2 * half
first_addr b m half h = omega arith

-- the second parcel is in the same word behind a lower half, and in the next behind an upper one
second_addr : (b m half : ℕ) → half < 2
    → ((4 * (b + m) + 2 * half) % 2 ^ 32 + 2) % 2 ^ 32 ≡ 4 * ((b + (m + half)) % 2 ^ 30) + 2 * ((half + 1) % 2)
second_addr b m zero h = omega arith
second_addr b m (suc zero) h = omega arith
second_addr b m (suc (suc half)) h = absurd (omega arith)

-- so the head shows the two parcels at the program counter
pub fetch_shows : (s : Setup) → FetchShows s
unfolding head_of
fetch_shows s log x half q c enable f w p tags lines ok v =
    let m : ℕ = length x.enters in
    let at : f.head_pc / 2 % 2 ≡ half = head_half f.head_pc (x.base + m) half v.fetch.head v.fetch.half_low in
    record {
      first = subst (λ j. Shows s log x j (pc_in x half) c (held_parcel f (f.head_pc / 2 % 2))) (add-zero m)
          (subst (λ u. Shows s log x (m + 0) (pc_in x half) c u)
          (sym (ap₂ (parcel_by f) (omega (arith, at, v.fetch.half_low)) (omega (arith, at, v.fetch.half_low))))
          (shows_at s log x half q c 0 half (pc_in x half) enable f w p tags lines ok v (omega arith) v.fetch.half_low
          (first_addr x.base m half v.fetch.half_low)));
      second = subst (λ u. Shows s log x (m + half) ((pc_in x half + 2) % 2 ^ 32) c u)
          (sym (ap₂ (parcel_by f) (omega (arith, at, v.fetch.half_low)) (ap (λ n. (n + 1) % 2) at)))
          (shows_at s log x half q c half ((half + 1) % 2) ((pc_in x half + 2) % 2 ^ 32) enable f w p tags lines ok v
          v.fetch.half_low (omega arith) (second_addr x.base m half v.fetch.half_low));
    }
