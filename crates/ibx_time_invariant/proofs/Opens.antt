-- The invariant holds at reset.
use Rattle.std.proofs.Common.{◌≡◌, ℕ, zero, suc, ◌+◌, ◌*◌, ◌/◌, ◌%◌, ◌^◌, ◌<◌, ◌≤◌, true, false, List, [], ◌∷◌, map}
use Rattle.std.proofs.Common.{length, replicate, if◌then◌else◌, slice_index, Some, None, All, sym, refl, ap, ◌∙◌}
use Rattle.std.proofs.Common.{subst, arith}
use Rattle.std.proofs.lemmas.Bool.{lt-ltb, le-leb}
use Rattle.ibx_csr.specs.Fields.{reset_of as csrs_reset, Complemented, values}
use Rattle.ibx_prefetch.specs.Buffer.{fetch_reset}
use Rattle.ibx_icache.specs.WordPort.{reset_of as port_reset}
use Rattle.ibx_icache.specs.Doing.{doing_of}
use Rattle.ibx_muldiv.specs.Unit.{idle_of as md_idle}
use Rattle.ibx_lsu.specs.Turns.{idle_of as ls_idle}
use Rattle.std.proofs.lemmas.Nat.{mod_below}
use Rattle.ibx_elf.specs.Image.{image_word, image_byte, Placed}
use Rattle.std.proofs.Math.Nat.{zero-mod, mod-eq_of_lt}
use Rattle.std.proofs.lemmas.List.{get_or-replicate, length-replicate}
use Rattle.ibx_bus.proofs.Ports.{place_of, Idle}
use Rattle.ibx_elf.specs.declared.ram.Ram.{Ram}
use Rattle.ibx_time_invariant.proofs.Caches.{IsCode, CacheAt}
use Rattle.ibx_arch.specs.State.{at_cycle}
use Rattle.ibx_time_invariant.proofs.Links.{idle}
use Rattle.ibx_time_invariant.proofs.Fetches.{rest}
use Rattle.ibx_time_invariant.proofs.Words.{Words}
use Rattle.ibx_time_invariant.proofs.Stages.{Empty}
use Rattle.ibx_time_invariant.proofs.Ties.{IsPlaced, IsState, Tied}
use Rattle.ibx_time_invariant.proofs.Invariant.{Inv}
use Rattle.ibx_bus.specs.Port.{new_port}
use Rattle.ibx_time.specs.Settings.{Setup}
use Rattle.ibx_time.specs.Requests.{Fill, enabled_at, last_fill, nothing_past}
use Rattle.ibx_time.specs.Streams.{gate, last_of, past}
use Rattle.ibx_time.specs.Times.{first_times}
use Rattle.ibx_time.specs.Memories.{Write, memory_at}
use Rattle.ibx_time.specs.History.{admission, opening}
use Rattle.ibx_time.proofs.Times.{IsPast}
use Rattle.ibx_id.specs.Turns.{empty_stage}
use Rattle.ibx_time_machine.specs.System.{first_system, image_words}
use Rattle.ibx_arch.specs.Memory.{image_memory, read_byte, read_bytes}
use Rattle.ibx_arch.specs.Step.{reset_state}
use Rattle.ibx_bits.specs.Bytes.{bytes_number}
use Rattle.ibx_csr.specs.Values.{counters_after, csr_reset}
use Rattle.ibx_secded.specs.Code.{checks, column, columns, encode_of, numbers_of_weight, weight}
use Rattle.ibx_elf.specs.Ram.{ram_has}
use Rattle.ibx_plan.specs.declared.site.Wait.{Wait}
use Rattle.ibx_memory.specs.Coded.{HoldsMemory}
use Rattle.ibx_time.proofs.Stories.{IsSane, story_good}
use Rattle.ibx_time.specs.Chains.{story_after}

-- ---- the words of the image

-- as many words as there are, each a codeword of four bytes of the image
words_count : (image : Placed) (a n : ℕ) → length (image_words image a n) ≡ n
unfolding image_words
words_count image a zero = refl
words_count image a (suc n) = omega (arith, words_count image (a + 4) n)

-- word i of them is the codeword of the image's word at its address
words_are : (image : Placed) (a n i : ℕ) → i < n
    → slice_index (image_words image a n) i ≡ encode_of 32 7 (image_word image (a + 4 * i))
unfolding image_words
words_are image a zero i h = absurd (omega arith)
words_are image a (suc n) zero h = ap (λ x. encode_of 32 7 (image_word image x)) (omega arith)
words_are image a (suc n) (suc i) h =
    words_are image (a + 4) n i (omega arith) ∙ ap (λ x. encode_of 32 7 (image_word image x)) (omega arith)

-- a byte of RAM at reset is the image's byte there
byte_is : (image : Placed) (a : ℕ) → ram_has image.ram a ≡ true → a < 2 ^ 32
    → read_byte (image_memory image) (a % 2 ^ 32) ≡ image_byte image a
unfolding image_memory
byte_is image a has low = subst (λ x.
    (if ram_has image.ram x then (if ram_has image.ram x then image_byte image x else 0) else 0) ≡ image_byte image a)
    (sym (mod-eq_of_lt low)) (rw has refl)

-- an address from RAM's base on and below its end is in RAM
in_ram : (ram : Ram) (a : ℕ) → ram.base ≤ a → a < ram.base + ram.size → ram_has ram a ≡ true
in_ram ram a low high = rw (le-leb ram.base a low, lt-ltb a (ram.base + ram.size) high) refl

-- four bytes make a word, the lowest first
bytes_are : (f : ℕ → ℕ) (a b c d : ℕ) → f 0 ≡ a → f 1 ≡ b → f 2 ≡ c → f 3 ≡ d
    → bytes_number f 4 ≡ a + 256 * b + 256 ^ 2 * c + 256 ^ 3 * d
unfolding bytes_number
bytes_are f a b c d p q r e = omega (arith, p, q, r, e)

-- a word of the image is what memory reads at its address
word_is : (image : Placed) (a : ℕ) → image.ram.base ≤ a → a + 3 < image.ram.base + image.ram.size
    → image.ram.base + image.ram.size ≤ 2 ^ 32 → image_word image a ≡ read_bytes (image_memory image) a 4
word_is image a low high fits =
    let f : ℕ → ℕ = λ k. read_byte (image_memory image) ((a + k) % 2 ^ 32) in
    let at : (k : ℕ) → k < 4 → f k ≡ image_byte image (a + k) =
    λ k h. byte_is image (a + k) (in_ram image.ram (a + k) (omega arith) (omega arith)) (omega arith) in
    sym (bytes_are f (image_byte image a) (image_byte image (a + 1)) (image_byte image (a + 2))
    (image_byte image (a + 3)) (at 0 (omega arith) ∙ ap (image_byte image) (omega arith)) (at 1 (omega arith))
    (at 2 (omega arith)) (at 3 (omega arith)))

-- so memory at reset holds the image
holds_image : (s : Setup) → IsPlaced s → HoldsMemory s.image.ram (first_system s).mem (image_memory s.image)
unfolding first_system
holds_image s ok =
    let ram : Ram = s.image.ram in
    let count : length (image_words s.image ram.base (ram.size / 4)) ≡ ram.size / 4 =
    words_count s.image ram.base (ram.size / 4) in
    record {
      base = refl;
      size = omega (arith, count, ok.setup.ram.size_in_steps);
      words = λ i h.
          words_are s.image ram.base (ram.size / 4) i (omega (arith, count, h))
          ∙ ap (encode_of 32 7) (word_is s.image (ram.base + 4 * i) (omega arith)
          (omega (arith, count, h, ok.setup.ram.size_in_steps)) ok.setup.ram.ends_below);
    }

-- ---- the fields

-- no wait was used, and the ports are idle
place_zero : (ws : List Wait) → 0 ≡ place_of ws 0
unfolding place_of
place_zero [] = refl
place_zero (w ∷ ws) = sym (zero-mod (length (w ∷ ws)))

-- a new port is idle, with its first transaction to come
idle_port : (ws : List Wait) → Idle ws 0 (new_port ws)
idle_port ws = record { list = refl; busy = refl; waited = refl; place = place_zero ws }

-- a list of one value has what the value has
all_of : (P : ℕ → Type 0) (n a : ℕ) → P a → All P (replicate n a)
all_of P n a p k d h = subst P (sym (get_or-replicate n k a d (omega (arith, h, length-replicate n a)))) p

-- the words of an empty cache are codewords, and no line is there
tag_code : IsCode 22 6 0xa800000
unfolding encode_of checks column columns numbers_of_weight weight
tag_code = record { payload = 0; low = omega arith; is_code = refl }

-- the data word that an empty cache holds is a codeword
word_code : IsCode 32 7 0x2a00000000
unfolding encode_of checks column columns numbers_of_weight weight
word_code = record { payload = 0; low = omega arith; is_code = refl }

-- without a fill no place has a last one
no_fill : (n : ℕ) (x : Fill) {P : Type 0} → last_fill [] n ≡ Some x → P
unfolding last_fill
no_fill n x e = cc

-- so the cache at reset is one that no line was stored in, before the walk clears a set
empty_cache : (s : Setup) (log : List Write)
    → CacheAt s log [] [] 0 0 0 false (replicate 512 0xa800000) (replicate 1024 0x2a00000000)
unfolding last_fill
empty_cache s log =
    record {
      tag_count = length-replicate {A = ℕ} 512 0xa800000;
      line_count = length-replicate {A = ℕ} 1024 0x2a00000000;
      tag_codes = all_of (λ w. IsCode 22 6 w) 512 0xa800000 tag_code;
      line_codes = all_of (λ w. IsCode 32 7 w) 1024 0x2a00000000 word_code;
      tag = λ n h low. absurd (omega arith);
      word0 = λ n x h e. no_fill n x e;
      word1 = λ n x h e. no_fill n x e;
      quiet = λ h n. refl;
      old = tt;
      mapped = tt;
      alt_is = refl;
    }

-- the first address by its word and half
half_is : (a : ℕ) → a % 2 ≡ 0 → a < 2 ^ 32 → (4 * (a / 4 + 0) + 2 * (a / 2 % 2)) % 2 ^ 32 ≡ a
half_is a even low =
    let same : 4 * (a / 4 + 0) + 2 * (a / 2 % 2) ≡ a = omega (arith, even) in
    ap (λ x. x % 2 ^ 32) same ∙ mod-eq_of_lt low

-- nothing held back a word yet
fresh_past : (base : ℕ) → IsPast (record {
  start = 0;
  base = base;
  before = nothing_past;
  last = 0;
  enters = [];
  fences = [];
  switches = [];
}) 0
unfolding gate
fresh_past base zero h = omega arith
fresh_past base (suc zero) h = omega arith
fresh_past base (suc (suc zero)) h = omega arith
fresh_past base (suc (suc (suc i))) h = absurd (omega arith)

-- the entry is an address of 32 bits
entry_low : (s : Setup) → IsPlaced s → s.image.entry < 2 ^ 32
entry_low s ok = omega (arith, ok.setup.entry.before_end, ok.setup.ram.ends_below)

-- the stage is empty, the words are those of reset, and so are the registers
first_stage : (s : Setup) (limit : ℕ)
    → Empty s limit (opening s) 0 empty_stage md_idle ls_idle (new_port s.plan.dwaits)
unfolding admission first_times
first_stage s limit =
    record { id_is = refl; md_is = refl; ls_is = refl; idle = idle_port s.plan.dwaits; search = refl }

-- the fetch side at reset has no word requested and an empty cache that is off
first_words : (s : Setup) → IsPlaced s
    → Words s (opening s) 0 0 false (fetch_reset s.image.entry) port_reset (new_port s.plan.iwaits)
    (replicate 512 0xa800000) (replicate 1024 0x2a00000000)
unfolding first_times fetch_reset port_reset doing_of past last_of enabled_at
first_words s ok =
    record {
      fetch = record {
        head = sym (half_is s.image.entry ok.setup.even (entry_low s ok));
        half_low = mod_below (s.image.entry / 2) 2 (omega arith);
        addr = refl;
        fresh = refl;
        count = rest refl refl refl;
        holds = record {
          word0 = λ h. absurd (omega arith);
          word1 = λ h. absurd (omega arith);
          word2 = λ h. absurd (omega arith);
          none0 = λ _. refl;
          none1 = λ _. refl;
          none2 = λ _. refl;
        };
      };
      link = idle refl refl (idle_port s.plan.iwaits) (empty_cache s []) (λ h. absurd (omega arith));
      requested = record { within = omega arith; before = λ j h. absurd (omega arith); after = λ _. omega arith };
      gates = fresh_past (s.image.entry / 4);
      begin = λ _. refl;
      walk = record { log = tt; walk_is = refl };
      enabled = record { enabled = refl; recent = tt };
      sound = tt;
      sent = tt;
    }

-- each CSR that is kept twice has its complement at reset
first_complements : (entry : ℕ) → Complemented (csrs_reset entry)
unfolding csrs_reset
first_complements entry = record {
  trap = (refl, (refl, (refl, (refl, tt))));
  cfg = (refl, (refl, (refl, (refl, tt))));
  low = (refl, (refl, (refl, (refl, (refl, (refl, (refl, (refl, tt))))))));
  high = (refl, (refl, (refl, (refl, (refl, (refl, (refl, (refl, tt))))))));
}

-- the CSRs at reset have the values of the architecture's reset
first_values : (s : Setup) → values (csrs_reset s.image.entry) ≡ (at_cycle (reset_state s.image) 0).csrs
unfolding values csrs_reset reset_state csr_reset counters_after
first_values s = refl

-- the register file at reset has the codewords of the architecture's registers
first_regs : (s : Setup) → replicate 32 0x2a00000000 ≡ map (encode_of 32 7) (reset_state s.image).regs
unfolding reset_state encode_of checks column columns numbers_of_weight weight
first_regs s = refl

-- so registers, program counter and CSRs at reset are those of the first state
first_tied : (s : Setup) → IsPlaced s
    → Tied s (opening s) 0 s.image.entry (csrs_reset s.image.entry) (replicate 32 0x2a00000000)
unfolding first_times reset_state csr_reset
first_tied s ok =
    record {
      values_are = first_values s;
      complemented = first_complements s.image.entry;
      next_pc_is = refl;
      regs_are = first_regs s;
      ctl = refl;
      half_low = mod_below (s.image.entry / 2) 2 (omega arith);
      pc = half_is s.image.entry ok.setup.even (entry_low s ok);
    }

-- a placed setup is one whose states are valid
pub sane : (s : Setup) → IsPlaced s → IsSane s
sane s ok = record { entry_even = ok.setup.even; entry_low = entry_low s ok; bytes = ok.bytes; lines = ok.lines }

-- the first state is valid
first_state : (s : Setup) → IsPlaced s → IsState s 0 (opening s)
unfolding reset_state memory_at story_after
first_state s ok = record {
  good = story_good s 0 0 (sane s ok);
  stands = omega arith;
  done = omega arith;
  settled = record { before = tt; granted = tt; memory = refl };
}

-- so the invariant holds at reset
pub opens : (s : Setup) → IsPlaced s → (limit : ℕ) → Inv s limit (opening s) None 0 (first_system s)
unfolding first_system csrs_reset memory_at reset_state first_times
opens s ok limit =
    record {
      stage = first_stage s limit;
      words = first_words s ok;
      begun = tt;
      memory = holds_image s ok;
      tied = first_tied s ok;
      dummies = refl;
      state = first_state s ok;
    }
