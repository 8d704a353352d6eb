-- No answer is wrong: what the ports hold are codewords.
use Rattle.std.proofs.Common.{◌≡◌, ℕ, zero, suc, ◌+◌, ◌*◌, ◌/◌, ◌%◌, ◌^◌, ◌<◌, ◌≤◌, Bool, true, false, not, ◌&&◌, List}
use Rattle.std.proofs.Common.{[], ◌∷◌, if◌then◌else◌, nat_lt, nat_le, ◌==◌, Some, None, sym, refl, ap, ◌∙◌, arith}
use Rattle.std.proofs.Common.{mul-le-mul_right, pow-suc}
use Rattle.ibx_elf.specs.Image.{image_byte}
use Rattle.ibx_secded.proofs.Laws.{syndrome_of-encode}
use Rattle.std.proofs.lemmas.Nat.{mod_below}
use Rattle.ibx_time_invariant.proofs.Links.{idle, Link, Work, bare_asks, bare_waits, first_asks, first_waits, last, line_base}
use Rattle.ibx_time_invariant.proofs.Links.{looks, pending, second_asks, second_waits}
use Rattle.ibx_time_invariant.proofs.Fetches.{word_in}
use Rattle.ibx_time_invariant.proofs.Stages.{LsAt, failed, new, opened, portion_word, quiet, waiting}
use Rattle.ibx_time_invariant.proofs.Ties.{IsPlaced}
use Rattle.ibx_time_invariant.proofs.FetchSide.{FetchQuiet}
use Rattle.ibx_time_invariant.proofs.StageSide.{StageQuiet}
use Rattle.ibx_bus.specs.Port.{PortState, answer_wires, answers}
use Rattle.ibx_bus.specs.PortTimes.{grant_time}
use Rattle.ibx_time.specs.Settings.{Setup, settings_of}
use Rattle.ibx_time.specs.Requests.{Past, Switch, first_grant, made, second_grant}
use Rattle.ibx_time.specs.Streams.{Stream, last_of}
use Rattle.ibx_time.specs.Memories.{Write, memory_at}
use Rattle.ibx_time.specs.History.{Story}
use Rattle.ibx_icache.specs.declared.port.WordPort.{WordPort}
use Rattle.ibx_arch.specs.Memory.{Memory, image_memory, offset_from, read_byte, read_bytes, with_bytes}
use Rattle.ibx_bits.specs.Bytes.{bytes_number}
use Rattle.ibx_isa.specs.Portions.{portion_addr}
use Rattle.ibx_secded.specs.Code.{encode_of, syndrome_of}
use Rattle.ibx_elf.specs.Ram.{ram_has}
use Rattle.ibx_isa.specs.declared.event.Access.{Access}
use Rattle.ibx_lsu.specs.declared.unit.Lsu.{Lsu}
use Rattle.ibx_core.specs.Core.{is_flipped}

-- ---- bytes and words below their bounds

-- the number of n bytes is below 256 ^ n
number_low : (f : ℕ → ℕ) (n : ℕ) → ((k : ℕ) → f k < 256) → bytes_number f n < 256 ^ n
unfolding bytes_number
number_low f zero h = omega arith
number_low f (suc n) h =
    let more : f n * 256 ^ n ≤ 255 * 256 ^ n = mul-le-mul_right (256 ^ n) (omega (arith, h n)) in
    let step_ : 256 ^ suc n ≡ 256 ^ n * 256 = pow-suc 256 n in
    omega (arith, number_low f n h, more, step_)

-- so a word that is read from memory's bytes is below 2 ^ 32
pub read_low : (memory : Memory) (a : ℕ) → ((b : ℕ) → memory.byte b < 256) → read_bytes memory a 4 < 2 ^ 32
read_low memory a h = number_low (λ k. read_byte memory ((a + k) % 2 ^ 32)) 4
    (λ k. by (ram_has memory.ram ((a + k) % 2 ^ 32)) (memory.byte ((a + k) % 2 ^ 32)) (h ((a + k) % 2 ^ 32)))
  where
    by : (b : Bool) (n : ℕ) → n < 256 → (if b then n else 0) < 256
    by true n h = h
    by false n h = omega arith

-- a write leaves a byte at each address
with_low : (memory : Memory) (addr from to value a : ℕ) → memory.byte a < 256
    → (with_bytes memory addr from to value).byte a < 256
unfolding with_bytes
with_low memory addr from to value a h =
    by (ram_has memory.ram a && (nat_le from (offset_from addr a) && nat_lt (offset_from addr a) to))
    (value / 256 ^ offset_from addr a) (memory.byte a) h
  where
    by : (b : Bool) (v n : ℕ) → n < 256 → (if b then v % 256 else n) < 256
    by true v n h = mod_below v 256 (omega arith)
    by false v n h = h

-- so memory that begins with bytes has bytes at any time
pub memory_low : (memory : Memory) (ws : List Write) (c a : ℕ) → ((b : ℕ) → memory.byte b < 256)
    → (memory_at memory ws c).byte a < 256
unfolding memory_at
memory_low memory [] c a h = h a
memory_low memory (w ∷ ws) c a h =
    elim (nat_lt w.time c) as (λ b. (if b then with_bytes (memory_at memory ws c) w.addr w.from w.to w.value
    else memory_at memory ws c).byte a < 256) [
      | true ↦ with_low (memory_at memory ws c) w.addr w.from w.to w.value a (memory_low memory ws c a h)
      | false ↦ memory_low memory ws c a h
    ]

-- memory at reset has bytes
pub image_low : (s : Setup) → IsPlaced s → (a : ℕ) → (image_memory s.image).byte a < 256
unfolding image_memory
image_low s ok a = elim (ram_has s.image.ram a) as (λ b. (if b then image_byte s.image a else 0) < 256)
    [ true ↦ ok.bytes a | false ↦ omega arith ]

-- so each word that the fetch port reads is below 2 ^ 32
pub word_low : (s : Setup) → IsPlaced s → (log : List Write) (g a : ℕ) → word_in s log g a < 2 ^ 32
word_low s ok log g a = read_low (memory_at (image_memory s.image) log g) a
    (λ b. memory_low (image_memory s.image) log g b (image_low s ok))

-- so is the word that a portion reads
pub portion_low : (h : Story) (w : Access) (b : Bool) → ((a : ℕ) → h.state.memory.byte a < 256)
    → portion_word h w b < 2 ^ 32
portion_low h w b low = by w.store (read_bytes h.state.memory (portion_addr w.addr b / 4 * 4) 4)
    (read_low h.state.memory (portion_addr w.addr b / 4 * 4) low)
  where
    by : (b : Bool) (n : ℕ) → n < 2 ^ 32 → (if b then 0 else n) < 2 ^ 32
    by true n h = omega arith
    by false n h = h

-- ---- a port's answer

-- an answer without a flipped bit: none, an idle port's, and a codeword's
quiet_by : (b err : Bool) (word : ℕ) → (b ≡ true → syndrome_of 32 7 word ≡ 0)
    → is_flipped (if b then record { valid = true; err = err; word = word }
    else record { valid = false; err = false; word = 0 }) ≡ false
quiet_by true err word h = ap (λ n. not (n == 0)) (h refl)
quiet_by false err word h = refl

-- a port whose open transaction holds a codeword answers without a flipped bit
quiet_port : (p : PortState) → (p.busy ≡ true → syndrome_of 32 7 p.word ≡ 0) → is_flipped (answer_wires p) ≡ false
unfolding answer_wires
quiet_port p h = quiet_by (answers p) p.err p.word (λ e. h (busy_of p.busy (p.left == 0) e))
  where
    busy_of : (a b : Bool) → (a && b) ≡ true → a ≡ true
    busy_of true b e = refl
    busy_of false b e = let no_ : false ≡ true = e in cc

-- a port without an open transaction shows no flipped bit
quiet_none : (p : PortState) → p.busy ≡ false → is_flipped (answer_wires p) ≡ false
quiet_none p e = quiet_port p (λ k. let no_ : true ≡ false = sym k ∙ e in cc)

-- a port that holds the codeword of a word shows no flipped bit
quiet_word : (p : PortState) (v : ℕ) → v < 2 ^ 32 → p.word ≡ encode_of 32 7 v → is_flipped (answer_wires p) ≡ false
quiet_word p v low e = quiet_port p (λ _. ap (syndrome_of 32 7) e ∙ syndrome_of-encode 32 7 v low)

-- ---- both sides

-- the fetch port's answer is such a one, in each state of its request
work_quiet : (s : Setup) → IsPlaced s
    → (log : List Write) (ss : List Switch) (fs : List ℕ) (y : Past) (t a c e : ℕ) (w : WordPort) (p : PortState)
    (tags lines : List ℕ)
    → Work s log ss fs y t a c e w p tags lines → is_flipped (answer_wires p) ≡ false
work_quiet s ok log ss fs y t a c e w p tags lines (bare_asks b d i k) = quiet_none p i.busy
work_quiet s ok log ss fs y t a c e w p tags lines (bare_waits b d g k) =
    quiet_word p (word_in s log (grant_time s.plan.iwaits (made y) t) a)
    (word_low s ok log (grant_time s.plan.iwaits (made y) t) a) g.word_is
work_quiet s ok log ss fs y t a c e w p tags lines (looks b n d x i k) = quiet_none p i.busy
work_quiet s ok log ss fs y t a c e w p tags lines (first_asks b m d i k) = quiet_none p i.busy
work_quiet s ok log ss fs y t a c e w p tags lines (first_waits b m d g k) =
    quiet_word p (word_in s log (first_grant (settings_of s) y t) (line_base a))
    (word_low s ok log (first_grant (settings_of s) y t) (line_base a)) g.word_is
work_quiet s ok log ss fs y t a c e w p tags lines (second_asks b m d x i k) = quiet_none p i.busy
work_quiet s ok log ss fs y t a c e w p tags lines (second_waits b m d x g k) =
    quiet_word p (word_in s log (second_grant (settings_of s) y t) (line_base a + 4))
    (word_low s ok log (second_grant (settings_of s) y t) (line_base a + 4)) g.word_is
work_quiet s ok log ss fs y t a c e w p tags lines (last b m d x u v i k) = quiet_none p i.busy

-- the fetch port's answer has no flipped bit, with a word outstanding or with none
link_quiet : (s : Setup) → IsPlaced s
    → (log : List Write) (x : Stream) (q c e : ℕ) (busy : Bool) (w : WordPort) (p : PortState) (tags lines : List ℕ)
    → Link s log x q c e busy w p tags lines → is_flipped (answer_wires p) ≡ false
link_quiet s ok log x q c e busy w p tags lines (idle b d i k z) = quiet_none p i.busy
link_quiet s ok log x q c e busy w p tags lines (pending y t a work) =
    work_quiet s ok log x.switches x.fences y t (last_of x q) c e w p tags lines work

-- so no answer of the fetch port has a flipped bit
pub fetch_quiet : (s : Setup) → FetchQuiet s
fetch_quiet s log x half q c enable f w p tags lines ok v = link_quiet s ok log x q c c f.f_busy w p tags lines v.link

-- and so is the data port's
ls_quiet : (s : Setup) (t : ℕ) (h : Story) (c : ℕ) (ls : Lsu) (p : PortState) → ((a : ℕ) → h.state.memory.byte a < 256)
    → LsAt s t h c ls p → is_flipped (answer_wires p) ≡ false
ls_quiet s t h c ls p low (quiet k e i) = quiet_none p i.busy
ls_quiet s t h c ls p low (new w b r e now i) = quiet_none p i.busy
ls_quiet s t h c ls p low (waiting w b r e i) = quiet_none p i.busy
ls_quiet s t h c ls p low (opened w b r e g) = quiet_word p (portion_word h w b) (portion_low h w b low) g.word_is
ls_quiet s t h c ls p low (failed b k e at i) = quiet_none p i.busy

-- so neither port raises an alert
pub stage_quiet : (s : Setup) → StageQuiet s
stage_quiet s limit h None c id md ls p state u = quiet_none p u.idle.busy
stage_quiet s limit h (Some t) c id md ls p state f = ls_quiet s t h c ls p state.good.bytes f.part

-- memory keeps its range
pub memory_ram : (memory : Memory) (ws : List Write) (c : ℕ) → (memory_at memory ws c).ram ≡ memory.ram
unfolding memory_at with_bytes
memory_ram memory [] c = refl
memory_ram memory (w ∷ ws) c =
    elim (nat_lt w.time c) as (λ b. (if b then with_bytes (memory_at memory ws c) w.addr w.from w.to w.value
    else memory_at memory ws c).ram ≡ memory.ram) [
      | true ↦ memory_ram memory ws c
      | false ↦ memory_ram memory ws c
    ]

-- memory has the range of the image's RAM at any time
pub image_ram : (s : Setup) (ws : List Write) (c : ℕ) → (memory_at (image_memory s.image) ws c).ram ≡ s.image.ram
unfolding image_memory
image_ram s ws c = memory_ram (image_memory s.image) ws c
