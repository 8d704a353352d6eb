-- What the invariant of the machine's run gives: the address of a line that is stored, and registers of 32 bits.
use Rattle.std.proofs.Common.{◌≡◌, ℕ, ◌%◌, ◌^◌, ◌<◌, Bool, List, Option, Some, None, inl, inr, map, length, refl, sym}
use Rattle.std.proofs.Common.{ap, subst, ◌∙◌, arith, length-set}
use Rattle.std.specs.Prelude.{All, slice_index, slice_set}
use Rattle.std.proofs.lemmas.Bool.{cases_lt}
use Rattle.std.proofs.lemmas.List.{get_or-map, get_or-set_same, length-map, set_past}
use Rattle.std.proofs.lemmas.List.Elements.{All-get_or}
use Rattle.ibx_secded.specs.Code.{encode_of, payload_of}
use Rattle.ibx_secded.proofs.Laws.{payload_of-encode}
use Rattle.ibx_bus.specs.Port.{PortState}
use Rattle.ibx_icache.specs.declared.port.WordPort.{WordPort}
use Rattle.ibx_time.specs.Memories.{Write}
use Rattle.ibx_time.specs.Settings.{Setup}
use Rattle.ibx_time.specs.Streams.{Stream}
use Rattle.ibx_time_machine.specs.Words.{put_reg}
use Rattle.ibx_time_invariant.proofs.Links.{Link, idle, pending}
use Rattle.ibx_time_system.specs.Cycles.{IsAddressed, put_low}

-- a request that is outstanding has an address of 32 bits
pub link_addressed : (s : Setup) (log : List Write) (x : Stream) (q c e : ℕ) (busy : Bool) (w : WordPort)
    (p : PortState) (tags lines : List ℕ)
    → Link s log x q c e busy w p tags lines → IsAddressed w
link_addressed s log x q c e busy w p tags lines (idle b d i k z) = λ awaits. absurd cc
link_addressed s log x q c e busy w p tags lines (pending y t a work) =
    λ awaits. subst (λ (n : ℕ). n < 2 ^ 32) (sym a.addr) a.low

-- ---- a word that is the codeword of 32 bits is that of its value's low 32 bits

-- the payload of any number's codeword
any_payload : (v : ℕ) → payload_of 32 (encode_of 32 7 v) ≡ v % 2 ^ 32
unfolding encode_of
any_payload v = omega arith

-- it is the codeword of the low bits
narrow : (v r : ℕ) → encode_of 32 7 v ≡ encode_of 32 7 r → r < 2 ^ 32 → encode_of 32 7 v ≡ encode_of 32 7 (v % 2 ^ 32)
narrow v r e low =
    let is : v % 2 ^ 32 ≡ r = sym (any_payload v) ∙ ap (payload_of 32) e ∙ payload_of-encode 32 7 r low in
    e ∙ ap (encode_of 32 7) (sym is)

-- so where all registers are such words, the machine's write is that of 32 bits
pub low_write : (write : Option (ℕ × ℕ)) (regs rs : List ℕ) → put_reg write regs ≡ map (encode_of 32 7) rs
    → All (λ v. v < 2 ^ 32) rs → put_reg write regs ≡ put_low write regs
low_write None regs rs e all = refl
low_write (Some w) regs rs e all =
    let count : length regs ≡ length rs =
    sym (length-set regs w.0 (encode_of 32 7 w.1)) ∙ ap length e ∙ length-map rs (encode_of 32 7) in
    elim (cases_lt w.0 (length regs)) [
      | inl inside ↦
          let low : w.0 < length rs = omega arith in
          let same : encode_of 32 7 w.1 ≡ encode_of 32 7 (slice_index rs w.0) =
          sym (get_or-set_same regs w.0 (encode_of 32 7 w.1) 0 inside) ∙ ap (λ (l : List ℕ). slice_index l w.0) e
          ∙ get_or-map (encode_of 32 7) rs w.0 0 0 low in
          ap (slice_set regs w.0) (narrow w.1 (slice_index rs w.0) same
          (All-get_or (λ v. v < 2 ^ 32) rs w.0 0 low all))
      | inr past ↦ set_past regs w.0 (encode_of 32 7 w.1) past ∙ sym (set_past regs w.0 (encode_of 32 7 (w.1 % 2 ^ 32))
          past)
    ]
