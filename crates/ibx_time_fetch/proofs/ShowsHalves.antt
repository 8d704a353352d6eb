-- The halves of a word with its error in bit 32.
use Rattle.std.proofs.Common.{◌≡◌, ℕ, ◌+◌, ◌*◌, ◌/◌, ◌%◌, ◌^◌, ◌<◌, Bool, true, false, not, ◌&&◌, ◌||◌}
use Rattle.std.proofs.Common.{◌==◌, nat_le, nat_lt, if◌then◌else◌, refl, sym, ap, ap₂, ◌∙◌, inl, inr, arith}
use Rattle.std.proofs.lemmas.Bool.{cases_lt, eq-eqb, ne_eqb, le-leb, lt-leb, lt-ltb, le-ltb}
use Rattle.ibx_time_invariant.proofs.Fetches.{is_unmapped}
use Rattle.ibx_time_invariant.proofs.Ties.{IsPlaced}
use Rattle.ibx_arch.specs.Memory.{Memory, read_bytes}
use Rattle.ibx_bits.specs.Platform.{host_page_has}
use Rattle.ibx_elf.specs.Ram.{IsRamRange, ram_has}
use Rattle.ibx_elf.specs.declared.ram.Ram.{Ram}
use Rattle.ibx_prefetch.specs.Buffer.{entry_of}
use Rattle.ibx_time.specs.Settings.{Setup}
use Rattle.ibx_time.proofs.Halves.{half_at, half_is}

-- ---- the error

-- bit 32 is the error, whatever the word
pub err_is : (u : Bool) (word : ℕ) → word < 2 ^ 32 → not (entry_of u word / 2 ^ 32 == 0) ≡ u
err_is true word low = ap (λ b. not b) (ne_eqb ((word + 2 ^ 32) / 2 ^ 32) 0 (λ e. absurd (omega arith)))
err_is false word low = ap (λ b. not b) (eq-eqb ((word + 0) / 2 ^ 32) 0 (omega arith))

-- ---- both halves of a word are mapped, or none

-- both are at the same side of every word's address, so of RAM's bounds and the host's page
same_le : (a x y : ℕ) → a % 4 ≡ 0 → x / 4 ≡ y / 4 → nat_le a x ≡ nat_le a y
same_le a x y e h =
    elim (cases_lt x a) [
      | inl less ↦ lt-leb a x less ∙ sym (lt-leb a y (omega arith))
      | inr more ↦ le-leb a x more ∙ sym (le-leb a y (omega arith))
    ]

-- both are below a word's address, or neither is
same_lt : (a x y : ℕ) → a % 4 ≡ 0 → x / 4 ≡ y / 4 → nat_lt x a ≡ nat_lt y a
same_lt a x y e h =
    elim (cases_lt x a) [
      | inl less ↦ lt-ltb x a less ∙ sym (lt-ltb y a (omega arith))
      | inr more ↦ le-ltb x a more ∙ sym (le-ltb y a (omega arith))
    ]

-- so RAM has both bytes of a word, or neither
same_ram : (ram : Ram) (x y : ℕ) → IsRamRange ram → x / 4 ≡ y / 4 → ram_has ram x ≡ ram_has ram y
same_ram ram x y ok h = ap₂ (λ a b. a && b) (same_le ram.base x y (omega (arith, ok.base_in_steps)) h)
    (same_lt (ram.base + ram.size) x y (omega (arith, ok.base_in_steps, ok.size_in_steps)) h)

-- the host's page has both bytes of a word, or neither
same_page : (x y : ℕ) → x / 4 ≡ y / 4 → host_page_has x ≡ host_page_has y
same_page x y h = ap₂ (λ a b. a && b) (same_le 0x20000 x y refl h) (same_lt 0x21000 x y refl h)

-- so memory answers for both, or for neither
pub same_mapped : (s : Setup) (x y : ℕ) → IsPlaced s → x / 4 ≡ y / 4 → is_unmapped s x ≡ is_unmapped s y
same_mapped s x y ok h = ap₂ (λ a b. not (a || b)) (same_ram s.image.ram x y ok.setup.ram h) (same_page x y h)

-- ---- the halfwords of a word

-- the error is a multiple of 2 ^ 32
error_bit : (u : Bool) → (e : ℕ) × ((if u then 2 ^ 32 else 0) ≡ e * 2 ^ 32)
error_bit true = (1, refl)
error_bit false = (0, refl)

-- half h of a word is the halfword that memory has there, whatever its error
pub half_entry : (memory : Memory) (u : Bool) (a h : ℕ) → ((b : ℕ) → memory.byte b < 256) → h < 2
    → half_at (entry_of u (read_bytes memory a 4)) h ≡ read_bytes memory (a + 2 * h) 2
half_entry memory u a h low small =
    let e = error_bit u in
    ap (λ w. half_at (read_bytes memory a 4 + w) h) e.1 ∙ half_is memory e.0 a h low small
