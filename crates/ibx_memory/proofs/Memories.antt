-- Memory as words and as bytes: what a store and an image leave.
use Rattle.std.proofs.Common.{◌≡◌, ℕ, ◌+◌, ◌-◌, ◌*◌, ◌/◌, ◌%◌, ◌^◌, ◌<◌, ◌≤◌, Bool, true, false, leb, ltb, List}
use Rattle.std.proofs.Common.{length, get_or, set, refl, sym, ap, ◌∙◌, subst, arith, inl, inr}
use Rattle.std.proofs.lemmas.List.{get_or_default}
use Rattle.std.proofs.lemmas.Bool.{cases_Bool, leb-true, ltb-true, and_parts}
use Rattle.ibx_elf.specs.Ram.{ram_has}
use Rattle.ibx_elf.specs.Image.{Placed, image_byte}
use Rattle.ibx_bits.specs.Bytes.{word_byte}
use Rattle.ibx_isa.specs.Portions.{lanes_of}
use Rattle.ibx_arch.specs.Memory.{with_bytes, image_memory}
use Rattle.ibx_memory.specs.Words.{Words, IsWhole, memory_of, merged_byte, portion_from, portion_to, portion_word}
use Rattle.ibx_memory.proofs.Lanes.{merged_is}
use Rattle.ibx_memory.proofs.Stores.{put_byte, put_outside}
use mathlib.Core.Path.{fun_ext}

-- an element within a list is the same whatever stands for one outside
same_item : (xs : List ℕ) (i d : ℕ) → i < length xs → d ≡ get_or xs i d → get_or xs i 0 ≡ d
same_item xs i d inside e = sym (e ∙ get_or_default xs i d 0 inside)

module _ (w : Words) (addr size value start : ℕ) (second : Bool) (small : addr < 2 ^ 32) (most : size ≤ 4)
    (whole : IsWhole w) (here : start ≡ portion_word addr second * 4) where
  -- the portion's word is in RAM, and takes the lanes
  pub put_in : ram_has w.ram start ≡ true → (word old : ℕ) (lanes : ℕ × ℕ)
      → old ≡ get_or w.words ((start - w.ram.base) / 4) old → lanes ≡ lanes_of addr size value second
      → ((j : ℕ) → j < 4 → word_byte word j ≡ merged_byte old lanes.0 lanes.1 j)
      → memory_of (record { ram = w.ram; words = set w.words ((start - w.ram.base) / 4) word })
      ≡ with_bytes (memory_of w) addr (portion_from addr size second) (portion_to addr size second) value
  unfolding memory_of with_bytes
  put_in has word old lanes at lanes_are merged =
      let parts = and_parts (leb w.ram.base start) (ltb start (w.ram.base + w.ram.size)) has in
      let from : w.ram.base ≤ start = leb-true w.ram.base start parts.0 in
      let below : start < w.ram.base + w.ram.size = ltb-true start (w.ram.base + w.ram.size) parts.1 in
      let inside : (start - w.ram.base) / 4 < length w.words = omega (arith, whole.count, whole.ram.base_in_steps) in
      let place : w.ram.base / 4 + (start - w.ram.base) / 4 ≡ portion_word addr second =
      omega (arith, whole.ram.base_in_steps) in
      let same : get_or w.words ((start - w.ram.base) / 4) 0 ≡ old =
      same_item w.words ((start - w.ram.base) / 4) old inside at in
      ap (λ (byte : ℕ → ℕ). record { ram = w.ram; byte = byte })
      (fun_ext (put_byte w.ram w.words addr size value word ((start - w.ram.base) / 4) second small most whole place
      inside
      (λ j lt. rw same (merged_is addr size value old word second lanes lanes_are merged j lt))))

  -- the portion's word isn't in RAM
  pub put_out : ram_has w.ram start ≡ false
      → memory_of w ≡ with_bytes (memory_of w) addr (portion_from addr size second) (portion_to addr size second) value
  unfolding memory_of with_bytes
  put_out has =
      ap (λ (byte : ℕ → ℕ). record { ram = w.ram; byte = byte })
      (fun_ext (put_outside w.ram w.words addr size value 0 0 second small most whole
      (subst (λ (x : ℕ). ram_has w.ram x ≡ false) here has)))

-- the words of an image are its memory
pub image_is : (image : Placed) (words : List ℕ) → IsWhole (record { ram = image.ram; words = words })
    → ((k : ℕ) → 4 * k < image.ram.size → (j : ℕ) → j < 4
    → word_byte (get_or words k 0) j ≡ image_byte image (image.ram.base + 4 * k + j))
    → memory_of (record { ram = image.ram; words = words }) ≡ image_memory image
unfolding memory_of image_memory
image_is image words whole bytes =
    let ram = image.ram in
    ap (λ (byte : ℕ → ℕ). record { ram = image.ram; byte = byte })
    (fun_ext (λ a. elim (cases_Bool (ram_has image.ram a)) [
      | inl holds ↦
          let parts = and_parts (leb image.ram.base a) (ltb a (image.ram.base + image.ram.size)) holds in
          let from : image.ram.base ≤ a = leb-true image.ram.base a parts.0 in
          let below : a < image.ram.base + image.ram.size = ltb-true a (image.ram.base + image.ram.size) parts.1 in
          let at : image.ram.base + 4 * ((a - image.ram.base) / 4) + a % 4 ≡ a =
          omega (arith, whole.ram.base_in_steps) in
          rw holds (bytes ((a - image.ram.base) / 4) (omega arith) (a % 4) (omega arith) ∙ ap (image_byte image) at)
      | inr lacks ↦ rw lacks refl
    ]))
