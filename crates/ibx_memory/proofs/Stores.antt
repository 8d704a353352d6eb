-- A portion of a store, by words and by bytes.
use Rattle.std.proofs.Common.{◌≡◌, ◌≢◌, ℕ, ◌+◌, ◌-◌, ◌*◌, ◌/◌, ◌%◌, ◌^◌, ◌<◌, ◌≤◌, Bool, true, false, cond, leb, ltb}
use Rattle.std.proofs.Common.{List, length, get_or, refl, arith, inl, inr, set, get_or-set_same, get_or-set_other, min}
use Rattle.std.specs.Prelude.{◌&&◌}
use Rattle.std.proofs.lemmas.Bool.{cases_Bool, cases_eq, cases_lt, lt-ltb, le-ltb, le-leb, lt-leb, leb-true, ltb-true}
use Rattle.std.proofs.lemmas.Bool.{and_parts}
use Rattle.ibx_elf.specs.declared.ram.Ram.{Ram}
use Rattle.ibx_elf.specs.Ram.{ram_has}
use Rattle.ibx_bits.specs.Bytes.{word_byte}
use Rattle.ibx_isa.specs.Portions.{place_of, is_held, lane_byte}
use Rattle.ibx_memory.specs.Words.{IsWhole, byte_in, portion_from, portion_to, portion_word}

-- the number of the byte at an address, counted from the address of an access
abbrev pub offset : ℕ → ℕ → ℕ
offset addr a = (a + 2 ^ 32 - addr) % 2 ^ 32

-- the byte at an address of the portion's word is one of the access exactly where its lane is held
pub held_is : (addr a size : ℕ) (second : Bool) → addr < 2 ^ 32 → size ≤ 4 → a / 4 ≡ portion_word addr second
    → is_held addr size second (a % 4)
    ≡ (leb (portion_from addr size second) (offset addr a) && ltb (offset addr a) (portion_to addr size second))
held_is addr a size false small most here =
    elim (cases_lt (a % 4) (addr % 4)) [
      | inl lt ↦
          let at : offset addr a ≡ a % 4 + 2 ^ 32 - addr % 4 = omega arith in
          rw (
            lt-leb (addr % 4) (a % 4) lt,
            le-leb 0 (offset addr a) (omega arith),
            le-ltb (offset addr a) (min size (4 - addr % 4)) (omega arith),
          ) refl
      | inr le ↦
          let at : offset addr a ≡ a % 4 - addr % 4 = omega arith in
          rw (le-leb (addr % 4) (a % 4) le, le-leb 0 (offset addr a) (omega arith))
          (elim (cases_lt (a % 4) (addr % 4 + size)) [
            | inl within ↦ rw (
              lt-ltb (a % 4) (addr % 4 + size) within,
              lt-ltb (offset addr a) (min size (4 - addr % 4)) (omega arith),
            ) refl
            | inr past ↦ rw (
              le-ltb (a % 4) (addr % 4 + size) past,
              le-ltb (offset addr a) (min size (4 - addr % 4)) (omega arith),
            ) refl
          ])
    ]
held_is addr a size true small most here =
    let at : offset addr a ≡ a % 4 + 4 - addr % 4 = omega arith in
    rw (le-leb (addr % 4) (a % 4 + 4) (omega arith), le-leb (min size (4 - addr % 4)) (offset addr a) (omega arith))
    (elim (cases_lt (a % 4 + 4) (addr % 4 + size)) [
      | inl within ↦ rw (lt-ltb (a % 4 + 4) (addr % 4 + size) within, lt-ltb (offset addr a) size (omega arith)) refl
      | inr past ↦ rw (le-ltb (a % 4 + 4) (addr % 4 + size) past, le-ltb (offset addr a) size (omega arith)) refl
    ])

-- and then it is the value's byte of that number
pub lane_is : (addr a size : ℕ) (second : Bool) → addr < 2 ^ 32 → a / 4 ≡ portion_word addr second
    → is_held addr size second (a % 4) ≡ true → place_of second (a % 4) - addr % 4 ≡ offset addr a
lane_is addr a size false small here held =
    let above : addr % 4 ≤ a % 4 =
    leb-true (addr % 4) (a % 4) (and_parts (leb (addr % 4) (a % 4)) (ltb (a % 4) (addr % 4 + size)) held).0 in
    omega arith
lane_is addr a size true small here held = omega arith

-- elsewhere there is none
pub not_held : (addr a size : ℕ) (second : Bool) → addr < 2 ^ 32 → a < 2 ^ 32 → size ≤ 4
    → a / 4 ≢ portion_word addr second
    → (leb (portion_from addr size second) (offset addr a) && ltb (offset addr a) (portion_to addr size second))
    ≡ false
not_held addr a size false small fits most other =
    elim (cases_lt (offset addr a) (min size (4 - addr % 4))) [
      | inl lt ↦ absurd (omega (arith, other))
      | inr le ↦ rw (le-leb 0 (offset addr a) (omega arith), le-ltb (offset addr a) (min size (4 - addr % 4)) le) refl
    ]
not_held addr a size true small fits most other =
    elim (cases_lt (offset addr a) (min size (4 - addr % 4))) [
      | inl lt ↦ rw (lt-leb (min size (4 - addr % 4)) (offset addr a) lt) refl
      | inr le ↦ elim (cases_lt (offset addr a) size) [
        | inl within ↦ absurd (omega (arith, other))
        | inr past ↦ rw (le-leb (min size (4 - addr % 4)) (offset addr a) le, le-ltb (offset addr a) size past) refl
      ]
    ]

-- The word of a portion with the lanes of an access put in: every byte of memory is as by bytes.
module _ (ram : Ram) (words : List ℕ) (addr size value word place : ℕ) (second : Bool) where
  -- the byte at an address is the value's where the portion has it, and else the word's
  pub put_byte : addr < 2 ^ 32 → size ≤ 4 → IsWhole (record { ram = ram; words = words })
      → ram.base / 4 + place ≡ portion_word addr second → place < length words
      → ((j : ℕ) → j < 4 → word_byte word j
      ≡ cond (is_held addr size second j) (lane_byte addr size value second j) (word_byte (get_or words place 0) j))
      → (a : ℕ) → byte_in ram (set words place word) a
      ≡ cond (ram_has ram a && (leb (portion_from addr size second) (offset addr a)
      && ltb (offset addr a) (portion_to addr size second))) (word_byte value (offset addr a)) (byte_in ram words a)
  put_byte small most whole at inside merged a =
      elim (cases_Bool (ram_has ram a)) [
        | inl holds ↦
            let parts = and_parts (leb ram.base a) (ltb a (ram.base + ram.size)) holds in
            let from : ram.base ≤ a = leb-true ram.base a parts.0 in
            let below : a < ram.base + ram.size = ltb-true a (ram.base + ram.size) parts.1 in
            elim (cases_eq ((a - ram.base) / 4) place) [
              | inl same ↦
                  let here : a / 4 ≡ portion_word addr second = omega (arith, whole.ram.base_in_steps) in
                  rw (
                    holds,
                    same,
                    get_or-set_same words place word 0 inside,
                    merged (a % 4) (omega arith),
                    ← held_is addr a size second small most here,
                  )
                  (elim (cases_Bool (is_held addr size second (a % 4))) [
                    | inl held ↦ rw (held, lane_is addr a size second small here held) refl
                    | inr free ↦ rw free refl
                  ])
              | inr apart ↦
                  let other : a / 4 ≢ portion_word addr second = λ e. apart (omega (arith, whole.ram.base_in_steps)) in
                  rw (
                    holds,
                    get_or-set_other words place ((a - ram.base) / 4) word 0 apart,
                    not_held addr a size second small (omega (arith, whole.ram.ends_below)) most other,
                  ) refl
            ]
        | inr lacks ↦ rw lacks refl
      ]

  -- a portion whose word isn't in RAM changes nothing
  pub put_outside : addr < 2 ^ 32 → size ≤ 4 → IsWhole (record { ram = ram; words = words })
      → ram_has ram (portion_word addr second * 4) ≡ false
      → (a : ℕ) → byte_in ram words a
      ≡ cond (ram_has ram a && (leb (portion_from addr size second) (offset addr a)
      && ltb (offset addr a) (portion_to addr size second))) (word_byte value (offset addr a)) (byte_in ram words a)
  put_outside small most whole out a =
      elim (cases_Bool (ram_has ram a)) [
        | inl holds ↦
            let parts = and_parts (leb ram.base a) (ltb a (ram.base + ram.size)) holds in
            let from : ram.base ≤ a = leb-true ram.base a parts.0 in
            let below : a < ram.base + ram.size = ltb-true a (ram.base + ram.size) parts.1 in
            let other : a / 4 ≢ portion_word addr second = λ e.
            let first : ram.base ≤ portion_word addr second * 4 = omega (arith, e, whole.ram.base_in_steps) in
            let last : portion_word addr second * 4 < ram.base + ram.size =
            omega (arith, e, whole.ram.base_in_steps, whole.ram.size_in_steps) in
            let inside : ram_has ram (portion_word addr second * 4) ≡ true =
            rw (
              le-leb ram.base (portion_word addr second * 4) first,
              lt-ltb (portion_word addr second * 4) (ram.base + ram.size) last,
            ) refl in
            cc in
            rw (holds, not_held addr a size second small (omega (arith, whole.ram.ends_below)) most other) refl
        | inr lacks ↦ rw lacks refl
      ]
