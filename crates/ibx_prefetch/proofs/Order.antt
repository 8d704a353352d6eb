-- The order of the words and parcels: each phase of a cycle keeps it.
use Rattle.std.proofs.Common.{◌≡◌, ℕ, zero, suc, ◌+◌, ◌-◌, ◌*◌, ◌/◌, ◌%◌, ◌^◌, ◌<◌, ◌≤◌, Bool, true, false, not, ◌||◌}
use Rattle.std.proofs.Common.{◌==◌, length, drop, Option, Some, None, inl, inr, refl, sym, ◌∙◌, ap, subst, arith}
use Rattle.std.proofs.lemmas.Bool.{le-ltb, ltb-true, lt-leb, le-leb, cases_lt}
use Rattle.ibx_prefetch.specs.declared.buffer.Prefetch.{Prefetch}
use Rattle.ibx_prefetch.specs.declared.buffer.WordAns.{WordAns}
use Rattle.ibx_prefetch.specs.declared.buffer.Parcel.{Parcel}
use Rattle.ibx_prefetch.specs.Buffer.{entry_of, turned, pushed, received, held_word, held_parcel, head_of, request_of}
use Rattle.ibx_prefetch.specs.Buffer.{requested, popped, took, fetch_after_answer, prefetch_next}
use Rattle.ibx_prefetch.specs.Parcels.{words_of, parcels_in, parcels_of, offered, IsWithin, IsInOrder, AnswersFor}
use Rattle.ibx_prefetch.specs.Parcels.{OffersFrom, half_of, place, asked, awaited}
use Rattle.ibx_prefetch.proofs.Requests.{buffer}
use Rattle.ibx_prefetch.proofs.Drops.{received-none}
use Rattle.ibx_prefetch.proofs.Queue.{filled_pc, filled_count, offered_is, requested_parcels, requested_count}

-- a word isn't awaited where none is outstanding, or where it is to be dropped
awaited_none : (busy : Bool) → awaited busy busy ≡ 0
awaited_none true = refl
awaited_none false = refl

-- nor where it is marked to be dropped, whether a request is outstanding or not
awaited_dropped : (busy : Bool) → awaited busy true ≡ 0
awaited_dropped true = refl
awaited_dropped false = refl

-- ---- a redirect

-- nothing is held after a redirect, so all that is held is in order
in_turned : (words : ℕ → ℕ) (redirect : Option ℕ) (f : Prefetch) → IsInOrder words f
    → IsInOrder words (turned redirect f)
unfolding turned
in_turned words None f i = i
in_turned words (Some target) f i =
    let none : awaited f.f_busy f.f_busy ≡ 0 = awaited_none f.f_busy in
    record {
      held = λ k lt. absurd (omega arith);
      room = omega arith;
      fresh = λ e. omega arith;
      last = λ e. cc;
      drops = λ e. e;
      aligned = i.aligned;
    }

-- ---- an answer

-- the word that is outstanding is the one after those held
last_word : (addr pc count : ℕ) → addr < 2 ^ 32 → addr % 4 ≡ 0
    → (addr + 4) % 2 ^ 32 ≡ (pc / 4 * 4 + 4 * (count + 1)) % 2 ^ 32 → (pc / 4 * 4 + 4 * count) % 2 ^ 32 ≡ addr
last_word addr pc count lt aligned last = omega arith

-- a word that is dropped changes nothing that is held
in_dropped : (words : ℕ → ℕ) (entry : ℕ) (g : Prefetch) → IsInOrder words g → awaited g.f_busy g.f_drop ≡ 0
    → IsInOrder words (received true true entry g)
unfolding received
in_dropped words entry g i none = record {
  held = i.held;
  room = omega (arith, i.room);
  fresh = λ e. omega (arith, i.fresh e);
  last = λ e. omega (arith, i.last e);
  drops = λ e. cc;
  aligned = i.aligned;
}

-- one, two or three words, each the one for its address
held_one : (words : ℕ → ℕ) (w0 w1 w2 addr pc : ℕ) → w0 ≡ words ((pc / 4 * 4 + 4 * 0) % 2 ^ 32)
    → (k : ℕ) → k < 1 → held_word (buffer false false false addr w0 w1 w2 1 pc) k
    ≡ words ((pc / 4 * 4 + 4 * k) % 2 ^ 32)
held_one words w0 w1 w2 addr pc h zero lt = h
held_one words w0 w1 w2 addr pc h (suc k) lt = absurd (omega arith)

-- of two held words the younger is that of the address 4 bytes on
held_two : (words : ℕ → ℕ) (w0 w1 w2 addr pc : ℕ) → w0 ≡ words ((pc / 4 * 4 + 4 * 0) % 2 ^ 32)
    → w1 ≡ words ((pc / 4 * 4 + 4 * 1) % 2 ^ 32) → (k : ℕ) → k < 2
    → held_word (buffer false false false addr w0 w1 w2 2 pc) k ≡ words ((pc / 4 * 4 + 4 * k) % 2 ^ 32)
held_two words w0 w1 w2 addr pc h h1 zero lt = h
held_two words w0 w1 w2 addr pc h h1 (suc zero) lt = h1
held_two words w0 w1 w2 addr pc h h1 (suc (suc k)) lt = absurd (omega arith)

-- with three, the most that are held, the youngest is that of the address 8 bytes on
held_three : (words : ℕ → ℕ) (w0 w1 w2 addr pc : ℕ) → w0 ≡ words ((pc / 4 * 4 + 4 * 0) % 2 ^ 32)
    → w1 ≡ words ((pc / 4 * 4 + 4 * 1) % 2 ^ 32) → w2 ≡ words ((pc / 4 * 4 + 4 * 2) % 2 ^ 32) → (k : ℕ) → k < 3
    → held_word (buffer false false false addr w0 w1 w2 3 pc) k ≡ words ((pc / 4 * 4 + 4 * k) % 2 ^ 32)
held_three words w0 w1 w2 addr pc h h1 h2 zero lt = h
held_three words w0 w1 w2 addr pc h h1 h2 (suc zero) lt = h1
held_three words w0 w1 w2 addr pc h h1 h2 (suc (suc zero)) lt = h2
held_three words w0 w1 w2 addr pc h h1 h2 (suc (suc (suc k))) lt = absurd (omega arith)

-- a word that is held joins the others as the last
in_pushed : (words : ℕ → ℕ) (entry : ℕ) (fresh : Bool) (addr w0 w1 w2 count pc : ℕ) → addr < 2 ^ 32
    → entry ≡ words addr → IsInOrder words (buffer true fresh false addr w0 w1 w2 count pc)
    → IsInOrder words (received true false entry (buffer true fresh false addr w0 w1 w2 count pc))
unfolding received pushed
in_pushed words entry true addr w0 w1 w2 count pc fits is i =
    let h : count + 1 ≡ 0 = i.fresh refl in
    absurd (omega arith)
in_pushed words entry false addr w0 w1 w2 zero pc fits is i =
    let new : entry ≡ words ((pc / 4 * 4 + 4 * 0) % 2 ^ 32) =
    is ∙ sym (ap words (last_word addr pc 0 fits i.aligned (i.last refl))) in
    record {
      held = held_one words entry w1 w2 addr pc new;
      room = omega arith;
      fresh = λ e. cc;
      last = λ e. i.last refl;
      drops = λ e. cc;
      aligned = i.aligned;
    }
in_pushed words entry false addr w0 w1 w2 (suc zero) pc fits is i =
    let new : entry ≡ words ((pc / 4 * 4 + 4 * 1) % 2 ^ 32) =
    is ∙ sym (ap words (last_word addr pc 1 fits i.aligned (i.last refl))) in
    record {
      held = held_two words w0 entry w2 addr pc (i.held 0 (omega arith)) new;
      room = omega arith;
      fresh = λ e. cc;
      last = λ e. i.last refl;
      drops = λ e. cc;
      aligned = i.aligned;
    }
in_pushed words entry false addr w0 w1 w2 (suc (suc zero)) pc fits is i =
    let new : entry ≡ words ((pc / 4 * 4 + 4 * 2) % 2 ^ 32) =
    is ∙ sym (ap words (last_word addr pc 2 fits i.aligned (i.last refl))) in
    record {
      held = held_three words w0 w1 entry addr pc (i.held 0 (omega arith)) (i.held 1 (omega arith)) new;
      room = omega arith;
      fresh = λ e. cc;
      last = λ e. i.last refl;
      drops = λ e. cc;
      aligned = i.aligned;
    }
in_pushed words entry false addr w0 w1 w2 (suc (suc (suc n))) pc fits is i = absurd (omega (arith, i.room))

-- ---- a request

-- the word after the last one is requested, or the first one after a redirect
in_next : (words : ℕ → ℕ) (addr w0 w1 w2 count pc : ℕ) → count < 3
    → IsInOrder words (buffer false false false addr w0 w1 w2 count pc)
    → IsInOrder words (buffer true false false ((addr / 4 * 4 + 4) % 2 ^ 32) w0 w1 w2 count pc)
in_next words addr w0 w1 w2 count pc lt i =
    let past : (addr + 4) % 2 ^ 32 ≡ (pc / 4 * 4 + 4 * (count + 0)) % 2 ^ 32 = i.last refl in
    let whole : addr % 4 ≡ 0 = i.aligned in
    record {
      held = i.held;
      room = omega arith;
      fresh = λ e. cc;
      last = λ e. omega arith;
      drops = λ e. cc;
      aligned = omega arith;
    }

-- a request keeps the order, and there is none while one is outstanding or the buffer is full
in_requested : (words : ℕ → ℕ) (busy fresh drops : Bool) (addr w0 w1 w2 count pc : ℕ)
    → IsInOrder words (buffer busy fresh drops addr w0 w1 w2 count pc)
    → IsInOrder words (requested (request_of (buffer busy fresh drops addr w0 w1 w2 count pc))
    (buffer busy fresh drops addr w0 w1 w2 count pc))
unfolding requested request_of
in_requested words true fresh drops addr w0 w1 w2 count pc i = i
in_requested words false fresh true addr w0 w1 w2 count pc i = let no_ : false ≡ true = i.drops refl in cc
in_requested words false true false addr w0 w1 w2 count pc i =
    let none : count + 0 ≡ 0 = i.fresh refl in
    record {
      held = i.held;
      room = omega arith;
      fresh = λ e. cc;
      last = λ e. omega arith;
      drops = λ e. cc;
      aligned = omega arith;
    }
in_requested words false false false addr w0 w1 w2 zero pc i = in_next words addr w0 w1 w2 0 pc (omega arith) i
in_requested words false false false addr w0 w1 w2 (suc zero) pc i = in_next words addr w0 w1 w2 1 pc (omega arith) i
in_requested words false false false addr w0 w1 w2 (suc (suc zero)) pc i =
    in_next words addr w0 w1 w2 2 pc (omega arith) i
in_requested words false false false addr w0 w1 w2 (suc (suc (suc n))) pc i =
    rw (le-ltb (suc (suc (suc n))) 3 (omega arith)) i

-- ---- the parcels that are taken

-- no word goes
in_kept : (words : ℕ → ℕ) (n : ℕ) (g : Prefetch) → g.head_pc / 2 % 2 + n < 2 → IsInOrder words g
    → IsInOrder words (record g { head_pc = (g.head_pc + 2 * n) % 2 ^ 32 })
in_kept words n g below i =
    let same : (k : ℕ) → (g.head_pc / 4 * 4 + 4 * k) % 2 ^ 32
    ≡ ((g.head_pc + 2 * n) % 2 ^ 32 / 4 * 4 + 4 * k) % 2 ^ 32 = λ k. omega arith in
    record {
      held = λ k lt. i.held k lt ∙ ap words (same k);
      room = i.room;
      fresh = i.fresh;
      last = λ e. i.last e ∙ same (asked g);
      drops = i.drops;
      aligned = i.aligned;
    }

-- taken parcels move the program counter, and the word of the first parcel where they end in the next word
moved : (pc n k : ℕ) → 2 ≤ pc / 2 % 2 + n → n ≤ 2
    → (pc / 4 * 4 + 4 * (k + 1)) % 2 ^ 32 ≡ ((pc + 2 * n) % 2 ^ 32 / 4 * 4 + 4 * k) % 2 ^ 32
moved pc n k spent most = omega arith

-- the oldest word goes
shifted : (words : ℕ → ℕ) (w0 w1 w2 count pc past : ℕ) → count ≤ 3
    → ((k : ℕ) → k < count → held_word (buffer true true true 0 w0 w1 w2 count pc) k
    ≡ words ((pc / 4 * 4 + 4 * k) % 2 ^ 32))
    → ((k : ℕ) → (pc / 4 * 4 + 4 * (k + 1)) % 2 ^ 32 ≡ (past / 4 * 4 + 4 * k) % 2 ^ 32)
    → (k : ℕ) → k < count - 1 → held_word (buffer true true true 0 w1 w2 0 (count - 1) past) k
    ≡ words ((past / 4 * 4 + 4 * k) % 2 ^ 32)
shifted words w0 w1 w2 count pc past le held moved zero lt = held 1 (omega arith) ∙ ap words (moved 0)
shifted words w0 w1 w2 count pc past le held moved (suc zero) lt = held 2 (omega arith) ∙ ap words (moved 1)
shifted words w0 w1 w2 count pc past le held moved (suc (suc k)) lt = absurd (omega arith)

-- the words without the oldest are in order from the next one on, and so they are for any number of parcels taken
in_popped : (words : ℕ → ℕ) (n : ℕ) (busy fresh drops : Bool) (addr w0 w1 w2 count pc : ℕ) → 2 ≤ pc / 2 % 2 + n → n ≤ 2
    → 1 ≤ count → IsInOrder words (buffer busy fresh drops addr w0 w1 w2 count pc)
    → IsInOrder words (buffer busy fresh drops addr w1 w2 0 (count - 1) ((pc + 2 * n) % 2 ^ 32))
in_popped words n busy fresh drops addr w0 w1 w2 count pc spent most some i = record {
  held = shifted words w0 w1 w2 count pc ((pc + 2 * n) % 2 ^ 32) (omega (arith, i.room)) i.held
      (λ k. moved pc n k spent most);
  room = omega (arith, i.room);
  fresh = λ e. omega (arith, i.fresh e);
  last = λ e. let one_less : count - 1 + awaited busy drops + 1 ≡ count + awaited busy drops = omega arith in
      i.last e ∙ ap (λ (k : ℕ). (pc / 4 * 4 + 4 * k) % 2 ^ 32) (sym one_less)
      ∙ moved pc n (count - 1 + awaited busy drops) spent most;
  drops = i.drops;
  aligned = i.aligned;
}

-- up to two held parcels can be taken, whether the oldest word goes with them or stays
in_took : (words : ℕ → ℕ) (n : ℕ) (g : Prefetch) → n ≤ 2 → n ≤ 2 * g.buf_count - g.head_pc / 2 % 2 → IsInOrder words g
    → IsInOrder words (took n g)
unfolding popped
in_took words n g most ready i =
    elim (cases_lt (g.head_pc / 2 % 2 + n) 2) [
      | inl below ↦ rw (lt-leb 2 (g.head_pc / 2 % 2 + n) below) (in_kept words n g below i)
      | inr spent ↦
          rw (le-leb 2 (g.head_pc / 2 % 2 + n) spent)
          (in_popped words n g.f_busy g.f_fresh g.f_drop g.f_addr g.buf0 g.buf1 g.buf2 g.buf_count g.head_pc spent most
          (omega arith) i)
    ]

-- ---- a cycle

-- there are two parcels for each word, less the half before the program counter
length_parcels : (busy fresh drops : Bool) (addr w0 w1 w2 count pc b : ℕ) → count ≤ 3 → b < 2
    → length (drop b (parcels_in (words_of (buffer busy fresh drops addr w0 w1 w2 count pc)))) ≡ 2 * count - b
unfolding parcels_in
length_parcels busy fresh drops addr w0 w1 w2 zero pc zero le lt = refl
length_parcels busy fresh drops addr w0 w1 w2 zero pc (suc zero) le lt = refl
length_parcels busy fresh drops addr w0 w1 w2 (suc zero) pc zero le lt = refl
length_parcels busy fresh drops addr w0 w1 w2 (suc zero) pc (suc zero) le lt = refl
length_parcels busy fresh drops addr w0 w1 w2 (suc (suc zero)) pc zero le lt = refl
length_parcels busy fresh drops addr w0 w1 w2 (suc (suc zero)) pc (suc zero) le lt = refl
length_parcels busy fresh drops addr w0 w1 w2 (suc (suc (suc zero))) pc zero le lt = refl
length_parcels busy fresh drops addr w0 w1 w2 (suc (suc (suc zero))) pc (suc zero) le lt = refl
length_parcels busy fresh drops addr w0 w1 w2 (suc (suc (suc (suc n)))) pc b le lt = absurd (omega arith)
length_parcels busy fresh drops addr w0 w1 w2 count pc (suc (suc b)) le lt = absurd (omega arith)

-- a word that answers is dropped, or is the one that is outstanding
in_answered : (words : ℕ → ℕ) (entry : ℕ) (drops busy fresh : Bool) (addr w0 w1 w2 count pc : ℕ) → addr < 2 ^ 32
    → (drops ≡ false) × (busy ≡ true) × (entry ≡ words addr)
    → IsInOrder words (buffer busy fresh drops addr w0 w1 w2 count pc)
    → IsInOrder words (received true false entry (buffer busy fresh drops addr w0 w1 w2 count pc))
in_answered words entry false true fresh addr w0 w1 w2 count pc fits is i =
    in_pushed words entry fresh addr w0 w1 w2 count pc fits is.2 i
in_answered words entry true busy fresh addr w0 w1 w2 count pc fits is i = let no_ = is.0 in cc
in_answered words entry false false fresh addr w0 w1 w2 count pc fits is i = let no_ = is.1 in cc

-- an answer, held or dropped, keeps the order
in_received : (words : ℕ → ℕ) (valid dropped : Bool) (entry : ℕ) (g : Prefetch) → g.f_addr < 2 ^ 32
    → (valid ≡ true → dropped ≡ true → awaited g.f_busy g.f_drop ≡ 0)
    → (valid ≡ true → dropped ≡ false → (g.f_drop ≡ false) × (g.f_busy ≡ true) × (entry ≡ words g.f_addr))
    → IsInOrder words g → IsInOrder words (received valid dropped entry g)
unfolding received
in_received words false dropped entry g fits none is i =
    subst (λ (f : Prefetch). IsInOrder words f) (sym (received-none dropped entry g i.drops)) i
in_received words true true entry g fits none is i = in_dropped words entry g i (none refl refl)
in_received words true false entry g fits none is i =
    in_answered words entry g.f_drop g.f_busy g.f_fresh g.f_addr g.buf0 g.buf1 g.buf2 g.buf_count g.head_pc fits
    (is refl refl) i

-- what is dropped by a mark alone, outside of a redirect
none_awaited : (drops busy : Bool) → (drops || false) ≡ true → awaited busy drops ≡ 0
none_awaited true busy e = awaited_dropped busy
none_awaited false busy e = cc

-- an answer that is kept outside of a redirect met no mark
isnt_dropped : (drops : Bool) → (drops || false) ≡ false → drops ≡ false
isnt_dropped true e = cc
isnt_dropped false e = refl

-- in the cycle of a redirect an answer is dropped without a mark, too
or_true : (b : Bool) → (b || true) ≡ true
or_true true = refl
or_true false = refl

-- so the order is kept by the answer of a cycle, and by a whole cycle
in_filled : (words : ℕ → ℕ) (ans : WordAns) (redirect : Option ℕ) (f : Prefetch) → f.f_addr < 2 ^ 32
    → AnswersFor words ans redirect f → IsInOrder words f → IsInOrder words (fetch_after_answer ans redirect f)
unfolding turned
in_filled words ans None f fits is i =
    in_received words ans.valid (f.f_drop || false) (entry_of ans.err ans.word) f fits
    (λ valid dropped. none_awaited f.f_drop f.f_busy dropped)
    (λ valid kept. let outstanding = is valid kept in (isnt_dropped f.f_drop kept, outstanding.0, outstanding.1)) i
in_filled words ans (Some target) f fits is i =
    in_received words ans.valid (f.f_drop || true) (entry_of ans.err ans.word) (turned (Some target) f) fits
    (λ valid dropped. awaited_none f.f_busy)
    (λ valid kept. let no_ : true ≡ false = sym (or_true f.f_drop) ∙ kept in cc) (in_turned words (Some target) f i)

-- a cycle of which no more parcels are taken than are offered leaves the words in order
pub in_order : (words : ℕ → ℕ) (ans : WordAns) (redirect : Option ℕ) (taken : ℕ) (f : Prefetch) → IsWithin f
    → IsInOrder words f → AnswersFor words ans redirect f → taken ≤ 2 → taken ≤ length (offered ans redirect f)
    → IsInOrder words (prefetch_next ans redirect taken f)
unfolding prefetch_next
in_order words ans redirect taken f within i is most ready =
    let g : Prefetch = fetch_after_answer ans redirect f in
    let h : Prefetch = requested (request_of g) g in
    let count : h.buf_count ≤ 3 =
    omega (arith, requested_count (request_of g) g, filled_count ans redirect f within.buf_count) in
    let parcels : length (offered ans redirect f) ≡ length (parcels_of h) =
    ap length (offered_is ans redirect f within.buf_count ∙ sym (requested_parcels (request_of g) g)) in
    let there : length (parcels_of h) ≡ 2 * h.buf_count - h.head_pc / 2 % 2 =
    length_parcels h.f_busy h.f_fresh h.f_drop h.f_addr h.buf0 h.buf1 h.buf2 h.buf_count h.head_pc (h.head_pc / 2 % 2)
    count (omega arith) in
    in_took words taken h most (omega arith)
    (in_requested words g.f_busy g.f_fresh g.f_drop g.f_addr g.buf0 g.buf1 g.buf2 g.buf_count g.head_pc
    (in_filled words ans redirect f within.f_addr is i))

-- ---- the head

-- a parcel by its three parts, the parameters in their order
abbrev parcel : Bool → ℕ → ℕ → Parcel
parcel ready word half =
    record { ready = ready; err = not (word / 2 ^ 32 == 0); half = word / 2 ^ (16 * half) % 2 ^ 16 }

-- a half that is ready is that of its word
shown_at : (words : ℕ → ℕ) (g : Prefetch) (h : ℕ) → IsInOrder words g → (held_parcel g h).ready ≡ true
    → held_parcel g h ≡ half_of (words (place g (h / 2))) (h % 2)
shown_at words g h i ready =
    ap (λ r. parcel r (held_word g (h / 2)) (h % 2)) ready
    ∙ ap (λ w. parcel true w (h % 2)) (i.held (h / 2) (ltb-true (h / 2) g.buf_count ready))

-- a head of ordered words shows the parcels at the program counter and after it, also once the answer of the cycle
-- came
pub offers : (words : ℕ → ℕ) (g : Prefetch) → g.head_pc < 2 ^ 32 → IsInOrder words g
    → OffersFrom words g.head_pc (head_of g)
unfolding head_of
offers words g fits i =
    let pc = g.head_pc in
    record {
      first = λ ready.
          let there : (pc / 4 * 4 + 4 * (pc / 2 % 2 / 2)) % 2 ^ 32 ≡ pc / 4 * 4 = omega arith in
          let half : pc / 2 % 2 % 2 ≡ pc / 2 % 2 = omega arith in
          shown_at words g (pc / 2 % 2) i ready
          ∙ ap (λ a. half_of (words a) (pc / 2 % 2 % 2)) there ∙ ap (half_of (words (pc / 4 * 4))) half;
      second = λ ready.
          let past = (pc + 2) % 2 ^ 32 in
          let there : (pc / 4 * 4 + 4 * ((pc / 2 % 2 + 1) / 2)) % 2 ^ 32 ≡ past / 4 * 4 = omega arith in
          let half : (pc / 2 % 2 + 1) % 2 ≡ past / 2 % 2 = omega arith in
          shown_at words g (pc / 2 % 2 + 1) i ready
          ∙ ap (λ a. half_of (words a) ((pc / 2 % 2 + 1) % 2)) there ∙ ap (half_of (words (past / 4 * 4))) half;
    }

-- without a redirect, what came in the cycle is shown from the old program counter on
pub head_offers : (words : ℕ → ℕ) (ans : WordAns) (f : Prefetch) → IsWithin f → IsInOrder words f
    → AnswersFor words ans None f → OffersFrom words f.head_pc (head_of (fetch_after_answer ans None f))
head_offers words ans f within i is =
    let g : Prefetch = fetch_after_answer ans None f in
    let same : g.head_pc ≡ f.head_pc = filled_pc ans f in
    subst (λ (pc : ℕ). OffersFrom words pc (head_of g)) same
    (offers words g (omega (arith, within.head_pc)) (in_filled words ans None f within.f_addr is i))
