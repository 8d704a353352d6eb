-- The buffer as a queue of parcels.
use Rattle.std.proofs.Common.{◌≡◌, ℕ, zero, suc, ◌+◌, ◌*◌, ◌/◌, ◌%◌, ◌^◌, ◌<◌, ◌≤◌, Bool, true, false, ◌||◌, nat_le}
use Rattle.std.proofs.Common.{[], ◌++◌, take, drop, Option, Some, None, refl, sym, ◌∙◌, ap, subst, arith}
use Rattle.std.specs.Prelude.{slice_get}
use Rattle.std.proofs.lemmas.Bool.{lt-ltb}
use Rattle.ibx_prefetch.specs.declared.buffer.Prefetch.{Prefetch}
use Rattle.ibx_prefetch.specs.declared.buffer.WordAns.{WordAns}
use Rattle.ibx_prefetch.specs.Buffer.{entry_of, turned, pushed, received, held_parcel, head_of, request_of, requested}
use Rattle.ibx_prefetch.specs.Buffer.{popped, took, fetch_after_answer, prefetch_next}
use Rattle.ibx_prefetch.specs.Parcels.{words_of, parcels_in, parcels_from, parcels_of, came, offered, ready_of}
use Rattle.ibx_prefetch.proofs.Requests.{buffer}

-- ---- the parcels that are shown

-- an answer leaves the program counter
received_pc : (valid dropped : Bool) (entry : ℕ) (busy fresh drop : Bool) (addr w0 w1 w2 count pc : ℕ)
    → (received valid dropped entry (buffer busy fresh drop addr w0 w1 w2 count pc)).head_pc ≡ pc
unfolding received pushed
received_pc false dropped entry busy fresh drop addr w0 w1 w2 count pc = refl
received_pc true true entry busy fresh drop addr w0 w1 w2 count pc = refl
received_pc true false entry busy fresh drop addr w0 w1 w2 zero pc = refl
received_pc true false entry busy fresh drop addr w0 w1 w2 (suc zero) pc = refl
received_pc true false entry busy fresh drop addr w0 w1 w2 (suc (suc zero)) pc = refl
received_pc true false entry busy fresh drop addr w0 w1 w2 (suc (suc (suc m))) pc = refl

-- parcel n, 0 or 1, of the head is the one offered there
abbrev ShowsAt : Bool → Bool → Bool → ℕ → ℕ → ℕ → ℕ → ℕ → ℕ → Bool → ℕ → ℕ → ℕ → Type 0
ShowsAt busy fresh drops addr w0 w1 w2 count pc valid entry b n =
    ready_of (held_parcel (received valid (drops || false) entry (buffer busy fresh drops addr w0 w1 w2 count pc))
    (b + n))
    ≡ slice_get (drop b (parcels_in (take 3
    (words_of (buffer busy fresh drops addr w0 w1 w2 count pc) ++ came valid drops entry)))) n

-- each of the two is, by how many words are held
shows_by : (busy fresh drops : Bool) (addr w0 w1 w2 count pc : ℕ) (valid : Bool) (entry b n : ℕ) → b < 2 → n < 2
    → ShowsAt busy fresh drops addr w0 w1 w2 count pc valid entry b n
unfolding received pushed parcels_in
shows_by busy fresh true addr w0 w1 w2 zero pc true entry zero zero below within = refl
shows_by busy fresh true addr w0 w1 w2 zero pc true entry zero (suc zero) below within = refl
shows_by busy fresh true addr w0 w1 w2 zero pc true entry (suc zero) zero below within = refl
shows_by busy fresh true addr w0 w1 w2 zero pc true entry (suc zero) (suc zero) below within = refl
shows_by busy fresh true addr w0 w1 w2 (suc zero) pc true entry zero zero below within = refl
shows_by busy fresh true addr w0 w1 w2 (suc zero) pc true entry zero (suc zero) below within = refl
shows_by busy fresh true addr w0 w1 w2 (suc zero) pc true entry (suc zero) zero below within = refl
shows_by busy fresh true addr w0 w1 w2 (suc zero) pc true entry (suc zero) (suc zero) below within = refl
shows_by busy fresh true addr w0 w1 w2 (suc (suc zero)) pc true entry zero zero below within = refl
shows_by busy fresh true addr w0 w1 w2 (suc (suc zero)) pc true entry zero (suc zero) below within = refl
shows_by busy fresh true addr w0 w1 w2 (suc (suc zero)) pc true entry (suc zero) zero below within = refl
shows_by busy fresh true addr w0 w1 w2 (suc (suc zero)) pc true entry (suc zero) (suc zero) below within = refl
shows_by busy fresh true addr w0 w1 w2 (suc (suc (suc m))) pc true entry zero zero below within =
    rw (lt-ltb 0 (suc (suc (suc m))) (omega arith)) refl
shows_by busy fresh true addr w0 w1 w2 (suc (suc (suc m))) pc true entry zero (suc zero) below within =
    rw (lt-ltb 0 (suc (suc (suc m))) (omega arith)) refl
shows_by busy fresh true addr w0 w1 w2 (suc (suc (suc m))) pc true entry (suc zero) zero below within =
    rw (lt-ltb 0 (suc (suc (suc m))) (omega arith)) refl
shows_by busy fresh true addr w0 w1 w2 (suc (suc (suc m))) pc true entry (suc zero) (suc zero) below within =
    rw (lt-ltb 1 (suc (suc (suc m))) (omega arith)) refl
shows_by busy fresh false addr w0 w1 w2 zero pc true entry zero zero below within = refl
shows_by busy fresh false addr w0 w1 w2 zero pc true entry zero (suc zero) below within = refl
shows_by busy fresh false addr w0 w1 w2 zero pc true entry (suc zero) zero below within = refl
shows_by busy fresh false addr w0 w1 w2 zero pc true entry (suc zero) (suc zero) below within = refl
shows_by busy fresh false addr w0 w1 w2 (suc zero) pc true entry zero zero below within = refl
shows_by busy fresh false addr w0 w1 w2 (suc zero) pc true entry zero (suc zero) below within = refl
shows_by busy fresh false addr w0 w1 w2 (suc zero) pc true entry (suc zero) zero below within = refl
shows_by busy fresh false addr w0 w1 w2 (suc zero) pc true entry (suc zero) (suc zero) below within = refl
shows_by busy fresh false addr w0 w1 w2 (suc (suc zero)) pc true entry zero zero below within = refl
shows_by busy fresh false addr w0 w1 w2 (suc (suc zero)) pc true entry zero (suc zero) below within = refl
shows_by busy fresh false addr w0 w1 w2 (suc (suc zero)) pc true entry (suc zero) zero below within = refl
shows_by busy fresh false addr w0 w1 w2 (suc (suc zero)) pc true entry (suc zero) (suc zero) below within = refl
shows_by busy fresh false addr w0 w1 w2 (suc (suc (suc m))) pc true entry zero zero below within =
    rw (lt-ltb 0 (suc (suc (suc m))) (omega arith)) refl
shows_by busy fresh false addr w0 w1 w2 (suc (suc (suc m))) pc true entry zero (suc zero) below within =
    rw (lt-ltb 0 (suc (suc (suc m))) (omega arith)) refl
shows_by busy fresh false addr w0 w1 w2 (suc (suc (suc m))) pc true entry (suc zero) zero below within =
    rw (lt-ltb 0 (suc (suc (suc m))) (omega arith)) refl
shows_by busy fresh false addr w0 w1 w2 (suc (suc (suc m))) pc true entry (suc zero) (suc zero) below within =
    rw (lt-ltb 1 (suc (suc (suc m))) (omega arith)) refl
shows_by busy fresh drops addr w0 w1 w2 zero pc false entry zero zero below within = refl
shows_by busy fresh drops addr w0 w1 w2 zero pc false entry zero (suc zero) below within = refl
shows_by busy fresh drops addr w0 w1 w2 zero pc false entry (suc zero) zero below within = refl
shows_by busy fresh drops addr w0 w1 w2 zero pc false entry (suc zero) (suc zero) below within = refl
shows_by busy fresh drops addr w0 w1 w2 (suc zero) pc false entry zero zero below within = refl
shows_by busy fresh drops addr w0 w1 w2 (suc zero) pc false entry zero (suc zero) below within = refl
shows_by busy fresh drops addr w0 w1 w2 (suc zero) pc false entry (suc zero) zero below within = refl
shows_by busy fresh drops addr w0 w1 w2 (suc zero) pc false entry (suc zero) (suc zero) below within = refl
shows_by busy fresh drops addr w0 w1 w2 (suc (suc zero)) pc false entry zero zero below within = refl
shows_by busy fresh drops addr w0 w1 w2 (suc (suc zero)) pc false entry zero (suc zero) below within = refl
shows_by busy fresh drops addr w0 w1 w2 (suc (suc zero)) pc false entry (suc zero) zero below within = refl
shows_by busy fresh drops addr w0 w1 w2 (suc (suc zero)) pc false entry (suc zero) (suc zero) below within = refl
shows_by busy fresh drops addr w0 w1 w2 (suc (suc (suc m))) pc false entry zero zero below within =
    rw (lt-ltb 0 (suc (suc (suc m))) (omega arith)) refl
shows_by busy fresh drops addr w0 w1 w2 (suc (suc (suc m))) pc false entry zero (suc zero) below within =
    rw (lt-ltb 0 (suc (suc (suc m))) (omega arith)) refl
shows_by busy fresh drops addr w0 w1 w2 (suc (suc (suc m))) pc false entry (suc zero) zero below within =
    rw (lt-ltb 0 (suc (suc (suc m))) (omega arith)) refl
shows_by busy fresh drops addr w0 w1 w2 (suc (suc (suc m))) pc false entry (suc zero) (suc zero) below within =
    rw (lt-ltb 1 (suc (suc (suc m))) (omega arith)) refl
shows_by busy fresh drops addr w0 w1 w2 count pc valid entry b (suc (suc n)) below within = absurd (omega arith)
shows_by busy fresh drops addr w0 w1 w2 count pc valid entry (suc (suc b)) n below within = absurd (omega arith)

-- without a redirect, half n from the program counter on is ready where an n-th parcel is offered
shows : (ans : WordAns) (f : Prefetch) (n : ℕ) → n < 2
    → ready_of (held_parcel (received ans.valid (f.f_drop || false) (entry_of ans.err ans.word) f)
    (f.head_pc / 2 % 2 + n)) ≡ slice_get (offered ans None f) n
shows ans f n within =
    shows_by f.f_busy f.f_fresh f.f_drop f.f_addr f.buf0 f.buf1 f.buf2 f.buf_count f.head_pc ans.valid
    (entry_of ans.err ans.word) (f.head_pc / 2 % 2) n (omega arith) within

-- so without a redirect the program counter is still the same once the answer of the cycle came
pub filled_pc : (ans : WordAns) (f : Prefetch) → (fetch_after_answer ans None f).head_pc ≡ f.head_pc
unfolding turned
filled_pc ans f = received_pc ans.valid (f.f_drop || false) (entry_of ans.err ans.word) f.f_busy f.f_fresh f.f_drop
    f.f_addr f.buf0 f.buf1 f.buf2 f.buf_count f.head_pc

-- the first parcel of the head is the first that is offered, and isn't ready where none is
pub first_shown : (ans : WordAns) (f : Prefetch)
    → ready_of (head_of (fetch_after_answer ans None f)).first ≡ slice_get (offered ans None f) 0
unfolding head_of turned
first_shown ans f =
    let g : Prefetch = fetch_after_answer ans None f in
    let place : f.head_pc / 2 % 2 + 0 ≡ g.head_pc / 2 % 2 = omega (arith, filled_pc ans f) in
    subst (λ h. ready_of (held_parcel g h) ≡ slice_get (offered ans None f) 0) place (shows ans f 0 (omega arith))

-- its second parcel is the one offered next, in the same word or the one after
pub second_shown : (ans : WordAns) (f : Prefetch)
    → ready_of (head_of (fetch_after_answer ans None f)).second ≡ slice_get (offered ans None f) 1
unfolding head_of turned
second_shown ans f =
    let g : Prefetch = fetch_after_answer ans None f in
    let place : f.head_pc / 2 % 2 + 1 ≡ g.head_pc / 2 % 2 + 1 = omega (arith, filled_pc ans f) in
    subst (λ h. ready_of (held_parcel g h) ≡ slice_get (offered ans None f) 1) place (shows ans f 1 (omega arith))

-- ---- the parcels that are left

-- a buffer without words has no parcels
drop_none : (b : ℕ) → b < 2 → drop b (parcels_in []) ≡ []
unfolding parcels_in
drop_none zero lt = refl
drop_none (suc zero) lt = refl
drop_none (suc (suc b)) lt = absurd (omega arith)

-- the parcels that are offered are those held after the answer, in a buffer that holds three words at most
offered_by : (valid drops : Bool) (entry : ℕ) (busy fresh : Bool) (addr w0 w1 w2 count pc : ℕ) → count ≤ 3
    → parcels_from pc (take 3 (words_of (buffer busy fresh drops addr w0 w1 w2 count pc) ++ came valid drops entry))
    ≡ parcels_of (received valid (drops || false) entry (buffer busy fresh drops addr w0 w1 w2 count pc))
unfolding received pushed
offered_by true true entry busy fresh addr w0 w1 w2 zero pc le = refl
offered_by true true entry busy fresh addr w0 w1 w2 (suc zero) pc le = refl
offered_by true true entry busy fresh addr w0 w1 w2 (suc (suc zero)) pc le = refl
offered_by true true entry busy fresh addr w0 w1 w2 (suc (suc (suc zero))) pc le = refl
offered_by true false entry busy fresh addr w0 w1 w2 zero pc le = refl
offered_by true false entry busy fresh addr w0 w1 w2 (suc zero) pc le = refl
offered_by true false entry busy fresh addr w0 w1 w2 (suc (suc zero)) pc le = refl
offered_by true false entry busy fresh addr w0 w1 w2 (suc (suc (suc zero))) pc le = refl
offered_by false drops entry busy fresh addr w0 w1 w2 zero pc le = refl
offered_by false drops entry busy fresh addr w0 w1 w2 (suc zero) pc le = refl
offered_by false drops entry busy fresh addr w0 w1 w2 (suc (suc zero)) pc le = refl
offered_by false drops entry busy fresh addr w0 w1 w2 (suc (suc (suc zero))) pc le = refl
offered_by valid drops entry busy fresh addr w0 w1 w2 (suc (suc (suc (suc m)))) pc le = absurd (omega arith)

-- after a redirect nothing is held, and in any cycle the offered parcels are those held after the answer
offered_turn : (valid drops : Bool) (entry : ℕ) (busy : Bool) (addr target : ℕ)
    → parcels_of (received valid (drops || true) entry (buffer busy true busy addr 0 0 0 0 target)) ≡ []
unfolding received
offered_turn false drops entry busy addr target = drop_none (target / 2 % 2) (omega arith)
offered_turn true true entry busy addr target = drop_none (target / 2 % 2) (omega arith)
offered_turn true false entry busy addr target = drop_none (target / 2 % 2) (omega arith)

-- a redirect offers none and leaves none, and any other cycle offers all that it holds
pub offered_is : (ans : WordAns) (redirect : Option ℕ) (f : Prefetch) → f.buf_count ≤ 3
    → offered ans redirect f ≡ parcels_of (fetch_after_answer ans redirect f)
unfolding turned
offered_is ans None f le = offered_by ans.valid f.f_drop (entry_of ans.err ans.word) f.f_busy f.f_fresh f.f_addr f.buf0
    f.buf1 f.buf2 f.buf_count f.head_pc le
offered_is ans (Some target) f le =
    sym (offered_turn ans.valid f.f_drop (entry_of ans.err ans.word) f.f_busy f.f_addr target)

-- a request leaves what is held
pub requested_parcels : (request : Option ℕ) (g : Prefetch) → parcels_of (requested request g) ≡ parcels_of g
unfolding requested
requested_parcels None g = refl
requested_parcels (Some addr) g = refl

-- a word that is requested takes a place in the buffer only once it comes
pub requested_count : (request : Option ℕ) (g : Prefetch) → (requested request g).buf_count ≡ g.buf_count
unfolding requested
requested_count None g = refl
requested_count (Some addr) g = refl

-- taking n parcels takes the first n from the queue
popped_by : (busy fresh drops : Bool) (addr w0 w1 w2 count pc b n : ℕ) → count ≤ 3 → b < 2 → n ≤ 2
    → drop ((b + n) % 2) (parcels_in (words_of
    (popped (nat_le 2 (b + n)) (buffer busy fresh drops addr w0 w1 w2 count pc))))
    ≡ drop n (drop b (parcels_in (words_of (buffer busy fresh drops addr w0 w1 w2 count pc))))
unfolding popped parcels_in
popped_by busy fresh drops addr w0 w1 w2 zero pc zero zero le lt most = refl
popped_by busy fresh drops addr w0 w1 w2 zero pc zero (suc zero) le lt most = refl
popped_by busy fresh drops addr w0 w1 w2 zero pc zero (suc (suc zero)) le lt most = refl
popped_by busy fresh drops addr w0 w1 w2 zero pc (suc zero) zero le lt most = refl
popped_by busy fresh drops addr w0 w1 w2 zero pc (suc zero) (suc zero) le lt most = refl
popped_by busy fresh drops addr w0 w1 w2 zero pc (suc zero) (suc (suc zero)) le lt most = refl
popped_by busy fresh drops addr w0 w1 w2 (suc zero) pc zero zero le lt most = refl
popped_by busy fresh drops addr w0 w1 w2 (suc zero) pc zero (suc zero) le lt most = refl
popped_by busy fresh drops addr w0 w1 w2 (suc zero) pc zero (suc (suc zero)) le lt most = refl
popped_by busy fresh drops addr w0 w1 w2 (suc zero) pc (suc zero) zero le lt most = refl
popped_by busy fresh drops addr w0 w1 w2 (suc zero) pc (suc zero) (suc zero) le lt most = refl
popped_by busy fresh drops addr w0 w1 w2 (suc zero) pc (suc zero) (suc (suc zero)) le lt most = refl
popped_by busy fresh drops addr w0 w1 w2 (suc (suc zero)) pc zero zero le lt most = refl
popped_by busy fresh drops addr w0 w1 w2 (suc (suc zero)) pc zero (suc zero) le lt most = refl
popped_by busy fresh drops addr w0 w1 w2 (suc (suc zero)) pc zero (suc (suc zero)) le lt most = refl
popped_by busy fresh drops addr w0 w1 w2 (suc (suc zero)) pc (suc zero) zero le lt most = refl
popped_by busy fresh drops addr w0 w1 w2 (suc (suc zero)) pc (suc zero) (suc zero) le lt most = refl
popped_by busy fresh drops addr w0 w1 w2 (suc (suc zero)) pc (suc zero) (suc (suc zero)) le lt most = refl
popped_by busy fresh drops addr w0 w1 w2 (suc (suc (suc zero))) pc zero zero le lt most = refl
popped_by busy fresh drops addr w0 w1 w2 (suc (suc (suc zero))) pc zero (suc zero) le lt most = refl
popped_by busy fresh drops addr w0 w1 w2 (suc (suc (suc zero))) pc zero (suc (suc zero)) le lt most = refl
popped_by busy fresh drops addr w0 w1 w2 (suc (suc (suc zero))) pc (suc zero) zero le lt most = refl
popped_by busy fresh drops addr w0 w1 w2 (suc (suc (suc zero))) pc (suc zero) (suc zero) le lt most = refl
popped_by busy fresh drops addr w0 w1 w2 (suc (suc (suc zero))) pc (suc zero) (suc (suc zero)) le lt most = refl
popped_by busy fresh drops addr w0 w1 w2 (suc (suc (suc (suc m)))) pc b n le lt most = absurd (omega arith)
popped_by busy fresh drops addr w0 w1 w2 count pc (suc (suc b)) n le lt most = absurd (omega arith)
popped_by busy fresh drops addr w0 w1 w2 count pc b (suc (suc (suc n))) le lt most = absurd (omega arith)

-- once n parcels are taken the queue begins behind them, at the moved program counter
took_parcels : (n : ℕ) (g : Prefetch) → g.buf_count ≤ 3 → n ≤ 2 → parcels_of (took n g) ≡ drop n (parcels_of g)
took_parcels n g le most =
    let b = g.head_pc / 2 % 2 in
    let half : (b + n) % 2 ≡ (g.head_pc + 2 * n) % 2 ^ 32 / 2 % 2 = omega arith in
    subst (λ h. drop h (parcels_in (words_of (popped (nat_le 2 (b + n)) g))) ≡ drop n (parcels_of g)) half
    (popped_by g.f_busy g.f_fresh g.f_drop g.f_addr g.buf0 g.buf1 g.buf2 g.buf_count g.head_pc b n le (omega arith)
    most)

-- ---- the widths

-- at most three words are held after an answer
received_count : (valid dropped : Bool) (entry : ℕ) (busy fresh drop : Bool) (addr w0 w1 w2 count pc : ℕ) → count ≤ 3
    → (received valid dropped entry (buffer busy fresh drop addr w0 w1 w2 count pc)).buf_count ≤ 3
unfolding received pushed
received_count false dropped entry busy fresh drop addr w0 w1 w2 count pc le = le
received_count true true entry busy fresh drop addr w0 w1 w2 count pc le = le
received_count true false entry busy fresh drop addr w0 w1 w2 zero pc le = omega arith
received_count true false entry busy fresh drop addr w0 w1 w2 (suc zero) pc le = omega arith
received_count true false entry busy fresh drop addr w0 w1 w2 (suc (suc zero)) pc le = omega arith
received_count true false entry busy fresh drop addr w0 w1 w2 (suc (suc (suc n))) pc le = le

-- nor are there more after the redirect and the answer of a cycle
pub filled_count : (ans : WordAns) (redirect : Option ℕ) (f : Prefetch) → f.buf_count ≤ 3
    → (fetch_after_answer ans redirect f).buf_count ≤ 3
unfolding turned
filled_count ans None f le =
    received_count ans.valid (f.f_drop || false) (entry_of ans.err ans.word) f.f_busy f.f_fresh f.f_drop f.f_addr
    f.buf0 f.buf1 f.buf2 f.buf_count f.head_pc le
filled_count ans (Some target) f le =
    received_count ans.valid (f.f_drop || true) (entry_of ans.err ans.word) f.f_busy true f.f_busy f.f_addr 0 0 0 0
    target (omega arith)

-- a whole cycle: the parcels that are left are those offered without the ones taken
pub queue : (ans : WordAns) (redirect : Option ℕ) (taken : ℕ) (f : Prefetch) → f.buf_count ≤ 3 → taken ≤ 2
    → parcels_of (prefetch_next ans redirect taken f) ≡ drop taken (offered ans redirect f)
unfolding prefetch_next
queue ans redirect taken f le most =
    let g : Prefetch = fetch_after_answer ans redirect f in
    let count : (requested (request_of g) g).buf_count ≤ 3 =
    omega (arith, requested_count (request_of g) g, filled_count ans redirect f le) in
    took_parcels taken (requested (request_of g) g) count most
    ∙ ap (drop taken) (requested_parcels (request_of g) g ∙ sym (offered_is ans redirect f le))
