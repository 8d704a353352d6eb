-- The rule of requests.
use Rattle.std.proofs.Common.{◌≡◌, ℕ, zero, suc, ◌+◌, ◌*◌, ◌/◌, ◌%◌, ◌^◌, ◌<◌, ◌≤◌, Bool, true, false, Option, Some}
use Rattle.std.proofs.Common.{None, refl, arith}
use Rattle.std.proofs.lemmas.Bool.{le-ltb}
use Rattle.ibx_prefetch.specs.declared.buffer.Prefetch.{Prefetch}
use Rattle.ibx_prefetch.specs.declared.buffer.WordAns.{WordAns}
use Rattle.ibx_prefetch.specs.Buffer.{turned, pushed, received, request_of, fetch_after_answer}
use Rattle.ibx_prefetch.specs.Parcels.{Issues, is_waiting, filled}

-- ---- the five answers, each where it is due

-- one outstanding; a redirect; the first word after one; the word after the last; and no room
waiting : (ans : WordAns) (redirect : Option ℕ) (f : Prefetch) → is_waiting ans f ≡ true → Issues ans redirect f None
waiting ans redirect f w = record {
  waits = λ e. refl;
  turns = λ target e r. cc;
  begins = λ e r fresh. cc;
  follows = λ e r fresh lt. cc;
  full = λ e r fresh le. refl;
}

-- unless an answer is still to come, a redirect requests the target's word in its own cycle
turning : (ans : WordAns) (target : ℕ) (f : Prefetch) → is_waiting ans f ≡ false
    → Issues ans (Some target) f (Some (target / 4 * 4))
turning ans target f w = record {
  waits = λ e. cc;
  turns = λ other e r. cc;
  begins = λ e r fresh. cc;
  follows = λ e r fresh lt. cc;
  full = λ e r fresh le. cc;
}

-- where nothing was requested since the redirect, the program counter's word comes first
beginning : (ans : WordAns) (f : Prefetch) → is_waiting ans f ≡ false → f.f_fresh ≡ true
    → Issues ans None f (Some (f.head_pc / 4 * 4))
beginning ans f w is = record {
  waits = λ e. cc;
  turns = λ target e r. cc;
  begins = λ e r fresh. refl;
  follows = λ e r fresh lt. cc;
  full = λ e r fresh le. cc;
}

-- with room for a word the one after the last is requested, and address 0 after the highest
following : (ans : WordAns) (f : Prefetch) → is_waiting ans f ≡ false → f.f_fresh ≡ false → filled ans f < 3
    → Issues ans None f (Some ((f.f_addr / 4 * 4 + 4) % 2 ^ 32))
following ans f w is room = record {
  waits = λ e. cc;
  turns = λ target e r. cc;
  begins = λ e r fresh. cc;
  follows = λ e r fresh lt. refl;
  full = λ e r fresh le. absurd (omega arith);
}

-- three words held or coming leave no room, so that nothing is requested
holding : (ans : WordAns) (f : Prefetch) → is_waiting ans f ≡ false → f.f_fresh ≡ false → 3 ≤ filled ans f
    → Issues ans None f None
holding ans f w is full = record {
  waits = λ e. refl;
  turns = λ target e r. cc;
  begins = λ e r fresh. cc;
  follows = λ e r fresh lt. absurd (omega arith);
  full = λ e r fresh le. refl;
}

-- ---- each is given

-- the fields, and an answer, by their parts in their order
abbrev pub buffer : Bool → Bool → Bool → ℕ → ℕ → ℕ → ℕ → ℕ → ℕ → Prefetch
buffer busy fresh drop addr w0 w1 w2 count pc =
    record {
      f_busy = busy;
      f_fresh = fresh;
      f_drop = drop;
      f_addr = addr;
      buf0 = w0;
      buf1 = w1;
      buf2 = w2;
      buf_count = count;
      head_pc = pc;
    }

-- an answer to the buffer by its fields
abbrev pub answer : Bool → Bool → ℕ → WordAns
answer valid err word = record { valid = valid; err = err; word = word }

-- the request of a cycle is the one that the rule asks for
abbrev IsIssued : WordAns → Option ℕ → Prefetch → Type 0
IsIssued ans redirect f = Issues ans redirect f (request_of (fetch_after_answer ans redirect f))

-- a redirect, whatever is outstanding
at_turn : (busy fresh drop : Bool) (addr w0 w1 w2 count pc : ℕ) (valid err : Bool) (word target : ℕ)
    → IsIssued (answer valid err word) (Some target) (buffer busy fresh drop addr w0 w1 w2 count pc)
unfolding turned received request_of
at_turn true fresh true addr w0 w1 w2 count pc true err word target = turning _ target _ refl
at_turn true fresh false addr w0 w1 w2 count pc true err word target = turning _ target _ refl
at_turn false fresh true addr w0 w1 w2 count pc true err word target = turning _ target _ refl
at_turn false fresh false addr w0 w1 w2 count pc true err word target = turning _ target _ refl
at_turn true fresh drop addr w0 w1 w2 count pc false err word target = waiting _ (Some target) _ refl
at_turn false fresh drop addr w0 w1 w2 count pc false err word target = turning _ target _ refl

-- a cycle without an answer
silent : (busy fresh drop : Bool) (addr w0 w1 w2 count pc : ℕ) (err : Bool) (word : ℕ)
    → IsIssued (answer false err word) None (buffer busy fresh drop addr w0 w1 w2 count pc)
unfolding turned received request_of
silent true fresh drop addr w0 w1 w2 count pc err word = waiting _ None _ refl
silent false true drop addr w0 w1 w2 count pc err word = beginning _ _ refl refl
silent false false drop addr w0 w1 w2 zero pc err word = following _ _ refl refl (omega arith)
silent false false drop addr w0 w1 w2 (suc zero) pc err word = following _ _ refl refl (omega arith)
silent false false drop addr w0 w1 w2 (suc (suc zero)) pc err word = following _ _ refl refl (omega arith)
silent false false drop addr w0 w1 w2 (suc (suc (suc n))) pc err word =
    rw (le-ltb (suc (suc (suc n))) 3 (omega arith)) (holding _ _ refl refl (omega arith))

-- one whose answer is dropped
dropping : (busy fresh : Bool) (addr w0 w1 w2 count pc : ℕ) (err : Bool) (word : ℕ)
    → IsIssued (answer true err word) None (buffer busy fresh true addr w0 w1 w2 count pc)
unfolding turned received request_of
dropping true true addr w0 w1 w2 count pc err word = beginning _ _ refl refl
dropping false true addr w0 w1 w2 count pc err word = beginning _ _ refl refl
dropping true false addr w0 w1 w2 zero pc err word = following _ _ refl refl (omega arith)
dropping false false addr w0 w1 w2 zero pc err word = following _ _ refl refl (omega arith)
dropping true false addr w0 w1 w2 (suc zero) pc err word = following _ _ refl refl (omega arith)
dropping false false addr w0 w1 w2 (suc zero) pc err word = following _ _ refl refl (omega arith)
dropping true false addr w0 w1 w2 (suc (suc zero)) pc err word = following _ _ refl refl (omega arith)
dropping false false addr w0 w1 w2 (suc (suc zero)) pc err word = following _ _ refl refl (omega arith)
dropping true false addr w0 w1 w2 (suc (suc (suc n))) pc err word =
    rw (le-ltb (suc (suc (suc n))) 3 (omega arith)) (holding _ _ refl refl (omega arith))
dropping false false addr w0 w1 w2 (suc (suc (suc n))) pc err word =
    rw (le-ltb (suc (suc (suc n))) 3 (omega arith)) (holding _ _ refl refl (omega arith))

-- a cycle whose answer is held
holds : (busy fresh : Bool) (addr w0 w1 w2 count pc : ℕ) (err : Bool) (word : ℕ)
    → IsIssued (answer true err word) None (buffer busy fresh false addr w0 w1 w2 count pc)
unfolding turned pushed received request_of
holds true true addr w0 w1 w2 zero pc err word = beginning _ _ refl refl
holds true true addr w0 w1 w2 (suc zero) pc err word = beginning _ _ refl refl
holds true true addr w0 w1 w2 (suc (suc zero)) pc err word = beginning _ _ refl refl
holds true true addr w0 w1 w2 (suc (suc (suc n))) pc err word = beginning _ _ refl refl
holds true false addr w0 w1 w2 zero pc err word = following _ _ refl refl (omega arith)
holds true false addr w0 w1 w2 (suc zero) pc err word = following _ _ refl refl (omega arith)
holds true false addr w0 w1 w2 (suc (suc zero)) pc err word = holding _ _ refl refl (omega arith)
holds true false addr w0 w1 w2 (suc (suc (suc n))) pc err word =
    rw (le-ltb (suc (suc (suc n))) 3 (omega arith)) (holding _ _ refl refl (omega arith))
holds false true addr w0 w1 w2 zero pc err word = beginning _ _ refl refl
holds false true addr w0 w1 w2 (suc zero) pc err word = beginning _ _ refl refl
holds false true addr w0 w1 w2 (suc (suc zero)) pc err word = beginning _ _ refl refl
holds false true addr w0 w1 w2 (suc (suc (suc n))) pc err word = beginning _ _ refl refl
holds false false addr w0 w1 w2 zero pc err word = following _ _ refl refl (omega arith)
holds false false addr w0 w1 w2 (suc zero) pc err word = following _ _ refl refl (omega arith)
holds false false addr w0 w1 w2 (suc (suc zero)) pc err word = holding _ _ refl refl (omega arith)
holds false false addr w0 w1 w2 (suc (suc (suc n))) pc err word =
    rw (le-ltb (suc (suc (suc n))) 3 (omega arith)) (holding _ _ refl refl (omega arith))

-- so each cycle's request is the one that is due
issued : (busy fresh drop : Bool) (addr w0 w1 w2 count pc : ℕ) (valid err : Bool) (word : ℕ) (redirect : Option ℕ)
    → IsIssued (answer valid err word) redirect (buffer busy fresh drop addr w0 w1 w2 count pc)
unfolding turned pushed received request_of
issued busy fresh drop addr w0 w1 w2 count pc valid err word (Some target) =
    at_turn busy fresh drop addr w0 w1 w2 count pc valid err word target
issued busy fresh drop addr w0 w1 w2 count pc false err word None =
    silent busy fresh drop addr w0 w1 w2 count pc err word
issued busy fresh true addr w0 w1 w2 count pc true err word None = dropping busy fresh addr w0 w1 w2 count pc err word
issued busy fresh false addr w0 w1 w2 count pc true err word None = holds busy fresh addr w0 w1 w2 count pc err word

-- the rule of requests holds in every state, also one that no run reaches
pub request_issues : (ans : WordAns) (redirect : Option ℕ) (f : Prefetch)
    → Issues ans redirect f (request_of (fetch_after_answer ans redirect f))
request_issues ans redirect f = issued f.f_busy f.f_fresh f.f_drop f.f_addr f.buf0 f.buf1 f.buf2 f.buf_count f.head_pc
    ans.valid ans.err ans.word redirect
