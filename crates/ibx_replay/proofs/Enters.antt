-- An item that enters keeps what the numbers stand for: it takes a word, and its writes come after what was read.
use Rattle.std.proofs.Common.{◌≡◌, ℕ, suc, ◌+◌, ◌-◌, ◌*◌, ◌%◌, ◌^◌, ◌<◌, ◌≤◌, Bool, true, false}
use Rattle.std.proofs.Common.{length, Option, Some, None, refl, sym, ap, ap₂, ◌∙◌, subst, arith, inl, inr}
use Rattle.std.proofs.Common.{nat_lt, if◌then◌else◌}
use Rattle.std.proofs.lemmas.Bool.{cases_lt, lt-ltb, le-ltb}
use Rattle.ibx_time.specs.Settings.{Settings}
use Rattle.ibx_time.specs.Requests.{made}
use Rattle.ibx_time.specs.Streams.{Stream, past, word_addr}
use Rattle.ibx_time.proofs.Times.{with_enter, past_more, requested_more, more_length}
use Rattle.ibx_replay.specs.Fetches.{Word, Line, Fetch, entered, word_again, line_again, addr_of, read_again}
use Rattle.ibx_replay.proofs.Serves.{IsCache, front}
use Rattle.ibx_replay.proofs.Gates.{gated_enter}
use Rattle.ibx_replay.proofs.Ports.{IsPlace}
use Rattle.ibx_replay.proofs.Fetched.{fill_in, AreRead, WordIs, FetchAt, Holds}

-- an item that enters at e, up to which the requests are made, takes the last half of the oldest word
pub take_keeps : (k : Settings) (reads : ℕ → ℕ → ℕ) (x : Stream) (q e : ℕ) (f : Fetch) → FetchAt k reads x q e f
    → 0 < f.count → FetchAt k reads (with_enter x e) q e (entered e f)
unfolding entered
take_keeps k reads x q e f h some =
    let same : past k (with_enter x e) q ≡ past k x q = past_more k x e q h.requested.within in
    record {
      requested = requested_more k x e q h.requested;
      gated = gated_enter k x q f.gate e h.gate_past h.requested h.gated;
      gate_past = omega arith;
      held = omega (arith, h.held, more_length x e, some);
      next = h.next;
      answer = h.answer ∙ ap (λ y. y.answer) (sym same);
      words = λ i l.
          let j = length x.enters + suc i in
          let w = h.words (suc i) (omega (arith, l)) in
          let at : j ≡ length (with_enter x e).enters + i = omega (arith, more_length x e) in
          let old = past_more k x e (suc j) (omega (arith, l, h.held, h.requested.within)) in
          subst (λ j. WordIs k reads (with_enter x e) j (f.words (suc i))) at (record {
            answer = w.answer ∙ ap (λ y. y.answer) (sym old);
            grant = w.grant ∙ ap (λ y. y.grant) (sym old);
            value = w.value;
          });
      port = subst (λ y. IsPlace k.plan.iwaits f.port (made y)) (sym same) h.port;
      cache = record {
        places = subst (λ y. IsCache y.fills (λ n. fill_in (f.lines n)) f.other_way (fill_in f.filling)) (sym same)
            h.cache.places;
        starts_is = h.cache.starts_is;
        lines = h.cache.lines;
        filling = h.cache.filling;
      };
      clean = h.clean;
      sound = h.sound;
    }

-- ---- the writes of an item, each in c or later

-- what was read up to c is the same
abbrev pub AreOld : (ℕ → ℕ → ℕ) → (ℕ → ℕ → ℕ) → ℕ → Type 0
AreOld reads new c = (g a : ℕ) → g ≤ c → reads g a ≡ new g a

-- a word is read again where it was granted after `since`
value_again : (reads new held : ℕ → ℕ → ℕ) (c since g a v : ℕ) → since ≤ c → AreOld reads new c
    → Holds held new (since + 1)
    → a < 2 ^ 32 → a % 4 ≡ 0 → v ≡ reads g a → (if nat_lt since g then held g a else v) ≡ new g a
value_again reads new held c since g a v low old m small even e = elim (cases_lt since g) [
  | inl late ↦ rw (lt-ltb since g late) (m g a (omega (arith, late)) small even)
  | inr early ↦ rw (le-ltb since g early) (e ∙ old g a (omega (arith, early, low)))
]

-- the rest of the word is as before
word_same : (b : Bool) (w : Word) (v : ℕ) (u : Word) → (if b then record w { value = v } else w) ≡ u
    → (u.answer ≡ w.answer) × ((u.grant ≡ w.grant) × (u.value ≡ (if b then v else w.value)))
word_same true w v u e = (ap (λ x. x.answer) (sym e), (ap (λ x. x.grant) (sym e), ap (λ x. x.value) (sym e)))
word_same false w v u e = (ap (λ x. x.answer) (sym e), (ap (λ x. x.grant) (sym e), ap (λ x. x.value) (sym e)))

-- the address of word i of those that are held
addr_is : (x : Stream) (m q count next i : ℕ) → m + count ≡ q → count ≤ 3 → i < count → next ≡ word_addr x q
    → (next + 2 ^ 32 - 4 * (count - i)) % 2 ^ 32 ≡ word_addr x (m + i)
addr_is x m q count next i e few low at = omega (arith, e, few, low, at)

-- a word that is read again where its grant is late is the word that memory held then
again_word : (k : Settings) (reads new held : ℕ → ℕ → ℕ) (x : Stream) (j c since a : ℕ) (w : Word) → since ≤ c
    → AreOld reads new c → Holds held new (since + 1) → a ≡ word_addr x j → WordIs k reads x j w
    → WordIs k new x j (word_again since held a w)
again_word k reads new held x j c since a w low old m at h =
    let p = word_same (nat_lt since w.grant) w (held w.grant a) (word_again since held a w) refl in
    record {
      answer = p.0 ∙ h.answer;
      grant = p.1.0 ∙ h.grant;
      value = p.1.1 ∙ value_again reads new held c since w.grant a w.value low old m (omega (arith, at))
          (omega (arith, at)) (h.value ∙ ap (reads w.grant) (sym at))
          ∙ ap₂ new (sym p.1.0) at;
    }

-- a line that was stored before c is as before
old_lines : (reads new : ℕ → ℕ → ℕ) (c : ℕ) (o : Option Line) → AreOld reads new c → AreRead reads c o
    → AreRead new c o
old_lines reads new c None old h = tt
old_lines reads new c (Some x) old h = record {
  low = h.low;
  word0 = h.word0 ∙ old x.grant0 (8 * x.line) (omega (arith, h.early0, h.stored));
  word1 = h.word1 ∙ old x.grant1 (8 * x.line + 4) (omega (arith, h.early1, h.stored));
  early0 = h.early0;
  early1 = h.early1;
  stored = h.stored;
}

-- and the one in flight is read again
again_line : (reads new held : ℕ → ℕ → ℕ) (c since v : ℕ) (o : Option Line) → since ≤ c → AreOld reads new c
    → Holds held new (since + 1) → AreRead reads v o → AreRead new v (line_again since held o)
again_line reads new held c since v None low old m h = tt
again_line reads new held c since v (Some x) low old m h = record {
  low = h.low;
  word0 = value_again reads new held c since x.grant0 (8 * x.line) x.word0 low old m (omega (arith, h.low))
      (omega arith)
      h.word0;
  word1 = value_again reads new held c since x.grant1 (8 * x.line + 4) x.word1 low old m (omega (arith, h.low))
      (omega arith) h.word1;
  early0 = h.early0;
  early1 = h.early1;
  stored = h.stored;
}

-- it is the same fill
again_fill : (since : ℕ) (held : ℕ → ℕ → ℕ) (o : Option Line) → fill_in o ≡ fill_in (line_again since held o)
again_fill since held None = refl
again_fill since held (Some x) = refl

-- So what is read again stands for the words of memory with the item's writes.
pub again_keeps : (k : Settings) (reads new held : ℕ → ℕ → ℕ) (x : Stream) (q c since : ℕ) (f : Fetch)
    → FetchAt k reads x q c f → since ≤ c → AreOld reads new c → Holds held new (since + 1)
    → FetchAt k new x q c (read_again since held f)
unfolding read_again
again_keeps k reads new held x q c since f h low old m = record {
  requested = h.requested;
  gated = h.gated;
  gate_past = h.gate_past;
  held = h.held;
  next = h.next;
  answer = h.answer;
  words = λ i l. again_word k reads new held x (length x.enters + i) c since (addr_of f i) (f.words i) low old m
      (addr_is x (length x.enters) q f.count f.next i h.held (omega (arith, h.held, h.requested.within)) l h.next)
      (h.words i l);
  port = h.port;
  cache = record {
    places = record {
      stored = h.cache.places.stored;
      split = h.cache.places.split
          ∙ ap (λ o. front o h.cache.places.stored) (again_fill since held f.filling);
      places = h.cache.places.places;
      other_is = h.cache.places.other_is;
    };
    starts_is = h.cache.starts_is;
    lines = λ n. old_lines reads new c (f.lines n) old (h.cache.lines n);
    filling = again_line reads new held c since f.answer f.filling low old m h.cache.filling;
  };
  clean = h.clean;
  sound = h.sound;
}
