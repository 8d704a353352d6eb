-- The fields of the buffer are those of the times.
use Rattle.std.proofs.Common.{◌≡◌, ℕ, zero, suc, ◌+◌, ◌<◌, Bool, true, false, not, ◌&&◌, ◌==◌}
use Rattle.std.proofs.Common.{List}
use Rattle.std.proofs.Common.{length, if◌then◌else◌, refl, sym, ap, ap₂, ◌∙◌, arith}
use Rattle.std.proofs.lemmas.Bool.{eq-eqb, le-leb, lt-leb, lt-ltb, ne_eqb}
use Rattle.ibx_bus.specs.Port.{PortState}
use Rattle.ibx_time_fetch.proofs.ShowsWords.{link_done, link_late}
use Rattle.ibx_icache.specs.declared.port.WordPort.{WordPort}
use Rattle.ibx_time_invariant.proofs.Fetches.{Count, coming, dropped, is_zero, rest}
use Rattle.ibx_time_invariant.proofs.Links.{Link, idle, pending}
use Rattle.ibx_time_invariant.proofs.Words.{WordsAt}
use Rattle.ibx_prefetch.specs.declared.buffer.Prefetch.{Prefetch}
use Rattle.ibx_time.specs.Memories.{Write}
use Rattle.ibx_time.specs.Settings.{Setup, settings_of}
use Rattle.ibx_time.specs.Streams.{Stream, past}
use Rattle.ibx_time.specs.Times.{Times}
use Rattle.ibx_time_units.specs.Buffer.{IsBuffer, is_awaited}

-- the test of the invariant and that of the law for no request yet are the same
zero_is : (q : ℕ) → is_zero q ≡ (q == 0)
zero_is zero = refl
zero_is (suc q) = sym (ne_eqb (suc q) 0 (λ e. absurd (omega (arith, e))))

-- an outstanding request was made in an earlier cycle
some_cycle : (s : Setup) (log : List Write) (x : Stream) (q c e : ℕ) (busy : Bool) (w : WordPort) (p : PortState)
    (tags lines : List ℕ) → busy ≡ true → Link s log x q c e busy w p tags lines → 0 < c
some_cycle s log x q c e busy w p tags lines z (idle b g i k done) = let no_ : true ≡ false = sym z ∙ b in cc
some_cycle s log x q c e busy w p tags lines z (pending y t a work) = omega (arith, a.early)

-- a request is outstanding just where it hasn't answered
awaited_by : (s : Setup) (log : List Write) (x : Stream) (q c e : ℕ) (busy : Bool) (w : WordPort) (p : PortState)
    (tags lines : List ℕ) (b : Bool) → busy ≡ b → Link s log x q c e busy w p tags lines → b ≡ is_awaited s x q c
awaited_by s log x q c e busy w p tags lines true z link =
    sym (ap₂ (λ u v. u && v) (lt-ltb 0 c (some_cycle s log x q c e busy w p tags lines z link))
    (le-leb c (past (settings_of s) x q).answer (link_late s log x q c e busy w p tags lines z link)))
awaited_by s log x q zero e busy w p tags lines false z link = refl
awaited_by s log x q (suc c) e busy w p tags lines false z link =
    sym (ap₂ (λ u v. u && v) (lt-ltb 0 (suc c) (omega arith)) (lt-leb (suc c) (past (settings_of s) x q).answer
    (link_done s log x q (suc c) e busy w p tags lines z (omega arith) link)))

-- its mark, and the count, by the three cases
drop_is : (q m count : ℕ) (busy drop : Bool) → Count q m busy drop count → drop ≡ (busy && q == 0)
drop_is q m count busy drop (rest b d n) = d ∙ sym (ap (λ v. v && q == 0) b)
drop_is q m count busy drop (coming b d n) =
    d ∙ sym (ap₂ (λ u v. u && v) b (ne_eqb q 0 (λ e. absurd (omega (arith, n, e)))))
drop_is q m count busy drop (dropped b d z nothing none) = d ∙ sym (ap₂ (λ u v. u && v) b (eq-eqb q 0 z))

-- the kept words, the taken ones and one that is still to come are the requested ones
count_is : (q m count : ℕ) (busy drop : Bool) → Count q m busy drop count
    → count + m + (if busy && not (q == 0) then 1 else 0) ≡ q
count_is q m count busy drop (rest b d n) =
    ap (λ v. count + m + (if v && not (q == 0) then 1 else 0)) b ∙ omega (arith, n)
count_is q m count busy drop (coming b d n) =
    ap₂ (λ u v. count + m + (if u && not v then 1 else 0)) b (ne_eqb q 0 (λ e. absurd (omega (arith, n, e)))) ∙ n
count_is q m count busy drop (dropped b d z nothing none) =
    ap₂ (λ u v. count + m + (if u && not v then 1 else 0)) b (eq-eqb q 0 z) ∙ omega (arith, z, nothing, none)

-- so the fields are those of the times
pub buffer_is : (s : Setup) (log : List Write) (y : Times) (q c : ℕ) (enable : Bool) (f : Prefetch) (w : WordPort)
    (p : PortState) (tags lines : List ℕ) → WordsAt s log y.stream y.half q c enable f w p tags lines
    → IsBuffer s log y q c f
buffer_is s log y q c enable f w p tags lines v = record {
  head = v.fetch.head;
  addr = v.fetch.addr;
  fresh = v.fetch.fresh ∙ zero_is q;
  busy = awaited_by s log y.stream q c c f.f_busy w p tags lines f.f_busy refl v.link;
  drop = drop_is q (length y.stream.enters) f.buf_count f.f_busy f.f_drop v.fetch.count;
  count = count_is q (length y.stream.enters) f.buf_count f.f_busy f.f_drop v.fetch.count;
  word0 = v.fetch.holds.word0;
  word1 = v.fetch.holds.word1;
  word2 = v.fetch.holds.word2;
}
