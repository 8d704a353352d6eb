-- The buffer requests the word that is due, or none.
use Rattle.std.proofs.Common.{◌≡◌, ℕ, suc, ◌+◌, ◌<◌, ◌≤◌, Bool, true, false, not, ◌&&◌, ◌==◌, List, length}
use Rattle.std.proofs.Common.{if◌then◌else◌, Some, None, Option, refl, sym, ap, ap₂, ◌∙◌, inl, inr, arith}
use Rattle.std.proofs.Common.{subst}
use Rattle.std.proofs.lemmas.Bool.{cases_lt, eq-eqb, le-ltb, lt-ltb, ne_eqb}
use Rattle.ibx_bus.specs.Port.{PortState}
use Rattle.ibx_icache.specs.declared.port.WordPort.{WordPort}
use Rattle.ibx_time_invariant.proofs.Fetches.{Count, FetchAt, coming, dropped, rest}
use Rattle.ibx_time_invariant.proofs.Words.{AfterAnswer, AfterIssue}
use Rattle.ibx_prefetch.specs.Buffer.{request_of, requested}
use Rattle.ibx_prefetch.specs.declared.buffer.Prefetch.{Prefetch}
use Rattle.ibx_time.proofs.Times.{IsRequested}
use Rattle.ibx_time.specs.Memories.{Write}
use Rattle.ibx_time.specs.Settings.{Settings, Setup, settings_of}
use Rattle.ibx_time.specs.Streams.{Stream, issue, last_of, word_addr}
use Rattle.ibx_time_invariant.proofs.Issues.{count_free, request_busy}
use Rattle.ibx_time_units.specs.Words.{is_issued, request_by}

-- ---- how many words are requested, by what the buffer has

-- those held, those taken, and one that is coming
pub counted : (q m count : ℕ) (busy drop : Bool) → Count q m busy drop count
    → count + m + (if busy && not drop then 1 else 0) ≡ q
counted q m count busy drop (rest b d n) =
    ap (λ v. count + m + (if v && not drop then 1 else 0)) b ∙ omega (arith, n)
counted q m count busy drop (coming b d n) =
    ap₂ (λ u v. count + m + (if u && not v then 1 else 0)) b d ∙ n
counted q m count busy drop (dropped b d z nothing none) =
    ap₂ (λ u v. count + m + (if u && not v then 1 else 0)) b d ∙ omega (arith, z, nothing, none)

-- ---- the request

-- a request is made where none is
asks_idle : (f : Prefetch) (addr : ℕ) (b : Bool) → f.f_busy ≡ b → request_of f ≡ Some addr → f.f_busy ≡ false
asks_idle f addr false e k = e
asks_idle f addr true e k = let no_ : None ≡ Some addr = sym (request_busy f e) ∙ k in cc

-- none is due where the next word is issued later
none_due : (k : Settings) (x : Stream) (q c : ℕ) → (q < length x.enters + 3 → c + 1 ≤ issue k x q)
    → is_issued k x q c ≡ false
none_due k x q c late =
    elim (cases_lt q (length x.enters + 3)) [
      | inl low ↦
          ap₂ (λ u v. u && v) (lt-ltb q (length x.enters + 3) low)
          (ne_eqb (issue k x q) c (λ e. absurd (omega (arith, late low, e))))
      | inr end ↦ ap (λ u. u && issue k x q == c) (le-ltb q (length x.enters + 3) end)
    ]

-- one is, where it is issued now
one_due : (k : Settings) (x : Stream) (q c : ℕ) → q < length x.enters + 3 → issue k x q ≡ c → is_issued k x q c ≡ true
one_due k x q c low now =
    ap₂ (λ u v. u && v) (lt-ltb q (length x.enters + 3) low) (eq-eqb (issue k x q) c now)

-- the last word's address, where one more is requested
next_last : (x : Stream) (q i : ℕ) → i ≡ suc q → last_of x i ≡ word_addr x q
unfolding last_of
next_last x q i e = ap (last_of x) e

-- by whether it requests a word
request_case : (s : Setup) (log : List Write) (x : Stream) (half q i c : ℕ) (f : Prefetch) (o : Option ℕ)
    → FetchAt s log x half q f → IsRequested (settings_of s) x c q
    → FetchAt s log x half i (requested o f) → IsRequested (settings_of s) x (c + 1) i
    → request_of f ≡ o → o ≡ request_by (settings_of s) x q c
unfolding requested
request_case s log x half q i c f None u r v t e =
    let m : ℕ = length x.enters in
    let same : i ≡ q =
    sym (counted i m f.buf_count f.f_busy f.f_drop v.count) ∙ counted q m f.buf_count f.f_busy f.f_drop u.count in
    sym (ap (λ b. if b then Some (word_addr x q) else None)
    (none_due (settings_of s) x q c (λ low. subst (λ n. n < m + 3 → c + 1 ≤ issue (settings_of s) x n) same t.after
    low)))
request_case s log x half q i c f (Some addr) u r v t e =
    let k : Settings = settings_of s in
    let m : ℕ = length x.enters in
    let still : f.f_busy ≡ false = asks_idle f addr f.f_busy refl e in
    let unmarked : f.f_drop ≡ false = (count_free q m f.buf_count f.f_busy f.f_drop still u.count).1 in
    let before_ : f.buf_count + m + 0 ≡ q =
    ap (λ b. f.buf_count + m + (if b && not f.f_drop then 1 else 0)) (sym still)
    ∙ counted q m f.buf_count f.f_busy f.f_drop u.count in
    let after_ : f.buf_count + m + 1 ≡ i =
    ap (λ b. f.buf_count + m + (if not b then 1 else 0)) (sym unmarked)
    ∙ counted i m f.buf_count true f.f_drop v.count in
    let one : i ≡ suc q = omega (arith, before_, after_) in
    let low : q < m + 3 = omega (arith, one, t.within) in
    let now : issue k x q ≡ c = omega (arith, t.before q (omega (arith, one)), r.after low) in
    ap Some (v.addr ∙ next_last x q i one)
    ∙ sym (ap (λ b. if b then Some (word_addr x q) else None) (one_due k x q c low now))

-- so it requests just what is due
pub request_is : (s : Setup) (log : List Write) (x : Stream) (half q i c walk : ℕ) (fence enable next : Bool)
    (f : Prefetch) (w v : WordPort) (p : PortState) (tags lines : List ℕ)
    → AfterAnswer s log x half q c walk fence enable next f w p tags lines
    → AfterIssue s log x half i c walk fence enable next (requested (request_of f) f) v p tags lines
    → request_of f ≡ request_by (settings_of s) x q c
request_is s log x half q i c walk fence enable next f w v p tags lines a b =
    request_case s log x half q i c f (request_of f) a.fetch a.requested b.fetch b.requested refl
