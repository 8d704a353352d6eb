-- What a request brings and leaves, by its decisions.
use Rattle.std.proofs.Common.{◌≡◌, ℕ, suc, ◌+◌, ◌*◌, ◌/◌, ◌%◌, ◌^◌, ◌<◌, ◌≤◌, Bool, true, false}
use Rattle.std.proofs.Common.{List, Option, Some, None, refl, sym, ap, ap₂, ◌∙◌, arith}
use Rattle.std.proofs.Common.{if◌then◌else◌}
use Rattle.std.proofs.lemmas.Bool.{eqb-true, eqb-false}
use Rattle.ibx_bus.specs.PortTimes.{grant_time, answer_time}
use Rattle.ibx_plan.specs.declared.site.Wait.{Wait}
use Rattle.ibx_time.specs.Settings.{Settings}
use Rattle.ibx_time.specs.Requests.{Past, Fill, line_of, last_fill, request_by, made, fill_of, fill_grant, is_upper}
use Rattle.ibx_time.specs.Requests.{half_grant, first_answer, second_answer, first_grant, second_grant}
use Rattle.ibx_replay.specs.Fetches.{Word, Line, word_alone, line_read, word_by, asked, in_flight, port_after}
use Rattle.ibx_replay.proofs.Serves.{filling_by}
use Rattle.ibx_replay.proofs.Ports.{IsPlace, place_now, place_then, place_after, same_grant, same_answer}
use Rattle.ibx_replay.proofs.Ports.{grant_late, grant_early}
use Rattle.ibx_replay.proofs.Fetched.{fill_in_line, fill_in, IsRead, AreRead, Holds}
use Rattle.ibx_replay.proofs.Requests.{Finds, IsFound}

-- the word of a line at an address of it is that which memory held in its grant
half_value : (reads : ℕ → ℕ → ℕ) (a line g0 g1 w0 w1 : ℕ) → line ≡ line_of a → a % 4 ≡ 0 → w0 ≡ reads g0 (8 * line)
    → w1 ≡ reads g1 (8 * line + 4) → (if is_upper a then w1 else w0) ≡ reads (half_grant a g0 g1) a
half_value reads a line g0 g1 w0 w1 e z h i = by (is_upper a) refl
  where
    by : (b : Bool) → is_upper a ≡ b → (if b then w1 else w0) ≡ reads (if b then g1 else g0) a
    by true u = let odd : a / 4 % 2 ≡ 1 = eqb-true (a / 4 % 2) 1 u in i ∙ ap (reads g1) (omega (arith, odd, e, z))
    by false u = let even : a / 4 % 2 ≡ 0 = omega (arith, eqb-false (a / 4 % 2) 1 u) in
        h ∙ ap (reads g0) (omega (arith, even, e, z))

-- ---- the line that is read

-- its grants and its cycle are the equations'
first_grant_is : (k : Settings) (y : Past) (t at : ℕ) → IsPlace k.plan.iwaits at (made y)
    → grant_time k.plan.iwaits at (t + 1) ≡ first_grant k y t
first_grant_is k y t at h =
    same_grant k.plan.iwaits at (made y) (t + 1) (t + 1) (place_now k.plan.iwaits at (made y) h) refl

-- the port's place gives the answer of a line's first word
first_answer_is : (k : Settings) (y : Past) (t at : ℕ) → IsPlace k.plan.iwaits at (made y)
    → answer_time k.plan.iwaits at (t + 1) ≡ first_answer k y t
first_answer_is k y t at h =
    same_answer k.plan.iwaits at (made y) (t + 1) (t + 1) (place_now k.plan.iwaits at (made y) h) refl

-- and the grant of its second word
second_grant_is : (k : Settings) (y : Past) (t at : ℕ) → IsPlace k.plan.iwaits at (made y)
    → grant_time k.plan.iwaits (suc at) (answer_time k.plan.iwaits at (t + 1)) ≡ second_grant k y t
second_grant_is k y t at h =
    same_grant k.plan.iwaits (suc at) (suc (made y)) (answer_time k.plan.iwaits at (t + 1)) (first_answer k y t)
    (place_then k.plan.iwaits at (made y) h) (first_answer_is k y t at h)

-- and the answer of its second word
second_answer_is : (k : Settings) (y : Past) (t at : ℕ) → IsPlace k.plan.iwaits at (made y)
    → answer_time k.plan.iwaits (suc at) (answer_time k.plan.iwaits at (t + 1)) ≡ second_answer k y t
second_answer_is k y t at h =
    same_answer k.plan.iwaits (suc at) (suc (made y)) (answer_time k.plan.iwaits at (t + 1)) (first_answer k y t)
    (place_then k.plan.iwaits at (made y) h) (first_answer_is k y t at h)

-- fills of the same parts
same_fill : (l : ℕ) (w : Bool) (t u g h i j : ℕ) → t ≡ u → g ≡ h → i ≡ j
    → fill_in_line (record { line = l; way = w; time = t; grant0 = g; grant1 = i; word0 = 0; word1 = 0 })
    ≡ fill_in_line (record { line = l; way = w; time = u; grant0 = h; grant1 = j; word0 = 0; word1 = 0 })
same_fill l w t u g h i j e f d = cc

-- so it is the equations' fill
pub read_is : (k : Settings) (y : Past) (t a at : ℕ) (held : ℕ → ℕ → ℕ) (way : Bool)
    → IsPlace k.plan.iwaits at (made y)
    → fill_in_line (line_read k.plan.iwaits at held t (line_of a) way) ≡ fill_of k y t a way
read_is k y t a at held way h =
    same_fill (line_of a) way (answer_time k.plan.iwaits (suc at) (answer_time k.plan.iwaits at (t + 1)))
    (second_answer k y t) (grant_time k.plan.iwaits at (t + 1)) (first_grant k y t)
    (grant_time k.plan.iwaits (suc at) (answer_time k.plan.iwaits at (t + 1))) (second_grant k y t)
    (second_answer_is k y t at h) (first_grant_is k y t at h) (second_grant_is k y t at h)

-- and its words are those of memory
pub read_words : (waits : List Wait) (reads held : ℕ → ℕ → ℕ) (t a at : ℕ) (way : Bool) → Holds held reads t
    → a < 2 ^ 32 → IsRead reads (answer_time waits (suc at) (answer_time waits at (t + 1)) + 1)
    (line_read waits at held t (line_of a) way)
read_words waits reads held t a at way m small =
    let g0 = grant_time waits at (t + 1) in
    let v0 = answer_time waits at (t + 1) in
    let g1 = grant_time waits (suc at) v0 in
    let late0 : t + 1 ≤ g0 = grant_late waits at (t + 1) in
    let early0 : g0 < v0 = grant_early waits at (t + 1) in
    let late1 : v0 ≤ g1 = grant_late waits (suc at) v0 in
    let early1 : g1 < answer_time waits (suc at) v0 = grant_early waits (suc at) v0 in
    record {
      low = omega (arith, small);
      word0 = m g0 (8 * line_of a) (omega (arith, late0)) (omega (arith, small)) (omega arith);
      word1 = m g1 (8 * line_of a + 4) (omega (arith, late0, early0, late1)) (omega (arith, small)) (omega arith);
      early0 = omega (arith, early0, late1, early1);
      early1 = early1;
      stored = omega arith;
    }

-- ---- the word

-- a word has the answer and the grant of a request, and the word of memory in that grant
pub record Brings (reads : ℕ → ℕ → ℕ) (a : ℕ) (y : Past) (w : Word) : Type 0 where
  pub answer : w.answer ≡ y.answer
  pub grant : w.grant ≡ y.grant
  pub value : w.value ≡ reads w.grant a

-- so it is by each clause of a request
pub brings : (b p n : Bool) (slot : ℕ) (way w : Bool) (o : Option Line) (k : Settings) (reads held : ℕ → ℕ
    → ℕ) (y : Past)
    (t a at v : ℕ) → Holds held reads t → a < 2 ^ 32 → a % 4 ≡ 0 → IsPlace k.plan.iwaits at (made y)
    → Finds p (last_fill y.fills slot) o → IsFound reads v (line_of a) o
    → Brings reads a (request_by b p n slot way k y t a)
    (word_by b o (word_alone k.plan.iwaits at held t a) (line_read k.plan.iwaits at held t (line_of a) w) t a)
unfolding request_by fill_grant
brings false p n slot way w o k reads held y t a at v m small even h finds is = record {
  answer = same_answer k.plan.iwaits at (made y) t t (place_now k.plan.iwaits at (made y) h) refl;
  grant = same_grant k.plan.iwaits at (made y) t t (place_now k.plan.iwaits at (made y) h) refl;
  value = m (grant_time k.plan.iwaits at t) a (grant_late k.plan.iwaits at t) small even;
}
brings true true n slot way w (Some x) k reads held y t a at v m small even h finds is = record {
  answer = refl;
  grant = sym (ap (λ o. fill_grant o a) finds.1);
  value = half_value reads a x.line x.grant0 x.grant1 x.word0 x.word1 is.0 even is.1.word0 is.1.word1;
}
brings true false n slot way w (Some x) k reads held y t a at v m small even h finds is =
    let no_ : true ≡ false = sym finds.0 in cc
brings true true n slot way w None k reads held y t a at v m small even h finds is =
    let no_ : true ≡ false = finds in cc
brings true false n slot way w None k reads held y t a at v m small even h finds is =
    let x = line_read k.plan.iwaits at held t (line_of a) w in
    let i = read_words k.plan.iwaits reads held t a at w m small in
    record {
      answer = ap (λ u. u + 1) (second_answer_is k y t at h);
      grant = ap₂ (half_grant a) (first_grant_is k y t at h) (second_grant_is k y t at h);
      value = half_value reads a x.line x.grant0 x.grant1 x.word0 x.word1 refl even i.word0 i.word1;
    }

-- the transactions move the place
pub moves : (b p n : Bool) (slot : ℕ) (way : Bool) (o : Option Line) (k : Settings) (y : Past) (t a at : ℕ)
    → IsPlace k.plan.iwaits at (made y) → Finds p (last_fill y.fills slot) o
    → IsPlace k.plan.iwaits (port_after k.plan.iwaits at (asked b o)) (made (request_by b p n slot way k y t a))
unfolding request_by
moves false p n slot way o k y t a at h finds = place_after k.plan.iwaits at (made y) 1 (suc (made y)) (omega arith) h
moves true true n slot way (Some x) k y t a at h finds =
    place_after k.plan.iwaits at (made y) 0 (made y) (omega arith) h
moves true false n slot way (Some x) k y t a at h finds = let no_ : true ≡ false = sym finds.0 in cc
moves true true n slot way None k y t a at h finds = let no_ : true ≡ false = finds in cc
moves true false n slot way None k y t a at h finds =
    place_after k.plan.iwaits at (made y) 2 (suc (suc (made y))) (omega arith) h

-- and the line in flight is the fill in flight
pub flies : (b p n m : Bool) (o : Option Line) (f : Option Fill) (x : Line) (z : Fill) → fill_in_line x ≡ z
    → Finds p f o
    → (b ≡ true → n ≡ m) → fill_in (in_flight b o m x) ≡ filling_by b p n z
flies false p n m o f x z e finds same = refl
flies true true n m (Some u) f x z e finds same = refl
flies true false n m (Some u) f x z e finds same = let no_ : true ≡ false = sym finds.0 in cc
flies true true n m None f x z e finds same = let no_ : true ≡ false = finds in cc
flies true false true true None f x z e finds same = ap (λ u. Some u) e
flies true false false false None f x z e finds same = refl
flies true false true false None f x z e finds same = let no_ : true ≡ false = same refl in cc
flies true false false true None f x z e finds same = let no_ : true ≡ false = sym (same refl) in cc

-- whose words are those of memory
pub flight_read : (b m : Bool) (o : Option Line) (reads : ℕ → ℕ → ℕ) (alone : Word) (x : Line) (t a : ℕ)
    → IsRead reads (x.time + 1) x → AreRead reads (word_by b o alone x t a).answer (in_flight b o m x)
flight_read false m o reads alone x t a h = tt
flight_read true m (Some u) reads alone x t a h = tt
flight_read true true None reads alone x t a h = h
flight_read true false None reads alone x t a h = tt
