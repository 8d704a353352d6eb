-- The fetch side of a replay as plain numbers: what it holds, and its steps, as the program makes them.
use Rattle.std.specs.Prelude.{ℕ, zero, suc, ◌+◌, ◌-◌, ◌*◌, ◌/◌, ◌%◌, ◌^◌, max, Bool, true, false, not, ◌&&◌, ◌||◌}
use Rattle.std.specs.Prelude.{◌==◌}
use Rattle.std.specs.Prelude.{nat_le, nat_lt, if◌then◌else◌, List, length, Option, Some, None}
use Rattle.ibx_plan.specs.declared.site.Wait.{Wait}
use Rattle.ibx_bus.specs.PortTimes.{grant_time, answer_time}
use Rattle.ibx_arch.specs.Memory.{is_mapped}
use Rattle.ibx_time.specs.Items.{Portions, NoPortion, One, OneBad, Two, TwoBad}
use Rattle.ibx_time.specs.Settings.{Settings}
use Rattle.ibx_time.specs.Requests.{line_of, slot_of, is_upper, half_grant, victim_by}

-- a word that was requested and not yet taken: its answer, the grant of what read it, and what memory held then
pub record Word : Type 0 where
  pub answer : ℕ
  pub grant : ℕ
  pub value : ℕ

-- a line that was stored: its way and the cycle, and of each of its words the grant and what memory held then
pub record Line : Type 0 where
  pub line : ℕ
  pub way : Bool
  pub time : ℕ
  pub grant0 : ℕ
  pub grant1 : ℕ
  pub word0 : ℕ
  pub word1 : ℕ

-- The next word's address, what holds it back besides the last answer, and that answer; the words that are held, from
-- the oldest on, and how many they are; the port's place in its list of waits; the stored lines by their places, but
-- for the last request's, with the way that comes next; that one; and the cycle after the last FENCE.I, or 0.
pub record Fetch : Type 0 where
  pub next : ℕ
  pub gate : ℕ
  pub answer : ℕ
  pub words : ℕ → Word
  pub count : ℕ
  pub port : ℕ
  pub lines : ℕ → Option Line
  pub other_way : Bool
  pub filling : Option Line
  pub starts : ℕ

-- at reset nothing is held, and the word of the entry is next
abbrev pub no_word : Word
no_word = record { answer = 0; grant = 0; value = 0 }

-- the fetch side at reset, for a program that is entered at this byte address
unfoldable pub reset_fetch : ℕ → Fetch
reset_fetch entry = record {
  next = 4 * (entry / 4);
  gate = 0;
  answer = 0;
  words = λ i. no_word;
  count = 0;
  port = 0;
  lines = λ n. None;
  other_way = false;
  filling = None;
  starts = 0;
}

-- ---- the parts of a request

-- the place in the list of waits after so many transactions more
abbrev pub port_after : List Wait → ℕ → ℕ → ℕ
port_after waits at count = if length waits == 0 then at else (at + count) % length waits

-- the line in flight goes to its place
abbrev pub lines_with : Option Line → (ℕ → Option Line) → ℕ → Option Line
lines_with None lines n = lines n
lines_with (Some x) lines n = if slot_of x.line x.way == n then Some x else lines n

-- and the other way moves
abbrev pub other_after : Option Line → Bool → Bool
other_after None other = other
other_after (Some x) other = not x.way

-- so nothing is in flight
abbrev pub settled : Fetch → Fetch
settled f = record f {
  lines = lines_with f.filling f.lines;
  other_way = other_after f.filling f.other_way;
  filling = None;
}

-- what a place holds, where it is this line and no FENCE.I came since it was stored
abbrev pub line_here : ℕ → ℕ → Option Line → Option Line
line_here starts line None = None
line_here starts line (Some x) = if x.line == line && nat_le starts x.time then Some x else None

-- the first of two places that holds it
abbrev pub first_line : Option Line → Option Line → Option Line
first_line None u = u
first_line (Some x) u = Some x

-- the line in either way
abbrev pub found : ℕ → ℕ → (ℕ → Option Line) → Option Line
found starts line lines =
    first_line (line_here starts line (lines (slot_of line false))) (line_here starts line (lines (slot_of line true)))

-- a place holds a line that stands
abbrev pub is_standing : ℕ → Option Line → Bool
is_standing starts None = false
is_standing starts (Some x) = nat_le starts x.time

-- the lowest empty way, else the other way
abbrev pub way_for : ℕ → ℕ → (ℕ → Option Line) → Bool → Bool
way_for starts line lines other =
    victim_by (not (is_standing starts (lines (slot_of line false))))
    (not (is_standing starts (lines (slot_of line true)))) other

-- a word that is read alone, at t; `held g a` is the word at a that memory held in cycle g
abbrev pub word_alone : List Wait → ℕ → (ℕ → ℕ → ℕ) → ℕ → ℕ → Word
word_alone waits at held t a = record {
  answer = answer_time waits at t;
  grant = grant_time waits at t;
  value = held (grant_time waits at t) a;
}

-- a line whose two words are read, from the cycle after t on
abbrev pub line_read : List Wait → ℕ → (ℕ → ℕ → ℕ) → ℕ → ℕ → Bool → Line
line_read waits at held t line way =
    let v = answer_time waits at (t + 1) in
    record {
      line = line;
      way = way;
      time = answer_time waits (suc at) v;
      grant0 = grant_time waits at (t + 1);
      grant1 = grant_time waits (suc at) v;
      word0 = held (grant_time waits at (t + 1)) (8 * line);
      word1 = held (grant_time waits (suc at) v) (8 * line + 4);
    }

-- the word of a line at an address of it, which answers at v
abbrev pub word_of_line : Line → ℕ → ℕ → Word
word_of_line x a v =
    record { answer = v; grant = half_grant a x.grant0 x.grant1; value = if is_upper a then x.word1 else x.word0 }

-- the word that a request at t brings, by whether it is cached and which line is found
abbrev pub word_by : Bool → Option Line → Word → Line → ℕ → ℕ → Word
word_by false line alone read t a = alone
word_by true (Some x) alone read t a = word_of_line x a (t + 1)
word_by true None alone read t a = word_of_line read a (read.time + 1)

-- how many transactions it makes
abbrev pub asked : Bool → Option Line → ℕ
asked false line = 1
asked true (Some x) = 0
asked true None = 2

-- the line in flight after it, which is kept where memory answers for both words
abbrev pub in_flight : Bool → Option Line → Bool → Line → Option Line
in_flight false line keeps read = None
in_flight true (Some x) keeps read = None
in_flight true None true read = Some read
in_flight true None false read = None

-- one word more
abbrev pub words_with : (ℕ → Word) → ℕ → Word → ℕ → Word
words_with words count w i = if i == count then w else words i

-- ---- the steps

-- a request at t by its decisions, with nothing in flight before it
abbrev pub served : Settings → Bool → Option Line → Bool → Word → Line → ℕ → Fetch → Fetch
served k cached line keeps alone read t f =
    let w = word_by cached line alone read t f.next in
    record f {
      next = (f.next + 4) % 2 ^ 32;
      answer = w.answer;
      words = words_with f.words f.count w;
      count = suc f.count;
      port = port_after k.plan.iwaits f.port (asked cached line);
      filling = in_flight cached line keeps read;
    }

-- the same with its decisions, once nothing is in flight
abbrev pub request_settled : Settings → Bool → (ℕ → ℕ → ℕ) → ℕ → Fetch → Fetch
request_settled k caches held t f =
    let line = line_of f.next in
    served k (caches && nat_le (f.starts + 256) t) (found f.starts line f.lines)
    (is_mapped k.ram (8 * line) && is_mapped k.ram (8 * line + 4)) (word_alone k.plan.iwaits f.port held t f.next)
    (line_read k.plan.iwaits f.port held t line (way_for f.starts line f.lines f.other_way)) t f

-- one request, where icache_enable is `caches`
unfoldable pub request : Settings → Bool → (ℕ → ℕ → ℕ) → ℕ → Fetch → Fetch
request k caches held t f = request_settled k caches held t (settled f)

-- when the next word is issued, where fewer than three are held
abbrev pub issue_of : Fetch → ℕ
issue_of f = max f.answer f.gate

-- all requests that are issued before a bound, of at most so many
unfoldable pub request_below : Settings → Bool → (ℕ → ℕ → ℕ) → ℕ → ℕ → Fetch → Fetch
request_below k caches held bound zero f = f
request_below k caches held bound (suc n) f =
    if nat_lt f.count 3 && nat_lt (issue_of f) bound
    then request_below k caches held bound n (request k caches held (issue_of f) f)
    else f

-- an item takes the last half of the oldest word as it enters
unfoldable pub entered : ℕ → Fetch → Fetch
entered e f = record f { words = λ i. f.words (suc i); count = f.count - 1; gate = e }

-- a word that was granted after `since` is read again
abbrev pub word_again : ℕ → (ℕ → ℕ → ℕ) → ℕ → Word → Word
word_again since held a w = if nat_lt since w.grant then record w { value = held w.grant a } else w

-- so are the words of the line in flight
abbrev pub line_again : ℕ → (ℕ → ℕ → ℕ) → Option Line → Option Line
line_again since held None = None
line_again since held (Some x) = Some (record x {
  word0 = if nat_lt since x.grant0 then held x.grant0 (8 * x.line) else x.word0;
  word1 = if nat_lt since x.grant1 then held x.grant1 (8 * x.line + 4) else x.word1;
})

-- the address of word i of those that are held
abbrev pub addr_of : Fetch → ℕ → ℕ
addr_of f i = (f.next + 2 ^ 32 - 4 * (f.count - i)) % 2 ^ 32

-- what was granted after `since` is read again, once the writes that follow it are known
unfoldable pub read_again : ℕ → (ℕ → ℕ → ℕ) → Fetch → Fetch
read_again since held f = record f {
  words = λ i. word_again since held (addr_of f i) (f.words i);
  filling = line_again since held f.filling;
}

-- the line in flight where it is stored before d
abbrev pub stored_before : ℕ → Option Line → Option Line
stored_before d None = None
stored_before d (Some x) = if nat_lt x.time d then Some x else None

-- a FENCE.I at d
unfoldable pub fenced : ℕ → Fetch → Fetch
fenced d f = record f { filling = stored_before d f.filling; starts = d + 1 }

-- a redirect at d
unfoldable pub redirected : ℕ → ℕ → Fetch → Fetch
redirected d target f = record f { next = 4 * (target / 4); gate = d; count = 0 }

-- what an event at d leaves: a FENCE.I first, then a redirect
abbrev pub fenced_where : Bool → ℕ → Fetch → Fetch
fenced_where true d f = fenced d f
fenced_where false d f = f

-- and a redirect where there is one
abbrev pub redirected_where : Bool → ℕ → ℕ → Fetch → Fetch
redirected_where true d target f = redirected d target f
redirected_where false d target f = f

-- what an item leaves as it enters at e: the word that it takes, and what is read again
abbrev pub entered_where : Bool → ℕ → Fetch → Fetch
entered_where true e f = entered e f
entered_where false e f = f

-- and what is read again where there is a store
abbrev pub again_where : Bool → ℕ → (ℕ → ℕ → ℕ) → Fetch → Fetch
again_where true since held f = read_again since held f
again_where false since held f = f

-- the cycle below which all requests come before the event at d
abbrev pub end_of : Bool → ℕ → ℕ
end_of true d = d
end_of false d = d + 1

-- An item that enters at e and is done at d, the item before it done at `since`: by whether it takes a last half,
-- makes a store, is a FENCE.I, and redirects.
unfoldable pub finish : Settings → Bool → (ℕ → ℕ → ℕ) → ℕ → ℕ → ℕ → Bool → Bool → Bool → Bool → ℕ → Fetch → Fetch
finish k caches held since e d takes stores fences redirects target f =
    redirected_where redirects d target (fenced_where fences d
    (request_below k caches held (end_of redirects d) 3 (again_where stores since held (entered_where takes e f))))

-- ---- what the search for an admission asks

-- word i of those that are held has answered by t
abbrev pub is_answered : Fetch → ℕ → ℕ → Bool
is_answered f i t = nat_lt i f.count && nat_le (f.words i).answer t

-- the words of an instruction have answered, which crosses a word or not
abbrev pub are_there : Fetch → Bool → ℕ → Bool
are_there f crosses t = is_answered f 0 t && (not crosses || is_answered f 1 t)

-- the word that it waits for: the second, where the first has answered
abbrev pub missing_by : Bool → ℕ
missing_by true = 1
missing_by false = 0

-- which word the instruction waits for at t
abbrev pub missing : Fetch → ℕ → ℕ
missing f t = missing_by (is_answered f 0 t)

-- when word i answers, or is issued where it isn't requested yet
abbrev pub news_of : Fetch → ℕ → ℕ
news_of f i = if nat_lt i f.count then (f.words i).answer else issue_of f

-- half h of a word
abbrev pub half_of : ℕ → ℕ → ℕ
half_of word h = word / 2 ^ (16 * h) % 2 ^ 16

-- the first parcel of the instruction that begins in this half of the oldest word, and the second
abbrev pub first_parcel : Fetch → ℕ → ℕ
first_parcel f half = half_of (f.words 0).value half

-- the second parcel, in the same word or in the next one
abbrev pub second_parcel : Fetch → ℕ → ℕ
second_parcel f half = if half == 1 then half_of (f.words 1).value 0 else half_of (f.words 0).value 1

-- ---- what memory held, once the last store is made

-- a word that a portion of the store writes: its address, the cycle of the grant, and the word before
pub record Written : Type 0 where
  pub addr : ℕ
  pub time : ℕ
  pub old : ℕ

-- the word was read in that cycle or before
abbrev pub is_written_later : Option Written → ℕ → ℕ → Bool
is_written_later None g a = false
is_written_later (Some w) g a = w.addr == a && nat_le g w.time

-- the word before the portion
abbrev pub old_word : Option Written → ℕ → ℕ
old_word None now = now
old_word (Some w) now = w.old

-- The word at a that memory held in cycle g, which is after all earlier writes: `now` has the store's two portions.
unfoldable pub held_in : Option Written → Option Written → (ℕ → ℕ) → ℕ → ℕ → ℕ
held_in first second now g a =
    if is_written_later first g a then old_word first (now a)
    else if is_written_later second g a then old_word second (now a)
    else now a

-- the first portion's word of a store, and the second's
abbrev pub first_of : Portions → Bool → Written → Option Written
first_of portions false w = None
first_of NoPortion true w = None
first_of One true w = Some w
first_of OneBad true w = Some w
first_of Two true w = Some w
first_of TwoBad true w = Some w

-- the second portion's word of a store
abbrev pub second_of : Portions → Bool → Written → Option Written
second_of portions false w = None
second_of NoPortion true w = None
second_of One true w = None
second_of OneBad true w = None
second_of Two true w = Some w
second_of TwoBad true w = Some w
