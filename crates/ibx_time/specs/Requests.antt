-- What the requests for words leave: the cache by its fills, and the bus by its transactions. Our own rule.
use Rattle.std.specs.Prelude.{ℕ, suc, ◌+◌, ◌*◌, ◌/◌, ◌%◌, Bool, true, false, not, ◌&&◌, ◌||◌, ◌==◌, nat_le, nat_lt}
use Rattle.std.specs.Prelude.{if◌then◌else◌, List, [], ◌∷◌, length, Option, Some, None}
use Rattle.ibx_isa.specs.declared.bus.Req.{Req}
use Rattle.ibx_plan.specs.declared.site.Wait.{Wait}
use Rattle.ibx_bus.specs.PortTimes.{grant_time, answer_time}
use Rattle.ibx_isa.specs.Wires.{fetch_wires}
use Rattle.ibx_time.specs.Settings.{Settings}
use Rattle.ibx_arch.specs.Memory.{is_mapped}

-- a transaction of a port: its wires are driven from its issue to its grant
pub record Transaction : Type 0 where
  pub issue : ℕ
  pub grant : ℕ
  pub wires : Req

-- a line that was stored: its way, the cycle, and the grants of the transactions that read its two words
pub record Fill : Type 0 where
  pub line : ℕ
  pub way : Bool
  pub time : ℕ
  pub grant0 : ℕ
  pub grant1 : ℕ

-- icache_enable as the event of a cycle left it
pub record Switch : Type 0 where
  pub time : ℕ
  pub on : Bool

-- ---- lines of 8 bytes in 256 sets of two ways

-- the line that a byte address is in, and whether it is in that line's second word
abbrev pub line_of : ℕ → ℕ
line_of a = a / 8

-- bit 2 of the address: the second word of the line
abbrev pub is_upper : ℕ → Bool
is_upper a = a / 4 % 2 == 1

-- the place of a line among the sets and ways
abbrev pub slot_of : ℕ → Bool → ℕ
slot_of line false = 2 * (line % 256)
slot_of line true = 2 * (line % 256) + 1

-- ---- the cache at a cycle. Lists have the last entry first

-- as the events before t left it; it is off at reset
unfoldable pub enabled_at : List Switch → ℕ → Bool
enabled_at [] t = false
enabled_at (w ∷ ws) t = if nat_lt w.time t then w.on else enabled_at ws t

-- the walk from reset has ended, and no FENCE.I has its cycle from t - 256 to t
unfoldable pub is_walked : List ℕ → ℕ → Bool
is_walked [] t = nat_le 256 t
is_walked (f ∷ fences) t = (nat_lt t f || nat_lt (f + 256) t) && is_walked fences t

-- a request at t is cached: the cache is on, and the walk has emptied it
unfoldable pub is_cached : List Switch → List ℕ → ℕ → Bool
is_cached switches fences t = enabled_at switches t && is_walked fences t

-- no FENCE.I has its cycle from a on and before b
unfoldable pub none_between : List ℕ → ℕ → ℕ → Bool
none_between [] a b = true
none_between (f ∷ fences) a b = (nat_lt f a || nat_le b f) && none_between fences a b

-- the last line that was stored at a place
unfoldable pub last_fill : List Fill → ℕ → Option Fill
last_fill [] slot = None
last_fill (x ∷ fills) slot = if slot_of x.line x.way == slot then Some x else last_fill fills slot

-- the last fill of a place stands where no FENCE.I came since
abbrev pub stands : List ℕ → ℕ → Option Fill → Bool
stands fences t None = false
stands fences t (Some x) = none_between fences x.time (t + 1)

-- a fill holds this line at t, with no FENCE.I since
abbrev pub holds_line : List ℕ → ℕ → ℕ → Option Fill → Bool
holds_line fences t line None = false
holds_line fences t line (Some x) = x.line == line && none_between fences x.time (t + 1)

-- the line is in a way at t
abbrev pub in_way : List ℕ → List Fill → ℕ → ℕ → Bool → Bool
in_way fences fills line t way = holds_line fences t line (last_fill fills (slot_of line way))

-- the line is in either way at t
unfoldable pub is_present : List ℕ → List Fill → ℕ → ℕ → Bool
is_present fences fills line t = in_way fences fills line t false || in_way fences fills line t true

-- where a present line is found
unfoldable pub found_slot : List ℕ → List Fill → ℕ → ℕ → ℕ
found_slot fences fills line t = if in_way fences fills line t false then slot_of line false else slot_of line true

-- the way other than that of the last stored fill of all sets
abbrev pub other_way : List Fill → Bool
other_way [] = false
other_way (x ∷ fills) = not x.way

-- the lowest empty way, else that one
abbrev pub victim_by : Bool → Bool → Bool → Bool
victim_by true empty1 other = false
victim_by false true other = true
victim_by false false other = other

-- the way that a fill of this line takes, at t
unfoldable pub victim : List ℕ → List Fill → ℕ → ℕ → Bool
victim fences fills line t =
    victim_by (not (stands fences t (last_fill fills (slot_of line false))))
    (not (stands fences t (last_fill fills (slot_of line true)))) (other_way fills)

-- ---- what a request leaves

-- the answer of the last request, the transactions of the port, the stored fills, and the grant of the transaction
-- that read the last request's word
pub record Past : Type 0 where
  pub answer : ℕ
  pub sent : List Transaction
  pub fills : List Fill
  pub grant : ℕ

-- how many transactions the port has made
abbrev pub made : Past → ℕ
made y = length y.sent

-- transaction n of a port, issued at t
abbrev pub transaction : List Wait → ℕ → ℕ → Req → Transaction
transaction waits n t wires = record { issue = t; grant = grant_time waits n t; wires = wires }

-- a miss reads the first word of its line from the cycle after the request on, and the second from the first's answer
-- on
abbrev pub first_answer : Settings → Past → ℕ → ℕ
first_answer k y t = answer_time k.plan.iwaits (made y) (t + 1)

-- the answer of the line's second word
abbrev pub second_answer : Settings → Past → ℕ → ℕ
second_answer k y t = answer_time k.plan.iwaits (suc (made y)) (first_answer k y t)

-- when the two words of a line are granted
abbrev pub first_grant : Settings → Past → ℕ → ℕ
first_grant k y t = grant_time k.plan.iwaits (made y) (t + 1)

-- the line's second word is issued in the cycle of the first one's answer
abbrev pub second_grant : Settings → Past → ℕ → ℕ
second_grant k y t = grant_time k.plan.iwaits (suc (made y)) (first_answer k y t)

-- the grant of the word of a line at an address, by the two grants, and of a stored line
abbrev pub half_grant : ℕ → ℕ → ℕ → ℕ
half_grant a grant0 grant1 = if is_upper a then grant1 else grant0

-- when the word at an address of a stored line was granted, and 0 without a line
unfoldable pub fill_grant : Option Fill → ℕ → ℕ
fill_grant None a = 0
fill_grant (Some x) a = half_grant a x.grant0 x.grant1

-- a fill is stored where both its answers were without error and no FENCE.I has its cycle from the request to the
-- second one
abbrev pub is_kept : Settings → List ℕ → Past → ℕ → ℕ → Bool
is_kept k fences y t a =
    none_between fences t (second_answer k y t + 1)
    && (is_mapped k.ram (8 * line_of a) && is_mapped k.ram (8 * line_of a + 4))

-- the fill of the line of a request at t
abbrev pub fill_of : Settings → Past → ℕ → ℕ → Bool → Fill
fill_of k y t a way = record {
  line = line_of a;
  way = way;
  time = second_answer k y t;
  grant0 = first_grant k y t;
  grant1 = second_grant k y t;
}

-- the fills with one more, where it is kept
abbrev pub stored_if : Bool → Fill → List Fill → List Fill
stored_if true x fills = x ∷ fills
stored_if false x fills = fills

-- by whether the request is cached, its line is present, and the fill is kept; with where a present line is found, and
-- the victim
unfoldable pub request_by : Bool → Bool → Bool → ℕ → Bool → Settings → Past → ℕ → ℕ → Past
request_by false present keeps slot way k y t a = record {
  answer = answer_time k.plan.iwaits (made y) t;
  sent = transaction k.plan.iwaits (made y) t (fetch_wires a) ∷ y.sent;
  fills = y.fills;
  grant = grant_time k.plan.iwaits (made y) t;
}
request_by true true keeps slot way k y t a =
    record { answer = t + 1; sent = y.sent; fills = y.fills; grant = fill_grant (last_fill y.fills slot) a }
request_by true false keeps slot way k y t a = record {
  answer = second_answer k y t + 1;
  sent =
      transaction k.plan.iwaits (suc (made y)) (first_answer k y t) (fetch_wires (8 * line_of a + 4))
      ∷ transaction k.plan.iwaits (made y) (t + 1) (fetch_wires (8 * line_of a)) ∷ y.sent;
  fills = stored_if keeps (fill_of k y t a way) y.fills;
  grant = half_grant a (first_grant k y t) (second_grant k y t);
}

-- after a request at t for the word at a
abbrev pub after_request : Settings → List Switch → List ℕ → Past → ℕ → ℕ → Past
after_request k switches fences y t a =
    request_by (is_cached switches fences t) (is_present fences y.fills (line_of a) t) (is_kept k fences y t a)
    (found_slot fences y.fills (line_of a) t) (victim fences y.fills (line_of a) t) k y t a

-- before the first request
abbrev pub nothing_past : Past
nothing_past = record { answer = 0; sent = []; fills = []; grant = 0 }
