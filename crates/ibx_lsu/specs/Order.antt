-- The order of an access on the bus, over its whole run: its first portion is asked for from the cycle in which it
-- enters until the grant, its second from the cycle after the first answer. It ends at its last answer, or at the
-- first that is bad. Our own rule.
use Rattle.std.specs.Prelude.{◌≡◌, ℕ, zero, suc, ◌+◌, ◌<◌, ◌≤◌, Bool, true, false}
use Rattle.ibx_isa.specs.declared.event.Access.{Access}
use Rattle.ibx_isa.specs.declared.bus.Rsp.{Rsp}
use Rattle.ibx_secded.specs.Code.{encode_of, payload_of}
use Rattle.ibx_lsu.specs.declared.unit.Lsu.{Lsu}
use Rattle.ibx_lsu.specs.declared.unit.LsTurn.{LsTurn}
use Rattle.ibx_lsu.specs.declared.unit.Reply.TheVariants.{Silent, Good, Bad}
use Rattle.ibx_lsu.specs.Turns.{asks, crosses, faults, gives, idle_of, next_of, reply_of, turn_of, awaits}
use Rattle.ibx_isa.specs.Wires.{request_of}

-- what the bus does in each cycle, counted from the one in which the access enters
pub record Bus : Type 0 where
  pub rsp : ℕ → Rsp
  pub granted : ℕ → Bool

-- the fields in cycle n, and what the unit does then
unfoldable pub fields_at : Lsu → Access → Bus → ℕ → Lsu
fields_at u want bus zero = u
fields_at u want bus (suc n) = next_of (fields_at u want bus n) want (bus.rsp n) (bus.granted n)

-- what the unit drives in cycle n, and what the access comes to
abbrev pub turn_in : Lsu → Access → Bus → ℕ → LsTurn
turn_in u want bus n = turn_of (fields_at u want bus n) want (bus.rsp n)

-- a request that is driven from cycle `issue` on isn't granted before cycle c
pub record IsUngranted (bus : Bus) (issue c : ℕ) : Type 0 where
  pub issued : issue ≤ c
  pub held : (k : ℕ) → issue ≤ k → k < c → bus.granted k ≡ false

-- it is granted at `grant`, and between that cycle and c there is no answer
pub record IsUnanswered (bus : Bus) (issue grant c : ℕ) : Type 0 where
  pub asked : IsUngranted bus issue grant
  pub granted : bus.granted grant ≡ true
  pub later : grant < c
  pub silent : (k : ℕ) → grant < k → k < c → reply_of (bus.rsp k) ≡ Silent

-- the first portion is answered at `past`, that answer is good, and there is a second portion
pub record HasMore (want : Access) (bus : Bus) (grant past : ℕ) : Type 0 where
  pub first : IsUnanswered bus 0 grant past
  pub good : reply_of (bus.rsp past) ≡ Good
  pub crosses : crosses want ≡ true

-- the access ends in cycle c with this outcome, and the unit is idle from the next cycle on
pub record EndsAt (u : Lsu) (want : Access) (bus : Bus) (c : ℕ) (outcome : LsTurn) : Type 0 where
  pub comes : turn_in u want bus c ≡ outcome
  pub idle : fields_at u want bus (c + 1) ≡ idle_of

-- the 32 bits of data of the answer in a cycle
abbrev pub word_at : Bus → ℕ → ℕ
word_at bus c = payload_of 32 (bus.rsp c).word

-- a cycle in which the first portion's answer is awaited
pub record AwaitsFirst (u : Lsu) (want : Access) (bus : Bus) (c : ℕ) : Type 0 where
  pub silent : reply_of (bus.rsp c) ≡ Silent → turn_in u want bus c ≡ awaits
  pub bad : reply_of (bus.rsp c) ≡ Bad → EndsAt u want bus c (faults 1)
  pub whole : reply_of (bus.rsp c) ≡ Good → crosses want ≡ false
      → EndsAt u want bus c (gives want.store (word_at bus c) 0)
  pub more : reply_of (bus.rsp c) ≡ Good → crosses want ≡ true → turn_in u want bus c ≡ awaits

-- a cycle in which the second portion's answer is awaited; the first portion's came at `past`
pub record AwaitsSecond (u : Lsu) (want : Access) (bus : Bus) (past c : ℕ) : Type 0 where
  pub silent : reply_of (bus.rsp c) ≡ Silent → turn_in u want bus c ≡ awaits
  pub bad : reply_of (bus.rsp c) ≡ Bad → EndsAt u want bus c (faults 2)
  pub whole : reply_of (bus.rsp c) ≡ Good → EndsAt u want bus c (gives want.store (word_at bus past) (word_at bus c))

-- each cycle of an access, whatever the bus does
pub record KeepsOrder (u : Lsu) (want : Access) (bus : Bus) : Type 0 where
  pub asks_first : (c : ℕ) → IsUngranted bus 0 c → turn_in u want bus c ≡ asks (request_of (encode_of 32 7) want false)
  pub awaits_first : (grant c : ℕ) → IsUnanswered bus 0 grant c → AwaitsFirst u want bus c
  pub asks_second : (grant past c : ℕ) → HasMore want bus grant past → IsUngranted bus (past + 1) c
      → turn_in u want bus c ≡ asks (request_of (encode_of 32 7) want true)
  pub awaits_second : (grant past other c : ℕ) → HasMore want bus grant past → IsUnanswered bus (past + 1) other c
      → AwaitsSecond u want bus past c
