-- What the core writes is a codeword, whatever its fields and the wires are.
use Rattle.std.proofs.Common.{◌≡◌, ◌⊎◌, inl, inr, ℕ, ◌-◌, ◌/◌, ◌%◌, ◌^◌, ◌<◌, Bool, true, false, not, Option, Some}
use Rattle.std.proofs.Common.{None, refl, ap, arith}
use Rattle.std.specs.Prelude.{◌||◌, ◌==◌, if◌then◌else◌, nat_lt}
use Rattle.std.proofs.lemmas.Bool.{eq-eqb, cases_Bool}
use Rattle.std.proofs.lemmas.Nat.{mod_below}
use Rattle.ibx_isa.specs.declared.bus.Alerts.{Alerts}
use Rattle.ibx_isa.specs.declared.bus.Req.{Req}
use Rattle.ibx_isa.specs.declared.bus.Rsp.{Rsp}
use Rattle.ibx_isa.specs.declared.event.Access.{Access}
use Rattle.ibx_isa.specs.Portions.{is_held, lane_byte, lanes_of, place_of}
use Rattle.ibx_isa.specs.Wires.{no_request, request_of}
use Rattle.ibx_bits.specs.Bytes.{bytes_number, word_byte}
use Rattle.ibx_secded.specs.Code.{encode_of, payload_of, syndrome_of}
use Rattle.ibx_secded.proofs.Laws.{syndrome_of-encode}
use Rattle.ibx_icache.specs.declared.wires.CacheOut.{CacheOut}
use Rattle.ibx_icache.specs.declared.writes.Filling.{Filling}
use Rattle.ibx_icache.specs.declared.writes.Filling.TheVariants.{Nothing, Clears, Stores}
use Rattle.ibx_icache.specs.WordPort.{WordIn, alerts_of, filling_of, is_bad_tag, is_bad_word, out_by as cache_out_by}
use Rattle.ibx_icache.specs.WordPort.{out_of, stores_of, wires_of}
use Rattle.ibx_icache.specs.declared.port.WordPort.{WordPort}
use Rattle.ibx_lsu.specs.declared.unit.Lsu.{Lsu}
use Rattle.ibx_lsu.specs.Turns.{crosses, first_answer, reply_of, second_answer, turn_of, gives as ls_gives}
use Rattle.ibx_core.specs.declared.state.State.{State}
use Rattle.ibx_core.specs.Core.{core_out, cycle_of, cycle_seen, cycle_with, gives, heard, is_write, out_by, out_with}
use Rattle.ibx_core.specs.Core.{port_of, tag_word, tag_ways, write_word}
use Rattle.ibx_core.specs.Inputs.{drsp_of, inputs_of}
use Rattle.ibx_core.specs.Sights.{sight_of, sight_with, turn_by}
use Rattle.ibx_core.specs.Wires.{InWires}

-- ---- encoded payloads

-- a word of 32 bits, encoded
pub encoded_word : (v : ℕ) → v < 2 ^ 32 → is_bad_word (encode_of 32 7 v) ≡ false
encoded_word v lt = ap not (eq-eqb (syndrome_of 32 7 (encode_of 32 7 v)) 0 (syndrome_of-encode 32 7 v lt))

-- a tag of 22 bits, encoded
pub encoded_tag : (v : ℕ) → v < 2 ^ 22 → is_bad_tag (encode_of 22 6 v) ≡ false
encoded_tag v lt = ap not (eq-eqb (syndrome_of 22 6 (encode_of 22 6 v)) 0 (syndrome_of-encode 22 6 v lt))

-- ---- a store

-- a byte of a portion, and four of them
lane-lt : (addr size value : ℕ) (second : Bool) (lane : ℕ) → lane_byte addr size value second lane < 256
lane-lt addr size value second lane =
    by (is_held addr size second lane) (word_byte value (place_of second lane - addr % 4))
    (mod_below (value / 256 ^ (place_of second lane - addr % 4)) 256 (omega arith))
  where
    by : (held : Bool) (byte : ℕ) → byte < 256 → (if held then byte else 0) < 256
    by true byte lt = lt
    by false byte lt = omega arith

-- four bytes fit 32 bits
bytes-lt : (f : ℕ → ℕ) → ((k : ℕ) → f k < 256) → bytes_number f 4 < 2 ^ 32
unfolding bytes_number
bytes-lt f h =
    let a = h 0 in
    let b = h 1 in
    let c = h 2 in
    let d = h 3 in
    omega arith

-- a request that stores drives a codeword
abbrev IsSound : Req → Type 0
IsSound r = r.write ≡ true → is_bad_word r.word ≡ false

-- the word of a store, else 0
stored_by : (store : Bool) (v : ℕ) → v < 2 ^ 32 → store ≡ true
    → is_bad_word (if store then encode_of 32 7 v else 0) ≡ false
stored_by true v lt e = encoded_word v lt
stored_by false v lt e = absurd cc

-- a request for a portion of an access
asked : (want : Access) (second : Bool) → IsSound (request_of (encode_of 32 7) want second)
unfolding request_of lanes_of
asked want second = stored_by want.store _
    (bytes-lt (lane_byte want.addr want.size want.value second) (lane-lt want.addr want.size want.value second))

-- no request stores nothing
no_store : IsSound no_request
no_store e = absurd cc

-- the end of an access drives nothing
given_sound : (store : Bool) (first second : ℕ) → IsSound (ls_gives store first second).req
given_sound true first second = no_store
given_sound false first second = no_store

-- an answer drives nothing
first_sound : (rsp : Rsp) (two store : Bool) (word : ℕ) → IsSound (first_answer (reply_of rsp) two store word).req
first_sound rsp true store word =
    elim (cases_Bool rsp.valid) [
      | inl v ↦ elim (cases_Bool (rsp.err || not (syndrome_of 32 7 rsp.word == 0))) [
        | inl b ↦
            rw (v, b) no_store
        | inr b ↦ rw (v, b) no_store
      ]
      | inr v ↦ rw v no_store
    ]
first_sound rsp false store word =
    elim (cases_Bool rsp.valid) [
      | inl v ↦ elim (cases_Bool (rsp.err || not (syndrome_of 32 7 rsp.word == 0))) [
        | inl b ↦
            rw (v, b) no_store
        | inr b ↦ rw (v, b) (given_sound store word 0)
      ]
      | inr v ↦ rw v no_store
    ]

-- the same of the second portion
second_sound : (rsp : Rsp) (store : Bool) (first word : ℕ)
    → IsSound (second_answer (reply_of rsp) store first word).req
second_sound rsp store first word =
    elim (cases_Bool rsp.valid) [
      | inl v ↦ elim (cases_Bool (rsp.err || not (syndrome_of 32 7 rsp.word == 0))) [
        | inl b ↦
            rw (v, b) no_store
        | inr b ↦ rw (v, b) (given_sound store first word)
      ]
      | inr v ↦ rw v no_store
    ]

-- by what the unit's state is about
turn_sound : (u : Lsu) (want : Access) (rsp : Rsp) → IsSound (turn_of u want rsp).req
unfolding turn_of
turn_sound u want rsp =
    elim (cases_Bool (u.ls_state == 2)) [
      | inl two ↦ rw two (first_sound rsp (crosses want) want.store (payload_of 32 rsp.word))
      | inr two ↦ elim (cases_Bool ((u.ls_state == 3) || (u.ls_state == 4))) [
        | inl more ↦ rw (two, more) (asked want true)
        | inr more ↦ elim (cases_Bool (u.ls_state == 5)) [
          | inl five ↦ rw (two, more, five) (second_sound rsp want.store u.ls_first (payload_of 32 rsp.word))
          | inr five ↦ rw (two, more, five) (asked want false)
        ]
      ]
    ]

-- so each cycle of an access
active_sound : (active : Bool) (access : Option Access) (ls : Lsu) (rsp : Rsp)
    → IsSound (turn_by active access ls rsp).req
unfolding turn_by
active_sound true (Some want) ls rsp = turn_sound ls want rsp
active_sound true None ls rsp = no_store
active_sound false access ls rsp = no_store

-- a word that is stored is a codeword
pub stored_word : (x : State) (i : InWires) → (core_out x i).dwe ≡ true → is_bad_word (core_out x i).dword ≡ false
unfolding core_out gives out_by out_with cycle_of cycle_seen cycle_with sight_of sight_with
stored_word x i = active_sound _ _ x.ls (drsp_of (heard x i))

-- ---- a register

-- the word of a register that is written
written_by : (write : Option (ℕ × ℕ)) → is_write write ≡ true → is_bad_word (write_word write) ≡ false
unfolding write_word
written_by (Some w) e = encoded_word (w.1 % 2 ^ 32) (omega arith)
written_by None e = absurd cc

-- a register word that is written is a codeword
pub register_word : (x : State) (i : InWires) → (core_out x i).rw ≡ true → is_bad_word (core_out x i).rwword ≡ false
unfolding core_out gives out_by out_with
register_word x i = written_by (cycle_of x (inputs_of (heard x i))).effect.write

-- ---- the cache

-- the tag word that is driven, and both data words, are codewords, or no way is written
abbrev IsGoodTag : CacheOut → Type 0
IsGoodTag o = (is_bad_tag (tag_word o) ≡ false) ⊎ (tag_ways o ≡ 0)

-- the same of both data words
abbrev AreGoodLines : CacheOut → Type 0
AreGoodLines o = ((is_bad_word o.line0 ≡ false) × (is_bad_word o.line1 ≡ false)) ⊎ (o.ways ≡ 0)

-- the tag word by its choice
tag_by : (clear empty : Bool) (tag : ℕ) → empty ≡ false
    → is_bad_tag (if clear then encode_of 22 6 0 else if empty then 0 else encode_of 22 6 (payload_of 22 tag)) ≡ false
tag_by true empty tag e = encoded_tag 0 (omega arith)
tag_by false true tag e = absurd cc
tag_by false false tag e = encoded_tag (payload_of 22 tag) (omega arith)

-- a way that is filled isn't none
some_way : (even : Bool) → ((if even then 1 else 2) == 0) ≡ false
some_way true = refl
some_way false = refl

-- by what is filled
filled_tag : (f : Filling) (bus : Req) (alerts : Alerts) → IsGoodTag (cache_out_by f bus alerts)
unfolding tag_word
filled_tag Nothing bus alerts = inr refl
filled_tag (Clears set) bus alerts = inl (encoded_tag 0 (omega arith))
filled_tag (Stores slot tag word0 word1) bus alerts = inl (tag_by false _ tag (some_way (slot % 2 == 0)))

-- a tag word that is written is a codeword
pub tag_written : (x : State) (i : InWires) → (is_bad_tag (core_out x i).tword ≡ false) ⊎ ((core_out x i).tways ≡ 0)
unfolding core_out gives out_by out_with out_of
tag_written x i =
    let j = heard x i in
    let c = cycle_of x (inputs_of j) in
    let w : WordIn = port_of x (inputs_of j) c.request c.effect.fence in
    filled_tag (filling_of x.words w) (wires_of x.words w) (alerts_of x.words w)

-- what is filled has codewords
abbrev IsGoodFilling : Filling → Type 0
IsGoodFilling Nothing = Unit {0}
IsGoodFilling (Clears set) = Unit {0}
IsGoodFilling (Stores slot tag word0 word1) = (is_bad_word word0 ≡ false) × (is_bad_word word1 ≡ false)

-- by whether the walk goes on, and whether a line is stored
filling_by : (walks stores : Bool) (set slot tag word0 word1 : ℕ)
    → (is_bad_word word0 ≡ false) × (is_bad_word word1 ≡ false)
    → IsGoodFilling (if walks then Clears set else if stores then Stores slot tag word0 word1 else Nothing)
filling_by true stores set slot tag word0 word1 h = tt
filling_by false true set slot tag word0 word1 h = h
filling_by false false set slot tag word0 word1 h = tt

-- what the word port fills
good_filling : (w : WordPort) (i : WordIn) → IsGoodFilling (filling_of w i)
unfolding filling_of
good_filling w i =
    filling_by (nat_lt w.c_walk 256) (stores_of w i) _ _ _ _ _
    (encoded_word (w.c_word0 % 2 ^ 32) (omega arith), encoded_word (payload_of 32 i.rsp.word) (omega arith))

-- by what is filled
filled_lines : (f : Filling) (bus : Req) (alerts : Alerts) → IsGoodFilling f → AreGoodLines (cache_out_by f bus alerts)
filled_lines Nothing bus alerts h = inr refl
filled_lines (Clears set) bus alerts h = inr refl
filled_lines (Stores slot tag word0 word1) bus alerts h = inl h

-- data words that are written are codewords
pub line_written : (x : State) (i : InWires)
    → ((is_bad_word (core_out x i).dw0 ≡ false) × (is_bad_word (core_out x i).dw1 ≡ false))
    ⊎ ((core_out x i).dways ≡ 0)
unfolding core_out gives out_by out_with out_of
line_written x i =
    let j = heard x i in
    let c = cycle_of x (inputs_of j) in
    let w : WordIn = port_of x (inputs_of j) c.request c.effect.fence in
    filled_lines (filling_of x.words w) (wires_of x.words w) (alerts_of x.words w) (good_filling x.words w)
