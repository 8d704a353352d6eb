-- The wires of the requests on the bus, from a transaction's issue to its grant. An address is that of a word, aligned
-- to 4.
-- Our own rule.
use Rattle.std.specs.Prelude.{◌≡◌, ℕ, ◌*◌, ◌/◌, ◌<◌, ◌%◌, ◌^◌, Bool, false, true, if◌then◌else◌}
use Rattle.ibx_isa.specs.declared.bus.Req.{Req}
use Rattle.ibx_isa.specs.declared.event.Access.{Access}
use Rattle.ibx_isa.specs.Portions.{lanes_of, portion_addr}

-- the wires while there is no transaction to be granted
abbrev pub no_request : Req
no_request = record { valid = false; write = false; be = 0; addr = 0; word = 0 }

-- a fetch of a word
abbrev pub fetch_wires : ℕ → Req
fetch_wires address = record { valid = true; write = false; be = 15; addr = address; word = 0 }

-- the request for a portion of an access, with the code of the bus: the word's address, the byte enables, and a
-- store's lanes
unfoldable pub request_of : (ℕ → ℕ) → Access → Bool → Req
request_of code want second =
    (let lanes = lanes_of want.addr want.size want.value second in
    record {
      valid = true;
      write = want.store;
      be = lanes.0;
      addr = portion_addr want.addr second / 4 * 4;
      word = if want.store then code lanes.1 else 0;
    })

-- what a port takes: an aligned address, four byte enables and a word of 39 bits
pub record IsRequest (r : Req) : Type 0 where
  pub aligned : r.addr % 4 ≡ 0
  pub enables : r.be < 16
  pub word : r.word < 2 ^ 39
