-- The word port, phase by phase: the lookup, the answer, a request, a grant, FENCE.I and the walk. Our own rule.
use Rattle.std.specs.Prelude.{◌≡◌, ℕ, ◌+◌, ◌*◌, ◌/◌, ◌%◌, ◌^◌, ◌<◌, Bool, true, false, not, ◌&&◌, ◌||◌, ◌==◌, nat_lt}
use Rattle.std.specs.Prelude.{nat_le, if◌then◌else◌, Option, Some, None, List, slice_index}
use Rattle.ibx_isa.specs.declared.bus.Alerts.{Alerts}
use Rattle.ibx_isa.specs.declared.bus.Req.{Req}
use Rattle.ibx_isa.specs.declared.bus.Rsp.{Rsp}
use Rattle.ibx_secded.specs.Code.{encode_of, payload_of, syndrome_of}
use Rattle.ibx_prefetch.specs.declared.buffer.WordAns.{WordAns}
use Rattle.ibx_icache.specs.declared.doing.Doing.{Doing}
use Rattle.ibx_icache.specs.declared.doing.Doing.TheVariants.{Rests, Looks, AwaitsFirst, AwaitsSecond, Answers}
use Rattle.ibx_icache.specs.declared.doing.Doing.TheVariants.{AwaitsBare}
use Rattle.ibx_icache.specs.declared.lookup.Look.{Look}
use Rattle.ibx_icache.specs.declared.port.Met.{Met}
use Rattle.ibx_icache.specs.declared.port.WordPort.{WordPort}
use Rattle.ibx_icache.specs.declared.wires.CacheIn.{CacheIn}
use Rattle.ibx_icache.specs.declared.wires.CacheOut.{CacheOut}
use Rattle.ibx_icache.specs.declared.writes.Filling.{Filling}
use Rattle.ibx_icache.specs.declared.writes.Filling.TheVariants.{Nothing, Clears, Stores}
use Rattle.ibx_icache.specs.Doing.{answers_by, doing_of, granted_by, is_look, is_rest, state_of, stores_by, wires_by}
use Rattle.ibx_prefetch.specs.Buffer.{entry_of}

-- the port at reset: no request is outstanding, and the walk begins
unfoldable pub reset_of : WordPort
reset_of = record {
  c_state = 0;
  c_addr = 0;
  c_word0 = 0;
  c_word1 = 0;
  c_way = false;
  c_alt = false;
  c_walk = 0;
  c_nostore = false;
}

-- its fields are within their widths
pub record IsFields (w : WordPort) : Type 0 where
  pub state : w.c_state < 2 ^ 4
  pub word0 : w.c_word0 < 2 ^ 33
  pub word1 : w.c_word1 < 2 ^ 33
  pub walk : w.c_walk < 2 ^ 9

-- a tag word and two data words are codewords within their widths
pub record AreCodewords (tag word0 word1 : ℕ) : Type 0 where
  pub sound : syndrome_of 22 6 tag ≡ 0
  pub sound0 : syndrome_of 32 7 word0 ≡ 0
  pub sound1 : syndrome_of 32 7 word1 ≡ 0
  pub width : tag < 2 ^ 28
  pub width0 : word0 < 2 ^ 39
  pub width1 : word1 < 2 ^ 39

-- ---- the lookup

-- the words that are read, tags and data words by way
abbrev pub look_of : List ℕ → List ℕ → Look
look_of tags lanes = record {
  tag0 = slice_index tags 0;
  tag1 = slice_index tags 1;
  data0 = slice_index lanes 0;
  data1 = slice_index lanes 1;
}

-- they are within their widths
pub record IsLook (l : Look) : Type 0 where
  pub tag0 : l.tag0 < 2 ^ 28
  pub tag1 : l.tag1 < 2 ^ 28
  pub data0 : l.data0 < 2 ^ 39
  pub data1 : l.data1 < 2 ^ 39

-- a tag matches where it is valid and holds bits 31:11 of the address, also where a bit of its word was flipped
abbrev pub matches : ℕ → ℕ → Bool
matches tag addr = payload_of 22 tag == 2 ^ 21 + addr / 2 ^ 11

-- a word that has a flipped bit
abbrev pub is_bad_tag : ℕ → Bool
is_bad_tag tag = not (syndrome_of 22 6 tag == 0)

-- the same of a data word: its syndrome isn't 0, that of 32 bits with 7 check bits
abbrev pub is_bad_word : ℕ → Bool
is_bad_word word = not (syndrome_of 32 7 word == 0)

-- a way is bad where its tag has a flipped bit, or where it is the lowest that matches and its data word has one
abbrev pub is_bad0 : Look → ℕ → Bool
is_bad0 l addr = is_bad_tag l.tag0 || (matches l.tag0 addr && is_bad_word l.data0)

-- way 1: its data word counts only where way 0 doesn't match, as a hit takes the lowest matching way
abbrev pub is_bad1 : Look → ℕ → Bool
is_bad1 l addr = is_bad_tag l.tag1 || (not (matches l.tag0 addr) && matches l.tag1 addr && is_bad_word l.data1)

-- either way is bad
abbrev pub has_bad : Look → ℕ → Bool
has_bad l addr = is_bad0 l addr || is_bad1 l addr

-- a hit: a way matches and no way is bad
unfoldable pub is_hit : Look → ℕ → Bool
is_hit l addr = (matches l.tag0 addr || matches l.tag1 addr) && not (has_bad l addr)

-- the word of the lowest way that matches
unfoldable pub found_word : Look → ℕ → ℕ
found_word l addr = payload_of 32 (if matches l.tag0 addr then l.data0 else l.data1)

-- a tag whose valid bit is 0
abbrev pub is_empty : ℕ → Bool
is_empty tag = payload_of 22 tag / 2 ^ 21 == 0

-- the way that a miss fills: the lowest that is bad, else the lowest that is empty, else the other than that of the
-- last stored line
unfoldable pub victim_of : Look → ℕ → Bool → Bool
victim_of l addr alt =
    if is_bad0 l addr then false else
    if is_bad1 l addr then true else
    if is_empty l.tag0 then false else
    if is_empty l.tag1 then true else
    alt

-- ---- the answer: by what it does, whether the port answers, and whether the line is there

-- an answer of the bus that can't be used: an error, or a word that has a flipped bit
abbrev pub is_wrong : Rsp → Bool
is_wrong rsp = rsp.err || is_bad_word rsp.word

-- its word, with its error in bit 32
abbrev pub rsp_entry : Rsp → ℕ
rsp_entry rsp = entry_of (is_wrong rsp) (payload_of 32 rsp.word)

-- the word of a line at an address
abbrev pub half_of : ℕ → ℕ → ℕ → ℕ
half_of addr word0 word1 = if addr / 4 % 2 == 0 then word0 else word1

-- the word that answers, with its error in bit 32
unfoldable pub entry_by : Doing → WordPort → Rsp → Look → ℕ
entry_by Looks w rsp l = found_word l w.c_addr
entry_by Answers w rsp l = half_of w.c_addr w.c_word0 w.c_word1
entry_by _ w rsp l = rsp_entry rsp

-- the answer of a cycle
unfoldable pub answer_of : WordPort → Rsp → Look → WordAns
answer_of w rsp l =
    if answers_by (doing_of w.c_state) rsp.valid (is_hit l w.c_addr)
    then record {
      valid = true;
      err = not (entry_by (doing_of w.c_state) w rsp l / 2 ^ 32 == 0);
      word = entry_by (doing_of w.c_state) w rsp l % 2 ^ 32;
    }
    else record { valid = false; err = false; word = 0 }

-- what comes to the outstanding request in a cycle: the answer, and what a lookup tells where there is one
abbrev pub met_of : WordPort → Rsp → Look → Met
met_of w rsp l = record {
  ans = answer_of w rsp l;
  hit = is_look (doing_of w.c_state) && is_hit l w.c_addr;
  bad = is_look (doing_of w.c_state) && has_bad l w.c_addr;
  victim = is_look (doing_of w.c_state) && victim_of l w.c_addr w.c_alt;
}

-- ---- what comes

-- what it does changes, and nothing else
abbrev pub with_doing : Doing → WordPort → WordPort
with_doing g w = record w { c_state = state_of g }

-- what comes to the request: the lookup's hit or miss with its victim, or the bus's answer
unfoldable pub gone_by : Doing → Bool → Bool → Bool → Bool → ℕ → WordPort → WordPort
gone_by Looks came true stores way entry w = with_doing Rests w
gone_by Looks came false stores way entry w = record w { c_state = 2; c_way = way }
gone_by AwaitsFirst true hit stores way entry w = record w { c_state = 4; c_word0 = entry }
gone_by AwaitsSecond true hit stores way entry w =
    record w { c_state = 6; c_word1 = entry; c_alt = if stores then not w.c_way else w.c_alt }
gone_by Answers came hit stores way entry w = with_doing Rests w
gone_by AwaitsBare true hit stores way entry w = with_doing Rests w
gone_by Rests came hit stores way entry w = with_doing Rests w
gone_by g came hit stores way entry w = w

-- ---- a request, where it rests then

-- a cached request is looked up, another is asked for at once
unfoldable pub begun_by : Bool → Bool → Option ℕ → WordPort → WordPort
begun_by rests cached None w = w
begun_by false cached (Some addr) w = w
begun_by true true (Some addr) w = record w { c_state = 1; c_addr = addr; c_nostore = false }
begun_by true false (Some addr) w = record w { c_state = 7; c_addr = addr; c_nostore = false }

-- ---- FENCE.I and the walk

-- the walk empties a set a cycle, and a FENCE.I begins it anew
abbrev pub walked : Bool → ℕ → ℕ
walked true walk = 0
walked false walk = if nat_lt walk 256 then walk + 1 else walk

-- ---- a cycle, from the parts

-- what it is handed in a cycle, without the grant
pub record WordIn : Type 0 where
  pub request : Option ℕ
  pub enable : Bool
  pub fence : Bool
  pub rsp : Rsp
  pub look : Look

-- the same of the wires of a cycle, whose words read are tags and data by way
abbrev pub word_in : CacheIn → WordIn
word_in i =
    record { request = i.request; enable = i.enable; fence = i.fence; rsp = i.rsp; look = look_of i.tags i.lanes }

-- the wires that it is handed are within their widths
pub record IsInput (i : CacheIn) : Type 0 where
  pub word : i.rsp.word < 2 ^ 39
  pub look : IsLook (look_of i.tags i.lanes)

-- whether the line is stored: neither word is an error, no FENCE.I came since the request, and the walk has ended
abbrev pub stores_of : WordPort → WordIn → Bool
stores_of w i =
    stores_by (doing_of w.c_state) i.rsp.valid
    (not (is_wrong i.rsp) && w.c_word0 / 2 ^ 32 == 0 && not (w.c_nostore || i.fence)) (nat_le 256 w.c_walk)

-- a FENCE.I while a request is outstanding keeps its line from being stored
abbrev pub marked : Bool → WordPort → WordPort
marked fence w = record w { c_nostore = not (is_rest (doing_of w.c_state)) && (w.c_nostore || fence) }

-- the port after what comes
abbrev pub after_answer : WordPort → WordIn → WordPort
after_answer w i =
    marked i.fence (gone_by (doing_of w.c_state) i.rsp.valid (is_hit i.look w.c_addr) (stores_of w i)
    (victim_of i.look w.c_addr w.c_alt) (rsp_entry i.rsp) w)

-- a request is cached where the cache is on and empty of what came before the last FENCE.I
abbrev pub is_cached : WordPort → WordIn → Bool
is_cached w i = i.enable && nat_le 256 w.c_walk && not i.fence

-- the port after a request too
abbrev pub after_request : WordPort → WordIn → WordPort
after_request w i = let v = after_answer w i in begun_by (is_rest (doing_of v.c_state)) (is_cached w i) i.request v

-- the wires on the bus
unfoldable pub wires_of : WordPort → WordIn → Req
wires_of w i = let v = after_request w i in wires_by (doing_of v.c_state) v.c_addr

-- the fields after the cycle
unfoldable pub word_port_next : WordPort → WordIn → Bool → WordPort
word_port_next w i granted =
    let v = after_request w i in
    record v { c_state = state_of (granted_by granted (doing_of v.c_state)); c_walk = walked i.fence w.c_walk }

-- the slot of an address's line in a way: of each set way 0 and then way 1
abbrev pub slot_of : ℕ → Bool → ℕ
slot_of addr way = addr / 8 % 256 * 2 + (if way then 1 else 0)

-- the words of the cache that are written: both tags of a set by the walk, or a line
unfoldable pub filling_of : WordPort → WordIn → Filling
filling_of w i =
    if nat_lt w.c_walk 256 then Clears w.c_walk else
    if stores_of w i
    then Stores (slot_of w.c_addr w.c_way) (encode_of 22 6 (2 ^ 21 + w.c_addr / 2 ^ 11))
    (encode_of 32 7 (w.c_word0 % 2 ^ 32)) (encode_of 32 7 (payload_of 32 i.rsp.word))
    else Nothing

-- the words of a line that is stored are codewords, and the set that is emptied is within its width
abbrev pub AreSound : Filling → Type 0
AreSound Nothing = Unit {0}
AreSound (Clears set) = set < 2 ^ 8
AreSound (Stores slot tag word0 word1) = AreCodewords tag word0 word1

-- the address at which the cache is read
abbrev pub looked : WordPort → ℕ
looked w = if w.c_state == 1 then w.c_addr else 0

-- ---- the wires of a cycle

-- the set of alerts
abbrev pub alerts_by : Bool → Bool → Alerts
alerts_by false false = record { 0 = 0 }
alerts_by true false = record { 0 = 1 }
alerts_by false true = record { 0 = 4 }
alerts_by true true = record { 0 = 5 }

-- MINOR where a way that is looked up is bad, and BUS where a word that the bus answers has a flipped bit
unfoldable pub alerts_of : WordPort → WordIn → Alerts
alerts_of w i =
    alerts_by (is_look (doing_of w.c_state) && has_bad i.look w.c_addr) (i.rsp.valid && is_bad_word i.rsp.word)

-- the wires of what is written
abbrev pub out_by : Filling → Req → Alerts → CacheOut
out_by Nothing bus alerts =
    record { bus = bus; ways = 0; set = 0; tag = 0; line0 = 0; line1 = 0; clear = false; alerts = alerts }
out_by (Clears set) bus alerts =
    record { bus = bus; ways = 0; set = set; tag = 0; line0 = 0; line1 = 0; clear = true; alerts = alerts }
out_by (Stores slot tag word0 word1) bus alerts =
    record {
      bus = bus;
      ways = if slot % 2 == 0 then 1 else 2;
      set = slot / 2 % 256;
      tag = tag;
      line0 = word0;
      line1 = word1;
      clear = false;
      alerts = alerts;
    }

-- what it drives
unfoldable pub out_of : WordPort → WordIn → CacheOut
out_of w i = out_by (filling_of w i) (wires_of w i) (alerts_of w i)
