-- The wires that write the cache put the words of the filling: both tags of a set, or a line.
use Rattle.std.proofs.Common.{◌≡◌, ℕ, ◌+◌, ◌*◌, ◌/◌, ◌%◌, ◌^◌, ◌<◌, Bool, true, false, refl, sym, ap, ap₂, ◌∙◌, arith}
use Rattle.std.specs.Prelude.{if◌then◌else◌, nat_lt, slice_set}
use Rattle.std.proofs.lemmas.Nat.{mod_below}
use Rattle.ibx_isa.specs.declared.bus.Alerts.{Alerts}
use Rattle.ibx_isa.specs.declared.bus.Req.{Req}
use Rattle.ibx_secded.specs.Code.{encode_of, payload_of}
use Rattle.ibx_secded.proofs.Laws.{payload_of-encode}
use Rattle.ibx_icache.specs.declared.doing.Doing.{Doing}
use Rattle.ibx_icache.specs.declared.doing.Doing.TheVariants.{Rests, Looks, AsksFirst, AwaitsFirst, AsksSecond}
use Rattle.ibx_icache.specs.declared.doing.Doing.TheVariants.{AwaitsSecond, Answers, AsksBare, AwaitsBare}
use Rattle.ibx_icache.specs.declared.port.WordPort.{WordPort}
use Rattle.ibx_icache.specs.declared.writes.Filling.{Filling}
use Rattle.ibx_icache.specs.declared.writes.Filling.TheVariants.{Nothing, Clears, Stores}
use Rattle.ibx_icache.specs.Doing.{doing_of, stores_by}
use Rattle.ibx_icache.specs.WordPort.{WordIn, filling_of, out_by as port_out, slot_of, stores_of}
use Rattle.ibx_core.specs.Core.{Cycle}
use Rattle.ibx_core.specs.declared.reads.Reads.{Reads}
use Rattle.ibx_core.specs.Core.{out_with, tag_word}
use Rattle.ibx_core.specs.Wires.{OutWires}
use Rattle.ibx_time_fetch.proofs.AnswersCache.{empty_tag}
use Rattle.ibx_time_system.specs.Cycles.{Fills, IsAddressed}

-- so its tag has 22 bits
in_tag : (addr : ℕ) → addr < 2 ^ 32 → 2 ^ 21 + addr / 2 ^ 11 < 2 ^ 22
in_tag addr low = omega arith

-- a line is stored where its second word is awaited
storing : (d : Doing) (came good ended : Bool) → stores_by d came good ended ≡ true → d ≡ AwaitsSecond
storing AwaitsSecond came good ended e = refl
storing Rests came good ended e = absurd cc
storing Looks came good ended e = absurd cc
storing AsksFirst came good ended e = absurd cc
storing AwaitsFirst came good ended e = absurd cc
storing AsksSecond came good ended e = absurd cc
storing Answers came good ended e = absurd cc
storing AsksBare came good ended e = absurd cc
storing AwaitsBare came good ended e = absurd cc

module _ (bus : Req) (a : Alerts) (alerts : ℕ) (r : Reads) (c : Cycle) where
  abbrev wires : Filling → OutWires
  wires f = out_with (port_out f bus a) alerts r c

  -- nothing is written
  nothing_fills : Fills Nothing (wires Nothing)
  unfolding out_with
  nothing_fills = record { tags = λ tags. refl; lines = λ lines. refl }

  -- a set is emptied
  clears_fills : (set : ℕ) → Fills (Clears set) (wires (Clears set))
  unfolding out_with tag_word
  clears_fills set = record {
    tags = λ tags.
        let low : 2 * set ≡ set * 2 + 0 = omega arith in
        let high : 2 * set + 1 ≡ set * 2 + 1 = omega arith in
        ap₂ (λ (m n : ℕ). slice_set (slice_set tags m 0xa800000) n 0xa800000) low high
        ∙ ap (λ (v : ℕ). slice_set (slice_set tags (set * 2 + 0) v) (set * 2 + 1) v) (sym empty_tag);
    lines = λ lines. refl;
  }

  -- a line's slot in its set
  stores_at : (set : ℕ) (way : Bool) (slot tag word0 word1 : ℕ) → set < 256 → slot ≡ set * 2 + (if way then 1 else 0)
      → encode_of 22 6 (payload_of 22 tag) ≡ tag
      → Fills (Stores slot tag word0 word1) (wires (Stores slot tag word0 word1))
  unfolding out_with tag_word
  stores_at set false slot tag word0 word1 low at code =
      let even : slot % 2 ≡ 0 = omega arith in
      let place : slot / 2 % 256 ≡ set = omega arith in
      let first : 2 * slot ≡ (set * 2 + 0) * 2 + 0 = omega arith in
      let last : 2 * slot + 1 ≡ (set * 2 + 0) * 2 + 1 = omega arith in
      record {
        tags = λ tags. rw (even, place, code) (ap (λ (n : ℕ). slice_set tags n tag) at);
        lines = λ lines. rw (even, place) (ap₂ (λ (m n : ℕ). slice_set (slice_set lines m word0) n word1) first last);
      }
  stores_at set true slot tag word0 word1 low at code =
      let odd : slot % 2 ≡ 1 = omega arith in
      let place : slot / 2 % 256 ≡ set = omega arith in
      let first : 2 * slot ≡ (set * 2 + 1) * 2 + 0 = omega arith in
      let last : 2 * slot + 1 ≡ (set * 2 + 1) * 2 + 1 = omega arith in
      record {
        tags = λ tags. rw (odd, place, code) (ap (λ (n : ℕ). slice_set tags n tag) at);
        lines = λ lines. rw (odd, place) (ap₂ (λ (m n : ℕ). slice_set (slice_set lines m word0) n word1) first last);
      }

  -- by what is written
  fills_by : (b d : Bool) (walk set : ℕ) (way : Bool) (slot tag word0 word1 : ℕ) → set < 256
      → slot ≡ set * 2 + (if way then 1 else 0) → (d ≡ true → encode_of 22 6 (payload_of 22 tag) ≡ tag)
      → (let f = if b then Clears walk else if d then Stores slot tag word0 word1 else Nothing in Fills f (wires f))
  fills_by true d walk set way slot tag word0 word1 low at code = clears_fills walk
  fills_by false true walk set way slot tag word0 word1 low at code =
      stores_at set way slot tag word0 word1 low at (code refl)
  fills_by false false walk set way slot tag word0 word1 low at code = nothing_fills

  -- where a second word is awaited the line's address has 32 bits
  pub filling_fills : (w : WordPort) (i : WordIn) → IsAddressed w → Fills (filling_of w i) (wires (filling_of w i))
  unfolding filling_of
  filling_fills w i low =
      let tag : ℕ = 2 ^ 21 + w.c_addr / 2 ^ 11 in
      let narrow : stores_of w i ≡ true → tag < 2 ^ 22 =
      λ e. in_tag w.c_addr (low (storing (doing_of w.c_state) i.rsp.valid _ _ e)) in
      fills_by (nat_lt w.c_walk 256) (stores_of w i) w.c_walk (w.c_addr / 8 % 256) w.c_way (slot_of w.c_addr w.c_way)
      (encode_of 22 6 tag) (encode_of 32 7 (w.c_word0 % 2 ^ 32)) (encode_of 32 7 (payload_of 32 i.rsp.word))
      (mod_below (w.c_addr / 8) 256 (omega arith)) refl
      (λ e. ap (encode_of 22 6) (payload_of-encode 22 6 tag (narrow e)))
