-- What enters the stage is the same. In the cycle of a redirect no parcel is ready, whatever stands in its place.
use Rattle.std.proofs.Common.{◌≡◌, ℕ, Bool, true, false, ◌||◌, Option, Some, None, refl, ap, ◌∙◌, arith}
use Rattle.std.proofs.lemmas.Bool.{le-ltb}
use Rattle.std.specs.Prelude.{◌%◌, ◌/◌, nat_lt}
use Rattle.ibx_csr.specs.declared.csrs.Csrs.{Csrs}
use Rattle.ibx_trap.specs.Interrupts.{pending_of}
use Rattle.ibx_dummy.specs.declared.unit.Dummy.{Dummy as DummyUnit}
use Rattle.ibx_dummy.specs.Dummies.{is_due}
use Rattle.ibx_prefetch.specs.declared.buffer.Head.{Head}
use Rattle.ibx_prefetch.specs.declared.buffer.Prefetch.{Prefetch}
use Rattle.ibx_prefetch.specs.declared.buffer.WordAns.{WordAns}
use Rattle.ibx_prefetch.specs.Buffer.{entry_of, fetch_after_answer, head_of, received, turned}
use Rattle.ibx_id.specs.declared.stage.Turn.{Turn}
use Rattle.ibx_id.specs.declared.stage.Turn.TheVariants.{Hold}
use Rattle.ibx_core.specs.Effects.{Effect}
use Rattle.ibx_core.specs.Core.{head_at, head_by, no_parcel}
use Rattle.ibx_core.specs.Entries.{admits_at, admits_by, dummy_mask, enables_dummies, entry_by, fetched_by, fetched_of}

-- ---- with no parcel that is ready

-- other parcels of which the first isn't ready leave the same
unready_entry : (number : Option ℕ) (due : Bool) (h k : Head) (c : Csrs) (d : DummyUnit) (pc : ℕ)
    → h.first.ready ≡ false
    → k.first.ready ≡ false → entry_by number due h c d pc ≡ entry_by number due k c d pc
unfolding entry_by fetched_of fetched_by
unready_entry (Some number) due h k c d pc e f = refl
unready_entry None true h k c d pc e f = refl
unready_entry None false h k c d pc e f = rw (e, f) refl

-- so by the turn
unready_admits : (turn : Turn) (h k : Head) (e : Effect) (lines : ℕ) → h.first.ready ≡ false → k.first.ready ≡ false
    → admits_by turn h e lines ≡ admits_by turn k e lines
unfolding admits_at
unready_admits (Hold st) h k e lines u v = refl
unready_admits _ h k e lines u v =
    unready_entry (pending_of e.csrs.priv_ e.csrs.mstatus e.csrs.mie lines)
    (is_due (enables_dummies e.csrs) (dummy_mask e.csrs) e.dummies) h k e.csrs e.dummies e.next_pc u v

-- a redirect empties the buffer, and the answer of its cycle is dropped
none_held : (valid drop : Bool) (entry target : ℕ) (f : Prefetch)
    → (received valid (drop || true) entry (turned (Some target) f)).buf_count ≡ 0
unfolding received turned
none_held false drop entry target f = refl
none_held true true entry target f = refl
none_held true false entry target f = refl

-- so no parcel is ready
no_head : (ans : WordAns) (target : ℕ) (f : Prefetch)
    → (head_of (fetch_after_answer ans (Some target) f)).first.ready ≡ false
unfolding head_of
no_head ans target f =
    let g : Prefetch = fetch_after_answer ans (Some target) f in
    ap (nat_lt (g.head_pc / 2 % 2 / 2)) (none_held ans.valid f.f_drop (entry_of ans.err ans.word) target f)
    ∙ le-ltb (g.head_pc / 2 % 2 / 2) 0 (omega arith)

-- ---- both

-- by whether the cycle is redirected
entry_at : (turn : Turn) (redirect : Option ℕ) (ans : WordAns) (f : Prefetch) (e : Effect) (lines : ℕ)
    → admits_by turn (head_of (fetch_after_answer ans redirect f)) e lines
    ≡ admits_by turn (head_by redirect ans f) e lines
unfolding head_at
entry_at turn None ans f e lines = refl
entry_at turn (Some target) ans f e lines =
    let h : Head = head_of (fetch_after_answer ans (Some target) f) in
    let none : Head = record { first = no_parcel; second = no_parcel } in
    unready_admits turn h none e lines (no_head ans target f) refl

-- what enters in a cycle
pub entry_is : (turn : Turn) (ans : WordAns) (f : Prefetch) (e : Effect) (lines : ℕ)
    → admits_by turn (head_of (fetch_after_answer ans e.redirect f)) e lines
    ≡ admits_by turn (head_by e.redirect ans f) e lines
entry_is turn ans f e lines = entry_at turn e.redirect ans f e lines
