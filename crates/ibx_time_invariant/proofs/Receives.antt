-- A word answers only while one is outstanding, so that the buffer drops just the answer that a redirect marked.
use Rattle.std.proofs.Common.{◌≡◌, ℕ, ◌+◌, Bool, true, false, List, Some, None, Option, refl, sym, ◌∙◌}
use Rattle.ibx_prefetch.specs.declared.buffer.Prefetch.{Prefetch}
use Rattle.ibx_prefetch.specs.Buffer.{fetch_after_answer, turned}
use Rattle.ibx_prefetch.proofs.Drops.{fetch_after_answer-outstanding}
use Rattle.ibx_icache.specs.declared.lookup.Look.{Look}
use Rattle.ibx_icache.specs.Doing.{answers_by, doing_of}
use Rattle.ibx_icache.specs.WordPort.{answer_of, marked}
use Rattle.ibx_icache.specs.declared.port.WordPort.{WordPort}
use Rattle.ibx_icache.specs.declared.doing.Doing.TheVariants.{Rests}
use Rattle.ibx_isa.specs.declared.bus.Rsp.{Rsp}
use Rattle.ibx_time_invariant.proofs.FetchSide.{ans_of, receives}
use Rattle.ibx_time_invariant.proofs.Links.{Link, idle, pending}
use Rattle.ibx_time_invariant.proofs.Words.{WordsMid}
use Rattle.ibx_bus.specs.Port.{PortState}
use Rattle.ibx_time.specs.Settings.{Setup}
use Rattle.ibx_time.specs.Streams.{Stream}
use Rattle.ibx_time.specs.Memories.{Write}

-- a port at rest doesn't answer
pub rest_silent : (w : WordPort) (rsp : Rsp) (l : Look) → doing_of w.c_state ≡ Rests → (answer_of w rsp l).valid ≡ false
unfolding answer_of answers_by
rest_silent w rsp l e = rw e refl

-- so a port that answers has a word outstanding
answers_busy : (s : Setup) (log : List Write) (x : Stream) (q c e : ℕ) (busy fence : Bool) (w : WordPort)
    (p : PortState) (tags lines : List ℕ) (rsp : Rsp) (l : Look)
    → Link s log x q c e busy (marked fence w) p tags lines → (answer_of w rsp l).valid ≡ true → busy ≡ true
answers_busy s log x q c e busy fence w p tags lines rsp l (idle b rest port cache late) answers =
    let no_ : false ≡ true = sym (rest_silent w rsp l rest) ∙ answers in cc
answers_busy s log x q c e busy fence w p tags lines rsp l (pending y t asked work) answers = asked.is_busy

-- and a redirect leaves it outstanding
turned_busy : (redirect : Option ℕ) (f : Prefetch) → (turned redirect f).f_busy ≡ f.f_busy
unfolding turned
turned_busy None f = refl
turned_busy (Some target) f = refl

-- after the done of a cycle, with its redirect or without
pub received_as : (s : Setup) (log : List Write) (x : Stream) (half q c : ℕ) (fence enable next : Bool)
    (redirect : Option ℕ) (f : Prefetch) (w : WordPort) (p : PortState) (tags lines : List ℕ)
    → WordsMid s log x half q c fence enable next (turned redirect f) w p tags lines
    → fetch_after_answer (ans_of w p tags lines) redirect f ≡ receives (ans_of w p tags lines) (turned redirect f)
received_as s log x half q c fence enable next redirect f w p tags lines m =
    fetch_after_answer-outstanding (ans_of w p tags lines) redirect f
    (λ answers. sym (turned_busy redirect f)
    ∙ answers_busy s log x q c (c + 1) (turned redirect f).f_busy fence w p tags lines _ _ m.link answers)
