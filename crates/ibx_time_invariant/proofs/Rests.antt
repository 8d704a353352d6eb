-- A cycle without an event, as the architecture sees it.
use Rattle.std.proofs.Common.{◌≡◌, ℕ, ◌+◌, ◌-◌, ◌≤◌, false, List, [], ◌∷◌, None, sym, refl, ap, ◌∙◌, arith}
use Rattle.ibx_csr.specs.Fields.{tick_of, Complemented, values}
use Rattle.ibx_csr.proofs.Laws.{counters-step}
use Rattle.ibx_time_invariant.proofs.Links.{AreGranted}
use Rattle.ibx_time_invariant.proofs.Ties.{IsBefore}
use Rattle.ibx_time_invariant.proofs.ArchSide.{ArchRests}
use Rattle.ibx_time_invariant.proofs.Pieces.{memory_stays}
use Rattle.ibx_time.specs.Settings.{Setup}
use Rattle.ibx_time.specs.Requests.{Transaction, stands}
use Rattle.ibx_time.specs.Times.{next_pc}
use Rattle.ibx_time.specs.Memories.{Write}
use Rattle.ibx_arch.specs.Memory.{image_memory}
use Rattle.ibx_csr.specs.Values.{counters_after, csr_tick}
use Rattle.ibx_csr.specs.declared.csrs.Csrs.{Csrs}

-- the counters move by one, to those of the next cycle
pub tick_is : (c : Csrs) → values (tick_of c false None) ≡ csr_tick (values c) false None
unfolding values tick_of csr_tick
tick_is c = refl

-- the cycles since the one that the state stands at grow by one
pub gap : (c stands : ℕ) → stands ≤ c → c - stands + 1 ≡ c + 1 - stands
gap c stands h = omega arith

-- what is before a cycle is before the next one
pub later_before : (ws : List Write) (c : ℕ) → IsBefore ws c → IsBefore ws (c + 1)
later_before [] c b = tt
later_before (w ∷ ws) c b = (omega (arith, b.0), later_before ws c b.1)

-- transactions that are granted before a cycle are granted before the next one
pub later_granted : (sent : List Transaction) (c : ℕ) → AreGranted sent c → AreGranted sent (c + 1)
later_granted [] c b = tt
later_granted (x ∷ sent) c b = (omega (arith, b.0), later_granted sent c b.1)

-- the counters have no complements
pub ticked_complements : (c : Csrs) → Complemented c → Complemented (tick_of c false None)
unfolding tick_of
ticked_complements c k = record { trap = k.trap; cfg = k.cfg; low = k.low; high = k.high }

-- so the fields still hold the state
pub arch_rests : (s : Setup) → ArchRests s
arch_rests s h c next_pc csrs regs t i = record {
  tied = record {
    values_are =
        tick_is csrs ∙ ap (λ v. csr_tick v false None) t.values_are ∙ counters-step h.state.csrs (c - h.state.stands)
        ∙ ap (counters_after h.state.csrs) (gap c h.state.stands i.stands);
    complemented = ticked_complements csrs t.complemented;
    next_pc_is = t.next_pc_is;
    regs_are = t.regs_are;
    ctl = t.ctl;
    half_low = t.half_low;
    pc = t.pc;
  };
  state = record {
    good = i.good;
    stands = omega (arith, i.stands);
    done = omega (arith, i.done);
    settled = record {
      before = later_before h.writes c i.settled.before;
      granted = later_granted h.sent c i.settled.granted;
      memory = i.settled.memory ∙ sym (memory_stays (image_memory s.image) h.writes c i.settled.before);
    };
  };
}
