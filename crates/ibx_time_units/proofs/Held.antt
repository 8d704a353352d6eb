-- Main holds the words of the history before each cycle.
use Rattle.std.proofs.Common.{◌≡◌, ℕ, Bool, List, sym, subst}
use Rattle.ibx_bus.specs.Port.{PortState}
use Rattle.ibx_core.specs.declared.state.State.{State}
use Rattle.ibx_system.specs.System.{Whole}
use Rattle.ibx_icache.specs.declared.port.WordPort.{WordPort}
use Rattle.ibx_time_invariant.proofs.Invariant.{enables}
use Rattle.ibx_time_invariant.proofs.Results.{phases}
use Rattle.ibx_time_invariant.proofs.Runs.{Before, before}
use Rattle.ibx_time_invariant.proofs.Stages.{StageAt}
use Rattle.ibx_time_invariant.proofs.Ties.{IsPlaced}
use Rattle.ibx_time_invariant.proofs.Words.{Words}
use Rattle.ibx_time_machine.specs.System.{System}
use Rattle.ibx_time_machine.specs.Whole.{system_at}
use Rattle.ibx_time_system.specs.Projection.{IsStart}
use Rattle.ibx_time_system.proofs.Runs.{along}
use Rattle.ibx_prefetch.specs.declared.buffer.Prefetch.{Prefetch}
use Rattle.ibx_time_system.proofs.Theorem.{remaining}
use Rattle.ibx_time.proofs.Times.{requested_is}
use Rattle.ibx_time.specs.History.{Story, told_below, with_item}
use Rattle.ibx_time.specs.Settings.{Setup, settings_of}
use Rattle.ibx_time.specs.Streams.{past}
use Rattle.ibx_time_units.specs.Buffer.{IsBuffer}
use Rattle.ibx_time_units.specs.Held.{HoldsFetches, HoldsStory, count_at}
use Rattle.ibx_time.specs.Runs.{story_at}
use Rattle.ibx_time_units.specs.Port.{IsCache, stored}
use Rattle.ibx_time_units.proofs.Fields.{buffer_is}
use Rattle.ibx_time_invariant.proofs.Runs.{open_is}
use Rattle.ibx_time_units.proofs.Stored.{cache_is}

-- ---- the fields

-- those of a story, by the count of its words that are requested
holds_by : (s : Setup) (y : Story) (q c : ℕ) (enable : Bool) (f : Prefetch) (w : WordPort) (p : PortState)
    (tags lines : List ℕ) → Words s y q c enable f w p tags lines → HoldsStory s y c f w tags lines
holds_by s y q c enable f w p tags lines v =
    let same : count_at s y c ≡ q = requested_is (settings_of s) y.times.stream c q v.requested in
    record {
      buffer = subst (λ n. IsBuffer s y.writes y.times n c f) (sym same)
          (buffer_is s y.writes y.times q c enable f w p tags lines v);
      cache = subst (λ n. IsCache s y.writes y.times.stream.fences
          (stored (past (settings_of s) y.times.stream n).fills c) c w tags lines) (sym same)
          (cache_is s y.writes y.times.stream y.times.half q c enable f w p tags lines v);
    }

-- in the machine of the time equations
abbrev HoldsAt : Setup → ℕ → System → Type 0
HoldsAt s c st = HoldsStory s (story_at s c) c st.main.fetch st.main.words st.tags st.lines

-- before each cycle that machine holds the words of the history
holds_at : (s : Setup) → IsPlaced s → (c : ℕ) → HoldsAt s c (system_at s c)
holds_at s ok c =
    let h : Story = (told_below s c).story in
    let st : System = system_at s c in
    let b : Before s c h st = before s (phases s (remaining s)) ok c in
    let stage : StageAt s c h b.phase c st.main.id st.main.md st.main.ls st.dport =
    subst (λ d. StageAt s c h b.phase d st.main.id st.main.md st.main.ls st.dport) b.cycle b.inv.stage in
    let words : Words s (with_item s h b.phase) b.count c (enables st.main.csrs) st.main.fetch st.main.words st.iport
    st.tags st.lines =
    subst (λ d. Words s (with_item s h b.phase) b.count d (enables st.main.csrs) st.main.fetch st.main.words st.iport
    st.tags st.lines) b.cycle b.inv.words in
    subst (λ o. HoldsStory s (with_item s h o) c st.main.fetch st.main.words st.tags st.lines)
    (sym (open_is s c h b.phase st.main.id st.main.md st.main.ls st.dport stage))
    (holds_by s (with_item s h b.phase) b.count c (enables st.main.csrs) st.main.fetch st.main.words st.iport st.tags
    st.lines words)

-- so it is in the core
pub holds_fetches : (s : Setup) → IsPlaced s → (w : Whole State) → IsStart s w → HoldsFetches s w
holds_fetches s ok w start c = subst (HoldsAt s c) (sym (along s ok w start c).system) (holds_at s ok c)
