-- The data port's share of a cycle: the grant, the word that it reads, what it leaves of memory, and the fields after
-- it.
use Rattle.std.proofs.Common.{◌≡◌, ◌≢◌, ℕ, suc, ◌+◌, ◌<◌, ◌≤◌, Bool, true, false, List, [], ◌∷◌, refl, sym, ap}
use Rattle.std.proofs.Common.{◌∙◌, inl, inr, arith, subst, Some, None, Option}
use Rattle.ibx_plan.specs.declared.site.Wait.{Wait}
use Rattle.ibx_isa.specs.declared.bus.Req.{Req}
use Rattle.ibx_isa.specs.declared.event.Access.{Access}
use Rattle.ibx_lsu.specs.declared.unit.Lsu.{Lsu}
use Rattle.ibx_isa.specs.Portions.{portion_addr}
use Rattle.ibx_isa.specs.Wires.{no_request, request_of}
use Rattle.ibx_muldiv.specs.declared.unit.MulDiv.{MulDiv as MulDivUnit}
use Rattle.ibx_secded.specs.Code.{encode_of}
use Rattle.ibx_arch.specs.Memory.{Memory, image_memory}
use Rattle.ibx_bus.specs.Memory.{MemoryState, error_of, memory_after, memory_next, answered_word}
use Rattle.ibx_bus.specs.Port.{PortState, grants, port_next}
use Rattle.ibx_bus.specs.PortTimes.{answer_time, grant_time}
use Rattle.ibx_bus.proofs.Ports.{Granted, free_rests, granted_goes, moved, no_grant}
use Rattle.ibx_time.specs.Settings.{Setup}
use Rattle.ibx_time.specs.Items.{NoPortion, Portions}
use Rattle.ibx_time.specs.Times.{portion_answer, portion_grant, portion_issue}
use Rattle.ibx_time.specs.Memories.{Write, memory_at, writes_with}
use Rattle.ibx_time.specs.History.{Story, access_at, item_at, taken}
use Rattle.ibx_id.specs.declared.stage.IdState.{IdState}
use Rattle.ibx_time_invariant.proofs.DataWires.{ask_early}
use Rattle.ibx_time_invariant.proofs.Fetches.{is_unmapped}
use Rattle.ibx_time_invariant.proofs.Links.{Ask}
use Rattle.ibx_time_invariant.proofs.Quiets.{image_low, memory_low}
use Rattle.ibx_time_invariant.proofs.Stages.{AreAccesses, IsAccess, LsAt, LsMid, Portion, ls_asked, StageMid, asks, failed}
use Rattle.ibx_time_invariant.proofs.Stages.{issue_at, new, number_at, opened, portion_word, quiet, turns, waiting}
use Rattle.ibx_time_invariant.proofs.StageSide.{AfterPort, StagePorts}
use Rattle.ibx_time_invariant.proofs.Ties.{IsBefore, IsPlaced, IsSettled, IsState, MemoryAt}
use Rattle.ibx_time_data.proofs.PortsMemory.{error_is, load_leaves, memory_with, store_holds, word_is}
use Rattle.ibx_time_data.proofs.PortsWrites.{Stays, item_stays, load_writes, no_writes, portion_written}
use Rattle.ibx_time_data.proofs.PortsWrites.{same_write}
use Rattle.ibx_time_invariant.proofs.Quiets.{image_ram}
use Rattle.ibx_time_invariant.proofs.DataWires.{ask}
use Rattle.ibx_memory.specs.Coded.{HoldsMemory}

-- ---- memory over the cycle

-- writes that are all before the cycle
all_before : (memory : Memory) (ws : List Write) (c : ℕ) → IsBefore ws c → Stays memory ws c
unfolding memory_at
all_before memory [] c b = refl
all_before memory (w ∷ ws) c b =
    same_write memory w ws c (λ e. absurd (omega (arith, b.0, e))) (all_before memory ws c b.1)

-- so neither portion writes in it, nor does an item without one
still_portions : (s : Setup) (t : ℕ) (h : Story) (c : ℕ) → IsBefore h.writes c
    → (portion_grant s.plan.dwaits h.times.made (t + 1) false ≢ c)
    × (portion_grant s.plan.dwaits h.times.made (t + 1) true ≢ c) → Stays (image_memory s.image) (taken s t h).writes c
unfolding taken
still_portions s t h c b k =
    item_stays (image_memory s.image) s.plan.dwaits h.times.made (t + 1) (item_at s t h).portions (access_at s t h)
    h.writes c k.0 k.1 (all_before (image_memory s.image) h.writes c b)

-- an item without portions writes nothing, so memory stays
still_none : (s : Setup) (t : ℕ) (h : Story) (c : ℕ) → IsBefore h.writes c → (item_at s t h).portions ≡ NoPortion
    → Stays (image_memory s.image) (taken s t h).writes c
unfolding taken
still_none s t h c b e =
    subst (λ (k : Portions). Stays (image_memory s.image)
    (writes_with s.plan.dwaits h.times.made (t + 1) k (access_at s t h) h.writes) c) (sym e)
    (no_writes (image_memory s.image) s.plan.dwaits h.times.made (t + 1) (access_at s t h) h.writes c
    (all_before (image_memory s.image) h.writes c b))

-- where no write is in the cycle memory holds the next cycle's too
still_holds : (s : Setup) (t : ℕ) (h : Story) (c : ℕ) (m : MemoryState)
    → Stays (image_memory s.image) (taken s t h).writes c → MemoryAt s (taken s t h) c m
    → MemoryAt s (taken s t h) (c + 1) m
still_holds s t h c m e v = subst (λ x. HoldsMemory s.image.ram m x) (sym e) v

-- ---- no portion is granted in the cycle

-- after the grant and up to the answer, at the answer, and before the grant
past_portions : (ws : List Wait) (n e c : ℕ) (b : Bool) → portion_grant ws n e b < c → c ≤ portion_answer ws n e b
    → (portion_grant ws n e false ≢ c) × (portion_grant ws n e true ≢ c)
unfolding answer_time grant_time
past_portions ws n e c false past up = (λ z. absurd (omega (arith, past, z)), λ z. absurd (omega (arith, up, z)))
past_portions ws n e c true past up = (λ z. absurd (omega (arith, past, z)), λ z. absurd (omega (arith, past, z)))

-- no portion is granted in the cycle in which one is answered
answered_portions : (ws : List Wait) (n e c : ℕ) (b : Bool) → portion_answer ws n e b ≡ c
    → (portion_grant ws n e false ≢ c) × (portion_grant ws n e true ≢ c)
unfolding answer_time grant_time
answered_portions ws n e c false at = past_portions ws n e c false (omega (arith, at)) (omega (arith, at))
answered_portions ws n e c true at = past_portions ws n e c true (omega (arith, at)) (omega (arith, at))

-- no portion is granted while the one that is issued still waits for its grant
late_portions : (ws : List Wait) (n e c : ℕ) (b : Bool) → c < portion_grant ws n e b → portion_issue ws n e b ≤ c
    → (portion_grant ws n e false ≢ c) × (portion_grant ws n e true ≢ c)
unfolding answer_time grant_time
late_portions ws n e c false late from = (λ z. absurd (omega (arith, late, z)), λ z. absurd (omega (arith, late, z)))
late_portions ws n e c true late from = (λ z. absurd (omega (arith, from, z)), λ z. absurd (omega (arith, late, z)))

-- ---- what a granted portion reads and leaves

-- a load writes nothing, and the portion of a store is written now
load_taken : (s : Setup) (t : ℕ) (h : Story) (w : Access) → access_at s t h ≡ Some w → w.store ≡ false
    → (taken s t h).writes ≡ h.writes
unfolding taken
load_taken s t h w e load =
    ap (λ a. writes_with s.plan.dwaits h.times.made (t + 1) (item_at s t h).portions a h.writes) e
    ∙ load_writes s.plan.dwaits h.times.made (t + 1) (item_at s t h).portions w h.writes load

-- the portion of a store that is granted in this cycle is in the memory of the next
store_taken : (s : Setup) (t : ℕ) (h : Story) (c : ℕ) (w : Access) (b : Bool) → Portion s t h w b → IsBefore h.writes c
    → w.store ≡ true → portion_grant s.plan.dwaits h.times.made (t + 1) b ≡ c
    → memory_at (image_memory s.image) (taken s t h).writes (c + 1)
    ≡ memory_with (memory_at (image_memory s.image) (taken s t h).writes c) w b
unfolding taken
store_taken s t h c w b r before st now =
    subst (λ (a : Option Access). memory_at (image_memory s.image)
    (writes_with s.plan.dwaits h.times.made (t + 1) (item_at s t h).portions a h.writes) (c + 1)
    ≡ memory_with (memory_at (image_memory s.image)
    (writes_with s.plan.dwaits h.times.made (t + 1) (item_at s t h).portions a h.writes) c) w b) (sym r.access)
    (portion_written (image_memory s.image) s.plan.dwaits h.times.made (t + 1) (item_at s t h).portions w b h.writes c
    r.reached st now (all_before (image_memory s.image) h.writes c before))

-- so memory after the grant holds what the next cycle has
granted_holds : (s : Setup) (t : ℕ) (h : Story) (c : ℕ) (w : Access) (b : Bool) (m : MemoryState) → IsPlaced s
    → IsAccess w → Portion s t h w b → IsBefore h.writes c → portion_grant s.plan.dwaits h.times.made (t + 1) b ≡ c
    → MemoryAt s (taken s t h) c m → (st : Bool) → w.store ≡ st
    → MemoryAt s (taken s t h) (c + 1) (memory_next m (request_of (encode_of 32 7) w b))
granted_holds s t h c w b m ok a r before now v true st =
    let memory : Memory = memory_at (image_memory s.image) (taken s t h).writes c in
    subst (λ x. HoldsMemory s.image.ram (memory_next m (request_of (encode_of 32 7) w b)) x)
    (sym (store_taken s t h c w b r before st now))
    (store_holds s m memory w b ok.setup.ram a.addr a.most (image_ram s (taken s t h).writes c) v
    (λ k. memory_low (image_memory s.image) (taken s t h).writes c k (image_low s ok)) st)
granted_holds s t h c w b m ok a r before now v false st =
    subst (λ x. HoldsMemory s.image.ram x (memory_at (image_memory s.image) (taken s t h).writes (c + 1)))
    (sym (load_leaves m w b st))
    (still_holds s t h c m (subst (λ ws. Stays (image_memory s.image) ws c) (sym (load_taken s t h w r.access st))
    (all_before (image_memory s.image) h.writes c before)) v)

-- the answer that is on its way has the portion's word
granted_word : (s : Setup) (t : ℕ) (h : Story) (c : ℕ) (w : Access) (b : Bool) (m : MemoryState) → IsPlaced s
    → IsAccess w → Portion s t h w b → IsState s (c + 1) h → IsSettled s c h → MemoryAt s (taken s t h) c m
    → answered_word m (request_of (encode_of 32 7) w b) ≡ encode_of 32 7 (portion_word h w b)
granted_word s t h c w b m ok a r i settled v =
    word_is s m h.state.memory w b ok.setup.ram i.good.ram_is a.addr
    (λ load. subst (λ x. HoldsMemory s.image.ram m x)
    (ap (λ ws. memory_at (image_memory s.image) ws c) (load_taken s t h w r.access load) ∙ sym settled.memory) v)

-- ---- by what the unit does in the cycle

-- the unit, its port and memory after the cycle
abbrev Left : Setup → ℕ → Story → ℕ → (Bool → Lsu) → PortState → MemoryState → Req → Bool → Type 0
Left s t h c next p m req granted = LsAt s t h (c + 1) (next granted) (port_next p m req)
    × MemoryAt s (taken s t h) (c + 1) (memory_after granted m req)

-- no request
rests : (s : Setup) (t : ℕ) (h : Story) (c : ℕ) (req : Req) (next : Bool → Lsu) (p : PortState) (m : MemoryState)
    → req ≡ no_request → Left s t h c next p m no_request false → Left s t h c next p m req (grants req.valid p)
rests s t h c req next p m e l =
    subst (λ (r : Req). Left s t h c next p m r (grants r.valid p)) (sym e)
    (subst (λ g. Left s t h c next p m no_request g) (sym (no_grant p)) l)

-- a portion that is asked for leaves them so
asks_left : (s : Setup) (t : ℕ) (h : Story) (c : ℕ) (next : Bool → Lsu) (p : PortState) (m : MemoryState) (w : Access)
    (b : Bool) → IsPlaced s → IsAccess w → IsState s (c + 1) h → IsSettled s c h
    → MemoryAt s (taken s t h) c m → Portion s t h w b
    → ((granted : Bool) → next granted ≡ ls_asked b granted (portion_word h w false))
    → Ask s.plan.dwaits (number_at h b) (issue_at s t h b) c p
    → Left s t h c next p m (request_of (encode_of 32 7) w b) (grants true p)
unfolding request_of
asks_left s t h c next p m w b ok a i settled v r nx k =
    let req : Req = request_of (encode_of 32 7) w b in
    let n : ℕ = number_at h b in
    let x : ℕ = issue_at s t h b in
    elim (ask s.plan.dwaits n x c (error_of m req) (answered_word m req) p k) [
      | inl u ↦
          subst (λ g. Left s t h c next p m req g) (sym u.grant) (
            opened w b r (nx true)
                (subst (λ e. Granted s.plan.dwaits n x e (encode_of 32 7 (portion_word h w b)) (c + 1)
                (moved true p (error_of m req) (answered_word m req)))
                (error_is s m (memory_at (image_memory s.image) (taken s t h).writes c) w b ok.setup.ram v)
                (subst (λ z. Granted s.plan.dwaits n x (error_of m req) z (c + 1)
                (moved true p (error_of m req) (answered_word m req))) (granted_word s t h c w b m ok a r i settled v)
                u.then)),
            granted_holds s t h c w b m ok a r settled.before u.now v w.store refl,
          )
      | inr u ↦
          subst (λ g. Left s t h c next p m req g) (sym u.grant) (
            waiting w b r (nx false) u.then,
            still_holds s t h c m (still_portions s t h c settled.before
                (late_portions s.plan.dwaits h.times.made (t + 1) c b (omega (arith, u.then.late))
                (ask_early s.plan.dwaits n x c p k))) v,
          )
    ]

-- and so does the access in each of its states
left_by : (s : Setup) (t : ℕ) (h : Story) (c : ℕ) (req : Req) (next : Bool → Lsu) (p : PortState) (m : MemoryState)
    → IsPlaced s → AreAccesses s → IsState s (c + 1) h → IsSettled s c h → MemoryAt s (taken s t h) c m
    → LsMid s t h c req next p → Left s t h c next p m req (grants req.valid p)
unfolding request_of
left_by s t h c req next p m ok are i settled v (quiet none e nx f) =
    rests s t h c req next p m e (
      quiet none nx (free_rests s.plan.dwaits h.times.made (error_of m no_request) (answered_word m no_request) p f),
      still_holds s t h c m (still_none s t h c settled.before none) v,
    )
left_by s t h c req next p m ok are i settled v (asks w b r e nx k) =
    subst (λ (q : Req). Left s t h c next p m q (grants q.valid p)) (sym e)
    (asks_left s t h c next p m w b ok (are t h w r.access) i settled v r nx k)
left_by s t h c req next p m ok are i settled v (opened w b r e nx o ne) =
    rests s t h c req next p m e (
      opened w b r nx (granted_goes s.plan.dwaits (number_at h b) (issue_at s t h b)
          (is_unmapped s (portion_addr w.addr b)) (encode_of 32 7 (portion_word h w b)) c (error_of m no_request)
          (answered_word m no_request) p o ne),
      still_holds s t h c m (still_portions s t h c settled.before
          (past_portions s.plan.dwaits h.times.made (t + 1) c b o.past (omega (arith, o.left)))) v,
    )
left_by s t h c req next p m ok are i settled v (turns w r e nx at f) =
    rests s t h c req next p m e (
      new w true r nx (ap (λ n. n + 1) at)
          (free_rests s.plan.dwaits (suc h.times.made) (error_of m no_request) (answered_word m no_request) p f),
      still_holds s t h c m (still_portions s t h c settled.before
          (answered_portions s.plan.dwaits h.times.made (t + 1) c false at)) v,
    )
left_by s t h c req next p m ok are i settled v (failed b portions e nx at f) =
    rests s t h c req next p m e (
      failed b portions nx (ap (λ n. n + 1) at)
          (free_rests s.plan.dwaits (suc (number_at h b)) (error_of m no_request) (answered_word m no_request) p f),
      still_holds s t h c m (still_portions s t h c settled.before
          (answered_portions s.plan.dwaits h.times.made (t + 1) c b at)) v,
    )

-- no item in the stage
empty_left : (s : Setup) (limit : ℕ) (h : Story) (c : ℕ) (id : IdState) (md : MulDivUnit) (req : Req)
    (next : Bool → Lsu) (p : PortState) (m : MemoryState) → IsSettled s c h
    → StageMid s limit h None c id md req next p → MemoryAt s h c m
    → AfterPort s limit h None c id md (next (grants req.valid p)) (port_next p m req)
    (memory_after (grants req.valid p) m req)
empty_left s limit h c id md req next p m settled u v =
    subst (λ (r : Req). AfterPort s limit h None c id md (next (grants r.valid p)) (port_next p m r)
    (memory_after (grants r.valid p) m r)) (sym u.quiet)
    (subst (λ g. AfterPort s limit h None c id md (next g) (port_next p m no_request) (memory_after g m no_request))
    (sym (no_grant p))
    (record {
      stage = record {
        ls_is = u.ls_is;
        idle = free_rests s.plan.dwaits h.times.made (error_of m no_request) (answered_word m no_request) p u.free;
        search = u.search;
      };
      memory =
          subst (λ x. HoldsMemory s.image.ram m x) (sym (all_before (image_memory s.image) h.writes c settled.before))
          v;
    }))

-- so every cycle of the data port does
pub stage_ports : (s : Setup) → StagePorts s
stage_ports s limit h None c id md req next p m ok are i settled u v =
    empty_left s limit h c id md req next p m settled u v
stage_ports s limit h (Some t) c id md req next p m ok are i settled u v =
    let l : Left s t h c next p m req (grants req.valid p) = left_by s t h c req next p m ok are i settled v u.part in
    record {
      stage = record {
        admitted_at = u.admitted_at;
        item = u.item;
        phase = u.phase;
        count = u.count;
        running = u.running;
        work = u.work;
        part = l.0;
      };
      memory = l.1;
    }
