use Rattle.std.proofs.Common.{◌≡◌, ◌≤◌, length, drop}
use Rattle.ibx_pmp.specs.Ranges.{allowed}
use Rattle.ibx_pmp.proofs.Words.{decided}
use Rattle.ibx_pmp.proofs.protection.allow.Given as goal

-- the entries before the i-th don't match, so that the others decide
abbrev pub invariant-loop-i : goal.invariant-loop-i
invariant-loop-i l = (length l.r.cfg ≤ 16)
    × (allowed l.r.sec l.r.cfg l.r.addr l.addr l.size l.kind l.machine
    ≡ decided l.r.sec l.lower (drop l.i l.r.cfg) (drop l.i l.r.addr) l.addr l.size l.kind l.machine)
