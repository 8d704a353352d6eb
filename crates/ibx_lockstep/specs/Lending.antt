-- What a loan of main, or of the shadow, leaves: that core as it was left, and all else as it was.
use Rattle.std.specs.Borrow.{Fml, Lends, MutBor, RattleType}
use Rattle.ibx_lockstep.specs.declared.pair.Pair.{Pair}
use Rattle.ibx_lockstep.specs.contracts.pair.Pair.{the_row}

-- the pair with another main core, and with another shadow
abbrev pub with_main : {S I O : Type 0} → Pair S I O → S → Pair S I O
with_main p s = record p { main = s }

-- the shadow is replaced; main stays, and so do the pair's other parts
abbrev pub with_shadow : {S I O : Type 0} → Pair S I O → S → Pair S I O
with_shadow p s = record p { shadow = s }

-- a loan of main, and of the shadow: the pair after it has that core as it was left, and its other parts as they were
abbrev pub LendsMain : (C I O : RattleType) → MutBor (Pair C.Denot I.Denot O.Denot) → MutBor C.Denot → Fml
LendsMain C I O p r = Lends (the_row C I O) C p r (with_main p.now)

-- the shadow is lent: what the borrower leaves of it is the shadow of the pair afterwards
abbrev pub LendsShadow : (C I O : RattleType) → MutBor (Pair C.Denot I.Denot O.Denot) → MutBor C.Denot → Fml
LendsShadow C I O p r = Lends (the_row C I O) C p r (with_shadow p.now)
