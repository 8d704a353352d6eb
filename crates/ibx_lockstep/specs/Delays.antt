-- By how many cycles a shadow is behind its main. Our own rule.
use Rattle.std.specs.Prelude.{ℕ}
use Rattle.ibx_lockstep.specs.declared.delay.Delay.{Delay}
use Rattle.ibx_lockstep.specs.declared.delay.Delay.TheVariants.{One, Two, Three, Four}

-- the cycles of a delay, from 1 to 4
abbrev pub cycles_of : Delay → ℕ
cycles_of One = 1
cycles_of Two = 2
cycles_of Three = 3
cycles_of Four = 4
