-- Runs of small programs that have each feature of the fetch side, the stage and the data port, computed.
use Rattle.std.specs.Prelude.{[], ◌∷◌, List, refl}
use Rattle.ibx_isa.specs.declared.insn.MulKind.TheVariants.{Single, Slow}
use Rattle.ibx_time.proofs.Runs.{Example, Agree, Retired, Wrote, Trapped, Interrupted, run, with_multiplier, halting}
use Rattle.ibx_time.proofs.Runs.{halted, at, placed, program, no_plan, plan, wait, lines}

-- waits and redirects of the fetch side
abbrev fetches : List Example
fetches =
    -- waits before grants and answers, which begin anew
    run (program (0x00020337 ∷ 0x00100393 ∷ 0x00732423 ∷ 0x00000013 ∷ 0x00000013 ∷ []))
    (plan (wait 1 2 ∷ wait 0 0 ∷ wait 2 1 ∷ []) (wait 3 2 ∷ []) []) 40
    (halted 0x00100080 5 6 16)
    -- three words wait behind a division, and the next is requested as one is taken
    ∷ run (program (0x06400293 ∷ 0x00700413 ∷ 0x0282c4b3 ∷ 0x00000013 ∷ 0x00000013 ∷ 0x00c0006f ∷ 0x00000013
    ∷ 0x00000013 ∷ halting)) (plan (wait 1 1 ∷ wait 0 2 ∷ []) [] []) 75
    (Wrote 4 0x00100080 0x06400293 5 0x00000064 ∷ Wrote 7 0x00100084 0x00700413 8 0x00000007
    ∷ Wrote 47 0x00100088 0x0282c4b3 9 0x0000000e ∷ Retired 48 0x0010008c 0x00000013
    ∷ Retired 49 0x00100090 0x00000013 ∷ Retired 50 0x00100094 0x00c0006f ∷ halted 0x001000a0 55 58 62)
    -- a full buffer, of which halfwords are taken
    ∷ run (program (0x06400293 ∷ 0x00700413 ∷ 0x0282c4b3 ∷ 0x43094285 ∷ 0x4411438d ∷ 0x05134495 ∷ 0x459d0060
    ∷ halting)) (plan (wait 0 1 ∷ []) [] []) 75
    (Wrote 3 0x00100080 0x06400293 5 0x00000064 ∷ Wrote 5 0x00100084 0x00700413 8 0x00000007
    ∷ Wrote 44 0x00100088 0x0282c4b3 9 0x0000000e ∷ Wrote 45 0x0010008c 0x00004285 5 0x00000001
    ∷ Wrote 46 0x0010008e 0x00004309 6 0x00000002 ∷ Wrote 47 0x00100090 0x0000438d 7 0x00000003
    ∷ Wrote 48 0x00100092 0x00004411 8 0x00000004 ∷ Wrote 49 0x00100094 0x00004495 9 0x00000005
    ∷ Wrote 50 0x00100096 0x00600513 10 0x00000006 ∷ Wrote 51 0x0010009a 0x0000459d 11 0x00000007
    ∷ halted 0x0010009c 52 53 56)
    -- instructions that cross words, and wait for the second
    ∷ run (program (0x03134285 ∷ 0x03930020 ∷ 0x44110033 ∷ halting)) (plan (wait 0 2 ∷ wait 1 0 ∷ []) [] []) 40
    (Wrote 4 0x00100080 0x00004285 5 0x00000001 ∷ Wrote 6 0x00100082 0x00200313 6 0x00000002
    ∷ Wrote 9 0x00100086 0x00330393 7 0x00000005 ∷ Wrote 10 0x0010008a 0x00004411 8 0x00000004
    ∷ halted 0x0010008c 11 14 17)
    -- a jump into the middle of a word
    ∷ run (program (0x0060006f ∷ 0x42850001 ∷ 0x00200313 ∷ 0x03370001 ∷ 0x03930002 ∷ 0x24230010 ∷ 0x00000073 ∷ []))
    (plan (wait 0 1 ∷ []) [] []) 40
    (Retired 3 0x00100080 0x0060006f ∷ Wrote 7 0x00100086 0x00004285 5 0x00000001
    ∷ Wrote 9 0x00100088 0x00200313 6 0x00000002 ∷ Retired 11 0x0010008c 0x00000001 ∷ halted 0x0010008e 13 15 18)
    -- a jump while a word is awaited: the target waits for its answer
    ∷ run (program (0x00c0006f ∷ 0x00000013 ∷ 0x00000013 ∷ halting))
    (plan (wait 0 0 ∷ wait 0 9 ∷ wait 0 0 ∷ []) [] []) 40
    (Retired 2 0x00100080 0x00c0006f ∷ halted 0x0010008c 13 14 25)
    -- an interrupt before the target of a jump is requested
    ∷ run (placed (at 0x0010000c (0x0200006f ∷ []) ∷ at 0x0010002c halting ∷ at 0x00100080 (0x30446073 ∷ 0x30046073
    ∷ 0x00c0006f ∷ 0x00000013 ∷ 0x00000013 ∷ halting) ∷ []))
    (plan (wait 0 0 ∷ wait 0 0 ∷ wait 0 0 ∷ wait 4 9 ∷ wait 0 1 ∷ []) [] (lines 8 8 ∷ lines 12 0 ∷ [])) 40
    (Retired 2 0x00100080 0x30446073 ∷ Retired 3 0x00100084 0x30046073 ∷ Retired 4 0x00100088 0x00c0006f
    ∷ Interrupted 9 0x00100094 3 ∷ Retired 20 0x0010000c 0x0200006f ∷ halted 0x0010002c 22 23 38)
    ∷ []

-- each of these runs has the lines that stand in it
agree_in_fetches : Agree fetches
unfolding Agree
agree_in_fetches = refl

-- the three multipliers
abbrev costs : List Example
costs =
    -- the single-cycle multiplier
    with_multiplier Single (run (program (0x00d00293 ∷ 0x01500313 ∷ 0x026283b3 ∷ 0x02629433 ∷ 0x025304b3 ∷ halting))
    no_plan 80
    (Wrote 2 0x00100080 0x00d00293 5 0x0000000d ∷ Wrote 3 0x00100084 0x01500313 6 0x00000015
    ∷ Wrote 4 0x00100088 0x026283b3 7 0x00000111 ∷ Wrote 6 0x0010008c 0x02629433 8 0x00000000
    ∷ Wrote 7 0x00100090 0x025304b3 9 0x00000111 ∷ halted 0x00100094 8 9 11))
    -- the fast multiplier
    ∷ run (program (0x00d00293 ∷ 0x01500313 ∷ 0x026283b3 ∷ 0x02629433 ∷ 0x025304b3 ∷ halting)) no_plan 80
    (Wrote 2 0x00100080 0x00d00293 5 0x0000000d ∷ Wrote 3 0x00100084 0x01500313 6 0x00000015
    ∷ Wrote 6 0x00100088 0x026283b3 7 0x00000111 ∷ Wrote 10 0x0010008c 0x02629433 8 0x00000000
    ∷ Wrote 13 0x00100090 0x025304b3 9 0x00000111 ∷ halted 0x00100094 14 15 17)
    -- the slow multiplier
    ∷ with_multiplier Slow (run (program (0x00d00293 ∷ 0x01500313 ∷ 0x026283b3 ∷ 0x02629433 ∷ 0x025304b3 ∷ halting))
    no_plan 80
    (Wrote 2 0x00100080 0x00d00293 5 0x0000000d ∷ Wrote 3 0x00100084 0x01500313 6 0x00000015
    ∷ Wrote 9 0x00100088 0x026283b3 7 0x00000111 ∷ Wrote 42 0x0010008c 0x02629433 8 0x00000000
    ∷ Wrote 47 0x00100090 0x025304b3 9 0x00000111 ∷ halted 0x00100094 48 49 51))
    -- the slow multiplier with fixed timing
    ∷ with_multiplier Slow (run (program (0x7c016073 ∷ 0x00d00293 ∷ 0x01500313 ∷ 0x026283b3 ∷ 0x02629433 ∷ 0x025304b3
    ∷ halting)) no_plan 125
    (Retired 2 0x00100080 0x7c016073 ∷ Wrote 3 0x00100084 0x00d00293 5 0x0000000d
    ∷ Wrote 4 0x00100088 0x01500313 6 0x00000015 ∷ Wrote 37 0x0010008c 0x026283b3 7 0x00000111
    ∷ Wrote 70 0x00100090 0x02629433 8 0x00000000 ∷ Wrote 103 0x00100094 0x025304b3 9 0x00000111
    ∷ halted 0x00100098 104 105 107))
    ∷ []

-- and each with a multiplication
agree_in_costs : Agree costs
unfolding Agree
agree_in_costs = refl

-- interrupts, and waits for them
abbrev interrupts : List Example
interrupts =
    -- an interrupt while the words of an instruction are awaited
    run (placed (at 0x0010000c (0x30200073 ∷ []) ∷ at 0x00100080 (0x30446073 ∷ 0x30046073 ∷ 0x00000013 ∷ halting)
    ∷ [])) (plan (wait 0 0 ∷ wait 0 1 ∷ wait 0 20 ∷ []) [] (lines 8 8 ∷ lines 9 0 ∷ [])) 60
    (Retired 2 0x00100080 0x30446073 ∷ Retired 4 0x00100084 0x30046073 ∷ Interrupted 9 0x00100088 3
    ∷ Retired 27 0x0010000c 0x30200073 ∷ Retired 49 0x00100088 0x00000013
    ∷ Wrote 50 0x0010008c 0x00020337 6 0x00020000 ∷ Wrote 52 0x00100090 0x00100393 7 0x00000001 ∷ [])
    -- WFI ends where a line that is enabled rises, and the interrupt follows
    ∷ run (placed (at 0x0010000c (0x341022f3 ∷ 0x30200073 ∷ []) ∷ at 0x00100080 (0x30446073 ∷ 0x30046073 ∷ 0x10500073
    ∷ halting) ∷ [])) (plan [] [] (lines 1 128 ∷ lines 20 8 ∷ lines 24 0 ∷ [])) 40
    (Retired 2 0x00100080 0x30446073 ∷ Retired 3 0x00100084 0x30046073 ∷ Retired 20 0x00100088 0x10500073
    ∷ Interrupted 21 0x0010008c 3 ∷ Wrote 23 0x0010000c 0x341022f3 5 0x0010008c ∷ Retired 25 0x00100010 0x30200073
    ∷ halted 0x0010008c 27 28 30)
    -- WFI ends without an interrupt where MIE is 0
    ∷ run (program (0x30446073 ∷ 0x10500073 ∷ halting)) (plan [] [] (lines 20 8 ∷ [])) 40
    (Retired 2 0x00100080 0x30446073 ∷ Retired 20 0x00100084 0x10500073 ∷ halted 0x00100088 21 22 24)
    -- WFI that no line ends
    ∷ run (program (0x30446073 ∷ 0x10500073 ∷ halting)) (plan [] [] (lines 3 128 ∷ [])) 40
    (Retired 2 0x00100080 0x30446073 ∷ [])
    -- an interrupt comes before a dummy that is due
    ∷ run (placed (at 0x0010000c (0x30200073 ∷ []) ∷ at 0x00100080 (0x30446073 ∷ 0x7c026073 ∷ 0x30046073 ∷ 0x00000013
    ∷ 0x00000013 ∷ 0x00000013 ∷ halting) ∷ [])) (plan [] [] (lines 4 8 ∷ lines 6 0 ∷ [])) 30
    (Retired 2 0x00100080 0x30446073 ∷ Retired 3 0x00100084 0x7c026073 ∷ Retired 4 0x00100088 0x30046073
    ∷ Interrupted 5 0x0010008c 3 ∷ Retired 8 0x0010000c 0x30200073 ∷ Retired 10 0x0010008c 0x00000013
    ∷ Retired 11 0x00100090 0x00000013 ∷ Retired 15 0x00100094 0x00000013 ∷ halted 0x00100098 16 18 21)
    ∷ []

-- and each with an interrupt or a wait
agree_in_interrupts : Agree interrupts
unfolding Agree
agree_in_interrupts = refl

-- dummy instructions
abbrev dummies : List Example
dummies =
    -- dummies before and after jumps and a taken branch
    run (program (0x7c026073 ∷ 0x0080006f ∷ 0x00000013 ∷ 0x00000013 ∷ 0x00000463 ∷ 0x00000013 ∷ 0x00000013
    ∷ 0x0080006f ∷ 0x00000013 ∷ 0x00000013 ∷ 0x00000013 ∷ 0x00000013 ∷ 0x00000013 ∷ halting))
    (plan (wait 0 1 ∷ wait 0 0 ∷ []) [] []) 60
    (Retired 3 0x00100080 0x7c026073 ∷ Retired 4 0x00100084 0x0080006f ∷ Retired 7 0x0010008c 0x00000013
    ∷ Retired 10 0x00100090 0x00000463 ∷ Retired 13 0x00100098 0x00000013 ∷ Retired 17 0x0010009c 0x0080006f
    ∷ Retired 19 0x001000a4 0x00000013 ∷ Retired 21 0x001000a8 0x00000013 ∷ Retired 23 0x001000ac 0x00000013
    ∷ Retired 25 0x001000b0 0x00000013 ∷ [])
    -- dummies around a trap and MRET
    ∷ run (placed (at 0x00100000 (0x341022f3 ∷ 0x00428293 ∷ 0x34129073 ∷ 0x30200073 ∷ []) ∷ at 0x00100080 (0x7c026073
    ∷ 0x00000073 ∷ 0x00000013 ∷ halting) ∷ [])) no_plan 60
    (Retired 2 0x00100080 0x7c026073 ∷ Trapped 4 0x00100084 11 0x00000000 ∷ Wrote 6 0x00100000 0x341022f3 5 0x00100084
    ∷ Wrote 7 0x00100004 0x00428293 5 0x00100088 ∷ Retired 8 0x00100008 0x34129073 ∷ Retired 13 0x0010000c 0x30200073
    ∷ Retired 15 0x00100088 0x00000013 ∷ halted 0x0010008c 17 19 22)
    -- dummies of each kind after another, by the seed: DIV, MUL, ADD, and AND of the first seed
    ∷ run (program (0x000102b7 ∷ 0x7c026073 ∷ 0x7c129073 ∷ 0x00000013 ∷ 0x7c105073 ∷ halting)) no_plan 90
    (Wrote 2 0x00100080 0x000102b7 5 0x00010000 ∷ Retired 3 0x00100084 0x7c026073 ∷ Retired 4 0x00100088 0x7c129073
    ∷ Retired 59 0x0010008c 0x00000013 ∷ Retired 60 0x00100090 0x7c105073 ∷ halted 0x00100094 62 63 65)
    -- dummies with the slow multiplier
    ∷ with_multiplier Slow (run (program (0x000082b7 ∷ 0x7c026073 ∷ 0x7c129073 ∷ 0x7c027073 ∷ halting)) no_plan 75
    (Wrote 2 0x00100080 0x000082b7 5 0x00008000 ∷ Retired 3 0x00100084 0x7c026073 ∷ Retired 4 0x00100088 0x7c129073
    ∷ Retired 51 0x0010008c 0x7c027073 ∷ halted 0x00100090 52 53 55))
    -- a mask that makes dummies rarer
    ∷ run (program (0x7c0e6073 ∷ 0x00000013 ∷ 0x00000013 ∷ 0x00000013 ∷ 0x00000013 ∷ 0x00000013 ∷ 0x00000013
    ∷ 0x00000013 ∷ 0x00000013 ∷ 0x00000013 ∷ 0x00000013 ∷ 0x00000013 ∷ 0x00000013 ∷ halting)) no_plan 60
    (Retired 2 0x00100080 0x7c0e6073 ∷ Retired 3 0x00100084 0x00000013 ∷ Retired 5 0x00100088 0x00000013
    ∷ Retired 6 0x0010008c 0x00000013 ∷ Retired 7 0x00100090 0x00000013 ∷ Retired 11 0x00100094 0x00000013
    ∷ Retired 12 0x00100098 0x00000013 ∷ Retired 13 0x0010009c 0x00000013 ∷ Retired 14 0x001000a0 0x00000013
    ∷ Retired 15 0x001000a4 0x00000013 ∷ Retired 16 0x001000a8 0x00000013 ∷ Retired 17 0x001000ac 0x00000013
    ∷ Retired 18 0x001000b0 0x00000013 ∷ halted 0x001000b4 19 20 23)
    ∷ []

-- and each with dummies
agree_in_dummies : Agree dummies
unfolding Agree
agree_in_dummies = refl
