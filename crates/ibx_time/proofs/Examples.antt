-- Rows of the table of cycles, computed.
use Rattle.std.specs.Prelude.{[], ◌∷◌, List, refl}
use Rattle.ibx_time.proofs.Runs.{Example, Agree, Retired, Wrote, Stored, Trapped, Interrupted, run, halting, halted}
use Rattle.ibx_time.proofs.Runs.{at, placed, program, no_plan, plan, wait, lines}

-- each kind of instruction, and each reason to wait
abbrev rows : List Example
rows =
    -- the first store halts
    run (program halting) no_plan 9 (halted 0x00100080 2 3 5)
    -- a wait before each grant of a fetch
    ∷ run (program halting) (plan (wait 1 0 ∷ []) [] []) 12 (halted 0x00100080 3 5 8)
    -- a jump
    ∷ run (program (0x008000ef ∷ 0x00000000 ∷ halting)) no_plan 12
    (Wrote 2 0x00100080 0x008000ef 1 0x00100084 ∷ halted 0x00100088 4 5 7)
    -- a taken branch
    ∷ run (program (0x00000463 ∷ 0x00000000 ∷ halting)) no_plan 12
    (Retired 3 0x00100080 0x00000463 ∷ halted 0x00100088 5 6 8)
    -- an untaken branch
    ∷ run (program (0x00001463 ∷ halting)) no_plan 12 (Retired 2 0x00100080 0x00001463 ∷ halted 0x00100084 3 4 6)
    -- an untaken branch with fixed timing
    ∷ run (program (0x7c016073 ∷ 0x00001463 ∷ halting)) no_plan 12
    (Retired 2 0x00100080 0x7c016073 ∷ Retired 4 0x00100084 0x00001463 ∷ halted 0x00100088 6 7 9)
    -- a load across words, and waits of the data port that begin anew
    ∷ run (program (0x001002b7 ∷ 0x0832a403 ∷ halting)) (plan [] (wait 2 1 ∷ wait 0 0 ∷ []) []) 20
    (Wrote 2 0x00100080 0x001002b7 5 0x00100000 ∷ Wrote 9 0x00100084 0x0832a403 8 0x32a40300
    ∷ halted 0x00100088 10 11 16)
    -- a store whose second part no memory answers
    ∷ run (program (0x002002b7 ∷ 0xfff00413 ∷ 0xfe82af23 ∷ [])) no_plan 12
    (Wrote 2 0x00100080 0x002002b7 5 0x00200000 ∷ Wrote 3 0x00100084 0xfff00413 8 0xffffffff
    ∷ Trapped 8 0x00100088 7 0x00200000 ∷ Trapped 11 0x00100000 2 0x00000000 ∷ [])
    -- protection refuses the second parcel
    ∷ run (program (0x000402b7 ∷ 0x02628293 ∷ 0x3b029073 ∷ 0x09000413 ∷ 0x3a041073 ∷ 0x00130001 ∷ 0x00000000 ∷ []))
    no_plan 10
    (Wrote 2 0x00100080 0x000402b7 5 0x00040000 ∷ Wrote 3 0x00100084 0x02628293 5 0x00040026
    ∷ Retired 4 0x00100088 0x3b029073 ∷ Wrote 5 0x0010008c 0x09000413 8 0x00000090 ∷ Retired 6 0x00100090 0x3a041073
    ∷ Retired 7 0x00100094 0x00000001 ∷ Trapped 9 0x00100096 1 0x00100098 ∷ [])
    -- a return to user mode, where nothing may be executed
    ∷ run (program (0x001002b7 ∷ 0x09028293 ∷ 0x34129073 ∷ 0x30200073 ∷ 0x00000013 ∷ [])) no_plan 10
    (Wrote 2 0x00100080 0x001002b7 5 0x00100000 ∷ Wrote 3 0x00100084 0x09028293 5 0x00100090
    ∷ Retired 4 0x00100088 0x34129073 ∷ Retired 6 0x0010008c 0x30200073 ∷ Trapped 9 0x00100090 1 0x00100090 ∷ [])
    -- a store into the next instruction, which is fetched already
    ∷ run (program (0x001002b7 ∷ 0x00200437 ∷ 0x49340413 ∷ 0x0882a823 ∷ 0x00100493 ∷ halting)) no_plan 20
    (Wrote 2 0x00100080 0x001002b7 5 0x00100000 ∷ Wrote 3 0x00100084 0x00200437 8 0x00200000
    ∷ Wrote 4 0x00100088 0x49340413 8 0x00200493 ∷ Stored 6 0x0010008c 0x0882a823 0x00100090 0x00200493 4
    ∷ Wrote 7 0x00100090 0x00100493 9 0x00000001 ∷ halted 0x00100094 8 9 11)
    -- the same with FENCE.I between
    ∷ run (program (0x001002b7 ∷ 0x00200437 ∷ 0x49340413 ∷ 0x0882aa23 ∷ 0x0000100f ∷ 0x00100493 ∷ halting)) no_plan 20
    (Wrote 2 0x00100080 0x001002b7 5 0x00100000 ∷ Wrote 3 0x00100084 0x00200437 8 0x00200000
    ∷ Wrote 4 0x00100088 0x49340413 8 0x00200493 ∷ Stored 6 0x0010008c 0x0882aa23 0x00100094 0x00200493 4
    ∷ Retired 7 0x00100090 0x0000100f ∷ Wrote 9 0x00100094 0x00200493 9 0x00000002 ∷ halted 0x00100098 10 11 13)
    -- an interrupt line that rises where interrupts are off again
    ∷ run (program (0x30446073 ∷ 0x30046073 ∷ 0x30047073 ∷ halting)) (plan [] [] (lines 4 8 ∷ [])) 12
    (Retired 2 0x00100080 0x30446073 ∷ Retired 3 0x00100084 0x30046073 ∷ Retired 4 0x00100088 0x30047073
    ∷ halted 0x0010008c 5 6 8)
    -- one that rises where they are on
    ∷ run (program (0x30446073 ∷ 0x30046073 ∷ 0x30047073 ∷ halting)) (plan [] [] (lines 3 8 ∷ [])) 8
    (Retired 2 0x00100080 0x30446073 ∷ Retired 3 0x00100084 0x30046073 ∷ Interrupted 4 0x00100088 3
    ∷ Trapped 7 0x0010000c 2 0x00000000 ∷ [])
    -- a dummy instruction
    ∷ run (program (0x7c026073 ∷ halting)) no_plan 12 (Retired 2 0x00100080 0x7c026073 ∷ halted 0x00100084 3 5 7)
    -- the same without dummies
    ∷ run (program (0x00000013 ∷ halting)) no_plan 12 (Retired 2 0x00100080 0x00000013 ∷ halted 0x00100084 3 4 6)
    -- a trap and its handler
    ∷ run (placed (at 0x00100000 halting ∷ at 0x00100080 (0x00000073 ∷ []) ∷ [])) no_plan 12
    (Trapped 3 0x00100080 11 0x00000000 ∷ halted 0x00100000 5 6 8)
    -- no event below cycle 1
    ∷ run (program halting) no_plan 1 []
    -- one below cycle 3
    ∷ run (program halting) no_plan 3 (Wrote 2 0x00100080 0x00020337 6 0x00020000 ∷ [])
    -- two below cycle 5
    ∷ run (program halting) no_plan 5
    (Wrote 2 0x00100080 0x00020337 6 0x00020000 ∷ Wrote 3 0x00100084 0x00100393 7 0x00000001 ∷ [])
    -- all three below cycle 6
    ∷ run (program halting) no_plan 6 (halted 0x00100080 2 3 5)
    ∷ []

-- each of these runs has the lines that stand in it
agree_in_rows : Agree rows
unfolding Agree
agree_in_rows = refl

-- divisions
abbrev divisions : List Example
divisions =
    -- a division, while the buffer is full
    run (program (0x06400293 ∷ 0x00700413 ∷ 0x0282c4b3 ∷ halting)) no_plan 50
    (Wrote 2 0x00100080 0x06400293 5 0x00000064 ∷ Wrote 3 0x00100084 0x00700413 8 0x00000007
    ∷ Wrote 41 0x00100088 0x0282c4b3 9 0x0000000e ∷ halted 0x0010008c 42 43 45)
    -- a division by 0
    ∷ run (program (0x06400293 ∷ 0x00000413 ∷ 0x0282c4b3 ∷ halting)) no_plan 12
    (Wrote 2 0x00100080 0x06400293 5 0x00000064 ∷ Wrote 3 0x00100084 0x00000413 8 0x00000000
    ∷ Wrote 5 0x00100088 0x0282c4b3 9 0xffffffff ∷ halted 0x0010008c 6 7 9)
    -- a division by 0 with fixed timing
    ∷ run (program (0x7c016073 ∷ 0x06400293 ∷ 0x00000413 ∷ 0x0282c4b3 ∷ halting)) no_plan 50
    (Retired 2 0x00100080 0x7c016073 ∷ Wrote 3 0x00100084 0x06400293 5 0x00000064
    ∷ Wrote 4 0x00100088 0x00000413 8 0x00000000 ∷ Wrote 42 0x0010008c 0x0282c4b3 9 0xffffffff
    ∷ halted 0x00100090 43 44 46)
    -- the least number by -1, quotient and remainder
    ∷ run (program (0x800002b7 ∷ 0xfff00413 ∷ 0x0282c4b3 ∷ 0x0282e533 ∷ halting)) no_plan 90
    (Wrote 2 0x00100080 0x800002b7 5 0x80000000 ∷ Wrote 3 0x00100084 0xfff00413 8 0xffffffff
    ∷ Wrote 41 0x00100088 0x0282c4b3 9 0x80000000 ∷ Wrote 79 0x0010008c 0x0282e533 10 0x00000000
    ∷ halted 0x00100090 80 81 83)
    ∷ []

-- and each with a division
agree_in_divisions : Agree divisions
unfolding Agree
agree_in_divisions = refl
