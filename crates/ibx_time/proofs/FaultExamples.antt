-- Runs with errors, refusals and user mode, computed.
use Rattle.std.specs.Prelude.{[], ◌∷◌, List, refl}
use Rattle.ibx_time.proofs.Runs.{Example, Agree, Retired, Wrote, Trapped, run, halting, halted, at, placed, program}
use Rattle.ibx_time.proofs.Runs.{no_plan, plan, wait}

-- accesses and fetches that no memory answers
abbrev errors : List Example
errors =
    -- a load across words, of which no memory answers the first
    run (program (0x001002b7 ∷ 0xffe2a303 ∷ [])) (plan [] (wait 1 2 ∷ []) []) 16
    (Wrote 2 0x00100080 0x001002b7 5 0x00100000 ∷ Trapped 8 0x00100084 5 0x000ffffe
    ∷ Trapped 11 0x00100000 2 0x00000000 ∷ Trapped 14 0x00100000 2 0x00000000 ∷ [])
    -- a load across words, of which no memory answers the second
    ∷ run (program (0x002002b7 ∷ 0xffe2a303 ∷ [])) (plan [] (wait 1 2 ∷ wait 0 1 ∷ []) []) 18
    (Wrote 2 0x00100080 0x002002b7 5 0x00200000 ∷ Trapped 11 0x00100084 5 0x00200000
    ∷ Trapped 14 0x00100000 2 0x00000000 ∷ Trapped 17 0x00100000 2 0x00000000 ∷ [])
    -- a store whose first part no memory answers makes no second: the word is as before
    ∷ run (placed (at 0x00100000 (0x0002a383 ∷ halting) ∷ at 0x00100080 (0x001002b7 ∷ 0xfff00313 ∷ 0xfe62af23 ∷ [])
    ∷ [])) (plan [] (wait 0 1 ∷ []) []) 24
    (Wrote 2 0x00100080 0x001002b7 5 0x00100000 ∷ Wrote 3 0x00100084 0xfff00313 6 0xffffffff
    ∷ Trapped 7 0x00100088 7 0x000ffffe ∷ Wrote 11 0x00100000 0x0002a383 7 0x0002a383 ∷ halted 0x00100004 12 13 16)
    -- a store whose second part no memory answers has made its first
    ∷ run (placed (at 0x00100000 (0xffc2a383 ∷ halting) ∷ at 0x00100080 (0x002002b7 ∷ 0xfff00313 ∷ 0xfe62af23 ∷ [])
    ∷ [])) (plan [] (wait 0 1 ∷ []) []) 24
    (Wrote 2 0x00100080 0x002002b7 5 0x00200000 ∷ Wrote 3 0x00100084 0xfff00313 6 0xffffffff
    ∷ Trapped 10 0x00100088 7 0x00200000 ∷ Wrote 14 0x00100000 0xffc2a383 7 0xffff0000 ∷ halted 0x00100004 15 16 19)
    -- a load of one part that no memory answers
    ∷ run (program (0x000302b7 ∷ 0x00128303 ∷ [])) (plan [] (wait 2 0 ∷ []) []) 14
    (Wrote 2 0x00100080 0x000302b7 5 0x00030000 ∷ Trapped 7 0x00100084 5 0x00030001
    ∷ Trapped 10 0x00100000 2 0x00000000 ∷ Trapped 13 0x00100000 2 0x00000000 ∷ [])
    -- no memory answers the first parcel
    ∷ run (program (0x000302b7 ∷ 0x000280e7 ∷ [])) no_plan 12
    (Wrote 2 0x00100080 0x000302b7 5 0x00030000 ∷ Wrote 3 0x00100084 0x000280e7 1 0x00100088
    ∷ Trapped 6 0x00030000 1 0x00030000 ∷ Trapped 9 0x00100000 2 0x00000000 ∷ [])
    -- nor the first parcel at the end of a word: the second is not awaited
    ∷ run (program (0x001002b7 ∷ 0xffe280e7 ∷ [])) (plan (wait 0 2 ∷ []) [] []) 18
    (Wrote 4 0x00100080 0x001002b7 5 0x00100000 ∷ Wrote 7 0x00100084 0xffe280e7 1 0x00100088
    ∷ Trapped 14 0x000ffffe 1 0x000ffffe ∷ [])
    -- no memory answers the second parcel
    ∷ run (placed (at 0x00100080 (0x002002b7 ∷ 0xffc280e7 ∷ []) ∷ at 0x001ffffc (0x00130001 ∷ []) ∷ []))
    (plan (wait 0 1 ∷ []) [] []) 20
    (Wrote 3 0x00100080 0x002002b7 5 0x00200000 ∷ Wrote 5 0x00100084 0xffc280e7 1 0x00100088
    ∷ Retired 9 0x001ffffc 0x00000001 ∷ Trapped 12 0x001ffffe 1 0x00200000 ∷ Trapped 16 0x00100000 2 0x00000000 ∷ [])
    ∷ []

-- each of these runs has the lines that stand in it
agree_in_errors : Agree errors
unfolding Agree
agree_in_errors = refl

-- protection and user mode
abbrev protection : List Example
protection =
    -- protection refuses the first part of a load: no request is made
    run (program (0x000402b7 ∷ 0x04028293 ∷ 0x3b029073 ∷ 0x09000293 ∷ 0x3a029073 ∷ 0x00100337 ∷ 0x10030313
    ∷ 0x00032383 ∷ [])) (plan [] (wait 5 5 ∷ []) []) 16
    (Wrote 2 0x00100080 0x000402b7 5 0x00040000 ∷ Wrote 3 0x00100084 0x04028293 5 0x00040040
    ∷ Retired 4 0x00100088 0x3b029073 ∷ Wrote 5 0x0010008c 0x09000293 5 0x00000090 ∷ Retired 6 0x00100090 0x3a029073
    ∷ Wrote 7 0x00100094 0x00100337 6 0x00100000 ∷ Wrote 8 0x00100098 0x10030313 6 0x00100100
    ∷ Trapped 10 0x0010009c 5 0x00100100 ∷ Trapped 13 0x00100000 2 0x00000000 ∷ [])
    -- it refuses the second part of a load: no request is made
    ∷ run (program (0x000402b7 ∷ 0x04028293 ∷ 0x3b029073 ∷ 0x09000293 ∷ 0x3a029073 ∷ 0x00100337 ∷ 0x10030313
    ∷ 0xffe32383 ∷ [])) (plan [] (wait 5 5 ∷ []) []) 16
    (Wrote 2 0x00100080 0x000402b7 5 0x00040000 ∷ Wrote 3 0x00100084 0x04028293 5 0x00040040
    ∷ Retired 4 0x00100088 0x3b029073 ∷ Wrote 5 0x0010008c 0x09000293 5 0x00000090 ∷ Retired 6 0x00100090 0x3a029073
    ∷ Wrote 7 0x00100094 0x00100337 6 0x00100000 ∷ Wrote 8 0x00100098 0x10030313 6 0x00100100
    ∷ Trapped 10 0x0010009c 5 0x00100100 ∷ Trapped 13 0x00100000 2 0x00000000 ∷ [])
    -- it refuses a store: the word is as before
    ∷ run (placed (at 0x00100000 (0x00032383 ∷ halting) ∷ at 0x00100080 (0x000402b7 ∷ 0x04028293 ∷ 0x3b029073
    ∷ 0x09100293 ∷ 0x3a029073 ∷ 0x00100337 ∷ 0x10030313 ∷ 0x00631123 ∷ []) ∷ [])) (plan [] (wait 1 1 ∷ []) []) 24
    (Wrote 2 0x00100080 0x000402b7 5 0x00040000 ∷ Wrote 3 0x00100084 0x04028293 5 0x00040040
    ∷ Retired 4 0x00100088 0x3b029073 ∷ Wrote 5 0x0010008c 0x09100293 5 0x00000091 ∷ Retired 6 0x00100090 0x3a029073
    ∷ Wrote 7 0x00100094 0x00100337 6 0x00100000 ∷ Wrote 8 0x00100098 0x10030313 6 0x00100100
    ∷ Trapped 10 0x0010009c 7 0x00100102 ∷ Wrote 15 0x00100000 0x00032383 7 0x00000000 ∷ halted 0x00100004 16 17 21)
    -- a refused second part comes before an error of the first
    ∷ run (program (0x000402b7 ∷ 0x3b029073 ∷ 0x09000293 ∷ 0x3a029073 ∷ 0x00100337 ∷ 0xffe32383 ∷ [])) no_plan 12
    (Wrote 2 0x00100080 0x000402b7 5 0x00040000 ∷ Retired 3 0x00100084 0x3b029073
    ∷ Wrote 4 0x00100088 0x09000293 5 0x00000090 ∷ Retired 5 0x0010008c 0x3a029073
    ∷ Wrote 6 0x00100090 0x00100337 6 0x00100000 ∷ Trapped 8 0x00100094 5 0x00100000
    ∷ Trapped 11 0x00100000 1 0x00100000 ∷ [])
    -- it refuses to execute the first parcel
    ∷ run (program (0x000402b7 ∷ 0x02828293 ∷ 0x3b029073 ∷ 0x09100293 ∷ 0x3a029073 ∷ 0x00100337 ∷ 0x10030313
    ∷ 0x00000013 ∷ 0x00000013 ∷ [])) no_plan 14
    (Wrote 2 0x00100080 0x000402b7 5 0x00040000 ∷ Wrote 3 0x00100084 0x02828293 5 0x00040028
    ∷ Retired 4 0x00100088 0x3b029073 ∷ Wrote 5 0x0010008c 0x09100293 5 0x00000091 ∷ Retired 6 0x00100090 0x3a029073
    ∷ Wrote 7 0x00100094 0x00100337 6 0x00100000 ∷ Wrote 8 0x00100098 0x10030313 6 0x00100100
    ∷ Retired 9 0x0010009c 0x00000013 ∷ Trapped 11 0x001000a0 1 0x001000a0 ∷ [])
    -- a return to user mode, an instruction, a CSR access that is refused there
    ∷ run (program (0x001002b7 ∷ 0x0a028293 ∷ 0x34129073 ∷ 0xfff00313 ∷ 0x3b031073 ∷ 0x01f00313 ∷ 0x3a031073
    ∷ 0x30200073 ∷ 0x00100393 ∷ 0x34102473 ∷ [])) no_plan 18
    (Wrote 2 0x00100080 0x001002b7 5 0x00100000 ∷ Wrote 3 0x00100084 0x0a028293 5 0x001000a0
    ∷ Retired 4 0x00100088 0x34129073 ∷ Wrote 5 0x0010008c 0xfff00313 6 0xffffffff ∷ Retired 6 0x00100090 0x3b031073
    ∷ Wrote 7 0x00100094 0x01f00313 6 0x0000001f ∷ Retired 8 0x00100098 0x3a031073 ∷ Retired 10 0x0010009c 0x30200073
    ∷ Wrote 12 0x001000a0 0x00100393 7 0x00000001 ∷ Trapped 14 0x001000a4 2 0x34102473
    ∷ Trapped 17 0x00100000 2 0x00000000 ∷ [])
    -- a call out of user mode
    ∷ run (program (0x001002b7 ∷ 0x0a028293 ∷ 0x34129073 ∷ 0xfff00313 ∷ 0x3b031073 ∷ 0x01f00313 ∷ 0x3a031073
    ∷ 0x30200073 ∷ 0x00100393 ∷ 0x00000073 ∷ [])) no_plan 18
    (Wrote 2 0x00100080 0x001002b7 5 0x00100000 ∷ Wrote 3 0x00100084 0x0a028293 5 0x001000a0
    ∷ Retired 4 0x00100088 0x34129073 ∷ Wrote 5 0x0010008c 0xfff00313 6 0xffffffff ∷ Retired 6 0x00100090 0x3b031073
    ∷ Wrote 7 0x00100094 0x01f00313 6 0x0000001f ∷ Retired 8 0x00100098 0x3a031073 ∷ Retired 10 0x0010009c 0x30200073
    ∷ Wrote 12 0x001000a0 0x00100393 7 0x00000001 ∷ Trapped 14 0x001000a4 8 0x00000000
    ∷ Trapped 17 0x00100000 2 0x00000000 ∷ [])
    -- WFI in user mode where TW is 1
    ∷ run (program (0x00200437 ∷ 0x30042073 ∷ 0x001002b7 ∷ 0x0a828293 ∷ 0x34129073 ∷ 0xfff00313 ∷ 0x3b031073
    ∷ 0x01f00313 ∷ 0x3a031073 ∷ 0x30200073 ∷ 0x10500073 ∷ [])) no_plan 20
    (Wrote 2 0x00100080 0x00200437 8 0x00200000 ∷ Retired 3 0x00100084 0x30042073
    ∷ Wrote 4 0x00100088 0x001002b7 5 0x00100000 ∷ Wrote 5 0x0010008c 0x0a828293 5 0x001000a8
    ∷ Retired 6 0x00100090 0x34129073 ∷ Wrote 7 0x00100094 0xfff00313 6 0xffffffff ∷ Retired 8 0x00100098 0x3b031073
    ∷ Wrote 9 0x0010009c 0x01f00313 6 0x0000001f ∷ Retired 10 0x001000a0 0x3a031073 ∷ Retired 12 0x001000a4 0x30200073
    ∷ Trapped 15 0x001000a8 2 0x10500073 ∷ Trapped 18 0x00100000 2 0x00000000 ∷ [])
    ∷ []

-- and each with protection or user mode
agree_in_protection : Agree protection
unfolding Agree
agree_in_protection = refl
