-- Requests of both ports in single cycles, computed.
use Rattle.std.specs.Prelude.{[], ◌∷◌, List, refl}
use Rattle.ibx_time.proofs.Runs.{BusExample, HaveWires, wires, halting, idle, fetches, loads, stores, program}
use Rattle.ibx_time.proofs.Runs.{no_plan, plan, wait, lines}

-- both ports
abbrev ports : List BusExample
ports =
    -- two fetches wait behind a store, and the store of a word
    wires (program halting) (plan (wait 1 0 ∷ wait 0 0 ∷ []) (wait 2 0 ∷ []) []) 0
    (fetches 0x00100080 ∷ fetches 0x00100080 ∷ fetches 0x00100084 ∷ fetches 0x00100088 ∷ fetches 0x00100088
    ∷ fetches 0x0010008c ∷ stores 0x00020008 15 0x2d00000001 (fetches 0x00100090)
    ∷ stores 0x00020008 15 0x2d00000001 (fetches 0x00100090) ∷ [])
    -- a load across words: its second request comes in the cycle after the first answer
    ∷ wires (program (0x001002b7 ∷ 0x0832a403 ∷ halting)) (plan [] (wait 2 1 ∷ wait 0 0 ∷ []) []) 2
    (fetches 0x00100088 ∷ loads 0x00100080 8 (fetches 0x0010008c) ∷ loads 0x00100080 8 (fetches 0x00100090)
    ∷ loads 0x00100080 8 idle ∷ idle ∷ idle ∷ loads 0x00100084 7 idle ∷ idle ∷ [])
    -- a store whose second part no memory answers
    ∷ wires (program (0x002002b7 ∷ 0xfff00413 ∷ 0xfe82af23 ∷ [])) no_plan 3
    (fetches 0x0010008c ∷ stores 0x001ffffc 12 0x26ffff0000 (fetches 0x00100090) ∷ fetches 0x00100094
    ∷ stores 0x00200000 3 0x250000ffff idle ∷ idle ∷ fetches 0x00100000 ∷ [])
    -- a load whose first part no memory answers makes no second request
    ∷ wires (program (0x001002b7 ∷ 0xffe2a303 ∷ [])) (plan [] (wait 1 2 ∷ []) []) 2
    (fetches 0x00100088 ∷ loads 0x000ffffc 12 (fetches 0x0010008c) ∷ loads 0x000ffffc 12 (fetches 0x00100090) ∷ idle
    ∷ idle ∷ idle ∷ fetches 0x00100000 ∷ [])
    -- stores and loads of bytes and halfwords
    ∷ wires (program (0x001002b7 ∷ 0xffe00313 ∷ 0x00629123 ∷ 0x006280a3 ∷ 0x0022d383 ∷ 0x00128403 ∷ halting))
    no_plan 3
    (fetches 0x0010008c ∷ stores 0x00100000 12 0x17fffe0000 (fetches 0x00100090) ∷ fetches 0x00100094
    ∷ stores 0x00100000 2 0x390000fe00 (fetches 0x00100098) ∷ idle ∷ loads 0x00100000 12 (fetches 0x0010009c) ∷ idle
    ∷ loads 0x00100000 2 (fetches 0x001000a0) ∷ idle ∷ [])
    -- protection refuses the second part of a load: no request is made
    ∷ wires (program (0x000402b7 ∷ 0x04028293 ∷ 0x3b029073 ∷ 0x09000293 ∷ 0x3a029073 ∷ 0x00100337 ∷ 0x10030313
    ∷ 0xffe32383 ∷ [])) no_plan 8
    (fetches 0x001000a0 ∷ fetches 0x001000a4 ∷ fetches 0x00100000 ∷ fetches 0x00100004 ∷ [])
    -- a word is requested as one is taken out of a full buffer
    ∷ wires (program (0x06400293 ∷ 0x00700413 ∷ 0x0282c4b3 ∷ 0x43094285 ∷ 0x4411438d ∷ 0x05134495 ∷ 0x459d0060
    ∷ halting)) no_plan 5
    (fetches 0x00100094 ∷ idle ∷ idle ∷ [])
    -- the same after the division
    ∷ wires (program (0x06400293 ∷ 0x00700413 ∷ 0x0282c4b3 ∷ 0x43094285 ∷ 0x4411438d ∷ 0x05134495 ∷ 0x459d0060
    ∷ halting)) (plan (wait 0 1 ∷ []) [] []) 43
    (idle ∷ idle ∷ idle ∷ fetches 0x00100098 ∷ idle ∷ fetches 0x0010009c ∷ idle ∷ fetches 0x001000a0 ∷ [])
    -- an unsound first parcel is taken alone, so its word stays, and no word is requested as it enters
    ∷ wires (program (0x001002b7 ∷ 0x0a028293 ∷ 0x0022d293 ∷ 0x3b029073 ∷ 0x09100413 ∷ 0x3a041073 ∷ 0x00700393
    ∷ 0x0282c4b3 ∷ 0x00000013 ∷ 0x00000013 ∷ 0x00000013 ∷ 0x00000013 ∷ [])) no_plan 45
    (idle ∷ idle ∷ idle ∷ fetches 0x00100000 ∷ fetches 0x00100004 ∷ [])
    -- a jump while a word is awaited
    ∷ wires (program (0x00c0006f ∷ 0x00000013 ∷ 0x00000013 ∷ halting))
    (plan (wait 0 0 ∷ wait 0 9 ∷ wait 0 0 ∷ []) [] []) 0
    (fetches 0x00100080 ∷ fetches 0x00100084 ∷ idle ∷ idle ∷ idle ∷ idle ∷ idle ∷ idle ∷ idle ∷ idle ∷ idle
    ∷ fetches 0x0010008c ∷ fetches 0x00100090 ∷ fetches 0x00100094 ∷ [])
    ∷ []

-- each of these runs has the wires that stand in it
wires_in_ports : HaveWires ports
unfolding HaveWires
wires_in_ports = refl

-- both ports with the cache
abbrev cache_ports : List BusExample
cache_ports =
    -- the words of missed lines, and none for a hit
    wires (program (0x30446073 ∷ 0x7c00e073 ∷ 0x10500073 ∷ 0x0040006f ∷ halting)) (plan [] [] (lines 300 8 ∷ [])) 300
    (idle ∷ idle ∷ fetches 0x00100090 ∷ fetches 0x00100094 ∷ idle ∷ idle ∷ idle ∷ fetches 0x00100098
    ∷ fetches 0x0010009c ∷ idle ∷ idle ∷ stores 0x00020008 15 0x2d00000001 idle ∷ fetches 0x001000a0 ∷ [])
    -- FENCE.I while a line is read
    ∷ wires (program (0x30446073 ∷ 0x7c00e073 ∷ 0x10500073 ∷ 0x00000013 ∷ 0x0000100f ∷ 0x00134285 ∷ 0x00130000
    ∷ 0x03370000 ∷ 0x03930002 ∷ 0x24230010 ∷ 0x00000073 ∷ []))
    (plan (wait 0 0 ∷ wait 1 4 ∷ []) [] (lines 258 8 ∷ [])) 259
    (idle ∷ fetches 0x00100098 ∷ fetches 0x0010009c ∷ fetches 0x0010009c ∷ idle ∷ idle ∷ idle ∷ idle ∷ idle
    ∷ fetches 0x00100094 ∷ fetches 0x00100098 ∷ fetches 0x00100098 ∷ idle ∷ [])
    ∷ []

-- and each with the cache
wires_in_cacheports : HaveWires cache_ports
unfolding HaveWires
wires_in_cacheports = refl

-- both ports in long programs
abbrev long_ports : List BusExample
long_ports =
    -- FENCE.I in cycle 6, and the first cached requests 257 cycles after it
    wires (program (0x30446073 ∷ 0x00000013 ∷ 0x7c00e073 ∷ 0x00000013 ∷ 0x0000100f ∷ 0x10500073 ∷ 0x029484b3
    ∷ 0x00000013 ∷ 0x00000013 ∷ 0x0080006f ∷ 0x00000013 ∷ 0x029484b3 ∷ 0x00000013 ∷ 0x00000013 ∷ 0x00000013
    ∷ 0x0080006f ∷ 0x00000013 ∷ 0x00000013 ∷ 0x00020337 ∷ 0x00030313 ∷ 0x30405073 ∷ 0x00100393 ∷ 0x00732423
    ∷ 0x10500073 ∷ 0xffdff06f ∷ [])) (plan [] [] (lines 252 8 ∷ lines 292 0 ∷ [])) 257
    (fetches 0x001000ac ∷ fetches 0x001000ac ∷ fetches 0x001000b0 ∷ fetches 0x001000b4 ∷ fetches 0x001000b8 ∷ idle
    ∷ idle ∷ fetches 0x001000b8 ∷ fetches 0x001000bc ∷ [])
    -- a store into a line that is read later
    ∷ wires (program (0x30446073 ∷ 0x7c00e073 ∷ 0x10500073 ∷ 0x196485b7 ∷ 0x49358593 ∷ 0x00000297 ∷ 0x00000013
    ∷ 0x00b28823 ∷ 0x00150513 ∷ 0x00250513 ∷ 0x00350513 ∷ 0x00450513 ∷ 0x00550513 ∷ 0x00650513 ∷ 0x00750513
    ∷ 0x00850513 ∷ 0x00950513 ∷ 0x01029603 ∷ 0x208485b7 ∷ 0x49358593 ∷ 0x00000297 ∷ 0x00b28823 ∷ 0x00150513
    ∷ 0x00250513 ∷ 0x00350513 ∷ 0x00450513 ∷ 0x00550513 ∷ 0x00650513 ∷ 0x00750513 ∷ 0x00850513 ∷ 0x00950513
    ∷ 0x00020337 ∷ 0x00030313 ∷ 0x30405073 ∷ 0x00100393 ∷ 0x00732423 ∷ 0x10500073 ∷ 0xffdff06f ∷ []))
    (plan (wait 0 0 ∷ []) (wait 0 0 ∷ wait 2 0 ∷ []) (lines 257 8 ∷ lines 261 0 ∷ [])) 259
    (fetches 0x00100098 ∷ fetches 0x0010009c ∷ idle ∷ idle ∷ idle
    ∷ stores 0x001000a4 1 0x2c00000093 (fetches 0x001000a0) ∷ fetches 0x001000a4 ∷ idle ∷ [])
    -- the same program, with a load that waits
    ∷ wires (program (0x30446073 ∷ 0x7c00e073 ∷ 0x10500073 ∷ 0x196485b7 ∷ 0x49358593 ∷ 0x00000297 ∷ 0x00000013
    ∷ 0x00b28823 ∷ 0x00150513 ∷ 0x00250513 ∷ 0x00350513 ∷ 0x00450513 ∷ 0x00550513 ∷ 0x00650513 ∷ 0x00750513
    ∷ 0x00850513 ∷ 0x00950513 ∷ 0x01029603 ∷ 0x208485b7 ∷ 0x49358593 ∷ 0x00000297 ∷ 0x00b28823 ∷ 0x00150513
    ∷ 0x00250513 ∷ 0x00350513 ∷ 0x00450513 ∷ 0x00550513 ∷ 0x00650513 ∷ 0x00750513 ∷ 0x00850513 ∷ 0x00950513
    ∷ 0x00020337 ∷ 0x00030313 ∷ 0x30405073 ∷ 0x00100393 ∷ 0x00732423 ∷ 0x10500073 ∷ 0xffdff06f ∷ []))
    (plan (wait 0 0 ∷ []) (wait 0 0 ∷ wait 2 0 ∷ []) (lines 257 8 ∷ lines 261 0 ∷ [])) 288
    (idle ∷ loads 0x001000a4 3 (fetches 0x001000c8) ∷ loads 0x001000a4 3 (fetches 0x001000cc)
    ∷ loads 0x001000a4 3 idle ∷ idle ∷ [])
    -- cached requests while a load waits
    ∷ wires (program (0x30446073 ∷ 0x7c00e073 ∷ 0x10500073 ∷ 0x00200413 ∷ 0x04d00493 ∷ 0x00500513 ∷ 0x00020637
    ∷ 0x00000013 ∷ 0x00000013 ∷ 0x00062583 ∷ 0x00000013 ∷ 0x0000100f ∷ 0x00000013 ∷ 0x00000013 ∷ 0x00000013
    ∷ 0x00000013 ∷ 0x10500073 ∷ 0xfff40413 ∷ 0xfe0414e3 ∷ 0x00020337 ∷ 0x00030313 ∷ 0x30405073 ∷ 0x00100393
    ∷ 0x00732423 ∷ 0x10500073 ∷ 0xffdff06f ∷ []))
    (plan (wait 0 0 ∷ []) (wait 8 17 ∷ []) (lines 260 8 ∷ lines 264 0 ∷ lines 301 0 ∷ lines 558 8 ∷ lines 561 0 ∷ [])) 272
    (loads 0x00020000 15 (fetches 0x001000a8) ∷ loads 0x00020000 15 (fetches 0x001000ac) ∷ loads 0x00020000 15 idle
    ∷ loads 0x00020000 15 idle ∷ loads 0x00020000 15 idle ∷ loads 0x00020000 15 (fetches 0x001000b0)
    ∷ loads 0x00020000 15 (fetches 0x001000b4) ∷ loads 0x00020000 15 idle ∷ [])
    ∷ []

-- and each of the long ones
wires_in_longports : HaveWires long_ports
unfolding HaveWires
wires_in_longports = refl
