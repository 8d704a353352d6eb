-- Runs with the cache, computed.
use Rattle.std.specs.Prelude.{[], ◌∷◌, refl, ℕ, ◌≡◌, true, false, List, map, max}
use Rattle.ibx_time.specs.Requests.{Past, Fill, Switch, after_request, nothing_past}
use Rattle.ibx_time.specs.Settings.{settings_of}
use Rattle.ibx_time.proofs.Runs.{Example, equations, Agree, Retired, Wrote, Stored, Trapped, run, halting, halted, at, placed}
use Rattle.ibx_time.proofs.Runs.{program, no_plan, plan, wait, lines}

-- what the cache keeps and loses
abbrev cached : List Example
cached =
    -- the cache is on: a miss, a hit, and a miss of the next line
    run (program (0x30446073 ∷ 0x7c00e073 ∷ 0x10500073 ∷ 0x0040006f ∷ halting)) (plan [] [] (lines 300 8 ∷ [])) 315
    (Retired 2 0x00100080 0x30446073 ∷ Retired 3 0x00100084 0x7c00e073 ∷ Retired 300 0x00100088 0x10500073
    ∷ Retired 301 0x0010008c 0x0040006f ∷ halted 0x00100090 306 307 312)
    -- the same with the cache off
    ∷ run (program (0x30446073 ∷ 0x00000013 ∷ 0x10500073 ∷ 0x0040006f ∷ halting)) (plan [] [] (lines 300 8 ∷ [])) 310
    (Retired 2 0x00100080 0x30446073 ∷ Retired 3 0x00100084 0x00000013 ∷ Retired 300 0x00100088 0x10500073
    ∷ Retired 301 0x0010008c 0x0040006f ∷ halted 0x00100090 303 304 306)
    -- the way of a full set that gives way is the other one than that of the last fill of all sets
    ∷ run (placed (at 0x00100080 (0x30446073 ∷ 0x7c00e073 ∷ 0x10500073 ∷ 0x7750006f ∷ []) ∷ at 0x00101000 (0x0010006f
    ∷ 0x0010006f ∷ []) ∷ at 0x00101010 (0x7f10006f ∷ 0x00000013 ∷ []) ∷ at 0x00101800 (0x811ff06f ∷ 0x00000013 ∷ [])
    ∷ at 0x00102000 (0x804ff06f ∷ 0x00000013 ∷ []) ∷ [])) (plan [] [] (lines 258 8 ∷ [])) 310
    (Retired 2 0x00100080 0x30446073 ∷ Retired 3 0x00100084 0x7c00e073 ∷ Retired 258 0x00100088 0x10500073
    ∷ Retired 259 0x0010008c 0x7750006f ∷ Retired 264 0x00101000 0x0010006f ∷ Retired 269 0x00101800 0x811ff06f
    ∷ Retired 274 0x00101010 0x7f10006f ∷ Retired 279 0x00102000 0x804ff06f ∷ Retired 281 0x00101004 0x0010006f
    ∷ Retired 289 0x00101804 0x00000013 ∷ Trapped 294 0x00101808 2 0x00000000 ∷ Trapped 303 0x00100000 2 0x00000000
    ∷ Trapped 309 0x00100000 2 0x00000000 ∷ [])
    -- the first cached request is that of cycle 256
    ∷ run (program (0x30446073 ∷ 0x7c00e073 ∷ 0x10500073 ∷ 0x00000013 ∷ 0x00000013 ∷ 0x00000013 ∷ 0x00000013
    ∷ 0x00000013 ∷ 0x00000013 ∷ 0x00000013 ∷ 0x00000013 ∷ 0x00000013 ∷ [])) (plan [] [] (lines 254 8 ∷ [])) 275
    (Retired 2 0x00100080 0x30446073 ∷ Retired 3 0x00100084 0x7c00e073 ∷ Retired 254 0x00100088 0x10500073
    ∷ Retired 255 0x0010008c 0x00000013 ∷ Retired 256 0x00100090 0x00000013 ∷ Retired 257 0x00100094 0x00000013
    ∷ Retired 258 0x00100098 0x00000013 ∷ Retired 261 0x0010009c 0x00000013 ∷ Retired 265 0x001000a0 0x00000013
    ∷ Retired 266 0x001000a4 0x00000013 ∷ Retired 270 0x001000a8 0x00000013 ∷ Retired 271 0x001000ac 0x00000013 ∷ [])
    -- the cache on, off, and on
    ∷ run (program (0x30446073 ∷ 0x10500073 ∷ 0x7c00e073 ∷ 0x00000013 ∷ 0x00000013 ∷ 0x7c00f073 ∷ 0x00000013
    ∷ 0x00000013 ∷ 0x7c00e073 ∷ 0x00000013 ∷ 0x00000013 ∷ 0x00000013 ∷ [])) (plan [] [] (lines 258 8 ∷ [])) 290
    (Retired 2 0x00100080 0x30446073 ∷ Retired 258 0x00100084 0x10500073 ∷ Retired 259 0x00100088 0x7c00e073
    ∷ Retired 260 0x0010008c 0x00000013 ∷ Retired 261 0x00100090 0x00000013 ∷ Retired 262 0x00100094 0x7c00f073
    ∷ Retired 265 0x00100098 0x00000013 ∷ Retired 266 0x0010009c 0x00000013 ∷ Retired 267 0x001000a0 0x7c00e073
    ∷ Retired 268 0x001000a4 0x00000013 ∷ Retired 269 0x001000a8 0x00000013 ∷ Retired 273 0x001000ac 0x00000013
    ∷ Trapped 278 0x001000b0 2 0x00000000 ∷ Trapped 287 0x00100000 2 0x00000000 ∷ [])
    -- FENCE.I while a line is read: the next request waits for the line
    ∷ run (program (0x30446073 ∷ 0x7c00e073 ∷ 0x10500073 ∷ 0x00000013 ∷ 0x0000100f ∷ 0x00134285 ∷ 0x00130000
    ∷ 0x03370000 ∷ 0x03930002 ∷ 0x24230010 ∷ 0x00000073 ∷ []))
    (plan (wait 0 0 ∷ wait 1 4 ∷ []) [] (lines 258 8 ∷ [])) 300
    (Retired 2 0x00100080 0x30446073 ∷ Retired 8 0x00100084 0x7c00e073 ∷ Retired 258 0x00100088 0x10500073
    ∷ Retired 259 0x0010008c 0x00000013 ∷ Retired 260 0x00100090 0x0000100f
    ∷ Wrote 270 0x00100094 0x00004285 5 0x00000001 ∷ Retired 276 0x00100096 0x00000013
    ∷ Retired 277 0x0010009a 0x00000013 ∷ halted 0x0010009e 283 284 291)
    -- a jump while a line is read: its target waits for the line
    ∷ run (program (0x30446073 ∷ 0x7c00e073 ∷ 0x10500073 ∷ 0x00000013 ∷ 0x0140006f ∷ 0x00000013 ∷ 0x00000013
    ∷ 0x00000013 ∷ 0x00000013 ∷ halting)) (plan (wait 0 1 ∷ []) [] (lines 258 8 ∷ [])) 300
    (Retired 3 0x00100080 0x30446073 ∷ Retired 5 0x00100084 0x7c00e073 ∷ Retired 258 0x00100088 0x10500073
    ∷ Retired 259 0x0010008c 0x00000013 ∷ Retired 260 0x00100090 0x0140006f ∷ halted 0x001000a4 272 278 280)
    -- a store does not reach a line that is kept, before a FENCE.I
    ∷ run (placed (at 0x00100080 (0x30446073 ∷ 0x7c00e073 ∷ 0x10500073 ∷ 0x00101437 ∷ 0x000400e7 ∷ 0x010284b7
    ∷ 0x29348493 ∷ 0x00942023 ∷ 0x000400e7 ∷ 0x0000100f ∷ 0x000400e7 ∷ halting) ∷ at 0x00101000 (0x00128293
    ∷ 0x00008067 ∷ []) ∷ [])) (plan [] [] (lines 258 8 ∷ [])) 330
    (Retired 2 0x00100080 0x30446073 ∷ Retired 3 0x00100084 0x7c00e073 ∷ Retired 258 0x00100088 0x10500073
    ∷ Wrote 259 0x0010008c 0x00101437 8 0x00101000 ∷ Wrote 260 0x00100090 0x000400e7 1 0x00100094
    ∷ Wrote 268 0x00101000 0x00128293 5 0x00000001 ∷ Retired 269 0x00101004 0x00008067
    ∷ Wrote 277 0x00100094 0x010284b7 9 0x01028000 ∷ Wrote 278 0x00100098 0x29348493 9 0x01028293
    ∷ Stored 280 0x0010009c 0x00942023 0x00101000 0x01028293 4 ∷ Wrote 283 0x001000a0 0x000400e7 1 0x001000a4
    ∷ Wrote 285 0x00101000 0x00128293 5 0x00000002 ∷ Retired 286 0x00101004 0x00008067
    ∷ Retired 288 0x001000a4 0x0000100f ∷ Wrote 293 0x001000a8 0x000400e7 1 0x001000ac
    ∷ Wrote 295 0x00101000 0x01028293 5 0x00000012 ∷ Retired 296 0x00101004 0x00008067
    ∷ halted 0x001000ac 298 299 301)
    -- the host page is cached too, and its words are 0
    ∷ run (program (0x30446073 ∷ 0x7c00e073 ∷ 0x10500073 ∷ 0x000202b7 ∷ 0x10028067 ∷ []))
    (plan [] [] (lines 258 8 ∷ [])) 290
    (Retired 2 0x00100080 0x30446073 ∷ Retired 3 0x00100084 0x7c00e073 ∷ Retired 258 0x00100088 0x10500073
    ∷ Wrote 259 0x0010008c 0x000202b7 5 0x00020000 ∷ Retired 260 0x00100090 0x10028067
    ∷ Trapped 269 0x00020100 2 0x00000000 ∷ Trapped 278 0x00100000 2 0x00000000 ∷ Trapped 284 0x00100000 2 0x00000000
    ∷ Trapped 287 0x00100000 2 0x00000000 ∷ [])
    -- a line that no memory answers is read and is not kept
    ∷ run (placed (at 0x00100000 (0x00028067 ∷ []) ∷ at 0x00100080 (0x30446073 ∷ 0x7c00e073 ∷ 0x10500073 ∷ 0x000302b7
    ∷ 0x00028067 ∷ []) ∷ [])) (plan [] [] (lines 258 8 ∷ [])) 300
    (Retired 2 0x00100080 0x30446073 ∷ Retired 3 0x00100084 0x7c00e073 ∷ Retired 258 0x00100088 0x10500073
    ∷ Wrote 259 0x0010008c 0x000302b7 5 0x00030000 ∷ Retired 260 0x00100090 0x00028067
    ∷ Trapped 269 0x00030000 1 0x00030000 ∷ Retired 276 0x00100000 0x00028067 ∷ Trapped 282 0x00030000 1 0x00030000
    ∷ Retired 286 0x00100000 0x00028067 ∷ Trapped 292 0x00030000 1 0x00030000 ∷ Retired 296 0x00100000 0x00028067
    ∷ [])
    ∷ []

-- each of these runs has the lines that stand in it
agree_in_cache : Agree cached
unfolding Agree
agree_in_cache = refl

-- FENCE.I and the walk through the cache after it
abbrev fenced : List Example
fenced =
    -- a line that was read during a FENCE.I is not kept, though the walk has passed its set
    run (program (0x30446073 ∷ 0x7c00e073 ∷ 0x10500073 ∷ 0x00000013 ∷ 0x0000100f ∷ 0x10500073 ∷ 0x0040006f
    ∷ 0x00000013 ∷ 0x00000013 ∷ []))
    (plan (wait 0 0 ∷ wait 0 0 ∷ wait 0 0 ∷ wait 0 0 ∷ wait 0 0 ∷ wait 0 0 ∷ wait 0 20 ∷ wait 0 20 ∷ []) [] (lines 258 8 ∷ lines 259 0 ∷ lines 520 8 ∷ [])) 530
    (Retired 2 0x00100080 0x30446073 ∷ Retired 3 0x00100084 0x7c00e073 ∷ Retired 258 0x00100088 0x10500073
    ∷ Retired 259 0x0010008c 0x00000013 ∷ Retired 260 0x00100090 0x0000100f ∷ Retired 520 0x00100094 0x10500073
    ∷ Retired 521 0x00100098 0x0040006f ∷ Retired 526 0x0010009c 0x00000013 ∷ [])
    -- requests are cached again 257 cycles after a FENCE.I
    ∷ run (program (0x30446073 ∷ 0x7c00e073 ∷ 0x10500073 ∷ 0x00000013 ∷ 0x0000100f ∷ 0x10500073 ∷ 0x00000013
    ∷ 0x00000013 ∷ 0x00000013 ∷ 0x00000013 ∷ 0x00000013 ∷ 0x00000013 ∷ 0x00000013 ∷ 0x00000013 ∷ []))
    (plan [] [] (lines 258 8 ∷ lines 259 0 ∷ lines 515 8 ∷ [])) 535
    (Retired 2 0x00100080 0x30446073 ∷ Retired 3 0x00100084 0x7c00e073 ∷ Retired 258 0x00100088 0x10500073
    ∷ Retired 259 0x0010008c 0x00000013 ∷ Retired 260 0x00100090 0x0000100f ∷ Retired 515 0x00100094 0x10500073
    ∷ Retired 516 0x00100098 0x00000013 ∷ Retired 517 0x0010009c 0x00000013 ∷ Retired 518 0x001000a0 0x00000013
    ∷ Retired 519 0x001000a4 0x00000013 ∷ Retired 522 0x001000a8 0x00000013 ∷ Retired 523 0x001000ac 0x00000013
    ∷ Retired 527 0x001000b0 0x00000013 ∷ Retired 528 0x001000b4 0x00000013 ∷ Trapped 533 0x001000b8 2 0x00000000
    ∷ [])
    ∷ []

-- and each with a FENCE.I
agree_in_fences : Agree fenced
unfolding Agree
agree_in_fences = refl

-- ---- the cache by itself

-- the cache is on from reset on
abbrev on_from_reset : List Switch
on_from_reset = record { time = 0; on = true } ∷ []

-- words that are requested one after another, each at the answer of the one before, with the cache on
abbrev requested : Past → List ℕ → Past
requested y [] = y
requested y (a ∷ rest) =
    requested (after_request (settings_of (run (program []) no_plan 0 []).setup) on_from_reset [] y (max 300 y.answer) a)
    rest

-- misses on lines of one set fill ways 0, 1, 0 and 1; the last comes first
ways_of_misses : map (λ (x : Fill). x.way)
    (requested nothing_past (0x00100000 ∷ 0x00100800 ∷ 0x00101000 ∷ 0x00100000 ∷ [])).fills
    ≡ true ∷ false ∷ true ∷ false ∷ []
unfolding equations
ways_of_misses = refl

-- a miss answers four cycles after its request, and a hit on the line's other word one cycle after its own
answers_in_turn : (requested nothing_past (0x00100000 ∷ [])).answer
    ∷ (requested nothing_past (0x00100000 ∷ 0x00100004 ∷ [])).answer ∷ []
    ≡ 304 ∷ 305 ∷ []
unfolding equations
answers_in_turn = refl
