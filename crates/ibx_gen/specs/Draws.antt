-- Numbers drawn from a seed: a xorshift generator of 32 bits, by the shifts 13, 17 and 5 (Marsaglia, "Xorshift RNGs").
use Rattle.std.specs.Prelude.{ℕ, zero, suc, ◌*◌, ◌/◌, ◌%◌, ◌^◌, bit_xor}

-- a number of 32 bits shifted left or right by so many bits
abbrev pub shifted_left : ℕ → ℕ → ℕ
shifted_left x bits = x * 2 ^ bits % 2 ^ 32

-- the lowest bits fall away, and zeros come in from above
abbrev pub shifted_right : ℕ → ℕ → ℕ
shifted_right x bits = x / 2 ^ bits

-- the draw after x, by three steps: each XORs the number with itself shifted
unfoldable pub next_draw : ℕ → ℕ
next_draw x =
    let a = bit_xor x (shifted_left x 13) in
    let b = bit_xor a (shifted_right a 17) in
    bit_xor b (shifted_left b 5)

-- draw n, from 1; before the first is the seed
unfoldable pub draw_of : ℕ → ℕ → ℕ
draw_of seed zero = seed
draw_of seed (suc n) = next_draw (draw_of seed n)
