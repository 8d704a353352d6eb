-- Which body word a draw gives.
use Rattle.std.proofs.Common.{◌≡◌, ℕ, ◌%◌, ap, arith}
use Rattle.std.specs.Prelude.{slice_index}
use Rattle.ibx_bits.specs.Bytes.{bits_at}
use Rattle.ibx_gen.specs.Words.{body_word, choices}

-- that of its bits 2:0
pub chosen : (x k : ℕ) → x % 8 ≡ k → body_word x ≡ slice_index (choices x) k
unfolding body_word
chosen x k low =
    let same : bits_at x 0 3 ≡ k = omega arith in
    ap (slice_index (choices x)) same
