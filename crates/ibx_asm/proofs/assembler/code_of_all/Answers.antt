use Rattle.std.proofs.Common.{◌≡◌, ◌++◌, ◌∙◌, List, ℕ, arith, length, take, sym, ap, length-append}
use Rattle.ibx_asm.specs.Held.{bytes_of}
use Rattle.ibx_asm.proofs.Denoting.{one_line, refused, no_code, low_bytes, length_low}
use Rattle.ibx_asm.proofs.assembler.code_of_all.Goals as goal

pub returns-in-Err-clause-value : goal.returns-in-Err-clause-value
returns-in-Err-clause-value c = c.loop-line.invariant.so_far ∙ refused c.args.labels.now c.args.all.now
    c.loop-line.line-index c.loop-line.code.items c.in-Err.kind _ c.loop-line-test.true c.in-Err.ensures.value

pub loop-line-preserved : goal.loop-line-preserved
loop-line-preserved c =
    let bytes : take c.in-Ok.bytes.size c.to_le_bytes.result ≡ bytes_of c.in-Ok.bytes = rw c.to_le_bytes.ensures
    (low_bytes c.in-Ok.bytes.size c.in-Ok.bytes.word c.in-Ok.ensures.size) in
    let code : c.loop-line.code.items ++ bytes_of c.in-Ok.bytes ≡ c.extend_from_slice.new.self.items = sym
    (c.in_ok-extend_from_slice.ensures.items ∙ ap (λ (b : List ℕ). c.loop-line.code.items ++ b) bytes) in
    record {
      size = omega (
        arith,
        ap length code,
        length-append c.loop-line.code.items (bytes_of c.in-Ok.bytes),
        length_low 0 c.in-Ok.bytes.size c.in-Ok.bytes.word,
        c.in-Ok.ensures.size,
        c.loop-line.invariant.size,
      );
      so_far = rw (← code) (c.loop-line.invariant.so_far ∙ one_line c.args.labels.now c.args.all.now
          c.loop-line.line-index c.loop-line.code.items (bytes_of c.in-Ok.bytes) _ c.loop-line-test.true
          c.in-Ok.ensures.value);
    }

pub returns-clause-value : goal.returns-clause-value
returns-clause-value c = c.loop-line.invariant.so_far ∙ no_code c.args.labels.now c.args.all.now
    c.loop-line.line-index c.loop-line.code.items c.loop-line-test.false
