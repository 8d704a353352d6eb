use Rattle.std.proofs.Common.{◌≡◌, true, false, string_bytes}
use Rattle.ibx_command.specs.Parts.{is_dashed}
use Rattle.ibx_command.proofs.Pieces.{nothing_read, file_read, setting_read, bare_read}
use Rattle.ibx_command.proofs.parts.first_part.Goals as goal

pub returns-then-not-is_dashed-clause-parts : goal.returns-then-not-is_dashed-clause-parts
returns-then-not-is_dashed-clause-parts c =
    let text = c.as_str-word.ensures.value in
    let plain : is_dashed (string_bytes c.in_ok-word.word.now) ≡ false = rw (← text) (cc) in
    rw text (file_read string_bytes c.args.words.now c.in_ok-word.word.now c.in_ok-word.more.now
    c.in_ok-word.ensures.cases.0 plain)

pub returns-in-Some-clause-parts : goal.returns-in-Some-clause-parts
returns-in-Some-clause-parts c =
    let text = c.as_str-word.ensures.value in
    let value = c.as_str.ensures.value in
    let dashed : is_dashed (string_bytes c.in_ok-word.word.now) ≡ true = rw (← text) (cc) in
    rw (text, value) (setting_read string_bytes c.args.words.now c.in_ok-word.word.now c.in_ok-word.more.now
    c.in-Some.value.now c.in-Some.later.now c.in_ok-word.ensures.cases.0 c.in-Some.ensures.cases.0 dashed)

pub returns-in-None-clause-parts : goal.returns-in-None-clause-parts
returns-in-None-clause-parts c =
    let text = c.as_str-word.ensures.value in
    let dashed : is_dashed (string_bytes c.in_ok-word.word.now) ≡ true = rw (← text) (cc) in
    bare_read string_bytes c.args.words.now c.in_ok-word.word.now c.in_ok-word.more.now c.in_ok-word.ensures.cases.0
    c.in-None.ensures.cases dashed

pub returns-in_err-word-clause-parts : goal.returns-in_err-word-clause-parts
returns-in_err-word-clause-parts c = rw c.from_residual.ensures (nothing_read string_bytes c.args.words.now
    c.in_err-word.ensures.cases)
