use Rattle.std.proofs.Common.{◌≡◌, Some, None, map, string_bytes, sym, ap, subst, ◌∙◌}
use Rattle.std.specs.Option.{option_map}
use Rattle.ibx_command.specs.Command.{command_of, meaning_of}
use Rattle.ibx_top.proofs.Outcomes.{fits_some}
use Rattle.ibx_top.proofs.top.perform.Goals as goal

pub returns-in-Some-clause-reads : goal.returns-in-Some-clause-reads
returns-in-Some-clause-reads g c =
    let e : command_of (map string_bytes c.args.words.now) ≡ Some (meaning_of c.in-Some.command) =
    sym c.read_words.ensures.meaning ∙ ap (option_map meaning_of) c.in-Some.is in
    rw (e, c.end_of.ensures) c.obey.ensures.leaves.reads

pub returns-in-Some-clause-prints : goal.returns-in-Some-clause-prints
returns-in-Some-clause-prints g c =
    let e : command_of (map string_bytes c.args.words.now) ≡ Some (meaning_of c.in-Some.command) =
    sym c.read_words.ensures.meaning ∙ ap (option_map meaning_of) c.in-Some.is in
    rw (e, c.end_of.ensures) c.obey.ensures.leaves.prints

pub returns-in-Some-clause-noticed : goal.returns-in-Some-clause-noticed
returns-in-Some-clause-noticed g c =
    let e : command_of (map string_bytes c.args.words.now) ≡ Some (meaning_of c.in-Some.command) =
    sym c.read_words.ensures.meaning ∙ ap (option_map meaning_of) c.in-Some.is in
    rw (e, c.end_of.ensures) c.obey.ensures.noticed

pub returns-in-Some-clause-fits : goal.returns-in-Some-clause-fits
returns-in-Some-clause-fits g c =
    let e : command_of (map string_bytes c.args.words.now) ≡ Some (meaning_of c.in-Some.command) =
    sym c.read_words.ensures.meaning ∙ ap (option_map meaning_of) c.in-Some.is in
    rw (e, c.end_of.ensures) (fits_some _ _ c.args.files.now c.obey.new.files c.obey.ensures.leaves.words)
