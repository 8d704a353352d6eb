use Rattle.std.proofs.Common.{map, string_bytes, sym, subst}
use Rattle.ibx_base.specs.Counts.{Rose}
use Rattle.ibx_base.specs.Files.{IsBegunAs}
use Rattle.ibx_command.specs.Command.{command_of}
use Rattle.ibx_top.specs.Answers.{codes_of, IsOneOf}
use Rattle.ibx_top.proofs.Outcomes.{answered_by, command_codes, complete, in_time, notices}
use Rattle.ibx_top.proofs.top.ibex.Goals as goal

pub returns-clause-codes : goal.returns-clause-codes
returns-clause-codes g c =
    let command = command_of (map string_bytes c.args.words.now) in
    subst (IsOneOf (codes_of command)) (sym c.report.ensures.code)
    (command_codes g.K.Sink.taken g.K.Sink.faults (g.F.Files.contents c.args.files.now) command
    c.perform-outcome.result c.args.files.now c.perform-outcome.new.files c.args.out.now c.perform-outcome.new.out
    (λ said. IsBegunAs said (g.F.Files.begun c.perform-outcome.new.files))
    c.perform-outcome.ensures.fits c.perform-outcome.ensures.reads.unread c.perform-outcome.ensures.prints)

pub returns-clause-answered : goal.returns-clause-answered
returns-clause-answered g c =
    answered_by (g.F.Files.contents c.args.files.now) (command_of (map string_bytes c.args.words.now))
    c.perform-outcome.result c.report.result.code c.report.result.seal (g.K.Sink.taken c.args.out.now)
    (g.K.Sink.taken c.perform-outcome.new.out) (g.E.Sink.taken c.args.err.now) (g.E.Sink.taken c.report.new.err)
    (g.E.Sink.faults c.args.err.now) (g.E.Sink.faults c.report.new.err) c.report.ensures.code c.report.ensures.seal
    c.report.ensures.line c.perform-outcome.ensures.prints.answered

pub returns-clause-complete : goal.returns-clause-complete
returns-clause-complete g c =
    complete g.K.Sink.taken g.K.Sink.faults (g.F.Files.contents c.args.files.now)
    (command_of (map string_bytes c.args.words.now)) c.perform-outcome.result c.report.result.code
    c.report.result.seal c.args.files.now c.perform-outcome.new.files
    c.args.out.now c.perform-outcome.new.out (Rose (g.F.Files.faults c.args.files.now)
    (g.F.Files.faults c.perform-outcome.new.files)) c.report.ensures.code c.report.ensures.seal
    c.perform-outcome.ensures.fits c.perform-outcome.ensures.reads.read_fault
    c.perform-outcome.ensures.prints

pub returns-clause-noticed : goal.returns-clause-noticed
returns-clause-noticed g c =
    notices (command_of (map string_bytes c.args.words.now)) c.perform-outcome.result c.report.result.code
    (g.K.Sink.taken c.args.out.now) (g.K.Sink.taken c.perform-outcome.new.out) c.report.ensures.code
    c.perform-outcome.ensures.noticed

pub returns-clause-in_time : goal.returns-clause-in_time
returns-clause-in_time g c =
    in_time g.K.Sink.taken g.K.Sink.faults (g.F.Files.contents c.args.files.now)
    (command_of (map string_bytes c.args.words.now)) c.perform-outcome.result c.report.result.code c.args.out.now
    c.perform-outcome.new.out c.report.ensures.code c.perform-outcome.ensures.prints
