use Rattle.std.proofs.Common.{refl, []}
use Rattle.ibx_base.specs.Counts.{Rose}
use Rattle.ibx_base.specs.Files.{IsBegunAs}
use Rattle.ibx_top.specs.Answers.{IsAmong}
use Rattle.ibx_top.proofs.Outcomes.{none_unread}
use Rattle.ibx_top.proofs.top.obey.Goals as goal

pub returns-in-Run-clause-leaves : goal.returns-in-Run-clause-leaves
returns-in-Run-clause-leaves g c = rw c.in-Run.is c.run.ensures

pub returns-in-Twin-clause-leaves : goal.returns-in-Twin-clause-leaves
returns-in-Twin-clause-leaves g c = rw c.in-Twin.is c.twin.ensures

pub returns-in-Assemble-clause-leaves : goal.returns-in-Assemble-clause-leaves
returns-in-Assemble-clause-leaves g c = rw c.in-Assemble.is c.assemble.ensures

pub returns-in-Disassemble-clause-leaves : goal.returns-in-Disassemble-clause-leaves
returns-in-Disassemble-clause-leaves g c = rw c.in-Disassemble.is c.disassemble.ensures

pub returns-in-Inject-clause-leaves : goal.returns-in-Inject-clause-leaves
returns-in-Inject-clause-leaves g c = rw c.in-Inject.is c.inject.ensures.leaves

pub returns-in-Inject-clause-noticed : goal.returns-in-Inject-clause-noticed
returns-in-Inject-clause-noticed g c = rw c.in-Inject.is c.inject.ensures.noticed

pub returns-in-Generate-clause-leaves : goal.returns-in-Generate-clause-leaves
returns-in-Generate-clause-leaves g c = rw c.in-Generate.is record {
  words = c.generate.ensures.words;
  reads = record {
    kept = refl;
    misses_stay = λ _. refl;
    read_fault = none_unread _ (λ _. Rose (g.F.Files.faults c.args.files.now) (g.F.Files.faults c.args.files.now))
        c.generate.ensures.read;
    unread = none_unread _ (λ said. IsAmong [] said × IsBegunAs said (g.F.Files.begun c.args.files.now))
        c.generate.ensures.read;
  };
  prints = c.generate.ensures.prints;
}
