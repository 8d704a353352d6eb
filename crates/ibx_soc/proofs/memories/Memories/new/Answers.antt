use Rattle.std.proofs.Common.{None, ap, ◌∙◌, length, arith}
use Rattle.std.proofs.lemmas.List.{length-replicate}
use Rattle.ibx_elf.specs.declared.ram.Ram.{Ram}
use Rattle.ibx_secded.specs.Code.{encode_of}
use Rattle.ibx_bus.specs.Port.{new_port}
use Rattle.ibx_soc.proofs.memories.Memories.new.Goals as goal

pub returns-clause-place : goal.returns-clause-place
returns-clause-place c = λ t. record {
  settings = record { mul = c.mul_wire.ensures.value t; changes = c.args.plan.now.changes };
  registers = c.in_ok-new.ensures t;
  tags = c.in_ok-new-2.ensures t;
  lines = c.in_ok-new-3.ensures t;
  memory = c.in_ok-memory.ensures.value t;
  iport = (c.new-4.ensures.value ∙ ap new_port c.iwaits.ensures) t;
  dport = (c.new-5.ensures.value ∙ ap new_port c.dwaits.ensures) t;
  pending = None;
  cycle = 0;
}

pub returns-clause-sizes : goal.returns-clause-sizes
returns-clause-sizes c = record {
  tags = ap length c.in_ok-new-2.ensures ∙ length-replicate 512 (encode_of 22 6 0);
  lines = ap length c.in_ok-new-3.ensures ∙ length-replicate 1024 (encode_of 32 7 0);
  words = omega (arith, c.in_ok-memory.ensures.size, ap (λ (r : Ram). r.size) c.ram.ensures.handed_in);
  pending = tt;
  mul = c.mul_wire.ensures.small;
}
