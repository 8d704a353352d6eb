-- The view of an event that has a line has a line too.
use Rattle.std.proofs.Common.{◌≡◌, ℕ, ◌⊎◌, inl, inr, refl, sym, subst, arith}
use Rattle.std.specs.Prelude.{IsSome}
use Rattle.ibx_isa.specs.Events.{IsPrintable}
use Rattle.ibx_isa.specs.Views.{fault_addr, view_of}
use Rattle.ibx_isa.specs.declared.event.Event.{Event}
use Rattle.ibx_isa.specs.declared.event.Event.TheVariants.{Retire, Trap, Irq}
use Rattle.ibx_compare.specs.Twins.{HasLine}

-- a refused access has its address
refused : (cause addr : ℕ) → (cause ≡ 5) ⊎ (cause ≡ 7) → IsSome (fault_addr cause addr)
refused cause addr (inl five) = subst (λ (n : ℕ). IsSome (fault_addr n addr)) (sym five) refl
refused cause addr (inr seven) = subst (λ (n : ℕ). IsSome (fault_addr n addr)) (sym seven) refl

-- so it is of every event that has one
pub has_line : (e : Event) → IsPrintable e → HasLine (view_of e)
unfolding view_of
has_line (Retire cycle pc word rd value mem ctl ops) p = record {
  kind = omega arith;
  halfword = p.halfword;
  address = λ trap. absurd (let no : 0 ≡ 1 = trap in cc);
}
has_line (Trap cycle pc word cause tval addr) p = record {
  kind = omega arith;
  halfword = p.halfword;
  address = λ _ access. refused cause addr access;
}
has_line (Irq cycle pc cause) p = record {
  kind = omega arith;
  halfword = p.halfword;
  address = λ trap. absurd (let no : 2 ≡ 1 = trap in cc);
}
