-- Each call keeps the complements, and a glitch is told exactly where one is wrong.
use Rattle.std.proofs.Common.{inl, inr, ◌≡◌, ℕ, Bool, true, false, not, List, [], ◌∷◌, refl, sym, ◌∙◌}
use Rattle.std.specs.Prelude.{◌||◌, ◌==◌, Option, Some, None, ◌↔◌, if◌then◌else◌, slice_set, zero, suc}
use Rattle.std.proofs.lemmas.Bool.{cases_Bool, eqb-true, eq-eqb}
use Rattle.ibx_csr.specs.declared.name.Csr.{Csr}
use Rattle.ibx_csr.specs.declared.name.Csr.TheVariants.{Mstatus, Mtvec, Pmpcfg, Pmpaddr, Cpuctrl, Mseccfg}
use Rattle.ibx_csr.specs.declared.csrs.Csrs.{Csrs}
use Rattle.ibx_csr.specs.Table.{writable}
use Rattle.ibx_csr.specs.Kept.{is_addr_held}
use Rattle.ibx_csr.specs.Values.{cfg_bytes}
use Rattle.ibx_csr.specs.Fields.{values, put_cfg, put_addr, put_of, put_at, write_of, guarded_trap, guarded_cfg}
use Rattle.ibx_csr.specs.Fields.{guarded_low, guarded_high, AreComplements, Complemented, any_glitch, glitch_of}
use Rattle.ibx_bits.specs.Bytes.{complement}

-- two tests of which neither holds
neither : (a b : Bool) → (a || b) ≡ false → (a ≡ false) × (b ≡ false)
neither true b e = absurd (cc)
neither false b e = (refl, e)

-- the test of a pair tells its complement, both ways
no_complement : (n m : ℕ) → m ≡ complement n → not (m == complement n) ≡ false
no_complement n m e = rw (eq-eqb m (complement n) e) refl

-- a pair that passes the test has the complement in its second word
complement_of : (n m : ℕ) → not (m == complement n) ≡ false → m ≡ complement n
complement_of n m e = elim (cases_Bool (m == complement n)) [
  | inl h ↦ eqb-true m (complement n) h
  | inr h ↦ absurd (let f : true ≡ false = sym (rw h refl) ∙ e in cc)
]

-- of a list of pairs
none_wrong : (ps : List (ℕ × ℕ)) → any_glitch ps ≡ false → AreComplements ps
none_wrong [] e = tt
none_wrong (p ∷ ps) e =
    let parts = neither (not (p.1 == complement p.0)) (any_glitch ps) e in
    (complement_of p.0 p.1 parts.0, none_wrong ps parts.1)

-- and back
all_right : (ps : List (ℕ × ℕ)) → AreComplements ps → any_glitch ps ≡ false
all_right [] h = refl
all_right (p ∷ ps) h = rw (no_complement p.0 p.1 h.0) (all_right ps h.1)

-- so no glitch is told exactly where every complement is one
pub glitch-sound : (s : Csrs) → (glitch_of s ≡ false) ↔ Complemented s
unfolding glitch_of
glitch-sound s = (
  λ e. let a = neither (any_glitch (guarded_trap s) || any_glitch (guarded_cfg s) || any_glitch (guarded_low s))
      (any_glitch (guarded_high s)) e in
      let b = neither (any_glitch (guarded_trap s) || any_glitch (guarded_cfg s)) (any_glitch (guarded_low s)) a.0 in
      let c = neither (any_glitch (guarded_trap s)) (any_glitch (guarded_cfg s)) b.0 in
      record {
        trap = none_wrong (guarded_trap s) c.0;
        cfg = none_wrong (guarded_cfg s) c.1;
        low = none_wrong (guarded_low s) b.1;
        high = none_wrong (guarded_high s) a.1;
      },
  λ h. simp (
    all_right (guarded_trap s) h.trap,
    all_right (guarded_cfg s) h.cfg,
    all_right (guarded_low s) h.low,
    all_right (guarded_high s) h.high,
  ),
)

-- whichever of two states a test chooses
either : (b : Bool) (x y : Csrs) → Complemented x → Complemented y → Complemented (if b then x else y)
either true x y p q = p
either false x y p q = q

-- a register of a group takes a word, and its complement that of the word
replaced : (ps : List (ℕ × ℕ)) (k w : ℕ) → AreComplements ps → AreComplements (slice_set ps k (w, complement w))
replaced [] k w h = tt
replaced (p ∷ ps) zero w h = (refl, h.1)
replaced (p ∷ ps) (suc k) w h = (h.0, replaced ps k w h.1)

-- the four groups make the whole
complemented : (s : Csrs) → AreComplements (guarded_trap s) → AreComplements (guarded_cfg s)
    → AreComplements (guarded_low s) → AreComplements (guarded_high s) → Complemented s
complemented s trap cfg low high = record { trap = trap; cfg = cfg; low = low; high = high }

-- each word of configuration and each address is put with its complement
put_cfg-sound : (s : Csrs) (k w : ℕ) → Complemented s → Complemented (put_cfg s k w)
put_cfg-sound s k w h =
    either (k == 0) _ _ (complemented _ h.trap (replaced (guarded_cfg s) 0 w h.cfg) h.low h.high)
    (either (k == 1) _ _ (complemented _ h.trap (replaced (guarded_cfg s) 1 w h.cfg) h.low h.high)
    (either (k == 2) _ _ (complemented _ h.trap (replaced (guarded_cfg s) 2 w h.cfg) h.low h.high)
    (either (k == 3) _ _ (complemented _ h.trap (replaced (guarded_cfg s) 3 w h.cfg) h.low h.high)
    h)))

-- an address is put into the lower or the upper eight, beside its complement
put_addr-sound : (s : Csrs) (k w : ℕ) → Complemented s → Complemented (put_addr s k w)
put_addr-sound s k w h =
    either (k == 0) _ _ (complemented _ h.trap h.cfg (replaced (guarded_low s) 0 w h.low) h.high)
    (either (k == 1) _ _ (complemented _ h.trap h.cfg (replaced (guarded_low s) 1 w h.low) h.high)
    (either (k == 2) _ _ (complemented _ h.trap h.cfg (replaced (guarded_low s) 2 w h.low) h.high)
    (either (k == 3) _ _ (complemented _ h.trap h.cfg (replaced (guarded_low s) 3 w h.low) h.high)
    (either (k == 4) _ _ (complemented _ h.trap h.cfg (replaced (guarded_low s) 4 w h.low) h.high)
    (either (k == 5) _ _ (complemented _ h.trap h.cfg (replaced (guarded_low s) 5 w h.low) h.high)
    (either (k == 6) _ _ (complemented _ h.trap h.cfg (replaced (guarded_low s) 6 w h.low) h.high)
    (either (k == 7) _ _ (complemented _ h.trap h.cfg (replaced (guarded_low s) 7 w h.low) h.high)
    (either (k == 8) _ _ (complemented _ h.trap h.cfg h.low (replaced (guarded_high s) 0 w h.high))
    (either (k == 9) _ _ (complemented _ h.trap h.cfg h.low (replaced (guarded_high s) 1 w h.high))
    (either (k == 10) _ _ (complemented _ h.trap h.cfg h.low (replaced (guarded_high s) 2 w h.high))
    (either (k == 11) _ _ (complemented _ h.trap h.cfg h.low (replaced (guarded_high s) 3 w h.high))
    (either (k == 12) _ _ (complemented _ h.trap h.cfg h.low (replaced (guarded_high s) 4 w h.high))
    (either (k == 13) _ _ (complemented _ h.trap h.cfg h.low (replaced (guarded_high s) 5 w h.high))
    (either (k == 14) _ _ (complemented _ h.trap h.cfg h.low (replaced (guarded_high s) 6 w h.high))
    (either (k == 15) _ _ (complemented _ h.trap h.cfg h.low (replaced (guarded_high s) 7 w h.high))
    h)))))))))))))))

-- so every write keeps the complements: of one register, of one that there may be, and of an address
put-sound : (s : Csrs) (c : Csr) (w : ℕ) → Complemented s → Complemented (put_of s c w)
unfolding put_of
put-sound s Mstatus w h = complemented _ (replaced (guarded_trap s) 0 _ h.trap) h.cfg h.low h.high
put-sound s Mtvec w h = complemented _ (replaced (guarded_trap s) 1 _ h.trap) h.cfg h.low h.high
put-sound s Cpuctrl w h = complemented _ (replaced (guarded_trap s) 2 _ h.trap) h.cfg h.low h.high
put-sound s Mseccfg w h = complemented _ (replaced (guarded_trap s) 3 _ h.trap) h.cfg h.low h.high
put-sound s (Pmpcfg k) w h = put_cfg-sound s k _ h
put-sound s (Pmpaddr k) w h = either (is_addr_held s.mseccfg (cfg_bytes (values s)) k) _ _ h (put_addr-sound s k w h)
put-sound s _ w h = complemented _ h.trap h.cfg h.low h.high

-- a write keeps the complements also where there is no register to take it
put_at-sound : (s : Csrs) (w : ℕ) (o : Option Csr) → Complemented s → Complemented (put_at s w o)
put_at-sound s w (Some c) h = put-sound s c w h
put_at-sound s w None h = h

-- whatever address is written in whatever mode, no write causes a glitch
pub write-sound : (s : Csrs) (a w : ℕ) → Complemented s → Complemented (write_of s a w)
unfolding write_of
write-sound s a w h = put_at-sound s w (writable s.priv_ a) h
