-- The search of a rising list by halves.
use Rattle.std.proofs.Common.{mul-le-mul_left, mul_assoc, pow-suc, ◌≡◌, ℕ, ◌+◌, ◌-◌, ◌*◌, ◌/◌, ◌^◌, ◌<◌, ◌≤◌, zero}
use Rattle.std.proofs.Common.{suc, Bool, true, false, cond, ◌&&◌, nat_lt, nat_le, List, [], ◌∷◌, ◌++◌, length, take}
use Rattle.std.proofs.Common.{drop, get_or, reverse, Option, Some, None, Result, Ok, Err, OnErr, refl, sym, ap, ◌∙◌}
use Rattle.std.proofs.Common.{subst, arith}
use Rattle.std.specs.List.{find}
use Rattle.std.specs.Option.{option_map_or}
use Rattle.std.proofs.lemmas.List.Folds.{find-append}
use Rattle.std.proofs.lemmas.Grind.{reverse_onto}
use Rattle.std.proofs.lemmas.List.{reverse-append, take_more, take_all, take-append-drop}
use Rattle.ibx_plan.specs.declared.bounds.PlanFault.{PlanFault}
use Rattle.ibx_plan.specs.declared.bounds.PlanFault.TheVariants as fault
use Rattle.ibx_plan.specs.declared.entry.Change.{Change}
use Rattle.ibx_plan.specs.Changes.{rises_from}
use Rattle.ibx_plan.specs.Plan.{lines_at, follows, appended, Leaves}
use Rattle.ibx_plan.proofs.Flips.{both, chosen}

-- two tests that hold hold together
and_true : (a b : Bool) → a ≡ true → b ≡ true → (a && b) ≡ true
and_true true b h k = k
and_true false b h k = cc

-- only the last change decides what may follow
same_last : (x y : Change) (ys : List Change) (e : Change) → follows (x ∷ y ∷ ys) e ≡ follows (y ∷ ys) e
same_last x y ys e =
    let a : suc (suc (length ys)) - 1 ≡ suc (length ys) = omega arith in
    let b : suc (length ys) - 1 ≡ length ys = omega arith in
    rw (a, b)

-- a list stays rising with a change that follows it
more_rises : (a : ℕ) (x : Change) (xs : List Change) (e : Change) → rises_from a (x ∷ xs) ≡ true
    → follows (x ∷ xs) e ≡ true → rises_from a (x ∷ xs ++ e ∷ []) ≡ true
more_rises a x [] e h k = and_true (nat_le a x.cycle) (nat_le (x.cycle + 1) e.cycle && true)
    (both (nat_le a x.cycle) true h).0 (grind (arith, k))
more_rises a x (y ∷ ys) e h k = and_true (nat_le a x.cycle) (rises_from (x.cycle + 1) (y ∷ ys ++ e ∷ []))
    (both (nat_le a x.cycle) (rises_from (x.cycle + 1) (y ∷ ys)) h).0
    (more_rises (x.cycle + 1) y ys e (both (nat_le a x.cycle) (rises_from (x.cycle + 1) (y ∷ ys)) h).1
    (sym (same_last x y ys e) ∙ k))

-- the same of a whole list that may be empty
pub rises_on : (xs : List Change) (e : Change) → rises_from 0 xs ≡ true → follows xs e ≡ true
    → rises_from 0 (xs ++ e ∷ []) ≡ true
rises_on [] e h k = grind arith
rises_on (x ∷ xs) e h k = more_rises 0 x xs e h k

-- a change at or before a cycle
abbrev pub is_due : ℕ → Change → Bool
is_due cycle change = nat_le change.cycle cycle

-- a change that isn't due is passed over, and one that is gives the lines
skipped : (x : Change) (b : Bool) → b ≡ false → cond b (Some x) None ≡ None
skipped x true h = cc
skipped x false h = refl

-- a change that is due gives the lines, whatever the search would find behind it
taken : (x : Change) (b : Bool) (o : Option Change) → b ≡ true
    → option_map_or (λ c. c.mask) (cond b (Some x) o) 0 ≡ x.mask
taken x true o h = refl
taken x false o h = cc

-- no change of a rising list is at or before a cycle before its start
none_due : (cycle a : ℕ) (xs : List Change) → rises_from a xs ≡ true → cycle < a
    → find (is_due cycle) (reverse xs) ≡ None
none_due cycle a [] h k = refl
none_due cycle a (x ∷ xs) h k =
    let after : a ≤ x.cycle = grind (arith, (both (nat_le a x.cycle) (rises_from (x.cycle + 1) xs) h).0) in
    let none =
    none_due cycle (x.cycle + 1) xs (both (nat_le a x.cycle) (rises_from (x.cycle + 1) xs) h).1 (omega arith) in
    rw (reverse_onto xs x [], find-append (is_due cycle) (reverse xs) (x ∷ []), none)
    (skipped x (nat_le x.cycle cycle) (grind arith))

-- what follows a change in a rising list, it included, is rising from its cycle
rises_after : (a m : ℕ) (xs : List Change) (d : Change) → rises_from a xs ≡ true → m < length xs
    → rises_from (get_or xs m d).cycle (drop m xs) ≡ true
rises_after a m [] d h k = absurd (omega arith)
rises_after a zero (x ∷ xs) d h k =
    and_true (nat_le x.cycle x.cycle) (rises_from (x.cycle + 1) xs) (grind arith)
    (both (nat_le a x.cycle) (rises_from (x.cycle + 1) xs) h).1
rises_after a (suc m) (x ∷ xs) d h k =
    rises_after (x.cycle + 1) m xs d (both (nat_le a x.cycle) (rises_from (x.cycle + 1) xs) h).1 (omega arith)

-- a change at or before the cycle is the last such one of the part that ends with it
pub found_at : (cycle m n : ℕ) (xs : List Change) (x : Change) → n ≡ m + 1 → m < length xs → x ≡ get_or xs m x
    → x.cycle ≤ cycle → lines_at (take n xs) cycle ≡ x.mask
found_at cycle m n xs x e h k due =
    rw (e, take_more xs m x h, ← k, reverse-append (take m xs) (x ∷ []))
    (taken x (nat_le x.cycle cycle) (find (is_due cycle) (reverse (take m xs))) (grind arith))

-- a change after the cycle is past all that count
pub past_at : (cycle m : ℕ) (xs : List Change) (x : Change) → rises_from 0 xs ≡ true → m < length xs
    → x ≡ get_or xs m x → cycle < x.cycle → lines_at (take m xs) cycle ≡ lines_at xs cycle
past_at cycle m xs x h k e late =
    let rising = subst (λ (y : Change). rises_from y.cycle (drop m xs) ≡ true) (sym e) (rises_after 0 m xs x h k) in
    subst (λ (ys : List Change). lines_at (take m xs) cycle ≡ lines_at ys cycle) (take-append-drop m xs)
    (rw (
      reverse-append (take m xs) (drop m xs),
      find-append (is_due cycle) (reverse (drop m xs)) (reverse (take m xs)),
      none_due cycle x.cycle (drop m xs) rising late,
    ))

-- how far the search has come: the open part of the list is from low up to high
pub record Halves (changes : List Change) (cycle lines low high before now : ℕ) : Type 0 where
  pub found : lines ≡ lines_at (take low changes) cycle
  pub rest : lines_at (take high changes) cycle ≡ lines_at changes cycle
  pub order : low ≤ high
  pub within : high ≤ length changes
  pub grows : before ≤ now
  pub open_ : 2 ^ (now - before) * (2 * (high - low)) ≤ 2 * length changes + 1
  pub probes : 2 ^ (now - before) ≤ 2 * length changes + 1

-- a search begins with the whole list open
pub begins : (changes : List Change) (cycle now : ℕ) → Halves changes cycle 0 0 (length changes) now now
begins changes cycle now =
    let none : now - now ≡ 0 = omega arith in
    record {
      found = refl;
      rest = ap (λ (xs : List Change). lines_at xs cycle) (take_all (length changes) changes (omega arith));
      order = omega arith;
      within = omega arith;
      grows = omega arith;
      open_ = rw none (omega arith);
      probes = rw none (omega arith);
    }

-- one probe more doubles the power and at least halves the open part
halves : (p d e n : ℕ) → p * (2 * d) ≤ n → 2 * e ≤ d → (p * 2) * (2 * e) ≤ n
halves p d e n h k =
    omega (arith, mul-le-mul_left {m = 2 * (2 * e)} {n = 2 * d} p (omega arith), mul_assoc p 2 (2 * e))

-- a probe is left for as long as the part is open, and each doubles the power
one_more : (p d n : ℕ) → p * (2 * d) ≤ n → 1 ≤ d → p * 2 ≤ n
one_more p d n h k = omega (arith, mul-le-mul_left {m = 2} {n = 2 * d} p (omega arith))

-- one probe more doubles the power of two that counts them
next_power : (before now : ℕ) → before ≤ now → 2 ^ (now + 1 - before) ≡ 2 ^ (now - before) * 2
next_power before now h =
    let e : now + 1 - before ≡ suc (now - before) = omega arith in rw e (pow-suc 2 (now - before))

-- one probe: a change at or before the cycle moves the low end past it, and a later one the high end to it
pub goes_up : (changes : List Change) (cycle lines low high before now middle low2 : ℕ) (x : Change)
    → Halves changes cycle lines low high before now → low < high → middle ≡ low + (high - low) / 2
    → x ≡ get_or changes middle x → x.cycle ≤ cycle → low2 ≡ middle + 1
    → Halves changes cycle x.mask low2 high before (now + 1)
goes_up changes cycle lines low high before now middle low2 x h some e k due next =
    let order = h.order in
    let within = h.within in
    let grows = h.grows in
    record {
      found = sym (found_at cycle middle low2 changes x next (omega arith) k due);
      rest = h.rest;
      order = omega arith;
      within = h.within;
      grows = omega arith;
      open_ = rw (next_power before now h.grows)
          (halves (2 ^ (now - before)) (high - low) (high - low2) (2 * length changes + 1) h.open_ (omega arith));
      probes = rw (next_power before now h.grows)
          (one_more (2 ^ (now - before)) (high - low) (2 * length changes + 1) h.open_ (omega arith));
    }

-- a probe that meets a change after the cycle brings the high end down to it
pub goes_down : (changes : List Change) (cycle lines low high before now middle : ℕ) (x : Change)
    → rises_from 0 changes ≡ true → Halves changes cycle lines low high before now → low < high
    → middle ≡ low + (high - low) / 2 → x ≡ get_or changes middle x → cycle < x.cycle
    → Halves changes cycle lines low middle before (now + 1)
goes_down changes cycle lines low high before now middle x rising h some e k late =
    let order = h.order in
    let within = h.within in
    let grows = h.grows in
    record {
      found = h.found;
      rest = past_at cycle middle changes x rising (omega arith) k late;
      order = omega arith;
      within = omega arith;
      grows = omega arith;
      open_ = rw (next_power before now h.grows)
          (halves (2 ^ (now - before)) (high - low) (middle - low) (2 * length changes + 1) h.open_ (omega arith));
      probes = rw (next_power before now h.grows)
          (one_more (2 ^ (now - before)) (high - low) (2 * length changes + 1) h.open_ (omega arith));
    }

-- with no open part left, the lines are those of the cycle
pub ends : (changes : List Change) (cycle lines low high before now : ℕ)
    → Halves changes cycle lines low high before now → high ≤ low → lines ≡ lines_at changes cycle
ends changes cycle lines low high before now h shut =
    let order = h.order in
    let same : low ≡ high = omega arith in
    h.found ∙ ap (λ (n : ℕ). lines_at (take n changes) cycle) same ∙ h.rest

-- an entry that was added, or refused, leaves a rising list
pub add_rises : (xs ys : List Change) (e : Change) (line : ℕ) (r : Result (Unit {0}) PlanFault)
    → rises_from 0 xs ≡ true → follows xs e ≡ true → Leaves r ys (appended xs e line) → OnErr r (ys ≡ xs)
    → rises_from 0 ys ≡ true
add_rises xs ys e line (Ok u) h k leaves same =
    subst (λ (zs : List Change). rises_from 0 zs ≡ true)
    (chosen (nat_lt (length xs) 65536) (xs ++ e ∷ []) (fault.TooMany line) ys leaves).1 (rises_on xs e h k)
add_rises xs ys e line (Err f) h k leaves same = subst (λ (zs : List Change). rises_from 0 zs ≡ true) (sym same) h
