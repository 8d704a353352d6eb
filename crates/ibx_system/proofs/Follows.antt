-- The delayed pairs lead the shadow to a core: each step brings it one pair nearer, and a wrong pair is then told.
use Rattle.std.proofs.Common.{◌≡◌, ℕ, zero, suc, ◌+◌, ◌-◌, ◌≤◌, min, Bool, true, false, not, List, [], ◌∷◌, ◌++◌, drop}
use Rattle.std.proofs.Common.{length, None, refl, ap, subst, sym, ◌∙◌, append_assoc, length-append, arith}
use Rattle.std.specs.Prelude.{◌&&◌, nat_le, if◌then◌else◌}
use Rattle.std.proofs.lemmas.List.{append-nil}
use Rattle.std.proofs.lemmas.Bool.{le-leb, lt-leb, or_right}
use Rattle.ibx_lockstep.specs.Lockstep.{differs, followed}
use Rattle.ibx_core.specs.Wires.{InWires as In, OutWires as Out, agree}
use Rattle.ibx_system.specs.Core.{Parts, CoreLaws, is_alert}
use Rattle.ibx_system.specs.System.{Whole, Place, next, finds, output_of, alarm, look, output, input}
use Rattle.ibx_system.specs.Runs.{IsFirst, run}
use Rattle.ibx_system.proofs.Compare.{agree-refl}

module _ {S : Type 0} (p : Parts S) (laws : CoreLaws p) where
  -- by the inputs of some pairs a core becomes another one, and puts out for each what agrees with the pair's output
  abbrev pub Replays : S → List (In × Out) → S → Type 0
  Replays s [] r = s ≡ r
  Replays s (x ∷ xs) r = (agree (p.gives s x.0) x.1 ≡ true) × Replays (p.leaves s x.0) xs r

  -- one more pair at the end
  replays_more : (xs : List (In × Out)) (s r : S) (i : In) (o : Out) → Replays s xs r
      → agree (p.gives r i) o ≡ true → Replays s (xs ++ (i, o) ∷ []) (p.leaves r i)
  replays_more [] s r i o e h =
      (subst (λ (y : S). agree (p.gives y i) o ≡ true) (sym e) h, ap (λ (y : S). p.leaves y i) e)
  replays_more (x ∷ xs) s r i o e h = (e.0, replays_more xs (p.leaves s x.0) r i o e.1 h)

  -- after j steps the shadow is the core r, and these are the oldest pairs then
  pub record Awaits (r : S) (j : ℕ) (rest : List (In × Out)) (x : Whole S) : Type 0 where
    -- the pairs that were there before the first cycle, by which the shadow doesn't move
    pub idle : List (In × Out)
    -- the pairs by which it does
    pub waiting : List (In × Out)
    -- they come in this order, and then the rest
    pub is : x.delayed ≡ idle ++ (waiting ++ rest)
    -- one of them goes in each step
    pub count : length idle + length waiting ≡ j
    -- the shadow moves once the idle ones are gone
    pub age : x.age + length idle ≡ x.delay
    -- it becomes r
    pub comes : Replays x.shadow waiting r

  -- the pair that a cycle puts at the end: main's input and its output
  abbrev pub entered : Whole S → In × Out
  entered x = (input p x.place x.main, output p x.place x.main)

  -- a step, by the pairs that are there
  nearer_by : (idle waiting : List (In × Out)) (r : S) (j : ℕ) (rest : List (In × Out)) (x : Whole S)
      → x.delayed ≡ idle ++ (waiting ++ rest) → length idle + length waiting ≡ suc j
      → x.age + length idle ≡ x.delay → Replays x.shadow waiting r
      → Awaits r j (rest ++ entered x ∷ []) (next p x)
  unfolding next
  nearer_by [] [] r j rest x is count age comes = absurd (omega arith)
  nearer_by [] (y ∷ ys) r j rest x is count age comes =
      let full : nat_le x.delay x.age ≡ true = le-leb x.delay x.age (omega arith) in
      let moved : (if nat_le x.delay x.age then followed p.leaves x.shadow x.delayed else x.shadow)
      ≡ p.leaves x.shadow y.0 =
      ap (λ b. if b then followed p.leaves x.shadow x.delayed else x.shadow) full
      ∙ ap (λ (l : List (In × Out)). followed p.leaves x.shadow l) is in
      record {
        idle = [];
        waiting = ys;
        is = ap (λ (l : List (In × Out)). drop 1 l ++ entered x ∷ []) is ∙ append_assoc ys rest (entered x ∷ []);
        count = omega arith;
        age = omega arith;
        comes = subst (λ (s : S). Replays s ys r) (sym moved) comes.1;
      }
  nearer_by (z ∷ zs) waiting r j rest x is count age comes =
      let young : nat_le x.delay x.age ≡ false = lt-leb x.delay x.age (omega arith) in
      let stays : (if nat_le x.delay x.age then followed p.leaves x.shadow x.delayed else x.shadow) ≡ x.shadow =
      ap (λ b. if b then followed p.leaves x.shadow x.delayed else x.shadow) young in
      record {
        idle = zs;
        waiting = waiting;
        is = ap (λ (l : List (In × Out)). drop 1 l ++ entered x ∷ []) is
            ∙ append_assoc zs (waiting ++ rest) (entered x ∷ [])
            ∙ ap (λ (l : List (In × Out)). zs ++ l) (append_assoc waiting rest (entered x ∷ []));
        count = omega arith;
        age = omega arith;
        comes = subst (λ (s : S). Replays s waiting r) (sym stays) comes;
      }

  -- a step brings the shadow one pair nearer
  pub nearer : (r : S) (j : ℕ) (rest : List (In × Out)) (x : Whole S) → Awaits r (suc j) rest x
      → Awaits r j (rest ++ entered x ∷ []) (next p x)
  nearer r j rest x a = nearer_by a.idle a.waiting r j rest x a.is a.count a.age a.comes

  -- a pair whose output agrees with that of r is one more by which the shadow moves
  pub joined : (r : S) (j : ℕ) (i : In) (o : Out) (x : Whole S) → Awaits r j ((i, o) ∷ []) x
      → agree (p.gives r i) o ≡ true → Awaits (p.leaves r i) (suc j) [] x
  joined r j i o x a h = record {
    idle = a.idle;
    waiting = a.waiting ++ (i, o) ∷ [];
    is = a.is ∙ ap (λ (l : List (In × Out)). a.idle ++ l) (sym (append-nil (a.waiting ++ (i, o) ∷ [])));
    count = omega (arith, a.count, length-append a.waiting ((i, o) ∷ []));
    age = a.age;
    comes = replays_more a.waiting x.shadow r i o a.comes h;
  }

  -- ---- what is found

  -- where all pairs that wait agree, nothing is found
  none_by : (idle waiting : List (In × Out)) (r : S) (j : ℕ) (x : Whole S)
      → x.delayed ≡ idle ++ (waiting ++ []) → length idle + length waiting ≡ suc j
      → x.age + length idle ≡ x.delay → Replays x.shadow waiting r → finds p x ≡ false
  none_by [] [] r j x is count age comes = absurd (omega arith)
  none_by [] (y ∷ ys) r j x is count age comes =
      let full : nat_le x.delay x.age ≡ true = le-leb x.delay x.age (omega arith) in
      ap (λ (l : List (In × Out)). nat_le x.delay x.age && differs p.gives agree x.shadow l) is
      ∙ ap (λ b. b && not (agree (p.gives x.shadow y.0) y.1)) full
      ∙ ap not comes.0
  none_by (z ∷ zs) waiting r j x is count age comes =
      let young : nat_le x.delay x.age ≡ false = lt-leb x.delay x.age (omega arith) in
      ap (λ b. b && differs p.gives agree x.shadow x.delayed) young

  -- a pair whose output doesn't agree with that of r is found, once the shadow is r
  found_by : (idle waiting : List (In × Out)) (r : S) (i : In) (o : Out) (behind : List (In × Out)) (x : Whole S)
      → x.delayed ≡ idle ++ (waiting ++ (i, o) ∷ behind) → length idle + length waiting ≡ 0
      → x.age + length idle ≡ x.delay → Replays x.shadow waiting r → agree (p.gives r i) o ≡ false
      → finds p x ≡ true
  found_by [] [] r i o behind x is count age comes h =
      let full : nat_le x.delay x.age ≡ true = le-leb x.delay x.age (omega arith) in
      ap (λ (l : List (In × Out)). nat_le x.delay x.age && differs p.gives agree x.shadow l) is
      ∙ ap (λ b. b && not (agree (p.gives x.shadow i) o)) full
      ∙ ap (λ (s : S). not (agree (p.gives s i) o)) comes
      ∙ ap not h
  found_by [] (y ∷ ys) r i o behind x is count age comes h = absurd (omega arith)
  found_by (z ∷ zs) waiting r i o behind x is count age comes h = absurd (omega arith)

  -- what the cycle before found is told
  told_next : (x : Whole S) → finds p x ≡ true → alarm p (next p x) ≡ true
  unfolding next
  told_next x e = or_right (is_alert (output_of p (next p x))) (finds p x) e

  -- j steps on the pair is the oldest one, and it is told in the step behind
  pub told_after : (j : ℕ) (r : S) (i : In) (o : Out) (behind : List (In × Out)) (x : Whole S)
      → Awaits r j ((i, o) ∷ behind) x → agree (p.gives r i) o ≡ false → alarm p (run p x None (suc j)) ≡ true
  unfolding run
  told_after zero r i o behind x a h =
      told_next x (found_by a.idle a.waiting r i o behind x a.is a.count a.age a.comes h)
  told_after (suc j) r i o behind x a h =
      told_after j r i o (behind ++ entered x ∷ []) (next p x) (nearer r j ((i, o) ∷ behind) x a) h

  -- ---- a run without a flip

  -- the shadow comes to main by the pairs that wait, and nothing was found
  pub record Follows (d : ℕ) (w : Whole S) : Type 0 where
    -- the shadow is d cycles behind
    pub behind : w.delay ≡ d
    -- at least one
    pub some : 1 ≤ d
    -- the cycle before found nothing
    pub untold : w.told ≡ false
    -- by d pairs the shadow becomes what main is
    pub comes : Awaits w.main d [] w

  -- main's output is that for its input with the grants
  pub given : (e : Place) (s : S) → p.gives s (input p e s) ≡ output p e s
  given e s = laws.ungranted s (look p e s) _ _

  -- a step keeps this
  pub follows_next : (d : ℕ) (w : Whole S) → Follows d w → Follows d (next p w)
  unfolding next
  follows_next d w f =
      let e : d ≡ suc (d - 1) = omega (arith, f.some) in
      let at : Awaits w.main (suc (d - 1)) [] w = subst (λ n. Awaits w.main n [] w) e f.comes in
      let same : agree (p.gives w.main (input p w.place w.main)) (output p w.place w.main) ≡ true =
      ap (λ (o : Out). agree o (output p w.place w.main)) (given w.place w.main)
      ∙ agree-refl (output p w.place w.main) in
      record {
        behind = f.behind;
        some = f.some;
        untold = none_by at.idle at.waiting w.main (d - 1) w at.is at.count at.age at.comes;
        comes = subst (λ n. Awaits (p.leaves w.main (input p w.place w.main)) n [] (next p w)) (sym e)
            (joined w.main (d - 1) (input p w.place w.main) (output p w.place w.main) (next p w)
            (nearer w.main (d - 1) [] w at) same);
      }

  -- it holds of a first state
  pub follows_first : (w : Whole S) → IsFirst p w → Follows w.delay w
  follows_first w i = record {
    behind = refl;
    some = i.some;
    untold = i.untold;
    comes = record {
      idle = w.delayed;
      waiting = [];
      is = sym (append-nil w.delayed);
      count = omega (arith, i.full);
      age = omega (arith, i.full, i.age);
      comes = sym i.cores;
    };
  }
