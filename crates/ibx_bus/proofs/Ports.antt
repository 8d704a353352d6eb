-- The port by itself: what it is in each part of a transaction, and that a cycle keeps it so.
use Rattle.std.proofs.Common.{◌≡◌, ℕ, suc, ◌+◌, ◌%◌, ◌<◌, ◌≤◌, ◌⊎◌, ◌≢◌, Bool, true, false, not, List, [], ◌∷◌, length}
use Rattle.std.proofs.Common.{refl, sym, ap, ◌∙◌, inl, inr, arith, add-one}
use Rattle.std.proofs.Math.Nat.{mod-add-mod, mod-eq_of_lt, mod_self}
use Rattle.std.proofs.lemmas.Nat.{mod_below}
use Rattle.std.proofs.lemmas.Bool.{eqb-true, eqb-false, ne_eqb, and_right, lt-ltb, le-ltb, cases_lt}
use Rattle.ibx_plan.specs.declared.site.Wait.{Wait}
use Rattle.ibx_bus.specs.Port.{PortState, answers, grants, is_blocked, is_wait_over, next_place, port_moves, wait_at}
use Rattle.ibx_bus.specs.PortTimes.{answer_time, grant_time, waits_of}

-- ---- the place in the list of waits

-- the place of transaction n's waits, around the list's end
unfoldable pub place_of : List Wait → ℕ → ℕ
place_of [] n = 0
place_of (w ∷ ws) n = n % length (w ∷ ws)

-- the place after that of transaction n is that of the next one, around the list's end too
place_next : (ws : List Wait) (n : ℕ) → next_place ws (place_of ws n) ≡ place_of ws (suc n)
unfolding place_of
place_next [] n = refl
place_next (w ∷ ws) n =
    let l : ℕ = length (w ∷ ws) in
    let below : n % l < l = mod_below n l (omega arith) in
    let next : (n % l + 1) % l ≡ suc n % l = mod-add-mod n l 1 ∙ ap (λ k. k % l) (add-one n) in
    elim (cases_lt (n % l + 1) l) [
      | inl lt ↦ rw (lt-ltb (n % l + 1) l lt) (sym (mod-eq_of_lt lt) ∙ next)
      | inr le ↦
          let all : n % l + 1 ≡ l = omega arith in
          rw (le-ltb (n % l + 1) l le) (sym (ap (λ k. k % l) all ∙ mod_self l) ∙ next)
    ]

-- the waits at the place of transaction n are those of transaction n
wait_place : (ws : List Wait) (n : ℕ) → wait_at ws (place_of ws n) ≡ waits_of ws n
unfolding place_of waits_of
wait_place [] n = refl
wait_place (w ∷ ws) n = refl

-- a port that has this list and stands at the place of transaction n has its waits
pub wait_is : (ws waits : List Wait) (n place : ℕ) → waits ≡ ws → place ≡ place_of ws n → wait_at waits place ≡
    waits_of ws n
wait_is ws waits n place same at = rw (same, at) (wait_place ws n)

-- such a port goes on to the place of transaction n + 1
next_is : (ws waits : List Wait) (n place : ℕ) → waits ≡ ws → place ≡ place_of ws n → next_place waits place ≡ place_of
    ws (suc n)
next_is ws waits n place same at = rw (same, at) (place_next ws n)

-- ---- the parts of a transaction

-- no transaction is open, and the next is number n
pub record Idle (ws : List Wait) (n : ℕ) (p : PortState) : Type 0 where
  pub list : p.waits ≡ ws
  pub busy : p.busy ≡ false
  pub waited : p.waited ≡ 0
  pub place : p.place ≡ place_of ws n

-- transaction m was issued at x, and isn't granted before c
pub record Waiting (ws : List Wait) (m x c : ℕ) (p : PortState) : Type 0 where
  pub list : p.waits ≡ ws
  pub busy : p.busy ≡ false
  pub waited : p.waited + x ≡ c
  pub place : p.place ≡ place_of ws m
  pub late : c ≤ grant_time ws m x

-- transaction m was issued at x, and is granted before c and not answered before c, with this error and word
pub record Granted (ws : List Wait) (m x : ℕ) (err : Bool) (word c : ℕ) (p : PortState) : Type 0 where
  pub list : p.waits ≡ ws
  pub busy : p.busy ≡ true
  pub waited : p.waited ≡ 0
  pub place : p.place ≡ place_of ws (suc m)
  pub left : p.left + c ≡ answer_time ws m x
  pub past : grant_time ws m x < c
  pub err_is : p.err ≡ err
  pub word_is : p.word ≡ word

-- after this cycle's answer no transaction is open, and the next is number n
pub record Free (ws : List Wait) (n : ℕ) (p : PortState) : Type 0 where
  pub list : p.waits ≡ ws
  pub blocked : is_blocked p ≡ false
  pub waited : p.waited ≡ 0
  pub place : p.place ≡ place_of ws n

-- a port at which no transaction is open is free
pub idle_free : (ws : List Wait) (n : ℕ) (p : PortState) → Idle ws n p → Free ws n p
idle_free ws n p i = record { list = i.list; blocked = rw i.busy; waited = i.waited; place = i.place }

-- a port at which no transaction is open shows no answer
pub idle_silent : (ws : List Wait) (n : ℕ) (p : PortState) → Idle ws n p → answers p ≡ false
idle_silent ws n p i = rw i.busy

-- a port at which a request waits for its grant shows no answer
pub waiting_silent : (ws : List Wait) (m x c : ℕ) (p : PortState) → Waiting ws m x c p → answers p ≡ false
waiting_silent ws m x c p w = rw w.busy

-- a port is free again in the cycle in which its transaction answers
pub granted_free : (ws : List Wait) (m x : ℕ) (err : Bool) (word c : ℕ) (p : PortState) → Granted ws m x err word c p →
    p.left ≡ 0 → Free ws (suc m) p
granted_free ws m x err word c p g e = record {
  list = g.list;
  blocked = rw (g.busy, e);
  waited = g.waited;
  place =
      g.place;
}

-- a granted transaction with no cycles left answers
pub granted_answers : (ws : List Wait) (m x : ℕ) (err : Bool) (word c : ℕ) (p : PortState) → Granted ws m x err word c
    p → p.left ≡ 0 → answers p ≡ true
granted_answers ws m x err word c p g e = rw (g.busy, e)

-- a granted transaction with cycles left doesn't answer yet
pub granted_silent : (ws : List Wait) (m x : ℕ) (err : Bool) (word c : ℕ) (p : PortState) → Granted ws m x err word c p
    → p.left ≢ 0 → answers p ≡ false
granted_silent ws m x err word c p g ne = rw (g.busy, ne_eqb p.left 0 ne)

-- without a request there is no grant
pub no_grant : (p : PortState) → grants false p ≡ false
no_grant p = and_right (not (is_blocked p)) false refl

-- ---- one cycle

-- what a cycle leaves, with a request or without, and with this error and word if it is granted
abbrev pub moved : Bool → PortState → Bool → ℕ → PortState
moved request p err word = port_moves (is_blocked p) request (is_wait_over p) p err word

-- a free port with no request
pub free_rests : (ws : List Wait) (n : ℕ) (err : Bool) (word : ℕ) (p : PortState) → Free ws n p → Idle ws n
    (moved false p err word)
unfolding port_moves
free_rests ws n err word p f = rw f.blocked (record { list = f.list; busy = refl; waited = refl; place = f.place })

-- what a request comes to that was issued at x and is on the wires in cycle c
pub record Grants (ws : List Wait) (m x : ℕ) (err : Bool) (word c : ℕ) (p : PortState) : Type 0 where
  pub grant : grants true p ≡ true
  pub now : grant_time ws m x ≡ c
  pub then : Granted ws m x err word (c + 1) (moved true p err word)

-- the same where it isn't granted in this cycle
pub record Waits (ws : List Wait) (m x : ℕ) (err : Bool) (word c : ℕ) (p : PortState) : Type 0 where
  pub grant : grants true p ≡ false
  pub then : Waiting ws m x (c + 1) (moved true p err word)

-- a port that isn't blocked, with a request
requested : (ws : List Wait) (m x : ℕ) (err : Bool) (word c : ℕ) (p : PortState) → p.waits ≡ ws → is_blocked p ≡ false
    → p.waited + x ≡ c → p.place ≡ place_of ws m → c ≤ grant_time ws m x → (b : Bool) → is_wait_over p ≡ b → Grants ws
    m x err word c p ⊎ Waits ws m x err word c p
unfolding port_moves answer_time grant_time
requested ws m x err word c p list blocked waited place late true over =
    let now : p.waited ≡ (wait_at p.waits p.place).grant = eqb-true p.waited (wait_at p.waits p.place).grant over in
    let grant : (wait_at p.waits p.place).grant ≡ (waits_of ws m).grant = ap (λ (w : Wait). w.grant)
    (wait_is ws p.waits m p.place list place) in
    let answer : (wait_at p.waits p.place).answer ≡ (waits_of ws m).answer = ap (λ (w : Wait). w.answer)
    (wait_is ws p.waits m p.place list place) in
    inl (record {
      grant = rw (blocked, over);
      now = omega arith;
      then = rw (blocked, over) (record {
        list = list;
        busy = refl;
        waited = refl;
        place = next_is ws p.waits m p.place list place;
        left = omega arith;
        past = omega arith;
        err_is = refl;
        word_is = refl;
      });
    })
requested ws m x err word c p list blocked waited place late false over =
    let no : p.waited ≢ (wait_at p.waits p.place).grant = eqb-false p.waited (wait_at p.waits p.place).grant over in
    let grant : (wait_at p.waits p.place).grant ≡ (waits_of ws m).grant = ap (λ (w : Wait). w.grant)
    (wait_is ws p.waits m p.place list place) in
    inr (record {
      grant = rw (blocked, over);
      then = rw (blocked, over) (record {
        list = list;
        busy = refl;
        waited = omega arith;
        place = place;
        late = omega arith;
      });
    })

-- a request at a free port is issued, and is granted at once in its time or begins to wait
pub free_starts : (ws : List Wait) (n : ℕ) (err : Bool) (word c : ℕ) (p : PortState) → Free ws n p → Grants ws n c err
    word c p ⊎ Waits ws n c err word c p
unfolding grant_time
free_starts ws n err word c p f = requested ws n c err word c p f.list f.blocked (omega (arith, f.waited)) f.place
    (omega arith) (is_wait_over p) refl

-- a held request is granted in its time, counted from its issue, or waits on
pub waiting_goes : (ws : List Wait) (m x : ℕ) (err : Bool) (word c : ℕ) (p : PortState) → Waiting ws m x c p → Grants
    ws m x err word c p ⊎ Waits ws m x err word c p
waiting_goes ws m x err word c p w = requested ws m x err word c p w.list (rw w.busy) w.waited w.place w.late
    (is_wait_over p) refl

-- a port that is granted and doesn't answer yet, whatever the error and word of another grant
pub granted_goes : (ws : List Wait) (m x : ℕ) (err : Bool) (word c : ℕ) (err2 : Bool) (word2 : ℕ) (p : PortState) →
    Granted ws m x err word c p → p.left ≢ 0 → Granted ws m x err word (c + 1) (moved false p err2 word2)
unfolding port_moves
granted_goes ws m x err word c err2 word2 p g ne =
    rw (g.busy, ne_eqb p.left 0 ne)
    (record {
      list = g.list;
      busy = refl;
      waited = g.waited;
      place = g.place;
      left = omega (arith, g.left);
      past =
          omega (arith, g.past);
      err_is = g.err_is;
      word_is = g.word_is;
    })
