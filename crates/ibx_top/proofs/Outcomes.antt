-- Ends and answers.
use Rattle.std.proofs.Common.{◌≡◌, ℕ, ◌+◌, ◌<◌, ◌≤◌, ◌⊎◌, inl, inr, true, false, List, [], ◌∷◌, ◌++◌, Option, Some, None}
use Rattle.std.proofs.Common.{refl, sym, ap, ◌∙◌, subst, arith}
use Rattle.std.specs.Prelude.{IsSome, MatchOption}
use Rattle.ibx_base.specs.Counts.{Rose}
use Rattle.ibx_base.specs.Files.{Contents, Begun, IsBegunAs, CountsMiss}
use Rattle.ibx_base.specs.Sinks.{with_more, TookPrefix}
use Rattle.ibx_command.specs.declared.options.Options.{Options}
use Rattle.ibx_command.specs.Command.{Meaning, Running, Injecting}
use Rattle.ibx_command.specs.Command.{Twinning, Generating, Assembling, Disassembling}
use Rattle.ibx_lockstep.specs.Delays.{cycles_of}
use Rattle.ibx_top.specs.declared.outcome.Finish.{Finish}
use Rattle.ibx_top.specs.declared.outcome.Finish.TheVariants.{Ran, Injected, Compared, Written}
use Rattle.ibx_top.specs.declared.outcome.Refusal.{Refusal}
use Rattle.ibx_top.specs.declared.outcome.Refusal.TheVariants as why
use Rattle.ibx_top.specs.declared.outcome.Outcome.{Outcome}
use Rattle.ibx_top.specs.declared.outcome.Outcome.TheVariants.{Finished, BadWords, CannotRead, CannotWrite, Refused}
use Rattle.ibx_top.specs.declared.outcome.Outcome.TheVariants.{OutOfMemory}
use Rattle.ibx_top.specs.Answers.{Answer, AreThere, Gives, IfInject, IfTwin, IsAmong, IsAnswer, IsCutShort, IsOneOf}
use Rattle.ibx_top.specs.Answers.{IsThere, IsTwin, Notices, Says, TellsTime, answer_codes, codes_of, finish_code}
use Rattle.ibx_top.specs.Answers.{finish_seal, names_of, refusal_code, refused, run_codes}
use Rattle.ibx_top.specs.Outcomes.{EndsNoticed, Fits, IfAnswered, IfBadWords, IfUnread, IfUnwritten, LacksOrRefuses, Leaves}
use Rattle.ibx_top.specs.Outcomes.{Passes, Prints, Reads, Refuses, Settles, Stops, code_of, end_of, err_line_of, seal_in}
use Rattle.ibx_top.proofs.Gains.{none_more}
use Rattle.ibx_top.proofs.Answers.{command_code, one_answer}
use Rattle.ibx_top.proofs.Twins.{tells_time}

-- ---- a chain of steps

-- a count that never falls and then rises rose from its first value
rose_later : (before middle after : ℕ) → before ≤ middle → Rose middle after → Rose before after
rose_later before middle after h rose = omega arith

-- a name that has a content counts no miss
miss_stays_at : (before after : ℕ) (content : Option (List ℕ)) → MatchOption content (Rose before after)
    (λ _. after ≡ before) → IsSome content → after ≡ before
miss_stays_at before after None h there = let no : false ≡ true = there in cc
miss_stays_at before after (Some bytes) h there = h

-- nor does a file that is there, whether its content is told or not
miss_stays : (told : Option Contents) (name : List ℕ) (before after : ℕ) → CountsMiss told name before after → IsThere
    told name → after ≡ before
miss_stays None name before after h there = h
miss_stays (Some contents) name before after h there = miss_stays_at before after (contents name) h there

-- Files were read, and the rest of the names and answers is left: what is one of the rest is one of all.
pub record Goes {F : Type 0} (contents : F → Option Contents) (faults misses : F → ℕ) (names rest : List (List ℕ))
    (Answers Rest : Answer → Type 0) (start now : F) : Type 0 where
  pub kept : contents now ≡ contents start
  pub never_falls : faults start ≤ faults now
  pub stays : AreThere (contents start) names → misses now ≡ misses start
  pub there : AreThere (contents start) names → AreThere (contents start) rest
  pub among : (said : List ℕ) → IsAmong rest said → IsAmong names said
  pub leads : (answer : Answer) → Rest answer → Answers answer

-- before the first step all are left
pub begins : {F : Type 0} (contents : F → Option Contents) (faults misses : F → ℕ) (names : List (List ℕ))
    (Answers : Answer → Type 0) (files : F) → Goes contents faults misses names names Answers Answers files files
begins {F} contents faults misses names Answers files = record {
  kept = refl;
  never_falls = omega arith;
  stays = λ _. refl;
  there = λ there. there;
  among = λ said is. is;
  leads = λ answer is. is;
}

-- where all names are there, the first are
first_there : (told : Option Contents) (read rest : List (List ℕ)) → AreThere told (read ++ rest) → AreThere told read
first_there told [] rest there = tt
first_there told (name ∷ read) rest there = (there.0, first_there told read rest there.1)

-- and so are the rest
rest_there : (told : Option Contents) (read rest : List (List ℕ)) → AreThere told (read ++ rest) → AreThere told rest
rest_there told [] rest there = there
rest_there told (name ∷ read) rest there = rest_there told read rest there.1

-- one of the first names is one of all
first_among : (read rest : List (List ℕ)) (said : List ℕ) → IsAmong read said → IsAmong (read ++ rest) said
first_among [] rest said among = absurd among
first_among (name ∷ read) rest said (inl is) = inl is
first_among (name ∷ read) rest said (inr among) = inr (first_among read rest said among)

-- so is one of the rest
rest_among : (read rest : List (List ℕ)) (said : List ℕ) → IsAmong rest said → IsAmong (read ++ rest) said
rest_among [] rest said among = among
rest_among (name ∷ read) rest said among = inr (rest_among read rest said among)

-- a step that reads one file
pub passes_one : {F : Type 0} (contents : F → Option Contents) (faults misses : F → ℕ) (name : List ℕ) (before after : F)
    → contents after ≡ contents before → faults before ≤ faults after
    → CountsMiss (contents before) name (misses before) (misses after)
    → Passes contents faults misses (name ∷ []) before after
passes_one {F} contents faults misses name before after kept falls missed = record {
  kept = kept;
  never_falls = falls;
  stays = λ there. miss_stays (contents before) name (misses before) (misses after) missed there.0;
}

module _ {F : Type 0} {contents : F → Option Contents} {faults misses : F → ℕ} {names : List (List ℕ)}
    {Answers : Answer → Type 0} {start now : F} where
  -- a step that reads names
  pub reads : {later : F} {Rest : Answer → Type 0} (read rest : List (List ℕ)) (More : Answer → Type 0)
      → Goes contents faults misses names (read ++ rest) Answers Rest start now
      → Passes contents faults misses read now later → ((answer : Answer) → More answer → Rest answer)
      → Goes contents faults misses names rest Answers More start later
  reads {later} {Rest} read rest More goes passes leads = record {
    kept = passes.kept ∙ goes.kept;
    never_falls = omega (arith, goes.never_falls, passes.never_falls);
    stays = λ there. passes.stays (subst (λ (told : Option Contents). AreThere told read) (sym goes.kept)
        (first_there (contents start) read rest (goes.there there))) ∙ goes.stays there;
    there = λ there. rest_there (contents start) read rest (goes.there there);
    among = λ said is. goes.among said (rest_among read rest said is);
    leads = λ answer is. goes.leads answer (leads answer is);
  }

  -- a step that reads none
  pub narrows : {rest : List (List ℕ)} {Rest : Answer → Type 0} (More : Answer → Type 0)
      → Goes contents faults misses names rest Answers Rest start now
      → ((answer : Answer) → More answer → Rest answer)
      → Goes contents faults misses names rest Answers More start now
  narrows {rest} {Rest} More goes leads = record {
    kept = goes.kept;
    never_falls = goes.never_falls;
    stays = goes.stays;
    there = goes.there;
    among = goes.among;
    leads = λ answer is. goes.leads answer (leads answer is);
  }

  module _ (begun : F → Option Begun) {K : Type 0} (taken : K → Option (List ℕ)) (failed : K → ℕ) where
    -- a refusal
    pub refuses : {rest : List (List ℕ)} {Rest : Answer → Type 0} (end : Outcome) (out : K)
        → Goes contents faults misses names rest Answers Rest start now → LacksOrRefuses Rest end
        → Leaves contents begun faults misses taken failed names Answers end start now out out
    refuses (Refused name reason) out goes is = record {
      words = tt;
      reads = record { kept = goes.kept; misses_stay = goes.stays; read_fault = tt; unread = tt };
      prints = record {
        answered = (
          refused name.now reason,
          (
            goes.leads (refused name.now reason) is,
            record {
              code = refl;
              line = refl;
              seal = refl;
              text = none_more (taken out);
            },
          ),
        );
        write_fault = tt;
        cut_short = tt;
        silent = refl;
      };
    }
    refuses OutOfMemory out goes is = record {
      words = tt;
      reads = record { kept = goes.kept; misses_stay = goes.stays; read_fault = tt; unread = tt };
      prints = record { answered = tt; write_fault = tt; cut_short = tt; silent = refl };
    }
    refuses BadWords out goes is = absurd is
    refuses (CannotRead name) out goes is = absurd is
    refuses CannotWrite out goes is = absurd is
    refuses (Finished finish) out goes is = absurd is

module _ {F : Type 0} {contents : F → Option Contents} {faults misses : F → ℕ} {names : List (List ℕ)}
    {Answers : Answer → Type 0} {start now : F} (begun : F → Option Begun) {K : Type 0} (taken : K → Option (List ℕ))
    (failed : K → ℕ) where
  -- a failed step that reads names
  pub stops : {later : F} {Rest : Answer → Type 0} (read rest : List (List ℕ)) (More : Answer → Type 0)
      (end : Outcome) (out : K)
      → Goes contents faults misses names (read ++ rest) Answers Rest start now
      → Passes contents faults misses read now later → ((answer : Answer) → More answer → Rest answer)
      → Stops begun faults read More end now later
      → Leaves contents begun faults misses taken failed names Answers end start later out out
  stops read rest More (CannotRead name) out goes passes leads stop =
      let after = reads read rest More goes passes leads in
      record {
        words = tt;
        reads = record {
          kept = after.kept;
          misses_stay = after.stays;
          read_fault = rose_later (faults start) (faults now) _ goes.never_falls stop.0;
          unread = (goes.among name.now (first_among read rest name.now stop.1.0), stop.1.1);
        };
        prints = record { answered = tt; write_fault = tt; cut_short = tt; silent = refl };
      }
  stops read rest More (Refused name reason) out goes passes leads stop =
      refuses begun taken failed (Refused name reason) out (reads read rest More goes passes leads) stop
  stops read rest More OutOfMemory out goes passes leads stop =
      refuses begun taken failed OutOfMemory out (reads read rest More goes passes leads) tt
  stops read rest More BadWords out goes passes leads stop = absurd stop
  stops read rest More CannotWrite out goes passes leads stop = absurd stop
  stops read rest More (Finished finish) out goes passes leads stop = absurd stop

  -- an output that fails while an answer is written
  pub fails : {rest : List (List ℕ)} {Rest : Answer → Type 0} (answer : Answer) (before after : K)
      → Goes contents faults misses names rest Answers Rest start now → Rest answer
      → IsOneOf run_codes answer.code → TookPrefix (taken before) answer.text (taken after)
      → Rose (failed before) (failed after)
      → Leaves contents begun faults misses taken failed names Answers CannotWrite start now before after
  fails answer before after goes is runs took rose = record {
    words = tt;
    reads = record { kept = goes.kept; misses_stay = goes.stays; read_fault = tt; unread = tt };
    prints = record {
      answered = tt;
      write_fault = rose;
      cut_short = (answer, (goes.leads answer is, record { runs = runs; text = took }));
      silent = tt;
    };
  }

  -- an answer that is written
  pub finishes : {rest : List (List ℕ)} {Rest : Answer → Type 0} (answer : Answer) (finish : Finish)
      (before after : K) → Goes contents faults misses names rest Answers Rest start now → Rest answer
      → Settles answer (Finished finish) (taken before) (taken after)
      → Leaves contents begun faults misses taken failed names Answers (Finished finish) start now before after
  finishes answer finish before after goes is settles = record {
    words = tt;
    reads = record { kept = goes.kept; misses_stay = goes.stays; read_fault = tt; unread = tt };
    prints = record {
      answered = (answer, (goes.leads answer is, settles));
      write_fault = tt;
      cut_short = tt;
      silent = tt;
    };
  }

-- a refusal is one for want of memory or else
pub only_refuses : (Rest : Answer → Type 0) (end : Outcome) → Refuses Rest end → LacksOrRefuses Rest end
only_refuses Rest (Refused name reason) is = is
only_refuses Rest BadWords is = absurd is
only_refuses Rest (CannotRead name) is = absurd is
only_refuses Rest CannotWrite is = absurd is
only_refuses Rest (Finished finish) is = absurd is
only_refuses Rest OutOfMemory is = absurd is

-- words that mean something don't end as bad ones
pub fits_some : {F : Type 0} (command : Meaning) (end : Outcome) (before after : F) → IfBadWords end ⊥
    → Fits (Some command) end before after
fits_some command end before after words = record { bad_words = fits_by end words; no_words = λ none. cc }
  where
    fits_by : (e : Outcome) → IfBadWords e ⊥ → IfBadWords e ((Some command ≡ None) × (after ≡ before))
    fits_by BadWords none = absurd none
    fits_by (CannotRead name) none = tt
    fits_by (Finished finish) none = tt
    fits_by (Refused name reason) none = tt
    fits_by CannotWrite none = tt
    fits_by OutOfMemory none = tt

-- where no file can be unread, nothing is owed of one
pub none_unread : (end : Outcome) (P : List ℕ → Type 0) → IfUnread end (λ _. ⊥) → IfUnread end P
none_unread (CannotRead name) P none = absurd none
none_unread (Finished finish) P none = tt
none_unread (Refused name reason) P none = tt
none_unread BadWords P none = tt
none_unread CannotWrite P none = tt
none_unread OutOfMemory P none = tt

-- a step that fails is no verdict
pub stops_unnoticed : {F : Type 0} (begun : F → Option Begun) (faults : F → ℕ) (names : List (List ℕ))
    (More : Answer → Type 0) (end : Outcome) (now later : F) (delay : ℕ) (before after : Option (List ℕ))
    → Stops begun faults names More end now later → EndsNoticed delay end before after
stops_unnoticed begun faults names More (Refused name reason) now later delay before after stop = tt
stops_unnoticed begun faults names More (CannotRead name) now later delay before after stop = tt
stops_unnoticed begun faults names More OutOfMemory now later delay before after stop = tt
stops_unnoticed begun faults names More BadWords now later delay before after stop = absurd stop
stops_unnoticed begun faults names More CannotWrite now later delay before after stop = absurd stop
stops_unnoticed begun faults names More (Finished finish) now later delay before after stop = absurd stop

-- nor is a refusal
pub refuses_unnoticed : (Rest : Answer → Type 0) (end : Outcome) (delay : ℕ) (before after : Option (List ℕ))
    → Refuses Rest end → EndsNoticed delay end before after
refuses_unnoticed Rest (Refused name reason) delay before after is = tt
refuses_unnoticed Rest BadWords delay before after is = absurd is
refuses_unnoticed Rest (CannotRead name) delay before after is = absurd is
refuses_unnoticed Rest CannotWrite delay before after is = absurd is
refuses_unnoticed Rest OutOfMemory delay before after is = absurd is
refuses_unnoticed Rest (Finished finish) delay before after is = absurd is

-- ---- the clauses of the top call

-- each command has the statuses of an output that can't be written and of want of memory
other_codes : (command : Option Meaning) → (command ≡ None → ⊥)
    → IsOneOf (codes_of command) 4 × IsOneOf (codes_of command) 7
other_codes None some = absurd (some refl)
other_codes (Some (Running name plan options)) some = (refl, refl)
other_codes (Some (Injecting name plan options)) some = (refl, refl)
other_codes (Some (Twinning first second plan options)) some = (refl, refl)
other_codes (Some (Generating number options)) some = (refl, refl)
other_codes (Some (Assembling name)) some = (refl, refl)
other_codes (Some (Disassembling name ram)) some = (refl, refl)

-- a command that names a file has the status of one that can't be read
read_code : (command : Option Meaning) (said : List ℕ) → IsAmong (names_of command) said
    → IsOneOf (codes_of command) 3
read_code None said among = absurd among
read_code (Some (Running name plan options)) said among = refl
read_code (Some (Injecting name plan options)) said among = refl
read_code (Some (Twinning first second plan options)) said among = refl
read_code (Some (Generating number options)) said among = absurd among
read_code (Some (Assembling name)) said among = refl
read_code (Some (Disassembling name ram)) said among = refl

-- a status that isn't one of these
other_code : (codes : List ℕ) (code other : ℕ) → code ≡ other → (IsOneOf codes other → ⊥) → IsOneOf codes code → ⊥
other_code codes code other e none one = none (subst (IsOneOf codes) e one)

-- a test can't fail and hold
impossible : false ≡ true → ⊥
impossible e = cc

-- the status of a refusal isn't that of a command that was done
not_run : (reason : Refusal) → IsOneOf run_codes (refusal_code reason) → ⊥
not_run why.FileTooLong one = impossible one
not_run (why.File fault) one = impossible one
not_run why.PlanTooLong one = impossible one
not_run (why.Plan fault) one = impossible one
not_run why.TextTooLong one = impossible one
not_run (why.Text fault) one = impossible one

-- an end with the status of an answer has one
has_answer : (outcome : Outcome) (P : Type 0) (code : ℕ) → code ≡ code_of outcome → IfAnswered outcome P
    → IsOneOf answer_codes code → P
has_answer (Finished finish) P code e h one = h
has_answer (Refused name reason) P code e h one = h
has_answer BadWords P code e h one = absurd (other_code answer_codes code 2 e impossible one)
has_answer (CannotRead name) P code e h one = absurd (other_code answer_codes code 3 e impossible one)
has_answer CannotWrite P code e h one = absurd (other_code answer_codes code 4 e impossible one)
has_answer OutOfMemory P code e h one = absurd (other_code answer_codes code 7 e impossible one)

-- the status of what was done is one of those
pub done_code : (finish : Finish) → IsOneOf run_codes (finish_code finish)
done_code (Ran true seal) = refl
done_code (Ran false seal) = refl
done_code (Injected true) = refl
done_code (Injected false) = refl
done_code (Compared true seal) = refl
done_code (Compared false seal) = refl
done_code Written = refl

-- a status of what was done is one of an answer
ran_answers : (code : ℕ) → IsOneOf run_codes code → IsOneOf answer_codes code
ran_answers code one = grind arith

-- an end that settles an answer has the answer's status, which is one of the command
settled_code : (told : Option Contents) (command : Option Meaning) (outcome : Outcome)
    (before after : Option (List ℕ))
    → (answer : Answer) × (IsAnswer told command answer × Settles answer outcome before after)
    → IsOneOf (codes_of command) (code_of outcome)
settled_code told command outcome before after (answer, (is, settles)) =
    subst (IsOneOf (codes_of command)) (sym settles.code) (command_code told command answer is)

-- the statuses of a command
pub command_codes : {F K : Type 0} (taken : K → Option (List ℕ)) (faults : K → ℕ) (told : Option Contents)
    (command : Option Meaning) (outcome : Outcome) (files_before files_after : F) (before after : K)
    (Read : List ℕ → Type 0) → Fits command outcome files_before files_after
    → IfUnread outcome (λ said. IsAmong (names_of command) said × Read said)
    → Prints taken faults (IsAnswer told command) outcome before after → IsOneOf (codes_of command) (code_of outcome)
command_codes taken faults told command (Finished finish) fb fa before after Read fits unread prints =
    settled_code told command (Finished finish) (taken before) (taken after) prints.answered
command_codes taken faults told command (Refused name reason) fb fa before after Read fits unread prints =
    settled_code told command (Refused name reason) (taken before) (taken after) prints.answered
command_codes taken faults told command BadWords fb fa before after Read fits unread prints =
    subst (λ (c : Option Meaning). IsOneOf (codes_of c) 2) (sym fits.bad_words.0) refl
command_codes taken faults told command (CannotRead name) fb fa before after Read fits unread prints =
    read_code command name.now unread.0
command_codes taken faults told command CannotWrite fb fa before after Read fits unread prints =
    (other_codes command (λ none. let no : CannotWrite ≡ BadWords = fits.no_words none in cc)).0
command_codes taken faults told command OutOfMemory fb fa before after Read fits unread prints =
    (other_codes command (λ none. let no : OutOfMemory ≡ BadWords = fits.no_words none in cc)).1

module _ {K : Type 0} (taken : K → Option (List ℕ)) (faults : K → ℕ) (contents : Contents)
    (command : Option Meaning) (code seal : ℕ) (before after : K) (wanted : Answer)
    (want : IsAnswer (Some contents) command wanted) where
  -- an end that settles some answer settles the wanted one: where the names are told there is only one
  given : (outcome : Outcome) → code ≡ code_of outcome → seal ≡ seal_in outcome
      → (answer : Answer) × (IsAnswer (Some contents) command answer × Settles answer outcome (taken before)
      (taken after)) → (code ≡ 7) ⊎ Gives wanted code seal (taken before) (taken after)
  given outcome e sealed (answer, (is, settles)) =
      inr (subst (λ (a : Answer). Gives a code seal (taken before) (taken after))
      (one_answer contents command answer wanted is want)
      (record { status = e ∙ settles.code; sealed = sealed ∙ settles.seal; text = settles.text }))

  -- where no file and no output fails, the answer is given, or memory is short
  told_complete : {F : Type 0} (outcome : Outcome) (files_before files_after : F) (Read : Type 0) → code ≡ code_of outcome
      → seal ≡ seal_in outcome → Fits command outcome files_before files_after → IfUnread outcome (λ _. Read)
      → Prints taken faults (IsAnswer (Some contents) command) outcome before after
      → (Read → ⊥) → (Rose (faults before) (faults after) → ⊥)
      → (code ≡ 7) ⊎ Gives wanted code seal (taken before) (taken after)
  told_complete (Finished finish) fb fa Read e sealed fits unread prints r w =
      given (Finished finish) e sealed prints.answered
  told_complete (Refused name reason) fb fa Read e sealed fits unread prints r w =
      given (Refused name reason) e sealed prints.answered
  told_complete BadWords fb fa Read e sealed fits unread prints r w =
      absurd (subst (λ (c : Option Meaning). IsAnswer (Some contents) c wanted) fits.bad_words.0 want)
  told_complete (CannotRead name) fb fa Read e sealed fits unread prints r w = absurd (r unread)
  told_complete CannotWrite fb fa Read e sealed fits unread prints r w = absurd (w prints.write_fault)
  told_complete OutOfMemory fb fa Read e sealed fits unread prints r w = inl e

-- where nothing outside fails, the answer comes, or want of memory
pub complete : {F K : Type 0} (taken : K → Option (List ℕ)) (faults : K → ℕ) (told : Option Contents)
    (command : Option Meaning) (outcome : Outcome) (code seal : ℕ) (files_before files_after : F) (before after : K)
    (Read : Type 0) → code ≡ code_of outcome → seal ≡ seal_in outcome
    → Fits command outcome files_before files_after → IfUnread outcome (λ _. Read)
    → Prints taken faults (IsAnswer told command) outcome before after
    → (Read → ⊥) → (Rose (faults before) (faults after) → ⊥) → IsSome told → (answer : Answer)
    → IsAnswer told command answer → (code ≡ 7) ⊎ Gives answer code seal (taken before) (taken after)
complete taken faults None command outcome code sl fb fa before after Read e sealed fits unread prints r w some answer
    is = absurd (impossible some)
complete taken faults (Some contents) command outcome code sl fb fa before after Read e sealed fits unread prints r w
    some answer is =
    told_complete taken faults contents command code sl before after answer is outcome fb fa Read e sealed fits unread
    prints r w

-- what was done by an injection is its verdict
verdict_by : (delay : ℕ) (finish : Finish) (code : ℕ) (before after : Option (List ℕ)) → code ≡ finish_code finish
    → EndsNoticed delay (Finished finish) before after → Notices delay code before after
verdict_by delay (Ran halted seal) code before after e h = absurd h
verdict_by delay (Injected alert) code before after e h = subst (λ (n : ℕ). Notices delay n before after) (sym e) h
verdict_by delay (Compared differ seal) code before after e h = absurd h
verdict_by delay Written code before after e h = absurd h

-- an injection with the status of what was done ends by its verdict
notices_by : (delay : ℕ) (outcome : Outcome) (code : ℕ) (before after : Option (List ℕ)) → code ≡ code_of outcome
    → EndsNoticed delay outcome before after → IsOneOf run_codes code → Notices delay code before after
notices_by delay (Finished finish) code before after e h one = verdict_by delay finish code before after e h
notices_by delay (Refused name reason) code before after e h one =
    absurd (other_code run_codes code (refusal_code reason) e (not_run reason) one)
notices_by delay BadWords code before after e h one = absurd (other_code run_codes code 2 e impossible one)
notices_by delay (CannotRead name) code before after e h one = absurd (other_code run_codes code 3 e impossible one)
notices_by delay CannotWrite code before after e h one = absurd (other_code run_codes code 4 e impossible one)
notices_by delay OutOfMemory code before after e h one = absurd (other_code run_codes code 7 e impossible one)

-- what an injection prints is noticed
pub notices : (command : Option Meaning) (outcome : Outcome) (code : ℕ) (before after : Option (List ℕ)) → code ≡
    code_of outcome → IfInject command (λ options. EndsNoticed (cycles_of options.delay) outcome before after)
    → IfInject command (λ options. IsOneOf run_codes code → Notices (cycles_of options.delay) code before after)
notices None outcome code before after e h = tt
notices (Some (Running name plan options)) outcome code before after e h = tt
notices (Some (Twinning first second plan options)) outcome code before after e h = tt
notices (Some (Generating seed options)) outcome code before after e h = tt
notices (Some (Assembling name)) outcome code before after e h = tt
notices (Some (Disassembling name ram)) outcome code before after e h = tt
notices (Some (Injecting name plan options)) outcome code before after e h =
    notices_by (cycles_of options.delay) outcome code before after e h

-- the status, the seal, the text and the line are those of an answer
pub answered_by : (told : Option Contents) (command : Option Meaning) (outcome : Outcome) (code seal : ℕ)
    (before after err_before err_after : Option (List ℕ)) (faults_before faults_after : ℕ) → code ≡ code_of outcome
    → seal ≡ seal_in outcome → Says err_before err_after faults_before faults_after (err_line_of outcome)
    → IfAnswered outcome ((answer : Answer) × (IsAnswer told command answer × Settles answer outcome before after))
    → IsOneOf answer_codes code
    → (answer : Answer) × (IsAnswer told command answer × (Gives answer code seal before after
    × Says err_before err_after faults_before faults_after answer.line))
answered_by told command outcome code seal before after err_before err_after faults_before faults_after e
    f says h one =
    let (answer, (is, settles)) = has_answer outcome
    ((answer : Answer) × (IsAnswer told command answer × Settles answer outcome before after)) code e h one in (
      answer,
      (
        is,
        (
          record { status = e ∙ settles.code; sealed = f ∙ settles.seal; text = settles.text },
          subst (λ (line : List ℕ). Says err_before err_after faults_before faults_after line) settles.line says,
        ),
      ),
    )

-- the cycles of a comparison are the same as far as its answer says
time_by : (told : Option Contents) (first second : List ℕ) (plan : Option (List ℕ)) (options : Options)
    (outcome : Outcome) (code : ℕ) (before after : Option (List ℕ)) → code ≡ code_of outcome
    → IfAnswered outcome ((answer : Answer) × (IsTwin told first second plan options answer
    × Settles answer outcome before after))
    → IsOneOf run_codes code → TellsTime told first second plan options code before after
time_by told first second plan options outcome code before after e h one =
    let (answer, (is, settles)) = has_answer outcome ((answer : Answer) × (IsTwin told first second plan options answer
    × Settles answer outcome before after)) code e h (ran_answers code one) in
    let status : code ≡ answer.code = e ∙ settles.code in
    tells_time told first second plan options answer code before after status settles.text
    (subst (IsOneOf run_codes) status one) is

-- so it is of `twin`
pub in_time : {K : Type 0} (taken : K → Option (List ℕ)) (faults : K → ℕ) (told : Option Contents)
    (command : Option Meaning) (outcome : Outcome) (code : ℕ) (before after : K) → code ≡ code_of outcome
    → Prints taken faults (IsAnswer told command) outcome before after
    → IfTwin command (λ first second plan options. IsOneOf run_codes code
    → TellsTime told first second plan options code (taken before) (taken after))
in_time {K} taken faults told (Some (Twinning first second plan options)) outcome code before after e prints =
    time_by told first second plan options outcome code (taken before) (taken after) e prints.answered
in_time {K} taken faults told None outcome code before after e prints = tt
in_time {K} taken faults told (Some (Running name plan options)) outcome code before after e prints = tt
in_time {K} taken faults told (Some (Injecting name plan options)) outcome code before after e prints = tt
in_time {K} taken faults told (Some (Generating seed options)) outcome code before after e prints = tt
in_time {K} taken faults told (Some (Assembling name)) outcome code before after e prints = tt
in_time {K} taken faults told (Some (Disassembling name ram)) outcome code before after e prints = tt
