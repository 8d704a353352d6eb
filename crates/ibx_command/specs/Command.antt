-- The commands and what their words mean (our own rules).
use Rattle.std.specs.Prelude.{⊤, ℕ, nat_le, List, [], ◌∷◌, codes, Option, Some, None, if◌then◌else◌}
use Rattle.std.specs.Option.{option_map, option_and_then}
use Rattle.std.specs.Str.{bytes_eq}
use Rattle.ibx_command.specs.declared.options.Options.{Options}
use Rattle.ibx_command.specs.declared.command.Command.{Command}
use Rattle.ibx_command.specs.declared.command.Command.TheVariants.{Run, Inject, Twin, Generate, Assemble, Disassemble}
use Rattle.ibx_text.specs.Number.{number_of}
use Rattle.ibx_elf.specs.declared.ram.Ram.{Ram}
use Rattle.ibx_elf.specs.Ram.{IsRamRange}
use Rattle.ibx_command.specs.Parts.{Piece, pieces_of, all_fit, files_of, only, both}
use Rattle.ibx_command.specs.Numbers.{cycles_rule, delay_rule, ram_base_rule, ram_size_rule}
use Rattle.ibx_command.specs.Options.{plan_name, mul_name, IsInRange, plan_choice_in, plan_in, options_in, ram_in}

-- what a command does: run a file with or without a plan; run a file twice, with and without the flip of the plan; run
-- two files and compare them; run the program of a number; turn a text into a file; or print a file's code as text
pub data Meaning : Type 0 where
  Running : List ℕ → Option (List ℕ) → Options → Meaning
  Injecting : List ℕ → List ℕ → Options → Meaning
  Twinning : List ℕ → List ℕ → Option (List ℕ) → Options → Meaning
  Generating : ℕ → Options → Meaning
  Assembling : List ℕ → Meaning
  Disassembling : List ℕ → Ram → Meaning

-- the meaning of a command that was read
abbrev pub meaning_of : Command → Meaning
meaning_of (Run run) = Running run.file.now (option_map (λ plan. plan.now) run.plan) run.options
meaning_of (Inject inject) = Injecting inject.file.now inject.plan.now inject.options
meaning_of (Twin twin) = Twinning twin.first.now twin.second.now (option_map (λ plan. plan.now) twin.plan) twin.options
meaning_of (Generate generate) = Generating generate.seed generate.options
meaning_of (Assemble assemble) = Assembling assemble.file.now
meaning_of (Disassemble disassemble) = Disassembling disassemble.file.now disassemble.ram

-- a command with options that it can have
abbrev pub IsPossible : Command → Type 0
IsPossible (Run run) = IsInRange run.options
IsPossible (Inject inject) = IsInRange inject.options
IsPossible (Twin twin) = IsInRange twin.options
IsPossible (Generate generate) = IsInRange generate.options
IsPossible (Assemble assemble) = ⊤
IsPossible (Disassemble disassemble) = IsRamRange disassemble.ram

-- the options of a command that runs a machine
abbrev pub run_options : List (List ℕ)
run_options =
    cycles_rule.name ∷ plan_name ∷ mul_name ∷ delay_rule.name ∷ ram_base_rule.name ∷ ram_size_rule.name ∷ []

-- what the words after `run` mean: each piece fits, and there is one file
unfoldable pub run_of : List Piece → Option Meaning
run_of pieces = if all_fit run_options pieces
    then option_and_then (λ file. option_and_then (λ plan. option_map (Running file plan) (options_in pieces))
    (plan_choice_in pieces))
    (only (files_of pieces))
    else None

-- what the words after `inject` mean: each piece fits, and there is one file and a plan
unfoldable pub inject_of : List Piece → Option Meaning
inject_of pieces = if all_fit run_options pieces
    then option_and_then (λ file. option_and_then (λ plan. option_map (Injecting file plan) (options_in pieces))
    (plan_in pieces))
    (only (files_of pieces))
    else None

-- what the words after `twin` mean: each piece fits, and there are two files
unfoldable pub twin_of : List Piece → Option Meaning
twin_of pieces = if all_fit run_options pieces
    then option_and_then
    (λ files. option_and_then (λ plan. option_map (Twinning files.0 files.1 plan) (options_in pieces))
    (plan_choice_in pieces)) (both (files_of pieces))
    else None

-- the options of a command that runs a program of its own
abbrev pub gen_options : List (List ℕ)
gen_options = cycles_rule.name ∷ mul_name ∷ []

-- the number that a word gives, of at most 32 bits
abbrev pub seed_named : List ℕ → Option ℕ
seed_named word = option_and_then (λ n. if nat_le n 0xffffffff then Some n else None) (number_of word)

-- what the words after `gen` mean: each piece fits, and in the place of the file stands a seed
unfoldable pub gen_of : List Piece → Option Meaning
gen_of pieces = if all_fit gen_options pieces
    then option_and_then (λ file. option_and_then (λ seed. option_map (Generating seed) (options_in pieces))
    (seed_named file))
    (only (files_of pieces))
    else None

-- what the words after `asm` mean: there is one file and no option
unfoldable pub asm_of : List Piece → Option Meaning
asm_of pieces = if all_fit [] pieces then option_map Assembling (only (files_of pieces)) else None

-- the options of a command that reads a file and runs nothing
abbrev pub ram_options : List (List ℕ)
ram_options = ram_base_rule.name ∷ ram_size_rule.name ∷ []

-- what the words after `dis` mean: each piece fits, and there is one file
unfoldable pub dis_of : List Piece → Option Meaning
dis_of pieces = if all_fit ram_options pieces
    then option_and_then (λ file. option_map (Disassembling file) (ram_in pieces)) (only (files_of pieces))
    else None

-- what words mean: the first one is the command
unfoldable pub command_of : List (List ℕ) → Option Meaning
command_of [] = None
command_of (name ∷ words) = if bytes_eq name (codes "run") then run_of (pieces_of words)
    else if bytes_eq name (codes "inject") then inject_of (pieces_of words)
    else if bytes_eq name (codes "twin") then twin_of (pieces_of words)
    else if bytes_eq name (codes "gen") then gen_of (pieces_of words)
    else if bytes_eq name (codes "asm") then asm_of (pieces_of words)
    else if bytes_eq name (codes "dis") then dis_of (pieces_of words)
    else None
