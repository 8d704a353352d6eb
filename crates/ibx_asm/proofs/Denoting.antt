-- A text's lines and its code, one line at a time.
use Rattle.std.proofs.Common.{◌≡◌, ℕ, ◌+◌, ◌/◌, ◌%◌, ◌≤◌, zero, suc, List, [], ◌∷◌, ◌++◌, length, take, Option, Some}
use Rattle.std.proofs.Common.{None, Result, Ok, Err, refl, sym, ap, arith, append_assoc}
use Rattle.std.proofs.Common.{append-nil}
use Rattle.std.proofs.Common.{◌<◌, map, drop, drop-cons, get_or, add-one}
use Rattle.std.proofs.Math.Seq.{take-suc}
use Rattle.std.proofs.lemmas.List.{map-append, drop_all}
use Rattle.std.proofs.lemmas.List.Elements.{filter_map-append}
use Rattle.std.specs.Int.{bytes_low_first}
use Rattle.std.specs.Option.{option_map_or}
use Rattle.std.specs.Str.Lines.{lines}
use Rattle.ibx_asm.specs.declared.fault.AsmFault.{AsmFault}
use Rattle.ibx_asm.specs.declared.fault.AsmFault.TheVariants as fault
use Rattle.ibx_asm.specs.declared.fault.AsmKind.{AsmKind}
use Rattle.ibx_asm.specs.declared.line.Line.{Line}
use Rattle.ibx_asm.specs.Held.{stands}
use Rattle.ibx_asm.specs.Operands.{Defined}
use Rattle.ibx_asm.specs.Denote.{Placed, placed, defined, label_of, size_of, labels_of, before, code_of, code_of_all}
use Rattle.ibx_asm.specs.Text.{tokens, without_comment}

-- code that was made, and what is to come
abbrev pub after : List ℕ → Result (List ℕ) AsmFault → Result (List ℕ) AsmFault
after code (Ok more) = Ok (code ++ more)
after code (Err f) = Err f

-- an empty text has no lines
no_rest : (rest : List ℕ) → length rest ≡ 0 → lines rest ≡ []
no_rest [] h = refl
no_rest (x ∷ rest) h = absurd (omega arith)

-- at the end of a text no line is to come
pub none_placed : (number address : ℕ) (rest : List ℕ) (all : List Placed) → length rest ≡ 0 → all ++ placed number
    address (lines rest) ≡ all
unfolding placed
none_placed number address rest all h = rw (no_rest rest h) (append-nil all)

-- a line and those after it
pub one_placed : (number address size : ℕ) (text line rest said : List ℕ) (all : List Placed) → lines text ≡ line ∷
    lines rest → said ≡ without_comment line → size ≡ size_of (tokens said)
    → all ++ placed number address (lines text)
    ≡ (all ++ record { number = number; address = address; line = tokens said } ∷ []) ++ placed (number + 1)
    (address + size) (lines rest)
unfolding placed
one_placed number address size text line rest said all cut is long = rw (cut, ← is, ← long)
    (sym (append_assoc all _ _))

-- the code of one more line
joined : (code bytes : List ℕ) (number : ℕ) (later : Result (List ℕ) AsmFault) → after code
    (before number (Ok bytes) later) ≡ after (code ++ bytes) later
joined code bytes number (Ok more) = ap Ok (sym (append_assoc code bytes more))
joined code bytes number (Err f) = refl

-- the code of a line and of those after it
pub one_line : (labels : List Defined) (all : List Line) (i : ℕ) (code bytes : List ℕ) (d : Line) → i < length all → Ok
    bytes ≡ code_of labels (stands (get_or all i d))
    → after code (code_of_all labels (map stands (drop i all))) ≡ after (code ++ bytes)
    (code_of_all labels (map stands (drop (i + 1) all)))
unfolding code_of_all
one_line labels all i code bytes d below here = rw (add-one i, drop-cons all i d below, ← here)
    (joined code bytes (get_or all i d).number _)

-- a line that is refused
pub refused : (labels : List Defined) (all : List Line) (i : ℕ) (code : List ℕ) (k : AsmKind) (d : Line) → i < length
    all → Err k ≡ code_of labels (stands (get_or all i d))
    → after code (code_of_all labels (map stands (drop i all))) ≡ Err (fault.Line (get_or all i d).number k)
unfolding code_of_all
refused labels all i code k d below here = rw (drop-cons all i d below, ← here) refl

-- at the end no code is to come
pub no_code : (labels : List Defined) (all : List Line) (i : ℕ) (code : List ℕ) → length all ≤ i → after code
    (code_of_all labels (map stands (drop i all))) ≡ Ok code
unfolding code_of_all
no_code labels all i code past = rw (drop_all i all past) (ap Ok (append-nil code))

-- what a line defines, as a list
one_defined : (p : Placed) (name : Option (List ℕ)) → name ≡ label_of p.line → labels_of (p ∷ []) ≡ option_map_or
    (λ name. record { name = name; line = p.number; address = p.address } ∷ []) name []
one_defined p None here = rw (← here) refl
one_defined p (Some name) here = rw (← here) refl

-- the labels of one more line, which defines this name or none
pub one_label : (all : List Line) (i : ℕ) (d : Line) (name : Option (List ℕ)) → i < length all → name ≡ label_of
    (tokens (get_or all i d).text.now) → labels_of (map stands (take (i + 1) all)) ≡ labels_of
    (map stands (take i all)) ++ option_map_or (λ name. record {
      name = name;
      line = (get_or all i d).number;
      address = (get_or all i d).address;
    } ∷ []) name []
one_label all i d name below here =
    let cut : labels_of (map stands (take (i + 1) all)) ≡ labels_of (map stands (take i all)) ++ labels_of
    (stands (get_or all i d) ∷ []) = rw (add-one i, take-suc all i d below, map-append stands (take i all) _)
    (filter_map-append defined (map stands (take i all)) _) in
    rw cut (ap (λ more. labels_of (map stands (take i all)) ++ more) (one_defined (stands (get_or all i d)) name here))

-- the lowest bytes of a word
pub low_bytes : (size word : ℕ) → size ≤ 4
    → take size (word % 256 ∷ (word / 256 % 256) ∷ (word / 65536 % 256) ∷ (word / 16777216 % 256) ∷ []) ≡
    bytes_low_first 0 size word
low_bytes zero word h = refl
low_bytes (suc zero) word h = refl
low_bytes (suc (suc zero)) word h = refl
low_bytes (suc (suc (suc zero))) word h = refl
low_bytes (suc (suc (suc (suc zero)))) word h = refl
low_bytes (suc (suc (suc (suc (suc n))))) word h = absurd (omega (arith, h))

-- as many as were asked for
pub length_low : (i size word : ℕ) → length (bytes_low_first i size word) ≡ size
length_low i zero word = refl
length_low i (suc size) word = ap suc (length_low (suc i) size word)
