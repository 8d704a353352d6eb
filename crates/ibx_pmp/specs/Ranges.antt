-- Physical memory protection (RISC-V Privileged ISA 1.12, 3.7.1). An entry is a configuration byte and an
-- address register, which holds bits 33:2 of a byte address.
use Rattle.std.specs.Prelude.{ℕ, ◌+◌, ◌*◌, ◌/◌, ◌%◌, ◌^◌, Bool, false, not, ◌&&◌, ◌||◌, List, [], ◌∷◌, Option, Some}
use Rattle.std.specs.Prelude.{None, bit_and, ◌==◌, nat_lt, nat_le, if◌then◌else◌, max, min, find, get_or, true}
use Rattle.std.specs.List.{list_any}
use Rattle.std.specs.Int.{w32, trailing_ones}
use Rattle.ibx_isa.specs.ControlBits.{mml_bit, mmwp_bit}
use Rattle.ibx_pmp.specs.declared.protection.AccessKind.{AccessKind}
use Rattle.ibx_pmp.specs.declared.protection.AccessKind.TheVariants.{Read, Write, Execute}

-- the bytes from start up to end, without end
pub record Bytes : Type 0 where
  pub start : ℕ
  pub end : ℕ

-- NAPOT: an address that ends in k ones stands for 2 ^ (k + 3) bytes, at a multiple of that many
abbrev pub power_of_two : ℕ → ℕ → Bytes
power_of_two a k = let start = a / 2 ^ (k + 1) * 2 ^ (k + 1) * 4 in record { start = start; end = start + 2 ^ (k + 3) }

-- The bytes of an entry, by the field A (bits 4:3): OFF none, TOR from the address of the entry below up
-- to its own, NA4 four bytes, NAPOT a power of two.
abbrev pub covers : ℕ → ℕ → ℕ → Bytes
covers cfg below a =
    if cfg / 8 % 4 == 0 then record { start = 0; end = 0 } else
    if cfg / 8 % 4 == 1 then record { start = below * 4; end = a * 4 } else
    if cfg / 8 % 4 == 2 then record { start = a * 4; end = a * 4 + 4 } else
    power_of_two a (trailing_ones w32 a)

-- an entry as it counts: its configuration byte, and its bytes
pub record Entry : Type 0 where
  pub cfg : ℕ
  pub bytes : Bytes

-- the entries with these configuration bytes and addresses, after one with the address `below`
abbrev pub entries_after : ℕ → List ℕ → List ℕ → List Entry
entries_after below [] addrs = []
entries_after below (c ∷ cs) [] = []
entries_after below (c ∷ cs) (a ∷ rest) = record { cfg = c; bytes = covers c below a } ∷ entries_after a cs rest

-- one of the n bytes from x on is among these bytes
abbrev pub meets : Bytes → ℕ → ℕ → Bool
meets b x n = nat_lt (max b.start x) (min b.end (x + n))

-- all of the n bytes from x on are
abbrev pub has_all : Bytes → ℕ → ℕ → Bool
has_all b x n = nat_le b.start x && nat_le (x + n) b.end

-- the bits R, W and X
abbrev pub permits : ℕ → AccessKind → Bool
permits cfg Read = not (bit_and cfg 1 == 0)
permits cfg Write = not (bit_and cfg 2 == 0)
permits cfg Execute = not (bit_and cfg 4 == 0)

-- what an entry lets each mode do while MML is 1
pub record Rights : Type 0 where
  pub machine : List AccessKind
  pub user : List AccessKind

-- what M may do, and what U may
abbrev pub lets : List AccessKind → List AccessKind → Rights
lets machine user = record { machine = machine; user = user }

-- nothing for either mode
abbrev pub no_rights : Rights
no_rights = lets [] []

-- the table of sixteen rows, by the bits L R W X from 0000 on (our own profile after Smepmp 1.0)
abbrev pub rights : List Rights
rights =
    no_rights ∷ lets [] (Execute ∷ []) ∷ lets (Read ∷ Write ∷ []) (Read ∷ [])
    ∷ lets (Read ∷ Write ∷ []) (Read ∷ Write ∷ []) ∷ lets [] (Read ∷ []) ∷ lets [] (Read ∷ Execute ∷ [])
    ∷ lets [] (Read ∷ Write ∷ []) ∷ lets [] (Read ∷ Write ∷ Execute ∷ []) ∷ no_rights ∷ lets (Execute ∷ []) []
    ∷ lets (Execute ∷ []) (Execute ∷ []) ∷ lets (Read ∷ Execute ∷ []) (Execute ∷ []) ∷ lets (Read ∷ []) []
    ∷ lets (Read ∷ Execute ∷ []) [] ∷ lets (Read ∷ Write ∷ []) [] ∷ lets (Read ∷ []) (Read ∷ []) ∷ []

-- the row of a configuration byte: L (bit 7), R, W and X (bits 0 to 2), L the highest
abbrev pub rights_row : ℕ → ℕ
rights_row cfg = cfg / 0x80 % 2 * 8 + cfg % 2 * 4 + cfg / 2 % 2 * 2 + cfg / 4 % 2

-- whether two accesses are of one kind
abbrev pub is_kind : AccessKind → AccessKind → Bool
is_kind Read Read = true
is_kind Write Write = true
is_kind Execute Execute = true
is_kind a b = false

-- whether a row lets a mode make an access of a kind
abbrev pub may : AccessKind → Bool → Rights → Bool
may kind machine r = list_any (is_kind kind) (if machine then r.machine else r.user)

-- Whether an entry allows an access. With MML 0 an entry without L (bit 7) allows M everything, and else R, W or X
-- decides; with MML 1 the table does.
abbrev pub allows : ℕ → ℕ → AccessKind → Bool → Bool
allows sec cfg kind machine =
    if bit_and sec mml_bit == 0 then (machine && bit_and cfg 0x80 == 0) || permits cfg kind
    else may kind machine (get_or rights (rights_row cfg) no_rights)

-- Where no entry has a byte of the access U is refused, and M is too where MMWP is 1, or MML is 1 and the access is a
-- fetch.
abbrev pub without_entry : ℕ → AccessKind → Bool → Bool
without_entry sec kind machine =
    machine && (bit_and sec mmwp_bit == 0 && (bit_and sec mml_bit == 0 || not (is_kind Execute kind)))

-- the entry that decides has to have all bytes
abbrev pub by_entry : ℕ → Option Entry → ℕ → ℕ → AccessKind → Bool → Bool
by_entry sec (Some e) x n kind machine = has_all e.bytes x n && allows sec e.cfg kind machine
by_entry sec None x n kind machine = without_entry sec kind machine

-- Whether n bytes from x on may be accessed: the first entry that has one of them decides. The arguments
-- are the bits of mseccfg, the configuration bytes and the addresses of the entries, x, n, the kind, and whether the
-- mode is M.
unfoldable pub allowed : ℕ → List ℕ → List ℕ → ℕ → ℕ → AccessKind → Bool → Bool
allowed sec cfgs addrs x n kind machine =
    by_entry sec (find (λ e. meets e.bytes x n) (entries_after 0 cfgs addrs)) x n kind machine

-- whether the four bytes of a word are among an entry's, as word numbers tell it
unfoldable pub has_word : ℕ → ℕ → ℕ → ℕ → Bool
has_word cfg below a word =
    if cfg / 8 % 4 == 0 then false else
    if cfg / 8 % 4 == 1 then nat_le below word && nat_lt word a else
    if cfg / 8 % 4 == 2 then word == a else
    word / 2 ^ (trailing_ones w32 a + 1) == a / 2 ^ (trailing_ones w32 a + 1)
