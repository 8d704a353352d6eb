-- What holds of the text of each file that is made of code.
use Rattle.std.specs.Prelude.{◌≡◌, ℕ, ◌≤◌, ◌<◌, List, length, slice_index, Ok}
use Rattle.ibx_elf.specs.declared.ram.Ram.{Ram}
use Rattle.ibx_elf.specs.Image.{image_of}
use Rattle.ibx_wrap.specs.Wrapped.{wrapped}
use Rattle.ibx_asm.specs.Denote.{denoted}
use Rattle.ibx_dis.specs.Listing.{listing_of}

-- each of these is a byte
abbrev pub AreBytes : List ℕ → Type 0
AreBytes code = (i : ℕ) → slice_index code i < 256

-- The text of the file around some code assembles to that code, whatever the code is and for whatever memory the file
-- is read. So the file around what the text assembles to is the same file.
abbrev pub ListsItsFile : Type 0
ListsItsFile =
    (code : List ℕ) (ram : Ram) → AreBytes code → length code ≤ 16777216
    → denoted (listing_of (image_of (wrapped code) ram)) ≡ Ok code
