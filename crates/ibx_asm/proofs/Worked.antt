-- The definitions computed: what texts stand for, and the texts of words.
use Rattle.std.proofs.Common.{◌≡◌, [], ◌∷◌, Ok, Err, refl, codes}
use Rattle.ibx_text.specs.Number.{value_in, number_of}
use Rattle.ibx_asm.specs.declared.fault.AsmFault.TheVariants as fault
use Rattle.ibx_asm.specs.declared.fault.AsmKind.TheVariants as kind
use Rattle.ibx_asm.specs.Denote.{are_operands, instruction_of, label_of, placed, code_with, code_of, code_of_all}
use Rattle.ibx_asm.specs.Denote.{denoted}
use Rattle.ibx_asm.specs.Dis.{mnemonic_of, hex_digits, gathered, number_in, signed_text, number_text, slot_text}
use Rattle.ibx_asm.specs.Dis.{dis_of}
use Rattle.ibx_asm.specs.Fields.{range_of, places_of, has, twos_complement, united, scattered}
use Rattle.ibx_asm.specs.Forms.{slots_of}
use Rattle.ibx_asm.specs.Mnemonics.{encoding_of}
use Rattle.ibx_asm.specs.Operands.{registers, signed_of, is_name, difference, fits, value_of, holds, low_of, bits_of}
use Rattle.ibx_asm.specs.Text.{tokens}

-- three words that write 1 to the register of the host
three_words : denoted (codes "lui x6, 0x00020\naddi x7, x0, 1\nsw x7, 8(x6)\n") ≡ Ok (0x37 ∷ 0x03 ∷ 0x02 ∷ 0 ∷ 0x93 ∷
    0x03 ∷ 0x10 ∷ 0 ∷ 0x23 ∷ 0x24 ∷ 0x73 ∷ 0 ∷ [])
unfolding denoted placed code_of_all code_of code_with label_of instruction_of are_operands tokens encoding_of slots_of
    fits value_of holds bits_of low_of scattered places_of united range_of has twos_complement signed_of number_of
    value_in is_name registers difference
three_words = refl

-- a loop to a label
a_loop : denoted (codes "loop:\nc.addi x8, -1\nc.bnez x8, loop\n") ≡ Ok (0x7d ∷ 0x14 ∷ 0x7d ∷ 0xfc ∷ [])
unfolding denoted placed code_of_all code_of code_with label_of instruction_of are_operands tokens encoding_of slots_of
    fits value_of holds bits_of low_of scattered places_of united range_of has twos_complement signed_of number_of
    value_in is_name registers difference
a_loop = refl

-- lines that are refused
out_of_range : denoted (codes "addi x7, x0, 2048") ≡ Err (fault.Line 1 kind.Range)
unfolding denoted placed code_of_all code_of code_with label_of instruction_of are_operands tokens encoding_of slots_of
    fits value_of holds bits_of low_of scattered places_of united range_of has twos_complement signed_of number_of
    value_in is_name registers difference
out_of_range = refl

-- for a label
no_label : denoted (codes "c.j nowhere") ≡ Err (fault.Line 1 kind.Label)
unfolding denoted placed code_of_all code_of code_with label_of instruction_of are_operands tokens encoding_of slots_of
    fits value_of holds bits_of low_of scattered places_of united range_of has twos_complement signed_of number_of
    value_in is_name registers difference
no_label = refl

-- for the mnemonic
no_mnemonic : denoted (codes "mov x1, x2") ≡ Err (fault.Line 1 kind.Word)
unfolding denoted placed code_of_all code_of code_with label_of instruction_of are_operands tokens encoding_of slots_of
    fits value_of holds bits_of low_of scattered places_of united range_of has twos_complement signed_of number_of
    value_in is_name registers difference
no_mnemonic = refl

-- decimal numbers are left to the tests: std's definition of their digits computes in std alone
a_word : dis_of 0x00020337 ≡ codes "lui x6, 0x00020"
unfolding dis_of mnemonic_of slots_of slot_text registers low_of number_text number_in signed_text gathered places_of
    united range_of hex_digits
a_word = refl

-- a halfword
a_halfword : dis_of 0x931e ≡ codes "c.add x6, x7"
unfolding dis_of mnemonic_of slots_of slot_text registers low_of number_text number_in signed_text gathered places_of
    united range_of hex_digits
a_halfword = refl

-- a fence that has no mnemonic
another_fence : dis_of 0x0210000f ≡ codes ".word 0x0210000f"
unfolding dis_of mnemonic_of slots_of slot_text registers low_of number_text number_in signed_text gathered places_of
    united range_of hex_digits
another_fence = refl
