pub mod Denote
pub mod Dis
pub mod Fields
pub mod Forms
pub mod Held
pub mod Mnemonics
pub mod Operands
pub mod Text
