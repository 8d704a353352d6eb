pub mod ByFields
pub mod ByNumber
pub mod Expansions
pub mod LowBits
pub mod OneRow
pub mod SameTest
pub mod Sound
