-- What is proved of the states that the code alone keeps.
pub mod AllClosed
pub mod GatesBack
pub mod HeaderBack
pub mod HeaderKept
pub mod KeptLabels
pub mod Keys
pub mod OperandLemmas
pub mod Placed
pub mod ReadBack
pub mod ShortTexts
pub mod Written
