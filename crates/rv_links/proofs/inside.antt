-- What is proved of the states that the code alone keeps.
pub mod RingLemmas
pub mod LinkedLemmas
pub mod ChangeLemmas
pub mod WindowLemmas
pub mod StayLemmas
pub mod UsedLemmas
pub mod IndexLemmas
pub mod BlockLemmas
