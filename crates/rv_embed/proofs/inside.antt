-- What is proved of the states that the code alone keeps.
pub mod ClassLemmas
pub mod ZerosLemmas
pub mod Fillings
pub mod Walking
pub mod Counting
pub mod Keeping
pub mod WordParts
pub mod Realizing
pub mod Fewest
