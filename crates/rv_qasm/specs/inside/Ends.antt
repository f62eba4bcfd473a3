-- The end of a text.
use Rattle.std.specs.Prelude.{Result, Ok, Err}
use Rattle.rv_qasm.specs.Rules.{SoFar}
use Rattle.rv_qasm.specs.Reading.{Listing, listing_of}

-- what the statements give where no fault was found
abbrev pub listed : {E : Type 0} → Result (Unit {0}) E → SoFar → Result Listing E
listed (Ok _) so_far = Ok (listing_of so_far)
listed (Err fault) so_far = Err fault
