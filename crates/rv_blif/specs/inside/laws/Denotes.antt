-- The definition of the format goes line by line.
use Rattle.std.specs.Prelude.{◌≡◌, ℕ, List, refl}
use Rattle.std.specs.Result.{result_err}
use Rattle.rv_reader.specs.Feeding.{object_of}
use Rattle.rv_reader.specs.Rules.{lines_read}
use Rattle.rv_blif.specs.Given.{line_rules}
use Rattle.rv_blif.specs.Reading.{as_fault, end_of, fault_in, logic_of}

pub finds : (lines : List (List ℕ)) → result_err (lines_read line_rules 0 line_rules.start lines) ≡ fault_in lines
finds lines = refl

pub denotes : (text : List ℕ) → object_of line_rules as_fault end_of text ≡ logic_of text
denotes text = refl
