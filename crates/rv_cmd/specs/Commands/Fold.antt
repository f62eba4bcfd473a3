-- `fold`: the network of an OpenQASM text, with its phase gates folded.
use Rattle.std.specs.Prelude.{◌≡◌, ℕ, List, Ok}
use Rattle.rv_fold.specs.Folded.{IsEquivalence, IsFoldingOf, RestartsLeast, folded_network}
use Rattle.rv_qasm.specs.Reading.{Listing, in_register_q, qasm_of}
use Rattle.rv_qasm.specs.Text.{text_of}
use Rattle.rv_inputs.specs.Formats.{program}
use Rattle.rv_cmd.specs.Limits.{LimitedText, unlimited}
use Rattle.rv_cmd.specs.Row.{ReadsFirst, one}

abbrev pub fold_report : Listing → LimitedText
fold_report listing = unlimited (text_of (folded_network listing.net))

-- Read back, the text is the folded network, in one register q and without a measurement. It has the same amplitude
-- between all words and as many H, no more operations and no more T, and nothing is left to join. What joins is an
-- equivalence, and what an operation restarts is least.
pub record IsFolded (listing : Listing) (text : List ℕ) : Type 0 where
  pub read_back : qasm_of text ≡ Ok (in_register_q (folded_network listing.net))
  pub folding : IsFoldingOf listing.net (folded_network listing.net)
  pub classes : IsEquivalence listing.net.lines listing.net.ops
  pub restarts : RestartsLeast listing.net.lines listing.net.ops

abbrev pub fold_row : ReadsFirst
fold_row = one program fold_report IsFolded
