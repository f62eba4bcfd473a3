-- `single`: a circuit for a permutation, of single-target gates.
use Rattle.std.specs.Prelude.{◌≡◌, ℕ, List, Ok}
use Rattle.rv_real.specs.Reading.{real_of}
use Rattle.rv_real.specs.Text.{text_of}
use Rattle.rv_perm.specs.Marked.{Marked}
use Rattle.rv_dbs.specs.Meaning.{IsSingles}
use Rattle.rv_dbs.specs.Singles.{single_synthesis_of}
use Rattle.rv_inputs.specs.Formats.{permutation}
use Rattle.rv_cmd.specs.Limits.{LimitedText, unlimited}
use Rattle.rv_cmd.specs.Row.{ReadsFirst, one}

abbrev pub single_report : Marked → LimitedText
single_report spec = unlimited (text_of (single_synthesis_of spec))

-- Read back, the text is a circuit that computes the permutation on every word, with its marks: the gates of the
-- written steps, in at most 2n - 1 runs of flips with one target, at most (2n - 1) * 2^(n - 1) of them on n lines.
pub record IsSingleSynthesis (spec : Marked) (text : List ℕ) : Type 0 where
  pub read_back : real_of text ≡ Ok (single_synthesis_of spec)
  pub singles : IsSingles spec.table.lines spec.table.images (single_synthesis_of spec).gates

abbrev pub single_row : ReadsFirst
single_row = one permutation single_report IsSingleSynthesis
