-- `synth`: a circuit for a permutation.
use Rattle.std.specs.Prelude.{◌≡◌, ℕ, ◌*◌, ◌^◌, ◌≤◌, List, length, Ok}
use Rattle.rv_real.specs.Reading.{real_of}
use Rattle.rv_real.specs.Text.{text_of}
use Rattle.rv_perm.specs.Perm.{Computes}
use Rattle.rv_perm.specs.Marked.{Marked}
use Rattle.rv_tbs.specs.Synthesis.{synthesis_of}
use Rattle.rv_tbs.specs.declared.method.Method.{Method}
use Rattle.rv_tbs.specs.declared.method.Method.TheVariants.{Best}
use Rattle.rv_words.specs.declared.command.Synthesis.{Synthesis}
use Rattle.rv_words.specs.declared.command.Synthesis.TheVariants.{Rows, SingleTargets}
use Rattle.rv_inputs.specs.Formats.{permutation}
use Rattle.rv_cmd.specs.Limits.{LimitedText, unlimited}
use Rattle.rv_cmd.specs.Row.{ReadsFirst, one}

-- the method of transformations that is asked for; single targets never are
abbrev pub rows_method : Synthesis → Method
rows_method (Rows method) = method
rows_method SingleTargets = Best

-- the circuit that the method finds
abbrev pub synth_report : Method → Marked → LimitedText
synth_report method spec = unlimited (text_of (synthesis_of method spec))

-- Read back, the text is a circuit that computes the permutation on every word, with its marks, of at most n * 2^n
-- gates on n lines. By `best` it has no more gates than by any other method.
pub record IsSynthesis (method : Method) (spec : Marked) (text : List ℕ) : Type 0 where
  pub read_back : real_of text ≡ Ok (synthesis_of method spec)
  pub computes : Computes spec.table.lines (synthesis_of method spec).gates spec.table.images
  pub bound : length (synthesis_of method spec).gates ≤ spec.table.lines * 2 ^ spec.table.lines
  pub shortest : method ≡ Best → (other : Method)
      → length (synthesis_of method spec).gates ≤ length (synthesis_of other spec).gates

abbrev pub synth_row : Method → ReadsFirst
synth_row method = one permutation (synth_report method) (IsSynthesis method)
