-- What the chains of the walk hold.
use Rattle.std.specs.Prelude.{◌≡◌, ℕ, ◌+◌, ◌*◌, ◌^◌, ◌≤◌, ◌==◌, Bool, length}
use Rattle.rv_gate.specs.Word.{has}
use Rattle.rv_gate.specs.declared.word.TheConstants.{MOST_LINES}
use Rattle.rv_net.specs.Op.{OpFitsIn}
use Rattle.rv_net.specs.declared.op.Op.{Op}
use Rattle.rv_pairs.specs.Commuting.{reads, writes}
use Rattle.rv_pairs.specs.inside.Cells.{StandsAt}
use Rattle.rv_pairs.specs.inside.Chained.{AreChains}
use Rattle.rv_pairs.specs.inside.Codes.{code}
use Rattle.rv_pairs.specs.declared.walk.Walk.{Walk}

abbrev pub reads_line : ℕ → Op → Bool
reads_line line o = has (reads o) line

abbrev pub writes_line : ℕ → Op → Bool
writes_line line o = has (writes o) line

abbrev pub has_code : ℕ → Op → Bool
has_code number o = code o == number

pub record Stands (lines : ℕ) (walk : Walk) : Type 0 where
  pub few : lines ≤ MOST_LINES
  pub read : AreChains reads_line walk.cells.items (length walk.cells.items) walk.reads
  pub written : AreChains writes_line walk.cells.items (length walk.cells.items) walk.writes
  pub alike : AreChains has_code walk.cells.items (length walk.cells.items) walk.alike
  pub read_count : length walk.reads.heads.items ≡ MOST_LINES
  pub written_count : length walk.writes.heads.items ≡ MOST_LINES
  pub alike_count : length walk.alike.heads.items ≡ (12 + 2 * lines) * 2 ^ 12
  pub fitting : (place : ℕ) (o : Op) → StandsAt walk.cells.items place o → OpFitsIn o lines
