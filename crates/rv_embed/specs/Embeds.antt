-- What the embedding is to its PLA.
use Rattle.std.specs.Prelude.{◌≤◌}
use Rattle.rv_perm.specs.Marked.{Marked}
use Rattle.rv_pla.specs.FreeEntries.{HasNoFree}
use Rattle.rv_pla.specs.Pla.{TwoLevel}
use Rattle.rv_pla.specs.Zeros.{zeros}
use Rattle.rv_embed.specs.Classes.{largest_class}
use Rattle.rv_embed.specs.Filled.{filled}
use Rattle.rv_embed.specs.Least.{IsEmbedding, NoCircuitHasFewer, NoneHasFewer}

-- A permutation with marks that gives what the PLA asks. Where no entry is free, no permutation and no circuit does so
-- on fewer lines. The largest class of input words with one output word is no larger than with 0 at each free entry.
pub record Embeds (pla : TwoLevel) (spec : Marked) : Type 0 where
  pub embeds : IsEmbedding pla spec
  pub least : HasNoFree pla → NoneHasFewer pla spec.table.lines
  pub no_circuit : HasNoFree pla → NoCircuitHasFewer pla spec.table.lines
  pub classes : largest_class (filled pla) ≤ largest_class (zeros pla)
