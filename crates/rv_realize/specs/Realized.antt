-- Circuits for tables and for permutations on few lines.
use Rattle.std.specs.Prelude.{◌≡◌, ℕ, ◌+◌, ◌<◌, ◌≤◌, List, [], ◌∷◌, All, length}
use Rattle.rv_cube.specs.Esop.{Esop}
use Rattle.rv_cube.specs.First.{first_of}
use Rattle.rv_cube.specs.ReductionFor.{reduced_for}
use Rattle.rv_embed.specs.Embedding.{least_lines}
use Rattle.rv_embed.specs.Least.{NoCircuitHasFewer}
use Rattle.rv_embed.specs.Realizes.{Realizes}
use Rattle.rv_esop.specs.Cascade.{flip_count}
use Rattle.rv_gate.specs.Circuit.{Cascade}
use Rattle.rv_gate.specs.Gate.{run}
use Rattle.rv_gate.specs.declared.circuit.TheConstants.{MOST_GATES}
use Rattle.rv_perm.specs.Lines.{circuit_on}
use Rattle.rv_perm.specs.Marked.{Marked}
use Rattle.rv_perm.specs.Perm.{Computes}
use Rattle.rv_perm.specs.declared.perm.TheConstants.{MOST_PERM_LINES}
use Rattle.rv_pla.specs.FreeEntries.{HasNoFree}
use Rattle.rv_pla.specs.Pla.{TwoLevel}
use Rattle.rv_realize.specs.declared.points.Point.{Point}

-- ---- tables

-- the circuit, with its constants put in and its garbage left out, gives what the table asks, on few lines
pub record IsRealized (pla : TwoLevel) (most : ℕ) (c : Cascade) : Type 0 where
  pub realizes : Realizes pla (run c.gates) c.constants c.garbage
  pub lines : length c.names ≤ most

-- a table is embedded in a permutation
abbrev pub IsEmbeddable : TwoLevel → Type 0
IsEmbeddable pla = least_lines pla ≤ MOST_PERM_LINES

-- So many lines are told where none was found on as few as there may be: those of the embedding, where there is one;
-- where no entry is free, no circuit has fewer. Else one for each input and output.
pub record IsTooFew (pla : TwoLevel) (most n : ℕ) : Type 0 where
  pub over : most < n
  pub embedded : IsEmbeddable pla → n ≡ least_lines pla
  pub least : IsEmbeddable pla → HasNoFree pla → NoCircuitHasFewer pla n
  pub beside : ¬ IsEmbeddable pla → n ≡ pla.inputs + pla.outputs

-- the first exclusive sum of a table, reduced for it until no step is left
abbrev pub reduced_list : TwoLevel → Esop
reduced_list pla = record (first_of pla) { cubes = reduced_for pla (first_of pla).cubes }

-- There is no embedding, and where one line for each input and output is not too many, the cascade of the reduced
-- exclusive sum has more gates than a circuit may have.
pub record IsTooLong (pla : TwoLevel) (most : ℕ) : Type 0 where
  pub alone : ¬ IsEmbeddable pla
  pub beside : pla.inputs + pla.outputs ≤ most
  pub over : MOST_GATES < flip_count (reduced_list pla)

-- ---- circuits on more and more lines

-- the circuit realizes the table on no more lines than were asked for, and these are at most so many
pub record IsPoint (pla : TwoLevel) (most : ℕ) (p : Point) : Type 0 where
  pub realized : IsRealized pla p.lines p.circuit
  pub few : p.lines ≤ most

-- the circuit has fewer than n lines
pub record HasFewer (n : ℕ) (p : Point) : Type 0 where
  pub fewer : length p.circuit.names < n

-- the circuit has more than n lines
pub record HasMore (n : ℕ) (p : Point) : Type 0 where
  pub more : n < length p.circuit.names

-- each circuit has more lines than those before it
abbrev pub AreOnMore : List Point → Type 0
AreOnMore [] = Unit {0}
AreOnMore (p ∷ rest) = All (HasMore (length p.circuit.names)) rest × AreOnMore rest

-- ---- permutations

-- the circuit has the lines and marks of the permutation, and computes it as it stands
pub record IsInPlace (m : Marked) (c : Cascade) : Type 0 where
  pub on : c ≡ circuit_on m c.gates
  pub computes : Computes m.table.lines c.gates m.table.images
