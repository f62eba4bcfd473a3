-- PLAs: their terms, what these say, and the entries that follow.
use Rattle.std.specs.Prelude.{ℕ, ◌%◌, ◌^◌, ◌≤◌, Bool, true, false, ◌&&◌, ◌==◌, if◌then◌else◌, List, length, All, count_by, is_some, Option, Some, None}
use Rattle.std.specs.List.{find}
use Rattle.std.specs.Option.{option_map}
use Rattle.rv_reader.specs.FirstFault.{first_below}
use Rattle.rv_gate.specs.Word.{has, word_of}
use Rattle.rv_pla.specs.declared.cube.TheConstants.{MOST_INPUTS, MOST_OUTPUTS}
use Rattle.rv_pla.specs.Cube.{matches, IsCube}
use Rattle.rv_pla.specs.declared.cube.Cube.{Cube}
use Rattle.rv_pla.specs.declared.entry.Entry.{Entry}
use Rattle.rv_pla.specs.declared.entry.Entry.TheVariants.{One, Zero, Free}
use Rattle.rv_pla.specs.declared.kind.Kind.{Kind}
use Rattle.rv_pla.specs.declared.kind.Kind.TheVariants.{F, Fd, Fr, Fdr, Esop}
use Rattle.rv_pla.specs.declared.fault.PlaFault.{PlaFault}
use Rattle.rv_pla.specs.declared.fault.PlaFault.TheVariants.{Conflict}
use Rattle.rv_pla.specs.declared.pla.TheConstants.{MOST_TERMS}

-- A term: the line of the text on which it stands, its cube with the outputs at which it has a `1`, and the sets of the
-- outputs at which it has a `0`, and a `-`.
pub record Term : Type 0 where
  pub line : ℕ
  pub cube : Cube
  pub zero_outs : ℕ
  pub dash_outs : ℕ

-- a two-level form of so many inputs and outputs: its terms in order
pub record TwoLevel : Type 0 where
  pub inputs : ℕ
  pub outputs : ℕ
  pub kind : Kind
  pub terms : List Term

-- what every PLA keeps
pub record IsTwoLevel (pla : TwoLevel) : Type 0 where
  pub some_inputs : 1 ≤ pla.inputs
  pub few_inputs : pla.inputs ≤ MOST_INPUTS
  pub some_outputs : 1 ≤ pla.outputs
  pub few_outputs : pla.outputs ≤ MOST_OUTPUTS
  pub few_terms : length pla.terms ≤ MOST_TERMS
  pub cubes : All (λ term. IsCube pla.inputs pla.outputs term.cube) pla.terms

-- ---- what a term says: ON, OFF or don't care

-- the outputs whose ON-set, OFF-set and don't-care set a term is part of
pub record OutputSets : Type 0 where
  pub on : ℕ
  pub off : ℕ
  pub dc : ℕ

abbrev pub no_outputs : ℕ
no_outputs = 0

-- by the type, from the places of a `1`, a `0` and a `-`
abbrev pub output_sets : Kind → Term → OutputSets
output_sets F term = record { on = term.cube.outs; off = no_outputs; dc = no_outputs }
output_sets Fd term = record { on = term.cube.outs; off = no_outputs; dc = term.dash_outs }
output_sets Fr term = record { on = term.cube.outs; off = term.zero_outs; dc = no_outputs }
output_sets Fdr term = record { on = term.cube.outs; off = term.zero_outs; dc = term.dash_outs }
output_sets Esop term = record { on = term.cube.outs; off = no_outputs; dc = no_outputs }

-- the entry where no term covers a word
abbrev pub uncovered : Kind → Entry
uncovered F = Zero
uncovered Fd = Zero
uncovered Fr = Free
uncovered Fdr = Free
uncovered Esop = Zero

-- a term covers a word in such a set of an output: its cube matches the word, and it has the output there
abbrev pub covers : (Term → ℕ) → List Bool → ℕ → Term → Bool
covers set word output term = matches term.cube word && has (set term) output

-- the line of the first term that does
unfoldable pub first_line : (Term → ℕ) → List Bool → ℕ → List Term → Option ℕ
first_line set word output terms = option_map (λ term. term.line) (find (covers set word output) terms)

abbrev pub line_on : TwoLevel → List Bool → ℕ → Option ℕ
line_on pla word output = first_line (λ term. (output_sets pla.kind term).on) word output pla.terms

abbrev pub line_off : TwoLevel → List Bool → ℕ → Option ℕ
line_off pla word output = first_line (λ term. (output_sets pla.kind term).off) word output pla.terms

abbrev pub line_dc : TwoLevel → List Bool → ℕ → Option ℕ
line_dc pla word output = first_line (λ term. (output_sets pla.kind term).dc) word output pla.terms

-- ---- entries

abbrev pub is_esop : Kind → Bool
is_esop F = false
is_esop Fd = false
is_esop Fr = false
is_esop Fdr = false
is_esop Esop = true

-- ON comes before OFF, and OFF before don't care
abbrev pub covered_entry : TwoLevel → List Bool → ℕ → Entry
covered_entry pla word output =
    if is_some (line_on pla word output) then One
    else (if is_some (line_off pla word output) then Zero
    else (if is_some (line_dc pla word output) then Free
    else uncovered pla.kind))

-- ON where an odd number of terms cover the word
abbrev pub odd_entry : TwoLevel → List Bool → ℕ → Entry
odd_entry pla word output =
    if count_by (covers (λ term. (output_sets pla.kind term).on) word output) pla.terms % 2 == 1 then One else Zero

-- the entry of an output at a word
unfoldable pub entry : TwoLevel → List Bool → ℕ → Entry
entry pla word output = if is_esop pla.kind then odd_entry pla word output else covered_entry pla word output

-- ---- conflicts

abbrev pub conflict_by : Option ℕ → Option ℕ → ℕ → ℕ → ℕ → Option PlaFault
conflict_by None off inputs word output = None
conflict_by (Some on) None inputs word output = None
conflict_by (Some on) (Some off) inputs word output = Some (Conflict on off inputs word output)

-- an output is ON and OFF at the word with a number
abbrev pub conflict_at : TwoLevel → ℕ → ℕ → Option PlaFault
conflict_at pla x output =
    conflict_by (line_on pla (word_of pla.inputs x) output)
    (line_off pla (word_of pla.inputs x) output) pla.inputs x output

-- at the least word, and there at the least output
unfoldable pub conflict_of : TwoLevel → Option PlaFault
conflict_of pla = first_below (λ x. first_below (conflict_at pla x) pla.outputs) (2 ^ pla.inputs)
