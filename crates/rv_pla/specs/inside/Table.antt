-- Tables of entries: for each word, by its number, sets of outputs.
use Rattle.std.specs.Prelude.{ℕ, ◌≡◌, ◌%◌, ◌^◌, ◌<◌, Bool, true, false, ◌==◌, if◌then◌else◌, List, length, slice_index, count_by, is_some, bit_and, bit_or, bit_xor}
use Rattle.rv_gate.specs.Word.{has, word_of}
use Rattle.rv_pla.specs.declared.entry.Entry.{Entry}
use Rattle.rv_pla.specs.declared.entry.Entry.TheVariants.{One, Zero, Free}
use Rattle.rv_pla.specs.declared.kind.Kind.{Kind}
use Rattle.rv_pla.specs.declared.kind.Kind.TheVariants.{F, Fd, Fr, Fdr, Esop}
use Rattle.rv_pla.specs.Pla.{TwoLevel, first_line, is_esop, no_outputs, output_sets, covers, uncovered, Term}

-- what a set gains by another one
abbrev pub joined_sets : Bool → ℕ → ℕ → ℕ
joined_sets odd a b = if odd then bit_xor a b else bit_or a b

-- a number has the bits of `want` at those of `care`
abbrev pub agrees_by : ℕ → ℕ → ℕ → Bool
agrees_by x care want = bit_and (bit_xor x want) care == 0

-- what a type needs beside ON to tell its entries
abbrev pub beside : Kind → Term → ℕ
beside F term = no_outputs
beside Fd term = term.dash_outs
beside Fr term = term.zero_outs
beside Fdr term = term.zero_outs
beside Esop term = no_outputs

-- the set of a term that goes into the first table, or the second
abbrev pub part : Kind → Bool → Term → ℕ
part kind second term = if second then beside kind term else term.cube.outs

-- some terms cover the word, or an odd number of them
abbrev pub gathers : Bool → (Term → ℕ) → List Bool → ℕ → List Term → Bool
gathers odd set word output terms =
    if odd then count_by (covers set word output) terms % 2 == 1 else is_some (first_line set word output terms)

-- a table of the words of n bits holds what the terms give
pub record IsGathered (odd : Bool) (set : Term → ℕ) (n : ℕ) (terms : List Term) (table : List ℕ) : Type 0 where
  pub size : length table ≡ 2 ^ n
  pub is : (x output : ℕ) → x < 2 ^ n → has (slice_index table x) output ≡ gathers odd set (word_of n x) output terms

-- the tables of a PLA
pub record IsTabled (pla : TwoLevel) (ones others : List ℕ) : Type 0 where
  pub first : IsGathered (is_esop pla.kind) (part pla.kind false) pla.inputs pla.terms ones
  pub second : IsGathered (is_esop pla.kind) (part pla.kind true) pla.inputs pla.terms others

-- whether a type has OFF-sets
abbrev pub has_off_set : Kind → Bool
has_off_set F = false
has_off_set Fd = false
has_off_set Fr = true
has_off_set Fdr = true
has_off_set Esop = false

-- what the second set says
abbrev pub entry_beside : Kind → Entry
entry_beside F = Zero
entry_beside Fd = Free
entry_beside Fr = Zero
entry_beside Fdr = Zero
entry_beside Esop = Zero

-- the entry of an output, by whether the first set has it, and the second
abbrev pub entry_told : Kind → Bool → Bool → Entry
entry_told kind first second = if first then One else (if second then entry_beside kind else uncovered kind)

-- the outputs of which a term says OFF or ON
abbrev pub off_or_on : Bool → Kind → Term → ℕ
off_or_on off kind term = if off then (output_sets kind term).off else (output_sets kind term).on
