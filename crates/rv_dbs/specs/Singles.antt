-- Synthesis by single-target gates, in the manner of De Vos and Van Rentergem (2008).
use Rattle.std.specs.Prelude.{ℕ, zero, suc, ◌≡◌, ◌-◌, ◌^◌, ◌<◌, Bool, List, ◌++◌, map, if◌then◌else◌, slice_index}
use Rattle.std.specs.List.{range_with_len}
use Rattle.rv_gate.specs.Word.{has}
use Rattle.rv_gate.specs.Gate.{xor}
use Rattle.rv_gate.specs.Circuit.{Cascade}
use Rattle.rv_gate.specs.declared.gate.Shape.{Shape}
use Rattle.rv_perm.specs.Marked.{Marked}
use Rattle.rv_perm.specs.Lines.{circuit_on}
use Rattle.rv_pla.specs.declared.cube.Cube.{Cube}
use Rattle.rv_cube.specs.Flip.{flip_of}
use Rattle.rv_cube.specs.ReedMuller.{reed_muller}
use Rattle.rv_cube.specs.Reduction.{reduced}
use Rattle.rv_dbs.specs.Walk.{other, left, right}

-- what is at each word of n bits, by its number
abbrev pub table_by : {A : Type 0} → ℕ → (ℕ → A) → List A
table_by n f = map f (range_with_len 0 (2 ^ n))

-- the table of a function, as the values of one output
abbrev pub values_of : ℕ → (ℕ → Bool) → List ℕ
values_of n f = table_by n (λ x. if f x then 1 else 0)

-- a flip of the target for each cube, in their order
abbrev pub flips_of : ℕ → List Cube → List Shape
flips_of target cubes = map (λ cube. flip_of cube target) cubes

-- the single-target gate of bit k, line n - 1 - k, with this control function: the flips of its reduced Reed-Muller
-- list
unfoldable pub single : ℕ → ℕ → (ℕ → Bool) → List Shape
single n k f = flips_of (n - 1 - k) (reduced n (reed_muller n (values_of n f)))

-- what that gate makes of a word
abbrev pub turned : ℕ → (ℕ → Bool) → ℕ → ℕ
turned k f x = if f x then other k x else x

-- the permutation that is left between a left gate and a right gate of bit k with these control functions
abbrev pub between_by : ℕ → ℕ → (ℕ → Bool) → (ℕ → Bool) → List ℕ → List ℕ
between_by n k l r images = table_by n (λ x. turned k r (slice_index images (turned k l x)))

unfoldable pub between : ℕ → ℕ → List ℕ → List ℕ
between n k images = between_by n k (left n k images) (right n k images) images

-- the permutation keeps all bits above k, the lines before that of bit k
abbrev pub KeepsAbove : ℕ → ℕ → List ℕ → Type 0
KeepsAbove n k images = (i x : ℕ) → k < i → i < n → x < 2 ^ n → has (slice_index images x) i ≡ has x i

-- the permutation changes the last line of a word
abbrev pub is_changed : List ℕ → ℕ → Bool
is_changed images x = xor (has (slice_index images x) 0) (has x 0)

-- the gates for the lines of the bits k, k - 1, .. 0: the left gate, those for the later lines, the right gate
unfoldable pub singles_from : ℕ → ℕ → List ℕ → List Shape
singles_from n zero images = single n 0 (is_changed images)
singles_from n (suc k) images =
    single n (suc k) (left n (suc k) images) ++ singles_from n k (between n (suc k) images)
    ++ single n (suc k) (right n (suc k) images)

abbrev pub singles : ℕ → List ℕ → List Shape
singles n images = singles_from n (n - 1) images

-- the circuit, on lines named x0, x1, and so on, with the permutation's marks
abbrev pub single_synthesis_of : Marked → Cascade
single_synthesis_of m = circuit_on m (singles m.table.lines m.table.images)
