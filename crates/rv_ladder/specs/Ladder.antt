-- Networks of flips with many controls, by ladders of flips up to powers of w, which cancel: four T for two flips.
use Rattle.std.specs.Prelude.{ℕ, ◌+◌, ◌^◌, bit_or, if◌then◌else◌, nat_lt, slice_index, List, [], ◌∷◌, ◌++◌, length}
use Rattle.std.specs.Prelude.{reverse, take}
use Rattle.std.specs.List.{flat_map, range_with_len}
use Rattle.rv_gate.specs.declared.gate.Shape.{Shape}
use Rattle.rv_gate.specs.declared.gate.Shape.TheVariants.{Flip, Swap, Peres}
use Rattle.rv_mct.specs.declared.aux.Aux.{Aux}
use Rattle.rv_mct.specs.declared.aux.Aux.TheVariants.{Borrowed, Clean}
use Rattle.rv_mct.specs.Blocks.{below, controls_of, count, count_lines, flips_of, from, is_free, middle, rising}
use Rattle.rv_mct.specs.declared.control.Control.{Control}
use Rattle.rv_net.specs.Network.{flip_ops, on_zero, toffoli}
use Rattle.rv_net.specs.declared.op.Op.{Op}
use Rattle.rv_net.specs.declared.op.Op.TheVariants.{H, T, Tdg, Cx}

-- flips t under c, up to a power of w; backwards it is its own inverse
abbrev pub half : ℕ → ℕ → List Op
half c t = T t ∷ (Cx c t ∷ (Tdg t ∷ []))

-- where `inner` flips t under some condition, this flips t under that condition and c, up to a power of w
abbrev pub rung : ℕ → ℕ → List Op → List Op
rung c t inner = H t ∷ (half c t ++ (inner ++ (half c t ++ (H t ∷ []))))

-- Down to the flip under a and b, and up again; more and helpers from the last on. Each helper is flipped under the
-- controls that are not above it, up to a power of w, and so is t. It is its own inverse.
unfoldable pub down : ℕ → ℕ → List ℕ → List ℕ → ℕ → List Op
down a b [] helpers t = rung b t (Cx a t ∷ [])
down a b (c ∷ more) [] t = []
down a b (c ∷ more) (h ∷ helpers) t = rung c t (Cx h t ∷ (down a b more helpers h ++ (Cx h t ∷ [])))

-- a power of w, where c and t are 1, that depends on h; and its inverse
abbrev pub quarter : ℕ → ℕ → ℕ → List Op
quarter c h t = half c h ++ (Cx t h ∷ (half c h ++ (Cx t h ∷ [])))

abbrev pub quarter_back : ℕ → ℕ → ℕ → List Op
quarter_back c h t = Cx t h ∷ (half c h ++ (Cx t h ∷ half c h))

-- the flip of t under a, b and more, over as many helpers, which are given back
unfoldable pub borrowed_flip : ℕ → ℕ → List ℕ → List ℕ → ℕ → List Op
borrowed_flip a b [] helpers t = toffoli a b t
borrowed_flip a b (c ∷ more) [] t = []
borrowed_flip a b (c ∷ more) (h ∷ helpers) t =
    H t
    ∷ (quarter c h t
    ++ (down a b more helpers h ++ (quarter_back c h t ++ (down a b more helpers h ++ (H t ∷ [])))))

abbrev pub lines_of : List Control → List ℕ
lines_of [] = []
lines_of (c ∷ rest) = c.line ∷ lines_of rest

-- X on the controls that want 0
abbrev pub zeros : List Control → List Op
zeros [] = []
zeros (c ∷ rest) = on_zero c ++ zeros rest

-- a flip under two controls and more, with the first of the free lines as helpers
abbrev pub borrowed_over : List Control → List ℕ → ℕ → List Op
borrowed_over [] free t = []
borrowed_over (a ∷ []) free t = []
borrowed_over (a ∷ (b ∷ more)) free t =
    zeros (a ∷ (b ∷ more))
    ++ (borrowed_flip a.line b.line (lines_of (reverse more)) (reverse (take (length more) free)) t
    ++ zeros (a ∷ (b ∷ more)))

-- with the least free lines of so many
unfoldable pub borrowed_net : ℕ → ℕ → ℕ → ℕ → List Op
borrowed_net lines care want t = borrowed_over (controls_of care want) (rising (is_free care t) lines) t

-- by one helper, as in a decomposition: flip it under the first half, the target under it and the second half,
-- and both again
abbrev pub halves_net : ℕ → ℕ → ℕ → ℕ → ℕ → ℕ → List Op
halves_net lines care want t line helper =
    borrowed_net lines (below care line) (below want line) helper
    ++ borrowed_net lines (bit_or (from care line) (2 ^ helper)) (bit_or (from want line) (2 ^ helper)) t

unfoldable pub split_net : ℕ → ℕ → ℕ → ℕ → ℕ → List Op
split_net lines care want t helper =
    halves_net lines care want t (middle care) helper ++ halves_net lines care want t (middle care) helper

-- ---- over lines that hold 0

-- up from the flip under a and b of the first helper, up to a power of w, and down again
unfoldable pub clean_flip : ℕ → ℕ → List ℕ → List ℕ → ℕ → List Op
clean_flip a b [] helpers t = toffoli a b t
clean_flip a b (c ∷ more) [] t = []
clean_flip a b (c ∷ more) (z ∷ helpers) t =
    rung b z (Cx a z ∷ []) ++ (clean_flip z c more helpers t ++ rung b z (Cx a z ∷ []))

-- a flip under two controls and more, with the lines from `first` on as helpers
abbrev pub clean_over : List Control → ℕ → ℕ → List Op
clean_over [] first t = []
clean_over (a ∷ []) first t = []
clean_over (a ∷ (b ∷ more)) first t =
    zeros (a ∷ (b ∷ more))
    ++ (clean_flip a.line b.line (lines_of more) (range_with_len first (length more)) t ++ zeros (a ∷ (b ∷ more)))

-- ---- gates

abbrev pub long_net : Aux → ℕ → ℕ → ℕ → ℕ → ℕ → List Op
long_net Clean lines extra care want t = clean_over (controls_of care want) lines t
long_net Borrowed lines extra care want t =
    if nat_lt (count (is_free care t) (lines + extra) + 2) (count_lines care)
    then split_net (lines + extra) care want t (slice_index (rising (is_free care t) (lines + extra)) 0)
    else borrowed_net (lines + extra) care want t

-- what a flip becomes in a circuit of so many lines, to which so many are added
abbrev pub flip_net : Aux → ℕ → ℕ → Shape → List Op
flip_net aux lines extra (Flip care want t) =
    if nat_lt (count_lines care) 3 then flip_ops (controls_of care want) t else long_net aux lines extra care want t
flip_net aux lines extra (Swap care want a b) = []
flip_net aux lines extra (Peres a b c) = []

abbrev pub gate_net : Aux → ℕ → ℕ → Shape → List Op
gate_net aux lines extra g = flat_map (flip_net aux lines extra) (flips_of g)

-- the network of a circuit, of gates of all kinds
abbrev pub relative_network : Aux → ℕ → ℕ → List Shape → List Op
relative_network aux lines extra gates = flat_map (gate_net aux lines extra) gates
