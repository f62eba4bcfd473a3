-- Affine parities: what the bit of each line is, in the values that lines had when they were last restarted.
use Rattle.std.specs.Prelude.{ℕ, zero, suc, ◌^◌, ◌<◌, Bool, false, not, ◌&&◌, ◌==◌, if◌then◌else◌, bit_and, bit_or, bit_xor, IsTrue, IsFalse}
use Rattle.rv_gate.specs.Gate.{xor, same}
use Rattle.rv_gate.specs.Word.{has}
use Rattle.rv_net.specs.declared.op.Op.{Op}
use Rattle.rv_net.specs.declared.op.Op.TheVariants.{X, Y, Z, H, S, Sdg, T, Tdg, Cx, Cz, Ccx, Swap, Cswap}
pub use Rattle.rv_fold.specs.declared.parities.Parity.{Parity}

abbrev pub same_parity : Parity → Parity → Bool
same_parity f g = (f.lines == g.lines) && same f.flipped g.flipped

-- the parity on each line
abbrev pub Parities : Type 0
Parities = ℕ → Parity

-- the line by itself
abbrev pub alone : Parities
alone line = record { lines = 2 ^ line; flipped = false }

abbrev pub complemented : Parity → Parity
complemented f = record { lines = f.lines; flipped = not f.flipped }

-- the exclusive or of both sets and of both bits
abbrev pub combined : Parity → Parity → Parity
combined f g = record { lines = bit_xor f.lines g.lines; flipped = xor f.flipped g.flipped }

abbrev pub with_parity : Parities → ℕ → Parity → Parities
with_parity parities changed parity line = if line == changed then parity else parities line

-- two sets have no line in common
abbrev pub are_apart : ℕ → ℕ → Bool
are_apart a b = bit_and a b == 0

-- ---- restarts

-- the lines whose bit the operation makes a new value
abbrev pub direct : Op → ℕ
direct (H q) = 2 ^ q
direct (Ccx a b c) = 2 ^ c
direct (Cswap c a b) = bit_or (2 ^ a) (2 ^ b)
direct (X q) = 0
direct (Y q) = 0
direct (Z q) = 0
direct (S q) = 0
direct (Sdg q) = 0
direct (T q) = 0
direct (Tdg q) = 0
direct (Cx a b) = 0
direct (Cz a b) = 0
direct (Swap a b) = 0

-- the set, and each line below n whose parity has a line of it
unfoldable pub closure_step : Parities → ℕ → ℕ → ℕ
closure_step parities set zero = set
closure_step parities set (suc line) =
    if are_apart (parities line).lines set then closure_step parities set line
    else bit_or (closure_step parities set line) (2 ^ line)

unfoldable pub closure_steps : ℕ → Parities → ℕ → ℕ → ℕ
unfolding closure_step
closure_steps n parities set zero = set
closure_steps n parities set (suc times) = closure_step parities (closure_steps n parities set times) n

-- what a set of lines restarts: itself, and every line whose parity has a line that is restarted; n steps reach all
abbrev pub restart_set : ℕ → Parities → ℕ → ℕ
restart_set n parities set = closure_steps n parities set n

-- a set that holds the first one, and every line below n whose parity has a line of it
pub record IsClosed (n : ℕ) (parities : Parities) (first set : ℕ) : Type 0 where
  pub holds : (line : ℕ) → IsTrue (has first line) → IsTrue (has set line)
  pub closed : (line : ℕ) → line < n → IsFalse (are_apart (parities line).lines set) → IsTrue (has set line)

-- the least such set
pub record IsLeastClosed (n : ℕ) (parities : Parities) (first set : ℕ) : Type 0 where
  pub itself : IsClosed n parities first set
  pub least : (other : ℕ) → IsClosed n parities first other → (line : ℕ) → IsTrue (has set line)
      → IsTrue (has other line)

-- each line of the set has a value of its own
abbrev pub restarted : ℕ → Parities → Parities
restarted set parities line = if has set line then alone line else parities line

-- ---- the parities after an operation on n lines
abbrev pub parities_after : ℕ → Op → Parities → Parities
parities_after n (X q) parities = with_parity parities q (complemented (parities q))
parities_after n (Y q) parities = with_parity parities q (complemented (parities q))
parities_after n (Cx a b) parities = with_parity parities b (combined (parities a) (parities b))
parities_after n (Swap a b) parities = with_parity (with_parity parities a (parities b)) b (parities a)
parities_after n (H q) parities = restarted (restart_set n parities (direct (H q))) parities
parities_after n (Ccx a b c) parities = restarted (restart_set n parities (direct (Ccx a b c))) parities
parities_after n (Cswap c a b) parities = restarted (restart_set n parities (direct (Cswap c a b))) parities
parities_after n (Z q) parities = parities
parities_after n (S q) parities = parities
parities_after n (Sdg q) parities = parities
parities_after n (T q) parities = parities
parities_after n (Tdg q) parities = parities
parities_after n (Cz a b) parities = parities
