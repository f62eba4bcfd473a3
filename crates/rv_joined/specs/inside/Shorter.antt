-- Fewer flips that do the same.
use Rattle.std.specs.Prelude.{◌≡◌, ℕ, ◌<◌, ◌≤◌, Bool, List, length, slice_index_or}
use Rattle.rv_gate.specs.Every.{Every}
use Rattle.rv_gate.specs.Gate.{IsFlipOn, run}
use Rattle.rv_gate.specs.Greatest.{greatest}
use Rattle.rv_gate.specs.Word.{bit_of}
use Rattle.rv_gate.specs.declared.gate.Shape.{Shape}
use Rattle.rv_mct.specs.Blocks.{flip_wish}
use Rattle.rv_forms.specs.declared.form.Form.{Form}
use Rattle.rv_forms.specs.declared.term.Term.{Term}
use Rattle.rv_forms.specs.inside.Held.{AreSame, Meets, Tells}
use Rattle.rv_joined.specs.declared.setup.Setup.{Setup}
use Rattle.rv_joined.specs.inside.Brings.{MayStand, columns}

-- flips on the lines of a circuit, with helper lines enough
pub record AreFlips (setup : Setup) (flips : List Shape) : Type 0 where
  pub own : Every (IsFlipOn setup.lines) flips
  pub enough : greatest (flip_wish setup.aux setup.lines) flips ≤ setup.extra

-- what the lines hold after gates, whatever they may hold before
pub record EndsAs (setup : Setup) (terms : List Term) (gates : List Shape) (held : List Form) : Type 0 where
  pub count : length held ≡ columns setup
  pub each : (bits x : List Bool) → MayStand setup x → Meets terms (columns setup) bits
      → ((i : ℕ) → i < columns setup → bit_of bits i ≡ bit_of x i) → Tells bits held (run gates x)

-- each line holds the same
pub record HoldSame (a b : List Form) : Type 0 where
  pub count : length a ≡ length b
  pub each : (line : ℕ) (d : Form) → line < length a → AreSame (slice_index_or a line d) (slice_index_or b line d)

-- flips do the same as others, at each word that may stand
pub record IsShorter (setup : Setup) (flips left : List Shape) : Type 0 where
  pub valid : AreFlips setup left
  pub same : (x : List Bool) → MayStand setup x → run left x ≡ run flips x
