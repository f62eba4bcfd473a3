-- What operations bring beside gates, followed by forms.
use Rattle.std.specs.Prelude.{◌≡◌, ℕ, ◌+◌, ◌*◌, ◌<◌, ◌≤◌, Bool, List, [], ◌∷◌, ◌++◌, length, slice_index_or, take}
use Rattle.rv_gate.specs.Gate.{run, same}
use Rattle.rv_gate.specs.Word.{bit_of}
use Rattle.rv_gate.specs.declared.gate.Shape.{Shape}
use Rattle.rv_gate.specs.declared.gate.Shape.TheVariants.{Flip}
use Rattle.rv_mct.specs.Blocks.{controls_of}
use Rattle.rv_mct.specs.declared.control.Control.{Control}
use Rattle.rv_net.specs.Amplitude.{count_h}
use Rattle.rv_net.specs.Cyclotomic.{Cyclotomic, doubled, times_w_power}
use Rattle.rv_net.specs.declared.op.Op.{Op}
use Rattle.rv_net.proofs.Frame.{through}
use Rattle.rv_ladder.proofs.inside.Circuits.{Held}
use Rattle.rv_ladder.proofs.inside.Fitting.{Fit}
use Rattle.rv_ladder.proofs.inside.Nets.{Runs}
use Rattle.rv_forms.specs.declared.form.Form.{Form}
use Rattle.rv_forms.specs.declared.term.Term.{Term}
use Rattle.rv_forms.specs.Forms.{form_value}
use Rattle.rv_forms.specs.inside.Held.{Leads, Meets, Tells}
use Rattle.rv_joined.specs.declared.follow.Toffoli.{Toffoli}
use Rattle.rv_joined.specs.declared.setup.Setup.{Setup}
use Rattle.rv_joined.specs.declared.slots.Slot.{Slot}
use Rattle.rv_joined.specs.declared.state.State.{State}
use Rattle.rv_joined.specs.inside.Slots.{total}

-- the columns before the terms: one for each line
abbrev pub columns : Setup → ℕ
columns setup = setup.lines + setup.extra

-- what the lines may hold
abbrev pub MayStand : Setup → List Bool → Type 0
MayStand setup x = Held setup.aux setup.lines setup.extra x

-- Operations move words as gates do, times a power of w, by which the slots grow. `held` and `slots` are what is told
-- before, `later` and `grown` after.
pub record Brings (setup : Setup) (terms : List Term) (held : List Form) (slots : List Slot) (ops : List Op)
    (gates : List Shape) (later : List Form) (grown : List Slot) : Type 0 where
  pub leads : Leads terms (columns setup) held gates later
  pub twos : ℕ
  pub each : (k : List Bool → Cyclotomic) (bits x : List Bool) → MayStand setup x → Meets terms (columns setup) bits
      → Tells bits held x
      → times_w_power (total bits slots) (through ops k x)
      ≡ doubled twos (times_w_power (total bits grown) (k (run gates x)))
  pub counted : count_h ops ≡ 2 * twos
  pub fitting : (x : List Bool) → MayStand setup x → Fit (length x) ops
  pub kept : (x : List Bool) → MayStand setup x → MayStand setup (run gates x)

pub record Grows (setup : Setup) (terms : List Term) (old : State) (gates : List Shape) (new : State) : Type 0 where
  pub added : List Op
  pub is : new.ops.items ≡ old.ops.items ++ added
  pub brings : Brings setup terms old.held.items old.slots.list.items added gates new.held.items new.slots.list.items

-- a form has the bit that tells whether a control has its wanted value
abbrev pub IsLiteral : List Form → Control → Form → Type 0
IsLiteral held control form =
    (bits x : List Bool) → Tells bits held x → form_value bits form ≡ same (bit_of x control.line) control.wanted

-- a form has the bit of a line
abbrev pub IsOnLine : List Form → ℕ → Form → Type 0
IsOnLine held line form = (bits x : List Bool) → Tells bits held x → form_value bits form ≡ bit_of x line

-- a form has the bit of a line at the beginning, where the first columns are the word
pub record StartsAs (setup : Setup) (line : ℕ) (form : Form) : Type 0 where
  pub value : (bits x : List Bool) → MayStand setup x → ((i : ℕ) → i < columns setup → bit_of bits i ≡ bit_of x i)
      → form_value bits form ≡ bit_of x line

-- what so many lines hold at the beginning
pub record AreStart (setup : Setup) (count : ℕ) (held : List Form) : Type 0 where
  pub lines : length held ≡ count
  pub each : (line : ℕ) (d : Form) → line < count → StartsAs setup line (slice_index_or held line d)

-- so many flips have been written since the state was `begin`
pub record FollowedSoFar (setup : Setup) (terms : List Term) (begin : State) (flips : List Shape) (next : ℕ)
    (state : State) : Type 0 where
  pub within : next ≤ length flips
  pub grows : Grows setup terms begin (take next flips) state

-- a flip under two controls, which are these
pub record IsToffoli (flip : Shape) (toffoli : Toffoli) : Type 0 where
  pub care : ℕ
  pub want : ℕ
  pub is : flip ≡ Flip care want toffoli.target
  pub controls : controls_of care want ≡ toffoli.a ∷ toffoli.c ∷ []

-- operations move words as gates do, with no power of w
abbrev pub RunsAs : Setup → List Op → List Shape → Type 0
RunsAs setup ops gates = Runs (MayStand setup) ops (run gates)
