-- The sum of the forms with w^4, as far as slots have been looked at.
use Rattle.std.proofs.Common.{◌≡◌, ℕ, ◌%◌, Bool, List, take}
use Rattle.rv_forms.specs.Forms.{form_value}
use Rattle.rv_forms.specs.declared.form.Form.{Form}
use Rattle.rv_joined.specs.Blocks.{weight}
use Rattle.rv_joined.specs.declared.slots.Slot.{Slot}
use Rattle.rv_joined.specs.inside.Slots.{total}

pub record HalfSoFar (slots : List Slot) (count : ℕ) (half : Form) : Type 0 where
  pub value : (bits : List Bool) → total bits (take count slots) % 8 ≡ weight 4 (form_value bits half) % 8
