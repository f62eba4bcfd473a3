-- Powers of w where forms are 1, added up.
use Rattle.std.specs.Prelude.{◌≡◌, ℕ, ◌+◌, ◌%◌, Bool, List}
use Rattle.std.specs.List.{sum_by}
use Rattle.rv_forms.specs.Forms.{form_value}
use Rattle.rv_joined.specs.Blocks.{weight}
use Rattle.rv_joined.specs.declared.slots.Slot.{Slot}

abbrev pub slot_power : List Bool → Slot → ℕ
slot_power bits slot = weight slot.power (form_value bits slot.form)

abbrev pub total : List Bool → List Slot → ℕ
total bits slots = sum_by (slot_power bits) slots

-- the power that some bits give is added, modulo 8
abbrev pub AreMore : List Slot → (List Bool → ℕ) → List Slot → Type 0
AreMore old more new = (bits : List Bool) → total bits new % 8 ≡ (total bits old + more bits) % 8
