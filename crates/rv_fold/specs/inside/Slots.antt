-- Where classes begin, by parities: at a slot each, or in a map if another parity has the slot.
use Rattle.std.specs.Prelude.{◌≡◌, ℕ, ◌+◌, ◌*◌, ◌%◌, Bool, length, if◌then◌else◌, slice_index_or, Option, None, Some}
use Rattle.std.specs.BTreeMap.{get}
use Rattle.std.specs.Ordering.{nat_cmp, bool_cmp, ordering_then}
use Rattle.std.specs.declared.cmp.Ordering.{Ordering}
use Rattle.rv_fold.specs.Parities.{Parity, same_parity}
use Rattle.rv_fold.specs.declared.firsts.Begun.{Begun}
use Rattle.rv_fold.specs.declared.firsts.Firsts.{Firsts}

abbrev pub slot_of : ℕ → Parity → ℕ
slot_of count parity = (parity.lines % count * 2 + (if parity.flipped then 1 else 0)) % count

-- what a slot says of the parity, and the other place if it says nothing
abbrev pub at_slot : Option Begun → Parity → Option ℕ → Option ℕ
at_slot None parity other = other
at_slot (Some begun) parity other = if same_parity begun.parity parity then Some begun.place else other

abbrev pub key_cmp : ℕ × Bool → ℕ × Bool → Ordering
key_cmp x y = ordering_then (nat_cmp x.0 y.0) (bool_cmp x.1 y.1)

abbrev pub found : Firsts → Parity → Option ℕ
found firsts parity =
    at_slot (slice_index_or firsts.slots.items (slot_of (length firsts.slots.items) parity) None) parity
    (get key_cmp firsts.others (parity.lines, parity.flipped))

abbrev pub HasNone : Firsts → Type 0
HasNone firsts = (key : Parity) → found firsts key ≡ None

-- the second has what the first has, and the place for the parity
abbrev pub Notes : Firsts → Firsts → Parity → ℕ → Type 0
Notes before firsts parity place =
    (key : Parity) → found firsts key ≡ (if same_parity parity key then Some place else found before key)
