-- Gates that add a sum of products to a line.
use Rattle.std.specs.Prelude.{ℕ, ◌≡◌, ◌<◌, ◌≤◌, Bool, false, ◌&&◌, List, [], ◌∷◌, ◌++◌, length, slice_set, Option, IsFalse, All}
use Rattle.rv_gate.specs.Word.{bit_of, has}
use Rattle.rv_gate.specs.Gate.{holds, run, same, xor, Within, WantsControls, IsGate, FitsIn}
use Rattle.rv_gate.specs.declared.gate.Shape.{Shape}
use Rattle.rv_blif.specs.declared.product.Product.{Product}
use Rattle.rv_compute.specs.declared.controls.Controls.{Controls}
use Rattle.rv_compute.specs.declared.controls.Controls.TheVariants.{Held, Never, Missing}
use Rattle.rv_compute.specs.declared.place.Place.{Place}
use Rattle.rv_compute.specs.inside.Sums.{sum_of}
use Rattle.rv_compute.specs.inside.Places.{place_value, AreRead}

-- the controls hold of a word of so many lines where a product holds of the bits that are read there; they can't where
-- it never does
abbrev pub AreControls : ℕ → List (Option Place) → Product → Controls → Type 0
AreControls lines places product (Held care want) =
    (word bits : List Bool) → length word ≡ lines → length bits ≡ length places → AreRead places word bits
    → holds care want word ≡ holds product.care product.want bits
AreControls lines places product Never =
    (word bits : List Bool) → length word ≡ lines → length bits ≡ length places → AreRead places word bits
    → holds product.care product.want bits ≡ false
AreControls lines places product Missing = Unit {0}

-- a line is asked for beside others, and is to have this bit
abbrev pub IsWithLine : ℕ → ℕ → ℕ → Bool → Controls → Type 0
IsWithLine care want line bit (Held new_care new_want) =
    (word : List Bool) → line < length word
    → holds new_care new_want word ≡ (same (bit_of word line) bit && holds care want word)
IsWithLine care want line bit Never =
    (word : List Bool) → line < length word → (same (bit_of word line) bit && holds care want word) ≡ false
IsWithLine care want line bit Missing = Unit {0}

-- what is read at a place is asked for, and is to be this bit
abbrev pub IsWithPlace : ℕ → ℕ → ℕ → Place → Bool → Controls → Type 0
IsWithPlace lines care want place bit (Held new_care new_want) =
    (word : List Bool) → length word ≡ lines
    → holds new_care new_want word ≡ (same (place_value word place) bit && holds care want word)
IsWithPlace lines care want place bit Never =
    (word : List Bool) → length word ≡ lines → (same (place_value word place) bit && holds care want word) ≡ false
IsWithPlace lines care want place bit Missing = Unit {0}

-- controls that serve for a flip of a line of so many
pub record Serve (lines target care want : ℕ) : Type 0 where
  pub within : Within care lines
  pub beside : IsFalse (has care target)
  pub wanted : WantsControls care want

-- controls that are told serve, and some are told
abbrev pub DoServe : ℕ → ℕ → Controls → Type 0
DoServe lines target (Held care want) = Serve lines target care want
DoServe lines target Never = Unit {0}
DoServe lines target Missing = ⊥

-- these are gates on so many lines
abbrev pub AreGates : ℕ → List Shape → Type 0
AreGates lines gates = All (λ gate. IsGate gate × FitsIn gate lines) gates

-- at most so many gates, on so many lines
pub record AreFew (lines count : ℕ) (gates : List Shape) : Type 0 where
  pub few : length gates ≤ count
  pub fit : AreGates lines gates

-- the gates add the products to a line of so many, and keep the others
pub record Adds (lines : ℕ) (places : List (Option Place)) (target : ℕ) (products : List Product) (gates : List Shape)
    : Type 0 where
  pub adds : (word bits : List Bool) → length word ≡ lines → length bits ≡ length places → AreRead places word bits
      → run gates word ≡ slice_set word target (xor (bit_of word target) (sum_of products bits))

-- a product more is added, by gates that come after
pub record AddsMore (lines : ℕ) (places : List (Option Place)) (target : ℕ) (product : Product) (old new : List Shape)
    : Type 0 where
  pub more : (products : List Product) → Adds lines places target products old
      → Adds lines places target (products ++ product ∷ []) new
