-- Which symbols a gate draws on which lines.
use Rattle.std.proofs.Common.{◌≡◌, Bool, true, false, ◌||◌, cond, refl, sym, ◌∙◌, true≢false}
use Rattle.rv_draw.specs.declared.symbol.Symbol.{Symbol}
use Rattle.rv_draw.specs.declared.symbol.Symbol.TheVariants.{Wire, Crossing, Positive, Negative, Target, Middle}
use Rattle.rv_draw.specs.Reading.{is_control, is_positive, is_target, is_exchanged, is_middle, is_touched, is_right}

-- the symbol on a line that is a target or not, a control or not, wanted or not, passed or not
abbrev pub drawn : Symbol → Bool → Bool → Bool → Bool → Symbol
drawn own on control wanted passed = cond on own (cond control (cond wanted Positive Negative) (cond passed Crossing Wire))

-- a symbol that only targets have
pub own_kind : (p : Symbol → Bool) (own : Symbol) → p own ≡ true → p Positive ≡ false → p Negative ≡ false → p Crossing ≡ false → p Wire ≡ false
    → (on control wanted passed : Bool) → p (drawn own on control wanted passed) ≡ on
own_kind p own o a b c d true control wanted passed = o
own_kind p own o a b c d false true true passed = a
own_kind p own o a b c d false true false passed = b
own_kind p own o a b c d false false wanted true = c
own_kind p own o a b c d false false wanted false = d

-- a symbol that the gate doesn't draw
pub other_kind : (p : Symbol → Bool) (own : Symbol) → p own ≡ false → p Positive ≡ false → p Negative ≡ false → p Crossing ≡ false → p Wire ≡ false
    → (on control wanted passed : Bool) → p (drawn own on control wanted passed) ≡ false
other_kind p own o a b c d true control wanted passed = o
other_kind p own o a b c d false true true passed = a
other_kind p own o a b c d false true false passed = b
other_kind p own o a b c d false false wanted true = c
other_kind p own o a b c d false false wanted false = d

pub control_kind : (own : Symbol) → is_control own ≡ false → (on control wanted passed : Bool) → (on ≡ true → control ≡ false)
    → is_control (drawn own on control wanted passed) ≡ control
control_kind own o true control wanted passed apart = o ∙ sym (apart refl)
control_kind own o false true true passed apart = refl
control_kind own o false true false passed apart = refl
control_kind own o false false wanted true apart = refl
control_kind own o false false wanted false apart = refl

pub positive_kind : (own : Symbol) → is_positive own ≡ false → (on control wanted passed : Bool) → (on ≡ true → control ≡ false) → (wanted ≡ true → control ≡ true)
    → is_positive (drawn own on control wanted passed) ≡ wanted
positive_kind own o true control true passed apart within = absurd (true≢false (sym (within refl) ∙ apart refl))
positive_kind own o true control false passed apart within = o
positive_kind own o false true true passed apart within = refl
positive_kind own o false true false passed apart within = refl
positive_kind own o false false true passed apart within = absurd (true≢false (sym (within refl)))
positive_kind own o false false false true apart within = refl
positive_kind own o false false false false apart within = refl

-- the symbols of the lines that a gate touches
pub touched_kind : (own : Symbol) → is_touched own ≡ true → (on control wanted passed : Bool) → is_touched (drawn own on control wanted passed) ≡ (control || on)
touched_kind own o true true wanted passed = o
touched_kind own o true false wanted passed = o
touched_kind own o false true true passed = refl
touched_kind own o false true false passed = refl
touched_kind own o false false wanted true = refl
touched_kind own o false false wanted false = refl

-- `┼` stands exactly on the lines that are passed
pub right_kind : (own : Symbol) → ((passed : Bool) → is_right passed own ≡ true) → (on control wanted passed : Bool) → is_right passed (drawn own on control wanted passed) ≡ true
right_kind own o true control wanted passed = o passed
right_kind own o false true true passed = refl
right_kind own o false true false passed = refl
right_kind own o false false wanted true = refl
right_kind own o false false wanted false = refl

-- the symbol of a Peres gate
abbrev pub drawn_peres : Bool → Bool → Bool → Bool → Symbol
drawn_peres first second third passed = cond first Positive (cond second Middle (cond third Target (cond passed Crossing Wire)))

pub peres_control : (first second third passed : Bool) → is_control (drawn_peres first second third passed) ≡ first
peres_control true second third passed = refl
peres_control false true third passed = refl
peres_control false false true passed = refl
peres_control false false false true = refl
peres_control false false false false = refl

pub peres_exchanged : (first second third passed : Bool) → is_exchanged (drawn_peres first second third passed) ≡ false
peres_exchanged true second third passed = refl
peres_exchanged false true third passed = refl
peres_exchanged false false true passed = refl
peres_exchanged false false false true = refl
peres_exchanged false false false false = refl

pub peres_middle : (first second third passed : Bool) → (first ≡ true → second ≡ false) → is_middle (drawn_peres first second third passed) ≡ second
peres_middle true second third passed apart = sym (apart refl)
peres_middle false true third passed apart = refl
peres_middle false false true passed apart = refl
peres_middle false false false true apart = refl
peres_middle false false false false apart = refl

pub peres_target : (first second third passed : Bool) → (first ≡ true → third ≡ false) → (second ≡ true → third ≡ false)
    → is_target (drawn_peres first second third passed) ≡ third
peres_target true second third passed apart other = sym (apart refl)
peres_target false true third passed apart other = sym (other refl)
peres_target false false true passed apart other = refl
peres_target false false false true apart other = refl
peres_target false false false false apart other = refl

pub peres_touched : (first second third passed : Bool) → is_touched (drawn_peres first second third passed) ≡ ((first || second) || third)
peres_touched true second third passed = refl
peres_touched false true third passed = refl
peres_touched false false true passed = refl
peres_touched false false false true = refl
peres_touched false false false false = refl

pub peres_right : (first second third passed : Bool) → is_right passed (drawn_peres first second third passed) ≡ true
peres_right true second third passed = refl
peres_right false true third passed = refl
peres_right false false true passed = refl
peres_right false false false true = refl
peres_right false false false false = refl

pub peres_positive : (first second third passed : Bool) → is_positive (drawn_peres first second third passed) ≡ first
peres_positive true second third passed = refl
peres_positive false true third passed = refl
peres_positive false false true passed = refl
peres_positive false false false true = refl
peres_positive false false false false = refl
