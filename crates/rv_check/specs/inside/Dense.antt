-- Vectors that have most words, as the code keeps them: a value for each word, in the order of the words' numbers.
use Rattle.std.specs.Prelude.{◌≡◌, ◌<◌, ◌≤◌, ◌==◌, ◌&&◌, ◌-ℤ◌, ℕ, zero, suc, Bool, true, false, List, [], ◌∷◌, map, take, length, if◌then◌else◌, slice_set, unsigned_abs}
use Rattle.std.specs.Int.{int_shr}
use Rattle.std.specs.Int.Bits.{bit_or}
use Rattle.std.specs.List.{fold, list_all}
use Rattle.rv_gate.specs.Word.{bit_of, number_of, word_of}
use Rattle.rv_net.specs.Cyclotomic.{Cyclotomic, plus, times_w_power}
use Rattle.rv_net.specs.Op.{goes_to, phase_of}
use Rattle.rv_net.specs.declared.op.Op.{Op}
use Rattle.rv_check.specs.Reduced.{half, is_even, is_multiple, quotient, words}
use Rattle.rv_check.specs.declared.member.Member.{Member}
use Rattle.rv_net.specs.declared.op.Op.TheVariants.{H}
use Rattle.rv_check.specs.inside.Kept.{Kept, NotLarge, mixed, moved}
use Rattle.rv_check.specs.inside.Stands.{Stands, StandsOver, value_at}

unfoldable pub minus : Cyclotomic → Cyclotomic → Cyclotomic
minus u v = record { a = u.a -ℤ v.a; b = u.b -ℤ v.b; c = u.c -ℤ v.c; d = u.d -ℤ v.d }

-- a multiple of two
abbrev pub is_double : Cyclotomic → Bool
is_double u = is_even u.a && (is_even u.b && (is_even u.c && is_even u.d))

-- and half of it
abbrev pub halved : Cyclotomic → Cyclotomic
halved u = record { a = half u.a; b = half u.b; c = half u.c; d = half u.d }

-- divided by two so many times
abbrev pub halved_by : ℕ → Cyclotomic → Cyclotomic
halved_by n u = record { a = int_shr u.a n; b = int_shr u.b n; c = int_shr u.c n; d = int_shr u.d n }

-- the bits that are 1 in the absolute value of one of its integers
abbrev pub bits_in : Cyclotomic → ℕ
bits_in u = bit_or (bit_or (unsigned_abs u.a) (unsigned_abs u.b)) (bit_or (unsigned_abs u.c) (unsigned_abs u.d))

-- and in that of one of all their integers
abbrev pub bits_in_all : List Cyclotomic → ℕ
bits_in_all values = fold (λ bits u. bit_or bits (bits_in u)) 0 values

-- the number has the bit 1 wherever the mask has it
abbrev pub covers : ℕ → ℕ → Bool
covers mask number = bit_or number mask == number

-- a mask of places stands for a test of words that doesn't look at a line
pub record Marks (mask lines line : ℕ) (on : List Bool → Bool) : Type 0 where
  pub held : (x : List Bool) → length x ≡ lines → covers mask (number_of x) ≡ on x
  pub free : (x : List Bool) (b : Bool) → on (slice_set x line b) ≡ on x

-- what H on a line makes of a vector at a word, its root of two not divided out
unfoldable pub mixed_at : ℕ → (List Bool → Cyclotomic) → List Bool → Cyclotomic
mixed_at line f x =
    if bit_of x line then minus (f (slice_set x line false)) (f (slice_set x line true))
    else plus (f (slice_set x line false)) (f (slice_set x line true))

-- what an operation that is no H makes of it, since it takes each word back
abbrev pub moved_at : Op → (List Bool → Cyclotomic) → List Bool → Cyclotomic
moved_at op f x = times_w_power (phase_of op (goes_to op x)) (f (goes_to op x))

-- the least denominator exponent of a vector over so many roots of two
unfoldable pub left : ℕ → List Cyclotomic → ℕ
left zero values = zero
left (suc roots) values = if list_all is_multiple values then left roots (map quotient values) else suc roots

-- members for the words of n bits, from a number on
unfoldable pub members_from : ℕ → ℕ → List Cyclotomic → List Member
members_from n number [] = []
members_from n number (v ∷ values) = record { word = word_of n number; value = v } ∷ members_from n (suc number) values

-- the values are those of a kept vector
pub record Shows (n : ℕ) (values : List Cyclotomic) (exponent : ℕ) (k : Kept) : Type 0 where
  pub values_are : values ≡ map (value_at k.members) (words n)
  pub exponent_is : exponent ≡ k.exponent

-- a kept vector after one more operation, not divided
unfoldable pub undivided_more : Kept → Op → Kept
undivided_more k (H line) = record { members = mixed line k.members; exponent = suc k.exponent }
undivided_more k op = record k { members = map (moved op) k.members }

-- and that one stands for the first operations, so many, from the word x
pub record ShowsAt (ops : List Op) (x : List Bool) (place : ℕ) (values : List Cyclotomic) (exponent : ℕ) : Type 0 where
  pub kept : Kept
  pub stands : Stands (take place ops) x kept
  pub shows : Shows (length x) values exponent kept

-- the same, where it may still be divided
pub record ShowsOverAt (ops : List Op) (x : List Bool) (place : ℕ) (values : List Cyclotomic)
    (exponent : ℕ) : Type 0 where
  pub kept : Kept
  pub stands : StandsOver (take place ops) x kept
  pub shows : Shows (length x) values exponent kept

-- after none of the operations between two places a coefficient is beyond the limit
abbrev pub NoneLargeIn : List Op → List Bool → ℕ → ℕ → Type 0
NoneLargeIn ops x start end = (place : ℕ) → start < place → place ≤ end → NotLarge ops x place
