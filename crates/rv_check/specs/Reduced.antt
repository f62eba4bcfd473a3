-- Vectors of amplitudes in lowest terms: the root of two is divided out as often as it can be.
use Rattle.std.specs.Prelude.{ℕ, zero, suc, ◌+◌, ◌%◌, ◌==◌, ◌&&◌, ◌||◌, Bool, false, true, List, [], ◌∷◌, ◌++◌, map, length, take, if◌then◌else◌, ℤ, pos, ◌+ℤ◌, int_div, unsigned_abs, nat_lt, Option, Some, None}
use Rattle.std.specs.List.{list_all, list_any}
use Rattle.rv_gate.specs.FirstAnswer.{first}
use Rattle.rv_net.specs.Amplitude.{amplitude, count_h}
use Rattle.rv_net.specs.Cyclotomic.{Cyclotomic, root2, times}
use Rattle.rv_net.specs.declared.op.Op.{Op}
use Rattle.rv_check.specs.declared.coefficient.TheConstants.{MOST_COEFFICIENT}

-- an even integer
abbrev pub is_even : ℤ → Bool
is_even z = unsigned_abs z % 2 == 0

-- a multiple of the root of two
abbrev pub is_multiple : Cyclotomic → Bool
is_multiple u = is_even (u.a +ℤ u.c) && is_even (u.b +ℤ u.d)

-- half of an even integer
abbrev pub half : ℤ → ℤ
half z = int_div z (pos 2)

-- a multiple of the root of two, divided by it: half of the product with it
unfoldable pub quotient : Cyclotomic → Cyclotomic
quotient u =
    let twice = times root2 u in record { a = half twice.a; b = half twice.b; c = half twice.c; d = half twice.d }

-- the words of n bits, in the order of their numbers
unfoldable pub words : ℕ → List (List Bool)
words zero = [] ∷ []
words (suc n) = map (λ v. false ∷ v) (words n) ++ map (λ v. true ∷ v) (words n)

-- the amplitudes with which operations take the word x to each word of as many bits
abbrev pub vector : List Op → List Bool → List Cyclotomic
vector ops x = map (λ y. amplitude ops x y) (words (length x))

-- A vector over so many roots of two, in lowest terms: divided by the root of two as often as all its members are
-- multiples of it, and at most as often as there are roots. The roots that are left are the least denominator exponent.
unfoldable pub reduced : ℕ → List Cyclotomic → List Cyclotomic
reduced zero members = members
reduced (suc roots) members = if list_all is_multiple members then reduced roots (map quotient members) else members

-- the vector of operations in lowest terms, since each H brings the root of two once
abbrev pub reduced_vector : List Op → List Bool → List Cyclotomic
reduced_vector ops x = reduced (count_h ops) (vector ops x)

-- an integer beyond the limit
abbrev pub is_large_number : ℤ → Bool
is_large_number z = nat_lt MOST_COEFFICIENT (unsigned_abs z)

-- one of its coefficients is beyond the limit
abbrev pub is_large : Cyclotomic → Bool
is_large u = is_large_number u.a || is_large_number u.b || is_large_number u.c || is_large_number u.d

-- the number of the first operations, if after them, from the word x, a coefficient is beyond the limit
abbrev pub large_after : List Op → List Bool → ℕ → Option ℕ
large_after ops x place = if list_any is_large (reduced_vector (take place ops) x) then Some place else None

-- the least such number
unfoldable pub first_large_place : List Op → List Bool → Option ℕ
first_large_place ops x = first (large_after ops x) 0 (length ops + 1)
