-- The characters of a row: one for each operand, and then that of the name that is driven.
use Rattle.std.specs.Prelude.{ℕ, ◌-◌, Bool, ◌==◌, ◌||◌, ◌&&◌, List, length, take, map, slice_index}
use Rattle.std.specs.List.{list_all}
use Rattle.rv_gate.specs.Word.{ones_of}
use Rattle.rv_blif.specs.declared.product.Product.{Product}

-- 0 1
abbrev pub is_bit : ℕ → Bool
is_bit c = c == 48 || c == 49

-- 0 1 -
abbrev pub is_literal : ℕ → Bool
is_literal c = is_bit c || c == 45

-- the characters of the operands
abbrev pub input_part : List ℕ → List ℕ
input_part row = take (length row - 1) row

abbrev pub are_literals : List ℕ → Bool
are_literals row = list_all is_literal (input_part row) && is_bit (slice_index row (length row - 1))

-- the product of the characters of the operands: one is asked for by `0` and `1`
abbrev pub product_of : List ℕ → Product
product_of part = record { care = ones_of (map is_bit part); want = ones_of (map (λ c. c == 49) part) }
