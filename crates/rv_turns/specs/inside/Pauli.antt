-- Products of Pauli operators on lines, and how they pass operations.
use Rattle.std.specs.Prelude.{◌≡◌, ℕ, Bool, true, false, ◌&&◌, ◌||◌, List, [], ◌∷◌, length, slice_set, Option, None, Some, replicate}
use Rattle.rv_gate.specs.Gate.{xor}
use Rattle.rv_gate.specs.Word.{bit_of}
use Rattle.rv_net.specs.declared.op.Op.{Op}
use Rattle.rv_net.specs.declared.op.Op.TheVariants.{X, Y, Z, H, S, Sdg, T, Tdg, Cx, Cz, Ccx, Swap, Cswap}

-- Z on the lines of `signs`, then X on those of `flips`, times w^2 if `quarter` and times w^4 if `half`
pub record Pauli : Type 0 where
  pub quarter : Bool
  pub half : Bool
  pub flips : List Bool
  pub signs : List Bool

-- on so many lines
pub record IsOn (n : ℕ) (p : Pauli) : Type 0 where
  pub flips : length p.flips ≡ n
  pub signs : length p.signs ≡ n

-- the word with the bits of some lines changed
abbrev pub flipped : List Bool → List Bool → List Bool
flipped [] v = v
flipped (a ∷ x) [] = []
flipped (a ∷ x) (b ∷ v) = xor a b ∷ flipped x v

-- whether an odd number of lines have the bit 1 in both words
abbrev pub overlap : List Bool → List Bool → Bool
overlap [] v = false
overlap (a ∷ z) [] = false
overlap (a ∷ z) (b ∷ v) = xor (a && b) (overlap z v)

-- the operation takes the product to no other, or is not known to
abbrev pub stops : Op → Pauli → Bool
stops (T q) p = bit_of p.flips q
stops (Tdg q) p = bit_of p.flips q
stops (Ccx a b c) p = bit_of p.flips a || bit_of p.flips b || bit_of p.signs c
stops (Cswap c a b) p =
    bit_of p.flips c || xor (bit_of p.flips a) (bit_of p.flips b) || xor (bit_of p.signs a) (bit_of p.signs b)
stops (X q) p = false
stops (Y q) p = false
stops (Z q) p = false
stops (H q) p = false
stops (S q) p = false
stops (Sdg q) p = false
stops (Cx a b) p = false
stops (Cz a b) p = false
stops (Swap a b) p = false

-- the product after the operation that is the given one before it
abbrev pub passed : Op → Pauli → Pauli
passed (X q) p = record p { half = xor p.half (bit_of p.signs q) }
passed (Y q) p = record p { half = xor p.half (xor (bit_of p.flips q) (bit_of p.signs q)) }
passed (Z q) p = record p { half = xor p.half (bit_of p.flips q) }
passed (H q) p = record p {
  half = xor p.half (bit_of p.flips q && bit_of p.signs q);
  flips = slice_set p.flips q (bit_of p.signs q);
  signs = slice_set p.signs q (bit_of p.flips q);
}
passed (S q) p = record p {
  quarter = xor p.quarter (bit_of p.flips q);
  half = xor p.half (p.quarter && bit_of p.flips q);
  signs = slice_set p.signs q (xor (bit_of p.signs q) (bit_of p.flips q));
}
passed (Sdg q) p = record p {
  quarter = xor p.quarter (bit_of p.flips q);
  half = xor p.half (xor (bit_of p.flips q) (p.quarter && bit_of p.flips q));
  signs = slice_set p.signs q (xor (bit_of p.signs q) (bit_of p.flips q));
}
passed (Cx a b) p = record p {
  flips = slice_set p.flips b (xor (bit_of p.flips b) (bit_of p.flips a));
  signs = slice_set p.signs a (xor (bit_of p.signs a) (bit_of p.signs b));
}
passed (Cz a b) p = record p {
  half = xor p.half (bit_of p.flips a && bit_of p.flips b);
  signs =
      slice_set (slice_set p.signs a (xor (bit_of p.signs a) (bit_of p.flips b))) b
      (xor (bit_of p.signs b) (bit_of p.flips a));
}
passed (Swap a b) p = record p {
  flips = slice_set (slice_set p.flips a (bit_of p.flips b)) b (bit_of p.flips a);
  signs = slice_set (slice_set p.signs a (bit_of p.signs b)) b (bit_of p.signs a);
}
passed (T q) p = p
passed (Tdg q) p = p
passed (Ccx a b c) p = p
passed (Cswap c a b) p = p

-- Z on one line
abbrev pub sign_on : ℕ → ℕ → Pauli
sign_on n q =
    record { quarter = false; half = false; flips = replicate n false; signs = slice_set (replicate n false) q true }

-- T or Tdg
abbrev pub turn : Bool → ℕ → Op
turn false q = T q
turn true q = Tdg q

-- what two turns about one line are together
abbrev pub summed : Bool → Bool → ℕ → Option Op
summed false false q = Some (S q)
summed true true q = Some (Sdg q)
summed false true q = None
summed true false q = None

-- the operations that are left
abbrev pub kept : List (Option Op) → List Op
kept [] = []
kept (None ∷ rest) = kept rest
kept (Some o ∷ rest) = o ∷ kept rest
