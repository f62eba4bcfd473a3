-- Products of bits of two words, and their sums: x has the bits of the lines, and v the path bits.
use Rattle.std.specs.Prelude.{ℕ, ◌^◌, Bool, false, not, ◌&&◌, ◌||◌, ◌==◌, List, [], ◌∷◌, bit_and, bit_xor}
use Rattle.rv_gate.specs.Word.{ones_of}
use Rattle.rv_gate.specs.Gate.{xor}
use Rattle.rv_terms.specs.declared.product.Product.{Product}
use Rattle.rv_terms.specs.declared.sum.Sum.{Sum}

-- each line of a set is one on which the word has the bit 1
unfoldable pub all_on : ℕ → List Bool → Bool
all_on lines word = bit_and lines (ones_of word) == lines

-- each of its bits is 1
abbrev pub value : Product → List Bool → List Bool → Bool
value product x v = all_on product.lines x && all_on product.paths v

-- the product that asks for nothing
abbrev pub always : Product
always = record { lines = 0; paths = 0 }

-- those of one line, and of one path bit
abbrev pub line_alone : ℕ → Product
line_alone line = record { lines = 2 ^ line; paths = 0 }

abbrev pub path_alone : ℕ → Product
path_alone path = record { lines = 0; paths = 2 ^ path }

-- an odd number of products are 1
abbrev pub parity : List Product → List Bool → List Bool → Bool
parity [] x v = false
parity (product ∷ rest) x v = xor (value product x v) (parity rest x v)

abbrev pub odd : Sum → List Bool → List Bool → Bool
odd sum x v = parity sum.products.items x v

-- two products ask for one bit
abbrev pub meets : Product → Product → Bool
meets a b = not (bit_and a.lines b.lines == 0) || not (bit_and a.paths b.paths == 0)

-- what a product asks for and another one doesn't
abbrev pub less : Product → Product → Product
less a b = record {
  lines = bit_xor a.lines (bit_and a.lines b.lines);
  paths = bit_xor a.paths (bit_and a.paths b.paths);
}
