-- Toffoli gates with four T on their target, up to powers of w, and what these powers are in parities of bits.
use Rattle.std.specs.Prelude.{ℕ, ◌+◌, ◌-◌, ◌==◌, Bool, not, ◌&&◌, List, [], ◌∷◌, ◌++◌, if◌then◌else◌}
use Rattle.rv_gate.specs.Gate.{xor}
use Rattle.rv_gate.specs.Word.{bit_of}
use Rattle.rv_mct.specs.declared.control.Control.{Control}
use Rattle.rv_net.specs.Network.{on_zero}
use Rattle.rv_net.specs.declared.op.Op.{Op}
use Rattle.rv_net.specs.declared.op.Op.TheVariants.{X, Z, H, S, T, Tdg, Cx}
use Rattle.rv_ladder.specs.inside.Moved.{level}
use Rattle.rv_joined.specs.declared.block.Block.{Block}
use Rattle.rv_joined.specs.declared.phase.Phase.{Phase}
use Rattle.rv_joined.specs.declared.block.Block.TheVariants.{Plus, Minus, Before, After}

-- flips t under a and c, up to a power of w
unfoldable pub core : Block → ℕ → ℕ → ℕ → List Op
core Plus a c t = H t ∷ T t ∷ Cx c t ∷ Tdg t ∷ Cx a t ∷ T t ∷ Cx c t ∷ Tdg t ∷ Cx a t ∷ H t ∷ []
core Minus a c t = H t ∷ Tdg t ∷ Cx c t ∷ T t ∷ Cx a t ∷ Tdg t ∷ Cx c t ∷ T t ∷ Cx a t ∷ H t ∷ []
core Before a c t = H t ∷ T t ∷ Cx c t ∷ Tdg t ∷ Cx a t ∷ T t ∷ Cx c t ∷ Tdg t ∷ H t ∷ []
core After a c t = H t ∷ T t ∷ Cx c t ∷ Tdg t ∷ Cx a t ∷ T t ∷ Cx c t ∷ Tdg t ∷ H t ∷ []

-- that power of w, by the bits of a, c and t before it
abbrev pub turn : Block → Bool → Bool → Bool → ℕ
turn Plus a c t = if a && c then 6 else 0
turn Minus a c t = if a && c then 2 else 0
turn Before a c t = level a c t
turn After a c t = level a c t

-- two lines are added
abbrev pub is_summed : Phase → Bool
is_summed p = not (p.line == p.other)

-- where controls want 0, between X
abbrev pub block_ops : Block → Control → Control → ℕ → List Op
block_ops block a c t = (on_zero a ++ on_zero c) ++ (core block a.line c.line t ++ (on_zero a ++ on_zero c))

-- k where the bit is 1
abbrev pub weight : ℕ → Bool → ℕ
weight k bit = if bit then k else 0

-- 2 k where both bits are 1, modulo 8
abbrev pub product_parts : ℕ → Bool → Bool → ℕ
product_parts k a b = weight k a + weight k b + weight (8 - k) (xor a b)

-- the power of a block in parities, modulo 8, by the bits of t before it and after it
abbrev pub parts : Block → Bool → Bool → Bool → Bool → ℕ
parts Plus a c before after = product_parts 7 a c
parts Minus a c before after = product_parts 1 a c
parts Before a c before after = product_parts 1 a c + product_parts 2 a before
parts After a c before after = product_parts 7 a c + product_parts 2 a after

abbrev pub maybe : Bool → Op → List Op
maybe on op = if on then op ∷ [] else []

-- a power of w where a line has the bit 1, in its binary digits
abbrev pub digits : Bool → Bool → Bool → ℕ → List Op
digits four two one line = maybe four (Z line) ++ (maybe two (S line) ++ maybe one (T line))

-- a power of w where the sum of a line and another one, or only its own bit, is 1; or 0 if turned
abbrev pub phase_ops : Phase → List Op
phase_ops p =
    maybe (is_summed p) (Cx p.other p.line)
    ++ (maybe p.turned (X p.line)
    ++ (digits p.four p.two p.one p.line ++ (maybe p.turned (X p.line) ++ maybe (is_summed p) (Cx p.other p.line))))

abbrev pub phase_power : Phase → ℕ
phase_power p = weight 4 p.four + (weight 2 p.two + weight 1 p.one)

-- the sum's bit
abbrev pub phase_bit : Phase → List Bool → Bool
phase_bit p x = xor p.turned (if is_summed p then xor (bit_of x p.other) (bit_of x p.line) else bit_of x p.line)
