-- What one word tells of a circuit and a network.
use Rattle.std.specs.Prelude.{◌≡◌, ℕ, Bool, List, None}
use Rattle.rv_gate.specs.Gate.{run}
use Rattle.rv_gate.specs.Word.{word_of}
use Rattle.rv_gate.specs.declared.gate.Shape.{Shape}
use Rattle.rv_net.specs.Op.{Network}
use Rattle.rv_check.specs.Check.{agrees, large_at}

-- no coefficient is beyond the limit, and the amplitudes are those of the circuit or not
abbrev pub AgreesAt : List Shape → Network → ℕ → Bool → Type 0
AgreesAt gates net number agreed =
    (large_at net number ≡ None)
    × (agreed ≡ agrees net.ops (word_of net.lines number) (run gates (word_of net.lines number)))
