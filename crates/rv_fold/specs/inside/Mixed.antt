-- A set of lines that has each line whose parity isn't that of the line alone, complemented or not.
use Rattle.std.specs.Prelude.{◌≡◌, ℕ, ◌^◌, ◌<◌, true, false}
use Rattle.rv_gate.specs.Word.{has}
use Rattle.rv_fold.specs.Parities.{Parities}

pub record AreMixed (n : ℕ) (parities : Parities) (mixed : ℕ) : Type 0 where
  pub within : (line : ℕ) → has mixed line ≡ true → line < n
  pub alone : (line : ℕ) → has mixed line ≡ false → (parities line).lines ≡ 2 ^ line
