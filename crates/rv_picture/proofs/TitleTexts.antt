-- The names of a title.
use Rattle.std.proofs.Common.{◌≡◌, ℕ, zero, suc, ◌<◌, ◌≤◌, List, [], ◌∷◌, length, refl, ap, arith}
use Rattle.rv_real.specs.Text.{name_at}
use Rattle.rv_picture.specs.Labels.{written_label}
use Rattle.rv_picture.specs.Markup.{svg_escapes}
use Rattle.rv_picture.specs.Titles.{written_names}

pub written_count : (names : List (List ℕ)) → length (written_names names) ≡ length names
written_count [] = refl
written_count (name ∷ names) = ap suc (written_count names)

pub name_written : (names : List (List ℕ)) (line : ℕ) → line < length names → written_label svg_escapes (name_at names line) ≡ name_at (written_names names) line
name_written [] line lt = absurd (omega (arith, lt))
name_written (name ∷ names) zero lt = refl
name_written (name ∷ names) (suc line) lt = name_written names line (omega (arith, lt))

pub name_after : (names : List (List ℕ)) (line : ℕ) → length names ≤ line → name_at (written_names names) line ≡ []
name_after [] line le = refl
name_after (name ∷ names) zero le = absurd (omega (arith, le))
name_after (name ∷ names) (suc line) le = name_after names line (omega (arith, le))
