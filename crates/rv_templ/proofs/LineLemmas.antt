-- Sets of lines without others, and the lines that gates touch.
use Rattle.std.proofs.Common.{arith}
use Rattle.std.proofs.Common.{◌≡◌, ℕ, Bool, true, not, ◌&&◌, sym, ◌∙◌, ap, inl, inr}
use Rattle.std.specs.Prelude.{bit_and}
use Rattle.std.proofs.lemmas.Bool.{cases_Bool, false≢true}
use Rattle.rv_gate.specs.Word.{has}
use Rattle.rv_gate.specs.Gate.{same}
use Rattle.rv_gate.proofs.LineSets.{has-none, has-and, has-xor}
use Rattle.rv_templ.specs.Images.{difference}

without_bits : (x y : Bool) → not (same x (x && y)) ≡ (x && not y)
without_bits x y = grind arith

pub has_without : (a b line : ℕ) → has (difference a b) line ≡ (has a line && not (has b line))
has_without a b line =
    has-xor a (bit_and a b) line ∙ ap (λ y. not (same (has a line) y)) (has-and a b line) ∙ without_bits (has a line) (has b line)

-- nothing is left of a set without another: it is part of it
pub part_of : (a b : ℕ) → difference a b ≡ 0 → (line : ℕ) → has a line ≡ true → has b line ≡ true
part_of a b e line h =
    elim (cases_Bool (has b line)) [
      | inl on ↦ on
      | inr off ↦
          let z : has (difference a b) line ≡ true = has_without a b line ∙ ap (λ y. has a line && not y) off ∙ ap (λ x. x && true) h in
          absurd (false≢true (sym (has-none line) ∙ ap (λ s. has s line) (sym e) ∙ z))
    ]
