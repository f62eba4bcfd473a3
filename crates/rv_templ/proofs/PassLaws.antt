-- Flips of one target commute.
use Rattle.std.proofs.Common.{arith}
use Rattle.std.proofs.Common.{◌≡◌, ℕ, ◌^◌, true, false, sym, ◌∙◌, ap}
use Rattle.std.proofs.lemmas.Bool.{eqb-true, and_from, or_right}
use Rattle.rv_gate.specs.Word.{has}
use Rattle.rv_gate.specs.Gate.{IsGate}
use Rattle.rv_gate.specs.Commuting.{rule}
use Rattle.rv_gate.specs.declared.gate.Shape.TheVariants.{Flip}
use Rattle.rv_gate.proofs.LineSets.{Apart, has-line}
use Rattle.rv_links.proofs.inside.UsedLemmas.{no_meet}

off_line : (set line : ℕ) → has set line ≡ false → Apart (2 ^ line) set
off_line set line off i on = ap (has set) (eqb-true i line (sym (has-line line i) ∙ on)) ∙ off

pub one_target : (care want care2 want2 target target2 : ℕ) → IsGate (Flip care want target) → IsGate (Flip care2 want2 target2) → target ≡ target2
    → true ≡ rule (Flip care want target) (Flip care2 want2 target2)
unfolding rule
one_target care want care2 want2 target target2 first second same = grind (arith, or_right, and_from, no_meet, off_line)
