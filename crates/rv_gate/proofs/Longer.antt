-- Gates on words with further lines.
use Rattle.std.proofs.Common.{◌≡◌, ℕ, ◌<◌, Bool, false, eqb, List, ◌++◌, length, set, refl, sym, ◌∙◌, ap, arith, length-append}
use Rattle.std.proofs.lemmas.Bool.{false≢true, or_left}
use Rattle.std.proofs.lemmas.Bool.Decides.{same_from_decides}
use Rattle.std.proofs.lemmas.List.{set-append_left}
use Rattle.std.proofs.Math.ListN.{get_or-append}
use Rattle.rv_gate.specs.Word.{has, bit_of}
use Rattle.rv_gate.specs.Gate.{holds, xor, act, Within, FitsIn, IsFlip}
use Rattle.rv_gate.specs.declared.gate.Shape.{Shape}
use Rattle.rv_gate.specs.declared.gate.Shape.TheVariants.{Flip, Swap, Peres}
use Rattle.rv_gate.proofs.inside.GateLemmas.{Hold, holds_Decides, flip_if, fits_flip}

pub holds_append : (care want : ℕ) (word more : List Bool) → Within care (length word) → holds care want (word ++ more) ≡ holds care want word
holds_append care want word more within =
    let l = length-append word more in
    let d = holds_Decides care want (word ++ more) in
    same_from_decides {P = Hold care want word} _ _ (
      λ t line lt on. sym (get_or-append word more false line lt) ∙ d.0 t line (omega arith) on,
      λ hold. d.1 (λ line lt on. get_or-append word more false line (within line on) ∙ hold line (within line on) on),
    )
    (holds_Decides care want word)

pub act_append : (g : Shape) (word more : List Bool) → IsFlip g → FitsIn g (length word) → act g (word ++ more) ≡ act g word ++ more
act_append (Flip care want target) word more is fits =
    let lt : target < length word = fits_flip (Flip care want target) care want target (length word) refl fits in
    flip_if (holds care want (word ++ more)) (word ++ more) target
    ∙ ap (λ z. set (word ++ more) target (xor z (bit_of (word ++ more) target))) (holds_append care want word more (λ line on. fits line (or_left (has care line) (eqb line target) on)))
    ∙ ap (λ z. set (word ++ more) target (xor (holds care want word) z)) (get_or-append word more false target lt)
    ∙ set-append_left word more target _ lt
    ∙ ap (λ w. w ++ more) (sym (flip_if (holds care want word) word target))
act_append (Swap care want a b) word more is fits = absurd (false≢true is)
act_append (Peres a b c) word more is fits = absurd (false≢true is)
