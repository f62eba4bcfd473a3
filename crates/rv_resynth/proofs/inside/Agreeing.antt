-- What it means that both lists of gates were seen to make the same on all words of their lines.
use Rattle.std.proofs.Common.{◌≡◌, ℕ, ◌^◌, ◌<◌, ◌≤◌, List, [], ◌∷◌, length, ◌∙◌, arith}
use Rattle.std.specs.Prelude.{All, bit_or}
use Rattle.std.proofs.lemmas.Bool.{or_left, or_right}
use Rattle.std.proofs.lemmas.List.Elements.{All-nil, All-cons, All-weaker, All-contains}
use Rattle.rv_gate.specs.declared.gate.Shape.{Shape}
use Rattle.rv_gate.specs.Word.{has, bit_of}
use Rattle.rv_gate.specs.Gate.{touched}
use Rattle.rv_gate.proofs.inside.GateLemmas.{has-touched}
use Rattle.rv_gate.proofs.LineSets.{has-or, Within-below}
use Rattle.rv_search.specs.Lines.{ListsTo, span}
use Rattle.rv_resynth.specs.Same.{Interchangeable}
use Rattle.rv_resynth.specs.inside.Lines.{AgreesAt, Covers}
use Rattle.rv_resynth.proofs.inside.Frame.{AlikeIn, same_by_lines, fit_by_set}
use Rattle.rv_resynth.proofs.inside.Blocks.{AgreeTo, number_small}

covers_left : (set more : ℕ) (gates : List Shape) → All (Covers set) gates → All (Covers (bit_or set more)) gates
covers_left set more gates h =
    All-weaker (Covers set) (Covers (bit_or set more)) (λ g covers line on. has-or set more line ∙ or_left _ _
    (covers line on)) gates h

covers_right : (set more : ℕ) (gates : List Shape) → All (Covers more) gates → All (Covers (bit_or set more)) gates
covers_right set more gates h =
    All-weaker (Covers more) (Covers (bit_or set more)) (λ g covers line on. has-or set more line ∙ or_right
    (has set line) _ (covers line on)) gates h

-- ---- the lines of a list

pub covers_span : (gates : List Shape) → All (Covers (span gates)) gates
unfolding span
covers_span [] = All-nil (Covers 0)
covers_span (g ∷ rest) =
    All-cons (Covers (bit_or (touched g) (span rest))) g rest (λ line on. has-or (touched g) (span rest) line
    ∙ or_left _ _ (has-touched g line ∙ on)) (covers_right (touched g) (span rest) rest (covers_span rest))

-- ---- what was seen

pub agree_all : (old new : List Shape) (set_old set_new : ℕ) (lines : List ℕ) (number : ℕ) → set_old ≡ span old
    → set_new ≡ span new → bit_or set_old set_new < 2 ^ 64
    → ListsTo (bit_or set_old set_new) 64 lines → 2 ^ length lines ≤ number → AgreeTo old new lines number
    → Interchangeable old new
agree_all old new set_old set_new lines number is_old is_new small listed all agree n fit_old fit_new word long =
    let set : ℕ = bit_or set_old set_new in
    let within = Within-below set 64 small in
    let old_in = covers_left set_old set_new old (rw is_old (covers_span old)) in
    let new_in = covers_right set_old set_new new (rw is_new (covers_span new)) in
    let at : AgreesAt old new lines word = agree word (omega (arith, number_small lines word)) in
    let alike : AlikeIn set at.0 word = λ line on. All-contains (λ l. bit_of at.0 l ≡ bit_of word l) lines line at.2
    (listed.each line (within line on) on) in
    same_by_lines set n 64 old new word at.0 long at.1 old_in new_in fit_old fit_new
    (fit_by_set set 64 old within old_in) (fit_by_set set 64 new within new_in) alike at.3
