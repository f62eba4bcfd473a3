use Rattle.std.proofs.Common.{◌≡◌, ℕ, true, false, List, [], ◌∷◌, ◌++◌, refl, sym, ◌∙◌}
use Rattle.rv_io.proofs.Adding.{adds_then, adds_as}
use Rattle.rv_real.specs.Text.{label_word, needs_quotes}
use Rattle.rv_real.proofs.label.put_label.Goals as goal

in_quotes : (label : List ℕ) → needs_quotes label ≡ true → 34 ∷ (label ++ 34 ∷ []) ≡ label_word label
in_quotes label is = rw is refl

bare : (label : List ℕ) → needs_quotes label ≡ false → label ≡ label_word label
bare label is = rw is refl

pub returns-then-needs_quotes : goal.returns-then-needs_quotes
returns-then-needs_quotes g c =
    adds_as (in_quotes c.args.label.now (sym c.needs_quotes.ensures ∙ c.if-needs_quotes.true)) (adds_then c.put.ensures (adds_then c.put-then-needs_quotes.ensures c.put-then-needs_quotes-2.ensures))

pub returns-else-needs_quotes : goal.returns-else-needs_quotes
returns-else-needs_quotes g c = adds_as (bare c.args.label.now (sym c.needs_quotes.ensures ∙ c.if-needs_quotes.false)) c.put-else-needs_quotes.ensures
