-- The label of a line among labels that a header holds.
use Rattle.std.proofs.Common.{arith}
use Rattle.std.proofs.Common.{◌≡◌, map, zero, suc, ℕ, List, [], ◌∷◌, get_or, refl, ap, ◌∙◌}
use Rattle.std.specs.Global.{Vec}
use Rattle.rv_gate.specs.inside.CircuitView.{labels_in}

items_at : (own : Vec ℕ) (label : List ℕ) (labels : List (Vec ℕ)) (line : ℕ) → label ≡ own.items → own ≡ get_or labels line own
    → label ≡ get_or (map (λ v. v.items) labels) line label
items_at own label [] line bytes is = refl
items_at own label (v ∷ labels) zero bytes is = bytes ∙ ap (λ (v : Vec ℕ). v.items) is
items_at own label (v ∷ labels) (suc line) bytes is = items_at own label labels line bytes is

pub label_at : (labels : Vec (Vec ℕ)) (line place : ℕ) (own : Vec ℕ) (label : List ℕ) → own ≡ get_or labels.items place own → place ≡ line → label ≡ own.items → label ≡ get_or (labels_in labels) line label
label_at labels line place own label is same bytes = grind (arith, items_at)
