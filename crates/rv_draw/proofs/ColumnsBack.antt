-- The columns of the rows are what the gates draw.
use Rattle.std.proofs.Common.{◌≡◌, ℕ, List, [], ◌∷◌, length, map, drop, refl, ap, ◌∙◌}
use Rattle.rv_draw.specs.declared.symbol.Symbol.{Symbol}
use Rattle.rv_draw.specs.Reading.{columns, first_of}

firsts : (f : ℕ → Symbol) (rest : ℕ → List Symbol) (lines : List ℕ) → map first_of (map (λ line. f line ∷ rest line) lines) ≡ map f lines
firsts f rest [] = refl
firsts f rest (line ∷ lines) = ap (λ ss. f line ∷ ss) (firsts f rest lines)

rests : (f : ℕ → Symbol) (rest : ℕ → List Symbol) (lines : List ℕ) → map (drop 1) (map (λ line. f line ∷ rest line) lines) ≡ map rest lines
rests f rest [] = refl
rests f rest (line ∷ lines) = ap (λ rows. rest line ∷ rows) (rests f rest lines)

-- so many columns as there are gates, each what its gate draws
pub columns_back : {G : Type 0} (draws : G → ℕ → Symbol) (gates : List G) (lines : List ℕ)
    → columns (length gates) (map (λ line. map (λ gate. draws gate line) gates) lines) ≡ map (λ gate. map (draws gate) lines) gates
columns_back draws [] lines = refl
columns_back draws (gate ∷ gates) lines =
    ap (λ column. column ∷ columns (length gates) (map (drop 1) (map (λ line. draws gate line ∷ map (λ g. draws g line) gates) lines)))
    (firsts (draws gate) (λ line. map (λ g. draws g line) gates) lines)
    ∙ ap (λ rows. map (draws gate) lines ∷ columns (length gates) rows) (rests (draws gate) (λ line. map (λ g. draws g line) gates) lines)
    ∙ ap (λ cs. map (draws gate) lines ∷ cs) (columns_back draws gates lines)
