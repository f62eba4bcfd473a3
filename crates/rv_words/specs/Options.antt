-- The options, each by its place in their list.
use Rattle.std.specs.Prelude.{ℕ, Bool, List, [], ◌∷◌, ◌==◌, ◌&&◌, not, codes, slice_index_or}
use Rattle.rv_words.specs.declared.options.TheConstants.{METHOD, TO, FROM, LIBRARY, AUX, LINES, SEED, ALL, SIMPLIFY, WRAP, GOAL, EFFORT, MARKS, BLOCKS, AS, GATES, BY, NODES, CURVE, CONSTANTS}

abbrev pub option_names : List (List ℕ)
option_names = codes "method" ∷ codes "to" ∷ codes "from" ∷ codes "library" ∷ codes "aux" ∷ codes "lines" ∷ codes "seed"
    ∷ codes "all" ∷ codes "simplify" ∷ codes "wrap" ∷ codes "goal" ∷ codes "effort" ∷ codes "marks" ∷ codes "blocks"
    ∷ codes "as" ∷ codes "gates" ∷ codes "by" ∷ codes "nodes" ∷ codes "curve" ∷ codes "constants" ∷ []

abbrev pub places : List ℕ
places = METHOD ∷ TO ∷ FROM ∷ LIBRARY ∷ AUX ∷ LINES ∷ SEED ∷ ALL ∷ SIMPLIFY ∷ WRAP
    ∷ GOAL ∷ EFFORT ∷ MARKS ∷ BLOCKS ∷ AS ∷ GATES ∷ BY ∷ NODES ∷ CURVE ∷ CONSTANTS ∷ []

abbrev pub option_name : ℕ → List ℕ
option_name place = slice_index_or option_names place (codes "constants")

-- `all`, `simplify`, `marks`, `curve` and `constants` are flags, and the other options take a value
abbrev pub takes_value : ℕ → Bool
takes_value place =
    not (place == ALL) && not (place == SIMPLIFY) && not (place == MARKS) && not (place == CURVE) && not (place == CONSTANTS)
