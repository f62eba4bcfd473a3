-- The bytes with another meaning in each language of pictures. In LaTeX `--`, two quotes and the like are drawn as one
-- character, so the bytes of these are written by their number.
use Rattle.std.specs.Prelude.{ℕ, List, [], ◌∷◌, codes}
use Rattle.rv_picture.specs.Labels.{Escape}
use Rattle.rv_picture.specs.declared.label.Markup.{Markup}
use Rattle.rv_picture.specs.declared.label.Markup.TheVariants.{Latex, Svg}

abbrev pub escape : ℕ → List ℕ → Escape
escape byte text = record { byte = byte; text = text }

abbrev pub latex_escapes : List Escape
latex_escapes =
    escape 32 (codes "\\ ") ∷ escape 34 (codes "\\symbol{34}") ∷ escape 35 (codes "\\#") ∷ escape 36 (codes "\\$")
    ∷ escape 37 (codes "\\%")
    ∷ escape 38 (codes "\\symbol{38}") ∷ escape 39 (codes "\\symbol{39}") ∷ escape 45 (codes "\\symbol{45}")
    ∷ escape 60 (codes "\\textless{}") ∷ escape 62 (codes "\\textgreater{}")
    ∷ escape 92 (codes "\\textbackslash{}") ∷ escape 94 (codes "\\textasciicircum{}") ∷ escape 95 (codes "\\_")
    ∷ escape 96 (codes "\\symbol{96}")
    ∷ escape 123 (codes "\\{") ∷ escape 124 (codes "\\textbar{}") ∷ escape 125 (codes "\\}")
    ∷ escape 126 (codes "\\textasciitilde{}") ∷ []

abbrev pub svg_escapes : List Escape
svg_escapes =
    escape 38 (codes "&amp;") ∷ escape 60 (codes "&lt;") ∷ escape 62 (codes "&gt;") ∷ escape 34 (codes "&quot;")
    ∷ escape 39 (codes "&#39;") ∷ []

abbrev pub escapes : Markup → List Escape
escapes Latex = latex_escapes
escapes Svg = svg_escapes
