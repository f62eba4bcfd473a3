-- `embed`: a permutation that gives the function of a PLA.
use Rattle.std.specs.Prelude.{◌≡◌, ℕ, List, [], ◌∷◌, Ok}
use Rattle.rv_perm.specs.Reading.{permutation_of}
use Rattle.rv_perm.specs.Text.{text_of}
use Rattle.rv_perm.specs.declared.perm.TheConstants.{MOST_PERM_LINES}
use Rattle.rv_pla.specs.Pla.{TwoLevel}
use Rattle.rv_embed.specs.Embedding.{least_lines, embedding_of}
use Rattle.rv_embed.specs.Embeds.{Embeds}
use Rattle.rv_inputs.specs.Formats.{table}
use Rattle.rv_cmd.specs.Limits.{Limit, LimitedText, of_lines}
use Rattle.rv_cmd.specs.Row.{ReadsFirst, one}

-- the lines of the embedding
abbrev pub embed_limits : TwoLevel → List Limit
embed_limits pla = of_lines (least_lines pla) MOST_PERM_LINES ∷ []

abbrev pub embed_report : TwoLevel → LimitedText
embed_report pla = record { limits = embed_limits pla; text = text_of (embedding_of pla) }

-- Read back, the text is a permutation with marks that gives what the PLA asks. Where no entry is free, none does so on
-- fewer lines.
pub record IsEmbedded (pla : TwoLevel) (text : List ℕ) : Type 0 where
  pub read_back : permutation_of text ≡ Ok (embedding_of pla)
  pub means : Embeds pla (embedding_of pla)

abbrev pub embed_row : ReadsFirst
embed_row = one table embed_report IsEmbedded
