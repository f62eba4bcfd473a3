-- The embedding gives what the PLA asks, on the fewest lines.
use Rattle.rv_pla.specs.Pla.{TwoLevel}
use Rattle.rv_embed.specs.Embedding.{embedding_of, least_lines}
use Rattle.rv_embed.specs.Embeds.{Embeds}
use Rattle.rv_embed.proofs.Circuits.{no-circuit}
use Rattle.rv_embed.proofs.inside.Fewest.{none_has_fewer}
use Rattle.rv_embed.proofs.inside.Fillings.{filled_classes}
use Rattle.rv_embed.proofs.inside.Realizing.{embeds}

pub embedding-embeds : (pla : TwoLevel) → Embeds pla (embedding_of pla)
embedding-embeds pla = record {
  embeds = embeds pla;
  least = none_has_fewer pla;
  no_circuit = λ unfree. no-circuit pla (least_lines pla) (none_has_fewer pla unfree);
  classes = filled_classes pla;
}
