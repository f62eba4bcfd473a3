use Rattle.std.proofs.Common.{◌∙◌, ◌∷◌, ℕ, true, ap, set}
use Rattle.std.proofs.lemmas.List.{map-set}
use Rattle.rv_paths.specs.declared.rows.Row.{Row}
use Rattle.rv_paths.specs.inside.Parity.{parity}
use Rattle.rv_paths.specs.inside.Phases.{word_at}
use Rattle.rv_paths.proofs.rows.set_row.Goals as goal

pub returns-clause-words : goal.returns-clause-words
returns-clause-words c u =
    map-set (λ (r : Row). parity r.mask.items (true ∷ u)) c.args.rows.now.items c.from.result (record { mask = c.args.mask })
    ∙ ap (λ (i : ℕ). set (word_at c.args.rows.now.items u) i (parity c.args.mask.items (true ∷ u))) c.from.ensures
