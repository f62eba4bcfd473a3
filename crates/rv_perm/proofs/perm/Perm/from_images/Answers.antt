use Rattle.std.proofs.Common.{ℕ, List, inl, inr, sym, ◌∙◌}
use Rattle.rv_perm.specs.Perm.{Table}
use Rattle.rv_perm.proofs.inside.Tables.{table_back}
use Rattle.rv_perm.proofs.perm.Perm.from_images.Goals as goal

abbrev tabled : ℕ → List ℕ → Table
tabled n images = record { lines = n; images = images }

pub unreachable-requires : goal.unreachable-requires
unreachable-requires c =
    let back = table_back (tabled c.args.lines c.args.images.now) c.requires in
    elim c.in-Err.ensures.fault [
      | inl mem ↦ c.in_default.not-Mem mem
      | inr fault ↦ (let e = sym back ∙ fault in cc)
    ]

pub returns-in-Ok : goal.returns-in-Ok
returns-in-Ok c = let e = sym (table_back (tabled c.args.lines c.args.images.now) c.requires) ∙ c.in-Ok.ensures.table in cc
