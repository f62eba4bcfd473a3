use Rattle.std.proofs.Common.{subst}
use Rattle.std.specs.Prelude.{MatchOption}
use Rattle.rv_pairs.specs.inside.Cells.{Cells, HasNoPartner, IsPartner}
use Rattle.rv_pairs.proofs.walk.Walk.partner.Goals as goal

pub returns-then-is_barred-clause-partner : goal.returns-then-is_barred-clause-partner
returns-then-is_barred-clause-partner c = c.is_barred.ensures.barred c.if-is_barred.true

pub returns-else-is_barred-clause-partner : goal.returns-else-is_barred-clause-partner
returns-else-is_barred-clause-partner c =
    subst (λ (l : Cells). MatchOption c.nearest.result (HasNoPartner l c.args.op) (IsPartner l c.args.op)) c.is_barred.ensures.cells c.nearest.ensures.partner
