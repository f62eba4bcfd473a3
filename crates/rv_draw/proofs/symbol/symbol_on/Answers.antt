use Rattle.std.proofs.Common.{◌≡◌, ◌↔◌, subst, sym}
use Rattle.rv_draw.specs.declared.symbol.Symbol.{Symbol}
use Rattle.rv_draw.specs.declared.symbol.Symbol.TheVariants.{Crossing}
use Rattle.rv_draw.specs.Symbols.{IsCrossed}
use Rattle.rv_draw.proofs.Crossings.{crossing_iff}
use Rattle.rv_draw.proofs.symbol.symbol_on.Goals as goal

pub returns-clause-crossing : goal.returns-clause-crossing
returns-clause-crossing c =
    subst (λ (s : Symbol). (s ≡ Crossing) ↔ IsCrossed c.args.gate c.args.line) (sym c.drawn_on.ensures) (crossing_iff c.args.gate c.args.line)
