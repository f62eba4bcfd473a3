-- How many gates templates have and how many lines they touch.
use Rattle.std.specs.Prelude.{ℕ, ◌<◌, ◌≤◌, List, length, count_ones}
use Rattle.rv_gate.specs.declared.gate.Shape.{Shape}
use Rattle.rv_templ.specs.declared.image.TheConstants.{TEMPLATE_GATES}
use Rattle.rv_templ.specs.Choices.{template_in}
use Rattle.rv_templ.specs.Images.{span}
use Rattle.rv_templ.specs.inside.Clean.{Short}

-- no template has more gates than `most` or fewer than `least`, and none touches more lines than `wide`
pub record AreSizes (most least wide : ℕ) (library : List (List Shape)) : Type 0 where
  pub few : most ≤ TEMPLATE_GATES
  pub short : Short most library
  pub long : (t : ℕ) → t < length library → least ≤ length (template_in library t)
  pub narrow : (t : ℕ) → t < length library → count_ones (span (template_in library t)) ≤ wide
