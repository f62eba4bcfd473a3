use Rattle.std.proofs.Common.{ℕ, ◌<◌, ◌≤◌, length}
use Rattle.std.specs.Prelude.{count_ones}
use Rattle.rv_templ.specs.inside.Library.{templates_in}
use Rattle.rv_templ.specs.Choices.{template_in}
use Rattle.rv_templ.specs.Images.{span}
use Rattle.rv_templ.proofs.sizes.sizes_of.Given as goal

abbrev pub invariant-loop-t : goal.invariant-loop-t
invariant-loop-t l = record {
  few : l.most ≤ 32;
  short : (k : ℕ) → k < l.t → length (template_in (templates_in l.templates) k) ≤ l.most;
  long : (k : ℕ) → k < l.t → l.least ≤ length (template_in (templates_in l.templates) k);
  narrow : (k : ℕ) → k < l.t → count_ones (span (template_in (templates_in l.templates) k)) ≤ l.wide;
}
