use Rattle.std.proofs.Common.{◌≡◌, ℕ, ◌^◌, map, refl, ap, ◌∙◌, arith}
use Rattle.std.specs.List.{range_with_len}
use Rattle.rv_gate.proofs.Ranges.{pushed_more}
use Rattle.rv_dbs.proofs.least.words.Goals as goal

pub loop-x-preserved : goal.loop-x-preserved
loop-x-preserved c = pushed_more (λ (x : ℕ). x) c.loop-x.x c.loop-x.x c.loop-x.words.items c.push.new.self.items c.in_ok-push.ensures.items c.loop-x.invariant refl

pub returns : goal.returns
returns c =
    let all : c.loop-x.x ≡ 2 ^ c.args.lines = omega arith in
    c.loop-x.invariant ∙ ap (λ m. map (λ (x : ℕ). x) (range_with_len 0 m)) all
