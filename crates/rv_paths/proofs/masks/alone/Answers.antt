use Rattle.rv_paths.proofs.inside.Parities.{parity-alone}
use Rattle.rv_paths.proofs.masks.alone.Goals as goal

pub returns : goal.returns
returns c = parity-alone c.args.variable _ _ (c.in_ok-mask.ensures.items_if_clones_equal (λ y e. e)) c.in_ok-push.ensures.items
