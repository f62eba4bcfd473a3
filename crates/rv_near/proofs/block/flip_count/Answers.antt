use Rattle.std.proofs.Common.{◌≡◌, ◌∙◌, ℕ, ◌+◌, ◌*◌, List, [], ◌∷◌, ◌++◌, length, ap, sym, refl, arith}
use Rattle.std.proofs.lemmas.List.{length-append}
use Rattle.rv_mct.specs.declared.control.Control.{Control}
use Rattle.rv_net.specs.Network.{flip_ops, on_zero}
use Rattle.rv_net.specs.declared.op.Op.{Op}
use Rattle.rv_net.specs.declared.op.Op.TheVariants.{Cx}
use Rattle.rv_near.specs.Near.{near_block, near_flip}
use Rattle.rv_near.proofs.block.flip_count.Goals as goal

abbrev size : List Control → ℕ → ℕ
size cs t = length (near_flip cs t)

none : (t : ℕ) → size [] t ≡ 1
unfolding near_flip flip_ops
none t = refl

one : (a : Control) (t : ℕ) → size (a ∷ []) t ≡ 1 + 2 * length (on_zero a)
unfolding near_flip flip_ops
one a t = omega (arith, length-append (on_zero a) (Cx a.line t ∷ on_zero a))

two : (a b : Control) (t : ℕ) → size (a ∷ b ∷ []) t ≡ length (near_block a.line b.line t) + 2 * (length (on_zero a) + length (on_zero b))
unfolding near_flip
two a b t =
    let zeros : List Op = on_zero a ++ on_zero b in
    omega (
      arith,
      length-append zeros (near_block a.line b.line t ++ zeros),
      length-append (near_block a.line b.line t) zeros,
      length-append (on_zero a) (on_zero b),
    )

more : (a b d : Control) (rest : List Control) (t : ℕ) → size (a ∷ b ∷ d ∷ rest) t ≡ 0
unfolding near_flip flip_ops
more a b d rest t = refl

pub returns-in_default-clause-value : goal.returns-in_default-clause-value
returns-in_default-clause-value c = sym (ap (λ cs. size cs c.args.target) c.in_default.ensures.none ∙ none c.args.target)

pub returns-in_default-first_control-clause-value : goal.returns-in_default-first_control-clause-value
returns-in_default-first_control-clause-value c =
    let a = c.in-Some.a in
    let single = c.in-Some.ensures.some ∙ ap (λ cs. a ∷ cs) c.in_default-first_control.ensures.none in
    omega (arith, ap (λ cs. size cs c.args.target) single, one a c.args.target, c.zero_count.ensures.value)

pub returns-in-None-clause-value : goal.returns-in-None-clause-value
returns-in-None-clause-value c =
    let a = c.in-Some.a in
    let b = c.in-Some-first_control.b in
    let both = c.in-Some.ensures.some ∙ ap (λ cs. a ∷ cs) (c.in-Some-first_control.ensures.some ∙ ap (λ cs. b ∷ cs) c.in-None.ensures.none) in
    omega (
      arith,
      ap (λ cs. size cs c.args.target) both,
      two a b c.args.target,
      c.block_count.ensures.value,
      c.zero_count-in-None.ensures.value,
      c.zero_count-in-None-2.ensures.value,
    )

pub returns-in-Some-first_control-2-clause-value : goal.returns-in-Some-first_control-2-clause-value
returns-in-Some-first_control-2-clause-value c =
    let a = c.in-Some.a in
    let b = c.in-Some-first_control.b in
    let further = ap (λ cs. b ∷ cs) c.in-Some-first_control-2.ensures.some in
    let three = c.in-Some.ensures.some ∙ ap (λ cs. a ∷ cs) (c.in-Some-first_control.ensures.some ∙ further) in
    sym (ap (λ cs. size cs c.args.target) three ∙ more a b _ _ c.args.target)
