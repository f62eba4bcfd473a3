use Rattle.std.proofs.Common.{◌≡◌, ◌<◌, ◌++◌, ◌∷◌, [], ℕ, List, Bool, false, length, get_or, sym, ◌∙◌, ap, subst, arith, append_assoc}
use Rattle.rv_embed.specs.Embedding.{remaining}
use Rattle.rv_embed.proofs.CompleteLemmas.{Marked, Marked-all, stands_in, lacking, lacking_kept, lacking_more}
use Rattle.rv_embed.proofs.complete.completed.Goals as goal
use Rattle.rv_embed.proofs.complete.completed.Goals.{then-not-is_there+in_ok-push, else-not-is_there}

-- what the flag at y says, after all numbers were looked at
flag_at : (numbers items : List ℕ) (flags read : List Bool) (count n y : ℕ) → items ≡ numbers → read ≡ flags → Marked items flags count n → n ≡ length items → y < count
    → get_or read y false ≡ stands_in numbers y
flag_at numbers items flags read count n y same shown m all h =
    let P : ℕ → Type 0 = Marked items flags count in
    ap (λ l. get_or l y false) shown ∙ Marked-all items flags count y (subst P all m) h ∙ ap (λ l. stands_in l y) same

pub loop-y-preserved : goal.loop-y-preserved
loop-y-preserved c =
    let numbers : List ℕ = c.args.numbers.items in
    let y : ℕ = c.loop-y.y in
    let so_far : c.loop-y.list.items ≡ numbers ++ lacking numbers y = c.loop-y.invariant in
    let shown = c.deref-is_there-items.ensures.value in
    let flag : get_or c.deref-is_there-items.result.now y false ≡ stands_in numbers y =
    flag_at numbers c.deref-x-items.result.now c.loop-x.stands.items c.deref-is_there-items.result.now c.args.count c.loop-x.x-index y
    c.deref-x-items.ensures.value shown c.loop-x.invariant (omega arith) (omega (arith, ap length shown, c.loop-x.invariant.len)) in
    elim c.if-not-is_there.branch [
      | then-not-is_there+in_ok-push w ↦
          rw (w.list-is, w.in_ok-push.ensures.items, so_far, lacking_more numbers y (sym flag ∙ w.if-not-is_there.true))
          (append_assoc numbers (lacking numbers y) (y ∷ []))
      | else-not-is_there w ↦
          rw (w.list-is, lacking_kept numbers y (sym flag ∙ w.if-not-is_there.false)) so_far
    ]

pub returns : goal.returns
unfolding remaining
returns c =
    let numbers : List ℕ = c.args.numbers.items in
    let all : c.loop-y.y ≡ c.args.count = omega (arith, ap length c.deref-is_there-items.ensures.value, c.loop-x.invariant.len) in
    c.loop-y.invariant ∙ ap (λ n. numbers ++ lacking numbers n) all
