-- The gates by each method compute the permutation.
use Rattle.std.proofs.Common.{ℕ, List, length, sym, subst, inl, inr, nat_lt}
use Rattle.std.proofs.lemmas.Bool.{cases_Bool, cond-true, cond-false}
use Rattle.rv_gate.specs.declared.gate.Shape.{Shape}
use Rattle.rv_perm.specs.Perm.{IsPerm}
use Rattle.rv_tbs.specs.declared.method.Method.{Method}
use Rattle.rv_tbs.specs.declared.method.Method.TheVariants.{Out, Both, Best}
use Rattle.rv_tbs.specs.Synthesis.{out_gates, both_gates, fewer, gates_of}
use Rattle.rv_tbs.proofs.inside.BothSides.{Synthesizes, both_synthesizes, out_synthesizes}

fewer_synthesizes : (n : ℕ) (images : List ℕ) (a b : List Shape) → Synthesizes n images a → Synthesizes n images b → Synthesizes n images (fewer a b)
fewer_synthesizes n images a b sa sb =
    let P : List Shape → Type 0 = Synthesizes n images in
    elim (cases_Bool (nat_lt (length a) (length b))) [
      | inl less ↦ subst P (sym (cond-true (nat_lt (length a) (length b)) _ _ less)) sa
      | inr not_less ↦ subst P (sym (cond-false (nat_lt (length a) (length b)) _ _ not_less)) sb
    ]

pub gates_of-synthesizes : (method : Method) (n : ℕ) (images : List ℕ) → IsPerm n images → Synthesizes n images (gates_of method n images)
gates_of-synthesizes Out n images p = out_synthesizes n images p
gates_of-synthesizes Both n images p = both_synthesizes n images p
gates_of-synthesizes Best n images p = fewer_synthesizes n images (both_gates n images) (out_gates n images) (both_synthesizes n images p) (out_synthesizes n images p)
