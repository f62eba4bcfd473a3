-- A list without a step by pairs has no pair.
use Rattle.std.proofs.Common.{◌≡◌, ℕ, zero, suc, ◌<◌, true, cond, List, [], ◌∷◌, ◌++◌, length, get_or, sym, ◌∙◌, ap, arith}
use Rattle.std.specs.Prelude.{Some, None}
use Rattle.std.proofs.lemmas.Option.{none-some}
use Rattle.rv_templ.specs.Gates.{no_gate}
use Rattle.rv_gate.specs.Commuting.{rule}
use Rattle.rv_gate.specs.declared.gate.Shape.{Shape}
use Rattle.rv_templ.specs.Pairs.{paired, after_gates, partner, pair_step, NoPair}
use Rattle.rv_templ.proofs.Options.{after_none}
use Rattle.rv_gate.proofs.FirstAnswer.{or_none}
use Rattle.rv_gate.proofs.Options.{unmapped}

pub no_partner : (g : Shape) (rest : List Shape) (b : ℕ) (m : List Shape) → partner g rest ≡ None → b < length rest → ((k : ℕ) → k < b → rule g (get_or rest k no_gate) ≡ true)
    → paired g (get_or rest b no_gate) ≡ Some m → ⊥
unfolding partner
no_partner g [] b m e lt r j = absurd (omega arith)
no_partner g (h ∷ rest) zero m e lt r j =
    let n : paired g h ≡ None = unmapped (λ m. m ++ rest) (paired g h) (after_none [] _ (or_none _ _ e).0) in none-some m (sym n ∙ j)
no_partner g (h ∷ rest) (suc b) m e lt r j =
    let t : rule g h ≡ true = r 0 (omega arith) in
    let n : partner g rest ≡ None = after_none (h ∷ []) (partner g rest) (ap (λ c. cond c (after_gates (h ∷ []) (partner g rest)) None) (sym t) ∙ (or_none _ _ e).1) in
    no_partner g rest b m n (omega arith) (λ k l. r (suc k) (omega arith)) j

pub settled_no_pair : (gates : List Shape) → pair_step gates ≡ None → NoPair gates
unfolding pair_step
settled_no_pair [] e a b p = absurd (omega (arith, p.1))
settled_no_pair (g ∷ rest) e zero zero p = absurd (omega (arith, p.0))
settled_no_pair (g ∷ rest) e zero (suc b) p =
    no_partner g rest b p.3 (or_none _ _ e).0 (omega (arith, p.1)) (λ k l. p.2 (suc k) (omega arith) (omega arith)) p.4
settled_no_pair (g ∷ rest) e (suc a) zero p = absurd (omega (arith, p.0))
settled_no_pair (g ∷ rest) e (suc a) (suc b) p =
    settled_no_pair rest (after_none (g ∷ []) (pair_step rest) (or_none (partner g rest) _ e).1) a b
    (omega (arith, p.0), omega (arith, p.1), λ k l l2. p.2 (suc k) (omega arith) (omega arith), p.3, p.4)
