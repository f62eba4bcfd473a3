-- What folding keeps.
use Rattle.std.proofs.Common.{◌≡◌, ℕ, ◌+◌, ◌%◌, ◌<◌, ◌≤◌, Bool, List, [], ◌∷◌, ◌++◌, length, refl, sym, ap, ◌∙◌, arith, subst}
use Rattle.std.specs.Prelude.{All, count_by, slice_get}
use Rattle.std.proofs.lemmas.List.Elements.{All-head, All-tail, All-nil, All-cons}
use Rattle.rv_net.specs.declared.op.Op.{Op}
use Rattle.rv_net.specs.Op.{IsNetwork, Network, OpFitsIn, has_three_lines, is_t}
use Rattle.rv_net.specs.Amplitude.{amplitude, count_h}
use Rattle.rv_fold.specs.Parities.{Parities, IsLeastClosed, alone, direct}
use Rattle.rv_fold.specs.Folded.{parities_at, folded, folded_network, phase_ops, IsFoldingOf, RestartsLeast}
use Rattle.rv_fold.proofs.Amplitudes.{AllFit, walked-amplitude}
use Rattle.rv_fold.proofs.Counts.{walked-length, walked-t, walked-three, walked-h}
use Rattle.rv_fold.proofs.Settled.{walked-settled}
use Rattle.rv_fold.proofs.Turning.{BelowEight, below_eight}
use Rattle.rv_fold.proofs.Walking.{Seen, each_walk, none, total, walked, phase_fits}
use Rattle.rv_fold.proofs.Joining.{folded_walked, joined_at, restarted_here}
use Rattle.rv_fold.proofs.Neighbours.{Tidy, neighbours, walked_tidy}
use Rattle.rv_fold.proofs.Restarts.{restarts_least}

fit_all : (n : ℕ) (ops : List Op) → All (λ o. OpFitsIn o n) ops → AllFit n ops
fit_all n [] h = tt
fit_all n (o ∷ ops) h = (All-head (λ p. OpFitsIn p n) o ops h, fit_all n ops (All-tail (λ p. OpFitsIn p n) o ops h))

pub folded-amplitude : (n : ℕ) (ops : List Op) → All (λ o. OpFitsIn o n) ops → (x y : List Bool) → length x ≡ n → amplitude (folded n ops) x y ≡ amplitude ops x y
folded-amplitude n ops fit x y e = ap (λ l. amplitude l x y) (folded_walked n ops) ∙ walked-amplitude n ops x y (fit_all n ops fit) e

pub folded-h : (n : ℕ) (ops : List Op) → count_h (folded n ops) ≡ count_h ops
folded-h n ops = ap count_h (folded_walked n ops) ∙ walked-h n none alone ops

pub folded-length : (n : ℕ) (ops : List Op) → length (folded n ops) ≤ length ops
folded-length n ops = let e = ap length (folded_walked n ops) in let a = walked-length n ops in omega arith

pub folded-t : (n : ℕ) (ops : List Op) → count_by is_t (folded n ops) ≤ count_by is_t ops
folded-t n ops = subst (λ l. count_by is_t l ≤ count_by is_t ops) (sym (folded_walked n ops)) (walked-t n ops)

pub folded-three : (n : ℕ) (ops : List Op) → count_by has_three_lines (folded n ops) ≤ count_by has_three_lines ops
folded-three n ops =
    subst (λ l. count_by has_three_lines l ≤ count_by has_three_lines ops) (sym (folded_walked n ops)) (walked-three n ops)

pub folded-settled : (n : ℕ) (ops : List Op) → folded n (folded n ops) ≡ folded n ops
folded-settled n ops =
    folded_walked n (folded n ops) ∙ ap (walked n none alone) (folded_walked n ops) ∙ walked-settled n none alone ops ∙ sym (folded_walked n ops)

-- ---- the lines of operations stay lines

fit_append : (n : ℕ) (a b : List Op) → AllFit n a → AllFit n b → AllFit n (a ++ b)
fit_append n [] b h g = g
fit_append n (o ∷ a) b h g = (h.0, fit_append n a b h.1 g)

fit_phases : (n q s : ℕ) → q < n → BelowEight s → AllFit n (phase_ops q s)
fit_phases n q s h h2 = grind arith

walked-fits : (n : ℕ) (seen : Seen) (parities : Parities) (rest : List Op) → AllFit n rest → AllFit n (walked n seen parities rest)
walked-fits n = each_walk n (λ s f rest l. AllFit n rest → AllFit n l) (record {
  end = λ s f h. tt;
  other = λ s f o rest e ih h. (h.0, ih h.1);
  old = λ s f o rest p e old ih h. ih h.1;
  new = λ s f o rest p e new ih h.
      fit_append n _ _ (fit_phases n p.line ((p.exponent + total n (f p.line) f rest) % 8) (phase_fits n o p h.0 e) (below_eight _ (omega arith))) (ih h.1);
})

all_fit : (n : ℕ) (ops : List Op) → AllFit n ops → All (λ o. OpFitsIn o n) ops
all_fit n [] h = All-nil (λ o. OpFitsIn o n)
all_fit n (o ∷ ops) h = All-cons (λ p. OpFitsIn p n) o ops h.0 (all_fit n ops h.1)

pub folded-fits : (n : ℕ) (ops : List Op) → All (λ o. OpFitsIn o n) ops → All (λ o. OpFitsIn o n) (folded n ops)
folded-fits n ops fit = subst (λ l. All (λ o. OpFitsIn o n) l) (sym (folded_walked n ops)) (all_fit n _ (walked-fits n none alone ops (fit_all n ops fit)))

folded-tidy : (n : ℕ) (ops : List Op) → Tidy n (parities_at n (folded n ops) 0) (folded n ops)
unfolding parities_at
folded-tidy n ops = subst (Tidy n alone) (sym (folded_walked n ops)) (walked_tidy n none alone ops)

-- ---- all of it

pub folding_of : (net : Network) → IsNetwork net → IsFoldingOf net (folded_network net)
folding_of net valid = record {
  is = refl;
  valid = record {
    some = valid.some;
    few = valid.few;
    bounded = let a = folded-length net.lines net.ops in let b = valid.bounded in omega arith;
    fitting = folded-fits net.lines net.ops valid.fitting;
  };
  amplitudes = λ x y e. folded-amplitude net.lines net.ops valid.fitting x y e;
  hadamards = folded-h net.lines net.ops;
  operations = folded-length net.lines net.ops;
  t_gates = folded-t net.lines net.ops;
  three_lines = folded-three net.lines net.ops;
  joined = λ i j lt on. neighbours net.lines (folded net.lines net.ops) (folded net.lines net.ops) 0 (λ k. ap (slice_get (folded net.lines net.ops)) (let e : k ≡ k + 0 = omega arith in e)) (folded-tidy net.lines net.ops) i j (omega arith) lt (joined_at net.lines (folded net.lines net.ops) i j on);
  settled = λ i. record { lines = net.lines; ops = folded-settled net.lines net.ops i };
}

pub restarts_are_least : (n : ℕ) (ops : List Op) → RestartsLeast n ops
restarts_are_least n ops place o at =
    subst (IsLeastClosed n (parities_at n ops place) (direct o)) (sym (restarted_here n ops place o at)) (restarts_least n (parities_at n ops place) (direct o))
