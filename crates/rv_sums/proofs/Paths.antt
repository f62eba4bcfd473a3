-- What becomes of a sum over paths: one operation more, a shorter sum of the same value, and the end.
use Rattle.std.proofs.Common.{◌≡◌, ◌≢◌, ℕ, ◌+◌, ◌%◌, ◌<◌, ◌&&◌, Bool, true, false, cond, List, ◌∷◌, length, set, refl, sym, ap, ap₂, ◌∙◌, arith, length-set, get_or-set_same}
use Rattle.rv_gate.specs.Gate.{xor}
use Rattle.rv_net.specs.Amplitude.{amplitude}
use Rattle.rv_net.specs.Cyclotomic.{Cyclotomic, negated, plus, root2, times, times_w_power}
use Rattle.rv_net.specs.Op.{goes_to, phase_of}
use Rattle.rv_net.specs.declared.op.Op.{Op}
use Rattle.rv_net.specs.declared.op.Op.TheVariants.{X, Y, Z, H, S, Sdg, T, Tdg, Cx, Cz, Ccx, Swap, Cswap}
use Rattle.rv_net.proofs.Cyclotomic.{times_w_power-add, turns_add}
use Rattle.rv_net.proofs.Step.{Word, bit}
use Rattle.rv_sums.specs.inside.Paths.{is_h, over_paths, rooted}
use Rattle.rv_sums.proofs.Sums.{Lacks, join, same_sum, sum_constant, sum_set, turn_half}
use Rattle.rv_sums.proofs.Turns.{rooted_doubled, turns_four, turns_same}

-- ---- an operation that is no H

amplitude_step : (op : Op) (rest : List Op) (x z : Word) → is_h op ≡ false
    → amplitude (op ∷ rest) x z ≡ times_w_power (phase_of op x) (amplitude rest (goes_to op x) z)
unfolding amplitude
amplitude_step (H q) rest x z plain = cc
amplitude_step (X q) rest x z plain = refl
amplitude_step (Y q) rest x z plain = refl
amplitude_step (Z q) rest x z plain = refl
amplitude_step (S q) rest x z plain = refl
amplitude_step (Sdg q) rest x z plain = refl
amplitude_step (T q) rest x z plain = refl
amplitude_step (Tdg q) rest x z plain = refl
amplitude_step (Cx a b) rest x z plain = refl
amplitude_step (Cz a b) rest x z plain = refl
amplitude_step (Ccx a b c) rest x z plain = refl
amplitude_step (Swap a b) rest x z plain = refl
amplitude_step (Cswap c a b) rest x z plain = refl

pub step_taken : (op : Op) (rest : List Op) (z : Word) (power power2 : Word → ℕ) (ends ends2 : Word → Word) → is_h op ≡ false
    → ((v : Word) → length v ≡ 64 → ends2 v ≡ goes_to op (ends v))
    → ((v : Word) → length v ≡ 64 → power2 v % 8 ≡ (power v + phase_of op (ends v)) % 8)
    → over_paths power ends (op ∷ rest) z ≡ over_paths power2 ends2 rest z
step_taken op rest z power power2 ends ends2 plain goes turns =
    same_sum 64 _ _ (λ v e.
    ap (times_w_power (power v)) (amplitude_step op rest (ends v) z plain)
    ∙ turns_add (power v) (phase_of op (ends v)) _
    ∙ turns_same (power v + phase_of op (ends v)) (power2 v) _ (sym (turns v e))
    ∙ ap (λ u. times_w_power (power2 v) (amplitude rest u z)) (sym (goes v e)))

-- ---- H, with a path bit that stands nowhere

minus : (b : Bool) (u : Cyclotomic) → cond b (negated u) u ≡ times_w_power (cond b 4 0) u
unfolding times_w_power
minus true u = sym (turns_four u)
minus false u = refl

h_at : (q : ℕ) (rest : List Op) (p : ℕ) (x z : Word)
    → times_w_power p (amplitude (H q ∷ rest) x z)
    ≡ plus (times_w_power p (amplitude rest (set x q false) z)) (times_w_power (p + cond (bit x q) 4 0) (amplitude rest (set x q true) z))
unfolding amplitude
h_at q rest p x z =
    ap (λ u. times_w_power p (plus (amplitude rest (set x q false) z) u)) (minus (bit x q) (amplitude rest (set x q true) z))
    ∙ times_w_power-add p _ _
    ∙ ap (plus (times_w_power p (amplitude rest (set x q false) z))) (turns_add p (cond (bit x q) 4 0) _)

pub h_taken : (q y : ℕ) (rest : List Op) (z : Word) (power power2 : Word → ℕ) (ends ends2 : Word → Word) → y < 64
    → Lacks 64 y power → Lacks 64 y ends
    → ((v : Word) → length v ≡ 64 → ends2 v ≡ set (ends v) q (bit v y))
    → ((v : Word) → length v ≡ 64 → power2 v % 8 ≡ (power v + cond (bit v y && bit (ends v) q) 4 0) % 8)
    → over_paths power ends (H q ∷ rest) z ≡ plus (over_paths power2 ends2 rest z) (over_paths power2 ends2 rest z)
h_taken q y rest z power power2 ends ends2 lt free_power free_ends goes turns =
    let at : (v : Word) (b : Bool) → length v ≡ 64
    → times_w_power (power2 (set v y b)) (amplitude rest (ends2 (set v y b)) z)
    ≡ times_w_power (power v + cond (b && bit (ends v) q) 4 0) (amplitude rest (set (ends v) q b) z) = λ v b e.
    let w : Word = set v y b in
    let len : length w ≡ 64 = length-set v y b ∙ e in
    let is_b : bit w y ≡ b = get_or-set_same v y b false (omega arith) in
    ap (λ u. times_w_power (power2 w) (amplitude rest u z)) (goes w len ∙ ap₂ (λ u c. set u q c) (free_ends v b e) is_b)
    ∙ turns_same (power2 w) (power v + cond (b && bit (ends v) q) 4 0) _
    (turns w len ∙ ap (λ n. n % 8) (ap₂ (λ n c. n + cond c 4 0) (free_power v b e) (ap₂ (λ c u. c && bit u q) is_b (free_ends v b e)))) in
    sym (sum_set 64 y _ lt
    ∙ same_sum 64 _ _ (λ v e.
    ap₂ plus (at v false e ∙ ap (λ n. times_w_power n (amplitude rest (set (ends v) q false) z)) (let none : power v + 0 ≡ power v = omega arith in none)) (at v true e)
    ∙ sym (h_at q rest (power v) (ends v) z)))

-- ---- shorter sums

pub joined : (y p : ℕ) (rest : List Op) (z : Word) (power left power2 : Word → ℕ) (ends ends2 : Word → Word) (q : Word → Bool)
    → y < 64 → p < 64 → y ≢ p → Lacks 64 y left → Lacks 64 y ends → Lacks 64 y q → Lacks 64 p q
    → ((v : Word) → length v ≡ 64 → power v % 8 ≡ (left v + cond (bit v y && xor (bit v p) (q v)) 4 0) % 8)
    → ((v : Word) → length v ≡ 64 → power2 v % 8 ≡ left (set v p (q v)) % 8)
    → ((v : Word) → length v ≡ 64 → ends2 v ≡ ends (set v p (q v)))
    → plus (over_paths power ends rest z) (over_paths power ends rest z) ≡ over_paths power2 ends2 rest z
joined y p rest z power left power2 ends ends2 q ly lp apart free_left free_ends free_q other_q is turns goes =
    join 64 y p _ (λ v. times_w_power (left v) (amplitude rest (ends v) z)) q ly lp apart
    (λ v b e. ap₂ (λ n u. times_w_power n (amplitude rest u z)) (free_left v b e) (free_ends v b e)) free_q other_q
    (λ v e.
    turns_same (power v) (cond (bit v y && xor (bit v p) (q v)) 4 0 + left v) _
    (is v e ∙ ap (λ n. n % 8) (let turn : left v + cond (bit v y && xor (bit v p) (q v)) 4 0 ≡ cond (bit v y && xor (bit v p) (q v)) 4 0 + left v = omega arith in turn))
    ∙ sym (turns_add (cond (bit v y && xor (bit v p) (q v)) 4 0) (left v) _))
    ∙ same_sum 64 _ _ (λ v e.
    turns_same (left (set v p (q v))) (power2 v) _ (sym (turns v e))
    ∙ ap (λ u. times_w_power (power2 v) (amplitude rest u z)) (sym (goes v e)))

pub half_turned : (y : ℕ) (rest : List Op) (z : Word) (power left power2 : Word → ℕ) (ends : Word → Word) (q : Word → Bool)
    → y < 64 → Lacks 64 y left → Lacks 64 y ends → Lacks 64 y q
    → ((v : Word) → length v ≡ 64 → power v % 8 ≡ (left v + cond (bit v y) (cond (q v) 6 2) 0) % 8)
    → ((v : Word) → length v ≡ 64 → power2 v % 8 ≡ (left v + cond (q v) 7 1) % 8)
    → plus (over_paths power ends rest z) (over_paths power ends rest z) ≡ times root2 (over_paths power2 ends rest z)
half_turned y rest z power left power2 ends q ly free_left free_ends free_q is turns =
    turn_half 64 y _ (λ v. times_w_power (left v) (amplitude rest (ends v) z)) q ly
    (λ v b e. ap₂ (λ n u. times_w_power n (amplitude rest u z)) (free_left v b e) (free_ends v b e)) free_q
    (λ v e.
    turns_same (power v) (cond (bit v y) (cond (q v) 6 2) 0 + left v) _
    (is v e ∙ ap (λ n. n % 8) (let turn : left v + cond (bit v y) (cond (q v) 6 2) 0 ≡ cond (bit v y) (cond (q v) 6 2) 0 + left v = omega arith in turn))
    ∙ sym (turns_add (cond (bit v y) (cond (q v) 6 2) 0) (left v) _))
    ∙ ap (times root2) (same_sum 64 _ _ (λ v e.
    turns_add (cond (q v) 7 1) (left v) _
    ∙ turns_same (cond (q v) 7 1 + left v) (power2 v) _
    (ap (λ n. n % 8) (let turn : cond (q v) 7 1 + left v ≡ left v + cond (q v) 7 1 = omega arith in turn) ∙ sym (turns v e))))

-- ---- each path is at one word, with one power

pub ended : (rest : List Op) (z u : Word) (p : ℕ) (power : Word → ℕ) (ends : Word → Word)
    → ((v : Word) → length v ≡ 64 → ends v ≡ u) → ((v : Word) → length v ≡ 64 → power v % 8 ≡ p % 8)
    → over_paths power ends rest z ≡ rooted 128 (times_w_power p (amplitude rest u z))
ended rest z u p power ends goes turns =
    same_sum 64 _ (λ v. times_w_power p (amplitude rest u z)) (λ v e.
    turns_same (power v) p _ (turns v e) ∙ ap (λ w. times_w_power p (amplitude rest w z)) (goes v e))
    ∙ sum_constant 64 _ ∙ sym (rooted_doubled 64 _)
