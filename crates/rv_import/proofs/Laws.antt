-- The operations of calls have exactly the amplitudes of the calls.
use Rattle.std.proofs.Common.{◌≡◌, ℕ, zero, suc, ◌+◌, ◌<◌, ◌≤◌, Bool, true, false, cond, ◌&&◌, List, [], ◌∷◌, ◌++◌, length, set, refl, sym, ap, subst, ◌∙◌, arith, length-set, All, take, get_or, append-nil, append_assoc}
use Rattle.std.proofs.lemmas.List.{take_more}
use Rattle.std.proofs.lemmas.List.Elements.{All-append, All-cons, All-head, All-nil, All-tail}
use Rattle.rv_gate.specs.Word.{bit_of}
use Rattle.rv_net.specs.Cyclotomic.{Cyclotomic, negated, plus, times_w_power}
use Rattle.rv_net.specs.Amplitude.{amplitude, count_h}
use Rattle.rv_net.specs.Op.{goes_to, Network, phase_of}
use Rattle.rv_net.specs.declared.op.Op.{Op}
use Rattle.rv_net.specs.declared.op.Op.TheVariants.{X, Y, Z, H, S, Sdg, T, Tdg, Cx, Cz, Ccx, Swap, Cswap}
use Rattle.rv_net.proofs.Cyclotomic.{root2_twice}
use Rattle.rv_net.proofs.inside.Network.{count_h-append}
use Rattle.rv_angles.specs.Exact.{AreQubits, IsExact, twice_over}
use Rattle.rv_angles.specs.Matrix.{entry_times}
use Rattle.rv_angles.specs.Ops.{ops_on, phase_ops, zero_ops}
use Rattle.rv_angles.specs.Standard.{controlled_sum, gate_sum, matrix_of, matrix_sum, qubits_of}
use Rattle.rv_angles.specs.declared.matrix.Matrix.{Matrix}
use Rattle.rv_angles.specs.declared.gate.Gate.{Gate}
use Rattle.rv_angles.specs.declared.form.Form.{Form}
use Rattle.rv_import.specs.declared.call.Call.{Call}
use Rattle.rv_import.specs.declared.call.Call.TheVariants.{Plain, Standard}
use Rattle.rv_import.specs.Calls.{call_ops, call_roots, call_sum, calls_amplitude, calls_ops, IsExactNet, IsRight, op_sum, qubits_in, rooted, roots_of}
use Rattle.rv_import.proofs.Roots.{alike_entry, alike_negated, alike_power, alike_sum, rooted_more, rooted_nought}

abbrev Word : Type 0
Word = List Bool

-- ---- what is alike after a call is alike before it

-- for all words of this length
abbrev AreAlike : ℕ → ℕ → (Word → Cyclotomic) → (Word → Cyclotomic) → Word → Type 0
AreAlike a b k l x = (v : Word) → length v ≡ length x → rooted a (k v) ≡ rooted b (l v)

goes-length : (op : Op) (x : Word) → length (goes_to op x) ≡ length x
goes-length op x = grind (arith, length-set, bit_of)

moved-alike : (a b p : ℕ) (op : Op) (k l : Word → Cyclotomic) (x : Word) → AreAlike a b k l x
    → rooted a (times_w_power p (k (goes_to op x))) ≡ rooted b (times_w_power p (l (goes_to op x)))
moved-alike a b p op k l x h = alike_power a b p (k (goes_to op x)) (l (goes_to op x)) (h (goes_to op x) (goes-length op x))

op-alike : (a b : ℕ) (op : Op) (k l : Word → Cyclotomic) (x : Word) → AreAlike a b k l x → rooted a (op_sum op k x) ≡ rooted b (op_sum op l x)
op-alike a b (H q) k l x h =
    alike_sum a b (k (set x q false)) (l (set x q false)) _ _ (h (set x q false) (length-set x q false)) (by (bit_of x q))
  where
    one : rooted a (k (set x q true)) ≡ rooted b (l (set x q true))
    one = h (set x q true) (length-set x q true)

    by : (t : Bool) → rooted a (cond t (negated (k (set x q true))) (k (set x q true))) ≡ rooted b (cond t (negated (l (set x q true))) (l (set x q true)))
    by true = alike_negated a b (k (set x q true)) (l (set x q true)) one
    by false = one
op-alike a b (X q) k l x h = moved-alike a b (phase_of (X q) x) (X q) k l x h
op-alike a b (Y q) k l x h = moved-alike a b (phase_of (Y q) x) (Y q) k l x h
op-alike a b (Z q) k l x h = moved-alike a b (phase_of (Z q) x) (Z q) k l x h
op-alike a b (S q) k l x h = moved-alike a b (phase_of (S q) x) (S q) k l x h
op-alike a b (Sdg q) k l x h = moved-alike a b (phase_of (Sdg q) x) (Sdg q) k l x h
op-alike a b (T q) k l x h = moved-alike a b (phase_of (T q) x) (T q) k l x h
op-alike a b (Tdg q) k l x h = moved-alike a b (phase_of (Tdg q) x) (Tdg q) k l x h
op-alike a b (Cx c t) k l x h = moved-alike a b (phase_of (Cx c t) x) (Cx c t) k l x h
op-alike a b (Cz c t) k l x h = moved-alike a b (phase_of (Cz c t) x) (Cz c t) k l x h
op-alike a b (Ccx c d t) k l x h = moved-alike a b (phase_of (Ccx c d t) x) (Ccx c d t) k l x h
op-alike a b (Swap s t) k l x h = moved-alike a b (phase_of (Swap s t) x) (Swap s t) k l x h
op-alike a b (Cswap c s t) k l x h = moved-alike a b (phase_of (Cswap c s t) x) (Cswap c s t) k l x h

matrix-alike : (a b : ℕ) (m : Matrix) (q : ℕ) (k l : Word → Cyclotomic) (x : Word) → AreAlike a b k l x
    → rooted a (matrix_sum m q k x) ≡ rooted b (matrix_sum m q l x)
matrix-alike a b m q k l x h = by (bit_of x q)
  where
    no : rooted a (k (set x q false)) ≡ rooted b (l (set x q false))
    no = h (set x q false) (length-set x q false)

    one : rooted a (k (set x q true)) ≡ rooted b (l (set x q true))
    one = h (set x q true) (length-set x q true)

    by : (t : Bool)
        → rooted a (cond t (plus (entry_times m.e01 (k (set x q false))) (entry_times m.e11 (k (set x q true)))) (plus (entry_times m.e00 (k (set x q false))) (entry_times m.e10 (k (set x q true)))))
        ≡ rooted b (cond t (plus (entry_times m.e01 (l (set x q false))) (entry_times m.e11 (l (set x q true)))) (plus (entry_times m.e00 (l (set x q false))) (entry_times m.e10 (l (set x q true)))))
    by true = alike_sum a b _ _ _ _ (alike_entry a b m.e01 _ _ no) (alike_entry a b m.e11 _ _ one)
    by false = alike_sum a b _ _ _ _ (alike_entry a b m.e00 _ _ no) (alike_entry a b m.e10 _ _ one)

controlled-alike : (a b : ℕ) (c : Bool) (m : Matrix) (q : ℕ) (k l : Word → Cyclotomic) (x : Word) → AreAlike a b k l x
    → rooted a (controlled_sum c m q k x) ≡ rooted b (controlled_sum c m q l x)
controlled-alike a b true m q k l x h = matrix-alike a b m q k l x h
controlled-alike a b false m q k l x h = alike_sum a b (k x) (l x) (k x) (l x) (h x refl) (h x refl)

gate-alike : (a b : ℕ) (g : Gate) (qubits : List ℕ) (k l : Word → Cyclotomic) (x : Word) → AreAlike a b k l x
    → rooted a (gate_sum g qubits k x) ≡ rooted b (gate_sum g qubits l x)
gate-alike a b g [] k l x h = rooted_nought a ∙ sym (rooted_nought b)
gate-alike a b g (q ∷ []) k l x h = matrix-alike a b (matrix_of g) q k l x h
gate-alike a b g (c ∷ q ∷ []) k l x h = controlled-alike a b (bit_of x c) (matrix_of g) q k l x h
gate-alike a b g (c ∷ d ∷ q ∷ []) k l x h = controlled-alike a b (bit_of x c && bit_of x d) (matrix_of g) q k l x h
gate-alike a b g (c ∷ d ∷ q ∷ e ∷ more) k l x h = rooted_nought a ∙ sym (rooted_nought b)

-- ---- the H of a form

no_h : (p q : ℕ) → count_h (phase_ops p q) ≡ 0
unfolding count_h
no_h p q = grind arith

no_h_zero : (p q : ℕ) → count_h (zero_ops p q) ≡ 0
unfolding count_h
no_h_zero p q = grind (arith, count_h-append, no_h)

few_h : (form : Form) (qubits : List ℕ) → count_h (ops_on form qubits) ≤ 2
unfolding count_h
few_h form qubits = grind (arith, count_h-append, no_h, no_h_zero)

with_h : (c : ℕ) (u : Cyclotomic) → c ≤ 2 → rooted c (twice_over c u) ≡ rooted 2 u
unfolding rooted
with_h zero u h = sym (root2_twice u)
with_h (suc zero) u h = refl
with_h (suc (suc zero)) u h = refl
with_h (suc (suc (suc c))) u h = absurd (omega (arith, h))

-- ---- one call, and all

regrouped : (m n k l : ℕ) (u : Cyclotomic) → m + n ≡ k + l → rooted m (rooted n u) ≡ rooted k (rooted l u)
regrouped m n k l u e = rooted_more m n u ∙ ap (λ d. rooted d u) e ∙ sym (rooted_more k l u)

amplitude-op : (op : Op) (rest : List Op) (x y : Word) → amplitude (op ∷ rest) x y ≡ op_sum op (λ v. amplitude rest v y) x
unfolding amplitude
amplitude-op (H q) rest x y = refl
amplitude-op (X q) rest x y = refl
amplitude-op (Y q) rest x y = refl
amplitude-op (Z q) rest x y = refl
amplitude-op (S q) rest x y = refl
amplitude-op (Sdg q) rest x y = refl
amplitude-op (T q) rest x y = refl
amplitude-op (Tdg q) rest x y = refl
amplitude-op (Cx c t) rest x y = refl
amplitude-op (Cz c t) rest x y = refl
amplitude-op (Ccx c d t) rest x y = refl
amplitude-op (Swap s t) rest x y = refl
amplitude-op (Cswap c s t) rest x y = refl

-- before operations that are alike
standard-exact : (g : Gate) (form : Form) (qubits : List ℕ) (roots : ℕ) (rest : List Op) (l : Word → Cyclotomic) (x y : Word)
    → IsExact g form → length qubits ≡ qubits_of g → AreQubits (length x) qubits
    → AreAlike roots (count_h rest) (λ v. amplitude rest v y) l x
    → rooted (2 + roots) (amplitude (ops_on form qubits ++ rest) x y) ≡ rooted (count_h (ops_on form qubits ++ rest)) (gate_sum g qubits l x)
standard-exact g form qubits roots rest l x y is n are h =
    let c = count_h (ops_on form qubits) in
    let u = amplitude (ops_on form qubits ++ rest) x y in
    let s = gate_sum g qubits (λ v. amplitude rest v y) x in
    sym (rooted_more 2 roots u)
    ∙ regrouped 2 roots roots 2 u (omega arith)
    ∙ ap (rooted roots) (sym (with_h c u (few_h form qubits)) ∙ ap (rooted c) (is.exact qubits rest x y n are))
    ∙ regrouped roots c c roots s (omega arith)
    ∙ ap (rooted c) (gate-alike roots (count_h rest) g qubits (λ v. amplitude rest v y) l x h)
    ∙ rooted_more c (count_h rest) (gate_sum g qubits l x)
    ∙ ap (λ d. rooted d (gate_sum g qubits l x)) (sym (count_h-append (ops_on form qubits) rest))

plain-exact : (op : Op) (roots : ℕ) (rest : List Op) (l : Word → Cyclotomic) (x y : Word)
    → AreAlike roots (count_h rest) (λ v. amplitude rest v y) l x
    → rooted (count_h (op ∷ []) + roots) (amplitude (op ∷ rest) x y) ≡ rooted (count_h (op ∷ rest)) (op_sum op l x)
plain-exact op roots rest l x y h =
    let c = count_h (op ∷ []) in
    sym (rooted_more c roots (amplitude (op ∷ rest) x y))
    ∙ ap (rooted c) (ap (rooted roots) (amplitude-op op rest x y) ∙ op-alike roots (count_h rest) op (λ v. amplitude rest v y) l x h)
    ∙ rooted_more c (count_h rest) (op_sum op l x)
    ∙ ap (λ d. rooted d (op_sum op l x)) (sym (count_h-append (op ∷ []) rest))

call-exact : (call : Call) (roots : ℕ) (rest : List Op) (l : Word → Cyclotomic) (x y : Word) → IsRight (length x) call
    → AreAlike roots (count_h rest) (λ v. amplitude rest v y) l x
    → rooted (call_roots call + roots) (amplitude (call_ops call ++ rest) x y) ≡ rooted (count_h (call_ops call ++ rest)) (call_sum call l x)
call-exact (Plain op) roots rest l x y right h = plain-exact op roots rest l x y h
call-exact (Standard g qubits) roots rest l x y right h =
    rw right.form_is (standard-exact g right.form (qubits_in qubits) roots rest l x y right.exact right.count right.apart h)

none-exact : (x y : Word) → rooted (roots_of []) (amplitude (calls_ops []) x y) ≡ rooted (count_h (calls_ops [])) (calls_amplitude [] x y)
unfolding amplitude count_h calls_amplitude roots_of calls_ops
none-exact x y = refl

pub calls-exact : (calls : List Call) (n : ℕ) (x y : Word) → length x ≡ n → All (IsRight n) calls
    → rooted (roots_of calls) (amplitude (calls_ops calls) x y) ≡ rooted (count_h (calls_ops calls)) (calls_amplitude calls x y)
unfolding roots_of calls_ops calls_amplitude
calls-exact [] n x y e right = none-exact x y
calls-exact (call ∷ calls) n x y e right =
    call-exact call (roots_of calls) (calls_ops calls) (λ v. calls_amplitude calls v y) x y
    (subst (λ m. IsRight m call) (sym e) (All-head (IsRight n) call calls right))
    (λ v f. calls-exact calls n v y (f ∙ e) (All-tail (IsRight n) call calls right))

-- ---- one call more

ops-append : (a b : List Call) → calls_ops (a ++ b) ≡ calls_ops a ++ calls_ops b
unfolding calls_ops
ops-append [] b = refl
ops-append (call ∷ a) b = ap (λ ops. call_ops call ++ ops) (ops-append a b) ∙ sym (append_assoc (call_ops call) (calls_ops a) (calls_ops b))

ops-one : (call : Call) → calls_ops (call ∷ []) ≡ call_ops call
unfolding calls_ops
ops-one call = append-nil (call_ops call)

pub ops-more : (calls : List Call) (i : ℕ) (d : Call) → i < length calls → calls_ops (take (i + 1) calls) ≡ calls_ops (take i calls) ++ call_ops (get_or calls i d)
ops-more calls i d h =
    ap calls_ops (take_more calls i d h) ∙ ops-append (take i calls) (get_or calls i d ∷ []) ∙ ap (λ ops. calls_ops (take i calls) ++ ops) (ops-one (get_or calls i d))

pub right-more : (n : ℕ) (calls : List Call) (i : ℕ) (d : Call) → i < length calls → All (IsRight n) (take i calls) → IsRight n (get_or calls i d) → All (IsRight n) (take (i + 1) calls)
right-more n calls i d h before right =
    subst (All (IsRight n)) (sym (take_more calls i d h))
    (All-append (IsRight n) (take i calls) (get_or calls i d ∷ []) before (All-cons (IsRight n) (get_or calls i d) [] right (All-nil (IsRight n))))

pub net-begun : (n : ℕ) (net : Network) → net ≡ record { lines = n; ops = [] } → net ≡ record { lines = n; ops = calls_ops [] }
unfolding calls_ops
net-begun n net e = e

pub net-exact : (calls : List Call) (n : ℕ) (net : Network) → net ≡ record { lines = n; ops = calls_ops calls } → All (IsRight n) calls → IsExactNet n calls net
net-exact calls n net e right = rw e (record { lines_are = refl; exact = λ x y is. calls-exact calls n x y is right })
