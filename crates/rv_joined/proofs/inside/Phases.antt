-- The operations of a phase multiply by its power where its parity is 1.
use Rattle.std.proofs.Common.{◌≡◌, ◌≢◌, ℕ, ◌+◌, ◌<◌, Bool, true, false, cond, not, List, [], ◌∷◌, ◌++◌, length, set, refl, sym, ap, ap₂, ◌∙◌, arith, eq-eqb, length-set, get_or-set_same, get_or-set_other, set-set}
use Rattle.std.proofs.lemmas.Bool.{false≢true}
use Rattle.std.proofs.lemmas.List.{set-get_or}
use Rattle.rv_gate.specs.Gate.{xor}
use Rattle.rv_gate.proofs.Bits.{not_not, xor_back}
use Rattle.rv_net.specs.Amplitude.{count_h}
use Rattle.rv_net.specs.Cyclotomic.{Cyclotomic, times_w_power}
use Rattle.rv_net.specs.declared.op.Op.{Op}
use Rattle.rv_net.specs.declared.op.Op.TheVariants.{X, Z, S, T, Cx}
use Rattle.rv_net.proofs.Frame.{through, through-append}
use Rattle.rv_net.proofs.Step.{Word, bit}
use Rattle.rv_net.proofs.Cyclotomic.{turns_add}
use Rattle.rv_ladder.proofs.inside.Fitting.{Fit, fit_append}
use Rattle.rv_joined.specs.Blocks.{digits, is_summed, maybe, phase_bit, phase_ops, phase_power, weight}
use Rattle.rv_joined.specs.declared.phase.Phase.{Phase}

-- ---- the digits

none : (b : Bool) → weight 0 b ≡ 0
none true = refl
none false = refl

abbrev Digit : ℕ → (ℕ → Op) → Type 0
Digit p op =
    (on : Bool) (q : ℕ) (k : Word → Cyclotomic) (x : Word)
    → through (maybe on (op q)) k x ≡ times_w_power (weight (weight p on) (bit x q)) (k x)

four_digit : Digit 4 Z
unfolding through times_w_power
four_digit true q k x = refl
four_digit false q k x = ap (λ n. times_w_power n (k x)) (sym (none (bit x q)))

two_digit : Digit 2 S
unfolding through times_w_power
two_digit true q k x = refl
two_digit false q k x = ap (λ n. times_w_power n (k x)) (sym (none (bit x q)))

one_digit : Digit 1 T
unfolding through times_w_power
one_digit true q k x = refl
one_digit false q k x = ap (λ n. times_w_power n (k x)) (sym (none (bit x q)))

weights : (a b c : ℕ) (bit : Bool) → weight a bit + (weight b bit + weight c bit) ≡ weight (a + (b + c)) bit
weights a b c true = refl
weights a b c false = refl

through-digits : (four two one : Bool) (q : ℕ) (k : Word → Cyclotomic) (x : Word)
    → through (digits four two one q) k x
    ≡ times_w_power (weight (weight 4 four + (weight 2 two + weight 1 one)) (bit x q)) (k x)
through-digits four two one q k x =
    let b : Bool = bit x q in
    let rest : List Op = maybe two (S q) ++ maybe one (T q) in
    through-append (maybe four (Z q)) rest k x
    ∙ four_digit four q (λ v. through rest k v) x
    ∙ ap (times_w_power (weight (weight 4 four) b))
    (through-append (maybe two (S q)) (maybe one (T q)) k x
    ∙ two_digit two q (λ v. through (maybe one (T q)) k v) x
    ∙ ap (times_w_power (weight (weight 2 two) b)) (one_digit one q k x)
    ∙ turns_add (weight (weight 2 two) b) (weight (weight 1 one) b) (k x))
    ∙ turns_add (weight (weight 4 four) b) (weight (weight 2 two) b + weight (weight 1 one) b) (k x)
    ∙ ap (λ n. times_w_power n (k x)) (weights (weight 4 four) (weight 2 two) (weight 1 one) b)

-- ---- between operations that undo themselves

-- operations multiply by a power of w, and move nothing
record Turns (n : ℕ) (ops : List Op) (power : Word → ℕ) : Type 0 where
  each : (k : Word → Cyclotomic) (x : Word) → length x ≡ n → through ops k x ≡ times_w_power (power x) (k x)

abbrev not_at : ℕ → Word → Word
not_at q x = set x q (not (bit x q))

abbrev sum_at : ℕ → ℕ → Word → Word
sum_at o q x = set x q (xor (bit x o) (bit x q))

not_twice : (q : ℕ) (x : Word) → q < length x → not_at q (not_at q x) ≡ x
not_twice q x lt =
    ap (λ b. set (not_at q x) q (not b)) (get_or-set_same x q _ false lt)
    ∙ set-set x q _ _ ∙ ap (set x q) (not_not (bit x q)) ∙ set-get_or x q false

sum_twice : (o q : ℕ) (x : Word) → o ≢ q → q < length x → sum_at o q (sum_at o q x) ≡ x
sum_twice o q x apart lt =
    ap₂ (λ a b. set (sum_at o q x) q (xor a b)) (get_or-set_other x q o _ false apart) (get_or-set_same x q _ false lt)
    ∙ set-set x q _ _ ∙ ap (set x q) (xor_back (bit x o) (bit x q)) ∙ set-get_or x q false

under_not : (n q : ℕ) (ops : List Op) (power : Word → ℕ) → q < n → Turns n ops power
    → Turns n (X q ∷ (ops ++ (X q ∷ []))) (λ x. power (not_at q x))
unfolding through times_w_power
under_not n q ops power lt t = record {
  each = λ k x e.
      let f = length-set x q (not (bit x q)) in
      through-append ops (X q ∷ []) k (not_at q x)
      ∙ t.each (λ v. through (X q ∷ []) k v) (not_at q x) (f ∙ e)
      ∙ ap (λ v. times_w_power (power (not_at q x)) (k v)) (not_twice q x (omega arith));
}

under_sum : (n o q : ℕ) (ops : List Op) (power : Word → ℕ) → o ≢ q → q < n → Turns n ops power
    → Turns n (Cx o q ∷ (ops ++ (Cx o q ∷ []))) (λ x. power (sum_at o q x))
unfolding through times_w_power
under_sum n o q ops power apart lt t = record {
  each = λ k x e.
      let f = length-set x q (xor (bit x o) (bit x q)) in
      through-append ops (Cx o q ∷ []) k (sum_at o q x)
      ∙ t.each (λ v. through (Cx o q ∷ []) k v) (sum_at o q x) (f ∙ e)
      ∙ ap (λ v. times_w_power (power (sum_at o q x)) (k v)) (sum_twice o q x apart (omega arith));
}

same_turns : (n : ℕ) (ops : List Op) (power other : Word → ℕ) → ((x : Word) → length x ≡ n → power x ≡ other x)
    → Turns n ops power → Turns n ops other
same_turns n ops power other same t = record {
  each = λ k x e. t.each k x e ∙ ap (λ p. times_w_power p (k x)) (same x e);
}

none_after : (ops : List Op) → ops ++ [] ≡ ops
none_after [] = refl
none_after (o ∷ ops) = ap (λ r. o ∷ r) (none_after ops)

negated : (b : Bool) → xor true b ≡ not b
negated true = refl
negated false = refl

kept : (b : Bool) → xor false b ≡ b
kept true = refl
kept false = refl

turned : (n q : ℕ) (ops : List Op) (w : ℕ) (on : Bool) → q < n → Turns n ops (λ x. weight w (bit x q))
    → Turns n (maybe on (X q) ++ (ops ++ maybe on (X q))) (λ x. weight w (xor on (bit x q)))
turned n q ops w true lt t =
    same_turns n _ _ _
    (λ x e. ap (weight w) (get_or-set_same x q (not (bit x q)) false (omega arith) ∙ sym (negated (bit x q))))
    (under_not n q ops (λ x. weight w (bit x q)) lt t)
turned n q ops w false lt t =
    same_turns n _ _ _ (λ x e. ap (weight w) (sym (kept (bit x q))))
    (record { each = λ k x e. ap (λ o. through o k x) (none_after ops) ∙ t.each k x e })

summed : (n o q : ℕ) (ops : List Op) (w : ℕ) (turn on : Bool) → (on ≡ true → o ≢ q) → q < n
    → Turns n ops (λ x. weight w (xor turn (bit x q)))
    → Turns n (maybe on (Cx o q) ++ (ops ++ maybe on (Cx o q)))
    (λ x. weight w (xor turn (cond on (xor (bit x o) (bit x q)) (bit x q))))
summed n o q ops w turn true apart lt t =
    same_turns n _ _ _
    (λ x e. ap (λ b. weight w (xor turn b)) (get_or-set_same x q (xor (bit x o) (bit x q)) false (omega arith)))
    (under_sum n o q ops (λ x. weight w (xor turn (bit x q))) (apart refl) lt t)
summed n o q ops w turn false apart lt t =
    record { each = λ k x e. ap (λ o. through o k x) (none_after ops) ∙ t.each k x e }

-- ---- a phase

append_thrice : (a b c : List Op) → (a ++ b) ++ c ≡ a ++ (b ++ c)
append_thrice [] b c = refl
append_thrice (o ∷ a) b c = ap (λ r. o ∷ r) (append_thrice a b c)

apart_if : (p : Phase) → is_summed p ≡ true → p.other ≢ p.line
apart_if p on e = false≢true (sym (ap not (eq-eqb p.line p.other (sym e))) ∙ on)

pub through-phase : (p : Phase) (k : Word → Cyclotomic) (x : Word) → p.line < length x
    → through (phase_ops p) k x ≡ times_w_power (weight (phase_power p) (phase_bit p x)) (k x)
through-phase p k x lt =
    let inner : List Op = digits p.four p.two p.one p.line in
    let x_on : List Op = maybe p.turned (X p.line) in
    let cx : List Op = maybe (is_summed p) (Cx p.other p.line) in
    let n : ℕ = length x in
    let t : Turns n inner (λ y. weight (phase_power p) (bit y p.line)) =
    record { each = λ m y e. through-digits p.four p.two p.one p.line m y } in
    let u = turned n p.line inner (phase_power p) p.turned lt t in
    let v = summed n p.other p.line (x_on ++ (inner ++ x_on)) (phase_power p) p.turned (is_summed p) (apart_if p) lt u in
    let shape : cx ++ (x_on ++ (inner ++ (x_on ++ cx))) ≡ cx ++ ((x_on ++ (inner ++ x_on)) ++ cx) =
    ap (λ r. cx ++ r) (ap (λ r. x_on ++ r) (sym (append_thrice inner x_on cx)) ∙ sym (append_thrice x_on (inner ++ x_on) cx)) in
    ap (λ o. through o k x) shape ∙ v.each k x refl

-- ---- no H, and lines that fit

count_digits : (four two one : Bool) (q : ℕ) (rest : List Op) → count_h (digits four two one q ++ rest) ≡ count_h rest
unfolding count_h
count_digits true true true q rest = refl
count_digits true true false q rest = refl
count_digits true false true q rest = refl
count_digits true false false q rest = refl
count_digits false true true q rest = refl
count_digits false true false q rest = refl
count_digits false false true q rest = refl
count_digits false false false q rest = refl

count_maybe : (on : Bool) (o q : ℕ) (rest : List Op) → count_h (maybe on (Cx o q) ++ rest) ≡ count_h rest
unfolding count_h
count_maybe true o q rest = refl
count_maybe false o q rest = refl

count_not : (on : Bool) (q : ℕ) (rest : List Op) → count_h (maybe on (X q) ++ rest) ≡ count_h rest
unfolding count_h
count_not true q rest = refl
count_not false q rest = refl

count_end : (on : Bool) (o q : ℕ) → count_h (maybe on (Cx o q)) ≡ 0
unfolding count_h
count_end true o q = refl
count_end false o q = refl

pub count_h-phase : (p : Phase) → count_h (phase_ops p) ≡ 0
count_h-phase p =
    count_maybe (is_summed p) p.other p.line _
    ∙ count_not p.turned p.line _
    ∙ count_digits p.four p.two p.one p.line _
    ∙ count_not p.turned p.line _
    ∙ count_end (is_summed p) p.other p.line

fit_maybe : (n : ℕ) (on : Bool) (op : Op) → (on ≡ true → Fit n (op ∷ [])) → Fit n (maybe on op)
fit_maybe n true op fit = fit refl
fit_maybe n false op fit = tt

pub fit_phase : (n : ℕ) (p : Phase) → p.line < n → p.other < n → Fit n (phase_ops p)
fit_phase n p line other =
    let cx : Fit n (maybe (is_summed p) (Cx p.other p.line)) =
    fit_maybe n (is_summed p) (Cx p.other p.line) (λ on. ((other, line, apart_if p on), tt)) in
    let x : Fit n (maybe p.turned (X p.line)) = fit_maybe n p.turned (X p.line) (λ on. (line, tt)) in
    let z : Fit n (maybe p.four (Z p.line)) = fit_maybe n p.four (Z p.line) (λ on. (line, tt)) in
    let s : Fit n (maybe p.two (S p.line)) = fit_maybe n p.two (S p.line) (λ on. (line, tt)) in
    let t : Fit n (maybe p.one (T p.line)) = fit_maybe n p.one (T p.line) (λ on. (line, tt)) in
    fit_append n _ _ cx
    (fit_append n _ _ x (fit_append n _ _ (fit_append n _ _ z (fit_append n _ _ s t)) (fit_append n _ _ x cx)))
