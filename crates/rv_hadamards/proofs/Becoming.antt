-- Operations that stand for others: laws of `Becomes`.
use Rattle.std.proofs.Common.{◌≡◌, ℕ, zero, suc, ◌+◌, ◌<◌, ◌≤◌, Bool, true, false, cond, eqb, List, [], ◌∷◌, ◌++◌, Some, None, refl, sym, ap, ◌∙◌, arith, subst, append_assoc, append-nil, length-append}
use Rattle.std.specs.Prelude.{All, count_by}
use Rattle.std.proofs.lemmas.List.Elements.{All-append, All-cons, All-head, All-nil, All-tail}
use Rattle.std.proofs.lemmas.List.Sums.{sum_by-append}
use Rattle.std.proofs.lemmas.Option.{same_Some}
use Rattle.rv_net.specs.declared.op.Op.{Op}
use Rattle.rv_net.specs.declared.op.Op.TheVariants.{X, Y, Z, H, S, Sdg, T, Tdg, Cx, Cz, Ccx, Swap, Cswap}
use Rattle.rv_net.specs.Amplitude.{amplitude, count_h}
use Rattle.rv_net.specs.Cyclotomic.{Cyclotomic, plus, doubled}
use Rattle.rv_net.specs.Op.{IsNetwork, Network, OpFitsIn, has_three_lines, is_t}
use Rattle.rv_net.proofs.Cyclotomic.{doubled-more, doubled-none}
use Rattle.rv_net.proofs.Frame.{amp-append, through, through-local}
use Rattle.rv_net.proofs.Matrix.{step-sum}
use Rattle.rv_net.proofs.Networks.{count_t-append}
use Rattle.rv_net.proofs.Step.{Word, amp, same_amp, step}
use Rattle.rv_net.proofs.inside.Network.{count_h-append}
use Rattle.rv_pairs.specs.Cancelled.{Keeps}
use Rattle.rv_pairs.proofs.Undoing.{undone}
use Rattle.rv_hadamards.specs.Becomes.{Becomes}
use Rattle.rv_hadamards.specs.Turned.{exchanged, is_on, turned}
use Rattle.rv_hadamards.proofs.Exchanging.{taken, turns}

-- ---- one after the other

pub itself : (n : ℕ) (ops : List Op) → Becomes n ops ops
itself n ops = record {
  pairs = 0;
  amplitudes = λ rest x y e. sym (doubled-none _);
  hadamards = omega arith;
  operations = omega arith;
  t_gates = omega arith;
  three_lines = omega arith;
  fitting = λ all. all;
}

pub then_becomes : (n : ℕ) (old mid new : List Op) → Becomes n old mid → Becomes n mid new → Becomes n old new
then_becomes n old mid new first second = record {
  pairs = first.pairs + second.pairs;
  amplitudes = λ rest x y e.
      first.amplitudes rest x y e ∙ ap (doubled first.pairs) (second.amplitudes rest x y e)
      ∙ doubled-more first.pairs second.pairs _;
  hadamards = omega (arith, first.hadamards, second.hadamards);
  operations = omega (arith, first.operations, second.operations);
  t_gates = omega (arith, first.t_gates, second.t_gates);
  three_lines = omega (arith, first.three_lines, second.three_lines);
  fitting = λ all. second.fitting (first.fitting all);
}

-- ---- between other operations

step-doubled : (o : Op) (m : ℕ) (k : Word → Cyclotomic) (x : Word) → step o (λ v. doubled m (k v)) x ≡ doubled m (step o k x)
unfolding doubled
step-doubled o zero k x = refl
step-doubled o (suc m) k x =
    step-sum o (λ v. doubled m (k v)) (λ v. doubled m (k v)) x ∙ (λ i. plus (step-doubled o m k x i) (step-doubled o m k x i))

through-doubled : (ops : List Op) (m : ℕ) (k : Word → Cyclotomic) (x : Word) → through ops (λ v. doubled m (k v)) x ≡ doubled m (through ops k x)
unfolding through
through-doubled [] m k x = refl
through-doubled (o ∷ ops) m k x = (λ i. step o (λ v. through-doubled ops m k v i) x) ∙ step-doubled o m (λ v. through ops k v) x

pub amplitude-after : (before ops : List Op) (x y : Word) → amplitude (before ++ ops) x y ≡ through before (λ v. amplitude ops v y) x
amplitude-after before ops x y =
    sym (same_amp (before ++ ops) x y) ∙ amp-append before ops x y ∙ (λ i. through before (λ v. same_amp ops v y i) x)

pub All-left : {A : Type 0} (P : A → Type 0) (a b : List A) → All P (a ++ b) → All P a
All-left P [] b h = All-nil P
All-left P (o ∷ a) b h = All-cons P o a (All-head P o (a ++ b) h) (All-left P a b (All-tail P o (a ++ b) h))

pub All-right : {A : Type 0} (P : A → Type 0) (a b : List A) → All P (a ++ b) → All P b
All-right P [] b h = h
All-right P (o ∷ a) b h = All-right P a b (All-tail P o (a ++ b) h)

three-append : (a b : List Op) → count_by has_three_lines (a ++ b) ≡ count_by has_three_lines a + count_by has_three_lines b
three-append a b = sum_by-append (λ o. cond (has_three_lines o) 1 0) a b

pub before_becomes : (n : ℕ) (before old new : List Op) → Becomes n old new → Becomes n (before ++ old) (before ++ new)
before_becomes n before old new b = record {
  pairs = b.pairs;
  amplitudes = λ rest x y e.
      ap (λ l. amplitude l x y) (append_assoc before old rest)
      ∙ amplitude-after before (old ++ rest) x y
      ∙ through-local before (λ v. amplitude (old ++ rest) v y) (λ v. doubled b.pairs (amplitude (new ++ rest) v y)) x (λ v g. b.amplitudes rest v y (g ∙ e))
      ∙ through-doubled before b.pairs (λ v. amplitude (new ++ rest) v y) x
      ∙ ap (doubled b.pairs) (sym (amplitude-after before (new ++ rest) x y) ∙ ap (λ l. amplitude l x y) (sym (append_assoc before new rest)));
  hadamards = omega (arith, b.hadamards, count_h-append before old, count_h-append before new);
  operations = omega (arith, b.operations, length-append before old, length-append before new);
  t_gates = omega (arith, b.t_gates, count_t-append before old, count_t-append before new);
  three_lines = omega (arith, b.three_lines, three-append before old, three-append before new);
  fitting = λ all.
      All-append (λ op. OpFitsIn op n) before new (All-left (λ op. OpFitsIn op n) before old all) (b.fitting (All-right (λ op. OpFitsIn op n) before old all));
}

pub becomes_before : (n : ℕ) (old new after : List Op) → Becomes n old new → Becomes n (old ++ after) (new ++ after)
becomes_before n old new after b = record {
  pairs = b.pairs;
  amplitudes = λ rest x y e.
      ap (λ l. amplitude l x y) (append_assoc old after rest)
      ∙ b.amplitudes (after ++ rest) x y e
      ∙ ap (λ l. doubled b.pairs (amplitude l x y)) (sym (append_assoc new after rest));
  hadamards = omega (arith, b.hadamards, count_h-append old after, count_h-append new after);
  operations = omega (arith, b.operations, length-append old after, length-append new after);
  t_gates = omega (arith, b.t_gates, count_t-append old after, count_t-append new after);
  three_lines = omega (arith, b.three_lines, three-append old after, three-append new after);
  fitting = λ all.
      All-append (λ op. OpFitsIn op n) new after (b.fitting (All-left (λ op. OpFitsIn op n) old after all)) (All-right (λ op. OpFitsIn op n) old after all);
}

-- ---- two H go

pub two_go : (n line : ℕ) → line < n → Becomes n (H line ∷ H line ∷ []) []
unfolding amp count_h
two_go n line below = record {
  pairs = 1;
  amplitudes = λ rest x y e.
      sym (same_amp (H line ∷ H line ∷ rest) x y)
      ∙ undone (H line) (λ v. amp rest v y) x (subst (λ m. line < m) (sym e) below)
      ∙ ap (doubled 1) (same_amp rest x y);
  hadamards = omega arith;
  operations = omega arith;
  t_gates = omega arith;
  three_lines = omega arith;
  fitting = λ all. All-nil (λ op. OpFitsIn op n);
}

-- ---- an H moves

record IsLike (n : ℕ) (op other : Op) : Type 0 where
  hadamards : count_h (other ∷ []) ≡ count_h (op ∷ [])
  t_gates : is_t other ≡ is_t op
  three_lines : has_three_lines other ≡ has_three_lines op
  fits : OpFitsIn op n → OpFitsIn other n

itself_like : (n : ℕ) (op : Op) → IsLike n op op
itself_like n op = record { hadamards = refl; t_gates = refl; three_lines = refl; fits = λ h. h }

like : (n : ℕ) (op other u : Op) → other ≡ u → IsLike n op u → IsLike n op other
like n op other u e is = subst (λ (o : Op). IsLike n op o) (sym e) is

exchanged_like : (n line : ℕ) (op other : Op) → exchanged line op ≡ Some other → IsLike n op other
unfolding count_h
exchanged_like n line (X q) other e = like n (X q) other (Z q) (taken (eqb line q) (Z q) other e).1 (record { hadamards = refl; t_gates = refl; three_lines = refl; fits = λ h. h })
exchanged_like n line (Z q) other e = like n (Z q) other (X q) (taken (eqb line q) (X q) other e).1 (record { hadamards = refl; t_gates = refl; three_lines = refl; fits = λ h. h })
exchanged_like n line (Cx a b) other e =
    like n (Cx a b) other (Cz a b) (taken (eqb line b) (Cz a b) other e).1 (record { hadamards = refl; t_gates = refl; three_lines = refl; fits = λ h. h })
exchanged_like n line (Cz a b) other e = by (eqb line b) e
  where
    by : (c : Bool) → cond c (Some (Cx a b)) (cond (eqb line a) (Some (Cx b a)) None) ≡ Some other → IsLike n (Cz a b) other
    by true f = like n (Cz a b) other (Cx a b) (sym (same_Some _ _ f)) (record { hadamards = refl; t_gates = refl; three_lines = refl; fits = λ h. h })
    by false f =
        like n (Cz a b) other (Cx b a) (taken (eqb line a) (Cx b a) other f).1
        (record { hadamards = refl; t_gates = refl; three_lines = refl; fits = λ h. (h.1, h.0, (λ g. h.2 (sym g))) })
exchanged_like n line (Y q) other e = absurd (let f : ⊥ = cc in f)
exchanged_like n line (H q) other e = absurd (let f : ⊥ = cc in f)
exchanged_like n line (S q) other e = absurd (let f : ⊥ = cc in f)
exchanged_like n line (Sdg q) other e = absurd (let f : ⊥ = cc in f)
exchanged_like n line (T q) other e = absurd (let f : ⊥ = cc in f)
exchanged_like n line (Tdg q) other e = absurd (let f : ⊥ = cc in f)
exchanged_like n line (Ccx a b c) other e = absurd (let f : ⊥ = cc in f)
exchanged_like n line (Swap a b) other e = absurd (let f : ⊥ = cc in f)
exchanged_like n line (Cswap c a b) other e = absurd (let f : ⊥ = cc in f)

turned_like : (n line : ℕ) (op other : Op) → turned line op ≡ Some other → IsLike n op other
turned_like n line op other e = by (is_on line op) e
  where
    by : (b : Bool) → cond b (exchanged line op) (Some op) ≡ Some other → IsLike n op other
    by true f = exchanged_like n line op other f
    by false f = like n op other op (sym (same_Some _ _ f)) (itself_like n op)

counted : (p : Op → Bool) (a b c d : Op) → p a ≡ p d → p b ≡ p c → count_by p (a ∷ b ∷ []) ≤ count_by p (c ∷ d ∷ [])
counted p a b c d e f =
    let one : cond {A = ℕ} (p a) 1 0 ≡ cond (p d) 1 0 = ap (λ s. cond s 1 0) e in
    let two : cond {A = ℕ} (p b) 1 0 ≡ cond (p c) 1 0 = ap (λ s. cond s 1 0) f in
    omega (arith, one, two)

pub moves_on : (n line : ℕ) (op other : Op) → turned line op ≡ Some other → line < n → OpFitsIn op n → Becomes n (H line ∷ op ∷ []) (other ∷ H line ∷ [])
unfolding amp
moves_on n line op other e below fits =
    let is = turned_like n line op other e in
    record {
      pairs = 0;
      amplitudes = λ rest x y len.
          sym (same_amp (H line ∷ op ∷ rest) x y)
          ∙ turns line op other e (λ v. amp rest v y) x (subst (λ m. line < m) (sym len) below) (subst (OpFitsIn op) (sym len) fits)
          ∙ same_amp (other ∷ H line ∷ rest) x y
          ∙ sym (doubled-none _);
      hadamards = omega (arith, count_h-append (H line ∷ []) (op ∷ []), count_h-append (other ∷ []) (H line ∷ []), is.hadamards);
      operations = omega arith;
      t_gates = counted is_t other (H line) (H line) op is.t_gates refl;
      three_lines = counted has_three_lines other (H line) (H line) op is.three_lines refl;
      fitting = λ all.
          All-cons (λ o. OpFitsIn o n) other (H line ∷ []) (is.fits fits) (All-cons (λ o. OpFitsIn o n) (H line) [] below (All-nil (λ o. OpFitsIn o n)));
    }

-- ---- a whole network

pub whole : (net result : Network) → IsNetwork net → result.lines ≡ net.lines → Becomes net.lines net.ops result.ops → Keeps net result
whole net result valid same b = record {
  pairs = b.pairs;
  lines = same;
  valid = record {
    some = omega (arith, valid.some, same);
    few = omega (arith, valid.few, same);
    bounded = omega (arith, valid.bounded, b.operations);
    fitting = subst (λ n. All (λ op. OpFitsIn op n) result.ops) (sym same) (b.fitting valid.fitting);
  };
  amplitudes = λ x y e.
      ap (λ l. amplitude l x y) (sym (append-nil net.ops)) ∙ b.amplitudes [] x y e ∙ ap (λ l. doubled b.pairs (amplitude l x y)) (append-nil result.ops);
  hadamards = b.hadamards;
  operations = b.operations;
  t_gates = b.t_gates;
  three_lines = b.three_lines;
}
