-- A flip over free lines, whatever its controls want, is the flip.
use Rattle.std.proofs.Common.{◌≡◌, ◌≢◌, ℕ, suc, ◌+◌, ◌*◌, ◌<◌, Bool, true, false, not, cond, List, [], ◌∷◌, ◌++◌, length, map, set, refl, sym, ◌∙◌, ap, inl, inr, arith, length-set, get_or-set_same, get_or-set_other, set-set, subst}
use Rattle.std.proofs.lemmas.List.{set_comm, set-get_or}
use Rattle.rv_gate.specs.Gate.{same}
use Rattle.rv_gate.specs.Word.{has}
use Rattle.rv_gate.proofs.Bits.{not_not}
use Rattle.rv_mct.specs.Blocks.{control}
use Rattle.rv_mct.specs.declared.control.Control.{Control}
use Rattle.rv_gate.specs.Every.{Every}
use Rattle.rv_mct.specs.inside.LadderLines.{Distinct, In}
use Rattle.rv_mct.proofs.inside.Ladders.{met as met_one, put, off_on}
use Rattle.rv_net.specs.declared.op.Op.{Op}
use Rattle.rv_net.specs.declared.op.Op.TheVariants.{X}
use Rattle.rv_net.specs.Amplitude.{count_h}
use Rattle.rv_net.specs.Cyclotomic.{Cyclotomic, times_w_power, doubled}
use Rattle.rv_net.specs.Network.{on_zero, toffoli}
use Rattle.rv_net.proofs.Step.{Word, bit}
use Rattle.rv_net.proofs.Frame.{through, through-append}
use Rattle.rv_net.proofs.inside.Network.{count_h-append}
use Rattle.rv_net.proofs.Toffoli.{through-toffoli}
use Rattle.rv_ladder.specs.Ladder.{borrowed_flip, zeros}
use Rattle.rv_ladder.specs.inside.Moved.{Divides, met}
use Rattle.rv_ladder.proofs.Counting.{hadamards-are}
use Rattle.rv_ladder.proofs.inside.Fitting.{Fit, fit_append, fit_borrowed, fit_zeros}
use Rattle.rv_ladder.proofs.inside.Ladders.{through-borrowed}
use Rattle.rv_net.proofs.Cyclotomic.{doubled-more}

-- ---- networks that move words, with a root of two for each H

pub record Runs (ok : Word → Type 0) (ops : List Op) (p : Word → Word) : Type 0 where
  pub twos : ℕ
  pub each : (k : Word → Cyclotomic) (x : Word) → ok x → through ops k x ≡ doubled twos (k (p x))
  pub counted : count_h ops ≡ 2 * twos
  pub fitting : (x : Word) → ok x → Fit (length x) ops

pub runs_then : (ok : Word → Type 0) (a b : List Op) (p q : Word → Word) → Runs ok a p → Runs ok b q → ((x : Word) → ok x → ok (p x)) → Runs ok (a ++ b) (λ x. q (p x))
runs_then ok a b p q r s kept = record {
  twos = r.twos + s.twos;
  each = λ k x o.
      through-append a b k x ∙ r.each (λ v. through b k v) x o ∙ ap (doubled r.twos) (s.each k (p x) (kept x o)) ∙ doubled-more r.twos s.twos (k (q (p x)));
  counted = omega (arith, count_h-append a b, r.counted, s.counted);
  fitting = λ x o. fit_append (length x) a b (r.fitting x o) (s.fitting x o);
}

pub runs_as : (ok : Word → Type 0) (ops : List Op) (p q : Word → Word) → Runs ok ops p → ((x : Word) → ok x → p x ≡ q x) → Runs ok ops q
runs_as ok ops p q r same_at = record { twos = r.twos; each = λ k x o. r.each k x o ∙ ap (λ w. doubled r.twos (k w)) (same_at x o); counted = r.counted; fitting = r.fitting }

abbrev pub HasLength : ℕ → Word → Type 0
HasLength n x = length x ≡ n

pub runs_borrowed : (n : ℕ) (on : ℕ → Bool) (a b : ℕ) (more hs : List ℕ) (t : ℕ) → Divides n on a b more hs t → a ≢ b
    → Runs (HasLength n) (borrowed_flip a b more hs t) (λ x. put x t (met a b more x))
unfolding borrowed_flip doubled count_h toffoli
runs_borrowed n on a b [] hs t r ab = record {
  twos = 1;
  each = λ k x e.
      through-toffoli k x a b t (omega (arith, e, r.first.0)) (omega (arith, e, r.second.0)) (omega (arith, e, r.spots.0.0)) ab (off_on on a t r.first.1 r.spots.0.1) (off_on on b t r.second.1 r.spots.0.1);
  counted = refl;
  fitting = λ x e. subst (λ m. Fit m (borrowed_flip a b [] hs t)) (sym e) (fit_borrowed n on a b [] hs t r ab);
}
runs_borrowed n on a b (c ∷ more) [] t r ab = absurd (omega (arith, r.enough))
runs_borrowed n on a b (c ∷ more) (h ∷ hs) t r ab = record {
  twos = suc (suc (length more) + suc (length more));
  each = λ k x e. through-borrowed n on a b c more h hs t k x r e;
  counted = omega (arith, hadamards-are.borrowed a b (c ∷ more) (h ∷ hs) t (omega arith) (omega (arith, r.enough)));
  fitting = λ x e. subst (λ m. Fit m (borrowed_flip a b (c ∷ more) (h ∷ hs) t)) (sym e) (fit_borrowed n on a b (c ∷ more) (h ∷ hs) t r ab);
}

-- ---- X on the controls that want 0

abbrev pub one_flipped : Control → Word → Word
one_flipped c x = cond c.wanted x (set x c.line (not (bit x c.line)))

abbrev pub flipped : List Control → Word → Word
flipped [] x = x
flipped (c ∷ cs) x = flipped cs (one_flipped c x)

through-zeros : (cs : List Control) (k : Word → Cyclotomic) (x : Word) → through (zeros cs) k x ≡ k (flipped cs x)
unfolding through times_w_power
through-zeros [] k x = refl
through-zeros (c ∷ cs) k x = through-append (on_zero c) (zeros cs) k x ∙ one c.wanted ∙ through-zeros cs k (one_flipped c x)
  where
    one : (w : Bool) → through (cond w [] (X c.line ∷ [])) (λ v. through (zeros cs) k v) x ≡ through (zeros cs) k (cond w x (set x c.line (not (bit x c.line))))
    one true = refl
    one false = refl

count_h-zeros : (cs : List Control) → count_h (zeros cs) ≡ 0
unfolding count_h
count_h-zeros [] = refl
count_h-zeros (c ∷ cs) = count_h-append (on_zero c) (zeros cs) ∙ (let o : count_h (on_zero c) ≡ 0 = one c.wanted in omega (arith, o, count_h-zeros cs))
  where
    one : (w : Bool) → count_h (cond w [] (X c.line ∷ [])) ≡ 0
    one true = refl
    one false = refl

pub runs_zeros : (ok : Word → Type 0) (cs : List Control) → ((x : Word) → ok x → Every (λ c. c.line < length x) cs) → Runs ok (zeros cs) (flipped cs)
unfolding doubled
runs_zeros ok cs below = record { twos = 0; each = λ k x o. through-zeros cs k x; counted = count_h-zeros cs; fitting = λ x o. fit_zeros (length x) cs (below x o) }

length-one : (c : Control) (x : Word) → length (one_flipped c x) ≡ length x
length-one c x = go c.wanted
  where
    go : (w : Bool) → length (cond w x (set x c.line (not (bit x c.line)))) ≡ length x
    go true = refl
    go false = length-set x c.line _

pub length-flipped : (cs : List Control) (x : Word) → length (flipped cs x) ≡ length x
length-flipped [] x = refl
length-flipped (c ∷ cs) x = length-flipped cs (one_flipped c x) ∙ length-one c x

one-set : (c : Control) (x : Word) (t : ℕ) (v : Bool) → c.line ≢ t → one_flipped c (set x t v) ≡ set (one_flipped c x) t v
one-set c x t v ct = go c.wanted
  where
    go : (w : Bool) → cond w (set x t v) (set (set x t v) c.line (not (bit (set x t v) c.line))) ≡ set (cond w x (set x c.line (not (bit x c.line)))) t v
    go true = refl
    go false = ap (λ b. set (set x t v) c.line (not b)) (get_or-set_other x t c.line v false ct) ∙ set_comm x t c.line v _ (λ e. ct (sym e))

one-bit : (c : Control) (x : Word) (q : ℕ) → c.line ≢ q → bit (one_flipped c x) q ≡ bit x q
one-bit c x q cq = go c.wanted
  where
    go : (w : Bool) → bit (cond w x (set x c.line (not (bit x c.line)))) q ≡ bit x q
    go true = refl
    go false = get_or-set_other x c.line q _ false (λ e. cq (sym e))

one-same : (c : Control) (x : Word) → c.line < length x → bit (one_flipped c x) c.line ≡ same (bit x c.line) c.wanted
one-same c x lt = go c.wanted
  where
    at : (b : Bool) → b ≡ same b true
    at b = grind arith

    off : (b : Bool) → not b ≡ same b false
    off b = grind arith

    go : (w : Bool) → bit (cond w x (set x c.line (not (bit x c.line)))) c.line ≡ same (bit x c.line) w
    go true = at (bit x c.line)
    go false = get_or-set_same x c.line _ false lt ∙ off (bit x c.line)

one-one : (c : Control) (x : Word) → c.line < length x → one_flipped c (one_flipped c x) ≡ x
one-one c x lt = go c.wanted
  where
    go : (w : Bool) → cond w (cond w x (set x c.line (not (bit x c.line)))) (set (cond w x (set x c.line (not (bit x c.line)))) c.line (not (bit (cond w x (set x c.line (not (bit x c.line)))) c.line))) ≡ x
    go true = refl
    go false =
        ap (λ b. set (set x c.line (not (bit x c.line))) c.line (not b)) (get_or-set_same x c.line _ false lt)
        ∙ set-set x c.line _ _ ∙ ap (set x c.line) (not_not (bit x c.line)) ∙ set-get_or x c.line false

-- the second of two controls on different lines may be flipped first
one-comm : (c d : Control) (x : Word) → c.line ≢ d.line → one_flipped d (one_flipped c x) ≡ one_flipped c (one_flipped d x)
one-comm c d x cd = go c.wanted
  where
    go : (w : Bool) → one_flipped d (cond w x (set x c.line (not (bit x c.line)))) ≡ cond w (one_flipped d x) (set (one_flipped d x) c.line (not (bit (one_flipped d x) c.line)))
    go true = refl
    go false = one-set d x c.line _ (λ e. cd (sym e)) ∙ ap (λ b. set (one_flipped d x) c.line (not b)) (sym (one-bit d x c.line (λ e. cd (sym e))))

module _ (want : ℕ) where
  abbrev pub all_flipped : List ℕ → Word → Word
  all_flipped xs x = flipped (map (control want) xs) x

  pub flipped-set : (xs : List ℕ) (x : Word) (t : ℕ) (v : Bool) → ((z : ℕ) → In z xs → z ≢ t) → all_flipped xs (set x t v) ≡ set (all_flipped xs x) t v
  flipped-set [] x t v out = refl
  flipped-set (y ∷ xs) x t v out =
      ap (all_flipped xs) (one-set (control want y) x t v (out y (inl refl))) ∙ flipped-set xs (one_flipped (control want y) x) t v (λ z i. out z (inr i))

  pub flipped-bit : (xs : List ℕ) (x : Word) (q : ℕ) → ((z : ℕ) → In z xs → z ≢ q) → bit (all_flipped xs x) q ≡ bit x q
  flipped-bit [] x q out = refl
  flipped-bit (y ∷ xs) x q out = flipped-bit xs (one_flipped (control want y) x) q (λ z i. out z (inr i)) ∙ one-bit (control want y) x q (out y (inl refl))

  flipped-one : (xs : List ℕ) (x : Word) (y : ℕ) → ((z : ℕ) → In z xs → z ≢ y) → all_flipped xs (one_flipped (control want y) x) ≡ one_flipped (control want y) (all_flipped xs x)
  flipped-one [] x y out = refl
  flipped-one (q ∷ xs) x y out =
      ap (all_flipped xs) (one-comm (control want y) (control want q) x (λ e. out q (inl refl) (sym e)))
      ∙ flipped-one xs (one_flipped (control want q) x) y (λ z i. out z (inr i))

  pub flipped-twice : (xs : List ℕ) (x : Word) → Distinct xs → ((z : ℕ) → In z xs → z < length x) → all_flipped xs (all_flipped xs x) ≡ x
  flipped-twice [] x d below = refl
  flipped-twice (y ∷ xs) x d below =
      ap (λ w. all_flipped xs (one_flipped (control want y) w)) (flipped-one xs x y d.0)
      ∙ ap (all_flipped xs) (one-one (control want y) (all_flipped xs x) (subst (λ m. y < m) (sym (length-flipped (map (control want) xs) x)) (below y (inl refl))))
      ∙ flipped-twice xs x d.1 (λ z i. below z (inr i))

  pub flipped-met : (xs : List ℕ) (x : Word) → Distinct xs → ((z : ℕ) → In z xs → z < length x) → Every (λ c. bit (all_flipped xs x) c.line ≡ met_one c x) (map (control want) xs)
  flipped-met xs x d below = each xs (λ z i. at xs x z d below i)
    where
      each : (ys : List ℕ) → ((z : ℕ) → In z ys → bit (all_flipped xs x) z ≡ same (bit x z) (has want z)) → Every (λ c. bit (all_flipped xs x) c.line ≡ met_one c x) (map (control want) ys)
      each [] h = tt
      each (y ∷ ys) h = (h y (inl refl), each ys (λ z i. h z (inr i)))

      at : (ys : List ℕ) (w : Word) (z : ℕ) → Distinct ys → ((q : ℕ) → In q ys → q < length w) → In z ys → bit (all_flipped ys w) z ≡ same (bit w z) (has want z)
      at [] w z d below i = absurd i
      at (y ∷ ys) w z d below (inl e) =
          ap (λ q. bit (all_flipped ys (one_flipped (control want y) w)) q) e
          ∙ flipped-bit ys (one_flipped (control want y) w) y d.0
          ∙ one-same (control want y) w (below y (inl refl))
          ∙ ap (λ q. same (bit w q) (has want q)) (sym e)
      at (y ∷ ys) w z d below (inr i) =
          at ys (one_flipped (control want y) w) z d.1 (λ q j. subst (λ m. q < m) (sym (length-one (control want y) w)) (below q (inr j))) i
          ∙ ap (λ b. same b (has want z)) (one-bit (control want y) w z (λ e. d.0 z i (sym e)))
