-- The rewriting keeps the words, shortens the list and ends settled.
use Rattle.std.proofs.Common.{◌≡◌, ℕ, zero, suc, ◌+◌, ◌*◌, ◌<◌, ◌≤◌, true, false, cond, List, [], ◌∷◌, ◌++◌, length, refl, sym, ◌∙◌, ap, inl, inr, arith, length-append, subst, append_assoc, eqb, ◌^◌, ◌%◌, set, eq-eqb, ne_eqb}
use Rattle.std.specs.Prelude.{Option, Some, None}
use Rattle.std.proofs.lemmas.Nat.{one_shl}
use Rattle.std.proofs.lemmas.Option.{none-some}
use Rattle.std.proofs.lemmas.Bool.{cond-true, cond-false}
use Rattle.rv_templ.specs.Gates.{Same, AreGates}
use Rattle.rv_gate.specs.Gate.{act, run, FitsIn, IsGate}
use Rattle.rv_gate.specs.declared.word.TheConstants.{MOST_LINES}
use Rattle.rv_gate.specs.Commuting.{rule}
use Rattle.rv_gate.specs.declared.gate.Shape.{Shape}
use Rattle.rv_gate.specs.declared.gate.Shape.TheVariants.{Peres}
use Rattle.rv_gate.proofs.inside.GateLemmas.{length-act, run-append}
use Rattle.rv_gate.proofs.Commuting.{rule_agrees}
use Rattle.rv_templ.specs.Pairs.{lone, paired, after_gates, partner, pair_step}
use Rattle.rv_links.specs.Nodes.{incidences}
use Rattle.rv_templ.proofs.inside.Incidences.{incidences-cons, incidences-nil, incidences-append}
use Rattle.rv_templ.proofs.JoinLaws.{cond_some, joined_sound}
use Rattle.rv_templ.proofs.JoinedLines.{joined_no_more}
use Rattle.rv_templ.proofs.Options.{or_some, map_some, after_some}
use Rattle.rv_templ.proofs.GateLists.{AreGates-append}

-- what one step of a list keeps
pub record Better (n : ℕ) (old new : List Shape) : Type 0 where
  pub words : Same n old new
  pub fewer : length new < length old
  pub good : AreGates n new
  pub no_more : incidences new ≤ incidences old

-- a gate is put before both lists
pub put_before : (n : ℕ) (h : Shape) (old new : List Shape) → IsGate h → FitsIn h n → Better n old new → Better n (h ∷ old) (h ∷ new)
put_before n h old new v f b = grind (arith, length-act, incidences-cons)

two_before : (g h : Shape) (rest m : List Shape) → incidences m ≤ incidences (g ∷ h ∷ []) → incidences (m ++ rest) ≤ incidences (g ∷ h ∷ rest)
two_before g h rest m le =
    omega (arith, le, incidences-append m rest, incidences-cons g (h ∷ rest), incidences-cons h rest, incidences-cons g (h ∷ []), incidences-cons h [], incidences-nil)

pub partner_better : (n : ℕ) (g : Shape) (rest out : List Shape) → IsGate g → FitsIn g n → AreGates n rest → partner g rest ≡ Some out → Better n (g ∷ rest) out
unfolding partner
partner_better n g [] out v f k e = absurd (none-some out e)
partner_better n g (h ∷ rest) out v f k e =
    elim (or_some _ _ out e) [
      | inl a ↦
          let l = after_some [] _ out a in
          let m = map_some (λ m. m ++ rest) (paired g h) l.0 l.1 in
          let s = joined_sound g h n m.0 v k.0 f k.1 m.1 in
          let same : m.0 ++ rest ≡ out = m.2 ∙ l.2 in
          subst (λ (x : List Shape). Better n (g ∷ h ∷ rest) x) same
          (record {
            words = λ word len. ap (run rest) (sym (s.words word len)) ∙ sym (run-append m.0 rest word);
            fewer = let small = s.shorter in omega (arith, length-append m.0 rest);
            good = AreGates-append n m.0 rest s.good k.2;
            no_more = let l = joined_no_more g h m.0 m.1 s.shorter in two_before g h rest m.0 l;
          })
      | inr a ↦
          let c = cond_some (rule g h) out _ a in
          let l = after_some (h ∷ []) (partner g rest) out c.1 in
          let b = partner_better n g rest l.0 v f k.2 l.1 in
          subst (λ (x : List Shape). Better n (g ∷ h ∷ rest) x) l.2
          (record {
            words = λ word len.
                ap (run rest) (rule_agrees g h v k.0 c.0 word (subst (λ (x : ℕ). FitsIn g x) (sym len) f) (subst (λ (x : ℕ). FitsIn h x) (sym len) k.1))
                ∙ b.words (act h word) (length-act h word ∙ len);
            fewer = let l = b.fewer in omega arith;
            good = (k.0, k.1, b.good);
            no_more = let more = b.no_more in omega (arith, more, incidences-cons g (h ∷ rest), incidences-cons h rest, incidences-cons g rest, incidences-cons h l.0);
          })
    ]

pub step_better : (n : ℕ) (gates out : List Shape) → AreGates n gates → pair_step gates ≡ Some out → Better n gates out
unfolding pair_step
step_better n [] out k e = absurd (none-some out e)
step_better n (g ∷ rest) out k e =
    elim (or_some _ _ out e) [
      | inl a ↦ partner_better n g rest out k.0 k.1 k.2 a
      | inr a ↦
          let l = after_some (g ∷ []) (pair_step rest) out a in
          subst (λ (x : List Shape). Better n (g ∷ rest) x) l.2 (put_before n g rest l.0 k.0 k.1 (step_better n rest l.0 k.2 l.1))
    ]

-- ---- the definitions, step by step

pub lone_step : (set n m : ℕ) → m + 1 ≡ n → lone set n ≡ cond (eqb set (2 ^ m)) (Some m) (lone set m)
unfolding lone
lone_step set zero m e = absurd (omega arith)
lone_step set (suc n) m e = let s : n ≡ m = omega arith in rw s refl

pub after_nothing : (o : Option (List Shape)) → after_gates [] o ≡ o
after_nothing None = refl
after_nothing (Some l) = refl

pub after_twice : (xs ys : List Shape) (o : Option (List Shape)) → after_gates xs (after_gates ys o) ≡ after_gates (xs ++ ys) o
after_twice xs ys None = refl
after_twice xs ys (Some l) = ap (λ (z : List Shape). let o : Option (List Shape) = Some z in o) (sym (append_assoc xs ys l))

pub partner_none : (g h : Shape) (rest : List Shape) → paired g h ≡ None → rule g h ≡ false → partner g (h ∷ rest) ≡ None
unfolding partner
partner_none g h rest j r = rw (j, r) refl

pub partner_pass : (g h : Shape) (rest : List Shape) → paired g h ≡ None → rule g h ≡ true → partner g (h ∷ rest) ≡ after_gates (h ∷ []) (partner g rest)
unfolding partner
partner_pass g h rest j r = rw (j, r) refl

pub partner_here : (g h : Shape) (rest m : List Shape) → paired g h ≡ Some m → partner g (h ∷ rest) ≡ Some (m ++ rest)
unfolding partner
partner_here g h rest m j = rw j refl

pub step_pass : (g : Shape) (rest : List Shape) → partner g rest ≡ None → pair_step (g ∷ rest) ≡ after_gates (g ∷ []) (pair_step rest)
unfolding pair_step
step_pass g rest p = rw p refl

pub step_here : (g : Shape) (rest out : List Shape) → partner g rest ≡ Some out → pair_step (g ∷ rest) ≡ Some out
unfolding pair_step
step_here g rest out p = rw p refl

pub partner_nil : (g : Shape) → partner g [] ≡ None
unfolding partner
partner_nil g = refl

pub step_nil : pair_step [] ≡ None
unfolding pair_step
step_nil = refl

pub lone_hit : (set n m : ℕ) → m + 1 ≡ n → n ≤ MOST_LINES → set ≡ 1 * 2 ^ m % 2 ^ 64 → lone set n ≡ lone set MOST_LINES → Some m ≡ lone set MOST_LINES
lone_hit set n m e le hit inv =
    sym (lone_step set n m e ∙ cond-true (eqb set (2 ^ m)) (Some m) (lone set m) (eq-eqb set (2 ^ m) (hit ∙ one_shl m 64 (omega arith)))) ∙ inv

pub lone_miss : (set n m : ℕ) → m + 1 ≡ n → n ≤ MOST_LINES → (set ≡ 1 * 2 ^ m % 2 ^ 64 → ⊥) → lone set n ≡ lone set MOST_LINES → lone set m ≡ lone set MOST_LINES
lone_miss set n m e le miss inv =
    sym (lone_step set n m e ∙ cond-false (eqb set (2 ^ m)) (Some m) (lone set m) (ne_eqb set (2 ^ m) (λ q. miss (q ∙ sym (one_shl m 64 (omega arith)))))) ∙ inv

pub joined_peres : (a b d : ℕ) (h : Shape) → None ≡ paired (Peres a b d) h
unfolding paired
joined_peres a b d h = refl

pub lone_end : (set n : ℕ) → n ≡ 0 → lone set n ≡ lone set MOST_LINES → None ≡ lone set MOST_LINES
unfolding lone
lone_end set n z e = ap (lone set) (sym z) ∙ e
