-- What two gates come to touches no line that neither of them touches.
use Rattle.std.proofs.Common.{◌≡◌, ℕ, ◌+◌, ◌<◌, ◌≤◌, true, ◌||◌, List, [], ◌∷◌, length, inl, inr, sym, ◌∙◌, ap, arith}
use Rattle.std.specs.Prelude.{Some}
use Rattle.std.proofs.lemmas.Bool.{cases_eq, or_cases, or_left, or_right}
use Rattle.rv_gate.specs.Gate.{touches}
use Rattle.rv_gate.specs.declared.gate.Shape.{Shape}
use Rattle.rv_gate.specs.declared.gate.Shape.TheVariants.{Flip}
use Rattle.rv_gate.proofs.inside.GateLemmas.{has-touched}
use Rattle.rv_links.specs.Nodes.{incidence, incidences}
use Rattle.rv_templ.specs.Pairs.{with_line, third_flip, paired}
use Rattle.rv_templ.proofs.JoinLaws.{with_line_here, with_line_other, paired_as}
use Rattle.rv_templ.proofs.inside.Incidences.{incidences-cons, incidences-nil, count_ones-within}

third_touches : (c w c2 w2 t line i : ℕ) → touches (third_flip c w c2 w2 t line) i ≡ true → (touches (Flip c w t) i || touches (Flip c2 w2 t) i) ≡ true
unfolding third_flip
third_touches c w c2 w2 t line i e =
    grind (arith, or_cases, with_line, or_left, or_right, cases_eq, with_line_here, with_line_other)

pub joined_touches : (g h k : Shape) (i : ℕ) → paired g h ≡ Some (k ∷ []) → touches k i ≡ true → (touches g i || touches h i) ≡ true
joined_touches g h k i e on =
    elim (paired_as g h (k ∷ []) e) [
      | inl u ↦ let none = u.none in absurd cc
      | inr t ↦
          let is : k ≡ third_flip t.care t.want t.care2 t.want2 t.target t.line = let come = t.come in cc in
          rw (t.first, t.second) (third_touches t.care t.want t.care2 t.want2 t.target t.line i (ap (λ x. touches x i) (sym is) ∙ on))
    ]

pub joined_incidence : (g h k : Shape) → paired g h ≡ Some (k ∷ []) → incidence k ≤ incidence g + incidence h
joined_incidence g h k e = grind (arith, count_ones-within, has-touched, joined_touches)

pub joined_no_more : (g h : Shape) (m : List Shape) → paired g h ≡ Some m → length m < 2 → incidences m ≤ incidences (g ∷ h ∷ [])
joined_no_more g h [] e short = let z = incidences-nil in omega arith
joined_no_more g h (k ∷ []) e short =
    let le = joined_incidence g h k e in
    omega (arith, le, incidences-cons k [], incidences-cons g (h ∷ []), incidences-cons h [], incidences-nil)
joined_no_more g h (k ∷ l ∷ more) e short = absurd (omega arith)

-- a pair comes to one gate at most
pub paired_short : (g h : Shape) (m : List Shape) → paired g h ≡ Some m → length m < 2
paired_short g h m e = elim (paired_as g h m e) [ inl u ↦ rw u.none (omega arith) | inr t ↦ rw t.come (omega arith) ]
