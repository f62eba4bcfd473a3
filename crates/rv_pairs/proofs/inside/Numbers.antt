-- Operations have one number only where one is the other, or two of its lines are exchanged that may be.
use Rattle.std.proofs.Common.{◌≡◌, ℕ, ◌+◌, ◌*◌, ◌^◌, ◌<◌, ◌≤◌, cond, eqb, min, max, refl, sym, ap, ap₂, ◌∙◌, arith, inl, inr, ◌⊎◌}
use Rattle.std.proofs.lemmas.Bool.{cases_lt}
use Rattle.rv_net.specs.declared.op.Op.{Op}
use Rattle.rv_net.specs.declared.op.Op.TheVariants.{X, Y, Z, H, S, Sdg, T, Tdg, Cx, Cz, Ccx, Swap, Cswap}
use Rattle.rv_net.specs.Op.{OpFitsIn}
use Rattle.rv_pairs.specs.Cancelled.{Undoes, inverse, mirrored}
use Rattle.rv_pairs.specs.inside.Codes.{Parts, code, number, parts, parts_of}
use Rattle.rv_pairs.proofs.Undoing.{inverse_fits}

-- ---- a kind and three lines

code_parts : (o : Op) → code o ≡ number (parts o)
unfolding code
code_parts o = refl

-- the third line is another than 0 for the last two kinds alone
abbrev HasThird : Parts → Type 0
HasThird p = ((p.kind < 12) × (p.c ≡ 0)) ⊎ (12 ≤ p.kind)

record Small (n : ℕ) (p : Parts) : Type 0 where
  kind : p.kind < 14
  a : p.a < 64
  b : p.b < 64
  c : p.c < n
  third : HasThird p

on_two : (kind a b n : ℕ) → n ≤ 64 → kind < 12 → a < n → b < 64 → Small n (parts_of kind a b 0)
on_two kind a b n few low below other =
    record { kind = omega arith; a = omega arith; b = other; c = omega arith; third = inl (low, refl) }

on_three : (kind a b c n : ℕ) → n ≤ 64 → 12 ≤ kind → kind < 14 → a < n → b < n → c < n → Small n (parts_of kind a b c)
on_three kind a b c n few high low first second third =
    record { kind = low; a = omega arith; b = omega arith; c = third; third = inr high }

small : (o : Op) (n : ℕ) → n ≤ 64 → OpFitsIn o n → Small n (parts o)
small (X q) n few h = on_two 0 q 0 n few (omega arith) h (omega arith)
small (Y q) n few h = on_two 1 q 0 n few (omega arith) h (omega arith)
small (Z q) n few h = on_two 2 q 0 n few (omega arith) h (omega arith)
small (H q) n few h = on_two 3 q 0 n few (omega arith) h (omega arith)
small (S q) n few h = on_two 4 q 0 n few (omega arith) h (omega arith)
small (Sdg q) n few h = on_two 5 q 0 n few (omega arith) h (omega arith)
small (T q) n few h = on_two 6 q 0 n few (omega arith) h (omega arith)
small (Tdg q) n few h = on_two 7 q 0 n few (omega arith) h (omega arith)
small (Cx a b) n few h = on_two 8 a b n few (omega arith) h.0 (omega arith)
small (Cz a b) n few h = on_two 9 (min a b) (max a b) n few (omega arith) (omega arith) (omega arith)
small (Swap a b) n few h = on_two 10 (min a b) (max a b) n few (omega arith) (omega arith) (omega arith)
small (Ccx a b c) n few h = on_three 12 (min a b) (max a b) c n few (omega arith) (omega arith) (omega arith) (omega arith) (omega arith)
small (Cswap c a b) n few h = on_three 13 (min a b) (max a b) c n few (omega arith) (omega arith) (omega arith) (omega arith) (omega arith)

pub code_fits : (o : Op) (n : ℕ) → n ≤ 64 → OpFitsIn o n → code o < (12 + 2 * n) * 2 ^ 12
code_fits o n few h = grind (arith, small, code_parts)

same_parts : (p q : Parts) (n : ℕ) → n ≤ 64 → Small n p → Small n q → number p ≡ number q → p ≡ q
same_parts p q n few s t e = grind arith

-- ---- the operation again

-- with the lesser line first where two may be exchanged
abbrev sorted : Op → Op
sorted (X q) = X q
sorted (Y q) = Y q
sorted (Z q) = Z q
sorted (H q) = H q
sorted (S q) = S q
sorted (Sdg q) = Sdg q
sorted (T q) = T q
sorted (Tdg q) = Tdg q
sorted (Cx a b) = Cx a b
sorted (Cz a b) = Cz (min a b) (max a b)
sorted (Ccx a b c) = Ccx (min a b) (max a b) c
sorted (Swap a b) = Swap (min a b) (max a b)
sorted (Cswap c a b) = Cswap c (min a b) (max a b)

again : Parts → Op
again p =
    cond (eqb p.kind 0) (X p.a)
    (cond (eqb p.kind 1) (Y p.a)
    (cond (eqb p.kind 2) (Z p.a)
    (cond (eqb p.kind 3) (H p.a)
    (cond (eqb p.kind 4) (S p.a)
    (cond (eqb p.kind 5) (Sdg p.a)
    (cond (eqb p.kind 6) (T p.a)
    (cond (eqb p.kind 7) (Tdg p.a)
    (cond (eqb p.kind 8) (Cx p.a p.b)
    (cond (eqb p.kind 9) (Cz p.a p.b)
    (cond (eqb p.kind 10) (Swap p.a p.b)
    (cond (eqb p.kind 12) (Ccx p.a p.b p.c) (Cswap p.c p.a p.b))))))))))))

again_sorted : (o : Op) → again (parts o) ≡ sorted o
unfolding again
again_sorted o = grind arith

abbrev Pair : (ℕ → ℕ → Op) → ℕ → ℕ → Type 0
Pair f a b = (f (min a b) (max a b) ≡ f a b) ⊎ (f (min a b) (max a b) ≡ f b a)

pair : (f : ℕ → ℕ → Op) (a b : ℕ) → Pair f a b
pair f a b = elim (cases_lt a b) [ inl below ↦ inl (ap₂ f (omega arith) (omega arith)) | inr above ↦ inr (ap₂ f (omega arith) (omega arith)) ]

same_sorted : (p w : Op) → sorted p ≡ sorted w → (p ≡ w) ⊎ (p ≡ mirrored w)
same_sorted p w e = grind arith

-- ---- the law

pub same_code : (p o : Op) (n : ℕ) → n ≤ 64 → OpFitsIn p n → OpFitsIn o n → code p ≡ code (inverse o) → Undoes p o
same_code p o n few fp fo e =
    same_sorted p (inverse o)
    (sym (again_sorted p)
    ∙ ap again
    (same_parts (parts p) (parts (inverse o)) n few (small p n few fp) (small (inverse o) n few (inverse_fits o n fo))
    (sym (code_parts p) ∙ e ∙ code_parts (inverse o)))
    ∙ again_sorted (inverse o))

mirrored_parts : (o : Op) → parts (mirrored o) ≡ parts o
mirrored_parts o = grind arith

pub undoes_code : (p o : Op) → Undoes p o → code p ≡ code (inverse o)
undoes_code p o h = grind (arith, code_parts, mirrored_parts)
