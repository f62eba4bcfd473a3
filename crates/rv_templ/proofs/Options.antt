-- Answers that may be missing.
use Rattle.std.proofs.Common.{arith}
use Rattle.std.proofs.Common.{◌≡◌, List, ◌++◌, refl, inl, inr}
use Rattle.std.specs.Option.{option_or}
use Rattle.std.specs.Prelude.{◌⊎◌, Option, Some, None, option_map}
use Rattle.std.proofs.lemmas.Option.{none-some, same_Some}
use Rattle.rv_gate.specs.declared.gate.Shape.{Shape}
use Rattle.rv_templ.specs.Pairs.{after_gates}

pub or_some : {A : Type 0} (a b : Option A) (x : A) → option_or a b ≡ Some x → (a ≡ Some x) ⊎ (b ≡ Some x)
or_some None b x e = inr e
or_some (Some y) b x e = inl e

pub map_some : {A B : Type 0} (f : A → B) (o : Option A) (y : B) → option_map f o ≡ Some y → (x : A) × (o ≡ Some x) × (f x ≡ y)
map_some f None y e = absurd (none-some y e)
map_some f (Some x) y e = (x, refl, same_Some (f x) y e)

pub after_some : (before : List Shape) (o : Option (List Shape)) (out : List Shape) → after_gates before o ≡ Some out → (l : List Shape) × (o ≡ Some l) × (before ++ l ≡ out)
after_some before None out e = absurd (none-some out e)
after_some before (Some l) out e = (l, refl, same_Some _ out e)

pub after_none : (before : List Shape) (o : Option (List Shape)) → after_gates before o ≡ None → o ≡ None
after_none before o h = grind arith
