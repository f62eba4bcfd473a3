use Rattle.std.proofs.Common.{◌≡◌, ◌⊎◌, ℕ, Bool, true, false, List, [], Option, Some, Result, Err, sym, ap, ◌∙◌, inl, inr}
use Rattle.std.proofs.lemmas.List.{append-nil}
use Rattle.rv_reader.specs.Feeding.{Answers}
use Rattle.rv_reader.specs.inside.Fed.{IsFed}
use Rattle.rv_reader.proofs.file.end_of.Goals as goal

abbrev failed : {X E : Type 0} → E → Result X E
failed fault = Err fault

refused_as : {R X E : Type 0} (Stands : R → List ℕ → Type 0) (refusal : R → Option E) (mem : E) (denoted : List ℕ → Result X E) (is_fed : Bool) (reader : R) (text : List ℕ) (fault : E)
    → (Stands reader text → Answers mem (failed fault) (denoted text)) → ((kept : E) → refusal reader ≡ Some kept → failed {X = X} fault ≡ failed kept)
    → IsFed Stands refusal mem denoted is_fed reader text → (fault ≡ mem) ⊎ (denoted text ≡ Err fault)
refused_as Stands refusal mem denoted true reader text fault stands stays fed = elim (stands fed) [
  | inl is ↦ inl (let z = is in cc)
  | inr is ↦ inr (sym is)
]
refused_as Stands refusal mem denoted false reader text fault stands stays fed =
    let same : fault ≡ fed.fault = (let z = stays fed.fault fed.kept in cc) in
    elim fed.cause [
      | inl is ↦ inl (same ∙ is)
      | inr all ↦ inr (ap denoted (sym (append-nil text)) ∙ all [] ∙ ap (λ f. Err f) (sym same))
    ]

pub returns-in-Err : goal.returns-in-Err
returns-in-Err g c = let of = g.R.TextReader in λ text fed. refused_as of.Stands of.refusal of.mem of.denoted c.args.is_fed c.args.reader text c.in-Err.fault (c.in-Err.ensures.stands text) c.in-Err.ensures.stays fed
