-- What a reader of lines answers, in the words of its format.
use Rattle.std.specs.Option.{option_map}
use Rattle.std.specs.Result.{result_err}
use Rattle.std.proofs.Common.{◌≡◌, ◌⊎◌, ℕ, List, [], ◌++◌, Option, Result, Ok, Err, refl, sym, ap, subst, ◌∙◌, inl, inr}
use Rattle.rv_text.specs.declared.fault.TextFault.{TextFault}
use Rattle.rv_reader.specs.declared.text_refusal.TextRefusal.{TextRefusal}
use Rattle.rv_reader.specs.declared.text_refusal.TextRefusal.TheVariants as refusals
use Rattle.rv_reader.specs.declared.whole.Whole.{Whole}
use Rattle.rv_reader.specs.Rules.{Rules, ◌>>=◌, lines_read, whole_of}
use Rattle.rv_reader.specs.inside.Progress.{Feeding, StandsFor, FedOn, finished, ended_read}
use Rattle.rv_reader.specs.Feeding.{Answers, faulted, checked, text_as, object_of, unless_refused}
use Rattle.rv_text.specs.Lines.{ended_after}
use Rattle.rv_reader.proofs.inside.FeedLemmas.{ended_holds, says, finished_whole}

checked-Err-back : {Y : Type 0} (refusal : TextRefusal) (r : Result Y TextFault) → Err refusal ≡ checked refusals.Text r → (f : TextFault) × ((refusal ≡ refusals.Text f) × (r ≡ Err f))
checked-Err-back refusal (Ok y) h = absurd cc
checked-Err-back refusal (Err f) h = (f, (cc, refl))

checked_fault : {Y E : Type 0} (text : TextFault → E) (r : Result Y TextFault) → checked text r ≡ unless_refused (option_map text (result_err r))
checked_fault text (Ok y) = refl
checked_fault text (Err f) = refl

-- the first fault in the ended lines, by the rules and by the format's definition
pub fault_found : {S E : Type 0} (rules : Rules S) (text : TextFault → E) (fault_in : List (List ℕ) → Option TextFault) (bytes : List ℕ)
    → ((lines : List (List ℕ)) → result_err (lines_read rules 0 rules.start lines) ≡ fault_in lines)
    → checked text (ended_read rules bytes) ≡ unless_refused (option_map text (fault_in (ended_after [] bytes)))
fault_found rules text fault_in bytes finds =
    checked_fault text (ended_read rules bytes) ∙ ap (λ f. unless_refused (option_map text f)) (finds (ended_after [] bytes))

module _ {S X E : Type 0} (rules : Rules S) (as_fault : TextRefusal → E) (end : Whole S → Result X E) where
  -- a piece was taken
  pub taken : (old new : Feeding S) (text piece : List ℕ) → StandsFor rules old text → FedOn rules (Ok tt) old.progress new.progress piece
      → Answers (as_fault refusals.Mem) (Ok tt) (checked (text_as as_fault) (ended_read rules (text ++ piece)))
  taken old new text piece stood fed = elim (ended_read rules (text ++ piece)) as (λ r. Answers refusals.Mem (Ok tt) (checked refusals.Text r) → Answers (as_fault refusals.Mem) (Ok tt) (checked (text_as as_fault) r)) [
    | Ok x ↦ λ _. inr refl
    | Err f ↦ λ h. absurd (elim h [ inl is ↦ cc | inr is ↦ cc ])
  ] (says rules (Ok tt) old new text piece stood fed)

  -- a piece was refused
  pub refused : (old new : Feeding S) (text piece : List ℕ) (refusal : TextRefusal) → StandsFor rules old text → FedOn rules (Err refusal) old.progress new.progress piece
      → Answers (as_fault refusals.Mem) (Err (as_fault refusal)) (checked (text_as as_fault) (ended_read rules (text ++ piece)))
  refused old new text piece refusal stood fed = elim (says rules (Err refusal) old new text piece stood fed) [
    | inl mem ↦ inl (let is : refusal ≡ refusals.Mem = cc in ap (λ r. Err (as_fault r)) is)
    | inr first ↦
        (let found = checked-Err-back refusal (ended_read rules (text ++ piece)) first in
        inr (rw found.1.1 (ap (λ r. Err (as_fault r)) found.1.0)))
  ]

  -- by what a text denotes, which is what its lines give
  module _ (denoted : List ℕ → Result X E) (denotes : (text : List ℕ) → object_of rules as_fault end text ≡ denoted text) where
    -- and each text that goes on so has that fault
    pub stays_refused : (old new : Feeding S) (text piece : List ℕ) (refusal : TextRefusal) → StandsFor rules old text → FedOn rules (Err refusal) old.progress new.progress piece
        → (as_fault refusal ≡ as_fault refusals.Mem) ⊎ ((more : List ℕ) → denoted ((text ++ piece) ++ more) ≡ Err (as_fault refusal))
    unfolding object_of
    stays_refused old new text piece refusal stood fed = elim (says rules (Err refusal) old new text piece stood fed) [
      | inl mem ↦ inl (let is : refusal ≡ refusals.Mem = cc in ap as_fault is)
      | inr first ↦
          (let found = checked-Err-back refusal (ended_read rules (text ++ piece)) first in
          inr (λ more. sym (denotes ((text ++ piece) ++ more)) ∙ rw (ended_holds rules (text ++ piece) more found.0 found.1.1) (let same : Err (text_as as_fault found.0) ≡ Err (as_fault refusal) = ap (λ r. Err (as_fault r)) (sym found.1.0) in same)))
    ]

    -- all lines were read, and the end answers
    pub ends : (reader : Feeding S) (text : List ℕ) (whole : Whole S) (result : Result X E) → StandsFor rules reader text
        → Answers refusals.Mem (Ok whole) (finished rules reader.progress) → Answers (as_fault refusals.Mem) result (end whole)
        → Answers (as_fault refusals.Mem) result (denoted text)
    unfolding object_of
    ends reader text whole result stood read answered = rw (← denotes text) (elim (whole_of rules text) as (λ want. Answers refusals.Mem (Ok whole) (faulted refusals.Text want) → Answers (as_fault refusals.Mem) result (faulted (text_as as_fault) want >>= end)) [
      | Ok w ↦ λ h. elim h [ inl is ↦ absurd cc | inr is ↦ (let same : whole ≡ w = cc in rw (← same) answered) ]
      | Err f ↦ λ h. absurd (elim h [ inl is ↦ cc | inr is ↦ cc ])
    ] (subst (Answers refusals.Mem (Ok whole)) (ap (finished rules) stood.progress ∙ finished_whole rules text) read))

    -- the lines were refused
    pub refuses : (reader : Feeding S) (text : List ℕ) (refusal : TextRefusal) → StandsFor rules reader text
        → Answers refusals.Mem (Err refusal) (finished rules reader.progress)
        → Answers (as_fault refusals.Mem) (Err (as_fault refusal)) (denoted text)
    unfolding object_of
    refuses reader text refusal stood read = rw (← denotes text) (elim (whole_of rules text) as (λ want. Answers refusals.Mem (Err refusal) (faulted refusals.Text want) → Answers (as_fault refusals.Mem) (Err (as_fault refusal)) (faulted (text_as as_fault) want >>= end)) [
      | Ok w ↦ λ h. elim h [ inl is ↦ inl (let none : refusal ≡ refusals.Mem = cc in ap (λ r. Err (as_fault r)) none) | inr is ↦ absurd cc ]
      | Err f ↦ λ h. elim h [ inl is ↦ inl (let none : refusal ≡ refusals.Mem = cc in ap (λ r. Err (as_fault r)) none) | inr is ↦ inr (let same : refusal ≡ refusals.Text f = cc in ap (λ r. Err (as_fault r)) same) ]
    ] (subst (Answers refusals.Mem (Err refusal)) (ap (finished rules) stood.progress ∙ finished_whole rules text) read))
