-- A text that is read byte by byte.
use Rattle.std.proofs.Common.{arith}
use Rattle.std.proofs.lemmas.Grind.{common_steps}
use Rattle.std.proofs.Common.{◌≡◌, ◌⊎◌, ℕ, ◌+◌, ◌<◌, Bool, List, [], ◌∷◌, ◌++◌, length, take, drop, get_or, Option, Some, None, Result, Ok, Err, refl, sym, ap, subst, ◌∙◌, inl, inr, take-append-drop}
use Rattle.std.proofs.Math.Seq.{take-add}
use Rattle.std.proofs.lemmas.List.{take_more}
use Rattle.rv_text.specs.Lines.{lines_of}
use Rattle.rv_text.specs.declared.fault.TextFault.{TextFault}
use Rattle.rv_reader.specs.Rules.{◌>>=◌}
use Rattle.rv_reader.specs.Feeding.{Answers, faulted, checked}
use Rattle.rv_qasm.specs.Statements.{unended_of}
use Rattle.rv_qasm.specs.Rules.{SoFar, nothing_so_far}
use Rattle.rv_qasm.specs.Reading.{Listing, statements_read, all_ended, at_end, ended_statements_read, qasm_of}
use Rattle.rv_qasm.specs.declared.fault.QasmFault.{QasmFault}
use Rattle.rv_qasm.specs.declared.fault.QasmFault.TheVariants as faults
use Rattle.rv_qasm.specs.inside.Lexing.{ends, ended_by, begun_by, begun_line_by}
use Rattle.rv_qasm.specs.inside.Reached.{Reached, nothing_reached, byte_step, steps, text_line_count, end_of, Reaches, StopsFor, reading, refused, QasmFeeding, gave, progress_kept, refusal_in, StandsForText}
use Rattle.rv_qasm.proofs.inside.Statements.{statements_cut, unended_cut}
use Rattle.rv_qasm.proofs.inside.LineCount.{lines_counted}

-- bytes after bytes
pub steps-append : (r : Reached) (a b : List ℕ) → steps r (a ++ b) ≡ (steps r a >>= λ s. steps s b)
unfolding steps
steps-append r [] b = refl
steps-append r (c ∷ cs) b = elim (byte_step r c) as (λ x. (x >>= λ s. steps s (cs ++ b)) ≡ ((x >>= λ s. steps s cs) >>= λ s. steps s b)) [
  | Ok s ↦ steps-append s cs b
  | Err f ↦ refl
]

pub steps-none : (r : Reached) → steps r [] ≡ Ok r
unfolding steps
steps-none r = refl

steps-one : (r : Reached) (c : ℕ) → steps r (c ∷ []) ≡ byte_step r c
unfolding steps
steps-one r c = elim (byte_step r c) as (λ x. (x >>= λ s. Ok s) ≡ x) [ Ok s ↦ refl | Err f ↦ refl ]

-- ---- the statements of the bytes

-- with what statements gave
abbrev pub reached_by : Reached → List ℕ → SoFar → Reached
reached_by r cs so_far = record { begun = begun_by r.begun cs; has_begun_line = begun_line_by r.has_begun_line cs; so_far = so_far }

-- what these bytes give, by their statements
abbrev pub AreRead : List ℕ → Type 0
AreRead cs = (r : Reached) → steps r cs ≡ (statements_read r.so_far (ended_by r.begun cs) >>= λ so_far. Ok (reached_by r cs so_far))

one_more : (c : ℕ) (cs : List ℕ) → AreRead cs → (r : Reached) (t : Bool) → ends r.begun.mode c ≡ t
    → steps r (c ∷ cs) ≡ (statements_read r.so_far (ended_by r.begun (c ∷ cs)) >>= λ so_far. Ok (reached_by r (c ∷ cs) so_far))
unfolding steps ended_by begun_by begun_line_by
one_more c cs h r t h1 = grind arith

pub steps_read : (cs : List ℕ) → AreRead cs
unfolding steps ended_by begun_by begun_line_by
steps_read [] r = refl
steps_read (c ∷ cs) r = one_more c cs (steps_read cs) r (ends r.begun.mode c) refl

-- ---- what the bytes denote

whole : Result Reached TextFault → Result Listing QasmFault
whole (Ok r) = end_of r
whole (Err fault) = Err (faults.Text fault)

steps_of : (text : List ℕ) → steps nothing_reached text ≡ (ended_statements_read text >>= λ so_far. Ok (reached_by nothing_reached text so_far))
steps_of text = steps_read text nothing_reached ∙ ap (λ statements. statements_read nothing_so_far statements >>= λ so_far. Ok (reached_by nothing_reached text so_far)) (statements_cut text)

end_reached : (text : List ℕ) (so_far : SoFar) → end_of (reached_by nothing_reached text so_far) ≡ faulted faults.Text (all_ended (unended_of text) so_far >>= at_end (length (lines_of text)))
end_reached text so_far = grind (arith, all_ended, at_end, text_line_count, nothing_reached, unended_cut, unended_of, lines_counted)

whole_denotes : (text : List ℕ) → whole (steps nothing_reached text) ≡ qasm_of text
unfolding whole qasm_of
whole_denotes text = grind (arith, whole, steps_of, ended_statements_read, nothing_reached, all_ended, unended_of, at_end, lines_of, end_reached)

checked_steps : (text : List ℕ) → checked faults.Text (steps nothing_reached text) ≡ checked faults.Text (ended_statements_read text)
checked_steps text = ap (checked faults.Text) (steps_of text) ∙ elim (ended_statements_read text) as (λ r. checked faults.Text (r >>= λ so_far. Ok (reached_by nothing_reached text so_far)) ≡ checked faults.Text r) [ Ok so_far ↦ refl | Err fault ↦ refl ]

-- ---- a loop over the bytes of a piece

stepped_by : (r s : Reached) (piece : List ℕ) (i : ℕ) → i < length piece → steps r (take i piece) ≡ Ok s → steps r (take (i + 1) piece) ≡ byte_step s (get_or piece i 0)
stepped_by r s piece i within so_far = grind (arith, common_steps, take_more, steps-append, steps-one)

pub stepped : (r s new : Reached) (piece : List ℕ) (i : ℕ) → i < length piece → steps r (take i piece) ≡ Ok s → byte_step s (get_or piece i 0) ≡ Ok new → steps r (take (i + 1) piece) ≡ Ok new
stepped r s new piece i within so_far one = stepped_by r s piece i within so_far ∙ one

pub stops_in : (r s new : Reached) (piece : List ℕ) (i : ℕ) (fault : QasmFault) → i < length piece → steps r (take i piece) ≡ Ok s
    → Reaches {X = Unit {0}} (Err fault) new (byte_step s (get_or piece i 0)) → Reaches {X = Unit {0}} (Err fault) new (steps r piece)
stops_in r s new piece i (faults.Text f) within so_far one =
    ap (steps r) (sym (take-append-drop (i + 1) piece)) ∙ steps-append r (take (i + 1) piece) (drop (i + 1) piece)
    ∙ ap (λ x. x >>= λ t. steps t (drop (i + 1) piece)) (stepped_by r s piece i within so_far ∙ one)
stops_in r s new piece i faults.Mem within so_far one = tt

-- more bytes from a place on
pub went_on : (r s new : Reached) (piece rest : List ℕ) (at count : ℕ) → rest ≡ drop at piece → steps r (take at piece) ≡ Ok s → steps s (take count rest) ≡ Ok new → steps r (take (at + count) piece) ≡ Ok new
went_on r s new piece rest at count is so_far more = grind (arith, take-add, steps-append)

pub stopped_from : (r s new : Reached) (piece rest : List ℕ) (at : ℕ) (fault : QasmFault) → rest ≡ drop at piece → steps r (take at piece) ≡ Ok s → StopsFor fault (steps s rest) → Reaches {X = Unit {0}} (Err fault) new (steps r piece)
stopped_from r s new piece rest at (faults.Text f) is so_far stops =
    ap (steps r) (sym (take-append-drop at piece)) ∙ steps-append r (take at piece) (drop at piece)
    ∙ ap (λ x. x >>= λ t. steps t (drop at piece)) so_far ∙ ap (steps s) (sym is) ∙ stops
stopped_from r s new piece rest at faults.Mem is so_far stops = tt

-- ---- a reader

gave-reading : (x : Result Reached TextFault) (r : Reached) → reading r ≡ gave x → x ≡ Ok r
gave-reading (Ok s) r h = cc
gave-reading (Err f) r h = absurd cc

gave-refused : (x : Result Reached TextFault) (fault : QasmFault) → refused fault ≡ gave x → (f : TextFault) × (fault ≡ faults.Text f) × (x ≡ Err f)
gave-refused (Ok s) fault h = absurd cc
gave-refused (Err f) fault h = (f, cc, refl)

-- memory was wanting, or the text has this fault
pub HasStopped : QasmFault → List ℕ → Type 0
HasStopped fault text = (fault ≡ faults.Mem) ⊎ ((f : TextFault) × (fault ≡ faults.Text f) × (steps nothing_reached text ≡ Err f))

stays_stopped : (text more : List ℕ) (f : TextFault) → steps nothing_reached text ≡ Err f → steps nothing_reached (text ++ more) ≡ Err f
stays_stopped text more f h = steps-append nothing_reached text more ∙ ap (λ x. x >>= λ s. steps s more) h

-- a fault that was kept
pub kept_stopped : (reader : QasmFeeding) (fault : QasmFault) (text piece : List ℕ) → refused fault ≡ reader.progress → StandsForText reader text → HasStopped fault (text ++ piece)
unfolding HasStopped
kept_stopped reader fault text piece kept stood = grind (arith, gave-refused, stays_stopped)

pub kept_at_end : (reader : QasmFeeding) (fault : QasmFault) (text : List ℕ) → refused fault ≡ reader.progress → StandsForText reader text → HasStopped fault text
unfolding HasStopped
kept_at_end reader fault text kept stood = inr (gave-refused (steps nothing_reached text) fault (kept ∙ stood.progress))

pub read_so_far : (reader : QasmFeeding) (r : Reached) (text : List ℕ) → reading r ≡ reader.progress → StandsForText reader text → steps nothing_reached text ≡ Ok r
read_so_far reader r text is stood = gave-reading (steps nothing_reached text) r (is ∙ stood.progress)

pub took_stopped : (r new : Reached) (fault : QasmFault) (text piece : List ℕ) → steps nothing_reached text ≡ Ok r → Reaches {X = Unit {0}} (Err fault) new (steps r piece) → HasStopped fault (text ++ piece)
unfolding HasStopped
took_stopped r new (faults.Text f) text piece is stops = inr (f, refl, steps-append nothing_reached text piece ∙ ap (λ x. x >>= λ s. steps s piece) is ∙ stops)
took_stopped r new faults.Mem text piece is stops = inl refl

pub took_on : (r new : Reached) (text piece : List ℕ) → steps nothing_reached text ≡ Ok r → steps r piece ≡ Ok new → steps nothing_reached (text ++ piece) ≡ Ok new
took_on r new text piece is more = steps-append nothing_reached text piece ∙ ap (λ x. x >>= λ s. steps s piece) is ∙ more

pub first_taken : (new : Reached) (text : List ℕ) → steps nothing_reached text ≡ Ok new → Answers faults.Mem (Ok tt) (checked faults.Text (ended_statements_read text))
first_taken new text is = inr (sym (ap (checked faults.Text) is) ∙ checked_steps text)

pub first_stopped : (fault : QasmFault) (text : List ℕ) → HasStopped fault text → Answers faults.Mem (Err fault) (checked faults.Text (ended_statements_read text))
unfolding HasStopped
first_stopped fault text (inl mem) = inl (ap Err mem)
first_stopped fault text (inr (f, is, found)) = inr (ap Err is ∙ sym (ap (checked faults.Text) found) ∙ checked_steps text)

pub holds_stopped : (fault : QasmFault) (text : List ℕ) → HasStopped fault text → (fault ≡ faults.Mem) ⊎ ((more : List ℕ) → qasm_of (text ++ more) ≡ Err fault)
unfolding HasStopped whole
holds_stopped fault text (inl mem) = inl mem
holds_stopped fault text (inr (f, is, found)) = inr (λ more. sym (whole_denotes (text ++ more)) ∙ ap whole (stays_stopped text more f found) ∙ ap Err (sym is))

pub end_stopped : (fault : QasmFault) (text : List ℕ) → HasStopped fault text → Answers faults.Mem (Err fault) (qasm_of text)
unfolding HasStopped whole
end_stopped fault text (inl mem) = inl (ap Err mem)
end_stopped fault text (inr (f, is, found)) = inr (ap Err is ∙ sym (ap whole found) ∙ whole_denotes text)

pub end_given : (r : Reached) (text : List ℕ) (result : Result Listing QasmFault) → steps nothing_reached text ≡ Ok r → Answers faults.Mem result (end_of r) → Answers faults.Mem result (qasm_of text)
unfolding whole
end_given r text result is answered = subst (Answers faults.Mem result) (sym (ap whole is) ∙ whole_denotes text) answered

-- the end, by the refusal that is kept, if there is one
pub end_kept : (reader : QasmFeeding) (kept : Option QasmFault) (r : Reached) (text : List ℕ) (result : Result Listing QasmFault) → progress_kept kept r ≡ reader.progress → StandsForText reader text
    → ((fault : QasmFault) → kept ≡ Some fault → result ≡ Err fault) → (kept ≡ None → Answers faults.Mem result (end_of r)) → Answers faults.Mem result (qasm_of text)
end_kept reader (Some fault) r text result is stood told ended =
    subst (λ answer. Answers faults.Mem answer (qasm_of text)) (sym (told fault refl)) (end_stopped fault text (kept_at_end reader fault text is stood))
end_kept reader None r text result is stood told ended = end_given r text result (read_so_far reader r text is stood) (ended refl)

pub kept_refusal : (kept : Option QasmFault) (r : Reached) (fault : QasmFault) → refusal_in (progress_kept kept r) ≡ Some fault → kept ≡ Some fault
kept_refusal kept r fault h = grind arith
