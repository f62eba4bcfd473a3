-- A text that is found does not change the end.
use Rattle.std.proofs.Common.{◌≡◌, ℕ, Bool, false, List, [], Option, Some, None, Result, Ok, Err, refl}
use Rattle.rv_reader.specs.Rules.{◌>>=◌}
use Rattle.rv_faults.specs.declared.fault.Refusal.{Refusal}
use Rattle.rv_faults.specs.declared.fault.Unmade.{Unmade}
use Rattle.rv_inputs.specs.Contents.{Contents, text_at, texts_of}
use Rattle.rv_inputs.specs.Formats.{at_input}
use Rattle.rv_cmd.specs.Limits.{Limit, Report, first_refused, found_within, report_unless, within}
use Rattle.rv_cmd.specs.Row.{End, ReadsFirst, Row, answers_as_it_reads, as_report, as_unmade, end_of, ended, finds, none, one, outcome, reads_first, report_by, tells, two}

abbrev made_end : Result Report Refusal → End
made_end made = (ended (as_report (as_unmade made))).end

within-found : (limits : List Limit) (differs : Bool) (found : List ℕ) → made_end (within (found_within limits found) differs) ≡ made_end (within (found_within limits []) differs)
within-found limits differs found = by (first_refused limits)
  where
    by : (refused : Option Refusal)
        → made_end (report_unless refused (record { text = found; differs = differs })) ≡ made_end (report_unless refused (record { text = []; differs = differs }))
    by None = refl
    by (Some refused) = refl

report-found : (row : ReadsFirst) (found : List ℕ) (texts : List (List ℕ)) → made_end (report_by row found texts) ≡ made_end (report_by row [] texts)
report-found (none text Means) found texts = refl
report-found (one format report Means) found texts = refl
report-found (two first second report differs Lacks Means) found texts = refl
report-found (tells {X = X} {Y = Y} first second limits differs Lacks Means) found texts = by (at_input 0 (first (text_at texts 0))) (at_input 1 (second (text_at texts 1)))
  where
    by : (read : Result X Refusal) (other : Result Y Refusal)
        → made_end (read >>= λ x. (other >>= λ y. within (found_within (limits x y) found) (differs x y)))
        ≡ made_end (read >>= λ x. (other >>= λ y. within (found_within (limits x y) []) (differs x y)))
    by (Ok x) (Ok y) = within-found (limits x y) (differs x y) found
    by (Ok x) (Err refused) = refl
    by (Err refused) other = refl
report-found (finds {X = X} format limits Lacks Means) found texts = by (at_input 0 (format (text_at texts 0)))
  where
    by : (read : Result X Refusal) → made_end (read >>= λ x. within (found_within (limits x) found) false) ≡ made_end (read >>= λ x. within (found_within (limits x) []) false)
    by (Ok x) = within-found (limits x) false found
    by (Err refused) = refl

pub end-found : (row : Row) (found : List ℕ) (contents : Contents) → (outcome row found contents).end ≡ end_of row contents
end-found (answers_as_it_reads row) found contents = refl
end-found (reads_first row) found contents = by (texts_of contents)
  where
    by : (read : Result (List (List ℕ)) Unmade)
        → (ended (as_report (read >>= λ texts. as_unmade (report_by row found texts)))).end ≡ (ended (as_report (read >>= λ texts. as_unmade (report_by row [] texts)))).end
    by (Ok texts) = report-found row found texts
    by (Err unmade) = refl
