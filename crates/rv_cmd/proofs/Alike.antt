-- No report but those of `check` and `compare` says that two inputs differ, so that no other command ends with status 1.
use Rattle.std.proofs.Common.{◌≡◌, ℕ, Bool, true, false, nat_lt, if◌then◌else◌, length, List, Option, Some, None, Result, Ok, Err, refl, ap, subst, inl, inr}
use Rattle.std.proofs.lemmas.Bool.{true≢false}
use Rattle.rv_gate.specs.Circuit.{Cascade}
use Rattle.rv_text.specs.declared.lines.TheConstants.{MOST_BYTES}
use Rattle.rv_reader.specs.Rules.{◌>>=◌}
use Rattle.rv_words.specs.declared.asked.Settings.{Settings}
use Rattle.rv_words.specs.declared.command.Command.{Command}
use Rattle.rv_words.specs.declared.command.Command.TheVariants as command
use Rattle.rv_words.specs.declared.command.Blocks.{Blocks}
use Rattle.rv_words.specs.declared.command.Blocks.TheVariants as blocks
use Rattle.rv_words.specs.declared.command.Form.{Form}
use Rattle.rv_words.specs.declared.command.ReportForm.{ReportForm}
use Rattle.rv_words.specs.declared.command.PictureForm.{PictureForm}
use Rattle.rv_words.specs.declared.command.Goal.{Goal}
use Rattle.rv_price.specs.declared.goal.Goal as search
use Rattle.rv_words.specs.declared.command.Form.TheVariants as form
use Rattle.rv_mct.specs.declared.aux.Aux.{Aux}
use Rattle.rv_flow.specs.declared.synthesis.Synthesis.{Synthesis}
use Rattle.rv_faults.specs.declared.fault.Fault.TheVariants.{TooLong}
use Rattle.rv_faults.specs.declared.fault.Refusal.{Refusal}
use Rattle.rv_faults.specs.declared.fault.Unmade.{Unmade}
use Rattle.rv_inputs.specs.Contents.{Contents, content_at, content_or_fault, text_at, texts_of}
use Rattle.rv_inputs.specs.Formats.{at_input, circuit}
use Rattle.rv_cmd.specs.Commands.{row_for, row_of}
use Rattle.rv_cmd.specs.Commands.Cost.{cost_row}
use Rattle.rv_cmd.specs.Commands.Draw.{draw_row}
use Rattle.rv_cmd.specs.Commands.Esop.{esop_row}
use Rattle.rv_cmd.specs.Commands.Flow.{flow_row, flow_synthesis}
use Rattle.rv_cmd.specs.Commands.Map.{map_row}
use Rattle.rv_cmd.specs.Commands.Compute.{compute_row}
use Rattle.rv_cmd.specs.Commands.Realize.{realize_row}
use Rattle.rv_cmd.specs.Goals.{search_goal}
use Rattle.rv_cmd.specs.Commands.Reduce.{reduce_row}
use Rattle.rv_cmd.specs.Commands.Simulate.{answered_by, simulated, words_end}
use Rattle.rv_cmd.specs.Commands.Templates.{templates_row}
use Rattle.rv_cmd.specs.Limits.{LimitedText, Report, first_refused, found_within, report_unless, within}
use Rattle.rv_cmd.specs.Headline.{Compares, Performs, Scene}
use Rattle.rv_cmd.specs.Row.{End, ReadsFirst, Row, answers_as_it_reads, as_report, as_unmade, ended, finds, none, one, outcome, reads_first, report_by, tells, two}

abbrev pub IsAlike : End → Type 0
IsAlike (Ok differs) = differs ≡ false
IsAlike (Err fault) = Unit {0}

-- ---- commands that read their inputs first

-- the row has no report that says that two inputs differ
abbrev NeverDiffers : ReadsFirst → Type 0
NeverDiffers (none text Means) = Unit {0}
NeverDiffers (one format report Means) = Unit {0}
NeverDiffers (finds format limits Lacks Means) = Unit {0}
NeverDiffers (tells {X = X} {Y = Y} first second limits differs Lacks Means) = (x : X) (y : Y) → differs x y ≡ false
NeverDiffers (two {X = X} {Y = Y} first second report differs Lacks Means) = (x : X) (y : Y) → differs x y ≡ false

abbrev made_end : Result Report Refusal → End
made_end made = (ended (as_report (as_unmade made))).end

within-alike : (limited : LimitedText) (differs : Bool) → differs ≡ false → IsAlike (made_end (within limited differs))
within-alike limited differs alike = by (first_refused limited.limits)
  where
    by : (refused : Option Refusal) → IsAlike (made_end (report_unless refused (record { text = limited.text; differs = differs })))
    by None = alike
    by (Some refused) = tt

read-alike : {X : Type 0} (read : Result X Refusal) (next : X → Result Report Refusal) → ((x : X) → IsAlike (made_end (next x)))
    → IsAlike (made_end (read >>= next))
read-alike (Ok x) next each = each x
read-alike (Err refused) next each = tt

made-alike : (row : ReadsFirst) → NeverDiffers row → (found : List ℕ) (texts : List (List ℕ)) → IsAlike (made_end (report_by row found texts))
made-alike (none text Means) never found texts = refl
made-alike (one format report Means) never found texts = read-alike (at_input 0 (format (text_at texts 0))) _ (λ x. within-alike (report x) false refl)
made-alike (two first second report differs Lacks Means) never found texts =
    read-alike (at_input 0 (first (text_at texts 0))) _ (λ x.
    read-alike (at_input 1 (second (text_at texts 1))) _ (λ y. within-alike (report x y) (differs x y) (never x y)))
made-alike (tells first second limits differs Lacks Means) never found texts =
    read-alike (at_input 0 (first (text_at texts 0))) _ (λ x.
    read-alike (at_input 1 (second (text_at texts 1))) _ (λ y. within-alike (found_within (limits x y) found) (differs x y) (never x y)))
made-alike (finds format limits Lacks Means) never found texts =
    read-alike (at_input 0 (format (text_at texts 0))) _ (λ x. within-alike (found_within (limits x) found) false refl)

first-alike : (row : ReadsFirst) → NeverDiffers row → (found : List ℕ) (contents : Contents) → IsAlike (outcome (reads_first row) found contents).end
first-alike row never found contents = by (texts_of contents)
  where
    by : (read : Result (List (List ℕ)) Unmade) → IsAlike (ended (as_report (read >>= λ texts. as_unmade (report_by row found texts)))).end
    by (Ok texts) = made-alike row never found texts
    by (Err unmade) = tt

templates_alike : (library : Option (List ℕ)) → NeverDiffers (templates_row library)
templates_alike None = tt
templates_alike (Some name) = λ c given. refl

map_alike : (by : Blocks) (aux : Aux) → NeverDiffers (map_row by aux)
map_alike blocks.Joined aux = tt
map_alike _ aux = tt

reduce_alike : (goal : Option Goal) → NeverDiffers (reduce_row goal)
reduce_alike None = tt
reduce_alike (Some goal) = tt

cost_alike : (origin : Form) (how : ReportForm) → NeverDiffers (cost_row origin how)
cost_alike form.Qasm how = tt
cost_alike _ how = tt

flow_alike : (origin : Form) (method : Synthesis) (simplify : Bool) (by : Blocks) (aux : Aux) → NeverDiffers (flow_row origin method simplify by aux)
flow_alike form.Perm method simplify blocks.Joined aux = tt
flow_alike _ method simplify blocks.Joined aux = tt
flow_alike form.Perm method simplify _ aux = tt
flow_alike _ method simplify _ aux = tt

realize_alike : (origin : Form) (curve : Bool) (asked : search.Goal) (seed most : ℕ) → NeverDiffers (realize_row origin curve asked seed most)
realize_alike form.Perm curve asked seed most = tt
realize_alike _ true asked seed most = tt
realize_alike _ false asked seed most = tt

compute_alike : (curve : Bool) (asked : search.Goal) (effort seed most : ℕ) → NeverDiffers (compute_row curve asked effort seed most)
compute_alike true asked effort seed most = tt
compute_alike false asked effort seed most = tt

-- ---- `simulate`

words_alike : (wrong : Option ℕ) (text : List ℕ) → IsAlike (words_end wrong text)
words_alike (Some line) text = tt
words_alike None text = ends (nat_lt MOST_BYTES (length text))
  where
    ends : (is_long : Bool) → IsAlike (if is_long then Err (TooLong 1) else Ok false)
    ends true = tt
    ends false = refl

answers_alike : (all : Bool) (words : Option (List ℕ)) (c : Result Cascade Unmade) → IsAlike (answered_by all words c).end
answers_alike all words (Err unmade) = tt
answers_alike all None (Ok c) = tt
answers_alike all (Some text) (Ok c) = words_alike _ text

simulate_alike : (all : Bool) (contents : Contents) → IsAlike (simulated all contents).end
simulate_alike all contents =
    answers_alike all (content_at contents 1) (content_or_fault 0 (content_at contents 0) >>= λ text. as_unmade (at_input 0 (circuit text)))

-- ---- each command

esop_alike : (to : Form) (goal : Option Goal) → NeverDiffers (esop_row to goal)
esop_alike to None = tt
esop_alike to (Some goal) = tt

draw_alike : (origin : Form) (picture : PictureForm) (wrap : ℕ) → NeverDiffers (draw_row origin picture wrap)
draw_alike form.Qasm picture wrap = tt
draw_alike _ picture wrap = tt

abbrev IsAlikeRow : Row → Type 0
IsAlikeRow (reads_first row) = NeverDiffers row
IsAlikeRow (answers_as_it_reads row) = (contents : Contents) → IsAlike (row.outcome_by contents).end

rows_alike : (doing : Command) (settings : Settings) → ¬ Compares doing → IsAlikeRow (row_for doing settings)
rows_alike command.Check settings other = absurd (other (inl refl))
rows_alike command.Compare settings other = absurd (other (inr refl))
rows_alike command.Simulate settings other = simulate_alike settings.all
rows_alike command.Templates settings other = templates_alike settings.library
rows_alike command.Map settings other = map_alike settings.blocks settings.aux
rows_alike command.Reduce settings other = reduce_alike settings.goal
rows_alike command.Cost settings other = cost_alike settings.origin settings.report
rows_alike command.Draw settings other = draw_alike settings.origin settings.picture settings.wrap
rows_alike command.Esop settings other = esop_alike settings.to settings.goal
rows_alike command.Flow settings other = flow_alike settings.origin (flow_synthesis settings.method) settings.simplify settings.blocks settings.aux
rows_alike command.Realize settings other = realize_alike settings.origin settings.curve (search_goal settings.goal) settings.seed settings.lines
rows_alike command.Compute settings other = compute_alike settings.curve (search_goal settings.goal) settings.effort settings.seed settings.lines
rows_alike _ settings other = tt

row-alike : (row : Row) → IsAlikeRow row → (found : List ℕ) (contents : Contents) → IsAlike (outcome row found contents).end
row-alike (reads_first row) alike found contents = first-alike row alike found contents
row-alike (answers_as_it_reads row) alike found contents = alike contents

pub commands_alike : (doing : Command) (settings : Settings) (found : List ℕ) (contents : Contents) → ¬ Compares doing
    → IsAlike (outcome (row_for doing settings) found contents).end
commands_alike doing settings found contents other = row-alike (row_for doing settings) (rows_alike doing settings other) found contents

-- a report that says so
true-compared : (doing : Command) (settings : Settings) (found : List ℕ) (contents : Contents) → (outcome (row_for doing settings) found contents).end ≡ Ok true → Compares doing
true-compared command.Check settings found contents is = inl refl
true-compared command.Compare settings found contents is = inr refl
true-compared doing settings found contents is =
    let alike : true ≡ false = subst IsAlike is (commands_alike doing settings found contents (λ h. elim h [ inl check ↦ let z = check in cc | inr compare ↦ let z = compare in cc ])) in
    absurd (true≢false alike)

pub differs-compared : (settings : Settings) (names : List (List ℕ)) (old new : Scene) → Performs (row_of settings) names old new (Ok true) → Compares settings.command
differs-compared settings names old new performs = true-compared settings.command settings performs.ends.writes.text performs.contents (ap (λ o. o.end) performs.ends.asked)
