-- What tables of arguments ask for.
use Rattle.std.proofs.Common.{◌≡◌, [], ◌∷◌, Err, None, Some, refl, codes}
use Rattle.clap.proofs.OnLiterals.{clap_on_literals}
use Rattle.rv_words.specs.declared.command.Command.TheVariants.{Synth, Embed, Esop, Decompose, Map, Simulate, Demo, Fold, Check, Single, Route, Compute, Realize, Resynth}
use Rattle.rv_words.specs.declared.fault.ArgumentFault.TheVariants.{NotUnderstood, UnknownCommand, NotUsed, BadValue, InputCount, TwiceStandard}
use Rattle.rv_words.specs.declared.options.TheConstants.{METHOD, TO, FROM, AUX, LINES, SEED, ALL, GOAL, EFFORT, BLOCKS, AS, GATES, CURVE, CONSTANTS}
use Rattle.rv_words.specs.Line.{value_of, line, refusal}
use Rattle.rv_words.specs.Values.{number_in, values_in}
use Rattle.rv_words.specs.Settings.{read, read_by, settings_of}

unused : settings_of (codes "synth" ∷ codes "--aux" ∷ codes "clean" ∷ []) ≡ Err (NotUsed Synth AUX)
unfolding settings_of read read_by values_in refusal value_of line clap_on_literals
unused = refl

unknown : settings_of (codes "sort" ∷ []) ≡ Err (UnknownCommand (codes "sort"))
unfolding settings_of read read_by values_in refusal value_of line clap_on_literals
unknown = refl

bad : settings_of (codes "esop" ∷ codes "--to" ∷ codes "qasm" ∷ []) ≡ Err (BadValue TO)
unfolding settings_of read read_by values_in refusal value_of line clap_on_literals
bad = refl

neither : settings_of (codes "decompose" ∷ codes "--aux" ∷ codes "dirty" ∷ []) ≡ Err (BadValue AUX)
unfolding settings_of read read_by values_in refusal value_of line clap_on_literals
neither = refl

unused_for_gates : settings_of (codes "decompose" ∷ codes "--method" ∷ codes "out" ∷ []) ≡ Err (NotUsed Decompose METHOD)
unfolding settings_of read read_by values_in refusal value_of line clap_on_literals
unused_for_gates = refl

unused_for_networks : settings_of (codes "map" ∷ codes "--to" ∷ codes "qasm" ∷ []) ≡ Err (NotUsed Map TO)
unfolding settings_of read read_by values_in refusal value_of line clap_on_literals
unused_for_networks = refl

two_circuits : settings_of (codes "map" ∷ codes "c" ∷ codes "d" ∷ []) ≡ Err (InputCount Map)
unfolding settings_of read read_by values_in refusal value_of line clap_on_literals
two_circuits = refl

count : settings_of (codes "embed" ∷ codes "f" ∷ codes "g" ∷ []) ≡ Err (InputCount Embed)
unfolding settings_of read read_by values_in refusal value_of line clap_on_literals
count = refl

twice : settings_of (codes "simulate" ∷ codes "-" ∷ []) ≡ Err TwiceStandard
unfolding settings_of read read_by values_in refusal value_of line clap_on_literals
twice = refl

no_arguments : settings_of ([]) ≡ Err NotUnderstood
unfolding settings_of read read_by values_in refusal value_of line clap_on_literals
no_arguments = refl

nope : settings_of (codes "synth" ∷ codes "--nope" ∷ []) ≡ Err NotUnderstood
unfolding settings_of read read_by values_in refusal value_of line clap_on_literals
nope = refl

no_value : settings_of (codes "synth" ∷ codes "--method" ∷ []) ≡ Err NotUnderstood
unfolding settings_of read read_by values_in refusal value_of line clap_on_literals
no_value = refl

again : settings_of (codes "synth" ∷ codes "--method" ∷ codes "out" ∷ codes "--method" ∷ codes "out" ∷ []) ≡ Err NotUnderstood
unfolding settings_of read read_by values_in refusal value_of line clap_on_literals
again = refl

three : settings_of (codes "synth" ∷ codes "a" ∷ codes "b" ∷ codes "c" ∷ []) ≡ Err NotUnderstood
unfolding settings_of read read_by values_in refusal value_of line clap_on_literals
three = refl

help : settings_of (codes "--help" ∷ []) ≡ Err NotUnderstood
unfolding settings_of read read_by values_in refusal value_of line clap_on_literals
help = refl

no_circuit : settings_of (codes "simulate" ∷ []) ≡ Err (InputCount Simulate)
unfolding settings_of read read_by values_in refusal value_of line clap_on_literals
no_circuit = refl

least_place : settings_of (codes "synth" ∷ codes "--seed" ∷ codes "x" ∷ codes "--to" ∷ codes "x" ∷ []) ≡ Err (NotUsed Synth TO)
unfolding settings_of read read_by values_in refusal value_of line clap_on_literals
least_place = refl

unused_before_bad : settings_of (codes "synth" ∷ codes "--method" ∷ codes "x" ∷ codes "--aux" ∷ codes "x" ∷ []) ≡ Err (NotUsed Synth AUX)
unfolding settings_of read read_by values_in refusal value_of line clap_on_literals
unused_before_bad = refl

bad_before_count : settings_of (codes "synth" ∷ codes "--method=" ∷ codes "f" ∷ codes "g" ∷ []) ≡ Err (BadValue METHOD)
unfolding settings_of read read_by values_in refusal value_of line clap_on_literals
bad_before_count = refl

circuits_for_flow : settings_of (codes "flow" ∷ codes "--from" ∷ codes "real" ∷ []) ≡ Err (BadValue FROM)
unfolding settings_of read read_by values_in refusal value_of line clap_on_literals
circuits_for_flow = refl

tables_for_cost : settings_of (codes "cost" ∷ codes "--from" ∷ codes "pla" ∷ []) ≡ Err (BadValue FROM)
unfolding settings_of read read_by values_in refusal value_of line clap_on_literals
tables_for_cost = refl

networks_for_compare : settings_of (codes "compare" ∷ codes "c" ∷ codes "n" ∷ codes "--from" ∷ codes "qasm" ∷ []) ≡ Err (BadValue FROM)
unfolding settings_of read read_by values_in refusal value_of line clap_on_literals
networks_for_compare = refl

all_for_check : settings_of (codes "check" ∷ codes "c" ∷ codes "n" ∷ codes "--all" ∷ []) ≡ Err (NotUsed Check ALL)
unfolding settings_of read read_by values_in refusal value_of line clap_on_literals
all_for_check = refl

wide_demo : settings_of (codes "demo" ∷ codes "--lines" ∷ codes "9" ∷ []) ≡ Err (BadValue LINES)
unfolding settings_of read read_by values_in refusal value_of line clap_on_literals
wide_demo = refl

wide_circuit : settings_of (codes "compute" ∷ codes "--lines" ∷ codes "65" ∷ []) ≡ Err (BadValue LINES)
unfolding settings_of read read_by values_in refusal value_of line clap_on_literals
wide_circuit = refl

single_for_synth : settings_of (codes "synth" ∷ codes "--method" ∷ codes "single" ∷ []) ≡ Err (BadValue METHOD)
unfolding settings_of read read_by values_in refusal value_of line clap_on_literals
single_for_synth = refl

demo_of_input : settings_of (codes "demo" ∷ codes "f" ∷ []) ≡ Err (InputCount Demo)
unfolding settings_of read read_by values_in refusal value_of line clap_on_literals
demo_of_input = refl

two_networks : settings_of (codes "fold" ∷ codes "n" ∷ codes "m" ∷ []) ≡ Err (InputCount Fold)
unfolding settings_of read read_by values_in refusal value_of line clap_on_literals
two_networks = refl

unused_for_single_targets : settings_of (codes "single" ∷ codes "--method" ∷ codes "out" ∷ []) ≡ Err (NotUsed Single METHOD)
unfolding settings_of read read_by values_in refusal value_of line clap_on_literals
unused_for_single_targets = refl

unused_for_neighbours : settings_of (codes "route" ∷ codes "--aux" ∷ codes "clean" ∷ []) ≡ Err (NotUsed Route AUX)
unfolding settings_of read read_by values_in refusal value_of line clap_on_literals
unused_for_neighbours = refl

effort_without_goal : settings_of (codes "esop" ∷ codes "--effort" ∷ codes "3" ∷ []) ≡ Err (NotUsed Esop EFFORT)
unfolding settings_of read read_by values_in refusal value_of line clap_on_literals
effort_without_goal = refl

seed_without_goal : settings_of (codes "esop" ∷ codes "--seed" ∷ codes "3" ∷ []) ≡ Err (NotUsed Esop SEED)
unfolding settings_of read read_by values_in refusal value_of line clap_on_literals
seed_without_goal = refl

effort_with_goal : settings_of (codes "esop" ∷ codes "--goal" ∷ codes "t" ∷ codes "--effort" ∷ codes "1001" ∷ []) ≡ Err (BadValue EFFORT)
unfolding settings_of read read_by values_in refusal value_of line clap_on_literals
effort_with_goal = refl

cubes_of_circuits : settings_of (codes "resynth" ∷ codes "--goal" ∷ codes "cubes" ∷ []) ≡ Err (BadValue GOAL)
unfolding settings_of read read_by values_in refusal value_of line clap_on_literals
cubes_of_circuits = refl

unknown_blocks : settings_of (codes "map" ∷ codes "--blocks" ∷ codes "phase" ∷ []) ≡ Err (BadValue BLOCKS)
unfolding settings_of read read_by values_in refusal value_of line clap_on_literals
unknown_blocks = refl

unknown_picture : settings_of (codes "draw" ∷ codes "--as" ∷ codes "pdf" ∷ []) ≡ Err (BadValue AS)
unfolding settings_of read read_by values_in refusal value_of line clap_on_literals
unknown_picture = refl

cubes_of_networks : settings_of (codes "compute" ∷ codes "--goal" ∷ codes "cubes" ∷ []) ≡ Err (BadValue GOAL)
unfolding settings_of read read_by values_in refusal value_of line clap_on_literals
cubes_of_networks = refl

networks_for_realize : settings_of (codes "realize" ∷ codes "--from" ∷ codes "blif" ∷ []) ≡ Err (BadValue FROM)
unfolding settings_of read read_by values_in refusal value_of line clap_on_literals
networks_for_realize = refl

curve_of_permutations : settings_of (codes "realize" ∷ codes "--curve" ∷ codes "--from" ∷ codes "perm" ∷ []) ≡ Err (NotUsed Realize CURVE)
unfolding settings_of read read_by values_in refusal value_of line clap_on_literals
curve_of_permutations = refl

curve_of_circuits : settings_of (codes "resynth" ∷ codes "--curve" ∷ []) ≡ Err (NotUsed Resynth CURVE)
unfolding settings_of read read_by values_in refusal value_of line clap_on_literals
curve_of_circuits = refl

constants_by_words : settings_of (codes "check" ∷ codes "--constants" ∷ codes "a.real" ∷ []) ≡ Err (NotUsed Check CONSTANTS)
unfolding settings_of read read_by values_in refusal value_of line clap_on_literals
constants_by_words = refl

constants_of_networks : settings_of
    (codes "check" ∷ codes "--by" ∷ codes "paths" ∷ codes "--from" ∷ codes "qasm" ∷ codes "--constants" ∷ codes "a.qasm" ∷ []) ≡ Err (NotUsed Check CONSTANTS)
unfolding settings_of read read_by values_in refusal value_of line clap_on_literals
constants_of_networks = refl

unknown_gates : settings_of (codes "optimal" ∷ codes "--gates" ∷ codes "ncv" ∷ []) ≡ Err (BadValue GATES)
unfolding settings_of read read_by values_in refusal value_of line clap_on_literals
unknown_gates = refl

-- ---- numbers

six_digits : number_in 1 8 (codes "000004") ≡ None
six_digits = refl

plus : number_in 1 8 (codes "+4") ≡ None
plus = refl

leading_zeros : number_in 1 8 (codes "00004") ≡ Some 4
leading_zeros = refl

above : number_in 0 65535 (codes "65536") ≡ None
above = refl
