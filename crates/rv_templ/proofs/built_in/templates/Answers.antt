use Rattle.rv_templ.proofs.BuiltInLaws.{crossed_0_0, crossed_0_1, crossed_0_2, crossed_1_0, crossed_1_1, crossed_2_0}
use Rattle.rv_templ.proofs.built_in.templates.Goals as goal

pub crossed-requires : goal.crossed-requires
crossed-requires c = crossed_0_0.good

pub crossed-requires-2 : goal.crossed-requires-2
crossed-requires-2 c = crossed_0_1.good

pub crossed-requires-3 : goal.crossed-requires-3
crossed-requires-3 c = crossed_0_2.good

pub crossed-requires-4 : goal.crossed-requires-4
crossed-requires-4 c = crossed_1_0.good

pub crossed-requires-5 : goal.crossed-requires-5
crossed-requires-5 c = crossed_1_1.good

pub crossed-requires-6 : goal.crossed-requires-6
crossed-requires-6 c = crossed_2_0.good
