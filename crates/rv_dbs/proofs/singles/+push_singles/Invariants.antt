use Rattle.rv_dbs.proofs.singles.+push_singles.Given as goal

abbrev pub decreases-push_singles : goal.decreases-push_singles
decreases-push_singles l = l.k
